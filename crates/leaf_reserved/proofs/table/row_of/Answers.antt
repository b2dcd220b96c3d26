use Rattle.leaf_reserved.specs.Table.{reserved, operators, fixed, rows}
use Rattle.leaf_bytes.specs.Bytes.{bytes}
use Rattle.leaf_reserved.proofs.Rows.{row_laws}
use Rattle.leaf_reserved.proofs.table.row_of.Goals as goal

pub returns-in-0 : goal.returns-in-0
unfolding rows fixed reserved operators bytes
returns-in-0 c = search row_laws

pub returns-in-1 : goal.returns-in-1
unfolding rows fixed reserved operators bytes
returns-in-1 c = search row_laws

pub returns-in-2 : goal.returns-in-2
unfolding rows fixed reserved operators bytes
returns-in-2 c = search row_laws

pub returns-in-3 : goal.returns-in-3
unfolding rows fixed reserved operators bytes
returns-in-3 c = search row_laws

pub returns-in-4 : goal.returns-in-4
unfolding rows fixed reserved operators bytes
returns-in-4 c = search row_laws

pub returns-in-5 : goal.returns-in-5
unfolding rows fixed reserved operators bytes
returns-in-5 c = search row_laws

pub returns-in-6 : goal.returns-in-6
unfolding rows fixed reserved operators bytes
returns-in-6 c = search row_laws

pub returns-in-7 : goal.returns-in-7
unfolding rows fixed reserved operators bytes
returns-in-7 c = search row_laws

pub returns-in-8 : goal.returns-in-8
unfolding rows fixed reserved operators bytes
returns-in-8 c = search row_laws

pub returns-in-9 : goal.returns-in-9
unfolding rows fixed reserved operators bytes
returns-in-9 c = search row_laws

pub returns-in-10 : goal.returns-in-10
unfolding rows fixed reserved operators bytes
returns-in-10 c = search row_laws

pub returns-in-11 : goal.returns-in-11
unfolding rows fixed reserved operators bytes
returns-in-11 c = search row_laws

pub returns-in-12 : goal.returns-in-12
unfolding rows fixed reserved operators bytes
returns-in-12 c = search row_laws

pub returns-in-13 : goal.returns-in-13
unfolding rows fixed reserved operators bytes
returns-in-13 c = search row_laws

pub returns-in-14 : goal.returns-in-14
unfolding rows fixed reserved operators bytes
returns-in-14 c = search row_laws

pub returns-in-15 : goal.returns-in-15
unfolding rows fixed reserved operators bytes
returns-in-15 c = search row_laws

pub returns-in-16 : goal.returns-in-16
unfolding rows fixed reserved operators bytes
returns-in-16 c = search row_laws

pub returns-in-17 : goal.returns-in-17
unfolding rows fixed reserved operators bytes
returns-in-17 c = search row_laws

pub returns-in-18 : goal.returns-in-18
unfolding rows fixed reserved operators bytes
returns-in-18 c = search row_laws

pub returns-in-19 : goal.returns-in-19
unfolding rows fixed reserved operators bytes
returns-in-19 c = search row_laws

pub returns-in-20 : goal.returns-in-20
unfolding rows fixed reserved operators bytes
returns-in-20 c = search row_laws

pub returns-in-21 : goal.returns-in-21
unfolding rows fixed reserved operators bytes
returns-in-21 c = search row_laws

pub returns-in-22 : goal.returns-in-22
unfolding rows fixed reserved operators bytes
returns-in-22 c = search row_laws

pub returns-in-23 : goal.returns-in-23
unfolding rows fixed reserved operators bytes
returns-in-23 c = search row_laws

pub returns-in-24 : goal.returns-in-24
unfolding rows fixed reserved operators bytes
returns-in-24 c = search row_laws

pub returns-in-25 : goal.returns-in-25
unfolding rows fixed reserved operators bytes
returns-in-25 c = search row_laws

pub returns-in-26 : goal.returns-in-26
unfolding rows fixed reserved operators bytes
returns-in-26 c = search row_laws

pub returns-in-27 : goal.returns-in-27
unfolding rows fixed reserved operators bytes
returns-in-27 c = search row_laws

pub returns-in-28 : goal.returns-in-28
unfolding rows fixed reserved operators bytes
returns-in-28 c = search row_laws

pub returns-in-29 : goal.returns-in-29
unfolding rows fixed reserved operators bytes
returns-in-29 c = search row_laws

pub returns-in-30 : goal.returns-in-30
unfolding rows fixed reserved operators bytes
returns-in-30 c = search row_laws

pub returns-in-31 : goal.returns-in-31
unfolding rows fixed reserved operators bytes
returns-in-31 c = search row_laws

pub returns-in-32 : goal.returns-in-32
unfolding rows fixed reserved operators bytes
returns-in-32 c = search row_laws

pub returns-in-33 : goal.returns-in-33
unfolding rows fixed reserved operators bytes
returns-in-33 c = search row_laws

pub returns-in-34 : goal.returns-in-34
unfolding rows fixed reserved operators bytes
returns-in-34 c = search row_laws

pub returns-in-35 : goal.returns-in-35
unfolding rows fixed reserved operators bytes
returns-in-35 c = search row_laws

pub returns-in-36 : goal.returns-in-36
unfolding rows fixed reserved operators bytes
returns-in-36 c = search row_laws

pub returns-in-37 : goal.returns-in-37
unfolding rows fixed reserved operators bytes
returns-in-37 c = search row_laws

pub returns-in-38 : goal.returns-in-38
unfolding rows fixed reserved operators bytes
returns-in-38 c = search row_laws

pub returns-in-39 : goal.returns-in-39
unfolding rows fixed reserved operators bytes
returns-in-39 c = search row_laws

pub returns-in-40 : goal.returns-in-40
unfolding rows fixed reserved operators bytes
returns-in-40 c = search row_laws

pub returns-in-41 : goal.returns-in-41
unfolding rows fixed reserved operators bytes
returns-in-41 c = search row_laws

pub returns-in-42 : goal.returns-in-42
unfolding rows fixed reserved operators bytes
returns-in-42 c = search row_laws

pub returns-in-43 : goal.returns-in-43
unfolding rows fixed reserved operators bytes
returns-in-43 c = search row_laws

pub returns-in-44 : goal.returns-in-44
unfolding rows fixed reserved operators bytes
returns-in-44 c = search row_laws

pub returns-in-45 : goal.returns-in-45
unfolding rows fixed reserved operators bytes
returns-in-45 c = search row_laws

pub returns-in-46 : goal.returns-in-46
unfolding rows fixed reserved operators bytes
returns-in-46 c = search row_laws

pub returns-in-47 : goal.returns-in-47
unfolding rows fixed reserved operators bytes
returns-in-47 c = search row_laws

pub returns-in-48 : goal.returns-in-48
unfolding rows fixed reserved operators bytes
returns-in-48 c = search row_laws

pub returns-in-49 : goal.returns-in-49
unfolding rows fixed reserved operators bytes
returns-in-49 c = search row_laws

pub returns-in-50 : goal.returns-in-50
unfolding rows fixed reserved operators bytes
returns-in-50 c = search row_laws

pub returns-in-51 : goal.returns-in-51
unfolding rows fixed reserved operators bytes
returns-in-51 c = search row_laws

pub returns-in-52 : goal.returns-in-52
unfolding rows fixed reserved operators bytes
returns-in-52 c = search row_laws

pub returns-in-53 : goal.returns-in-53
unfolding rows fixed reserved operators bytes
returns-in-53 c = search row_laws

pub returns-in-54 : goal.returns-in-54
unfolding rows fixed reserved operators bytes
returns-in-54 c = search row_laws

pub returns-in-55 : goal.returns-in-55
unfolding rows fixed reserved operators bytes
returns-in-55 c = search row_laws

pub returns-in_default : goal.returns-in_default
unfolding rows fixed reserved operators bytes
returns-in_default c = search row_laws
