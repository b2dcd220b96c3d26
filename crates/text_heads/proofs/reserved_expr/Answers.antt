use Rattle.text_heads.proofs.Arms.{number-laws}
use Rattle.text_heads.proofs.reserved_expr.Goals as goal

pub returns-in-19 : goal.returns-in-19
returns-in-19 c = search number-laws

pub returns-in-20 : goal.returns-in-20
returns-in-20 c = search number-laws

pub returns-in-21 : goal.returns-in-21
returns-in-21 c = search number-laws

pub returns-in-22 : goal.returns-in-22
returns-in-22 c = search number-laws

pub returns-in-23 : goal.returns-in-23
returns-in-23 c = search number-laws

pub returns-in-24 : goal.returns-in-24
returns-in-24 c = search number-laws

pub returns-in-25 : goal.returns-in-25
returns-in-25 c = search number-laws

pub returns-in-26 : goal.returns-in-26
returns-in-26 c = search number-laws

pub returns-in-27 : goal.returns-in-27
returns-in-27 c = search number-laws

pub returns-in-28 : goal.returns-in-28
returns-in-28 c = search number-laws

pub returns-in-29 : goal.returns-in-29
returns-in-29 c = search number-laws

pub returns-in-30 : goal.returns-in-30
returns-in-30 c = search number-laws

pub returns-in-31 : goal.returns-in-31
returns-in-31 c = search number-laws

pub returns-in-32 : goal.returns-in-32
returns-in-32 c = search number-laws

pub returns-in-33 : goal.returns-in-33
returns-in-33 c = search number-laws

pub returns-in-34 : goal.returns-in-34
returns-in-34 c = search number-laws

pub returns-in-35 : goal.returns-in-35
returns-in-35 c = search number-laws

pub returns-in-36 : goal.returns-in-36
returns-in-36 c = search number-laws

pub returns-in-37 : goal.returns-in-37
returns-in-37 c = search number-laws

pub returns-in-38 : goal.returns-in-38
returns-in-38 c = search number-laws

pub returns-in-39 : goal.returns-in-39
returns-in-39 c = search number-laws

pub returns-in-40 : goal.returns-in-40
returns-in-40 c = search number-laws

pub returns-in_default : goal.returns-in_default
returns-in_default c = search number-laws
