use Rattle.code_calc.proofs.Combining.{combine-laws}
use Rattle.code_calc.proofs.operators.combine.Goals as goal

pub returns-in-10 : goal.returns-in-10
returns-in-10 c = search combine-laws

pub returns-in-11 : goal.returns-in-11
returns-in-11 c = search combine-laws

pub returns-in-12 : goal.returns-in-12
returns-in-12 c = search combine-laws

pub returns-in-13 : goal.returns-in-13
returns-in-13 c = search combine-laws

pub returns-in-14 : goal.returns-in-14
returns-in-14 c = search combine-laws

pub returns-in-15 : goal.returns-in-15
returns-in-15 c = search combine-laws

pub returns-in-16 : goal.returns-in-16
returns-in-16 c = search combine-laws

pub returns-in-17 : goal.returns-in-17
returns-in-17 c = search combine-laws

pub returns-in-18 : goal.returns-in-18
returns-in-18 c = search combine-laws

pub returns-in-19 : goal.returns-in-19
returns-in-19 c = search combine-laws

pub returns-in-20 : goal.returns-in-20
returns-in-20 c = search combine-laws

pub returns-in-21 : goal.returns-in-21
returns-in-21 c = search combine-laws

pub returns-in-22 : goal.returns-in-22
returns-in-22 c = search combine-laws

pub returns-in-23 : goal.returns-in-23
returns-in-23 c = search combine-laws

pub returns-in-24 : goal.returns-in-24
returns-in-24 c = search combine-laws

pub returns-in-25 : goal.returns-in-25
returns-in-25 c = search combine-laws

pub returns-in-26 : goal.returns-in-26
returns-in-26 c = search combine-laws

pub returns-in-27 : goal.returns-in-27
returns-in-27 c = search combine-laws

pub returns-in-28 : goal.returns-in-28
returns-in-28 c = search combine-laws

pub returns-in_default : goal.returns-in_default
returns-in_default c = search combine-laws
