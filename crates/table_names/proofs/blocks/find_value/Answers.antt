use native.Mathlib.Omega.{arith}
use borrow.Author.Rules.{rules}
use Rattle.table_names.proofs.Ordering.{halving-after, halving-before, halving_laws, halving-start, middle-next, value-fits, value-times}
use Rattle.table_names.proofs.blocks.find_value.Goals as goal

pub loop-left-init : goal.loop-left-init
loop-left-init c = halving-start _ _ _ _ _ _ _ (search rules)

pub returns-then-low-high : goal.returns-then-low-high
returns-then-low-high c = search halving_laws

pub returns-then-i-n : goal.returns-then-i-n
returns-then-i-n c = search halving_laws

pub overflow_mul-e : goal.overflow_mul-e
overflow_mul-e c = search (middle-next, value-times, value-fits, rules)

pub overflow_add-e : goal.overflow_add-e
overflow_add-e c = search (middle-next, value-times, value-fits, rules)

pub overflow_add-low : goal.overflow_add-low
overflow_add-low c = search (middle-next, value-times, value-fits, rules)

pub loop-left-smaller-in-Less : goal.loop-left-smaller-in-Less
loop-left-smaller-in-Less c = omega arith

pub loop-left-preserved-in-Less : goal.loop-left-preserved-in-Less
loop-left-preserved-in-Less c = search halving-before

pub returns-in-Equal : goal.returns-in-Equal
returns-in-Equal c = search halving_laws

pub loop-left-preserved : goal.loop-left-preserved
loop-left-preserved c = search halving-after

pub returns : goal.returns
returns c = search halving_laws
