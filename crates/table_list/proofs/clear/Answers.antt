use Rattle.std.proofs.Common.{ℕ, arith, length-take}
use Rattle.table_list.proofs.Laying.{cleared}
use Rattle.table_list.proofs.clear.Goals as goal

pub returns : goal.returns
returns c = cleared _ _ _ _ c.min-n.ensures (c.fill.ensures.after (λ y e. e)) (omega (arith, length-take {A = ℕ}))
