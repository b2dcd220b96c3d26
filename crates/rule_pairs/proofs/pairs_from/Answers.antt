use borrow.Author.Rules.{rules}
use Rattle.rule_pairs.proofs.PairParts.{pairs-fewer, walk-laws, walk_start}
use Rattle.rule_pairs.proofs.pairs_from.Goals as goal

pub loop-scope-init : goal.loop-scope-init
loop-scope-init c = walk_start _ _ _ _ _

pub returns-then-is_form : goal.returns-then-is_form
returns-then-is_form c = search (walk-laws, rules)

pub loop-scope-smaller : goal.loop-scope-smaller
loop-scope-smaller c = search pairs-fewer

pub loop-scope-preserved : goal.loop-scope-preserved
loop-scope-preserved c = search (walk-laws, rules)
