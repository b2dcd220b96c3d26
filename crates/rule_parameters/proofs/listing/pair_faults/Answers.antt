use borrow.Author.Rules.{rules}
use Rattle.rule_parameters.proofs.Lists.{judge-falls, judge-laws, judge-start}
use Rattle.rule_parameters.proofs.listing.pair_faults.Goals as goal

pub loop-scope-init : goal.loop-scope-init
loop-scope-init c = judge-start _ _ _ _ _ _

pub returns-then-is_form : goal.returns-then-is_form
returns-then-is_form c = search (judge-laws, rules)

pub loop-scope-smaller : goal.loop-scope-smaller
loop-scope-smaller c = search judge-falls

pub loop-scope-preserved : goal.loop-scope-preserved
loop-scope-preserved c = search (judge-laws, rules)
