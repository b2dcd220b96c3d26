use borrow.Author.Rules.{sfits_of}
use Rattle.rule_stores.proofs.Ways.{passes-is}
use Rattle.rule_stores.proofs.cell_passes.Goals as goal

pub returns : goal.returns
returns c = search (passes-is, sfits_of)
