use Rattle.rule_texts.proofs.Texts.{part-long, verdict-laws}
use Rattle.rule_texts.proofs.verdict_of.Goals as goal

pub slice_bounds-check-end-2 : goal.slice_bounds-check-end-2
slice_bounds-check-end-2 c = search part-long

pub returns : goal.returns
returns c = (search verdict-laws, search verdict-laws)
