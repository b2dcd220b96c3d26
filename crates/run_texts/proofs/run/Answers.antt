use Rattle.run_texts.proofs.RunWays.{run-told}
use Rattle.rule_texts.proofs.Texts.{part-laws, verdict-clears}
use Rattle.run_texts.proofs.run.Goals as goal

pub slice_bounds-check-end-2 : goal.slice_bounds-check-end-2
slice_bounds-check-end-2 c = search part-laws

pub slice_bounds-run_checked-end-2 : goal.slice_bounds-run_checked-end-2
slice_bounds-run_checked-end-2 c = search part-laws

pub returns : goal.returns
returns c = (search run-told, search verdict-clears)
