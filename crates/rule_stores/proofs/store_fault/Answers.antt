use borrow.Author.Rules.{sfits_of}
use borrow.Author.Rules.{rules}
use Rattle.rule_stores.proofs.Testing.{here-marks, here-values, passed_start, store_laws}
use Rattle.rule_stores.proofs.store_fault.Goals.{then-values-cells-via-then-values-cells, then-values-cells-via-else-values-cells+then-marks-cells}
use Rattle.rule_stores.proofs.store_fault.Goals as goal

pub loop-c-init : goal.loop-c-init
loop-c-init c = passed_start _ _ _ _ _

pub bounds-values-c : goal.bounds-values-c
bounds-values-c c = search (here-values, here-marks, rules)

pub bounds-marks-c : goal.bounds-marks-c
bounds-marks-c c = search (here-values, here-marks, rules)

pub loop-c-preserved : goal.loop-c-preserved
loop-c-preserved c = search (store_laws, sfits_of)

pub returns : goal.returns
returns c = search (store_laws, sfits_of)

pub returns-then-values-cells : goal.returns-then-values-cells
returns-then-values-cells c = elim c.then-values-cells.branch [
  | then-values-cells-via-then-values-cells w ↦ search (store_laws, sfits_of)
  | then-values-cells-via-else-values-cells+then-marks-cells w ↦ search (store_laws, sfits_of)
]

pub returns-then-not-cell_passes : goal.returns-then-not-cell_passes
returns-then-not-cell_passes c = search (store_laws, sfits_of)
