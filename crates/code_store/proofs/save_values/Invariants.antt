use Rattle.code_store.specs.Lending.{SavesValues}
use Rattle.code_store.proofs.save_values.Given as goal

abbrev pub invariant-loop-i : goal.invariant-loop-i
invariant-loop-i l = SavesValues l.store l.initial.values l.i l.values
