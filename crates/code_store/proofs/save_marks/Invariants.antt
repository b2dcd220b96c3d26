use Rattle.code_store.specs.Lending.{SavesMarks}
use Rattle.code_store.proofs.save_marks.Given as goal

abbrev pub invariant-loop-i : goal.invariant-loop-i
invariant-loop-i l = SavesMarks l.store l.initial.marks l.i l.marks
