use Rattle.code_store.specs.Lending.{Loads}
use Rattle.code_store.proofs.load_words.Given as goal

abbrev pub invariant-loop-i : goal.invariant-loop-i
invariant-loop-i l = Loads l.values l.marks l.initial.store l.i l.store
