use Rattle.rule_stores.proofs.Testing.{Passed}
use Rattle.rule_stores.proofs.store_fault.Given as goal

abbrev pub invariant-loop-c : goal.invariant-loop-c
invariant-loop-c l = Passed l.work l.types l.st l.values l.marks l.c
