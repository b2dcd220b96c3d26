use Rattle.law.specs.Print.{cells}
use Rattle.law_answers.specs.Written.{names_at}
use Rattle.host_writing.proofs.Writing.{Still, cells_from}
use Rattle.host_writing.proofs.rows.cell_rows.Given as goal

abbrev pub invariant-loop-i : goal.invariant-loop-i
invariant-loop-i l = Still (cells 1 (names_at l.text l.names) l.values l.marks) l.initial.out l.at (cells_from l.i l.text l.names l.values l.marks) l.out l.p
