-- The answer for a line, as the code makes it from that for its parts.
use Rattle.std.specs.Prelude.{Bool, false, cond, ℕ, ◌+◌, ◌%◌, eqb, leb, Result, Ok, Err}
use Rattle.rule_faults.specs.declared.Fault.{Fault}
use Rattle.rule_faults.specs.declared.Fault.TheVariants.{Clear, Kind, Name, Form}
use Rattle.rule_declarations.specs.declared.Lined.{Lined}
use Rattle.rule_known.specs.declared.Known.{Known}
use Rattle.rule_known.specs.declared.Entered.{Entered}

-- the row of a fault, 0 for none
abbrev pub row_of : Fault → ℕ
row_of Clear = 0
row_of Kind = 8
row_of Name = 7
row_of Form = 6

-- n brackets and words more are within their ceiling
unfoldable pub nodes_fit : ℕ → ℕ → Bool
nodes_fit m n = cond (leb n 4096) (leb (m + n) 4096) false

-- the counts are at most 4096 where they fit
abbrev pub known_after : Known → Entered → ℕ → Known
known_after kn g n = record { state = g.state; stmts = g.stmts; nodes = kn.nodes % 4097 + n % 4097; ended = g.ended; main = g.main }

-- what is known after the line, or the number of its refusal
unfoldable pub ninth_judgement : Known → Entered → ℕ → Result Known ℕ
ninth_judgement kn g n = cond g.within (cond (nodes_fit kn.nodes n) (Ok (known_after kn g n)) (Err 9)) (Err 9)

unfoldable pub judgement : Known → Entered → ℕ → Result Known ℕ
judgement kn g n = cond (eqb (row_of g.fault) 0) (ninth_judgement kn g n) (Err (row_of g.fault))

-- the parts of a line that declares a variable or a type
abbrev pub declared_entry : Known → Lined → Entered
declared_entry kn r = record { fault = r.fault; within = r.within; state = r.state; stmts = kn.stmts; ended = false; main = 0 }
