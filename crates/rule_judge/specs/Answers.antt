-- The answer for the parts of a line that has a body, as the code makes it from the body's.
use Rattle.std.specs.Prelude.{true, false, List, [], ◌∷◌, ℕ, ◌+◌, ◌*◌, ◌%◌}
use Rattle.rule_faults.specs.declared.Fault.{Fault}
use Rattle.rule_faults.specs.declared.Got.{Got}
use Rattle.rule_declarations.specs.State.{body_state}
use Rattle.rule_parameters.specs.Framing.{proc_fits, proc_state}
use Rattle.rule_declarations.specs.declared.State.{State}
use Rattle.rule_known.specs.declared.Known.{Known}
use Rattle.rule_known.specs.declared.Entered.{Entered}

-- of `main`, whose body's answer is g
abbrev pub main_entry : Known → Got → Entered
main_entry kn g = record { fault = g.fault; within = true; state = body_state kn.state g.top; stmts = g.kind; ended = true; main = g.place }

-- a procedure's entry, by its name's number (table_names, Keys); the body is at `place`
unfoldable pub proc_numbers : State → ℕ → ℕ → List ℕ
proc_numbers st name place = name ∷ (2 + 4 * (st.procs % 16384)) ∷ place ∷ st.scope.newest ∷ []

-- of `proc` with n parameters: f is the fault of its name, list and body, whose answer is g; the free place after its entry is u
abbrev pub proc_entry : Known → Fault → ℕ → Got → ℕ → Entered
proc_entry kn f n g u = record { fault = f; within = proc_fits kn.state n; state = proc_state kn.state n g.top u; stmts = g.kind; ended = false; main = 0 }

-- of a line that is faulty
abbrev pub failed_entry : Known → Fault → Entered
failed_entry kn f = record { fault = f; within = false; state = kn.state; stmts = kn.stmts; ended = false; main = 0 }
