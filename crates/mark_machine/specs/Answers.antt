-- A whole run of the marking machine: what its answer and the two lists say of a body's run.
use Rattle.std.specs.Prelude.{List, ◌≡◌, ℕ, ◌-◌, ◌<◌, ℤ, length, get_or, take}
use Rattle.law.specs.Environment.{PlacedBody}
use Rattle.law.specs.Machine as Machine
use Rattle.law.specs.Machine.{state}
use Rattle.law.specs.Whole.{fresh, mark_body}
use Rattle.law_answers.specs.declared.Marked.{Marked}
use Rattle.law_answers.specs.MarkingReports.{mark_outcome}
use Rattle.table_bodies.specs.Procedures.{procs_of}
use Rattle.table_bodies.specs.Table.{AllStand}
use Rattle.code_store.specs.Answers.{Lent}

-- the answer z of a machine that was given n cells and so many steps
pub record MarkAnswers (z : Machine.Answer) (n budget : ℕ) (r : Marked) (vs' : List ℤ) (ms' : List ℕ) : Type 0 where
  pub outcome : mark_outcome r.ending ≡ z.outcome
  pub steps : r.steps ≡ budget - z.state.left
  pub values : vs' ≡ take n z.state.store.values
  pub marks : ms' ≡ take n z.state.store.marks

-- the run of body q of the table, where all bodies stand
pub record MarksLent (s l ts tb : List ℕ) (q : ℕ) (vs : List ℤ) (ms : List ℕ) (budget : ℕ) (r : Marked) (vs' : List ℤ) (ms' : List ℕ) : Type 0 where
  pub says : (bs : List ℕ) (pbs : List PlacedBody) (other : PlacedBody) → AllStand s l ts tb bs pbs other → q < length pbs → Lent vs ms
      → MarkAnswers (mark_body (get_or pbs q other) (procs_of other pbs q) (state (fresh vs ms) budget)) (length vs) budget r vs' ms'
