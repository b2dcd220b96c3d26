-- Document 02, Point 2: what it asks of a `for` and its control variable, as statements on every loop, in every state. Nothing is proved here: the
-- theorem is law_theorems/proofs/CountersHold.antt: `counters-hold`.
use Rattle.std.specs.Prelude.{◌≡◌, ℕ, ℤ}
use Rattle.std.proofs.Math.Option.{some}
use Rattle.law.specs.Chair.{run_act}
use Rattle.law.specs.Code.{Act, Code, for_loop}
use Rattle.law.specs.Machine.{Answer, Procs, State, answer, normal, set_control, spent}
use Rattle.law.specs.Marking.{mark_stmt}
use Rattle.law.specs.Parameters.{Gone}
use Rattle.law.specs.Script.{Expr, Stmt, for}
use Rattle.law.specs.Types.{Types, Var, Vars, variable}

-- a `for` over cell a, from state s on, whose end is r and not normal: "the variable keeps its value", as nothing is done after what ended it
pub data Kept (a : ℕ) (body : State → Answer) (s : State) (r : Answer) : Type 0 where
  -- before round one: no cell is changed
  untouched : r.state.store.values ≡ s.store.values → r.state.store.marks ≡ s.store.marks → Kept a body s r
  -- in the round with the value z: the answer is that of the loop's statement
  in_round : (z : ℤ) (t : State) → r ≡ body (set_control a z t) → Kept a body s r
  -- after that round, with no step left for the next
  after_round : (z : ℤ) (t u : State) → body (set_control a z t) ≡ answer normal u → r ≡ answer spent u → Kept a body s r

pub record Counter (a : ℕ) (loop body : State → Answer) : Type 0 where
  -- "when a `for` ends normally, also with no round, its control variable has mark 0 and value 0"
  pub undefined-after : (s : State) → (loop s).outcome ≡ normal → Gone (loop s).state.store a
  -- "If an exception leaves the loop, the variable keeps its value"; where the run is spent or stuck, too
  pub kept : (s : State) → ((loop s).outcome ≡ normal → ⊥) → Kept a body s (loop s)

-- "Both machines keep this rule"; the control variable may be a parameter
pub record OfCounters : Type 0 where
  pub in-chair : (ps : Procs) (n a : ℕ) (lo hi : ℤ) (x y : Code) (b : Act) → Counter a (run_act ps (for_loop n a lo hi x y b)) (run_act ps b)
  pub in-marking : (Γ : Types) (Δ : Vars) (ps : Procs) (n i : ℕ) (e f : Expr) (c : Stmt) (x : Var) → variable Δ i ≡ some x
      → Counter x.base (mark_stmt Γ Δ ps (for n i e f c)) (mark_stmt Γ Δ ps c)
