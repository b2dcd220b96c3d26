-- What document 02 asks of a `for` and its control variable holds: the statement of law's specs/Counters.antt.
use mathlib.Core.Path.{◌≡◌, refl, sym}
use mathlib.Core.Option.{some}
use Prim.Native.Nat.{ℕ, zero, suc}
use native.Mathlib.Omega.{arith}
use lib.IntN.{ℤ, pos, suc_ℤ}
use Rattle.law.specs.Calculate.{Result, fails, is, stuck}
use Rattle.law.specs.Chair.{eval_code, run_act}
use Rattle.law.specs.Code.{Act, Code, for_loop}
use Rattle.law.specs.Counters.{Counter, Kept, OfCounters, after_round, in_round, untouched}
use Rattle.law.specs.Machine.{Answer, Outcome, Plan, Procs, State, Store, answer, continued, count_up, for_rounds, forgotten, no_round, normal, opened, outside, planned, raised, rounds, set_control, sole, spent, state, step, step_if, sticks, with_result}
use Rattle.law.specs.Marking.{mark_bounds, mark_expr, mark_stmt}
use Rattle.law.specs.Parameters.{Gone}
use Rattle.law.specs.Script.{Expr, Stmt, for}
use Rattle.law.specs.Types.{Types, Var, Vars, info_at, variable}
use Rattle.law_theorems.proofs.ParametersHold.{sets-blank}

forgotten-gone : (m : Store) (a : ℕ) → Gone (forgotten a 1 m) a
forgotten-gone m a = record { mark = sets-blank 0 1 m.marks a a (omega arith) (omega arith); value = sets-blank (pos 0) 1 m.values a a (omega arith) (omega arith) }

-- a `for` over cell a that starts in state s: what its answer r may be
module _ (a : ℕ) (body : State → Answer) (s : State) where
  record Ends (r : Answer) : Type 0 where
    gone : r.outcome ≡ normal → Gone r.state.store a
    kept : (r.outcome ≡ normal → ⊥) → Kept a body s r

  -- it is cut off
  spent-e : (t : State) → Kept a body s (answer spent t) → Ends (answer spent t)
  spent-e t k = record { gone = λ e. absurd (let z : ◌≡◌ {A = ℕ} 0 1 = cc in omega arith); kept = λ _. k }

  stuck-e : (t : State) → Kept a body s (answer sticks t) → Ends (answer sticks t)
  stuck-e t k = record { gone = λ e. absurd (let z : ◌≡◌ {A = ℕ} 0 1 = cc in omega arith); kept = λ _. k }

  raised-e : (z : ℤ) (n : ℕ) (t : State) → Kept a body s (answer (raised z n) t) → Ends (answer (raised z n) t)
  raised-e z n t k = record { gone = λ e. absurd (let y : ◌≡◌ {A = ℕ} 0 1 = cc in omega arith); kept = λ _. k }

  -- the round with the value z, and then f
  round-e : (z : ℤ) (t : State) (f : State → Answer) → ((u : State) → Kept a body s (answer spent u) → Ends (f u)) → (o : Outcome) (u : State)
      → body (set_control a z t) ≡ answer o u → Ends (continued o u f)
  round-e z t f h normal u e = h u (after_round z t u e refl)
  round-e z t f h spent u e = spent-e u (in_round z t (sym e))
  round-e z t f h sticks u e = stuck-e u (in_round z t (sym e))
  round-e z t f h (raised y n) u e = raised-e y n u (in_round z t (sym e))

  due-e : (n : ℕ) (t : State) (f : State → Answer) → Kept a body s (answer spent t) → ((l : ℕ) → Ends (f (state t.store l))) → Ends (step_if n t f)
  due-e zero t f k h = spent-e t k
  due-e (suc l) t f k h = h l

  turns-e : (k : ℕ) (z : ℤ) (t : State) → Kept a body s (answer spent t) → Ends (for_rounds k a body z t)
  unfolding for_rounds
  turns-e zero z t due = record { gone = λ _. forgotten-gone t.store a; kept = λ n. absurd (n refl) }
  turns-e (suc k) z t due = due-e t.left t _ due λ l. round-e z (state t.store l) _ (turns-e k (suc_ℤ z)) _ _ refl

  opened-e : (p : Plan) (n l : ℕ) (x : ℤ) → Ends (opened p n a x body (state s.store l))
  unfolding opened
  opened-e no_round n l x = record { gone = λ _. forgotten-gone s.store a; kept = λ n. absurd (n refl) }
  opened-e outside n l x = raised-e _ n _ (untouched refl refl)
  opened-e (rounds k) n l x = turns-e k x (state s.store l) (untouched refl refl)

  counting-e : (n l : ℕ) (lo hi x y : ℤ) → Ends (count_up n a lo hi x y body (state s.store l))
  unfolding count_up
  counting-e n l lo hi x y = opened-e (planned lo hi x y) n l x

  after-e : {A : Type 0} (n l : ℕ) (w : Result A) {f : A → Answer} → ((z : A) → Ends (f z)) → Ends (with_result n (state s.store l) w f)
  after-e n l (is z) h = h z
  after-e n l (fails z) h = raised-e z n _ (untouched refl refl)
  after-e n l stuck h = stuck-e _ (untouched refl refl)

  loop-e : (f : State → Answer) → ((l : ℕ) → Ends (f (state s.store l))) → Ends (step s f)
  loop-e f h = due-e s.left s f (untouched refl refl) h

counter : (a : ℕ) (loop body : State → Answer) → ((s : State) → Ends a body s (loop s)) → Counter a loop body
counter a loop body h = record { undefined-after = λ s. (h s).gone; kept = λ s. (h s).kept }

in-chair : (ps : Procs) (n a : ℕ) (lo hi : ℤ) (x y : Code) (b : Act) → Counter a (run_act ps (for_loop n a lo hi x y b)) (run_act ps b)
unfolding run_act
in-chair ps n a lo hi x y b = counter a (run_act ps (for_loop n a lo hi x y b)) (run_act ps b) λ s. loop-e a (run_act ps b) s _ λ l.
    after-e a (run_act ps b) s n l (eval_code x s.store) λ u. after-e a (run_act ps b) s n l (eval_code y s.store) λ v. counting-e a (run_act ps b) s n l lo hi (sole u) (sole v)

module _ (Γ : Types) (Δ : Vars) (ps : Procs) (n : ℕ) (e f : Expr) (c : Stmt) (x : Var) where
  abbrev body : State → Answer
  body = mark_stmt Γ Δ ps c

  -- once the control variable is found
  found-e : (s : State) (l : ℕ) → Ends x.base body s (with_result n (state s.store l) (mark_expr Γ Δ e s.store) λ u. with_result n (state s.store l) (mark_expr Γ Δ f s.store) λ v.
      with_result n (state s.store l) (mark_bounds Γ Δ x u v) λ p. count_up n x.base (info_at Γ x.type).low (info_at Γ x.type).high p.0 p.1 body (state s.store l))
  found-e s l = after-e x.base body s n l (mark_expr Γ Δ e s.store) λ u. after-e x.base body s n l (mark_expr Γ Δ f s.store) λ v.
      after-e x.base body s n l (mark_bounds Γ Δ x u v) λ p. counting-e x.base body s n l (info_at Γ x.type).low (info_at Γ x.type).high p.0 p.1

  in-marking : (i : ℕ) → variable Δ i ≡ some x → Counter x.base (mark_stmt Γ Δ ps (for n i e f c)) body
  unfolding mark_stmt
  in-marking i h = counter x.base (mark_stmt Γ Δ ps (for n i e f c)) body λ s. loop-e x.base body s _ λ l. rw h (found-e s l)

pub counters-hold : OfCounters
counters-hold = record { in-chair = in-chair; in-marking = λ Γ Δ ps n i e f c x h. in-marking Γ Δ ps n e f c x i h }
