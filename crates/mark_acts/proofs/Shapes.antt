-- `for` and `case`, after their step, by what they work out first.
use mathlib.Core.Path.{◌≡◌, refl}
use mathlib.Core.Option.{Option, none, some}
use Prim.Native.Nat.{ℕ}
use lib.IntN.{ℤ}
use Rattle.law.specs.Calculate.{Result, is, fails, stuck, ◌>>=◌}
use Rattle.law.specs.Machine.{Store, State, state, Answer, Procs, sole, with_result, count_up}
use Rattle.law.specs.Marking.{TypedValue, mark_arms, mark_bounds, mark_expr, mark_stmt, or_stuck, require}
use Rattle.law.specs.Script.{Arms, Expr, Stmt, case, for}
use Rattle.law.specs.Types.{Types, Var, Vars, variable, info_at, ordinal?}
use Rattle.mark_steps.specs.Stands.{after}
use Rattle.mark_acts.specs.Bounds.{Counted, joined, counted}

-- with what is worked out one after the other
with-joined : (Γ : Types) (Δ : Vars) (n : ℕ) (t : State) (k : Var → ℤ × ℤ → Answer) (o : Option Var) (u v : Result TypedValue)
    → (with_result n t (or_stuck o is) λ x. with_result n t u λ a. with_result n t v λ b. with_result n t (mark_bounds Γ Δ x a b) λ p. k x p)
    ≡ (with_result n t (or_stuck o λ x. joined Γ Δ x u v) λ q. k q.0 q.1)
with-joined Γ Δ n t k none u v = refl
with-joined Γ Δ n t k (some x) (fails e) v = refl
with-joined Γ Δ n t k (some x) stuck v = refl
with-joined Γ Δ n t k (some x) (is a) (fails e) = refl
with-joined Γ Δ n t k (some x) (is a) stuck = refl
with-joined Γ Δ n t k (some x) (is a) (is b) = go (mark_bounds Γ Δ x a b)
  where
    go : (r : Result (ℤ × ℤ)) → (with_result n t r λ p. k x p) ≡ (with_result {A = Counted} n t (r >>= λ p. is (x, p)) λ q. k q.0 q.1)
    go (is p) = refl
    go (fails e) = refl
    go stuck = refl

module _ (Γ : Types) (Δ : Vars) (ps : Procs) (m : Store) (left : ℕ) where
  pub for-shape : (n i : ℕ) (a b : Expr) (c : Stmt) → after (mark_stmt Γ Δ ps (for n i a b c)) (state m left)
      ≡ (with_result n (state m left) (counted Γ Δ i a b m) λ q.
      count_up n q.0.base (info_at Γ q.0.type).low (info_at Γ q.0.type).high q.1.0 q.1.1 (mark_stmt Γ Δ ps c) (state m left))
  unfolding after mark_stmt
  for-shape n i a b c = with-joined Γ Δ n (state m left)
      (λ x p. count_up n x.base (info_at Γ x.type).low (info_at Γ x.type).high p.0 p.1 (mark_stmt Γ Δ ps c) (state m left))
      (variable Δ i) (mark_expr Γ Δ a m) (mark_expr Γ Δ b m)

  pub case-shape : (n : ℕ) (e : Expr) (bs : Arms) → after (mark_stmt Γ Δ ps (case n e bs)) (state m left)
      ≡ (with_result n (state m left) (mark_expr Γ Δ e m >>= λ v. require (ordinal? Γ v.kind) (is v)) λ v. mark_arms Γ Δ ps n v.kind (sole v.cells) bs (state m left))
  unfolding after mark_stmt
  case-shape n e bs = go (mark_expr Γ Δ e m)
    where
      go : (v : Result TypedValue) → (with_result n (state m left) v λ v. with_result n (state m left) (require (ordinal? Γ v.kind) (is v)) λ v. mark_arms Γ Δ ps n v.kind (sole v.cells) bs (state m left))
          ≡ (with_result n (state m left) (v >>= λ v. require (ordinal? Γ v.kind) (is v)) λ v. mark_arms Γ Δ ps n v.kind (sole v.cells) bs (state m left))
      go (is v) = refl
      go (fails z) = refl
      go stuck = refl
