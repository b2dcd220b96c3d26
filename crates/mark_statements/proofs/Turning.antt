-- The rounds of `while` and `for`, for any test and any statement in them.
use mathlib.Core.Path.{◌≡◌, refl, sym, ap, subst, ◌∙◌}
use mathlib.Core.Bool.{Bool, true, false}
use mathlib.Core.List.{[], ◌∷◌}
use Prim.Native.Nat.{ℕ, zero, suc, ◌-◌, ◌<◌}
use native.Mathlib.Omega.{arith}
use native.Mathlib.Nat.{le_antisymm}
use borrow.Author.Tests.{leb-true}
use lib.Dec.{T}
use lib.IntN.{ℤ, pos, negsuc, ◌+ℤ◌, ◌-ℤ◌, suc_ℤ, neg_ℤ, suc-pred, neg_ℤ-suc_ℤ, +ℤ-pred_ℤ, +ℤ_invr, +ℤ_one}
use lib.Signed.{le_z, lt_z, non_neg}
use Rattle.leaf_integers.specs.Integers.{inside}
use Rattle.leaf_integers.proofs.Order.{le_z-diff, le_z-trans, up_le, add-high}
use Rattle.leaf_integers.proofs.Ranges.{inside_is, inside_both}
use Rattle.law.specs.Base.{pick}
use Rattle.law.specs.Calculate.{nat_of, range_error}
use Rattle.law.specs.Machine.{Store, State, state, Answer, Plan, answer, normal, spent, and_then, branch, count_up, ended, for_rounds, step, stored, while_rounds, opened, planned}
use Rattle.code_calc.specs.Words.{lowest, greatest, InRange}

-- ---- `while`
module _ (test : State → (Bool → Answer) → Answer) (body : State → Answer) where
  -- what a true test leads to
  pub onward : ℕ → State → Answer
  onward zero = answer spent
  onward (suc f) = λ t. step t (λ u. and_then (body u) (while_rounds f test body))

  pub rounds-by : (f : ℕ) (t : State) → while_rounds f test body t ≡ test t (λ b. branch b (onward f) (answer normal) t)
  unfolding onward while_rounds
  rounds-by zero t = refl
  rounds-by (suc f) t = refl

  pub onward-spent : (f : ℕ) (m : Store) → onward f (state m 0) ≡ answer spent (state m 0)
  unfolding onward
  onward-spent zero m = refl
  onward-spent (suc f) m = refl

  pub onward-round : (f : ℕ) (m : Store) (k : ℕ) → k < f → onward f (state m (suc k)) ≡ and_then (body (state m k)) (while_rounds (f - 1) test body)
  unfolding onward
  onward-round zero m k h = absurd (omega arith)
  onward-round (suc f) m k h =
      let e : f ≡ suc f - 1 = omega arith in
      ap (λ (g : ℕ). and_then (body (state m k)) (while_rounds g test body)) e

-- ---- how many rounds a `for` has
diff-nat : (y z : ℤ) → le_z z y ≡ true → y -ℤ z ≡ pos (nat_of (y -ℤ z))
diff-nat y z h = go (y -ℤ z) (sym (le_z-diff z y) ∙ h)
  where
    go : (k : ℤ) → non_neg k ≡ true → k ≡ pos (nat_of k)
    go (pos n) e = refl
    go (negsuc n) e = absurd (subst T (sym e) tt)

pub count-one : (y z : ℤ) → le_z z y ≡ true → nat_of (suc_ℤ (y -ℤ z)) ≡ suc (nat_of (y -ℤ z))
count-one y z h = ap (λ (k : ℤ). nat_of (suc_ℤ k)) (diff-nat y z h)

pub count-rest : (y z : ℤ) → suc_ℤ (y -ℤ suc_ℤ z) ≡ y -ℤ z
count-rest y z = ap (λ (k : ℤ). suc_ℤ (y +ℤ k)) (neg_ℤ-suc_ℤ z) ∙ ap suc_ℤ (+ℤ-pred_ℤ y (neg_ℤ z)) ∙ suc-pred (y +ℤ neg_ℤ z)

meet : (y z : ℤ) → le_z z y ≡ true → le_z y z ≡ true → y ≡ z
meet (pos a) (pos b) h g = ap (λ (k : ℕ). pos k) (le_antisymm (leb-true a b g) (leb-true b a h))
meet (pos a) (negsuc b) h g = absurd (subst T (sym g) tt)
meet (negsuc a) (pos b) h g = absurd (subst T (sym h) tt)
meet (negsuc a) (negsuc b) h g = ap (λ (k : ℕ). negsuc k) (le_antisymm (leb-true a b h) (leb-true b a g))

pub count-last : (y z : ℤ) → le_z z y ≡ true → le_z y z ≡ true → nat_of (y -ℤ z) ≡ 0
count-last y z h g = ap (λ (k : ℤ). nat_of (k -ℤ z)) (meet y z h g) ∙ ap (λ (k : ℤ). nat_of k) (+ℤ_invr z)

pub next_up : (y z : ℤ) → lt_z z y ≡ true → le_z (suc_ℤ z) y ≡ true
next_up y z h = ap (λ (k : ℤ). le_z k y) (sym (+ℤ_one z)) ∙ up_le z y ∙ h

pub next-ranged : (y z : ℤ) → lt_z z y ≡ true → InRange z → InRange y → InRange (suc_ℤ z)
unfolding InRange
next-ranged y z h R Q =
    inside_both lowest greatest (suc_ℤ z)
    (le_z-trans lowest z (suc_ℤ z) (inside_is lowest greatest z R).0 (ap (le_z z) (sym (+ℤ_one z)) ∙ add-high z (pos 1) refl))
    (le_z-trans (suc_ℤ z) y greatest (next_up y z h) (inside_is lowest greatest y Q).1)

-- ---- the rounds of a `for`
module _ (a : ℕ) (body : State → Answer) (z : ℤ) where
  pub for-spent : (k : ℕ) (m : Store) → for_rounds (suc k) a body z (state m 0) ≡ answer spent (state m 0)
  unfolding for_rounds
  for-spent k m = refl

  pub for-round : (k : ℕ) (m : Store) (n : ℕ) → for_rounds (suc k) a body z (state m (suc n)) ≡ and_then (body (state (stored a (z ∷ []) m) n)) (for_rounds k a body (suc_ℤ z))
  unfolding for_rounds
  for-round k m n = refl

  pub for-none : (t : State) → for_rounds 0 a body z t ≡ ended a t
  unfolding for_rounds
  for-none t = refl

-- what a `for` does by its plan
pub count-opened : (n a : ℕ) (lo hi x y : ℤ) (body : State → Answer) (t : State) (q : Plan) → planned lo hi x y ≡ q → count_up n a lo hi x y body t ≡ opened q n a x body t
unfolding count_up
count-opened n a lo hi x y body t q e = ap (λ (p : Plan). opened p n a x body t) e
