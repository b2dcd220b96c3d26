-- The ways through what plans a loop and gives its next value.
use mathlib.Core.Path.{◌≡◌, refl, sym, ap, subst, ◌∙◌}
use mathlib.Core.Bool.{Bool, true, false, ◌&&◌}
use Prim.Native.Nat.{ℕ, zero, suc, ◌<◌}
use native.Mathlib.Omega.{arith}
use lib.Dec.{T}
use lib.IntN.{ℤ, pos, negsuc, ◌+ℤ◌, ◌-ℤ◌, suc_ℤ, +ℤ_one}
use lib.Signed.{le_z, lt_z}
use mir.Syntax.{w64}
use mir.Val.{SFits}
use mir.Facts.{to_z-of_z}
use borrow.Author.Rules.{sfits_of}
use borrow.Author.Tests.{ltb-true}
use Rattle.leaf_integers.proofs.Machine.{wire, fits-mag}
use Rattle.leaf_integers.specs.Integers.{inside}
use Rattle.leaf_integers.proofs.Order.{lt_not, not-lt}
use Rattle.law.specs.Base.{pick}
use Rattle.law.specs.Calculate.{nat_of}
use Rattle.law.specs.Machine as Machine
use Rattle.law.specs.Machine.{planned}
use Rattle.mark_steps.specs.declared.turns.Plan.TheVariants.{NoRound, Outside, Rounds}
use Rattle.mark_steps.specs.Turns.{Increments, Plans}

module _ (z y : ℤ) (f : SFits w64 z) (g : SFits w64 y) where
  suc-is : wire z +ℤ pos 1 ≡ suc_ℤ z
  suc-is = ap (λ (x : ℤ). x +ℤ pos 1) (to_z-of_z f) ∙ +ℤ_one z

  suc-room : (z y : ℤ) → SFits w64 z → SFits w64 y → lt_z z y ≡ true → SFits w64 (suc_ℤ z)
  suc-room (pos a) (pos b) f g h =
      let i : b < 9223372036854775808 = g.sfits in
      let j : a < b = ltb-true a b h in
      fits-mag (pos (suc a)) (omega arith)
  suc-room (pos a) (negsuc b) f g h = absurd (subst T (sym h) tt)
  suc-room (negsuc zero) y f g h = fits-mag (pos 0) (omega arith)
  suc-room (negsuc (suc a)) y f g h =
      let i : suc a < 9223372036854775808 = f.sfits in
      fits-mag (negsuc a) (omega arith)

  pub next-room : lt_z (wire z) (wire y) ≡ true → SFits w64 (wire z +ℤ pos 1)
  next-room h = subst (SFits w64) (sym suc-is) (suc-room z y f g (rw (to_z-of_z f, to_z-of_z g) at h))

  pub next_more : lt_z (wire z) (wire y) ≡ true → Increments z y (wire (wire z +ℤ pos 1))
  next_more h = record { says = λ k. to_z-of_z (next-room h) ∙ suc-is }

  pub next-same : lt_z (wire z) (wire y) ≡ false → Increments z y (wire z)
  next-same h = record { says = λ k. absurd (subst T (sym k ∙ (rw (to_z-of_z f, to_z-of_z g) at h)) tt) }

pub ruleset next_laws = (next-room, next_more, next-same)

-- ---- `planned`

-- by the three tests
plan-by : (lo hi x y : ℤ) (p i j : Bool) → le_z x y ≡ p → inside lo hi x ≡ i → inside lo hi y ≡ j
    → planned lo hi x y ≡ pick p (pick (i && j) (Machine.rounds (nat_of (suc_ℤ (y -ℤ x)))) Machine.outside) Machine.no_round
unfolding planned
plan-by lo hi x y p i j e f g = rw (e, f, g)

module _ (lo hi x y : ℤ) (fl : SFits w64 lo) (fh : SFits w64 hi) (fx : SFits w64 x) (fy : SFits w64 y) where
  pub plan-none : lt_z (wire y) (wire x) ≡ true → Plans lo hi x y NoRound
  unfolding pick
  plan-none h = record { says = plan-by lo hi x y false (inside lo hi x) (inside lo hi y) (lt_not y x (rw (to_z-of_z fx, to_z-of_z fy) at h)) refl refl; up = λ e. absurd (let z : ◌≡◌ {A = ℕ} 0 1 = cc in omega arith) }

  module _ (h : lt_z (wire y) (wire x) ≡ false) (i : Bool) (I : i ≡ inside (wire lo) (wire hi) (wire x)) where
    upward : le_z x y ≡ true
    upward = not-lt y x (rw (to_z-of_z fx, to_z-of_z fy) at h)

    first : inside lo hi x ≡ i
    first = sym (rw (to_z-of_z fl, to_z-of_z fh, to_z-of_z fx) at I)

    pub plan-left : i ≡ false → Plans lo hi x y Outside
    unfolding pick
    plan-left e = record { says = plan-by lo hi x y true false (inside lo hi y) upward (first ∙ e) refl; up = λ e. absurd (let z : ◌≡◌ {A = ℕ} 0 1 = cc in omega arith) }

    module _ (e : i ≡ true) (j : Bool) (J : j ≡ inside (wire lo) (wire hi) (wire y)) where
      second : inside lo hi y ≡ j
      second = sym (rw (to_z-of_z fl, to_z-of_z fh, to_z-of_z fy) at J)

      pub plan-right : j ≡ false → Plans lo hi x y Outside
      unfolding pick
      plan-right k = record { says = plan-by lo hi x y true true false upward (first ∙ e) (second ∙ k); up = λ e. absurd (let z : ◌≡◌ {A = ℕ} 0 1 = cc in omega arith) }

      pub plan-rounds : j ≡ true → Plans lo hi x y Rounds
      unfolding pick
      plan-rounds k = record { says = plan-by lo hi x y true true true upward (first ∙ e) (second ∙ k); up = λ e. upward }

pub ruleset plan_laws = (plan-none, plan-left, plan-right, plan-rounds, sfits_of)
