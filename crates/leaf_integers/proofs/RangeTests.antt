-- The laws of `in_range`, `fit`, `succ` and `pred`, with each number as its local holds it. Assumes nothing.
use mathlib.Core.Path.{◌≡◌, refl, sym, ◌∙◌}
use mathlib.Core.Bool.{Bool, true, false}
use lib.IntN.{ℤ, pos, negsuc, ◌+ℤ◌, ◌-ℤ◌}
use lib.Signed.{lt_z, le_z}
use mir.Syntax.{w64}
use mir.Val.{SFits}
use mir.Facts.{to_z-of_z}
use Rattle.leaf_integers.specs.Integers.{least, most, inside, exact, next, previous}
use Rattle.leaf_integers.specs.declared.Fault.TheVariants.{Overflow, Bound}
use Rattle.std.specs.Prelude.{Ok, Err}
use Rattle.leaf_integers.proofs.Order.{le_z-trans, lt_not, not-lt, le_not, not-le, up_le, le_down, add_low, add-high}
use Rattle.leaf_integers.proofs.Ranges.{inside-below, inside-above, inside-from, inside_both, ranged-in, ranged-out, ranged-value, exact-inside, exact-outside}
use Rattle.leaf_integers.proofs.Machine.{wire, low, high, fits-between, fits-bounds}

module _ (z lo hi : ℤ) (p : SFits w64 z) (q : SFits w64 lo) (s : SFits w64 hi) where
  pub range_below : le_z (wire lo) (wire z) ≡ false → le_z (wire lo) (wire z) ≡ inside lo hi z
  range_below h = h ∙ sym (inside-below lo hi z (rw (to_z-of_z p, to_z-of_z q) at h))

  pub range_from : le_z (wire lo) (wire z) ≡ true → le_z (wire z) (wire hi) ≡ inside lo hi z
  range_from h = rw (to_z-of_z p, to_z-of_z s) (sym (inside-from lo hi z (rw (to_z-of_z p, to_z-of_z q) at h)))

module _ (z : ℤ) (t : Bool) (p : SFits w64 z) (e : t ≡ inside least most (wire z)) where
  pub fit-in : t ≡ true → Ok (wire z) ≡ exact z
  fit-in h = rw (to_z-of_z p) (sym (exact-inside z (rw (to_z-of_z p) at (sym e ∙ h))))

  pub fit-out : t ≡ false → Err Overflow ≡ exact z
  fit-out h = sym (exact-outside z (rw (to_z-of_z p) at (sym e ∙ h)))

-- a value of `succ` or `pred` lies in the host type, and is the neighbour
pub next-value : (lo hi z v : ℤ) → next lo hi z ≡ Ok v → (inside lo hi v ≡ true) × (z +ℤ pos 1 ≡ v)
unfolding next
next-value lo hi z v h = ranged-value Bound lo hi (z +ℤ pos 1) v h

pub previous-value : (lo hi z v : ℤ) → previous lo hi z ≡ Ok v → (inside lo hi v ≡ true) × (z -ℤ pos 1 ≡ v)
unfolding previous
previous-value lo hi z v h = ranged-value Bound lo hi (z -ℤ pos 1) v h

-- x + 1 in lo to hi
module _ (x lo hi : ℤ) (p : SFits w64 x) (q : SFits w64 lo) (s : SFits w64 hi) where
  pub succ-last : le_z (wire hi) (wire x) ≡ true → Err Bound ≡ next lo hi x
  unfolding next
  succ-last h =
      sym (ranged-out Bound lo hi (x +ℤ pos 1) (inside-above lo hi (x +ℤ pos 1) (up_le x hi ∙ le_not hi x (rw (to_z-of_z p, to_z-of_z s) at h))))

  module _ (h : le_z (wire hi) (wire x) ≡ false) where
    below : le_z (x +ℤ pos 1) hi ≡ true
    below = up_le x hi ∙ not-le hi x (rw (to_z-of_z p, to_z-of_z s) at h)

    up_fits : SFits w64 (x +ℤ pos 1)
    up_fits =
        fits-between (x +ℤ pos 1) (le_z-trans low x (x +ℤ pos 1) (fits-bounds x p).0 (add-high x (pos 1) refl))
        (le_z-trans (x +ℤ pos 1) hi high below (fits-bounds hi s).1)

    pub succ-fits : SFits w64 (wire x +ℤ pos 1)
    succ-fits = rw (to_z-of_z p) up_fits

    pub succ-below : lt_z (wire (wire x +ℤ pos 1)) (wire lo) ≡ true → Err Bound ≡ next lo hi x
    unfolding next
    succ-below k =
        sym (ranged-out Bound lo hi (x +ℤ pos 1)
        (inside-below lo hi (x +ℤ pos 1) (lt_not (x +ℤ pos 1) lo (rw (to_z-of_z p, to_z-of_z q, to_z-of_z up_fits) at k))))

    pub succ-is : lt_z (wire (wire x +ℤ pos 1)) (wire lo) ≡ false → Ok (wire (wire x +ℤ pos 1)) ≡ next lo hi x
    unfolding next
    succ-is k =
        rw (to_z-of_z p, to_z-of_z up_fits) (sym (ranged-in Bound lo hi (x +ℤ pos 1)
        (inside_both lo hi (x +ℤ pos 1) (not-lt (x +ℤ pos 1) lo (rw (to_z-of_z p, to_z-of_z q, to_z-of_z up_fits) at k)) below)))

  -- x - 1 in lo to hi
  pub pred-first : le_z (wire x) (wire lo) ≡ true → Err Bound ≡ previous lo hi x
  unfolding previous
  pred-first h =
      sym (ranged-out Bound lo hi (x -ℤ pos 1) (inside-below lo hi (x -ℤ pos 1) (le_down lo x ∙ le_not x lo (rw (to_z-of_z p, to_z-of_z q) at h))))

  module _ (h : le_z (wire x) (wire lo) ≡ false) where
    above : le_z lo (x -ℤ pos 1) ≡ true
    above = le_down lo x ∙ not-le x lo (rw (to_z-of_z p, to_z-of_z q) at h)

    down_fits : SFits w64 (x -ℤ pos 1)
    down_fits =
        fits-between (x -ℤ pos 1) (le_z-trans low lo (x -ℤ pos 1) (fits-bounds lo q).0 above)
        (le_z-trans (x -ℤ pos 1) x high (add_low x (negsuc 0) refl) (fits-bounds x p).1)

    pub pred_fits : SFits w64 (wire x -ℤ pos 1)
    pred_fits = rw (to_z-of_z p) down_fits

    pub pred-above : lt_z (wire hi) (wire (wire x -ℤ pos 1)) ≡ true → Err Bound ≡ previous lo hi x
    unfolding previous
    pred-above k =
        sym (ranged-out Bound lo hi (x -ℤ pos 1)
        (inside-above lo hi (x -ℤ pos 1) (lt_not hi (x -ℤ pos 1) (rw (to_z-of_z p, to_z-of_z s, to_z-of_z down_fits) at k))))

    pub pred-is : lt_z (wire hi) (wire (wire x -ℤ pos 1)) ≡ false → Ok (wire (wire x -ℤ pos 1)) ≡ previous lo hi x
    unfolding previous
    pred-is k =
        rw (to_z-of_z p, to_z-of_z down_fits) (sym (ranged-in Bound lo hi (x -ℤ pos 1)
        (inside_both lo hi (x -ℤ pos 1) above (not-lt hi (x -ℤ pos 1) (rw (to_z-of_z p, to_z-of_z s, to_z-of_z down_fits) at k)))))

pub ruleset range_laws = (range_below, range_from)

pub ruleset fit_laws = (fit-in, fit-out)

pub ruleset succ_laws = (succ-last, succ-fits, succ-below, succ-is)

pub ruleset pred_laws = (pred-first, pred_fits, pred-above, pred-is)
