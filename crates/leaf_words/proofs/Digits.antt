-- Laws of digits in a base. Digits only make the sum larger, so a loop that stops where the sum passes the most gives `numeral`. Assumes nothing.
use Rattle.std.specs.Prelude.{Option, Some, None}
use mathlib.Core.Path.{◌≡◌, refl, sym, ◌∙◌}
use mathlib.Core.Bool.{Bool, true, false, cond}
use mathlib.Core.List.{List, [], ◌∷◌}
use Prim.Native.Nat.{ℕ, ◌+◌, ◌*◌, ◌<◌, ◌≤◌}
use native.Mathlib.Nat.{mul-le-mul_left, mul-le-mul}
use native.Mathlib.Numerals.{add-one}
use native.Mathlib.Omega.{arith}
use borrow.Author.Tests.{lt-ltb, le-ltb, le-leb, lt-leb, leb-true}
use lib.Dec.{ltb, leb}
use lib.ListN.{length, get_or, drop, drop_of_length-le}
use lib.Seq.{drop-cons}
use mir.Syntax.{w64}
use mir.Val.{Fits}
use Rattle.leaf_bytes.specs.Bytes.{digit_of}
use Rattle.leaf_words.specs.Numbers.{digits, at_most, numeral}

-- one more digit makes the sum no smaller
pub larger : (sum base d : ℕ) → 1 ≤ base → sum ≤ sum * base + d
larger sum base d h = omega (arith, mul-le-mul_left sum h)

-- a sum past the most stays past it: `more` is what the digits after this one give
either : (most : ℕ) (t : Bool) (more : Option ℕ) → at_most most more ≡ None → at_most most (cond t more None) ≡ None
unfolding at_most
either most true more e = e
either most false more e = refl

pub passed : (base most sum : ℕ) (w : List ℕ) → 1 ≤ base → most < sum → at_most most (digits base sum w) ≡ None
unfolding digits at_most
passed base most sum [] h l = rw (lt-leb sum most l)
passed base most sum (b ∷ w) h l =
    either most (ltb (digit_of b) base) (digits base (sum * base + digit_of b) w)
    (passed base most (sum * base + digit_of b) w h (omega (arith, larger sum base (digit_of b) h)))

-- ---- `numeral_of`: `all` is what the whole loop gives
pub numeral_start : (w : List ℕ) (base most : ℕ) → numeral base most w ≡ at_most most (digits base 0 (drop 0 w))
unfolding numeral
numeral_start w base most = refl

module _ (w : List ℕ) (base most sum i : ℕ) (all : Option ℕ) (a : all ≡ at_most most (digits base sum (drop i w))) where
  pub numeral-end : length w ≤ i → sum ≤ most → Some sum ≡ all
  unfolding digits at_most
  numeral-end l m = sym (a ∙ rw (drop_of_length-le w l, le-leb sum most m))

  module _ (h : i < length w) (d : ℕ) (e : d ≡ digit_of (get_or w i 0)) where
    digits_step : digits base sum (drop i w) ≡ cond (ltb d base) (digits base (sum * base + d) (drop (i + 1) w)) None
    unfolding digits
    digits_step = rw (add-one i, drop-cons w i 0 h, e)

    pub numeral-no-digit : base ≤ d → None ≡ all
    unfolding at_most
    numeral-no-digit l = sym (a ∙ rw (digits_step, le-ltb d base l))

    module _ (l : d < base) where
      pub numeral-past : 1 ≤ base → most < sum * base + d → None ≡ all
      numeral-past o m = sym (a ∙ rw (digits_step, lt-ltb d base l) (passed base most (sum * base + d) (drop (i + 1) w) o m))

      pub numeral-more : all ≡ at_most most (digits base (sum * base + d) (drop (i + 1) w))
      numeral-more = a ∙ rw (digits_step, lt-ltb d base l)

pub ruleset numeral_laws = (numeral-end, numeral-no-digit, numeral-past, numeral-more)

-- the next sum fits 64 bits
module _ (sum base most : ℕ) (s : sum ≤ most) (b : base ≤ 16) (m : most ≤ 4294967295) where
  product_small : sum * base ≤ 4294967295 * 16
  product_small = let l : sum ≤ 4294967295 = omega arith in mul-le-mul l b

  pub product-fits : Fits w64 (sum * base)
  product-fits = record { fits = omega (arith, product_small) }

  pub next_fits : (d : ℕ) → d < base → Fits w64 (sum * base + d)
  next_fits d l = record { fits = omega (arith, product_small) }

pub ruleset fits_laws = (product-fits, next_fits)

-- a numeral is at most the most
at-most : (most v : ℕ) (o : Option ℕ) → at_most most o ≡ Some v → v ≤ most
unfolding at_most
at-most most v None e = let z : ◌≡◌ {A = ℕ} 0 1 = cc in absurd (omega arith)
at-most most v (Some n) e = go (leb n most) refl e
  where
    go : (t : Bool) → leb n most ≡ t → cond t (Some n) None ≡ Some v → v ≤ most
    go true p f = let g : n ≡ v = cc in omega (arith, leb-true n most p)
    go false p f = let z : ◌≡◌ {A = ℕ} 0 1 = cc in absurd (omega arith)

pub numeral-small : (base most v : ℕ) (w : List ℕ) (n : Option ℕ) → n ≡ numeral base most w → n ≡ Some v → v ≤ most
unfolding numeral
numeral-small base most v w n e f = at-most most v (digits base 0 w) (sym e ∙ f)
