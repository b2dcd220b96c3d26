-- Laws of decimal and hexadecimal numbers, over those of digits. Assumes nothing.
use Rattle.std.specs.Prelude.{Option, Some, None}
use mathlib.Core.Path.{◌≡◌, refl, ap, ◌∙◌}
use mathlib.Core.Bool.{cond}
use mathlib.Core.List.{List, [], ◌∷◌}
use Prim.Native.Nat.{ℕ, ◌-◌, ◌<◌, ◌≤◌}
use native.Mathlib.Omega.{arith}
use borrow.Author.Tests.{eq-eqb, ne_eqb, lt-ltb, le-leb, lt-leb}
use lib.Dec.{eqb}
use lib.IntN.{ℤ, pos, negsuc, ◌-ℤ◌}
use lib.ListN.{length, get_or, take, drop, length-drop}
use lib.Seq.{take_all}
use mir.Syntax.{w64}
use mir.Val.{SFits, to_z, of_z}
use mir.Facts.{to_z_pos, to_z-of_z}
use Rattle.leaf_words.specs.declared.words.Word.{Word}
use Rattle.leaf_words.specs.declared.words.Word.TheVariants.{Number, Unknown}
use Rattle.leaf_words.specs.Numbers.{numeral, decimal, decimal_of, signed, hexadecimal, hex_of, number_of}
use Rattle.leaf_words.proofs.Digits.{numeral-small}

-- ---- `signed_of`
module _ (n : ℕ) where
  narrow : n ≤ 4294967295 → to_z w64 n ≡ pos n
  narrow l = to_z_pos w64 (omega arith)

  pub signed_low : n ≤ 2147483647 → to_z w64 n ≡ signed n
  unfolding signed
  signed_low l = rw (narrow (omega arith), le-leb n 2147483647 l)

  module _ (l : n ≤ 4294967295) (h : 2147483647 < n) where
    pub below : pos n -ℤ pos 4294967296 ≡ negsuc (4294967295 - n)
    below = rw (lt-ltb n 4294967296 (omega arith)) (ap negsuc (omega arith))

    pub signed-fits : SFits w64 (to_z w64 n -ℤ pos 4294967296)
    signed-fits = record { sfits = rw (narrow l, below) (omega arith) }

    pub signed_high : to_z w64 (of_z w64 (to_z w64 n -ℤ pos 4294967296)) ≡ signed n
    unfolding signed
    signed_high = to_z-of_z signed-fits ∙ rw (narrow l, lt-leb n 2147483647 h)

pub ruleset signed_laws = (signed_low, signed-fits, signed_high)

-- ---- `decimal_of`
module _ (w : List ℕ) (n : Option ℕ) (e : n ≡ numeral 10 2147483647 w) where
  module _ (v : ℕ) (f : n ≡ Some v) where
    decimal-small : v ≤ 2147483647
    decimal-small = numeral-small 10 2147483647 v w n e f

    pub decimal-fits : SFits w64 (pos v)
    decimal-fits = record { sfits = omega (arith, decimal-small) }

    pub decimal-number : Number (to_z w64 v) ≡ decimal_of w
    unfolding decimal_of decimal
    decimal-number = rw (narrow v (omega (arith, decimal-small)), ← e, f)

  pub decimal-neither : n ≡ None → Unknown ≡ decimal_of w
  unfolding decimal_of decimal
  decimal-neither f = rw (← e, f)

pub ruleset decimal_laws = (decimal-fits, decimal-number, decimal-neither)

-- ---- `hex_of`
module _ (w : List ℕ) where
  pub hex-none : length w ≡ 0 → Unknown ≡ hex_of w
  unfolding hex_of
  hex-none e = rw e

  pub hex-long : 8 < length w → Unknown ≡ hex_of w
  unfolding hex_of
  hex-long l = rw (le-leb 1 (length w) (omega arith), lt-leb (length w) 8 l)

  module _ (n : Option ℕ) (e : n ≡ numeral 16 4294967295 w) where
    pub hex-small : (v : ℕ) → n ≡ Some v → v ≤ 4294967295
    hex-small v f = numeral-small 16 4294967295 v w n e f

    module _ (h : (length w ≡ 0) → ⊥) (l : length w ≤ 8) where
      hex-is : hex_of w ≡ hexadecimal n
      unfolding hex_of
      hex-is = rw (le-leb 1 (length w) (omega arith), le-leb (length w) 8 l, e)

      pub hex-number : (v : ℕ) (z : ℤ) → n ≡ Some v → z ≡ signed v → SFits w64 z → Number (to_z w64 (of_z w64 z)) ≡ hex_of w
      unfolding hexadecimal
      hex-number v z f g s = rw (hex-is, f, to_z-of_z s, g)

      pub hex-neither : n ≡ None → Unknown ≡ hex_of w
      unfolding hexadecimal
      hex-neither f = rw (hex-is, f)

pub ruleset hex_laws = (hex-none, hex-long, hex-small, hex-number, hex-neither)

-- ---- `number_of`
pub number-none : (w : List ℕ) → length w ≡ 0 → Unknown ≡ number_of w
unfolding number_of
number-none [] e = refl
number-none (b ∷ w) e = absurd (omega arith)

number_is : (w : List ℕ) → ((length w ≡ 0) → ⊥) → number_of w ≡ cond (eqb (get_or w 0 0) 35) (hex_of (drop 1 w)) (decimal_of w)
unfolding number_of
number_is [] n = absurd (n refl)
number_is (b ∷ w) n = refl

module _ (w : List ℕ) (n : (length w ≡ 0) → ⊥) (r : Word) where
  -- all of w but its first byte, as `&w[1..]` has it
  pub number-hex : get_or w 0 0 ≡ 35 → r ≡ hex_of (take (length w - 1) (drop 1 w)) → r ≡ number_of w
  number-hex e f =
      let l : length (drop 1 w) ≤ length w - 1 = omega (arith, length-drop 1 w) in
      rw (number_is w n, eq-eqb (get_or w 0 0) 35 e) (f ∙ ap hex_of (take_all (length w - 1) (drop 1 w) l))

  pub number-decimal : ((get_or w 0 0 ≡ 35) → ⊥) → r ≡ decimal_of w → r ≡ number_of w
  number-decimal e f = rw (number_is w n, ne_eqb (get_or w 0 0) 35 e) f

pub ruleset number_laws = (number-none, number-hex, number-decimal)
