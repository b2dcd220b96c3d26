-- What a word is lies in range: a number in the 32-bit integers, a reserved word and an operator in their lists. Assumes nothing.
use Rattle.std.specs.Prelude.{Option, Some, None}
use mathlib.Core.Path.{◌≡◌, refl}
use mathlib.Core.Bool.{Bool, true, false, cond, ◌&&◌}
use mathlib.Core.List.{List, [], ◌∷◌}
use Prim.Native.Nat.{ℕ, ◌<◌, ◌≤◌}
use native.Mathlib.Omega.{arith}
use borrow.Author.Tests.{ltb-true, leb-true, leb-false}
use lib.Dec.{eqb, leb, ltb}
use lib.ListN.{length}
use lib.Signed.{mag}
use Rattle.leaf_words.specs.declared.words.Word.{Word}
use Rattle.leaf_words.specs.declared.words.Word.TheVariants.{Number, Name, Reserved, Operator, Unknown}
use Rattle.leaf_bytes.specs.Names.{is_name}
use Rattle.leaf_words.specs.Numbers.{numeral, decimal, decimal_of, signed, hexadecimal, hex_of, number_of}
use Rattle.leaf_reserved.specs.Table.{place_of}
use Rattle.leaf_words.specs.Words.{named, placed, word_of}
use Rattle.leaf_words.proofs.Digits.{numeral-small}
use Rattle.leaf_words.proofs.DecimalHex.{below}

-- `mag` of n and of -(n + 1) is n
abbrev pub Ranged : Word → Type 0
Ranged (Number z) = mag z < 2147483648
Ranged Name = Unit {0}
Ranged (Reserved k) = k < 46
Ranged (Operator k) = k < 11
Ranged Unknown = Unit {0}

signed-ranged : (n : ℕ) → n ≤ 4294967295 → mag (signed n) < 2147483648
unfolding signed
signed-ranged n l = go (leb n 2147483647) refl
  where
    go : (t : Bool) → leb n 2147483647 ≡ t → mag (signed n) < 2147483648
    go true e = rw e (omega (arith, leb-true n 2147483647 e))
    go false e = let h = leb-false n 2147483647 e in rw (e, below n l h) (omega arith)

decimal-ranged : (n : Option ℕ) (w : List ℕ) → n ≡ numeral 10 2147483647 w → Ranged (decimal n)
unfolding decimal
decimal-ranged (Some v) w e = omega (arith, numeral-small 10 2147483647 v w (Some v) e refl)
decimal-ranged None w e = tt

hexadecimal-ranged : (n : Option ℕ) (w : List ℕ) → n ≡ numeral 16 4294967295 w → Ranged (hexadecimal n)
unfolding hexadecimal
hexadecimal-ranged (Some v) w e = signed-ranged v (numeral-small 16 4294967295 v w (Some v) e refl)
hexadecimal-ranged None w e = tt

-- either of two words
either : (t : Bool) (a b : Word) → Ranged a → Ranged b → Ranged (cond t a b)
either true a b p q = p
either false a b p q = q

hex-ranged : (w : List ℕ) → Ranged (hex_of w)
unfolding hex_of
hex-ranged w = either (leb 1 (length w) && leb (length w) 8) (hexadecimal (numeral 16 4294967295 w)) Unknown (hexadecimal-ranged (numeral 16 4294967295 w) w refl) tt

pub number-ranged : (w : List ℕ) → Ranged (number_of w)
unfolding number_of decimal_of
number-ranged [] = tt
number-ranged (b ∷ w) =
    either (eqb b 35) (hex_of w) (decimal_of (b ∷ w)) (hex-ranged w) (decimal-ranged (numeral 10 2147483647 (b ∷ w)) (b ∷ w) refl)

named-ranged : (t : Bool) (w : List ℕ) → Ranged (named t w)
unfolding named
named-ranged true w = tt
named-ranged false w = number-ranged w

placed-ranged : (s t : Bool) (k : ℕ) (v : Word) → ltb k 46 ≡ s → ltb k 57 ≡ t → Ranged v → Ranged (placed s t k v)
unfolding placed
placed-ranged true t k v e f r = ltb-true k 46 e
placed-ranged false true k v e f r = omega (arith, ltb-true k 57 f)
placed-ranged false false k v e f r = r

pub word-ranged : (w : List ℕ) → Ranged (word_of w)
unfolding word_of
word-ranged w = placed-ranged (ltb (place_of w) 46) (ltb (place_of w) 57) (place_of w) (named (is_name w) w) refl refl (named-ranged (is_name w) w)
