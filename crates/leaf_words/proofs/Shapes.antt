-- The reserved words have the shape of a name, the operators have not, and no word of the table is a number. Each is a computed test over the list. Assumes nothing.
use mathlib.Core.Path.{◌≡◌, refl, sym, ap, ◌∙◌}
use mathlib.Core.Bool.{Bool, true, false}
use mathlib.Core.List.{List, [], ◌++◌, map}
use Prim.Native.Nat.{ℕ, ◌+◌, ◌<◌}
use lib.ListN.{get_or, replicate, get_or-replicate, get_or-map, get_or-append}
use lib.Seq.{get_or-append-add}
use Rattle.leaf_words.specs.declared.words.Word.{Word}
use Rattle.leaf_words.specs.declared.words.Word.TheVariants.{Unknown}
use Rattle.leaf_bytes.specs.Bytes.{bytes, small, is_letter, is_digit, is_alnum, digit_of}
use Rattle.leaf_bytes.specs.Names.{alnum_first, part_ok, goes_on, is_name}
use Rattle.leaf_words.specs.Numbers.{digits, at_most, numeral, decimal, decimal_of, number_of}
use Rattle.leaf_reserved.specs.Table.{reserved, operators, fixed}

shapes : map is_name fixed ≡ replicate 46 true ++ replicate 11 false
unfolding is_name goes_on part_ok alnum_first is_alnum is_digit is_letter small fixed reserved operators bytes
shapes = refl

numbers : map number_of fixed ≡ replicate 57 Unknown
unfolding number_of decimal_of decimal numeral at_most digits digit_of is_digit small fixed reserved operators bytes
numbers = refl

shape_at : (k : ℕ) → is_name (get_or fixed k []) ≡ get_or (replicate 46 true ++ replicate 11 false) k false
unfolding is_name
shape_at k = sym (get_or-map is_name fixed k []) ∙ ap (λ (l : List Bool). get_or l k false) shapes

pub reserved-name : (k : ℕ) → k < 46 → is_name (get_or fixed k []) ≡ true
reserved-name k l = shape_at k ∙ get_or-append (replicate 46 true) (replicate 11 false) false k l ∙ get_or-replicate 46 k true false l

-- operator k stands at place 46 + k
pub operator-no-name : (k : ℕ) → k < 11 → is_name (get_or fixed (46 + k) []) ≡ false
operator-no-name k l = shape_at (46 + k) ∙ get_or-append-add (replicate 46 true) (replicate 11 false) k false ∙ get_or-replicate 11 k false false l

pub fixed-no-number : (k : ℕ) → k < 57 → number_of (get_or fixed k []) ≡ Unknown
unfolding number_of
fixed-no-number k l = sym (get_or-map number_of fixed k []) ∙ ap (λ (l : List Word). get_or l k Unknown) numbers ∙ get_or-replicate 57 k Unknown Unknown l
