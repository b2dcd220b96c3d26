-- Worked examples of document 01 and of the rulings on it, as one theorem over a list, by computation. Assumes nothing.
use mathlib.Core.Path.{◌≡◌, refl}
use mathlib.Core.List.{List, [], ◌∷◌, map}
use Prim.Native.String.{String}
use lib.IntN.{pos, negsuc}
use Rattle.leaf_words.specs.declared.words.Word.{Word}
use Rattle.leaf_words.specs.declared.words.Word.TheVariants.{Number, Name, Reserved, Operator, Unknown}
use Rattle.leaf_bytes.specs.Bytes.{bytes, same, small, is_letter, is_digit, is_alnum, digit_of}
use Rattle.leaf_bytes.specs.Names.{alnum_first, part_ok, goes_on, is_name}
use Rattle.leaf_words.specs.Numbers.{digits, at_most, numeral, decimal, decimal_of, signed, hexadecimal, hex_of, number_of}
use Rattle.leaf_reserved.specs.Table.{reserved, operators, fixed, position, place_of}
use Rattle.leaf_words.specs.Words.{named, placed, word_of}

pub record Example : Type 0 where
  pub text : String
  pub word : Word

abbrev pub is : String → Word → Example
is t w = record { text = t; word = w }

unfoldable pub examples : List Example
examples =
    is "2147483647" (Number (pos 2147483647)) ∷ is "2147483648" Unknown ∷ is "0002147483647" (Number (pos 2147483647)) ∷
    is "#FFFFFFFF" (Number (negsuc 0)) ∷ is "#80000000" (Number (negsuc 2147483647)) ∷ is "#FFFFFFF" (Number (pos 268435455)) ∷
    is "#7fffFFFF" (Number (pos 2147483647)) ∷ is "#" Unknown ∷ is "#012345678" Unknown ∷ is "#G" Unknown ∷
    is "-5" Unknown ∷ is "+5" Unknown ∷ is "1e3" Unknown ∷ is "5a" Unknown ∷
    is "_a" Unknown ∷ is "a_" Unknown ∷ is "a__b" Unknown ∷ is "a-b" Unknown ∷ is "a_b" Name ∷
    is "a234567890123456789012345678901" Name ∷ is "a2345678901234567890123456789012" Unknown ∷
    is "TYPE" (Reserved 0) ∷ is "Error_Number" (Reserved 45) ∷ is ":=" (Operator 0) ∷ is ">=" (Operator 10) ∷ is "=>" Unknown ∷
    is "do" Name ∷ is "end" Name ∷ is "set" Name ∷ []

pub examples-hold : map (λ (e : Example). word_of (bytes e.text)) examples ≡ map (λ (e : Example). e.word) examples
unfolding examples bytes same small is_letter is_digit is_alnum digit_of alnum_first part_ok goes_on is_name digits at_most numeral decimal decimal_of signed hexadecimal hex_of number_of reserved operators fixed position place_of named placed word_of
examples-hold = refl
