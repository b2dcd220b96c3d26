-- Document 01, "The text": what a number spells, in decimal and in hexadecimal.
use Rattle.std.specs.Prelude.{cond, ◌&&◌, List, [], ◌∷◌, ℕ, ◌+◌, ◌*◌, eqb, leb, ltb, length, ℤ, pos, ◌-ℤ◌, Option, Some, None}
use Rattle.leaf_words.specs.declared.words.Word.{Word}
use Rattle.leaf_words.specs.declared.words.Word.TheVariants.{Number, Unknown}
use Rattle.leaf_bytes.specs.Bytes.{digit_of}

-- the value of digits in a base, after those that came before; nothing where a byte is no digit
unfoldable pub digits : ℕ → ℕ → List ℕ → Option ℕ
digits base sum [] = Some sum
digits base sum (b ∷ bs) = cond (ltb (digit_of b) base) (digits base (sum * base + digit_of b) bs) None

-- that value, if it is at most `most`
unfoldable pub at_most : ℕ → Option ℕ → Option ℕ
at_most most None = None
at_most most (Some n) = cond (leb n most) (Some n) None

unfoldable pub numeral : ℕ → ℕ → List ℕ → Option ℕ
numeral base most w = at_most most (digits base 0 w)

-- decimal: 0 to 2147483647, with any leading zeros
unfoldable pub decimal : Option ℕ → Word
decimal (Some n) = Number (pos n)
decimal None = Unknown

unfoldable pub decimal_of : List ℕ → Word
decimal_of w = decimal (numeral 10 2147483647 w)

-- hexadecimal, 1 to 8 digits (which are at most 4294967295): the top bit set means the value less 4294967296
unfoldable pub signed : ℕ → ℤ
signed n = cond (leb n 2147483647) (pos n) (pos n -ℤ pos 4294967296)

unfoldable pub hexadecimal : Option ℕ → Word
hexadecimal (Some n) = Number (signed n)
hexadecimal None = Unknown

unfoldable pub hex_of : List ℕ → Word
hex_of w = cond (leb 1 (length w) && leb (length w) 8) (hexadecimal (numeral 16 4294967295 w)) Unknown

-- `#` (35) begins a hexadecimal number
unfoldable pub number_of : List ℕ → Word
number_of [] = Unknown
number_of (b ∷ bs) = cond (eqb b 35) (hex_of bs) (decimal_of (b ∷ bs))
