-- Document 01, "The text": the classes of a byte, letters and digits.
use Rattle.std.specs.Prelude.{Bool, true, false, cond, ◌&&◌, ◌||◌, List, [], ◌∷◌, ℕ, ◌+◌, ◌-◌, eqb, leb}
use Prim.Native.Char.{code}
use Prim.Native.String as S
use Prim.Native.String.{String}
use Rattle.leaf_bytes.specs.declared.bytes.Class.{Class}
use Rattle.leaf_bytes.specs.declared.bytes.Class.TheVariants.{Feed, Space, Open, Close, Visible, Refused}

-- the bytes of a text of ASCII
unfoldable pub bytes : String → List ℕ
bytes S.[] = []
bytes (S.◌∷◌ c s) = code c ∷ bytes s

-- two lists of bytes are the same
unfoldable pub same : List ℕ → List ℕ → Bool
same [] [] = true
same [] (b ∷ y) = false
same (a ∷ x) [] = false
same (a ∷ x) (b ∷ y) = eqb a b && same x y

-- line feed 10, space 32, the brackets 40 and 41, the other visible bytes 33 to 126; all else is refused
unfoldable pub class_of : ℕ → Class
class_of b =
    cond (eqb b 10) Feed (cond (eqb b 32) Space (cond (eqb b 40) Open (cond (eqb b 41) Close
    (cond (leb 33 b && leb b 126) Visible Refused))))

-- a capital letter's small letter; any other byte is itself
unfoldable pub small : ℕ → ℕ
small b = cond (leb 65 b && leb b 90) (b + 32) b

unfoldable pub is_letter : ℕ → Bool
is_letter b = leb 97 (small b) && leb (small b) 122

unfoldable pub is_digit : ℕ → Bool
is_digit b = leb 48 b && leb b 57

unfoldable pub is_alnum : ℕ → Bool
is_alnum b = is_letter b || is_digit b

-- the value of a hexadecimal digit, in either case; 16 of any other byte
unfoldable pub digit_of : ℕ → ℕ
digit_of b = cond (is_digit b) (b - 48) (cond (leb 97 (small b) && leb (small b) 102) (small b - 87) 16)
