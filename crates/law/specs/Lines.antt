-- Document 01, "The text": the line of the first refused byte (row 3), and the lines.
use Rattle.std.specs.Prelude.{Bool, true, false, List, [], ◌∷◌, ℕ, suc, eqb}
use Rattle.std.proofs.Math.Option.{Option, none, some}
use Rattle.leaf_bytes.specs.declared.bytes.Class.TheVariants.{Feed, Space, Open, Close, Visible, Refused}
use Rattle.leaf_bytes.specs.Bytes.{class_of}

-- the line of the first refused byte, where n is the line that has been reached
unfoldable pub refused_at : ℕ → List ℕ → Option ℕ
refused_at n [] = none
refused_at n (b ∷ bs) = elim (class_of b) [
  | Feed ↦ refused_at (suc n) bs
  | Space ↦ refused_at n bs
  | Open ↦ refused_at n bs
  | Close ↦ refused_at n bs
  | Visible ↦ refused_at n bs
  | Refused ↦ some n
]

-- a line: its bytes, and whether a line feed ends it
pub record Line : Type 0 where
  pub bytes : List ℕ
  pub fed : Bool

abbrev pub line : List ℕ → Bool → Line
line bs f = record { bytes = bs; fed = f }

-- a byte in front of the first line
unfoldable pub in_front : ℕ → List Line → List Line
in_front b [] = line (b ∷ []) false ∷ []
in_front b (l ∷ ls) = line (b ∷ l.bytes) l.fed ∷ ls

-- the rest after the last line feed is a line if it is not empty
unfoldable pub lines_of : List ℕ → List Line
lines_of [] = []
lines_of (b ∷ bs) = elim (eqb b 10) [ true ↦ line [] true ∷ lines_of bs | false ↦ in_front b (lines_of bs) ]
