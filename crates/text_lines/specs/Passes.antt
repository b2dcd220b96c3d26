-- The passes over the bytes of the text and its lines, as functions of the bytes from an offset on.
use Rattle.std.specs.Prelude.{Bool, true, false, cond, List, [], ◌∷◌, ℕ, ◌+◌, eqb, Option as Maybe, Some, None}
use Rattle.std.proofs.Math.Option.{Option, none, some}
use Rattle.leaf_bytes.specs.declared.bytes.Class.{Class}
use Rattle.leaf_bytes.specs.declared.bytes.Class.TheVariants.{Feed, Space, Open, Close, Visible, Refused}
use Rattle.leaf_bytes.specs.Bytes.{class_of}
use Rattle.law.specs.Lines.{Line, line}
use Rattle.law.specs.Trees.{Place, before, after, faulty, inside, past, is_after}
use Rattle.text_lines.specs.declared.lines.Standing.{Standing}
use Rattle.text_lines.specs.declared.lines.Standing.TheVariants as standing

-- ---- row 3

-- a line's number, or none, as the code answers it
abbrev pub line_of : Option ℕ → Maybe ℕ
line_of none = None
line_of (some n) = Some n

abbrev pub is_refused : Class → Bool
is_refused Feed = false
is_refused Space = false
is_refused Open = false
is_refused Close = false
is_refused Visible = false
is_refused Refused = true

-- the line feeds up to a byte, where there were n before it
abbrev pub feeds : Class → ℕ → ℕ
feeds Feed n = n + 1
feeds Space n = n
feeds Open n = n
feeds Close n = n
feeds Visible n = n
feeds Refused n = n

-- ---- lines

-- the first line of the bytes, and what stands after its line feed
unfoldable pub line_at : List ℕ → Line
line_at [] = line [] false
line_at (b ∷ bs) = cond (eqb b 10) (line [] true) (line (b ∷ (line_at bs).bytes) (line_at bs).fed)

unfoldable pub after_line : List ℕ → List ℕ
after_line [] = []
after_line (b ∷ bs) = cond (eqb b 10) bs (after_line bs)

-- ---- row 4, up to the line feed

unfoldable pub balanced_from : List ℕ → Place → Bool
balanced_from [] p = false
balanced_from (b ∷ bs) p = cond (eqb b 10) (is_after p) (balanced_from bs (past (class_of b) p))

-- where the code's walk stands
abbrev pub place_of : Standing → Place
place_of standing.Before = before
place_of (standing.Inside n) = inside n
place_of standing.After = after
place_of standing.Faulty = faulty

abbrev pub is_after_now : Standing → Bool
is_after_now standing.Before = false
is_after_now (standing.Inside n) = false
is_after_now standing.After = true
is_after_now standing.Faulty = false
