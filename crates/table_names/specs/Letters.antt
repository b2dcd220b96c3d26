-- The letters of a word one after another, in small letters; 0 where the word has ended.
use Rattle.std.specs.Prelude.{cond, List, ℕ, eqb, get_or}
use Rattle.leaf_bytes.specs.declared.bytes.Class.{Class}
use Rattle.leaf_bytes.specs.declared.bytes.Class.TheVariants.{Feed, Space, Open, Close, Visible, Refused}
use Rattle.leaf_bytes.specs.Bytes.{class_of, small}
use Rattle.table_names.specs.declared.letters.Meeting.{Meeting}
use Rattle.table_names.specs.declared.letters.Meeting.TheVariants as meeting

unfoldable pub letter_by : Class → ℕ → ℕ
letter_by Feed b = 0
letter_by Space b = 0
letter_by Open b = 0
letter_by Close b = 0
letter_by Visible b = small b
letter_by Refused b = 0

unfoldable pub letter_of : ℕ → ℕ
letter_of b = letter_by (class_of b) b

-- the byte at p; a line feed past the text's end
abbrev pub byte_at : List ℕ → ℕ → ℕ
byte_at s p = get_or s p 10

-- two words that were the same so far, by the letters that come next
unfoldable pub meets : ℕ → ℕ → Meeting
meets a b = cond (eqb a b) (cond (eqb a 0) meeting.End meeting.Same) meeting.Differ
