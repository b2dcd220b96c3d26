-- Document 01, "The text": what a word is.
use Rattle.std.specs.Prelude.{Bool, true, false, List, ℕ, ◌-◌, ltb}
use Rattle.leaf_words.specs.declared.words.Word.{Word}
use Rattle.leaf_words.specs.declared.words.Word.TheVariants.{Name, Reserved, Operator}
use Rattle.leaf_bytes.specs.Names.{is_name}
use Rattle.leaf_words.specs.Numbers.{number_of}
use Rattle.leaf_reserved.specs.Table.{place_of}

-- a word that is not in the table
unfoldable pub named : Bool → List ℕ → Word
named true w = Name
named false w = number_of w

-- a word at place k of the table, or not in it
unfoldable pub placed : Bool → Bool → ℕ → Word → Word
placed true o k v = Reserved k
placed false true k v = Operator (k - 46)
placed false false k v = v

-- what a word is: reserved, an operator, a name, a number, or of no kind
unfoldable pub word_of : List ℕ → Word
word_of w = placed (ltb (place_of w) 46) (ltb (place_of w) 57) (place_of w) (named (is_name w) w)
