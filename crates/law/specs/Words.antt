-- Document 01, "The text": each word of a line is of some kind (row 5).
use Rattle.std.specs.Prelude.{map, ℤ}
use Rattle.std.proofs.Math.Option.{Option, none, some}
use Rattle.leaf_words.specs.declared.words.Word as Kind
use Rattle.leaf_words.specs.declared.words.Word.TheVariants.{Number, Name, Reserved, Operator, Unknown}
use Rattle.leaf_bytes.specs.Bytes.{small}
use Rattle.leaf_words.specs.Words.{word_of}
use Rattle.law.specs.Base as Base
use Rattle.law.specs.Base.{◌>>=◌}
use Rattle.law.specs.Trees.{Run, Tree, word, form, Trees, end, ◌then◌}

-- a word with what it says: a number, a name in small letters, or a reserved word or operator as it is spelt in small letters
pub data Word : Type 0 where
  number : ℤ → Word
  name : Base.Name → Word
  key : Base.Name → Word

unfoldable pub word_by : Kind.Word → Run → Option Word
word_by (Number z) w = some (number z)
word_by Name w = some (name (map small w))
word_by (Reserved k) w = some (key (map small w))
word_by (Operator k) w = some (key (map small w))
word_by Unknown w = none

-- row 5: the tree with its words read
unfoldable mutual
  pub worded : Tree Run → Option (Tree Word)
  worded (word w) = word_by (word_of w) w >>= λ v. some (word v)
  worded (form ts) = worded_all ts >>= λ vs. some (form vs)

  pub worded_all : Trees Run → Option (Trees Word)
  worded_all end = some end
  worded_all (t then ts) = worded t >>= λ v. worded_all ts >>= λ vs. some (v then vs)
