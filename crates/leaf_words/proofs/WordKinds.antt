-- Laws of the kinds of word: one for each way through `free_word` and `word_of`. Assumes nothing.
use mathlib.Core.Path.{◌≡◌}
use mathlib.Core.Bool.{Bool, true, false}
use mathlib.Core.List.{List}
use Prim.Native.Nat.{ℕ, ◌-◌, ◌<◌, ◌≤◌}
use borrow.Author.Tests.{lt-ltb, le-ltb}
use Rattle.leaf_words.specs.declared.words.Word.{Word}
use Rattle.leaf_words.specs.declared.words.Word.TheVariants.{Name, Reserved, Operator}
use Rattle.leaf_bytes.specs.Names.{is_name}
use Rattle.leaf_words.specs.Numbers.{number_of}
use Rattle.leaf_reserved.specs.Table.{place_of}
use Rattle.leaf_words.specs.Words.{named, placed, word_of}

module _ (w : List ℕ) (t : Bool) (e : t ≡ is_name w) where
  pub free-name : t ≡ true → Name ≡ named (is_name w) w
  unfolding named
  free-name f = rw (← e, f)

  pub free-number : (r : Word) → t ≡ false → r ≡ number_of w → r ≡ named (is_name w) w
  unfolding named
  free-number r f g = rw (← e, f) g

pub ruleset free_laws = (free-name, free-number)

module _ (w : List ℕ) where
  module _ (k : ℕ) (e : k ≡ place_of w) where
    pub word-reserved : k < 46 → Reserved k ≡ word_of w
    unfolding word_of placed
    word-reserved l = rw (← e, lt-ltb k 46 l)

    pub word-operator : 46 ≤ k → k < 57 → Operator (k - 46) ≡ word_of w
    unfolding word_of placed
    word-operator l m = rw (← e, le-ltb k 46 l, lt-ltb k 57 m)

  pub word-free : (r : Word) → place_of w ≡ 57 → r ≡ named (is_name w) w → r ≡ word_of w
  unfolding word_of placed
  word-free r e f = rw e f

pub ruleset word_laws = (word-reserved, word-operator, word-free)
