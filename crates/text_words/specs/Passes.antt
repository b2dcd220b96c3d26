-- The flat passes over the words and brackets of a line, as functions of the trees from an offset on.
use Rattle.std.specs.Prelude.{Bool, true, false, ◌&&◌, List, [], ◌∷◌, ◌≡◌, ℕ, ◌+◌, ◌<◌, length}
use Rattle.leaf_words.specs.declared.words.Word.{Word}
use Rattle.leaf_words.specs.declared.words.Word.TheVariants.{Number, Name, Reserved, Operator, Unknown}
use Rattle.leaf_words.specs.Words.{word_of}
use Rattle.law.specs.Trees.{Tree, word, form, Trees, end, ◌then◌, nodes_in, Run, word_at}
use Rattle.law_theorems.specs.Readings.{rest_at, stack_at}
use Rattle.text_words.specs.declared.lines.Hop.{Hop}
use Rattle.text_words.specs.declared.lines.Hop.TheVariants as hop

-- ---- row 5 and the count of row 9: over the trees from an offset on to the line's end, level by level

abbrev pub is_known : Word → Bool
is_known (Number z) = true
is_known Name = true
is_known (Reserved k) = true
is_known (Operator k) = true
is_known Unknown = false

-- every word is of some kind
unfoldable mutual
  pub known_tree : Tree Run → Bool
  known_tree (word w) = is_known (word_of w)
  known_tree (form ts) = known_in ts

  pub known_in : Trees Run → Bool
  known_in end = true
  known_in (t then ts) = known_tree t && known_in ts

unfoldable pub known_all : List (Trees Run) → Bool
known_all [] = true
known_all (ts ∷ k) = known_in ts && known_all k

unfoldable pub nodes_all : List (Trees Run) → ℕ
nodes_all [] = 0
nodes_all (ts ∷ k) = nodes_in ts + nodes_all k

-- the parts of a hop
abbrev pub is_stop : Hop → Bool
is_stop (hop.Leaf b q) = false
is_stop (hop.Open q) = false
is_stop (hop.Gap q) = false
is_stop hop.Stop = true

abbrev pub weight_of : Hop → ℕ
weight_of (hop.Leaf b q) = 1
weight_of (hop.Open q) = 1
weight_of (hop.Gap q) = 0
weight_of hop.Stop = 0

abbrev pub fine_of : Hop → Bool
fine_of (hop.Leaf b q) = b
fine_of (hop.Open q) = true
fine_of (hop.Gap q) = true
fine_of hop.Stop = true

abbrev pub next_of : Hop → ℕ → ℕ
next_of (hop.Leaf b q) p = q
next_of (hop.Open q) p = q
next_of (hop.Gap q) p = q
next_of hop.Stop p = p

-- a word at p
pub record LeafAt (s : List ℕ) (p : ℕ) (h : Hop) : Type 0 where
  pub is_leaf : h ≡ hop.Leaf (fine_of h) (next_of h p)
  pub said : fine_of h ≡ is_known (word_of (word_at s p))
  pub rest : stack_at s (next_of h p) ≡ rest_at s p
  pub moves : ((word_at s p ≡ []) → ⊥) → p < next_of h p

-- what stands at p: so many nodes and such words more than from the next place on, or nothing to the line's end
pub record Hops (s : List ℕ) (p : ℕ) (h : Hop) : Type 0 where
  pub at-end : is_stop h ≡ true → stack_at s p ≡ []
  pub count : is_stop h ≡ false → nodes_all (stack_at s p) ≡ weight_of h + nodes_all (stack_at s (next_of h p))
  pub words : is_stop h ≡ false → known_all (stack_at s p) ≡ (fine_of h && known_all (stack_at s (next_of h p)))
  pub moves : is_stop h ≡ false → p < next_of h p
  pub inside : is_stop h ≡ false → p < length s
