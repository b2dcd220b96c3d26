-- What a reader at an offset of the text is told, in terms of the trees from there on (law, Trees).
use Rattle.std.specs.Prelude.{◌≡◌, List, [], ℕ, ◌-◌, ◌<◌, ◌≤◌, length, take, drop}
use Rattle.law.specs.Trees.{word, form, Trees, end, Run, first, later, push, word_at}
use Rattle.law_theorems.specs.Readings.{rest_at, stack_at}
use Rattle.leaf_words.specs.Words.{word_of}
use Rattle.text_words.specs.declared.sight.Seen.{Seen}
use Rattle.text_words.specs.declared.sight.Sight as sight
use Rattle.text_words.specs.declared.sight.Sight.{Sight}

-- k is what stands from the offset on
abbrev pub LooksBy : List ℕ → List (Trees Run) → Sight → Type 0
LooksBy s k (sight.TheVariants.Form p) = k ≡ push (form (first (stack_at s p))) (later (stack_at s p))
LooksBy s k (sight.TheVariants.Leaf p) = (k ≡ push (word (word_at s p)) (rest_at s p)) × (p < length s)
LooksBy s k (sight.TheVariants.Shut p) = (first k ≡ end) × (later k ≡ stack_at s p)

-- a bracket stands before the parts of a form
abbrev pub PastBracket : List ℕ → Sight → Type 0
PastBracket s (sight.TheVariants.Form p) = (1 ≤ p) × (p ≤ length s)
PastBracket s (sight.TheVariants.Leaf p) = Unit {0}
PastBracket s (sight.TheVariants.Shut p) = Unit {0}

-- as a record, so that a proof finds its arguments
pub record Looks (s : List ℕ) (k : List (Trees Run)) (r : Sight) : Type 0 where
  pub says : LooksBy s k r
  pub past : PastBracket s r

-- the word that goes on at p ends at q: its bytes, and what stands from there on
pub record Ends (s : List ℕ) (p q : ℕ) : Type 0 where
  pub after : p ≤ q
  pub short : p ≤ length s → q ≤ length s
  pub bytes : word_at s p ≡ take (q - p) (drop p s)
  pub rest : stack_at s q ≡ rest_at s p

-- the word that goes on at p, and what stands after it
pub record Reads (s : List ℕ) (p : ℕ) (r : Seen) : Type 0 where
  pub said : r.word ≡ word_of (word_at s p)
  pub rest : stack_at s r.next ≡ rest_at s p
  pub moves : ((word_at s p ≡ []) → ⊥) → p < r.next
