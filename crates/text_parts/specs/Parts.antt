-- Parts of a form by offset: what stands there, in terms of the trees from there on, and how a walk moves over them.
use Rattle.std.specs.Prelude.{List, ◌≡◌, ℕ, Option, Some, None}
use Rattle.leaf_words.specs.Words.{word_of}
use Rattle.law.specs.Trees.{Tree, word, form, end, ◌then◌, Run, first, later, word_at}
use Rattle.law_theorems.specs.Readings.{rest_at, stack_at}
use Rattle.text_parts.specs.declared.Part as part
use Rattle.text_parts.specs.declared.Part.{Part}

-- from `at` on stands t, and then what stands from q on
pub record Before (s : List ℕ) (at : ℕ) (t : Tree Run) (q : ℕ) : Type 0 where
  pub here : first (stack_at s at) ≡ (t then first (stack_at s q))
  pub around : later (stack_at s at) ≡ later (stack_at s q)

-- a word at p, which ends at q
pub record LeafAt (s : List ℕ) (at p q : ℕ) : Type 0 where
  pub leaf : Before s at (word (word_at s p)) q

-- a form whose parts begin at p
pub record FormAt (s : List ℕ) (at p : ℕ) : Type 0 where
  pub here : first (stack_at s at) ≡ (form (first (stack_at s p)) then first (later (stack_at s p)))
  pub around : later (stack_at s at) ≡ later (later (stack_at s p))

-- no part is left; q is past the bracket
pub record ShutAt (s : List ℕ) (at q : ℕ) : Type 0 where
  pub here : first (stack_at s at) ≡ end
  pub around : later (stack_at s at) ≡ stack_at s q

-- the part that begins with a word at p
abbrev pub LeafStandsBy : List ℕ → ℕ → Part → Type 0
LeafStandsBy s p (part.TheVariants.Leaf w p' q) = (p' ≡ p) × (stack_at s q ≡ rest_at s p) × (w ≡ word_of (word_at s p))
LeafStandsBy s p (part.TheVariants.Form p') = ⊥
LeafStandsBy s p (part.TheVariants.Shut q) = ⊥

pub record LeafStands (s : List ℕ) (p : ℕ) (r : Part) : Type 0 where
  pub says : LeafStandsBy s p r

-- the part at an offset
abbrev pub StandsBy : List ℕ → ℕ → Part → Type 0
StandsBy s at (part.TheVariants.Leaf w p q) = LeafAt s at p q × (w ≡ word_of (word_at s p))
StandsBy s at (part.TheVariants.Form p) = FormAt s at p
StandsBy s at (part.TheVariants.Shut q) = ShutAt s at q

pub record Stands (s : List ℕ) (at : ℕ) (r : Part) : Type 0 where
  pub says : StandsBy s at r

-- the offset past a part: what a reader has reached that has read it
abbrev pub past_part : Part → ℕ
past_part (part.TheVariants.Leaf w p q) = q
past_part (part.TheVariants.Form p) = p
past_part (part.TheVariants.Shut q) = q

-- whether the form ends there: the offset past its bracket
abbrev pub ShutsBy : List ℕ → ℕ → Option ℕ → Type 0
ShutsBy s at (Some q) = ShutAt s at q
ShutsBy s at None = first (stack_at s at) ≡ end → ⊥

pub record Shuts (s : List ℕ) (at : ℕ) (r : Option ℕ) : Type 0 where
  pub says : ShutsBy s at r
