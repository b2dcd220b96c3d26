-- A name that is the last part of a form.
use Rattle.std.specs.Prelude.{Bool, true, false, List, map, ◌≡◌, ℕ, Some, None, Option as Maybe}
use Rattle.std.proofs.Math.Option.{none, some}
use Rattle.leaf_words.specs.declared.words.Word.{Word}
use Rattle.leaf_bytes.specs.Bytes.{small}
use Rattle.law.specs.Base.{◌>>=◌}
use Rattle.law.specs.Trees.{end, first, later, word_at}
use Rattle.law_theorems.specs.Readings.{stack_at}
use Rattle.text_heads.specs.declared.Atom.{Atom}
use Rattle.text_heads.specs.declared.Atom.TheVariants as AT
use Rattle.text_heads.specs.Heads.{atom_of}
use Rattle.text_heads.specs.Parts.{rest, closed, name_in}
use Rattle.text_parts.specs.Parts.{ShutAt}

abbrev pub is_named : Atom → Bool
is_named (AT.Number z) = false
is_named AT.Named = true
is_named (AT.Truth b) = false
is_named AT.ErrorNumber = false
is_named (AT.Base k) = false
is_named AT.Nothing = false

-- a word w at p that ends at q
abbrev pub SoleWordBy : List ℕ → Word → ℕ → ℕ → Maybe (ℕ × ℕ) → Type 0
SoleWordBy s w p q (Some (p', n)) = (p' ≡ p) × (is_named (atom_of w) ≡ true) × ShutAt s q n
SoleWordBy s w p q None = is_named (atom_of w) ≡ true → first (stack_at s q) ≡ end → ⊥

pub record SoleWord (s : List ℕ) (w : Word) (p q : ℕ) (r : Maybe (ℕ × ℕ)) : Type 0 where
  pub says : SoleWordBy s w p q r

-- the part at an offset
abbrev pub SoleNameBy : List ℕ → ℕ → Maybe (ℕ × ℕ) → Type 0
SoleNameBy s at (Some (p, q)) = (name_in (first (stack_at s at)) ≡ some (map small (word_at s p))) × (rest (first (stack_at s at)) ≡ end) × (later (stack_at s at) ≡ stack_at s q)
SoleNameBy s at None = (name_in (first (stack_at s at)) >>= λ n. closed (rest (first (stack_at s at))) n) ≡ none

pub record SoleName (s : List ℕ) (at : ℕ) (r : Maybe (ℕ × ℕ)) : Type 0 where
  pub says : SoleNameBy s at r
