-- Words as expressions and targets, `first` and `last`, and `(- number)`, as the code makes them.
use Rattle.std.specs.Prelude.{Bool, cond, List, [], ◌∷◌, ◌≡◌, ℕ, eqb, ℤ, Some, None, Option as Maybe}
use Rattle.std.proofs.Math.Option.{none, some}
use Rattle.leaf_words.specs.declared.words.Word.{Word}
use Rattle.code.specs.Layout.{lay, flag}
use Rattle.law.specs.Trees.{end, first, later}
use Rattle.law_theorems.specs.Readings.{stack_at}
use Rattle.text_heads.specs.Heads.{atom_of, atom_number}
use Rattle.text_heads.specs.Parts.{rest, number_in}
use Rattle.text_heads.specs.declared.Atom.{Atom}
use Rattle.text_heads.specs.declared.Atom.TheVariants as AT
use Rattle.rule_faults.specs.declared.Fault.{Fault}
use Rattle.rule_faults.specs.declared.Fault.TheVariants.{Kind, Name, Form}
use Rattle.table_scope.specs.declared.Meaning.{Meaning}
use Rattle.table_scope.specs.declared.Meaning.TheVariants as meaning
use Rattle.table_scope.specs.Descriptions.{info_of}
use Rattle.table_scope.specs.Sides.{host_in}
use Rattle.text_parts.specs.Parts.{ShutAt}
use Rattle.rule_expr_nodes.specs.Nodes.{Made, failed_made, node_made, if_clear, literal_made}
use Rattle.rule_expr_nodes.specs.Cells.{cells_made, end_bits}

-- ---- a word as an expression

-- a constant whose 32 bits are n
abbrev pub value_made : ℕ → ℕ → ℕ → ℕ → List ℕ → Made
value_made k n q t l = node_made k q (lay (1 ∷ n ∷ []) t l)

-- a variable of type k
unfoldable pub whole_made : List ℕ → List ℕ → ℕ → ℕ → ℕ → ℕ → Made
whole_made l ts k a q t = cells_made (info_of l ts k).size (host_in l ts k) a q t l

-- a name by its meaning
abbrev pub named_made : List ℕ → List ℕ → Meaning → ℕ → ℕ → Made
named_made l ts meaning.Unknown q t = failed_made Name 0 q t l
named_made l ts (meaning.Type k) q t = failed_made Name 0 q t l
named_made l ts (meaning.Var i k a) q t = whole_made l ts k a q t
named_made l ts (meaning.Proc p) q t = failed_made Name 0 q t l
named_made l ts (meaning.Value k n) q t = value_made k n q t l

abbrev pub word_made : List ℕ → List ℕ → Atom → Meaning → ℕ → ℕ → Made
word_made l ts (AT.Number z) m q t = literal_made 0 z q t l
word_made l ts AT.Named m q t = named_made l ts m q t
word_made l ts (AT.Truth b) m q t = value_made 1 (flag b) q t l
word_made l ts AT.ErrorNumber m q t = node_made 0 q (lay (5 ∷ []) t l)
word_made l ts (AT.Base k) m q t = failed_made Form 0 q t l
word_made l ts AT.Nothing m q t = failed_made Form 0 q t l

-- ---- a word as a target

abbrev pub place_made : List ℕ → Meaning → ℕ → ℕ → Made
place_made l meaning.Unknown q t = failed_made Name 0 q t l
place_made l (meaning.Type k) q t = failed_made Name 0 q t l
place_made l (meaning.Var i k a) q t = node_made k q (lay (40 ∷ a ∷ []) t l)
place_made l (meaning.Proc p) q t = failed_made Name 0 q t l
place_made l (meaning.Value k n) q t = failed_made Name 0 q t l

abbrev pub variable_made : List ℕ → Atom → Meaning → ℕ → ℕ → Made
variable_made l (AT.Number z) m q t = failed_made Form 0 q t l
variable_made l AT.Named m q t = place_made l m q t
variable_made l (AT.Truth b) m q t = failed_made Form 0 q t l
variable_made l AT.ErrorNumber m q t = failed_made Form 0 q t l
variable_made l (AT.Base k) m q t = failed_made Form 0 q t l
variable_made l AT.Nothing m q t = failed_made Form 0 q t l

-- ---- `first` and `last` of a type

-- of type k
unfoldable pub end_made : List ℕ → List ℕ → Bool → ℕ → ℕ → ℕ → Made
end_made l ts last k q t =
    cond (eqb (info_of l ts k).shape 0) (value_made (host_in l ts k) (end_bits last (info_of l ts k)) q t l) (failed_made Kind 0 q t l)

-- of a type whose name has a fault, or none
unfoldable pub bound_made : List ℕ → List ℕ → Bool → Fault → ℕ → ℕ → ℕ → Made
bound_made l ts last f k q t = if_clear f 0 q t l (end_made l ts last k q t)

-- ---- a number as the last part of a form

-- z, and the end of the form at an offset
abbrev pub EndsBy : List ℕ → ℤ → ℕ → Maybe (ℤ × ℕ) → Type 0
EndsBy s z at (Some (y, q)) = (y ≡ z) × ShutAt s at q
EndsBy s z at None = first (stack_at s at) ≡ end → ⊥

pub record Ends (s : List ℕ) (z : ℤ) (at : ℕ) (r : Maybe (ℤ × ℕ)) : Type 0 where
  pub says : EndsBy s z at r

-- a word, and the end of the form at an offset
abbrev pub AfterBy : List ℕ → Atom → ℕ → Maybe (ℤ × ℕ) → Type 0
AfterBy s a at (Some (z, q)) = (atom_number a ≡ some z) × ShutAt s at q
AfterBy s a at None = first (stack_at s at) ≡ end → atom_number a ≡ none

pub record After (s : List ℕ) (w : Word) (at : ℕ) (r : Maybe (ℤ × ℕ)) : Type 0 where
  pub says : AfterBy s (atom_of w) at r

-- the parts from an offset on: one number and no more; else no number where there is one part alone
abbrev pub StandsAloneBy : List ℕ → ℕ → Maybe (ℤ × ℕ) → Type 0
StandsAloneBy s at (Some (z, q)) = (number_in (first (stack_at s at)) ≡ some z) × (rest (first (stack_at s at)) ≡ end) × (later (stack_at s at) ≡ stack_at s q)
StandsAloneBy s at None = rest (first (stack_at s at)) ≡ end → number_in (first (stack_at s at)) ≡ none

pub record StandsAlone (s : List ℕ) (at : ℕ) (r : Maybe (ℤ × ℕ)) : Type 0 where
  pub says : StandsAloneBy s at r
