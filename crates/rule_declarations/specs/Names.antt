-- A line's parts that are read alike in several forms: a free name, and a type's name or constant that is the last part.
use Rattle.std.specs.Prelude.{Option as Maybe, Some, None, true, false, List, map, ◌≡◌, ℕ, ◌<◌, length}
use Rattle.std.proofs.Math.Option.{Option, none, some}
use Rattle.leaf_bytes.specs.Bytes.{small}
use Rattle.law.specs.Base.{◌>>=◌}
use Rattle.law.specs.Environment.{Environment}
use Rattle.law.specs.Names.{type_of, constant_of}
use Rattle.law.specs.Rules.{plain}
use Rattle.rule_stages.specs.Stages.{staged}
use Rattle.law.specs.Syntax.{TypeName, Constant}
use Rattle.law.specs.Trees.{Trees, Run, first, later, word_at}
use Rattle.law_theorems.specs.Readings.{stack_at}
use Rattle.table_scope.specs.declared.Scope.{Scope}
use Rattle.rule_faults.specs.declared.Fault.{Fault}
use Rattle.rule_faults.specs.declared.Fault.TheVariants.{Name}
use Rattle.table_scope.specs.declared.Meaning.{Meaning}
use Rattle.table_scope.specs.declared.Meaning.TheVariants as meaning
use Rattle.table_scope.specs.Scene.{Scene}
use Rattle.rule_faults.specs.Got.{is_form, lowest}
use Rattle.text_parts.specs.Parts.{LeafAt}
use Rattle.text_heads.specs.Parts.{rest, closed, name_in, type_name_in, constant_in}
use Rattle.text_heads.specs.declared.Atom.{Atom}
use Rattle.text_heads.specs.declared.Atom.TheVariants as AT
use Rattle.rule_atoms.specs.declared.Typed.{Typed}
use Rattle.rule_atoms.specs.declared.Valued.{Valued}
use Rattle.rule_atoms.specs.Answering.{TypeTold, ValueTold}
use Rattle.rule_declarations.specs.declared.FreeName.{FreeName}

-- ---- a free name

-- a word at p that ends at q
abbrev pub named_by : Atom → ℕ → ℕ → Maybe FreeName
named_by (AT.Number z) p q = None
named_by AT.Named p q = Some (record { at = p; next = q })
named_by (AT.Truth b) p q = None
named_by AT.ErrorNumber p q = None
named_by (AT.Base k) p q = None
named_by AT.Nothing p q = None

abbrev pub NamesBy : List ℕ → ℕ → Maybe FreeName → Type 0
NamesBy s at (Some n) = LeafAt s at n.at n.next × (n.at < length s) × (name_in (first (stack_at s at)) ≡ some (map small (word_at s n.at)))
NamesBy s at None = name_in (first (stack_at s at)) ≡ none

pub record GivesName (s : List ℕ) (at : ℕ) (r : Maybe FreeName) : Type 0 where
  pub says : NamesBy s at r

-- row 7 where a new name has a meaning already
abbrev pub new_fault : Fault → Meaning → Fault
new_fault f meaning.Unknown = f
new_fault f (meaning.Type t) = lowest f Name
new_fault f (meaning.Var i t a) = lowest f Name
new_fault f (meaning.Proc p) = lowest f Name
new_fault f (meaning.Value k n) = lowest f Name

-- ---- last parts

unfoldable pub last_type : Trees Run → Option TypeName
last_type us = type_name_in us >>= λ t. closed (rest us) t

unfoldable pub last_constant : Trees Run → Option Constant
last_constant us = constant_in us >>= λ c. closed (rest us) c

pub record GivesLastType (s l : List ℕ) (scope : Scope) (at : ℕ) (r : Typed) : Type 0 where
  pub goes : is_form r.fault ≡ false → later (stack_at s at) ≡ stack_at s r.next
  pub says : (ts : List ℕ) (top : ℕ) (σ : Environment) (bs : List ℕ) → Scene s l ts scope top σ bs
      → TypeTold (staged (last_type (first (stack_at s at))) (type_of σ) (λ _. true) some) r

pub record GivesLastConstant (s l : List ℕ) (scope : Scope) (at : ℕ) (r : Valued) : Type 0 where
  pub goes : is_form r.fault ≡ false → later (stack_at s at) ≡ stack_at s r.next
  pub says : (ts : List ℕ) (top : ℕ) (σ : Environment) (bs : List ℕ) → Scene s l ts scope top σ bs
      → ValueTold (staged (last_constant (first (stack_at s at))) (constant_of σ) plain some) r
