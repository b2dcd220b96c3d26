-- The labels of a `case` as integers, by their values or by their keys: those of one case have one kind, where it is right, so their values tell whether
-- they differ, and their keys tell it of any labels. Both walks over them are one.
use Rattle.std.specs.Prelude.{Bool, true, not, ◌&&◌, List, [], ◌∷◌, ◌++◌, ◌≡◌, ℕ, ◌+◌, ◌<◌, ◌≤◌, ℤ, length, take, Some, None, Option}
use Rattle.std.proofs.Math.Option.{some}
use Rattle.law.specs.Base.{each}
use Rattle.law.specs.Environment.{Environment}
use Rattle.law.specs.Names.{constant_of}
use Rattle.law.specs.Rules.{plain, all_plain}
use Rattle.law.specs.Script.{Const}
use Rattle.law.specs.Syntax.{Constant}
use Rattle.law.specs.Trees.{first}
use Rattle.law_theorems.specs.Readings.{stack_at}
use Rattle.text_words.specs.Passes.{nodes_all}
use Rattle.table_scope.specs.declared.Scope.{Scope}
use Rattle.rule_labels.specs.Hops.{left_at, Nearer}
use Rattle.rule_labels.specs.Marks.{marks_of}
use Rattle.rule_labels.specs.Blocks.{value_at, apart, meets, Held}
use Rattle.rule_labels.specs.Keys.{key_by, key_at}
use Rattle.rule_labels.specs.declared.Mark.{Mark}
use Rattle.rule_labels.specs.declared.By.{By}
use Rattle.rule_labels.specs.declared.By.TheVariants as by
use Rattle.rule_labels.specs.declared.Filled.{Filled}

-- the number of a constant
abbrev pub number_by : By → Const → ℤ
number_by by.Value c = c.value
number_by by.Key c = key_by c.kind c.value

-- the number of the label that a mark stands for, by the tables
abbrev pub number_at : List ℕ → List ℕ → Scope → By → Mark → ℤ
number_at s l scope by.Value m = value_at s l scope m
number_at s l scope by.Key m = key_at s l scope m

-- ---- in an environment

-- the numbers of constants
unfoldable pub numbers_of : By → List Const → List ℤ
numbers_of b [] = []
numbers_of b (c ∷ cs) = number_by b c ∷ numbers_of b cs

-- the numbers of labels whose names are known, all of them in the integers
pub record Numbers (σ : Environment) (b : By) (cs : List Constant) (zs : List ℤ) : Type 0 where
  pub consts : List Const
  pub known : each (constant_of σ) cs ≡ some consts
  pub inside : all_plain consts ≡ true
  pub numbers : numbers_of b consts ≡ zs

-- z is the number of a label
pub record IsNumber (s l : List ℕ) (scope : Scope) (b : By) (z : ℤ) (c : Constant) : Type 0 where
  pub number-is : (σ : Environment) → Held s l scope σ → (x : Const) → constant_of σ c ≡ some x → plain x ≡ true → z ≡ number_by b x

-- ---- the walk over numbers

-- the next label is passed, or none is left
abbrev pub NextNumbersBy : List ℕ → List ℕ → Scope → By → ℕ → Option (ℤ × ℕ) → Type 0
NextNumbersBy s l scope b at (Some (z, q)) = ((c : Constant) × ((left_at s at ≡ (c ∷ left_at s q)) × IsNumber s l scope b z c)) × Nearer s at q
NextNumbersBy s l scope b at None = left_at s at ≡ []

pub record NextNumbers (s l : List ℕ) (scope : Scope) (b : By) (at : ℕ) (r : Option (ℤ × ℕ)) : Type 0 where
  pub says : NextNumbersBy s l scope b at r

-- the numbers of the labels from `at` on are those in the block and then those from the next offset on; a block that is not full holds all
pub record Fills (s l : List ℕ) (scope : Scope) (b : By) (at : ℕ) (r : Filled) (ns : List ℤ) : Type 0 where
  pub within : r.size ≤ length ns
  pub ended : r.size < length ns → left_at s r.next ≡ []
  pub moved : nodes_all (stack_at s r.next) + r.size ≤ nodes_all (stack_at s at)
  pub says : (σ : Environment) → Held s l scope σ → (zs : List ℤ) → Numbers σ b (left_at s at) zs → (ys : List ℤ) × (Numbers σ b (left_at s r.next) ys × (zs ≡ (take r.size ns ++ ys)))

-- whether a label from an offset on has a number of the block
pub record ComesAgain (s l : List ℕ) (scope : Scope) (b : By) (ns : List ℤ) (at : ℕ) (r : Bool) : Type 0 where
  pub says : (σ : Environment) → Held s l scope σ → (zs : List ℤ) → Numbers σ b (left_at s at) zs → r ≡ meets zs ns

-- whether a number of the block comes again in it or after it; if not, those after it alone tell whether all differ
pub record Recurs (s l : List ℕ) (scope : Scope) (b : By) (ns : List ℤ) (at : ℕ) (r : Bool) : Type 0 where
  pub says : (σ : Environment) → Held s l scope σ → (zs : List ℤ) → Numbers σ b (left_at s at) zs → apart (ns ++ zs) ≡ (not r && apart zs)

-- whether the numbers of the labels from an offset inside an arm on differ
pub record DiffersFrom (s l : List ℕ) (scope : Scope) (b : By) (at : ℕ) (r : Bool) : Type 0 where
  pub says : (σ : Environment) → Held s l scope σ → (zs : List ℤ) → Numbers σ b (left_at s at) zs → r ≡ apart zs

-- whether those of the arms at an offset differ
pub record DiffersBy (s l : List ℕ) (scope : Scope) (b : By) (at : ℕ) (r : Bool) : Type 0 where
  pub says : (σ : Environment) → Held s l scope σ → (zs : List ℤ) → Numbers σ b (marks_of (first (stack_at s at))) zs → r ≡ apart zs
