-- What the lines of a text keep of its cells: whose they are, and how they are laid. The laws are in proofs/.
use Rattle.std.specs.Prelude.{◌≡◌, true, List, [], ◌∷◌, ℕ, ◌+◌, ◌<◌, get_or, length}
use Rattle.std.proofs.Math.Option.{some}
use Rattle.law.specs.Base.{Name}
use Rattle.law.specs.Environment.{Declared, NameSort, a_proc, a_type, a_value, a_var, copies, field_cells, lay_fields}
use Rattle.law.specs.Script.{Const}
use Rattle.law.specs.Types.{TypeInfo, Types, Var, Vars, cells_of, info_at, is_array, is_record, size_of, variable}
use Rattle.law_theorems.specs.TypeTables.{All}

-- an array's cells
pub record Copied (Γ : Types) (t : ℕ) (j : TypeInfo) : Type 0 where
  pub count : ℕ
  pub cells_are : j.cells ≡ copies count (cells_of Γ j.element)
  pub earlier : j.element < t

-- a record's cells and fields
pub record Joined (Γ : Types) (t : ℕ) (j : TypeInfo) : Type 0 where
  pub parts : List (Name × ℕ)
  pub cells_are : j.cells ≡ field_cells Γ parts
  pub fields-are : j.fields ≡ lay_fields Γ 0 parts
  pub earlier : All (λ u. u < t) parts

-- entry t of a table; it uses only types of smaller numbers
pub record Built (Γ : Types) (t : ℕ) (j : TypeInfo) : Type 0 where
  pub array : is_array j.shape ≡ true → Copied Γ t j
  pub fielded : is_record j.shape ≡ true → Joined Γ t j

abbrev pub BuiltTypes : Types → Type 0
BuiltTypes Γ = (t : ℕ) → Built Γ t (info_at Γ t)

pub data Owns (Γ : Types) (Δ : Vars) (os : List Name) : List (Name × NameSort) → ℕ → Type 0 where
  owns_none : Owns Γ Δ os [] 0
  owns-type : {w : Name} {t n : ℕ} {ns : List (Name × NameSort)} → Owns Γ Δ os ns n → Owns Γ Δ os ((w, a_type t) ∷ ns) n
  owns-proc : {w : Name} {q n : ℕ} {ts : List ℕ} {ns : List (Name × NameSort)} → Owns Γ Δ os ns n → Owns Γ Δ os ((w, a_proc q ts) ∷ ns) n
  owns-value : {w : Name} {c : Const} {n : ℕ} {ns : List (Name × NameSort)} → Owns Γ Δ os ns n → Owns Γ Δ os ((w, a_value c) ∷ ns) n
  owns-var : {w : Name} {i n m : ℕ} {ns : List (Name × NameSort)} (v : Var) → variable Δ i ≡ some v → v.base ≡ n → m ≡ n + size_of Γ v.type
      → ((j : ℕ) → j < size_of Γ v.type → get_or os (n + j) [] ≡ w) → Owns Γ Δ os ns n → Owns Γ Δ os ((w, a_var i) ∷ ns) m

pub record Covered (k : Declared) : Type 0 where
  pub built : BuiltTypes k.env.types
  pub owned : Owns k.env.types k.env.vars k.owners k.env.names (length k.cells)
  pub as_many : length k.owners ≡ length k.cells
