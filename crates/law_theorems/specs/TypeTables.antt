-- Tables of types whose entries are sane, and variables laid in cells. The laws are in proofs/.
use Rattle.std.specs.Prelude.{◌≡◌, true, List, [], ◌∷◌, ℕ, ◌*◌, ◌≤◌, ◌<◌, ℤ, pos, ◌-ℤ◌, length}
use Rattle.std.proofs.Math.Option.{some}
use Rattle.std.specs.Int.Signed.{le_z}
use Rattle.leaf_integers.specs.Integers.{inside, least, most}
use Rattle.law.specs.Base.{Name}
use Rattle.law.specs.Calculate.{nat_of}
use Rattle.law.specs.Types.{Field, TypeInfo, Types, Var, Vars, cells_by, cells_of, field_of, info_at, is_array, is_ordinal, is_set, ordinal?, size_of, variable}
use Rattle.law_theorems.specs.ValuesInRange.{At, Test, Here, Parted}

abbrev pub All : (ℕ → Type 0) → List (Name × ℕ) → Type 0
All P [] = Unit {0}
All P (f ∷ fs) = P f.1 × All P fs

-- types that a table of n entries has
pub data AllIn (n : ℕ) : List ℕ → Type 0 where
  empty : AllIn n []
  more : {t : ℕ} {ts : List ℕ} → t < n → AllIn n ts → AllIn n (t ∷ ts)

pub record Sane (Γ : Types) (t : ℕ) (j : TypeInfo) : Type 0 where
  pub element : is_array j.shape ≡ true → j.element < length Γ
  pub index : is_array j.shape ≡ true → (j.index < length Γ) × (ordinal? Γ j.index ≡ true)
  pub base : is_set j.shape ≡ true → (j.element < length Γ) × (ordinal? Γ j.element ≡ true)
  pub host : is_ordinal j.shape ≡ true → (j.host < length Γ) × (ordinal? Γ j.host ≡ true)
  pub bounds : is_set j.shape ≡ true → (j.low ≡ (info_at Γ j.element).low) × (j.high ≡ (info_at Γ j.element).high)
  pub lowest : is_set j.shape ≡ true → le_z (pos 0) j.low ≡ true
  pub wider : is_ordinal j.shape ≡ true → (le_z (info_at Γ j.host).low j.low ≡ true) × (le_z j.high (info_at Γ j.host).high ≡ true)
  pub small : is_ordinal j.shape ≡ true → (le_z least j.low ≡ true) × (le_z j.high most ≡ true)
  pub filled : is_ordinal j.shape ≡ true → le_z j.low j.high ≡ true
  pub nonempty : is_array j.shape ≡ true → le_z j.low j.high ≡ true
  pub inner : t < length Γ → AllIn (length Γ) (cells_by j.shape t j.cells)
  pub field_types : (n : Name) (f : Field) → field_of j.fields n ≡ some f → f.type < length Γ
  pub elements : is_array j.shape ≡ true → (z : ℤ) → inside j.low j.high z ≡ true
      → At (cells_by j.shape t j.cells) (nat_of (z -ℤ j.low) * size_of Γ j.element) (cells_of Γ j.element)
  pub apart : (n m : Name) (f g : Field) → field_of j.fields n ≡ some f → field_of j.fields m ≡ some g → Parted Γ f.offset f.type g.offset g.type
  pub places : (n : Name) (f : Field) → field_of j.fields n ≡ some f → At (cells_by j.shape t j.cells) f.offset (cells_of Γ f.type)

pub record Table (Γ : Types) : Type 0 where
  pub each : (t : ℕ) → Sane Γ t (info_at Γ t)
  pub integers : (ordinal? Γ 0 ≡ true) × ((info_at Γ 0).low ≡ least) × ((info_at Γ 0).high ≡ most)
  pub booleans : (ordinal? Γ 1 ≡ true) × ((info_at Γ 1).low ≡ pos 0) × ((info_at Γ 1).high ≡ pos 1)
  pub two : 2 ≤ length Γ

pub record Laid (Γ : Types) (Δ : Vars) (tests : List Test) : Type 0 where
  pub found : (i : ℕ) (v : Var) → variable Δ i ≡ some v → Here Γ tests v.base (cells_of Γ v.type)
  pub apart : (i j : ℕ) (v w : Var) → variable Δ i ≡ some v → variable Δ j ≡ some w → Parted Γ v.base v.type w.base w.type
