-- What a cell may hold, as a test for each cell; tables and tests that belong together. The laws are in proofs/.
use Rattle.std.specs.Prelude.{◌≡◌, Bool, true, List, ℕ, ◌+◌, ◌*◌, ◌≤◌, ◌<◌, ℤ, pos, ◌-ℤ◌, get_or, length}
use Rattle.std.proofs.Math.Option.{some}
use Rattle.std.specs.Int.Signed.{le_z}
use Rattle.leaf_integers.specs.Integers.{inside, least, most}
use Rattle.law.specs.Base.{Name}
use Rattle.law.specs.Calculate.{nat_of}
use Rattle.law.specs.Store.{cell_fits}
use Rattle.law.specs.Types.{Field, Types, Var, Vars, array?, cells_of, field_of, host_of, info_at, ordinal?, set?, size_of, variable}

-- an integer of the language
pub record InInt (z : ℤ) : Type 0 where
  pub ok : inside least most z ≡ true

pub record At (xs : List ℕ) (a : ℕ) (ys : List ℕ) : Type 0 where
  pub short : a + length ys ≤ length xs
  pub each : (j : ℕ) → j < length ys → get_or xs (a + j) 0 ≡ get_or ys j 0

-- the tests of a store's cells: what a defined one may hold. Bodies of different lines share them, though their tables differ
abbrev pub Test : Type 0
Test = ℤ → Bool

abbrev pub any : Test
any z = true

-- cells of the types ts stand among the tests from a on
pub record Here (Γ : Types) (tests : List Test) (a : ℕ) (ts : List ℕ) : Type 0 where
  pub short : a + length ts ≤ length tests
  pub each : (j : ℕ) → j < length ts → (z : ℤ) → get_or tests (a + j) any z ≡ cell_fits Γ (get_or ts j 0) z

-- the cells of type t from a on and those of type u from b on: the same, or apart
pub data Parted (Γ : Types) (a t b u : ℕ) : Type 0 where
  one : a ≡ b → t ≡ u → Parted Γ a t b u
  before : a + size_of Γ t ≤ b → Parted Γ a t b u
  behind : b + size_of Γ u ≤ a → Parted Γ a t b u

-- what is asked of the tables; proved once, where they are built
pub record Formed (Γ : Types) (Δ : Vars) (tests : List Test) : Type 0 where
  pub vars : (i : ℕ) (v : Var) → variable Δ i ≡ some v → Here Γ tests v.base (cells_of Γ v.type)
  pub apart : (i j : ℕ) (v w : Var) → variable Δ i ≡ some v → variable Δ j ≡ some w → Parted Γ v.base v.type w.base w.type
  pub fields_apart : (t : ℕ) (n m : Name) (f g : Field) → field_of (info_at Γ t).fields n ≡ some f → field_of (info_at Γ t).fields m ≡ some g → Parted Γ f.offset f.type g.offset g.type
  pub elements : (t : ℕ) → array? Γ t ≡ true → (z : ℤ) → inside (info_at Γ t).low (info_at Γ t).high z ≡ true
      → At (cells_of Γ t) (nat_of (z -ℤ (info_at Γ t).low) * size_of Γ (info_at Γ t).element) (cells_of Γ (info_at Γ t).element)
  pub indexes : (t : ℕ) → array? Γ t ≡ true → ordinal? Γ (info_at Γ t).index ≡ true
  pub fields : (t : ℕ) (n : Name) (f : Field) → field_of (info_at Γ t).fields n ≡ some f → At (cells_of Γ t) f.offset (cells_of Γ f.type)
  pub hosts : (t : ℕ) → ordinal? Γ t ≡ true → ordinal? Γ (host_of Γ t) ≡ true
  pub wider : (t : ℕ) → ordinal? Γ t ≡ true → (le_z (info_at Γ (host_of Γ t)).low (info_at Γ t).low ≡ true) × (le_z (info_at Γ t).high (info_at Γ (host_of Γ t)).high ≡ true)
  pub small : (t : ℕ) → ordinal? Γ t ≡ true → (le_z least (info_at Γ t).low ≡ true) × (le_z (info_at Γ t).high most ≡ true)
  pub filled : (t : ℕ) → ordinal? Γ t ≡ true → le_z (info_at Γ t).low (info_at Γ t).high ≡ true
  pub nonempty : (t : ℕ) → array? Γ t ≡ true → le_z (info_at Γ t).low (info_at Γ t).high ≡ true
  pub integers : (ordinal? Γ 0 ≡ true) × ((info_at Γ 0).low ≡ least) × ((info_at Γ 0).high ≡ most)
  pub booleans : (ordinal? Γ 1 ≡ true) × ((info_at Γ 1).low ≡ pos 0) × ((info_at Γ 1).high ≡ pos 1)
  pub bases : (t : ℕ) → set? Γ t ≡ true → ordinal? Γ (info_at Γ t).element ≡ true
  pub bounds : (t : ℕ) → set? Γ t ≡ true → ((info_at Γ t).low ≡ (info_at Γ (info_at Γ t).element).low) × ((info_at Γ t).high ≡ (info_at Γ (info_at Γ t).element).high)
  pub lowest : (t : ℕ) → set? Γ t ≡ true → le_z (pos 0) (info_at Γ t).low ≡ true
