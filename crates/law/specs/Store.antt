-- Document 01, "Refusal table": the lent store, rows 10 and 11.
use Rattle.std.specs.Prelude.{Bool, true, false, cond, ◌&&◌, List, [], ◌∷◌, ℕ, ℤ, eqb, length}
use Rattle.std.proofs.Math.Option.{Option, none, some}
use Rattle.leaf_integers.specs.Integers.{inside, is_zero}
use Rattle.leaf_sets.specs.Sets.{lies_in}
use Rattle.law.specs.Machine.{defined, is_defined}
use Rattle.law.specs.Types.{Types, info_at, ordinal?}

-- a value of a cell's type: an ordinal in its bounds, or a set of ordinals in its base's
abbrev pub cell_fits : Types → ℕ → ℤ → Bool
cell_fits Γ t v = cond (ordinal? Γ t) (inside (info_at Γ t).low (info_at Γ t).high v) (lies_in (info_at Γ t).low (info_at Γ t).high v)

-- row 11 finds no fault in a cell: it is defined, by mark 1, with a value of its type, or undefined with value 0
abbrev pub cell_ok : Types → ℕ → ℤ → ℕ → Bool
cell_ok Γ t v m = cond (is_defined m) (eqb m defined && cell_fits Γ t v) (is_zero v)

unfoldable pub cells_ok : Types → List ℕ → List ℤ → List ℕ → Bool
cells_ok Γ [] vs ms = true
cells_ok Γ (t ∷ ts) [] ms = true
cells_ok Γ (t ∷ ts) (v ∷ vs) [] = true
cells_ok Γ (t ∷ ts) (v ∷ vs) (m ∷ ms) = cell_ok Γ t v m && cells_ok Γ ts vs ms

-- rows 10 and 11, by whether the lengths are right and whether the cells are
unfoldable pub fault_of : Bool → Bool → Option ℕ
fault_of false cells = some 10
fault_of true false = some 11
fault_of true true = none

unfoldable pub store_fault : Types → List ℕ → List ℤ → List ℕ → Option ℕ
store_fault Γ ts vs ms = fault_of (eqb (length vs) (length ts) && eqb (length ms) (length ts)) (cells_ok Γ ts vs ms)
