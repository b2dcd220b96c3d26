-- "Ceilings" (row 9).
use Rattle.std.specs.Prelude.{Bool, true, ◌&&◌, List, [], ◌∷◌, ℕ, suc, ◌+◌, ◌*◌, pos, leb, length}
use Rattle.std.specs.Int.Signed.{le_z}
use Rattle.law.specs.Base.{Name}
use Rattle.law.specs.Environment.{Declared, value_count}
use Rattle.law.specs.Script.{Decl, Entry, alias, array_of, enum, new_main, new_proc, new_type, new_var, range, record_of, set_of}
use Rattle.law.specs.Types.{Types, info_at, size_of}

-- the cells of a record
unfoldable pub field_sizes : Types → List (Name × ℕ) → ℕ
field_sizes Γ [] = 0
field_sizes Γ (f ∷ fs) = size_of Γ f.1 + field_sizes Γ fs

unfoldable pub type_bounded : Types → Decl → Bool
type_bounded Γ (alias t) = true
type_bounded Γ (enum v vs) = leb (suc (length vs)) 256
type_bounded Γ (range a b) = true
type_bounded Γ (array_of i e) = leb (value_count Γ i) 256 && leb (value_count Γ i * size_of Γ e) 2048
type_bounded Γ (record_of fs) = leb (length fs) 16 && leb (field_sizes Γ fs) 2048
type_bounded Γ (set_of b) = le_z (pos 0) (info_at Γ b).low && le_z (info_at Γ b).high (pos 31)

-- parameters "count among the 128 variables and 2,048 cells", those of all procedures, called or not
abbrev pub variables_in : Declared → ℕ
variables_in k = length k.env.vars + length k.env.parameters

abbrev pub cells_in : Declared → ℕ
cells_in k = length k.cells + length k.env.parameters

-- a line within its ceilings: declared types, variables and cells, procedures and their parameters
unfoldable pub line_bounded : Declared → Entry → Bool
line_bounded k (new_type w d) = leb (suc k.type_lines) 64 && type_bounded k.env.types d
line_bounded k (new_var w t) = leb (suc (variables_in k)) 128 && leb (cells_in k + size_of k.env.types t) 2048
line_bounded k (new_proc w ps b) = leb (suc (length k.bodies)) 32 && leb (length ps) 8 && leb (variables_in k + length ps) 128 && leb (cells_in k + length ps) 2048
line_bounded k (new_main b) = true
