-- Types as a table, in which a type is a number; 0 is integer and 1 is boolean. Document 01: "Types are the same when
-- declared by the same line". A kind is a type's number: an ordinal's host, any other type itself.
use Rattle.std.specs.Prelude.{Bool, true, false, List, [], ◌∷◌, ℕ, ℤ, pos, length, get_or}
use Rattle.std.proofs.Math.Option.{Option, none, some}
use Rattle.std.proofs.Math.ListN.{get_elem?}
use Rattle.leaf_bytes.specs.Bytes.{same}
use Rattle.law.specs.Base.{Name}

pub data Shape : Type 0 where
  ordinal_shape set_shape array_shape record_shape : Shape

-- a record's field: its name, its type, and where its cells begin in the record's
pub record Field : Type 0 where
  pub name : Name
  pub type : ℕ
  pub offset : ℕ

-- a type by its declaration. Bounds are the least and the greatest value: of an ordinal its own, of a set those of its base, of an array
-- those of its index type. Cells are by their types, each an ordinal or a set
pub data TypeSort : Type 0 where
  ordinal_type : (host : ℕ) (low high : ℤ) → TypeSort  -- a range's host, any other's own number
  set_type : (base : ℕ) (low high : ℤ) → TypeSort
  array_type : (index element : ℕ) (low high : ℤ) (cells : List ℕ) → TypeSort
  record_type : (fields : List Field) (cells : List ℕ) → TypeSort

-- what is asked of any type
pub record TypeInfo : Type 0 where
  pub shape : Shape
  pub host : ℕ
  pub low : ℤ
  pub high : ℤ
  pub cells : List ℕ
  pub index : ℕ
  pub element : ℕ  -- of an array, and the base of a set
  pub fields : List Field

-- the answers, 0 and none where there is nothing to ask
abbrev pub facts : TypeSort → TypeInfo
facts (ordinal_type h lo hi) = record { shape = ordinal_shape; host = h; low = lo; high = hi; cells = []; index = 0; element = 0; fields = [] }
facts (set_type b lo hi) = record { shape = set_shape; host = 0; low = lo; high = hi; cells = []; index = 0; element = b; fields = [] }
facts (array_type i e lo hi cs) = record { shape = array_shape; host = 0; low = lo; high = hi; cells = cs; index = i; element = e; fields = [] }
facts (record_type fs cs) = record { shape = record_shape; host = 0; low = pos 0; high = pos 0; cells = cs; index = 0; element = 0; fields = fs }

abbrev pub Types : Type 0
Types = List TypeSort

-- a number that no line declared is no ordinal, and has no cells and no fields
abbrev pub undeclared : TypeSort
undeclared = record_type [] []

abbrev pub info_at : Types → ℕ → TypeInfo
info_at Γ t = facts (get_or Γ t undeclared)

-- a variable: its type and its first cell
pub record Var : Type 0 where
  pub type : ℕ
  pub base : ℕ

abbrev pub Vars : Type 0
Vars = List Var

abbrev pub variable : Vars → ℕ → Option Var
variable Δ i = get_elem? Δ i

-- ---- what a shape says

abbrev pub is_ordinal : Shape → Bool
is_ordinal ordinal_shape = true
is_ordinal set_shape = false
is_ordinal array_shape = false
is_ordinal record_shape = false

abbrev pub is_set : Shape → Bool
is_set ordinal_shape = false
is_set set_shape = true
is_set array_shape = false
is_set record_shape = false

abbrev pub is_array : Shape → Bool
is_array ordinal_shape = false
is_array set_shape = false
is_array array_shape = true
is_array record_shape = false

abbrev pub is_record : Shape → Bool
is_record ordinal_shape = false
is_record set_shape = false
is_record array_shape = false
is_record record_shape = true

-- the kind of type t, whose host is h; its cells' types
abbrev pub host_by : Shape → ℕ → ℕ → ℕ
host_by ordinal_shape t h = h
host_by set_shape t h = t
host_by array_shape t h = t
host_by record_shape t h = t

abbrev pub cells_by : Shape → ℕ → List ℕ → List ℕ
cells_by ordinal_shape t cs = t ∷ []
cells_by set_shape t cs = t ∷ []
cells_by array_shape t cs = cs
cells_by record_shape t cs = cs

-- the field of that name
unfoldable pub field_of : List Field → Name → Option Field
field_of [] n = none
field_of (f ∷ fs) n = elim (same f.name n) [ true ↦ some f | false ↦ field_of fs n ]

module _ (Γ : Types) where
  abbrev pub host_of : ℕ → ℕ
  host_of t = host_by (info_at Γ t).shape t (info_at Γ t).host

  -- "An ordinal or set is one cell; arrays and records lay theirs in order"
  abbrev pub cells_of : ℕ → List ℕ
  cells_of t = cells_by (info_at Γ t).shape t (info_at Γ t).cells

  abbrev pub size_of : ℕ → ℕ
  size_of t = length (cells_of t)

  abbrev pub ordinal? : ℕ → Bool
  ordinal? k = is_ordinal (info_at Γ k).shape

  abbrev pub set? : ℕ → Bool
  set? k = is_set (info_at Γ k).shape

  abbrev pub array? : ℕ → Bool
  array? k = is_array (info_at Γ k).shape

  abbrev pub record? : ℕ → Bool
  record? k = is_record (info_at Γ k).shape

  -- the kind of a set's members
  abbrev pub base_of : ℕ → ℕ
  base_of k = host_of (info_at Γ k).element
