-- The type of each cell of the store, as the working list has it: by the newest variable that begins at the cell or before it.
use Rattle.std.specs.Prelude.{Bool, cond, ◌&&◌, List, [], ◌∷◌, ℕ, zero, suc, ◌+◌, ◌-◌, ◌/◌, ◌%◌, eqb, leb, ltb, get_or}
use Rattle.table_names.specs.Chain.{entries}
use Rattle.table_scope.specs.Descriptions.{info_of}
use Rattle.table_scope.specs.declared.Info.{Info}
use Rattle.rule_stores.specs.declared.Cell.{Cell}

-- ---- a cell of a type

abbrev pub cell_by : ℕ → ℕ → Cell
cell_by t i = record { kind = t; place = i }

-- cell i of n fields from q on, as one of the field that has it
unfoldable pub field_cell : List ℕ → List ℕ → ℕ → ℕ → ℕ → Cell
field_cell l ts q zero i = cell_by 0 0
field_cell l ts q (suc n) i =
    cond (ltb i (info_of l ts (get_or l (q + 1) 0)).size) (cell_by (get_or l (q + 1) 0) i)
    (field_cell l ts (q + 4) n (i - (info_of l ts (get_or l (q + 1) 0)).size))

-- cell i of an array whose elements have type t and n cells, as one of an element
unfoldable pub element_cell : ℕ → ℕ → ℕ → Cell
element_cell t i n = cell_by t (i % n)

-- cell i of an array or a record that x describes, as one of its element's or a field's
unfoldable pub inner_cell : List ℕ → List ℕ → Info → ℕ → Cell
inner_cell l ts x i = cond (eqb x.shape 2) (element_cell x.element i (info_of l ts x.element).size) (field_cell l ts (x.place + 8) x.fields i)

-- the ordinal or set type of cell i of type t, at most d types inside it
unfoldable pub leaf_type : ℕ → List ℕ → List ℕ → ℕ → ℕ → ℕ
leaf_type zero l ts t i = t
leaf_type (suc d) l ts t i =
    cond (ltb (info_of l ts t).shape 2) t
    (leaf_type d l ts (inner_cell l ts (info_of l ts t) i).kind (inner_cell l ts (info_of l ts t) i).place)

-- ---- a cell of the store

-- whether an entry's second and third numbers are a variable's that begins at cell c or before it
unfoldable pub begins_by : ℕ → ℕ → ℕ → Bool
begins_by sort more c = eqb (sort % 4) 1 && leb (more / 128) c

-- so of the entry at p
unfoldable pub begins_at : List ℕ → ℕ → ℕ → Bool
begins_at l p c = begins_by (get_or l (p + 1) 0) (get_or l (p + 2) 0) c

-- the place of the first of the entries that is such a variable's, 0 if none is
unfoldable pub holder : List ℕ → List ℕ → ℕ → ℕ
holder l [] c = 0
holder l (p ∷ ps) c = cond (begins_at l p c) p (holder l ps c)

-- the type of cell c, by the third number of its variable's entry
unfoldable pub type_by : List ℕ → List ℕ → ℕ → ℕ → ℕ
type_by l ts more c = leaf_type 66 l ts (more % 128) ((c - more / 128) % 4096)

-- and so among so many entries from the newest on
unfoldable pub cell_type : List ℕ → List ℕ → ℕ → ℕ → ℕ → ℕ
cell_type l ts count newest c = type_by l ts (get_or l (holder l (entries count l newest) c + 2) 0) c
