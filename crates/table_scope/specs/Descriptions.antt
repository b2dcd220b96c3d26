-- Descriptions of types in the working list. A description is eight numbers, and four more for each field of a record: the offset of its
-- name in the text, its type, where its cells begin, and one that is free. The places of descriptions stand by type number in a short
-- list of their own; the two built-in types have none.
use Rattle.std.specs.Prelude.{cond, List, [], ◌∷◌, map, ◌≡◌, ℕ, zero, suc, ◌+◌, ◌*◌, ◌≤◌, eqb, length, get_or}
use Rattle.leaf_bytes.specs.Bytes.{small, same}
use Rattle.law.specs.Base.{Name}
use Rattle.code.specs.Layout.{bits}
use Rattle.law.specs.Trees.{word_at}
use Rattle.law.specs.Types.{Shape, ordinal_shape, set_shape, array_shape, record_shape, Field, TypeInfo, cells_by}
use Rattle.table_scope.specs.declared.Info.{Info}

-- a shape's number
unfoldable pub shape_number : Shape → ℕ
shape_number ordinal_shape = 0
shape_number set_shape = 1
shape_number array_shape = 2
shape_number record_shape = 3

-- an ordinal type, by its host and its bounds in 32 bits; integer and boolean
abbrev pub ordinal_info : ℕ → ℕ → ℕ → Info
ordinal_info host low high = record { shape = 0; host = host; low = low; high = high; size = 1; index = 0; element = 0; fields = 0; place = 0 }

unfoldable pub integer_info : Info
integer_info = ordinal_info 0 2147483648 2147483647

unfoldable pub boolean_info : Info
boolean_info = ordinal_info 1 0 1

-- what stands for a type that no line declared
unfoldable pub no_info : Info
no_info = record { shape = 3; host = 0; low = 0; high = 0; size = 0; index = 0; element = 0; fields = 0; place = 0 }

-- the description at p
unfoldable pub read_info : List ℕ → ℕ → Info
read_info l p = record {
  shape = get_or l p 0;
  host = get_or l (p + 1) 0;
  low = get_or l (p + 2) 0;
  high = get_or l (p + 3) 0;
  size = get_or l (p + 4) 0;
  index = get_or l (p + 5) 0;
  element = get_or l (p + 6) 0;
  fields = get_or l (p + 7) 0;
  place = p;
}

-- the description of type k; ts holds the places
unfoldable pub info_of : List ℕ → List ℕ → ℕ → Info
info_of l ts k =
    cond (eqb k 0) integer_info (cond (eqb k 1) boolean_info
    (cond (eqb (get_or ts k 0) 0) no_info (read_info l (get_or ts k 0))))

-- n fields from q on
unfoldable pub fields_at : List ℕ → List ℕ → ℕ → ℕ → List Field
fields_at s l q zero = []
fields_at s l q (suc n) = record { name = map small (word_at s (get_or l q 0)); type = get_or l (q + 1) 0; offset = get_or l (q + 2) 0 } ∷ fields_at s l (q + 4) n

-- the place of the first of n fields from q on that has a name, 0 if none has
unfoldable pub field_place : List ℕ → List ℕ → ℕ → ℕ → Name → ℕ
field_place s l q zero w = 0
field_place s l q (suc n) w = cond (same (map small (word_at s (get_or l q 0))) w) q (field_place s l (q + 4) n w)

-- a description tells what the table of types says
pub record Tells (s l : List ℕ) (x : Info) (i : TypeInfo) : Type 0 where
  pub shape_is : x.shape ≡ shape_number i.shape
  pub host-is : x.host ≡ i.host
  pub low-is : x.low ≡ bits i.low
  pub high_is : x.high ≡ bits i.high
  pub size_is : (t : ℕ) → x.size ≡ length (cells_by i.shape t i.cells)
  pub index_is : x.index ≡ i.index
  pub element-is : x.element ≡ i.element
  pub fields-are : fields_at s l (x.place + 8) x.fields ≡ i.fields

-- a description, if it stands in the list, ends at or below top, and within the room
pub record EndsBelow (top : ℕ) (x : Info) : Type 0 where
  pub end_below : 1 ≤ x.place → x.place + 8 + 4 * x.fields ≤ top
  pub within : x.place + 8 + 4 * x.fields ≤ 16384
