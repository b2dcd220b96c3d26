-- What the working list tells of an environment.
use mathlib.Core.Path.{◌≡◌, refl}
use mathlib.Core.Bool.{Bool, true, false, cond}
use mathlib.Core.List.{List, map}
use mathlib.Core.Option.{none, some}
use Prim.Native.Nat.{ℕ, zero, suc, ◌+◌, ◌*◌, ◌≤◌}
use native.Mathlib.Omega.{arith}
use borrow.Author.Tests.{ne_eqb}
use lib.Dec.{eqb}
use lib.ListN.{get_or}
use Rattle.leaf_bytes.specs.Bytes.{small, same}
use Rattle.law.specs.Base.{Name, find}
use Rattle.law.specs.Environment.{Environment}
use Rattle.code.specs.Layout.{bits}
use Rattle.law.specs.Trees.{word_at}
use Rattle.law.specs.Types.{Shape, ordinal_shape, set_shape, array_shape, record_shape, Field, info_at, is_ordinal, is_set, is_array, is_record, host_by, field_of, host_of, size_of, ordinal?, set?, array?, record?}
use Rattle.table_kinds.specs.Kinds.{Kinded, ordinal_by, class_by, side_of}
use Rattle.table_kinds.specs.declared.Class.TheVariants.{Integer, Boolean, Enum}
use Rattle.table_kinds.proofs.Tables.{table-kinded}
use Rattle.table_scope.specs.Descriptions.{shape_number, info_of, fields_at, field_place}
use Rattle.table_scope.specs.Sides.{host_in, class_in, side_in}
use Rattle.table_scope.specs.declared.Scope.{Scope}
use Rattle.table_scope.specs.Scene.{meaning_in, Told, Scene}

-- ---- shapes by number

is-ordinal : (h : Shape) → eqb (shape_number h) 0 ≡ is_ordinal h
unfolding shape_number
is-ordinal ordinal_shape = refl
is-ordinal set_shape = refl
is-ordinal array_shape = refl
is-ordinal record_shape = refl

is-set : (h : Shape) → eqb (shape_number h) 1 ≡ is_set h
unfolding shape_number
is-set ordinal_shape = refl
is-set set_shape = refl
is-set array_shape = refl
is-set record_shape = refl

is-array : (h : Shape) → eqb (shape_number h) 2 ≡ is_array h
unfolding shape_number
is-array ordinal_shape = refl
is-array set_shape = refl
is-array array_shape = refl
is-array record_shape = refl

is-record : (h : Shape) → eqb (shape_number h) 3 ≡ is_record h
unfolding shape_number
is-record ordinal_shape = refl
is-record set_shape = refl
is-record array_shape = refl
is-record record_shape = refl

host-by : (h : Shape) (k x : ℕ) → cond (eqb (shape_number h) 0) x k ≡ host_by h k x
unfolding shape_number
host-by ordinal_shape k x = refl
host-by set_shape k x = refl
host-by array_shape k x = refl
host-by record_shape k x = refl

ordinal-by : (k : ℕ) → cond (eqb k 0) Integer (cond (eqb k 1) Boolean Enum) ≡ ordinal_by k
ordinal-by zero = refl
ordinal-by (suc zero) = refl
ordinal-by (suc (suc k)) = rw (ne_eqb (suc (suc k)) 0 (λ e. omega arith), ne_eqb (suc (suc k)) 1 (λ e. omega arith)) refl

class-by : (h : Shape) (k : ℕ) → class_in (shape_number h) k ≡ class_by h k
unfolding class_in shape_number
class-by ordinal_shape k = ordinal-by k
class-by set_shape k = refl
class-by array_shape k = refl
class-by record_shape k = refl

-- ---- fields

-- what is found under a field's name among fields fs, at place p
pub data FieldFound (l : List ℕ) (fs : List Field) (w : Name) (p : ℕ) : Type 0 where
  no_field : p ≡ 0 → field_of fs w ≡ none → FieldFound l fs w p
  a-field : (f : Field) → 1 ≤ p → field_of fs w ≡ some f → f.type ≡ get_or l (p + 1) 0 → f.offset ≡ get_or l (p + 2) 0 → FieldFound l fs w p

pub field_found : (s l : List ℕ) (w : Name) (q n : ℕ) → 1 ≤ q → FieldFound l (fields_at s l q n) w (field_place s l q n w)
unfolding fields_at field_place field_of
field_found s l w q zero h = no_field refl refl
field_found s l w q (suc n) h = go (same (map small (word_at s (get_or l q 0))) w) refl (field_found s l w (q + 4) n (omega arith))
  where
    go : (b : Bool) → same (map small (word_at s (get_or l q 0))) w ≡ b → FieldFound l (fields_at s l (q + 4) n) w (field_place s l (q + 4) n w)
        → FieldFound l (fields_at s l q (suc n)) w (cond b q (field_place s l (q + 4) n w))
    go true e F = a-field (record { name = map small (word_at s (get_or l q 0)); type = get_or l (q + 1) 0; offset = get_or l (q + 2) 0 }) h (rw (field_of, e) refl) refl refl
    go false e (no_field z f) = no_field z (rw (field_of, e) f)
    go false e (a-field x i f t o) = a-field x i (rw (field_of, e) f) t o

-- ---- the environment

module _ {s l ts : List ℕ} {scope : Scope} {top : ℕ} {σ : Environment} {bs : List ℕ} (S : Scene s l ts scope top σ bs) where
  pub kinded : Kinded σ.types
  kinded = table-kinded σ.types S.table

  pub meant : (w : Name) → Told σ bs (meaning_in s l scope w) (find σ.names w)
  meant w = S.names w

  module _ (k : ℕ) where
    pub shape-told : (info_of l ts k).shape ≡ shape_number (info_at σ.types k).shape
    shape-told = (S.types k).shape_is

    pub shape-ordinal : eqb (info_of l ts k).shape 0 ≡ ordinal? σ.types k
    shape-ordinal = rw shape-told (is-ordinal (info_at σ.types k).shape)

    pub shape-set : eqb (info_of l ts k).shape 1 ≡ set? σ.types k
    shape-set = rw shape-told (is-set (info_at σ.types k).shape)

    pub shape-array : eqb (info_of l ts k).shape 2 ≡ array? σ.types k
    shape-array = rw shape-told (is-array (info_at σ.types k).shape)

    pub shape-record : eqb (info_of l ts k).shape 3 ≡ record? σ.types k
    shape-record = rw shape-told (is-record (info_at σ.types k).shape)

    pub host-told : (info_of l ts k).host ≡ (info_at σ.types k).host
    host-told = (S.types k).host-is

    pub low_told : (info_of l ts k).low ≡ bits (info_at σ.types k).low
    low_told = (S.types k).low-is

    pub high-told : (info_of l ts k).high ≡ bits (info_at σ.types k).high
    high-told = (S.types k).high_is

    pub size-told : (info_of l ts k).size ≡ size_of σ.types k
    size-told = (S.types k).size_is k

    pub index-told : (info_of l ts k).index ≡ (info_at σ.types k).index
    index-told = (S.types k).index_is

    pub element-told : (info_of l ts k).element ≡ (info_at σ.types k).element
    element-told = (S.types k).element-is

    -- what `find_field` asks
    pub fields-short : (info_of l ts k).place + 8 + 4 * (info_of l ts k).fields ≤ 4294967296
    fields-short = let e = (S.described k).within in omega arith

    pub field_told : (w : Name) → FieldFound l (info_at σ.types k).fields w (field_place s l ((info_of l ts k).place + 8) (info_of l ts k).fields w)
    field_told w = rw (S.types k).fields-are at (field_found s l w ((info_of l ts k).place + 8) (info_of l ts k).fields (omega arith))

    pub host-in : host_in l ts k ≡ host_of σ.types k
    unfolding host_in
    host-in = rw (shape-told, host-told) (host-by (info_at σ.types k).shape k (info_at σ.types k).host)

  pub side-in : (k : ℕ) → side_in l ts k ≡ side_of σ.types k
  unfolding side_in
  side-in k = rw (shape-told k, class-by (info_at σ.types k).shape k, element-told k, host-in (info_at σ.types k).element) refl
