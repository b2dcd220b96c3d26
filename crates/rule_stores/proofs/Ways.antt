-- The ways through the functions of the crate.
use mathlib.Core.Path.{◌≡◌, refl, sym, ap, ◌∙◌}
use mathlib.Core.Bool.{Bool, true, false, cond}
use mathlib.Core.List.{List}
use Prim.Native.Nat.{ℕ, zero, suc, ◌+◌, ◌*◌, ◌-◌, ◌/◌, ◌%◌, ◌<◌, ◌≤◌}
use native.Mathlib.Nat.{mod-zero}
use native.Mathlib.Omega.{arith}
use borrow.Author.Tests.{eq-eqb, eqb-false, eqb-true, ne_eqb, lt-ltb, le-ltb}
use lib.Dec.{eqb, leb, ltb}
use lib.IntN.{ℤ, pos, negsuc, ◌-ℤ◌}
use lib.ListN.{get_or}
use mir.Syntax.{w32, w64}
use mir.Val.{Fits, SFits, to_z, of_z}
use mir.Facts.{to_z-of_z}
use Rattle.leaf_integers.specs.Integers.{inside, is_zero}
use Rattle.leaf_integers.proofs.Machine.{wire, zero_bits}
use Rattle.leaf_sets.specs.Sets.{lies_in}
use Rattle.leaf_words.specs.Numbers.{signed}
use Rattle.leaf_words.proofs.DecimalHex.{signed_low, signed-fits, signed_high}
use Rattle.table_names.specs.Chain.{entries}
use Rattle.table_scope.specs.Descriptions.{info_of}
use Rattle.table_scope.specs.declared.Info.{Info}
use Rattle.rule_stores.specs.declared.Cell.{Cell}
use Rattle.rule_stores.specs.Cells.{cell_by, field_cell, element_cell, inner_cell, leaf_type, begins_by, begins_at, holder, type_by, cell_type}
use Rattle.rule_stores.specs.Stores.{value_fits, mark_fits, cell_passes}

-- ---- `field_cell`: cell i of the n fields from p on is still sought

-- the field at q, then those after it
field-asked : (l ts : List ℕ) (q n i : ℕ) → 0 < n
    → field_cell l ts q n i ≡ cond (ltb i (info_of l ts (get_or l (q + 1) 0)).size) (cell_by (get_or l (q + 1) 0) i)
    (field_cell l ts (q + 4) (n - 1) (i - (info_of l ts (get_or l (q + 1) 0)).size))
unfolding field_cell
field-asked l ts q zero i h = absurd (omega arith)
field-asked l ts q (suc n) i h = let z : suc n - 1 ≡ n = omega arith in rw z refl

-- k fields are passed
pub record Finding (l ts : List ℕ) (place fields cell k p i : ℕ) : Type 0 where
  pub same-cell : field_cell l ts (place + 8) fields cell ≡ field_cell l ts p (fields - k) i
  pub early : p + 4 * (fields - k) < 42949672960

module _ (l ts : List ℕ) (place fields cell : ℕ) where
  pub find-start : Fits w32 place → Fits w32 fields → Finding l ts place fields cell 0 (place + 8) cell
  find-start h g = record { same-cell = (let z : fields - 0 ≡ fields = omega arith in rw z refl); early = omega arith }

  module _ (k p i : ℕ) (F : Finding l ts place fields cell k p i) where
    pub find_none : fields ≤ k → (r : Cell) → r ≡ cell_by 0 0 → r ≡ field_cell l ts (place + 8) fields cell
    unfolding field_cell
    find_none h r e = let z : fields - k ≡ 0 = omega arith in e ∙ sym (F.same-cell ∙ rw z)

    module _ (h : k < fields) where
      pub find-early : p + 4 < 42949672960
      find-early = omega (arith, F.early)

      module _ (t : ℕ) (e : t ≡ get_or l (p + 1) 0) (x : Info) (g : x ≡ info_of l ts t) where
        pub find-here : i < x.size → (r : Cell) → r ≡ cell_by t i → r ≡ field_cell l ts (place + 8) fields cell
        find-here m r f = f ∙ sym (F.same-cell ∙ field-asked l ts p (fields - k) i (omega arith) ∙ rw (← e, ← g, lt-ltb i x.size m))

        pub find-on : x.size ≤ i → Finding l ts place fields cell (k + 1) (p + 4) (i - x.size)
        find-on m = record {
          same-cell =
              let z : fields - k - 1 ≡ fields - (k + 1) = omega arith in
              F.same-cell ∙ field-asked l ts p (fields - k) i (omega arith) ∙ rw (← e, ← g, le-ltb i x.size m, z);
          early = omega (arith, F.early);
        }

pub ruleset find_laws = (find_none, find-here, find-on)

-- ---- `element_cell`, `inner_cell`

module _ (t i n : ℕ) (r : Cell) where
  pub element-none : n ≡ 0 → r ≡ cell_by t i → r ≡ element_cell t i n
  unfolding element_cell
  element-none h e = e ∙ rw (h, mod-zero i)

  pub element-some : r ≡ cell_by t (i % n) → r ≡ element_cell t i n
  unfolding element_cell
  element-some e = e

pub ruleset element_laws = (element-none, element-some)

module _ (l ts : List ℕ) (x : Info) (i : ℕ) (r : Cell) where
  pub inner-array : x.shape ≡ 2 → (y : Info) → y ≡ info_of l ts x.element → r ≡ element_cell x.element i y.size → r ≡ inner_cell l ts x i
  unfolding inner_cell
  inner-array h y e g = g ∙ rw (e, eq-eqb x.shape 2 h)

  pub inner-record : ((x.shape ≡ 2) → ⊥) → r ≡ field_cell l ts (x.place + 8) x.fields i → r ≡ inner_cell l ts x i
  unfolding inner_cell
  inner-record h g = g ∙ rw (ne_eqb x.shape 2 h)

pub ruleset inner_laws = (inner-array, inner-record)

-- ---- `leaf_type`

leaf-step : (d : ℕ) (l ts : List ℕ) (t i : ℕ) → ((d ≡ 0) → ⊥)
    → leaf_type d l ts t i ≡ cond (ltb (info_of l ts t).shape 2) t
    (leaf_type (d - 1) l ts (inner_cell l ts (info_of l ts t) i).kind (inner_cell l ts (info_of l ts t) i).place)
unfolding leaf_type
leaf-step zero l ts t i h = absurd (h refl)
leaf-step (suc d) l ts t i h = let z : suc d - 1 ≡ d = omega arith in rw z refl

module _ (d : ℕ) (l ts : List ℕ) (t i : ℕ) where
  pub leaf-none : d ≡ 0 → t ≡ leaf_type d l ts t i
  unfolding leaf_type
  leaf-none h = rw h refl

  module _ (h : (d ≡ 0) → ⊥) (x : Info) (e : x ≡ info_of l ts t) where
    pub leaf-here : x.shape < 2 → t ≡ leaf_type d l ts t i
    leaf-here k = sym (leaf-step d l ts t i h ∙ rw (← e, lt-ltb x.shape 2 k))

    pub leaf-inside : 2 ≤ x.shape → (c : Cell) → c ≡ inner_cell l ts x i → (r : ℕ) → r ≡ leaf_type (d - 1) l ts c.kind c.place → r ≡ leaf_type d l ts t i
    leaf-inside k c f r g = g ∙ sym (leaf-step d l ts t i h ∙ rw (← e, le-ltb x.shape 2 k, ← f))

pub ruleset leaf_laws = (leaf-none, leaf-here, leaf-inside)

-- ---- `begins_by`

module _ (sort more c : ℕ) where
  pub begins-var : sort % 4 ≡ 1 → leb (more / 128) c ≡ begins_by sort more c
  unfolding begins_by
  begins-var h = rw (eq-eqb (sort % 4) 1 h)

  pub begins-other : ((sort % 4 ≡ 1) → ⊥) → false ≡ begins_by sort more c
  unfolding begins_by
  begins-other h = rw (ne_eqb (sort % 4) 1 h)

pub ruleset begins_laws = (begins-var, begins-other)

pub begins-is : (l : List ℕ) (p c sort more : ℕ) → sort ≡ get_or l (p + 1) 0 → more ≡ get_or l (p + 2) 0 → (b : Bool) → b ≡ begins_by sort more c → b ≡ begins_at l p c
unfolding begins_at
begins-is l p c sort more e f b g = g ∙ rw (e, f)

-- ---- `holder_of`: p and the n entries from it on are still to be asked

asked : (l : List ℕ) (c n p : ℕ) → 0 < n
    → holder l (entries n l p) c ≡ cond (begins_at l p c) p (holder l (entries (n - 1) l (get_or l (p + 3) 0)) c)
unfolding entries holder
asked l c zero p h = absurd (omega arith)
asked l c (suc n) p h = let z : suc n - 1 ≡ n = omega arith in rw z refl

-- k entries are asked
pub record Seeking (l : List ℕ) (count newest c k p : ℕ) : Type 0 where
  pub same_place : holder l (entries count l newest) c ≡ holder l (entries (count - k) l p) c
  pub small-place : Fits w32 p

module _ (l : List ℕ) (count newest c : ℕ) where
  pub seek-start : Fits w32 newest → Seeking l count newest c 0 newest
  seek-start h = record { same_place = (let z : count - 0 ≡ count = omega arith in rw z refl); small-place = h }

  module _ (k p : ℕ) (S : Seeking l count newest c k p) where
    pub seek-small : Fits w32 p
    seek-small = S.small-place

    pub seek-none : count ≤ k → 0 ≡ holder l (entries count l newest) c
    unfolding entries holder
    seek-none h = let z : count - k ≡ 0 = omega arith in sym (S.same_place ∙ rw z)

    module _ (h : k < count) (b : Bool) (t : b ≡ begins_at l p c) where
      pub seek_found : b ≡ true → p ≡ holder l (entries count l newest) c
      seek_found g = sym (S.same_place ∙ asked l c (count - k) p (omega arith) ∙ rw (← t, g))

      pub seek-on : b ≡ false → (q : ℕ) → Fits w32 q → q ≡ get_or l (p + 3) 0 → Seeking l count newest c (k + 1) q
      seek-on g q f i = record {
        same_place =
            let z : count - k - 1 ≡ count - (k + 1) = omega arith in
            S.same_place ∙ asked l c (count - k) p (omega arith) ∙ rw (← t, g, i, z);
        small-place = f;
      }

pub ruleset seek_laws = (seek-none, seek_found, seek-on)

-- ---- `past_base`, `cell_type`

pub type-is : (l ts : List ℕ) (count newest c p more : ℕ) → p ≡ holder l (entries count l newest) c → more ≡ get_or l (p + 2) 0
    → (i : ℕ) → i ≡ (c - more / 128) % 4096 → (r : ℕ) → r ≡ leaf_type 66 l ts (more % 128) i → r ≡ cell_type l ts count newest c
unfolding cell_type type_by
type-is l ts count newest c p more e f i g r h = h ∙ rw (g, f, e)

-- ---- `bound_of`

module _ (n : ℕ) (f : Fits w32 n) (h : 2147483647 < n) where
  pub bound-fits : SFits w64 (to_z w64 n -ℤ pos 4294967296)
  bound-fits = signed-fits n (omega arith) h

  pub bound-high : to_z w64 (of_z w64 (to_z w64 n -ℤ pos 4294967296)) ≡ signed n
  bound-high = signed_high n (omega arith) h

pub ruleset bound_laws = (signed_low, bound-fits, bound-high)

-- ---- `value_fits`, `mark_fits`, `cell_passes`

module _ (x : Info) (v lo hi : ℤ) (p : SFits w64 v) (e : lo ≡ signed x.low) (f : hi ≡ signed x.high) (ql : SFits w64 lo) (qh : SFits w64 hi) (b : Bool) where
  pub value-ordinal : x.shape ≡ 0 → b ≡ inside (wire lo) (wire hi) (wire v) → b ≡ value_fits x v
  unfolding value_fits
  value-ordinal h g = g ∙ rw (to_z-of_z p, to_z-of_z ql, to_z-of_z qh, e, f, eq-eqb x.shape 0 h)

  pub value_set : ((x.shape ≡ 0) → ⊥) → b ≡ lies_in (wire lo) (wire hi) (wire v) → b ≡ value_fits x v
  unfolding value_fits
  value_set h g = g ∙ rw (to_z-of_z p, to_z-of_z ql, to_z-of_z qh, e, f, ne_eqb x.shape 0 h)

pub ruleset value_laws = (value-ordinal, value_set)

zero-only : (v : ℤ) → ((of_z w64 v ≡ 0) → ⊥) → is_zero v ≡ false
unfolding is_zero
zero-only (pos n) h = ne_eqb n 0 (λ e. h (ap (λ k. of_z w64 (pos k)) e))
zero-only (negsuc n) h = refl

module _ (x : Info) (v : ℤ) (m : ℕ) (p : SFits w64 v) where
  pub mark-defined : m ≡ 1 → (b : Bool) → b ≡ value_fits x (wire v) → b ≡ mark_fits x v m
  unfolding mark_fits
  mark-defined h b g = g ∙ rw (to_z-of_z p, h)

  pub mark-undefined : m ≡ 0 → eqb (of_z w64 v) 0 ≡ mark_fits x v m
  unfolding mark_fits is_zero
  mark-undefined h = go (eqb (of_z w64 v) 0) refl
    where
      go : (b : Bool) → eqb (of_z w64 v) 0 ≡ b → b ≡ mark_fits x v m
      go true e = let z : of_z w64 v ≡ 0 = eqb-true _ _ e in rw (h, zero_bits v p z) refl
      go false e = sym (rw h (zero-only v (eqb-false _ _ e)))

  pub mark-other : ((m ≡ 1) → ⊥) → ((m ≡ 0) → ⊥) → false ≡ mark_fits x v m
  unfolding mark_fits
  mark-other h g = rw (ne_eqb m 0 g, ne_eqb m 1 h)

pub ruleset mark_laws = (mark-defined, mark-undefined, mark-other)

pub passes-is : (l ts : List ℕ) (count newest c : ℕ) (v : ℤ) (m : ℕ) → SFits w64 v → (t : ℕ) → t ≡ cell_type l ts count newest c → (x : Info) → x ≡ info_of l ts t
    → (b : Bool) → b ≡ mark_fits x (wire v) m → b ≡ cell_passes l ts count newest c v m
unfolding cell_passes
passes-is l ts count newest c v m p t e x f b g = g ∙ rw (to_z-of_z p, f, e)
