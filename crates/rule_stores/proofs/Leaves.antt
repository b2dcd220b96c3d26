-- The type of a cell of a type is the one that the definitions list.
use mathlib.Core.Path.{◌≡◌, refl, sym, ap, ◌∙◌, subst}
use mathlib.Core.Bool.{false, cond}
use mathlib.Core.List.{List, [], ◌∷◌, ◌++◌}
use Prim.Native.Nat.{ℕ, zero, suc, ◌+◌, ◌-◌, ◌%◌, ◌<◌, ◌≤◌}
use native.Mathlib.Decide.{dec_lt}
use native.Mathlib.Nat.{mod-eq_of_lt, add-mod_left}
use native.Mathlib.Omega.{arith}
use borrow.Author.Tests.{lt-ltb, le-ltb}
use lib.Dec.{ltb}
use lib.ListN.{get_or, length, length-append, get_or-append}
use lib.Seq.{get_or-append-add}
use Rattle.law.specs.Base.{Name}
use Rattle.law.specs.Environment.{Environment, copies, field_cells, lay_fields}
use Rattle.law.specs.Types.{Field, Shape, Types, array_shape, cells_by, cells_of, info_at, is_array, is_record, ordinal_shape, record_shape, set_shape, size_of}
use Rattle.law_theorems.specs.TypeTables.{All}
use Rattle.law_theorems.specs.LinesCover.{Copied, Joined, BuiltTypes}
use Rattle.table_scope.specs.Descriptions.{info_of, fields_at, shape_number}
use Rattle.table_scope.specs.declared.Scope.{Scope}
use Rattle.table_scope.specs.Scene.{Scene}
use Rattle.table_scope.proofs.Telling.{shape-told, size-told, element-told}
use Rattle.rule_stores.specs.declared.Cell.{Cell}
use Rattle.rule_stores.specs.Cells.{cell_by, field_cell, element_cell, inner_cell, leaf_type}

-- ---- lists

-- the first cells of a list, and the others
get_first : (xs ys : List ℕ) (i : ℕ) → i < length xs → get_or (xs ++ ys) i 0 ≡ get_or xs i 0
get_first xs ys i h = get_or-append xs ys 0 i h

get-later : (xs ys : List ℕ) (i : ℕ) → length xs ≤ i → get_or (xs ++ ys) i 0 ≡ get_or ys (i - length xs) 0
get-later xs ys i h = let z : length xs + (i - length xs) ≡ i = omega arith in ap (λ k. get_or (xs ++ ys) k 0) (sym z) ∙ get_or-append-add xs ys (i - length xs) 0

record InCopy (n i : ℕ) (cs : List ℕ) : Type 0 where
  among : i % length cs < length cs
  same : get_or (copies n cs) i 0 ≡ get_or cs (i % length cs) 0

in-copy : (n i : ℕ) (cs : List ℕ) → i < length (copies n cs) → InCopy n i cs
unfolding copies
in-copy zero i cs h = absurd (omega arith)
in-copy (suc n) i cs h = go (dec_lt i (length cs)) (λ k. in-copy n (i - length cs) cs k)
  where
    go : Dec (i < length cs) → (i - length cs < length (copies n cs) → InCopy n (i - length cs) cs) → InCopy (suc n) i cs
    go (yes l) f = record { among = rw (mod-eq_of_lt l) l; same = rw (mod-eq_of_lt l) (get_first cs (copies n cs) i l) }
    go (no g) f =
        let j : length cs ≤ i = omega arith in
        let I : InCopy n (i - length cs) cs = f (omega (arith, length-append cs (copies n cs))) in
        let z : length cs + (i - length cs) ≡ i = omega arith in
        let m : i % length cs ≡ (i - length cs) % length cs = ap (λ q. q % length cs) (sym z) ∙ add-mod_left (length cs) (i - length cs) in
        record { among = rw m I.among; same = rw m (get-later cs (copies n cs) i j ∙ I.same) }

-- ---- one type further in

-- c is cell i of cs, as one of a type before t
pub record Leads (Γ : Types) (t : ℕ) (cs : List ℕ) (i : ℕ) (c : Cell) : Type 0 where
  pub earlier : c.kind < t
  pub among : c.place < size_of Γ c.kind
  pub same : get_or (cells_of Γ c.kind) c.place 0 ≡ get_or cs i 0

abbrev head-type : List Field → ℕ
head-type [] = 0
head-type (f ∷ fs) = f.type

abbrev tail_of : List Field → List Field
tail_of [] = []
tail_of (f ∷ fs) = fs

abbrev some-field : List Field → ℕ
some-field [] = 0
some-field (f ∷ fs) = 1

-- r is the ordinal or set type of cell i of type t
pub record Leaf (Γ : Types) (t i r : ℕ) : Type 0 where
  pub type-is : r ≡ get_or (cells_of Γ t) i 0
  pub simple : shape_number (info_at Γ r).shape < 2

module _ {s l ts : List ℕ} {scope : Scope} {top : ℕ} {σ : Environment} {bs : List ℕ} (S : Scene s l ts scope top σ bs) (B : BuiltTypes σ.types) where
  abbrev Γσ : Types
  Γσ = σ.types

  field-leads : (t q n a : ℕ) (fs : List (Name × ℕ)) → fields_at s l q n ≡ lay_fields Γσ a fs → All (λ u. u < t) fs → (i : ℕ) → i < length (field_cells Γσ fs)
      → Leads Γσ t (field_cells Γσ fs) i (field_cell l ts q n i)
  unfolding fields_at lay_fields field_cells field_cell
  field-leads t q zero a [] e v i h = absurd (omega arith)
  field-leads t q zero a (f ∷ fs) e v i h = let z : ◌≡◌ {A = ℕ} 0 1 = ap some-field e in absurd (omega arith)
  field-leads t q (suc n) a [] e v i h = absurd (omega arith)
  field-leads t q (suc n) a (f ∷ fs) e v i h =
      let y : get_or l (q + 1) 0 ≡ f.1 = ap head-type e in
      let z : (info_of l ts f.1).size ≡ size_of Γσ f.1 = size-told S f.1 in
      rw (y, z) (go (dec_lt i (size_of Γσ f.1)) (λ m. field-leads t (q + 4) n (a + size_of Γσ f.1) fs (ap tail_of e) v.1 (i - size_of Γσ f.1) m))
    where
      go : Dec (i < size_of Γσ f.1)
          → (i - size_of Γσ f.1 < length (field_cells Γσ fs) → Leads Γσ t (field_cells Γσ fs) (i - size_of Γσ f.1) (field_cell l ts (q + 4) n (i - size_of Γσ f.1)))
          → Leads Γσ t (cells_of Γσ f.1 ++ field_cells Γσ fs) i (cond (ltb i (size_of Γσ f.1)) (cell_by f.1 i) (field_cell l ts (q + 4) n (i - size_of Γσ f.1)))
      go (yes k) g = rw (lt-ltb i (size_of Γσ f.1) k) (record { earlier = v.0; among = k; same = sym (get_first (cells_of Γσ f.1) (field_cells Γσ fs) i k) })
      go (no k) g =
          let j : size_of Γσ f.1 ≤ i = omega arith in
          let L = g (omega (arith, length-append (cells_of Γσ f.1) (field_cells Γσ fs))) in
          rw (le-ltb i (size_of Γσ f.1) j) (record { earlier = L.earlier; among = L.among; same = L.same ∙ sym (get-later (cells_of Γσ f.1) (field_cells Γσ fs) i j) })

  module _ (t i : ℕ) where
    array-leads : (info_at Γσ t).shape ≡ array_shape → i < size_of Γσ t → Leads Γσ t (cells_of Γσ t) i (inner_cell l ts (info_of l ts t) i)
    unfolding inner_cell element_cell shape_number
    array-leads e h =
        let C : Copied Γσ t (info_at Γσ t) = (B t).array (ap (λ (x : Shape). is_array x) e) in
        let k : cells_of Γσ t ≡ copies C.count (cells_of Γσ (info_at Γσ t).element) = ap (λ (x : Shape). cells_by x t (info_at Γσ t).cells) e ∙ C.cells_are in
        let I = in-copy C.count i (cells_of Γσ (info_at Γσ t).element) (subst (λ (cs : List ℕ). i < length cs) k h) in
        let n : (info_of l ts t).shape ≡ 2 = shape-told S t ∙ ap shape_number e in
        rw (n, element-told S t, size-told S (info_at Γσ t).element) (record { earlier = C.earlier; among = I.among; same = sym (ap (λ (cs : List ℕ). get_or cs i 0) k ∙ I.same) })

    record-leads : (info_at Γσ t).shape ≡ record_shape → i < size_of Γσ t → Leads Γσ t (cells_of Γσ t) i (inner_cell l ts (info_of l ts t) i)
    unfolding inner_cell shape_number
    record-leads e h =
        let J : Joined Γσ t (info_at Γσ t) = (B t).fielded (ap (λ (x : Shape). is_record x) e) in
        let k : cells_of Γσ t ≡ field_cells Γσ J.parts = ap (λ (x : Shape). cells_by x t (info_at Γσ t).cells) e ∙ J.cells_are in
        let n : (info_of l ts t).shape ≡ 3 = shape-told S t ∙ ap shape_number e in
        let L = field-leads t ((info_of l ts t).place + 8) (info_of l ts t).fields 0 J.parts ((S.types t).fields-are ∙ J.fields-are) J.earlier i (subst (λ (cs : List ℕ). i < length cs) k h) in
        rw n (record { earlier = L.earlier; among = L.among; same = L.same ∙ sym (ap (λ (cs : List ℕ). get_or cs i 0) k) })

    -- the type itself
    own-leaf : (h : Shape) → (info_at Γσ t).shape ≡ h → shape_number h < 2 → i < length (cells_by h t (info_at Γσ t).cells) → cells_by h t (info_at Γσ t).cells ≡ t ∷ [] → Leaf Γσ t i t
    own-leaf h e n g k =
        let z : i ≡ 0 = let m = subst (λ (cs : List ℕ). i < length cs) k g in omega arith in
        record { type-is = sym (rw z (ap (λ (x : Shape). get_or (cells_by x t (info_at Γσ t).cells) 0 0) e ∙ ap (λ (cs : List ℕ). get_or cs 0 0) k)); simple = rw e n }

    inner-leaf : (d : ℕ) → ((u j : ℕ) → u < d → j < size_of Γσ u → Leaf Γσ u j (leaf_type d l ts u j)) → t < suc d
        → Leads Γσ t (cells_of Γσ t) i (inner_cell l ts (info_of l ts t) i)
        → Leaf Γσ t i (leaf_type d l ts (inner_cell l ts (info_of l ts t) i).kind (inner_cell l ts (info_of l ts t) i).place)
    inner-leaf d f h L =
        let F = f (inner_cell l ts (info_of l ts t) i).kind (inner_cell l ts (info_of l ts t) i).place (omega (arith, L.earlier)) L.among in
        record { type-is = F.type-is ∙ L.same; simple = F.simple }

  pub leaf-is : (d t i : ℕ) → t < d → i < size_of Γσ t → Leaf Γσ t i (leaf_type d l ts t i)
  unfolding leaf_type shape_number
  leaf-is zero t i h g = absurd (omega arith)
  leaf-is (suc d) t i h g = go (info_at Γσ t).shape refl (λ u j. leaf-is d u j)
    where
      go : (x : Shape) → (info_at Γσ t).shape ≡ x → ((u j : ℕ) → u < d → j < size_of Γσ u → Leaf Γσ u j (leaf_type d l ts u j)) → Leaf Γσ t i (leaf_type (suc d) l ts t i)
      go ordinal_shape e f = let n : (info_of l ts t).shape ≡ 0 = shape-told S t ∙ ap shape_number e in rw n (own-leaf t i ordinal_shape e (omega arith) (rw e at g) refl)
      go set_shape e f = let n : (info_of l ts t).shape ≡ 1 = shape-told S t ∙ ap shape_number e in rw n (own-leaf t i set_shape e (omega arith) (rw e at g) refl)
      go array_shape e f = let n : ltb (info_of l ts t).shape 2 ≡ false = ap (λ m. ltb m 2) (shape-told S t ∙ ap shape_number e) in rw n (inner-leaf t i d f h (array-leads t i e g))
      go record_shape e f = let n : ltb (info_of l ts t).shape 2 ≡ false = ap (λ m. ltb m 2) (shape-told S t ∙ ap shape_number e) in rw n (inner-leaf t i d f h (record-leads t i e g))
