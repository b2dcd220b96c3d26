-- What the tests of the lent store say of it, and of a cell's variable.
use mathlib.Core.Path.{◌≡◌, refl, sym, ap, ◌∙◌}
use mathlib.Core.Bool.{Bool, true, false, cond, ◌&&◌}
use mathlib.Core.List.{List, [], ◌∷◌, map}
use Prim.Native.Nat.{ℕ, zero, suc, ◌+◌, ◌-◌, ◌%◌, ◌<◌, ◌≤◌}
use native.Mathlib.Decide.{dec_lt}
use native.Mathlib.Nat.{mod-eq_of_lt}
use native.Mathlib.Omega.{arith}
use borrow.Author.Tests.{eq-eqb, ne_eqb}
use lib.Dec.{eqb}
use lib.IntN.{ℤ, pos}
use lib.ListN.{get_or, length}
use mir.Syntax.{w64}
use mir.Val.{SFits}
use mir.Facts.{to_z-of_z}
use Rattle.leaf_integers.specs.Integers.{is_zero, least, most}
use Rattle.leaf_integers.proofs.Machine.{wire}
use Rattle.leaf_integers.proofs.Order.{le_z-trans}
use Rattle.leaf_integers.proofs.Ranges.{inside_both}
use Rattle.leaf_bytes.specs.Bytes.{small}
use Rattle.law.specs.Environment.{Declared}
use Rattle.code.specs.LayoutSize.{IsInteger}
use Rattle.law.specs.Machine.{defined, is_defined}
use Rattle.law.specs.Store.{cell_fits, cell_ok, cells_ok, fault_of, store_fault}
use Rattle.law.specs.Trees.{word_at}
use Rattle.law.specs.Types.{Shape, Types, array_shape, info_at, is_ordinal, is_set, ordinal_shape, record_shape, set_shape, size_of}
use Rattle.code.proofs.LayoutCode.{signed-bits}
use Rattle.law_theorems.specs.LinesCover.{Covered}
use Rattle.law_theorems.proofs.LinesKeep.{text-stand}
use Rattle.law_theorems.specs.LinesKeep.{store_tests}
use Rattle.law_theorems.specs.ValuesInRange.{any}
use Rattle.law_theorems.proofs.Inversion.{and-both}
use Rattle.law_theorems.specs.TypeTables.{Table}
use Rattle.table_names.specs.Chain.{entries, name_at}
use Rattle.table_scope.specs.Descriptions.{info_of, shape_number}
use Rattle.table_scope.proofs.Telling.{shape-ordinal, low_told, high-told}
use Rattle.rule_declarations.specs.State.{Holds}
use Rattle.rule_declarations.specs.declared.State.{State}
use Rattle.rule_stores.specs.Cells.{holder, type_by, cell_type}
use Rattle.rule_stores.specs.Stores.{value_fits, mark_fits, cell_passes, row_number, StoreFault, Owner}
use Rattle.rule_stores.proofs.Leaves.{Leaf, leaf-is}
use Rattle.rule_stores.proofs.Holders.{HeldAt, holder-is}

-- ---- the bounds of an ordinal or a set are integers

pub bounds-are : (Γ : Types) → Table Γ → (t : ℕ) → shape_number (info_at Γ t).shape < 2 → IsInteger (info_at Γ t).low × IsInteger (info_at Γ t).high
unfolding shape_number
bounds-are Γ T t h = go (info_at Γ t).shape refl h
  where
    ordinals : (u : ℕ) → is_ordinal (info_at Γ u).shape ≡ true → IsInteger (info_at Γ u).low × IsInteger (info_at Γ u).high
    ordinals u p =
        let a = (T.each u).small p in
        let f = (T.each u).filled p in (
          inside_both least most (info_at Γ u).low a.0 (le_z-trans (info_at Γ u).low (info_at Γ u).high most f a.1),
          inside_both least most (info_at Γ u).high (le_z-trans least (info_at Γ u).low (info_at Γ u).high a.0 f) a.1,
        )

    go : (x : Shape) → (info_at Γ t).shape ≡ x → shape_number x < 2 → IsInteger (info_at Γ t).low × IsInteger (info_at Γ t).high
    go ordinal_shape e k = ordinals t (ap (λ (x : Shape). is_ordinal x) e)
    go set_shape e k =
        let p : is_set (info_at Γ t).shape ≡ true = ap (λ (x : Shape). is_set x) e in
        let b = (T.each t).bounds p in
        let o = ordinals (info_at Γ t).element ((T.each t).base p).1 in
        (rw b.0 o.0, rw b.1 o.1)
    go array_shape e k = absurd (omega arith)
    go record_shape e k = absurd (omega arith)

-- ---- a cell

module _ {s l ts : List ℕ} {st : State} {k : Declared} {bs : List ℕ} (H : Holds s l ts st k bs) (C : Covered k) (c : ℕ) (h : c < length k.cells) where
  abbrev Γk : Types
  Γk = k.env.types

  held : HeldAt s l k.env.types k.env.vars k.owners c (holder l (entries st.scope.count l st.scope.newest) c)
  held = holder-is s l k.env bs k.env.types k.owners H.names C.owned c h

  pub owner-is : map small (word_at s (get_or l (holder l (entries st.scope.count l st.scope.newest) c) 0 % 32768)) ≡ get_or k.owners c []
  unfolding name_at
  owner-is = held.named

  leaf : Leaf Γk held.var.type (c - held.var.base) (cell_type l ts st.scope.count st.scope.newest c)
  unfolding cell_type type_by
  leaf =
      let v = held.var in
      let t : v.type < length k.env.types = H.keeps.typed held.number v held.known in
      let d : v.type < 66 = omega (arith, H.types_are, H.few-types, H.few-lines) in
      let i : c - v.base < size_of k.env.types v.type = omega (arith, held.from, held.to) in
      let m : (c - v.base) % 4096 ≡ c - v.base = mod-eq_of_lt (omega (arith, H.small-types v.type)) in
      rw (held.kind-is, held.base-is, m) (leaf-is H.scene C.built 66 v.type (c - v.base) d i)

  cell-fits : (v : ℤ) → cell_fits Γk (cell_type l ts st.scope.count st.scope.newest c) v ≡ cell_fits Γk (get_or k.cells c 0) v
  cell-fits v =
      let x = held.var in
      let i : c - x.base < size_of Γk x.type = omega (arith, held.from, held.to) in
      let z : x.base + (c - x.base) ≡ c = omega (arith, held.from) in
      let y : 0 + c ≡ c = omega arith in
      let xs = store_tests Γk k.cells k.env.parameters in
      let S = text-stand k H.keeps in
      ap (λ (t : ℕ). cell_fits Γk t v) leaf.type-is ∙ sym (((H.keeps.laid xs S).found held.number x held.known).each (c - x.base) i v)
      ∙ ap (λ (j : ℕ). get_or xs j any v) (z ∙ sym y) ∙ S.lent.each c h v

  value-is : (v : ℤ) → value_fits (info_of l ts (cell_type l ts st.scope.count st.scope.newest c)) v ≡ cell_fits Γk (cell_type l ts st.scope.count st.scope.newest c) v
  unfolding value_fits
  value-is v =
      let t : ℕ = cell_type l ts st.scope.count st.scope.newest c in
      let b = bounds-are Γk H.scene.table t leaf.simple in
      rw (shape-ordinal H.scene t, low_told H.scene t, high-told H.scene t, signed-bits (info_at Γk t).low b.0, signed-bits (info_at Γk t).high b.1) refl

  pub passes-is-ok : (v : ℤ) (m : ℕ) → cell_passes l ts st.scope.count st.scope.newest c v m ≡ cell_ok Γk (get_or k.cells c 0) v m
  unfolding cell_passes mark_fits
  passes-is-ok v m = ap (λ (b : Bool). cond (is_defined m) (eqb m defined && b) (is_zero v)) (value-is v ∙ cell-fits v)

-- ---- all cells

all_pass : (Γ : Types) (ts : List ℕ) (vs : List ℤ) (ms : List ℕ) → ((i : ℕ) → i < length ts → cell_ok Γ (get_or ts i 0) (get_or vs i (pos 0)) (get_or ms i 0) ≡ true) → cells_ok Γ ts vs ms ≡ true
unfolding cells_ok
all_pass Γ [] vs ms h = refl
all_pass Γ (t ∷ ts) [] ms h = refl
all_pass Γ (t ∷ ts) (v ∷ vs) [] h = refl
all_pass Γ (t ∷ ts) (v ∷ vs) (m ∷ ms) h = and-both (cell_ok Γ t v m) (cells_ok Γ ts vs ms) (h 0 (omega arith)) (all_pass Γ ts vs ms (λ i l. h (suc i) (omega arith)))

one-fails : (Γ : Types) (ts : List ℕ) (vs : List ℤ) (ms : List ℕ) → length vs ≡ length ts → length ms ≡ length ts
    → (i : ℕ) → i < length ts → cell_ok Γ (get_or ts i 0) (get_or vs i (pos 0)) (get_or ms i 0) ≡ false → cells_ok Γ ts vs ms ≡ false
unfolding cells_ok
one-fails Γ [] vs ms e f i l h = absurd (omega arith)
one-fails Γ (t ∷ ts) [] ms e f i l h = absurd (omega (arith, e))
one-fails Γ (t ∷ ts) (v ∷ vs) [] e f i l h = absurd (omega (arith, f))
one-fails Γ (t ∷ ts) (v ∷ vs) (m ∷ ms) e f zero l h = let g : cell_ok Γ t v m ≡ false = h in ap (λ (b : Bool). b && cells_ok Γ ts vs ms) g
one-fails Γ (t ∷ ts) (v ∷ vs) (m ∷ ms) e f (suc i) l h = last (cell_ok Γ t v m) (one-fails Γ ts vs ms (omega (arith, e)) (omega (arith, f)) i (omega arith) h)
  where
    last : (b : Bool) → cells_ok Γ ts vs ms ≡ false → (b && cells_ok Γ ts vs ms) ≡ false
    last true g = g
    last false g = refl

-- ---- the lent store

no_length : (a b : Bool) → 10 ≡ row_number (fault_of (a && false) b)
unfolding row_number fault_of
no_length true b = refl
no_length false b = refl

-- the first n cells have passed
pub record Passed (l ts : List ℕ) (st : State) (vs : List ℤ) (ms : List ℕ) (n : ℕ) : Type 0 where
  pub before : (i : ℕ) → i < n → cell_passes l ts st.scope.count st.scope.newest i (get_or vs i (pos 0)) (get_or ms i 0) ≡ true

module _ (l ts : List ℕ) (st : State) (vs : List ℤ) (ms : List ℕ) where
  pub passed_start : Passed l ts st vs ms 0
  passed_start = record { before = λ i h. absurd (omega arith) }

  pub wrong-values : ((length vs ≡ st.cells) → ⊥) → StoreFault l ts st vs ms 10
  unfolding store_fault fault_of row_number
  wrong-values h = record { says = λ s k bs H C. rw (ne_eqb (length vs) (length k.cells) (λ e. h (e ∙ sym H.cells_are))) }

  pub wrong-marks : ((length ms ≡ st.cells) → ⊥) → StoreFault l ts st vs ms 10
  unfolding store_fault fault_of row_number
  wrong-marks h = record { says = λ s k bs H C. rw (ne_eqb (length ms) (length k.cells) (λ e. h (e ∙ sym H.cells_are))) (no_length (eqb (length vs) (length k.cells)) (cells_ok k.env.types k.cells vs ms)) }

  module _ (c : ℕ) (P : Passed l ts st vs ms c) where
    pub all-passed : length vs ≡ st.cells → length ms ≡ st.cells → st.cells ≤ c → StoreFault l ts st vs ms 0
    unfolding store_fault fault_of row_number
    all-passed e f h = record {
      says = λ s k bs H C.
          let a : cells_ok k.env.types k.cells vs ms ≡ true = all_pass k.env.types k.cells vs ms
          (λ i n. sym (passes-is-ok H C i n (get_or vs i (pos 0)) (get_or ms i 0)) ∙ P.before i (omega (arith, H.cells_are))) in
          rw (eq-eqb (length vs) (length k.cells) (e ∙ H.cells_are), eq-eqb (length ms) (length k.cells) (f ∙ H.cells_are), a) refl;
    }

    module _ (d : c < st.cells) where
      pub here-values : length vs ≡ st.cells → c < length vs
      here-values e = omega arith

      pub here-marks : length ms ≡ st.cells → c < length ms
      here-marks e = omega arith

      module _ (b : Bool) (q : SFits w64 (get_or vs c (pos 0))) (g : b ≡ cell_passes l ts st.scope.count st.scope.newest c (wire (get_or vs c (pos 0))) (get_or ms c 0)) where
        as_read : cell_passes l ts st.scope.count st.scope.newest c (get_or vs c (pos 0)) (get_or ms c 0) ≡ b
        as_read = sym (g ∙ ap (λ (v : ℤ). cell_passes l ts st.scope.count st.scope.newest c v (get_or ms c 0)) (to_z-of_z q))

        pub passed_on : b ≡ true → Passed l ts st vs ms (c + 1)
        passed_on h = record { before = λ i m. go i m (dec_lt i c) }
          where
            go : (i : ℕ) → i < c + 1 → Dec (i < c) → cell_passes l ts st.scope.count st.scope.newest i (get_or vs i (pos 0)) (get_or ms i 0) ≡ true
            go i m (yes r) = P.before i r
            go i m (no r) = let z : i ≡ c = omega arith in rw z (as_read ∙ h)

        pub failed : b ≡ false → length vs ≡ st.cells → length ms ≡ st.cells → StoreFault l ts st vs ms 11
        unfolding store_fault fault_of row_number
        failed h e f = record {
          says = λ s k bs H C.
              let m : c < length k.cells = omega (arith, H.cells_are) in
              let a : cells_ok k.env.types k.cells vs ms ≡ false = one-fails k.env.types k.cells vs ms (e ∙ H.cells_are) (f ∙ H.cells_are) c m
              (sym (passes-is-ok H C c m (get_or vs c (pos 0)) (get_or ms c 0)) ∙ as_read ∙ h) in
              rw (eq-eqb (length vs) (length k.cells) (e ∙ H.cells_are), eq-eqb (length ms) (length k.cells) (f ∙ H.cells_are), a) refl;
        }

pub ruleset store_laws = (wrong-values, wrong-marks, all-passed, passed_on, failed)

-- ---- `owner`

pub owner-found : (l ts : List ℕ) (st : State) (c p n : ℕ) → p ≡ holder l (entries st.scope.count l st.scope.newest) c → n ≡ get_or l p 0 → Owner l ts st c (n % 32768)
owner-found l ts st c p n e f = record { says = λ s k bs H C h. ap (λ (q : ℕ). map small (word_at s (q % 32768))) (f ∙ ap (λ (q : ℕ). get_or l q 0) e) ∙ owner-is H C c h }
