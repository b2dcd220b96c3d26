-- The ways through places: the cells there, elements and fields.
use mathlib.Core.Path.{◌≡◌, refl, sym, ap, subst, ◌∙◌}
use mathlib.Core.Bool.{Bool, true, false, ◌||◌, true≢false}
use mathlib.Core.List.{List, [], ◌∷◌, map}
use Prim.Native.Nat.{ℕ, ◌+◌, ◌*◌, min, ◌≤◌}
use native.Mathlib.Omega.{arith}
use borrow.Author.Tests.{eq-eqb, ne_eqb}
use borrow.Author.Rules.{sfits_of}
use lib.Dec.{eqb}
use lib.IntN.{ℤ, pos, ◌-ℤ◌}
use lib.ListN.{get_or, length}
use lib.Signed.{lt_z}
use mir.Syntax.{w32, w64}
use mir.Val.{SFits, Fits}
use mir.Facts.{to_z-of_z}
use Rattle.leaf_integers.specs.Integers.{inside, least, most}
use Rattle.leaf_integers.proofs.Machine.{wire}
use Rattle.leaf_bytes.specs.Bytes.{small}
use Rattle.leaf_words.specs.Numbers.{signed}
use Rattle.law.specs.Base.{pick}
use Rattle.law.specs.Calculate.{Result, is, fails, stuck, ◌>>=◌, nat_of, tested, range_error}
use Rattle.law.specs.Environment.{Environment}
use Rattle.law.specs.Machine.{Store, read_cell, read_cells, sole}
use Rattle.law.specs.Marking.{TypedValue, TypedPlace, typed_value, typed_place, typed_as, placed_as, or_stuck}
use Rattle.law.specs.Trees.{word_at}
use Rattle.law.specs.Types.{Types, Shape, ordinal_shape, set_shape, array_shape, record_shape, Field, info_at, is_ordinal, is_set, host_by, cells_by, host_of, size_of, ordinal?, set?, array?, field_of}
use Rattle.law_theorems.specs.TypeTables.{Table}
use Rattle.code_calc.specs.Words.{no_result, greatest, range_word, word_of, result_of, place_word, cell_of, store_word, cells_word, cells_at, distance_word, element_word, shifted_word, InRange, Ranged, Means, Holds, first, Exceptional}
use Rattle.code_calc.proofs.Combining.{value-again}
use Rattle.code_calc.proofs.Ranging.{range-value, low-range}
use Rattle.code_calc.proofs.Loading.{capped-cells, one-or-more, le-ltb-cap, cap-twice, cap-times, cap-add, test-cases}
use Rattle.table_scope.specs.declared.Scope.{Scope}
use Rattle.table_scope.specs.declared.Info.{Info}
use Rattle.table_scope.specs.Descriptions.{info_of, field_place}
use Rattle.table_scope.specs.Sides.{host_in}
use Rattle.table_scope.proofs.Telling.{shape-array, size-told, index-told, element-told, host-in, fields-short, FieldFound, no_field, a-field, field_told}
use Rattle.mark_values.specs.declared.values.Carried.{Carried}
use Rattle.mark_values.specs.declared.places.Reached.{Reached}
use Rattle.mark_values.specs.Values.{carried_of, reached_of, first_cell, MarkRanged, simple?, Carries, Reaches, Known}
use Rattle.mark_values.specs.Steps.{loaded, element_place, indexed, selected, Loads, Indexes, Selects}
use Rattle.mark_values.proofs.Carrying.{is-inj, broken-bind, view-broken, view-value, carries-broken, reaches-broken, reaches-stuck, means-marks, carries-value, carried-broken, carried-value}
use Rattle.mark_values.specs.Carrying.{Broken, by-fault}
use Rattle.mark_values.proofs.Settling.{low_small, high_small, low_signed, high-signed, host-ordinal}

-- ---- places

pub reaches-place : (w : TypedPlace) (z : ℤ) → z ≡ pos (min w.addr 4294967295) → Reaches (is w) (reached_of w.type z)
unfolding word_of MarkRanged
reaches-place w z e = rw e (record { word-is = record { word = refl; ranged = low-range (min w.addr 4294967295) (omega arith) }; type-is = λ y q. ap (λ (t : TypedPlace). t.type) (is-inj q) })

module _ {v : Result TypedPlace} {g : Reached} (c : Reaches v g) where
  pub reached-broken : lt_z greatest g.word ≡ true → Broken g.word v
  reached-broken h = view-broken g.word v (λ w. pos (min w.addr 4294967295)) c.word-is h

  pub reached-value : {P : Type 0} → lt_z greatest g.word ≡ false → ((w : TypedPlace) → v ≡ is w → g.word ≡ pos (min w.addr 4294967295) → g.typed ≡ w.type → P) → P
  reached-value h k = view-value g.word v (λ w. pos (min w.addr 4294967295)) c.word-is h (λ w e f i. k w e f (c.type-is w e))

-- ---- `first_cell`

module _ (w : ℤ) (f : SFits w64 w) where
  pub first-none : lt_z greatest (wire w) ≡ true → 0 ≡ first_cell w
  unfolding first_cell pick
  first-none h = rw (rw (to_z-of_z f) at h) refl

  module _ (h : lt_z greatest (wire w) ≡ false) (n : ℕ) (e : n ≡ min (nat_of (wire w)) 4294967295) where
    pub first_fits : Fits w32 n
    first_fits = record { fits = omega (arith, e) }

    pub first-is : n ≡ first_cell w
    unfolding first_cell pick
    first-is = rw (rw (to_z-of_z f) at h) (e ∙ ap (λ (z : ℤ). min (nat_of z) 4294967295) (to_z-of_z f))

pub ruleset first_laws = (first-none, first_fits, first-is, sfits_of)

-- ---- `load`

cells-means : (ws : List ℤ) (m : Store) → Holds ws m → (a n : ℕ) → Means (cells_at ws (pos (min a 4294967295)) n) (first (read_cells a n m))
unfolding cells_at pick
cells-means ws m H a n = rw (le-ltb-cap a, cap-twice a) (subst (λ (q : Result (List ℤ)). Means (pick (eqb n 1) (store_word ws (min a 4294967295)) (cells_word ws (min a 4294967295) n)) (first q)) (capped-cells ws m H a n) (one-or-more ws m H (min a 4294967295) n))

one-read : (a : ℕ) (m : Store) (zs : List ℤ) → read_cells a 1 m ≡ is zs → zs ≡ (sole zs ∷ [])
unfolding read_cells
one-read a m zs h = go (read_cell a m) h
  where
    go : (v : Result ℤ) → (v >>= λ z. is (z ∷ [])) ≡ is zs → zs ≡ (sole zs ∷ [])
    go (is z) q = rw (← is-inj q) refl
    go (fails e) q = let z : ◌≡◌ {A = ℕ} 0 1 = cc in absurd (omega arith)
    go stuck q = let z : ◌≡◌ {A = ℕ} 0 1 = cc in absurd (omega arith)

module _ (Γ : Types) (T : Table Γ) (m : Store) (t a : ℕ) (zs : List ℤ) (h : read_cells a (size_of Γ t) m ≡ is zs) where
  load-single : simple? Γ (host_of Γ t) ≡ true → zs ≡ (sole zs ∷ [])
  load-single s = go (info_at Γ t).shape refl h s
    where
      go : (z : Shape) → (info_at Γ t).shape ≡ z → read_cells a (length (cells_by z t (info_at Γ t).cells)) m ≡ is zs → simple? Γ (host_by z t (info_at Γ t).host) ≡ true → zs ≡ (sole zs ∷ [])
      go ordinal_shape e i q = one-read a m zs i
      go set_shape e i q = one-read a m zs i
      go array_shape e i q = absurd (true≢false (sym q ∙ ap (λ (x : Shape). is_ordinal x || is_set x) e))
      go record_shape e i q = absurd (true≢false (sym q ∙ ap (λ (x : Shape). is_ordinal x || is_set x) e))

  load-whole : simple? Γ (host_of Γ t) ≡ false → read_cells a (size_of Γ (host_of Γ t)) m ≡ is zs
  load-whole s = go (info_at Γ t).shape refl s
    where
      go : (z : Shape) → (info_at Γ t).shape ≡ z → simple? Γ (host_by z t (info_at Γ t).host) ≡ false → read_cells a (size_of Γ (host_by z t (info_at Γ t).host)) m ≡ is zs
      go ordinal_shape e q =
          let o : ordinal? Γ (host_of Γ t) ≡ true = host-ordinal Γ T t (ap is_ordinal e) in
          let k : host_of Γ t ≡ (info_at Γ t).host = ap (λ (x : Shape). host_by x t (info_at Γ t).host) e in
          absurd (true≢false (sym (ap (λ (b : Bool). b || set? Γ (info_at Γ t).host) (rw k at o)) ∙ q))
      go set_shape e q = h
      go array_shape e q = h
      go record_shape e q = h

-- a word that means a fault
fault-broken : (e z : ℤ) → Means z (first (fails e)) → Broken {A = TypedValue} z (fails e)
unfolding word_of Ranged MarkRanged
fault-broken e z h = by-fault e h.word h.ranged

no-stuck : {z : ℤ} → Means z (first stuck) → ⊥
unfolding Ranged
no-stuck h = h.ranged

module _ (Γ : Types) (T : Table Γ) (ws : List ℤ) (m : Store) (H : Holds ws m) (w : TypedPlace) where
  load-place : Carries Γ m (loaded Γ m w) (carried_of (host_of Γ w.type) (cells_at ws (pos (min w.addr 4294967295)) (size_of Γ w.type)) (min w.addr 4294967295))
  load-place = go (read_cells w.addr (size_of Γ w.type) m) refl (cells-means ws m H w.addr (size_of Γ w.type))
    where
      go : (q : Result (List ℤ)) → read_cells w.addr (size_of Γ w.type) m ≡ q → Means (cells_at ws (pos (min w.addr 4294967295)) (size_of Γ w.type)) (first q)
          → Carries Γ m (typed_as (host_of Γ w.type) q) (carried_of (host_of Γ w.type) (cells_at ws (pos (min w.addr 4294967295)) (size_of Γ w.type)) (min w.addr 4294967295))
      go (is zs) e h =
          carries-value Γ m (typed_value (host_of Γ w.type) zs) _ (min w.addr 4294967295) (means-marks _ _ h)
          (λ s. load-single Γ T m w.type w.addr zs e s)
          (λ s. capped-cells ws m H w.addr (size_of Γ (host_of Γ w.type)) ∙ load-whole Γ T m w.type w.addr zs e s)
      go (fails x) e h = carries-broken Γ m (host_of Γ w.type) (min w.addr 4294967295) (fault-broken x _ h)
      go stuck e h = absurd (no-stuck h)

at-broken : (ws : List ℤ) (w : ℤ) (n : ℕ) → lt_z greatest w ≡ true → cells_at ws w n ≡ w
unfolding cells_at pick
at-broken ws w n h = rw h refl

first-at : (a : ℕ) → first_cell (pos (min a 4294967295)) ≡ min a 4294967295
unfolding first_cell pick
first-at a = rw (le-ltb-cap a, cap-twice a) refl

pub loads-is : (l ts : List ℕ) (ws : List ℤ) (g : Reached) (i : Info) (k a : ℕ) (z : ℤ) → SFits w64 g.word → SFits w64 z → i ≡ info_of l ts g.typed → k ≡ host_in l ts g.typed
    → z ≡ cells_at ws (wire g.word) i.size → a ≡ first_cell (wire g.word) → Loads l ts ws g (carried_of k (wire z) a)
loads-is l ts ws g i k a z fg fz ei ek ez ea = rw (to_z-of_z fz, ez, ea, ek, ei, to_z-of_z fg) (record {
  says = λ s scope σ S m H v R. go σ S m H v R (lt_z greatest g.word) refl;
})
  where
    go : {s : List ℕ} {scope : Scope} (σ : Environment) (S : Known s l ts scope σ) (m : Store) → Holds ws m → (v : Result TypedPlace) → Reaches v g → (b : Bool) → lt_z greatest g.word ≡ b
        → Carries σ.types m (v >>= λ w. loaded σ.types m w) (carried_of (host_in l ts g.typed) (cells_at ws g.word (info_of l ts g.typed).size) (first_cell g.word))
    go σ S m H v R true h = rw (at-broken ws g.word (info_of l ts g.typed).size h) (carries-broken σ.types m (host_in l ts g.typed) (first_cell g.word) (broken-bind (λ w. loaded σ.types m w) (reached-broken R h)))
    go σ S m H v R false h = reached-value R h (λ w e f t. rw (e, t, host-in S.scene w.type, size-told S.scene w.type, f, first-at w.addr) (load-place σ.types S.scene.table ws m H w))

pub ruleset load_laws = (loads-is, sfits_of)

-- ---- `index`

cell_at : (a : ℕ) → cell_of (pos (min a 4294967295)) ≡ is (min a 4294967295)
unfolding cell_of pick
cell_at a = rw (le-ltb-cap a, cap-twice a) refl

element-value : (a : ℕ) (d : ℤ) (n : ℕ) → Ranged (is d) → element_word (pos (min a 4294967295)) d n ≡ pos (min (a + nat_of d * n) 4294967295)
unfolding element_word place_word Ranged
element-value a d n h = rw (cell_at a, value-again d (range-value d h)) (ap pos (cap-times a (nat_of d) n))

element-range : (a n : ℕ) → element_word (pos (min a 4294967295)) range_word n ≡ range_word
unfolding element_word place_word result_of pick
element-range a n = rw (cell_at a) refl

range-ranged : MarkRanged (fails range_error)
unfolding MarkRanged Exceptional inside
range-ranged = refl

-- a value inside its bounds, or a Range_Error
module _ (lo hi x : ℤ) (p : inside least most lo ≡ true) (q : inside least most hi ≡ true) (i : InRange x) (a n e : ℕ) where
  pub element-reaches : Reaches (placed_as e (tested range_error lo hi x >>= λ z. is (a + nat_of (z -ℤ lo) * n))) (reached_of e (element_word (pos (min a 4294967295)) (distance_word lo hi x) n))
  unfolding distance_word tested pick word_of
  element-reaches = rw (value-again x (range-value x i)) (go (inside lo hi x) (test-cases lo hi x p q))
    where
      go : (b : Bool) → Ranged (pick b (is x) (fails range_error) >>= λ z. is (z -ℤ lo))
          → Reaches (placed_as e (pick b (is x) (fails range_error) >>= λ z. is (a + nat_of (z -ℤ lo) * n))) (reached_of e (element_word (pos (min a 4294967295)) (word_of (pick b (is x) (fails range_error) >>= λ z. is (z -ℤ lo))) n))
      go true r = reaches-place (typed_place e (a + nat_of (x -ℤ lo) * n)) _ (element-value a (x -ℤ lo) n r)
      go false r = reaches-broken e (by-fault range_error (element-range a n) range-ranged)

pub element-is : (l ts : List ℕ) (i e : Info) (a b d z : ℤ) (r : Reached) → SFits w64 a → SFits w64 b → SFits w64 d → SFits w64 z → e ≡ info_of l ts i.element
    → d ≡ distance_word (signed i.low) (signed i.high) (wire b) → z ≡ element_word (wire a) (wire d) e.size → r ≡ reached_of i.element (wire z) → r ≡ element_place l ts i a b
unfolding element_place
element-is l ts i e a b d z r fa fb fd fz ee ed ez h = h ∙ rw (to_z-of_z fz, ez, to_z-of_z fa, to_z-of_z fd, ed, to_z-of_z fb, ee) refl

pub ruleset element_laws = (element-is, sfits_of)

module _ (l ts : List ℕ) (g : Reached) (x : Carried) (r : Reached) (fg : SFits w64 g.word) where
  pub indexes-left : lt_z greatest (wire g.word) ≡ true → r ≡ reached_of 0 (wire g.word) → Indexes l ts g x r
  indexes-left h e = rw (e, to_z-of_z fg) (record { says = λ s scope σ S m v u G X. reaches-broken 0 (broken-bind (λ w. u >>= λ y. indexed σ.types w y) (reached-broken G (rw (to_z-of_z fg) at h))) })

  module _ (fx : SFits w64 x.word) (h : lt_z greatest (wire g.word) ≡ false) where
    pub indexes-right : lt_z greatest (wire x.word) ≡ true → r ≡ reached_of 0 (wire x.word) → Indexes l ts g x r
    indexes-right j e = rw (e, to_z-of_z fx) (record {
      says = λ s scope σ S m v u G X. reached-value G (rw (to_z-of_z fg) at h) (λ w q f t.
          rw q (reaches-broken 0 (broken-bind (λ y. indexed σ.types w y) (carried-broken X (rw (to_z-of_z fx) at j)))));
    })

    module _ (j : lt_z greatest (wire x.word) ≡ false) (i : Info) (ei : i ≡ info_of l ts g.typed) where
      -- both are values
      both : ((s : List ℕ) (scope : Scope) (σ : Environment) → Known s l ts scope σ → (w : TypedPlace) (y : TypedValue) → g.word ≡ pos (min w.addr 4294967295) → g.typed ≡ w.type
          → x.word ≡ sole y.cells → InRange (sole y.cells) → x.kind ≡ y.kind → Reaches (indexed σ.types w y) r) → Indexes l ts g x r
      both K = record {
        says = λ s scope σ S m v u G X. reached-value G (rw (to_z-of_z fg) at h) (λ w q f t. carried-value X (rw (to_z-of_z fx) at j) (λ y q' f' z k. rw (q, q') (K s scope σ S w y f t f' z k)));
      }

      array-is : {s : List ℕ} {scope : Scope} {σ : Environment} → Known s l ts scope σ → eqb i.shape 2 ≡ array? σ.types g.typed
      array-is S = ap (λ (n : Info). eqb n.shape 2) ei ∙ shape-array S.scene g.typed

      pub indexes-shape : ((i.shape ≡ 2) → ⊥) → r ≡ reached_of 0 no_result → Indexes l ts g x r
      indexes-shape n e = both (λ s scope σ S w y f t f' z k. rw (← t, ← array-is S, ne_eqb i.shape 2 n, e) reaches-stuck)

      module _ (a : i.shape ≡ 2) (k : ℕ) (ek : k ≡ host_in l ts i.index) where
        index-kind : {s : List ℕ} {scope : Scope} {σ : Environment} → Known s l ts scope σ → k ≡ host_of σ.types (info_at σ.types g.typed).index
        index-kind {σ = σ} S = ek ∙ ap (λ (n : Info). host_in l ts n.index) ei ∙ ap (host_in l ts) (index-told S.scene g.typed) ∙ host-in S.scene (info_at σ.types g.typed).index

        pub indexes-kind : ((k ≡ x.kind) → ⊥) → r ≡ reached_of 0 no_result → Indexes l ts g x r
        indexes-kind n e = both (λ s scope σ S w y f t f' z q. rw (← t, ← array-is S, eq-eqb i.shape 2 a, ← index-kind S, ne_eqb k y.kind (λ p. n (p ∙ sym q)), e) reaches-stuck)

        pub indexes-is : k ≡ x.kind → r ≡ element_place l ts i (wire g.word) (wire x.word) → Indexes l ts g x r
        unfolding element_place
        indexes-is n e = both (λ s scope σ S w y f t f' p q.
            rw (e, to_z-of_z fx, to_z-of_z fg, ei, f, f', low_signed S g.typed, high-signed S g.typed, element-told S.scene g.typed, size-told S.scene (info_at σ.types g.typed).element, ← t, ← array-is S, eq-eqb i.shape 2 a, ← index-kind S, eq-eqb k y.kind (n ∙ q))
            (element-reaches (info_at σ.types g.typed).low (info_at σ.types g.typed).high (sole y.cells) (low_small S g.typed) (high_small S g.typed) p w.addr (size_of σ.types (info_at σ.types g.typed).element) (info_at σ.types g.typed).element))

pub ruleset index_laws = (indexes-left, indexes-right, indexes-shape, indexes-kind, indexes-is, sfits_of)

-- ---- `select`

shifted_at : (a k : ℕ) → shifted_word (pos (min a 4294967295)) k ≡ pos (min (a + k) 4294967295)
unfolding shifted_word place_word
shifted_at a k = rw (cell_at a) (ap pos (cap-add a k))

module _ (s l ts : List ℕ) (g : Reached) (p : ℕ) (r : Reached) (fg : SFits w64 g.word) where
  pub selects-fault : lt_z greatest (wire g.word) ≡ true → r ≡ reached_of 0 (wire g.word) → Selects s l ts g p r
  selects-fault h e = rw (e, to_z-of_z fg) (record { says = λ scope σ S v G. reaches-broken 0 (broken-bind (λ w. selected σ.types (map small (word_at s p)) w) (reached-broken G (rw (to_z-of_z fg) at h))) })

  module _ (h : lt_z greatest (wire g.word) ≡ false) (i : Info) (ei : i ≡ info_of l ts g.typed) (f : ℕ)
      (ef : i.place + 8 + 4 * i.fields ≤ 4294967296 → f ≡ field_place s l (i.place + 8) i.fields (map small (word_at s p))) where
    found : {scope : Scope} {σ : Environment} → Known s l ts scope σ → FieldFound l (info_at σ.types g.typed).fields (map small (word_at s p)) f
    found {σ = σ} S =
        let e = ef (rw ei (fields-short S.scene g.typed)) in
        rw (e, ei) (field_told S.scene g.typed (map small (word_at s p)))

    pub selects-none : f ≡ 0 → r ≡ reached_of 0 no_result → Selects s l ts g p r
    selects-none z e = record {
      says = λ scope σ S v G. reached-value G (rw (to_z-of_z fg) at h) (λ w q k t. rw (q, ← t, e) (go (info_at σ.types g.typed).fields w (found S)));
    }
      where
        go : (fs : List Field) (w : TypedPlace) → FieldFound l fs (map small (word_at s p)) f → Reaches (or_stuck (field_of fs (map small (word_at s p))) λ x. is (typed_place x.type (w.addr + x.offset))) (reached_of 0 no_result)
        go fs w (no_field _ n) = rw n reaches-stuck
        go fs w (a-field x o n tx ox) = absurd (omega (arith, z, o))

    pub selects-is : (t k : ℕ) (z : ℤ) → ((f ≡ 0) → ⊥) → t ≡ get_or l (f + 1) 0 → k ≡ get_or l (f + 2) 0 → z ≡ shifted_word (wire g.word) k → SFits w64 z → r ≡ reached_of t (wire z) → Selects s l ts g p r
    selects-is t k z nz et ek ez fz e = record {
      says = λ scope σ S v G. reached-value G (rw (to_z-of_z fg) at h) (λ w q j y. rw (q, ← y, e, to_z-of_z fz, ez, to_z-of_z fg, j, shifted_at w.addr k, et, ek) (go (info_at σ.types g.typed).fields w (found S)));
    }
      where
        go : (fs : List Field) (w : TypedPlace) → FieldFound l fs (map small (word_at s p)) f
            → Reaches (or_stuck (field_of fs (map small (word_at s p))) λ x. is (typed_place x.type (w.addr + x.offset))) (reached_of (get_or l (f + 1) 0) (pos (min (w.addr + get_or l (f + 2) 0) 4294967295)))
        go fs w (no_field n _) = absurd (nz n)
        go fs w (a-field x o n tx ox) = rw (n, ← tx, ← ox) (reaches-place (typed_place x.type (w.addr + x.offset)) _ refl)

pub ruleset select_laws = (selects-fault, selects-none, selects-is, sfits_of)
