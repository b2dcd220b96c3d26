-- A value stored at a place.
use mathlib.Core.Path.{◌≡◌, refl, sym, ap, subst, ◌∙◌}
use mathlib.Core.Bool.{Bool, true, false, ◌||◌}
use mathlib.Core.List.{List, [], ◌∷◌}
use Prim.Native.Nat.{ℕ, ◌<◌, ◌≤◌, min}
use native.Mathlib.Omega.{arith}
use borrow.Author.Tests.{eq-eqb, ne_eqb}
use borrow.Author.Rules.{sfits_of}
use lib.Dec.{eqb}
use lib.IntN.{ℤ, pos}
use mir.Syntax.{w64}
use mir.Val.{SFits}
use mir.Facts.{to_z-of_z}
use Rattle.leaf_integers.proofs.Machine.{wire}
use Rattle.leaf_words.specs.Numbers.{signed}
use Rattle.law.specs.Calculate.{is, fails}
use Rattle.law.specs.Environment.{Environment}
use Rattle.law.specs.Machine.{Store, state, Answer, branch, read_cells, sole, store_ordinal, store_whole, with_result}
use Rattle.law.specs.Marking.{TypedValue, TypedPlace, require, mark_store}
use Rattle.law.specs.Types.{Shape, ordinal_shape, set_shape, array_shape, record_shape, info_at, is_ordinal, is_set, host_of, ordinal?, size_of}
use Rattle.code_calc.specs.Words.{InRange, Holds, all_values, word_of}
use Rattle.mark_steps.specs.Stands.{Stands, Ends}
use Rattle.mark_cells.specs.Cells.{StoresOrdinal, StoresOne, StoresCells}
use Rattle.mark_cells.proofs.Stored.{AllRead, cells-read, cells-fail}
use Rattle.table_scope.specs.declared.Scope.{Scope}
use Rattle.table_scope.specs.declared.Info.{Info}
use Rattle.table_scope.specs.Descriptions.{info_of, shape_number}
use Rattle.table_scope.specs.Sides.{host_in}
use Rattle.table_scope.proofs.Telling.{shape-told, size-told, host-in}
use Rattle.mark_values.specs.declared.values.Carried.{Carried}
use Rattle.mark_values.specs.declared.places.Reached.{Reached}
use Rattle.mark_values.specs.Values.{MarkRanged, MarkMeans, simple?, Carries, Reaches, Known}
use Rattle.mark_values.proofs.Carrying.{is-inj}
use Rattle.mark_values.proofs.Settling.{low_signed, high-signed, ordinal-yes, ordinal-no}
use Rattle.mark_acts.specs.Ends.{stuck_word, MarkEnds}
use Rattle.mark_acts.specs.Storing.{Wholly, Stores}
use Rattle.mark_acts.proofs.Ending.{stuck-fewer, mark-ends, stuck-marks}

-- the word of a value
pub value-word : {w z : ℤ} → MarkMeans w (is z) → (w ≡ z) × InRange z
unfolding word_of MarkRanged
value-word M = (M.word, M.ranged)

-- an end of a store's leaf is one of this machine
plain-ends : (a : Answer) (ws ws' : List ℤ) (s r : ℕ) (m : Store) → Stands ws s m → (s ≤ 4294967295 → r < 12884901888) → Ends a ws' r → MarkEnds a ws' r
plain-ends a ws ws' s r m S h E = mark-ends a ws' r (h S.steps) E

-- ---- `store_whole`

simple-low : (z : Shape) → shape_number z < 2 → (is_ordinal z || is_set z) ≡ true
unfolding shape_number
simple-low ordinal_shape h = refl
simple-low set_shape h = refl
simple-low array_shape h = absurd (omega arith)
simple-low record_shape h = absurd (omega arith)

simple-high : (z : Shape) → 2 ≤ shape_number z → (is_ordinal z || is_set z) ≡ false
unfolding shape_number
simple-high ordinal_shape h = absurd (omega arith)
simple-high set_shape h = absurd (omega arith)
simple-high array_shape h = refl
simple-high record_shape h = refl

fails-is : {A : Type 0} {e : ℤ} {a : A} → fails e ≡ is a → ⊥
fails-is {A} h = let z : ◌≡◌ {A = ℕ} 0 1 = cc in omega arith

-- cells that are values, all of them
pub record ReadAs (ws : List ℤ) (m : Store) (a n : ℕ) (zs : List ℤ) : Type 0 where
  pub all : AllRead ws m a n
  pub same : all.zs ≡ zs

read_all : (ws : List ℤ) (m : Store) → Holds ws m → (n a : ℕ) (zs : List ℤ) → read_cells a n m ≡ is zs → ReadAs ws m a n zs
read_all ws m H n a zs h = go (all_values ws a n) refl
  where
    go : (b : Bool) → all_values ws a n ≡ b → ReadAs ws m a n zs
    go true e = let R : AllRead ws m a n = cells-read ws m H n a e in record { all = R; same = is-inj (sym R.gives ∙ h) }
    go false e = absurd (fails-is (sym (cells-fail ws m H n a e) ∙ h))

module _ (l ts : List ℕ) (n : ℕ) (x : Carried) (w : ℤ) (ws : List ℤ) (s : ℕ) (ws' : List ℤ) (r : ℕ) (i : Info) (I : i ≡ info_of l ts x.kind) (fw : SFits w64 w) where
  pub whole-one : i.shape < 2 → SFits w64 x.word → StoresOne n (wire w) (wire x.word) ws s ws' r → Wholly l ts n x w ws s ws' r
  whole-one h fx O = record {
    says = λ s₀ scope σ K m v a C e S.
        let p : (x.word ≡ sole v.cells) × InRange (sole v.cells) = value-word C.word-is in
        let j : simple? σ.types x.kind ≡ true = simple-low (info_at σ.types x.kind).shape (subst (λ (t : ℕ). t < 2) (ap (λ (k : Info). k.shape) I ∙ shape-told K.scene x.kind) h) in
        let c : v.cells ≡ (sole v.cells ∷ []) = C.single v refl (ap (simple? σ.types) (sym (C.kind-is v refl)) ∙ j) in
        let Q : StoresOne n (wire w) (sole v.cells) ws s ws' r = subst (λ (z : ℤ). StoresOne n (wire w) z ws s ws' r) (to_z-of_z fx ∙ p.0) O in
        subst (λ (zs : List ℤ). MarkEnds (store_whole n a zs (state m s)) ws' r) (sym c)
        (plain-ends (store_whole n a (sole v.cells ∷ []) (state m s)) ws ws' s r m S Q.plain ((Q.says p.1 a (to_z-of_z fw ∙ e)).says m S));
    fewer = O.fewer;
  }

  pub whole_cells : 2 ≤ i.shape → StoresCells n x.from i.size (wire w) ws s ws' r → Wholly l ts n x w ws s ws' r
  whole_cells h O = record {
    says = λ s₀ scope σ K m v a C e S.
        let j : simple? σ.types x.kind ≡ false = simple-high (info_at σ.types x.kind).shape (subst (λ (t : ℕ). 2 ≤ t) (ap (λ (k : Info). k.shape) I ∙ shape-told K.scene x.kind) h) in
        let k : x.kind ≡ v.kind = C.kind-is v refl in
        let q : i.size ≡ size_of σ.types v.kind = ap (λ (y : Info). y.size) I ∙ size-told K.scene x.kind ∙ ap (size_of σ.types) k in
        let R : ReadAs ws m x.from (size_of σ.types v.kind) v.cells = read_all ws m S.holds (size_of σ.types v.kind) x.from v.cells (C.whole v refl (ap (simple? σ.types) (sym k) ∙ j)) in
        subst (λ (zs : List ℤ). MarkEnds (store_whole n a zs (state m s)) ws' r) R.same
        (plain-ends (store_whole n a R.all.zs (state m s)) ws ws' s r m S O.plain
        (((subst (λ (c : ℕ). StoresCells n x.from c (wire w) ws s ws' r) q O).says R.all.zs R.all.cells a (to_z-of_z fw ∙ e)).says m S));
    fewer = O.fewer;
  }

pub ruleset whole_laws = (whole-one, whole_cells, sfits_of)

-- ---- `store_value`

module _ (l ts : List ℕ) (n : ℕ) (x : Carried) (g : Reached) (ws : List ℤ) (s r : ℕ) (k : ℕ) (K : k ≡ host_in l ts g.typed) where
  module _ {s₀ : List ℕ} {scope : Scope} {σ : Environment} (S : Known s₀ l ts scope σ) {m : Store} {v : TypedValue} {w : TypedPlace} (C : Carries σ.types m (is v) x) (G : Reaches (is w) g) where
    host-is : k ≡ host_of σ.types w.type
    host-is = K ∙ host-in S.scene g.typed ∙ ap (host_of σ.types) (G.type-is w refl)

    kind-is : x.kind ≡ v.kind
    kind-is = C.kind-is v refl

  pub value-misfit : ((k ≡ x.kind) → ⊥) → r ≡ stuck_word s → Stores l ts n x g ws s ws r
  value-misfit h e = record {
    says = λ s₀ scope σ S m v w C G T.
        subst (λ (b : Bool). MarkEnds (with_result n (state m s) (require b (is v.cells)) λ zs. mark_store σ.types σ.vars n w zs (state m s)) ws r)
        (sym (ne_eqb (host_of σ.types w.type) v.kind (λ q. h (host-is S C G ∙ q ∙ sym (kind-is S C G)))))
        (stuck-marks ws s m T r e);
    fewer = stuck-fewer s r e;
  }

  module _ (h : k ≡ x.kind) (ws' : List ℤ) (i : Info) (I : i ≡ info_of l ts g.typed) (fg : SFits w64 g.word) where
    -- the kinds fit
    fitting : {s₀ : List ℕ} {scope : Scope} {σ : Environment} (S : Known s₀ l ts scope σ) {m : Store} {v : TypedValue} {w : TypedPlace} (C : Carries σ.types m (is v) x) (G : Reaches (is w) g)
        → MarkEnds (mark_store σ.types σ.vars n w v.cells (state m s)) ws' r
        → MarkEnds (with_result n (state m s) (require (eqb (host_of σ.types w.type) v.kind) (is v.cells)) λ zs. mark_store σ.types σ.vars n w zs (state m s)) ws' r
    fitting {σ = σ} S {m} {v} {w} C G E =
        subst (λ (b : Bool). MarkEnds (with_result n (state m s) (require b (is v.cells)) λ zs. mark_store σ.types σ.vars n w zs (state m s)) ws' r)
        (sym (eq-eqb (host_of σ.types w.type) v.kind (sym (host-is S C G) ∙ h ∙ kind-is S C G))) E

    place-word : {w : TypedPlace} → Reaches (is w) g → wire g.word ≡ pos (min w.addr 4294967295)
    place-word G = to_z-of_z fg ∙ (value-word G.word-is).0

    pub value-ordinal : (lo hi : ℤ) → i.shape ≡ 0 → SFits w64 x.word → lo ≡ signed i.low → SFits w64 lo → hi ≡ signed i.high → SFits w64 hi
        → StoresOrdinal n (wire lo) (wire hi) (wire g.word) (wire x.word) ws s ws' r → Stores l ts n x g ws s ws' r
    value-ordinal lo hi j fx L fl H fh O = record {
      says = λ s₀ scope σ S m v w C G T.
          let t : g.typed ≡ w.type = G.type-is w refl in
          let z : (x.word ≡ sole v.cells) × InRange (sole v.cells) = value-word C.word-is in
          let least-is : wire lo ≡ (info_at σ.types w.type).low = to_z-of_z fl ∙ L ∙ ap (λ (y : Info). signed y.low) I ∙ low_signed S g.typed ∙ ap (λ (y : ℕ). (info_at σ.types y).low) t in
          let most-is : wire hi ≡ (info_at σ.types w.type).high = to_z-of_z fh ∙ H ∙ ap (λ (y : Info). signed y.high) I ∙ high-signed S g.typed ∙ ap (λ (y : ℕ). (info_at σ.types y).high) t in
          let o : ordinal? σ.types w.type ≡ true = ap (ordinal? σ.types) (sym t) ∙ ordinal-yes S g.typed (sym (ap (λ (y : Info). y.shape) I) ∙ j) in
          fitting S C G
          (subst (λ (b : Bool). MarkEnds (branch b (store_ordinal n w.addr (info_at σ.types w.type).low (info_at σ.types w.type).high (sole v.cells)) (store_whole n w.addr v.cells) (state m s)) ws' r) (sym o)
          (subst (λ (y : ℤ). MarkEnds (store_ordinal n w.addr y (info_at σ.types w.type).high (sole v.cells) (state m s)) ws' r) least-is
          (subst (λ (y : ℤ). MarkEnds (store_ordinal n w.addr (wire lo) y (sole v.cells) (state m s)) ws' r) most-is
          (subst (λ (y : ℤ). MarkEnds (store_ordinal n w.addr (wire lo) (wire hi) y (state m s)) ws' r) (to_z-of_z fx ∙ z.0)
          (plain-ends (store_ordinal n w.addr (wire lo) (wire hi) (wire x.word) (state m s)) ws ws' s r m T O.plain
          ((O.says (subst InRange (sym (to_z-of_z fx ∙ z.0)) z.1) w.addr (place-word G)).says m T))))));
      fewer = O.fewer;
    }

    pub value-whole : ((i.shape ≡ 0) → ⊥) → Wholly l ts n x (wire g.word) ws s ws' r → Stores l ts n x g ws s ws' r
    value-whole j W = record {
      says = λ s₀ scope σ S m v w C G T.
          let t : g.typed ≡ w.type = G.type-is w refl in
          let o : ordinal? σ.types w.type ≡ false = ap (ordinal? σ.types) (sym t) ∙ ordinal-no S g.typed (λ q. j (ap (λ (y : Info). y.shape) I ∙ q)) in
          fitting S C G
          (subst (λ (b : Bool). MarkEnds (branch b (store_ordinal n w.addr (info_at σ.types w.type).low (info_at σ.types w.type).high (sole v.cells)) (store_whole n w.addr v.cells) (state m s)) ws' r) (sym o)
          (W.says s₀ scope σ S m v w.addr C (place-word G) T));
      fewer = W.fewer;
    }

pub ruleset value_laws = (value-misfit, value-ordinal, value-whole, sfits_of)
