-- What is laid later leaves an environment as it is.
use mathlib.Core.Path.{◌≡◌, refl, sym, ap, ◌∙◌}
use mathlib.Core.Bool.{Bool, true, false, cond, false≢true}
use mathlib.Core.List.{List, map}
use mathlib.Core.Option.{Option, none, some}
use Prim.Native.Nat.{ℕ, zero, suc, ◌+◌, ◌*◌, ◌-◌, ◌≤◌}
use native.Mathlib.Omega.{arith}
use borrow.Author.Tests.{ltb-false}
use lib.Dec.{eqb, ltb}
use lib.ListN.{get_or}
use Rattle.leaf_bytes.specs.Bytes.{small}
use Rattle.law.specs.Base.{Name}
use Rattle.law.specs.Environment.{Environment}
use Rattle.law.specs.Trees.{Trees, word, form, end, ◌then◌, Run, first}
use Rattle.law_theorems.specs.Readings.{stack_at}
use Rattle.law.specs.Types.{TypeInfo, info_at}
use Rattle.code.specs.LayoutRegions.{Same}
use Rattle.table_names.specs.Chain.{is_called, place_in}
use Rattle.table_names.specs.Chained.{Below}
use Rattle.table_names.proofs.Chained.{Within, none_within, one-within, below-place, below-within, is-called-kept, entries-kept, below-kept, below-higher}
use Rattle.table_scope.specs.Descriptions.{integer_info, boolean_info, no_info, read_info, info_of, fields_at, Tells, EndsBelow}
use Rattle.table_scope.specs.declared.Scope.{Scope}
use Rattle.table_scope.specs.Pairs.{after_lead, pair_in}
use Rattle.table_scope.specs.Frames.{framed, frame_at, frame_in, TellsFrame}
use Rattle.table_scope.specs.declared.frames.Frame.{Frame}
use Rattle.table_scope.specs.Scene.{meaning_at, declared_in, kind_of, parameter_of, paired_or, meaning_in, Scene}
use Rattle.table_scope.specs.declared.Info.{Info}

-- what holds of the built-in types, of no type and of each description that stands in a list holds of every type
pub info-by : (P : (List ℕ → Info) → Type 0) → P (λ _. integer_info) → P (λ _. boolean_info) → P (λ _. no_info)
    → ((p : ℕ) → 1 ≤ p → P (λ l. read_info l p)) → (ts : List ℕ) (k : ℕ) → P (λ l. info_of l ts k)
unfolding info_of
info-by P a b c d ts k = go (eqb k 0) (eqb k 1) (eqb (get_or ts k 0) 0) refl
  where
    go : (x y z : Bool) → eqb (get_or ts k 0) 0 ≡ z → P (λ l. cond x integer_info (cond y boolean_info (cond z no_info (read_info l (get_or ts k 0)))))
    go true y z e = a
    go false true z e = b
    go false false true e = c
    go false false false e = d (get_or ts k 0) (one (get_or ts k 0) e)
      where
        one : (p : ℕ) → eqb p 0 ≡ false → 1 ≤ p
        one zero h = absurd (false≢true (sym h))
        one (suc p) h = omega arith

module _ {l l' : List ℕ} {top : ℕ} (E : Same 0 top l' l) where
  read_kept : (p : ℕ) → p + 8 ≤ top → read_info l' p ≡ read_info l p
  unfolding read_info
  read_kept p h = rw (
    E.at p (omega arith) (omega arith),
    E.at (p + 1) (omega arith) (omega arith),
    E.at (p + 2) (omega arith) (omega arith),
    E.at (p + 3) (omega arith) (omega arith),
    E.at (p + 4) (omega arith) (omega arith),
    E.at (p + 5) (omega arith) (omega arith),
    E.at (p + 6) (omega arith) (omega arith),
    E.at (p + 7) (omega arith) (omega arith),
  ) refl

  pub info-kept : (ts : List ℕ) (k : ℕ) → EndsBelow top (info_of l ts k) → info_of l' ts k ≡ info_of l ts k
  unfolding read_info
  info-kept =
      info-by (λ f. EndsBelow top (f l) → f l' ≡ f l) (λ _. refl) (λ _. refl) (λ _. refl)
      (λ p h B. let e : p + 8 + 4 * get_or l (p + 7) 0 ≤ top = B.end_below h in read_kept p (omega arith))

  pub fields-kept : (s : List ℕ) (q n : ℕ) → q + 4 * n ≤ top → fields_at s l' q n ≡ fields_at s l q n
  unfolding fields_at
  fields-kept s q zero h = refl
  fields-kept s q (suc n) h = rw (
    E.at q (omega arith) (omega arith),
    E.at (q + 1) (omega arith) (omega arith),
    E.at (q + 2) (omega arith) (omega arith),
    fields-kept s (q + 4) n (omega arith),
  ) refl

  info-fields-kept : (s ts : List ℕ) (k : ℕ) → EndsBelow top (info_of l ts k)
      → fields_at s l' ((info_of l ts k).place + 8) (info_of l ts k).fields ≡ fields_at s l ((info_of l ts k).place + 8) (info_of l ts k).fields
  unfolding fields_at integer_info boolean_info no_info read_info
  info-fields-kept s =
      info-by (λ f. EndsBelow top (f l) → fields_at s l' ((f l).place + 8) (f l).fields ≡ fields_at s l ((f l).place + 8) (f l).fields) (λ _. refl) (λ _. refl) (λ _. refl)
      (λ p h B. let e : p + 8 + 4 * get_or l (p + 7) 0 ≤ top = B.end_below h in fields-kept s (p + 8) (get_or l (p + 7) 0) e)

  tells-kept : (s ts : List ℕ) (k : ℕ) (i : TypeInfo) → EndsBelow top (info_of l ts k) → Tells s l (info_of l ts k) i → Tells s l' (info_of l ts k) i
  tells-kept s ts k i B T = record {
    shape_is = T.shape_is;
    host-is = T.host-is;
    low-is = T.low-is;
    high_is = T.high_is;
    size_is = T.size_is;
    index_is = T.index_is;
    element-is = T.element-is;
    fields-are = info-fields-kept s ts k B ∙ T.fields-are;
  }

  meaning-at-kept : (p : ℕ) → p + 4 ≤ top → meaning_at l' p ≡ meaning_at l p
  unfolding meaning_at
  meaning-at-kept p h = rw (E.at (p + 1) (omega arith) (omega arith), E.at (p + 2) (omega arith) (omega arith)) refl

  -- ---- names

  place_kept : (s : List ℕ) (w : Name) {ps : List ℕ} → Within top ps → meaning_at l' (place_in s l' ps w) ≡ meaning_at l (place_in s l ps w)
  unfolding place_in meaning_at
  place_kept s w none_within = refl
  place_kept s w (one-within {p} {ps} h W) = rw (is-called-kept E s w p h) (go (is_called s l p w) (place_kept s w W))
    where
      go : (b : Bool) → meaning_at l' (place_in s l' ps w) ≡ meaning_at l (place_in s l ps w)
          → meaning_at l' (cond b p (place_in s l' ps w)) ≡ meaning_at l (cond b p (place_in s l ps w))
      go true r = meaning-at-kept p h
      go false r = r

  module _ (s : List ℕ) (scope : Scope) (B : Below s l top scope.count scope.newest) where
    declared-kept : (w : Name) → declared_in s l' scope w ≡ declared_in s l scope w
    unfolding declared_in
    declared-kept w = rw (below-place (below-kept E B) w, below-place B w, entries-kept E B) (place_kept s w (below-within B))

    kind-kept : (ts : Trees Run) → kind_of s l' scope ts ≡ kind_of s l scope ts
    unfolding kind_of
    kind-kept end = refl
    kind-kept (word x then ts) = rw (declared-kept (map small x)) refl
    kind-kept (form us then ts) = refl

    pub meaning-kept : (w : Name) → meaning_in s l' scope w ≡ meaning_in s l scope w
    unfolding meaning_in parameter_of
    meaning-kept w = rw (declared-kept w) (ap (cond (eqb scope.pairs 0) (declared_in s l scope w)) (go (pair_in 0 (first (stack_at s scope.pairs)) w)))
      where
        go : (o : Option (ℕ × Trees Run)) → paired_or s l' scope o (declared_in s l scope w) ≡ paired_or s l scope o (declared_in s l scope w)
        go none = refl
        go (some p) = rw (kind-kept (after_lead p.1)) refl

  -- ---- frames

  frame-at-kept : (f n : ℕ) → f + 2 ≤ top → frame_at l' f n ≡ frame_at l f n
  unfolding frame_at
  frame-at-kept f n h = rw (E.at f (omega arith) (omega arith)) refl

  frame-kept : (p : ℕ) → p + 5 ≤ top → get_or l (p + 4) 0 + 2 ≤ top → frame_in l' p ≡ frame_in l p
  unfolding frame_in
  frame-kept p h g = let e = E.at (p + 4) (omega arith) (omega arith) in
      rw (e, E.at (get_or l (p + 4) 0 + 1) (omega arith) (omega arith), frame-at-kept (get_or l (p + 4) 0) (get_or l (get_or l (p + 4) 0 + 1) 0) g) refl

  -- the types stand before the frame
  pub types-before : (p : ℕ) → (frame_in l p).types + (frame_in l p).count ≤ get_or l (p + 4) 0
  unfolding frame_in frame_at
  types-before p = go (eqb (get_or l (p + 4) 0) 0) (get_or l (p + 4) 0) (get_or l (get_or l (p + 4) 0 + 1) 0)
    where
      by : (f n : ℕ) (b : Bool) → ltb f n ≡ b → (cond b (framed 0 0 0) (framed n (f - n) (get_or l f 0))).types + (cond b (framed 0 0 0) (framed n (f - n) (get_or l f 0))).count ≤ f
      by f n true e = omega arith
      by f n false e = let h = ltb-false f n e in omega arith

      go : (b : Bool) (f n : ℕ) → (cond b (framed 0 0 0) (frame_at l f n)).types + (cond b (framed 0 0 0) (frame_at l f n)).count ≤ f
      go true f n = omega arith
      go false f n = by f n (ltb f n) refl

  pub tells-frame-kept : {top' : ℕ} → top ≤ top' → (p : ℕ) (us : List ℕ) → TellsFrame l top p us → TellsFrame l' top' p us
  tells-frame-kept h p us T =
      let e = frame-kept p T.node-below T.frame_below in
      let a = T.node-below in
      let b = T.frame_below in
      let c = types-before p in
      let d = T.count-is in
      record {
        node-below = omega arith;
        frame_below = rw (E.at (p + 4) (omega arith) (omega arith)) (omega arith);
        count-is = ap (λ (x : Frame). x.count) e ∙ d;
        types_are = λ j i. rw e (E.at ((frame_in l p).types + j) (omega arith) (omega arith) ∙ T.types_are j i);
        few = T.few;
      }

pub scene-kept : {s l l' ts : List ℕ} {scope : Scope} {top top' : ℕ} {σ : Environment} {bs : List ℕ}
    → Scene s l ts scope top σ bs → Same 0 top l' l → top ≤ top' → Scene s l' ts scope top' σ bs
scene-kept {s} {l} {l'} {ts} {scope} {top} {top'} {σ} {bs} S E h = record {
  names = λ w. rw (meaning-kept E s scope S.below w) (S.names w);
  below = below-higher h (below-kept E S.below);
  types = λ k. rw (info-kept E ts k (S.described k)) (tells-kept E s ts k (info_at σ.types k) (S.described k) (S.types k));
  described = λ k. rw (info-kept E ts k (S.described k)) (record { end_below = λ g. let e = (S.described k).end_below g in omega arith; within = (S.described k).within });
  table = S.table;
  fair = S.fair;
  fieldless = S.fieldless;
  cells = S.cells;
  above = S.above;
  once = S.once;
  frames = λ w q us e. tells-frame-kept E h (get_or bs q 0) us (S.frames w q us e);
}
