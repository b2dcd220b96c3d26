-- A chain of entries stands for the names of an environment: what a lookup tells of them, and what a new entry adds.
use mathlib.Core.Path.{◌≡◌, refl, sym, ap, subst, ◌∙◌}
use mathlib.Core.Bool.{Bool, true, false, cond, ◌&&◌, and-false}
use mathlib.Core.List.{List, [], ◌∷◌, ◌++◌, map}
use mathlib.Core.Option.{none, some}
use Prim.Native.Nat.{ℕ, zero, suc, ◌+◌, ◌*◌, ◌-◌, ◌<◌, ◌≤◌}
use native.Mathlib.Nat.{mod-eq_of_lt}
use native.Mathlib.Omega.{arith}
use borrow.Author.Tests.{eq-eqb, ne_eqb, ltb-true}
use lib.Dec.{eqb, ltb}
use lib.ListN.{get_or}
use Rattle.leaf_bytes.specs.Bytes.{small, same}
use Rattle.leaf_bytes.proofs.Same.{same-equal}
use Rattle.law.specs.Base.{Name, find}
use Rattle.law.specs.Trees.{word_at}
use Rattle.code.specs.Layout.{lay}
use Rattle.code.proofs.LayoutRegions.{Has, lay-l}
use Rattle.code.specs.LayoutRegions.{Same, Room}
use Rattle.table_names.specs.Keys.{key_of, keyed}
use Rattle.table_names.specs.Chain.{entries, name_at, key_at, Called, is_called, place_in, values_by, values_behind, first_value, places, order_at, ranked, middle, by_order, halved, value_in, or_else, place_by}
use Rattle.table_names.proofs.Keying.{keyed-offset, keyed-key}
use Rattle.table_names.proofs.Names.{place_none, place-on}
use Rattle.table_names.specs.Chained.{Below, Block, Names, no-entry, no_names, one_block, one_entry, one_name}

-- what is found under a name
pub data Found {A : Type 0} (R : ℕ → A → Type 0) (w : Name) (ns : List (Name × A)) (p : ℕ) : Type 0 where
  nothing : p ≡ 0 → find ns w ≡ none → Found R w ns p
  entry : (a : A) → 1 ≤ p → R p a → find ns w ≡ some a → Found R w ns p

-- names that are the same have the same key
same-keyed : (v w : Name) (b : Bool) → same v w ≡ b → (eqb (key_of v) (key_of w) && b) ≡ b
same-keyed v w true g = let e : v ≡ w = same-equal v w g in rw (e, eq-eqb (key_of w) (key_of w) refl) refl
same-keyed v w false g = and-false (eqb (key_of v) (key_of w))

called_same : {s l : List ℕ} {p : ℕ} {v : Name} → Called s l p v → (w : Name) → is_called s l p w ≡ same v w
unfolding is_called
called_same {v = v} C w = rw (C.key-is, C.name-is) (same-keyed v w (same v w) refl)

pub found : {A : Type 0} {s l : List ℕ} {R : ℕ → A → Type 0} {ps : List ℕ} {ns : List (Name × A)} → Names s l R ps ns → (w : Name) → Found R w ns (place_in s l ps w)
unfolding place_in find
found no_names w = nothing refl refl
found {A} {s} {l} {R} (one_name {p} {ps} {w = v} {a} {ns} h e r N) w = rw (called_same e w) (go (same v w) refl (found N w))
  where
    go : (b : Bool) → same v w ≡ b → Found R w ns (place_in s l ps w) → Found R w ((v, a) ∷ ns) (cond b p (place_in s l ps w))
    go true g F = entry a h r (rw (find, g) refl)
    go false g (nothing z f) = nothing z (rw (find, g) f)
    go false g (entry x k q f) = entry x k q (rw (find, g) f)

-- ---- a block of values in the chain

pub first-low : (p : ℕ) → p < 32768 → first_value p ≡ p + 12
unfolding first_value
first-low p h = rw (mod-eq_of_lt h) refl

-- the chain goes through the values, and on from the last
run-entries : (l : List ℕ) (m n b : ℕ) → ((i : ℕ) → suc i < suc m → get_or l (b + 4 * i + 3) 0 ≡ b + 4 * suc i)
    → entries (suc (m + n)) l b ≡ places (suc m) b ++ entries n l (get_or l (b + 4 * m + 3) 0)
unfolding entries places
run-entries l zero n b k =
    let y : 0 + n ≡ n = omega arith in
    let z : b + 3 ≡ b + 4 * 0 + 3 = omega arith in
    ap (λ (j : ℕ). entries (suc j) l b) y ∙ ap (λ (j : ℕ). b ∷ entries n l (get_or l j 0)) z
run-entries l (suc m) n b k =
    let u : suc m + n ≡ suc (m + n) = omega arith in
    let x : b + 3 ≡ b + 4 * 0 + 3 = omega arith in
    let y : b + 4 * 1 ≡ b + 4 = omega arith in
    let z : b + 4 + 4 * m + 3 ≡ b + 4 * suc m + 3 = omega arith in
    let link : get_or l (b + 3) 0 ≡ b + 4 = ap (λ (j : ℕ). get_or l j 0) x ∙ k 0 (omega arith) ∙ y in
    let rest : entries (suc (m + n)) l (b + 4) ≡ places (suc m) (b + 4) ++ entries n l (get_or l (b + 4 + 4 * m + 3) 0) = run-entries l m n (b + 4) (λ i h.
    let v : b + 4 + 4 * i + 3 ≡ b + 4 * suc i + 3 = omega arith in
    let w : b + 4 * suc (suc i) ≡ b + 4 + 4 * suc i = omega arith in
    ap (λ (j : ℕ). get_or l j 0) v ∙ k (suc i) (omega arith) ∙ w) in
    ap (λ (j : ℕ). entries (suc j) l b) u
    ∙ ap (λ (ps : List ℕ). b ∷ ps) (ap (λ (q : ℕ). entries (suc (m + n)) l q) link ∙ rest ∙ ap (λ (j : ℕ). places (suc m) (b + 4) ++ entries n l (get_or l j 0)) z)

block-entries : {s l : List ℕ} {p m : ℕ} → Block s l p (suc m) → (n : ℕ)
    → entries (suc (suc (m + n))) l p ≡ p ∷ (places (suc m) (p + 12) ++ entries n l (get_or l (p + 12 + 4 * m + 3) 0))
unfolding entries
block-entries {l = l} {p} {m} K n = ap (λ (ps : List ℕ). p ∷ ps) (ap (λ (q : ℕ). entries (suc (m + n)) l q) K.next ∙ run-entries l m n (p + 12) K.linked)

place-append : (s l : List ℕ) (w : Name) (n b : ℕ) (ps : List ℕ) → 1 ≤ b → place_in s l (places n b ++ ps) w ≡ or_else (place_in s l (places n b) w) (place_in s l ps w)
unfolding places place_in or_else
place-append s l w zero b ps h = refl
place-append s l w (suc n) b ps h = go (is_called s l b w) (place-append s l w n (b + 4) ps (omega arith))
  where
    go : (t : Bool) → place_in s l (places n (b + 4) ++ ps) w ≡ or_else (place_in s l (places n (b + 4)) w) (place_in s l ps w)
        → cond t b (place_in s l (places n (b + 4) ++ ps) w) ≡ or_else (cond t b (place_in s l (places n (b + 4)) w)) (place_in s l ps w)
    go true r = rw (ne_eqb b 0 (λ e. omega arith)) refl
    go false r = r

-- a lookup finds what the chain says
pub below-place : {s l : List ℕ} {t n p : ℕ} → Below s l t n p → (w : Name) → place_by s l n p w ≡ place_in s l (entries n l p) w
unfolding entries place_in
below-place {s} {l} (no-entry {p}) w = place_none s l w 0 p refl
below-place {s} {l} (one_entry {n} {p} h v B) w =
    let z : suc n - 1 ≡ n = omega arith in
    place-on s l w (suc n) p (omega arith) ∙ rw (eq-eqb (values_behind l p) 0 v, z, below-place B w) refl
below-place {s} {l} (one_block {n} {p} {m} h K B) w =
    let x : suc (suc (m + n)) - 1 - suc m ≡ n = omega arith in
    let y : first_value p + 4 * (suc m - 1) + 3 ≡ p + 12 + 4 * m + 3 = let z = first-low p K.low in omega arith in
    let rest : place_by s l (suc (suc (m + n)) - 1 - suc m) (get_or l (first_value p + 4 * (suc m - 1) + 3) 0) w ≡ place_in s l (entries n l (get_or l (p + 12 + 4 * m + 3) 0)) w =
    ap (λ (j : ℕ). place_by s l j (get_or l (first_value p + 4 * (suc m - 1) + 3) 0) w) x ∙ ap (λ (j : ℕ). place_by s l n (get_or l j 0) w) y ∙ below-place B w in
    place-on s l w (suc (suc (m + n))) p (omega arith)
    ∙ rw (ne_eqb (values_behind l p) 0 (λ e. let z = K.many in omega arith), K.many, K.found w, rest) refl
    ∙ sym (ap (λ (ps : List ℕ). place_in s l ps w) (block-entries K n)
    ∙ ap (λ (q : ℕ). cond (is_called s l p w) p q) (place-append s l w (suc m) (p + 12) (entries n l (get_or l (p + 12 + 4 * m + 3) 0)) (omega arith)))

-- ---- what is laid later leaves a chain as it is

-- each of these entries is below t
pub data Within (t : ℕ) : List ℕ → Type 0 where
  none_within : Within t []
  one-within : {p : ℕ} {ps : List ℕ} → p + 4 ≤ t → Within t ps → Within t (p ∷ ps)

places-within : {t : ℕ} (n b : ℕ) {ps : List ℕ} → b + 4 * n ≤ t → Within t ps → Within t (places n b ++ ps)
unfolding places
places-within zero b h W = W
places-within (suc n) b h W = one-within {p = b} (omega arith) (places-within n (b + 4) (omega arith) W)

places-alone : {t : ℕ} (n b : ℕ) → b + 4 * n ≤ t → Within t (places n b)
unfolding places
places-alone zero b h = none_within
places-alone (suc n) b h = one-within {p = b} (omega arith) (places-alone n (b + 4) (omega arith))

pub below-within : {s l : List ℕ} {t n p : ℕ} → Below s l t n p → Within t (entries n l p)
unfolding entries
below-within no-entry = none_within
below-within (one_entry h v B) = one-within h (below-within B)
below-within {t = t} (one_block {n} {p} {m} h K B) = subst (λ (ps : List ℕ). Within t ps) (sym (block-entries K n)) (one-within {p = p} (omega arith) (places-within (suc m) (p + 12) (omega arith) (below-within B)))

middle-below : (low high : ℕ) → low < high → middle low high < high
unfolding middle
middle-below low high h = omega arith

module _ {l l' : List ℕ} {t : ℕ} (E : Same 0 t l' l) where
  behind-kept : (p : ℕ) → p + 4 ≤ t → values_behind l' p ≡ values_behind l p
  unfolding values_behind
  behind-kept p h = rw (E.at (p + 1) (omega arith) (omega arith), E.at (p + 2) (omega arith) (omega arith)) refl

  called-kept : {s : List ℕ} {p : ℕ} {w : Name} → p + 4 ≤ t → Called s l p w → Called s l' p w
  unfolding name_at key_at
  called-kept {p = p} h C = let e = E.at p (omega arith) (omega arith) in record { name-is = rw e C.name-is; key-is = rw e C.key-is }

  pub is-called-kept : (s : List ℕ) (w : Name) (p : ℕ) → p + 4 ≤ t → is_called s l' p w ≡ is_called s l p w
  unfolding is_called name_at key_at
  is-called-kept s w p h = rw (E.at p (omega arith) (omega arith)) refl

  pub placed-kept : (s : List ℕ) (w : Name) {ps : List ℕ} → Within t ps → place_in s l' ps w ≡ place_in s l ps w
  unfolding place_in
  placed-kept s w none_within = refl
  placed-kept s w (one-within {p} h W) = rw (is-called-kept s w p h, placed-kept s w W) refl

  order-kept : (s : List ℕ) (w : Name) (p : ℕ) → p + 4 ≤ t → order_at s l' p w ≡ order_at s l p w
  unfolding order_at name_at key_at
  order-kept s w p h = rw (E.at p (omega arith) (omega arith)) refl

  rank-kept : (b j : ℕ) → b + 4 * j + 4 ≤ t → ranked l' b j ≡ ranked l b j
  unfolding ranked
  rank-kept b j h = rw (E.at (b + 4 * j + 1) (omega arith) (omega arith)) refl

  halved-kept : (s : List ℕ) (w : Name) (b n d low high : ℕ) → b + 4 * n ≤ t → high ≤ n → halved s l' b n w d low high ≡ halved s l b n w d low high
  unfolding halved
  halved-kept s w b n zero low high h g = refl
  halved-kept s w b n (suc d) low high h g = outer (λ x y f. halved-kept s w b n d x y h f) (ltb low high) refl
    where
      inner : ((x y : ℕ) → y ≤ n → halved s l' b n w d x y ≡ halved s l b n w d x y) → (m i : ℕ) → m < high → (c : Bool) → ltb i n ≡ c
          → cond c (by_order (order_at s l' (b + 4 * i) w) (halved s l' b n w d (m + 1) high) (b + 4 * i) (halved s l' b n w d low m)) 0
          ≡ cond c (by_order (order_at s l (b + 4 * i) w) (halved s l b n w d (m + 1) high) (b + 4 * i) (halved s l b n w d low m)) 0
      inner k m i f false e = refl
      inner k m i f true e =
          let j = ltb-true i n e in
          rw (order-kept s w (b + 4 * i) (omega arith), k (m + 1) high g, k low m (omega arith)) refl

      whole : ((x y : ℕ) → y ≤ n → halved s l' b n w d x y ≡ halved s l b n w d x y) → (m : ℕ) → m < high
          → cond (ltb (ranked l' b m) n) (by_order (order_at s l' (b + 4 * ranked l' b m) w) (halved s l' b n w d (m + 1) high) (b + 4 * ranked l' b m) (halved s l' b n w d low m)) 0
          ≡ cond (ltb (ranked l b m) n) (by_order (order_at s l (b + 4 * ranked l b m) w) (halved s l b n w d (m + 1) high) (b + 4 * ranked l b m) (halved s l b n w d low m)) 0
      whole k m f = rw (rank-kept b m (omega arith)) (inner k m (ranked l b m) f (ltb (ranked l b m) n) refl)

      outer : ((x y : ℕ) → y ≤ n → halved s l' b n w d x y ≡ halved s l b n w d x y) → (c : Bool) → ltb low high ≡ c
          → cond c (cond (ltb (ranked l' b (middle low high)) n) (by_order (order_at s l' (b + 4 * ranked l' b (middle low high)) w) (halved s l' b n w d (middle low high + 1) high) (b + 4 * ranked l' b (middle low high)) (halved s l' b n w d low (middle low high))) 0) 0
          ≡ cond c (cond (ltb (ranked l b (middle low high)) n) (by_order (order_at s l (b + 4 * ranked l b (middle low high)) w) (halved s l b n w d (middle low high + 1) high) (b + 4 * ranked l b (middle low high)) (halved s l b n w d low (middle low high))) 0) 0
      outer k false e = refl
      outer k true e = whole k (middle low high) (middle-below low high (ltb-true low high e))

  block-kept : {s : List ℕ} {p n : ℕ} → 1 ≤ n → p + 12 + 4 * n ≤ t → Block s l p n → Block s l' p n
  unfolding value_in
  block-kept {s} {p} {n} one h K = record {
    low = K.low;
    many = behind-kept p (omega arith) ∙ K.many;
    next = E.at (p + 3) (omega arith) (omega arith) ∙ K.next;
    linked = λ i g. E.at (p + 12 + 4 * i + 3) (omega arith) (omega arith) ∙ K.linked i g;
    found = λ w. let e = first-low p K.low in
        halved-kept s w (first_value p) n 9 0 n (rw e h) (omega arith) ∙ K.found w ∙ sym (placed-kept s w (places-alone n (p + 12) h));
  }

  pub entries-kept : {s : List ℕ} {n p : ℕ} → Below s l t n p → entries n l' p ≡ entries n l p
  unfolding entries
  entries-kept no-entry = refl
  entries-kept {p = p} (one_entry {n} h v B) = ap (λ ps. p ∷ ps) (ap (λ q. entries n l' q) (E.at (p + 3) (omega arith) (omega arith)) ∙ entries-kept B)
  entries-kept {s} (one_block {n} {p} {m} h K B) =
      block-entries {s = s} {l = l'} {m = m} (block-kept (omega arith) h K) n
      ∙ ap (λ (ps : List ℕ). p ∷ (places (suc m) (p + 12) ++ ps)) (ap (λ q. entries n l' q) (E.at (p + 12 + 4 * m + 3) (omega arith) (omega arith)) ∙ entries-kept B)
      ∙ sym (block-entries K n)

  pub below-kept : {s : List ℕ} {n p : ℕ} → Below s l t n p → Below s l' t n p
  below-kept no-entry = no-entry
  below-kept {p = p} (one_entry {n} h v B) = one_entry {n = n} h (behind-kept p h ∙ v) (rw (E.at (p + 3) (omega arith) (omega arith)) (below-kept B))
  below-kept (one_block {n} {p} {m} h K B) =
      one_block {n = n} {m = m} h (block-kept (omega arith) h K) (rw (E.at (p + 12 + 4 * m + 3) (omega arith) (omega arith)) (below-kept B))

  -- names stay, where what the entries tell of them does
  names-within : {A : Type 0} {s : List ℕ} {R R' : ℕ → A → Type 0} → ((p : ℕ) (a : A) → p + 4 ≤ t → R p a → R' p a)
      → {ps : List ℕ} {ns : List (Name × A)} → Within t ps → Names s l R ps ns → Names s l' R' ps ns
  names-within k none_within no_names = no_names
  names-within k (one-within {p} h W) (one_name {w = w} i e r N) = one_name {w = w} i (called-kept h e) (k p _ h r) (names-within k W N)

  pub names-kept : {A : Type 0} {s : List ℕ} {R R' : ℕ → A → Type 0} → ((p : ℕ) (a : A) → p + 4 ≤ t → R p a → R' p a)
      → {n p : ℕ} {ns : List (Name × A)} → Below s l t n p → Names s l R (entries n l p) ns → Names s l' R' (entries n l p) ns
  names-kept k B N = names-within k (below-within B) N

-- ---- a new entry

pub below-higher : {s l : List ℕ} {t u n p : ℕ} → t ≤ u → Below s l t n p → Below s l u n p
below-higher h no-entry = no-entry
below-higher h (one_entry {n} {p} g v B) = one_entry {n = n} {p = p} (omega arith) v (below-higher h B)
below-higher h (one_block {n} {p} {m} g K B) = one_block {n = n} {p = p} {m = m} (omega arith) K (below-higher h B)

-- an entry that begins with a name's number has that name
pub called-keyed : (s l : List ℕ) (t p : ℕ) → p < 32768 → get_or l t 0 ≡ keyed s p → Called s l t (map small (word_at s p))
unfolding name_at key_at
called-keyed s l t p h e = record { name-is = rw (e, keyed-offset s p h) refl; key-is = rw (e, keyed-key s p) refl }

-- what the list l' holds after a new entry at t, of the name at p, laid on l before the n entries from `newest` on
pub record Added (s l l' : List ℕ) (t n p sort more newest : ℕ) : Type 0 where
  pub kept : Same 0 t l' l
  pub places : entries (suc n) l' t ≡ t ∷ entries n l newest
  pub below : Below s l' (t + 4) (suc n) t
  pub called : Called s l' t (map small (word_at s p))
  pub sort-is : get_or l' (t + 1) 0 ≡ sort
  pub more-is : get_or l' (t + 2) 0 ≡ more

pub added : (s l : List ℕ) (t n p sort more newest : ℕ) → values_by sort more ≡ 0 → p < 32768 → Room 4 t l → Below s l t n newest
    → Added s l (lay (keyed s p ∷ sort ∷ more ∷ newest ∷ []) t l).list t n p sort more newest
unfolding entries values_behind
added s l t n p sort more newest v h r B =
    let L = lay-l (keyed s p ∷ sort ∷ more ∷ newest ∷ []) t l in
    let H : Has (keyed s p ∷ sort ∷ more ∷ newest ∷ []) t (lay (keyed s p ∷ sort ∷ more ∷ newest ∷ []) t l).list = L.held r _ (record { at = λ _ _ _. refl }) in
    let E : Same 0 t (lay (keyed s p ∷ sort ∷ more ∷ newest ∷ []) t l).list l = record { at = λ i _ h. L.grows.below i h } in
    let b : get_or (lay (keyed s p ∷ sort ∷ more ∷ newest ∷ []) t l).list (t + 3) 0 ≡ newest = H.at 3 (omega arith) in
    let z : t + 0 ≡ t = omega arith in
    record {
      kept = E;
      places = rw b (ap (λ ps. t ∷ ps) (entries-kept E B));
      below = one_entry {n = n} {p = t} (omega arith) (rw (H.at 1 (omega arith), H.at 2 (omega arith)) v) (rw b (below-higher (omega arith) (below-kept E B)));
      called = called-keyed s _ t p h (rw z at (H.at 0 (omega arith)));
      sort-is = H.at 1 (omega arith);
      more-is = H.at 2 (omega arith);
    }
