-- The tables that the declarations build have what the machines' theorem asks of them.
use mathlib.Core.Path.{◌≡◌, refl, sym, ap, ◌∙◌}
use mathlib.Core.Bool.{Bool, true, false}
use mathlib.Core.List.{List, [], ◌∷◌, ◌++◌}
use mathlib.Core.Option.{some}
use Prim.Native.Nat.{ℕ, zero, suc, ◌+◌, ◌*◌, ◌≤◌, ◌<◌}
use native.Mathlib.Decide.{ℕ_discrete, dec_lt}
use native.Mathlib.Omega.{arith}
use native.Mathlib.Nat.{add_assoc, add-zero, zero-add, suc-mul, zero-mul, add_comm}
use lib.IntN.{ℤ, pos}
use lib.ListN.{get_or, length, length-append, get_or-append, get_or-eq_default}
use lib.Seq.{get_or-append-add}
use lib.Signed.{le_z}
use Rattle.leaf_integers.specs.Integers.{least, most}
use Rattle.leaf_bytes.specs.Bytes.{same}
use Rattle.law.specs.Base.{Name}
use Rattle.law.specs.Environment.{built_in, copies, extend_types, field_cells, lay_fields, type_sort_of}
use Rattle.law.specs.Script.{Const, Decl, alias, array_of, enum, range, record_of, set_of}
use Rattle.law.specs.Types.{Field, Shape, TypeInfo, TypeSort, facts, ordinal_type, Types, Vars, array_shape, cells_of, field_of, host_by, info_at, is_ordinal, ordinal?, ordinal_shape, record_shape, set_shape, size_of, undeclared}
use Rattle.law_theorems.proofs.Spans.{inside-span}
use Rattle.leaf_integers.proofs.Order.{le_z-refl}
use borrow.Author.Tests.{le-leb}
use Rattle.law_theorems.proofs.ValuesInRange.{wrong, at-trans, none-some}
use Rattle.law_theorems.specs.ValuesInRange.{At, Test, Formed, Parted, before, behind, one}
use Rattle.law_theorems.proofs.Inversion.{some_inj}
use Rattle.law_theorems.specs.TypeTables.{All, AllIn, Laid, Sane, Table, empty, more}

pub all_append : {n : ℕ} {xs ys : List ℕ} → AllIn n xs → AllIn n ys → AllIn n (xs ++ ys)
all_append empty b = b
all_append (more l a) b = more l (all_append a b)

all-copies : {n : ℕ} {cs : List ℕ} (k : ℕ) → AllIn n cs → AllIn n (copies k cs)
unfolding copies
all-copies zero a = empty
all-copies (suc k) a = all_append a (all-copies k a)

pub all_more : {n m : ℕ} {xs : List ℕ} → n ≤ m → AllIn n xs → AllIn m xs
all_more l empty = empty
all_more l (more {t} k a) = more {t = t} (omega arith) (all_more l a)

pub all-get : {n : ℕ} {xs : List ℕ} → AllIn n xs → (j : ℕ) → j < length xs → get_or xs j 0 < n
all-get empty j l = absurd (omega arith)
all-get (more k a) zero l = k
all-get (more k a) (suc j) l = all-get a j (omega arith)

-- ---- lists in lists

pub at_left : (xs ys : List ℕ) → At (xs ++ ys) 0 xs
at_left xs ys = record { short = rw length-append (omega arith); each = λ j l. rw (zero-add, get_or-append xs ys 0 j l) }

pub at_right : (xs ys : List ℕ) → At (xs ++ ys) (length xs) ys
at_right xs ys = record { short = rw length-append (omega arith); each = λ j l. get_or-append-add xs ys j 0 }

at_first : {xs zs : List ℕ} {a : ℕ} (ys : List ℕ) → At xs a zs → At (xs ++ ys) a zs
at_first {xs} {zs} {a} ys h = rw zero-add at (at-trans (at_left xs ys) h)

at_second : {ys zs : List ℕ} {a : ℕ} (xs : List ℕ) → At ys a zs → At (xs ++ ys) (length xs + a) zs
at_second {ys} xs h = at-trans (at_right xs ys) h

copies_at : (n i : ℕ) (cs : List ℕ) → i < n → At (copies n cs) (i * length cs) cs
unfolding copies
copies_at zero i cs l = absurd (omega arith)
copies_at (suc n) zero cs l = rw zero-mul (at_left cs (copies n cs))
copies_at (suc n) (suc i) cs l = rw (suc-mul i (length cs), add_comm (i * length cs) (length cs)) (at_second cs (copies_at n i cs (omega arith)))

-- a field that is found lies where its offset says, after the fields before it
placed_at : (Γ : Types) (fs : List (Name × ℕ)) (a : ℕ) (n : Name) (f : Field) → field_of (lay_fields Γ a fs) n ≡ some f
    → (b : ℕ) × (f.offset ≡ a + b) × At (field_cells Γ fs) b (cells_of Γ f.type)
unfolding field_of lay_fields field_cells
placed_at Γ [] a n f h = absurd (none-some h)
placed_at Γ (g ∷ fs) a n f h = go (same g.0 n) refl (λ k. placed_at Γ fs (a + size_of Γ g.1) n f k)
  where
    go : (b : Bool) → same g.0 n ≡ b
        → (field_of (lay_fields Γ (a + size_of Γ g.1) fs) n ≡ some f → (c : ℕ) × (f.offset ≡ a + size_of Γ g.1 + c) × At (field_cells Γ fs) c (cells_of Γ f.type))
        → (c : ℕ) × (f.offset ≡ a + c) × At (cells_of Γ g.1 ++ field_cells Γ fs) c (cells_of Γ f.type)
    go true e k =
        let q : record { name = g.0; type = g.1; offset = a } ≡ f = some_inj (rw (e, field_of) at h) in
        rw (← q) (0, sym (add-zero a), at_left (cells_of Γ g.1) (field_cells Γ fs))
    go false e k =
        let r = k (rw (e, field_of) at h) in
        (size_of Γ g.1 + r.0, r.1 ∙ add_assoc a (size_of Γ g.1) r.0, at_second (cells_of Γ g.1) r.2)

-- and its type is one that was listed
placed-type : (P : ℕ → Type 0) (Γ : Types) (fs : List (Name × ℕ)) (a : ℕ) (n : Name) (f : Field) → field_of (lay_fields Γ a fs) n ≡ some f → All P fs → P f.type
unfolding field_of lay_fields
placed-type P Γ [] a n f h ps = absurd (none-some h)
placed-type P Γ (g ∷ fs) a n f h ps = go (same g.0 n) refl (λ k. placed-type P Γ fs (a + size_of Γ g.1) n f k ps.1)
  where
    go : (b : Bool) → same g.0 n ≡ b → (field_of (lay_fields Γ (a + size_of Γ g.1) fs) n ≡ some f → P f.type) → P f.type
    go true e k =
        let q : record { name = g.0; type = g.1; offset = a } ≡ f = some_inj (rw (e, field_of) at h) in
        rw (← q) ps.0
    go false e k = k (rw (e, field_of) at h)

-- two fields that are found are one, or lie apart
placed-apart : (Γ : Types) (fs : List (Name × ℕ)) (a : ℕ) (n m : Name) (f g : Field) → field_of (lay_fields Γ a fs) n ≡ some f → field_of (lay_fields Γ a fs) m ≡ some g
    → Parted Γ f.offset f.type g.offset g.type
unfolding field_of lay_fields
placed-apart Γ [] a n m f g h k = absurd (none-some h)
placed-apart Γ (x ∷ fs) a n m f g h k = go (same x.0 n) (same x.0 m) refl refl (λ h k. placed-apart Γ fs (a + size_of Γ x.1) n m f g h k)
  where
    later : (n : Name) (f : Field) → field_of (lay_fields Γ (a + size_of Γ x.1) fs) n ≡ some f → a + size_of Γ x.1 ≤ f.offset
    later n f h = let r = placed_at Γ fs (a + size_of Γ x.1) n f h in let e = r.1 in omega arith

    go : (b c : Bool) → same x.0 n ≡ b → same x.0 m ≡ c
        → (field_of (lay_fields Γ (a + size_of Γ x.1) fs) n ≡ some f → field_of (lay_fields Γ (a + size_of Γ x.1) fs) m ≡ some g → Parted Γ f.offset f.type g.offset g.type)
        → Parted Γ f.offset f.type g.offset g.type
    go true true d e r =
        let p : record { name = x.0; type = x.1; offset = a } ≡ f = some_inj (rw (d, field_of) at h) in let q : record { name = x.0; type = x.1; offset = a } ≡ g = some_inj (rw (e, field_of) at k) in
        rw (← p, ← q) (one refl refl)
    go true false d e r = let p : record { name = x.0; type = x.1; offset = a } ≡ f = some_inj (rw (d, field_of) at h) in rw (← p) (before (later m g (rw (e, field_of) at k)))
    go false true d e r = let q : record { name = x.0; type = x.1; offset = a } ≡ g = some_inj (rw (e, field_of) at k) in rw (← q) (behind (later n f (rw (d, field_of) at h)))
    go false false d e r = r (rw (d, field_of) at h) (rw (e, field_of) at k)

-- where the sizes are the same
pub parted-as : {Γ Γ' : Types} {a t b u : ℕ} → cells_of Γ' t ≡ cells_of Γ t → cells_of Γ' u ≡ cells_of Γ u → Parted Γ a t b u → Parted Γ' a t b u
parted-as e f (one p q) = one p q
parted-as e f (before l) = before (rw e l)
parted-as e f (behind l) = behind (rw f l)

-- ---- what holds of each entry of a table; references lead to types of the table

no_field : {X : Type 0} (n : Name) (f : Field) → field_of [] n ≡ some f → X
unfolding field_of
no_field n f h = absurd (none-some h)

none-entry : (Γ : Types) (t : ℕ) → Sane Γ t (facts undeclared)
none-entry Γ t = record { inner = λ _. empty; element = λ h. wrong h; index = λ h. wrong h; base = λ h. wrong h; host = λ h. wrong h; bounds = λ h. wrong h; lowest = λ h. wrong h; wider = λ h. wrong h; small = λ h. wrong h; filled = λ h. wrong h; nonempty = λ h. wrong h; field_types = λ m g k. no_field m g k; elements = λ h. wrong h; apart = λ m n f g h k. no_field m f h; places = λ m g k. no_field m g k }

module _ (Γ : Types) (i : TypeSort) where
  abbrev Γ' : Types
  Γ' = Γ ++ (i ∷ [])

  pub old : (t : ℕ) → t < length Γ → info_at Γ' t ≡ info_at Γ t
  old t l = ap facts (get_or-append Γ (i ∷ []) undeclared t l)

  pub new : info_at Γ' (length Γ) ≡ facts i
  new = ap (λ (n : ℕ). info_at Γ' n) (sym (add-zero (length Γ))) ∙ ap facts (get_or-append-add Γ (i ∷ []) 0 undeclared)

  beyond : (t : ℕ) → length Γ < t → info_at Γ' t ≡ facts undeclared
  beyond t l = ap facts (get_or-eq_default Γ' undeclared (rw length-append (omega arith)))

  longer : (n : ℕ) → n < length Γ → n < length Γ'
  longer n l = rw length-append (omega arith)

  cells-old : (t : ℕ) → t < length Γ → cells_of Γ' t ≡ cells_of Γ t
  cells-old t l = rw (old t l)

  ord-old : (t : ℕ) → t < length Γ → ordinal? Γ t ≡ true → ordinal? Γ' t ≡ true
  ord-old t l h = rw (old t l) h

  extend : (t : ℕ) (j : TypeInfo) → t < length Γ → Sane Γ t j → Sane Γ' t j
  extend t j l k = record {
    filled = k.filled;
    nonempty = k.nonempty;
    inner = λ _. all_more (rw length-append (omega arith)) (k.inner l);
    element = λ p. longer j.element (k.element p);
    index = λ p. (longer j.index (k.index p).0, ord-old j.index (k.index p).0 (k.index p).1);
    base = λ p. (longer j.element (k.base p).0, ord-old j.element (k.base p).0 (k.base p).1);
    host = λ p. (longer j.host (k.host p).0, ord-old j.host (k.host p).0 (k.host p).1);
    bounds = λ p. rw (old j.element (k.base p).0) (k.bounds p);
    lowest = k.lowest;
    wider = λ p. rw (old j.host (k.host p).0) (k.wider p);
    small = k.small;
    field_types = λ n f h. longer f.type (k.field_types n f h);
    elements = λ p z q. rw (cells-old j.element (k.element p)) (k.elements p z q);
    places = λ n f h. rw (cells-old f.type (k.field_types n f h)) (k.places n f h);
    apart = λ n m f g h e. parted-as (cells-old f.type (k.field_types n f h)) (cells-old g.type (k.field_types m g e)) (k.apart n m f g h e);
  }

  extended : Table Γ → Sane Γ' (length Γ) (facts i) → Table Γ'
  extended 𝓣 e = record {
    each = λ t. go t (dec_lt t (length Γ)) (ℕ_discrete t (length Γ));
    integers = rw (old 0 (omega (arith, 𝓣.two))) 𝓣.integers;
    booleans = rw (old 1 (omega (arith, 𝓣.two))) 𝓣.booleans;
    two = rw length-append (omega (arith, 𝓣.two));
  }
    where
      go : (t : ℕ) → Dec (t < length Γ) → Dec (t ≡ length Γ) → Sane Γ' t (info_at Γ' t)
      go t (yes l) d = rw (old t l) (extend t (info_at Γ t) l (𝓣.each t))
      go t (no nl) (yes q) = rw (q, new) e
      go t (no nl) (no nq) = rw (beyond t (omega arith)) (none-entry Γ' t)

-- ---- each declaration

abbrev pub Valid : Types → Decl → Type 0
Valid Γ (alias t) = Unit {0}
Valid Γ (enum v vs) = le_z (pos (length vs)) most ≡ true
Valid Γ (range a b) = (a.kind < length Γ) × (ordinal? Γ a.kind ≡ true) × (le_z (info_at Γ a.kind).low a.value ≡ true) × (le_z b.value (info_at Γ a.kind).high ≡ true)
    × (le_z least a.value ≡ true) × (le_z b.value most ≡ true) × (le_z a.value b.value ≡ true)
Valid Γ (array_of i e) = (e < length Γ) × (i < length Γ) × (ordinal? Γ i ≡ true)
Valid Γ (record_of fs) = All (λ t. t < length Γ) fs
Valid Γ (set_of b) = (b < length Γ) × (ordinal? Γ b ≡ true) × (le_z (pos 0) (info_at Γ b).low ≡ true)

all-fields : (Γ : Types) → Table Γ → (fs : List (Name × ℕ)) → All (λ t. t < length Γ) fs → AllIn (length Γ) (field_cells Γ fs)
unfolding field_cells
all-fields Γ 𝓣 [] v = empty
all-fields Γ 𝓣 (f ∷ fs) v = all_append ((𝓣.each f.1).inner v.0) (all-fields Γ 𝓣 fs v.1)

pub enum-declared : (Γ : Types) (v : Name) (vs : List Name) → Valid Γ (enum v vs) → Table Γ → Table (extend_types Γ (enum v vs))
unfolding extend_types type_sort_of
enum-declared Γ v vs p 𝓣 = extended Γ _ 𝓣 (record {
  element = λ h. wrong h;
  index = λ h. wrong h;
  base = λ h. wrong h;
  host = λ h. (rw length-append (omega arith), rw new refl);
  bounds = λ h. wrong h;
  lowest = λ h. wrong h;
  wider = λ h. rw new (refl, le_z-refl (pos (length vs)));
  small = λ h. (refl, p);
  filled = λ h. le-leb 0 (length vs) (omega arith);
  nonempty = λ h. wrong h;
  inner = λ l. more l empty;
  field_types = λ m g k. no_field m g k;
  elements = λ h. wrong h;
  apart = λ m n f g h k. no_field m f h;
  places = λ m g k. no_field m g k;
})

pub range-declared : (Γ : Types) (a b : Const) → Valid Γ (range a b) → Table Γ → Table (extend_types Γ (range a b))
unfolding extend_types type_sort_of
range-declared Γ a b v 𝓣 = extended Γ _ 𝓣 (record {
  element = λ h. wrong h;
  index = λ h. wrong h;
  base = λ h. wrong h;
  host = λ p. (longer Γ _ a.kind v.0, ord-old Γ _ a.kind v.0 v.1);
  bounds = λ h. wrong h;
  lowest = λ h. wrong h;
  wider = λ p. rw (old Γ _ a.kind v.0) (v.2, v.3);
  small = λ p. (v.4, v.5);
  filled = λ p. v.6;
  nonempty = λ h. wrong h;
  inner = λ l. more l empty;
  field_types = λ m g k. no_field m g k;
  elements = λ h. wrong h;
  apart = λ m n f g h k. no_field m f h;
  places = λ m g k. no_field m g k;
})

pub array-declared : (Γ : Types) (i e : ℕ) → Valid Γ (array_of i e) → Table Γ → Table (extend_types Γ (array_of i e))
unfolding extend_types type_sort_of
array-declared Γ i e v 𝓣 = extended Γ _ 𝓣 (record {
  element = λ p. longer Γ _ e v.0;
  index = λ p. (longer Γ _ i v.1, ord-old Γ _ i v.1 v.2);
  base = λ h. wrong h;
  host = λ h. wrong h;
  bounds = λ h. wrong h;
  lowest = λ h. wrong h;
  wider = λ h. wrong h;
  small = λ h. wrong h;
  filled = λ h. wrong h;
  nonempty = λ p. (𝓣.each i).filled v.2;
  inner = λ l. all-copies _ (all_more (rw length-append (omega arith)) ((𝓣.each e).inner v.0));
  field_types = λ m g k. no_field m g k;
  elements = λ p z q. rw (cells-old Γ _ e v.0) (copies_at _ _ (cells_of Γ e) (inside-span _ _ z q));
  apart = λ m n f g h k. no_field m f h;
  places = λ m g k. no_field m g k;
})

pub record-declared : (Γ : Types) (fs : List (Name × ℕ)) → Valid Γ (record_of fs) → Table Γ → Table (extend_types Γ (record_of fs))
unfolding extend_types type_sort_of
record-declared Γ fs v 𝓣 = extended Γ _ 𝓣 (record {
  element = λ h. wrong h;
  index = λ h. wrong h;
  base = λ h. wrong h;
  host = λ h. wrong h;
  bounds = λ h. wrong h;
  lowest = λ h. wrong h;
  wider = λ h. wrong h;
  small = λ h. wrong h;
  filled = λ h. wrong h;
  nonempty = λ h. wrong h;
  inner = λ l. all_more (rw length-append (omega arith)) (all-fields Γ 𝓣 fs v);
  field_types = λ n f h. longer Γ _ f.type (placed-type (λ t. t < length Γ) Γ fs 0 n f h v);
  elements = λ h. wrong h;
  places = λ n f h. let r = placed_at Γ fs 0 n f h in rw (cells-old Γ _ f.type (placed-type (λ t. t < length Γ) Γ fs 0 n f h v), r.1, zero-add) r.2;
  apart = λ n m f g h e. parted-as (cells-old Γ _ f.type (placed-type (λ t. t < length Γ) Γ fs 0 n f h v)) (cells-old Γ _ g.type (placed-type (λ t. t < length Γ) Γ fs 0 m g e v))
      (placed-apart Γ fs 0 n m f g h e);
})

pub set-declared : (Γ : Types) (b : ℕ) → Valid Γ (set_of b) → Table Γ → Table (extend_types Γ (set_of b))
unfolding extend_types type_sort_of
set-declared Γ b v 𝓣 = extended Γ _ 𝓣 (record {
  element = λ h. wrong h;
  index = λ h. wrong h;
  base = λ p. (longer Γ _ b v.0, ord-old Γ _ b v.0 v.1);
  host = λ h. wrong h;
  bounds = λ p. rw (old Γ _ b v.0) (refl, refl);
  lowest = λ p. v.2;
  wider = λ h. wrong h;
  small = λ h. wrong h;
  filled = λ h. wrong h;
  nonempty = λ h. wrong h;
  inner = λ l. more l empty;
  field_types = λ m g k. no_field m g k;
  elements = λ h. wrong h;
  apart = λ m n f g h k. no_field m f h;
  places = λ m g k. no_field m g k;
})

pub declared : (Γ : Types) (d : Decl) → Valid Γ d → Table Γ → Table (extend_types Γ d)
unfolding extend_types
declared Γ (alias t) v 𝓣 = 𝓣
declared Γ (enum w ws) v 𝓣 = enum-declared Γ w ws v 𝓣
declared Γ (range a b) v 𝓣 = range-declared Γ a b v 𝓣
declared Γ (array_of i e) v 𝓣 = array-declared Γ i e v 𝓣
declared Γ (record_of fs) v 𝓣 = record-declared Γ fs v 𝓣
declared Γ (set_of b) v 𝓣 = set-declared Γ b v 𝓣

pub started : Table built_in
started = record { each = go; integers = (refl, refl, refl); booleans = (refl, refl, refl); two = omega arith }
  where
    simple : (t : ℕ) (lo hi : ℤ) → t < 2 → (is_ordinal ordinal_shape ≡ true → (le_z (info_at built_in t).low lo ≡ true) × (le_z hi (info_at built_in t).high ≡ true)) → ordinal? built_in t ≡ true → le_z least lo ≡ true → le_z hi most ≡ true → le_z lo hi ≡ true → Sane built_in t (facts (ordinal_type t lo hi))
    simple t lo hi l w o p q r = record {
      filled = λ _. r;
      nonempty = λ h. wrong h;
      inner = λ k. more k empty;
      element = λ h. wrong h;
      index = λ h. wrong h;
      base = λ h. wrong h;
      host = λ h. (l, o);
      bounds = λ h. wrong h;
      lowest = λ h. wrong h;
      wider = w;
      small = λ h. (p, q);
      field_types = λ m g k. no_field m g k;
      elements = λ h. wrong h;
      apart = λ m n f g h k. no_field m f h;
      places = λ m g k. no_field m g k;
    }

    go : (t : ℕ) → Sane built_in t (info_at built_in t)
    go zero = simple 0 least most (omega arith) (λ _. (refl, refl)) refl refl refl refl
    go (suc zero) = simple 1 (pos 0) (pos 1) (omega arith) (λ _. (refl, refl)) refl refl refl refl
    go (suc (suc t)) = none-entry built_in (suc (suc t))

-- ---- variables: each takes the next cells

-- ---- a table and its variables are formed

pub host-is : (s : Shape) (t h : ℕ) → is_ordinal s ≡ true → host_by s t h ≡ h
host-is ordinal_shape t h p = refl
host-is set_shape t h p = wrong p
host-is array_shape t h p = wrong p
host-is record_shape t h p = wrong p

pub formed : (Γ : Types) (Δ : Vars) (tests : List Test) → Table Γ → Laid Γ Δ tests → Formed Γ Δ tests
formed Γ Δ tests 𝓣 𝓛 = record {
  vars = 𝓛.found;
  apart = 𝓛.apart;
  fields_apart = λ t n m f g h k. (𝓣.each t).apart n m f g h k;
  elements = λ t p z q. (𝓣.each t).elements p z q;
  indexes = λ t p. ((𝓣.each t).index p).1;
  fields = λ t n f h. (𝓣.each t).places n f h;
  hosts = λ t p. rw (host-is _ t _ p) ((𝓣.each t).host p).1;
  wider = λ t p. rw (host-is _ t _ p) ((𝓣.each t).wider p);
  small = λ t p. (𝓣.each t).small p;
  filled = λ t p. (𝓣.each t).filled p;
  nonempty = λ t p. (𝓣.each t).nonempty p;
  integers = 𝓣.integers;
  booleans = 𝓣.booleans;
  bases = λ t p. ((𝓣.each t).base p).1;
  bounds = λ t p. (𝓣.each t).bounds p;
  lowest = λ t p. (𝓣.each t).lowest p;
}
