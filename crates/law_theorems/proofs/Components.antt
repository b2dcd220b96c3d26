-- The cells of targets. Two parts of variables lie one in the other or apart, so that two of one size are the same cells or have none in common:
-- a copy in ascending order reads no cell that it has written before.
use mathlib.Core.Path.{◌≡◌, refl, sym, ap, ◌∙◌}
use mathlib.Core.Bool.{Bool, true, false}
use mathlib.Core.List.{List, []}
use mathlib.Core.Logic.{◌⊎◌, inl, inr}
use mathlib.Core.Option.{some}
use Prim.Native.Nat.{ℕ, suc, ◌+◌, ◌*◌, ◌≤◌, ◌<◌}
use native.Mathlib.Nat.{mul-le-mul_right, suc-mul}
use native.Mathlib.Omega.{arith}
use lib.IntN.{ℤ, ◌-ℤ◌}
use lib.ListN.{get_or}
use Rattle.leaf_integers.specs.Integers.{inside}
use Rattle.leaf_integers.proofs.Order.{le-or-lt}
use Rattle.law.specs.Base.{Name, pick}
use Rattle.law.specs.Calculate.{Result, ◌>>=◌, fails, is, nat_of, range_error, stuck, tested}
use Rattle.law.specs.Chair.{eval_code, place_code}
use Rattle.law.specs.Code.{cell}
use Rattle.law.specs.Elaborate.{Located, elab_target}
use Rattle.law.specs.Machine.{Store, sole}
use Rattle.law.specs.Script.{Target, at, dot, var}
use Rattle.law.specs.Types.{Field, TypeSort, Types, Var, Vars, array?, array_type, facts, field_of, info_at, is_array, ordinal_type, record_type, set_type, size_of, undeclared, variable}
use Rattle.law_theorems.proofs.Inversion.{and-true, bind-some, both_some, given-some, none-some, some_inj}
use Rattle.law_theorems.proofs.ValuesInRange.{wrong}
use Rattle.law_theorems.specs.Components.{Aside, above, below, same}
use Rattle.law_theorems.specs.ValuesInRange.{Formed, Parted, Test, before, behind, one}

-- k cells from a on, and l from b on: one lies in the other, or they are apart
pub data Lap (a k b l : ℕ) : Type 0 where
  inner : b ≤ a → a + k ≤ b + l → Lap a k b l
  outer : a ≤ b → b + l ≤ a + k → Lap a k b l
  under : a + k ≤ b → Lap a k b l
  over : b + l ≤ a → Lap a k b l

lap-more : {a k b l : ℕ} (c d e : ℕ) → d ≡ c + a → e ≡ c + b → Lap a k b l → Lap d k e l
lap-more c d e p q (inner x y) = inner (omega arith) (omega arith)
lap-more c d e p q (outer x y) = outer (omega arith) (omega arith)
lap-more c d e p q (under x) = under (omega arith)
lap-more c d e p q (over x) = over (omega arith)

pub aside : {a b k : ℕ} → Lap a k b k → Aside a b k
aside (inner x y) = same (omega arith)
aside (outer x y) = same (omega arith)
aside (under x) = below x
aside (over x) = above x

is-inj : {A : Type 0} {a b : A} → is a ≡ is b → a ≡ b
is-inj {a} {b} h = cc

no-fails : {A P : Type 0} {z : ℤ} {a : A} → fails z ≡ is a → P
no-fails {z} {a} h = absurd (let z : ◌≡◌ {A = ℕ} 0 1 = cc in omega arith)

no-stuck : {A P : Type 0} {a : A} → stuck ≡ is a → P
no-stuck {a} h = absurd (let z : ◌≡◌ {A = ℕ} 0 1 = cc in omega arith)

-- an array has no fields
array-fields : (s : TypeSort) → is_array (facts s).shape ≡ true → (facts s).fields ≡ []
array-fields (ordinal_type h lo hi) e = wrong e
array-fields (set_type b lo hi) e = wrong e
array-fields (array_type i e lo hi cs) p = refl
array-fields (record_type fs cs) e = wrong e

module _ (Γ : Types) (Δ : Vars) (xs : List Test) (𝓕 : Formed Γ Δ xs) where
  -- a part of type t at the offset o of a value of type u
  pub data Part (t : ℕ) : ℕ → ℕ → Type 0 where
    whole : Part t t 0
    element : {u o : ℕ} (z : ℤ) (p : ℕ) → array? Γ u ≡ true → inside (info_at Γ u).low (info_at Γ u).high z ≡ true → Part t (info_at Γ u).element o
        → p ≡ nat_of (z -ℤ (info_at Γ u).low) * size_of Γ (info_at Γ u).element + o → Part t u p
    field : {u o : ℕ} (n : Name) (f : Field) (p : ℕ) → field_of (info_at Γ u).fields n ≡ some f → Part t f.type o → p ≡ f.offset + o → Part t u p

  part-size : {t u o : ℕ} → Part t u o → o + size_of Γ t ≤ size_of Γ u
  part-size whole = omega arith
  part-size (element {u} z p a i q e) = let l = (𝓕.elements u a z i).short in let m = part-size q in omega arith
  part-size (field {u} n f p h q e) = let l = (𝓕.fields u n f h).short in let m = part-size q in omega arith

  no_both : {P : Type 0} (u : ℕ) (n : Name) (f : Field) → array? Γ u ≡ true → field_of (info_at Γ u).fields n ≡ some f → P
  unfolding field_of
  no_both u n f a h = none-some (rw (array-fields (get_or Γ u undeclared) a) at h)

  -- elements: the same one's parts, or an earlier one's and a later one's
  rows : (k s o v m n p q : ℕ) → o + k ≤ s → p ≡ m * s + o → q ≡ n * s + v → m < n → p + k ≤ q
  rows k s o v m n p q l e f h = let i = mul-le-mul_right s h in let j : suc m * s ≡ m * s + s = suc-mul m s in omega arith

  parts-lap : {t u w o v : ℕ} → Part t w o → Part u w v → Lap o (size_of Γ t) v (size_of Γ u)
  parts-lap whole q = let l = part-size q in outer (omega arith) (omega arith)
  parts-lap (element z p a i r e) whole = let l = part-size (element z p a i r e) in inner (omega arith) (omega arith)
  parts-lap (field n f p h r e) whole = let l = part-size (field n f p h r e) in inner (omega arith) (omega arith)
  parts-lap {w = w} (element z p a i r e) (field n f q h s d) = no_both w n f a h
  parts-lap {w = w} (field n f q h s d) (element z p a i r e) = no_both w n f a h
  parts-lap {t = t} {u = u} {w = w} (element {o = o} z p a i r e) (element {o = v} y q b j s d) =
      go (nat_of (z -ℤ (info_at Γ w).low)) (nat_of (y -ℤ (info_at Γ w).low)) e d (parts-lap r s)
    where
      go : (m n : ℕ) → p ≡ m * size_of Γ (info_at Γ w).element + o → q ≡ n * size_of Γ (info_at Γ w).element + v → Lap o (size_of Γ t) v (size_of Γ u) → Lap p (size_of Γ t) q (size_of Γ u)
      go m n e d c = by (le-or-lt m n) (le-or-lt n m)
        where
          by : (m ≤ n) ⊎ (n < m) → (n ≤ m) ⊎ (m < n) → Lap p (size_of Γ t) q (size_of Γ u)
          by (inr l) k = over (rows (size_of Γ u) (size_of Γ (info_at Γ w).element) v o n m q p (part-size s) d e l)
          by (inl l) (inr k) = under (rows (size_of Γ t) (size_of Γ (info_at Γ w).element) o v m n p q (part-size r) e d k)
          by (inl l) (inl k) = let x : m ≡ n = omega arith in lap-more (m * size_of Γ (info_at Γ w).element) p q e (rw x d) c
  parts-lap {t = t} {u = u} {w = w} (field {o = o} n f p h r e) (field {o = v} m g q k s d) = go (𝓕.fields_apart w n m f g h k) (λ y. parts-lap r (rw (← y) at s))
    where
      go : Parted Γ f.offset f.type g.offset g.type → (f.type ≡ g.type → Lap o (size_of Γ t) v (size_of Γ u)) → Lap p (size_of Γ t) q (size_of Γ u)
      go (one x y) c = lap-more f.offset p q e (rw x d) (c y)
      go (before l) c = let x = part-size r in under (omega arith)
      go (behind l) c = let x = part-size s in over (omega arith)

  -- a part of a part
  into-element : {t u o : ℕ} → Part t u o → (z : ℤ) → array? Γ t ≡ true → inside (info_at Γ t).low (info_at Γ t).high z ≡ true
      → Part (info_at Γ t).element u (o + nat_of (z -ℤ (info_at Γ t).low) * size_of Γ (info_at Γ t).element)
  into-element {t} whole z a i = element z (0 + nat_of (z -ℤ (info_at Γ t).low) * size_of Γ (info_at Γ t).element) a i whole (omega arith)
  into-element {t} (element y p b j q e) z a i = element y (p + nat_of (z -ℤ (info_at Γ t).low) * size_of Γ (info_at Γ t).element) b j (into-element q z a i) (omega arith)
  into-element {t} (field n f p h q e) z a i = field n f (p + nat_of (z -ℤ (info_at Γ t).low) * size_of Γ (info_at Γ t).element) h (into-element q z a i) (omega arith)

  into-field : {t u o : ℕ} → Part t u o → (n : Name) (f : Field) → field_of (info_at Γ t).fields n ≡ some f → Part f.type u (o + f.offset)
  into-field whole n f h = field n f (0 + f.offset) h whole (omega arith)
  into-field (element y p b j q e) n f h = element y (p + f.offset) b j (into-field q n f h) (omega arith)
  into-field (field m g p k q e) n f h = field m g (p + f.offset) k (into-field q n f h) (omega arith)

  -- where a target lies: in a variable
  pub record Lying (t a : ℕ) : Type 0 where
    pub number : ℕ
    pub variable-is : Var
    pub known : variable Δ number ≡ some variable-is
    pub offset : ℕ
    pub part : Part t variable-is.type offset
    pub place : a ≡ variable-is.base + offset

  lie-element : {t b : ℕ} → Lying t b → (z : ℤ) → array? Γ t ≡ true → inside (info_at Γ t).low (info_at Γ t).high z ≡ true
      → Lying (info_at Γ t).element (b + nat_of (z -ℤ (info_at Γ t).low) * size_of Γ (info_at Γ t).element)
  lie-element {t} L z a i = record {
    number = L.number;
    variable-is = L.variable-is;
    known = L.known;
    offset = L.offset + nat_of (z -ℤ (info_at Γ t).low) * size_of Γ (info_at Γ t).element;
    part = into-element L.part z a i;
    place = let e = L.place in omega arith;
  }

  lie-field : {t b : ℕ} → Lying t b → (n : Name) (f : Field) → field_of (info_at Γ t).fields n ≡ some f → Lying f.type (b + f.offset)
  lie-field L n f h = record {
    number = L.number;
    variable-is = L.variable-is;
    known = L.known;
    offset = L.offset + f.offset;
    part = into-field L.part n f h;
    place = let e = L.place in omega arith;
  }

  in_array : (t a : ℕ) → array? Γ t ≡ true → (v : Result ℕ) → ((b : ℕ) → v ≡ is b → Lying t b) → (w : Result (List ℤ))
      → (v >>= λ b. w >>= λ x. tested range_error (info_at Γ t).low (info_at Γ t).high (sole x) >>= λ z. is (b + nat_of (z -ℤ (info_at Γ t).low) * size_of Γ (info_at Γ t).element)) ≡ is a
      → Lying (info_at Γ t).element a
  unfolding tested pick
  in_array t a p (is b) k (is x) h = go (inside (info_at Γ t).low (info_at Γ t).high (sole x)) refl h
    where
      go : (q : Bool) → inside (info_at Γ t).low (info_at Γ t).high (sole x) ≡ q
          → (pick q (is (sole x)) (fails range_error) >>= λ z. is (b + nat_of (z -ℤ (info_at Γ t).low) * size_of Γ (info_at Γ t).element)) ≡ is a → Lying (info_at Γ t).element a
      go true i h = rw (← is-inj h) (lie-element (k b refl) (sole x) p i)
      go false i h = no-fails h
  in_array t a p (is b) k (fails z) h = no-fails h
  in_array t a p (is b) k stuck h = no-stuck h
  in_array t a p (fails z) k w h = no-fails h
  in_array t a p stuck k w h = no-stuck h

  in-record : (t a : ℕ) (n : Name) (f : Field) → field_of (info_at Γ t).fields n ≡ some f → (v : Result ℕ) → ((b : ℕ) → v ≡ is b → Lying t b) → (v >>= λ b. is (b + f.offset)) ≡ is a → Lying f.type a
  in-record t a n f p (is b) k h = rw (← is-inj h) (lie-field (k b refl) n f p)
  in-record t a n f p (fails z) k h = no-fails h
  in-record t a n f p stuck k h = no-stuck h

  pub target-lies : (g : Target) (w : Located) → elab_target Γ Δ g ≡ some w → (m : Store) (a : ℕ) → place_code w.place m ≡ is a → Lying w.type a
  unfolding elab_target place_code
  target-lies (var i) w h m a k = bind-some h λ v hv e.
      let x : is v.base ≡ is a = rw (← some_inj e) at k in let y = is-inj x in
      rw (← some_inj e) (record { number = i; variable-is = v; known = hv; offset = 0; part = whole; place = omega arith })
  target-lies (at g e) w h m a k = both_some h λ u x hu hx d. given-some d λ p v.
      rw (← v) (in_array u.type a (and-true (array? Γ u.type) _ p).0 (place_code u.place m) (λ b y. target-lies g u hu m b y) (eval_code x.code m) (rw (← v) at k))
  target-lies (dot g n) w h m a k = bind-some h λ u hu d. bind-some d λ f hf v.
      rw (← some_inj v) (in-record u.type a n f hf (place_code u.place m) (λ b y. target-lies g u hu m b y) (rw (← some_inj v) at k))

  -- of a whole variable
  pub variable-lies : (i : ℕ) (v : Var) → variable Δ i ≡ some v → (m : Store) (a : ℕ) → place_code (cell v.base) m ≡ is a → Lying v.type a
  unfolding place_code
  variable-lies i v h m a k =
      let y : v.base ≡ a = is-inj k in
      record { number = i; variable-is = v; known = h; offset = 0; part = whole; place = omega arith }

  lying-lap : {t u a b : ℕ} → Lying t a → Lying u b → Lap a (size_of Γ t) b (size_of Γ u)
  lying-lap {t} {u} {a} {b} L M = go (𝓕.apart L.number M.number L.variable-is M.variable-is L.known M.known)
    where
      go : Parted Γ L.variable-is.base L.variable-is.type M.variable-is.base M.variable-is.type → Lap a (size_of Γ t) b (size_of Γ u)
      go (one x y) = lap-more L.variable-is.base a b L.place (M.place ∙ ap (λ (i : ℕ). i + M.offset) (sym x)) (parts-lap L.part (rw (← y) at M.part))
      go (before l) = let p = part-size L.part in let e = L.place in let f = M.place in under (omega arith)
      go (behind l) = let p = part-size M.part in let e = L.place in let f = M.place in over (omega arith)

  -- two targets of one type: the same cells, or none in common
  pub targets-aside : {t a b : ℕ} → Lying t a → Lying t b → Aside a b (size_of Γ t)
  targets-aside L M = aside (lying-lap L M)
