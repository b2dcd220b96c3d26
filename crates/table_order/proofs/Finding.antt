-- Values each of which is found by its name are found as along their chain.
use mathlib.Core.Path.{◌≡◌, refl, sym, ap, ◌∙◌}
use mathlib.Core.Bool.{Bool, true, false, cond, ◌&&◌, false≢true}
use mathlib.Core.List.{List, [], ◌∷◌}
use Prim.Native.Nat.{ℕ, zero, suc, ◌+◌, ◌*◌, ◌<◌, ◌≤◌}
use native.Mathlib.Omega.{arith}
use borrow.Author.Tests.{eq-eqb, eqb-true, ltb-true, ltb-false}
use lib.Dec.{eqb, ltb}
use Rattle.leaf_bytes.specs.Bytes.{same}
use Rattle.leaf_bytes.proofs.Same.{same-equal, same_self}
use Rattle.law.specs.Base.{Name}
use Rattle.law_theorems.proofs.Inversion.{and-true}
use Rattle.table_names.specs.Keys.{key_of}
use Rattle.table_names.specs.Order.{lettered, ordered}
use Rattle.table_names.specs.Chain.{name_at, key_at, is_called, place_in, first_value, places, order_at, ranked, middle, by_order, halved, value_in}
use Rattle.std.specs.declared.cmp.Ordering.{Ordering}
use Rattle.std.specs.declared.cmp.Ordering.TheVariants as order
use Rattle.table_names.proofs.Chained.{first-low}
use Rattle.table_order.specs.Ordered.{Finds}

-- ---- the same in order

before_same : {X : Type 0} → order.Less ≡ order.Equal → X
before_same e = absurd (let z : ◌≡◌ {A = ℕ} 0 1 = cc in omega arith)

after_same : {X : Type 0} → order.Greater ≡ order.Equal → X
after_same e = absurd (let z : ◌≡◌ {A = ℕ} 0 1 = cc in omega arith)

ordered_same : (v w : Name) → ordered v w ≡ order.Equal → v ≡ w
unfolding ordered lettered
ordered_same [] [] e = refl
ordered_same [] (b ∷ w) e = before_same e
ordered_same (a ∷ v) [] e = after_same e
ordered_same (a ∷ v) (b ∷ w) e = go (eqb a b) refl (ltb a b) (ordered_same v w) e
  where
    go : (t : Bool) → eqb a b ≡ t → (u : Bool) → (ordered v w ≡ order.Equal → v ≡ w) → cond t (ordered v w) (cond u order.Less order.Greater) ≡ order.Equal → a ∷ v ≡ b ∷ w
    go true f u k g = let x = eqb-true a b f in let y = k g in cc
    go false f true k g = before_same g
    go false f false k g = after_same g

called_same : (s l : List ℕ) (p : ℕ) (w : Name) → order_at s l p w ≡ order.Equal → is_called s l p w ≡ true
unfolding order_at is_called
called_same s l p w e = go (ltb (key_at l p) (key_of w)) refl (ltb (key_of w) (key_at l p)) refl e
  where
    go : (t : Bool) → ltb (key_at l p) (key_of w) ≡ t → (u : Bool) → ltb (key_of w) (key_at l p) ≡ u → cond t order.Less (cond u order.Greater (ordered (name_at s l p) w)) ≡ order.Equal
        → (eqb (key_at l p) (key_of w) && same (name_at s l p) w) ≡ true
    go true f u g h = before_same h
    go false f true g h = after_same h
    go false f false g h =
        let x = ltb-false (key_at l p) (key_of w) f in
        let y = ltb-false (key_of w) (key_at l p) g in
        rw (eq-eqb (key_at l p) (key_of w) (omega arith), ordered_same (name_at s l p) w h, same_self w) refl

called-name : (s l : List ℕ) (p : ℕ) (w : Name) → is_called s l p w ≡ true → name_at s l p ≡ w
unfolding is_called
called-name s l p w e = same-equal (name_at s l p) w (and-true (eqb (key_at l p) (key_of w)) (same (name_at s l p) w) e).1

-- ---- what halving gives

data Hit (s l : List ℕ) (b n : ℕ) (w : Name) (q : ℕ) : Type 0 where
  missed : q ≡ 0 → Hit s l b n w q
  hit : (i : ℕ) → i < n → q ≡ b + 4 * i → is_called s l (b + 4 * i) w ≡ true → Hit s l b n w q

halved-hit : (s l : List ℕ) (b n : ℕ) (w : Name) (d low high : ℕ) → Hit s l b n w (halved s l b n w d low high)
unfolding halved
halved-hit s l b n w zero low high = missed refl
halved-hit s l b n w (suc d) low high = outer (λ x y. halved-hit s l b n w d x y) (ltb low high) (ltb (ranked l b (middle low high)) n) refl (order_at s l (b + 4 * ranked l b (middle low high)) w) refl
  where
    outer : ((x y : ℕ) → Hit s l b n w (halved s l b n w d x y)) → (t u : Bool) → ltb (ranked l b (middle low high)) n ≡ u → (o : Ordering) → order_at s l (b + 4 * ranked l b (middle low high)) w ≡ o
        → Hit s l b n w (cond t (cond u (by_order o (halved s l b n w d (middle low high + 1) high) (b + 4 * ranked l b (middle low high)) (halved s l b n w d low (middle low high))) 0) 0)
    outer k false u e o f = missed refl
    outer k true false e o f = missed refl
    outer k true true e order.Less f = k (middle low high + 1) high
    outer k true true e order.Equal f = hit (ranked l b (middle low high)) (ltb-true (ranked l b (middle low high)) n e) refl (called_same s l (b + 4 * ranked l b (middle low high)) w f)
    outer k true true e order.Greater f = k low (middle low high)

-- ---- and what the chain gives

placed-hit : (s l : List ℕ) (w : Name) (n b : ℕ) → Hit s l b n w (place_in s l (places n b) w)
unfolding places place_in
placed-hit s l w zero b = missed refl
placed-hit s l w (suc n) b = go (is_called s l b w) refl (placed-hit s l w n (b + 4))
  where
    go : (t : Bool) → is_called s l b w ≡ t → Hit s l (b + 4) n w (place_in s l (places n (b + 4)) w) → Hit s l b (suc n) w (cond t b (place_in s l (places n (b + 4)) w))
    go true e H = let z : b ≡ b + 4 * 0 = omega arith in hit 0 (omega arith) z (rw (← z) e)
    go false e (missed f) = missed f
    go false e (hit i h f c) = let z : b + 4 + 4 * i ≡ b + 4 * suc i = omega arith in hit (suc i) (omega arith) (f ∙ z) (rw z at c)

-- a value that is called so is met on the chain
placed-some : (s l : List ℕ) (w : Name) (n b i : ℕ) → 1 ≤ b → i < n → is_called s l (b + 4 * i) w ≡ true → place_in s l (places n b) w ≡ 0 → ⊥
unfolding places place_in
placed-some s l w zero b i h k c e = omega arith
placed-some s l w (suc n) b zero h k c e = let z : b + 4 * 0 ≡ b = omega arith in go (is_called s l b w) (rw z at c) e
  where
    go : (t : Bool) → t ≡ true → cond t b (place_in s l (places n (b + 4)) w) ≡ 0 → ⊥
    go true x y = omega arith
    go false x y = false≢true x
placed-some s l w (suc n) b (suc i) h k c e =
    let z : b + 4 * suc i ≡ b + 4 + 4 * i = omega arith in
    go (is_called s l b w) (placed-some s l w n (b + 4) i (omega arith) (omega arith) (rw z at c)) e
  where
    go : (t : Bool) → (place_in s l (places n (b + 4)) w ≡ 0 → ⊥) → cond t b (place_in s l (places n (b + 4)) w) ≡ 0 → ⊥
    go true x y = omega arith
    go false x y = x y

pub found_all : (s l : List ℕ) (p n : ℕ) → p < 32768 → Finds s l p n true → (w : Name) → value_in s l p n w ≡ place_in s l (places n (p + 12)) w
unfolding value_in
found_all s l p n low F w = rw (← first-low p low) (go (placed-hit s l w n (first_value p)) (halved-hit s l (first_value p) n w 9 0 n))
  where
    some_first : 1 ≤ first_value p
    some_first = rw (first-low p low) (omega arith)

    go : Hit s l (first_value p) n w (place_in s l (places n (first_value p)) w) → Hit s l (first_value p) n w (halved s l (first_value p) n w 9 0 n)
        → halved s l (first_value p) n w 9 0 n ≡ place_in s l (places n (first_value p)) w
    go (missed e) (missed f) = f ∙ sym e
    go (missed e) (hit i h f c) = absurd (placed-some s l w n (first_value p) i some_first h c e)
    go (hit i h e c) H =
        let x : name_at s l (first_value p + 4 * i) ≡ w = called-name s l (first_value p + 4 * i) w c in
        ap (λ (v : Name). halved s l (first_value p) n v 9 0 n) (sym x) ∙ F.each refl i h ∙ sym e
