-- Control variables of the loops around.
use mathlib.Core.Path.{◌≡◌, refl, sym, ap, ◌∙◌}
use mathlib.Core.Bool.{Bool, true, false, cond, ◌||◌}
use mathlib.Core.List.{List, [], ◌∷◌}
use Prim.Native.Nat.{ℕ, zero, suc, ◌+◌, ◌-◌, ◌<◌, ◌≤◌}
use native.Mathlib.Decide.{ℕ_discrete}
use native.Mathlib.Omega.{arith}
use borrow.Author.Tests.{eq-eqb, ne_eqb, lt-ltb, le-ltb, ltb-true, ltb-false}
use lib.Dec.{eqb, ltb}
use lib.ListN.{length, get_or, set, replicate, length-set}
use lib.Seq.{get_or-set_same, get_or-set_other}
use Rattle.law.specs.Rules.{looping}
use Rattle.table_scope.specs.Loops.{no_loops, listed_loops, among, loops_over, with_loop, InForce}
use Rattle.table_scope.specs.declared.Loops.{Loops}

-- ---- the ways

pub none_is : record { count = 0; over = replicate 33 0 } ≡ no_loops
unfolding no_loops
none_is = refl

pub listed-all : (n : ℕ) → n < 33 → n ≡ listed_loops n
unfolding listed_loops
listed-all n h = rw (lt-ltb n 33 h) refl

pub listed-most : (n : ℕ) → 33 ≤ n → 33 ≡ listed_loops n
unfolding listed_loops
listed-most n h = rw (le-ltb n 33 h) refl

pub ruleset listed_laws = (listed-all, listed-most)

few-listed : (k : ℕ) → listed_loops k ≤ 33
unfolding listed_loops
few-listed k = go (ltb k 33) refl
  where
    go : (b : Bool) → ltb k 33 ≡ b → cond b k 33 ≤ 33
    go true e = let h = ltb-true k 33 e in omega arith
    go false e = omega arith

-- i is none of the first n numbers
pub record Comparing (is : List ℕ) (i n : ℕ) : Type 0 where
  pub none_so_far : among is n i ≡ false

among_at : (is : List ℕ) (i n k : ℕ) → n < k → get_or is n 0 ≡ i → among is k i ≡ true
unfolding among
among_at is i n zero h e = absurd (omega arith)
among_at is i n (suc k) h e = go (ℕ_discrete n k) (λ f. among_at is i n k f e)
  where
    or-true : (b : Bool) → (b || true) ≡ true
    or-true true = refl
    or-true false = refl

    go : Dec (n ≡ k) → (n < k → among is k i ≡ true) → (eqb i (get_or is k 0) || among is k i) ≡ true
    go (yes f) _ = rw (← f, eq-eqb i (get_or is n 0) (sym e)) refl
    go (no f) g = rw (g (omega (arith, f))) (or-true (eqb i (get_or is k 0)))

pub compare-start : (is : List ℕ) (i : ℕ) → Comparing is i 0
unfolding among
compare-start is i = record { none_so_far = refl }

pub compare-few : (m : Loops) (k n : ℕ) → k ≡ listed_loops m.count → n < k → n < 33
compare-few m k n e h = let f = few-listed m.count in omega (arith, e)

module _ (m : Loops) (i n : ℕ) (C : Comparing m.over i n) where
  pub compare-on : ((get_or m.over n 0 ≡ i) → ⊥) → Comparing m.over i (n + 1)
  unfolding among
  compare-on d =
      let z : n + 1 ≡ suc n = omega arith in
      record { none_so_far = rw (z, ne_eqb i (get_or m.over n 0) (λ e. d (sym e))) C.none_so_far }

  module _ (k : ℕ) (e : k ≡ listed_loops m.count) where
    pub compare-none : k ≤ n → n ≤ k → false ≡ loops_over m i
    unfolding loops_over
    compare-none g h = let z : n ≡ k = omega arith in rw (← e, ← z) (sym C.none_so_far)

    pub compare-found : n < k → get_or m.over n 0 ≡ i → true ≡ loops_over m i
    unfolding loops_over
    compare-found h f = rw (← e) (sym (among_at m.over i n k h f))

pub ruleset compare-laws = (compare-none, compare-found, compare-on)

pub with-room : (m : Loops) (i n : ℕ) → n ≡ m.count → n < 33 → record { count = n + 1; over = set m.over n i } ≡ with_loop m i
unfolding with_loop
with-room m i n e h = rw (← e, lt-ltb n 33 h) refl

pub with_none : (m : Loops) (i n : ℕ) → n ≡ m.count → 33 ≤ n → m ≡ with_loop m i
unfolding with_loop
with_none m i n e h = rw (← e, le-ltb n 33 h) refl

pub ruleset with_laws = (with-room, with_none)

-- ---- what is in force

pub in-force-none : InForce no_loops []
unfolding loops_over listed_loops among looping no_loops
in-force-none = record { in-force = λ i. refl; counted = refl; long = refl }

-- a number set at n or past it
among-set : (is : List ℕ) (n k x i : ℕ) → n ≤ k → among (set is k x) n i ≡ among is n i
unfolding among
among-set is zero k x i h = refl
among-set is (suc n) k x i h = rw (get_or-set_other is k n x 0 (λ e. absurd (omega (arith, e))), among-set is n k x i (omega arith)) refl

listed-few : (k : ℕ) → k ≤ 33 → listed_loops k ≡ k
unfolding listed_loops
listed-few k h = go (ltb k 33) refl
  where
    go : (b : Bool) → ltb k 33 ≡ b → cond b k 33 ≡ k
    go true e = refl
    go false e = let l = ltb-false k 33 e in omega arith

among-more : (is : List ℕ) (n i j : ℕ) → n < length is → among (set is n i) (suc n) j ≡ (eqb j i || among is n j)
unfolding among
among-more is n i j h = rw (get_or-set_same is n i 0 h, among-set is n n i j (omega arith)) refl

pub in-force-more : {m : Loops} {js : List ℕ} {i : ℕ} → InForce m js → length js < 33 → InForce (with_loop m i) (i ∷ js)
unfolding loops_over with_loop looping
in-force-more {m} {js} {i} F h =
    let c : m.count < 33 = omega (arith, F.counted) in
    let z : m.count + 1 ≡ suc m.count = omega arith in
    rw (lt-ltb m.count 33 c) (record {
      in-force = λ j. ap (λ (k : ℕ). among (set m.over m.count i) k j) (listed-few (m.count + 1) (omega arith) ∙ z)
          ∙ among-more m.over m.count i j (omega (arith, F.long))
          ∙ ap (λ (b : Bool). eqb j i || b) (ap (λ (k : ℕ). among m.over k j) (sym (listed-few m.count (omega arith))) ∙ F.in-force j);
      counted = ap (λ (k : ℕ). k + 1) F.counted ∙ omega arith;
      long = length-set m.over m.count i ∙ F.long;
    })
