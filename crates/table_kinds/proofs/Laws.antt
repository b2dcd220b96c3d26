-- The ways through the functions of the crate.
use mathlib.Core.Path.{◌≡◌, refl, sym, ◌∙◌}
use mathlib.Core.Bool.{cond}
use mathlib.Core.List.{List, [], ◌∷◌, map}
use Prim.Native.Nat.{ℕ, zero, suc, ◌<◌, ◌≤◌}
use borrow.Author.Tests.{lt-ltb, le-ltb, eq-eqb, ne_eqb}
use native.Mathlib.Omega.{arith}
use lib.Dec.{lit≤}
use lib.ListN.{get_or, length, get_or-eq_default}
use Rattle.law.specs.Base.{pick}
use Rattle.law.specs.Operators.{Fun}
use Rattle.table_kinds.specs.Kinds.{TwoSided, rows, entry_of, row_of, classes, table, node_at, partner_of, result_of, numbered, ruling2}
use Rattle.table_kinds.specs.Functions.{takes, fun_node, table1, node_at1, result_of1, ruling1}
use Rattle.code_ops.specs.Functions.{functions}
use Rattle.table_kinds.specs.declared.Class.{Class}
use Rattle.table_kinds.specs.declared.Class.TheVariants.{Integer, Boolean, Enum, Set, Whole}
use Rattle.table_kinds.specs.declared.Side.{Side}
use Rattle.table_kinds.specs.Kinds.{fits}
use Rattle.std.specs.Prelude.{None}

-- ---- `row_of`
pub row-integer : (c : Class) → c ≡ Integer → ◌≡◌ {A = ℕ} 0 (row_of c)
unfolding row_of
row-integer c e = rw e refl

pub row-boolean : (c : Class) → c ≡ Boolean → ◌≡◌ {A = ℕ} 1 (row_of c)
unfolding row_of
row-boolean c e = rw e refl

pub row-enum : (c : Class) → c ≡ Enum → ◌≡◌ {A = ℕ} 2 (row_of c)
unfolding row_of
row-enum c e = rw e refl

pub row-set : (c : Class) → c ≡ Set → ◌≡◌ {A = ℕ} 3 (row_of c)
unfolding row_of
row-set c e = rw e refl

pub row-whole : (c : Class) → c ≡ Whole → ◌≡◌ {A = ℕ} 4 (row_of c)
unfolding row_of
row-whole c e = rw e refl

pub ruleset row_laws = (row-integer, row-boolean, row-enum, row-set, row-whole)

-- ---- the tables: nothing stands past their ends

-- what holds of every row, and of no row, holds of the row at any place
row_at : {A B : Type 0} (P : B → Type 0) (f : A → B) (d : B) → ((x : A) → P (f x)) → P d → (xs : List A) (i : ℕ) → P (get_or (map f xs) i d)
row_at P f d h n [] i = n
row_at P f d h n (x ∷ xs) zero = h x
row_at P f d h n (x ∷ xs) (suc i) = row_at P f d h n xs i

module _ (o a b : ℕ) where
  pub node-op : 17 ≤ o → ◌≡◌ {A = ℕ} 0 (node_at o a b)
  unfolding node_at table
  node-op h = let e : get_or table o [] ≡ [] = get_or-eq_default table [] {n = o} h in rw e refl

  pub node-left : 5 ≤ a → ◌≡◌ {A = ℕ} 0 (node_at o a b)
  unfolding node_at table
  node-left h =
      let s : length (get_or table o []) ≤ 5 =
      row_at (λ (m : List (List ℕ)). length m ≤ 5) (λ (q : TwoSided). map (λ (x : Class). map (λ (y : Class). entry_of q x y) classes) classes) [] (λ q. lit≤ tt) (lit≤ tt) rows o in
      let e : get_or (get_or table o []) a [] ≡ [] = get_or-eq_default (get_or table o []) [] {n = a} (omega arith) in
      rw e refl

  pub node-right : 5 ≤ b → ◌≡◌ {A = ℕ} 0 (node_at o a b)
  unfolding node_at table
  node-right h =
      let s : length (get_or (get_or table o []) a []) ≤ 5 =
      row_at (λ (m : List (List ℕ)). length (get_or m a []) ≤ 5) (λ (q : TwoSided). map (λ (x : Class). map (λ (y : Class). entry_of q x y) classes) classes) []
      (λ q. row_at (λ (m : List ℕ). length m ≤ 5) (λ (x : Class). map (λ (y : Class). entry_of q x y) classes) [] (λ x. lit≤ tt) (lit≤ tt) classes a) (lit≤ tt) rows o in
      sym (get_or-eq_default (get_or (get_or table o []) a []) 0 {n = b} (omega arith))

pub ruleset node_laws = (node-op, node-left, node-right)

module _ (f c : ℕ) where
  pub node1-fun : 11 ≤ f → ◌≡◌ {A = ℕ} 0 (node_at1 f c)
  unfolding node_at1 table1
  node1-fun h = let e : get_or table1 f [] ≡ [] = get_or-eq_default table1 [] {n = f} h in rw e refl

  pub node1-class : 5 ≤ c → ◌≡◌ {A = ℕ} 0 (node_at1 f c)
  unfolding node_at1 table1
  node1-class h =
      let s : length (get_or table1 f []) ≤ 5 = row_at (λ (m : List ℕ). length m ≤ 5) (λ (g : Fun). map (λ (x : Class). cond (takes g x) (fun_node g) 0) classes) [] (λ g. lit≤ tt) (lit≤ tt) functions f in
      sym (get_or-eq_default (get_or table1 f []) 0 {n = c} (omega arith))

pub ruleset node1_laws = (node1-fun, node1-class)

-- ---- `partner`, `result_of`, `result_of_one`
module _ (o k b : ℕ) where
  pub partner-base : o ≡ 12 → b ≡ partner_of o k b
  unfolding partner_of
  partner-base e = rw (eq-eqb o 12 e) refl

  pub partner-kind : ((o ≡ 12) → ⊥) → k ≡ partner_of o k b
  unfolding partner_of
  partner-kind n = rw (ne_eqb o 12 n) refl

pub ruleset partner_laws = (partner-base, partner-kind)

module _ (n k : ℕ) where
  pub result-short : n < 9 → ◌≡◌ {A = ℕ} 1 (result_of n k)
  unfolding result_of
  result-short h = rw (lt-ltb n 9 h) refl

  pub result-integer : 9 ≤ n → n < 15 → ◌≡◌ {A = ℕ} 0 (result_of n k)
  unfolding result_of
  result-integer g h = rw (le-ltb n 9 g, lt-ltb n 15 h) refl

  pub result_own : 15 ≤ n → n < 18 → k ≡ result_of n k
  unfolding result_of
  result_own h g = rw (le-ltb n 9 (omega arith), le-ltb n 15 h, lt-ltb n 18 g) refl

  pub result-boolean : 18 ≤ n → ◌≡◌ {A = ℕ} 1 (result_of n k)
  unfolding result_of
  result-boolean h = rw (le-ltb n 9 (omega arith), le-ltb n 15 (omega arith), le-ltb n 18 h) refl

pub ruleset result_laws = (result-short, result-integer, result_own, result-boolean)

module _ (n k b : ℕ) where
  pub result-30 : n ≡ 30 → ◌≡◌ {A = ℕ} 1 (result_of1 n k b)
  unfolding result_of1
  result-30 e = rw e refl

  pub result-33 : n ≡ 33 → ◌≡◌ {A = ℕ} 1 (result_of1 n k b)
  unfolding result_of1
  result-33 e = rw e refl

  pub result-36 : n ≡ 36 → b ≡ result_of1 n k b
  unfolding result_of1
  result-36 e = rw e refl

  pub result-37 : n ≡ 37 → b ≡ result_of1 n k b
  unfolding result_of1
  result-37 e = rw e refl

  pub result-38 : n ≡ 38 → k ≡ result_of1 n k b
  unfolding result_of1
  result-38 e = rw e refl

  pub result-39 : n ≡ 39 → k ≡ result_of1 n k b
  unfolding result_of1
  result-39 e = rw e refl

  pub result-else : ((n ≡ 30) → ⊥) → ((n ≡ 33) → ⊥) → ((n ≡ 36) → ⊥) → ((n ≡ 37) → ⊥) → ((n ≡ 38) → ⊥) → ((n ≡ 39) → ⊥) → ◌≡◌ {A = ℕ} 0 (result_of1 n k b)
  unfolding result_of1
  result-else g h i j p q = rw (ne_eqb n 30 g, ne_eqb n 33 h, ne_eqb n 36 i, ne_eqb n 37 j, ne_eqb n 38 p, ne_eqb n 39 q) refl

pub ruleset result1_laws = (result-30, result-33, result-36, result-37, result-38, result-39, result-else)

-- ---- `two_sided`
module _ (o : ℕ) (l r : Side) (p : ℕ) (i : p ≡ partner_of o r.kind r.base) where
  pub two-away : ((l.kind ≡ p) → ⊥) → None ≡ ruling2 o l r
  unfolding ruling2 pick
  two-away n = rw (ne_eqb l.kind (partner_of o r.kind r.base) (λ e. n (e ∙ sym i))) refl

  module _ (a b n : ℕ) (e : l.kind ≡ p) (f : a ≡ row_of l.class) (g : b ≡ row_of r.class) (h : n ≡ node_at o a b) where
    two_here : numbered n l.kind ≡ ruling2 o l r
    unfolding ruling2 pick
    two_here = rw (eq-eqb l.kind (partner_of o r.kind r.base) (e ∙ i), ← f, ← g, ← h) refl

    pub two-misfit : n ≡ 0 → None ≡ ruling2 o l r
    unfolding numbered pick
    two-misfit z = rw (eq-eqb n 0 z) at two_here

    pub two_fits : (k : ℕ) → ((n ≡ 0) → ⊥) → k ≡ result_of n l.kind → fits n k ≡ ruling2 o l r
    unfolding numbered pick
    two_fits k z w = rw w (rw (ne_eqb n 0 z) at two_here)

pub ruleset two_laws = (two-away, two-misfit, two_fits)

-- ---- `one_sided`
module _ (f : ℕ) (s : Side) (c n : ℕ) (e : c ≡ row_of s.class) (h : n ≡ node_at1 f c) where
  pub one-misfit : n ≡ 0 → None ≡ ruling1 f s
  unfolding ruling1 pick
  one-misfit z = rw (← e, ← h, eq-eqb n 0 z) refl

  pub one-fits : (k : ℕ) → ((n ≡ 0) → ⊥) → k ≡ result_of1 n s.kind s.base → fits n k ≡ ruling1 f s
  unfolding ruling1 pick
  one-fits k z w = rw (← e, ← h, ne_eqb n 0 z, w) refl

pub ruleset one_laws = (one-misfit, one-fits)
