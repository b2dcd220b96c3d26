-- The laws of `cells`: each way through a function gives the answer that `Cells` defines.
use mathlib.Core.Path.{◌≡◌, refl}
use mathlib.Core.Bool.{Bool, true, false}
use mathlib.Core.List.{List, [], ◌∷◌}
use Prim.Native.Nat.{ℕ, ◌+◌, ◌*◌, ◌<◌, ◌≤◌}
use borrow.Author.Tests.{eq-eqb, ne_eqb, lt-ltb, le-ltb}
use Rattle.code.specs.Layout.{lay}
use Rattle.table_scope.specs.declared.Info.{Info}
use Rattle.rule_faults.specs.declared.Got.{Got}
use Rattle.rule_expr_nodes.specs.Nodes.{node_made, Makes}
use Rattle.rule_expr_nodes.specs.Cells.{span_of, cells_made, end_bits}

module _ (a n : ℕ) where
  pub span-base : 65536 ≤ a → ◌≡◌ {A = ℕ} 0 (span_of a n)
  unfolding span_of
  span-base h = rw (le-ltb a 65536 h) refl

  pub span-size : a < 65536 → 65536 ≤ n → ◌≡◌ {A = ℕ} 0 (span_of a n)
  unfolding span_of
  span-size h k = rw (lt-ltb a 65536 h, le-ltb n 65536 k) refl

  pub span-both : a < 65536 → n < 65536 → a + 4096 * n ≡ span_of a n
  unfolding span_of
  span-both h k = rw (lt-ltb a 65536 h, lt-ltb n 65536 k) refl

pub ruleset span_laws = (span-base, span-size, span-both)

module _ (n k a q t : ℕ) (l : List ℕ) (r : Got) (l' : List ℕ) where
  pub cells-one : n ≡ 1 → Makes (node_made k q (lay (2 ∷ a ∷ []) t l)) r l' → Makes (cells_made n k a q t l) r l'
  unfolding cells_made
  cells-one h m = rw (eq-eqb n 1 h) m

  pub cells-more : (x : ℕ) → ((n ≡ 1) → ⊥) → x ≡ span_of a n → Makes (node_made k q (lay (3 ∷ x ∷ []) t l)) r l' → Makes (cells_made n k a q t l) r l'
  unfolding cells_made
  cells-more x h e m = rw (ne_eqb n 1 h, ← e) m

pub ruleset cells_laws = (cells-one, cells-more)

module _ (b : Bool) (i : Info) where
  pub end-high : b ≡ true → i.high ≡ end_bits b i
  unfolding end_bits
  end-high h = rw h

  pub end_low : b ≡ false → i.low ≡ end_bits b i
  unfolding end_bits
  end_low h = rw h

pub ruleset end_bits_laws = (end-high, end_low)
