-- The laws of the code: each way through a function gives the answer that `Nodes` defines.
use mathlib.Core.Path.{◌≡◌, refl, sym, ap, ◌∙◌}
use mathlib.Core.Bool.{Bool, true, false}
use mathlib.Core.List.{List}
use Prim.Native.Nat.{ℕ}
use Rattle.code.specs.Layout.{lay}
use Rattle.rule_faults.specs.declared.Fault.{Fault}
use Rattle.rule_faults.specs.declared.Fault.TheVariants.{Kind}
use Rattle.table_scope.specs.declared.Loops.{Loops}
use Rattle.table_scope.specs.declared.Meaning.{Meaning}
use Rattle.table_scope.specs.declared.Meaning.TheVariants as meaning
use Rattle.table_scope.specs.Loops.{loops_over}
use Rattle.rule_faults.specs.declared.Got.{Got}
use Rattle.rule_faults.specs.Got.{lowest, is_clear, failed_got}
use Rattle.rule_expr_nodes.specs.Nodes.{Makes, node_made}
use Rattle.rule_expr_nodes.proofs.Making.{if-clear, if-fault}
use Rattle.rule_stmt_nodes.specs.BaseNodes.{with_fault, node_if, steered}

module _ (f : Fault) (k q : ℕ) (ns : List ℕ) (t : ℕ) (l : List ℕ) (b : Bool) (e : b ≡ is_clear f) (r : Got) where
  pub node-clear : (l' : List ℕ) → b ≡ true → Makes (node_made k q (lay ns t l)) r l' → Makes (node_if f k q ns t l) r l'
  unfolding node_if
  node-clear l' h m = if-clear f k q t l (node_made k q (lay ns t l)) b e h r l' m

  pub node-fault : b ≡ false → r ≡ failed_got f k q t → Makes (node_if f k q ns t l) r l
  unfolding node_if
  node-fault h m = if-fault f k q t l (node_made k q (lay ns t l)) b e h r m

pub ruleset node_laws = (node-clear, node-fault)

module _ (w : Loops) (m : Meaning) (g : Got) where
  module _ (i k a : ℕ) (b : Bool) (h : m ≡ meaning.Var i k a) (e : b ≡ loops_over w i) where
    pub steer-over : (f : Fault) (r : Got) → b ≡ true → f ≡ lowest g.fault Kind → r ≡ with_fault g f → r ≡ steered w m g
    steer-over f r t l d = rw (h, sym e ∙ t) (d ∙ ap (with_fault g) l)

    pub steer-free : b ≡ false → g ≡ steered w m g
    steer-free t = rw (h, sym e ∙ t) refl

  pub steer-other : ((i k a : ℕ) → m ≡ meaning.Var i k a → ⊥) → g ≡ steered w m g
  steer-other n = go m refl
    where
      go : (k : Meaning) → m ≡ k → g ≡ steered w m g
      go meaning.Unknown h = rw h refl
      go (meaning.Type k) h = rw h refl
      go (meaning.Var i k a) h = absurd (n i k a h)
      go (meaning.Proc p) h = rw h refl
      go (meaning.Value k v) h = rw h refl

pub ruleset steer_laws = (steer-over, steer-free, steer-other)
