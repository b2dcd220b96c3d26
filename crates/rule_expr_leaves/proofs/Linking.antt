-- The laws of `links`: the kind of a set's members, and its node.
use mathlib.Core.Path.{◌≡◌, refl, ap, ◌∙◌}
use mathlib.Core.Bool.{Bool, true, false}
use mathlib.Core.List.{List, [], ◌∷◌}
use Prim.Native.Nat.{ℕ}
use borrow.Author.Tests.{eq-eqb, ne_eqb}
use Rattle.code.specs.Layout.{lay}
use Rattle.rule_faults.specs.declared.Fault.{Fault}
use Rattle.rule_faults.specs.declared.Fault.TheVariants.{Kind}
use Rattle.table_scope.specs.declared.Info.{Info}
use Rattle.table_scope.specs.Descriptions.{info_of}
use Rattle.table_scope.specs.Sides.{host_in}
use Rattle.rule_faults.specs.declared.Got.{Got}
use Rattle.rule_faults.specs.Got.{lowest, is_clear, failed_got}
use Rattle.rule_expr_nodes.specs.Nodes.{Makes, node_made}
use Rattle.rule_expr_leaves.specs.Links.{set_node, set_made}
use Rattle.rule_expr_nodes.proofs.Making.{if-clear, if-fault}

pub base-is : (l ts : List ℕ) (t : ℕ) (i : Info) (r : ℕ) → i ≡ info_of l ts t → r ≡ host_in l ts i.element → r ≡ host_in l ts (info_of l ts t).element
base-is l ts t i r h e = e ∙ ap (λ (x : Info). host_in l ts x.element) h

module _ (i : Info) (t chain : ℕ) (m : Got) (l : List ℕ) (r : Got) where
  pub set_is : (l' : List ℕ) → i.shape ≡ 1 → Makes (node_made t m.next (lay (6 ∷ i.low ∷ i.high ∷ chain ∷ []) m.top l)) r l' → Makes (set_node i t chain m l) r l'
  unfolding set_node
  set_is l' h k = rw (eq-eqb i.shape 1 h) k

  pub set-no : ((i.shape ≡ 1) → ⊥) → r ≡ failed_got Kind 0 m.next m.top → Makes (set_node i t chain m l) r l
  unfolding set_node
  set-no h k = rw (ne_eqb i.shape 1 h) (record { given = k; left = refl })

pub ruleset set-node-laws = (set_is, set-no)

module _ (l ts : List ℕ) (f : Fault) (t chain : ℕ) (m : Got) (g : Fault) (b : Bool) (e : g ≡ lowest f m.fault) (h : b ≡ is_clear g) (r : Got) where
  pub set-clear : (i : Info) (l' : List ℕ) → b ≡ true → i ≡ info_of l ts t → Makes (set_node i t chain m l) r l' → Makes (set_made l ts f t chain m) r l'
  unfolding set_made
  set-clear i l' z d k = rw (← e, ← d) (if-clear g 0 m.next m.top l (set_node i t chain m l) b h z r l' k)

  pub set-fault : b ≡ false → r ≡ failed_got g 0 m.next m.top → Makes (set_made l ts f t chain m) r l
  unfolding set_made
  set-fault z k = rw (← e) (if-fault g 0 m.next m.top l (set_node (info_of l ts t) t chain m l) b h z r k)

pub ruleset set-laws = (set-clear, set-fault)
