-- The laws of the operators' code: each way through a function gives the answer that `Operators` defines.
use mathlib.Core.Path.{◌≡◌, refl, sym, ◌∙◌}
use mathlib.Core.Bool.{Bool, true, false}
use mathlib.Core.List.{List, [], ◌∷◌}
use Prim.Native.Nat.{ℕ, ◌<◌, ◌≤◌}
use borrow.Author.Tests.{lt-ltb, le-ltb}
use Rattle.code.specs.Layout.{lay}
use Rattle.table_kinds.specs.Kinds.{ruling2}
use Rattle.table_kinds.specs.Functions.{ruling1}
use Rattle.table_kinds.specs.declared.Side.{Side}
use Rattle.table_kinds.specs.Kinds.{Ruling, fits}
use Rattle.std.specs.Prelude.{Some, None}
use Rattle.table_kinds.specs.declared.Ruled.{Ruled}
use Rattle.rule_faults.specs.declared.Fault.{Fault}
use Rattle.rule_faults.specs.declared.Fault.TheVariants.{Kind}
use Rattle.table_scope.specs.declared.Info.{Info}
use Rattle.table_scope.specs.Descriptions.{info_of}
use Rattle.table_scope.specs.Sides.{side_in}
use Rattle.rule_faults.specs.declared.Got.{Got}
use Rattle.rule_faults.specs.Got.{lowest, is_clear, failed_got}
use Rattle.rule_expr_nodes.specs.Nodes.{Makes, node_made}
use Rattle.rule_expr_nodes.proofs.Making.{if-clear, if-fault}
use Rattle.rule_expr_compounds.specs.Operators.{ruled_node, operated, paired, ruled_node1, applied_clear, applied}

-- ---- two-sided operators

module _ (l ts : List ℕ) (op : ℕ) (a b : Got) where
  module _ (x : Ruling) (y z : Side) (i : y ≡ side_in l ts a.kind) (j : z ≡ side_in l ts b.kind) (e : x ≡ ruling2 op y z) where
    pub operate-misfit : (r : Got) → x ≡ None → r ≡ failed_got Kind 0 b.next b.top → Makes (operated l ts op a b) r l
    unfolding operated ruled_node
    operate-misfit r h g = rw (← i, ← j, sym e ∙ h) (record { given = g; left = refl })

    pub operate-fits : (u : Ruled) (r : Got) (l' : List ℕ) → x ≡ Some u → Makes (node_made u.kind b.next (lay (u.node ∷ a.place ∷ b.place ∷ []) b.top l)) r l' → Makes (operated l ts op a b) r l'
    unfolding operated ruled_node
    operate-fits u r l' h m = rw (← i, ← j, sym e ∙ h) m

  module _ (f : Fault) (t : Bool) (e : f ≡ lowest a.fault b.fault) (h : t ≡ is_clear f) where
    pub pair-clear : t ≡ true → (r : Got) (l' : List ℕ) → Makes (operated l ts op a b) r l' → Makes (paired l ts op a b) r l'
    unfolding paired
    pair-clear g r l' m = rw (← e) (if-clear f 0 b.next b.top l (operated l ts op a b) t h g r l' m)

    pub pair-fault : t ≡ false → (r : Got) → r ≡ failed_got f 0 b.next b.top → Makes (paired l ts op a b) r l
    unfolding paired
    pair-fault g r m = rw (← e) (if-fault f 0 b.next b.top l (operated l ts op a b) t h g r m)

pub ruleset operate-laws = (operate-misfit, operate-fits)

pub ruleset pair-laws = (pair-clear, pair-fault)

-- ---- one-sided operators and functions

module _ (l : List ℕ) (i : Info) (n k : ℕ) (a : Got) (r : Got) (l' : List ℕ) where
  pub one_plain : n < 38 → Makes (node_made k a.next (lay (n ∷ a.place ∷ []) a.top l)) r l' → Makes (ruled_node1 (fits n k) i a.place a.next a.top l) r l'
  unfolding ruled_node1
  one_plain h m = rw (lt-ltb n 38 h) m

  pub one-bounded : 38 ≤ n → Makes (node_made k a.next (lay (n ∷ a.place ∷ i.low ∷ i.high ∷ []) a.top l)) r l' → Makes (ruled_node1 (fits n k) i a.place a.next a.top l) r l'
  unfolding ruled_node1
  one-bounded h m = rw (le-ltb n 38 h) m

module _ (l ts : List ℕ) (f : ℕ) (a : Got) where
  module _ (x : Ruling) (y : Side) (j : y ≡ side_in l ts a.kind) (e : x ≡ ruling1 f y) where
    pub apply-misfit : (r : Got) → x ≡ None → r ≡ failed_got Kind 0 a.next a.top → Makes (applied_clear l ts f a) r l
    unfolding applied_clear ruled_node1
    apply-misfit r h g = rw (← j, sym e ∙ h) (record { given = g; left = refl })

    pub apply-fits : (u : Ruled) (i : Info) (r : Got) (l' : List ℕ) → x ≡ Some u → i ≡ info_of l ts a.kind → Makes (ruled_node1 (fits u.node u.kind) i a.place a.next a.top l) r l' → Makes (applied_clear l ts f a) r l'
    unfolding applied_clear
    apply-fits u i r l' h g m = rw (← j, sym e ∙ h, ← g) m

  module _ (t : Bool) (h : t ≡ is_clear a.fault) where
    pub applied-clear : t ≡ true → (r : Got) (l' : List ℕ) → Makes (applied_clear l ts f a) r l' → Makes (applied l ts f a) r l'
    unfolding applied
    applied-clear g r l' m = if-clear a.fault 0 a.next a.top l (applied_clear l ts f a) t h g r l' m

    pub applied-fault : t ≡ false → (r : Got) → r ≡ failed_got a.fault 0 a.next a.top → Makes (applied l ts f a) r l
    unfolding applied
    applied-fault g r m = if-fault a.fault 0 a.next a.top l (applied_clear l ts f a) t h g r m

pub ruleset one_laws = (one_plain, one-bounded)

pub ruleset apply-laws = (apply-misfit, apply-fits)

pub ruleset applied-laws = (applied-clear, applied-fault)
