-- The laws of the nodes' code: each way through a function gives the answer that `Nodes` defines.
use mathlib.Core.Path.{◌≡◌, refl, ap, ◌∙◌}
use mathlib.Core.Bool.{Bool, true, false, cond}
use mathlib.Core.List.{List, [], ◌∷◌}
use Prim.Native.Nat.{ℕ, ◌+◌, ◌<◌, ◌≤◌}
use borrow.Author.Tests.{eq-eqb, ne_eqb, ltb-true, ltb-false}
use lib.Dec.{eqb, ltb}
use lib.ListN.{set}
use Rattle.code.specs.Layout.{lay}
use Rattle.rule_faults.specs.declared.Fault.{Fault}
use Rattle.rule_faults.specs.declared.Fault.TheVariants.{Clear, Kind, Name}
use Rattle.table_scope.specs.declared.Info.{Info}
use Rattle.table_scope.specs.declared.Loops.{Loops}
use Rattle.table_scope.specs.declared.Meaning.{Meaning}
use Rattle.table_scope.specs.declared.Meaning.TheVariants as meaning
use Rattle.table_scope.specs.Descriptions.{info_of}
use Rattle.table_scope.specs.Loops.{loops_over}
use Rattle.table_scope.specs.Sides.{host_in}
use Rattle.rule_faults.specs.declared.Got.{Got}
use Rattle.rule_faults.specs.Got.{lowest, is_clear, failed_got}
use Rattle.table_list.specs.Laid.{Laid}
use Rattle.rule_expr_nodes.specs.Nodes.{Makes, node_made}
use Rattle.rule_expr_nodes.proofs.Making.{if-clear, if-fault}
use Rattle.rule_stmt_nodes.specs.BaseNodes.{with_fault, node_if}
use Rattle.rule_stmt_nodes.specs.declared.nodes.Control.{Control}
use Rattle.rule_stmt_nodes.specs.Nodes.{next_number, wanted_got, raised, looped, branched, stored, assigned, control_fault, repeated, repeated_by, sequenced, joined_got}

pub number_is : (n r : ℕ) → (n < 4294967295 → r ≡ n + 1) → (4294967295 ≤ n → r ≡ n) → r ≡ next_number n
unfolding next_number
number_is n r h k = go (ltb n 4294967295) refl
  where
    go : (t : Bool) → ltb n 4294967295 ≡ t → r ≡ cond t (n + 1) n
    go true e = h (ltb-true n 4294967295 e)
    go false e = k (ltb-false n 4294967295 e)

module _ (k : ℕ) (g : Got) where
  pub wanted-is : k ≡ g.kind → g ≡ wanted_got k g
  unfolding wanted_got
  wanted-is h = rw (eq-eqb k g.kind h) refl

  pub wanted-other : (f : Fault) (r : Got) → ((k ≡ g.kind) → ⊥) → f ≡ lowest g.fault Kind → r ≡ with_fault g f → r ≡ wanted_got k g
  unfolding wanted_got
  wanted-other f r h e m = rw (ne_eqb k g.kind h) (m ∙ ap (with_fault g) e)

pub ruleset wanted_laws = (wanted-is, wanted-other)

module _ (l : List ℕ) (n : ℕ) (r : Got) (l' : List ℕ) where
  pub raise-is : (c : Got) → Makes (node_if c.fault n c.next (51 ∷ n ∷ c.place ∷ []) c.top l) r l' → Makes (raised l n c) r l'
  unfolding raised
  raise-is c m = m

  pub while-is : (c b : Got) (f : Fault) → f ≡ lowest c.fault b.fault
      → Makes (node_if f b.kind b.next (47 ∷ n ∷ c.place ∷ b.place ∷ []) b.top l) r l' → Makes (looped l n c b) r l'
  unfolding looped
  while-is c b f e m = rw (← e) m

  pub if-is : (c a b : Got) (f h : Fault) → f ≡ lowest c.fault a.fault → h ≡ lowest f b.fault
      → Makes (node_if h b.kind b.next (46 ∷ n ∷ c.place ∷ a.place ∷ b.place ∷ []) b.top l) r l' → Makes (branched l n c a b) r l'
  unfolding branched
  if-is c a b f h e i m = rw (← e, ← i) m

  pub for-is : (i : Info) (f : Fault) (v : Control) (x y z : Got) (a b c d : Fault) → a ≡ lowest x.fault y.fault → b ≡ lowest a z.fault
      → c ≡ lowest v.fault b → d ≡ lowest c f
      → Makes (node_if d z.kind z.next (48 ∷ n ∷ v.base ∷ i.low ∷ i.high ∷ x.place ∷ y.place ∷ z.place ∷ []) z.top l) r l'
      → Makes (repeated l i f n v x y z) r l'
  unfolding repeated
  for-is i f v x y z a b c d ea eb ec ed m = rw (← ea, ← eb, ← ec, ← ed) m

  pub for-control : (ts : List ℕ) (m : Loops) (i : Info) (f : Fault) (v : Control) (x y z : Got) (o : Bool) → i ≡ info_of l ts v.kind → o ≡ loops_over m v.number → f ≡ control_fault o i
      → Makes (repeated l i f n v x y z) r l' → Makes (repeated_by l (info_of l ts v.kind) m n v x y z) r l'
  unfolding repeated_by
  for-control ts m i f v x y z o ei e h k = rw (← ei, ← e, ← h) k

  pub begin-is : (slot : ℕ) (m : Got) → Makes (node_if m.fault m.kind m.next (45 ∷ n ∷ slot ∷ []) m.top l) r l' → Makes (sequenced l n slot m) r l'
  unfolding sequenced
  begin-is slot m h = h

module _ (over : Bool) (i : Info) where
  pub control-over : over ≡ true → Kind ≡ control_fault over i
  unfolding control_fault
  control-over h = rw h refl

  pub control-fits : over ≡ false → i.shape ≡ 0 → Clear ≡ control_fault over i
  unfolding control_fault
  control-fits h e = rw (h, eq-eqb i.shape 0 e) refl

  pub control-other : over ≡ false → ((i.shape ≡ 0) → ⊥) → Kind ≡ control_fault over i
  unfolding control_fault
  control-other h e = rw (h, ne_eqb i.shape 0 e) refl

pub ruleset control_laws = (control-over, control-fits, control-other)

-- ---- an assignment

module _ (l : List ℕ) (i : Info) (k n : ℕ) (g e r : Got) where
  pub store-kind : ((k ≡ e.kind) → ⊥) → r ≡ failed_got Kind n e.next e.top → Makes (stored l i k n g e) r l
  unfolding stored
  store-kind h m = rw (ne_eqb k e.kind h) (record { given = m; left = refl })

  pub store-ordinal : (l' : List ℕ) → k ≡ e.kind → i.shape ≡ 0 → Makes (node_made n e.next (lay (43 ∷ n ∷ g.place ∷ e.place ∷ i.low ∷ i.high ∷ []) e.top l)) r l' → Makes (stored l i k n g e) r l'
  unfolding stored
  store-ordinal l' h z m = rw (eq-eqb k e.kind h, eq-eqb i.shape 0 z) m

  pub store-cells : (x : ℕ) (l' : List ℕ) → k ≡ e.kind → ((i.shape ≡ 0) → ⊥) → x ≡ cond (eqb i.shape 1) 44 52 → Makes (node_made n e.next (lay (x ∷ n ∷ g.place ∷ e.place ∷ []) e.top l)) r l' → Makes (stored l i k n g e) r l'
  unfolding stored
  store-cells x l' h z y m = rw (eq-eqb k e.kind h, ne_eqb i.shape 0 z) (go (eqb i.shape 1) y)
    where
      go : (t : Bool) → x ≡ cond t 44 52 → Makes (node_made n e.next (lay (cond t (44 ∷ n ∷ g.place ∷ e.place ∷ []) (52 ∷ n ∷ g.place ∷ e.place ∷ [])) e.top l)) r l'
      go true y = rw (← y) m
      go false y = rw (← y) m

pub ruleset store-laws = (store-kind, store-ordinal, store-cells)

pub cells_one : (n : ℕ) → n ≡ 1 → ◌≡◌ {A = ℕ} 44 (cond (eqb n 1) 44 52)
cells_one n h = rw (eq-eqb n 1 h) refl

pub cells_more : (n : ℕ) → ((n ≡ 1) → ⊥) → ◌≡◌ {A = ℕ} 52 (cond (eqb n 1) 44 52)
cells_more n h = rw (ne_eqb n 1 h) refl

module _ (l ts : List ℕ) (n : ℕ) (g e : Got) (f : Fault) (b : Bool) (h : f ≡ lowest g.fault e.fault) (z : b ≡ is_clear f) (r : Got) where
  pub assign-clear : (k : ℕ) (i : Info) (l' : List ℕ) → b ≡ true → k ≡ host_in l ts g.kind → i ≡ info_of l ts g.kind → Makes (stored l i k n g e) r l' → Makes (assigned l ts n g e) r l'
  unfolding assigned
  assign-clear k i l' y d c m = rw (← h, ← d, ← c) (if-clear f n e.next e.top l (stored l i k n g e) b z y r l' m)

  pub assign-fault : b ≡ false → r ≡ failed_got f n e.next e.top → Makes (assigned l ts n g e) r l
  unfolding assigned
  assign-fault y m = rw (← h) (if-fault f n e.next e.top l _ b z y r m)

pub ruleset assign_laws = (assign-clear, assign-fault)

pub joined_is : (g a : Got) (t : ℕ) (f : Fault) → f ≡ lowest g.fault a.fault → record { fault = f; kind = a.kind; place = 0; next = a.next; top = t } ≡ joined_got g a t
joined_is g a t f e = rw e refl
