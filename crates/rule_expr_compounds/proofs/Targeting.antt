-- The laws of the targets' code: each way through a function gives the answer that `Targets` defines.
use mathlib.Core.Path.{◌≡◌, refl, ap}
use mathlib.Core.Bool.{Bool, true, false, cond}
use mathlib.Core.List.{List, [], ◌∷◌}
use Prim.Native.Nat.{ℕ, ◌+◌, ◌*◌, ◌≤◌}
use native.Mathlib.Omega.{arith}
use borrow.Author.Tests.{eq-eqb, ne_eqb}
use lib.Dec.{eqb}
use lib.ListN.{get_or}
use Rattle.law.specs.Base as Base
use Rattle.code.specs.Layout.{lay}
use Rattle.code.proofs.LayoutRegions.{lay-g}
use Rattle.code.specs.LayoutRegions.{Same}
use Rattle.rule_faults.specs.declared.Fault.{Fault}
use Rattle.rule_faults.specs.declared.Fault.TheVariants.{Clear, Kind, Name, Form}
use Rattle.table_scope.specs.declared.Info.{Info}
use Rattle.table_scope.specs.Descriptions.{info_of, field_place}
use Rattle.table_scope.specs.Sides.{host_in}
use Rattle.rule_faults.specs.declared.Got.{Got}
use Rattle.rule_faults.specs.Got.{lowest, is_clear, failed_got}
use Rattle.rule_expr_nodes.specs.Nodes.{Makes, failed_made, node_made, if_clear}
use Rattle.rule_expr_nodes.proofs.Making.{if-clear, if-fault}
use Rattle.rule_expr_compounds.specs.Targets.{loaded, element_kind, element, indexed, field_made, selected_made, Selects}

module _ (l ts : List ℕ) (g : Got) (t : Bool) (h : t ≡ is_clear g.fault) where
  pub load-clear : (i : Info) (k : ℕ) (r : Got) (l' : List ℕ) → t ≡ true → i ≡ info_of l ts g.kind → k ≡ host_in l ts g.kind
      → Makes (node_made k g.next (lay (4 ∷ g.place ∷ i.size ∷ []) g.top l)) r l' → Makes (loaded l ts g) r l'
  unfolding loaded
  load-clear i k r l' z e e' m = if-clear g.fault 0 g.next g.top l _ t h z r l' (rw (← e, ← e') m)

  pub load-fault : t ≡ false → (r : Got) → r ≡ failed_got g.fault 0 g.next g.top → Makes (loaded l ts g) r l
  unfolding loaded
  load-fault z r m = if-fault g.fault 0 g.next g.top l _ t h z r m

pub ruleset load-laws = (load-clear, load-fault)

module _ (i : Info) where
  pub kind-array : i.shape ≡ 2 → i.element ≡ element_kind i
  unfolding element_kind
  kind-array h = rw (eq-eqb i.shape 2 h)

  pub kind-other : ((i.shape ≡ 2) → ⊥) → ◌≡◌ {A = ℕ} 0 (element_kind i)
  unfolding element_kind
  kind-other h = rw (ne_eqb i.shape 2 h)

pub ruleset kind-laws = (kind-array, kind-other)

module _ (l ts : List ℕ) (i : Info) (g e r : Got) (k : ℕ) (kh : k ≡ element_kind i) where
  pub element-other : ((i.shape ≡ 2) → ⊥) → r ≡ failed_got Kind k e.next e.top → Makes (element l ts i g e) r l
  unfolding element
  element-other h m = rw (ne_eqb i.shape 2 h) (record { given = rw kh at m; left = refl })

  pub element-kind : (w : ℕ) → i.shape ≡ 2 → w ≡ host_in l ts i.index → ((w ≡ e.kind) → ⊥) → r ≡ failed_got Kind k e.next e.top → Makes (element l ts i g e) r l
  unfolding element
  element-kind w h f n m = rw (eq-eqb i.shape 2 h, ← f, ne_eqb w e.kind n) (record { given = rw kh at m; left = refl })

pub element-fits : (l ts : List ℕ) (i : Info) (g e r : Got) (w : ℕ) (j : Info) (l' : List ℕ) → i.shape ≡ 2 → w ≡ host_in l ts i.index → w ≡ e.kind → j ≡ info_of l ts i.element
    → Makes (node_made i.element e.next (lay (41 ∷ g.place ∷ e.place ∷ i.low ∷ i.high ∷ j.size ∷ []) e.top l)) r l' → Makes (element l ts i g e) r l'
unfolding element
element-fits l ts i g e r w j l' h f n d m = rw (eq-eqb i.shape 2 h, ← f, eq-eqb w e.kind n, ← d) m

pub ruleset element_laws = (element-other, element-kind, element-fits)

module _ (l ts : List ℕ) (g e : Got) (i : Info) (d : i ≡ info_of l ts g.kind) (f : Fault) (t : Bool) (c : f ≡ lowest g.fault e.fault) (h : t ≡ is_clear f) where
  pub index-clear : t ≡ true → (r : Got) (l' : List ℕ) → Makes (element l ts i g e) r l' → Makes (indexed l ts g e) r l'
  unfolding indexed
  index-clear z r l' m = rw (← c, ← d) (if-clear f (element_kind i) e.next e.top l (element l ts i g e) t h z r l' m)

  pub index-fault : t ≡ false → (k : ℕ) (r : Got) → k ≡ element_kind i → r ≡ failed_got f k e.next e.top → Makes (indexed l ts g e) r l
  unfolding indexed
  index-fault z k r n m = rw (← c, ← d) (if-fault f (element_kind i) e.next e.top l (element l ts i g e) t h z r (rw n at m))

pub ruleset index-laws = (index-clear, index-fault)

module _ (l : List ℕ) (p q : ℕ) (g r : Got) where
  pub field-none : (f : Fault) → p ≡ 0 → f ≡ lowest g.fault Name → r ≡ failed_got f 0 q g.top → Makes (field_made l p q g) r l
  unfolding field_made
  field-none f h e m = rw (eq-eqb p 0 h) (record { given = rw e at m; left = refl })

  module _ (k o : ℕ) (b : Bool) (n : (p ≡ 0) → ⊥) (kh : k ≡ get_or l (p + 1) 0) (oh : o ≡ get_or l (p + 2) 0) (h : b ≡ is_clear g.fault) where
    pub field-clear : (l' : List ℕ) → b ≡ true → Makes (node_made k q (lay (42 ∷ g.place ∷ o ∷ []) g.top l)) r l' → Makes (field_made l p q g) r l'
    unfolding field_made
    field-clear l' z m = rw (ne_eqb p 0 n, ← kh, ← oh) (if-clear g.fault k q g.top l _ b h z r l' m)

    pub field-fault : b ≡ false → r ≡ failed_got g.fault k q g.top → Makes (field_made l p q g) r l
    unfolding field_made
    field-fault z m = rw (ne_eqb p 0 n, ← kh, ← oh) (if-fault g.fault k q g.top l _ b h z r m)

pub ruleset field_laws = (field-none, field-clear, field-fault)

-- ---- a field by its name

module _ (s l ts : List ℕ) (g : Got) (w : Base.Name) (q : ℕ) (r : Got) (i : Info) (d : i ≡ info_of l ts g.kind) where
  made-next : (p : ℕ) (l' : List ℕ) → Makes (field_made l p q g) r l' → (r.next ≡ q) × (g.top ≤ r.top) × Same 0 g.top l' l
  unfolding field_made if_clear
  made-next p l' m = go (eqb p 0) g.fault m
    where
      none-laid : (r : Got) (l' : List ℕ) (f : Fault) (k : ℕ) → r ≡ failed_got f k q g.top → l' ≡ l → (r.next ≡ q) × (g.top ≤ r.top) × Same 0 g.top l' l
      none-laid r l' f k e e' = rw (e, e') (refl, omega arith, record { at = λ j a b. refl })

      go : (b : Bool) (f : Fault) → Makes (cond b (failed_made (lowest g.fault Name) 0 q g.top l) (if_clear f (get_or l (p + 1) 0) q g.top l (node_made (get_or l (p + 1) 0) q (lay (42 ∷ g.place ∷ get_or l (p + 2) 0 ∷ []) g.top l)))) r l'
          → (r.next ≡ q) × (g.top ≤ r.top) × Same 0 g.top l' l
      go true f m = none-laid r l' (lowest g.fault Name) 0 m.given m.left
      go false Kind m = none-laid r l' Kind (get_or l (p + 1) 0) m.given m.left
      go false Name m = none-laid r l' Name (get_or l (p + 1) 0) m.given m.left
      go false Form m = none-laid r l' Form (get_or l (p + 1) 0) m.given m.left
      go false Clear m =
          let G = lay-g (42 ∷ g.place ∷ get_or l (p + 2) 0 ∷ []) g.top l in
          rw (m.given, m.left) (refl, G.up, record { at = λ j a b. G.below j b })

  pub select-field : (p : ℕ) (l' : List ℕ) → i.shape ≡ 3 → (i.place + 8 + 4 * i.fields ≤ 4294967296 → p ≡ field_place s l (i.place + 8) i.fields w) → Makes (field_made l p q g) r l' → Selects s l (info_of l ts g.kind) w q g r l'
  unfolding selected_made
  select-field p l' h f m =
      let n = made-next p l' m in
      rw (← d) (record { selects = λ b. rw (eq-eqb i.shape 3 h, ← f b) m; next-is = n.0; top_up = n.1; below = n.2 })

  pub select-other : (f : Fault) → ((i.shape ≡ 3) → ⊥) → f ≡ lowest g.fault Kind → r ≡ failed_got f 0 q g.top → Selects s l (info_of l ts g.kind) w q g r l
  unfolding selected_made
  select-other f h e m =
      rw (← d) (record { selects = λ b. rw (ne_eqb i.shape 3 h) (record { given = rw e at m; left = refl }); next-is = ap (λ (x : Got). x.next) m; top_up = rw m (omega arith); below = record { at = λ j a b. refl } })

pub ruleset select-laws = (select-field, select-other)
