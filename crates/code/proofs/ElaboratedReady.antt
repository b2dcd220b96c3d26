-- Code elaborated with formed tables of small types is ready for an engine (CodeReady), where its expressions were read with so many brackets.
use mathlib.Core.Path.{◌≡◌, refl}
use mathlib.Core.Bool.{Bool, true, false, cond, ◌&&◌, ◌||◌, not}
use mathlib.Core.List.{List, [], ◌∷◌}
use mathlib.Core.Option.{some}
use Prim.Native.Nat.{ℕ, suc, ◌+◌, ◌≤◌}
use native.Mathlib.Omega.{arith}
use lib.Dec.{eqb}
use borrow.Author.Tests.{eqb-true}
use Rattle.leaf_integers.proofs.Order.{le_z-refl}
use Rattle.leaf_integers.proofs.Ranges.{inside_both}
use Rattle.law.specs.Base.{Name, find}
use Rattle.law.specs.Code as C
use Rattle.law.specs.Elaborate.{Elaborated, Located, copying, elab_arguments, elab_arms, elab_body, elab_expr, elab_members, elab_stmt, elab_stmts, elab_target, expects}
use Rattle.law.specs.Environment.{Environment, NameSort, a_proc, a_type, a_value, a_var}
use Rattle.law.specs.Calculate.{is}
use Rattle.law.specs.Chair.{place_code}
use Rattle.law.specs.Machine.{Store, store_cells}
use Rattle.law.specs.Names.{Reached, arms_of, as_expr, atom_of, body_of, expr_of, exprs_of, stmt_of, stmts_of, target_of}
use Rattle.law.specs.Rules.{all_plain, differ, kept_arms, kept_body, kept_stmt, kept_stmts, labels_of, looping, plain_expr}
use Rattle.law.specs.Script as X
use Rattle.law.specs.Syntax as S
use Rattle.law.specs.Types.{Types, Vars, array?, host_of, info_at, ordinal?, set?, size_of}
use Rattle.law_theorems.proofs.Inversion.{none-some, and-true, some_inj, both_some, bind-some, given-some}
use Rattle.law_theorems.proofs.ValuesInRange.{ord-layout, own-host}
use Rattle.law_theorems.specs.ValuesInRange.{Formed, Test}
use Rattle.law_theorems.proofs.CodeSized.{Limits, for-cell, int-between, labels-sized, operation-sized, pick-int}
use Rattle.law_theorems.proofs.ElaboratedSafe.{One, argument, one-boolean, one-integer, one-ordinal, one_set, operands, no-single, single-cells}
use Rattle.law_theorems.proofs.Components.{Lying, target-lies, targets-aside, variable-lies}
use Rattle.law_theorems.specs.LinesKeep.{Simple}
use Rattle.law_theorems.proofs.ScriptCalls.{proc-is}
use Rattle.law_theorems.proofs.Depths as Deep
use Rattle.law_theorems.proofs.Depths.{DeepE, DeepEs, DeepT}
use Rattle.law_theorems.proofs.StatementNumbers as Counted
use Rattle.law_theorems.proofs.StatementNumbers.{Counted, CountedAll, CountedArms, CountedBody}
use Rattle.code.specs.CodeReady.{Clear, Element, ReadyCode, literal, variable, at, last_number, make_set, calculate, short_cut, calculate1, ReadyPlace, cell, index, shift, ReadyCodes, no_codes, ◌with◌, ReadyAct, assign_ordinal, assign_set, copy_cells, sequence, branch_on, while_loop, for_loop, case_of, call_to, raise_with, no_act, ReadyActs, stop, ◌also◌, ReadyCases, else_case, no_case, one_case, ReadyBody}

-- with tables that are formed, and procedures whose parameters are of one cell
module _ (σ : Environment) (xs : List Test) (𝓕 : Formed σ.types σ.vars xs) (𝓛 : Limits σ.types σ.vars)
    (procs : (w : Name) (p : ℕ) (ts : List ℕ) → find σ.names w ≡ some (a_proc p ts) → Simple σ.types ts) where
  abbrev Γ : Types
  Γ = σ.types

  abbrev Δ : Vars
  Δ = σ.vars

  abbrev Sole : ℕ → Type 0
  Sole k = One Γ Δ xs 𝓕 k

  -- where a place of type k lies
  abbrev Spot : ℕ → C.Place → Type 0
  Spot k p = (m : Store) (a : ℕ) → place_code p m ≡ is a → Lying Γ Δ xs 𝓕 k a

  -- ---- an expression of kind k: of one cell, or the cells of a variable or another target

  data Valued : ℕ → C.Code → ℕ → Type 0 where
    single : {d : ℕ} {c : C.Code} {k : ℕ} → Sole k → ReadyCode d c → Valued d c k
    cells : {d a k : ℕ} → a + size_of Γ k ≤ store_cells → Spot k (C.cell a) → Valued d (C.load (C.cell a) (size_of Γ k)) k
    copied : {d : ℕ} {q : C.Place} {k : ℕ} → ReadyPlace d q (size_of Γ k) → Spot k q → Valued (suc d) (C.load q (size_of Γ k)) k

  one-cell : (a n : ℕ) {d : ℕ} → n ≡ 1 → a + n ≤ store_cells → ReadyCode d (C.load (C.cell a) n)
  one-cell a n e l = rw e (variable {a = a} (omega arith))

  one_place : {d : ℕ} {p : C.Place} (n : ℕ) → n ≡ 1 → ReadyPlace d p n → ReadyCode (suc d) (C.load p n)
  one_place n e p = rw e (at (rw e at p))

  one_size : (k : ℕ) → Sole k → size_of Γ k ≡ 1
  one_size k o = rw (single-cells _ o k (info_at Γ k).cells)

  one_of : {d k : ℕ} {c : C.Code} → Valued d c k → Sole k → ReadyCode d c
  one_of (single o c) s = c
  one_of (cells {a = a} {k = k} l z) s = one-cell a (size_of Γ k) (one_size k s) l
  one_of (copied {k = k} q z) s = one_place (size_of Γ k) (one_size k s) q

  -- of a kind that was asked for
  boolean-of : {d : ℕ} {c : C.Code} (k : ℕ) → eqb 1 k ≡ true → Valued d c k → ReadyCode d c
  boolean-of k e v = one_of v (rw (← eqb-true 1 k e) (one-boolean Γ Δ xs 𝓕))

  ordinal-of : {d : ℕ} {c : C.Code} (n k : ℕ) → eqb n k ≡ true → ordinal? Γ n ≡ true → Valued d c k → ReadyCode d c
  ordinal-of n k e o v = one_of v (rw (← eqb-true n k e) (one-ordinal Γ Δ xs 𝓕 n o))

  -- what is read of a variable, of a place
  read-cells : {d : ℕ} (b : Bool) (a t : ℕ) → ordinal? Γ t ≡ b → a + size_of Γ t ≤ store_cells → Spot t (C.cell a) → Valued d (C.load (C.cell a) (size_of Γ t)) (host_of Γ t)
  read-cells true a t o l z = single (one-ordinal Γ Δ xs 𝓕 (host_of Γ t) (𝓕.hosts t o)) (one-cell a (size_of Γ t) (one_size t (one-ordinal Γ Δ xs 𝓕 t o)) l)
  read-cells false a t o l z = rw (own-host _ t _ o) (cells l z)

  read-place : {d : ℕ} {p : C.Place} (b : Bool) (t : ℕ) → ordinal? Γ t ≡ b → ReadyPlace d p (size_of Γ t) → Spot t p → Valued (suc d) (C.load p (size_of Γ t)) (host_of Γ t)
  read-place true t o p z = single (one-ordinal Γ Δ xs 𝓕 (host_of Γ t) (𝓕.hosts t o)) (one_place (size_of Γ t) (one_size t (one-ordinal Γ Δ xs 𝓕 t o)) p)
  read-place false t o p z = rw (own-host _ t _ o) (copied p z)

  -- an array has elements, so that one fits
  element : (t : ℕ) → array? Γ t ≡ true → Element (info_at Γ t).low (info_at Γ t).high (size_of Γ (info_at Γ t).element) (size_of Γ t)
  element t p =
      let first = (𝓕.elements t p (info_at Γ t).low (inside_both _ _ _ (le_z-refl (info_at Γ t).low) (𝓕.nonempty t p))).short in
      record { reach = λ z i. (𝓕.elements t p z i).short; fits = omega (arith, first) }

  -- ---- expressions and targets

  module _ {d : ℕ} where
    literal-ready : (c : X.Const) {r : Elaborated} → elab_expr Γ Δ (X.const c) ≡ some r → Valued d r.code r.kind
    unfolding elab_expr
    literal-ready c h = given-some h λ p v.
        let q = and-true (ordinal? Γ c.kind) _ p in
        rw (← v) (single (one-ordinal Γ Δ xs 𝓕 c.kind q.0) (literal (int-between _ _ c.value (𝓛.low c.kind) (𝓛.high c.kind) q.1)))

    variable-ready : (i : ℕ) {r : Elaborated} → elab_expr Γ Δ (X.read (X.var i)) ≡ some r → Valued d r.code r.kind
    unfolding elab_expr
    variable-ready i h = bind-some h λ w hw h. bind-some hw λ v hv hw. rw (← some_inj h, ← some_inj hw) (read-cells _ v.base v.type refl (𝓛.vars i v hv) (variable-lies Γ Δ xs 𝓕 i v hv))

    name-ready : (s : NameSort) {x : X.Expr} {r : Elaborated} → as_expr s ≡ some x → elab_expr Γ Δ x ≡ some r → Valued d r.code r.kind
    name-ready (a_type t) h k = none-some h
    name-ready (a_var i) h k = variable-ready i (rw (← some_inj h) at k)
    name-ready (a_proc p ts) h k = none-some h
    name-ready (a_value c) h k = literal-ready c (rw (← some_inj h) at k)

    atom-ready : (c : S.Constant) {x : X.Expr} {r : Elaborated} → atom_of σ c ≡ some x → elab_expr Γ Δ x ≡ some r → Valued d r.code r.kind
    unfolding atom_of
    atom-ready (S.number z) h k = literal-ready _ (rw (← some_inj h) at k)
    atom-ready (S.minus z) h k = literal-ready _ (rw (← some_inj h) at k)
    atom-ready (S.truth b) h k = literal-ready _ (rw (← some_inj h) at k)
    atom-ready (S.named w) h k = bind-some h λ s _ e. name-ready s e k

  mutual
    unfolding expr_of elab_expr

    ready-e : {d : ℕ} {e : S.Expr} → DeepE d e → (x : X.Expr) (r : Elaborated) → expr_of σ e ≡ some x → elab_expr Γ Δ x ≡ some r → Valued d r.code r.kind
    ready-e (Deep.const {c = c}) x r h k = atom-ready c h k
    ready-e (Deep.read g) x r h k = bind-some h λ u hu h. bind-some (rw (← some_inj h) at k) λ w hw k.
        rw (← some_inj k) (read-place _ w.type refl (ready-t g u w hu hw) (target-lies Γ Δ xs 𝓕 u.target w hw))
    ready-e Deep.error_number x r h k = rw (← some_inj (rw (← some_inj h) at k)) (single (one-integer Γ Δ xs 𝓕) last_number)
    ready-e (Deep.members es) x r h k = bind-some h λ n _ h. bind-some h λ ys hys h. bind-some (rw (← some_inj h) at k) λ cs hcs k. given-some k λ p k.
        rw (← k) (single (one_set Γ Δ xs 𝓕 n p) (make_set (𝓛.bases n p).0 (𝓛.bases n p).1 (ready-m es ys _ cs hys hcs (𝓕.hosts (info_at Γ n).element (𝓕.bases n p)))))
    ready-e (Deep.end_of {q = q}) x r h k = bind-some h λ n _ h. given-some (rw (← some_inj h) at k) λ p k.
        rw (← k) (single (one-ordinal Γ Δ xs 𝓕 (host_of Γ n) (𝓕.hosts n p)) (literal (pick-int q _ _ (𝓛.high n) (𝓛.low n))))
    ready-e (Deep.binary {op = op} a b) x r h k = bind-some h λ y hy h. bind-some h λ z hz h. both_some (rw (← some_inj h) at k) λ c e hc he k. bind-some k λ q hq k.
        let p = operands Γ Δ xs 𝓕 c.kind e.kind op hq in
        rw (← some_inj k) (single p.result (calculate (one_of (ready-e a y c hy hc) p.left) (one_of (ready-e b z e hz he) p.right)))
    ready-e (Deep.short_circuit a b) x r h k = bind-some h λ y hy h. bind-some h λ z hz h. both_some (rw (← some_inj h) at k) λ c e hc he k. given-some k λ p k.
        let p' = and-true (eqb 1 c.kind) (eqb 1 e.kind) p in
        rw (← k) (single (one-boolean Γ Δ xs 𝓕) (short_cut (boolean-of c.kind p'.0 (ready-e a y c hy hc)) (boolean-of e.kind p'.1 (ready-e b z e hz he))))
    ready-e (Deep.unary {f = f} a) x r h k = bind-some h λ y hy h. bind-some (rw (← some_inj h) at k) λ c hc k. bind-some k λ q hq k.
        let p = argument Γ Δ xs 𝓕 f c.kind hq in
        rw (← some_inj k) (single p.result (calculate1 (operation-sized Γ Δ 𝓛 f c.kind hq) (one_of (ready-e a y c hy hc) p.only)))

    ready-t : {d : ℕ} {g : S.Target} → DeepT d g → (u : Reached) (w : Located) → target_of σ g ≡ some u → elab_target Γ Δ u.target ≡ some w → ReadyPlace d w.place (size_of Γ w.type)
    ready-t Deep.var u w h k = bind-some h λ i _ h. bind-some h λ v _ h. bind-some (rw (← some_inj h) at k) λ v' hv k. rw (← some_inj k) (cell (𝓛.vars i v' hv))
    ready-t (Deep.at g e) u w h k = bind-some h λ y hy h. bind-some h λ z hz h. both_some (rw (← some_inj h) at k) λ c x hc hx k. given-some k λ p k.
        let p' = and-true (array? Γ c.type) _ p in
        let o : ordinal? Γ x.kind ≡ true = rw (← eqb-true _ x.kind p'.1) (𝓕.hosts _ (𝓕.indexes c.type p'.0)) in
        rw (← k) (index (ready-t g y c hy hc) (one_of (ready-e e z x hz hx) (one-ordinal Γ Δ xs 𝓕 x.kind o)) (𝓛.low c.type) (𝓛.high c.type) (element c.type p'.0))
    ready-t (Deep.dot {w = n} g) u w h k = bind-some h λ y hy h. bind-some h λ t _ h. bind-some (rw (← some_inj h) at k) λ c hc k. bind-some k λ f hf k.
        rw (← some_inj k) (shift (ready-t g y c hy hc) (𝓛.fields c.type n f hf))

    ready-m : {d : ℕ} {es : S.Exprs} → DeepEs d es → (ys : X.Exprs) (n : ℕ) (cs : C.Codes) → exprs_of σ es ≡ some ys → elab_members Γ Δ n ys ≡ some cs → ordinal? Γ n ≡ true → ReadyCodes d cs
    ready-m Deep.nil ys n cs h k o = rw (← some_inj (rw (← some_inj h) at k)) no_codes
    ready-m (Deep.◌and◌ e es) ys n cs h k o = bind-some h λ y hy h. bind-some h λ zs hzs h. both_some (rw (← some_inj h) at k) λ c ds hc hds k. given-some k λ p k.
        rw (← k) (ordinal-of n c.kind p o (ready-e e y c hy hc) with ready-m es zs n ds hzs hds o)

  -- ---- statements

  wanted : {d : ℕ} {e : S.Expr} → DeepE d e → (n : ℕ) (x : X.Expr) (c : C.Code) → expr_of σ e ≡ some x → expects Γ Δ n x ≡ some c → Valued d c n
  unfolding expects
  wanted e n x c h k = bind-some k λ r hr k. given-some k λ p k. rw (← k, eqb-true n r.kind p) (ready-e e x r h hr)

  wanted-ordinal : {d : ℕ} {e : S.Expr} → DeepE d e → (n : ℕ) → ordinal? Γ n ≡ true → (x : X.Expr) (c : C.Code) → expr_of σ e ≡ some x → expects Γ Δ n x ≡ some c → ReadyCode d c
  wanted-ordinal e n o x c h k = one_of (wanted e n x c h k) (one-ordinal Γ Δ xs 𝓕 n o)

  wanted-boolean : {d : ℕ} {e : S.Expr} → DeepE d e → (x : X.Expr) (c : C.Code) → expr_of σ e ≡ some x → expects Γ Δ 1 x ≡ some c → ReadyCode d c
  wanted-boolean e x c h k = wanted-ordinal e 1 𝓕.booleans.0 x c h k

  -- ---- arguments, for ordinals and sets

  wanted-argument : {d : ℕ} {e : S.Expr} → DeepE d e → (b : Bool) (t : ℕ) → ordinal? Γ t ≡ b → (b || set? Γ t) ≡ true → (x : X.Expr) (c : C.Code) → expr_of σ e ≡ some x → expects Γ Δ (host_of Γ t) x ≡ some c
      → ReadyCode d c
  wanted-argument e true t o s x c h k = wanted-ordinal e (host_of Γ t) (𝓕.hosts t o) x c h k
  wanted-argument e false t o s x c h k = one_of (rw (own-host _ t _ o) at (wanted e (host_of Γ t) x c h k)) (one_set Γ Δ xs 𝓕 t s)

  ready-arguments : {d : ℕ} {es : S.Exprs} → DeepEs d es → (ys : X.Exprs) (ts : List ℕ) → Simple Γ ts → (cs : C.Codes) → exprs_of σ es ≡ some ys → elab_arguments Γ Δ ts ys ≡ some cs → ReadyCodes d cs
  unfolding exprs_of elab_arguments
  ready-arguments Deep.nil ys [] s cs h k = rw (← some_inj (rw (← some_inj h) at k)) no_codes
  ready-arguments Deep.nil ys (t ∷ ts) s cs h k = none-some (rw (← some_inj h) at k)
  ready-arguments (Deep.◌and◌ e es) ys [] s cs h k = bind-some h λ y _ h. bind-some h λ zs _ h. none-some (rw (← some_inj h) at k)
  ready-arguments (Deep.◌and◌ e es) ys (t ∷ ts) s cs h k = bind-some h λ y hy h. bind-some h λ zs hzs h. both_some (rw (← some_inj h) at k) λ c ds hc hds k.
      rw (← some_inj k) (wanted-argument e _ t refl (s 0 (omega arith)) y c hy hc with ready-arguments es zs ts (λ j l. s (suc j) (omega arith)) ds hzs hds)

  clear : (k : ℕ) {p q : C.Place} → Spot k p → Spot k q → Clear p q (size_of Γ k)
  clear k y z = record { at = λ m a b e f. targets-aside Γ Δ xs 𝓕 (y m a e) (z m b f) }

  -- to a target that is no ordinal
  putting-whole : {d : ℕ} {c : C.Code} (b : Bool) (n k : ℕ) {p : C.Place} → ordinal? Γ k ≡ false → set? Γ k ≡ b → n ≤ 4096 → ReadyPlace d p (size_of Γ k) → Spot k p → Valued (suc d) c k
      → ReadyAct d (cond b (C.assign_cell n p c) (copying n p c))
  unfolding copying
  putting-whole true n k o s l p z v = let u = one_set Γ Δ xs 𝓕 k s in assign_set l (rw (single-cells _ u k _) at p) (one_of v u)
  putting-whole false n k o s l p z (single u c) = no-single _ o s u
  putting-whole false n k o s l p z (cells q y) = copy_cells l p (cell q) (clear k z y)
  putting-whole false n k o s l p z (copied q y) = copy_cells l p q (clear k z y)

  putting : {d : ℕ} (b : Bool) (n : ℕ) (w : Located) (c : C.Code) → ordinal? Γ w.type ≡ b → n ≤ 4096 → ReadyPlace d w.place (size_of Γ w.type) → Spot w.type w.place → Valued (suc d) c (host_of Γ w.type)
      → ReadyAct d (cond b (C.assign_ordinal n w.place (info_at Γ w.type).low (info_at Γ w.type).high c) (cond (set? Γ w.type) (C.assign_cell n w.place c) (copying n w.place c)))
  putting true n w c o l p z v =
      assign_ordinal l (rw (ord-layout _ w.type _ o) at p) (𝓛.low w.type) (𝓛.high w.type) (one_of v (one-ordinal Γ Δ xs 𝓕 (host_of Γ w.type) (𝓕.hosts w.type o)))
  putting false n w c o l p z v = putting-whole _ n w.type o refl l p z (rw (own-host _ w.type _ o) at v)

  mutual
    unfolding stmt_of elab_stmt kept_stmt

    ready-s : {s : S.Stmt} → Counted 4096 s → (x : X.Stmt) (js : List ℕ) (a : C.Act) → stmt_of σ s ≡ some x → kept_stmt x js ≡ true → elab_stmt Γ Δ x ≡ some a → ReadyAct 31 a
    ready-s (Counted.assign n g e) x js a h p k = bind-some h λ u hu h. bind-some h λ y hy h. bind-some (rw (← some_inj h) at k) λ w hw k. bind-some k λ c hc k.
        rw (← some_inj k) (putting _ _ w c refl n.to (ready-t g u w hu hw) (target-lies Γ Δ xs 𝓕 u.target w hw) (wanted e _ y c hy hc))
    ready-s (Counted.begin n ss) x js a h p k = bind-some h λ y hy h. bind-some (rw (← some_inj h) at k) λ b hb k.
        rw (← some_inj k) (sequence n.to (ready-b ss y js b hy (rw (← some_inj h) at p) hb))
    ready-s (Counted.if_else n e s t) x js a h p k = bind-some h λ y hy h. bind-some h λ u hu h. bind-some h λ v hv h. both_some (rw (← some_inj h) at k) λ c b hc hb k. bind-some k λ f hf k.
        let q = and-true (plain_expr y && kept_stmt u js) (kept_stmt v js) (rw (← some_inj h) at p) in let q' = and-true (plain_expr y) (kept_stmt u js) q.0 in
        rw (← some_inj k) (branch_on n.to (wanted-boolean e y c hy hc) (ready-s s u js b hu q'.1 hb) (ready-s t v js f hv q.1 hf))
    ready-s (Counted.while n e s) x js a h p k = bind-some h λ y hy h. bind-some h λ u hu h. both_some (rw (← some_inj h) at k) λ c b hc hb k.
        let q = and-true (plain_expr y) (kept_stmt u js) (rw (← some_inj h) at p) in
        rw (← some_inj k) (while_loop n.to (wanted-boolean e y c hy hc) (ready-s s u js b hu q.1 hb))
    ready-s (Counted.for n e f s) x js a h p k = bind-some h λ i _ h. bind-some h λ y hy h. bind-some h λ z hz h. bind-some h λ u hu h.
        bind-some (rw (← some_inj h) at k) λ v hv k. both_some k λ c g hc hg k. bind-some k λ b hb k. given-some k λ o k.
        let q = and-true (plain_expr y && plain_expr z && not (looping i js)) (kept_stmt u (i ∷ js)) (rw (← some_inj h) at p) in
        let o' = 𝓕.hosts v.type o in
        rw (← k) (for_loop n.to (for-cell Γ Δ 𝓛 i v hv o) (𝓛.low v.type) (𝓛.high v.type) (wanted-ordinal e _ o' y c hy hc) (wanted-ordinal f _ o' z g hz hg) (ready-s s u (i ∷ js) b hu q.1 hb))
    ready-s (Counted.case n e bs) x js a h p k = bind-some h λ y hy h. bind-some h λ ys hys h. bind-some (rw (← some_inj h) at k) λ c hc k. bind-some k λ cs hcs k. given-some k λ o k.
        let q = and-true (plain_expr y && differ (labels_of ys)) (kept_arms ys js) (rw (← some_inj h) at p) in
        rw (← k) (case_of n.to (one_of (ready-e e y c hy hc) (one-ordinal Γ Δ xs 𝓕 c.kind o)) (ready-a bs ys js _ cs hys q.1 hcs))
    ready-s (Counted.call {w = w} n es) x js a h p k = bind-some h λ i hi h. bind-some h λ ys hys h. bind-some (rw (← some_inj h) at k) λ cs hcs k. bind-some hi λ m hm q.
        rw (← some_inj k) (call_to n.to (ready-arguments es ys i.1 (procs w i.0 i.1 (rw (proc-is m i q) at hm)) cs hys hcs))
    ready-s (Counted.raise n e) x js a h p k = bind-some h λ y hy h. bind-some (rw (← some_inj h) at k) λ c hc k.
        rw (← some_inj k) (raise_with n.to (wanted-ordinal e 0 𝓕.integers.0 y c hy hc))
    ready-s Counted.skip x js a h p k = rw (← some_inj (rw (← some_inj h) at k)) no_act

    ready-b : {ss : S.Stmts} → CountedAll 4096 ss → (ys : X.Stmts) (js : List ℕ) (bs : C.Acts) → stmts_of σ ss ≡ some ys → kept_stmts ys js ≡ true → elab_stmts Γ Δ ys ≡ some bs → ReadyActs 31 bs
    ready-b Counted.done ys js bs h p k = rw (← some_inj (rw (← some_inj h) at k)) stop
    ready-b (Counted.◌next◌ s ss) ys js bs h p k = bind-some h λ y hy h. bind-some h λ zs hzs h. both_some (rw (← some_inj h) at k) λ a cs ha hcs k.
        let q = and-true (kept_stmt y js) (kept_stmts zs js) (rw (← some_inj h) at p) in
        rw (← some_inj k) (ready-s s y js a hy q.0 ha also ready-b ss zs js cs hzs q.1 hcs)

    ready-a : {bs : S.Arms} → CountedArms 4096 bs → (ys : X.Arms) (js : List ℕ) (n : ℕ) (cs : C.Cases) → arms_of σ bs ≡ some ys → kept_arms ys js ≡ true → elab_arms Γ Δ n ys ≡ some cs → ReadyCases 31 cs
    ready-a (Counted.else_arm s) ys js n cs h p k = bind-some h λ y hy h. bind-some (rw (← some_inj h) at k) λ a ha k.
        rw (← some_inj k) (else_case (ready-s s y js a hy (rw (← some_inj h) at p) ha))
    ready-a Counted.no_else ys js n cs h p k = rw (← some_inj (rw (← some_inj h) at k)) no_case
    ready-a (Counted.arm s bs) ys js n cs h p k = bind-some h λ ls hls h. bind-some h λ y hy h. bind-some h λ zs hzs h.
        both_some (rw (← some_inj h) at k) λ ns a hns ha k. bind-some k λ ds hds k.
        let q = and-true (all_plain ls && kept_stmt y js) (kept_arms zs js) (rw (← some_inj h) at p) in let q' = and-true (all_plain ls) (kept_stmt y js) q.0 in
        rw (← some_inj k) (one_case (labels-sized Γ Δ 𝓛 n ls q'.0 ns hns) (ready-s s y js a hy q'.1 ha) (ready-a bs zs js n ds hzs q.1 hds))

  pub body-ready : {b : S.Body} → CountedBody 4096 b → (f : C.Frame) (x : X.Body) (c : C.BodyCode) → body_of σ b ≡ some x → kept_body x ≡ true → elab_body Γ Δ f x ≡ some c → ReadyBody 31 c
  unfolding body_of elab_body kept_body
  body-ready w f x c h p k = bind-some h λ y hy h. bind-some h λ z hz h. both_some (rw (← some_inj h) at k) λ d e hd he k.
      let q = and-true (kept_stmts y []) (kept_stmts z []) (rw (← some_inj h) at p) in
      rw (← some_inj k) (record { acts = ready-b w.stmts y [] d hy q.0 hd; handler = ready-b w.handler z [] e hz q.1 he })
