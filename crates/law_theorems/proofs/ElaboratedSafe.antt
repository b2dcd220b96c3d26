-- Code elaborated with formed tables is safe (CodeSafe).
use mathlib.Core.Path.{◌≡◌, refl, sym, ap, ◌∙◌}
use mathlib.Core.Bool.{Bool, true, false, cond, ◌&&◌, ◌||◌}
use mathlib.Core.List.{List, [], ◌∷◌, map}
use mathlib.Core.Option.{some}
use Prim.Native.Nat.{ℕ, suc}
use native.Mathlib.Omega.{arith}
use lib.IntN.{ℤ}
use lib.Dec.{eqb}
use lib.ListN.{length}
use borrow.Author.Tests.{eqb-true}
use Rattle.law.specs.Base.{given}
use Rattle.law.specs.Code as C
use Rattle.law.specs.Environment.{want_of}
use Rattle.law.specs.Machine.{sole}
use Rattle.law.specs.Operators as O
use Rattle.law.specs.Operators.{Fun, Op, Operation, Operation1, Rule, Rule1, abs, and_both, at_least, at_most, both_booleans, both_integers, card, divide, equal, function_rule, greater, less, member, minus, modulo, negate, not_of, odd, operator_rule, or_both, ord, plus, power, pred, rule, rule1, same_ordinals, same_sets, setmax, setmin, sqr, succ, times, unequal}
use Rattle.law.specs.Elaborate.{Elaborated, Located, copying, elab_arguments, elab_arms, elab_body, elab_expr, elab_members, elab_stmt, elab_stmts, elab_target, elaborated, expects}
use Rattle.law.specs.Script.{Arms, Body, Expr, Exprs, Stmt, Stmts, Target, ◌and◌, ◌next◌, arm, assign, at, begin, binary, call, case, const, done, dot, else_arm, end_of, error_number, for, if_else, members, nil, no_else, raise, read, short_circuit, skip, unary, var, while}
use Rattle.law.specs.Types.{Shape, Types, Var, Vars, variable, array?, array_shape, base_of, cells_by, cells_of, host_by, host_of, size_of, info_at, is_ordinal, is_set, ordinal?, ordinal_shape, record_shape, set_shape, set?}
use Rattle.law_theorems.proofs.ValuesInRange.{wrong, Value-of, inside-wide, set-value, own-host, ord-layout, weaken, good-e, good-t, stored-all, no-ordinal}
use Rattle.law_theorems.specs.ValuesInRange.{Test, Formed, Here}
use Rattle.law_theorems.proofs.StoreInRange.{arguments-g, cell-fits, run-s}
use Rattle.law_theorems.specs.LinesKeep.{Framed, Simple}
use Rattle.law_theorems.specs.ScriptCalls as Calls
use Rattle.law_theorems.specs.ScriptCalls.{Calling, CallingAll, CallingArms, CallingBody}
use Rattle.law_theorems.proofs.ScriptCalls.{calling-also}
use Rattle.law_theorems.proofs.CodeSafe.{Kind, ordinals, sets, integers, booleans, Works, int_add, int_sub, int_mul, int_power, int_div, int_mod, set_union, set_difference, set_intersection, num_equal, num_unequal, num_less, num_at_most, num_greater, num_at_least, set_within, set_holds, member_of, bool_and, bool_or, Works1, int_negate, bool_not, int_abs, int_sqr, int_odd, ordinal_of, pred_in, succ_in, set_card, set_least, set_greatest, Has, ordinal, set, Gives, Reaches, Leaves, Enters, Controls, SafeCode, literal, load, last_number, make_set, calculate, short_cut, calculate1, SafePlace, cell, index, shift, SafeCodes, no_codes, ◌with◌, SafeArguments, no_arguments, ordinal_argument, set_argument, SafeAct, assign_ordinal, assign_set, copy_cells, sequence, branch_on, while_loop, for_loop, case_of, call_to, raise_with, no_act, SafeActs, stop, ◌also◌, SafeCases, else_case, no_case, one_case, SafeBody}
use Rattle.law_theorems.proofs.Inversion.{none-some, and-true, some_inj, both_some, bind-some, given-some, either-some}

-- the shapes of types of one cell
pub data Single : Shape → Type 0 where
  an-ordinal : Single ordinal_shape
  a-set : Single set_shape

single-ordinal : (s : Shape) → is_ordinal s ≡ true → Single s
single-ordinal ordinal_shape h = an-ordinal
single-ordinal set_shape h = wrong h
single-ordinal array_shape h = wrong h
single-ordinal record_shape h = wrong h

single-set : (s : Shape) → is_set s ≡ true → Single s
single-set ordinal_shape h = wrong h
single-set set_shape h = a-set
single-set array_shape h = wrong h
single-set record_shape h = wrong h

pub single-cells : (s : Shape) → Single s → (t : ℕ) (cs : List ℕ) → cells_by s t cs ≡ t ∷ []
single-cells ordinal_shape an-ordinal t cs = refl
single-cells set_shape a-set t cs = refl
single-cells array_shape x' t cs = elim x' [ ]
single-cells record_shape x'' t cs = elim x'' [ ]

pub no-single : {P : Type 0} (s : Shape) → is_ordinal s ≡ false → is_set s ≡ false → Single s → P
no-single ordinal_shape o t an-ordinal = wrong (sym o)
no-single set_shape o t a-set = wrong (sym t)
no-single {P = P} array_shape o t x3 = elim x3 [ ]
no-single {P = P} record_shape o t x4 = elim x4 [ ]

abbrev kind_by : Shape → ℤ → ℤ → Kind
kind_by ordinal_shape lo hi = ordinals lo hi
kind_by set_shape lo hi = sets lo hi
kind_by array_shape lo hi = sets lo hi
kind_by record_shape lo hi = sets lo hi

abbrev kind_of : Types → ℕ → Kind
kind_of Γ k = kind_by (info_at Γ k).shape (info_at Γ k).low (info_at Γ k).high

kind-ordinal : (s : Shape) (lo hi : ℤ) → is_ordinal s ≡ true → kind_by s lo hi ≡ ordinals lo hi
kind-ordinal ordinal_shape lo hi h = refl
kind-ordinal set_shape lo hi h = wrong h
kind-ordinal array_shape lo hi h = wrong h
kind-ordinal record_shape lo hi h = wrong h

kind-set : (s : Shape) (lo hi : ℤ) → is_ordinal s ≡ false → kind_by s lo hi ≡ sets lo hi
kind-set ordinal_shape lo hi h = wrong (sym h)
kind-set set_shape lo hi h = refl
kind-set array_shape lo hi h = refl
kind-set record_shape lo hi h = refl

one-cell : (zs : List ℤ) → length zs ≡ 1 → zs ≡ sole zs ∷ []
one-cell [] l = absurd (omega arith)
one-cell (z ∷ []) l = refl
one-cell (z ∷ (y ∷ zs)) l = absurd (omega arith)

module _ (Γ : Types) (Δ : Vars) (xs : List Test) (𝓕 : Formed Γ Δ xs) where
  abbrev kind : ℕ → Kind
  kind k = kind_of Γ k

  abbrev Valued : ℕ → List ℤ → Type 0
  Valued = Value-of Γ Δ xs 𝓕

  has_value : (k : ℕ) (s : Shape) → Single s → (info_at Γ k).shape ≡ s → (zs : List ℤ) → Valued k zs → Has (kind k) zs
  has_value k ordinal_shape an-ordinal e zs v =
      let i = v.ranged (rw e) in let w = 𝓕.small k (rw e) in
      rw (e, one-cell zs (rw e at v.long)) (ordinal i (record { ok = inside-wide Γ Δ xs 𝓕 _ _ _ _ (sole zs) w.0 w.1 i }))
  has_value k set_shape a-set e zs v = let i = set-value Γ Δ xs 𝓕 (rw e) v in rw (e, one-cell zs (rw e at v.long)) (set i)
  has_value k array_shape x3 e zs v = elim x3 [ ]
  has_value k record_shape x4 e zs v = elim x4 [ ]

  -- ---- operands and results are of one cell

  abbrev pub One : ℕ → Type 0
  One k = Single (info_at Γ k).shape

  pub one-ordinal : (k : ℕ) → ordinal? Γ k ≡ true → One k
  one-ordinal k h = single-ordinal (info_at Γ k).shape h

  pub one_set : (k : ℕ) → set? Γ k ≡ true → One k
  one_set k h = single-set (info_at Γ k).shape h

  pub one-integer : One 0
  one-integer = one-ordinal 0 𝓕.integers.0

  pub one-boolean : One 1
  one-boolean = one-ordinal 1 𝓕.booleans.0

  one-base : (k : ℕ) → set? Γ k ≡ true → One (base_of Γ k)
  one-base k h = one-ordinal (base_of Γ k) (𝓕.hosts (info_at Γ k).element (𝓕.bases k h))

  one-is : (k l : ℕ) → One k → eqb k l ≡ true → One l
  one-is k l o h = rw (← eqb-true k l h) o

  -- both operands of kind k
  one-pair : (k l r : ℕ) → One k → (eqb k l && eqb k r) ≡ true → One l × One r
  one-pair k l r o h = let p = and-true (eqb k l) (eqb k r) h in (one-is k l o p.0, one-is k r o p.1)

  one_same : (l r : ℕ) (t : Bool) → (t ≡ true → One l) → (eqb l r && t) ≡ true → One l × One r
  one_same l r t k h = let p = and-true (eqb l r) t h in (k p.1, one-is l r (k p.1) p.0)

  one-member : (l r : ℕ) → (set? Γ r && eqb l (base_of Γ r)) ≡ true → One l × One r
  one-member l r h = let p = and-true (set? Γ r) (eqb l (base_of Γ r)) h in (rw (eqb-true l (base_of Γ r) p.1) (one-base r p.0), one_set r p.0)

  of-ordinal : (k : ℕ) → ordinal? Γ k ≡ true → kind k ≡ ordinals (info_at Γ k).low (info_at Γ k).high
  of-ordinal k h = kind-ordinal (info_at Γ k).shape _ _ h

  of-set : (k : ℕ) → set? Γ k ≡ true → kind k ≡ sets (info_at Γ k).low (info_at Γ k).high
  of-set k h = kind-set (info_at Γ k).shape _ _ (no-ordinal (info_at Γ k).shape h)

  of-integer : kind 0 ≡ integers
  of-integer = of-ordinal 0 𝓕.integers.0 ∙ rw (𝓕.integers.1, 𝓕.integers.2)

  of-boolean : kind 1 ≡ booleans
  of-boolean = of-ordinal 1 𝓕.booleans.0 ∙ rw (𝓕.booleans.1, 𝓕.booleans.2)

  -- the operands and the result of an operation: of one cell, and of kinds that it works on
  pub record Operands (c : Operation) (l r k : ℕ) : Type 0 where
    pub left : One l
    pub right : One r
    pub result : One k
    works : Works c (kind l) (kind r) (kind k)

  -- an entry of the table, by its test and its result
  entry : (l r k : ℕ) (c : Operation) {t : Bool} {q : Rule} → given t (rule c k) ≡ some q → (t ≡ true → Operands c l r k) → Operands q.operation l r q.kind
  entry l r k c h f = given-some h λ t e. rw (← e) (f t)

  module _ (l r : ℕ) where
    on_integers : (c : Operation) {q : Rule} → Works c integers integers integers → given (both_integers l r) (rule c 0) ≡ some q → Operands q.operation l r q.kind
    on_integers c w h = entry l r 0 c h λ t.
        let o = one-pair 0 l r one-integer t in let p = and-true (eqb 0 l) (eqb 0 r) t in
        record { left = o.0; right = o.1; result = one-integer; works = rw (← eqb-true 0 l p.0, ← eqb-true 0 r p.1, of-integer) w }

    on-booleans : (c : Operation) {q : Rule} → Works c booleans booleans booleans → given (both_booleans l r) (rule c 1) ≡ some q → Operands q.operation l r q.kind
    on-booleans c w h = entry l r 1 c h λ t.
        let o = one-pair 1 l r one-boolean t in let p = and-true (eqb 1 l) (eqb 1 r) t in
        record { left = o.0; right = o.1; result = one-boolean; works = rw (← eqb-true 1 l p.0, ← eqb-true 1 r p.1, of-boolean) w }

    on-ordinals : (c : Operation) {q : Rule} → ((lo hi : ℤ) → Works c (ordinals lo hi) (ordinals lo hi) booleans) → given (same_ordinals Γ l r) (rule c 1) ≡ some q → Operands q.operation l r q.kind
    on-ordinals c w h = entry l r 1 c h λ t.
        let o = one_same l r _ (one-ordinal l) t in let p = and-true (eqb l r) (ordinal? Γ l) t in
        record { left = o.0; right = o.1; result = one-boolean; works = rw (← eqb-true l r p.0, of-ordinal l p.1, of-boolean) (w _ _) }

    -- sets to a set; sets to a truth value
    on-sets : (c : Operation) {q : Rule} → ((lo hi : ℤ) → Works c (sets lo hi) (sets lo hi) (sets lo hi)) → given (same_sets Γ l r) (rule c l) ≡ some q → Operands q.operation l r q.kind
    on-sets c w h = entry l r l c h λ t.
        let o = one_same l r _ (one_set l) t in let p = and-true (eqb l r) (set? Γ l) t in
        record { left = o.0; right = o.1; result = o.0; works = rw (← eqb-true l r p.0, of-set l p.1) (w _ _) }

    by-sets : (c : Operation) {q : Rule} → ((lo hi : ℤ) → Works c (sets lo hi) (sets lo hi) booleans) → given (same_sets Γ l r) (rule c 1) ≡ some q → Operands q.operation l r q.kind
    by-sets c w h = entry l r 1 c h λ t.
        let o = one_same l r _ (one_set l) t in let p = and-true (eqb l r) (set? Γ l) t in
        record { left = o.0; right = o.1; result = one-boolean; works = rw (← eqb-true l r p.0, of-set l p.1, of-boolean) (w _ _) }

    on-member : {q : Rule} → given (set? Γ r && eqb l (base_of Γ r)) (rule O.member_of 1) ≡ some q → Operands q.operation l r q.kind
    on-member h = entry l r 1 O.member_of h λ t.
        let o = one-member l r t in let p = and-true (set? Γ r) (eqb l (base_of Γ r)) t in
        let b : ordinal? Γ (base_of Γ r) ≡ true = 𝓕.hosts (info_at Γ r).element (𝓕.bases r p.0) in
        record { left = o.0; right = o.1; result = one-boolean; works = rw (eqb-true l (base_of Γ r) p.1, of-ordinal (base_of Γ r) b, of-set r p.0, of-boolean) member_of }

    pub operands : (op : Op) {q : Rule} → operator_rule Γ op l r ≡ some q → Operands q.operation l r q.kind
    unfolding operator_rule
    operands plus h = either-some h (on_integers _ int_add) (on-sets _ (λ _ _. set_union))
    operands minus h = either-some h (on_integers _ int_sub) (on-sets _ (λ _ _. set_difference))
    operands times h = either-some h (on_integers _ int_mul) (on-sets _ (λ _ _. set_intersection))
    operands power h = on_integers _ int_power h
    operands divide h = on_integers _ int_div h
    operands modulo h = on_integers _ int_mod h
    operands equal h = either-some h (on-ordinals _ (λ _ _. num_equal)) (by-sets _ (λ _ _. num_equal))
    operands unequal h = either-some h (on-ordinals _ (λ _ _. num_unequal)) (by-sets _ (λ _ _. num_unequal))
    operands less h = on-ordinals _ (λ _ _. num_less) h
    operands at_most h = either-some h (on-ordinals _ (λ _ _. num_at_most)) (by-sets _ (λ _ _. set_within))
    operands greater h = on-ordinals _ (λ _ _. num_greater) h
    operands at_least h = either-some h (on-ordinals _ (λ _ _. num_at_least)) (by-sets _ (λ _ _. set_holds))
    operands member h = on-member h
    operands and_both h = on-booleans _ bool_and h
    operands or_both h = on-booleans _ bool_or h

  pub record Argument (c : Operation1) (k l : ℕ) : Type 0 where
    pub only : One k
    pub result : One l
    works : Works1 c (kind k) (kind l)

  entry1 : (k l : ℕ) (c : Operation1) {t : Bool} {q : Rule1} → given t (rule1 c l) ≡ some q → (t ≡ true → Argument c k l) → Argument q.operation k q.kind
  entry1 k l c h f = given-some h λ t e. rw (← e) (f t)

  of-integers : (k : ℕ) (c : Operation1) {q : Rule1} → Works1 c integers integers → given (eqb k 0) (rule1 c 0) ≡ some q → Argument q.operation k q.kind
  of-integers k c w h = entry1 k 0 c h λ t. rw (eqb-true k 0 t) (record { only = one-integer; result = one-integer; works = rw of-integer w })

  pub argument : (f : Fun) (k : ℕ) {q : Rule1} → function_rule Γ f k ≡ some q → Argument q.operation k q.kind
  unfolding function_rule
  argument negate k h = of-integers k _ int_negate h
  argument not_of k h = entry1 k 1 _ h λ t. rw (eqb-true k 1 t) (record { only = one-boolean; result = one-boolean; works = rw of-boolean bool_not })
  argument abs k h = of-integers k _ int_abs h
  argument sqr k h = of-integers k _ int_sqr h
  argument odd k h = entry1 k 1 _ h λ t. rw (eqb-true k 0 t) (record { only = one-integer; result = one-boolean; works = rw (of-integer, of-boolean) int_odd })
  argument ord k h = entry1 k 0 _ h λ t. record { only = one-ordinal k t; result = one-integer; works = rw (of-ordinal k t, of-integer) ordinal_of }
  argument pred k h = entry1 k k _ h λ t. record { only = one-ordinal k t; result = one-ordinal k t; works = rw (of-ordinal k t) pred_in }
  argument succ k h = entry1 k k _ h λ t. record { only = one-ordinal k t; result = one-ordinal k t; works = rw (of-ordinal k t) succ_in }
  argument card k h = entry1 k 0 _ h λ t. record { only = one_set k t; result = one-integer; works = rw (of-set k t, of-integer) set_card }
  argument setmin k h = entry1 k (base_of Γ k) _ h λ t. record { only = one_set k t; result = one-base k t; works = rw (of-set k t, of-ordinal (base_of Γ k) (𝓕.hosts _ (𝓕.bases k t))) set_least }
  argument setmax k h = entry1 k (base_of Γ k) _ h λ t. record { only = one_set k t; result = one-base k t; works = rw (of-set k t, of-ordinal (base_of Γ k) (𝓕.hosts _ (𝓕.bases k t))) set_greatest }

  -- what a target of one cell's kind holds is one cell
  size-one : (t : ℕ) → One (host_of Γ t) → size_of Γ t ≡ 1
  size-one t o = go (info_at Γ t).shape refl o
    where
      go : (s : Shape) → (info_at Γ t).shape ≡ s → Single (info_at Γ (host_by s t (info_at Γ t).host)).shape → length (cells_by s t (info_at Γ t).cells) ≡ 1
      go ordinal_shape e o = refl
      go set_shape e o = refl
      go array_shape e o = ap (λ (i : Shape). length (cells_by i t (info_at Γ t).cells)) (sym e) ∙ ap length (single-cells _ o t (info_at Γ t).cells)
      go record_shape e o = ap (λ (i : Shape). length (cells_by i t (info_at Γ t).cells)) (sym e) ∙ ap length (single-cells _ o t (info_at Γ t).cells)

  -- ---- expressions and targets

  gives-e : (e : Expr) (r : Elaborated) → elab_expr Γ Δ e ≡ some r → One r.kind → Gives xs r.code (kind r.kind)
  gives-e e r h o = record { at = λ m s. weaken (λ zs v. has_value r.kind _ o refl zs v) (good-e Γ Δ xs 𝓕 e r h s) }

  reaches-t : (g : Target) (w : Located) → elab_target Γ Δ g ≡ some w → Reaches xs w.place (size_of Γ w.type)
  reaches-t g w h = record { at = λ m s. weaken (λ a i. omega (arith, s.enough, i.short)) (good-t Γ Δ xs 𝓕 g w h s) }

  load_one : {p : C.Place} {k : Kind} (n : ℕ) → n ≡ 1 → SafePlace xs p n → Gives xs (C.load p n) k → SafeCode xs (C.load p n) k
  load_one n e p g = rw e (load (rw e at p) (rw e at g))

  as-literal : {z : ℤ} (k : ℕ) → ordinal? Γ k ≡ true → Gives xs (C.literal z) (kind k) → SafeCode xs (C.literal z) (kind k)
  as-literal k o g = rw (of-ordinal k o) (literal (rw (of-ordinal k o) at g))

  as-ordinal : {c : C.Code} (k : ℕ) → ordinal? Γ k ≡ true → SafeCode xs c (kind k) → SafeCode xs c (ordinals (info_at Γ k).low (info_at Γ k).high)
  as-ordinal k o h = rw (of-ordinal k o) at h

  as-boolean : {c : C.Code} (k : ℕ) → eqb 1 k ≡ true → (One k → SafeCode xs c (kind k)) → SafeCode xs c booleans
  as-boolean k e h = let f = rw (← eqb-true 1 k e) at h in rw of-boolean at (f one-boolean)

  mutual
    unfolding elab_expr

    safe-e : (e : Expr) (r : Elaborated) → elab_expr Γ Δ e ≡ some r → One r.kind → SafeCode xs r.code (kind r.kind)
    safe-e (const c) r h o = given-some h λ p v.
        rw (← v) (as-literal c.kind (and-true (ordinal? Γ c.kind) _ p).0 (gives-e (const c) _ (h ∙ ap some (sym v)) (rw (← v) at o)))
    safe-e (read g) r h o = bind-some h λ w hw e.
        rw (← some_inj e) (load_one (size_of Γ w.type) (size-one w.type (rw (← some_inj e) at o)) (safe-t g w hw) (gives-e (read g) _ (h ∙ sym e) (rw (← some_inj e) at o)))
    safe-e error_number r h o = rw (← some_inj h, of-integer) (last_number (rw of-integer at (gives-e error_number _ refl (rw (← some_inj h) at o))))
    safe-e (members t es) r h o = bind-some h λ cs hcs e. given-some e λ p v.
        rw (← v, of-set t p) (make_set (safe-m es (base_of Γ t) (𝓕.hosts (info_at Γ t).element (𝓕.bases t p)) cs hcs) (rw (of-set t p) at (gives-e (members t es) _ (h ∙ ap some (sym v)) (rw (← v) at o))))
    safe-e (end_of q t) r h o = given-some h λ p v. rw (← v) (as-literal (host_of Γ t) (𝓕.hosts t p) (gives-e (end_of q t) _ (h ∙ ap some (sym v)) (rw (← v) at o)))
    safe-e (binary op a b) r h o = both_some h λ x y hx hy e. bind-some e λ q hq e'.
        let p = operands x.kind y.kind op hq in
        rw (← some_inj e') (calculate p.works (safe-e a x hx p.left) (safe-e b y hy p.right) (gives-e (binary op a b) _ (h ∙ sym e') (rw (← some_inj e') at o)))
    safe-e (short_circuit q a b) r h o = both_some h λ x y hx hy e. given-some e λ p v.
        let p' = and-true (eqb 1 x.kind) (eqb 1 y.kind) p in
        rw (← v, of-boolean) (short_cut (as-boolean x.kind p'.0 (safe-e a x hx)) (as-boolean y.kind p'.1 (safe-e b y hy)) (rw of-boolean at (gives-e (short_circuit q a b) _ (h ∙ ap some (sym v)) (rw (← v) at o))))
    safe-e (unary f a) r h o = bind-some h λ x hx e. bind-some e λ q hq e'.
        let p = argument f x.kind hq in
        rw (← some_inj e') (calculate1 p.works (safe-e a x hx p.only) (gives-e (unary f a) _ (h ∙ sym e') (rw (← some_inj e') at o)))

    safe-t : (g : Target) (w : Located) → elab_target Γ Δ g ≡ some w → SafePlace xs w.place (size_of Γ w.type)
    safe-t (var i) w h = bind-some h λ v hv e. rw (← some_inj e) (cell (reaches-t (var i) _ (h ∙ sym e)))
    safe-t (at g e) w h = both_some h λ u x hu hx e'. given-some e' λ p v.
        let p' = and-true (array? Γ u.type) _ p in
        let o : ordinal? Γ x.kind ≡ true = rw (← eqb-true _ x.kind p'.1) (𝓕.hosts _ (𝓕.indexes u.type p'.0)) in
        rw (← v) (index (safe-t g u hu) (as-ordinal x.kind o (safe-e e x hx (one-ordinal x.kind o))) (reaches-t (at g e) _ (h ∙ ap some (sym v))))
    safe-t (dot g n) w h = bind-some h λ u hu e. bind-some e λ f hf e'.
        rw (← some_inj e') (shift (safe-t g u hu) (reaches-t (dot g n) _ (h ∙ sym e')))

    safe-m : (es : Exprs) (k : ℕ) → ordinal? Γ k ≡ true → (cs : C.Codes) → elab_members Γ Δ k es ≡ some cs → SafeCodes xs cs
    safe-m nil k o cs h = rw (← some_inj h) no_codes
    safe-m (e and es) k o cs h = both_some h λ x cs' hx hcs e'. given-some e' λ p v.
        let o' : ordinal? Γ x.kind ≡ true = rw (← eqb-true k x.kind p) o in
        rw (← v) (as-ordinal x.kind o' (safe-e e x hx (one-ordinal x.kind o')) with safe-m es k o cs' hcs)

  -- ---- statements

  -- an expression of kind k: of one cell, or the cells of a target
  data Either : C.Code → ℕ → Type 0 where
    single : {c : C.Code} {k : ℕ} → One k → SafeCode xs c (kind k) → Either c k
    copied : {q : C.Place} {k : ℕ} → SafePlace xs q (size_of Γ k) → Either (C.load q (size_of Γ k)) k

  one : (e : Expr) (r : Elaborated) → elab_expr Γ Δ e ≡ some r → One r.kind → Either r.code r.kind
  one e r h o = single o (safe-e e r h o)

  either-t : (b : Bool) (g : Target) (w : Located) → elab_target Γ Δ g ≡ some w → (r : Elaborated) → elab_expr Γ Δ (read g) ≡ some r → r ≡ elaborated (host_of Γ w.type) (C.load w.place (size_of Γ w.type))
      → ordinal? Γ w.type ≡ b → Either r.code r.kind
  either-t true g w h r k v e = one (read g) r k (rw v (one-ordinal _ (𝓕.hosts w.type e)))
  either-t false g w h r k v e = rw (v, own-host _ w.type _ e) (copied (safe-t g w h))

  either-e : (e : Expr) (r : Elaborated) → elab_expr Γ Δ e ≡ some r → Either r.code r.kind
  unfolding elab_expr
  either-e (const c) r h = given-some h λ p v. one (const c) r h (rw (← v) (one-ordinal c.kind (and-true (ordinal? Γ c.kind) _ p).0))
  either-e (read g) r h = bind-some h λ w hw e. either-t _ g w hw r h (sym (some_inj e)) refl
  either-e error_number r h = one error_number r h (rw (← some_inj h) one-integer)
  either-e (members t es) r h = bind-some h λ cs hcs e. given-some e λ p v. one (members t es) r h (rw (← v) (one_set t p))
  either-e (end_of q t) r h = given-some h λ p v. one (end_of q t) r h (rw (← v) (one-ordinal _ (𝓕.hosts t p)))
  either-e (binary op a b) r h = both_some h λ x y hx hy e. bind-some e λ q hq e'. one (binary op a b) r h (rw (← some_inj e') (operands x.kind y.kind op hq).result)
  either-e (short_circuit q a b) r h = both_some h λ x y hx hy e. given-some e λ p v. one (short_circuit q a b) r h (rw (← v) one-boolean)
  either-e (unary f a) r h = bind-some h λ x hx e. bind-some e λ q hq e'. one (unary f a) r h (rw (← some_inj e') (argument f x.kind hq).result)

  ordinal-e : (e : Expr) (k : ℕ) (c : C.Code) → expects Γ Δ k e ≡ some c → ordinal? Γ k ≡ true → SafeCode xs c (ordinals (info_at Γ k).low (info_at Γ k).high)
  unfolding expects
  ordinal-e e k c h o = bind-some h λ x hx e'. given-some e' λ p v.
      let o' : ordinal? Γ x.kind ≡ true = rw (← eqb-true k x.kind p) o in
      rw (← v, eqb-true k x.kind p) (as-ordinal x.kind o' (safe-e e x hx (one-ordinal x.kind o')))

  integer-e : (e : Expr) (c : C.Code) → expects Γ Δ 0 e ≡ some c → SafeCode xs c integers
  integer-e e c h = rw (𝓕.integers.1, 𝓕.integers.2) at (ordinal-e e 0 c h 𝓕.integers.0)

  boolean-e : (e : Expr) (c : C.Code) → expects Γ Δ 1 e ≡ some c → SafeCode xs c booleans
  boolean-e e c h = rw (𝓕.booleans.1, 𝓕.booleans.2) at (ordinal-e e 1 c h 𝓕.booleans.0)

  expected-e : (e : Expr) (k : ℕ) (c : C.Code) → expects Γ Δ k e ≡ some c → Either c k
  unfolding expects
  expected-e e k c h = bind-some h λ x hx e'. given-some e' λ p v. rw (← v, eqb-true k x.kind p) (either-e e x hx)

  controls : (i : ℕ) (v : Var) → variable Δ i ≡ some v → ordinal? Γ v.type ≡ true → Controls xs v.base (info_at Γ v.type).low (info_at Γ v.type).high
  controls i v h o =
      let f = 𝓕.vars i v h in
      let g : Here Γ xs v.base (v.type ∷ []) = rw (ord-layout _ v.type _ o) at f in
      record {
        short = omega (arith, g.short);
        at = λ m s z p. stored-all Γ Δ xs 𝓕 (cells_of Γ v.type) (z ∷ []) v.base f (cell-fits Γ Δ xs 𝓕 v.type v.base o f z p) s;
      }

  -- a set
  set-e : (e : Expr) (k : ℕ) (c : C.Code) → expects Γ Δ k e ≡ some c → set? Γ k ≡ true → SafeCode xs c (sets (info_at Γ k).low (info_at Γ k).high)
  unfolding expects
  set-e e k c h o = bind-some h λ x hx e'. given-some e' λ p v.
      let o' : set? Γ x.kind ≡ true = rw (← eqb-true k x.kind p) o in
      rw (← v, eqb-true k x.kind p) (rw (of-set x.kind o') at (safe-e e x hx (one_set x.kind o')))

  -- ---- arguments

  argument-safe : (b : Bool) (t : ℕ) → ordinal? Γ t ≡ b → (b || set? Γ t) ≡ true → (e : Expr) (c : C.Code) → expects Γ Δ (host_of Γ t) e ≡ some c
      → {ws : List C.Want} {cs : C.Codes} → SafeArguments xs ws cs → SafeArguments xs (cond b (C.ranged (info_at Γ t).low (info_at Γ t).high) C.any_set ∷ ws) (C.◌with◌ c cs)
  argument-safe true t o k e c h a = ordinal_argument (ordinal-e e _ c h (𝓕.hosts t o)) a
  argument-safe false t o k e c h a = set_argument (set-e e t c (rw (own-host _ t _ o) at h) k) a

  arguments-safe : (ts : List ℕ) → Simple Γ ts → (es : Exprs) (cs : C.Codes) → elab_arguments Γ Δ ts es ≡ some cs → SafeArguments xs (map (want_of Γ) ts) cs
  unfolding elab_arguments
  arguments-safe [] k nil cs h = rw (← some_inj h) no_arguments
  arguments-safe [] k (e and es) cs h = none-some h
  arguments-safe (t ∷ ts) k nil cs h = none-some h
  arguments-safe (t ∷ ts) k (e and es) cs h = both_some h λ c ds hc hds v.
      rw (← some_inj v) (argument-safe (ordinal? Γ t) t refl (k 0 (omega arith)) e c hc (arguments-safe ts (λ j l. k (suc j) (omega arith)) es ds hds))

  enters : (ts : List ℕ) (q : C.Frame) → Framed Γ xs ts q → (es : Exprs) (cs : C.Codes) → elab_arguments Γ Δ ts es ≡ some cs → Enters xs q cs
  enters ts q F es cs h = record { at = λ m s. rw F.wants (weaken (λ zs g. stored-all Γ Δ xs 𝓕 ts zs q.base F.here g s) (arguments-g Γ Δ xs 𝓕 ts F.simple es cs h m s)) }

  -- ---- statements, that call procedures with the frames qs

  module _ (qs : ℕ → C.Frame) where
    abbrev Suits : ℕ → List ℕ → Type 0
    Suits p ts = Framed Γ xs ts (qs p)

    -- to a target that is no ordinal
    putting-whole : (b : Bool) {c : C.Code} (n k : ℕ) (p : C.Place) → ordinal? Γ k ≡ false → set? Γ k ≡ b → (b ≡ true → SafeCode xs c (sets (info_at Γ k).low (info_at Γ k).high)) → Either c k
        → SafePlace xs p (size_of Γ k) → Leaves xs qs (cond b (C.assign_cell n p c) (copying n p c)) → SafeAct xs qs (cond b (C.assign_cell n p c) (copying n p c))
    unfolding copying
    putting-whole true n k p o t s e g l = assign_set (rw (single-cells _ (one_set k t) k _) at g) (s refl) l
    putting-whole false n k p o t s (single u v) g l = no-single _ o t u
    putting-whole false n k p o t s (copied q) g l = copy_cells g q l

    putting : (b : Bool) (n : ℕ) (g : Target) (w : Located) → elab_target Γ Δ g ≡ some w → ordinal? Γ w.type ≡ b → (e : Expr) (c : C.Code) → expects Γ Δ (host_of Γ w.type) e ≡ some c
        → Leaves xs qs (cond b (C.assign_ordinal n w.place (info_at Γ w.type).low (info_at Γ w.type).high c) (cond (set? Γ w.type) (C.assign_cell n w.place c) (copying n w.place c)))
        → SafeAct xs qs (cond b (C.assign_ordinal n w.place (info_at Γ w.type).low (info_at Γ w.type).high c) (cond (set? Γ w.type) (C.assign_cell n w.place c) (copying n w.place c)))
    putting true n g w hw o e c hc l = assign_ordinal (rw (ord-layout _ w.type _ o) at (safe-t g w hw)) (ordinal-e e _ c hc (𝓕.hosts w.type o)) l
    putting false n g w hw o e c hc l = let h = rw (own-host _ w.type _ o) at hc in
        putting-whole _ n w.type w.place o refl (λ t. set-e e w.type c h t) (expected-e e w.type c h) (safe-t g w hw) l

    leaves-s : (s : Stmt) (c : C.Act) → elab_stmt Γ Δ s ≡ some c → Calling Suits s → Leaves xs qs c
    leaves-s s c h k = record { at = λ ps hp. run-s Γ Δ xs 𝓕 ps hp.runs s c h (calling-also (λ p ts f. rw (hp.frames p) f) k) }

    mutual
      unfolding elab_stmt

      safe-s : (s : Stmt) (c : C.Act) → elab_stmt Γ Δ s ≡ some c → Calling Suits s → SafeAct xs qs c
      safe-s (assign n g e) c h j = bind-some h λ w hw h'. bind-some h' λ d hd e'. rw (← some_inj e') (putting _ n g w hw refl e d hd (leaves-s (assign n g e) _ (h ∙ sym e') j))
      safe-s (begin n ss) c h (Calls.begin j) = bind-some h λ bs hbs e. rw (← some_inj e) (sequence (safe-b ss bs hbs j) (leaves-s (begin n ss) _ (h ∙ sym e) (Calls.begin j)))
      safe-s (if_else n e a b) c h (Calls.if_else i j) = both_some h λ d x hd hx h'. bind-some h' λ y hy e'.
          rw (← some_inj e') (branch_on (boolean-e e d hd) (safe-s a x hx i) (safe-s b y hy j) (leaves-s (if_else n e a b) _ (h ∙ sym e') (Calls.if_else i j)))
      safe-s (while n e a) c h (Calls.while j) = both_some h λ d x hd hx e'. rw (← some_inj e') (while_loop (boolean-e e d hd) (safe-s a x hx j) (leaves-s (while n e a) _ (h ∙ sym e') (Calls.while j)))
      safe-s (for n i a b s) c h (Calls.for j) = bind-some h λ q hq g. both_some g λ x y hx hy h'. bind-some h' λ z hz e'. given-some e' λ p v.
          let o = 𝓕.hosts q.type p in
          rw (← v) (for_loop (controls i q hq p) (ordinal-e a _ x hx o) (ordinal-e b _ y hy o) (safe-s s z hz j) (leaves-s (for n i a b s) _ (h ∙ ap some (sym v)) (Calls.for j)))
      safe-s (case n e bs) c h (Calls.case j) = bind-some h λ x hx h'. bind-some h' λ cs hcs e'. given-some e' λ p v.
          rw (← v) (case_of (as-ordinal x.kind p (safe-e e x hx (one-ordinal x.kind p))) (safe-a bs x.kind cs hcs j) (leaves-s (case n e bs) _ (h ∙ ap some (sym v)) (Calls.case j)))
      safe-s (call n p ts es) c h (Calls.call j) = bind-some h λ cs hcs e.
          rw (← some_inj e) (call_to {p = p} {cs = cs} (rw j.wants (arguments-safe ts j.simple es cs hcs)) (enters ts (qs p) j es cs hcs) (leaves-s (call n p ts es) _ (h ∙ sym e) (Calls.call j)))
      safe-s (raise n e) c h j = bind-some h λ d hd e'. rw (← some_inj e') (raise_with (integer-e e d hd) (leaves-s (raise n e) _ (h ∙ sym e') j))
      safe-s skip c h j = rw (← some_inj h) (no_act (leaves-s skip _ refl j))

      safe-b : (ss : Stmts) (c : C.Acts) → elab_stmts Γ Δ ss ≡ some c → CallingAll Suits ss → SafeActs xs qs c
      safe-b done c h j = rw (← some_inj h) stop
      safe-b (a next bs) c h (Calls.◌next◌ i j) = both_some h λ x y hx hy e. rw (← some_inj e) (safe-s a x hx i also safe-b bs y hy j)

      safe-a : (bs : Arms) (k : ℕ) (c : C.Cases) → elab_arms Γ Δ k bs ≡ some c → CallingArms Suits bs → SafeCases xs qs c
      safe-a (else_arm a) k c h (Calls.else_arm j) = bind-some h λ x hx e. rw (← some_inj e) (else_case (safe-s a x hx j))
      safe-a no_else k c h j = rw (← some_inj h) no_case
      safe-a (arm ls a bs) k c h (Calls.arm i j) = both_some h λ zs x hzs hx h'. bind-some h' λ y hy e. rw (← some_inj e) (one_case (safe-s a x hx i) (safe-a bs k y hy j))

    pub body-safe : (f : C.Frame) (b : Body) (c : C.BodyCode) → elab_body Γ Δ f b ≡ some c → CallingBody Suits b → SafeBody xs qs c
    unfolding elab_body
    body-safe f b c h j = both_some h λ x y hx hy e. rw (← some_inj e) (record { acts = safe-b b.stmts x hx j.stmts; handler = safe-b b.handler y hy j.handler })
