-- Code whose numbers are small: literals, labels and bounds are integers, bounds of members are 0 to 31, cells are a store's, and statements
-- are 1 to 4,096. So a node of code can be laid down in numbers of 32 bits.
use mathlib.Core.Path.{◌≡◌, refl, ap, ◌∙◌}
use mathlib.Core.Bool.{Bool, true, false, cond, ◌&&◌, not}
use mathlib.Core.List.{List, [], ◌∷◌, map}
use mathlib.Core.Option.{some}
use Prim.Native.Nat.{ℕ, ◌+◌, ◌≤◌, ◌<◌}
use native.Mathlib.Omega.{arith}
use lib.IntN.{ℤ, pos}
use lib.ListN.{length, length-map}
use lib.Signed.{le_z}
use Rattle.leaf_integers.specs.Integers.{inside, least, most}
use Rattle.leaf_integers.proofs.Order.{le_z-trans}
use Rattle.leaf_integers.proofs.Ranges.{inside_both, inside_is}
use Rattle.law.specs.Base.{Name, pick}
use Rattle.law.specs.Code as C
use Rattle.law.specs.Machine.{lent_cells, store_cells}
use Rattle.law.specs.Elaborate.{Elaborated, Located, copying, elab_arguments, elab_arms, elab_body, elab_expr, elab_labels, elab_members, elab_stmt, elab_stmts, elab_target, expects}
use Rattle.law.specs.Environment.{Environment, frame_of, parameter_types, want_of}
use Rattle.law.specs.Operators.{Fun, Rule1, abs, card, function_rule, negate, not_of, odd, ord, pred, setmax, setmin, sqr, succ}
use Rattle.law.specs.Rules.{all_plain, differ, kept_arms, kept_body, kept_stmt, kept_stmts, labels_of, looping, plain, plain_expr}
use Rattle.law.specs.Script as X
use Rattle.law.specs.Types.{Field, Types, Var, Vars, field_of, info_at, ordinal?, set?, size_of, variable}
use Rattle.law_theorems.proofs.Inversion.{none-some, and-true, some_inj, both_some, bind-some, given-some}
use Rattle.law_theorems.proofs.ValuesInRange.{ends-in, ord-layout}
use Rattle.law_theorems.proofs.Copying.{wholly-by}
use Rattle.law_theorems.specs.ValuesInRange.{InInt, Test, Formed}
use Rattle.law_theorems.proofs.TypeSizes.{small_size}
use Rattle.law_theorems.specs.TypeSizes.{SmallTypes}
use Rattle.law_theorems.specs.StatementNumbers.{Number}
use Rattle.law_theorems.proofs.ScriptNumbers as Within
use Rattle.law_theorems.proofs.ScriptNumbers.{Within, WithinAll, WithinArms, WithinBody}
use Rattle.law_theorems.specs.CodeSized.{any_set, InSet, SizedAct, SizedActs, SizedBody, SizedCases, SizedCode, SizedCodes, SizedFrame, SizedLabels, SizedOperation, SizedPlace, SizedWants, ◌also◌, ◌with◌, assign_ordinal, assign_cell, copy_cells, bool_not, branch_on, calculate, calculate1, call_to, case_of, cell, else_case, for_loop, index, int_abs, int_negate, int_odd, int_sqr, label, last_number, literal, load, make_set, no_act, no_case, no_codes, no_labels, no_wants, one_case, ordinal_of, pred_in, raise_with, ranged, sequence, set_card, set_greatest, set_least, shift, short_cut, stop, succ_in, while_loop}

-- a place's cells are at most those of a store
pub place-cells : {p : C.Place} {n : ℕ} → SizedPlace p n → n ≤ store_cells
place-cells (cell l) = omega arith
place-cells (index p c a b l) = omega arith
place-cells (shift p m l) = omega arith

-- ---- elaborated code

-- what is asked of the tables
pub record Limits (Γ : Types) (Δ : Vars) : Type 0 where
  pub low : (t : ℕ) → InInt (info_at Γ t).low
  pub high : (t : ℕ) → InInt (info_at Γ t).high
  pub bases : (t : ℕ) → set? Γ t ≡ true → InSet (info_at Γ t).low × InSet (info_at Γ t).high
  pub size : (t : ℕ) → size_of Γ t ≤ 2048
  pub fields : (t : ℕ) (n : Name) (f : Field) → field_of (info_at Γ t).fields n ≡ some f → f.offset + size_of Γ f.type ≤ size_of Γ t
  pub vars : (i : ℕ) (v : Var) → variable Δ i ≡ some v → v.base + size_of Γ v.type ≤ store_cells
  pub filled : (t : ℕ) → ordinal? Γ t ≡ true → le_z (info_at Γ t).low (info_at Γ t).high ≡ true

pub limits : (Γ : Types) (Δ : Vars) (xs : List Test) → Formed Γ Δ xs → SmallTypes Γ → length xs ≤ store_cells → Limits Γ Δ
limits Γ Δ xs 𝓕 h l = record {
  low = λ t. (h t).low;
  high = λ t. (h t).high;
  bases = λ t p.
      let b = (h t).base p in
      let g : le_z (info_at Γ t).low (info_at Γ t).high ≡ true = rw ((𝓕.bounds t p).0, (𝓕.bounds t p).1) (𝓕.filled _ (𝓕.bases t p)) in
      let e = ends-in Γ Δ xs 𝓕 (pos 0) (pos 31) (info_at Γ t).low (info_at Γ t).high b.0 b.1 g in
      (record { ok = e.0 }, record { ok = e.1 });
  size = small_size Γ h;
  fields = λ t n f e. (𝓕.fields t n f e).short;
  vars = λ i v e. let s = (𝓕.vars i v e).short in omega arith;
  filled = 𝓕.filled;
}

-- between two integers
pub int-between : (lo hi z : ℤ) → InInt lo → InInt hi → inside lo hi z ≡ true → InInt z
int-between lo hi z a b h =
    let i = inside_is lo hi z h in
    record { ok = inside_both least most z (le_z-trans least lo z (inside_is least most lo a.ok).0 i.0) (le_z-trans z hi most i.1 (inside_is least most hi b.ok).1) }

pub pick-int : (q : Bool) (x y : ℤ) → InInt x → InInt y → InInt (pick q x y)
unfolding pick
pick-int true x y a b = a
pick-int false x y a b = b

module _ (Γ : Types) (Δ : Vars) (𝓛 : Limits Γ Δ) where
  pub operation-sized : (f : Fun) (k : ℕ) {q : Rule1} → function_rule Γ f k ≡ some q → SizedOperation q.operation
  unfolding function_rule
  operation-sized negate k h = given-some h λ _ e. rw (← e) int_negate
  operation-sized not_of k h = given-some h λ _ e. rw (← e) bool_not
  operation-sized abs k h = given-some h λ _ e. rw (← e) int_abs
  operation-sized sqr k h = given-some h λ _ e. rw (← e) int_sqr
  operation-sized odd k h = given-some h λ _ e. rw (← e) int_odd
  operation-sized ord k h = given-some h λ _ e. rw (← e) ordinal_of
  operation-sized pred k h = given-some h λ _ e. rw (← e) (pred_in (𝓛.low k) (𝓛.high k))
  operation-sized succ k h = given-some h λ _ e. rw (← e) (succ_in (𝓛.low k) (𝓛.high k))
  operation-sized card k h = given-some h λ _ e. rw (← e) set_card
  operation-sized setmin k h = given-some h λ _ e. rw (← e) set_least
  operation-sized setmax k h = given-some h λ _ e. rw (← e) set_greatest

  mutual
    unfolding elab_expr

    sized-e : (e : X.Expr) (r : Elaborated) → elab_expr Γ Δ e ≡ some r → SizedCode r.code
    sized-e (X.const c) r h = given-some h λ p v. rw (← v) (literal (int-between _ _ c.value (𝓛.low c.kind) (𝓛.high c.kind) (and-true (ordinal? Γ c.kind) _ p).1))
    sized-e (X.read g) r h = bind-some h λ w hw e. rw (← some_inj e) (load (sized-t g w hw))
    sized-e X.error_number r h = rw (← some_inj h) last_number
    sized-e (X.members t es) r h = bind-some h λ cs hcs e. given-some e λ p v. rw (← v) (make_set (𝓛.bases t p).0 (𝓛.bases t p).1 (sized-m es _ cs hcs))
    sized-e (X.end_of q t) r h = given-some h λ p v. rw (← v) (literal (pick-int q _ _ (𝓛.high t) (𝓛.low t)))
    sized-e (X.binary op a b) r h = both_some h λ x y hx hy e. bind-some e λ q hq e'. rw (← some_inj e') (calculate (sized-e a x hx) (sized-e b y hy))
    sized-e (X.short_circuit q a b) r h = both_some h λ x y hx hy e. given-some e λ p v. rw (← v) (short_cut (sized-e a x hx) (sized-e b y hy))
    sized-e (X.unary f a) r h = bind-some h λ x hx e. bind-some e λ q hq e'. rw (← some_inj e') (calculate1 (operation-sized f x.kind hq) (sized-e a x hx))

    sized-t : (g : X.Target) (w : Located) → elab_target Γ Δ g ≡ some w → SizedPlace w.place (size_of Γ w.type)
    sized-t (X.var i) w h = bind-some h λ v hv e. rw (← some_inj e) (cell (𝓛.vars i v hv))
    sized-t (X.at g e) w h = both_some h λ u x hu hx e'. given-some e' λ p v. rw (← v) (index (sized-t g u hu) (sized-e e x hx) (𝓛.low u.type) (𝓛.high u.type) (𝓛.size _))
    sized-t (X.dot g n) w h = bind-some h λ u hu e. bind-some e λ f hf e'. rw (← some_inj e') (shift (sized-t g u hu) (𝓛.size u.type) (𝓛.fields u.type n f hf))

    sized-m : (es : X.Exprs) (k : ℕ) (cs : C.Codes) → elab_members Γ Δ k es ≡ some cs → SizedCodes cs
    sized-m X.nil k cs h = rw (← some_inj h) no_codes
    sized-m (X.◌and◌ e es) k cs h = both_some h λ x cs' hx hcs e'. given-some e' λ p v. rw (← v) (sized-e e x hx with sized-m es k cs' hcs)

  expected-sized : (e : X.Expr) (k : ℕ) (c : C.Code) → expects Γ Δ k e ≡ some c → SizedCode c
  unfolding expects
  expected-sized e k c h = bind-some h λ x hx e'. given-some e' λ _ v. rw (← v) (sized-e e x hx)

  arguments-sized : (ts : List ℕ) (es : X.Exprs) (cs : C.Codes) → elab_arguments Γ Δ ts es ≡ some cs → SizedCodes cs
  unfolding elab_arguments
  arguments-sized [] X.nil cs h = rw (← some_inj h) no_codes
  arguments-sized [] (X.◌and◌ e es) cs h = none-some h
  arguments-sized (t ∷ ts) X.nil cs h = none-some h
  arguments-sized (t ∷ ts) (X.◌and◌ e es) cs h = both_some h λ c ds hc hds v. rw (← some_inj v) (expected-sized e _ c hc with arguments-sized ts es ds hds)

  pub labels-sized : (k : ℕ) (ls : List X.Const) → all_plain ls ≡ true → (zs : List ℤ) → elab_labels Γ Δ k ls ≡ some zs → SizedLabels zs
  unfolding elab_labels all_plain plain
  labels-sized k [] p zs h = rw (← some_inj h) no_labels
  labels-sized k (l ∷ ls) p zs h =
      let q = and-true (plain l) (all_plain ls) p in
      both_some h λ x xs hx hxs e. given-some hx λ _ v. rw (← some_inj e, ← v) (label (record { ok = q.0 }) (labels-sized k ls q.1 xs hxs))

  of-load : {p : C.Place} {n : ℕ} → SizedCode (C.load p n) → SizedPlace p n
  of-load (load p) = p

  -- of an ordinal's cell
  assign-sized : (b : Bool) (n : ℕ) (w : Located) (c : C.Code) → ordinal? Γ w.type ≡ b → Number 4096 n → SizedPlace w.place (size_of Γ w.type) → SizedCode c
      → SizedAct (cond b (C.assign_ordinal n w.place (info_at Γ w.type).low (info_at Γ w.type).high c) (cond (set? Γ w.type) (C.assign_cell n w.place c) (copying n w.place c)))
  assign-sized true n w c o k p s = assign_ordinal k (rw (ord-layout _ w.type _ o) at p) (𝓛.low w.type) (𝓛.high w.type) s
  assign-sized false n w c o k p s = wholly-by SizedAct (set? Γ w.type) n w.place c (assign_cell k p s) (λ q m e. copy_cells k p (of-load (rw e at s)))

  pub for-cell : (i : ℕ) (v : Var) → variable Δ i ≡ some v → ordinal? Γ v.type ≡ true → v.base < store_cells
  for-cell i v h o = let l : v.base + 1 ≤ store_cells = rw (ord-layout _ v.type _ o) at (𝓛.vars i v h) in omega arith

  mutual
    unfolding elab_stmt kept_stmt

    sized-s : {s : X.Stmt} → Within 4096 s → (js : List ℕ) → kept_stmt s js ≡ true → (c : C.Act) → elab_stmt Γ Δ s ≡ some c → SizedAct c
    sized-s (Within.assign {g = g} {e = e} n) js p c h = bind-some h λ w hw h. bind-some h λ d hd v. rw (← some_inj v) (assign-sized _ _ w d refl n (sized-t g w hw) (expected-sized e _ d hd))
    sized-s (Within.begin n ss) js p c h = bind-some h λ x hx v. rw (← some_inj v) (sequence n (sized_b ss js p x hx))
    sized-s (Within.if_else {e = e} {a = a} {b = b} n u w) js p c h =
        let q = and-true _ (kept_stmt b js) p in let q' = and-true (plain_expr e) (kept_stmt a js) q.0 in
        both_some h λ d x hd hx h. bind-some h λ y hy v. rw (← some_inj v) (branch_on n (expected-sized e 1 d hd) (sized-s u js q'.1 x hx) (sized-s w js q.1 y hy))
    sized-s (Within.while {e = e} {a = a} n u) js p c h =
        both_some h λ d x hd hx v. rw (← some_inj v) (while_loop n (expected-sized e 1 d hd) (sized-s u js (and-true (plain_expr e) (kept_stmt a js) p).1 x hx))
    sized-s (Within.for {i = i} {a = a} {b = b} {s = s} n u) js p c h =
        bind-some h λ v hv h. both_some h λ x y hx hy h. bind-some h λ z hz e. given-some e λ o q.
        rw (← q) (for_loop n (for-cell i v hv o) (𝓛.low v.type) (𝓛.high v.type) (expected-sized a _ x hx) (expected-sized b _ y hy) (sized-s u (i ∷ js) (and-true (plain_expr a && plain_expr b && not (looping i js)) (kept_stmt s (i ∷ js)) p).1 z hz))
    sized-s (Within.case {e = e} {bs = bs} n u) js p c h =
        bind-some h λ x hx h. bind-some h λ y hy v. given-some v λ _ q. rw (← q) (case_of n (sized-e e x hx) (sized_a u js (and-true (plain_expr e && differ (labels_of bs)) (kept_arms bs js) p).1 _ y hy))
    sized-s (Within.call {es = es} n) js p c h = bind-some h λ cs hcs v. rw (← some_inj v) (call_to n (arguments-sized _ es cs hcs))
    sized-s (Within.raise {e = e} n) js p c h = bind-some h λ d hd v. rw (← some_inj v) (raise_with n (expected-sized e 0 d hd))
    sized-s Within.skip js p c h = rw (← some_inj h) no_act

    sized_b : {ss : X.Stmts} → WithinAll 4096 ss → (js : List ℕ) → kept_stmts ss js ≡ true → (c : C.Acts) → elab_stmts Γ Δ ss ≡ some c → SizedActs c
    sized_b Within.done js p c h = rw (← some_inj h) stop
    sized_b (Within.◌next◌ {s = s} {ss = ss} u us) js p c h =
        let q = and-true (kept_stmt s js) (kept_stmts ss js) p in
        both_some h λ x y hx hy e. rw (← some_inj e) (sized-s u js q.0 x hx also sized_b us js q.1 y hy)

    sized_a : {bs : X.Arms} → WithinArms 4096 bs → (js : List ℕ) → kept_arms bs js ≡ true → (j : ℕ) (c : C.Cases) → elab_arms Γ Δ j bs ≡ some c → SizedCases c
    sized_a (Within.else_arm u) js p j c h = bind-some h λ x hx e. rw (← some_inj e) (else_case (sized-s u js p x hx))
    sized_a Within.no_else js p j c h = rw (← some_inj h) no_case
    sized_a (Within.arm {cs = cs} {s = s} {bs = bs} u us) js p j c h =
        let q = and-true _ (kept_arms bs js) p in let q' = and-true (all_plain cs) (kept_stmt s js) q.0 in
        both_some h λ zs x hzs hx h. bind-some h λ y hy e. rw (← some_inj e) (one_case (labels-sized j cs q'.0 zs hzs) (sized-s u js q'.1 x hx) (sized_a us js q.1 j y hy))

  -- what parameters of the types ts take
  pub wants-sized : (ts : List ℕ) → SizedWants (map (want_of Γ) ts)
  wants-sized [] = no_wants
  wants-sized (t ∷ ts) = go (ordinal? Γ t) refl (wants-sized ts)
    where
      go : (b : Bool) → ordinal? Γ t ≡ b → SizedWants (map (want_of Γ) ts) → SizedWants (cond b (C.ranged (info_at Γ t).low (info_at Γ t).high) C.any_set ∷ map (want_of Γ) ts)
      go true o w = ranged (𝓛.low t) (𝓛.high t) (𝓛.filled t o) w
      go false o w = any_set w

  pub body-sized : {b : X.Body} (f : C.Frame) → SizedFrame f → WithinBody 4096 b → kept_body b ≡ true → (c : C.BodyCode) → elab_body Γ Δ f b ≡ some c → SizedBody c
  unfolding elab_body kept_body
  body-sized {b} f F w p c h =
      let q = and-true (kept_stmts b.stmts []) (kept_stmts b.handler []) p in
      both_some h λ x y hx hy e. rw (← some_inj e) (record { frame = F; acts = sized_b w.stmts [] q.0 x hx; handler = sized_b w.handler [] q.1 y hy })

-- a procedure's frame, with the parameters of those before it
pub frame-sized : (σ : Environment) → Limits σ.types σ.vars → (ps : List (Name × ℕ)) → length ps ≤ 8 → lent_cells + length σ.parameters + length ps ≤ store_cells
    → SizedFrame (frame_of σ ps)
unfolding frame_of
frame-sized σ 𝓛 [] k l = record { cells = omega arith; few = omega arith; none = λ _. refl; wants = no_wants }
frame-sized σ 𝓛 (p ∷ ps) k l =
    let e : length (map (want_of σ.types) (parameter_types (p ∷ ps))) ≡ length (p ∷ ps) = length-map (parameter_types (p ∷ ps)) (want_of σ.types) ∙ length-map (p ∷ ps) (λ (q : Name × ℕ). q.1) in
    record { cells = omega arith; few = omega arith; none = λ h. absurd (omega (arith, ap length h)); wants = wants-sized σ.types σ.vars 𝓛 (parameter_types (p ∷ ps)) }
