-- The code of an accepted script never sticks, and keeps each cell in its range.
use mathlib.Core.Path.{◌≡◌, refl}
use mathlib.Core.Bool.{Bool, true, false, cond, ◌&&◌, ◌||◌}
use mathlib.Core.List.{List, [], ◌∷◌, map}
use mathlib.Core.Option.{some}
use Prim.Native.Nat.{ℕ, zero, suc, ◌<◌}
use native.Mathlib.Omega.{arith}
use lib.IntN.{ℤ, pos, suc_ℤ, ◌+ℤ◌, ◌-ℤ◌, +ℤ_idr, suc_ℤ-+ℤ, +ℤ-suc_ℤ}
use lib.Signed.{le_z}
use borrow.Author.Tests.{eqb-true}
use lib.ListN.{length}
use Rattle.leaf_integers.specs.Integers.{inside, is_zero}
use Rattle.law.specs.Base.{pick}
use Rattle.law.specs.Calculate.{Result, case_error, is_true, nat_of, system_error, tested}
use Rattle.law.specs.Chair.{condition, eval_code, matches, place_code, run_act, run_acts, run_arguments, run_cases}
use Rattle.law.specs.Code.{Act, Acts, Cases, Code, Codes, Frame, any_set, assign_ordinal, assign_cell, ranged}
use Rattle.law.specs.Elaborate.{Located, copying, elab_arguments, elab_arms, elab_stmt, elab_stmts, expects}
use Rattle.law.specs.Environment.{want_of}
use Rattle.law.specs.Machine.{Answer, Outcome, Proc, Procs, State, Store, admitted, and_then, answer, branch, continued, count_up, ended, entered, for_rounds, forgotten, no_round, normal, opened, outside, pass_on, planned, procedure_at, raise_number, raised, raising, returning, rounds, set_control, sole, spent, state, step, step_if, stored, store_ordinal, store_whole, undefined, while_rounds, with_result}
use Rattle.law.specs.Script.{Arms, Expr, Exprs, Stmt, Stmts, ◌and◌, ◌next◌, arm, assign, begin, call, case, done, else_arm, for, if_else, nil, no_else, raise, skip, while}
use Rattle.law.specs.Store.{cell_fits}
use Rattle.law.specs.Types.{Types, Vars, cells_of, host_of, info_at, ordinal?, set?}
use Rattle.law_theorems.proofs.Inversion.{and-true, none-some, some_inj, both_some, bind-some, given-some}
use Rattle.law_theorems.proofs.Spans.{span-inside}
use Rattle.law_theorems.proofs.ValuesInRange.{bind-g, e-range, int-value, Good, value, failure, Sound, Fits, Value-of, good-e, good-t, pick-g, put_one, set-value, stored-all, fits-cons, fits-none, ord-layout, own-host}
use Rattle.law_theorems.specs.LinesKeep.{Framed, Simple}
use Rattle.law_theorems.specs.ScriptCalls as Calls
use Rattle.law_theorems.specs.ScriptCalls.{Calling, CallingAll, CallingArms}
use Rattle.law_theorems.proofs.Copying.{wholly-run}
use Rattle.law_theorems.specs.ValuesInRange.{InInt, Test, Here, Formed}

e-system : InInt system_error
unfolding inside
e-system = record { ok = refl }

e-case : InInt case_error
unfolding inside
e-case = record { ok = refl }

pub data Moved : Outcome → Type 0 where
  normally : Moved normal
  out_of_steps : Moved spent
  by_exception : {z : ℤ} {n : ℕ} → Moved (raised z n)

pub record Fine (tests : List Test) (a : Answer) : Type 0 where
  pub moved : Moved a.outcome
  pub sound : Sound tests a.state.store

-- from a sound store to a fine answer
pub record Safely (tests : List Test) (f : State → Answer) : Type 0 where
  pub at : (s : State) → Sound tests s.store → Fine tests (f s)

module _ {tests : List Test} where
  pub fine : {o : Outcome} {m : Store} {n : ℕ} → Moved o → Sound tests m → Fine tests (answer o (state m n))
  fine h s = record { moved = h; sound = s }

  due-s : {f : State → Answer} → Safely tests f → (n : ℕ) (s : State) → Sound tests s.store → Fine tests (step_if n s f)
  due-s h zero s g = fine out_of_steps g
  due-s h (suc n) s g = h.at (state s.store n) g

  step-s : {f : State → Answer} → Safely tests f → Safely tests (λ s. step s f)
  step-s h = record { at = λ s g. due-s h s.left s g }

  onto-s : {f : State → Answer} → Safely tests f → {o : Outcome} (s : State) → Moved o → Sound tests s.store → Fine tests (continued o s f)
  onto-s h s normally g = h.at s g
  onto-s h s out_of_steps g = fine out_of_steps g
  onto-s h s by_exception g = fine by_exception g

  pub then-s : {f g : State → Answer} → Safely tests f → Safely tests g → Safely tests (λ s. and_then (f s) g)
  then-s {f} hf hg = record { at = λ s g. let a = hf.at s g in onto-s hg (f s).state a.moved a.sound }

  branch-s : (b : Bool) {f g : State → Answer} → (b ≡ true → Safely tests f) → (b ≡ false → Safely tests g) → Safely tests (branch b f g)
  branch-s true hf hg = hf refl
  branch-s false hf hg = hg refl

  raising-s : {z : ℤ} → InInt z → (n : ℕ) → Safely tests (raising z n)
  raising-s i n = record { at = λ s g. fine by_exception (record { long = g.long; enough = g.enough; each = g.each; number = i }) }

  pub answer-s : {o : Outcome} → Moved o → Safely tests (answer o)
  answer-s h = record { at = λ s g. fine h g }

  after-s : {A : Type 0} (n : ℕ) {P : A → Type 0} {v : Store → Result A} {f : A → State → Answer}
      → ((m : Store) → Sound tests m → Good P (v m)) → ((z : A) → P z → Safely tests (f z)) → Safely tests (λ s. with_result n s (v s.store) (λ z. f z s))
  after-s n {P} {v} {f} hv h = record { at = λ s g. go s (hv s.store g) g }
    where
      go : (s : State) {w : Result _} → Good P w → Sound tests s.store → Fine tests (with_result n s w (λ z. f z s))
      go s (value {a} p) g = (h a p).at s g
      go s (failure i) g = (raising-s i n).at s g

  passes-s : (n : ℕ) → Safely tests (pass_on n)
  unfolding pass_on
  passes-s n = record { at = λ s. (branch-s (is_zero s.store.latest) (λ _. raising-s e-system n) (λ _. answer-s by_exception)).at s }

  raises-s : (n : ℕ) {z : ℤ} → InInt z → Safely tests (raise_number n z)
  unfolding raise_number
  raises-s n {z} i = branch-s (is_zero z) (λ _. passes-s n) (λ _. raising-s i n)

  -- ---- cells that become undefined: a control variable at its loop's end, parameters at a return

  forgotten-all : (k : ℕ) {m : Store} (a : ℕ) → Sound tests m → Sound tests (forgotten a k m)
  unfolding is_zero
  forgotten-all zero a s = record { long = s.long; enough = s.enough; each = s.each; number = s.number }
  forgotten-all (suc k) {m} a s = forgotten-all k (suc a) (put_one tests m a (pos 0) undefined refl s)

  ended-s : (a : ℕ) → Safely tests (ended a)
  ended-s a = record { at = λ s g. fine normally (forgotten-all 1 a g) }

  returning-s : (q : Frame) {o : Outcome} (s : State) → Moved o → Sound tests s.store → Fine tests (returning q o s)
  returning-s q s normally g = fine normally (forgotten-all (length q.wants) q.base g)
  returning-s q s out_of_steps g = fine out_of_steps g
  returning-s q s by_exception g = fine by_exception (forgotten-all (length q.wants) q.base g)

module _ (Γ : Types) (Δ : Vars) (tests : List Test) (𝓕 : Formed Γ Δ tests) where
  -- the value of an expression that was expected to have a kind
  pub expected : (e : Expr) (k : ℕ) (c : Code) → expects Γ Δ k e ≡ some c → (m : Store) → Sound tests m → Good (Value-of Γ Δ tests 𝓕 k) (eval_code c m)
  unfolding expects
  expected e k c h m s = bind-some h λ x hx e'. given-some e' λ p v.
      rw (← v, eqb-true k x.kind p) (good-e Γ Δ tests 𝓕 e x hx s)

  check-s : (n : ℕ) (e : Expr) (c : Code) → expects Γ Δ 1 e ≡ some c → {f : Bool → State → Answer} → ((b : Bool) → Safely tests (f b)) → Safely tests (λ s. condition n c s (λ b. f b s))
  unfolding condition
  check-s n e c h k = after-s n (expected e 1 c h) λ x _. k (is_true (sole x))

  -- a value goes to a place of its type
  copy-s : (n a : ℕ) (zs : List ℤ) (ts : List ℕ) → Here Γ tests a ts → Fits Γ Δ tests 𝓕 ts zs → Safely tests (store_whole n a zs)
  unfolding store_whole
  copy-s n a zs ts h f = record { at = λ s g. fine normally (stored-all Γ Δ tests 𝓕 ts zs a h f g) }

  -- a cell that is an ordinal's
  pub cell-fits : (t a : ℕ) → ordinal? Γ t ≡ true → Here Γ tests a (cells_of Γ t) → (z : ℤ) → inside (info_at Γ t).low (info_at Γ t).high z ≡ true → Fits Γ Δ tests 𝓕 (cells_of Γ t) (z ∷ [])
  cell-fits t a o h z p = rw (ord-layout _ t _ o) (fits-cons Γ Δ tests 𝓕 (rw o p) (fits-none Γ Δ tests 𝓕))

  keep-s : (n t a : ℕ) → ordinal? Γ t ≡ true → Here Γ tests a (cells_of Γ t) → (z : ℤ) → Safely tests (store_ordinal n a (info_at Γ t).low (info_at Γ t).high z)
  unfolding store_ordinal
  keep-s n t a o h z = branch-s (inside (info_at Γ t).low (info_at Γ t).high z)
      (λ p. record { at = λ s g. fine normally (stored-all Γ Δ tests 𝓕 (cells_of Γ t) (z ∷ []) a h (cell-fits t a o h z p) g) }) (λ _. raising-s e-range n)

  rounds-s : (n : ℕ) (e : Expr) (c : Code) → expects Γ Δ 1 e ≡ some c → {body : State → Answer} → Safely tests body → (f : ℕ) → Safely tests (while_rounds f (condition n c) body)
  unfolding while_rounds
  rounds-s n e c h g zero = check-s n e c h λ b. branch-s b (λ _. answer-s out_of_steps) (λ _. answer-s normally)
  rounds-s n e c h g (suc f) = check-s n e c h λ b. branch-s b (λ _. step-s (then-s g (rounds-s n e c h g f))) (λ _. answer-s normally)

  set-s : (t a : ℕ) → ordinal? Γ t ≡ true → Here Γ tests a (cells_of Γ t) → (z : ℤ) → inside (info_at Γ t).low (info_at Γ t).high z ≡ true → {body : State → Answer} → Safely tests body → Safely tests (λ s. body (set_control a z s))
  set-s t a o h z p b = record { at = λ s g. b.at (set_control a z s) (stored-all Γ Δ tests 𝓕 (cells_of Γ t) (z ∷ []) a h (cell-fits t a o h z p) g) }

  turns-s : (t a : ℕ) → ordinal? Γ t ≡ true → Here Γ tests a (cells_of Γ t) → {body : State → Answer} → Safely tests body → (j : ℕ) (z : ℤ)
      → ((i : ℕ) → i < j → inside (info_at Γ t).low (info_at Γ t).high (z +ℤ pos i) ≡ true) → Safely tests (for_rounds j a body z)
  unfolding for_rounds
  turns-s t a o h b zero z p = ended-s a
  turns-s t a o h b (suc j) z p = step-s (then-s (set-s t a o h z (rw +ℤ_idr at (p 0 (omega arith))) b)
      (turns-s t a o h b j (suc_ℤ z) (λ i l. rw (suc_ℤ-+ℤ z (pos i), ← +ℤ-suc_ℤ z (pos i)) (p (suc i) (omega arith)))))

  counting-s : (n t a : ℕ) → ordinal? Γ t ≡ true → Here Γ tests a (cells_of Γ t) → (x y : ℤ) {body : State → Answer} → Safely tests body
      → Safely tests (count_up n a (info_at Γ t).low (info_at Γ t).high x y body)
  unfolding count_up planned opened pick
  counting-s n t a o h x y {body} b = go (le_z x y) (inside (info_at Γ t).low (info_at Γ t).high x && inside (info_at Γ t).low (info_at Γ t).high y) refl
    where
      go : (p q : Bool) → (inside (info_at Γ t).low (info_at Γ t).high x && inside (info_at Γ t).low (info_at Γ t).high y) ≡ q
          → Safely tests (opened (pick p (pick q (rounds (nat_of (suc_ℤ (y -ℤ x)))) outside) no_round) n a x body)
      go false q e = ended-s a
      go true false e = raising-s e-range n
      go true true e = let w = and-true _ _ e in turns-s t a o h b _ x (λ i l. span-inside _ _ x y i w.0 w.1 l)

  -- ---- calls

  -- an argument that was admitted is of its parameter's type
  admitted-g : (t : ℕ) → (ordinal? Γ t || set? Γ t) ≡ true → (zs : List ℤ) → Value-of Γ Δ tests 𝓕 (host_of Γ t) zs → Good (λ z. cell_fits Γ t z ≡ true) (admitted (want_of Γ t) (sole zs))
  unfolding admitted tested
  admitted-g t h zs v = go (ordinal? Γ t) refl h
    where
      go : (b : Bool) → ordinal? Γ t ≡ b → (b || set? Γ t) ≡ true
          → Good (λ z. cell_fits Γ t z ≡ true) (admitted (cond b (ranged (info_at Γ t).low (info_at Γ t).high) any_set) (sole zs))
      go true o k = pick-g (inside (info_at Γ t).low (info_at Γ t).high (sole zs)) (λ i. value (rw o i)) (failure e-range)
      go false o k = value {a = sole zs} (rw o (set-value Γ Δ tests 𝓕 k (rw (own-host _ t _ o) at v)))

  pub arguments-g : (ts : List ℕ) → Simple Γ ts → (es : Exprs) (cs : Codes) → elab_arguments Γ Δ ts es ≡ some cs
      → (m : Store) → Sound tests m → Good (Fits Γ Δ tests 𝓕 ts) (run_arguments (map (want_of Γ) ts) cs m)
  unfolding elab_arguments run_arguments
  arguments-g [] k nil cs h m s = rw (← some_inj h) (value (fits-none Γ Δ tests 𝓕))
  arguments-g [] k (e and es) cs h m s = none-some h
  arguments-g (t ∷ ts) k nil cs h m s = none-some h
  arguments-g (t ∷ ts) k (e and es) cs h m s = both_some h λ c ds hc hds e'.
      rw (← some_inj e') (bind-g (expected e (host_of Γ t) c hc m s) λ x v. bind-g (admitted-g t (k 0 (omega arith)) x v) λ z f.
      bind-g (arguments-g ts (λ j l. k (suc j) (omega arith)) es ds hds m s) λ zs g. value (fits-cons Γ Δ tests 𝓕 f g))

  entered-s : (f : Proc) (ts : List ℕ) → Framed Γ tests ts f.frame → Safely tests f.run → (zs : List ℤ) → Fits Γ Δ tests 𝓕 ts zs → Safely tests (entered f zs)
  unfolding entered
  entered-s f ts q h zs g = record {
    at = λ s i.
        let t = state (stored f.frame.base zs s.store) s.left in
        let a = h.at t (stored-all Γ Δ tests 𝓕 ts zs f.frame.base q.here g i) in
        returning-s f.frame (f.run t).state a.moved a.sound;
  }

  module _ (ps : Procs) (hp : (p : ℕ) → Safely tests (procedure_at ps p).run) where
    -- a call in this body has the parameters that its procedure has
    abbrev Suits : ℕ → List ℕ → Type 0
    Suits p ts = Framed Γ tests ts (procedure_at ps p).frame

    call-s : (n p : ℕ) (ts : List ℕ) (es : Exprs) (cs : Codes) → elab_arguments Γ Δ ts es ≡ some cs → Suits p ts
        → Safely tests (λ s. with_result n s (run_arguments (procedure_at ps p).frame.wants cs s.store) (λ zs. entered (procedure_at ps p) zs s))
    call-s n p ts es cs h q = after-s n {v = run_arguments (procedure_at ps p).frame.wants cs} (λ m s. rw q.wants (arguments-g ts q.simple es cs h m s))
        λ zs g. entered-s (procedure_at ps p) ts q (hp p) zs g

    putting-s : (b : Bool) (n : ℕ) (w : Located) → ordinal? Γ w.type ≡ b → (e : Expr) (c : Code) → expects Γ Δ (host_of Γ w.type) e ≡ some c
        → ((m : Store) → Sound tests m → Good (λ a. Here Γ tests a (cells_of Γ w.type)) (place_code w.place m))
        → Safely tests (run_act ps (cond b (assign_ordinal n w.place (info_at Γ w.type).low (info_at Γ w.type).high c) (cond (set? Γ w.type) (assign_cell n w.place c) (copying n w.place c))))
    unfolding run_act
    putting-s true n w o e c h g = step-s (after-s n (expected e _ c h) λ zs _. after-s n g λ a p. keep-s n w.type a o p (sole zs))
    putting-s false n w o e c h g = rw (wholly-run ps (set? Γ w.type) n w.place c) (step-s (after-s n (expected e _ c h) λ zs f. after-s n g λ a p. copy-s n a zs (cells_of Γ w.type) p ((rw (own-host _ w.type _ o) at f).fits o)))

    mutual
      unfolding elab_stmt run_act

      pub run-s : (s : Stmt) (c : Act) → elab_stmt Γ Δ s ≡ some c → Calling Suits s → Safely tests (run_act ps c)
      run-s (assign n g e) c h k = bind-some h λ w hw h'. bind-some h' λ d hd e'. rw (← some_inj e') (putting-s _ n w refl e d hd (λ m s. good-t Γ Δ tests 𝓕 g w hw s))
      run-s (begin n ss) c h (Calls.begin k) = bind-some h λ bs hbs e. rw (← some_inj e) (step-s (runs-s ss bs hbs k))
      run-s (if_else n e a b) c h (Calls.if_else j k) = both_some h λ d x hd hx h'. bind-some h' λ y hy e'.
          rw (← some_inj e') (step-s (check-s n e d hd λ q. branch-s q (λ _. run-s a x hx j) (λ _. run-s b y hy k)))
      run-s (while n e a) c h (Calls.while k) = both_some h λ d x hd hx e'.
          rw (← some_inj e') (step-s (record { at = λ s. (rounds-s n e d hd (run-s a x hx k) s.left).at s }))
      run-s (for n i a b s) c h (Calls.for k) = bind-some h λ q hq g. both_some g λ x y hx hy h'. bind-some h' λ z hz e'. given-some e' λ p v.
          rw (← v) (step-s (after-s n (expected a _ x hx) λ u _. after-s n (expected b _ y hy) λ w _. counting-s n q.type q.base p (𝓕.vars i q hq) (sole u) (sole w) (run-s s z hz k)))
      run-s (case n e bs) c h (Calls.case k) = bind-some h λ x hx h'. bind-some h' λ cs hcs e'. given-some e' λ p v.
          rw (← v) (step-s (after-s n (λ m s. good-e Γ Δ tests 𝓕 e x hx s) λ zs _. picks-s bs x.kind cs hcs k n (sole zs)))
      run-s (call n p ts es) c h (Calls.call k) = bind-some h λ cs hcs e. rw (← some_inj e) (step-s (call-s n p ts es cs hcs k))
      run-s (raise n e) c h k = bind-some h λ d hd e'. rw (← some_inj e') (step-s (after-s n (expected e 0 d hd) λ x i. raises-s n (int-value Γ Δ tests 𝓕 i)))
      run-s skip c h k = rw (← some_inj h) (answer-s normally)

      pub runs-s : (ss : Stmts) (c : Acts) → elab_stmts Γ Δ ss ≡ some c → CallingAll Suits ss → Safely tests (run_acts ps c)
      runs-s done c h k = rw (← some_inj h) (answer-s normally)
      runs-s (a next bs) c h (Calls.◌next◌ j k) = both_some h λ x y hx hy e. rw (← some_inj e) (then-s (run-s a x hx j) (runs-s bs y hy k))

      pub picks-s : (bs : Arms) (k : ℕ) (c : Cases) → elab_arms Γ Δ k bs ≡ some c → CallingArms Suits bs → (n : ℕ) (z : ℤ) → Safely tests (run_cases ps n z c)
      picks-s (else_arm a) k c h (Calls.else_arm i) n z = bind-some h λ x hx e. rw (← some_inj e) (run-s a x hx i)
      picks-s no_else k c h i n z = rw (← some_inj h) (raising-s e-case n)
      picks-s (arm ls a bs) k c h (Calls.arm i j) n z = both_some h λ zs x hzs hx h'. bind-some h' λ y hy e.
          rw (← some_inj e) (branch-s (matches z zs) (λ _. run-s a x hx i) (λ _. picks-s bs k y hy j n z))
