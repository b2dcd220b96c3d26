-- If something is left at the end of a run that had one step more, the run without that step goes the same way. So a run that is spent
-- had one more step due: with one step more it takes that one too.
use mathlib.Core.Path.{◌≡◌, refl}
use mathlib.Core.Bool.{Bool, true, false}
use mathlib.Core.List.{List, []}
use Prim.Native.Nat.{ℕ, zero, suc, ◌+◌, ◌≤◌}
use native.Mathlib.Nat.{suc-add}
use native.Mathlib.Omega.{arith}
use lib.IntN.{ℤ, suc_ℤ}
use Rattle.leaf_integers.specs.Integers.{inside, is_zero}
use Rattle.law.specs.Calculate.{Result, fails, is, is_true, stuck, system_error}
use Rattle.law.specs.Chair.{condition, eval_code, matches, place_code, run_act, run_acts, run_arguments, run_cases}
use Rattle.law.specs.Code.{Act, Acts, BodyCode, Cases, Code, Frame, ◌also◌, assign_ordinal, assign_cell, copy_cells, load, branch_on, call_to, case_of, else_case, for_loop, no_case, no_act, one_case, raise_with, sequence, stop, while_loop}
use Rattle.law.specs.Machine.{Answer, Outcome, Proc, Procs, State, Store, and_then, answer, branch, caught, continued, Plan, count_up, ended, entered, for_rounds, no_round, opened, outside, planned, rounds, handled, normal, pass_on, procedure_at, raise_number, raised, raising, returning, set_control, sole, spent, state, step, step_if, sticks, stored, store_ordinal, store_whole, while_rounds, with_result}
use Rattle.law.specs.Whole.{run_all, run_body}
use Rattle.law_theorems.proofs.MoreBudget.{more, more_a, returning-f}
use Rattle.law_theorems.proofs.Programs.{all-bodies, no-procs}

-- what is left never grows
pub record Sinks (f : State → Answer) : Type 0 where
  pub by : (s : State) → (f s).state.left ≤ s.left

-- from a state with at most b steps left
pub record Lower (b : ℕ) (f g : State → Answer) : Type 0 where
  pub less-f : Sinks f
  pub less-g : Sinks g
  pub at : (s : State) → s.left ≤ b → 1 ≤ (g (more 1 s)).state.left → g (more 1 s) ≡ more_a 1 (f s)

lower : {b c : ℕ} {f g : State → Answer} → c ≤ b → Lower b f g → Lower c f g
lower {b} {c} l h = record { less-f = h.less-f; less-g = h.less-g; at = λ s k e. h.at s (omega arith) e }

due-less : {f : State → Answer} → Sinks f → (n : ℕ) (m : Store) → (step_if n (state m n) f).state.left ≤ n
due-less h zero m = omega arith
due-less h (suc n) m = let l = h.by (state m n) in omega arith

due-l : {b : ℕ} {f g : State → Answer} → Lower b f g → (n : ℕ) (s : State) → n ≤ suc b → 1 ≤ (step_if (n + 1) (more 1 s) g).state.left → step_if (n + 1) (more 1 s) g ≡ more_a 1 (step_if n s f)
due-l h zero s l e = absurd (let k = h.less-g.by (state s.store 0) in omega arith)
due-l h (suc n) s l e = rw suc-add (h.at (state s.store n) (omega arith) (rw suc-add at e))

step-l : {b : ℕ} {f g : State → Answer} → Lower b f g → Lower (suc b) (λ s. step s f) (λ s. step s g)
step-l h = record { less-f = record { by = λ s. due-less h.less-f s.left s.store }; less-g = record { by = λ s. due-less h.less-g s.left s.store }; at = λ s l e. due-l h s.left s l e }

step-any : {f g : State → Answer} → ((b : ℕ) → Lower b f g) → (b : ℕ) → Lower b (λ s. step s f) (λ s. step s g)
step-any h b = lower (omega arith) (step-l (h b))

onto-less : {f : State → Answer} → Sinks f → (o : Outcome) (s : State) → (continued o s f).state.left ≤ s.left
onto-less h normal s = h.by s
onto-less h spent s = omega arith
onto-less h sticks s = omega arith
onto-less h (raised z n) s = omega arith

onto-l : {b : ℕ} {f g : State → Answer} → Lower b f g → (o : Outcome) (s : State) → s.left ≤ b → 1 ≤ (continued o (more 1 s) g).state.left → continued o (more 1 s) g ≡ more_a 1 (continued o s f)
onto-l h normal s l e = h.at s l e
onto-l h spent s l e = refl
onto-l h sticks s l e = refl
onto-l h (raised z n) s l e = refl

then-l : {b : ℕ} {f f' g g' : State → Answer} → Lower b f f' → Lower b g g' → Lower b (λ s. and_then (f s) g) (λ s. and_then (f' s) g')
then-l {f} {f'} {g} {g'} hf hg = record {
  less-f = record { by = λ s. let k = hf.less-f.by s in let l = onto-less hg.less-f (f s).outcome (f s).state in omega arith };
  less-g = record { by = λ s. let k = hf.less-g.by s in let l = onto-less hg.less-g (f' s).outcome (f' s).state in omega arith };
  at = λ s l e.
      let k = onto-less hg.less-g (f' (more 1 s)).outcome (f' (more 1 s)).state in
      let q = hf.at s l (omega arith) in
      let m = hf.less-f.by s in
      rw q (onto-l hg (f s).outcome (f s).state (omega arith) (rw q at e));
}

branch-l : {b : ℕ} (q : Bool) {f f' g g' : State → Answer} → Lower b f f' → Lower b g g' → Lower b (branch q f g) (branch q f' g')
branch-l true hf hg = hf
branch-l false hf hg = hg

answer-l : {b : ℕ} {o : Outcome} → Lower b (answer o) (answer o)
answer-l = record { less-f = record { by = λ s. omega arith }; less-g = record { by = λ s. omega arith }; at = λ s l e. refl }

raising-l : {b : ℕ} (z : ℤ) (n : ℕ) → Lower b (raising z n) (raising z n)
raising-l z n = record { less-f = record { by = λ s. omega arith }; less-g = record { by = λ s. omega arith }; at = λ s l e. refl }

after-l : {A : Type 0} {b : ℕ} (n : ℕ) (v : Store → Result A) {f g : A → State → Answer} → ((a : A) → Lower b (f a) (g a))
    → Lower b (λ s. with_result n s (v s.store) (λ a. f a s)) (λ s. with_result n s (v s.store) (λ a. g a s))
after-l {A} {b} n v {f} {g} h = record { less-f = record { by = λ s. low-f s (v s.store) }; less-g = record { by = λ s. low-g s (v s.store) }; at = λ s l e. go s l (v s.store) e }
  where
    low-f : (s : State) (w : Result A) → (with_result n s w (λ a. f a s)).state.left ≤ s.left
    low-f s (is a) = (h a).less-f.by s
    low-f s (fails z) = omega arith
    low-f s stuck = omega arith

    low-g : (s : State) (w : Result A) → (with_result n s w (λ a. g a s)).state.left ≤ s.left
    low-g s (is a) = (h a).less-g.by s
    low-g s (fails z) = omega arith
    low-g s stuck = omega arith

    go : (s : State) → s.left ≤ b → (w : Result A) → 1 ≤ (with_result n (more 1 s) w (λ a. g a (more 1 s))).state.left → with_result n (more 1 s) w (λ a. g a (more 1 s)) ≡ more_a 1 (with_result n s w (λ a. f a s))
    go s l (is a) e = (h a).at s l e
    go s l (fails z) e = refl
    go s l stuck e = refl

check-l : {b : ℕ} (n : ℕ) (c : Code) {f g : Bool → State → Answer} → ((q : Bool) → Lower b (f q) (g q)) → Lower b (λ s. condition n c s (λ q. f q s)) (λ s. condition n c s (λ q. g q s))
unfolding condition
check-l n c h = after-l n (eval_code c) λ x. h (is_true (sole x))

-- with nothing left, a step is due and the answer is spent
spent-l : {f : State → Answer} → Sinks f → Lower 0 (answer spent) (λ s. step s f)
spent-l {f} h = record { less-f = record { by = λ s. omega arith }; less-g = record { by = λ s. due-less h s.left s.store }; at = λ s l e. go s.left s l e }
  where
    go : (n : ℕ) (s : State) → n ≤ 0 → 1 ≤ (step_if (n + 1) (more 1 s) f).state.left → step_if (n + 1) (more 1 s) f ≡ more_a 1 (answer spent s)
    go zero s l e = absurd (let k = h.by (state s.store 0) in omega arith)
    go (suc n) s l e = absurd (omega arith)

rounds-l : (n : ℕ) (c : Code) {body : State → Answer} → ((b : ℕ) → Lower b body body) → (b : ℕ) → Lower b (while_rounds b (condition n c) body) (while_rounds (suc b) (condition n c) body)
unfolding while_rounds
rounds-l n c {body} h zero = check-l n c λ q. branch-l q (spent-l (then-l (h 0) (none-l n c)).less-f) answer-l
  where
    none-l : (n : ℕ) (c : Code) → Lower 0 (λ s. condition n c s λ b. branch b (answer spent) (answer normal) s) (λ s. condition n c s λ b. branch b (answer spent) (answer normal) s)
    none-l n c = check-l n c λ q. branch-l q answer-l answer-l
rounds-l n c h (suc b) = check-l n c λ q. branch-l q (step-l (then-l (h b) (rounds-l n c h b))) answer-l

rounds-one : (n : ℕ) (c : Code) {body : State → Answer} → ((b : ℕ) → Lower b body body) → (b d : ℕ) → d ≡ suc b → Lower b (while_rounds b (condition n c) body) (while_rounds d (condition n c) body)
rounds-one n c h b d e = rw e (rounds-l n c h b)

set-l : (a : ℕ) (z : ℤ) {b : ℕ} {body : State → Answer} → Lower b body body → Lower b (λ s. body (set_control a z s)) (λ s. body (set_control a z s))
set-l a z h = record { less-f = record { by = λ s. h.less-f.by (set_control a z s) }; less-g = record { by = λ s. h.less-g.by (set_control a z s) }; at = λ s l e. h.at (set_control a z s) l e }

ended-l : (b a : ℕ) → Lower b (ended a) (ended a)
ended-l b a = record { less-f = record { by = λ s. omega arith }; less-g = record { by = λ s. omega arith }; at = λ s l e. refl }

turns-l : (j a : ℕ) {body : State → Answer} → ((b : ℕ) → Lower b body body) → (z : ℤ) (b : ℕ) → Lower b (for_rounds j a body z) (for_rounds j a body z)
unfolding for_rounds
turns-l zero a h z b = ended-l b a
turns-l (suc j) a h z b = step-any (λ b. then-l (set-l a z (h b)) (turns-l j a h (suc_ℤ z) b)) b

opened-l : (q : Plan) (n a : ℕ) (x : ℤ) {body : State → Answer} → ((b : ℕ) → Lower b body body) → (b : ℕ) → Lower b (opened q n a x body) (opened q n a x body)
unfolding opened
opened-l no_round n a x h b = ended-l b a
opened-l outside n a x h b = raising-l _ n
opened-l (rounds j) n a x h b = turns-l j a h x b

counting-l : (n a : ℕ) (lo hi x y : ℤ) {body : State → Answer} → ((b : ℕ) → Lower b body body) → (b : ℕ) → Lower b (count_up n a lo hi x y body) (count_up n a lo hi x y body)
unfolding count_up
counting-l n a lo hi x y h b = opened-l (planned lo hi x y) n a x h b

keep-l : (b n a : ℕ) (lo hi z : ℤ) → Lower b (store_ordinal n a lo hi z) (store_ordinal n a lo hi z)
unfolding store_ordinal
keep-l b n a lo hi z = branch-l (inside lo hi z) (record { less-f = record { by = λ s. omega arith }; less-g = record { by = λ s. omega arith }; at = λ s l e. refl }) (raising-l _ n)

copy-l : (b n a : ℕ) (zs : List ℤ) → Lower b (store_whole n a zs) (store_whole n a zs)
unfolding store_whole
copy-l b n a zs = record { less-f = record { by = λ s. omega arith }; less-g = record { by = λ s. omega arith }; at = λ s l e. refl }

passes-l : (b n : ℕ) → Lower b (pass_on n) (pass_on n)
unfolding pass_on
passes-l b n = record { less-f = record { by = λ s. (h s).less-f.by s }; less-g = record { by = λ s. (h s).less-g.by s }; at = λ s. (h s).at s }
  where
    h : (s : State) → Lower b (branch (is_zero s.store.latest) (raising system_error n) (answer (raised s.store.latest s.store.place))) (branch (is_zero s.store.latest) (raising system_error n) (answer (raised s.store.latest s.store.place)))
    h s = branch-l (is_zero s.store.latest) (raising-l system_error n) answer-l

raises-l : (b n : ℕ) (z : ℤ) → Lower b (raise_number n z) (raise_number n z)
unfolding raise_number
raises-l b n z = branch-l (is_zero z) (passes-l b n) (raising-l z n)

abbrev L : (State → Answer) → Type 0
L f = (b : ℕ) → Lower b f f

-- a call
returning-left : (q : Frame) (o : Outcome) (s : State) → (returning q o s).state.left ≡ s.left
returning-left q normal s = refl
returning-left q spent s = refl
returning-left q sticks s = refl
returning-left q (raised z n) s = refl

entered-l : {b : ℕ} (f : Proc) (zs : List ℤ) → Lower b f.run f.run → Lower b (entered f zs) (entered f zs)
unfolding entered
entered-l f zs h = record {
  less-f = record { by = less };
  less-g = record { by = less };
  at = λ s l e.
      let t = state (stored f.frame.base zs s.store) s.left in
      let q = h.at t l (omega (arith, returning-left f.frame (f.run (more 1 t)).outcome (f.run (more 1 t)).state)) in
      rw q (returning-f 1 f.frame (f.run t).outcome (f.run t).state);
}
  where
    less : (s : State) → (entered f zs s).state.left ≤ s.left
    less s =
        let t = state (stored f.frame.base zs s.store) s.left in
        let k = h.less-f.by t in omega (arith, returning-left f.frame (f.run t).outcome (f.run t).state)

module _ (ps : Procs) (hp : (p : ℕ) → L (procedure_at ps p).run) where
  mutual
    unfolding run_act

    run-l : (a : Act) (b : ℕ) → Lower b (run_act ps a) (run_act ps a)
    run-l (assign_ordinal n p lo hi c) b = step-any (λ b. after-l n (eval_code c) λ zs. after-l n (place_code p) λ a. keep-l b n a lo hi (sole zs)) b
    run-l (assign_cell n p c) b = step-any (λ b. after-l n (eval_code c) λ zs. after-l n (place_code p) λ a. copy-l b n a zs) b
    run-l (copy_cells n p q k) b = step-any (λ b. after-l n (eval_code (load q k)) λ zs. after-l n (place_code p) λ a. copy-l b n a zs) b
    run-l (sequence n bs) b = step-any (λ b. runs-l bs b) b
    run-l (branch_on n c a e) b = step-any (λ b. check-l n c λ q. branch-l q (run-l a b) (run-l e b)) b
    run-l (while_loop n c a) b = step-any (λ b. record {
      less-f = record { by = λ s. (rounds-l n c (λ k. run-l a k) s.left).less-f.by s };
      less-g = record { by = λ s. (rounds-l n c (λ k. run-l a k) s.left).less-f.by s };
      at = λ s l e. (rounds-one n c (λ k. run-l a k) s.left (s.left + 1) (omega arith)).at s (omega arith) e;
    }) b
    run-l (for_loop n a lo hi x y e) b = step-any (λ b. after-l n (eval_code x) λ u. after-l n (eval_code y) λ v. counting-l n a lo hi (sole u) (sole v) (λ k. run-l e k) b) b
    run-l (case_of n c bs) b = step-any (λ b. after-l n (eval_code c) λ x. picks-l bs n (sole x) b) b
    run-l (call_to n p cs) b = step-any (λ b. after-l n (run_arguments (procedure_at ps p).frame.wants cs) λ zs. entered-l (procedure_at ps p) zs (hp p b)) b
    run-l (raise_with n c) b = step-any (λ b. after-l n (eval_code c) λ x. raises-l b n (sole x)) b
    run-l no_act b = answer-l

    runs-l : (bs : Acts) (b : ℕ) → Lower b (run_acts ps bs) (run_acts ps bs)
    runs-l stop b = answer-l
    runs-l (a also bs) b = then-l (run-l a b) (runs-l bs b)

    picks-l : (bs : Cases) (n : ℕ) (z : ℤ) (b : ℕ) → Lower b (run_cases ps n z bs) (run_cases ps n z bs)
    picks-l (else_case a) n z b = run-l a b
    picks-l no_case n z b = raising-l _ n
    picks-l (one_case ls a bs) n z b = branch-l (matches z ls) (run-l a b) (picks-l bs n z b)

-- ---- bodies and scripts

caught-less : {f : State → Answer} → Sinks f → (o : Outcome) (s : State) → (caught o s f).state.left ≤ s.left
caught-less h normal s = omega arith
caught-less h spent s = omega arith
caught-less h sticks s = omega arith
caught-less h (raised z n) s = h.by s

caught-l : {b : ℕ} {f : State → Answer} → Lower b f f → (o : Outcome) (s : State) → s.left ≤ b → 1 ≤ (caught o (more 1 s) f).state.left → caught o (more 1 s) f ≡ more_a 1 (caught o s f)
caught-l h normal s l e = refl
caught-l h spent s l e = refl
caught-l h sticks s l e = refl
caught-l h (raised z n) s l e = h.at s l e

handled-l : (q : Bool) {b : ℕ} {f g : State → Answer} → Lower b f f → Lower b g g → Lower b (λ s. handled q (f s) g) (λ s. handled q (f s) g)
handled-l false hf hg = hf
handled-l true {b} {f} {g} hf hg = record {
  less-f = record { by = less };
  less-g = record { by = less };
  at = λ s l e.
      let k = caught-less hg.less-g (f (more 1 s)).outcome (f (more 1 s)).state in
      let q = hf.at s l (omega arith) in
      let m = hf.less-f.by s in
      rw q (caught-l hg (f s).outcome (f s).state (omega arith) (rw q at e));
}
  where
    less : (s : State) → (handled true (f s) g).state.left ≤ s.left
    less s = let k = hf.less-f.by s in let l = caught-less hg.less-f (f s).outcome (f s).state in omega arith

body-l : (b : BodyCode) (ps : Procs) → ((i : ℕ) → L (procedure_at ps i).run) → L (run_body b ps)
unfolding run_body
body-l b ps h k = handled-l b.handles (runs-l ps h b.acts k) (runs-l ps h b.handler k)

pub program-l : (bs : List BodyCode) (b : ℕ) → Lower b (run_all bs []) (run_all bs [])
program-l bs = all-bodies L (λ b. answer-l) body-l bs [] (no-procs (λ f. L f.run) (λ b. answer-l))
