-- Steps: what is left never grows, and an answer is `spent` only when nothing is left.
use mathlib.Core.Path.{◌≡◌, refl}
use mathlib.Core.Bool.{Bool, true, false}
use mathlib.Core.List.{List}
use Prim.Native.Nat.{ℕ, zero, suc, ◌≤◌}
use native.Mathlib.Omega.{arith}
use lib.IntN.{ℤ, suc_ℤ}
use Rattle.leaf_integers.specs.Integers.{inside, is_zero}
use Rattle.law.specs.Calculate.{Result, fails, is, is_true, stuck}
use Rattle.law.specs.Chair.{condition, eval_code, matches, place_code, run_act, run_acts, run_arguments, run_cases}
use Rattle.law.specs.Code.{Act, Acts, Cases, Code, Frame, ◌also◌, assign_ordinal, assign_cell, copy_cells, load, branch_on, call_to, case_of, else_case, for_loop, no_case, no_act, one_case, raise_with, sequence, stop, while_loop}
use Rattle.law.specs.Machine.{Answer, Outcome, Proc, Procs, State, Store, and_then, answer, branch, continued, Plan, count_up, ended, entered, for_rounds, no_round, opened, outside, planned, rounds, normal, pass_on, procedure_at, raise_number, raised, raising, returning, set_control, sole, spent, state, step, step_if, sticks, stored, store_ordinal, store_whole, while_rounds, with_result}

-- nothing is asked but of `spent`
pub data Ended (n : ℕ) : Outcome → Type 0 where
  normally : Ended n normal
  stuckly : Ended n sticks
  exception : {z : ℤ} {k : ℕ} → Ended n (raised z k)
  spending : n ≡ 0 → Ended n spent

pub record Used (n : ℕ) (a : Answer) : Type 0 where
  pub less : a.state.left ≤ n
  pub ended : Ended a.state.left a.outcome

-- from a state with at most b steps left
pub record Falls (b : ℕ) (f : State → Answer) : Type 0 where
  pub at : (s : State) → s.left ≤ b → Used s.left (f s)

pub used : {m : Store} {n k : ℕ} {o : Outcome} → n ≤ k → Ended n o → Used k (answer o (state m n))
used l e = record { less = l; ended = e }

lower : {b c : ℕ} {f : State → Answer} → c ≤ b → Falls b f → Falls c f
lower {b} {c} l h = record { at = λ s k. h.at s (omega arith) }

pub weaker : {n k : ℕ} {a : Answer} → n ≤ k → Used n a → Used k a
weaker {n} {k} {a} l u = record { less = omega (arith, u.less); ended = u.ended }

-- a step leaves one less
due-d : {b : ℕ} {f : State → Answer} → Falls b f → (n : ℕ) (m : Store) → n ≤ suc b → Used n (step_if n (state m n) f)
due-d h zero m l = used (omega arith) (spending refl)
due-d h (suc n) m l = weaker (omega arith) (h.at (state m n) (omega arith))

step-d : {b : ℕ} {f : State → Answer} → Falls b f → Falls (suc b) (λ s. step s f)
step-d h = record { at = λ s l. due-d h s.left s.store l }

-- a body's step, when any budget will do
step-any : {f : State → Answer} → ((b : ℕ) → Falls b f) → (b : ℕ) → Falls b (λ s. step s f)
step-any h b = lower (omega arith) (step-d (h b))

onto-d : {b n : ℕ} {f : State → Answer} → Falls b f → {o : Outcome} (s : State) → s.left ≤ b → s.left ≤ n → Ended s.left o → Used n (continued o s f)
onto-d h s l k normally = weaker k (h.at s l)
onto-d h s l k stuckly = used k stuckly
onto-d h s l k exception = used k exception
onto-d h s l k (spending e) = used k (spending e)

then-d : {b : ℕ} {f g : State → Answer} → Falls b f → Falls b g → Falls b (λ s. and_then (f s) g)
then-d {f} hf hg = record { at = λ s l. let u = hf.at s l in onto-d hg (f s).state (omega (arith, u.less)) u.less u.ended }

branch-d : {b : ℕ} (q : Bool) {f g : State → Answer} → Falls b f → Falls b g → Falls b (branch q f g)
branch-d true hf hg = hf
branch-d false hf hg = hg

pub answer-d : {b : ℕ} {o : Outcome} → ((n : ℕ) → Ended n o) → Falls b (answer o)
answer-d e = record { at = λ s l. used (omega arith) (e s.left) }

raising-d : {b : ℕ} (z : ℤ) (n : ℕ) → Falls b (raising z n)
raising-d z n = record { at = λ s l. used (omega arith) exception }

after-d : {A : Type 0} {b : ℕ} (n : ℕ) (v : Store → Result A) {f : A → State → Answer} → ((a : A) → Falls b (f a)) → Falls b (λ s. with_result n s (v s.store) (λ a. f a s))
after-d {A} {b} n v {f} h = record { at = λ s l. go s l (v s.store) }
  where
    go : (s : State) → s.left ≤ b → (w : Result A) → Used s.left (with_result n s w (λ a. f a s))
    go s l (is a) = (h a).at s l
    go s l (fails z) = (raising-d z n).at s l
    go s l stuck = used (omega arith) stuckly

check-d : {b : ℕ} (n : ℕ) (c : Code) {f : Bool → State → Answer} → ((q : Bool) → Falls b (f q)) → Falls b (λ s. condition n c s (λ q. f q s))
unfolding condition
check-d n c h = after-d n (eval_code c) λ x. h (is_true (sole x))

-- the rounds that are fuel enough: as many as steps are left
rounds-d : (b n : ℕ) (c : Code) {body : State → Answer} → ((k : ℕ) → Falls k body) → Falls b (while_rounds b (condition n c) body)
unfolding while_rounds
rounds-d zero n c h = check-d n c λ q. branch-d q (record { at = λ s l. used (omega arith) (spending (omega arith)) }) (answer-d λ _. normally)
rounds-d (suc b) n c h = check-d n c λ q. branch-d q (step-d (then-d (h b) (rounds-d b n c h))) (answer-d λ _. normally)

ended-d : (a b : ℕ) → Falls b (ended a)
ended-d a b = record { at = λ s l. used (omega arith) normally }

turns-d : (j a : ℕ) {body : State → Answer} → ((k : ℕ) → Falls k body) → (z : ℤ) (b : ℕ) → Falls b (for_rounds j a body z)
unfolding for_rounds
turns-d zero a h z b = ended-d a b
turns-d (suc j) a h z b = lower (omega arith) (step-d {b = b} (then-d (record { at = λ s l. (h b).at (set_control a z s) l }) (turns-d j a h (suc_ℤ z) b)))

opened-d : (q : Plan) (n a : ℕ) (x : ℤ) {body : State → Answer} → ((k : ℕ) → Falls k body) → (b : ℕ) → Falls b (opened q n a x body)
unfolding opened
opened-d no_round n a x h b = ended-d a b
opened-d outside n a x h b = raising-d _ n
opened-d (rounds j) n a x h b = turns-d j a h x b

counting-d : (n a : ℕ) (lo hi x y : ℤ) {body : State → Answer} → ((k : ℕ) → Falls k body) → (b : ℕ) → Falls b (count_up n a lo hi x y body)
unfolding count_up
counting-d n a lo hi x y h b = opened-d (planned lo hi x y) n a x h b

keep-d : (b n a : ℕ) (lo hi z : ℤ) → Falls b (store_ordinal n a lo hi z)
unfolding store_ordinal
keep-d b n a lo hi z = branch-d (inside lo hi z) (record { at = λ s l. used (omega arith) normally }) (raising-d _ n)

copy-d : (b n a : ℕ) (zs : List ℤ) → Falls b (store_whole n a zs)
unfolding store_whole
copy-d b n a zs = record { at = λ s l. used (omega arith) normally }

passes-d : (b n : ℕ) → Falls b (pass_on n)
unfolding pass_on
passes-d b n = record { at = λ s. (branch-d (is_zero s.store.latest) (raising-d _ n) (answer-d λ _. exception)).at s }

raises-d : (b n : ℕ) (z : ℤ) → Falls b (raise_number n z)
unfolding raise_number
raises-d b n z = branch-d (is_zero z) (passes-d b n) (raising-d z n)

-- a call takes no step of its own at its return
returning-d : {n : ℕ} (q : Frame) {o : Outcome} (s : State) → s.left ≤ n → Ended s.left o → Used n (returning q o s)
returning-d q s l normally = used l normally
returning-d q s l stuckly = used l stuckly
returning-d q s l exception = used l exception
returning-d q s l (spending e) = used l (spending e)

pub entered-d : {b : ℕ} (f : Proc) (zs : List ℤ) → Falls b f.run → Falls b (entered f zs)
unfolding entered
entered-d f zs h = record {
  at = λ s l.
      let t = state (stored f.frame.base zs s.store) s.left in let u = h.at t l in returning-d f.frame (f.run t).state u.less u.ended;
}

module _ (ps : Procs) (hp : (p b : ℕ) → Falls b (procedure_at ps p).run) where
  mutual
    unfolding run_act

    pub run-d : (a : Act) (b : ℕ) → Falls b (run_act ps a)
    run-d (assign_ordinal n p lo hi c) b = step-any (λ b. after-d n (eval_code c) λ zs. after-d n (place_code p) λ a. keep-d b n a lo hi (sole zs)) b
    run-d (assign_cell n p c) b = step-any (λ b. after-d n (eval_code c) λ zs. after-d n (place_code p) λ a. copy-d b n a zs) b
    run-d (copy_cells n p q k) b = step-any (λ b. after-d n (eval_code (load q k)) λ zs. after-d n (place_code p) λ a. copy-d b n a zs) b
    run-d (sequence n bs) b = step-any (λ b. runs-d bs b) b
    run-d (branch_on n c a e) b = step-any (λ b. check-d n c λ q. branch-d q (run-d a b) (run-d e b)) b
    run-d (while_loop n c a) b = step-any (λ b. record { at = λ s l. (rounds-d s.left n c (λ k. run-d a k)).at s (omega arith) }) b
    run-d (for_loop n a lo hi x y e) b = step-any (λ b. after-d n (eval_code x) λ u. after-d n (eval_code y) λ v. counting-d n a lo hi (sole u) (sole v) (λ k. run-d e k) b) b
    run-d (case_of n c bs) b = step-any (λ b. after-d n (eval_code c) λ x. picks-d bs n (sole x) b) b
    run-d (call_to n p cs) b = step-any (λ b. after-d n (run_arguments (procedure_at ps p).frame.wants cs) λ zs. entered-d (procedure_at ps p) zs (hp p b)) b
    run-d (raise_with n c) b = step-any (λ b. after-d n (eval_code c) λ x. raises-d b n (sole x)) b
    run-d no_act b = answer-d λ _. normally

    pub runs-d : (bs : Acts) (b : ℕ) → Falls b (run_acts ps bs)
    runs-d stop b = answer-d λ _. normally
    runs-d (a also bs) b = then-d (run-d a b) (runs-d bs b)

    pub picks-d : (bs : Cases) (n : ℕ) (z : ℤ) (b : ℕ) → Falls b (run_cases ps n z bs)
    picks-d (else_case a) n z b = run-d a b
    picks-d no_case n z b = raising-d _ n
    picks-d (one_case ls a bs) n z b = branch-d (matches z ls) (run-d a b) (picks-d bs n z b)
