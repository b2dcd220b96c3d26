-- A run that ends within its budget ends in the same way, after as many steps, with any larger one.
use mathlib.Core.Path.{◌≡◌, refl}
use mathlib.Core.Bool.{Bool, true, false}
use mathlib.Core.List.{List}
use Prim.Native.Nat.{ℕ, zero, suc, ◌+◌, ◌≤◌}
use native.Mathlib.Nat.{le_of_suc-le-suc, suc-add, not-suc-le-zero}
use native.Mathlib.Omega.{arith}
use lib.IntN.{ℤ, suc_ℤ}
use Rattle.leaf_integers.specs.Integers.{inside, is_zero}
use Rattle.law.specs.Calculate.{Result, fails, is, is_true, stuck}
use Rattle.law.specs.Chair.{condition, eval_code, matches, place_code, run_act, run_acts, run_arguments, run_cases}
use Rattle.law.specs.Code.{Act, Acts, Cases, Code, Frame, ◌also◌, assign_ordinal, assign_cell, copy_cells, load, branch_on, call_to, case_of, else_case, for_loop, no_case, no_act, one_case, raise_with, sequence, stop, while_loop}
use Rattle.law.specs.Machine.{Answer, Outcome, Proc, Procs, State, Store, and_then, answer, branch, continued, Plan, count_up, ended, entered, for_rounds, no_round, opened, outside, planned, rounds, normal, pass_on, procedure_at, raise_number, raised, raising, returning, set_control, sole, spent, state, step, step_if, sticks, stored, store_ordinal, store_whole, while_rounds, with_result}

abbrev pub more : ℕ → State → State
more k s = state s.store (s.left + k)

abbrev pub more_a : ℕ → Answer → Answer
more_a k a = answer a.outcome (more k a.state)

abbrev pub Ends : Outcome → Type 0
Ends normal = Unit {0}
Ends spent = ⊥
Ends sticks = Unit {0}
Ends (raised z n) = Unit {0}

-- g, with k steps more, does what f does, where f ends. A record, so that f and g are read off its type
pub record Follows (k : ℕ) (f g : State → Answer) : Type 0 where
  pub at : (s : State) → Ends (f s).outcome → g (more k s) ≡ more_a k (f s)

abbrev pub Stable : ℕ → (State → Answer) → Type 0
Stable k f = Follows k f f

module _ (k : ℕ) where
  due-f : {f g : State → Answer} → Follows k f g → (n : ℕ) (s : State) → Ends (step_if n s f).outcome → step_if (n + k) (more k s) g ≡ more_a k (step_if n s f)
  due-f h zero s e = absurd e
  due-f h (suc n) s e = rw suc-add (h.at (state s.store n) e)

  step-f : {f g : State → Answer} → Follows k f g → Follows k (λ s. step s f) (λ s. step s g)
  step-f h = record { at = λ s e. due-f h s.left s e }

  onto-f : {f g : State → Answer} → Follows k f g → (o : Outcome) (s : State) → Ends (continued o s f).outcome → continued o (more k s) g ≡ more_a k (continued o s f)
  onto-f h normal s e = h.at s e
  onto-f h spent s e = refl
  onto-f h sticks s e = refl
  onto-f h (raised z n) s e = refl

  onto-ends : (f : State → Answer) (o : Outcome) (s : State) → Ends (continued o s f).outcome → Ends o
  onto-ends f normal s e = tt
  onto-ends f spent s e = e
  onto-ends f sticks s e = tt
  onto-ends f (raised z n) s e = tt

  then-f : {f f' g g' : State → Answer} → Follows k f f' → Follows k g g' → Follows k (λ s. and_then (f s) g) (λ s. and_then (f' s) g')
  then-f {f} {g} hf hg = record {
    at = λ s e.
        rw (hf.at s (onto-ends g (f s).outcome (f s).state e)) (onto-f hg (f s).outcome (f s).state e);
  }

  branch-f : (b : Bool) {f f' g g' : State → Answer} → Follows k f f' → Follows k g g' → Follows k (branch b f g) (branch b f' g')
  branch-f true hf hg = hf
  branch-f false hf hg = hg

  after-f : {A : Type 0} (n : ℕ) (v : Store → Result A) {f g : A → State → Answer} → ((z : A) → Follows k (f z) (g z))
      → Follows k (λ s. with_result n s (v s.store) (λ z. f z s)) (λ s. with_result n s (v s.store) (λ z. g z s))
  after-f {A} n v {f} {g} h = record { at = λ s e. go s (v s.store) e }
    where
      go : (s : State) (w : Result A) → Ends (with_result n s w (λ z. f z s)).outcome → with_result n (more k s) w (λ z. g z (more k s)) ≡ more_a k (with_result n s w (λ z. f z s))
      go s (is z) e = (h z).at s e
      go s (fails z) e = refl
      go s stuck e = refl

  check-f : (n : ℕ) (c : Code) {f g : Bool → State → Answer} → ((b : Bool) → Follows k (f b) (g b))
      → Follows k (λ s. condition n c s (λ b. f b s)) (λ s. condition n c s (λ b. g b s))
  unfolding condition
  check-f n c h = after-f n (eval_code c) (λ z. h (is_true (sole z)))

  pub answer-f : (o : Outcome) → Stable k (answer o)
  answer-f o = record { at = λ s e. refl }

  raising-f : (z : ℤ) (n : ℕ) → Stable k (raising z n)
  raising-f z n = record { at = λ s e. refl }

  keep-f : (n a : ℕ) (lo hi z : ℤ) → Stable k (store_ordinal n a lo hi z)
  unfolding store_ordinal
  keep-f n a lo hi z = branch-f (inside lo hi z) (record { at = λ s e. refl }) (raising-f _ n)

  copy-f : (n a : ℕ) (zs : List ℤ) → Stable k (store_whole n a zs)
  unfolding store_whole
  copy-f n a zs = record { at = λ s e. refl }

  passes-f : (n : ℕ) → Stable k (pass_on n)
  unfolding pass_on
  passes-f n = record { at = λ s. (branch-f (is_zero s.store.latest) (raising-f _ n) (answer-f _)).at s }

  raises-f : (n : ℕ) (z : ℤ) → Stable k (raise_number n z)
  unfolding raise_number
  raises-f n z = branch-f (is_zero z) (passes-f n) (raising-f z n)

  rounds-f : (n : ℕ) (c : Code) (body : State → Answer) → Stable k body → (f g : ℕ) → f ≤ g → Follows k (while_rounds f (condition n c) body) (while_rounds g (condition n c) body)
  unfolding while_rounds
  rounds-f n c body h zero zero le = check-f n c λ b. branch-f b (answer-f spent) (answer-f normal)
  rounds-f n c body h zero (suc g) le = check-f n c λ b. branch-f b (record { at = λ s e. absurd e }) (answer-f normal)
  rounds-f n c body h (suc f) zero le = absurd (not-suc-le-zero le)
  rounds-f n c body h (suc f) (suc g) le =
      check-f n c λ b. branch-f b (step-f (then-f h (rounds-f n c body h f g (le_of_suc-le-suc le)))) (answer-f normal)

  pub set-f : (a : ℕ) (z : ℤ) {body : State → Answer} → Stable k body → Stable k (λ s. body (set_control a z s))
  set-f a z h = record { at = λ s e. h.at (set_control a z s) e }

  ended-f : (a : ℕ) → Stable k (ended a)
  ended-f a = record { at = λ s e. refl }

  pub turns-f : (j a : ℕ) {body : State → Answer} → Stable k body → (z : ℤ) → Stable k (for_rounds j a body z)
  unfolding for_rounds
  turns-f zero a h z = ended-f a
  turns-f (suc j) a h z = step-f (then-f (set-f a z h) (turns-f j a h (suc_ℤ z)))

  opened-f : (q : Plan) (n a : ℕ) (x : ℤ) {body : State → Answer} → Stable k body → Stable k (opened q n a x body)
  unfolding opened
  opened-f no_round n a x h = ended-f a
  opened-f outside n a x h = raising-f _ n
  opened-f (rounds j) n a x h = turns-f j a h x

  counting-f : (n a : ℕ) (lo hi x y : ℤ) {body : State → Answer} → Stable k body → Stable k (count_up n a lo hi x y body)
  unfolding count_up
  counting-f n a lo hi x y h = opened-f (planned lo hi x y) n a x h

  -- a call: what is left of the budget plays no part at its return
  pub returning-f : (q : Frame) (o : Outcome) (s : State) → returning q o (more k s) ≡ more_a k (returning q o s)
  returning-f q normal s = refl
  returning-f q spent s = refl
  returning-f q sticks s = refl
  returning-f q (raised z n) s = refl

  returning-ends : (q : Frame) (o : Outcome) (s : State) → Ends (returning q o s).outcome → Ends o
  returning-ends q normal s e = tt
  returning-ends q spent s e = e
  returning-ends q sticks s e = tt
  returning-ends q (raised z n) s e = tt

  pub entered-f : (f : Proc) (zs : List ℤ) → Stable k f.run → Stable k (entered f zs)
  unfolding entered
  entered-f f zs h = record {
    at = λ s e.
        let t = state (stored f.frame.base zs s.store) s.left in
        rw (h.at t (returning-ends f.frame (f.run t).outcome (f.run t).state e)) (returning-f f.frame (f.run t).outcome (f.run t).state);
  }

  module _ (ps : Procs) (hp : (p : ℕ) → Stable k (procedure_at ps p).run) where
    mutual
      unfolding run_act

      pub run-f : (a : Act) → Stable k (run_act ps a)
      run-f (assign_ordinal n p lo hi c) = step-f (after-f n (eval_code c) λ zs. after-f n (place_code p) λ a. keep-f n a lo hi (sole zs))
      run-f (assign_cell n p c) = step-f (after-f n (eval_code c) λ zs. after-f n (place_code p) λ a. copy-f n a zs)
      run-f (copy_cells n p q k) = step-f (after-f n (eval_code (load q k)) λ zs. after-f n (place_code p) λ a. copy-f n a zs)
      run-f (sequence n bs) = step-f (runs-f bs)
      run-f (branch_on n c a b) = step-f (check-f n c λ q. branch-f q (run-f a) (run-f b))
      run-f (while_loop n c a) = step-f (record { at = λ s. (rounds-f n c (run_act ps a) (run-f a) s.left (s.left + k) (omega arith)).at s })
      run-f (for_loop n a lo hi x y b) = step-f (after-f n (eval_code x) λ u. after-f n (eval_code y) λ v. counting-f n a lo hi (sole u) (sole v) (run-f b))
      run-f (case_of n c bs) = step-f (after-f n (eval_code c) λ x. picks-f bs n (sole x))
      run-f (call_to n p cs) = step-f (after-f n (run_arguments (procedure_at ps p).frame.wants cs) λ zs. entered-f (procedure_at ps p) zs (hp p))
      run-f (raise_with n c) = step-f (after-f n (eval_code c) λ x. raises-f n (sole x))
      run-f no_act = answer-f normal

      pub runs-f : (bs : Acts) → Stable k (run_acts ps bs)
      runs-f stop = answer-f normal
      runs-f (a also bs) = then-f (run-f a) (runs-f bs)

      pub picks-f : (bs : Cases) (n : ℕ) (z : ℤ) → Stable k (run_cases ps n z bs)
      picks-f (else_case a) n z = run-f a
      picks-f no_case n z = raising-f _ n
      picks-f (one_case ls a bs) n z = branch-f (matches z ls) (run-f a) (picks-f bs n z)
