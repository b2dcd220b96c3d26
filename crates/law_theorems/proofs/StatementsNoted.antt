-- The statement that a run notes with an exception is one of the script's, so at most 4,096.
use mathlib.Core.Bool.{Bool, true, false}
use mathlib.Core.List.{List, [], ◌∷◌, ◌++◌}
use Prim.Native.Nat.{ℕ, zero, suc, ◌≤◌}
use lib.IntN.{ℤ, suc_ℤ}
use Rattle.leaf_integers.specs.Integers.{inside, is_zero}
use Rattle.law.specs.Calculate.{Result, case_error, fails, is, is_true, range_error, stuck, system_error}
use Rattle.law.specs.Chair.{condition, eval_code, matches, place_code, run_act, run_acts, run_arguments, run_cases}
use Rattle.law.specs.Code as C
use Rattle.law.specs.Code.{BodyCode}
use Rattle.law.specs.Machine.{Answer, Outcome, Plan, Proc, Procs, State, and_then, answer, branch, caught, continued, count_up, ended, entered, for_rounds, handled, no_round, normal, opened, outside, pass_on, planned, proc, procedure_at, raise_number, raised, raising, returning, rounds, set_control, sole, spent, state, step, step_if, sticks, stored, store_ordinal, store_whole, while_rounds, with_result}
use Rattle.law.specs.Whole.{run_all, run_body}
use Rattle.law_theorems.specs.Bodies as Numbered
use Rattle.law_theorems.specs.Bodies.{Bodies}
use Rattle.law_theorems.specs.CodeSized as Sized
use Rattle.law_theorems.specs.CodeSized.{SizedAct, SizedActs, SizedBody, SizedCases}
use Rattle.law_theorems.proofs.Programs.{calling-all}
use Rattle.law_theorems.specs.StatementNumbers.{Number}
use Rattle.law_theorems.specs.StatementsNoted.{Notes}

pub answer-n : (o : Outcome) → Notes (answer o)
answer-n o = record { at = λ s g. g }

due-n : {f : State → Answer} → Notes f → (n : ℕ) (s : State) → s.store.place ≤ 4096 → (step_if n s f).state.store.place ≤ 4096
due-n h zero s g = g
due-n h (suc n) s g = h.at (state s.store n) g

step-n : {f : State → Answer} → Notes f → Notes (λ s. step s f)
step-n h = record { at = λ s g. due-n h s.left s g }

onto-n : {f : State → Answer} → Notes f → (o : Outcome) (s : State) → s.store.place ≤ 4096 → (continued o s f).state.store.place ≤ 4096
onto-n h normal s g = h.at s g
onto-n h spent s g = g
onto-n h sticks s g = g
onto-n h (raised z n) s g = g

then-n : {f g : State → Answer} → Notes f → Notes g → Notes (λ s. and_then (f s) g)
then-n {f} hf hg = record { at = λ s g. onto-n hg (f s).outcome (f s).state (hf.at s g) }

caught-n : {f : State → Answer} → Notes f → (o : Outcome) (s : State) → s.store.place ≤ 4096 → (caught o s f).state.store.place ≤ 4096
caught-n h normal s g = g
caught-n h spent s g = g
caught-n h sticks s g = g
caught-n h (raised z n) s g = h.at s g

handled-n : (b : Bool) {f g : State → Answer} → Notes f → Notes g → Notes (λ s. handled b (f s) g)
handled-n true {f} hf hg = record { at = λ s g. caught-n hg (f s).outcome (f s).state (hf.at s g) }
handled-n false hf hg = hf

branch-n : (b : Bool) {f g : State → Answer} → Notes f → Notes g → Notes (branch b f g)
branch-n true hf hg = hf
branch-n false hf hg = hg

raising-n : (z : ℤ) {n : ℕ} → Number 4096 n → Notes (raising z n)
raising-n z N = record { at = λ s g. N.to }

-- what goes on with a result
after-n : {A : Type 0} {n : ℕ} → Number 4096 n → (v : State → Result A) {f : A → State → Answer} → ((a : A) → Notes (f a)) → Notes (λ s. with_result n s (v s) λ a. f a s)
after-n {A} {n} N v {f} h = record { at = λ s g. go s (v s) g }
  where
    go : (s : State) (r : Result A) → s.store.place ≤ 4096 → (with_result n s r (λ a. f a s)).state.store.place ≤ 4096
    go s (is a) g = (h a).at s g
    go s (fails z) g = N.to
    go s stuck g = g

check-n : {n : ℕ} → Number 4096 n → (c : C.Code) {f : Bool → State → Answer} → ((b : Bool) → Notes (f b)) → Notes (λ s. condition n c s λ b. f b s)
unfolding condition
check-n N c h = after-n N (λ s. eval_code c s.store) λ x. h (is_true (sole x))

ordinal-n : {n : ℕ} → Number 4096 n → (a : ℕ) (lo hi z : ℤ) → Notes (store_ordinal n a lo hi z)
unfolding store_ordinal
ordinal-n N a lo hi z = branch-n (inside lo hi z) (record { at = λ s g. g }) (raising-n range_error N)

whole-n : (n a : ℕ) (zs : List ℤ) → Notes (store_whole n a zs)
unfolding store_whole
whole-n n a zs = record { at = λ s g. g }

pass-n : {n : ℕ} → Number 4096 n → Notes (pass_on n)
unfolding pass_on
pass-n N = record { at = λ s. (branch-n (is_zero s.store.latest) (raising-n system_error N) (answer-n (raised s.store.latest s.store.place))).at s }

raise-n : {n : ℕ} → Number 4096 n → (z : ℤ) → Notes (raise_number n z)
unfolding raise_number
raise-n N z = branch-n (is_zero z) (pass-n N) (raising-n z N)

while-n : {n : ℕ} → Number 4096 n → (c : C.Code) {body : State → Answer} → Notes body → (f : ℕ) → Notes (while_rounds f (condition n c) body)
unfolding while_rounds
while-n N c h zero = check-n N c λ b. branch-n b (answer-n spent) (answer-n normal)
while-n N c h (suc f) = check-n N c λ b. branch-n b (step-n (then-n h (while-n N c h f))) (answer-n normal)

ended-n : (a : ℕ) → Notes (ended a)
ended-n a = record { at = λ s g. g }

for-n : (a : ℕ) {body : State → Answer} → Notes body → (k : ℕ) (z : ℤ) → Notes (for_rounds k a body z)
unfolding for_rounds
for-n a h zero z = ended-n a
for-n a {body} h (suc k) z = step-n (then-n {f = λ s. body (set_control a z s)} (record { at = λ s g. h.at (set_control a z s) g }) (for-n a h k (suc_ℤ z)))

opened-n : {n : ℕ} → Number 4096 n → (a : ℕ) (x : ℤ) {body : State → Answer} → Notes body → (p : Plan) → Notes (opened p n a x body)
unfolding opened
opened-n N a x h no_round = ended-n a
opened-n N a x h outside = raising-n range_error N
opened-n N a x h (rounds k) = for-n a h k x

count-n : {n : ℕ} → Number 4096 n → (a : ℕ) (lo hi x y : ℤ) {body : State → Answer} → Notes body → Notes (count_up n a lo hi x y body)
unfolding count_up
count-n N a lo hi x y h = opened-n N a x h (planned lo hi x y)

returning-n : (q : C.Frame) (o : Outcome) (s : State) → s.store.place ≤ 4096 → (returning q o s).state.store.place ≤ 4096
returning-n q normal s g = g
returning-n q spent s g = g
returning-n q sticks s g = g
returning-n q (raised z n) s g = g

entered-n : (f : Proc) → Notes f.run → (zs : List ℤ) → Notes (entered f zs)
unfolding entered
entered-n f h zs = record { at = λ s g. let t = state (stored f.frame.base zs s.store) s.left in returning-n f.frame (f.run t).outcome (f.run t).state (h.at t g) }

module _ (ps : Procs) (h : (i : ℕ) → Notes (procedure_at ps i).run) where
  mutual
    unfolding run_act run_acts run_cases

    run-n : {a : C.Act} → SizedAct a → Notes (run_act ps a)
    run-n (Sized.assign_ordinal {p = p} {lo = lo} {hi = hi} {c = c} N P L H S) =
        step-n (after-n N (λ s. eval_code c s.store) λ zs. after-n N (λ s. place_code p s.store) λ a. ordinal-n N a lo hi (sole zs))
    run-n (Sized.assign_cell {n = n} {p = p} {c = c} N P S) = step-n (after-n N (λ s. eval_code c s.store) λ zs. after-n N (λ s. place_code p s.store) λ a. whole-n n a zs)
    run-n (Sized.copy_cells {n = n} {k = k} {p = p} {q = q} N P Q) = step-n (after-n N (λ s. eval_code (C.load q k) s.store) λ zs. after-n N (λ s. place_code p s.store) λ a. whole-n n a zs)
    run-n (Sized.sequence N B) = step-n (runs-n B)
    run-n (Sized.branch_on {c = c} N S A B) = step-n (check-n N c λ b. branch-n b (run-n A) (run-n B))
    run-n (Sized.while_loop {c = c} N S A) = step-n (record { at = λ s. (while-n N c (run-n A) s.left).at s })
    run-n (Sized.for_loop {i = i} {lo = lo} {hi = hi} {x = x} {y = y} N I L H X Y A) =
        step-n (after-n N (λ s. eval_code x s.store) λ u. after-n N (λ s. eval_code y s.store) λ v. count-n N i lo hi (sole u) (sole v) (run-n A))
    run-n (Sized.case_of {c = c} N S B) = step-n (after-n N (λ s. eval_code c s.store) λ x. cases-n N (sole x) B)
    run-n (Sized.call_to {p = p} {cs = cs} N S) =
        step-n (after-n N (λ s. run_arguments (procedure_at ps p).frame.wants cs s.store) λ zs. entered-n (procedure_at ps p) (h p) zs)
    run-n (Sized.raise_with {c = c} N S) = step-n (after-n N (λ s. eval_code c s.store) λ x. raise-n N (sole x))
    run-n Sized.no_act = answer-n normal

    pub runs-n : {bs : C.Acts} → SizedActs bs → Notes (run_acts ps bs)
    runs-n Sized.stop = answer-n normal
    runs-n (Sized.◌also◌ A B) = then-n (run-n A) (runs-n B)

    cases-n : {n : ℕ} → Number 4096 n → (z : ℤ) {bs : C.Cases} → SizedCases bs → Notes (run_cases ps n z bs)
    cases-n N z (Sized.else_case A) = run-n A
    cases-n N z Sized.no_case = raising-n case_error N
    cases-n N z (Sized.one_case {ls = ls} L A B) = branch-n (matches z ls) (run-n A) (cases-n N z B)

  body-n : {b : BodyCode} → SizedBody b → Notes (run_body b ps)
  unfolding run_body
  body-n {b} S = handled-n b.handles (runs-n S.acts) (runs-n S.handler)

pub all-n : {k : ℕ} {bs : List BodyCode} → Bodies (λ _. SizedBody) k bs → (ps : Procs) → ((i : ℕ) → Notes (procedure_at ps i).run) → Notes (run_all bs ps)
unfolding run_all
all-n Numbered.none ps h = answer-n normal
all-n (Numbered.body S Numbered.none) ps h = body-n ps h S
all-n (Numbered.body {b = b} S (Numbered.body T B)) ps h = all-n (Numbered.body T B) (ps ++ (proc b.frame (run_body b ps) ∷ [])) (calling-all (λ f. Notes f.run) (answer-n normal) ps (proc b.frame (run_body b ps)) (body-n ps h S) h)
