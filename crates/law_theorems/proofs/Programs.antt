-- Demand 3, steps: at most the budget's; spent only after exactly the budget's; more budget changes nothing of a run that ended.
use mathlib.Core.Path.{◌≡◌, refl}
use mathlib.Core.Bool.{Bool, true, false}
use mathlib.Core.List.{List, [], ◌∷◌, ◌++◌}
use Prim.Native.Nat.{ℕ, zero, suc, ◌≤◌}
use native.Mathlib.Omega.{arith}
use Rattle.law.specs.Code.{BodyCode, no_frame}
use Rattle.law.specs.Machine.{Answer, Outcome, Proc, Procs, State, answer, caught, handled, normal, proc, procedure_at, raised, spent, sticks}
use Rattle.law.specs.Whole.{run_all, run_body}
use Rattle.law_theorems.proofs.SpentOnly as Spent
use Rattle.law_theorems.proofs.MoreBudget.{Ends, more, more_a, Stable, runs-f, answer-f}
use Rattle.law_theorems.proofs.SpentOnly.{Falls, Used, Ended, used, weaker, runs-d, answer-d}

-- ---- a property of every procedure, and of the whole

pub calling-all : (P : Proc → Type 0) → P (proc no_frame (answer normal)) → (ps : Procs) (f : Proc) → P f → ((i : ℕ) → P (procedure_at ps i)) → (i : ℕ) → P (procedure_at (ps ++ (f ∷ [])) i)
unfolding procedure_at
calling-all P d [] f hf h zero = hf
calling-all P d [] f hf h (suc i) = d
calling-all P d (p ∷ ps) f hf h zero = h zero
calling-all P d (p ∷ ps) f hf h (suc i) = calling-all P d ps f hf (λ j. h (suc j)) i

pub all-bodies : (P : (State → Answer) → Type 0) → P (answer normal) → ((b : BodyCode) (ps : Procs) → ((i : ℕ) → P (procedure_at ps i).run) → P (run_body b ps))
    → (bs : List BodyCode) (ps : Procs) → ((i : ℕ) → P (procedure_at ps i).run) → P (run_all bs ps)
unfolding run_all
all-bodies P d k [] ps h = d
all-bodies P d k (b ∷ []) ps h = k b ps h
all-bodies P d k (b ∷ (c ∷ bs)) ps h = all-bodies P d k (c ∷ bs) (ps ++ (proc b.frame (run_body b ps) ∷ [])) (calling-all (λ f. P f.run) d ps _ (k b ps h) h)

pub no-procs : (P : Proc → Type 0) → P (proc no_frame (answer normal)) → (i : ℕ) → P (procedure_at [] i)
unfolding procedure_at
no-procs P d i = d

-- ---- more budget

module _ (k : ℕ) where
  caught-ends : (f : State → Answer) (o : Outcome) (st : State) → Ends (caught o st f).outcome → Ends o
  caught-ends f normal st e = tt
  caught-ends f spent st e = e
  caught-ends f sticks st e = tt
  caught-ends f (raised z n) st e = tt

  caught-f : {f : State → Answer} → Stable k f → (o : Outcome) (st : State) → Ends (caught o st f).outcome → caught o (more k st) f ≡ more_a k (caught o st f)
  caught-f h normal st e = refl
  caught-f h spent st e = refl
  caught-f h sticks st e = refl
  caught-f h (raised z n) st e = h.at st e

  handled-f : (b : Bool) {f g : State → Answer} → Stable k f → Stable k g → Stable k (λ st. handled b (f st) g)
  handled-f true {f} {g} hf hg = record {
    at = λ st e.
        rw (hf.at st (caught-ends g (f st).outcome (f st).state e)) (caught-f hg (f st).outcome (f st).state e);
  }
  handled-f false hf hg = hf

  pub body-f : (b : BodyCode) (ps : Procs) → ((i : ℕ) → Stable k (procedure_at ps i).run) → Stable k (run_body b ps)
  unfolding run_body
  body-f b ps h = handled-f b.handles (runs-f k ps h b.acts) (runs-f k ps h b.handler)

  -- a run that ended goes the same way with k more steps to spare
  pub program-f : (bs : List BodyCode) → Stable k (run_all bs [])
  program-f bs = all-bodies (Stable k) (answer-f k normal) body-f bs [] (no-procs (λ f. Stable k f.run) (answer-f k normal))

-- ---- spent only with no step left

abbrev D : (State → Answer) → Type 0
D f = (b : ℕ) → Falls b f

caught-d : {f : State → Answer} → D f → {n : ℕ} {o : Outcome} (st : State) → st.left ≤ n → Ended st.left o → Used n (caught o st f)
caught-d h st l Spent.normally = used l Spent.normally
caught-d h st l Spent.stuckly = used l Spent.stuckly
caught-d h st l Spent.exception = weaker l ((h st.left).at st (omega arith))
caught-d h st l (Spent.spending e) = used l (Spent.spending e)

handled-d : (q : Bool) {f g : State → Answer} → D f → D g → D (λ st. handled q (f st) g)
handled-d true {f} hf hg b = record { at = λ st l. let u = (hf b).at st l in caught-d hg (f st).state u.less u.ended }
handled-d false hf hg b = hf b

pub body-d : (b : BodyCode) (ps : Procs) → ((i : ℕ) → D (procedure_at ps i).run) → D (run_body b ps)
unfolding run_body
body-d b ps h = handled-d b.handles (runs-d ps h b.acts) (runs-d ps h b.handler)

pub program-d : (bs : List BodyCode) (b : ℕ) → Falls b (run_all bs [])
program-d bs = all-bodies D (λ b. answer-d λ _. Spent.normally) body-d bs [] (no-procs (λ f. D f.run) (λ b. answer-d λ _. Spent.normally))
