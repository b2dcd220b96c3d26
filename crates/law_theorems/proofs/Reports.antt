-- What the report of a code's run says of its outcome and steps.
use mathlib.Core.Path.{◌≡◌, refl, ap, ◌∙◌}
use mathlib.Core.List.{List, []}
use Prim.Native.Nat.{ℕ, zero, suc, ◌+◌, ◌-◌, ◌≤◌}
use native.Mathlib.Omega.{arith}
use Rattle.law.specs.Code.{BodyCode}
use Rattle.law.specs.Machine.{Answer, Outcome, Store, answer, normal, raised, spent, state, sticks}
use Rattle.law.specs.Whole.{ran, report, run_all}
use Rattle.law_theorems.proofs.SpentOnly as Spent
use Rattle.law_theorems.proofs.MoreBudget.{Ends}
use Rattle.law_theorems.proofs.SpentOnly.{Ended}
use Rattle.law_theorems.proofs.Programs.{program-f, program-d}
use Rattle.law_theorems.proofs.StepDue.{program-l}
use Rattle.law_theorems.proofs.PassesThrough.{Goes, program-p}
use Rattle.law_theorems.proofs.StoreInRange.{Moved, normally, out_of_steps, by_exception}

ran-outcome : {o p : Outcome} {n m : ℕ} → ran o n ≡ ran p m → o ≡ p
ran-outcome {o} {p} {n} {m} h = cc

ran-steps : {o p : Outcome} {n m : ℕ} → ran o n ≡ ran p m → n ≡ m
ran-steps {o} {p} {n} {m} h = cc

not_stuck : {o : Outcome} → Moved o → o ≡ sticks → ⊥
not_stuck normally e = let z : ◌≡◌ {A = ℕ} 0 1 = cc in omega arith
not_stuck out_of_steps e = let z : ◌≡◌ {A = ℕ} 0 1 = cc in omega arith
not_stuck by_exception e = let z : ◌≡◌ {A = ℕ} 0 1 = cc in omega arith

nothing_left : {n : ℕ} {o : Outcome} → Ended n o → o ≡ spent → n ≡ 0
nothing_left Spent.normally e = absurd (let z : ◌≡◌ {A = ℕ} 0 1 = cc in omega arith)
nothing_left Spent.stuckly e = absurd (let z : ◌≡◌ {A = ℕ} 0 1 = cc in omega arith)
nothing_left Spent.exception e = absurd (let z : ◌≡◌ {A = ℕ} 0 1 = cc in omega arith)
nothing_left (Spent.spending z) e = z

not-spent : (o : Outcome) → (o ≡ spent → ⊥) → Ends o
not-spent normal h = tt
not-spent spent h = h refl
not-spent sticks h = tt
not-spent (raised z n) h = tt

module _ (cs : List BodyCode) (m : Store) where
  abbrev pub ended : ℕ → Answer
  ended budget = run_all cs [] (state m budget)

  used : (budget : ℕ) → Spent.Used budget (ended budget)
  used budget = (program-d cs budget).at (state m budget) (omega arith)

  module _ (cells : ℕ) where
    pub moved_on : (budget n : ℕ) → Moved (ended budget).outcome → (report cells budget (ended budget)).ending ≡ ran sticks n → ⊥
    unfolding report
    moved_on budget n m h = not_stuck m (ran-outcome h)

    pub at-most : (budget n : ℕ) (o : Outcome) → (report cells budget (ended budget)).ending ≡ ran o n → n ≤ budget
    unfolding report
    at-most budget n o h = let e : budget - (ended budget).state.left ≡ n = ran-steps h in omega arith

    pub all-spent : (budget n : ℕ) → (report cells budget (ended budget)).ending ≡ ran spent n → n ≡ budget
    unfolding report
    all-spent budget n h =
        let e : budget - (ended budget).state.left ≡ n = ran-steps h in
        let z : (ended budget).state.left ≡ 0 = nothing_left (used budget).ended (ran-outcome h) in
        omega arith

    pub next-taken : (budget n k : ℕ) (o : Outcome) → (report cells budget (ended budget)).ending ≡ ran spent n → (report cells (budget + 1) (ended (budget + 1))).ending ≡ ran o k → k ≡ budget + 1
    unfolding report
    next-taken budget n k o h h' =
        let e : (budget + 1) - (ended (budget + 1)).state.left ≡ k = ran-steps h' in
        let z : (ended (budget + 1)).state.left ≡ 0 = go (ended (budget + 1)).state.left refl (ran-outcome h) in
        omega arith
      where
        go : (l : ℕ) → (ended (budget + 1)).state.left ≡ l → (ended budget).outcome ≡ spent → (ended (budget + 1)).state.left ≡ 0
        go zero e p = e
        go (suc l) e p =
            let q = (program-l cs budget).at (state m budget) (omega arith) (omega arith) in
            nothing_left (used (budget + 1)).ended (ap (λ (a : Answer). a.outcome) q ∙ p)

    more-less : (b l k : ℕ) → (b + k) - (l + k) ≡ b - l
    more-less b l k = omega arith

    pub same-report : (budget k n : ℕ) (o : Outcome) → (report cells budget (ended budget)).ending ≡ ran o n → (o ≡ spent → ⊥) → report cells (budget + k) (ended (budget + k)) ≡ report cells budget (ended budget)
    unfolding report
    same-report budget k n o h e =
        let o' : Ends (ended budget).outcome = rw (ran-outcome h) (not-spent o e) in
        rw ((program-f k cs).at (state m budget) o', more-less budget (ended budget).state.left k)

    -- a run that is spent: its report by the store alone, and how it goes on
    pub spent-report : (budget n : ℕ) → (report cells budget (ended budget)).ending ≡ ran spent n
        → report cells budget (ended budget) ≡ report cells budget (answer spent (state (ended budget).state.store 0))
    unfolding report
    spent-report budget n h =
        let z : (ended budget).state.left ≡ 0 = nothing_left (used budget).ended (ran-outcome h) in
        rw (ran-outcome h, z)

    pub goes_on : (budget n : ℕ) → (report cells budget (ended budget)).ending ≡ ran spent n → Goes [] (λ k. ended (budget + k)) (ended budget).state.store
    unfolding report
    goes_on budget n h = (program-p cs (state m budget)).at (ran-outcome h)
