-- The demands of document 01 as statements on whole texts (`verdict_of`, `run_of`, `mark_of`, `work_after`). Nothing is proved here: the theorem is
-- proofs/DemandsHold.antt: `demands-hold`. What the code answers is tied to these definitions by the contracts of its public functions.
use Rattle.std.specs.Prelude.{◌≡◌, List, [], ℕ, ◌+◌, ◌<◌, ◌≤◌, ℤ, get_or, length}
use Rattle.std.proofs.Math.Option.{Option, none, some}
use Rattle.law.specs.Machine.{Outcome, Store, answer, spent, state, sticks}
use Rattle.law.specs.Rest.{Rest, resume}
use Rattle.law.specs.Store.{store_fault}
use Rattle.law.specs.Verdict.{Read, accepted, refused}
use Rattle.law.specs.Whole.{Report, mark_of, ran, refusal, report, reported, run_of, verdict_of, work_after}

-- what rows 10 and 11 find in a store for a script
abbrev pub fault_in : Read → List ℤ → List ℕ → Option ℕ
fault_in r vs ms = store_fault r.known.env.types r.known.cells vs ms

-- "The first 16,384 working numbers, or all if there are fewer, are 0 after every call; any further ones are untouched"
pub record WorkCleared (w : List ℕ) : Type 0 where
  pub as_long : length (work_after w) ≡ length w
  pub zeros : (i x : ℕ) → i < 16384 → i < length w → get_or (work_after w) i x ≡ 0
  pub further : (i x : ℕ) → 16384 ≤ i → get_or (work_after w) i x ≡ get_or w i x

-- a text, a working list's length and a lent store
module _ (text : List ℕ) (work : ℕ) (vs : List ℤ) (ms : List ℕ) where
  -- what each machine reports at a budget: outcome, steps and both lists
  abbrev pub run : ℕ → Report
  run budget = run_of text work vs ms budget

  abbrev pub marking : ℕ → Report
  marking budget = mark_of text work vs ms budget

  -- ---- demand 1, "For each input, refused ones too"

  -- "A refusal gives number and line .. The store is left as lent"
  abbrev pub LeftAsLent : (ℕ → Report) → Type 0
  LeftAsLent machine = (budget n l : ℕ) → (machine budget).ending ≡ refusal n l → machine budget ≡ reported (refusal n l) vs ms

  -- a refused text gives its number and line
  abbrev pub RefusesText : Type 0
  RefusesText = (budget n l : ℕ) → verdict_of text work ≡ refused n l → (run budget).ending ≡ refusal n l

  -- a refused store gives row 10 or 11; "the line is 0"
  abbrev pub RefusesStore : Type 0
  RefusesStore = (r : Read) → verdict_of text work ≡ accepted r → (budget n : ℕ) → fault_in r vs ms ≡ some n → (run budget).ending ≡ refusal n 0

  -- "a text, working list or store is accepted when no numbered refusal applies to it, whatever the checker answers"; r is what the text says
  pub record Accepted (r : Read) : Type 0 where
    pub text-fits : verdict_of text work ≡ accepted r
    pub store-fits : fault_in r vs ms ≡ none

  -- ---- demand 2, steps

  -- at most the budget's steps are taken
  abbrev pub StepsWithin : Type 0
  StepsWithin = (budget n : ℕ) (o : Outcome) → (run budget).ending ≡ ran o n → n ≤ budget

  -- "spent only after budget steps ..
  abbrev pub SpentAfter : Type 0
  SpentAfter = (budget n : ℕ) → (run budget).ending ≡ ran spent n → n ≡ budget

  -- .. with one more due": with a budget of one more, that step is taken
  abbrev pub OneMoreDue : Type 0
  OneMoreDue = (budget n m : ℕ) (o : Outcome) → (run budget).ending ≡ ran spent n → (run (budget + 1)).ending ≡ ran o m → m ≡ budget + 1

  -- a run that ended otherwise ends so with any larger budget: with the same outcome, steps and store
  abbrev pub LargerBudget : Type 0
  LargerBudget = (budget k n : ℕ) (o : Outcome) → (run budget).ending ≡ ran o n → (o ≡ spent → ⊥) → run (budget + k) ≡ run budget

  -- ---- demand 3

  -- the marking machine answers what the run answers, "an outcome .. beside the steps taken", and leaves the same store, "both lists as the
  -- run leaves them"
  abbrev pub Agreement : Type 0
  Agreement = (budget : ℕ) → marking budget ≡ run budget

  -- the marking machine never sticks
  abbrev pub NeverStuck : Type 0
  NeverStuck = (budget n : ℕ) → (marking budget).ending ≡ ran sticks n → ⊥

  -- "A cell is in range when row 11 finds no fault in it": neither row 10 nor row 11 finds one in the final store, "a spent run too"
  abbrev pub InRange : Read → Type 0
  InRange r = (budget : ℕ) → fault_in r (run budget).values (run budget).marks ≡ none

  -- "As every budget is meant, all this holds after each step": where a budget is spent, a run with k steps more is what the rest (Rest) of it
  -- does in k steps from the store that the smaller budget leaves. The rest is one for all k and holds no store: so the run passes through that one
  pub record GoesOn (machine : ℕ → Report) (budget : ℕ) : Type 0 where
    pub store : Store
    pub rest : Rest
    pub leaves : machine budget ≡ report (length vs) budget (answer spent (state store 0))
    pub goes : (k : ℕ) → machine (budget + k) ≡ report (length vs) (budget + k) (resume [] rest (state store k))

  abbrev pub AfterEachStep : (ℕ → Report) → Type 0
  AfterEachStep machine = (budget n : ℕ) → (machine budget).ending ≡ ran spent n → GoesOn machine budget

  -- ---- together: what holds of every text and store, and what of accepted ones

  pub record OfAccepted (r : Read) : Type 0 where
    pub steps-within : StepsWithin
    pub spent-after : SpentAfter
    pub one-more-due : OneMoreDue
    pub larger-budget : LargerBudget
    pub agreement : Agreement
    pub never_stuck : NeverStuck
    pub in-range : InRange r
    pub run-goes-on : AfterEachStep run
    pub marking-goes-on : AfterEachStep marking

  pub record Demanded : Type 0 where
    pub run-refused : LeftAsLent run
    pub marking-refused : LeftAsLent marking
    pub refuses-text : RefusesText
    pub refuses-store : RefusesStore
    pub accepted-runs : (r : Read) → Accepted r → OfAccepted r
