-- Whole texts: the verdict, the run and the marking, with the store that each leaves and the working list.
use Rattle.std.specs.Prelude.{List, [], ◌∷◌, ◌++◌, ℕ, ◌-◌, min, ℤ, pos, length, replicate, take, drop, get_or}
use Rattle.std.proofs.Math.Option.{Option, none, some}
use Prim.Native.String.{String}
use Rattle.law.specs.Chair.{run_acts}
use Rattle.law.specs.Code.{BodyCode}
use Rattle.law.specs.Environment.{Declared, PlacedBody}
use Rattle.law.specs.Machine.{Answer, Outcome, Procs, State, Store, answer, handled, normal, proc, state, store_cells, undefined}
use Rattle.law.specs.Marking.{mark_stmts}
use Rattle.law.specs.Store.{store_fault}
use Rattle.law.specs.Verdict.{Read, Verdict, accepted, judge, loosely, refused, strictly}

-- ---- bodies: an exception starts the handler; a handler's normal end is the body's

unfoldable pub run_body : BodyCode → Procs → State → Answer
run_body b ps s = handled b.handles (run_acts ps b.acts s) (run_acts ps b.handler)

unfoldable pub mark_body : PlacedBody → Procs → State → Answer
mark_body b ps s = handled b.body.handles (mark_stmts b.types b.vars ps b.body.stmts s) (mark_stmts b.types b.vars ps b.body.handler)

-- a script's run is that of its last body, main's; each body calls earlier ones alone
unfoldable pub run_all : List BodyCode → Procs → State → Answer
run_all [] ps = answer normal
run_all (b ∷ []) ps = run_body b ps
run_all (b ∷ (c ∷ bs)) ps = run_all (c ∷ bs) (ps ++ (proc b.frame (run_body b ps) ∷ []))

unfoldable pub mark_all : List PlacedBody → Procs → State → Answer
mark_all [] ps = answer normal
mark_all (b ∷ []) ps = mark_body b ps
mark_all (b ∷ (c ∷ bs)) ps = mark_all (c ∷ bs) (ps ++ (proc b.frame (mark_body b ps) ∷ []))

-- ---- reports: a refusal with its number and line, or an outcome with its steps; and the store

pub data Ending : Type 0 where
  refusal : ℕ → ℕ → Ending
  ran : Outcome → ℕ → Ending

pub record Report : Type 0 where
  pub ending : Ending
  pub values : List ℤ
  pub marks : List ℕ

abbrev pub reported : Ending → List ℤ → List ℕ → Report
reported e vs ms = record { ending = e; values = vs; marks = ms }

-- a lent list as a machine's: filled up to all its cells
abbrev pub filled : {A : Type 0} → A → List A → List A
filled z xs = xs ++ replicate (store_cells - length xs) z

-- the cells past the lent ones are undefined; no exception has come yet
abbrev pub fresh : List ℤ → List ℕ → Store
fresh vs ms = record { values = filled (pos 0) vs; marks = filled undefined ms; latest = pos 0; place = 0 }

-- what a machine's answer says, after a start with n lent cells and that budget
unfoldable pub report : ℕ → ℕ → Answer → Report
report n budget a = reported (ran a.outcome (budget - a.state.left)) (take n a.state.store.values) (take n a.state.store.marks)

-- a machine on a lent store, after rows 10 and 11
unfoldable pub lent : Option ℕ → (State → Answer) → List ℤ → List ℕ → ℕ → Report
lent (some n) machine vs ms budget = reported (refusal n 0) vs ms
lent none machine vs ms budget = report (length vs) budget (machine (state (fresh vs ms) budget))

unfoldable pub on_store : Declared → (State → Answer) → List ℤ → List ℕ → ℕ → Report
on_store k machine vs ms budget = lent (store_fault k.env.types k.cells vs ms) machine vs ms budget

-- ---- the three answers. `work` is the working list's length

-- a refusal leaves the store as lent
unfoldable pub unless : Verdict Read → List ℤ → List ℕ → (Read → Report) → Report
unless (refused n l) vs ms f = reported (refusal n l) vs ms
unless (accepted r) vs ms f = f r

unfoldable pub verdict_of : List ℕ → ℕ → Verdict Read
verdict_of text work = judge strictly text work

unfoldable pub run_of : List ℕ → ℕ → List ℤ → List ℕ → ℕ → Report
run_of text work vs ms budget = unless (verdict_of text work) vs ms λ r. on_store r.known (run_all r.codes []) vs ms budget

-- fed text, store and budget alone; it consults no verdict, but leaves aside what breaks another rule than that of kinds in a body
unfoldable pub mark_of : List ℕ → ℕ → List ℤ → List ℕ → ℕ → Report
mark_of text work vs ms budget = unless (judge loosely text work) vs ms λ r. on_store r.known (mark_all r.known.bodies []) vs ms budget

-- ---- what every call leaves in the working list: the first 16,384 numbers, or all if there are fewer, are 0; any further ones are untouched

unfoldable pub work_after : List ℕ → List ℕ
work_after w = replicate (min 16384 (length w)) 0 ++ drop 16384 w

-- ---- the refusal table's words, by number from 1

unfoldable pub refusal_words : List String
refusal_words = "bench" ∷ "length" ∷ "byte" ∷ "bracket" ∷ "word" ∷ "form" ∷ "name" ∷ "type" ∷ "limit" ∷ "store" ∷ "cell" ∷ []

unfoldable pub refusal_word : ℕ → String
refusal_word n = get_or refusal_words (n - 1) ""
