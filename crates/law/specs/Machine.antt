-- Document 01, "The store and the run": the store, steps, outcomes, loops, exceptions. Both machines are made of these parts, so that
-- they differ in nothing but types.
use Rattle.std.specs.Prelude.{Bool, true, false, not, ◌&&◌, List, [], ◌∷◌, ℕ, zero, suc, ℤ, pos, ◌-ℤ◌, eqb, get_or, replicate, length}
use Rattle.std.proofs.Math.Seq as Seq
use Rattle.std.proofs.Math.IntN.{suc_ℤ}
use Rattle.std.specs.Int.Signed.{le_z}
use Rattle.leaf_integers.specs.Integers.{inside, is_zero}
use Rattle.law.specs.Base.{pick}
use Rattle.law.specs.Calculate.{nat_of, Result, is, fails, stuck, ◌>>=◌, system_error, range_error, undefined_error, tested}
use Rattle.law.specs.Code.{Frame, Want, any_set, no_frame, ranged}

-- ---- the store

pub record Store : Type 0 where
  pub values : List ℤ
  pub marks : List ℕ
  pub latest : ℤ  -- the last exception's number, 0 before any
  pub place : ℕ  -- and its statement

-- every store has so many cells: the 2,048 that may be lent, then 128 for parameters, which "the starting store and the printed cells don't hold"
abbrev pub lent_cells : ℕ
lent_cells = 2048

abbrev pub store_cells : ℕ
store_cells = 2176

-- a cell's mark
abbrev pub undefined : ℕ
undefined = 0

abbrev pub defined : ℕ
defined = 1

abbrev pub is_defined : ℕ → Bool
is_defined m = not (eqb m undefined)

pub record State : Type 0 where
  pub store : Store
  pub left : ℕ  -- steps that may still be taken

abbrev pub state : Store → ℕ → State
state m n = record { store = m; left = n }

-- values and marks in the cells from a on
abbrev pub overwritten : ℕ → List ℤ → List ℕ → Store → Store
overwritten a vs ms m = record { values = Seq.sets m.values a vs; marks = Seq.sets m.marks a ms; latest = m.latest; place = m.place }

-- the values zs; k cells made undefined
abbrev pub stored : ℕ → List ℤ → Store → Store
stored a zs m = overwritten a zs (replicate (length zs) defined) m

abbrev pub forgotten : ℕ → ℕ → Store → Store
forgotten a k m = overwritten a (replicate k (pos 0)) (replicate k undefined) m

abbrev pub noting : ℤ → ℕ → Store → Store
noting z n m = record { values = m.values; marks = m.marks; latest = z; place = n }

-- reading an undefined cell is an Undefined_Error
unfoldable pub read_cell : ℕ → Store → Result ℤ
read_cell a m = pick (is_defined (get_or m.marks a undefined)) (is (get_or m.values a (pos 0))) (fails undefined_error)

-- n cells from a on
unfoldable pub read_cells : ℕ → ℕ → Store → Result (List ℤ)
read_cells a zero m = is []
read_cells a (suc n) m = read_cell a m >>= λ z. read_cells (suc a) n m >>= λ zs. is (z ∷ zs)

-- a value is its cells; an ordinal or a set has one
abbrev pub sole : List ℤ → ℤ
sole zs = get_or zs 0 (pos 0)

abbrev pub one_cell : Result ℤ → Result (List ℤ)
one_cell v = v >>= λ z. is (z ∷ [])

-- ---- answers

pub data Outcome : Type 0 where
  normal spent sticks : Outcome
  raised : ℤ → ℕ → Outcome

pub record Answer : Type 0 where
  pub outcome : Outcome
  pub state : State

abbrev pub answer : Outcome → State → Answer
answer o s = record { outcome = o; state = s }

-- exception z at statement n
abbrev pub raising : ℤ → ℕ → State → Answer
raising z n s = answer (raised z n) (state (noting z n s.store) s.left)

-- what comes next, after a normal end
abbrev pub continued : Outcome → State → (State → Answer) → Answer
continued normal s f = f s
continued spent s f = answer spent s
continued sticks s f = answer sticks s
continued (raised z n) s f = answer (raised z n) s

abbrev pub and_then : Answer → (State → Answer) → Answer
and_then a f = continued a.outcome a.state f

-- an exception starts the handler; spent and stuck do not
abbrev pub caught : Outcome → State → (State → Answer) → Answer
caught normal s f = answer normal s
caught spent s f = answer spent s
caught sticks s f = answer sticks s
caught (raised z n) s f = f s

abbrev pub handled : Bool → Answer → (State → Answer) → Answer
handled true a f = caught a.outcome a.state f
handled false a f = a

-- goes on with what was worked out in statement n
abbrev pub with_result : {A : Type 0} → ℕ → State → Result A → (A → Answer) → Answer
with_result n s (is a) f = f a
with_result n s (fails z) f = raising z n s
with_result n s stuck f = answer sticks s

-- one step; when one is due and the budget is used up, the answer is spent
abbrev pub step_if : ℕ → State → (State → Answer) → Answer
step_if zero s f = answer spent s
step_if (suc n) s f = f (state s.store n)

abbrev pub step : State → (State → Answer) → Answer
step s f = step_if s.left s f

abbrev pub branch : Bool → (State → Answer) → (State → Answer) → State → Answer
branch true f g s = f s
branch false f g s = g s

-- `while` tests before each round and its step. As each round takes a step, what is left of the budget is rounds enough
unfoldable pub while_rounds : ℕ → (State → (Bool → Answer) → Answer) → (State → Answer) → State → Answer
while_rounds zero condition body s = condition s λ b. branch b (answer spent) (answer normal) s
while_rounds (suc f) condition body s = condition s λ b. branch b (λ t. step t (λ s'. and_then (body s') (while_rounds f condition body))) (answer normal) s

-- "when a `for` ends normally, also with no round, its control variable has mark 0 and value 0": cell a. It takes no step
abbrev pub ended : ℕ → State → Answer
ended a s = answer normal (state (forgotten a 1 s.store) s.left)

-- so many rounds, from z on, and the end. Each round, after its step, sets the control variable from the loop's own count
abbrev pub set_control : ℕ → ℤ → State → State
set_control a z s = state (stored a (z ∷ []) s.store) s.left

unfoldable pub for_rounds : ℕ → ℕ → (State → Answer) → ℤ → State → Answer
for_rounds zero a body z s = ended a s
for_rounds (suc k) a body z s = step s λ s'. and_then (body (set_control a z s')) (for_rounds k a body (suc_ℤ z))

-- where there is a round, both bounds must fit the control variable's type, lo to hi, before round one
pub data Plan : Type 0 where
  no_round outside : Plan
  rounds : ℕ → Plan

unfoldable pub planned : ℤ → ℤ → ℤ → ℤ → Plan
planned lo hi x y = pick (le_z x y) (pick (inside lo hi x && inside lo hi y) (rounds (nat_of (suc_ℤ (y -ℤ x)))) outside) no_round

unfoldable pub opened : Plan → ℕ → ℕ → ℤ → (State → Answer) → State → Answer
opened no_round n a x body s = ended a s
opened outside n a x body s = raising range_error n s
opened (rounds k) n a x body s = for_rounds k a body x s

unfoldable pub count_up : ℕ → ℕ → ℤ → ℤ → ℤ → ℤ → (State → Answer) → State → Answer
count_up n a lo hi x y body = opened (planned lo hi x y) n a x body

-- the range test is the last; a raising assignment changes no cell
unfoldable pub store_ordinal : ℕ → ℕ → ℤ → ℤ → ℤ → State → Answer
store_ordinal n a lo hi z = branch (inside lo hi z) (λ s. answer normal (state (stored a (z ∷ []) s.store) s.left)) (raising range_error n)

unfoldable pub store_whole : ℕ → ℕ → List ℤ → State → Answer
store_whole n a zs s = answer normal (state (stored a zs s.store) s.left)

-- `raise 0` passes on the last exception with its number and statement kept, or raises System_Error if there was none
unfoldable pub pass_on : ℕ → State → Answer
pass_on n s = branch (is_zero s.store.latest) (raising system_error n) (answer (raised s.store.latest s.store.place)) s

unfoldable pub raise_number : ℕ → ℤ → State → Answer
raise_number n z = branch (is_zero z) (pass_on n) (raising z n)

-- ---- procedures

-- its parameters, and the run of its body
pub record Proc : Type 0 where
  pub frame : Frame
  pub run : State → Answer

abbrev pub proc : Frame → (State → Answer) → Proc
proc q f = record { frame = q; run = f }

-- procedures by their number
abbrev pub Procs : Type 0
Procs = List Proc

unfoldable pub procedure_at : Procs → ℕ → Proc
procedure_at ps p = get_or ps p (proc no_frame (answer normal))

-- "A value outside its parameter's type raises Range_Error"; a set is of its own type
unfoldable pub admitted : Want → ℤ → Result ℤ
admitted (ranged lo hi) z = tested range_error lo hi z
admitted any_set z = is z

-- parameters are "gone at return", be it by a normal end or by an exception. A run that is spent or stuck does not return
abbrev pub without_frame : Frame → State → State
without_frame q s = state (forgotten q.base (length q.wants) s.store) s.left

abbrev pub returning : Frame → Outcome → State → Answer
returning q normal s = answer normal (without_frame q s)
returning q spent s = answer spent s
returning q sticks s = answer sticks s
returning q (raised z n) s = answer (raised z n) (without_frame q s)

abbrev pub returned : Frame → Answer → Answer
returned q a = returning q a.outcome a.state

-- a call, once its arguments are worked out and tested: they are the parameters' values as the body starts
unfoldable pub entered : Proc → List ℤ → State → Answer
entered q zs s = returned q.frame (q.run (state (stored q.frame.base zs s.store) s.left))

-- `and_then` (true) and `or_else` (false): the right side is worked out only if the left leaves it open
abbrev pub short_circuited : Bool → Bool → Result (List ℤ) → Result (List ℤ)
short_circuited true true v = v
short_circuited true false v = is (pos 0 ∷ [])
short_circuited false true v = is (pos 1 ∷ [])
short_circuited false false v = v
