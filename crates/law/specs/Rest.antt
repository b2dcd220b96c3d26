-- What may be left of a run that is spent: statements' code, loops that are under way with their counts, handlers that still stand.
-- There is no store in it. `resume` carries it out by the chair's own definitions, so that it adds no rule of its own.
use Rattle.std.specs.Prelude.{true, List, [], ◌∷◌, ◌++◌, ℕ, ℤ}
use Rattle.law.specs.Chair.{condition, run_act, run_acts}
use Rattle.law.specs.Code.{Act, Acts, BodyCode, Code, Frame}
use Rattle.law.specs.Machine.{Answer, Procs, State, and_then, for_rounds, handled, proc, returned, while_rounds}
use Rattle.law.specs.Whole.{run_body}

pub data Rest : Type 0 where
  statement : Act → Rest
  statements : Acts → Rest
  while_from : ℕ → Code → Act → Rest  -- a `while` from its test on: its statement's number, condition and body
  for_from : ℕ → ℕ → Act → ℤ → Rest  -- so many rounds of a `for` over a cell with that body, from a count on, and its end
  before : Rest → Rest → Rest  -- one and then the other
  handled_by : Rest → Acts → Rest  -- inside a body whose handler still stands
  in_body : List BodyCode → Rest → Rest  -- inside a body that calls these, the latest first
  leaving : Frame → Rest → Rest  -- inside a call, whose parameters go when it returns

-- the procedures that a body calls, given the bodies before it, the latest first (as `run_all` has them)
unfoldable pub procs_of : List BodyCode → Procs
procs_of [] = []
procs_of (b ∷ bs) = procs_of bs ++ (proc b.frame (run_body b (procs_of bs)) ∷ [])

unfoldable pub resume : List BodyCode → Rest → State → Answer
resume bs (statement a) s = run_act (procs_of bs) a s
resume bs (statements ss) s = run_acts (procs_of bs) ss s
resume bs (while_from n c a) s = while_rounds s.left (condition n c) (run_act (procs_of bs) a) s
resume bs (for_from k x a z) s = for_rounds k x (run_act (procs_of bs) a) z s
resume bs (before r q) s = and_then (resume bs r s) λ t. resume bs q t
resume bs (handled_by r h) s = handled true (resume bs r s) (run_acts (procs_of bs) h)
resume bs (in_body cs r) s = resume cs r s
resume bs (leaving q r) s = returned q (resume bs r s)
