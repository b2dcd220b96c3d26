-- Document 02, Point 1: what it asks of parameters, as statements on whole texts beside those of Demands, which hold as they stand (never stuck,
-- steps and budget among them). Nothing is proved here: the theorem is law_theorems/proofs/ParametersHold.antt: `parameters-hold`.
use Rattle.std.specs.Prelude.{◌≡◌, true, List, [], ◌∷◌, ◌++◌, ℕ, suc, ◌+◌, ◌<◌, ◌≤◌, ℤ, pos, drop, get_or, length}
use Rattle.law.specs.Calculate.{fails}
use Rattle.law.specs.Chair.{run_act, run_arguments}
use Rattle.law.specs.Code.{BodyCode, Codes, Frame, call_to}
use Rattle.law.specs.Demands.{Accepted}
use Rattle.law.specs.Environment.{PlacedBody}
use Rattle.law.specs.Machine.{Answer, Outcome, Proc, Procs, State, Store, entered, lent_cells, normal, proc, procedure_at, raised, raising, state, store_cells, undefined}
use Rattle.law.specs.Store.{cells_ok}
use Rattle.law.specs.Verdict.{Read, accepted, judge, loosely}
use Rattle.law.specs.Whole.{fresh, mark_body, run_all, run_body, verdict_of}

-- ---- a text's bodies as procedures by their number, main's last, as `run_all` and `mark_all` make them

unfoldable pub run_procs : List BodyCode → Procs → Procs
run_procs [] ps = ps
run_procs (b ∷ bs) ps = run_procs bs (ps ++ (proc b.frame (run_body b ps) ∷ []))

unfoldable pub mark_procs : List PlacedBody → Procs → Procs
mark_procs [] ps = ps
mark_procs (b ∷ bs) ps = mark_procs bs (ps ++ (proc b.frame (mark_body b ps) ∷ []))

abbrev pub in_chair : Read → ℕ → Proc
in_chair r p = procedure_at (run_procs r.codes []) p

abbrev pub in_marking : Read → ℕ → Proc
in_marking r p = procedure_at (mark_procs r.known.bodies []) p

-- ---- "The two machines still agree, parameter cells included, at every depth of calls": on every state, hence on one in which the callers'
-- parameters live, a body gives the same answer in both, with all cells of its store

pub record Same (f g : Proc) : Type 0 where
  pub frames : f.frame ≡ g.frame
  pub runs : (s : State) → f.run s ≡ g.run s

-- the marking machine has a reading of its own
pub record EveryDepth (text : List ℕ) (work : ℕ) (r : Read) : Type 0 where
  pub reading : Read
  pub reads : judge loosely text work ≡ accepted reading
  pub same : (p : ℕ) → Same (in_chair r p) (in_marking reading p)

-- ---- "Parameters are cells of their own"

pub record InFrame (q : Frame) (a : ℕ) : Type 0 where
  pub from_first : q.base ≤ a
  pub to_last : a < q.base + length q.wants

pub record OfTheirOwn (r : Read) : Type 0 where
  pub not-lent : (p a : ℕ) → InFrame (in_chair r p).frame a → lent_cells ≤ a
  pub in-store : (p a : ℕ) → InFrame (in_chair r p).frame a → a < store_cells
  pub apart : (p q a : ℕ) → InFrame (in_chair r p).frame a → InFrame (in_chair r q).frame a → p ≡ q

-- ---- "gone at return", however it ended

pub data Returns : Outcome → Type 0 where
  normally : Returns normal
  by_exception : {z : ℤ} {n : ℕ} → Returns (raised z n)

pub record Gone (m : Store) (a : ℕ) : Type 0 where
  pub mark : get_or m.marks a undefined ≡ undefined
  pub value : get_or m.values a (pos 0) ≡ pos 0

-- of every procedure, with any arguments, in any state
abbrev pub GoneAtReturn : Type 0
GoneAtReturn = (f : Proc) (zs : List ℤ) (s : State) → Returns (entered f zs s).outcome → (a : ℕ) → InFrame f.frame a → Gone (entered f zs s).state.store a

-- ---- "at the call, before the body starts": an argument's exception is the call's, whatever the procedure is

abbrev pub AtTheCall : Type 0
AtTheCall = (ps : Procs) (n p : ℕ) (cs : Codes) (m : Store) (left : ℕ) (z : ℤ)
    → run_arguments (procedure_at ps p).frame.wants cs m ≡ fails z → run_act ps (call_to n p cs) (state m (suc left)) ≡ raising z n (state m left)

-- ---- on a lent store

module _ (text : List ℕ) (work : ℕ) (vs : List ℤ) (ms : List ℕ) where
  -- the run's answer with its whole store, of which a report shows the lent cells
  abbrev pub whole : Read → ℕ → Answer
  whole r budget = run_all r.codes [] (state (fresh vs ms) budget)

  -- row 11 finds no fault in a parameter's cell, defined or not, at any budget: after each step
  abbrev pub ParametersInRange : Read → Type 0
  ParametersInRange r = (budget : ℕ) → cells_ok r.known.env.types r.known.env.parameters (drop lent_cells (whole r budget).state.store.values)
      (drop lent_cells (whole r budget).state.store.marks) ≡ true

  -- ---- together

  pub record OfParameters : Type 0 where
    pub every-depth : (r : Read) → verdict_of text work ≡ accepted r → EveryDepth text work r
    pub of-their-own : (r : Read) → verdict_of text work ≡ accepted r → OfTheirOwn r
    pub gone-at-return : GoneAtReturn
    pub at-the-call : AtTheCall
    pub in-range : (r : Read) → Accepted text work vs ms r → ParametersInRange r
