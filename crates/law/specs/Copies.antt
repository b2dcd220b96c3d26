-- Document 02, Point 3: what it asks where an array or a record is assigned, as statements on every such assignment of an accepted text, in every state.
-- Nothing is proved here: the theorem is law_theorems/proofs/CopiesHold.antt: `copies-hold`.
use Rattle.std.specs.Prelude.{◌≡◌, true, ◌||◌, List, [], ◌∷◌, ℕ, zero, suc, ◌+◌, ◌<◌, ◌≤◌, pos, eqb, get_or}
use Rattle.std.proofs.Math.Option.{some}
use Rattle.std.proofs.Math.ListN.{get_elem?}
use Rattle.law.specs.Base.{pick}
use Rattle.law.specs.Calculate.{Result, ◌>>=◌, is, undefined_error}
use Rattle.law.specs.Chair.{place_code, run_act}
use Rattle.law.specs.Code.{Act, Place, copy_cells}
use Rattle.law.specs.Elaborate.{Located, elab_stmt, elab_target, located}
use Rattle.law.specs.Environment.{PlacedBody}
use Rattle.law.specs.Machine.{Answer, Procs, State, Store, answer, defined, is_defined, normal, raising, state, stored, undefined}
use Rattle.law.specs.Marking.{mark_stmt, mark_target}
use Rattle.law.specs.Script.{Expr, Target, assign, read}
use Rattle.law.specs.Types.{Types, Vars, array?, record?, size_of}
use Rattle.law.specs.Verdict.{Read, accepted}
use Rattle.law.specs.Whole.{verdict_of}

-- ---- "a whole value goes from cell to cell, each target cell written once": a copy as its writes, in order

-- which cell is read, and which is written
pub record Write : Type 0 where
  pub from : ℕ
  pub to : ℕ

-- k cells from b on, to those from a on
unfoldable pub writes : ℕ → ℕ → ℕ → List Write
writes b a zero = []
writes b a (suc k) = record { from = b; to = a } ∷ writes (suc b) (suc a) k

-- a write takes what its cell holds at that time; the store after all of a row
abbrev pub written : Write → Store → Store
written w m = stored w.to (get_or m.values w.from (pos 0) ∷ []) m

unfoldable pub all_written : List Write → Store → Store
all_written [] m = m
all_written (w ∷ ws) m = all_written ws (written w m)

-- how often a row writes cell c
unfoldable pub times_written : ℕ → List Write → ℕ
times_written c [] = 0
times_written c (w ∷ ws) = pick (eqb w.to c) 1 0 + times_written c ws

pub record EachOnce : Type 0 where
  pub once : (b a k j : ℕ) → j < k → times_written (a + j) (writes b a k) ≡ 1
  pub no-cell-before : (b a k c : ℕ) → c < a → times_written c (writes b a k) ≡ 0
  pub no-cell-behind : (b a k c : ℕ) → a + k ≤ c → times_written c (writes b a k) ≡ 0

-- ---- an assignment of k cells, by its statement's number, where what is assigned lies, where the target lies, and what a machine does

-- the mark of the j-th cell from b on
abbrev pub mark_at : Store → ℕ → ℕ → ℕ
mark_at m b j = get_or m.marks (b + j) undefined

pub record Copying (n k : ℕ) (source target : Store → Result ℕ) (run : State → Answer) : Type 0 where
  -- "a whole value goes from cell to cell"
  pub cell-to-cell : (m : Store) (left b a : ℕ) → source m ≡ is b → ((j : ℕ) → j < k → is_defined (mark_at m b j) ≡ true) → target m ≡ is a
      → run (state m (suc left)) ≡ answer normal (state (all_written (writes b a k) m) left)
  -- "The test for undefined components still precedes the first write", and the target's indices: no cell is changed
  pub test-first : (m : Store) (left b j : ℕ) → source m ≡ is b → j < k → mark_at m b j ≡ undefined → run (state m (suc left)) ≡ raising undefined_error n (state m left)
  -- "a profile may still be assigned to itself": nothing is changed
  pub to-itself : (m : Store) (left a : ℕ) → source m ≡ is a → target m ≡ is a → ((j : ℕ) → j < k → mark_at m a j ≡ defined) → run (state m (suc left)) ≡ answer normal (state m left)

module _ (Γ : Types) (Δ : Vars) where
  -- where a target lies, in the marking machine
  abbrev pub address_of : Target → Store → Result ℕ
  address_of g m = mark_target Γ Δ g m >>= λ w. is w.addr

  -- the assignment n of e to the target g, which was elaborated to w and is an array or a record, is a copy in both machines
  pub record Copied (n : ℕ) (g : Target) (w : Located) (e : Expr) (a : Act) : Type 0 where
    pub source : Target
    pub given : e ≡ read source
    pub place : Place
    pub lies : elab_target Γ Δ source ≡ some (located w.type place)
    pub copies : a ≡ copy_cells n w.place place (size_of Γ w.type)
    pub in-chair : (ps : Procs) → Copying n (size_of Γ w.type) (place_code place) (place_code w.place) (run_act ps a)
    pub in-marking : (ps : Procs) → Copying n (size_of Γ w.type) (address_of source) (address_of g) (mark_stmt Γ Δ ps (assign n g e))

  abbrev pub EachCopied : Type 0
  EachCopied = (n : ℕ) (g : Target) (w : Located) (e : Expr) (a : Act) → elab_target Γ Δ g ≡ some w → (array? Γ w.type || record? Γ w.type) ≡ true
      → elab_stmt Γ Δ (assign n g e) ≡ some a → Copied n g w e a

-- ---- together: of an accepted text each assignment that fits the tables of one of its bodies, hence each that is in it

pub record OfCopies (text : List ℕ) (work : ℕ) : Type 0 where
  pub each-once : EachOnce
  pub each-copied : (r : Read) → verdict_of text work ≡ accepted r → (i : ℕ) (b : PlacedBody) → get_elem? r.known.bodies i ≡ some b → EachCopied b.types b.vars
