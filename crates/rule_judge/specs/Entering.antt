-- What the answer for a line's parts tells.
use Rattle.std.specs.Prelude.{true, false, List, ◌++◌, ◌≡◌, ℕ, ◌+◌, ◌-◌, ◌≤◌, length, get_or}
use Rattle.std.proofs.Math.Option.{Option}
use Rattle.law.specs.Base.{◌>>=◌}
use Rattle.law.specs.Ceilings.{line_bounded}
use Rattle.law.specs.Code.{BodyCode}
use Rattle.law.specs.Environment.{declare_line}
use Rattle.code.specs.LayoutSize.{symbol_size, size_bodies}
use Rattle.law.specs.Script.{Entry}
use Rattle.rule_stages.specs.Stages.{fits}
use Rattle.law.specs.Syntax.{LineForm}
use Rattle.law.specs.Trees.{nodes_in, first}
use Rattle.law_theorems.specs.Readings.{stack_at}
use Rattle.law.specs.Verdict.{Read}
use Rattle.code.specs.LayoutBodies.{Bodies}
use Rattle.code.specs.LinesMeasured.{Measured}
use Rattle.code.specs.Layout.{lay}
use Rattle.table_names.specs.Keys.{keyed}
use Rattle.table_scope.specs.Scene.{meaning_here}
use Rattle.rule_faults.specs.declared.Fault.{Fault}
use Rattle.rule_faults.specs.declared.Fault.TheVariants.{Clear, Form}
use Rattle.rule_faults.specs.declared.Got.{Got}
use Rattle.rule_faults.specs.Got.{lowest, fault_of, is_form}
use Rattle.rule_stmt_nodes.specs.declared.last.Head.{Head}
use Rattle.rule_statements.specs.Walks.{GivesBody}
use Rattle.rule_parameters.specs.Framing.{Opens}
use Rattle.rule_parameters.specs.Listing.{GivesList}
use Rattle.rule_parameters.specs.declared.framing.Opened.{Opened}
use Rattle.rule_parameters.specs.declared.listing.Listed.{Listed}
use Rattle.rule_declarations.specs.declared.State.{State}
use Rattle.rule_declarations.specs.Names.{new_fault}
use Rattle.text_heads.specs.declared.LineHead.{LineHead}
use Rattle.text_heads.specs.Heads.{line_head_meant}
use Rattle.rule_declarations.specs.State.{Holds}
use Rattle.rule_known.specs.declared.Known.{Known}
use Rattle.rule_known.specs.declared.Entered.{Entered}
use Rattle.rule_judge.specs.Answers.{failed_entry, proc_numbers, proc_entry}
use Rattle.rule_judge.specs.Judging.{Standing}
use Rattle.rule_judge.specs.Whole.{head_in, whole_staged}

-- what stands after a line that declares e, with the code cs; its last statement has the number n, nn brackets and words came up to its end,
-- and the free place was top
pub record EntryStands (s l ts : List ℕ) (top : ℕ) (g : Entered) (r : Read) (e : Entry) (cs : List BodyCode) (n nn : ℕ) : Type 0 where
  pub places : List ℕ
  pub holds : Holds s l ts g.state (declare_line r.known e n nn) places
  pub top-is : g.state.top ≡ top + symbol_size e + size_bodies cs
  pub bodies : (other : BodyCode) → Bodies other 1 g.state.top l places (r.codes ++ cs)
  pub stmts-are : g.stmts ≡ n
  pub ended_is : g.ended ≡ (declare_line r.known e n nn).ended
  pub main-is : (declare_line r.known e n nn).ended ≡ true → g.main ≡ get_or places (length places - 1) 0

-- the number of the last statement
abbrev pub last_of : Option (LineForm × ℕ) → ℕ
last_of Option.none = 0
last_of (Option.some p) = p.1

pub record EntryTold (s l ts : List ℕ) (top : ℕ) (r : Read) (o : Option (LineForm × ℕ)) (g : Entered) : Type 0 where
  pub fault-is : g.fault ≡ fault_of (whole_staged r.known o)
  pub within-is : (e : Entry) (cs : List BodyCode) → whole_staged r.known o ≡ fits (e, cs) → g.within ≡ line_bounded r.known e
  pub stands : (e : Entry) (cs : List BodyCode) → whole_staged r.known o ≡ fits (e, cs) → line_bounded r.known e ≡ true → top + symbol_size e + size_bodies cs ≤ 16384
      → (nn : ℕ) → Measured (declare_line r.known e (last_of o) nn) (r.codes ++ cs) → EntryStands s l ts top g r e cs (last_of o) nn

-- the parts after the head word h, at an offset
pub record Enters (s l ts : List ℕ) (kn : Known) (h : LineHead) (at : ℕ) (g : Entered) (l' ts' : List ℕ) : Type 0 where
  pub says : (r : Read) (bs : List ℕ) → Standing s l ts kn r bs → nodes_in (first (stack_at s at)) ≤ 32768
      → EntryTold s l' ts' kn.state.top r (line_head_meant h >>= λ k. head_in k r.known.stmts (first (stack_at s at))) g

-- what is laid after the body of a procedure that has no fault; the free place is u then
pub record ProcLaid (st : State) (f : Fault) (name : ℕ) (g : Got) (l : List ℕ) (u : ℕ) (l' : List ℕ) : Type 0 where
  pub laid_so : f ≡ Clear → (u ≡ (lay (proc_numbers st name g.place) g.top l).top) × (l' ≡ (lay (proc_numbers st name g.place) g.top l).list)

-- the entry of its name, and its answer; it has n parameters
pub record ProcEnds (kn : Known) (f : Fault) (n : ℕ) (g : Got) (name : ℕ) (l : List ℕ) (e : Entered) (l' : List ℕ) : Type 0 where
  pub free : ℕ
  pub laid : ProcLaid kn.state f name g l free l'
  pub given : e ≡ proc_entry kn f n g free

-- the body that begins so
abbrev pub head_of : Known → Opened → Head
head_of kn o = record { number = kn.state.procs; frame = o.frame }

pub record GivesOpened (s l ts : List ℕ) (kn : Known) (o : Opened) (g : Got) (l' : List ℕ) : Type 0 where
  pub gives : GivesBody s l ts o.scope (head_of kn o) kn.stmts o.at o.top g l'

-- a procedure after its name at p and its list c, f being their fault
pub record ProcListed (s l ts : List ℕ) (kn : Known) (f : Fault) (c : Listed) (p : ℕ) (e : Entered) (l' : List ℕ) : Type 0 where
  pub opened : Opened
  pub framed : List ℕ
  pub opens : Opens s l ts kn.state c opened framed
  pub answer : Got
  pub list : List ℕ
  pub gives : GivesOpened s framed ts kn opened answer list
  pub ends : ProcEnds kn (lowest f answer.fault) c.count answer (keyed s p) list e l'

-- a procedure from its name at p on; what comes after that begins at an offset
pub data ProcNamed (s l ts : List ℕ) (kn : Known) (p at : ℕ) (e : Entered) (l' : List ℕ) : Type 0 where
  proc-wrong : (c : Listed) → GivesList s l ts kn.state.scope p at c → c.fault ≡ Form → e ≡ failed_entry kn Form → l' ≡ l → ProcNamed s l ts kn p at e l'
  proc-right : (c : Listed) → GivesList s l ts kn.state.scope p at c → is_form c.fault ≡ false → ProcListed s l ts kn (lowest (new_fault Clear (meaning_here s l kn.state.scope p)) c.fault) c p e l'
      → ProcNamed s l ts kn p at e l'
