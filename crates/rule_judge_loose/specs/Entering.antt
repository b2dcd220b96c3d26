-- What the answer for a line's parts tells, with the kinds of bodies left out.
use Rattle.std.specs.Prelude.{true, false, List, [], ◌∷◌, ◌≡◌, ℕ, ◌+◌, ◌*◌, ◌≤◌, length}
use Rattle.std.proofs.Math.Option.{Option}
use Rattle.law.specs.Base.{◌>>=◌}
use Rattle.law.specs.Ceilings.{line_bounded}
use Rattle.law.specs.Environment.{Declared, declare_line}
use Rattle.code.specs.Layout.{lay}
use Rattle.code.specs.LayoutSize.{size_decl}
use Rattle.law.specs.Script.{Entry, new_type, new_var, new_proc, new_main}
use Rattle.rule_stages.specs.Stages.{fits}
use Rattle.law.specs.Syntax.{LineForm}
use Rattle.law.specs.Trees.{first, nodes_in}
use Rattle.law_theorems.specs.Readings.{stack_at}
use Rattle.law_theorems.specs.LinesKeep.{Keeps}
use Rattle.text_heads.specs.declared.LineHead.{LineHead}
use Rattle.text_heads.specs.Heads.{line_head_meant}
use Rattle.rule_faults.specs.Got.{fault_of, is_form, lowest}
use Rattle.rule_faults.specs.declared.Fault.{Fault}
use Rattle.rule_faults.specs.declared.Fault.TheVariants.{Clear, Form}
use Rattle.rule_statements.specs.Walks.{bare}
use Rattle.table_list.specs.Laid.{Laid}
use Rattle.table_names.specs.Keys.{keyed}
use Rattle.table_scope.specs.Scene.{meaning_here}
use Rattle.rule_declarations.specs.Lines.{entry_staged}
use Rattle.rule_declarations.specs.Names.{new_fault}
use Rattle.rule_declarations.specs.State.{Holds, body_state}
use Rattle.rule_parameters.specs.Framing.{Opens, proc_fits, proc_state}
use Rattle.rule_parameters.specs.Listing.{GivesList}
use Rattle.rule_parameters.specs.declared.framing.Opened.{Opened}
use Rattle.rule_parameters.specs.declared.listing.Listed.{Listed}
use Rattle.rule_body_notes.specs.Noting.{noted}
use Rattle.rule_known.specs.declared.Known.{Known}
use Rattle.rule_known.specs.declared.Entered.{Entered}
use Rattle.rule_judge.specs.Answers.{failed_entry, proc_numbers}
use Rattle.rule_judge.specs.Entering.{last_of}
use Rattle.rule_judge.specs.Whole.{head_in}
use Rattle.rule_judge_loose.specs.declared.easing.Eased.{Eased}
use Rattle.rule_judge_loose.specs.Easing.{GivesEased, with_fault}
use Rattle.rule_judge_loose.specs.Standing.{AllKept, LooseStanding, procs_of}

-- the body that begins so, and its line in the bodies' table
pub record NotesEased (s l ts tb : List ℕ) (kn : Known) (o : Opened) (b : Eased) (l' tb' : List ℕ) : Type 0 where
  pub gives : GivesEased s l ts kn o b l'
  pub noted-so : tb' ≡ noted s kn o tb

-- of `main`, whose body's answer is b: nothing is laid
abbrev pub loose_main : Known → Eased → Entered
loose_main kn b = record { fault = b.fault; within = true; state = body_state kn.state kn.state.top; stmts = b.stmts; ended = true; main = 0 }

-- of `proc` with n parameters, whose answer is b: its name's entry is at `entry`, and the free place after that is u
abbrev pub loose_proc : Known → ℕ → Eased → ℕ → ℕ → Entered
loose_proc kn n b entry u = record { fault = b.fault; within = proc_fits kn.state n; state = proc_state kn.state n entry u; stmts = b.stmts; ended = false; main = 0 }

-- the node of its body, which has its number and its frame alone
abbrev pub loose_node : Known → Opened → List ℕ
loose_node kn o = kn.state.procs ∷ 0 ∷ 0 ∷ 0 ∷ o.frame ∷ []

-- its node, and its entry by its name's number (table_names, Keys): it means the node's place
pub record ProcDeclared (kn : Known) (n : ℕ) (o : Opened) (b : Eased) (name : ℕ) (l : List ℕ) (g : Entered) (l' : List ℕ) : Type 0 where
  pub entry : ℕ
  pub noded : List ℕ
  pub free : ℕ
  pub node : Laid (lay (loose_node kn o) o.top l) entry noded
  pub laid : Laid (lay (proc_numbers kn.state name o.top) entry noded) free l'
  pub given : g ≡ loose_proc kn n b entry free

-- how many numbers a line takes at most: a procedure's entry 4, its node 5, and for its list 2 and for each parameter 3
unfoldable pub loose_size : Entry → ℕ
loose_size (new_type w d) = size_decl d
loose_size (new_var w t) = 4
loose_size (new_proc w ps b) = 11 + 3 * length ps
loose_size (new_main b) = 0

-- what stands after a line that declares e; k is what the lines before declared, and the free place was top
pub record LooseStands (s l ts tb : List ℕ) (top : ℕ) (g : Entered) (k : Declared) (e : Entry) (n nn : ℕ) : Type 0 where
  pub places : List ℕ
  pub holds : Holds s l ts g.state (declare_line k e n nn) places
  pub room : g.state.top ≤ top + loose_size e
  pub stmts-are : g.stmts ≡ n
  pub ended_is : g.ended ≡ (declare_line k e n nn).ended
  pub bodies : AllKept s l ts tb places g.state.top (declare_line k e n nn).env.types (declare_line k e n nn).bodies (procs_of (declare_line k e n nn).ended (length (declare_line k e n nn).bodies))

-- what the answer for the line o tells
pub record LooseTold (s l ts tb : List ℕ) (top : ℕ) (k : Declared) (o : Option (LineForm × ℕ)) (g : Entered) : Type 0 where
  pub fault-is : g.fault ≡ fault_of (entry_staged k (bare o))
  pub within-is : (e : Entry) → entry_staged k (bare o) ≡ fits e → g.within ≡ line_bounded k e
  pub stands : (e : Entry) → entry_staged k (bare o) ≡ fits e → line_bounded k e ≡ true → top + loose_size e ≤ 16384 → last_of o ≤ 65535 → (nn : ℕ) → Keeps (declare_line k e (last_of o) nn)
      → LooseStands s l ts tb top g k e (last_of o) nn

-- the parts after the head word h, at an offset
pub record LooseEnters (s l ts tb : List ℕ) (kn : Known) (h : LineHead) (at : ℕ) (g : Entered) (l' ts' tb' : List ℕ) : Type 0 where
  pub long : length tb' ≡ length tb
  pub says : (k : Declared) → LooseStanding s l ts tb kn k → k.ended ≡ false → nodes_in (first (stack_at s at)) ≤ 32768
      → LooseTold s l' ts' tb' kn.state.top k (line_head_meant h >>= λ x. head_in x k.stmts (first (stack_at s at))) g

-- a procedure after its name at p and its list c, f being their fault
pub record LooseListed (s l ts tb : List ℕ) (kn : Known) (f : Fault) (c : Listed) (p : ℕ) (g : Entered) (l' tb' : List ℕ) : Type 0 where
  pub opened : Opened
  pub framed : List ℕ
  pub opens : Opens s l ts kn.state c opened framed
  pub answer : Eased
  pub list : List ℕ
  pub gives : GivesEased s framed ts kn opened answer list
  pub noted-so : tb' ≡ noted s kn opened tb
  pub ends : ProcDeclared kn c.count opened (with_fault answer f) (keyed s p) list g l'

-- a procedure from its name at p on; what comes after that begins at an offset
pub data ProcLoosely (s l ts tb : List ℕ) (kn : Known) (p at : ℕ) (g : Entered) (l' tb' : List ℕ) : Type 0 where
  loose-wrong : (c : Listed) → GivesList s l ts kn.state.scope p at c → c.fault ≡ Form → g ≡ failed_entry kn Form → l' ≡ l → tb' ≡ tb → ProcLoosely s l ts tb kn p at g l' tb'
  loose-right : (c : Listed) → GivesList s l ts kn.state.scope p at c → is_form c.fault ≡ false
      → LooseListed s l ts tb kn (lowest (new_fault Clear (meaning_here s l kn.state.scope p)) c.fault) c p g l' tb' → ProcLoosely s l ts tb kn p at g l' tb'
