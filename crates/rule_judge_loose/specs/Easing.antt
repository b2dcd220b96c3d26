-- A body without its kinds: rows 6 and 7, and of row 8 the other rules.
use Rattle.std.specs.Prelude.{Bool, cond, List, ◌≡◌, ℕ, ◌+◌, ◌≤◌, length}
use Rattle.std.proofs.Math.Option.{Option, some}
use Rattle.law.specs.Environment.{Environment}
use Rattle.law.specs.Names.{body_of}
use Rattle.law.specs.Rules.{kept_body}
use Rattle.law.specs.Script.{Body}
use Rattle.rule_stages.specs.Stages.{Staged, staged}
use Rattle.law.specs.Syntax as Syntax
use Rattle.law.specs.Trees.{first, nodes_in}
use Rattle.law_theorems.specs.Readings.{stack_at}
use Rattle.code.specs.LayoutRegions.{Same}
use Rattle.text_heads.specs.Parts.{body_in}
use Rattle.rule_faults.specs.declared.Fault.{Fault}
use Rattle.rule_faults.specs.declared.Fault.TheVariants.{Clear, Kind, Name, Form}
use Rattle.table_scope.specs.Scene.{Scene}
use Rattle.rule_faults.specs.Got.{fault_of, lowest}
use Rattle.rule_statements.specs.Walks.{bare}
use Rattle.rule_known.specs.declared.Known.{Known}
use Rattle.rule_parameters.specs.declared.framing.Opened.{Opened}
use Rattle.rule_judge_loose.specs.declared.easing.Eased.{Eased}

-- the fault with the kinds left out: row 8 alone where the other rules are not kept
abbrev pub eased_by : Fault → Bool → Fault
eased_by Clear b = Clear
eased_by Kind b = cond b Clear Kind
eased_by Name b = Name
eased_by Form b = Form

-- the stages without kinds
unfoldable pub loose_body : Environment → Option Syntax.Body → Staged Body
loose_body σ o = staged o (body_of σ) kept_body some

-- what is told of the body that the parts read as
pub record BodyEased (σ : Environment) (o : Option (Syntax.Body × ℕ)) (r : Eased) : Type 0 where
  pub fault-is : r.fault ≡ fault_of (loose_body σ (bare o))
  pub number : (p : Syntax.Body × ℕ) → o ≡ some p → r.stmts ≡ p.1

-- the same answer with another fault beside its own
abbrev pub with_fault : Eased → Fault → Eased
with_fault b f = record { fault = lowest f b.fault; stmts = b.stmts }

-- the body that begins so; the list is left as it was below the free place
pub record GivesEased (s l ts : List ℕ) (kn : Known) (o : Opened) (r : Eased) (l' : List ℕ) : Type 0 where
  pub keeps : Same 0 o.top l' l
  pub long : length l' ≡ length l
  pub says : (σ : Environment) (bs : List ℕ) → Scene s l ts o.scope o.top σ bs → kn.stmts + nodes_in (first (stack_at s o.at)) ≤ 65535
      → BodyEased σ (body_in kn.stmts (first (stack_at s o.at))) r
