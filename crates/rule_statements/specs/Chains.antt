-- A chain of statements while it is laid: what is done and what is left.
use Rattle.std.specs.Prelude.{List, ◌≡◌, ℕ, suc, ◌+◌, ◌≤◌}
use Rattle.std.proofs.Math.Option.{Option, some}
use Rattle.law.specs.Code.{Acts}
use Rattle.law.specs.Environment.{Environment}
use Rattle.code.specs.Layout.{lay_acts}
use Rattle.rule_stages.specs.Stages.{fits, stmts_staged}
use Rattle.law.specs.Syntax.{Stmts}
use Rattle.law.specs.Trees.{Trees, end, ◌then◌, Run, first, later, nodes_in}
use Rattle.law_theorems.specs.Readings.{stack_at}
use Rattle.code.specs.LayoutRegions.{Same}
use Rattle.text_heads.specs.Parts.{stmts_in}
use Rattle.table_scope.specs.declared.Scope.{Scope}
use Rattle.rule_faults.specs.declared.Fault.{Fault}
use Rattle.table_scope.specs.declared.Loops.{Loops}
use Rattle.rule_faults.specs.declared.Got.{Got}
use Rattle.rule_faults.specs.Got.{lowest, fault_of}
use Rattle.rule_statements.specs.Walks.{bare, Around}

-- how many parts there are
unfoldable pub many : Trees Run → ℕ
many end = 0
many (t then ts) = suc (many ts)

-- of all statements o, those that are left are o': f is the lowest fault of the others, whose layout ends at top' with the slot slot'
pub record LeftTold (σ : Environment) (bs js : List ℕ) (o : Option (Stmts × ℕ)) (slot top : ℕ) (l : List ℕ) (f : Fault) (o' : Option (Stmts × ℕ)) (slot' top' : ℕ) (l' : List ℕ) : Type 0 where
  pub fault-is : fault_of (stmts_staged σ js (bare o)) ≡ lowest f (fault_of (stmts_staged σ js (bare o')))
  pub laid : (a : Acts) → stmts_staged σ js (bare o) ≡ fits a → (b : Acts) × ((stmts_staged σ js (bare o') ≡ fits b) × (lay_acts bs a slot top l ≡ lay_acts bs b slot' top' l'))
  pub number : (p : Stmts × ℕ) → o ≡ some p → (q : Stmts × ℕ) × ((o' ≡ some q) × (p.1 ≡ q.1))

-- the answer g so far: its fault, the last number, where the next part stands, and the free place
pub record Doing (s l ts : List ℕ) (scope : Scope) (loops : Loops) (d n slot at top : ℕ) (g : Got) (slot' : ℕ) (l' : List ℕ) : Type 0 where
  pub around : later (stack_at s at) ≡ later (stack_at s g.next)
  pub keeps : slot ≤ top → Same 0 slot l' l
  pub above : slot ≤ top → slot ≤ slot'
  pub grows : top ≤ g.top
  pub few-left : (σ : Environment) (bs js : List ℕ) → Around s l ts scope loops d n at slot σ bs js → slot ≤ top → g.kind + nodes_in (first (stack_at s g.next)) ≤ 65535
  pub says : (σ : Environment) (bs js : List ℕ) → Around s l ts scope loops d n at slot σ bs js → slot ≤ top
      → LeftTold σ bs js (stmts_in d n (first (stack_at s at))) slot top l g.fault (stmts_in d g.kind (first (stack_at s g.next))) slot' g.top l'
