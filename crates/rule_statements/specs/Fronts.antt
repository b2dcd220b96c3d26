-- The statements of a body before its handler while they are laid: what is done and what is left.
use Rattle.std.specs.Prelude.{false, List, [], ◌∷◌, ◌≡◌, ℕ, ◌+◌, ◌≤◌}
use Rattle.std.proofs.Math.Option.{Option, some}
use Rattle.law.specs.Code.{Frame, BodyCode}
use Rattle.law.specs.Environment.{Environment}
use Rattle.code.specs.Layout.{out, lay, lay_acts}
use Rattle.rule_stages.specs.Stages.{fits, body_staged}
use Rattle.law.specs.Syntax.{Body}
use Rattle.law.specs.Trees.{first, later, nodes_in}
use Rattle.law_theorems.specs.Readings.{stack_at}
use Rattle.code.specs.LayoutRegions.{Same}
use Rattle.text_heads.specs.Parts.{body_in}
use Rattle.table_scope.specs.declared.Scope.{Scope}
use Rattle.rule_faults.specs.declared.Fault.{Fault}
use Rattle.table_scope.specs.Loops.{no_loops}
use Rattle.rule_faults.specs.declared.Got.{Got}
use Rattle.rule_faults.specs.Got.{lowest, is_form, fault_of}
use Rattle.rule_expr_nodes.specs.Bracket.{Closes}
use Rattle.table_list.specs.Laid.{Laid}
use Rattle.rule_expr_nodes.specs.Nodes.{Makes}
use Rattle.rule_stmt_nodes.specs.declared.last.Head.{Head}
use Rattle.rule_stmt_nodes.specs.Nodes.{handled_made}
use Rattle.rule_statements.specs.Walks.{bare, Around, GivesActs, lay_rest}

-- of a body o, what is left is o': f is the lowest fault of the statements before, whose layout ends at top' with the slot slot'
pub record BodyLeft (σ : Environment) (fr : Frame) (bs : List ℕ) (o : Option (Body × ℕ)) (slot top : ℕ) (l : List ℕ) (f : Fault) (o' : Option (Body × ℕ)) (slot' top' : ℕ) (l' : List ℕ) : Type 0 where
  pub fault-is : fault_of (body_staged σ fr (bare o)) ≡ lowest f (fault_of (body_staged σ fr (bare o')))
  pub laid : (b : BodyCode) → body_staged σ fr (bare o) ≡ fits b
      → (c : BodyCode) × ((body_staged σ fr (bare o') ≡ fits c) × ((b.handles ≡ c.handles) × ((b.handler ≡ c.handler) × (lay_acts bs b.acts slot top l ≡ lay_acts bs c.acts slot' top' l'))))
  pub number : (p : Body × ℕ) → o ≡ some p → (q : Body × ℕ) × ((o' ≡ some q) × (p.1 ≡ q.1))

-- the answer g so far
pub record Fronting (s l ts : List ℕ) (scope : Scope) (n slot at top : ℕ) (g : Got) (slot' : ℕ) (l' : List ℕ) : Type 0 where
  pub around : later (stack_at s at) ≡ later (stack_at s g.next)
  pub keeps : slot ≤ top → Same 0 slot l' l
  pub above : slot ≤ top → slot ≤ slot'
  pub grows : top ≤ g.top
  pub few-left : (σ : Environment) (bs : List ℕ) → Around s l ts scope no_loops 33 n at slot σ bs [] → slot ≤ top → g.kind + nodes_in (first (stack_at s g.next)) ≤ 65535
  pub says : (σ : Environment) (fr : Frame) (bs : List ℕ) → Around s l ts scope no_loops 33 n at slot σ bs [] → slot ≤ top
      → BodyLeft σ fr bs (body_in n (first (stack_at s at))) slot top l g.fault (body_in g.kind (first (stack_at s g.next))) slot' g.top l'

-- all parts from past the first slot on
pub record RestTold (σ : Environment) (fr : Frame) (bs : List ℕ) (h : Head) (o : Option (Body × ℕ)) (slot top : ℕ) (l : List ℕ) (g : Got) (l' : List ℕ) : Type 0 where
  pub fault-is : g.fault ≡ fault_of (body_staged σ fr (bare o))
  pub laid : (b : BodyCode) → body_staged σ fr (bare o) ≡ fits b → out g.place g.top l' ≡ lay_rest bs h b slot top l
  pub number : (p : Body × ℕ) → o ≡ some p → g.kind ≡ p.1

pub record GivesRest (s l ts : List ℕ) (scope : Scope) (h : Head) (n slot at top : ℕ) (g : Got) (l' : List ℕ) : Type 0 where
  pub goes : is_form g.fault ≡ false → later (stack_at s at) ≡ stack_at s g.next
  pub keeps : slot ≤ top → Same 0 slot l' l
  pub grows : top ≤ g.top
  pub says : (σ : Environment) (fr : Frame) (bs : List ℕ) → Around s l ts scope no_loops 33 n at slot σ bs [] → slot ≤ top → RestTold σ fr bs h (body_in n (first (stack_at s at))) slot top l g l'

-- a body from the statements of its handler on, which begin at q; x is the answer for the statements before
pub data HandledBy (s l ts : List ℕ) (scope : Scope) (h : Head) (start : ℕ) (x : Got) (q : ℕ) (r : Got) (l' : List ℕ) : Type 0 where
  by_parts : (t : ℕ) (a b : Got) (l₁ l₂ : List ℕ) → Laid (lay (0 ∷ []) x.top l) t l₁ → GivesActs s l₁ ts scope no_loops 33 x.kind x.top q t a l₂ → Closes s a b
      → Makes (handled_made l₂ h start x b) r l' → HandledBy s l ts scope h start x q r l'
