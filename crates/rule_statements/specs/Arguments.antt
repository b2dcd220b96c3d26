-- The arguments of a call: a chain of links from a slot on; what is done and what is left of it.
use Rattle.std.specs.Prelude.{false, List, map, ◌≡◌, ℕ, ◌≤◌, drop, get_or}
use Rattle.std.proofs.Math.Option.{Option, none, some}
use Rattle.leaf_bytes.specs.Bytes.{small}
use Rattle.law.specs.Base.{Name, ◌>>=◌, find}
use Rattle.law.specs.Code.{Codes}
use Rattle.law.specs.Environment.{Environment}
use Rattle.law.specs.Names.{as_proc}
use Rattle.law.specs.Syntax.{Exprs, call}
use Rattle.law.specs.Trees.{first, later, word_at}
use Rattle.law_theorems.specs.Readings.{stack_at}
use Rattle.code.specs.Layout.{lay_codes}
use Rattle.code.specs.LayoutRegions.{Same}
use Rattle.rule_stages.specs.Stages.{fits, arguments_staged}
use Rattle.text_heads.specs.Parts.{exprs_in}
use Rattle.table_scope.specs.declared.frames.Frame.{Frame}
use Rattle.table_scope.specs.declared.Scope.{Scope}
use Rattle.table_scope.specs.Scene.{Scene}
use Rattle.rule_faults.specs.declared.Fault.{Fault}
use Rattle.rule_faults.specs.declared.Fault.TheVariants.{Clear}
use Rattle.rule_faults.specs.declared.Got.{Got}
use Rattle.rule_faults.specs.Got.{lowest, is_form, fault_of}
use Rattle.rule_expressions.specs.Walks.{Leaves}
use Rattle.rule_stmt_nodes.specs.declared.calls.Callee.{Callee}
use Rattle.rule_stmt_nodes.specs.Calls.{callee_is, no_callee, Takes, few_fault}
use Rattle.rule_statements.specs.Walks.{ActTold}

-- of the procedure that a name means
pub data CalleeTold (σ : Environment) (bs l : List ℕ) (top : ℕ) (w : Name) : Callee → Type 0 where
  known : (p : ℕ) (us : List ℕ) (x : Frame) → (find σ.names w >>= as_proc) ≡ some (p, us) → Takes l top us x → CalleeTold σ bs l top w (callee_is Clear (get_or bs p 0) x)
  unknown : (find σ.names w >>= as_proc) ≡ none → CalleeTold σ bs l top w no_callee

-- of arguments for parameters of the types us, whose frame is x; the answer's kind is their count
pub record ArgumentsTold (σ : Environment) (us : List ℕ) (x : Frame) (o : Option Exprs) (slot top : ℕ) (l : List ℕ) (g : Got) (l' : List ℕ) : Type 0 where
  pub fault-is : lowest g.fault (few_fault x g.kind) ≡ fault_of (arguments_staged σ us o)
  pub laid : (cs : Codes) → arguments_staged σ us o ≡ fits cs → (g.top ≡ (lay_codes cs slot top l).top) × (l' ≡ (lay_codes cs slot top l).list)

-- up to the closing bracket, from a slot on
pub record GivesArguments (s l ts : List ℕ) (scope : Scope) (x : Frame) (slot at top : ℕ) (g : Got) (l' : List ℕ) : Type 0 where
  pub goes : is_form g.fault ≡ false → later (stack_at s at) ≡ stack_at s g.next
  pub keeps : slot ≤ top → Same 0 slot l' l
  pub grows : top ≤ g.top
  pub says : (σ : Environment) (bs us : List ℕ) → Scene s l ts scope slot σ bs → Takes l slot us x → slot ≤ top
      → ArgumentsTold σ us x (exprs_in 33 (first (stack_at s at))) slot top l g l'

-- of all arguments o, those that are left, after the first n, are o': f is the lowest fault of the others
pub record ArgumentsLeft (σ : Environment) (us : List ℕ) (o : Option Exprs) (slot top : ℕ) (l : List ℕ) (f : Fault) (n : ℕ) (o' : Option Exprs) (slot' top' : ℕ) (l' : List ℕ) : Type 0 where
  pub fault-is : fault_of (arguments_staged σ us o) ≡ lowest f (fault_of (arguments_staged σ (drop n us) o'))
  pub laid : (cs : Codes) → arguments_staged σ us o ≡ fits cs → (ds : Codes) × ((arguments_staged σ (drop n us) o' ≡ fits ds) × (lay_codes cs slot top l ≡ lay_codes ds slot' top' l'))

-- the answer g so far
pub record Passing (s l ts : List ℕ) (scope : Scope) (x : Frame) (slot at top : ℕ) (g : Got) (slot' : ℕ) (l' : List ℕ) : Type 0 where
  pub around : later (stack_at s at) ≡ later (stack_at s g.next)
  pub keeps : slot ≤ top → Same 0 slot l' l
  pub above : slot ≤ top → slot ≤ slot'
  pub grows : top ≤ g.top
  pub says : (σ : Environment) (bs us : List ℕ) → Scene s l ts scope slot σ bs → Takes l slot us x → slot ≤ top
      → ArgumentsLeft σ us (exprs_in 33 (first (stack_at s at))) slot top l g.fault g.kind (exprs_in 33 (first (stack_at s g.next))) slot' g.top l'

-- a `call` after its name at p
pub record GivesCallNamed (s l ts : List ℕ) (scope : Scope) (n p at top : ℕ) (g : Got) (l' : List ℕ) : Type 0 where
  pub leaves : Leaves s at top l g l'
  pub says : (σ : Environment) (bs js : List ℕ) → Scene s l ts scope top σ bs
      → ActTold σ bs js (exprs_in 33 (first (stack_at s at)) >>= λ es. some (call n (map small (word_at s p)) es, n)) top l g l'
