-- What the walk over a statement promises: how it moves and what it leaves of the working list; and for every environment that the tables
-- hold, its fault of rows 6 to 8, the layout of what it elaborates to, and the number of the last statement read.
use Rattle.std.specs.Prelude.{false, List, [], ◌∷◌, ◌≡◌, ℕ, suc, ◌+◌, ◌≤◌, length}
use Rattle.std.proofs.Math.Option.{Option, none, some}
use Rattle.law.specs.Base.{Name, ◌>>=◌}
use Rattle.law.specs.Code.{Code, Act, Acts, Frame, BodyCode}
use Rattle.law.specs.Environment.{Environment}
use Rattle.law_theorems.specs.FormsByDepth.{stmt, stmt_form}
use Rattle.code.specs.Layout.{Out, out, lay, lay_code, lay_place, lay_act, lay_acts, flag}
use Rattle.law.specs.Names.{var_of}
use Rattle.law.specs.Types.{Var, variable, host_of}
use Rattle.rule_stages.specs.Stages.{fits, wanted_staged, assigned_staged, stmt_staged, stmts_staged, body_staged}
use Rattle.law.specs.Syntax.{Expr, Target, Stmt, Stmts, Body, if_else, for}
use Rattle.law.specs.Trees.{form, Trees, end, ◌then◌, Run, first, later, nodes_in, list}
use Rattle.law_theorems.specs.Readings.{stack_at}
use Rattle.law.specs.Words.{worded_all}
use Rattle.code.specs.LayoutRegions.{Same}
use Rattle.text_heads.specs.declared.Verb.{Verb}
use Rattle.text_heads.specs.declared.Verb.TheVariants.{Assign, Raise, Call}
use Rattle.text_heads.specs.Heads.{verb_meant}
use Rattle.text_heads.specs.Parts.{rest, closed, expr_in, target_in, stmt_in, stmts_in, else_in, body_in}
use Rattle.table_scope.specs.declared.Scope.{Scope}
use Rattle.rule_faults.specs.declared.Fault.TheVariants.{Clear, Name as Unnamed}
use Rattle.table_scope.specs.declared.Loops.{Loops}
use Rattle.table_scope.specs.Loops.{InForce}
use Rattle.table_scope.specs.Scene.{Scene}
use Rattle.rule_faults.specs.declared.Got.{Got}
use Rattle.rule_faults.specs.Got.{is_form, fault_of, Told}
use Rattle.rule_expressions.specs.Walks.{Moves, Leaves}
use Rattle.rule_stmt_nodes.specs.declared.last.Head.{Head}
use Rattle.rule_stmt_nodes.specs.declared.nodes.Control.{Control}
use Rattle.rule_stmt_nodes.specs.Nodes.{control_is}

-- ---- what is told

-- without the number
abbrev pub bare : {A : Type 0} → Option (A × ℕ) → Option A
bare o = o >>= λ p. some p.0

-- of a statement
pub record ActTold (σ : Environment) (bs js : List ℕ) (o : Option (Stmt × ℕ)) (top : ℕ) (l : List ℕ) (g : Got) (l' : List ℕ) : Type 0 where
  pub fault-is : g.fault ≡ fault_of (stmt_staged σ js (bare o))
  pub laid : (a : Act) → stmt_staged σ js (bare o) ≡ fits a → out g.place g.top l' ≡ lay_act bs a top l
  pub number : (p : Stmt × ℕ) → o ≡ some p → g.kind ≡ p.1

-- of statements, from a slot on
pub record ActsTold (σ : Environment) (bs js : List ℕ) (o : Option (Stmts × ℕ)) (slot top : ℕ) (l : List ℕ) (g : Got) (l' : List ℕ) : Type 0 where
  pub fault-is : g.fault ≡ fault_of (stmts_staged σ js (bare o))
  pub laid : (a : Acts) → stmts_staged σ js (bare o) ≡ fits a → (g.top ≡ (lay_acts bs a slot top l).top) × (l' ≡ (lay_acts bs a slot top l).list)
  pub number : (p : Stmts × ℕ) → o ≡ some p → g.kind ≡ p.1

-- of a target that is assigned
pub record StoreTold (σ : Environment) (js : List ℕ) (o : Option Target) (top : ℕ) (l : List ℕ) (g : Got) (l' : List ℕ) : Type 0 where
  pub told : Told (assigned_staged σ js o) (λ w. w.type) (λ w. lay_place w.place) top l g l'

-- a body after its frame: from its first slot on, and after that
unfoldable pub lay_rest : List ℕ → Head → BodyCode → ℕ → ℕ → List ℕ → Out
lay_rest bs h b s t l =
    let m = lay_acts bs b.acts s t l in
    let e = lay (0 ∷ []) m.top m.list in
    let n = lay_acts bs b.handler e.pos e.top e.list in
    lay (h.number ∷ s ∷ flag b.handles ∷ e.pos ∷ h.frame ∷ []) n.top n.list

unfoldable pub lay_framed : List ℕ → Head → BodyCode → ℕ → List ℕ → Out
lay_framed bs h b t l =
    let s = lay (0 ∷ []) t l in
    lay_rest bs h b s.pos s.top s.list

-- of a body whose parameters have the frame fr, after that
pub record BodyTold (σ : Environment) (fr : Frame) (bs : List ℕ) (h : Head) (o : Option (Body × ℕ)) (top : ℕ) (l : List ℕ) (g : Got) (l' : List ℕ) : Type 0 where
  pub fault-is : g.fault ≡ fault_of (body_staged σ fr (bare o))
  pub laid : (b : BodyCode) → body_staged σ fr (bare o) ≡ fits b → out g.place g.top l' ≡ lay_framed bs h b top l
  pub number : (p : Body × ℕ) → o ≡ some p → g.kind ≡ p.1

-- of the control variable of a `for` by its name
pub data ControlTold (σ : Environment) (w : Name) : Control → Type 0 where
  known : (i : ℕ) (v : Var) → var_of σ w ≡ some i → variable σ.vars i ≡ some v → ControlTold σ w (control_is Clear i v.type v.base)
  unknown : var_of σ w ≡ none → ControlTold σ w (control_is Unnamed 0 0 0)

-- of an expression of a kind k that is wanted
pub record WantTold (σ : Environment) (k : ℕ) (o : Option Expr) (top : ℕ) (l : List ℕ) (g : Got) (l' : List ℕ) : Type 0 where
  pub fault-is : g.fault ≡ fault_of (wanted_staged σ k o)
  pub laid : (c : Code) → wanted_staged σ k o ≡ fits c → out g.place g.top l' ≡ lay_code c top l

-- ---- what is given: the tables, the control variables in force, which are so few that a statement d deep has room for its own, and so few
-- parts that their numbers have 32 bits

pub record Around (s l ts : List ℕ) (scope : Scope) (loops : Loops) (d n at top : ℕ) (σ : Environment) (bs js : List ℕ) : Type 0 where
  pub scene : Scene s l ts scope top σ bs
  pub in-force : InForce loops js
  pub few-loops : length js + d ≤ 33
  pub few : n + nodes_in (first (stack_at s at)) ≤ 65535

-- ---- the promises

-- a statement at most d deep, where n is the number of the last one before
pub record GivesStmt (s l ts : List ℕ) (scope : Scope) (loops : Loops) (d n at top : ℕ) (g : Got) (l' : List ℕ) : Type 0 where
  pub moves : Moves s at top l g l'
  pub says : (σ : Environment) (bs js : List ℕ) → Around s l ts scope loops d n at top σ bs js → ActTold σ bs js (stmt_in d n (first (stack_at s at))) top l g l'

-- all parts of its form, from past the opening bracket
pub record GivesInner (s l ts : List ℕ) (scope : Scope) (loops : Loops) (d n at top : ℕ) (g : Got) (l' : List ℕ) : Type 0 where
  pub leaves : Leaves s at top l g l'
  pub says : (σ : Environment) (bs js : List ℕ) → Around s l ts scope loops (suc d) (suc n) at top σ bs js → ActTold σ bs js (stmt_in (suc d) n (form (first (stack_at s at)) then end)) top l g l'

-- the parts after the head word; n is the statement's number
unfoldable pub verb_in : Verb → ℕ → ℕ → Trees Run → Option (Stmt × ℕ)
verb_in v d n us = verb_meant v >>= λ k. worded_all us >>= λ vs. stmt_form (stmt d) k n (list vs)

pub record GivesVerb (s l ts : List ℕ) (scope : Scope) (loops : Loops) (v : Verb) (d n at top : ℕ) (g : Got) (l' : List ℕ) : Type 0 where
  pub leaves : Leaves s at top l g l'
  pub says : (σ : Environment) (bs js : List ℕ) → Around s l ts scope loops (suc d) n at top σ bs js → ActTold σ bs js (verb_in v d n (first (stack_at s at))) top l g l'

-- the verbs without statements in them
pub record GivesAssign (s l ts : List ℕ) (scope : Scope) (loops : Loops) (n at top : ℕ) (g : Got) (l' : List ℕ) : Type 0 where
  pub any : (d : ℕ) → GivesVerb s l ts scope loops Assign d n at top g l'

pub record GivesRaise (s l ts : List ℕ) (scope : Scope) (n at top : ℕ) (g : Got) (l' : List ℕ) : Type 0 where
  pub any : (loops : Loops) (d : ℕ) → GivesVerb s l ts scope loops Raise d n at top g l'

pub record GivesCall (s l ts : List ℕ) (scope : Scope) (n at top : ℕ) (g : Got) (l' : List ℕ) : Type 0 where
  pub any : (loops : Loops) (d : ℕ) → GivesVerb s l ts scope loops Call d n at top g l'

-- a target that is assigned
pub record GivesStore (s l ts : List ℕ) (scope : Scope) (loops : Loops) (at top : ℕ) (g : Got) (l' : List ℕ) : Type 0 where
  pub moves : Moves s at top l g l'
  pub says : (σ : Environment) (bs js : List ℕ) → Scene s l ts scope top σ bs → InForce loops js
      → StoreTold σ js (target_in 33 (first (stack_at s at))) top l g l'

-- an expression of kind k
pub record GivesWanted (s l ts : List ℕ) (scope : Scope) (k at top : ℕ) (g : Got) (l' : List ℕ) : Type 0 where
  pub moves : Moves s at top l g l'
  pub says : (σ : Environment) (bs : List ℕ) → Scene s l ts scope top σ bs → WantTold σ k (expr_in 33 (first (stack_at s at))) top l g l'

-- the parts of an `if` after its test o, whose answer is c
unfoldable pub then_in : ℕ → ℕ → Option Expr → Trees Run → Option (Stmt × ℕ)
then_in d n o us = o >>= λ e. stmt_in d n us >>= λ a. else_in d a.1 (rest us) >>= λ b. some (if_else n e a.0 b.0, b.1)

pub record GivesThen (s l ts : List ℕ) (scope : Scope) (loops : Loops) (c : Got) (d n : ℕ) (g : Got) (l' : List ℕ) : Type 0 where
  pub leaves : Leaves s c.next c.top l g l'
  pub says : (σ : Environment) (bs js : List ℕ) (o : Option Expr) (top : ℕ) (l₀ : List ℕ) → WantTold σ 1 o top l₀ c l → Around s l ts scope loops d n c.next c.top σ bs js
      → ActTold σ bs js (then_in d n o (first (stack_at s c.next))) top l₀ g l'

-- the third part of an `if`, which may be missing
pub record GivesElse (s l ts : List ℕ) (scope : Scope) (loops : Loops) (d n at top : ℕ) (g : Got) (l' : List ℕ) : Type 0 where
  pub leaves : Leaves s at top l g l'
  pub says : (σ : Environment) (bs js : List ℕ) → Around s l ts scope loops d n at top σ bs js → ActTold σ bs js (else_in d n (first (stack_at s at))) top l g l'

-- the parts of a `for` after its control variable w
unfoldable pub for_in : ℕ → ℕ → Name → Trees Run → Option (Stmt × ℕ)
for_in d n w us = expr_in 33 us >>= λ a. expr_in 33 (rest us) >>= λ b. (stmt_in d n (rest (rest us)) >>= λ p. closed (rest (rest (rest us))) p) >>= λ c. some (for n w a b c.0, c.1)

pub record GivesFor (s l ts : List ℕ) (scope : Scope) (loops : Loops) (v : Control) (d n at top : ℕ) (g : Got) (l' : List ℕ) : Type 0 where
  pub leaves : Leaves s at top l g l'
  pub says : (σ : Environment) (bs js : List ℕ) (w : Name) → Around s l ts scope loops (suc d) n at top σ bs js → ControlTold σ w v → ActTold σ bs js (for_in d n w (first (stack_at s at))) top l g l'

-- the same after the first bound o too, whose answer is x; k is the control variable's kind
unfoldable pub to_in : ℕ → ℕ → Name → Option Expr → Trees Run → Option (Stmt × ℕ)
to_in d n w o us = o >>= λ a. expr_in 33 us >>= λ b. (stmt_in d n (rest us) >>= λ p. closed (rest (rest us)) p) >>= λ c. some (for n w a b c.0, c.1)

pub record GivesTo (s l ts : List ℕ) (scope : Scope) (loops : Loops) (k : ℕ) (v : Control) (x : Got) (d n : ℕ) (g : Got) (l' : List ℕ) : Type 0 where
  pub leaves : Leaves s x.next x.top l g l'
  pub says : (σ : Environment) (bs js : List ℕ) (w : Name) (o : Option Expr) (top : ℕ) (l₀ : List ℕ) → WantTold σ k o top l₀ x l → Around s l ts scope loops (suc d) n x.next x.top σ bs js
      → k ≡ host_of σ.types v.kind → ControlTold σ w v → ActTold σ bs js (to_in d n w o (first (stack_at s x.next))) top l₀ g l'

-- the same after both bounds
unfoldable pub do_in : ℕ → ℕ → Name → Option Expr → Option Expr → Trees Run → Option (Stmt × ℕ)
do_in d n w o p us = o >>= λ a. p >>= λ b. (stmt_in d n us >>= λ q. closed (rest us) q) >>= λ c. some (for n w a b c.0, c.1)

pub record GivesDo (s l ts : List ℕ) (scope : Scope) (loops : Loops) (v : Control) (x y : Got) (d n : ℕ) (g : Got) (l' : List ℕ) : Type 0 where
  pub leaves : Leaves s y.next y.top l g l'
  pub says : (σ : Environment) (bs js : List ℕ) (w : Name) (k : ℕ) (o p : Option Expr) (top : ℕ) (l₀ l₁ : List ℕ) → WantTold σ k o top l₀ x l₁ → WantTold σ k p x.top l₁ y l
      → Around s l ts scope loops (suc d) n y.next y.top σ bs js → k ≡ host_of σ.types v.kind → ControlTold σ w v → ActTold σ bs js (do_in d n w o p (first (stack_at s y.next))) top l₀ g l'

-- statements to the end of a form, from a slot on, which is the last place that the list has of the environment or past it
pub record GivesActs (s l ts : List ℕ) (scope : Scope) (loops : Loops) (d n slot at top : ℕ) (g : Got) (l' : List ℕ) : Type 0 where
  pub goes : is_form g.fault ≡ false → later (stack_at s at) ≡ stack_at s g.next
  pub keeps : slot ≤ top → Same 0 slot l' l
  pub grows : top ≤ g.top
  pub says : (σ : Environment) (bs js : List ℕ) → Around s l ts scope loops d n at slot σ bs js → slot ≤ top
      → ActsTold σ bs js (stmts_in d n (first (stack_at s at))) slot top l g l'

-- a body, whatever its frame is: all parts up to the closing bracket
pub record GivesBody (s l ts : List ℕ) (scope : Scope) (h : Head) (n at top : ℕ) (g : Got) (l' : List ℕ) : Type 0 where
  pub leaves : Leaves s at top l g l'
  pub says : (σ : Environment) (fr : Frame) (bs : List ℕ) → Scene s l ts scope top σ bs → n + nodes_in (first (stack_at s at)) ≤ 65535
      → BodyTold σ fr bs h (body_in n (first (stack_at s at))) top l g l'
