-- The rules of row 8 beside kinds (law, Rules), part by part: what is promised of parts that rows 6 and 7 have passed.
use Rattle.std.specs.Prelude.{Bool, ◌&&◌, List, ◌≡◌, ℕ, suc, ◌≤◌, ◌+◌, length}
use Rattle.std.proofs.Math.Option.{some}
use Rattle.law.specs.Base.{each}
use Rattle.law.specs.Environment.{Environment}
use Rattle.law.specs.Names.{constant_of, stmt_of, stmts_of, arms_of, body_of}
use Rattle.law.specs.Rules.{all_plain, differ, labels_of, kept_stmt, kept_stmts, kept_arms, kept_body}
use Rattle.law.specs.Script as Script
use Rattle.law.specs.Syntax as Syntax
use Rattle.law.specs.Syntax.{Constant}
use Rattle.law.specs.Trees.{form, end, ◌then◌, first}
use Rattle.law_theorems.specs.Readings.{stack_at}
use Rattle.text_heads.specs.declared.Verb.{Verb}
use Rattle.text_heads.specs.declared.Verb.TheVariants as VB
use Rattle.text_heads.specs.Parts.{rest, stmt_in, stmts_in, else_in, arm_in, arms_in, body_in}
use Rattle.table_scope.specs.declared.Scope.{Scope}
use Rattle.table_scope.specs.declared.Loops.{Loops}
use Rattle.table_scope.specs.Loops.{InForce}
use Rattle.table_scope.specs.Scene.{Scene}
use Rattle.rule_labels.specs.Blocks.{Held}
use Rattle.rule_statements.specs.Walks.{verb_in}

-- the tables, and the control variables of the loops around, so few that a statement d deep has room for its own
pub record Near (s l : List ℕ) (scope : Scope) (loops : Loops) (d : ℕ) (σ : Environment) (js : List ℕ) : Type 0 where
  pub held : Held s l scope σ
  pub in-force : InForce loops js
  pub few-loops : length js + d ≤ 33

-- a statement at most d deep
pub record KeepsStmt (s l : List ℕ) (scope : Scope) (loops : Loops) (d at : ℕ) (r : Bool) : Type 0 where
  pub says : (σ : Environment) (js : List ℕ) → Near s l scope loops d σ js → (n : ℕ) (p : Syntax.Stmt × ℕ) (x : Script.Stmt)
      → stmt_in d n (first (stack_at s at)) ≡ some p → stmt_of σ p.0 ≡ some x → r ≡ kept_stmt x js

-- all parts of its form, from past the opening bracket
pub record KeepsInner (s l : List ℕ) (scope : Scope) (loops : Loops) (d at : ℕ) (r : Bool) : Type 0 where
  pub says : (σ : Environment) (js : List ℕ) → Near s l scope loops (suc d) σ js → (n : ℕ) (p : Syntax.Stmt × ℕ) (x : Script.Stmt)
      → stmt_in (suc d) n (form (first (stack_at s at)) then end) ≡ some p → stmt_of σ p.0 ≡ some x → r ≡ kept_stmt x js

-- the parts after the head word; n is the statement's number
pub record KeepsVerb (s l : List ℕ) (scope : Scope) (loops : Loops) (v : Verb) (d at : ℕ) (r : Bool) : Type 0 where
  pub says : (σ : Environment) (js : List ℕ) → Near s l scope loops (suc d) σ js → (n : ℕ) (p : Syntax.Stmt × ℕ) (x : Script.Stmt)
      → verb_in v d n (first (stack_at s at)) ≡ some p → stmt_of σ p.0 ≡ some x → r ≡ kept_stmt x js

pub record KeepsAssign (s l : List ℕ) (scope : Scope) (loops : Loops) (at : ℕ) (r : Bool) : Type 0 where
  pub any : (d : ℕ) → KeepsVerb s l scope loops VB.Assign d at r

-- the parts of an `if` after its test, and the third part, which may be missing
pub record KeepsThen (s l : List ℕ) (scope : Scope) (loops : Loops) (d at : ℕ) (r : Bool) : Type 0 where
  pub says : (σ : Environment) (js : List ℕ) → Near s l scope loops d σ js → (n : ℕ) (p q : Syntax.Stmt × ℕ) (x y : Script.Stmt)
      → stmt_in d n (first (stack_at s at)) ≡ some p → else_in d p.1 (rest (first (stack_at s at))) ≡ some q → stmt_of σ p.0 ≡ some x → stmt_of σ q.0 ≡ some y
      → r ≡ (kept_stmt x js && kept_stmt y js)

pub record KeepsElse (s l : List ℕ) (scope : Scope) (loops : Loops) (d at : ℕ) (r : Bool) : Type 0 where
  pub says : (σ : Environment) (js : List ℕ) → Near s l scope loops d σ js → (n : ℕ) (p : Syntax.Stmt × ℕ) (x : Script.Stmt)
      → else_in d n (first (stack_at s at)) ≡ some p → stmt_of σ p.0 ≡ some x → r ≡ kept_stmt x js

-- statements to the end of a form
pub record KeepsStmts (s l : List ℕ) (scope : Scope) (loops : Loops) (d at : ℕ) (r : Bool) : Type 0 where
  pub says : (σ : Environment) (js : List ℕ) → Near s l scope loops d σ js → (n : ℕ) (p : Syntax.Stmts × ℕ) (xs : Script.Stmts)
      → stmts_in d n (first (stack_at s at)) ≡ some p → stmts_of σ p.0 ≡ some xs → r ≡ kept_stmts xs js

-- an arm after its head word, the arms to the end of a case, and those whose labels differ too
pub record KeepsArm (s l : List ℕ) (scope : Scope) (loops : Loops) (d at : ℕ) (r : Bool) : Type 0 where
  pub says : (σ : Environment) (js : List ℕ) → Near s l scope loops d σ js → (n : ℕ) (a : List Constant × (Syntax.Stmt × ℕ)) (ls : List Script.Const) (x : Script.Stmt)
      → arm_in d n (first (stack_at s at)) ≡ some a → each (constant_of σ) a.0 ≡ some ls → stmt_of σ a.1.0 ≡ some x → r ≡ (all_plain ls && kept_stmt x js)

pub record KeepsArms (s l : List ℕ) (scope : Scope) (loops : Loops) (d at : ℕ) (r : Bool) : Type 0 where
  pub says : (σ : Environment) (js : List ℕ) → Near s l scope loops d σ js → (n : ℕ) (a : Syntax.Arms × ℕ) (b : Script.Arms)
      → arms_in d n (first (stack_at s at)) ≡ some a → arms_of σ a.0 ≡ some b → r ≡ kept_arms b js

pub record KeepsCases (s l : List ℕ) (scope : Scope) (loops : Loops) (d at : ℕ) (r : Bool) : Type 0 where
  pub says : (σ : Environment) (js : List ℕ) → Near s l scope loops d σ js → (n : ℕ) (a : Syntax.Arms × ℕ) (b : Script.Arms)
      → arms_in d n (first (stack_at s at)) ≡ some a → arms_of σ a.0 ≡ some b → r ≡ (differ (labels_of b) && kept_arms b js)

-- a body, in every environment that the tables hold
pub record KeepsBody (s l : List ℕ) (scope : Scope) (at : ℕ) (r : Bool) : Type 0 where
  pub says : (ts : List ℕ) (top : ℕ) (σ : Environment) (bs : List ℕ) → Scene s l ts scope top σ bs → (n : ℕ) (p : Syntax.Body × ℕ) (b : Script.Body)
      → body_in n (first (stack_at s at)) ≡ some p → body_of σ p.0 ≡ some b → r ≡ kept_body b
