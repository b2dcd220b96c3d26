-- The variables of an assignment and of a `for`, by offset.
use Rattle.std.specs.Prelude.{Bool, true, false, not, ◌&&◌, ◌⊎◌, List, ◌∷◌, ◌≡◌, ℕ, suc, Option, Some, None}
use Rattle.std.proofs.Math.Option.{some}
use Rattle.law.specs.Environment.{Environment}
use Rattle.law.specs.Names.{Reached, target_of, stmt_of}
use Rattle.law.specs.Rules.{steers, kept_stmt}
use Rattle.law.specs.Script as Script
use Rattle.law.specs.Syntax as Syntax
use Rattle.law.specs.Trees.{Tree, Trees, ◌then◌, Run, first}
use Rattle.law_theorems.specs.Readings.{stack_at}
use Rattle.text_heads.specs.declared.Verb.TheVariants as VB
use Rattle.text_heads.specs.Parts.{target_in, stmt_in}
use Rattle.table_scope.specs.declared.Scope.{Scope}
use Rattle.table_scope.specs.declared.Loops.{Loops}
use Rattle.table_scope.specs.declared.Meaning.{Meaning}
use Rattle.table_scope.specs.declared.Meaning.TheVariants as meaning
use Rattle.table_scope.specs.Loops.{loops_over, with_loop, InForce}
use Rattle.rule_constants.specs.Plain.{plain_tree, plain_first}
use Rattle.rule_statements.specs.Walks.{verb_in}
use Rattle.rule_restrictions.specs.Walks.{Near}

-- two parts have no constant past the integers
pub record PlainTwo (s : List ℕ) (at : ℕ) (r : Bool) : Type 0 where
  pub says : (t : Tree Run) (us : Trees Run) → first (stack_at s at) ≡ (t then us) → r ≡ (plain_tree t && plain_first us)

-- q is past two parts
pub record SkipsTwo (s : List ℕ) (at q : ℕ) : Type 0 where
  pub says : (t u : Tree Run) (us : Trees Run) → first (stack_at s at) ≡ (t then (u then us)) → first (stack_at s q) ≡ us

-- a name that means m is no variable of the loops around
abbrev pub free_by : Loops → Meaning → Bool
free_by w meaning.Unknown = true
free_by w (meaning.Type k) = true
free_by w (meaning.Var i k a) = not (loops_over w i)
free_by w (meaning.Proc p) = true
free_by w (meaning.Value k n) = true

-- the target that is assigned
pub record Free (s l : List ℕ) (scope : Scope) (loops : Loops) (at : ℕ) (r : Bool) : Type 0 where
  pub says : (d : ℕ) (σ : Environment) (js : List ℕ) → Near s l scope loops d σ js → (g : Syntax.Target) (x : Reached)
      → target_in 33 (first (stack_at s at)) ≡ some g → target_of σ g ≡ some x → r ≡ not (steers x.target js)

-- a `for` over variable i from its bounds on
abbrev pub BoundedBy : List ℕ → Loops → ℕ → ℕ → Option (ℕ × ℕ) → Type 0
BoundedBy s loops i at (Some (j, q)) = (j ≡ i) × ((loops_over loops i ≡ false) × (PlainTwo s at true × SkipsTwo s at q))
BoundedBy s loops i at None = (loops_over loops i ≡ true) ⊎ PlainTwo s at false

pub record Bounded (s : List ℕ) (loops : Loops) (i at : ℕ) (r : Option (ℕ × ℕ)) : Type 0 where
  pub says : BoundedBy s loops i at r

-- the same, where the control variable's name means m
pub record StartsBy (s : List ℕ) (loops : Loops) (m : Meaning) (at : ℕ) (r : Option (ℕ × ℕ)) : Type 0 where
  pub says : (i k a : ℕ) → m ≡ meaning.Var i k a → Bounded s loops i at r

-- a `for` x over variable i in the loops js that keeps the rules up to its statement
pub record Steps (s : List ℕ) (loops : Loops) (σ : Environment) (js : List ℕ) (d n : ℕ) (x : Script.Stmt) (i q : ℕ) : Type 0 where
  pub form : Syntax.Stmt × ℕ
  pub inside : Script.Stmt
  pub in-force : InForce (with_loop loops i) (i ∷ js)
  pub read : stmt_in d n (first (stack_at s q)) ≡ some form
  pub named : stmt_of σ form.0 ≡ some inside
  pub kept : kept_stmt x js ≡ kept_stmt inside (i ∷ js)

abbrev pub StartsAs : List ℕ → Loops → Environment → List ℕ → ℕ → ℕ → Script.Stmt → Option (ℕ × ℕ) → Type 0
StartsAs s loops σ js d n x (Some (i, q)) = Steps s loops σ js d n x i q
StartsAs s loops σ js d n x None = kept_stmt x js ≡ false

-- a `for` from past its head word on
pub record Starts (s l : List ℕ) (scope : Scope) (loops : Loops) (at : ℕ) (r : Option (ℕ × ℕ)) : Type 0 where
  pub says : (d : ℕ) (σ : Environment) (js : List ℕ) → Near s l scope loops (suc d) σ js → (n : ℕ) (p : Syntax.Stmt × ℕ) (x : Script.Stmt)
      → verb_in VB.For d n (first (stack_at s at)) ≡ some p → stmt_of σ p.0 ≡ some x → StartsAs s loops σ js d n x r
