-- Assignments and `raise` of the marking machine (law, Marking), conditions and selectors, where the parts at an offset read as such and their names are found.
use Rattle.std.specs.Prelude.{◌≡◌, List, ℕ, ◌≤◌, ℤ}
use Rattle.std.proofs.Math.Option.{some}
use Rattle.law.specs.Calculate.{is, ◌>>=◌}
use Rattle.law.specs.Environment.{Environment}
use Rattle.law.specs.Machine.{Store, Procs, sole}
use Rattle.law.specs.Marking.{mark_expr, mark_stmt, require, wanted}
use Rattle.law.specs.Names as Names
use Rattle.law.specs.Names.{expr_of, target_of}
use Rattle.law.specs.Script.{Expr, assign, raise}
use Rattle.law.specs.Syntax as Syntax
use Rattle.law.specs.Trees.{first}
use Rattle.law_theorems.specs.Readings.{stack_at}
use Rattle.law.specs.Types.{ordinal?}
use Rattle.code_calc.specs.Words.{Holds}
use Rattle.text_heads.specs.Parts.{rest, expr_in, target_in}
use Rattle.mark_steps.specs.Ends.{left_in}
use Rattle.mark_steps.specs.Stands.{after}
use Rattle.mark_values.specs.declared.values.Carried.{Carried}
use Rattle.mark_values.specs.Values.{MarkMeans, Carries, Known}
use Rattle.mark_acts.specs.Ends.{MarkRuns}
use Rattle.table_scope.specs.declared.Scope.{Scope}

module _ (s l ts : List ℕ) where
  -- `(:= G E)` as statement n, after its step; the steps left do not grow
  pub record Assigns (scope : Scope) (n at : ℕ) (ws : List ℤ) (left : ℕ) (ws' : List ℤ) (r : ℕ) : Type 0 where
    pub runs : (σ : Environment) → Known s l ts scope σ → (g : Syntax.Target) (e : Syntax.Expr) (p : Names.Reached) (x : Expr)
        → target_in 33 (first (stack_at s at)) ≡ some g → expr_in 33 (rest (first (stack_at s at))) ≡ some e → target_of σ g ≡ some p → expr_of σ e ≡ some x
        → (ps : Procs) → MarkRuns (after (mark_stmt σ.types σ.vars ps (assign n p.target x))) ws left ws' r
    pub fewer : left_in r ≤ left

  -- `(raise E)`
  pub record Raising (scope : Scope) (n at : ℕ) (ws : List ℤ) (left : ℕ) (ws' : List ℤ) (r : ℕ) : Type 0 where
    pub runs : (σ : Environment) → Known s l ts scope σ → (e : Syntax.Expr) (x : Expr) → expr_in 33 (first (stack_at s at)) ≡ some e → expr_of σ e ≡ some x
        → (ps : Procs) → MarkRuns (after (mark_stmt σ.types σ.vars ps (raise n x))) ws left ws' r
    pub fewer : left_in r ≤ left

  -- the word of a condition
  pub record Conditions (ws : List ℤ) (scope : Scope) (at : ℕ) (r : ℤ) : Type 0 where
    pub says : (σ : Environment) → Known s l ts scope σ → (e : Syntax.Expr) (x : Expr) → expr_in 33 (first (stack_at s at)) ≡ some e → expr_of σ e ≡ some x
        → (m : Store) → Holds ws m → MarkMeans r ((mark_expr σ.types σ.vars x m >>= wanted 1) >>= λ u. is (sole u))

  -- the selector of a case
  pub record Selects (ws : List ℤ) (scope : Scope) (at : ℕ) (r : Carried) : Type 0 where
    pub says : (σ : Environment) → Known s l ts scope σ → (e : Syntax.Expr) (x : Expr) → expr_in 33 (first (stack_at s at)) ≡ some e → expr_of σ e ≡ some x
        → (m : Store) → Holds ws m → Carries σ.types m (mark_expr σ.types σ.vars x m >>= λ v. require (ordinal? σ.types v.kind) (is v)) r
