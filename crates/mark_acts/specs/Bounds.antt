-- The control variable and the bounds of a `for` in the marking machine (law, Marking).
use Rattle.std.specs.Prelude.{◌≡◌, List, ℕ, ℤ, Ok, Err, Result as Held}
use Rattle.std.proofs.Math.Option.{some}
use Rattle.law.specs.Base.{Name}
use Rattle.law.specs.Calculate.{Result, is, ◌>>=◌}
use Rattle.law.specs.Environment.{Environment}
use Rattle.law.specs.Machine.{Store}
use Rattle.law.specs.Marking.{TypedValue, mark_expr, mark_bounds, or_stuck, typed_place}
use Rattle.law.specs.Names.{expr_of, var_of}
use Rattle.law.specs.Script.{Expr}
use Rattle.law.specs.Syntax as Syntax
use Rattle.law.specs.Trees.{first}
use Rattle.law_theorems.specs.Readings.{stack_at}
use Rattle.law.specs.Types.{Types, Var, Vars, variable, info_at}
use Rattle.code_calc.specs.Words.{InRange, Holds}
use Rattle.text_heads.specs.Parts.{rest, expr_in, name_in}
use Rattle.mark_values.specs.declared.values.Carried.{Carried}
use Rattle.mark_values.specs.declared.places.Reached.{Reached}
use Rattle.mark_values.specs.Values.{Carries, Reaches, Known}
use Rattle.mark_values.specs.Carrying.{Broken}
use Rattle.mark_acts.specs.declared.bounds.Span.{Span}
use Rattle.table_scope.specs.declared.Scope.{Scope}

-- a variable, and from where to where it counts
abbrev pub Counted : Type 0
Counted = Var × (ℤ × ℤ)

-- what a `for` over x works out, by what its bounds are
abbrev pub joined : Types → Vars → Var → Result TypedValue → Result TypedValue → Result Counted
joined Γ Δ x a b = a >>= λ u. b >>= λ v. mark_bounds Γ Δ x u v >>= λ p. is (x, p)

abbrev pub counted : Types → Vars → ℕ → Expr → Expr → Store → Result Counted
counted Γ Δ i a b m = or_stuck (variable Δ i) λ x. joined Γ Δ x (mark_expr Γ Δ a m) (mark_expr Γ Δ b m)

-- a `for` counts so
pub record Counts (Γ : Types) (v : Result Counted) (a : ℕ) (lo hi x y : ℤ) : Type 0 where
  pub control : Var
  pub gives : v ≡ is (control, (x, y))
  pub cell : a ≡ control.base
  pub least-is : lo ≡ (info_at Γ control.type).low
  pub most-is : hi ≡ (info_at Γ control.type).high
  pub from-ranged : InRange x
  pub to-ranged : InRange y

abbrev pub SpanBy : Types → Result Counted → Held Span ℤ → Type 0
SpanBy Γ v (Ok s) = Counts Γ v s.cell s.low s.high s.from s.to
SpanBy Γ v (Err w) = Broken w v

pub record SpanIs (Γ : Types) (v : Result Counted) (r : Held Span ℤ) : Type 0 where
  pub says : SpanBy Γ v r

-- a control variable and two bounds that are values
pub record Joins (l ts : List ℕ) (g : Reached) (x y : Carried) (r : Held Span ℤ) : Type 0 where
  pub says : (s : List ℕ) (scope : Scope) (σ : Environment) → Known s l ts scope σ → (m : Store) (i : ℕ) (c : Var) → variable σ.vars i ≡ some c → Reaches (is (typed_place c.type c.base)) g
      → (u v : TypedValue) → Carries σ.types m (is u) x → Carries σ.types m (is v) y → SpanIs σ.types (joined σ.types σ.vars c (is u) (is v)) r

-- the parts of a `for` at an offset
pub record Bounding (s l ts : List ℕ) (ws : List ℤ) (scope : Scope) (at : ℕ) (r : Held Span ℤ) : Type 0 where
  pub says : (σ : Environment) → Known s l ts scope σ → (w : Name) (a b : Syntax.Expr) (i : ℕ) (x y : Expr)
      → name_in (first (stack_at s at)) ≡ some w → expr_in 33 (rest (first (stack_at s at))) ≡ some a → expr_in 33 (rest (rest (first (stack_at s at)))) ≡ some b
      → var_of σ w ≡ some i → expr_of σ a ≡ some x → expr_of σ b ≡ some y → (m : Store) → Holds ws m → SpanIs σ.types (counted σ.types σ.vars i x y m) r
