-- The arguments of a call in the marking machine (law, Marking), and the parameters' cells.
use Rattle.std.specs.Prelude.{Bool, true, false, List, map, ◌≡◌, ℕ, ◌+◌, ◌<◌, ◌≤◌, ltb, ℤ, pos, get_or, length, Ok, Err, Result as Held}
use Rattle.std.proofs.Math.Option.{some}
use Rattle.std.specs.Int.Signed.{lt_z}
use Rattle.law.specs.Base.{pick}
use Rattle.law.specs.Calculate.{Result, is, ◌>>=◌}
use Rattle.law.specs.Environment.{Environment, want_of}
use Rattle.law.specs.Machine.{Store, stored}
use Rattle.law.specs.Marking.{mark_arguments, mark_expr, wanted}
use Rattle.law.specs.Names.{expr_of, exprs_of}
use Rattle.law.specs.Script.{Expr, Exprs}
use Rattle.law.specs.Syntax as Syntax
use Rattle.law.specs.Trees.{first}
use Rattle.law_theorems.specs.Readings.{stack_at}
use Rattle.law.specs.Types.{host_of}
use Rattle.code_calc.specs.Words.{greatest, InRange, Holds}
use Rattle.text_heads.specs.Parts.{expr_in, exprs_in}
use Rattle.mark_steps.specs.Stands.{Stands}
use Rattle.mark_cells.specs.Cells.{Forgets}
use Rattle.mark_values.specs.Values.{MarkMeans, Known}
use Rattle.mark_values.specs.Steps.{taken}
use Rattle.mark_values.specs.Carrying.{Broken}
use Rattle.table_scope.specs.declared.Scope.{Scope}
use Rattle.table_scope.specs.declared.frames.Frame.{Frame}

-- the frame x is of parameters of the types us
pub record Lists (l : List ℕ) (x : Frame) (us : List ℕ) : Type 0 where
  pub count-is : x.count ≡ length us
  pub types_are : (j : ℕ) → j < length us → get_or l (x.types + j) 0 ≡ get_or us j 0
  pub few : length us ≤ 8

-- the machine's arguments for parameters of the types us
abbrev pub arguments_of : Environment → List ℕ → Exprs → Store → Result (List ℤ)
arguments_of σ us es m = mark_arguments σ.types σ.vars (map (want_of σ.types) us) us es m

-- v is the values whose words are the first k of vs
pub record InWords (vs : List ℤ) (k : ℕ) (v : Result (List ℤ)) : Type 0 where
  pub values : List ℤ
  pub gives : v ≡ is values
  pub count : length values ≡ k
  pub same : (j : ℕ) → j < k → get_or vs j (pos 0) ≡ get_or values j (pos 0)
  pub ranged : (j : ℕ) → j < length values → InRange (get_or values j (pos 0))

abbrev pub GatheredBy : List ℤ → Result (List ℤ) → Held ℕ ℤ → Type 0
GatheredBy vs v (Ok k) = InWords vs k v
GatheredBy vs v (Err w) = Broken w v × (lt_z greatest w ≡ true)

-- the values v are in the cells from a on; or v is none, its word is above every value's, and nothing changes
pub record Given (m : Store) (left a : ℕ) (v : Result (List ℤ)) (ws' : List ℤ) : Type 0 where
  pub values : List ℤ
  pub gives : v ≡ is values
  pub stands : Stands ws' left (stored a values m)

abbrev pub Passed : Store → ℕ → ℕ → Result (List ℤ) → List ℤ → List ℤ → Held Unit ℤ → Type 0
Passed m left a v ws ws' (Ok _) = Given m left a v ws'
Passed m left a v ws ws' (Err w) = Broken w v × ((lt_z greatest w ≡ true) × (ws' ≡ ws))

-- a body that ended by this word returns: neither is it spent nor does it stick
unfoldable pub returns : ℕ → Bool
returns o = pick (ltb o 4294967296) true (pick (ltb o 8589934592) false (ltb o 12884901888))

-- the parameters of x are gone where it does
pub record TakesBack (x : Frame) (o : ℕ) (ws ws' : List ℤ) : Type 0 where
  pub gone : returns o ≡ true → Forgets ws x.base x.count ws'
  pub kept : returns o ≡ false → ws' ≡ ws

-- ---- the promises

module _ (s l ts : List ℕ) where
  -- the argument at an offset for a parameter of type t
  pub record Argues (ws : List ℤ) (scope : Scope) (t at : ℕ) (r : ℤ) : Type 0 where
    pub says : (σ : Environment) → Known s l ts scope σ → (e : Syntax.Expr) (x : Expr) → expr_in 33 (first (stack_at s at)) ≡ some e → expr_of σ e ≡ some x
        → (m : Store) → Holds ws m → MarkMeans r ((mark_expr σ.types σ.vars x m >>= wanted (host_of σ.types t)) >>= λ u. taken σ.types t u)

  -- the arguments from an offset on for the parameters of x, in a list of eight words that was vs₀
  pub record Gathers (ws : List ℤ) (scope : Scope) (x : Frame) (at : ℕ) (vs₀ vs : List ℤ) (r : Held ℕ ℤ) : Type 0 where
    pub long : length vs ≡ length vs₀
    pub says : length vs₀ ≡ 8 → (σ : Environment) → Known s l ts scope σ → (us : List ℕ) → Lists l x us → (xs : Syntax.Exprs) (es : Exprs) → exprs_in 33 (first (stack_at s at)) ≡ some xs → exprs_of σ xs ≡ some es
        → (m : Store) → Holds ws m → GatheredBy vs (arguments_of σ us es m) r

  -- and they are given to these
  pub record Passes (scope : Scope) (x : Frame) (at : ℕ) (ws ws' : List ℤ) (r : Held Unit ℤ) : Type 0 where
    pub says : (σ : Environment) → Known s l ts scope σ → (us : List ℕ) → Lists l x us → (xs : Syntax.Exprs) (es : Exprs) → exprs_in 33 (first (stack_at s at)) ≡ some xs → exprs_of σ xs ≡ some es
        → (m : Store) (left : ℕ) → Stands ws left m → Passed m left x.base (arguments_of σ us es m) ws ws' r
