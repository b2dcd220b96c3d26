-- What a walk over statements looks up.
use Rattle.std.specs.Prelude.{true, false, List, ◌≡◌, ℕ, ◌≤◌, get_or, Some, None, Option as Held}
use Rattle.std.proofs.Math.Option.{some}
use Rattle.law.specs.Base.{Name, ◌>>=◌, find}
use Rattle.law.specs.Environment.{Environment}
use Rattle.law.specs.Names.{as_proc}
use Rattle.law.specs.Syntax.{Body}
use Rattle.law.specs.Trees.{first}
use Rattle.law_theorems.specs.Readings.{stack_at}
use Rattle.text_heads.specs.Parts.{rest, name_in, stmts_in, body_in}
use Rattle.table_scope.specs.declared.Scope.{Scope}
use Rattle.table_scope.specs.declared.Meaning.{Meaning}
use Rattle.table_scope.specs.declared.Meaning.TheVariants as meaning
use Rattle.table_scope.specs.Frames.{frame_in}
use Rattle.table_scope.specs.Scene.{Scene}
use Rattle.table_bodies.specs.Table.{offset_of, scope_of, stmts_before, types_of}
use Rattle.mark_statements.specs.declared.finding.Callee.{Callee}
use Rattle.mark_statements.specs.declared.finding.Line.{Line}

-- body q's line in the table
abbrev pub line_of : List ℕ → ℕ → Line
line_of tb q = record { start = offset_of tb q; scope = scope_of tb q; number = stmts_before tb q; kinds = types_of tb q }

-- the place of a procedure's node by what its name means
abbrev pub proc_in : Meaning → ℕ
proc_in meaning.Unknown = 0
proc_in (meaning.Type t) = 0
proc_in (meaning.Var i t a) = 0
proc_in (meaning.Proc p) = p
proc_in (meaning.Value k n) = 0

-- the procedure whose node stands at p, with arguments from q on
abbrev pub callee_at : List ℕ → ℕ → ℕ → Callee
callee_at l p q = record { number = get_or l p 0; frame = frame_in l p; next = q }

-- r is the procedure that the name at an offset means, with what stands after that; bs holds the places of the nodes
pub record CalleeIs (s l : List ℕ) (at place : ℕ) (r : Callee) : Type 0 where
  pub callee : r ≡ callee_at l place r.next
  pub after : rest (first (stack_at s at)) ≡ first (stack_at s r.next)

pub record Calls (s l : List ℕ) (scope : Scope) (at : ℕ) (r : Callee) : Type 0 where
  pub says : (ts : List ℕ) (top : ℕ) (σ : Environment) (bs : List ℕ) → Scene s l ts scope top σ bs
      → (w : Name) → name_in (first (stack_at s at)) ≡ some w → (p : ℕ × List ℕ) → (find σ.names w >>= as_proc) ≡ some p → CalleeIs s l at (get_or bs p.0 0) r

-- ---- a body's handler

-- the statements of its handler begin at q, after statement m
abbrev pub HandlesBy : List ℕ → Body × ℕ → Held (ℕ × ℕ) → Type 0
HandlesBy s b (Some p) = (b.0.handles ≡ true) × (stmts_in 33 p.1 (first (stack_at s p.0)) ≡ some (b.0.handler, b.1))
HandlesBy s b None = b.0.handles ≡ false

-- for the body at an offset, where n is the number of the last statement before
pub record Handles (s : List ℕ) (n at : ℕ) (r : Held (ℕ × ℕ)) : Type 0 where
  pub says : (b : Body × ℕ) → body_in n (first (stack_at s at)) ≡ some b → b.1 ≤ 4294967295 → HandlesBy s b r
