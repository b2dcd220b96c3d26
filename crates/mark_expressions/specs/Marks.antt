-- What the walk over an expression or a target promises: where it reads as one and its names are found, for every environment that the tables
-- hold and every store that the words hold, what it gives is what the marking machine gives (law, Marking).
use Rattle.std.specs.Prelude.{List, map, ◌≡◌, ℕ, suc, ℤ, None}
use Rattle.std.proofs.Math.Option.{Option, some}
use Rattle.leaf_words.specs.declared.words.Word.{Word}
use Rattle.leaf_bytes.specs.Bytes.{small}
use Rattle.leaf_words.specs.Words.{word_of}
use Rattle.law.specs.Base.{◌>>=◌}
use Rattle.law.specs.Environment.{Environment, NameSort}
use Rattle.law.specs.Machine.{Store}
use Rattle.law.specs.Marking.{mark_expr, mark_target, mark_members}
use Rattle.law.specs.Names as Names
use Rattle.law.specs.Names.{as_expr, as_var, expr_of, target_of, exprs_of}
use Rattle.law.specs.Script.{Expr, Exprs, var}
use Rattle.law.specs.Syntax as Syntax
use Rattle.law.specs.Trees.{form, end, ◌then◌, first, word_at}
use Rattle.law_theorems.specs.Readings.{stack_at}
use Rattle.code_calc.specs.Words.{Holds}
use Rattle.text_heads.specs.declared.ExprHead.{ExprHead}
use Rattle.text_heads.specs.declared.ExprHead.TheVariants.{Minus}
use Rattle.text_heads.specs.Heads.{atom_expr, atom_target, atom_of}
use Rattle.text_heads.specs.Parts.{expr_in, target_in, target_by, exprs_in}
use Rattle.table_scope.specs.declared.Scope.{Scope}
use Rattle.table_scope.specs.declared.Meaning.{Meaning}
use Rattle.table_scope.specs.Scene.{Told}
use Rattle.rule_expr_leaves.specs.Words.{StandsAlone}
use Rattle.rule_expressions.specs.Walks.{form_in}
use Rattle.mark_values.specs.declared.values.Carried.{Carried}
use Rattle.mark_values.specs.declared.places.Reached.{Reached}
use Rattle.mark_values.specs.Values.{MarkMeans, Carries, Reaches, Known}

-- ---- what is marked

-- r is the value of the expression that was read
pub record Marked (σ : Environment) (ws : List ℤ) (o : Option Syntax.Expr) (r : Carried) : Type 0 where
  pub says : (x : Syntax.Expr) (e : Expr) → o ≡ some x → expr_of σ x ≡ some e → (m : Store) → Holds ws m → Carries σ.types m (mark_expr σ.types σ.vars e m) r

-- r is the place of the target
pub record MarkedPlace (σ : Environment) (ws : List ℤ) (o : Option Syntax.Target) (r : Reached) : Type 0 where
  pub says : (x : Syntax.Target) (g : Names.Reached) → o ≡ some x → target_of σ x ≡ some g → (m : Store) → Holds ws m → Reaches (mark_target σ.types σ.vars g.target m) r

-- r is the set of type t of the members
pub record MarkedSet (σ : Environment) (ws : List ℤ) (t : ℕ) (o : Option Syntax.Exprs) (r : ℤ) : Type 0 where
  pub says : (xs : Syntax.Exprs) (es : Exprs) → o ≡ some xs → exprs_of σ xs ≡ some es → (m : Store) → Holds ws m → MarkMeans r (mark_members σ.types σ.vars t es m)

-- ---- the promises

module _ (s l ts : List ℕ) (ws : List ℤ) (scope : Scope) where
  -- an expression, at most d deep
  pub record MarksExpr (d at : ℕ) (r : Carried) : Type 0 where
    pub says : (σ : Environment) → Known s l ts scope σ → Marked σ ws (expr_in d (first (stack_at s at))) r

  -- a target
  pub record MarksTarget (d at : ℕ) (r : Reached) : Type 0 where
    pub says : (σ : Environment) → Known s l ts scope σ → MarkedPlace σ ws (target_in d (first (stack_at s at))) r

  -- the parts of a form after its head word
  pub record MarksForm (h : ExprHead) (d at : ℕ) (r : Carried) : Type 0 where
    pub says : (σ : Environment) → Known s l ts scope σ → Marked σ ws (form_in h d (first (stack_at s at))) r

  pub record MarksPlace (h : ExprHead) (d at : ℕ) (r : Reached) : Type 0 where
    pub says : (σ : Environment) → Known s l ts scope σ → MarkedPlace σ ws (target_by h d (first (stack_at s at))) r

  -- all parts of a form, from past its opening bracket
  pub record MarksInner (d at : ℕ) (r : Carried) : Type 0 where
    pub says : (σ : Environment) → Known s l ts scope σ → Marked σ ws (expr_in (suc d) (form (first (stack_at s at)) then end)) r

  pub record MarksInnerPlace (d at : ℕ) (r : Reached) : Type 0 where
    pub says : (σ : Environment) → Known s l ts scope σ → MarkedPlace σ ws (target_in (suc d) (form (first (stack_at s at)) then end)) r

  -- `-` where it is no negative number
  pub record MarksMinus (d at : ℕ) (r : Carried) : Type 0 where
    pub marks : StandsAlone s at None → MarksForm Minus d at r

  -- members of a set of type t up to the closing bracket
  pub record MarksMembers (t d at : ℕ) (r : ℤ) : Type 0 where
    pub says : (σ : Environment) → Known s l ts scope σ → MarkedSet σ ws t (exprs_in d (first (stack_at s at))) r

  -- a word w at p
  pub record MarksWord (w : Word) (p : ℕ) (r : Carried) : Type 0 where
    pub says : (σ : Environment) → Known s l ts scope σ → w ≡ word_of (word_at s p) → Marked σ ws (atom_expr (atom_of w) (map small (word_at s p))) r

-- as a target it has no value, so that no store matters
pub record MarksVar (s l : List ℕ) (scope : Scope) (w : Word) (p : ℕ) (r : Reached) : Type 0 where
  pub says : (ts : List ℕ) (ws : List ℤ) (σ : Environment) → Known s l ts scope σ → w ≡ word_of (word_at s p) → MarkedPlace σ ws (atom_target (atom_of w) (map small (word_at s p))) r

-- a name by its meaning
pub record MarksName (l ts : List ℕ) (ws : List ℤ) (x : Meaning) (r : Carried) : Type 0 where
  pub says : (s : List ℕ) (scope : Scope) (σ : Environment) (S : Known s l ts scope σ) (n : Option NameSort) → Told σ S.bodies x n
      → (e : Expr) → (n >>= as_expr) ≡ some e → (m : Store) → Holds ws m → Carries σ.types m (mark_expr σ.types σ.vars e m) r

pub record MarksPlaceName (x : Meaning) (r : Reached) : Type 0 where
  pub says : (σ : Environment) (bs : List ℕ) (n : Option NameSort) → Told σ bs x n → (i : ℕ) → (n >>= as_var) ≡ some i → (m : Store) → Reaches (mark_target σ.types σ.vars (var i) m) r
