-- What the walk over an expression or a target promises. Row 6 is a matter of the text alone; rows 7 and 8, the kind and the code are
-- told for every environment that the tables hold.
use Rattle.std.specs.Prelude.{false, List, map, ◌≡◌, ℕ, suc, ◌≤◌}
use Rattle.std.proofs.Math.Option.{Option, none, some}
use Rattle.leaf_words.specs.declared.words.Word.{Word}
use Rattle.leaf_bytes.specs.Bytes.{small}
use Rattle.leaf_words.specs.Words.{word_of}
use Rattle.law.specs.Base.{◌>>=◌}
use Rattle.law.specs.Syntax as Syntax
use Rattle.law_theorems.specs.FormsByDepth.{expr, target, expr_form}
use Rattle.law.specs.Trees.{Tree, form, Trees, end, ◌then◌, Run, first, later, list, word_at}
use Rattle.law_theorems.specs.Readings.{stack_at}
use Rattle.law.specs.Words.{worded_all}
use Rattle.law.specs.Environment.{Environment}
use Rattle.code.specs.Layout.{lay_code, lay_place}
use Rattle.law.specs.Names.{Reached, target_of}
use Rattle.rule_stages.specs.Stages.{expr_staged, target_staged}
use Rattle.code.specs.LayoutRegions.{Same}
use Rattle.text_heads.specs.declared.ExprHead.{ExprHead}
use Rattle.text_heads.specs.Heads.{expr_head_meant, atom_expr, atom_target, atom_of}
use Rattle.text_heads.specs.Parts.{expr_in, target_in, target_by}
use Rattle.table_scope.specs.declared.Scope.{Scope}
use Rattle.table_scope.specs.Scene.{Scene}
use Rattle.rule_faults.specs.declared.Got.{Got}
use Rattle.rule_faults.specs.Got.{is_form, Told}
use Rattle.text_parts.specs.Parts.{Before}

-- ---- how a walk moves, and what it leaves of the working list

-- over one part
pub record Moves (s : List ℕ) (at top : ℕ) (l : List ℕ) (g : Got) (l' : List ℕ) : Type 0 where
  pub goes : is_form g.fault ≡ false → (t : Tree Run) × Before s at t g.next
  pub keeps : Same 0 top l' l
  pub grows : top ≤ g.top

-- to the end of a form: past its closing bracket
pub record Leaves (s : List ℕ) (at top : ℕ) (l : List ℕ) (g : Got) (l' : List ℕ) : Type 0 where
  pub goes : is_form g.fault ≡ false → later (stack_at s at) ≡ stack_at s g.next
  pub keeps : Same 0 top l' l
  pub grows : top ≤ g.top

-- ---- what is told

-- of an expression: its kind and the layout of its code
pub record ExprTold (σ : Environment) (o : Option Syntax.Expr) (top : ℕ) (l : List ℕ) (g : Got) (l' : List ℕ) : Type 0 where
  pub told : Told (expr_staged σ o) (λ e. e.kind) (λ e. lay_code e.code) top l g l'

-- a type that may be unknown; integer stands for one that is, as it has neither elements nor fields
pub data TypeIs : Option ℕ → ℕ → Type 0 where
  a-type : {t : ℕ} → TypeIs (some t) t
  no-type : TypeIs none 0

-- of a target: its type and the layout of its place; its type also behind a fault of row 8
pub record TargetTold (σ : Environment) (o : Option Syntax.Target) (top : ℕ) (l : List ℕ) (g : Got) (l' : List ℕ) : Type 0 where
  pub told : Told (target_staged σ o) (λ w. w.type) (λ w. lay_place w.place) top l g l'
  pub typed : (x : Syntax.Target) (r : Reached) → o ≡ some x → target_of σ x ≡ some r → TypeIs r.type g.kind

-- ---- the promises

-- an expression, at most d deep
pub record GivesExpr (s l ts : List ℕ) (scope : Scope) (d at top : ℕ) (g : Got) (l' : List ℕ) : Type 0 where
  pub moves : Moves s at top l g l'
  pub says : (σ : Environment) (bs : List ℕ) → Scene s l ts scope top σ bs → ExprTold σ (expr_in d (first (stack_at s at))) top l g l'

-- a target
pub record GivesTarget (s l ts : List ℕ) (scope : Scope) (d at top : ℕ) (g : Got) (l' : List ℕ) : Type 0 where
  pub moves : Moves s at top l g l'
  pub says : (σ : Environment) (bs : List ℕ) → Scene s l ts scope top σ bs → TargetTold σ (target_in d (first (stack_at s at))) top l g l'

-- the parts of a form after its head word, as an expression
unfoldable pub form_in : ExprHead → ℕ → Trees Run → Option Syntax.Expr
form_in h d us = expr_head_meant h >>= λ k. worded_all us >>= λ vs. expr_form (λ t. expr d t) (λ t. target d t) k (list vs)

pub record GivesForm (s l ts : List ℕ) (scope : Scope) (h : ExprHead) (d at top : ℕ) (g : Got) (l' : List ℕ) : Type 0 where
  pub leaves : Leaves s at top l g l'
  pub says : (σ : Environment) (bs : List ℕ) → Scene s l ts scope top σ bs → ExprTold σ (form_in h d (first (stack_at s at))) top l g l'

-- and as a target
pub record GivesPlace (s l ts : List ℕ) (scope : Scope) (h : ExprHead) (d at top : ℕ) (g : Got) (l' : List ℕ) : Type 0 where
  pub leaves : Leaves s at top l g l'
  pub says : (σ : Environment) (bs : List ℕ) → Scene s l ts scope top σ bs → TargetTold σ (target_by h d (first (stack_at s at))) top l g l'

-- all parts of a form, from past its opening bracket
pub record GivesInner (s l ts : List ℕ) (scope : Scope) (d at top : ℕ) (g : Got) (l' : List ℕ) : Type 0 where
  pub leaves : Leaves s at top l g l'
  pub says : (σ : Environment) (bs : List ℕ) → Scene s l ts scope top σ bs → ExprTold σ (expr_in (suc d) (form (first (stack_at s at)) then end)) top l g l'

pub record GivesInnerPlace (s l ts : List ℕ) (scope : Scope) (d at top : ℕ) (g : Got) (l' : List ℕ) : Type 0 where
  pub leaves : Leaves s at top l g l'
  pub says : (σ : Environment) (bs : List ℕ) → Scene s l ts scope top σ bs → TargetTold σ (target_in (suc d) (form (first (stack_at s at)) then end)) top l g l'

-- a word w at p that ends at q, as an expression
pub record GivesWord (s l ts : List ℕ) (scope : Scope) (w : Word) (p q top : ℕ) (g : Got) (l' : List ℕ) : Type 0 where
  pub next-is : g.next ≡ q
  pub keeps : Same 0 top l' l
  pub grows : top ≤ g.top
  pub says : (σ : Environment) (bs : List ℕ) → Scene s l ts scope top σ bs → w ≡ word_of (word_at s p) → ExprTold σ (atom_expr (atom_of w) (map small (word_at s p))) top l g l'

-- and as a target
pub record GivesVar (s l ts : List ℕ) (scope : Scope) (w : Word) (p q top : ℕ) (g : Got) (l' : List ℕ) : Type 0 where
  pub next-is : g.next ≡ q
  pub keeps : Same 0 top l' l
  pub grows : top ≤ g.top
  pub says : (σ : Environment) (bs : List ℕ) → Scene s l ts scope top σ bs → w ≡ word_of (word_at s p) → TargetTold σ (atom_target (atom_of w) (map small (word_at s p))) top l g l'
