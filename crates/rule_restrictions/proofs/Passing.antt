-- From part to part: what stands past a part, and what a part that was read has.
use mathlib.Core.Path.{◌≡◌, refl, sym, ap, ◌∙◌}
use mathlib.Core.Bool.{Bool, true, false, ◌&&◌}
use mathlib.Core.List.{List}
use mathlib.Core.Option.{some}
use Prim.Native.Nat.{ℕ, ◌<◌, suc}
use native.Mathlib.Omega.{arith}
use lib.ListN.{length}
use Rattle.law.specs.Environment.{Environment}
use Rattle.law.specs.Names.{Reached, expr_of, target_of}
use Rattle.law.specs.Rules.{plain_expr, plain_target}
use Rattle.law.specs.Script as Script
use Rattle.law.specs.Syntax as Syntax
use Rattle.law.specs.Trees.{Tree, Trees, end, ◌then◌, Run, first}
use Rattle.law_theorems.specs.Readings.{stack_at}
use Rattle.law_theorems.proofs.Inversion.{none-some, some_inj}
use Rattle.text_heads.specs.Parts.{rest, closed, expr_in, target_in, stmt_in}
use Rattle.text_heads.proofs.Expressions.{expr-end, target-end}
use Rattle.text_heads.proofs.Statements.{stmt-end}
use Rattle.text_skips.specs.Skips.{Skips}
use Rattle.rule_constants.specs.Plain.{plain_first}
use Rattle.rule_constants.proofs.Exprs.{expr-plain, target-plain}
use Rattle.table_scope.specs.declared.Scope.{Scope}
use Rattle.table_scope.specs.declared.Loops.{Loops}
use Rattle.rule_statements.specs.Chains.{many}
use Rattle.rule_restrictions.specs.Walks.{Near}

-- ---- options

pub closed_is : {A P : Type 0} {us : Trees Run} {a b : A} → closed us a ≡ some b → (us ≡ end → a ≡ b → P) → P
unfolding closed
closed_is {us = end} h k = k refl (some_inj h)
closed_is {us = t then ts} h k = none-some h

-- ---- parts

pub no_end : {X : Type 0} {t : Tree Run} {ts : Trees Run} → (t then ts) ≡ end → X
no_end h = let z : ◌≡◌ {A = ℕ} 0 1 = cc in absurd (omega arith)

-- where there is a part
pub split : {P : Type 0} (us : Trees Run) → (us ≡ end → ⊥) → ((t : Tree Run) (ts : Trees Run) → us ≡ (t then ts) → P) → P
split end h k = absurd (h refl)
split (t then ts) h k = k t ts refl

pub expr-some : (d : ℕ) {us : Trees Run} {e : Syntax.Expr} → expr_in d us ≡ some e → us ≡ end → ⊥
expr-some d h e = none-some (sym (expr-end d) ∙ ap (expr_in d) (sym e) ∙ h)

pub target-some : (d : ℕ) {us : Trees Run} {g : Syntax.Target} → target_in d us ≡ some g → us ≡ end → ⊥
target-some d h e = none-some (sym (target-end d) ∙ ap (target_in d) (sym e) ∙ h)

pub stmt-some : (d n : ℕ) {us : Trees Run} {p : Syntax.Stmt × ℕ} → stmt_in d n us ≡ some p → us ≡ end → ⊥
stmt-some d n h e = none-some (sym (stmt-end d n) ∙ ap (stmt_in d n) (sym e) ∙ h)

module _ {s : List ℕ} {at q : ℕ} (S : Skips s at q) where
  pub skip-then : (t : Tree Run) (ts : Trees Run) → first (stack_at s at) ≡ (t then ts) → first (stack_at s q) ≡ ts
  skip-then t ts e = sym (ap rest (sym e ∙ (S.says t ts e).here))

  pub skip-rest : (first (stack_at s at) ≡ end → ⊥) → first (stack_at s q) ≡ rest (first (stack_at s at))
  skip-rest h = split (first (stack_at s at)) h λ t ts e. skip-then t ts e ∙ sym (ap rest e)

  -- one part fewer
  pub skip-falls : (first (stack_at s at) ≡ end → ⊥) → many (first (stack_at s q)) < many (first (stack_at s at))
  unfolding many
  skip-falls h = split (first (stack_at s at)) h λ t ts e. rw (skip-then t ts e, e) (omega arith)

-- ---- one bracket deeper

pub near-in : {s l : List ℕ} {scope : Scope} {loops : Loops} {d : ℕ} {σ : Environment} {js : List ℕ} → Near s l scope loops (suc d) σ js → Near s l scope loops d σ js
near-in N = record { held = N.held; in-force = N.in-force; few-loops = let w = N.few-loops in omega arith }

-- ---- constants

module _ {s l : List ℕ} {scope : Scope} {loops : Loops} {d : ℕ} {σ : Environment} {js : List ℕ} (N : Near s l scope loops d σ js) where
  pub expr-first : (us : Trees Run) (x : Syntax.Expr) (e : Script.Expr) → expr_in 33 us ≡ some x → expr_of σ x ≡ some e → plain_expr e ≡ plain_first us
  expr-first us x e h k = expr-plain σ N.held.scene.table (length N.held.bs) N.held.scene.fair 33 us x e h k

  pub target_first : (us : Trees Run) (g : Syntax.Target) (r : Reached) → target_in 33 us ≡ some g → target_of σ g ≡ some r → plain_target r.target ≡ plain_first us
  target_first us g r h k = target-plain σ N.held.scene.table (length N.held.bs) N.held.scene.fair 33 us g r h k

-- ---- Booleans

pub and_one : (b : Bool) → (b && true) ≡ b
and_one true = refl
and_one false = refl

pub and_none : (b : Bool) → (b && false) ≡ false
and_none true = refl
and_none false = refl
