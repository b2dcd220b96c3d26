-- The same by offset: what a walk that counts the statements of the part it passes knows of the number at the next part.
use mathlib.Core.Path.{◌≡◌, refl, sym, ap, subst, ◌∙◌}
use mathlib.Core.List.{List}
use mathlib.Core.Option.{none, some}
use Prim.Native.Nat.{ℕ, ◌+◌}
use Rattle.law.specs.Forms.{is_arm}
use Rattle.law.specs.Syntax.{Arms, Body, Constant, Stmt, Stmts, ◌next◌, arm}
use Rattle.law.specs.Trees.{Tree, word, form, Trees, end, ◌then◌, Run, first}
use Rattle.law_theorems.specs.Readings.{stack_at}
use Rattle.law_theorems.proofs.Inversion.{none-some}
use Rattle.text_parts.specs.Parts.{Before}
use Rattle.text_heads.specs.Parts.{stmt_in, stmts_in, arm_head_in, arm_in, arms_in, handler_in, with_first, body_in}
use Rattle.text_heads.proofs.Statements.{stmt-end}
use Rattle.mark_counts.specs.Statements.{CountsStatements}
use Rattle.mark_counts.proofs.Numbers.{stmt-number, stmts-first, arms-first, body-first}

module _ (s : List ℕ) (at r : ℕ) (C : CountsStatements s at r) where
  -- after the statement at `at`, as the first branch of an `if`
  pub after-stmt : (d n : ℕ) (p : Stmt × ℕ) → stmt_in d n (first (stack_at s at)) ≡ some p → p.1 ≡ n + r
  after-stmt d n p h = go (first (stack_at s at)) refl h
    where
      go : (us : Trees Run) → first (stack_at s at) ≡ us → stmt_in d n us ≡ some p → p.1 ≡ n + r
      go end e h = none-some (sym (stmt-end d n) ∙ h)
      go (t then ts) e h = stmt-number t ts d n p h ∙ ap (λ (m : ℕ). n + m) (sym (C.says t ts e))

  -- q is past the part at `at`
  module _ {P : Type 0} (q : ℕ) where
    -- the first of some statements
    pub stmts-on : (t : Tree Run) (d n : ℕ) (p : Stmts × ℕ) → Before s at t q → stmts_in d n (first (stack_at s at)) ≡ some p
        → ((a : Stmt) (b : Stmts × ℕ) → stmt_in d n (first (stack_at s at)) ≡ some (a, n + r) → stmts_in d (n + r) (first (stack_at s q)) ≡ some b → (a next b.0, b.1) ≡ p → P) → P
    stmts-on t d n p B h k = stmts-first d n t (first (stack_at s q)) p (ap (stmts_in d n) (sym B.here) ∙ h) λ a b ha hb e.
        let i = C.says t (first (stack_at s q)) B.here in
        k a b (ap (stmt_in d n) B.here ∙ ha ∙ ap (λ (m : ℕ). some (a, n + m)) (sym i)) (subst (λ (m : ℕ). stmts_in d (n + m) (first (stack_at s q)) ≡ some b) (sym i) hb) e

    -- an arm before the one that is taken
    pub arms-on : (w : Run) (us : Trees Run) (d n : ℕ) (p : Arms × ℕ) → Before s at (form (word w then us)) q → arm_head_in w ≡ some is_arm → arms_in d n (first (stack_at s at)) ≡ some p
        → ((cs : List Constant) (a : Stmt) (b : Arms × ℕ) → arm_in d n us ≡ some (cs, (a, n + r)) → arms_in d (n + r) (first (stack_at s q)) ≡ some b → (arm cs a b.0, b.1) ≡ p → P) → P
    arms-on w us d n p B f h k = arms-first d n w us (first (stack_at s q)) p f (ap (arms_in d n) (sym B.here) ∙ h) λ cs a b ha hb e.
        let i = C.says (form (word w then us)) (first (stack_at s q)) B.here in
        k cs a b (ha ∙ ap (λ (m : ℕ). some (cs, (a, n + m))) (sym i)) (subst (λ (m : ℕ). arms_in d (n + m) (first (stack_at s q)) ≡ some b) (sym i) hb) e

    -- the first statement of a body
    pub body-on : (t : Tree Run) (n : ℕ) (p : Body × ℕ) → Before s at t q → handler_in t ≡ none → body_in n (first (stack_at s at)) ≡ some p
        → ((a : Stmt) (b : Body × ℕ) → stmt_in 33 n (first (stack_at s at)) ≡ some (a, n + r) → body_in (n + r) (first (stack_at s q)) ≡ some b → (with_first a b.0, b.1) ≡ p → P) → P
    body-on t n p B f h k = body-first n t (first (stack_at s q)) p f (ap (body_in n) (sym B.here) ∙ h) λ a b ha hb e.
        let i = C.says t (first (stack_at s q)) B.here in
        k a b (ap (stmt_in 33 n) B.here ∙ ha ∙ ap (λ (m : ℕ). some (a, n + m)) (sym i)) (subst (λ (m : ℕ). body_in (n + m) (first (stack_at s q)) ≡ some b) (sym i) hb) e
