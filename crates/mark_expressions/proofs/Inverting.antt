-- What a form that was read says of its parts, handed to a continuation; and where the part after one that was read stands.
use mathlib.Core.Path.{◌≡◌, refl, sym, ap, ◌∙◌}
use mathlib.Core.Bool.{Bool, true, false}
use mathlib.Core.List.{List, map}
use mathlib.Core.Option.{Option, none, some}
use Prim.Native.Nat.{ℕ, ◌≤◌}
use borrow.Author.Tests.{ltb-true, ltb-false}
use lib.Dec.{ltb}
use lib.IntN.{ℤ}
use lib.ListN.{get_or-eq_default}
use Rattle.law.specs.Base.{Name, ◌>>=◌}
use Rattle.law.specs.Forms.{Item, h_op, h_fun}
use Rattle.law_theorems.specs.FormsByDepth.{expr, target}
use Rattle.law.specs.Operators.{Op, Fun, negate, minus}
use Rattle.law.specs.Syntax as Syntax
use Rattle.law.specs.Trees.{Tree, Trees, end, ◌then◌, Run, first}
use Rattle.law_theorems.specs.Readings.{stack_at}
use Rattle.law_theorems.proofs.Inversion.{none-some, some_inj, bind-some}
use Rattle.table_kinds.specs.Kinds.{op_number}
use Rattle.code_ops.specs.Operators.{operators}
use Rattle.table_kinds.specs.Functions.{fun_number}
use Rattle.code_ops.specs.Functions.{functions}
use Rattle.text_heads.specs.declared.ExprHead.TheVariants as EH
use Rattle.text_heads.specs.Heads.{expr_head_meant}
use Rattle.text_heads.specs.Parts.{part_of, rest, closed, expr_in, target_in, name_in, number_in, type_name_in, exprs_in, target_by}
use Rattle.text_heads.proofs.Expressions.{bound-parts, at_read, dot-read, members-parts, minus-number, minus_one, minus-two}
use Rattle.text_skips.specs.Skips.{Skips}
use Rattle.rule_expressions.specs.Walks.{form_in}
use Rattle.rule_expressions.proofs.Operators.{op-known, fun-known, two-form, short-form, one_form}
use Rattle.rule_expressions.proofs.Targets.{at-form, dot-form}

-- ---- the part after one that was read

module _ {s : List ℕ} {at q : ℕ} (Q : Skips s at q) where
  past-part : {A : Type 0} (f : Item → Option A) (a : A) → (part_of (first (stack_at s at)) >>= f) ≡ some a → rest (first (stack_at s at)) ≡ first (stack_at s q)
  unfolding part_of ◌>>=◌
  past-part {A} f a h = go (first (stack_at s at)) refl h
    where
      go : (us : Trees Run) → first (stack_at s at) ≡ us → (part_of us >>= f) ≡ some a → rest us ≡ first (stack_at s q)
      go end e k = none-some k
      go (t then ts) e k = ap rest (sym e ∙ (Q.says t ts e).here)

  pub past-expr : (d : ℕ) (x : Syntax.Expr) → expr_in d (first (stack_at s at)) ≡ some x → rest (first (stack_at s at)) ≡ first (stack_at s q)
  unfolding expr_in
  past-expr d x h = past-part (expr d) x h

  pub past-target : (d : ℕ) (x : Syntax.Target) → target_in d (first (stack_at s at)) ≡ some x → rest (first (stack_at s at)) ≡ first (stack_at s q)
  unfolding target_in
  past-target d x h = past-part (target d) x h

  pub past-type : (x : Syntax.TypeName) → type_name_in (first (stack_at s at)) ≡ some x → rest (first (stack_at s at)) ≡ first (stack_at s q)
  unfolding type_name_in
  past-type x h = past-part _ x h

-- ---- the last part

closed-part : {A : Type 0} (us : Trees Run) (a b : A) → closed us a ≡ some b → a ≡ b
unfolding closed
closed-part end a b h = some_inj h
closed-part (t then ts) a b h = none-some h

pub last-part : {A : Type 0} (o : Option A) (us : Trees Run) (b : A) → (o >>= λ a. closed us a) ≡ some b → o ≡ some b
unfolding ◌>>=◌
last-part none us b h = none-some h
last-part (some a) us b h = ap some (closed-part us a b h)

-- ---- forms

-- no operator or function has the number
past_two : (k d : ℕ) (us : Trees Run) → 15 ≤ k → form_in (EH.Two k) d us ≡ none
unfolding form_in ◌>>=◌
past_two k d us h = rw (get_or-eq_default (map (λ (o : Op). some (h_op o)) operators) none h) refl

past_one : (k d : ℕ) (us : Trees Run) → 11 ≤ k → form_in (EH.One k) d us ≡ none
unfolding form_in ◌>>=◌
past_one k d us h = rw (get_or-eq_default (map (λ (f : Fun). some (h_fun f)) functions) none h) refl

module _ {P : Type 0} (d : ℕ) (us : Trees Run) (x : Syntax.Expr) where
  two-known : (k : ℕ) (o : Op) → op_number o ≡ k → expr_head_meant (EH.Two k) ≡ some (h_op o) → form_in (EH.Two k) d us ≡ some x
      → ((o : Op) (a b : Syntax.Expr) → k ≡ op_number o → expr_in d us ≡ some a → expr_in d (rest us) ≡ some b → Syntax.binary o a b ≡ x → P) → P
  two-known k o n e h f =
      bind-some (sym (two-form k d us o e) ∙ h) (λ a ha g. bind-some g (λ b hb i. f o a b (sym n) ha (last-part (expr_in d (rest us)) (rest (rest us)) b hb) (some_inj i)))

  pub two-parts : (k : ℕ) → form_in (EH.Two k) d us ≡ some x
      → ((o : Op) (a b : Syntax.Expr) → k ≡ op_number o → expr_in d us ≡ some a → expr_in d (rest us) ≡ some b → Syntax.binary o a b ≡ x → P) → P
  two-parts k h f = go (ltb k 15) refl
    where
      go : (t : Bool) → ltb k 15 ≡ t → P
      go true e = let z = op-known k (ltb-true k 15 e) in two-known k z.0 z.1 z.2 h f
      go false e = none-some (sym (past_two k d us (ltb-false k 15 e)) ∙ h)

  one_known : (k : ℕ) (o : Fun) → fun_number o ≡ k → expr_head_meant (EH.One k) ≡ some (h_fun o) → form_in (EH.One k) d us ≡ some x
      → ((o : Fun) (a : Syntax.Expr) → k ≡ fun_number o → expr_in d us ≡ some a → Syntax.unary o a ≡ x → P) → P
  one_known k o n e h f = bind-some (sym (one_form k d us o e) ∙ h) (λ a ha i. f o a (sym n) (last-part (expr_in d us) (rest us) a ha) (some_inj i))

  pub one-part : (k : ℕ) → form_in (EH.One k) d us ≡ some x → ((o : Fun) (a : Syntax.Expr) → k ≡ fun_number o → expr_in d us ≡ some a → Syntax.unary o a ≡ x → P) → P
  one-part k h f = go (ltb k 11) refl
    where
      go : (t : Bool) → ltb k 11 ≡ t → P
      go true e = let z = fun-known k (ltb-true k 11 e) in one_known k z.0 z.1 z.2 h f
      go false e = none-some (sym (past_one k d us (ltb-false k 11 e)) ∙ h)

  pub short-parts : (q : Bool) → form_in (EH.Short q) d us ≡ some x → ((a b : Syntax.Expr) → expr_in d us ≡ some a → expr_in d (rest us) ≡ some b → Syntax.short_circuit q a b ≡ x → P) → P
  short-parts q h f = bind-some (sym (short-form q d us) ∙ h) (λ a ha g. bind-some g (λ b hb i. f a b ha (last-part (expr_in d (rest us)) (rest (rest us)) b hb) (some_inj i)))

  pub bound-part : (q : Bool) → form_in (EH.Bound q) d us ≡ some x → ((n : Syntax.TypeName) → type_name_in us ≡ some n → Syntax.end_of q n ≡ x → P) → P
  unfolding form_in ◌>>=◌
  bound-part q h f = bind-some (sym (bound-parts d us q) ∙ h) (λ n e i. f n e (closed-part (rest us) (Syntax.end_of q n) x i))

  pub members-part : form_in EH.Members d us ≡ some x → ((n : Syntax.TypeName) (es : Syntax.Exprs) → type_name_in us ≡ some n → exprs_in d (rest us) ≡ some es → Syntax.members n es ≡ x → P) → P
  unfolding form_in ◌>>=◌
  members-part h f = bind-some (sym (members-parts d us) ∙ h) (λ n e g. bind-some g (λ es k i. f n es e k (some_inj i)))

  -- `-` with one part that is a number, with another one, with more
  pub minus-constant : (z : ℤ) → number_in us ≡ some z → rest us ≡ end → form_in EH.Minus d us ≡ some x → (Syntax.const (Syntax.minus z) ≡ x → P) → P
  unfolding form_in ◌>>=◌
  minus-constant z n e h f = f (some_inj (sym (minus-number d us z n e) ∙ h))

  pub minus-side : number_in us ≡ none → rest us ≡ end → form_in EH.Minus d us ≡ some x → ((a : Syntax.Expr) → expr_in d us ≡ some a → Syntax.unary negate a ≡ x → P) → P
  unfolding form_in ◌>>=◌
  minus-side n e h f = bind-some (sym (minus_one d us n e) ∙ h) (λ a ha i. f a ha (some_inj i))

  pub minus-sides : (t : Tree Run) (ts : Trees Run) → rest us ≡ (t then ts) → form_in EH.Minus d us ≡ some x
      → ((a b : Syntax.Expr) → expr_in d us ≡ some a → expr_in d (rest us) ≡ some b → Syntax.binary minus a b ≡ x → P) → P
  unfolding form_in ◌>>=◌
  minus-sides t ts e h f = bind-some (sym (minus-two d us t ts e) ∙ h) (λ a ha g. bind-some g (λ b hb i. f a b ha hb (closed-part (rest (rest us)) (Syntax.binary minus a b) x i)))

  -- `at` and `dot` as expressions
  pub at_part : form_in EH.At d us ≡ some x → ((g : Syntax.Target) → target_by EH.At d us ≡ some g → Syntax.read g ≡ x → P) → P
  unfolding form_in target_by ◌>>=◌
  at_part h f = bind-some (sym (at_read d us) ∙ h) (λ g e i. f g e (some_inj i))

  pub dot-part : form_in EH.Dot d us ≡ some x → ((g : Syntax.Target) → target_by EH.Dot d us ≡ some g → Syntax.read g ≡ x → P) → P
  unfolding form_in target_by ◌>>=◌
  dot-part h f = bind-some (sym (dot-read d us) ∙ h) (λ g e i. f g e (some_inj i))

module _ {P : Type 0} (d : ℕ) (us : Trees Run) (x : Syntax.Target) where
  pub at-parts : target_by EH.At d us ≡ some x → ((g : Syntax.Target) (e : Syntax.Expr) → target_in d us ≡ some g → expr_in d (rest us) ≡ some e → Syntax.at g e ≡ x → P) → P
  at-parts h f = bind-some (sym (at-form d us) ∙ h) (λ g hg k. bind-some k (λ e he i. f g e hg (last-part (expr_in d (rest us)) (rest (rest us)) e he) (some_inj i)))

  pub dot-parts : target_by EH.Dot d us ≡ some x
      → ((g : Syntax.Target) (n : Name) → target_in d us ≡ some g → (name_in (rest us) >>= λ a. closed (rest (rest us)) a) ≡ some n → Syntax.dot g n ≡ x → P) → P
  dot-parts h f = bind-some (sym (dot-form d us) ∙ h) (λ g hg k. bind-some k (λ n hn i. f g n hg hn (some_inj i)))
