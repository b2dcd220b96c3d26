-- `-`: a negative number, one side, or two.
use mathlib.Core.Path.{◌≡◌, refl, sym, ap, ◌∙◌}
use mathlib.Core.Bool.{Bool, true, false}
use mathlib.Core.List.{List}
use mathlib.Core.Option.{Option, none, some}
use Prim.Native.Nat.{ℕ}
use native.Mathlib.Omega.{arith}
use lib.Dec.{lit<}
use lib.IntN.{ℤ, neg_ℤ}
use mir.Syntax.{w64}
use mir.Val.{SFits, to_z, of_z}
use mir.Facts.{to_z-of_z}
use Rattle.law.specs.Base.{◌>>=◌}
use Rattle.law_theorems.specs.FormsByDepth.{expr_form}
use Rattle.law.specs.Operators as Operators
use Rattle.law.specs.Syntax as Syntax
use Rattle.law.specs.Trees.{Tree, Trees, end, ◌then◌, Run, first}
use Rattle.law_theorems.specs.Readings.{stack_at}
use Rattle.text_heads.specs.declared.ExprHead.{ExprHead}
use Rattle.text_heads.specs.declared.ExprHead.TheVariants as EH
use Rattle.text_heads.specs.Parts.{rest, closed, expr_in, number_in}
use Rattle.text_heads.proofs.Expressions.{minus_one, minus-two, one-part, two-parts}
use Rattle.table_scope.specs.declared.Scope.{Scope}
use Rattle.rule_faults.specs.declared.Got.{Got}
use Rattle.std.specs.Prelude.{Option as Maybe, Some, None}
use Rattle.rule_faults.specs.Got.{is_form}
use Rattle.text_parts.specs.Parts.{Shuts}
use Rattle.rule_expr_nodes.specs.Bracket.{Closes}
use Rattle.std.specs.Prelude.{Some, None, Option as Maybe}
use Rattle.rule_expr_nodes.specs.Nodes.{Makes, literal_made}
use Rattle.rule_expr_compounds.specs.Operators.{applied}
use Rattle.rule_expressions.specs.Sides.{GivesSecond}
use Rattle.rule_expressions.specs.Walks.{GivesExpr, form_in, GivesForm}
use Rattle.rule_expressions.specs.MinusForm.{GivesMinus}
use Rattle.rule_expr_leaves.specs.Words.{StandsAlone}
use Rattle.rule_expressions.proofs.Closing.{form-true, left-wrong, rest-is}
use Rattle.rule_expressions.proofs.Operators.{expr-missing, expr-failed, two-second, two-gives, one_side}
use Rattle.rule_expressions.proofs.WordsTelling.{negative-gives}

-- one part
as_one : (d : ℕ) (us : Trees Run) → number_in us ≡ none → rest us ≡ end → form_in EH.Minus d us ≡ form_in (EH.One 0) d us
unfolding form_in expr_form ◌>>=◌ closed
as_one d us n e = minus_one d us n e ∙ sym (one-part d us Operators.negate ∙ ap (λ v. expr_in d us >>= λ a. closed v (Syntax.unary Operators.negate a)) e ∙ open-end (expr_in d us))
  where
    open-end : (o : Option Syntax.Expr) → (o >>= λ a. closed end (Syntax.unary Operators.negate a)) ≡ (o >>= λ a. some (Syntax.unary Operators.negate a))
    open-end none = refl
    open-end (some a) = refl

-- two or more
as-two : (d : ℕ) (us : Trees Run) → (rest us ≡ end → ⊥) → form_in EH.Minus d us ≡ form_in (EH.Two 1) d us
unfolding form_in expr_form ◌>>=◌
as-two d us n = go (rest us) refl
  where
    go : (v : Trees Run) → rest us ≡ v → form_in EH.Minus d us ≡ form_in (EH.Two 1) d us
    go end e = absurd (n e)
    go (t then ts) e = minus-two d us t ts e ∙ sym (two-parts d us (Syntax.binary Operators.minus))

one-shape : (d : ℕ) (us : Trees Run) → form_in (EH.One 0) d us ≡ (expr_in d us >>= λ a. closed (rest us) (Syntax.unary Operators.negate a))
unfolding form_in expr_form ◌>>=◌
one-shape d us = one-part d us Operators.negate

two-shape : (d : ℕ) (us : Trees Run) → form_in (EH.Two 1) d us ≡ (expr_in d us >>= λ a. expr_in d (rest us) >>= λ b. closed (rest (rest us)) (Syntax.binary Operators.minus a b))
unfolding form_in expr_form ◌>>=◌
two-shape d us = two-parts d us (Syntax.binary Operators.minus)

none_first : {A B : Type 0} {o : Option A} → o ≡ none → (f : A → Option B) → (o >>= f) ≡ none
unfolding ◌>>=◌
none_first h f = rw h refl

no_both : {t : Tree Run} {ts : Trees Run} → (t then ts) ≡ end → ⊥
no_both h = let z : ◌≡◌ {A = ℕ} 0 1 = cc in omega arith

module _ (s l ts : List ℕ) (scope : Scope) (d at top : ℕ) where
  abbrev us : Trees Run
  us = first (stack_at s at)

  as-minus : (h : ExprHead) (r : Got) (l' : List ℕ) → form_in EH.Minus d us ≡ form_in h d us → GivesForm s l ts scope h d at top r l' → GivesForm s l ts scope EH.Minus d at top r l'
  as-minus h r l' e F = record { leaves = F.leaves; says = λ σ bs S. rw e (F.says σ bs S) }

  module _ (a : Got) (l₁ : List ℕ) (A : GivesExpr s l ts scope d at top a l₁) (t : Bool) (e : t ≡ is_form a.fault) where
    pub minus-left : t ≡ true → GivesMinus s l ts scope d at top a l₁
    minus-left z = record {
      gives = λ N. record {
        leaves = left-wrong A.moves (sym e ∙ z);
        says = λ σ bs S. expr-failed σ (form_in EH.Minus d us) top l a l₁ (missing N (expr-missing (A.says σ bs S) (sym e ∙ z))) (form-true a.fault (sym e ∙ z));
      };
    }
      where
        missing : StandsAlone s at None → expr_in d us ≡ none → form_in EH.Minus d us ≡ none
        missing N n = go (rest us) refl
          where
            go : (v : Trees Run) → rest us ≡ v → form_in EH.Minus d us ≡ none
            go end h = as_one d us (N.says h) h ∙ one-shape d us ∙ none_first n _
            go (u then vs) h = as-two d us (λ q. no_both (sym h ∙ q)) ∙ two-shape d us ∙ none_first n _

    module _ (z : t ≡ false) (x : Maybe ℕ) (E : Shuts s a.next x) where
      pub minus-side : (q : ℕ) (y : Got) (r : Got) (l' : List ℕ) → x ≡ Some q → Closes s a y → Makes (applied l₁ ts 0 y) r l' → GivesMinus s l ts scope d at top r l'
      minus-side q y r l' h C m = record {
        gives = λ N.
            let k : rest us ≡ end = rest-is (A.moves.goes (sym e ∙ z)).1 ∙ (rw h at E.says).here in
            as-minus (EH.One 0) r l' (as_one d us (N.says k) k) (one_side s l ts scope d at top a l₁ A y C 0 (lit< tt) r l' m);
      }

      pub minus-sides : (r : Got) (l' : List ℕ) → x ≡ None → GivesSecond s l₁ ts scope 1 d a r l' → GivesMinus s l ts scope d at top r l'
      minus-sides r l' h G = record {
        gives = λ N.
            as-minus (EH.Two 1) r l' (as-two d us (λ k. (rw h at E.says) (sym (rest-is (A.moves.goes (sym e ∙ z)).1) ∙ k))) (two-gives s l ts scope 1 d at top r l' (two-second s l ts scope d at top a l₁ A t e 1 z r l' G) (lit< tt));
      }

  module _ (x : Maybe (ℤ × ℕ)) (N : StandsAlone s at x) (r : Got) (l' : List ℕ) where
    pub minus-alone : (v : ℤ) (q : ℕ) → x ≡ Some (v, q) → SFits w64 v → Makes (literal_made 0 (neg_ℤ (to_z w64 (of_z w64 v))) q top l) r l' → GivesForm s l ts scope EH.Minus d at top r l'
    minus-alone v q h f m = negative-gives s l ts scope d at top v q r l' (rw h at N) (rw (to_z-of_z f) at m)

    pub minus-other : x ≡ None → GivesMinus s l ts scope d at top r l' → GivesForm s l ts scope EH.Minus d at top r l'
    minus-other h G = G.gives (rw h at N)

pub ruleset minus-parts-laws = (minus-left, minus-side, minus-sides)

pub ruleset minus-laws = (minus-alone, minus-other)
