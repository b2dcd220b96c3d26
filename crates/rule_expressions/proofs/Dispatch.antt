-- The walk's ways from a part to its form, its head word, and the parts after that.
use mathlib.Core.Path.{◌≡◌, refl, ap, ◌∙◌}
use mathlib.Core.Bool.{Bool, true≢false}
use mathlib.Core.List.{List}
use mathlib.Core.Option.{none}
use Prim.Native.Nat.{ℕ, zero, suc, ◌-◌, ◌<◌, ◌≤◌}
use native.Mathlib.Omega.{arith}
use Rattle.leaf_words.specs.declared.words.Word.{Word}
use Rattle.leaf_words.specs.Words.{word_of}
use Rattle.law.specs.Base.{◌>>=◌}
use Rattle.law.specs.Trees.{word, form, Trees, end, ◌then◌, Run, first, later, word_at}
use Rattle.law_theorems.specs.Readings.{stack_at}
use Rattle.text_heads.specs.declared.ExprHead.{ExprHead}
use Rattle.text_heads.specs.declared.ExprHead.TheVariants as EH
use Rattle.text_heads.specs.Heads.{expr_head_of}
use Rattle.text_heads.specs.Parts.{expr_in, target_in, target_by, part_of}
use Rattle.text_heads.proofs.Heads.{expr-head-is, expr-word, target-word}
use Rattle.text_heads.proofs.Expressions.{expr-form, expr-end, expr-zero, expr-empty, expr-headless, target-form, target-end, target-zero, target-empty, target-headless}
use Rattle.table_scope.specs.declared.Scope.{Scope}
use Rattle.rule_faults.specs.declared.Fault.TheVariants.{Form}
use Rattle.rule_faults.specs.declared.Got.{Got}
use Rattle.text_parts.specs.declared.Part.{Part}
use Rattle.text_parts.specs.declared.Part.TheVariants as part
use Rattle.rule_faults.specs.Got.{failed_got}
use Rattle.text_parts.specs.Parts.{LeafAt, FormAt, Stands}
use Rattle.table_kinds.specs.Kinds.{lazy, row_number}
use Rattle.rule_expressions.specs.Sides.{GivesTwo}
use Rattle.rule_expressions.specs.Walks.{Moves, Leaves, GivesExpr, GivesTarget, form_in, GivesForm, GivesPlace, GivesInner, GivesInnerPlace, GivesWord, GivesVar}
use Rattle.rule_expressions.proofs.Closing.{same_refl}
use Rattle.rule_expressions.proofs.Operators.{expr-failed, two-gives, short-gives, two_none}
use Rattle.rule_expressions.proofs.Targets.{target-failed}

-- nothing was read
pub failed-moves : (s : List ℕ) (at top q : ℕ) (l : List ℕ) → Moves s at top l (failed_got Form 0 q top) l
failed-moves s at top q l = record { goes = λ h. absurd (true≢false h); keeps = same_refl top l; grows = omega arith }

pub failed-leaves : (s : List ℕ) (at top q : ℕ) (l : List ℕ) → Leaves s at top l (failed_got Form 0 q top) l
failed-leaves s at top q l = record { goes = λ h. absurd (true≢false h); keeps = same_refl top l; grows = omega arith }

fuel : (d : ℕ) → ((d ≡ 0) → ⊥) → suc (d - 1) ≡ d
fuel zero h = absurd (h refl)
fuel (suc d) h = omega arith

-- the form's first part decides, not what stands after the form
expr-alone : (d : ℕ) (us ts : Trees Run) → expr_in d (form us then ts) ≡ expr_in d (form us then end)
unfolding expr_in part_of
expr-alone d us ts = refl

target-alone : (d : ℕ) (us ts : Trees Run) → target_in d (form us then ts) ≡ target_in d (form us then end)
unfolding target_in part_of
target-alone d us ts = refl

module _ (s l ts : List ℕ) (scope : Scope) (d at top : ℕ) where
  pub expr-deep : (q : ℕ) (r : Got) → d ≡ 0 → r ≡ failed_got Form 0 q top → GivesExpr s l ts scope d at top r l
  expr-deep q r h e = rw e (record { moves = failed-moves s at top q l; says = λ σ bs S. expr-failed σ (expr_in d (first (stack_at s at))) top l (failed_got Form 0 q top) l (rw h (expr-zero (first (stack_at s at)))) refl })

  pub target-deep : (q : ℕ) (r : Got) → d ≡ 0 → r ≡ failed_got Form 0 q top → GivesTarget s l ts scope d at top r l
  target-deep q r h e = rw e (record { moves = failed-moves s at top q l; says = λ σ bs S. target-failed σ (target_in d (first (stack_at s at))) top l (failed_got Form 0 q top) l (rw h (target-zero (first (stack_at s at)))) refl })

  module _ (x : Part) (c : Stands s at x) where
    pub expr-shut : (q : ℕ) (r : Got) → x ≡ part.Shut q → r ≡ failed_got Form 0 q top → GivesExpr s l ts scope d at top r l
    expr-shut q r h e = let f = rw h at c.says in rw e (record { moves = failed-moves s at top q l; says = λ σ bs S. expr-failed σ (expr_in d (first (stack_at s at))) top l (failed_got Form 0 q top) l (rw f.here (expr-end d)) refl })

    pub target-shut : (q : ℕ) (r : Got) → x ≡ part.Shut q → r ≡ failed_got Form 0 q top → GivesTarget s l ts scope d at top r l
    target-shut q r h e = let f = rw h at c.says in rw e (record { moves = failed-moves s at top q l; says = λ σ bs S. target-failed σ (target_in d (first (stack_at s at))) top l (failed_got Form 0 q top) l (rw f.here (target-end d)) refl })

    pub expr-leaf : (w : Word) (p q : ℕ) (r : Got) (l' : List ℕ) → ((d ≡ 0) → ⊥) → x ≡ part.Leaf w p q → GivesWord s l ts scope w p q top r l' → GivesExpr s l ts scope d at top r l'
    expr-leaf w p q r l' n h W =
        let f = rw h at c.says in
        let b = f.0.leaf in
        record {
          moves = record { goes = λ _. (word (word_at s p), rw W.next-is b); keeps = W.keeps; grows = W.grows };
          says = λ σ bs S. rw (b.here, ← fuel d n, expr-word (d - 1) (word_at s p) (first (stack_at s q)), ← f.1) (W.says σ bs S f.1);
        }

    pub target-leaf : (w : Word) (p q : ℕ) (r : Got) (l' : List ℕ) → ((d ≡ 0) → ⊥) → x ≡ part.Leaf w p q → GivesVar s l ts scope w p q top r l' → GivesTarget s l ts scope d at top r l'
    target-leaf w p q r l' n h W =
        let f = rw h at c.says in
        let b = f.0.leaf in
        record {
          moves = record { goes = λ _. (word (word_at s p), rw W.next-is b); keeps = W.keeps; grows = W.grows };
          says = λ σ bs S. rw (b.here, ← fuel d n, target-word (d - 1) (word_at s p) (first (stack_at s q)), ← f.1) (W.says σ bs S f.1);
        }

    -- from a form's parts to what stands after it
    form-moves : (p : ℕ) (r : Got) (l' : List ℕ) → FormAt s at p → Leaves s p top l r l' → Moves s at top l r l'
    form-moves p r l' f L = record {
      goes = λ h. let e = L.goes h in (form (first (stack_at s p)), record { here = f.here ∙ ap (λ k. form (first (stack_at s p)) then first k) e; around = f.around ∙ ap later e });
      keeps = L.keeps;
      grows = L.grows;
    }

    pub expr-inner : (p : ℕ) (r : Got) (l' : List ℕ) → ((d ≡ 0) → ⊥) → x ≡ part.Form p → GivesInner s l ts scope (d - 1) p top r l' → GivesExpr s l ts scope d at top r l'
    expr-inner p r l' n h I =
        let f = rw h at c.says in
        record {
          moves = form-moves p r l' f I.leaves;
          says = λ σ bs S. rw (f.here, ← fuel d n, expr-alone (suc (d - 1)) (first (stack_at s p)) (first (later (stack_at s p)))) (I.says σ bs S);
        }

    pub target-inner : (p : ℕ) (r : Got) (l' : List ℕ) → ((d ≡ 0) → ⊥) → x ≡ part.Form p → GivesInnerPlace s l ts scope (d - 1) p top r l' → GivesTarget s l ts scope d at top r l'
    target-inner p r l' n h I =
        let f = rw h at c.says in
        record {
          moves = form-moves p r l' f I.leaves;
          says = λ σ bs S. rw (f.here, ← fuel d n, target-alone (suc (d - 1)) (first (stack_at s p)) (first (later (stack_at s p)))) (I.says σ bs S);
        }

    -- ---- the head word

    pub inner-shut : (q : ℕ) (r : Got) → x ≡ part.Shut q → r ≡ failed_got Form 0 q top → GivesInner s l ts scope d at top r l
    inner-shut q r h e = let f = rw h at c.says in rw e (record { leaves = failed-leaves s at top q l; says = λ σ bs S. expr-failed σ _ top l (failed_got Form 0 q top) l (rw f.here (expr-empty (suc d) end)) refl })

    pub inner-form : (p : ℕ) (r : Got) → x ≡ part.Form p → r ≡ failed_got Form 0 p top → GivesInner s l ts scope d at top r l
    inner-form p r h e = let f = rw h at c.says in rw e (record { leaves = failed-leaves s at top p l; says = λ σ bs S. expr-failed σ _ top l (failed_got Form 0 p top) l (rw f.here (expr-headless (suc d) (first (stack_at s p)) (first (later (stack_at s p))) end)) refl })

    pub place-shut : (q : ℕ) (r : Got) → x ≡ part.Shut q → r ≡ failed_got Form 0 q top → GivesInnerPlace s l ts scope d at top r l
    place-shut q r h e = let f = rw h at c.says in rw e (record { leaves = failed-leaves s at top q l; says = λ σ bs S. target-failed σ _ top l (failed_got Form 0 q top) l (rw f.here (target-empty (suc d) end)) refl })

    pub place-form : (p : ℕ) (r : Got) → x ≡ part.Form p → r ≡ failed_got Form 0 p top → GivesInnerPlace s l ts scope d at top r l
    place-form p r h e = let f = rw h at c.says in rw e (record { leaves = failed-leaves s at top p l; says = λ σ bs S. target-failed σ _ top l (failed_got Form 0 p top) l (rw f.here (target-headless (suc d) (first (stack_at s p)) (first (later (stack_at s p))) end)) refl })

    head-leaves : (p q : ℕ) (r : Got) (l' : List ℕ) → LeafAt s at p q → Leaves s q top l r l' → Leaves s at top l r l'
    head-leaves p q r l' f L = record { goes = λ h. f.leaf.around ∙ L.goes h; keeps = L.keeps; grows = L.grows }

    module _ (w : Word) (p q : ℕ) (h : x ≡ part.Leaf w p q) (k : ExprHead) (i : k ≡ expr_head_of w) (r : Got) (l' : List ℕ) where
      pub inner-head : GivesForm s l ts scope k d q top r l' → GivesInner s l ts scope d at top r l'
      unfolding form_in
      inner-head F =
          let f = rw h at c.says in
          let j : k ≡ expr_head_of (word_of (word_at s p)) = i ∙ ap expr_head_of f.1 in
          record {
            leaves = head-leaves p q r l' f.0 F.leaves;
            says = λ σ bs S. rw (f.0.leaf.here, expr-form d (word_at s p) (first (stack_at s q)) end, expr-head-is (word_at s p), ← j) (F.says σ bs S);
          }

      pub place-head : GivesPlace s l ts scope k d q top r l' → GivesInnerPlace s l ts scope d at top r l'
      place-head F =
          let f = rw h at c.says in
          let j : k ≡ expr_head_of (word_of (word_at s p)) = i ∙ ap expr_head_of f.1 in
          record {
            leaves = head-leaves p q r l' f.0 F.leaves;
            says = λ σ bs S. rw (f.0.leaf.here, target-form d (word_at s p) (first (stack_at s q)) end, ← j) (F.says σ bs S);
          }

pub ruleset expr-laws = (expr-deep, expr-shut, expr-leaf, expr-inner)

pub ruleset target-laws = (target-deep, target-shut, target-leaf, target-inner)

pub ruleset inner_laws = (inner-shut, inner-form, inner-head)

pub ruleset place-laws = (place-shut, place-form, place-head)

-- ---- by the head word

module _ (s l ts : List ℕ) (scope : Scope) (k : ExprHead) (d at top : ℕ) (r : Got) (l' : List ℕ) where
  pub by_form : (h : ExprHead) → k ≡ h → GivesForm s l ts scope h d at top r l' → GivesForm s l ts scope k d at top r l'
  by_form h e F = rw e F

  module _ (op : ℕ) (G : GivesTwo s l ts scope op d at top r l') where
    pub by_two : k ≡ EH.Two op → op < 15 → GivesForm s l ts scope k d at top r l'
    by_two e h = rw e (two-gives s l ts scope op d at top r l' G h)

    pub by-short : (q : Bool) → k ≡ EH.Short q → op ≡ row_number (lazy q) → GivesForm s l ts scope k d at top r l'
    by-short q e h = rw e (short-gives s l ts scope op d at top r l' G q h)

  pub by_place : (h : ExprHead) → k ≡ h → GivesPlace s l ts scope h d at top r l' → GivesPlace s l ts scope k d at top r l'
  by_place h e F = rw e F

pub by-no-row : (s l ts : List ℕ) (scope : Scope) (k : ExprHead) (op d at top q : ℕ) (r : Got) → k ≡ EH.Two op → 15 ≤ op → r ≡ failed_got Form 0 q top → GivesForm s l ts scope k d at top r l
by-no-row s l ts scope k op d at top q r h g e = rw h (two_none s l ts scope op d at top q r g e)

pub by-nothing : (s l ts : List ℕ) (scope : Scope) (k : ExprHead) (d at top q : ℕ) (r : Got) → k ≡ EH.Nothing → r ≡ failed_got Form 0 q top → GivesForm s l ts scope k d at top r l
unfolding form_in ◌>>=◌
by-nothing s l ts scope k d at top q r h e = rw (h, e) (record { leaves = failed-leaves s at top q l; says = λ σ bs S. expr-failed σ (form_in EH.Nothing d (first (stack_at s at))) top l (failed_got Form 0 q top) l refl refl })

-- any other head is that of no target
module _ (s l ts : List ℕ) (scope : Scope) (k : ExprHead) (d at top q : ℕ) (r : Got) (e : r ≡ failed_got Form 0 q top) where
  no_place : target_by k d (first (stack_at s at)) ≡ none → GivesPlace s l ts scope k d at top r l
  no_place h = rw e (record { leaves = failed-leaves s at top q l; says = λ σ bs S. target-failed σ (target_by k d (first (stack_at s at))) top l (failed_got Form 0 q top) l h refl })

  pub place-other : (k ≡ EH.At → ⊥) → (k ≡ EH.Dot → ⊥) → GivesPlace s l ts scope k d at top r l
  unfolding target_by
  place-other n n' = no_place (go k refl)
    where
      go : (h : ExprHead) → k ≡ h → target_by k d (first (stack_at s at)) ≡ none
      go EH.At f = absurd (n f)
      go EH.Dot f = absurd (n' f)
      go EH.Members f = rw f refl
      go EH.Minus f = rw f refl
      go (EH.Bound b) f = rw f refl
      go (EH.Short b) f = rw f refl
      go (EH.Two op) f = rw f refl
      go (EH.One g) f = rw f refl
      go EH.Nothing f = rw f refl

pub ruleset by-laws = (by_form, by_two, by-short, by-no-row, by-nothing)

pub ruleset by-place-laws = (by_place, place-other)
