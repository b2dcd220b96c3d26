-- The ways from a part to its form, its head word, and the parts after that.
use mathlib.Core.Path.{◌≡◌, refl, ap, ◌∙◌}
use mathlib.Core.Bool.{Bool}
use mathlib.Core.List.{List}
use mathlib.Core.Option.{none}
use Prim.Native.Nat.{ℕ, zero, suc, ◌-◌}
use native.Mathlib.Omega.{arith}
use lib.IntN.{ℤ}
use Rattle.leaf_words.specs.declared.words.Word.{Word}
use Rattle.leaf_words.specs.Words.{word_of}
use Rattle.law.specs.Base.{◌>>=◌}
use Rattle.law.specs.Trees.{form, Trees, end, ◌then◌, Run, first, later, word_at}
use Rattle.law_theorems.specs.Readings.{stack_at}
use Rattle.text_heads.specs.declared.ExprHead.{ExprHead}
use Rattle.text_heads.specs.declared.ExprHead.TheVariants as EH
use Rattle.text_heads.specs.Heads.{expr_head_of}
use Rattle.text_heads.specs.Parts.{expr_in, target_in, target_by, part_of}
use Rattle.text_heads.proofs.Heads.{expr-head-is, expr-word, target-word}
use Rattle.text_heads.proofs.Expressions.{expr-form, expr-end, expr-zero, expr-empty, expr-headless, target-form, target-end, target-zero, target-empty, target-headless}
use Rattle.text_parts.specs.declared.Part.{Part}
use Rattle.text_parts.specs.declared.Part.TheVariants as part
use Rattle.text_parts.specs.Parts.{Stands}
use Rattle.rule_expressions.specs.Walks.{form_in}
use Rattle.mark_values.specs.declared.values.Carried.{Carried}
use Rattle.mark_values.specs.declared.places.Reached.{Reached}
use Rattle.mark_expressions.specs.Marks.{MarksExpr, MarksTarget, MarksForm, MarksPlace, MarksInner, MarksInnerPlace, MarksWord, MarksVar}
use Rattle.mark_expressions.proofs.Naming.{no-expr, no_target}
use Rattle.table_scope.specs.declared.Scope.{Scope}

fuel : (d : ℕ) → ((d ≡ 0) → ⊥) → suc (d - 1) ≡ d
fuel zero h = absurd (h refl)
fuel (suc d) h = omega arith

-- the form's first part decides, not what stands after the form
expr-alone : (d : ℕ) (us ts : Trees Run) → expr_in d (form us then ts) ≡ expr_in d (form us then end)
unfolding expr_in part_of
expr-alone d us ts = refl

target-alone : (d : ℕ) (us ts : Trees Run) → target_in d (form us then ts) ≡ target_in d (form us then end)
unfolding target_in part_of
target-alone d us ts = refl

module _ (s l ts : List ℕ) (ws : List ℤ) (scope : Scope) (d at : ℕ) where
  pub expr-deep : (r : Carried) → d ≡ 0 → MarksExpr s l ts ws scope d at r
  expr-deep r h = record { says = λ σ S. no-expr (rw h (expr-zero (first (stack_at s at)))) }

  pub target-deep : (r : Reached) → d ≡ 0 → MarksTarget s l ts ws scope d at r
  target-deep r h = record { says = λ σ S. no_target (rw h (target-zero (first (stack_at s at)))) }

  module _ (x : Part) (c : Stands s at x) where
    pub expr-shut : (q : ℕ) (r : Carried) → x ≡ part.Shut q → MarksExpr s l ts ws scope d at r
    expr-shut q r h = let f = rw h at c.says in record { says = λ σ S. no-expr (rw f.here (expr-end d)) }

    pub target-shut : (q : ℕ) (r : Reached) → x ≡ part.Shut q → MarksTarget s l ts ws scope d at r
    target-shut q r h = let f = rw h at c.says in record { says = λ σ S. no_target (rw f.here (target-end d)) }

    pub expr-leaf : (w : Word) (p q : ℕ) (r : Carried) → ((d ≡ 0) → ⊥) → x ≡ part.Leaf w p q → MarksWord s l ts ws scope w p r → MarksExpr s l ts ws scope d at r
    expr-leaf w p q r n h W =
        let f = rw h at c.says in
        record { says = λ σ S. rw (f.0.leaf.here, ← fuel d n, expr-word (d - 1) (word_at s p) (first (stack_at s q)), ← f.1) (W.says σ S f.1) }

    pub target-leaf : (w : Word) (p q : ℕ) (r : Reached) → ((d ≡ 0) → ⊥) → x ≡ part.Leaf w p q → MarksVar s l scope w p r → MarksTarget s l ts ws scope d at r
    target-leaf w p q r n h W =
        let f = rw h at c.says in
        record { says = λ σ S. rw (f.0.leaf.here, ← fuel d n, target-word (d - 1) (word_at s p) (first (stack_at s q)), ← f.1) (W.says ts ws σ S f.1) }

    pub expr-inner : (p : ℕ) (r : Carried) → ((d ≡ 0) → ⊥) → x ≡ part.Form p → MarksInner s l ts ws scope (d - 1) p r → MarksExpr s l ts ws scope d at r
    expr-inner p r n h I =
        let f = rw h at c.says in
        record { says = λ σ S. rw (f.here, ← fuel d n, expr-alone (suc (d - 1)) (first (stack_at s p)) (first (later (stack_at s p)))) (I.says σ S) }

    pub target-inner : (p : ℕ) (r : Reached) → ((d ≡ 0) → ⊥) → x ≡ part.Form p → MarksInnerPlace s l ts ws scope (d - 1) p r → MarksTarget s l ts ws scope d at r
    target-inner p r n h I =
        let f = rw h at c.says in
        record { says = λ σ S. rw (f.here, ← fuel d n, target-alone (suc (d - 1)) (first (stack_at s p)) (first (later (stack_at s p)))) (I.says σ S) }

    -- ---- the head word

    pub inner-shut : (q : ℕ) (r : Carried) → x ≡ part.Shut q → MarksInner s l ts ws scope d at r
    inner-shut q r h = let f = rw h at c.says in record { says = λ σ S. no-expr (rw f.here (expr-empty (suc d) end)) }

    pub inner-form : (p : ℕ) (r : Carried) → x ≡ part.Form p → MarksInner s l ts ws scope d at r
    inner-form p r h = let f = rw h at c.says in record { says = λ σ S. no-expr (rw f.here (expr-headless (suc d) (first (stack_at s p)) (first (later (stack_at s p))) end)) }

    pub place-shut : (q : ℕ) (r : Reached) → x ≡ part.Shut q → MarksInnerPlace s l ts ws scope d at r
    place-shut q r h = let f = rw h at c.says in record { says = λ σ S. no_target (rw f.here (target-empty (suc d) end)) }

    pub place-form : (p : ℕ) (r : Reached) → x ≡ part.Form p → MarksInnerPlace s l ts ws scope d at r
    place-form p r h = let f = rw h at c.says in record { says = λ σ S. no_target (rw f.here (target-headless (suc d) (first (stack_at s p)) (first (later (stack_at s p))) end)) }

    -- what is no word
    pub inner-rest : (r : Carried) → ((w : Word) (p q : ℕ) → x ≡ part.Leaf w p q → ⊥) → MarksInner s l ts ws scope d at r
    inner-rest r f = go x refl
      where
        go : (y : Part) → x ≡ y → MarksInner s l ts ws scope d at r
        go (part.Leaf w p q) e = absurd (f w p q e)
        go (part.Form p) e = inner-form p r e
        go (part.Shut q) e = inner-shut q r e

    pub inner-place-rest : (r : Reached) → ((w : Word) (p q : ℕ) → x ≡ part.Leaf w p q → ⊥) → MarksInnerPlace s l ts ws scope d at r
    inner-place-rest r f = go x refl
      where
        go : (y : Part) → x ≡ y → MarksInnerPlace s l ts ws scope d at r
        go (part.Leaf w p q) e = absurd (f w p q e)
        go (part.Form p) e = place-form p r e
        go (part.Shut q) e = place-shut q r e

    module _ (w : Word) (p q : ℕ) (h : x ≡ part.Leaf w p q) (k : ExprHead) (i : k ≡ expr_head_of w) where
      pub inner-head : (r : Carried) → MarksForm s l ts ws scope k d q r → MarksInner s l ts ws scope d at r
      unfolding form_in
      inner-head r F =
          let f = rw h at c.says in
          let j : k ≡ expr_head_of (word_of (word_at s p)) = i ∙ ap expr_head_of f.1 in
          record { says = λ σ S. rw (f.0.leaf.here, expr-form d (word_at s p) (first (stack_at s q)) end, expr-head-is (word_at s p), ← j) (F.says σ S) }

      pub place-head : (r : Reached) → MarksPlace s l ts ws scope k d q r → MarksInnerPlace s l ts ws scope d at r
      place-head r F =
          let f = rw h at c.says in
          let j : k ≡ expr_head_of (word_of (word_at s p)) = i ∙ ap expr_head_of f.1 in
          record { says = λ σ S. rw (f.0.leaf.here, target-form d (word_at s p) (first (stack_at s q)) end, ← j) (F.says σ S) }

pub ruleset expr-laws = (expr-deep, expr-shut, expr-leaf, expr-inner)

pub ruleset target-laws = (target-deep, target-shut, target-leaf, target-inner)

pub ruleset inner_laws = (inner-shut, inner-form, inner-head)

pub ruleset inner-place-laws = (place-shut, place-form, place-head)

-- ---- by the head word

module _ (s l ts : List ℕ) (ws : List ℤ) (scope : Scope) (k : ExprHead) (d at : ℕ) where
  pub by_form : (r : Carried) (h : ExprHead) → k ≡ h → MarksForm s l ts ws scope h d at r → MarksForm s l ts ws scope k d at r
  by_form r h e F = rw e F

  pub by-nothing : (r : Carried) → k ≡ EH.Nothing → MarksForm s l ts ws scope k d at r
  unfolding form_in ◌>>=◌
  by-nothing r h = rw h (record { says = λ σ S. no-expr refl })

  pub by_place : (r : Reached) (h : ExprHead) → k ≡ h → MarksPlace s l ts ws scope h d at r → MarksPlace s l ts ws scope k d at r
  by_place r h e F = rw e F

  -- any other head is that of no target
  module _ (r : Reached) where
    no_place : target_by k d (first (stack_at s at)) ≡ none → MarksPlace s l ts ws scope k d at r
    no_place h = record { says = λ σ S. no_target h }

    pub place-members : k ≡ EH.Members → MarksPlace s l ts ws scope k d at r
    unfolding target_by
    place-members h = no_place (rw h refl)

    pub place-minus : k ≡ EH.Minus → MarksPlace s l ts ws scope k d at r
    unfolding target_by
    place-minus h = no_place (rw h refl)

    pub place-bound : (b : Bool) → k ≡ EH.Bound b → MarksPlace s l ts ws scope k d at r
    unfolding target_by
    place-bound b h = no_place (rw h refl)

    pub place_short : (b : Bool) → k ≡ EH.Short b → MarksPlace s l ts ws scope k d at r
    unfolding target_by
    place_short b h = no_place (rw h refl)

    pub place-two : (n : ℕ) → k ≡ EH.Two n → MarksPlace s l ts ws scope k d at r
    unfolding target_by
    place-two n h = no_place (rw h refl)

    pub place-one : (n : ℕ) → k ≡ EH.One n → MarksPlace s l ts ws scope k d at r
    unfolding target_by
    place-one n h = no_place (rw h refl)

    pub place-nothing : k ≡ EH.Nothing → MarksPlace s l ts ws scope k d at r
    unfolding target_by
    place-nothing h = no_place (rw h refl)

    pub place-rest : ((k ≡ EH.At) → ⊥) → ((k ≡ EH.Dot) → ⊥) → MarksPlace s l ts ws scope k d at r
    place-rest f g = go k refl
      where
        go : (h : ExprHead) → k ≡ h → MarksPlace s l ts ws scope k d at r
        go EH.At e = absurd (f e)
        go EH.Dot e = absurd (g e)
        go EH.Members e = place-members e
        go EH.Minus e = place-minus e
        go (EH.Bound b) e = place-bound b e
        go (EH.Short b) e = place_short b e
        go (EH.Two n) e = place-two n e
        go (EH.One n) e = place-one n e
        go EH.Nothing e = place-nothing e

pub ruleset by-laws = (by_form, by-nothing)

pub ruleset by-place-laws = (by_place, place-members, place-minus, place-bound, place_short, place-two, place-one, place-nothing)
