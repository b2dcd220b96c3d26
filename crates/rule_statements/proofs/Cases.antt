-- The stages of a `case`: its arms, and that all their labels differ; its selector, on whose kind the arms depend.
use mathlib.Core.Path.{◌≡◌, refl, sym}
use mathlib.Core.Bool.{Bool, true, false, cond, ◌&&◌}
use mathlib.Core.List.{List}
use mathlib.Core.Option.{Option, none, some}
use Prim.Native.Nat.{ℕ}
use Rattle.law.specs.Base.{given}
use Rattle.law.specs.Code.{Cases}
use Rattle.law.specs.Elaborate.{Elaborated, elab_arms}
use Rattle.law.specs.Environment.{Environment}
use Rattle.law.specs.Names.{arms_of}
use Rattle.law.specs.Rules.{differ, labels_of, kept_arms}
use Rattle.law.specs.Script as Script
use Rattle.rule_stages.specs.Stages.{Staged, wrong, unnamed, unfit, fits, staged, named, ruled, join, on_fits, or_unfit, selected, arms_staged, cases_staged}
use Rattle.law.specs.Syntax as Syntax
use Rattle.rule_faults.specs.declared.Fault.TheVariants.{Clear, Kind}
use Rattle.rule_faults.specs.Got.{lowest, fault_of}
use Rattle.rule_faults.proofs.Order.{lowest-clear}
use Rattle.rule_expressions.proofs.Joining.{wrong-fits, unnamed-fits, unfit-fits}
use Rattle.rule_labels.specs.Repeating.{labels_differ}

-- ---- the arms

module _ {C : Type 0} where
  differ-fault : (d p : Bool) (u : Option C) → fault_of (ruled (d && p) u) ≡ lowest (fault_of (ruled p u)) (cond d Clear Kind)
  unfolding ruled
  differ-fault true p u = sym (lowest-clear (fault_of (ruled p u)))
  differ-fault false false u = refl
  differ-fault false true none = refl
  differ-fault false true (some c) = refl

  differ-fits : (d p : Bool) (u : Option C) (c : C) → ruled (d && p) u ≡ fits c → (ruled p u ≡ fits c) × (d ≡ true)
  unfolding ruled
  differ-fits true p u c h = (h, refl)
  differ-fits false p u c h = absurd (unfit-fits h)

module _ (σ : Environment) (js : List ℕ) (k : ℕ) where
  pub cases-fault : (o : Option Syntax.Arms) → fault_of (cases_staged σ js k o) ≡ lowest (fault_of (arms_staged σ js k o)) (cond (labels_differ σ o) Clear Kind)
  unfolding cases_staged arms_staged staged named labels_differ
  cases-fault none = refl
  cases-fault (some a) = go (arms_of σ a)
    where
      go : (u : Option Script.Arms) → fault_of (named u (λ bs. differ (labels_of bs) && kept_arms bs js) (elab_arms σ.types σ.vars k))
          ≡ lowest (fault_of (named u (λ bs. kept_arms bs js) (elab_arms σ.types σ.vars k))) (cond (elim u [ none ↦ true | some b ↦ differ (labels_of b) ]) Clear Kind)
      go none = refl
      go (some b) = differ-fault (differ (labels_of b)) (kept_arms b js) (elab_arms σ.types σ.vars k b)

  pub cases-fits : (o : Option Syntax.Arms) (c : Cases) → cases_staged σ js k o ≡ fits c → (arms_staged σ js k o ≡ fits c) × (labels_differ σ o ≡ true)
  unfolding cases_staged arms_staged staged named labels_differ
  cases-fits none c h = absurd (wrong-fits h)
  cases-fits (some a) c h = go (arms_of σ a) h
    where
      go : (u : Option Script.Arms) → named u (λ bs. differ (labels_of bs) && kept_arms bs js) (elab_arms σ.types σ.vars k) ≡ fits c
          → (named u (λ bs. kept_arms bs js) (elab_arms σ.types σ.vars k) ≡ fits c) × (elim u [ none ↦ true | some b ↦ differ (labels_of b) ] ≡ true)
      go none h = absurd (unnamed-fits h)
      go (some b) h = differ-fits (differ (labels_of b)) (kept_arms b js) (elab_arms σ.types σ.vars k b) c h

-- ---- the selector

-- the kind on which the arms depend: 0 where the selector has a fault
unfoldable pub selector_kind : Staged Elaborated → ℕ
selector_kind wrong = 0
selector_kind unnamed = 0
selector_kind unfit = 0
selector_kind (fits x) = x.kind

module _ {B C : Type 0} (t : Elaborated → Bool) (mk : Elaborated → B → C) (T : ℕ → Staged B) where
  pub selected-fits : (S : Staged Elaborated) (c : C) → selected S T (λ x b. or_unfit (given (t x) (mk x b))) ≡ fits c
      → (x : Elaborated) × ((S ≡ fits x) × (on_fits (T x.kind) (λ b. or_unfit (given (t x) (mk x b))) ≡ fits c))
  unfolding selected join
  selected-fits wrong c h = absurd (wrong-fits h)
  selected-fits unnamed c h = absurd (no (T 0) h)
    where
      no : (b : Staged B) → join {A = Elaborated} unnamed b (λ x b. or_unfit (given (t x) (mk x b))) ≡ fits c → ⊥
      no wrong h = wrong-fits h
      no unnamed h = unnamed-fits h
      no unfit h = unnamed-fits h
      no (fits b) h = unnamed-fits h
  selected-fits unfit c h = absurd (no (T 0) h)
    where
      no : (b : Staged B) → join {A = Elaborated} unfit b (λ x b. or_unfit (given (t x) (mk x b))) ≡ fits c → ⊥
      no wrong h = wrong-fits h
      no unnamed h = unnamed-fits h
      no unfit h = unfit-fits h
      no (fits b) h = unfit-fits h
  selected-fits (fits x) c h = (x, (refl, h))
