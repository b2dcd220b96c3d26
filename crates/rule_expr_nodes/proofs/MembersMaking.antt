-- The laws of a member's own fault.
use mathlib.Core.Path.{◌≡◌, refl, sym}
use mathlib.Core.Bool.{true, false, true≢false}
use Prim.Native.Nat.{ℕ}
use borrow.Author.Tests.{eq-eqb, ne_eqb}
use Rattle.rule_faults.specs.declared.Fault.{Fault}
use Rattle.rule_faults.specs.declared.Fault.TheVariants.{Clear, Kind, Name, Form}
use Rattle.rule_faults.specs.Got.{is_clear}
use Rattle.rule_expr_nodes.specs.Members.{member_fault}

module _ (kind base : ℕ) where
  pub member_same : (f : Fault) → kind ≡ base → f ≡ member_fault f kind base
  unfolding member_fault
  member_same Clear h = rw (eq-eqb kind base h) refl
  member_same Kind h = refl
  member_same Name h = refl
  member_same Form h = refl

  pub member_other : (f : Fault) → is_clear f ≡ true → ((kind ≡ base) → ⊥) → Kind ≡ member_fault f kind base
  unfolding member_fault
  member_other Clear c h = rw (ne_eqb kind base h) refl
  member_other Kind c h = absurd (true≢false (sym c))
  member_other Name c h = absurd (true≢false (sym c))
  member_other Form c h = absurd (true≢false (sym c))

  pub member_faulty : (f : Fault) → is_clear f ≡ false → f ≡ member_fault f kind base
  unfolding member_fault
  member_faulty Clear c = absurd (true≢false c)
  member_faulty Kind c = refl
  member_faulty Name c = refl
  member_faulty Form c = refl

pub ruleset member_fault_laws = (member_same, member_other, member_faulty)
