-- The laws of `bracket::closing`.
use mathlib.Core.Path.{◌≡◌}
use mathlib.Core.List.{List}
use Prim.Native.Nat.{ℕ}
use Rattle.rule_faults.specs.declared.Fault.TheVariants.{Form}
use Rattle.rule_faults.specs.declared.Got.{Got}
use Rattle.rule_faults.specs.Got.{failed_got, past_bracket}
use Rattle.std.specs.Prelude.{Option, Some, None}
use Rattle.text_parts.specs.Parts.{Shuts}
use Rattle.rule_expr_nodes.specs.Bracket.{Closes, shut, more}

module _ (s : List ℕ) (g : Got) (e : Option ℕ) (h : Shuts s g.next e) where
  pub closing-shut : (q : ℕ) (r : Got) → e ≡ Some q → r ≡ past_bracket g q → Closes s g r
  closing-shut q r f k = rw k (shut q (rw f at h.says))

  pub closing-more : (r : Got) → e ≡ None → r ≡ failed_got Form 0 g.next g.top → Closes s g r
  closing-more r f k = rw k (more (rw f at h.says))

pub ruleset closing_laws = (closing-shut, closing-more)
