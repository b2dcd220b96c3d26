-- The answer for a form's last part, past the form's closing bracket.
use Rattle.std.specs.Prelude.{List, ◌≡◌, ℕ}
use Rattle.law.specs.Trees.{end, first}
use Rattle.law_theorems.specs.Readings.{stack_at}
use Rattle.rule_faults.specs.declared.Fault.TheVariants.{Form}
use Rattle.rule_faults.specs.declared.Got.{Got}
use Rattle.rule_faults.specs.Got.{failed_got, past_bracket}
use Rattle.text_parts.specs.Parts.{ShutAt}

-- an answer that is past the closing bracket, where it stands next
pub data Closes (s : List ℕ) (g : Got) : Got → Type 0 where
  shut : (q : ℕ) → ShutAt s g.next q → Closes s g (past_bracket g q)
  more : (first (stack_at s g.next) ≡ end → ⊥) → Closes s g (failed_got Form 0 g.next g.top)
