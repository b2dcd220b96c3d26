-- A member's own fault.
use Rattle.std.specs.Prelude.{cond, ℕ, eqb}
use Rattle.rule_faults.specs.declared.Fault.{Fault}
use Rattle.rule_faults.specs.declared.Fault.TheVariants.{Clear, Kind, Name, Form}

-- a member's own fault, where the members are of kind k
unfoldable pub member_fault : Fault → ℕ → ℕ → Fault
member_fault Clear kind k = cond (eqb kind k) Clear Kind
member_fault Kind kind k = Kind
member_fault Name kind k = Name
member_fault Form kind k = Form
