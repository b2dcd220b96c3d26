use Rattle.rule_enum_lines.proofs.EnumValues.{LayingValues}
use Rattle.rule_enum_lines.proofs.values.lay_values.Given as goal

abbrev pub invariant-loop-i : goal.invariant-loop-i
invariant-loop-i l = LayingValues l.text l.initial.work l.kind l.newest l.n l.top l.at l.p l.i l.place l.work
