use Rattle.rule_record_lines.proofs.FieldLaying.{LayingFields}
use Rattle.rule_record_lines.proofs.records.lay_fields.Given as goal

abbrev pub invariant-loop-i : goal.invariant-loop-i
invariant-loop-i l = LayingFields l.text l.initial.work l.types l.scope l.n l.top l.at l.p l._i l.place l.offset l.work
