use Rattle.rule_record_lines.proofs.FieldLaying.{field-laid}
use Rattle.rule_record_lines.proofs.records.lay_field.Goals as goal

pub returns : goal.returns
returns c = search field-laid
