use Rattle.rule_record_lines.proofs.FieldLaying.{adds-record}
use Rattle.rule_record_lines.proofs.records.add_record.Goals as goal

pub returns : goal.returns
returns c = search adds-record
