use Rattle.rule_record_lines.proofs.FieldLaying.{lays-record}
use Rattle.rule_record_lines.proofs.records.lay_record.Goals as goal

pub returns : goal.returns
returns c = search lays-record
