use Rattle.rule_record_lines.proofs.FieldLaying.{record-info-is}
use Rattle.rule_record_lines.proofs.records.record_info.Goals as goal

pub returns : goal.returns
returns c = search record-info-is
