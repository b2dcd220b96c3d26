use Rattle.rule_body_notes.proofs.Notes.{pairs-noted}
use Rattle.rule_body_notes.proofs.note_pairs.Goals as goal

pub returns : goal.returns
returns c = search pairs-noted
