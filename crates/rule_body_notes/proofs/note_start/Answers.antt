use Rattle.rule_body_notes.proofs.Notes.{start-noted}
use Rattle.rule_body_notes.proofs.note_start.Goals as goal

pub returns : goal.returns
returns c = search start-noted
