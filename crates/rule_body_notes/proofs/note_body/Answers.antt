use Rattle.rule_body_notes.proofs.Notes.{body-noted}
use Rattle.rule_body_notes.proofs.note_body.Goals as goal

pub returns : goal.returns
returns c = search body-noted
