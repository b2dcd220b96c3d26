use Rattle.rule_body_notes.proofs.Notes.{names-noted}
use Rattle.rule_body_notes.proofs.note_names.Goals as goal

pub returns : goal.returns
returns c = search names-noted
