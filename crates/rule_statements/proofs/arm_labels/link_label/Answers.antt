use borrow.Author.Rules.{sfits_of}
use Rattle.rule_statements.proofs.Labelling.{label-link}
use Rattle.rule_statements.proofs.arm_labels.link_label.Goals as goal

pub returns : goal.returns
returns c = search (label-link, sfits_of)
