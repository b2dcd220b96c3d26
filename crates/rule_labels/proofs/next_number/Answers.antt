use borrow.Author.Rules.{sfits_of}
use mathlib.Core.Path.{refl}
use Rattle.rule_labels.proofs.Finding.{value-next}
use Rattle.rule_labels.proofs.next_number.Goals as goal

pub returns : goal.returns
returns c = value-next _ _ _ _ _ _ c.in_ok-m.ensures _ _ _ refl c.number_of.ensures (search sfits_of)
