use Rattle.text_words.proofs.Looking.{end_short, end_after}
use Rattle.host_writing.proofs.Writing.{name-laws}
use borrow.Author.Rules.{rules}
use Rattle.host_writing.proofs.rows.name.Goals as goal

pub returns-then-offset-text : goal.returns-then-offset-text
returns-then-offset-text c = search name-laws

pub slice_bounds-put_small-end : goal.slice_bounds-put_small-end
slice_bounds-put_small-end c = search (end_short, end_after, rules)

pub returns : goal.returns
returns c = search name-laws
