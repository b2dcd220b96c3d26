use Rattle.text_words.proofs.Looking.{end_after, end_short, read-laws}
use borrow.Author.Rules.{rules}
use Rattle.text_words.proofs.sight.word_at.Goals as goal

pub returns-then-at-text : goal.returns-then-at-text
returns-then-at-text c = search read-laws

pub slice_bounds-word_of-end : goal.slice_bounds-word_of-end
slice_bounds-word_of-end c = search (end_short, end_after, rules)

pub returns : goal.returns
returns c = search read-laws
