use Rattle.leaf_powers.proofs.Powers.{raise_cast}
use borrow.Author.Rules.{rules}
use Rattle.host_writing.proofs.Integers.{natural-is, natural-none}
use Rattle.host_writing.proofs.putting.natural.Goals as goal

pub returns-then-z-lt0 : goal.returns-then-z-lt0
returns-then-z-lt0 c = search (natural-none, natural-is, rules)

pub overflow_cast-result : goal.overflow_cast-result
overflow_cast-result c = raise_cast c.args.z c.ranges.z c.if-z-lt0.false

pub returns : goal.returns
returns c = search (natural-none, natural-is, rules)
