use Rattle.table_names.proofs.Keying.{key-room, keyed-fits, keyed-is}
use borrow.Author.Rules.{rules}
use Rattle.table_names.proofs.keys.name_number.Goals as goal

pub overflow_mul-result : goal.overflow_mul-result
overflow_mul-result c = search (key-room, rules)

pub overflow_add-result : goal.overflow_add-result
overflow_add-result c = search (keyed-fits, rules)

pub returns : goal.returns
returns c = search keyed-is
