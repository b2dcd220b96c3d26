use borrow.Author.Rules.{sfits_of}
use Rattle.rule_labels.proofs.Keying.{key_laws}
use borrow.Author.Rules.{rules}
use Rattle.rule_labels.proofs.loose.key.Goals as goal

pub overflow_sub-result : goal.overflow_sub-result
overflow_sub-result c = search (key_laws, sfits_of, rules)

pub overflow_mul-result : goal.overflow_mul-result
overflow_mul-result c = search (key_laws, sfits_of, rules)

pub overflow_add-result : goal.overflow_add-result
overflow_add-result c = search (key_laws, sfits_of, rules)

pub overflow_add-result-then-in_range : goal.overflow_add-result-then-in_range
overflow_add-result-then-in_range c = search (key_laws, sfits_of, rules)

pub returns-then-in_range : goal.returns-then-in_range
returns-then-in_range c = search (key_laws, sfits_of, rules)

pub returns-else-in_range : goal.returns-else-in_range
returns-else-in_range c = search (key_laws, sfits_of, rules)
