use borrow.Author.Rules.{rules}
use Rattle.rule_enum_lines.proofs.EnumNames.{count_laws, count_small, count-start, names-fewer}
use Rattle.rule_enum_lines.proofs.enums.enum_names.Goals as goal

pub loop-name-init : goal.loop-name-init
loop-name-init c = count-start _ _ _ _

pub name_at-requires : goal.name_at-requires
name_at-requires c = search (count_small, rules)

pub is_new-requires : goal.is_new-requires
is_new-requires c = search (count_small, rules)

pub both-ok-requires : goal.both-ok-requires
both-ok-requires c = search (count_small, rules)

pub one_more-n-requires : goal.one_more-n-requires
one_more-n-requires c = search (count_small, rules)

pub loop-name-smaller : goal.loop-name-smaller
loop-name-smaller c = search names-fewer

pub loop-name-preserved : goal.loop-name-preserved
loop-name-preserved c = search (count_laws, rules)

pub names_end-requires : goal.names_end-requires
names_end-requires c = search (count_small, rules)

pub returns : goal.returns
returns c = search (count_laws, rules)
