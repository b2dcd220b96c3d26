use borrow.Author.Rules.{rules}
use Rattle.rule_enum_lines.proofs.EnumValues.{values-few, values_laws, values-small, values-start}
use Rattle.rule_enum_lines.proofs.values.lay_values.Goals as goal

pub loop-i-init : goal.loop-i-init
loop-i-init c = values-start _ _ _ _ _ _ _ (search rules) (search rules)

pub name_at-requires : goal.name_at-requires
name_at-requires c = search (values-small, values-few, rules)

pub name_number-number-requires : goal.name_number-number-requires
name_number-number-requires c = search (values-small, values-few, rules)

pub lay_value-place-requires : goal.lay_value-place-requires
lay_value-place-requires c = search (values-small, values-few, rules)

pub loop-i-preserved : goal.loop-i-preserved
loop-i-preserved c = search (values_laws, rules)

pub returns : goal.returns
returns c = search (values_laws, rules)

pub returns-in_default : goal.returns-in_default
returns-in_default c = search (values_laws, rules)
