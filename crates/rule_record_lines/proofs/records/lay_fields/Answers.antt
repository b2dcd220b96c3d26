use borrow.Author.Rules.{rules}
use Rattle.rule_record_lines.proofs.FieldLaying.{fields-start, laying_laws, laying-offset, laying-place}
use Rattle.rule_record_lines.proofs.records.lay_fields.Goals as goal

pub loop-i-init : goal.loop-i-init
loop-i-init c = fields-start _ _ _ _ _ _ _ (search rules) (search rules)

pub pair_at-f-requires : goal.pair_at-f-requires
pair_at-f-requires c = search (laying-place, laying-offset, rules)

pub add_type_size-after-requires : goal.add_type_size-after-requires
add_type_size-after-requires c = search (laying-place, laying-offset, rules)

pub lay_field-place-requires : goal.lay_field-place-requires
lay_field-place-requires c = search (laying-place, laying-offset, rules)

pub loop-i-preserved : goal.loop-i-preserved
loop-i-preserved c = search (laying_laws, rules)

pub returns : goal.returns
returns c = search (laying_laws, rules)
