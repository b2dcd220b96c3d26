-- Written by tools/open-names: to unfold `everything` is to unfold every definition of the meaning.
use Rattle.leaf_integers.specs.Integers as IntegersIntegers
use Rattle.leaf_powers.specs.Powers as PowersPowers
use Rattle.leaf_sets.specs.Sets as SetsSets
use Rattle.leaf_bytes.specs.Bytes as BytesBytes
use Rattle.leaf_bytes.specs.Names as BytesNames
use Rattle.leaf_reserved.specs.Table as ReservedTable
use Rattle.leaf_reserved.specs.Slots as ReservedSlots
use Rattle.leaf_words.specs.Numbers as WordsNumbers
use Rattle.leaf_words.specs.Words as WordsWords
use Rattle.law.specs.Base as Base
use Rattle.law.specs.Lines as Lines
use Rattle.law.specs.Trees as Trees
use Rattle.law.specs.Words as Words
use Rattle.law.specs.Forms as Forms
use Rattle.law.specs.Types as Types
use Rattle.law.specs.Operators as Operators
use Rattle.law.specs.Environment as Environment
use Rattle.law.specs.Names as Names
use Rattle.law.specs.Elaborate as Elaborate
use Rattle.law.specs.Rules as Rules
use Rattle.law.specs.Ceilings as Ceilings
use Rattle.law.specs.Verdict as Verdict
use Rattle.law.specs.Calculate as Calculate
use Rattle.law.specs.Machine as Machine
use Rattle.law.specs.Chair as Chair
use Rattle.law.specs.Marking as Marking
use Rattle.law.specs.Store as Store
use Rattle.law.specs.Whole as Whole
use Rattle.law.specs.Rest as Rest
use Rattle.law.specs.Parameters as Parameters
use Rattle.law.specs.Copies as Copies
use Rattle.law.specs.Print as Print

unfoldable pub everything : Unit {0}
unfolding
    IntegersIntegers.inside IntegersIntegers.pick IntegersIntegers.ranged IntegersIntegers.exact IntegersIntegers.is_zero
    IntegersIntegers.quotient IntegersIntegers.modℕ IntegersIntegers.modulus IntegersIntegers.is_odd IntegersIntegers.next
    IntegersIntegers.previous PowersPowers.signed PowersPowers.pow_z PowersPowers.small PowersPowers.power SetsSets.those SetsSets.bit
    SetsSets.members SetsSets.value_of SetsSets.pattern_of SetsSets.members_of SetsSets.has SetsSets.holds SetsSets.least SetsSets.greatest
    SetsSets.with SetsSets.union_of SetsSets.difference_of SetsSets.intersection_of SetsSets.all SetsSets.within SetsSets.equals
    SetsSets.all_in SetsSets.lies_in BytesBytes.bytes BytesBytes.same BytesBytes.class_of BytesBytes.small BytesBytes.is_letter
    BytesBytes.is_digit BytesBytes.is_alnum BytesBytes.digit_of BytesNames.alnum_first BytesNames.part_ok BytesNames.goes_on BytesNames.is_name
    ReservedTable.reserved ReservedTable.operators ReservedTable.fixed ReservedTable.letter ReservedTable.letters ReservedTable.rows
    ReservedTable.position ReservedTable.is_fixed ReservedTable.place_of ReservedSlots.slot_of ReservedSlots.spot ReservedSlots.guess
    ReservedSlots.has_letters WordsNumbers.digits WordsNumbers.at_most WordsNumbers.numeral WordsNumbers.decimal WordsNumbers.decimal_of
    WordsNumbers.signed WordsNumbers.hexadecimal WordsNumbers.hex_of WordsNumbers.number_of WordsWords.named WordsWords.placed
    WordsWords.word_of Base.find Base.◌>>=◌ Base.both Base.given Base.either Base.each Base.pick Lines.refused_at Lines.in_front Lines.lines_of
    Trees.list Trees.nodes Trees.nodes_in Trees.deeper Trees.opened Trees.closed Trees.spelled Trees.past Trees.is_after Trees.balanced
    Trees.is_visible Trees.word_of Trees.word_at Trees.with_token Trees.tokens_of Trees.levels Trees.trees_of Trees.single Trees.form_of
    Words.word_by Words.worded Words.worded_all Forms.free Forms.key_of Forms.is_number Forms.first? Forms.headed Forms.one Forms.two
    Forms.three Forms.some? Forms.among Forms.type_name Forms.truths Forms.minus_number Forms.constant Forms.heads Forms.exprs_of Forms.atom
    Forms.two_sided Forms.one_sided Forms.expr Forms.expr_form Forms.exprs Forms.members_form Forms.target Forms.target_form Forms.at_form
    Forms.dot_form Forms.verbs Forms.arm_heads Forms.labels Forms.arms_first Forms.branches Forms.stmt Forms.stmt_form Forms.stmts Forms.lastly
    Forms.if_form Forms.case_form Forms.arms Forms.labelled Forms.arm_form Forms.handler_of Forms.body Forms.field Forms.makers Forms.made_type
    Forms.type_form Forms.pairs_of Forms.parameters Forms.line_heads Forms.line_by Forms.line_form Types.field_of Operators.operator_rule
    Operators.function_rule Environment.copies Environment.lay_fields Environment.field_cells Environment.type_sort_of Environment.extend_types
    Environment.enum_names Environment.decl_names Environment.within Environment.frame_of Environment.declare_line Names.type_of Names.var_of
    Names.constant_of Names.atom_of Names.element_of Names.field_in Names.expr_of Names.target_of Names.exprs_of Names.stmt_of Names.stmts_of
    Names.arms_of Names.body_of Names.is_known Names.listed_in Names.distinct Names.none_known Names.new_names Names.field_names Names.decl_of
    Names.entry_of Elaborate.copying Elaborate.elab_expr Elaborate.elab_target Elaborate.elab_members Elaborate.expects Elaborate.elab_labels
    Elaborate.elab_arguments Elaborate.elab_stmt Elaborate.elab_stmts Elaborate.elab_arms Elaborate.elab_body Rules.plain Rules.all_plain
    Rules.labelled Rules.differ Rules.labels_of Rules.looping Rules.plain_expr Rules.plain_target Rules.plain_exprs Rules.how_many
    Rules.kept_stmt Rules.kept_stmts Rules.kept_arms Rules.kept_body Rules.kept_decl Rules.kept_parameters Rules.keeps_rules Ceilings.field_sizes
    Ceilings.type_bounded Ceilings.line_bounded Verdict.◌>>=◌ Verdict.or_bad Verdict.must Verdict.strictly Verdict.loosely Verdict.judge_line
    Verdict.onward Verdict.judge_lines Verdict.opening Verdict.judge Calculate.exception_of Calculate.integer Calculate.tested
    Calculate.truth Calculate.set_value Calculate.joined Calculate.member_in Calculate.compute Calculate.compute1 Machine.read_cell
    Machine.read_cells Machine.while_rounds Machine.for_rounds Machine.planned Machine.opened Machine.count_up Machine.store_ordinal
    Machine.store_whole Machine.pass_on Machine.raise_number Machine.procedure_at Machine.admitted Machine.entered Chair.eval_code
    Chair.place_code Chair.gather_codes Chair.run_arguments Chair.condition Chair.matches Chair.run_act Chair.run_acts Chair.run_cases
    Marking.mark_expr Marking.mark_target Marking.mark_members Marking.mark_arguments Marking.mark_condition Marking.mark_labels
    Marking.mark_bounds Marking.mark_stmt Marking.mark_stmts Marking.mark_arms Store.cells_ok Store.fault_of Store.store_fault Whole.run_body
    Whole.mark_body Whole.run_all Whole.mark_all Whole.report Whole.lent Whole.on_store Whole.unless Whole.verdict_of Whole.run_of Whole.mark_of
    Whole.work_after Whole.refusal_words Whole.refusal_word Rest.procs_of Rest.resume Parameters.run_procs Parameters.mark_procs Copies.writes
    Copies.all_written Copies.times_written Print.decimal Print.decimal_of Print.signed_of Print.row Print.outcome Print.cell_value Print.cells
    Print.show Print.scripted Print.runscript Print.markscript
everything = tt
