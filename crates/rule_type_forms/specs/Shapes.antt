-- The forms of types by their head words (text_heads, Heads).
use Rattle.std.specs.Prelude.{List, map, ℕ, ◌<◌, length}
use Rattle.std.proofs.Math.Option.{Option, none}
use Rattle.leaf_bytes.specs.Bytes.{small}
use Rattle.law.specs.Syntax.{TypeForm}
use Rattle.law.specs.Trees.{Trees, Run, first, word_at}
use Rattle.law_theorems.specs.Readings.{stack_at}
use Rattle.text_parts.specs.Parts.{FormAt}
use Rattle.text_heads.specs.declared.Maker.{Maker}
use Rattle.text_heads.specs.declared.Maker.TheVariants as MK
use Rattle.rule_declarations.specs.Lines.{GivesLine}
use Rattle.rule_type_lines.specs.Simple.{set_in, array_in, range_in}
use Rattle.rule_type_lines.specs.TypeLines.{type_after}
use Rattle.rule_enum_lines.specs.Enums.{enum_in}
use Rattle.rule_record_lines.specs.Records.{record_in}
use Rattle.rule_declarations.specs.declared.State.{State}
use Rattle.rule_declarations.specs.declared.Lined.{Lined}

-- us are the parts after the head word
abbrev pub maker_by : Maker → Trees Run → Option TypeForm
maker_by MK.Enum us = enum_in us
maker_by MK.Range us = range_in us
maker_by MK.Array us = array_in us
maker_by MK.Record us = record_in us
maker_by MK.Set us = set_in us
maker_by MK.Nothing us = none

-- a line from its type at `at` on; its name is at p
pub record GivesAfter (s l ts : List ℕ) (st : State) (p at : ℕ) (r : Lined) (l' ts' : List ℕ) : Type 0 where
  pub gives : p < length s → GivesLine s l ts st (type_after (map small (word_at s p)) (first (stack_at s at))) r l' ts'

-- a line whose type is a form, the parts of which begin at u
pub record GivesForm (s l ts : List ℕ) (st : State) (p u : ℕ) (r : Lined) (l' ts' : List ℕ) : Type 0 where
  pub gives : (at : ℕ) → FormAt s at u → p < length s → GivesLine s l ts st (type_after (map small (word_at s p)) (first (stack_at s at))) r l' ts'
