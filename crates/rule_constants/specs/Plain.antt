-- Row 8 of document 01 on trees: no constant is past the integers. A number is in them, so is an enum name; `(- number)` may be past.
use Rattle.std.specs.Prelude.{Bool, true, false, ◌&&◌, neg_ℤ}
use Rattle.std.proofs.Math.Option.{Option, none, some}
use Rattle.leaf_integers.specs.Integers.{inside, least, most}
use Rattle.law.specs.Syntax.{Constant, number, minus, truth, named}
use Rattle.law.specs.Trees.{Tree, word, form, Trees, end, ◌then◌, Run}
use Rattle.rule_faults.specs.declared.Fault.{Fault}
use Rattle.rule_faults.specs.declared.Fault.TheVariants.{Clear, Kind, Name, Form}
use Rattle.rule_atoms.specs.Answering.{minus_form}

abbrev pub is_kind : Fault → Bool
is_kind Clear = false
is_kind Kind = true
is_kind Name = false
is_kind Form = false

-- what may be a constant is none past the integers
unfoldable pub sound_by : Option Constant → Bool
sound_by none = true
sound_by (some (number z)) = inside least most z
sound_by (some (minus z)) = inside least most (neg_ℤ z)
sound_by (some (truth b)) = true
sound_by (some (named w)) = true

-- no form in a tree is a constant past the integers
unfoldable mutual
  pub plain_tree : Tree Run → Bool
  plain_tree (word w) = true
  plain_tree (form us) = sound_by (minus_form us) && plain_in us

  pub plain_in : Trees Run → Bool
  plain_in end = true
  plain_in (t then ts) = plain_tree t && plain_in ts

-- in the first tree, if there is one
unfoldable pub plain_first : Trees Run → Bool
plain_first end = true
plain_first (t then ts) = plain_tree t
