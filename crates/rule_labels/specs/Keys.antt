-- The labels of a `case` as integers: a label's kind and value make one number, its key, so that the keys tell whether labels of any kinds differ.
use Rattle.std.specs.Prelude.{cond, List, ℕ, ℤ, pos, ◌+ℤ◌, ◌-ℤ◌, ◌*ℤ◌}
use Rattle.leaf_integers.specs.Integers.{least, most, inside}
use Rattle.table_scope.specs.declared.Scope.{Scope}
use Rattle.table_scope.specs.Scene.{meaning_here}
use Rattle.table_scope.specs.declared.Meaning.{Meaning}
use Rattle.table_scope.specs.declared.Meaning.TheVariants as meaning
use Rattle.rule_labels.specs.declared.Mark.{Mark}
use Rattle.rule_labels.specs.declared.Mark.TheVariants as mark
use Rattle.rule_labels.specs.Blocks.{value_at}

-- ---- the key of a label

-- the kind of an enum name, 0 for what is none
abbrev pub kind_in : Meaning → ℕ
kind_in meaning.Unknown = 0
kind_in (meaning.Type t) = 0
kind_in (meaning.Var i t a) = 0
kind_in (meaning.Proc p) = 0
kind_in (meaning.Value k n) = k

-- the kind of the label that a mark stands for, by the tables
abbrev pub kind_at : List ℕ → List ℕ → Scope → Mark → ℕ
kind_at s l scope (mark.Number z) = 0
kind_at s l scope (mark.Truth b) = 1
kind_at s l scope (mark.Named p) = kind_in (meaning_here s l scope p)

-- the key of a kind and a value: from -2^63 on, 2^32 numbers for each kind, one for each of the integers; 0 for a value past them
unfoldable pub key_by : ℕ → ℤ → ℤ
key_by k z = cond (inside least most z) ((pos k -ℤ pos 2147483648) *ℤ pos 4294967296 +ℤ (z +ℤ pos 2147483648)) (pos 0)

-- the key of the label that a mark stands for, by the tables
abbrev pub key_at : List ℕ → List ℕ → Scope → Mark → ℤ
key_at s l scope m = key_by (kind_at s l scope m) (value_at s l scope m)
