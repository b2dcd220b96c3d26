-- The parts of a range: a constant that is the last part, and an integer in 32 bits.
use Rattle.std.specs.Prelude.{true, cond, ◌&&◌, ◌≡◌, ℕ, ◌-◌, eqb, ℤ}
use Rattle.std.specs.Int.Signed.{le_z}
use Rattle.leaf_integers.specs.Integers.{inside, least, most}
use Rattle.leaf_integers.specs.Integers.{Num}
use Rattle.std.specs.Prelude.{Ok, Err}
use Rattle.leaf_sets.specs.Sets.{pattern_of}
use Rattle.code.specs.Layout.{bits}
use Rattle.rule_faults.specs.declared.Fault.{Fault}
use Rattle.rule_faults.specs.declared.Fault.TheVariants.{Clear, Kind}
use Rattle.table_scope.specs.Descriptions.{ordinal_info}
use Rattle.rule_faults.specs.Got.{lowest}
use Rattle.rule_type_lines.specs.declared.Shaped.{Shaped}

-- an integer of the language in 32 bits
pub record IsBits (z : ℤ) (n : ℕ) : Type 0 where
  pub is-bits : inside least most z ≡ true → n ≡ bits z

-- n for -(n + 1)
abbrev pub flipped_of : Num → ℕ
flipped_of (Ok v) = 4294967295 - pattern_of v
flipped_of (Err f) = 0

-- row 8: one kind, not reversed
unfoldable pub range_fault : ℕ → ℤ → ℕ → ℤ → Fault
range_fault a y b z = cond (eqb a b && le_z y z) Clear Kind

-- a range from its constants; m and n are the bounds in 32 bits
unfoldable pub range_shaped : Fault → Fault → ℕ → ℤ → ℕ → ℤ → ℕ → ℕ → ℕ → Shaped
range_shaped f g a y b z m n q = record {
  fault = lowest (lowest f g) (range_fault a y b z);
  info = ordinal_info a m n;
  within = true;
  next = q;
}

pub record GivesRange (f g : Fault) (a : ℕ) (y : ℤ) (b : ℕ) (z : ℤ) (q : ℕ) (r : Shaped) : Type 0 where
  pub m : ℕ
  pub n : ℕ
  pub low-is : IsBits y m
  pub high_is : IsBits z n
  pub answer : r ≡ range_shaped f g a y b z m n q
