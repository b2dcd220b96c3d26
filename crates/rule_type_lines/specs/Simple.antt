-- The parts of a range, an array or a set, past its head word.
use Rattle.std.specs.Prelude.{Bool, false, cond, ◌&&◌, ℕ, ◌+◌, ◌*◌, ◌-◌, ◌%◌, eqb, ltb, leb}
use Rattle.std.proofs.Math.Option.{Option}
use Rattle.law.specs.Base.{◌>>=◌}
use Rattle.law.specs.Syntax.{TypeForm, set_of, array_of, range}
use Rattle.law.specs.Trees.{Trees, Run}
use Rattle.rule_faults.specs.declared.Fault.{Fault}
use Rattle.rule_faults.specs.declared.Fault.TheVariants.{Clear, Kind, Form}
use Rattle.table_scope.specs.declared.Info.{Info}
use Rattle.table_scope.specs.Descriptions.{no_info}
use Rattle.rule_faults.specs.Got.{lowest}
use Rattle.text_heads.specs.Parts.{rest, closed, type_name_in, constant_in}
use Rattle.rule_type_lines.specs.declared.Shaped.{Shaped}

unfoldable pub set_in : Trees Run → Option TypeForm
set_in us = type_name_in us >>= λ b. closed (rest us) (set_of b)

unfoldable pub array_in : Trees Run → Option TypeForm
array_in us = type_name_in us >>= λ i. type_name_in (rest us) >>= λ e. closed (rest (rest us)) (array_of i e)

unfoldable pub range_in : Trees Run → Option TypeForm
range_in us = constant_in us >>= λ a. constant_in (rest us) >>= λ b. closed (rest (rest us)) (range a b)

-- a set's base lies in 0 to 31: by its bounds in 32 bits
unfoldable pub base_fits : ℕ → ℕ → Bool
base_fits low high = ltb low 2147483648 && leb high 31

-- row 8 where a type is no ordinal, by the number of its shape
unfoldable pub ordinal_fault : ℕ → Fault
ordinal_fault shape = cond (eqb shape 0) Clear Kind

-- the values of an ordinal type after its first, by its bounds in 32 bits
unfoldable pub span_of : ℕ → ℕ → ℕ
span_of low high = cond (leb low high) (high - low) (4294967295 - low + high + 1)

-- row 9 of an array
unfoldable pub array_fits : ℕ → ℕ → Bool
array_fits span size = ltb span 256 && leb ((span % 256 + 1) * (size % 4096)) 2048

-- the answers where row 6 ends the walk
unfoldable pub no_shape : ℕ → Shaped
no_shape q = record { fault = Form; info = no_info; within = false; next = q }

-- an array from its index and element types, whose descriptions are x and y
unfoldable pub array_shaped : Fault → Fault → Info → Info → ℕ → ℕ → ℕ → Shaped
array_shaped f g x y i e q = record {
  fault = lowest (lowest f g) (ordinal_fault x.shape);
  info = record {
    shape = 2;
    host = 0;
    low = x.low;
    high = x.high;
    size = (span_of x.low x.high % 256 + 1) * (y.size % 4096);
    index = i;
    element = e;
    fields = 0;
    place = 0;
  };
  within = array_fits (span_of x.low x.high) y.size;
  next = q;
}
