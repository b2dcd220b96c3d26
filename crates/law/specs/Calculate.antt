-- Document 01, "Arithmetic" and "Exceptions": what operators and functions give, on values without types.
use Rattle.std.specs.Prelude.{Bool, true, false, not, ◌&&◌, ◌||◌, List, ℕ, ℤ, pos, negsuc, ◌+ℤ◌, ◌-ℤ◌, ◌*ℤ◌, neg_ℤ, nat_abs, length, Ok, Err, Option, Some, None}
use Rattle.std.specs.Int.Signed.{le_z, lt_z}
use Rattle.leaf_integers.specs.declared.Fault.{Fault}
use Rattle.leaf_integers.specs.declared.Fault.TheVariants.{Overflow, Divisor, Exponent, Bound}
use Rattle.leaf_integers.specs.Integers.{Num, inside, exact, is_zero, quotient, modulus, is_odd, next, previous}
use Rattle.leaf_powers.specs.Powers.{power}
use Rattle.leaf_sets.specs.Sets.{members_of, value_of, holds, with, least, greatest, union_of, difference_of, intersection_of, within}
use Rattle.law.specs.Base.{pick}
use Rattle.law.specs.Operators.{Operation, int_add, int_sub, int_mul, int_power, int_div, int_mod, set_union, set_difference, set_intersection, num_equal, num_unequal, num_less, num_at_most, num_greater, num_at_least, set_within, set_holds, member_of, bool_and, bool_or, Operation1, int_negate, bool_not, int_abs, int_sqr, int_odd, ordinal_of, pred_in, succ_in, set_card, set_least, set_greatest}

-- what working something out gives: a value, an exception's number, or nothing (stuck, of the marking machine alone)
pub data Result (A : Type 0) : Type 0 where
  is : A → Result A
  fails : ℤ → Result A
  stuck : Result A

infixl 1 ◌>>=◌
abbrev pub ◌>>=◌ : {A B : Type 0} → Result A → (A → Result B) → Result B
is a >>= f = f a
fails n >>= f = fails n
stuck >>= f = stuck

-- ---- the exceptions' numbers

abbrev pub numeric_error : ℤ
numeric_error = negsuc 100  -- -101

abbrev pub system_error : ℤ
system_error = negsuc 101  -- -102

abbrev pub range_error : ℤ
range_error = negsuc 102  -- -103

abbrev pub undefined_error : ℤ
undefined_error = negsuc 103  -- -104

abbrev pub case_error : ℤ
case_error = negsuc 104  -- -105

unfoldable pub exception_of : Fault → ℤ
exception_of Overflow = numeric_error
exception_of Divisor = numeric_error
exception_of Exponent = numeric_error
exception_of Bound = range_error

unfoldable pub integer : Num → Result ℤ
integer (Ok z) = is z
integer (Err f) = fails (exception_of f)

-- a number in lo to hi, else an exception
unfoldable pub tested : ℤ → ℤ → ℤ → ℤ → Result ℤ
tested e lo hi z = pick (inside lo hi z) (is z) (fails e)

-- ---- truth values and numbers as values

-- false and true are 0 and 1
unfoldable pub truth : Bool → ℤ
truth false = pos 0
truth true = pos 1

abbrev pub is_true : ℤ → Bool
is_true z = lt_z (pos 0) z

-- a number that is not negative; 0 of any other
abbrev pub nat_of : ℤ → ℕ
nat_of (pos n) = n
nat_of (negsuc n) = 0

abbrev pub equal_z : ℤ → ℤ → Bool
equal_z a b = is_zero (a -ℤ b)

-- ---- sets as values

unfoldable pub set_value : List ℕ → ℤ
set_value l = pos (value_of l)

-- a set with a member more
unfoldable pub joined : ℤ → ℤ → ℤ
joined z s = set_value (with z (members_of s))

-- `setmin` and `setmax` of an empty set are a Range_Error
unfoldable pub member_in : Option ℕ → Result ℤ
member_in (Some i) = is (pos i)
member_in None = fails range_error

-- ---- two-sided operators. `and` and `or` have both sides worked out

unfoldable pub compute : Operation → ℤ → ℤ → Result ℤ
compute int_add a b = integer (exact (a +ℤ b))
compute int_sub a b = integer (exact (a -ℤ b))
compute int_mul a b = integer (exact (a *ℤ b))
compute int_power a b = integer (power a b)
compute int_div a b = integer (quotient a b)
compute int_mod a b = integer (modulus a b)
compute set_union a b = is (set_value (union_of (members_of a) (members_of b)))
compute set_difference a b = is (set_value (difference_of (members_of a) (members_of b)))
compute set_intersection a b = is (set_value (intersection_of (members_of a) (members_of b)))
compute num_equal a b = is (truth (equal_z a b))
compute num_unequal a b = is (truth (not (equal_z a b)))
compute num_less a b = is (truth (lt_z a b))
compute num_at_most a b = is (truth (le_z a b))
compute num_greater a b = is (truth (lt_z b a))
compute num_at_least a b = is (truth (le_z b a))
compute set_within a b = is (truth (within (members_of a) (members_of b)))
compute set_holds a b = is (truth (within (members_of b) (members_of a)))
compute member_of a b = is (truth (holds a (members_of b)))
compute bool_and a b = is (truth (is_true a && is_true b))
compute bool_or a b = is (truth (is_true a || is_true b))

-- ---- one-sided operators and functions

unfoldable pub compute1 : Operation1 → ℤ → Result ℤ
compute1 int_negate a = integer (exact (neg_ℤ a))
compute1 bool_not a = is (truth (not (is_true a)))
compute1 int_abs a = integer (exact (pos (nat_abs a)))
compute1 int_sqr a = integer (exact (a *ℤ a))
compute1 int_odd a = is (truth (is_odd a))
compute1 ordinal_of a = is a
compute1 (pred_in lo hi) a = integer (previous lo hi a)
compute1 (succ_in lo hi) a = integer (next lo hi a)
compute1 set_card a = is (pos (length (members_of a)))
compute1 set_least a = member_in (least (members_of a))
compute1 set_greatest a = member_in (greatest (members_of a))
