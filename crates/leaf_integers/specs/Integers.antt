-- Document 01, "Arithmetic": exact integers in -2147483648 to 2147483647; `div`, `mod`, `odd`, `pred`, `succ`.
use Rattle.std.specs.Prelude.{Bool, true, false, ◌&&◌, ℕ, suc, ◌-◌, ◌%◌, eqb, ℤ, pos, negsuc, nat_abs, ◌+ℤ◌, ◌-ℤ◌, Result, Ok, Err}
use Rattle.std.specs.Int.Signed.{le_z, quot_z}
use Rattle.leaf_integers.specs.declared.Fault.{Fault}
use Rattle.leaf_integers.specs.declared.Fault.TheVariants.{Overflow, Divisor, Bound}

-- what an operation on integers gives
abbrev pub Num : Type 0
Num = Result ℤ Fault

-- the least and the greatest integer
abbrev pub least : ℤ
least = negsuc 2147483647

abbrev pub most : ℤ
most = pos 2147483647

-- z lies in lo to hi
unfoldable pub inside : ℤ → ℤ → ℤ → Bool
inside lo hi z = le_z lo z && le_z z hi

-- one of two answers by a test
unfoldable pub pick : Bool → Num → Num → Num
pick true a b = a
pick false a b = b

-- z if it lies in lo to hi, else the fault
unfoldable pub ranged : Fault → ℤ → ℤ → ℤ → Num
ranged f lo hi z = pick (inside lo hi z) (Ok z) (Err f)

-- the exact result, if it is an integer
unfoldable pub exact : ℤ → Num
exact z = ranged Overflow least most z

unfoldable pub is_zero : ℤ → Bool
is_zero (pos n) = eqb n 0
is_zero (negsuc n) = false

-- `div`: `quot_z` truncates towards zero
unfoldable pub quotient : ℤ → ℤ → Num
quotient i j = pick (is_zero j) (Err Divisor) (exact (quot_z i j))

-- i modulo n, in 0 to n - 1: of -(a + 1) it is what a modulo n leaves of n - 1
unfoldable pub modℕ : ℤ → ℕ → ℕ
modℕ (pos a) n = a % n
modℕ (negsuc a) n = n - suc (a % n)

-- `mod`: j at or below 0 is a fault
unfoldable pub modulus : ℤ → ℤ → Num
modulus i j = pick (le_z j (pos 0)) (Err Divisor) (Ok (pos (modℕ i (nat_abs j))))

unfoldable pub is_odd : ℤ → Bool
is_odd z = eqb (nat_abs z % 2) 1

-- `succ` and `pred` in a host type of the ordinals lo to hi
unfoldable pub next : ℤ → ℤ → ℤ → Num
next lo hi z = ranged Bound lo hi (z +ℤ pos 1)

unfoldable pub previous : ℤ → ℤ → ℤ → Num
previous lo hi z = ranged Bound lo hi (z -ℤ pos 1)
