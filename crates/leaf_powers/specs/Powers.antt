-- Document 01, "Arithmetic": `x ** n`.
use Rattle.std.specs.Prelude.{Bool, true, false, ◌&&◌, ◌||◌, ℕ, zero, suc, ◌%◌, ◌^◌, leb, ℤ, pos, negsuc, neg_ℤ, nat_abs, Err}
use Rattle.leaf_integers.specs.declared.Fault.TheVariants.{Overflow, Exponent}
use Rattle.leaf_integers.specs.Integers.{Num, exact, is_zero, pick}

-- m, or -m where the digit is not 0
unfoldable pub signed : ℕ → ℕ → ℤ
signed zero m = pos m
signed (suc d) m = neg_ℤ (pos m)

-- the exact power: that of a negative number is negative where the exponent is odd
unfoldable pub pow_z : ℤ → ℕ → ℤ
pow_z (pos a) n = pos (a ^ n)
pow_z (negsuc a) n = signed (n % 2) (suc a ^ n)

-- the power, if it is an integer. An exponent past 31 leaves the integers unless the base is -1, 0 or 1
-- (`powers-exact` in proofs: this is `exact (pow_z x n)`); said so, it computes for every exponent
unfoldable pub small : Bool → ℤ → ℕ → Num
small true x n = exact (pow_z x n)
small false x n = Err Overflow

-- `**`: a negative exponent is a fault, and so is 0 with an exponent of 0
unfoldable pub power : ℤ → ℤ → Num
power x (pos n) = pick (is_zero x && is_zero (pos n)) (Err Exponent) (small (leb n 31 || leb (nat_abs x) 1) x n)
power x (negsuc n) = Err Exponent
