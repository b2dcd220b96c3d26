-- The numbers that are printed.
use Rattle.std.specs.Prelude.{ℕ, ℤ, pos, negsuc}

-- -1 - z
unfoldable pub turn_of : ℤ → ℤ
turn_of (pos n) = negsuc n
turn_of (negsuc n) = pos n

-- 0 of a negative number
unfoldable pub natural_of : ℤ → ℕ
natural_of (pos n) = n
natural_of (negsuc n) = 0
