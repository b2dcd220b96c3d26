-- Document 01's starred cases of arithmetic, computed from the definitions: one theorem over their list. Assumes nothing.
use mathlib.Core.Path.{◌≡◌, refl}
use mathlib.Core.List.{List, [], ◌∷◌}
use lib.IntN.{pos, negsuc}
use Rattle.leaf_integers.specs.Integers.{inside, pick, ranged, exact, is_zero, quotient, modℕ, modulus}
use Rattle.leaf_powers.specs.Powers.{signed, pow_z, small, power}
use Rattle.leaf_integers.specs.declared.Fault.TheVariants.{Overflow, Divisor, Exponent}
use Rattle.leaf_integers.specs.Integers.{Num}
use Rattle.std.specs.Prelude.{Ok, Err}

record Case : Type 0 where
  given : Num
  wanted : Num

cases : List Case
cases =
    record { given = quotient (negsuc 6) (pos 2); wanted = Ok (negsuc 2) }
    ∷ record { given = modulus (negsuc 6) (pos 3); wanted = Ok (pos 2) }
    ∷ record { given = modulus (pos 7) (negsuc 2); wanted = Err Divisor }
    ∷ record { given = modulus (pos 7) (pos 0); wanted = Err Divisor }
    ∷ record { given = quotient (negsuc 2147483647) (negsuc 0); wanted = Err Overflow }
    ∷ record { given = power (negsuc 1) (pos 31); wanted = Ok (negsuc 2147483647) }
    ∷ record { given = power (pos 2) (pos 31); wanted = Err Overflow }
    ∷ record { given = power (negsuc 0) (pos 2147483647); wanted = Ok (negsuc 0) }
    ∷ record { given = power (pos 0) (pos 0); wanted = Err Exponent }
    ∷ record { given = power (pos 5) (pos 0); wanted = Ok (pos 1) }
    ∷ record { given = power (pos 2) (pos 2147483647); wanted = Err Overflow }
    ∷ []

Hold : List Case → Type 0
Hold [] = Unit {0}
Hold (c ∷ cs) = (c.given ≡ c.wanted) × Hold cs

starred : Hold cases
unfolding cases Hold quotient modulus modℕ power small pow_z signed exact ranged inside is_zero pick
starred = (refl, (refl, (refl, (refl, (refl, (refl, (refl, (refl, (refl, (refl, (refl, tt)))))))))))
