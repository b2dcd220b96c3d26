-- The rows of a store's fault have numbers above 0.
use mathlib.Core.Path.{◌≡◌}
use mathlib.Core.Bool.{Bool, true, false}
use mathlib.Core.Option.{some}
use Prim.Native.Nat.{ℕ}
use native.Mathlib.Omega.{arith}
use Rattle.law.specs.Store.{fault_of}

pub no_row : (b c : Bool) → fault_of b c ≡ some 0 → ⊥
unfolding fault_of
no_row false c h = let e : ◌≡◌ {A = ℕ} 10 0 = cc in omega arith
no_row true false h = let e : ◌≡◌ {A = ℕ} 11 0 = cc in omega arith
no_row true true h = let e : ◌≡◌ {A = ℕ} 0 1 = cc in omega arith
