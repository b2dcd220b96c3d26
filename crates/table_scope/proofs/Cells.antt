-- The cells of the variables are among those of a store.
use mathlib.Core.Path.{◌≡◌}
use mathlib.Core.Option.{some}
use Prim.Native.Nat.{ℕ, ◌+◌, ◌≤◌}
use native.Mathlib.Omega.{arith}
use Rattle.law.specs.Environment.{Declared}
use Rattle.law.specs.Types.{Var, variable, size_of}
use Rattle.law_theorems.proofs.LinesKeep.{store-tests-length, text-stand}
use Rattle.law_theorems.specs.LinesKeep.{Keeps, store_tests}

pub keeps-cells : (k : Declared) → Keeps k → (i : ℕ) (v : Var) → variable k.env.vars i ≡ some v → v.base + size_of k.env.types v.type ≤ 32768
keeps-cells k K i v e =
    let q = ((K.laid (store_tests k.env.types k.cells k.env.parameters) (text-stand k K)).found i v e).short in
    omega (arith, store-tests-length k.env.types k.cells k.env.parameters, K.lent, K.stored)
