-- A result that is a fault or none. The laws are in proofs/.
use Rattle.std.specs.Prelude.{◌≡◌, ℤ, ◌+ℤ◌}
use Rattle.law.specs.Calculate.{Result, fails, stuck}
use Rattle.code_calc.specs.Words.{no_result, fault_base}
use Rattle.mark_values.specs.Values.{MarkRanged}

-- v is no value, and w is its word
pub data Broken {A : Type 0} (w : ℤ) : Result A → Type 0 where
  by-fault : (e : ℤ) → w ≡ e +ℤ fault_base → MarkRanged (fails e) → Broken w (fails e)
  by-stuck : w ≡ no_result → Broken w stuck
