-- The word by which a statement tells how it ended, and the words of the store's array beside the cells'.
use Rattle.std.specs.Prelude.{◌≡◌, List, ℕ, ◌+◌, ◌-◌, ◌%◌, ◌≤◌, eqb, ltb, ℤ, pos, ◌-ℤ◌, get_or, set}
use Rattle.std.specs.Int.Signed.{lt_z}
use Rattle.leaf_integers.specs.Integers.{is_zero}
use Rattle.law.specs.Base.{pick}
use Rattle.law.specs.Calculate.{nat_of, system_error}
use Rattle.law.specs.Machine.{Outcome, normal, spent, raised}
use Rattle.code_calc.specs.Words.{greatest, fault_base, latest_at, place_at, latest_in}

-- the statement of the last exception
unfoldable pub place_in : List ℤ → ℕ
place_in ws = nat_of (get_or ws place_at (pos 0))

-- ---- the word: the steps left, which are below 4294967296; that is added where a step was due and none was left, and twice that
-- after an exception, which is the last one

-- the steps left
unfoldable pub left_in : ℕ → ℕ
left_in w = w % 4294967296

-- the outcome
unfoldable pub told_by : ℕ → List ℤ → Outcome
told_by w ws = pick (ltb 4294967295 w) (pick (ltb w 8589934592) spent (raised (latest_in ws) (place_in ws))) normal

-- one step taken
unfoldable pub step_word : ℕ → ℕ
step_word left = pick (eqb left 0) 4294967296 (left - 1)

-- after an exception
unfoldable pub raised_word : ℕ → ℕ
raised_word left = 8589934592 + left % 4294967296

-- ---- exceptions

-- the exception that a word is
unfoldable pub fault_in : ℤ → ℤ
fault_in w = pick (lt_z greatest w) (w -ℤ fault_base) w

-- the array after exception z at statement n
unfoldable pub noted_in : ℤ → ℕ → List ℤ → List ℤ
noted_in z n ws = set (set ws latest_at z) place_at (pos n)

-- exception z at statement n
pub record Raises (z : ℤ) (n : ℕ) (ws : List ℤ) (left : ℕ) (ws' : List ℤ) (r : ℕ) : Type 0 where
  pub word : r ≡ raised_word left
  pub store : ws' ≡ noted_in z n ws
  pub small : n ≤ 4294967295

-- the array after `raise z` at statement n: 0 passes on the last exception
unfoldable pub number_in : ℤ → ℕ → List ℤ → List ℤ
number_in z n ws = pick (is_zero z) (pick (is_zero (latest_in ws)) (noted_in system_error n ws) ws) (noted_in z n ws)

-- `raise z` at statement n
pub record RaisesNumber (z : ℤ) (n : ℕ) (ws : List ℤ) (left : ℕ) (ws' : List ℤ) (r : ℕ) : Type 0 where
  pub word : r ≡ raised_word left
  pub store : ws' ≡ number_in z n ws
  pub small : n ≤ 4294967295
