-- Lists that agree in a region, and room for numbers to be laid. The laws are in proofs/.
use Rattle.std.specs.Prelude.{◌≡◌, List, ℕ, ◌+◌, ◌<◌, ◌≤◌, length, get_or}
use Rattle.code.specs.Layout.{room}

-- two lists agree from t to u
pub record Same (t u : ℕ) (a b : List ℕ) : Type 0 where
  pub at : (i : ℕ) → t ≤ i → i < u → get_or a i 0 ≡ get_or b i 0

-- n numbers are laid from t on
pub record Room (n t : ℕ) (l : List ℕ) : Type 0 where
  pub start : 1 ≤ t
  pub fits : t + n ≤ room
  pub long : room ≤ length l
