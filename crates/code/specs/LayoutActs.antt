-- Places that begin as others do. The laws are in proofs/.
use Rattle.std.specs.Prelude.{◌≡◌, List, ℕ, ◌<◌, length, get_or}

-- the bodies laid so far are the first of all
pub record Begins (bodies places : List ℕ) : Type 0 where
  pub at : (k : ℕ) → k < length bodies → get_or bodies k 0 ≡ get_or places k 0
