-- Names that differ, told by their keys in blocks of 256.
use Rattle.std.specs.Prelude.{Bool, true, false, not, ◌&&◌, ◌||◌, List, [], ◌∷◌, ◌≡◌, ℕ, zero, suc, ◌<◌, ◌≤◌, eqb, length, get_or, take, drop, Option, Some, None}
use Rattle.leaf_bytes.specs.Bytes.{same}
use Rattle.law.specs.Base.{Name}
use Rattle.rule_repeats.specs.Keys.{low_of, high_of, name_at}
use Rattle.rule_repeats.specs.Leads.{leads_at, LeadIs}
use Rattle.rule_repeats.specs.declared.leads.Lead.{Lead}

-- ---- names that differ

-- whether w is one of them
unfoldable pub among : Name → List Name → Bool
among w [] = false
among w (v ∷ vs) = same v w || among w vs

-- whether no two are the same
unfoldable pub apart : List Name → Bool
apart [] = true
apart (w ∷ ws) = not (among w ws) && apart ws

-- whether one of the first is among the others
unfoldable pub meets : List Name → List Name → Bool
meets [] vs = false
meets (w ∷ ws) vs = among w vs || meets ws vs

-- ---- keys

-- whether one of the first i numbers of a list is a; whether a and b stand at one of the first i places of two lists
unfoldable pub has_to : ℕ → ℕ → List ℕ → Bool
has_to zero a xs = false
has_to (suc i) a xs = has_to i a xs || eqb (get_or xs i 0) a

unfoldable pub has_both_to : ℕ → ℕ → ℕ → List ℕ → List ℕ → Bool
has_both_to zero a b xs ys = false
has_both_to (suc i) a b xs ys = has_both_to i a b xs ys || (eqb (get_or xs i 0) a && eqb (get_or ys i 0) b)

-- the keys of the first n names from an offset on stand first in two lists
pub record Block (s : List ℕ) (from n : ℕ) (ls hs : List ℕ) : Type 0 where
  pub few : n ≤ 256
  pub lows : (j : ℕ) → j < n → get_or ls j 0 ≡ low_of (get_or (leads_at s from) j [])
  pub highs : (j : ℕ) → j < n → get_or hs j 0 ≡ high_of (get_or (leads_at s from) j [])

-- ---- a name and a block

-- whether the word at x is one of the first n names from an offset on
pub record Listed (s : List ℕ) (x from n : ℕ) (r : Bool) : Type 0 where
  pub says : r ≡ among (name_at s x) (take n (leads_at s from))

-- the same of a name with its key, by the keys of these
pub record Meets (s ls hs : List ℕ) (from n : ℕ) (x : Lead) (r : Bool) : Type 0 where
  pub says : Block s from n ls hs → LeadIs s x → r ≡ among (name_at s x.at) (take n (leads_at s from))

-- ---- block by block

-- n names from an offset up to another differ; their keys stand in the lists
pub record Held (s : List ℕ) (at n p : ℕ) (ls hs : List ℕ) : Type 0 where
  pub block : Block s at n ls hs
  pub within : n ≤ length (leads_at s at)
  pub split : drop n (leads_at s at) ≡ leads_at s p
  pub once : apart (take n (leads_at s at)) ≡ true

-- a block is filled, with nothing only where no name is left; or a name has come again
abbrev pub FillsBy : List ℕ → ℕ → Option (ℕ × ℕ) → List ℕ → List ℕ → Type 0
FillsBy s at (Some (n, p)) ls hs = Held s at n p ls hs × (n ≡ 0 → leads_at s at ≡ [])
FillsBy s at None ls hs = apart (leads_at s at) ≡ false

pub record Fills (s : List ℕ) (at : ℕ) (r : Option (ℕ × ℕ)) (ls hs : List ℕ) : Type 0 where
  pub long-lows : length ls ≡ 256
  pub long-highs : length hs ≡ 256
  pub says : FillsBy s at r ls hs

-- whether a name from an offset on is one of a block
pub record ComesAgain (s ls hs : List ℕ) (from n at : ℕ) (r : Bool) : Type 0 where
  pub says : Block s from n ls hs → r ≡ meets (leads_at s at) (take n (leads_at s from))
