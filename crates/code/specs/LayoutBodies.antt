-- A list that holds bodies at places. The laws are in proofs/.
use Rattle.std.specs.Prelude.{◌≡◌, List, ℕ, ◌<◌, ◌≤◌, length, get_or}
use Rattle.law.specs.Code.{BodyCode}
use Rattle.code.specs.Readback.{read_body, body_at_places}
use Rattle.code.specs.LayoutSize.{size_body}
use Rattle.code.specs.LayoutRegions.{Same}
use Rattle.code.specs.LayoutActs.{Begins}

-- a body of which nothing is known: the place past the last has it
module _ (other : BodyCode) where
  -- the list holds these bodies at these places; the places of all, also of later ones, are `all`
  pub record BodiesAt (l places : List ℕ) (bs : List BodyCode) : Type 0 where
    pub later : (k : ℕ) → k < length places → 1 ≤ get_or places k 0
    pub inside : (k : ℕ) → k < length places → get_or places k 0 < length l
    -- a body's node begins with its number
    pub number : (k : ℕ) → k < length places → get_or l (get_or places k 0) 0 ≡ k
    pub read : (all : List ℕ) → Begins places all → (k : ℕ) → k < length bs → (d : ℕ) → size_body (get_or bs k other) ≤ d
        → read_body d l (get_or places k 0) ≡ body_at_places all (get_or bs k other)

  -- so does every list that agrees with l from a to t
  pub record Bodies (a t : ℕ) (l places : List ℕ) (bs : List BodyCode) : Type 0 where
    pub count : length places ≡ length bs
    pub held : (l' : List ℕ) → Same a t l' l → BodiesAt l' places bs
