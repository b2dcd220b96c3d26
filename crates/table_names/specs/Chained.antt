-- A chain of entries stands for the names of an environment. The laws are in proofs/.
use Rattle.std.specs.Prelude.{List, [], ◌∷◌, ◌≡◌, ℕ, suc, ◌+◌, ◌*◌, ◌<◌, ◌≤◌, get_or}
use Rattle.law.specs.Base.{Name}
use Rattle.table_names.specs.Chain.{Called, place_in, values_behind, places, value_in}

-- entries and names in the same order; R says what an entry tells of the meaning of its name
pub data Names {A : Type 0} (s l : List ℕ) (R : ℕ → A → Type 0) : List ℕ → List (Name × A) → Type 0 where
  no_names : Names s l R [] []
  one_name : {p : ℕ} {ps : List ℕ} {w : Name} {a : A} {ns : List (Name × A)} → 1 ≤ p → Called s l p w → R p a → Names s l R ps ns → Names s l R (p ∷ ps) ((w, a) ∷ ns)

-- n values stand behind the entry at p, linked one to the next, and are found by halving as along the chain
pub record Block (s l : List ℕ) (p n : ℕ) : Type 0 where
  pub low : p < 32768
  pub many : values_behind l p ≡ n
  pub next : get_or l (p + 3) 0 ≡ p + 12
  pub linked : (i : ℕ) → suc i < n → get_or l (p + 12 + 4 * i + 3) 0 ≡ p + 12 + 4 * suc i
  pub found : (w : Name) → value_in s l p n w ≡ place_in s l (places n (p + 12)) w

-- each of n entries from p on is below t, and a lookup passes them as the chain does
pub data Below (s l : List ℕ) (t : ℕ) : ℕ → ℕ → Type 0 where
  no-entry : {p : ℕ} → Below s l t 0 p
  one_entry : {n p : ℕ} → p + 4 ≤ t → values_behind l p ≡ 0 → Below s l t n (get_or l (p + 3) 0) → Below s l t (suc n) p
  one_block : {n p m : ℕ} → p + 12 + 4 * suc m ≤ t → Block s l p (suc m) → Below s l t n (get_or l (p + 12 + 4 * m + 3) 0) → Below s l t (suc (suc (m + n))) p
