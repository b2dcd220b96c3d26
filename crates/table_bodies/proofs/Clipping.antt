-- Clipped lists of types: `clip_types`, and that a scene asks for the places alone.
use mathlib.Core.Path.{◌≡◌, refl, sym, ap, ◌∙◌}
use mathlib.Core.List.{List, [], ◌∷◌}
use mathlib.Core.Logic.{◌⊎◌, inl, inr}
use Prim.Native.Nat.{ℕ, zero, suc, ◌+◌, ◌<◌, ◌≤◌}
use native.Mathlib.Omega.{arith}
use lib.ListN.{length, get_or, set, length-set, get_or-eq_default}
use lib.Seq.{get_or-set_same, get_or-set_other}
use Rattle.leaf_integers.proofs.Order.{le-or-lt}
use Rattle.table_bodies.specs.Table.{clip, Clips}

pub clip-low : (n : ℕ) (ts : List ℕ) (k : ℕ) → k < n → get_or ts k 0 ≡ get_or (clip n ts) k 0
unfolding clip
clip-low zero ts k h = absurd (omega (arith, h))
clip-low (suc n) [] k h = refl
clip-low (suc n) (t ∷ ts) zero h = refl
clip-low (suc n) (t ∷ ts) (suc k) h = clip-low n ts k (omega (arith, h))

pub clip-high : (n : ℕ) (ts : List ℕ) (k : ℕ) → n ≤ k → 0 ≡ get_or (clip n ts) k 0
unfolding clip
clip-high zero ts k h = refl
clip-high (suc n) [] k h = refl
clip-high (suc n) (t ∷ ts) zero h = absurd (omega (arith, h))
clip-high (suc n) (t ∷ ts) (suc k) h = clip-high n ts k (omega (arith, h))

pub clip-read : (n : ℕ) (ts : List ℕ) (k r : ℕ) → r ≡ get_or ts k 0 → k < n → r ≡ get_or (clip n ts) k 0
clip-read n ts k r e h = e ∙ clip-low n ts k h

-- ---- `clip_types`

-- the first i places are written
pub record Clipping (ts : List ℕ) (n : ℕ) (ts₀ : List ℕ) (i : ℕ) (ts' : List ℕ) : Type 0 where
  pub long : length ts' ≡ length ts₀
  pub places : (k : ℕ) → k < i → k < length ts' → get_or ts' k 0 ≡ get_or (clip n ts) k 0

module _ (ts : List ℕ) (n : ℕ) (ts₀ : List ℕ) where
  pub clip-start : Clipping ts n ts₀ 0 ts₀
  clip-start = record { long = refl; places = λ k h. absurd (omega (arith, h)) }

  pub clip-step : (i : ℕ) (us : List ℕ) (x : ℕ) → Clipping ts n ts₀ i us → x ≡ get_or (clip n ts) i 0 → Clipping ts n ts₀ (i + 1) (set us i x)
  clip-step i us x C e = record { long = length-set us i x ∙ C.long; places = more }
    where
      more : (k : ℕ) → k < i + 1 → k < length (set us i x) → get_or (set us i x) k 0 ≡ get_or (clip n ts) k 0
      more k g h = go (le-or-lt i k)
        where
          go : (i ≤ k) ⊎ (k < i) → get_or (set us i x) k 0 ≡ get_or (clip n ts) k 0
          go (inl q) =
              let o : k ≡ i = omega (arith, q, g) in
              ap (λ (j : ℕ). get_or (set us i x) j 0) o ∙ get_or-set_same us i x 0 (omega (arith, o, h, length-set us i x)) ∙ e ∙ ap (λ (j : ℕ). get_or (clip n ts) j 0) (sym o)
          go (inr q) = get_or-set_other us i k x 0 (λ o. absurd (omega (arith, o, q))) ∙ C.places k q (omega (arith, h, length-set us i x))

  pub clip-end : (i : ℕ) (us : List ℕ) → Clipping ts n ts₀ i us → length ts₀ ≤ i → Clips ts n ts₀ us
  clip-end i us C h = record { long = C.long; places = all }
    where
      all : n ≤ length ts₀ → (k : ℕ) → get_or us k 0 ≡ get_or (clip n ts) k 0
      all g k = go (le-or-lt (length us) k)
        where
          go : (length us ≤ k) ⊎ (k < length us) → get_or us k 0 ≡ get_or (clip n ts) k 0
          go (inl q) = get_or-eq_default us 0 q ∙ clip-high n ts k (omega (arith, q, g, C.long))
          go (inr q) = C.places k (omega (arith, q, h, C.long)) q

pub ruleset read_laws = (clip-read, clip-high)

pub ruleset clip_laws = (clip-start, clip-step, clip-end)
