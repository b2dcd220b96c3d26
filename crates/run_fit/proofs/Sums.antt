-- Sums over bodies: by number, as the engine's specs have them, and over a list, as `code` has them.
use mathlib.Core.Path.{◌≡◌, refl, ◌∙◌}
use mathlib.Core.List.{List, [], ◌∷◌, map}
use Prim.Native.Nat.{ℕ, zero, suc, ◌+◌, ◌<◌}
use native.Mathlib.Omega.{arith}
use lib.ListN.{get_or, length}
use Rattle.law.specs.Code.{BodyCode}
use Rattle.code.specs.Readback.{read_body}
use Rattle.code.proofs.ForLoops.{fors_bodies}
use Rattle.run_linear.specs.BodyLoops.{loops}
use Rattle.run_emit.specs.Spans.{span_body}
use Rattle.run_emit.specs.Whole.{span_bodies}
use Rattle.run_fit.specs.Fit.{loops_in}

unfoldable pub sum_of : (BodyCode → ℕ) → List BodyCode → ℕ
sum_of f [] = 0
sum_of f (b ∷ bs) = f b + sum_of f bs

unfoldable pub up_to : (ℕ → BodyCode) → (BodyCode → ℕ) → ℕ → ℕ
up_to at f zero = 0
up_to at f (suc n) = up_to at f n + f (at n)

-- the first number apart
first-apart : (at : ℕ → BodyCode) (f : BodyCode → ℕ) (n : ℕ) → up_to at f (suc n) ≡ f (at 0) + up_to (λ k. at (suc k)) f n
unfolding up_to
first-apart at f zero = omega arith
first-apart at f (suc n) = omega (arith, first-apart at f n)

-- the bodies of a list, each changed by g
pub sum-up : (g : BodyCode → BodyCode) (other : BodyCode) (bs : List BodyCode) (at : ℕ → BodyCode) (f : BodyCode → ℕ)
    → ((k : ℕ) → k < length bs → at k ≡ g (get_or bs k other)) → up_to at f (length bs) ≡ sum_of f (map g bs)
unfolding sum_of up_to
sum-up g other [] at f h = refl
sum-up g other (b ∷ bs) at f h =
    first-apart at f (length bs) ∙ rw (h 0 (omega arith), sum-up g other bs (λ k. at (suc k)) f (λ k l. h (suc k) (omega arith)))

-- ---- the sums that the engine's specs name

module _ (l places : List ℕ) where
  -- body number k, as it is read back
  abbrev pub read_at : ℕ → BodyCode
  read_at k = read_body 16384 l (get_or places k 0)

  pub spans-up : (n : ℕ) → span_bodies l places n ≡ up_to read_at span_body n
  unfolding span_bodies up_to
  spans-up zero = refl
  spans-up (suc n) = rw (spans-up n)

  pub loops-up : (n : ℕ) → loops_in l places n ≡ up_to read_at loops n
  unfolding loops_in up_to
  loops-up zero = refl
  loops-up (suc n) = rw (loops-up n)

pub fors-sum : (bs : List BodyCode) → fors_bodies bs ≡ sum_of loops bs
unfolding fors_bodies sum_of
fors-sum [] = refl
fors-sum (b ∷ bs) = rw (fors-sum bs)
