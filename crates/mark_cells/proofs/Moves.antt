-- The writes of a copy (Cells, `moves`): as many as cells are copied, to the cells from the target's place on, each once.
use mathlib.Core.Path.{◌≡◌, refl, ap, ◌∙◌}
use mathlib.Core.Bool.{Bool, true, false}
use mathlib.Core.List.{List, map}
use Prim.Native.Nat.{ℕ, zero, suc, ◌+◌, ◌-◌, ◌<◌}
use native.Mathlib.Omega.{arith}
use lib.Dec.{leb}
use lib.ListN.{get_or, length}
use Rattle.law.specs.Base.{pick}
use Rattle.mark_cells.specs.Cells.{upwards, downwards, moves}

abbrev pub targets : List (ℕ × ℕ) → List ℕ
targets ws = map (λ (w : ℕ × ℕ). w.1) ws

up-many : (k s a : ℕ) → length (upwards s a k) ≡ k
unfolding upwards
up-many zero s a = refl
up-many (suc k) s a = ap suc (up-many k (suc s) (suc a))

down-many : (k s a : ℕ) → length (downwards s a k) ≡ k
unfolding downwards
down-many zero s a = refl
down-many (suc k) s a = ap suc (down-many k s a)

up-target : (k s a i : ℕ) → i < k → get_or (targets (upwards s a k)) i 0 ≡ a + i
unfolding upwards
up-target zero s a i h = absurd (omega arith)
up-target (suc k) s a zero h = let e : a ≡ a + 0 = omega arith in e
up-target (suc k) s a (suc i) h = let e : suc a + i ≡ a + suc i = omega arith in up-target k (suc s) (suc a) i (omega arith) ∙ e

down-target : (k s a i : ℕ) → i < k → get_or (targets (downwards s a k)) i 0 ≡ a + (k - suc i)
unfolding downwards
down-target zero s a i h = absurd (omega arith)
down-target (suc k) s a zero h = let e : a + k ≡ a + (suc k - 1) = omega arith in e
down-target (suc k) s a (suc i) h = let e : a + (k - suc i) ≡ a + (suc k - suc (suc i)) = omega arith in down-target k s a i (omega arith) ∙ e

pub many-moves : (k s a : ℕ) → length (moves s a k) ≡ k
unfolding moves pick
many-moves k s a = go (leb a s)
  where
    go : (b : Bool) → length (pick b (upwards s a k) (downwards s a k)) ≡ k
    go true = up-many k s a
    go false = down-many k s a

pub each-once : (k s a i j : ℕ) → i < k → j < k → get_or (targets (moves s a k)) i 0 ≡ get_or (targets (moves s a k)) j 0 → i ≡ j
unfolding moves pick
each-once k s a i j h g = go (leb a s)
  where
    go : (b : Bool) → get_or (targets (pick b (upwards s a k) (downwards s a k))) i 0 ≡ get_or (targets (pick b (upwards s a k) (downwards s a k))) j 0 → i ≡ j
    go true e = let x = up-target k s a i h in let y = up-target k s a j g in omega arith
    go false e = let x = down-target k s a i h in let y = down-target k s a j g in omega arith
