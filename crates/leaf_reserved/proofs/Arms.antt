-- A match on a number: what its last arm knows, that none of the keys is the number. Assumes nothing.
use mathlib.Core.Path.{◌≡◌}
use mathlib.Core.List.{List, [], ◌∷◌}
use Prim.Native.Nat.{ℕ, zero, suc, ◌+◌, ◌≤◌}
use native.Mathlib.Omega.{arith}

-- x is none of the keys, beside a fact T: in the shape in which the arm has it
abbrev pub Missed : ℕ → Type 0 → List ℕ → Type 0
Missed x T [] = T
Missed x T (k ∷ ks) = Missed x (T × ((x ≡ k) → ⊥)) ks

-- the n numbers from m on
abbrev pub count : ℕ → ℕ → List ℕ
count m zero = []
count m (suc n) = m ∷ count (suc m) n

pub past-count : (x m n : ℕ) (T : Type 0) → (T → m ≤ x) → Missed x T (count m n) → m + n ≤ x
past-count x m zero T f h = let l = f h in omega arith
past-count x m (suc n) T f h =
    let l = past-count x (suc m) n (T × ((x ≡ m) → ⊥)) (λ t. let l = f t.0 in let d = t.1 in omega arith) h in omega arith
