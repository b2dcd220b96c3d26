-- The line from its parts: the laws of the code, and what its answer says.
use mathlib.Core.Path.{◌≡◌, refl, sym}
use mathlib.Core.Bool.{Bool, true, false, cond}
use Prim.Native.Nat.{ℕ, ◌+◌, ◌%◌, ◌≤◌}
use native.Mathlib.Nat.{mod-eq_of_lt}
use native.Mathlib.Omega.{arith}
use borrow.Author.Tests.{lt-leb, leb-false}
use lib.Dec.{leb}
use Rattle.rule_known.specs.Answers.{nodes_fit}

-- ---- what the answer says

pub fits-nodes : (m n : ℕ) → nodes_fit m n ≡ leb (m + n) 4096
unfolding nodes_fit
fits-nodes m n = go (leb n 4096) refl
  where
    go : (b : Bool) → leb n 4096 ≡ b → cond b (leb (m + n) 4096) false ≡ leb (m + n) 4096
    go true e = refl
    go false e = sym (lt-leb (m + n) 4096 (let h = leb-false n 4096 e in omega arith))

-- the counts where they fit
pub good-nodes : (m n : ℕ) → m + n ≤ 4096 → m % 4097 + n % 4097 ≡ m + n
good-nodes m n h = let a : m % 4097 ≡ m = mod-eq_of_lt (omega arith) in let b : n % 4097 ≡ n = mod-eq_of_lt (omega arith) in rw (a, b) refl
