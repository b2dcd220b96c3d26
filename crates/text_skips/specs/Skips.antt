-- Past a part of a form, by offset.
use Rattle.std.specs.Prelude.{List, ◌≡◌, ℕ, zero, suc, ◌+◌, ◌*◌, ◌<◌, ◌≤◌}
use Rattle.law.specs.Trees.{Tree, Trees, ◌then◌, Run, first, later}
use Rattle.law_theorems.specs.Readings.{stack_at}
use Rattle.text_words.specs.Passes.{nodes_all}
use Rattle.text_parts.specs.Parts.{Before}
use Rattle.text_skips.specs.declared.Move.{Move}
use Rattle.text_skips.specs.declared.Move.TheVariants as move

-- so many levels further out
unfoldable pub levels_out : ℕ → List (Trees Run) → List (Trees Run)
levels_out zero k = k
levels_out (suc n) k = levels_out n (later k)

-- past a closing bracket that ends at q, where n forms are open
unfoldable pub out_from : ℕ → ℕ → Move
out_from zero q = move.Out q
out_from (suc n) q = move.To q n

-- one word or bracket is passed at p, where n forms are open inside the form that is to be passed: what stands after it stays; the open forms
-- and what is left do not grow, and a step falls
abbrev pub MovesBy : List ℕ → ℕ → ℕ → Move → Type 0
MovesBy s p n (move.To q m) = (levels_out n (later (stack_at s p)) ≡ levels_out m (later (stack_at s q)))
    × ((m + nodes_all (stack_at s q) ≤ n + nodes_all (stack_at s p)) × (2 * nodes_all (stack_at s q) + m < 2 * nodes_all (stack_at s p) + n))
MovesBy s p n (move.Out q) = levels_out n (later (stack_at s p)) ≡ stack_at s q

pub record Moves (s : List ℕ) (p n : ℕ) (r : Move) : Type 0 where
  pub says : MovesBy s p n r

-- q is past the bracket that closes the parts at an offset
pub record Past (s : List ℕ) (at q : ℕ) : Type 0 where
  pub beyond : later (stack_at s at) ≡ stack_at s q

-- where a part stands at an offset, q is past it
pub record Skips (s : List ℕ) (at q : ℕ) : Type 0 where
  pub says : (t : Tree Run) (us : Trees Run) → first (stack_at s at) ≡ (t then us) → Before s at t q
