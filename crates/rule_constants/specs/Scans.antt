-- The scan for constants past the integers, by offset.
use Rattle.std.specs.Prelude.{Bool, true, false, ◌&&◌, List, ◌≡◌, ℕ, zero, suc, ◌+◌, ◌*◌, ◌<◌, ◌≤◌}
use Rattle.law.specs.Trees.{Trees, Run, first, later}
use Rattle.law_theorems.specs.Readings.{stack_at}
use Rattle.text_words.specs.Passes.{nodes_all}
use Rattle.rule_atoms.specs.Answering.{minus_form}
use Rattle.rule_constants.specs.Plain.{sound_by, plain_in}
use Rattle.rule_constants.specs.declared.Stride.{Stride}
use Rattle.rule_constants.specs.declared.Stride.TheVariants as stride

-- the parts at this level and at so many further out
unfoldable pub plain_levels : ℕ → List (Trees Run) → Bool
plain_levels zero k = plain_in (first k)
plain_levels (suc n) k = plain_in (first k) && plain_levels n (later k)

-- past a closing bracket that ends at q, where n forms are open
unfoldable pub out_from : ℕ → ℕ → Stride
out_from zero q = stride.Out
out_from (suc n) q = stride.To q n

-- into a form whose parts begin at q
abbrev pub OpensBy : List ℕ → ℕ → ℕ → Stride → Type 0
OpensBy s q n (stride.To p m) = (p ≡ q) × ((m ≡ suc n) × (sound_by (minus_form (first (stack_at s q))) ≡ true))
OpensBy s q n stride.Out = ⊥
OpensBy s q n stride.Bad = sound_by (minus_form (first (stack_at s q))) ≡ false

pub record Opens (s : List ℕ) (q n : ℕ) (r : Stride) : Type 0 where
  pub says : OpensBy s q n r

-- one word or bracket is passed at p, where n forms are open: the open forms and what is left do not grow, and a step falls
abbrev pub StridesBy : List ℕ → ℕ → ℕ → Stride → Type 0
StridesBy s p n (stride.To q m) = (plain_levels n (stack_at s p) ≡ plain_levels m (stack_at s q))
    × ((m + nodes_all (stack_at s q) ≤ n + nodes_all (stack_at s p)) × (2 * nodes_all (stack_at s q) + m < 2 * nodes_all (stack_at s p) + n))
StridesBy s p n stride.Out = plain_levels n (stack_at s p) ≡ true
StridesBy s p n stride.Bad = plain_levels n (stack_at s p) ≡ false

pub record Strides (s : List ℕ) (p n : ℕ) (r : Stride) : Type 0 where
  pub says : StridesBy s p n r
