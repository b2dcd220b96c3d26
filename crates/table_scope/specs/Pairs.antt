-- The pairs `(N T)` of a procedure's parameters as they stand in the text: parts of the list, in its order.
use Rattle.std.specs.Prelude.{cond, List, [], map, ◌≡◌, ℕ, ◌+◌, ltb, Option as Maybe, Some, None}
use Rattle.std.proofs.Math.Option.{Option, none, some}
use Rattle.leaf_bytes.specs.Bytes.{small, same}
use Rattle.law.specs.Base.{Name}
use Rattle.law.specs.Trees.{Trees, word, form, end, ◌then◌, Run, first, word_at}
use Rattle.law_theorems.specs.Readings.{rest_at, stack_at}

-- the word with which parts begin, the empty one where they begin with none; and the parts after it
unfoldable pub lead_in : Trees Run → Name
lead_in end = []
lead_in (word x then ts) = map small x
lead_in (form us then ts) = []

unfoldable pub after_lead : Trees Run → Trees Run
after_lead end = end
after_lead (word x then ts) = ts
after_lead (form us then ts) = end

-- the number of the pair after pair j, counted up to 65,535
unfoldable pub next_pair : ℕ → ℕ
next_pair j = cond (ltb j 65535) (j + 1) j

-- the first pair under a name: its number, and its parts
unfoldable pub pair_in : ℕ → Trees Run → Name → Option (ℕ × Trees Run)
pair_in j end w = none
pair_in j (word x then ts) w = none
pair_in j (form us then ts) w = cond (same (lead_in us) w) (some (j, us)) (pair_in (next_pair j) ts w)

-- the word with which the parts at an offset begin stands at y
pub record Leads (s : List ℕ) (at y : ℕ) : Type 0 where
  pub name-is : map small (word_at s y) ≡ lead_in (first (stack_at s at))
  pub rest-is : first (rest_at s y) ≡ after_lead (first (stack_at s at))

-- what stands at q is what comes after it
pub record FollowsLead (s : List ℕ) (at q : ℕ) : Type 0 where
  pub follows : first (stack_at s q) ≡ after_lead (first (stack_at s at))

-- a pair of the list is found, or none
abbrev pub FoundBy : List ℕ → Option (ℕ × Trees Run) → Maybe (ℕ × ℕ) → Type 0
FoundBy s o (Some p) = o ≡ some (p.0, first (stack_at s p.1))
FoundBy s o None = o ≡ none

pub record FindsPair (s : List ℕ) (at : ℕ) (w : Name) (r : Maybe (ℕ × ℕ)) : Type 0 where
  pub says : FoundBy s (pair_in 0 (first (stack_at s at)) w) r
