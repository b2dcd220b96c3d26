-- The names with which the parts of a form begin: a word itself, or the first word of a form.
use Rattle.std.specs.Prelude.{List, [], ◌∷◌, map, ◌≡◌, ℕ, Option, Some, None}
use Rattle.leaf_bytes.specs.Bytes.{small}
use Rattle.law.specs.Base.{Name}
use Rattle.law.specs.Trees.{Tree, word, form, Trees, end, ◌then◌, Run, first}
use Rattle.law_theorems.specs.Readings.{stack_at}
use Rattle.rule_repeats.specs.Keys.{low_of, high_of, name_at}
use Rattle.rule_repeats.specs.declared.keys.Keyed.{Keyed}
use Rattle.rule_repeats.specs.declared.leads.Lead.{Lead}

-- the first word; the empty name where there is none
unfoldable pub lead_in : Trees Run → Name
lead_in end = []
lead_in (word x then ts) = map small x
lead_in (form us then ts) = []

unfoldable pub lead_of : Tree Run → Name
lead_of (word x) = map small x
lead_of (form us) = lead_in us

unfoldable pub leads : Trees Run → List Name
leads end = []
leads (t then ts) = lead_of t ∷ leads ts

-- those of the parts from an offset on
abbrev pub leads_at : List ℕ → ℕ → List Name
leads_at s at = leads (first (stack_at s at))

-- the first word of the parts at an offset stands at y
pub record LeadsIn (s : List ℕ) (at y : ℕ) : Type 0 where
  pub name-is : name_at s y ≡ lead_in (first (stack_at s at))

abbrev pub lead_by : ℕ → Keyed → Lead
lead_by y k = record { at = y; low = k.low; high = k.high }

-- a name's offset and its key
pub record LeadIs (s : List ℕ) (x : Lead) : Type 0 where
  pub low-is : x.low ≡ low_of (name_at s x.at)
  pub high_is : x.high ≡ high_of (name_at s x.at)

-- the next name, and where the others stand; or none is left
abbrev pub NextsBy : List ℕ → ℕ → Option (Lead × ℕ) → Type 0
NextsBy s at (Some (x, q)) = (leads_at s at ≡ (name_at s x.at ∷ leads_at s q)) × LeadIs s x
NextsBy s at None = leads_at s at ≡ []

pub record Nexts (s : List ℕ) (at : ℕ) (r : Option (Lead × ℕ)) : Type 0 where
  pub says : NextsBy s at r
