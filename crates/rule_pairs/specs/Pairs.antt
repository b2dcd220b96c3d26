-- Pairs of a name and a type's name, as the parts from an offset on.
use Rattle.std.specs.Prelude.{Bool, true, false, cond, ◌&&◌, List, [], ◌∷◌, map, ◌≡◌, ℕ, ◌+◌, ◌<◌, ◌≤◌, eqb, leb, length}
use Rattle.std.proofs.Math.Option.{Option, none, some}
use Rattle.leaf_bytes.specs.Bytes.{small}
use Rattle.law.specs.Base.{Name, ◌>>=◌, each}
use Rattle.law.specs.Ceilings.{field_sizes}
use Rattle.law.specs.Environment.{Environment}
use Rattle.law.specs.Names.{type_of, distinct}
use Rattle.law.specs.Syntax.{TypeName}
use Rattle.law.specs.Trees.{Tree, word, form, Trees, end, ◌then◌, Run, first, later, word_at}
use Rattle.law_theorems.specs.Readings.{stack_at}
use Rattle.table_scope.specs.declared.Scope.{Scope}
use Rattle.rule_faults.specs.declared.Fault.{Fault}
use Rattle.rule_faults.specs.declared.Fault.TheVariants as fault
use Rattle.table_scope.specs.Scene.{Scene}
use Rattle.rule_faults.specs.Got.{is_form, is_clear}
use Rattle.text_parts.specs.Parts.{Before}
use Rattle.text_heads.specs.Parts.{rest, name_in}
use Rattle.rule_declarations.specs.Names.{last_type}
use Rattle.rule_pairs.specs.declared.Pair.{Pair}
use Rattle.rule_pairs.specs.declared.Pairs.{Pairs}

-- ---- the parts

-- of one pair, past its bracket
unfoldable pub pair_parts : Trees Run → Option (Name × TypeName)
pair_parts us = name_in us >>= λ n. last_type (rest us) >>= λ t. some (n, t)

unfoldable pub pair_by : Tree Run → Option (Name × TypeName)
pair_by (word x) = none
pair_by (form us) = pair_parts us

unfoldable pub pair_first : Trees Run → Option (Name × TypeName)
pair_first end = none
pair_first (t then ts) = pair_by t

-- all parts are pairs
unfoldable pub pairs_in : Trees Run → Option (List (Name × TypeName))
pairs_in end = some []
pairs_in (t then ts) = pair_by t >>= λ f. pairs_in ts >>= λ fs. some (f ∷ fs)

unfoldable pub firsts : List (Name × TypeName) → List Name
firsts [] = []
firsts (f ∷ fs) = f.0 ∷ firsts fs

-- with their types resolved
unfoldable pub resolve : Environment → List (Name × TypeName) → Option (List (Name × ℕ))
resolve σ fs = each (λ f. type_of σ f.1 >>= λ t. some (f.0, t)) fs

-- row 7: known types, and names that differ
unfoldable pub known_type : Option ℕ → Bool
known_type none = false
known_type (some t) = true

unfoldable pub types_known : Environment → List (Name × TypeName) → Bool
types_known σ [] = true
types_known σ (f ∷ fs) = known_type (type_of σ f.1) && types_known σ fs

unfoldable pub pairs_good : Environment → List (Name × TypeName) → Bool
pairs_good σ fs = types_known σ fs && distinct σ (firsts fs)

-- ---- one pair

abbrev pub pair_given : Fault → ℕ → ℕ → ℕ → Pair
pair_given f y k q = record { fault = f; name = y; kind = k; next = q }

pub data PairTold (σ : Environment) (s : List ℕ) (o : Option (Name × TypeName)) (r : Pair) : Type 0 where
  pair-wrong : r.fault ≡ fault.Form → o ≡ none → PairTold σ s o r
  pair_read : (t : TypeName) → o ≡ some (map small (word_at s r.name), t) → r.name < length s → is_form r.fault ≡ false → is_clear r.fault ≡ known_type (type_of σ t)
      → ((k : ℕ) → type_of σ t ≡ some k → r.kind ≡ k) → PairTold σ s o r

pub record GivesParts (s l : List ℕ) (scope : Scope) (at : ℕ) (r : Pair) : Type 0 where
  pub goes : is_form r.fault ≡ false → later (stack_at s at) ≡ stack_at s r.next
  pub says : (ts : List ℕ) (top : ℕ) (σ : Environment) (bs : List ℕ) → Scene s l ts scope top σ bs → PairTold σ s (pair_parts (first (stack_at s at))) r

pub record GivesPair (s l : List ℕ) (scope : Scope) (at : ℕ) (r : Pair) : Type 0 where
  pub goes : is_form r.fault ≡ false → (t : Tree Run) × Before s at t r.next
  pub says : (ts : List ℕ) (top : ℕ) (σ : Environment) (bs : List ℕ) → Scene s l ts scope top σ bs → PairTold σ s (pair_first (first (stack_at s at))) r

-- ---- all pairs

-- a sum of cells, which may be any number past 2,048 where it is past that
unfoldable pub add_size : ℕ → ℕ → ℕ
add_size a b = cond (leb a 2048) (cond (leb b 2048) (a + b) 2049) 2049

pub record Tracks (n total : ℕ) : Type 0 where
  pub exact : total ≤ 2048 → n ≡ total
  pub past : 2048 < total → 2048 < n

abbrev pub pairs_given : Fault → ℕ → ℕ → ℕ → Pairs
pairs_given f n size q = record { fault = f; names = n; size = size; next = q }

-- the pairs end at p
pub data EndsPairs (s : List ℕ) (p n size : ℕ) (ok : Bool) : Pairs → Type 0 where
  ends-wrong : (first (stack_at s p) ≡ end → ⊥) → EndsPairs s p n size ok (record { fault = fault.Form; names = 0; size = 0; next = p })
  ends_read : (q : ℕ) → first (stack_at s p) ≡ end → later (stack_at s p) ≡ stack_at s q
      → EndsPairs s p n size ok (record { fault = cond (eqb n 0) fault.Form (cond ok fault.Clear fault.Name); names = n; size = size; next = q })

-- what is told of the pairs from `at` on
pub data PairsTold (s : List ℕ) (σ : Environment) (at : ℕ) (r : Pairs) : Type 0 where
  pairs-wrong : r.fault ≡ fault.Form → pairs_in (first (stack_at s at)) ≡ none → PairsTold s σ at r
  pairs-empty : r.fault ≡ fault.Form → pairs_in (first (stack_at s at)) ≡ some [] → PairsTold s σ at r
  pairs-read : (f : Name × TypeName) (fs : List (Name × TypeName)) → pairs_in (first (stack_at s at)) ≡ some (f ∷ fs) → later (stack_at s at) ≡ stack_at s r.next
      → (length (f ∷ fs) ≤ 1000 → r.names ≡ length (f ∷ fs)) → (1000 < length (f ∷ fs) → r.names ≡ 1000) → r.fault ≡ cond (pairs_good σ (f ∷ fs)) fault.Clear fault.Name
      → (pairs_good σ (f ∷ fs) ≡ true → (gs : List (Name × ℕ)) → resolve σ (f ∷ fs) ≡ some gs → Tracks r.size (field_sizes σ.types gs)) → PairsTold s σ at r

pub record GivesPairs (s l ts : List ℕ) (scope : Scope) (at : ℕ) (r : Pairs) : Type 0 where
  pub says : (top : ℕ) (σ : Environment) (bs : List ℕ) → Scene s l ts scope top σ bs → PairsTold s σ at r
