-- The names of an enumeration, as the parts from an offset on.
use Rattle.std.specs.Prelude.{List, [], ◌∷◌, map, Bool, true, false, cond, ◌&&◌, not, ◌≡◌, ℕ, suc, ◌+◌, ◌<◌, ◌≤◌, ltb, length}
use Rattle.std.proofs.Math.Option.{Option, none, some}
use Rattle.leaf_bytes.specs.Bytes.{small}
use Rattle.law.specs.Base.{Name, ◌>>=◌}
use Rattle.law.specs.Environment.{Environment}
use Rattle.law.specs.Forms.{free, made_type, m_enum}
use Rattle.law.specs.Names.{listed_in, is_known}
use Rattle.law.specs.Syntax.{TypeForm}
use Rattle.law.specs.Trees.{Trees, list, end, ◌then◌, Run, first, later, word_at}
use Rattle.law_theorems.specs.Readings.{stack_at}
use Rattle.law.specs.Words.{worded, worded_all}
use Rattle.table_scope.specs.declared.Scope.{Scope}
use Rattle.rule_faults.specs.declared.Fault.{Fault}
use Rattle.rule_faults.specs.declared.Fault.TheVariants as fault
use Rattle.table_scope.specs.declared.Meaning.{Meaning}
use Rattle.table_scope.specs.declared.Meaning.TheVariants as meaning
use Rattle.table_scope.specs.Scene.{Scene}
use Rattle.rule_enum_lines.specs.declared.enums.Counted.{Counted}

-- the form of an enumeration by the parts after its head word
unfoldable pub enum_in : Trees Run → Option TypeForm
enum_in us = worded_all us >>= λ vs. made_type m_enum (list vs)

-- all parts are free names
unfoldable pub names_in : Trees Run → Option (List Name)
names_in end = some []
names_in (t then ts) = (worded t >>= free) >>= λ n. names_in ts >>= λ ns. some (n ∷ ns)

-- how many parts there are
unfoldable pub many : Trees Run → ℕ
many end = 0
many (t then ts) = suc (many ts)

-- whether the word at x is among the names from `at` on, if all parts are names
pub record Listed (s : List ℕ) (x at : ℕ) (r : Bool) : Type 0 where
  pub says : (σ : Environment) (ns : List Name) → names_in (first (stack_at s at)) ≡ some ns → r ≡ listed_in σ (map small (word_at s x)) ns

-- each name is not known yet, and none of those after it
unfoldable pub fresh_one : Environment → Name → List Name → Bool
fresh_one σ w ws = not (listed_in σ w ws) && not (is_known σ w)

unfoldable pub fresh : Environment → List Name → Bool
fresh σ [] = true
fresh σ (w ∷ ws) = fresh_one σ w ws && fresh σ ws

-- a name has no meaning yet
pub record GivesNew (s l : List ℕ) (scope : Scope) (y : ℕ) (r : Bool) : Type 0 where
  pub says : (ts : List ℕ) (top : ℕ) (σ : Environment) (bs : List ℕ) → Scene s l ts scope top σ bs → r ≡ not (is_known σ (map small (word_at s y)))

pub record GivesFresh (s l : List ℕ) (scope : Scope) (y q : ℕ) (r : Bool) : Type 0 where
  pub says : (ts : List ℕ) (top : ℕ) (σ : Environment) (bs : List ℕ) → Scene s l ts scope top σ bs
      → (ms : List Name) → names_in (first (stack_at s q)) ≡ some ms → r ≡ fresh_one σ (map small (word_at s y)) ms

abbrev pub counted_by : Fault → ℕ → ℕ → Counted
counted_by f n q = record { fault = f; names = n; next = q }

-- one more, up to 1,000
unfoldable pub counted : ℕ → ℕ
counted n = cond (ltb n 1000) (n + 1) n

abbrev pub is_unknown : Meaning → Bool
is_unknown meaning.Unknown = true
is_unknown (meaning.Type t) = false
is_unknown (meaning.Var i t a) = false
is_unknown (meaning.Proc p) = false
is_unknown (meaning.Value k n) = false

-- the names from `at` on: row 6 where a part is no name, row 7 where a name is not new; how many, up to 1,000
pub data NamesTold (s l : List ℕ) (scope : Scope) (at : ℕ) : Counted → Type 0 where
  names-wrong : {n q : ℕ} → names_in (first (stack_at s at)) ≡ none → NamesTold s l scope at (record { fault = fault.Form; names = n; next = q })
  names-read : {f : Fault} {n q : ℕ} (ns : List Name) → names_in (first (stack_at s at)) ≡ some ns → later (stack_at s at) ≡ stack_at s q
      → (length ns ≤ 1000 → n ≡ length ns) → (1000 < length ns → n ≡ 1000)
      → ((ts : List ℕ) (top : ℕ) (σ : Environment) (bs : List ℕ) → Scene s l ts scope top σ bs → f ≡ cond (fresh σ ns) fault.Clear fault.Name)
      → NamesTold s l scope at (record { fault = f; names = n; next = q })

-- the names end at p: n of them, up to 1,000, all new or not
pub data EndsNames (s : List ℕ) (p n : ℕ) (ok : Bool) : Counted → Type 0 where
  ends-wrong : (first (stack_at s p) ≡ end → ⊥) → EndsNames s p n ok (record { fault = fault.Form; names = 0; next = p })
  ends_read : (q : ℕ) → first (stack_at s p) ≡ end → later (stack_at s p) ≡ stack_at s q → EndsNames s p n ok (record { fault = cond ok fault.Clear fault.Name; names = n; next = q })
