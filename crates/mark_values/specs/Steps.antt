-- What is done in one step to what the marking machine carries (law, Marking): for every environment that the tables hold and every
-- store, the step's answer is the machine's, if what it was given is.
use Rattle.std.specs.Prelude.{Bool, true, cond, ◌&&◌, List, [], ◌∷◌, map, ◌≡◌, ℕ, ◌+◌, ◌*◌, eqb, ℤ, ◌-ℤ◌}
use Rattle.leaf_bytes.specs.Bytes.{small}
use Rattle.leaf_words.specs.Numbers.{signed}
use Rattle.law.specs.Base.{Name, pick}
use Rattle.law.specs.Calculate.{Result, is, ◌>>=◌, nat_of, tested, range_error}
use Rattle.law.specs.Elaborate.{in_kind}
use Rattle.law.specs.Environment.{Environment, want_of}
use Rattle.law.specs.Machine as Machine
use Rattle.law.specs.Machine.{Store, read_cells, sole}
use Rattle.law.specs.Marking.{TypedValue, TypedPlace, typed_value, typed_place, typed_as, placed_as, or_stuck, require, wanted}
use Rattle.law.specs.Names.{const_of}
use Rattle.law.specs.Trees.{word_at}
use Rattle.law.specs.Types.{Types, info_at, host_of, size_of, ordinal?, array?, base_of, field_of}
use Rattle.code_calc.specs.Words.{distance_word, element_word, Holds}
use Rattle.table_scope.specs.declared.Scope.{Scope}
use Rattle.table_scope.specs.declared.Info.{Info}
use Rattle.table_scope.specs.Descriptions.{info_of}
use Rattle.mark_values.specs.declared.values.Carried.{Carried}
use Rattle.mark_values.specs.declared.places.Reached.{Reached}
use Rattle.mark_values.specs.Values.{reached_of, MarkMeans, Carries, Reaches, Known}

-- ---- the machine's steps

abbrev pub constantly : Types → ℕ → ℤ → Result TypedValue
constantly Γ k z = require (in_kind Γ (const_of k z)) (is (typed_value k (z ∷ [])))

abbrev pub ending : Types → Bool → ℕ → Result TypedValue
ending Γ q t = require (ordinal? Γ t) (is (typed_value (host_of Γ t) (pick q (info_at Γ t).high (info_at Γ t).low ∷ [])))

abbrev pub loaded : Types → Store → TypedPlace → Result TypedValue
loaded Γ m w = typed_as (host_of Γ w.type) (read_cells w.addr (size_of Γ w.type) m)

abbrev pub indexed : Types → TypedPlace → TypedValue → Result TypedPlace
indexed Γ w x =
    require (array? Γ w.type && eqb (host_of Γ (info_at Γ w.type).index) x.kind)
    (placed_as (info_at Γ w.type).element (tested range_error (info_at Γ w.type).low (info_at Γ w.type).high (sole x.cells) >>= λ z.
    is (w.addr + nat_of (z -ℤ (info_at Γ w.type).low) * size_of Γ (info_at Γ w.type).element)))

abbrev pub selected : Types → Name → TypedPlace → Result TypedPlace
selected Γ n w = or_stuck (field_of (info_at Γ w.type).fields n) λ f. is (typed_place f.type (w.addr + f.offset))

-- a member of a set of type t
abbrev pub admitted : Types → ℕ → List ℤ → Result ℤ
admitted Γ t u = tested range_error (info_at Γ t).low (info_at Γ t).high (sole u)

-- an argument for a parameter of type t
abbrev pub taken : Types → ℕ → List ℤ → Result ℤ
taken Γ t u = Machine.admitted (want_of Γ t) (sole u)

-- the bound of a type as it is described
unfoldable pub end_word : Bool → Info → ℤ
end_word last i = signed (cond last i.high i.low)

-- the element of an array that i describes, by the words of the array's place and of the index
unfoldable pub element_place : List ℕ → List ℕ → Info → ℤ → ℤ → Reached
element_place l ts i a b = reached_of i.element (element_word a (distance_word (signed i.low) (signed i.high) b) (info_of l ts i.element).size)

-- ---- the promises

-- the value of a kind that is wanted
pub record Wants (k : ℕ) (x : Carried) (r : ℤ) : Type 0 where
  pub says : (Γ : Types) (m : Store) (v : Result TypedValue) → Carries Γ m v x → MarkMeans r ((v >>= wanted k) >>= λ u. is (sole u))

pub record Constants (l ts : List ℕ) (k : ℕ) (z : ℤ) (r : Carried) : Type 0 where
  pub says : (s : List ℕ) (scope : Scope) (σ : Environment) → Known s l ts scope σ → (m : Store) → Carries σ.types m (constantly σ.types k z) r

pub record Ends (l ts : List ℕ) (last : Bool) (t : ℕ) (r : Carried) : Type 0 where
  pub says : (s : List ℕ) (scope : Scope) (σ : Environment) → Known s l ts scope σ → (m : Store) → Carries σ.types m (ending σ.types last t) r

-- `error_number`
pub record Latest (ws : List ℤ) (r : Carried) : Type 0 where
  pub says : (Γ : Types) → ordinal? Γ 0 ≡ true → (m : Store) → Holds ws m → Carries Γ m (is (typed_value 0 (m.latest ∷ []))) r

pub record Loads (l ts : List ℕ) (ws : List ℤ) (g : Reached) (r : Carried) : Type 0 where
  pub says : (s : List ℕ) (scope : Scope) (σ : Environment) → Known s l ts scope σ → (m : Store) → Holds ws m
      → (v : Result TypedPlace) → Reaches v g → Carries σ.types m (v >>= λ w. loaded σ.types m w) r

pub record Indexes (l ts : List ℕ) (g : Reached) (x : Carried) (r : Reached) : Type 0 where
  pub says : (s : List ℕ) (scope : Scope) (σ : Environment) → Known s l ts scope σ → (m : Store)
      → (v : Result TypedPlace) (u : Result TypedValue) → Reaches v g → Carries σ.types m u x → Reaches (v >>= λ w. u >>= λ y. indexed σ.types w y) r

-- the field that the word at p names
pub record Selects (s l ts : List ℕ) (g : Reached) (p : ℕ) (r : Reached) : Type 0 where
  pub says : (scope : Scope) (σ : Environment) → Known s l ts scope σ
      → (v : Result TypedPlace) → Reaches v g → Reaches (v >>= λ w. selected σ.types (map small (word_at s p)) w) r

pub record Admits (l ts : List ℕ) (t : ℕ) (x : Carried) (r : ℤ) : Type 0 where
  pub says : (s : List ℕ) (scope : Scope) (σ : Environment) → Known s l ts scope σ → (m : Store)
      → (v : Result TypedValue) → Carries σ.types m v x → MarkMeans r ((v >>= wanted (base_of σ.types t)) >>= λ u. admitted σ.types t u)

-- an argument for a parameter of type t
pub record Takes (l ts : List ℕ) (t : ℕ) (x : Carried) (r : ℤ) : Type 0 where
  pub says : (s : List ℕ) (scope : Scope) (σ : Environment) → Known s l ts scope σ → (m : Store)
      → (v : Result TypedValue) → Carries σ.types m v x → MarkMeans r ((v >>= wanted (host_of σ.types t)) >>= λ u. taken σ.types t u)
