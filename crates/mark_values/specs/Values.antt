-- What a value or a place with its type, as the code carries it, is in the marking machine (law, Marking).
use Rattle.std.specs.Prelude.{Bool, true, false, ◌||◌, List, [], ◌∷◌, ◌≡◌, ℕ, min, ℤ, pos}
use Rattle.std.specs.Int.Signed.{lt_z}
use Rattle.law.specs.Base.{pick}
use Rattle.law.specs.Calculate.{Result, is, fails, stuck, ◌>>=◌, nat_of}
use Rattle.law.specs.Environment.{Environment}
use Rattle.law.specs.Machine.{Store, read_cells, sole}
use Rattle.law.specs.Marking.{TypedValue, TypedPlace}
use Rattle.law.specs.Types.{Types, ordinal?, set?, size_of}
use Rattle.law_theorems.specs.TypeSizes.{SmallTypes}
use Rattle.code_calc.specs.Words.{greatest, word_of, InRange, Exceptional}
use Rattle.table_scope.specs.declared.Scope.{Scope}
use Rattle.table_scope.specs.Scene.{Scene}
use Rattle.mark_values.specs.declared.values.Carried.{Carried}
use Rattle.mark_values.specs.declared.places.Reached.{Reached}

abbrev pub carried_of : ℕ → ℤ → ℕ → Carried
carried_of k w a = record { kind = k; word = w; from = a }

abbrev pub reached_of : ℕ → ℤ → Reached
reached_of t w = record { typed = t; word = w }

-- a place's first cell by its word, 0 of a fault
unfoldable pub first_cell : ℤ → ℕ
first_cell w = pick (lt_z greatest w) 0 (min (nat_of w) 4294967295)

-- a value in its range, one of the exceptions' numbers, or stuck
unfoldable pub MarkRanged : Result ℤ → Type 0
MarkRanged (is z) = InRange z
MarkRanged (fails e) = Exceptional e
MarkRanged stuck = Unit {0}

-- r is the word of v, which may be stuck
pub record MarkMeans (r : ℤ) (v : Result ℤ) : Type 0 where
  pub word : r ≡ word_of v
  pub ranged : MarkRanged v

-- a kind whose values are one cell: of an ordinal or a set
abbrev pub simple? : Types → ℕ → Bool
simple? Γ k = ordinal? Γ k || set? Γ k

-- r is v; the cells of an array or a record stand in the store from a cell on
pub record Carries (Γ : Types) (m : Store) (v : Result TypedValue) (r : Carried) : Type 0 where
  pub word-is : MarkMeans r.word (v >>= λ x. is (sole x.cells))
  pub kind-is : (x : TypedValue) → v ≡ is x → r.kind ≡ x.kind
  pub single : (x : TypedValue) → v ≡ is x → simple? Γ x.kind ≡ true → x.cells ≡ (sole x.cells ∷ [])
  pub whole : (x : TypedValue) → v ≡ is x → simple? Γ x.kind ≡ false → read_cells r.from (size_of Γ x.kind) m ≡ is x.cells

-- r is the place v; no store has a cell past the greatest value
pub record Reaches (v : Result TypedPlace) (r : Reached) : Type 0 where
  pub word-is : MarkMeans r.word (v >>= λ w. is (pos (min w.addr 4294967295)))
  pub type-is : (w : TypedPlace) → v ≡ is w → r.typed ≡ w.type

-- the tables hold the environment, and its types keep the ceilings
pub record Known (s l ts : List ℕ) (scope : Scope) (σ : Environment) : Type 0 where
  pub top : ℕ
  pub bodies : List ℕ
  pub scene : Scene s l ts scope top σ bodies
  pub small : SmallTypes σ.types
