-- The marking machine's store of a value at a place, both with their types.
use Rattle.std.specs.Prelude.{◌≡◌, List, ℕ, min, ◌≤◌, ℤ, pos}
use Rattle.law.specs.Calculate.{is}
use Rattle.law.specs.Environment.{Environment}
use Rattle.law.specs.Machine.{Store, state, store_whole, with_result}
use Rattle.law.specs.Marking.{TypedValue, TypedPlace, wanted, mark_store}
use Rattle.law.specs.Types.{host_of}
use Rattle.mark_steps.specs.Ends.{left_in}
use Rattle.mark_steps.specs.Stands.{Stands}
use Rattle.mark_values.specs.declared.values.Carried.{Carried}
use Rattle.mark_values.specs.declared.places.Reached.{Reached}
use Rattle.mark_values.specs.Values.{Carries, Reaches, Known}
use Rattle.mark_acts.specs.Ends.{MarkEnds}
use Rattle.table_scope.specs.declared.Scope.{Scope}

-- all cells of x stored from the cell whose word is w on, in statement n
pub record Wholly (l ts : List ℕ) (n : ℕ) (x : Carried) (w : ℤ) (ws : List ℤ) (left : ℕ) (ws' : List ℤ) (r : ℕ) : Type 0 where
  pub says : (s : List ℕ) (scope : Scope) (σ : Environment) → Known s l ts scope σ → (m : Store) (v : TypedValue) (a : ℕ) → Carries σ.types m (is v) x → w ≡ pos (min a 4294967295)
      → Stands ws left m → MarkEnds (store_whole n a v.cells (state m left)) ws' r
  pub fewer : left_in r ≤ left

-- x stored at g, in statement n
pub record Stores (l ts : List ℕ) (n : ℕ) (x : Carried) (g : Reached) (ws : List ℤ) (left : ℕ) (ws' : List ℤ) (r : ℕ) : Type 0 where
  pub says : (s : List ℕ) (scope : Scope) (σ : Environment) → Known s l ts scope σ → (m : Store) (v : TypedValue) (w : TypedPlace) → Carries σ.types m (is v) x → Reaches (is w) g
      → Stands ws left m → MarkEnds (with_result n (state m left) (wanted (host_of σ.types w.type) v) λ zs. mark_store σ.types σ.vars n w zs (state m left)) ws' r
  pub fewer : left_in r ≤ left
