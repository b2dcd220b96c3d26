-- A line that makes an enumeration: what it lays. The entry of the type's name, the description, then an entry for each value, each linked
-- to the next and the last to the newest entry before the line.
use Rattle.std.specs.Prelude.{Bool, true, cond, List, [], ◌∷◌, ◌≡◌, ℕ, ◌+◌, ◌*◌, ◌-◌, ◌%◌, ◌<◌, ◌≤◌, eqb, ltb, length, get_or, set}
use Rattle.std.proofs.Math.Option.{some}
use Rattle.law.specs.Base.{Name}
use Rattle.code.specs.Layout.{Out, lay}
use Rattle.law.specs.Trees.{first}
use Rattle.law_theorems.specs.Readings.{stack_at}
use Rattle.code.specs.LayoutRegions.{Same, Room}
use Rattle.table_names.specs.Keys.{keyed}
use Rattle.table_names.specs.Chain.{Called}
use Rattle.table_order.specs.Ordered.{Ordered}
use Rattle.rule_faults.specs.declared.Fault.{Fault}
use Rattle.rule_faults.specs.declared.Fault.TheVariants as fault
use Rattle.table_scope.specs.declared.Info.{Info}
use Rattle.table_scope.specs.Descriptions.{ordinal_info}
use Rattle.rule_faults.specs.Got.{is_form}
use Rattle.rule_enum_lines.specs.Enums.{names_in, counted}
use Rattle.rule_declarations.specs.Lines.{lined_by}
use Rattle.rule_type_lines.specs.TypeLines.{info_numbers, type_state}
use Rattle.rule_declarations.specs.declared.State.{State}
use Rattle.rule_declarations.specs.declared.Lined.{Lined}
use Rattle.rule_type_lines.specs.declared.Placed.{Placed}

-- the first of the entries of names from a place on; `newest` where there is no name
unfoldable pub start_of : List Name → ℕ → ℕ → ℕ
start_of [] place newest = newest
start_of (w ∷ ws) place newest = place

-- the entries of the values of type `kind`, from a place and an ordinal on; their second numbers may also put them in order
pub data Values (s l : List ℕ) (kind newest : ℕ) : ℕ → ℕ → List Name → Type 0 where
  no_value : {place n : ℕ} → Values s l kind newest place n []
  one_value : {place n : ℕ} {w : Name} {ws : List Name} → Called s l place w → get_or l (place + 1) 0 % 512 ≡ 3 + 4 * kind → get_or l (place + 2) 0 ≡ n
      → get_or l (place + 3) 0 ≡ start_of ws (place + 4) newest → Values s l kind newest (place + 4) (n + 1) ws → Values s l kind newest place n (w ∷ ws)

-- the link of value i of n, whose entry is at `place`
unfoldable pub link_of : ℕ → ℕ → ℕ → ℕ → ℕ
link_of i n place newest = cond (ltb i (n - 1)) (place % 32768 + 4) newest

-- by its name's number (table_names, Keys)
unfoldable pub value_entry : ℕ → ℕ → ℕ → ℕ → ℕ → ℕ → List ℕ
value_entry kind newest n name i place = name ∷ (3 + 4 * (kind % 128)) ∷ i ∷ link_of i n place newest ∷ []

-- the n names from `at` on, laid from `top` on
pub record LaysValues (s l : List ℕ) (kind newest n top at : ℕ) (r : ℕ) (l' : List ℕ) : Type 0 where
  pub below : Same 0 top l' l
  pub long : length l' ≡ length l
  pub values : (ns : List Name) → names_in (first (stack_at s at)) ≡ some ns → length ns ≡ n → kind < 128 → length s ≤ 32768 → Room (4 * n) top l
      → Values s l' kind newest top 0 ns × (r ≡ top + 4 * n)

-- the entry of the type, by its name's number
unfoldable pub enum_entry : State → ℕ → List ℕ
enum_entry st name = name ∷ (4 * (st.types % 128)) ∷ 0 ∷ (st.top % 32768 + 12) ∷ []

-- the description of enumeration `kind` of n values
unfoldable pub enum_info : ℕ → ℕ → Info
enum_info kind n = ordinal_info kind 0 (n - 1)

abbrev pub enum_named : State → ℕ → List ℕ → Out
enum_named st name l = lay (enum_entry st name) st.top l

abbrev pub enum_described : State → ℕ → ℕ → List ℕ → Out
enum_described st name n l = lay (info_numbers (enum_info st.types n)) (enum_named st name l).top (enum_named st name l).list

pub record LaysDescribed (l : List ℕ) (st : State) (name n : ℕ) (r : Placed) (l' : List ℕ) : Type 0 where
  pub place_is : r.place ≡ (enum_named st name l).top
  pub top-is : r.top ≡ (enum_described st name n l).top
  pub list-is : l' ≡ (enum_described st name n l).list

-- then put in order
pub record LaysEnum (s l : List ℕ) (st : State) (p at n : ℕ) (r : Placed) (l' : List ℕ) : Type 0 where
  pub laid : List ℕ
  pub values : LaysValues s (enum_described st (keyed s p) n l).list st.types st.scope.newest n (enum_described st (keyed s p) n l).top at r.top laid
  pub in_order : Ordered s laid st.top n l'
  pub place_is : r.place ≡ (enum_named st (keyed s p) l).top

pub record AddsEnum (s l ts : List ℕ) (st : State) (p at n : ℕ) (r : Lined) (l' ts' : List ℕ) : Type 0 where
  pub free : ℕ
  pub laid : List ℕ
  pub values : LaysValues s (enum_described st (keyed s p) n l).list st.types st.scope.newest n (enum_described st (keyed s p) n l).top at free laid
  pub in_order : Ordered s laid st.top n l'
  pub places : ts' ≡ set ts st.types (enum_named st (keyed s p) l).top
  pub answer : r ≡ lined_by fault.Clear true (type_state st (counted n) st.top 1 free)

-- the fault of an enumeration: that of its names, row 6 where there is none, row 7 where the type's own name is not new
unfoldable pub enum_fault : Fault → ℕ → Bool → Fault
enum_fault f n own = cond (is_form f) fault.Form (cond (eqb n 0) fault.Form (cond own f fault.Name))
