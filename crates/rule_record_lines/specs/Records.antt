-- A record's form, and what is laid of its fields.
use Rattle.std.specs.Prelude.{Bool, true, ◌&&◌, List, [], ◌∷◌, ◌≡◌, ℕ, ◌+◌, ◌*◌, ◌%◌, ◌≤◌, leb, length, set}
use Rattle.std.proofs.Math.Option.{Option, some}
use Rattle.law.specs.Base.{Name, ◌>>=◌}
use Rattle.law.specs.Ceilings.{field_sizes}
use Rattle.law.specs.Environment.{Environment, lay_fields}
use Rattle.law.specs.Forms.{made_type, m_record}
use Rattle.code.specs.Layout.{Out, lay}
use Rattle.law.specs.Syntax.{TypeName, TypeForm}
use Rattle.law.specs.Trees.{list, Trees, Run, first}
use Rattle.law_theorems.specs.Readings.{stack_at}
use Rattle.law.specs.Words.{worded_all}
use Rattle.code.specs.LayoutRegions.{Same, Room}
use Rattle.table_names.specs.Keys.{keyed}
use Rattle.table_scope.specs.declared.Scope.{Scope}
use Rattle.rule_faults.specs.declared.Fault.TheVariants as fault
use Rattle.table_scope.specs.declared.Info.{Info}
use Rattle.table_scope.specs.Descriptions.{fields_at}
use Rattle.table_scope.specs.Scene.{Scene}
use Rattle.rule_declarations.specs.Lines.{lined_by}
use Rattle.rule_type_lines.specs.TypeLines.{type_entry, info_numbers, type_state}
use Rattle.rule_declarations.specs.declared.State.{State}
use Rattle.rule_declarations.specs.declared.Lined.{Lined}
use Rattle.rule_type_lines.specs.declared.Placed.{Placed}
use Rattle.rule_pairs.specs.Pairs.{pairs_in, resolve}

-- ---- the form

-- the form of a record by the parts after its head word
unfoldable pub record_in : Trees Run → Option TypeForm
record_in us = worded_all us >>= λ vs. made_type m_record (list vs)

-- ---- what is laid

unfoldable pub field_entry : ℕ → ℕ → ℕ → List ℕ
field_entry y kind offset = (y % 32768) ∷ kind ∷ offset ∷ 0 ∷ []

-- the n fields from `at` on, laid from `top` on
pub record LaysFields (s l ts : List ℕ) (scope : Scope) (n top at : ℕ) (r : ℕ) (l' : List ℕ) : Type 0 where
  pub below : Same 0 top l' l
  pub long : length l' ≡ length l
  pub fields : (low : ℕ) (σ : Environment) (bs : List ℕ) → Scene s l ts scope low σ bs → low ≤ top → (fs : List (Name × TypeName)) → pairs_in (first (stack_at s at)) ≡ some fs
      → (gs : List (Name × ℕ)) → resolve σ fs ≡ some gs → length gs ≡ n → field_sizes σ.types gs ≤ 2048 → length s ≤ 32768 → Room (4 * n) top l
      → (fields_at s l' top n ≡ lay_fields σ.types 0 gs) × (r ≡ top + 4 * n)

-- the description of a record of n fields
unfoldable pub record_info : ℕ → ℕ → Info
record_info n size = record { shape = 3; host = 0; low = 0; high = 0; size = size; index = 0; element = 0; fields = n; place = 0 }

abbrev pub record_named : State → ℕ → List ℕ → Out
record_named st name l = lay (type_entry st name st.types) st.top l

abbrev pub record_described : State → ℕ → ℕ → ℕ → List ℕ → Out
record_described st name n size l = lay (info_numbers (record_info n size)) (record_named st name l).top (record_named st name l).list

pub record LaysRecord (s l ts : List ℕ) (st : State) (p at n size : ℕ) (r : Placed) (l' : List ℕ) : Type 0 where
  pub fields : LaysFields s (record_described st (keyed s p) n size l).list ts st.scope n (record_described st (keyed s p) n size l).top at r.top l'
  pub place_is : r.place ≡ (record_named st (keyed s p) l).top

pub record AddsRecord (s l ts : List ℕ) (st : State) (p at n size : ℕ) (r : Lined) (l' ts' : List ℕ) : Type 0 where
  pub free : ℕ
  pub fields : LaysFields s (record_described st (keyed s p) n size l).list ts st.scope n (record_described st (keyed s p) n size l).top at free l'
  pub places : ts' ≡ set ts st.types (record_named st (keyed s p) l).top
  pub answer : r ≡ lined_by fault.Clear true (type_state st 1 st.top 1 free)

-- row 9
unfoldable pub record_fits : ℕ → ℕ → Bool
record_fits n size = leb n 16 && leb size 2048
