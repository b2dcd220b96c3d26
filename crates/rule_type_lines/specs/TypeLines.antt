-- `type` lines: their parts, the entry and the description that they lay, and the counts after them.
use Rattle.std.specs.Prelude.{Bool, true, false, ◌&&◌, List, [], ◌∷◌, map, ◌≡◌, ℕ, ◌+◌, ◌*◌, ◌%◌, ◌<◌, leb, length, set}
use Rattle.std.proofs.Math.Option.{Option, some}
use Rattle.leaf_bytes.specs.Bytes.{small}
use Rattle.law.specs.Base.{Name, ◌>>=◌}
use Rattle.law.specs.Ceilings.{type_bounded}
use Rattle.law.specs.Environment.{Declared, type_sort_of}
use Rattle.law.specs.Forms.{type_form}
use Rattle.code.specs.Layout.{lay, bits}
use Rattle.law.specs.Names.{is_known}
use Rattle.law.specs.Script.{Decl, new_type, range, array_of, set_of, Const}
use Rattle.rule_stages.specs.Stages.{Staged, fits}
use Rattle.law.specs.Syntax.{LineForm, TypeForm, type_line, alias}
use Rattle.law.specs.Trees.{Trees, end, Run, first, later, word_at}
use Rattle.law_theorems.specs.Readings.{stack_at}
use Rattle.law.specs.Types.{TypeInfo, facts, cells_by}
use Rattle.table_scope.specs.Descriptions.{shape_number}
use Rattle.rule_faults.specs.declared.Fault.{Fault}
use Rattle.rule_faults.specs.declared.Fault.TheVariants.{Clear, Form}
use Rattle.table_scope.specs.declared.Info.{Info}
use Rattle.rule_faults.specs.Got.{is_form, fault_of}
use Rattle.text_heads.specs.Parts.{part_of, rest, closed, type_name_in}
use Rattle.rule_declarations.specs.Lines.{newly, entry_staged, lined_by, GivesLine}
use Rattle.rule_declarations.specs.State.{Holds, with_names, with_type_line}
use Rattle.rule_declarations.specs.declared.State.{State}
use Rattle.rule_declarations.specs.declared.Lined.{Lined}
use Rattle.rule_type_lines.specs.declared.Placed.{Placed}
use Rattle.rule_type_lines.specs.declared.Shaped.{Shaped}

-- ---- the parts

unfoldable pub type_in : Trees Run → Option TypeForm
type_in us = part_of us >>= type_form

-- a line from its type on; w is the name
unfoldable pub type_after : Name → Trees Run → Option LineForm
type_after w us = type_in us >>= λ t. closed (rest us) (type_line w t)

-- a type, and the parts after it
unfoldable pub made_after : Name → Option TypeForm → Trees Run → Option LineForm
made_after w o ts = o >>= λ t. closed ts (type_line w t)

-- a type that is a name
unfoldable pub alias_after : Name → Trees Run → Option LineForm
alias_after w us = type_name_in us >>= λ t. closed (rest us) (type_line w (alias t))

-- ---- what is laid

-- row 9 of a line whose type is within its own ceilings or not
unfoldable pub lines_fit : ℕ → Bool → Bool
lines_fit n b = leb (n + 1) 64 && b

-- the entry of a type, by its name's number (table_names, Keys)
unfoldable pub type_entry : State → ℕ → ℕ → List ℕ
type_entry st name number = name ∷ (4 * (number % 128)) ∷ 0 ∷ st.scope.newest ∷ []

-- a description without fields
unfoldable pub info_numbers : Info → List ℕ
info_numbers x = x.shape ∷ x.host ∷ x.low ∷ x.high ∷ x.size ∷ x.index ∷ x.element ∷ x.fields ∷ []

-- after a line with so many names, of which the last is at `newest`, and so many new types
unfoldable pub type_state : State → ℕ → ℕ → ℕ → ℕ → State
type_state st names newest made top = with_type_line (with_names st names newest top) made

-- ---- a type that is a name

pub data AddsAlias (l : List ℕ) (st : State) (name kind : ℕ) : Lined → List ℕ → Type 0 where
  alias-fits : lines_fit st.lines true ≡ true
      → AddsAlias l st name kind (lined_by Clear true (type_state st 1 st.top 0 (lay (type_entry st name kind) st.top l).top)) (lay (type_entry st name kind) st.top l).list
  alias-past : lines_fit st.lines true ≡ false → AddsAlias l st name kind (lined_by Clear false st) l

pub record GivesAlias (s l : List ℕ) (st : State) (p at : ℕ) (r : Lined) (l' : List ℕ) : Type 0 where
  pub gives : (ts : List ℕ) → p < length s → GivesLine s l ts st (alias_after (map small (word_at s p)) (first (stack_at s at))) r l' ts

-- ---- a range, an array or a set: one name and one description

pub data Simple : Decl → Type 0 where
  simple-range : {a b : Const} → Simple (range a b)
  simple-array : {i e : ℕ} → Simple (array_of i e)
  simple-set : {b : ℕ} → Simple (set_of b)

-- a description without fields is that of a type
pub record Describes (x : Info) (i : TypeInfo) : Type 0 where
  pub shape_is : x.shape ≡ shape_number i.shape
  pub host-is : x.host ≡ i.host
  pub low-is : x.low ≡ bits i.low
  pub high_is : x.high ≡ bits i.high
  pub size_is : (t : ℕ) → x.size ≡ length (cells_by i.shape t i.cells)
  pub index_is : x.index ≡ i.index
  pub element-is : x.element ≡ i.element
  pub fields-is : x.fields ≡ 0
  pub no_fields : i.fields ≡ []

-- what the answer tells of a type's form o
pub record ShapeTold (k : Declared) (o : Option TypeForm) (g : Shaped) : Type 0 where
  pub stage : Staged Decl
  pub stage_is : (w : Name) → entry_staged k (o >>= λ t. some (type_line w t)) ≡ newly (is_known k.env w) stage (λ d. fits (new_type w d))
  pub fault-is : g.fault ≡ fault_of stage
  pub made : (d : Decl) → stage ≡ fits d → Simple d × (type_bounded k.env.types d ≡ true → Describes g.info (facts (type_sort_of k.env.types d))) × (g.within ≡ type_bounded k.env.types d)

pub record GivesShape (s l ts : List ℕ) (st : State) (at : ℕ) (o : Option TypeForm) (g : Shaped) : Type 0 where
  pub goes : is_form g.fault ≡ false → later (stack_at s at) ≡ stack_at s g.next
  pub says : (k : Declared) (bs : List ℕ) → Holds s l ts st k bs → ShapeTold k o g

pub record LaysType (l : List ℕ) (st : State) (name : ℕ) (x : Info) (r : Placed) (l' : List ℕ) : Type 0 where
  pub place_is : r.place ≡ (lay (type_entry st name st.types) st.top l).top
  pub top-is : r.top ≡ (lay (info_numbers x) (lay (type_entry st name st.types) st.top l).top (lay (type_entry st name st.types) st.top l).list).top
  pub list-is : l' ≡ (lay (info_numbers x) (lay (type_entry st name st.types) st.top l).top (lay (type_entry st name st.types) st.top l).list).list

-- the name's entry, the description, and its place
pub record AddsType (l ts : List ℕ) (st : State) (name : ℕ) (x : Info) (r : Lined) (l' ts' : List ℕ) : Type 0 where
  pub list : l' ≡ (lay (info_numbers x) (lay (type_entry st name st.types) st.top l).top (lay (type_entry st name st.types) st.top l).list).list
  pub places : ts' ≡ set ts st.types (lay (type_entry st name st.types) st.top l).top
  pub answer : r ≡ lined_by Clear true (type_state st 1 st.top 1 (lay (info_numbers x) (lay (type_entry st name st.types) st.top l).top (lay (type_entry st name st.types) st.top l).list).top)

-- a line whose type's form has been read; its name is at p
pub record GivesShaped (s l ts : List ℕ) (st : State) (p : ℕ) (g : Shaped) (r : Lined) (l' ts' : List ℕ) : Type 0 where
  pub gives : (at : ℕ) (o : Option TypeForm) → GivesShape s l ts st at o g → p < length s
      → GivesLine s l ts st (made_after (map small (word_at s p)) o (first (later (stack_at s at)))) r l' ts'

-- a fault, or row 6 where parts come after it
pub data EndFault (s : List ℕ) (f : Fault) (at : ℕ) : Fault → Type 0 where
  was-form : f ≡ Form → EndFault s f at Form
  at-end : is_form f ≡ false → first (stack_at s at) ≡ end → EndFault s f at f
  before-end : is_form f ≡ false → (first (stack_at s at) ≡ end → ⊥) → EndFault s f at Form

-- a line from the parts of its type's form on, which says o; its name is at p
pub record GivesMade (s l ts : List ℕ) (st : State) (p at : ℕ) (o : Option TypeForm) (r : Lined) (l' ts' : List ℕ) : Type 0 where
  pub gives : p < length s → GivesLine s l ts st (made_after (map small (word_at s p)) o (first (later (stack_at s at)))) r l' ts'
