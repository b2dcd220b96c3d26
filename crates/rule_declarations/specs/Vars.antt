-- A variable's entry and what is held after it.
use Rattle.std.specs.Prelude.{Bool, true, false, ◌&&◌, List, [], ◌∷◌, map, ◌≡◌, ℕ, ◌+◌, ◌*◌, ◌%◌, ◌<◌, leb, length}
use Rattle.std.proofs.Math.Option.{Option}
use Rattle.leaf_bytes.specs.Bytes.{small}
use Rattle.law.specs.Base.{Name, ◌>>=◌}
use Rattle.code.specs.Layout.{lay}
use Rattle.law.specs.Syntax.{LineForm, var_line}
use Rattle.law.specs.Trees.{Trees, Run, first, word_at}
use Rattle.law_theorems.specs.Readings.{stack_at}
use Rattle.table_scope.specs.Descriptions.{info_of}
use Rattle.rule_faults.specs.declared.Fault.TheVariants.{Clear}
use Rattle.text_heads.specs.Parts.{rest, closed, type_name_in}
use Rattle.rule_declarations.specs.Lines.{lined_by, GivesLine}
use Rattle.rule_declarations.specs.State.{with_names, with_var}
use Rattle.rule_declarations.specs.declared.State.{State}
use Rattle.rule_declarations.specs.declared.Lined.{Lined}

-- the parts after a variable's name w
unfoldable pub var_after : Name → Trees Run → Option LineForm
var_after w us = type_name_in us >>= λ t. closed (rest us) (var_line w t)

-- how many variables and cells there are, with the parameters
abbrev pub vars_held : State → ℕ
vars_held st = st.vars % 256 + st.parameters % 256

abbrev pub cells_held : State → ℕ
cells_held st = st.cells % 4096 + st.parameters % 256

-- row 9: n variables more, of so many cells together
unfoldable pub vars_fit : State → ℕ → ℕ → Bool
vars_fit st n size = leb (vars_held st + n) 128 && leb (cells_held st + size) 2048

-- by its name's number (table_names, Keys)
unfoldable pub var_entry : State → ℕ → ℕ → List ℕ
var_entry st name kind = name ∷ (1 + 4 * (st.vars % 128)) ∷ (kind % 128 + 128 * (st.cells % 4096)) ∷ st.scope.newest ∷ []

unfoldable pub var_state : State → ℕ → ℕ → State
var_state st size top = with_var (with_names st 1 st.top top) size

-- a variable of type `kind`, by its name's number, if it is within its ceilings
pub data AddsVar (l ts : List ℕ) (st : State) (name kind : ℕ) : Lined → List ℕ → Type 0 where
  var-fits : vars_fit st 1 (info_of l ts kind).size ≡ true
      → AddsVar l ts st name kind (lined_by Clear true (var_state st (info_of l ts kind).size (lay (var_entry st name kind) st.top l).top)) (lay (var_entry st name kind) st.top l).list
  var-past : vars_fit st 1 (info_of l ts kind).size ≡ false → AddsVar l ts st name kind (lined_by Clear false st) l

-- a line from its variable's type on; its name is at p
pub record GivesVar (s l ts : List ℕ) (st : State) (p at : ℕ) (r : Lined) (l' : List ℕ) : Type 0 where
  pub gives : p < length s → GivesLine s l ts st (var_after (map small (word_at s p)) (first (stack_at s at))) r l' ts
