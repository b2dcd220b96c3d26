-- What the checker holds of the lines so far: the working list, the notes beside it, and counts.
use Rattle.std.specs.Prelude.{List, ◌≡◌, ℕ, ◌+◌, ◌*◌, ◌%◌, ◌≤◌, length}
use Rattle.law.specs.Environment.{Declared}
use Rattle.law.specs.Types.{size_of}
use Rattle.law_theorems.specs.LinesKeep.{Keeps}
use Rattle.table_scope.specs.declared.Scope.{Scope}
use Rattle.table_names.specs.Chain.{entries}
use Rattle.table_names.specs.Chained.{Names}
use Rattle.table_scope.specs.Scene.{Meant, Scene}
use Rattle.rule_declarations.specs.declared.State.{State}

-- how many notes the checker keeps beside the working list: the places of the types' descriptions stand by type number in the first 128
abbrev pub notes : ℕ
notes = 512

-- so many names, the newest at p
abbrev pub scoped : ℕ → ℕ → Scope
scoped n p = record { count = n; newest = p; pairs = 0; vars = 0; parameters = 0 }

-- l and ts hold what k says; bs holds the places of the bodies so far
pub record Holds (s l ts : List ℕ) (st : State) (k : Declared) (bs : List ℕ) : Type 0 where
  pub scene : Scene s l ts st.scope st.top k.env bs
  pub names : Names s l (Meant k.env bs l) (entries st.scope.count l st.scope.newest) k.env.names
  pub plain : st.scope.pairs ≡ 0
  pub keeps : Keeps k
  pub types_are : st.types ≡ length k.env.types
  pub lines_are : st.lines ≡ k.type_lines
  pub vars-are : st.vars ≡ length k.env.vars
  pub cells_are : st.cells ≡ length k.cells
  pub procs-are : st.procs ≡ length k.bodies
  pub parameters-are : st.parameters ≡ length k.env.parameters
  pub bodies-are : length bs ≡ length k.bodies
  pub few-types : st.types ≤ 2 + st.lines
  pub few-lines : st.lines ≤ 64
  pub few-vars : st.vars ≤ 128
  pub few-cells : st.cells ≤ 2048
  pub few-parameters : st.parameters ≤ 128
  pub small-types : (t : ℕ) → size_of k.env.types t ≤ 2048
  pub few-names : 4 * st.scope.count ≤ st.top
  pub start : 1 ≤ st.top
  pub low : st.top ≤ 16384
  pub long-list : 16384 ≤ length l
  pub long-notes : notes ≤ length ts
  pub short-text : length s ≤ 32768

-- before any line
unfoldable pub start_state : State
start_state = record { scope = scoped 0 0; top = 1; types = 2; lines = 0; vars = 0; cells = 0; procs = 0; parameters = 0 }

-- ---- after a line: numbers that are small wherever the lines so far are held are taken modulo a power of two, so that no sum overflows

-- so many names more, the newest at p, and the free place then
abbrev pub with_names : State → ℕ → ℕ → ℕ → State
with_names st n p top = record {
  scope = scoped (st.scope.count % 65536 + n % 65536) p;
  top = top;
  types = st.types;
  lines = st.lines;
  vars = st.vars;
  cells = st.cells;
  procs = st.procs;
  parameters = st.parameters;
}

-- a `type` line more, and so many types
abbrev pub with_type_line : State → ℕ → State
with_type_line st made = record {
  scope = st.scope;
  top = st.top;
  types = st.types % 128 + made % 2;
  lines = st.lines % 128 + 1;
  vars = st.vars;
  cells = st.cells;
  procs = st.procs;
  parameters = st.parameters;
}

-- a variable of so many cells more
abbrev pub with_var : State → ℕ → State
with_var st size = record {
  scope = st.scope;
  top = st.top;
  types = st.types;
  lines = st.lines;
  vars = st.vars % 128 + 1;
  cells = st.cells % 4096 + size % 4096;
  procs = st.procs;
  parameters = st.parameters;
}

-- a body more, and the free place then
abbrev pub body_state : State → ℕ → State
body_state st top = record {
  scope = st.scope;
  top = top;
  types = st.types;
  lines = st.lines;
  vars = st.vars;
  cells = st.cells;
  procs = st.procs % 16384 + 1;
  parameters = st.parameters;
}

-- n parameters more
abbrev pub with_parameters : State → ℕ → State
with_parameters st n = record {
  scope = st.scope;
  top = st.top;
  types = st.types;
  lines = st.lines;
  vars = st.vars;
  cells = st.cells;
  procs = st.procs;
  parameters = st.parameters % 256 + n % 256;
}
