-- A body's line in the bodies' table, as it is written.
use Rattle.std.specs.Prelude.{List, ℕ, ◌+◌, ◌*◌, ◌%◌, min, length, set}
use Rattle.table_scope.specs.declared.Scope.{Scope}
use Rattle.rule_parameters.specs.declared.framing.Opened.{Opened}
use Rattle.rule_known.specs.declared.Known.{Known}

-- an offset as a number of the table; past the text's end all are alike
unfoldable pub offset_in : List ℕ → ℕ → ℕ
offset_in s at = min at (length s) % 65536

-- the place of the next body's line
abbrev pub line_place : Known → ℕ
line_place kn = 8 * (kn.state.procs % 64)

-- where its parts begin, the number of the last statement before them, and how many types it sees
unfoldable pub noted_start : List ℕ → Known → ℕ → List ℕ → List ℕ
noted_start s kn at tb = set (set (set tb (line_place kn) (offset_in s at)) (line_place kn + 1) kn.stmts) (line_place kn + 2) kn.state.types

-- which names it knows
unfoldable pub noted_names : Known → Scope → List ℕ → List ℕ
noted_names kn x tb = set (set tb (line_place kn + 3) x.count) (line_place kn + 4) x.newest

-- where the pairs of its parameters begin, and how many variables and parameters are before them
unfoldable pub noted_pairs : List ℕ → Known → Scope → List ℕ → List ℕ
noted_pairs s kn x tb = set (set (set tb (line_place kn + 5) (offset_in s x.pairs)) (line_place kn + 6) x.vars) (line_place kn + 7) x.parameters

unfoldable pub noted : List ℕ → Known → Opened → List ℕ → List ℕ
noted s kn o tb = noted_pairs s kn o.scope (noted_names kn o.scope (noted_start s kn o.at tb))
