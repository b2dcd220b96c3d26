-- What the checker knows after some lines, and what its answer for the next one says of `judge_line` (law, Verdict).
use Rattle.std.specs.Prelude.{true, List, ◌++◌, ◌≡◌, ℕ, ◌+◌, ◌-◌, ◌≤◌, length, get_or, drop, Result, Ok, Err}
use Rattle.law.specs.Code.{BodyCode}
use Rattle.law.specs.Environment.{Declared}
use Rattle.code.specs.LayoutSize.{size_symbols, size_bodies}
use Rattle.law.specs.Verdict.{Judged, good, bad, Read, has, strictly, judge_line}
use Rattle.code.specs.LayoutBodies.{Bodies}
use Rattle.code.specs.LinesMeasured.{Measured}
use Rattle.code.specs.TextRoom.{Room}
use Rattle.text_lines.specs.Passes.{line_at}
use Rattle.rule_declarations.specs.State.{Holds}
use Rattle.rule_known.specs.declared.Known.{Known}

-- the tables hold what the lines so far declared, and the code of their bodies stands at the places bs
pub record Standing (s l ts : List ℕ) (kn : Known) (r : Read) (bs : List ℕ) : Type 0 where
  pub holds : Holds s l ts kn.state r.known bs
  pub stmts-are : kn.stmts ≡ r.known.stmts
  pub nodes-are : kn.nodes ≡ r.known.nodes
  pub ended_is : kn.ended ≡ r.known.ended
  pub measured : Measured r.known r.codes
  pub room : Room r.known r.codes
  pub top-is : kn.state.top ≡ 1 + size_symbols r.known.env + size_bodies r.codes
  pub bodies : (other : BodyCode) → Bodies other 1 kn.state.top l bs r.codes
  -- main's body is the last
  pub main-is : r.known.ended ≡ true → kn.main ≡ get_or bs (length bs - 1) 0

-- the answer for a line after r
abbrev pub JudgedBy : List ℕ → List ℕ → List ℕ → Read → Judged (Declared × List BodyCode) → Result Known ℕ → Type 0
JudgedBy s l' ts' r (bad n) j = (j ≡ Err n) × (1 ≤ n)
JudgedBy s l' ts' r (good p) j = (kn : Known) × (j ≡ Ok kn) × (bs : List ℕ) × Standing s l' ts' kn (has p.0 (r.codes ++ p.1)) bs

-- the line at an offset, judged
pub record JudgesLine (s l ts : List ℕ) (kn : Known) (at : ℕ) (j : Result Known ℕ) (l' ts' : List ℕ) : Type 0 where
  pub says : (r : Read) (bs : List ℕ) → Standing s l ts kn r bs → JudgedBy s l' ts' r (judge_line strictly r.known (line_at (drop at s))) j
