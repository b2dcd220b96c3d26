-- What the answer for a text says of `judge_lines` and `verdict_of` (law, Verdict and Whole).
use Rattle.std.specs.Prelude.{Bool, true, false, List, ◌≡◌, ℕ, ◌≤◌, length, get_or, Result, Ok, Err}
use Rattle.law.specs.Lines.{lines_of}
use Rattle.law.specs.Verdict as Meaning
use Rattle.law.specs.Verdict.{Read, accepted, refused, strictly, judge_lines}
use Rattle.law.specs.Whole.{verdict_of}
use Rattle.law_answers.specs.declared.Refusal.{Refusal}
use Rattle.law_answers.specs.Verdicts.{refusal_of}
use Rattle.rule_declarations.specs.State.{notes, start_state}
use Rattle.rule_known.specs.declared.Known.{Known}
use Rattle.rule_judge.specs.Judging.{Standing}

-- before any line
unfoldable pub start_known : Known
start_known = record { state = start_state; stmts = 0; nodes = 0; ended = false; main = 0 }

abbrev pub refused_by : ℕ → ℕ → Result Known Refusal
refused_by m n = Err (refusal_of m n)

-- the answer after all lines, where n is one past the last
abbrev pub ends_by : Bool → ℕ → Known → Result Known Refusal
ends_by true n kn = Ok kn
ends_by false n kn = refused_by 6 n

-- the answer for a verdict: its number and line, or the lists hold what the text declared
abbrev pub CheckedBy : List ℕ → List ℕ → List ℕ → Meaning.Verdict Read → Result Known Refusal → Type 0
CheckedBy s l' ts' (refused m n) c = (c ≡ refused_by m n) × (1 ≤ m)
CheckedBy s l' ts' (accepted q) c = (kn : Known) × (c ≡ Ok kn) × (bs : List ℕ) × Standing s l' ts' kn q bs

-- the lines of a text, judged from what kn says
pub record ChecksLines (s l ts : List ℕ) (kn : Known) (c : Result Known Refusal) (l' ts' : List ℕ) : Type 0 where
  pub says : (r : Read) (bs : List ℕ) → Standing s l ts kn r bs → CheckedBy s l' ts' (judge_lines strictly 1 (lines_of s) r) c

-- a text, judged with room for the types' places
pub record Checks (s l ts : List ℕ) (c : Result Known Refusal) (l' ts' : List ℕ) : Type 0 where
  pub says : notes ≤ length ts → ((i : ℕ) → get_or ts i 0 ≡ 0) → CheckedBy s l' ts' (verdict_of s (length l)) c

-- ---- the verdict as it is told

abbrev pub told_by : Result Known Refusal → Result (Unit {0}) Refusal
told_by (Ok kn) = Ok tt
told_by (Err e) = Err e
