-- What the answer for a text says of `judge loosely` (law, Verdict).
use Rattle.std.specs.Prelude.{true, List, ◌≡◌, ℕ, ◌≤◌, length, get_or, Result, Ok}
use Rattle.rule_declarations.specs.State.{notes}
use Rattle.law.specs.Lines.{lines_of}
use Rattle.law.specs.Verdict.{Verdict, Read, accepted, refused, loosely, judge, judge_lines}
use Rattle.rule_known.specs.declared.Known.{Known}
use Rattle.law_answers.specs.declared.Refusal.{Refusal}
use Rattle.rule_texts.specs.Answers.{refused_by}
use Rattle.rule_judge_loose.specs.Standing.{LooseStanding}

-- the answer for a verdict: its number and line, or the lists hold what the text declared, with its `main`
abbrev pub AdmittedBy : List ℕ → List ℕ → List ℕ → List ℕ → Verdict Read → Result Known Refusal → Type 0
AdmittedBy s l' ts' tb' (refused m n) c = (c ≡ refused_by m n) × (1 ≤ m)
AdmittedBy s l' ts' tb' (accepted q) c = (kn : Known) × (c ≡ Ok kn) × LooseStanding s l' ts' tb' kn q.known × (q.known.ended ≡ true)

-- the lines of a text, judged from what kn says
pub record AdmitsLines (s l ts tb : List ℕ) (kn : Known) (c : Result Known Refusal) (l' ts' tb' : List ℕ) : Type 0 where
  pub says : (r : Read) → LooseStanding s l ts tb kn r.known → AdmittedBy s l' ts' tb' (judge_lines loosely 1 (lines_of s) r) c

-- a text, judged with room for the types' places and the bodies' table
pub record Admits (s l ts tb : List ℕ) (c : Result Known Refusal) (l' ts' tb' : List ℕ) : Type 0 where
  pub says : notes ≤ length ts → ((i : ℕ) → get_or ts i 0 ≡ 0) → 264 ≤ length tb → AdmittedBy s l' ts' tb' (judge loosely s (length l)) c
