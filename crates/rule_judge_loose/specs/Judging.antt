-- What the answer for a line says of `judge_line loosely` (law, Verdict).
use Rattle.std.specs.Prelude.{List, ◌≡◌, ℕ, ◌≤◌, drop, Result, Ok, Err}
use Rattle.leaf_words.specs.declared.words.Word as Kind
use Rattle.law.specs.Code.{BodyCode}
use Rattle.law.specs.Environment.{Declared}
use Rattle.law.specs.Lines.{Line}
use Rattle.law.specs.Verdict.{Judged, good, bad, loosely, judge_line}
use Rattle.text_lines.specs.Passes.{line_at}
use Rattle.text_heads.specs.Heads.{line_head_of}
use Rattle.rule_known.specs.declared.Known.{Known}
use Rattle.rule_known.specs.declared.Entered.{Entered}
use Rattle.rule_known.specs.Answers.{judgement}
use Rattle.rule_judge.specs.Forms.{LineIs, KnownLine}
use Rattle.rule_judge_loose.specs.Entering.{LooseEnters}
use Rattle.rule_judge_loose.specs.Standing.{LooseStanding}

-- the answer for a line
abbrev pub LooselyBy : List ℕ → List ℕ → List ℕ → List ℕ → Judged (Declared × List BodyCode) → Result Known ℕ → Type 0
LooselyBy s l' ts' tb' (bad n) j = (j ≡ Err n) × (1 ≤ n)
LooselyBy s l' ts' tb' (good p) j = (kn : Known) × (j ≡ Ok kn) × LooseStanding s l' ts' tb' kn p.0

-- the line at an offset
pub record JudgesLoosely (s l ts tb : List ℕ) (kn : Known) (at : ℕ) (j : Result Known ℕ) (l' ts' tb' : List ℕ) : Type 0 where
  pub says : (k : Declared) → LooseStanding s l ts tb kn k → LooselyBy s l' ts' tb' (judge_line loosely k (line_at (drop at s))) j

-- the same, where rows 4 and 5 find no fault in it
pub record LooseKnown (s l ts tb : List ℕ) (kn : Known) (at : ℕ) (j : Result Known ℕ) (l' ts' tb' : List ℕ) : Type 0 where
  pub says : (k : Declared) → LooseStanding s l ts tb kn k → KnownLine s at → LooselyBy s l' ts' tb' (judge_line loosely k (line_at (drop at s))) j

-- the parts after the head word w, of a line of n brackets and words
pub record LooseHeaded (s l ts tb : List ℕ) (kn : Known) (w : Kind.Word) (at n : ℕ) (j : Result Known ℕ) (l' ts' tb' : List ℕ) : Type 0 where
  pub entered : Entered
  pub enters : LooseEnters s l ts tb kn (line_head_of w) at entered l' ts' tb'
  pub judged : j ≡ judgement kn entered n

-- the line of n brackets and words whose parts begin at p
pub record LooseForm (s l ts tb : List ℕ) (kn : Known) (p n : ℕ) (j : Result Known ℕ) (l' ts' tb' : List ℕ) : Type 0 where
  pub says : (k : Declared) → LooseStanding s l ts tb kn k → (ln : Line) → LineIs s ln p n k → LooselyBy s l' ts' tb' (judge_line loosely k ln) j
