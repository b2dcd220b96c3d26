-- A line by its one form: what its judgement rests on.
use Rattle.std.specs.Prelude.{true, false, List, ◌≡◌, ℕ, ◌≤◌, drop, Result}
use Rattle.std.proofs.Math.Option.{some}
use Rattle.law.specs.Environment.{Declared}
use Rattle.law.specs.Lines.{Line}
use Rattle.law.specs.Trees.{Tree, form, nodes, form_of, first, before}
use Rattle.law_theorems.specs.Readings.{stack_at}
use Rattle.law.specs.Verdict.{Read, strictly, judge_line}
use Rattle.law.specs.Words.{Word, worded}
use Rattle.text_lines.specs.Passes.{line_at, balanced_from}
use Rattle.text_words.specs.Passes.{known_all}
use Rattle.rule_known.specs.declared.Known.{Known}
use Rattle.rule_judge.specs.Judging.{Standing, JudgedBy}

-- the line ln is the form whose parts begin at p; its words are known, it has n brackets and words, and `main` has not come
pub record LineIs (s : List ℕ) (ln : Line) (p n : ℕ) (k : Declared) : Type 0 where
  pub form-is : form_of ln ≡ some (form (first (stack_at s p)))
  pub read : Tree Word
  pub worded-is : worded (form (first (stack_at s p))) ≡ some read
  pub count-is : n ≡ nodes (form (first (stack_at s p)))
  pub short : n ≤ 32768
  pub going : k.ended ≡ false

-- such a line, judged
pub record JudgesForm (s l ts : List ℕ) (kn : Known) (p n : ℕ) (j : Result Known ℕ) (l' ts' : List ℕ) : Type 0 where
  pub says : (r : Read) (bs : List ℕ) → Standing s l ts kn r bs → (ln : Line) → LineIs s ln p n r.known → JudgedBy s l' ts' r (judge_line strictly r.known ln) j

-- rows 4 and 5 find no fault in the line at an offset
pub record KnownLine (s : List ℕ) (at : ℕ) : Type 0 where
  pub balanced : balanced_from (drop at s) before ≡ true
  pub known : known_all (stack_at s at) ≡ true

-- such a line, judged
pub record JudgesKnown (s l ts : List ℕ) (kn : Known) (at : ℕ) (j : Result Known ℕ) (l' ts' : List ℕ) : Type 0 where
  pub says : (r : Read) (bs : List ℕ) → Standing s l ts kn r bs → KnownLine s at → JudgedBy s l' ts' r (judge_line strictly r.known (line_at (drop at s))) j
