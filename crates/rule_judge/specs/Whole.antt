-- A line as one answer for rows 6 to 8: what it declares, and the code of its body if it has one.
use Rattle.std.specs.Prelude.{List, ℕ}
use Rattle.std.proofs.Math.Option.{Option, some}
use Rattle.law.specs.Base.{◌>>=◌}
use Rattle.law.specs.Code.{BodyCode}
use Rattle.law.specs.Environment.{Declared}
use Rattle.law.specs.Forms.{LineHead}
use Rattle.law_theorems.specs.FormsByDepth.{line_form, line_by}
use Rattle.law.specs.Names.{entry_of}
use Rattle.law.specs.Rules.{keeps_rules}
use Rattle.law.specs.Script.{Entry}
use Rattle.rule_stages.specs.Stages.{Staged, staged}
use Rattle.law.specs.Syntax.{LineForm}
use Rattle.law.specs.Trees.{Tree, Trees, Run, list}
use Rattle.law.specs.Verdict.{strictly}
use Rattle.law.specs.Words.{worded, worded_all}

-- a line's tree; n statements came before
unfoldable pub line_in : ℕ → Tree Run → Option (LineForm × ℕ)
line_in n t = worded t >>= line_form n

-- the parts after its head word
unfoldable pub head_in : LineHead → ℕ → Trees Run → Option (LineForm × ℕ)
head_in h n us = worded_all us >>= λ vs. line_by h n (list vs)

-- rows 6 to 8
unfoldable pub whole_staged : Declared → Option (LineForm × ℕ) → Staged (Entry × List BodyCode)
whole_staged k o = staged (o >>= λ p. some p.0) (entry_of k.env) (keeps_rules k.env.types) (λ e. strictly k.env e >>= λ cs. some (e, cs))
