-- The refusal table: its rows in order for a text, and the lowest of 4 to 9 for a line.
use Rattle.std.specs.Prelude.{Bool, true, false, ◌&&◌, not, List, [], ◌∷◌, ◌++◌, ℕ, suc, ◌+◌, leb, length}
use Rattle.std.proofs.Math.Option.{Option, none, some}
use Rattle.law.specs.Base as Base
use Rattle.law.specs.Ceilings.{line_bounded}
use Rattle.law.specs.Code.{BodyCode, no_frame}
use Rattle.law.specs.Elaborate.{elab_body}
use Rattle.law.specs.Environment.{Declared, Environment, declare_line, frame_of, nothing_declared, within}
use Rattle.law.specs.Forms.{line_form}
use Rattle.law.specs.Lines.{Line, lines_of, refused_at}
use Rattle.law.specs.Names.{entry_of}
use Rattle.law.specs.Rules.{keeps_rules}
use Rattle.law.specs.Script.{Entry, new_main, new_proc, new_type, new_var}
use Rattle.law.specs.Trees.{form_of, nodes}
use Rattle.law.specs.Words.{worded}

-- ---- a line: the number of the first stage that gives nothing is the lowest that applies

pub data Judged (A : Type 0) : Type 0 where
  good : A → Judged A
  bad : ℕ → Judged A

infixl 1 ◌>>=◌
unfoldable pub ◌>>=◌ : {A B : Type 0} → Judged A → (A → Judged B) → Judged B
good a >>= f = f a
bad n >>= f = bad n

-- the refusal n where a stage gives nothing, or a test fails
unfoldable pub or_bad : {A : Type 0} → ℕ → Option A → Judged A
or_bad n none = bad n
or_bad n (some a) = good a

unfoldable pub must : ℕ → Bool → Judged (Unit {0})
must n true = good tt
must n false = bad n

-- how kinds are judged: the code of a line's body, or nothing
abbrev pub Fitting : Type 0
Fitting = Environment → Entry → Option (List BodyCode)

-- the checker's: bodies must elaborate
unfoldable pub strictly : Fitting
strictly σ (new_type w d) = some []
strictly σ (new_var w t) = some []
strictly σ (new_proc w ps b) = Base.◌>>=◌ (elab_body (within σ ps).types (within σ ps).vars (frame_of σ ps) b) λ c. some (c ∷ [])
strictly σ (new_main b) = Base.◌>>=◌ (elab_body σ.types σ.vars no_frame b) λ c. some (c ∷ [])

-- the marking machine's: kinds inside a body are left out
unfoldable pub loosely : Fitting
loosely σ e = some []

-- the stages of a line, one for each row; k is what the lines before it declared
unfoldable pub judge_line : Fitting → Declared → Line → Judged (Declared × List BodyCode)
judge_line fitting k l =
    or_bad 4 (form_of l) >>= λ t.
    or_bad 5 (worded t) >>= λ v.
    must 6 (not k.ended) >>= λ _.
    or_bad 6 (line_form k.stmts v) >>= λ f.
    or_bad 7 (entry_of k.env f.0) >>= λ e.
    must 8 (keeps_rules k.env.types e) >>= λ _.
    or_bad 8 (fitting k.env e) >>= λ cs.
    must 9 (line_bounded k e && leb (k.nodes + nodes t) 4096) >>= λ _.
    good (declare_line k e f.1 (k.nodes + nodes t), cs)

-- ---- a text

pub data Verdict (A : Type 0) : Type 0 where
  accepted : A → Verdict A
  refused : ℕ → ℕ → Verdict A  -- number and line

-- what the lines so far gave: the tables, and the bodies' code
pub record Read : Type 0 where
  pub known : Declared
  pub codes : List BodyCode

abbrev pub has : Declared → List BodyCode → Read
has k cs = record { known = k; codes = cs }

-- a line's answer, at its number: its refusal, or what comes after it
unfoldable pub onward : {A B : Type 0} → Judged A → ℕ → (A → Verdict B) → Verdict B
onward (good a) n f = f a
onward (bad m) n f = refused m n

-- from line n on: the first faulty line; a missing `main` is judged after all lines, one past the last
unfoldable pub judge_lines : Fitting → ℕ → List Line → Read → Verdict Read
judge_lines fitting n [] r = onward (must 6 r.known.ended) n λ _. accepted r
judge_lines fitting n (l ∷ ls) r = onward (judge_line fitting r.known l) n λ p. judge_lines fitting (suc n) ls (has p.0 (r.codes ++ p.1))

-- rows 1 to 3: the working list is long enough, the text short enough, the line of the first refused byte
unfoldable pub opening : {A : Type 0} → Bool → Bool → Option ℕ → (List Line → Verdict A) → List Line → Verdict A
opening false short o f ls = refused 1 0
opening true false o f ls = refused 2 0
opening true true (some n) f ls = refused 3 n
opening true true none f ls = f ls

-- rows 1 to 9: 1, 2, then 3 at the first refused byte, then the first faulty line
unfoldable pub judge : Fitting → List ℕ → ℕ → Verdict Read
judge fitting text work = opening (leb 16384 work) (leb (length text) 32768) (refused_at 1 text) (λ ls. judge_lines fitting 1 ls (has nothing_declared [])) (lines_of text)
