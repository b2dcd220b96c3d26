-- A report's rows after a run by either machine, and the store that it reports.
use Rattle.std.proofs.Common.{Result, Ok, Err}
use mathlib.Core.Path.{◌≡◌, refl}
use mathlib.Core.List.{List, [], ◌∷◌}
use Prim.Native.Nat.{ℕ}
use lib.IntN.{ℤ}
use Rattle.leaf_bytes.specs.Bytes.{bytes}
use Rattle.law.specs.Print.{decimal_of, row}
use Rattle.law.specs.Verdict.{Verdict, Read}
use Rattle.law.specs.Verdict.{refused as turned_down}
use Rattle.law.specs.Whole as Whole
use Rattle.law_answers.specs.Verdicts.{cells_told, refusal_of}
use Rattle.law_answers.specs.declared.Answer.{Answer}
use Rattle.law_answers.specs.declared.Refusal.{Refusal}
use Rattle.law_answers.specs.declared.Marked.{Marked}
use Rattle.law_answers.specs.RunReports.{Reports}
use Rattle.law_answers.specs.MarkingReports.{MarkReports}
use Rattle.law_answers.specs.Written.{Puts, names_at}
use Rattle.host_telling.specs.Told.{report_rows}
use Rattle.host_telling.specs.MarkTold.{mark_rows}
use Rattle.host_telling.proofs.Telling.{script-shown}
use Rattle.host_telling.proofs.MarkTelling.{script-marked}
use Rattle.law_answers.specs.Shown.{Shows}

module _ (s ns : List ℕ) (q : Whole.Report) (vs : List ℤ) (ms l : List ℕ) (r : ℕ) (m : List ℕ) where
  pub run-shows : (x : Result Answer Refusal) → Reports q x vs ms → Puts (report_rows s ns vs ms x) l 0 r m → Shows (names_at s ns) q l r m vs ms
  run-shows x R f = record { rows = script-shown s ns q x vs ms l 0 r m R f; values = R.values; marks = R.marks }

  pub mark-shows : (x : Result Marked Refusal) → MarkReports q x vs ms → Puts (mark_rows s ns vs ms x) l 0 r m → Shows (names_at s ns) q l r m vs ms
  mark-shows x R f = record { rows = script-marked s ns q x vs ms l 0 r m R f; values = R.values; marks = R.marks }

-- ---- a script's answer: on a refusal its row

cells_refused : (v : Verdict Read) (m n : ℕ) → v ≡ turned_down m n → cells_told v ≡ Err (refusal_of m n)
unfolding cells_told
cells_refused v m n e = rw e refl

pub answer_refused : (x : Refusal) (v : Verdict Read) (l l' : List ℕ) (r : ℕ) → Err x ≡ cells_told v → Puts (row (bytes "refused" ∷ decimal_of x.number ∷ decimal_of x.line ∷ [])) l 0 r l'
    → (m n : ℕ) → v ≡ turned_down m n → Puts (row (bytes "refused" ∷ decimal_of m ∷ decimal_of n ∷ [])) l 0 r l'
answer_refused x v l l' r h f m n e = let g : cells_told v ≡ Err (refusal_of m n) = cells_refused v m n e in let k : x ≡ refusal_of m n = cc in rw k at f

pub answer_counted : (k : ℕ) (v : Verdict Read) (P : Type 0) → Ok k ≡ cells_told v → (m n : ℕ) → v ≡ turned_down m n → P
answer_counted k v P h m n e = absurd (let g : cells_told v ≡ Err (refusal_of m n) = cells_refused v m n e in cc)
