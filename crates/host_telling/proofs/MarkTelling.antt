-- The ways through a report of the marking machine.
use Rattle.std.proofs.Common.{Result, Ok, Err}
use mathlib.Core.Path.{◌≡◌, refl, sym, subst}
use mathlib.Core.List.{List, [], ◌∷◌}
use Prim.Native.Nat.{ℕ}
use lib.IntN.{ℤ}
use mir.Syntax.{w64}
use mir.Val.{SFits}
use mir.Facts.{to_z-of_z}
use Rattle.leaf_integers.proofs.Machine.{wire}
use Rattle.leaf_bytes.specs.Bytes.{bytes}
use Rattle.law.specs.Print.{decimal_of, signed_of, row, outcome, cells, show}
use Rattle.law.specs.Whole as Whole
use Rattle.law_answers.specs.declared.Ending.{Ending}
use Rattle.law_answers.specs.declared.Ending.TheVariants.{Normal, Raised, Spent, Stuck}
use Rattle.law_answers.specs.declared.Marked.{Marked}
use Rattle.law_answers.specs.declared.Refusal.{Refusal}
use Rattle.law_answers.specs.MarkingReports.{mark_outcome, mark_ending, MarkReports}
use Rattle.law_answers.specs.Written.{Puts, names_at}
use Rattle.host_writing.proofs.Writing.{puts_then}
use Rattle.host_telling.specs.MarkTold.{marked_row, mark_rows}

module _ (a : Marked) (l : List ℕ) (p r : ℕ) (m : List ℕ) where
  by : (o : Ending) → a.ending ≡ o → Puts (outcome (mark_outcome o) a.steps) l p r m → Puts (marked_row a) l p r m
  unfolding marked_row
  by o e f = subst (λ (x : Ending). Puts (outcome (mark_outcome x) a.steps) l p r m) (sym e) f

  pub by-normal : a.ending ≡ Normal → Puts (row (bytes "normal" ∷ decimal_of a.steps ∷ [])) l p r m → Puts (marked_row a) l p r m
  unfolding mark_outcome outcome
  by-normal e f = by Normal e f

  pub by-spent : a.ending ≡ Spent → Puts (row (bytes "spent" ∷ decimal_of a.steps ∷ [])) l p r m → Puts (marked_row a) l p r m
  unfolding mark_outcome outcome
  by-spent e f = by Spent e f

  pub by-stuck : a.ending ≡ Stuck → Puts (row (bytes "stuck" ∷ decimal_of a.steps ∷ [])) l p r m → Puts (marked_row a) l p r m
  unfolding mark_outcome outcome
  by-stuck e f = by Stuck e f

  pub by-raised : (z : ℤ) (n : ℕ) → a.ending ≡ Raised z n → SFits w64 z → Puts (row (bytes "exception" ∷ signed_of (wire z) ∷ decimal_of n ∷ decimal_of a.steps ∷ [])) l p r m
      → Puts (marked_row a) l p r m
  unfolding mark_outcome outcome
  by-raised z n e y f = by (Raised z n) e (subst (λ (x : ℤ). Puts (row (bytes "exception" ∷ signed_of x ∷ decimal_of n ∷ decimal_of a.steps ∷ [])) l p r m) (to_z-of_z y) f)

  pub as-raised : (z : ℤ) (n : ℕ) → a.ending ≡ Raised z n → Puts (row (bytes "exception" ∷ signed_of z ∷ decimal_of n ∷ decimal_of a.steps ∷ [])) l p r m → Puts (marked_row a) l p r m
  unfolding mark_outcome outcome
  as-raised z n e f = by (Raised z n) e f

pub ruleset marked-laws = (by-normal, by-spent, by-stuck, by-raised, as-raised)

module _ (s ns : List ℕ) (vs : List ℤ) (ms : List ℕ) (x : Result Marked Refusal) (l : List ℕ) (p r : ℕ) (m : List ℕ) where
  pub report-refused : (n : Refusal) → x ≡ Err n → Puts (row (bytes "refused" ∷ decimal_of n.number ∷ decimal_of n.line ∷ [])) l p r m → Puts (mark_rows s ns vs ms x) l p r m
  unfolding mark_rows
  report-refused n e f = subst (λ (y : Result Marked Refusal). Puts (mark_rows s ns vs ms y) l p r m) (sym e) f

  pub report-ran : (a : Marked) (q : ℕ) (k : List ℕ) → x ≡ Ok a → Puts (marked_row a) l p q k → Puts (cells 1 (names_at s ns) vs ms) k q r m → Puts (mark_rows s ns vs ms x) l p r m
  unfolding mark_rows
  report-ran a q k e f g = subst (λ (y : Result Marked Refusal). Puts (mark_rows s ns vs ms y) l p r m) (sym e) (puts_then (marked_row a) (cells 1 (names_at s ns) vs ms) l p q k r m f g)

pub ruleset mark-laws = (report-refused, report-ran)

-- ---- a run and its report

shown-is : (s ns : List ℕ) (q : Whole.Report) (x : Result Marked Refusal) (vs : List ℤ) (ms : List ℕ) → MarkReports q x vs ms → mark_rows s ns vs ms x ≡ show (names_at s ns) q
unfolding mark_rows show marked_row mark_ending
shown-is s ns q (Err n) vs ms R = rw (← R.ending) refl
shown-is s ns q (Ok a) vs ms R = rw (← R.ending, ← R.values, ← R.marks) refl

pub script-marked : (s ns : List ℕ) (q : Whole.Report) (x : Result Marked Refusal) (vs : List ℤ) (ms l : List ℕ) (p r : ℕ) (m : List ℕ) → MarkReports q x vs ms → Puts (mark_rows s ns vs ms x) l p r m
    → Puts (show (names_at s ns) q) l p r m
script-marked s ns q x vs ms l p r m R f = subst (λ (bs : List ℕ). Puts bs l p r m) (shown-is s ns q x vs ms R) f
