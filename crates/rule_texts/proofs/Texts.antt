-- Whole texts: rows 1 to 3, then the lines with nothing declared; the verdict told, and the working list left.
use Rattle.std.proofs.Common.{Result}
use mathlib.Core.Path.{◌≡◌, refl, sym, ap, ◌∙◌}
use mathlib.Core.Bool.{Bool, true, false}
use mathlib.Core.List.{List, [], ◌∷◌, ◌++◌}
use mathlib.Core.Option.{Option, none, some}
use Prim.Native.Nat.{ℕ, zero, suc, ◌<◌, ◌≤◌, min}
use native.Mathlib.Omega.{arith}
use native.Mathlib.Nat.{min-eq_left}
use borrow.Author.Tests.{le-leb, lt-leb, leb-true, leb-false}
use lib.Dec.{leb}
use lib.ListN.{length, get_or, take, drop, replicate, drop_of_length-le}
use lib.Seq.{drop_at, take_at, length_front, length-take-le}
use Rattle.std.specs.Prelude.{Option as Maybe, Some, None}
use Rattle.law.specs.Environment.{nothing_declared}
use Rattle.code.specs.LayoutSize.{size_bodies, size_symbols, size_types}
use Rattle.law.specs.Lines.{refused_at}
use Rattle.law.specs.Verdict as Meaning
use Rattle.law.specs.Verdict.{Fitting, Read, has, accepted, refused, opening, judge, judge_lines, strictly}
use Rattle.law.specs.Whole.{verdict_of, work_after}
use Rattle.code.proofs.LayoutBodies.{no-bodies}
use Rattle.code.proofs.LinesMeasured.{measured-start}
use Rattle.code.proofs.TextRoom.{room-start}
use Rattle.law_answers.specs.declared.Refusal.{Refusal}
use Rattle.law_answers.specs.Verdicts.{told_verdict}
use Rattle.text_lines.specs.Passes.{line_of}
use Rattle.rule_declarations.specs.State.{notes, start_state}
use Rattle.rule_declarations.proofs.Starting.{holds-start}
use Rattle.rule_known.specs.declared.Known.{Known}
use Rattle.rule_judge.specs.Judging.{Standing}
use Rattle.rule_texts.specs.Answers.{CheckedBy, ChecksLines, Checks, refused_by, start_known, told_by}

-- before any line
pub standing-start : (s l ts : List ℕ) → length s ≤ 32768 → 16384 ≤ length l → notes ≤ length ts → ((i : ℕ) → get_or ts i 0 ≡ 0)
    → Standing s l ts start_known (has nothing_declared []) []
unfolding start_known start_state size_symbols size_types size_bodies
standing-start s l ts a b c h = record {
  holds = holds-start s l ts a b c h;
  stmts-are = refl;
  nodes-are = refl;
  ended_is = refl;
  measured = measured-start;
  room = room-start;
  top-is = refl;
  bodies = λ other. no-bodies other 1 1 l;
  main-is = λ e. absurd (let z : ◌≡◌ {A = ℕ} 0 1 = cc in omega arith);
}

-- ---- row 3: a line, or none

pub none-refused : (s : List ℕ) → line_of (refused_at 1 s) ≡ None → refused_at 1 s ≡ none
none-refused s h = go (refused_at 1 s) h
  where
    go : (o : Option ℕ) → line_of o ≡ None → o ≡ none
    go none h = refl
    go (some m) h = absurd (let z : ◌≡◌ {A = ℕ} 0 1 = cc in omega arith)

pub some-refused : (s : List ℕ) (n : ℕ) → line_of (refused_at 1 s) ≡ Some n → refused_at 1 s ≡ some n
some-refused s n h = go (refused_at 1 s) h
  where
    go : (o : Option ℕ) → line_of o ≡ Some n → o ≡ some n
    go none h = absurd (let z : ◌≡◌ {A = ℕ} 0 1 = cc in omega arith)
    go (some m) h = let z : m ≡ n = cc in ap some z

-- ---- the rows in their order

module _ (s l ts : List ℕ) (c : Result Known Refusal) where
  pub check-bench : length l < 16384 → c ≡ refused_by 1 0 → Checks s l ts c l ts
  unfolding verdict_of judge opening
  check-bench h e = record { says = λ _ _. rw (e, lt-leb 16384 (length l) h) (refl, omega arith) }

  module _ (g : 16384 ≤ length l) where
    pub check-length : 32768 < length s → c ≡ refused_by 2 0 → Checks s l ts c l ts
    unfolding verdict_of judge opening
    check-length h e = record { says = λ _ _. rw (e, le-leb 16384 (length l) g, lt-leb (length s) 32768 h) (refl, omega arith) }

    module _ (h : length s ≤ 32768) (o : Maybe ℕ) (f : o ≡ line_of (refused_at 1 s)) where
      pub check-byte : (n : ℕ) → o ≡ Some n → c ≡ refused_by 3 n → Checks s l ts c l ts
      unfolding verdict_of judge opening
      check-byte n i e = record {
        says = λ _ _.
            rw (e, le-leb 16384 (length l) g, le-leb (length s) 32768 h, some-refused s n (sym f ∙ i)) (refl, omega arith);
      }

      pub check-rest : (kn : Known) (l' ts' : List ℕ) → o ≡ None → kn ≡ start_known → ChecksLines s l ts kn c l' ts' → Checks s l ts c l' ts'
      unfolding verdict_of judge opening
      check-rest kn l' ts' i k C = record {
        says = λ a z.
            let S : Standing s l ts kn (has nothing_declared []) [] = rw k (standing-start s l ts h g a z) in
            rw (le-leb 16384 (length l) g, le-leb (length s) 32768 h, none-refused s (sym f ∙ i)) (C.says (has nothing_declared []) [] S);
      }

pub ruleset check-laws = (check-bench, check-length, check-byte, check-rest)

-- ---- the verdict

pub zeros : (n i : ℕ) → ◌≡◌ {A = ℕ} (get_or (replicate n 0) i 0) 0
zeros zero i = refl
zeros (suc n) zero = refl
zeros (suc n) (suc i) = zeros n i

told_is : (s l ts : List ℕ) (v : Meaning.Verdict Read) (c : Result Known Refusal) → CheckedBy s l ts v c → told_by c ≡ told_verdict v
unfolding told_verdict
told_is s l ts (accepted q) c h = rw h.1 refl
told_is s l ts (refused m n) c h = rw h.0 refl

-- of a working list n numbers are used: the first 16,384, or all if there are fewer
pub part-long : (l : List ℕ) (n : ℕ) → n ≡ min 16384 (length l) → n ≡ length (take n l)
part-long l n e = sym (length-take-le n l (omega arith))

-- and so of the list as a call has left that part
pub part-again : (l l' : List ℕ) (n : ℕ) → n ≡ min 16384 (length l) → length l' ≡ length (take n l) → n ≡ length (take n (l' ++ drop n l))
part-again l l' n i e = let k = part-long l n i in rw (take_at l' (drop n l) n (e ∙ sym k)) (k ∙ sym e)

pub ruleset part-laws = (part-long, part-again)

pub judged-same : (fitting : Fitting) (s : List ℕ) (n : ℕ) → judge fitting s (min 16384 n) ≡ judge fitting s n
unfolding judge
judged-same fitting s n = go (leb 16384 n) refl
  where
    go : (b : Bool) → leb 16384 n ≡ b → judge fitting s (min 16384 n) ≡ judge fitting s n
    go true e = let i : min 16384 n ≡ 16384 = min-eq_left (leb-true 16384 n e) in rw (i, e) refl
    go false e = let i : n < 16384 = leb-false 16384 n e in let k : min 16384 n ≡ n = omega arith in rw k refl

pub verdict-same : (s : List ℕ) (n : ℕ) → verdict_of s (min 16384 n) ≡ verdict_of s n
unfolding verdict_of
verdict-same s n = judged-same strictly s n

-- and the others stay
pub after_same : (l l' : List ℕ) (n : ℕ) → n ≡ min 16384 (length l) → length l' ≡ length (take n l) → work_after (l' ++ drop n l) ≡ work_after l
unfolding work_after
after_same l l' n i e = go (leb 16384 (length l)) refl
  where
    long : length (l' ++ drop n l) ≡ length l
    long = length_front l l' n e

    go : (b : Bool) → leb 16384 (length l) ≡ b → (replicate (min 16384 (length (l' ++ drop n l))) 0 ++ drop 16384 (l' ++ drop n l)) ≡ (replicate (min 16384 (length l)) 0 ++ drop 16384 l)
    go true b =
        let h : 16384 ≤ length l = leb-true 16384 (length l) b in
        let k : n ≡ 16384 = omega arith in
        let d : drop 16384 (l' ++ drop n l) ≡ drop n l = drop_at l' (drop n l) 16384 (e ∙ sym (part-long l n i) ∙ k) in
        rw (long, d, k) refl
    go false b =
        let h : length l < 16384 = leb-false 16384 (length l) b in
        rw (long, drop_of_length-le (l' ++ drop n l) {i = 16384} (omega (arith, long)), drop_of_length-le l {i = 16384} (omega arith)) refl

module _ (s l : List ℕ) (n : ℕ) (i : n ≡ min 16384 (length l)) (c : Result Known Refusal) (l' ts' : List ℕ) where
  pub verdict-told : (r : Result (Unit {0}) Refusal) → Checks s (take n l) (replicate notes 0) c l' ts' → r ≡ told_by c → r ≡ told_verdict (verdict_of s (length l))
  verdict-told r C e =
      let k : length (take n l) ≡ min 16384 (length l) = sym (part-long l n i) ∙ i in
      let v : verdict_of s (length (take n l)) ≡ verdict_of s (length l) = ap (λ m. verdict_of s m) k ∙ verdict-same s (length l) in
      e ∙ told_is s l' ts' (verdict_of s (length (take n l))) c (C.says (omega arith) (zeros notes)) ∙ ap told_verdict v

  pub verdict-clears : (l'' : List ℕ) → length l' ≡ length (take n l) → l'' ≡ work_after (l' ++ drop n l) → l'' ≡ work_after l
  verdict-clears l'' e f = f ∙ after_same l l' n i e

pub ruleset verdict-laws = (verdict-told, verdict-clears)
