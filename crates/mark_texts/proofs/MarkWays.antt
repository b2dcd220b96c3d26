-- Runs of the marking machine: rows 10 and 11 by the tables, the run by the bodies' table, and the whole by the judgement.
use Rattle.std.proofs.Common.{Result, Ok, Err}
use mathlib.Core.Path.{◌≡◌, refl, sym, ap, subst, ◌∙◌}
use mathlib.Core.Bool.{false}
use mathlib.Core.List.{List, [], ◌++◌}
use mathlib.Core.Option.{Option, none, some}
use Prim.Native.Nat.{ℕ, suc, ◌-◌, min}
use native.Mathlib.Omega.{arith}
use lib.IntN.{ℤ}
use lib.ListN.{length, take, drop, replicate}
use lib.Seq.{take_at}
use Rattle.rule_declarations.specs.State.{notes}
use Rattle.law.specs.Code.{no_frame}
use Rattle.law.specs.Environment.{PlacedBody}
use Rattle.law.specs.Machine.{Answer, State, state}
use Rattle.law.specs.Script.{done}
use Rattle.law.specs.Store.{store_fault}
use Rattle.law.specs.Verdict.{Verdict, Read, accepted, refused, judge, loosely}
use Rattle.law.specs.Whole.{report, fresh, lent, on_store, unless, mark_all, mark_of, work_after}
use Rattle.law_theorems.proofs.LinesCover.{judged-covered}
use Rattle.law_answers.specs.declared.Marked.{Marked}
use Rattle.law_answers.specs.declared.Refusal.{Refusal}
use Rattle.law_answers.specs.Verdicts.{refusal_of}
use Rattle.law_answers.specs.MarkingReports.{mark_ending, MarkReports}
use Rattle.rule_stores.specs.Stores.{StoreFault, row_number}
use Rattle.rule_known.specs.declared.Known.{Known}
use Rattle.table_bodies.proofs.Calling.{all-is}
use Rattle.rule_judge_loose.specs.Texts.{AdmittedBy, Admits}
use Rattle.rule_judge_loose.proofs.Keeping.{all-stand}
use Rattle.mark_machine.specs.Answers.{MarkAnswers, MarksLent}
use Rattle.code_store.proofs.Lending.{lent-store}
use Rattle.rule_stores.proofs.Rows.{no_row}
use Rattle.rule_texts.proofs.Texts.{after_same, judged-same, part-long, zeros}
use Rattle.mark_texts.specs.Reports.{MarksLoaded, MarksChecked}

-- a body for the numbers that have none
nothing : PlacedBody
nothing = record { types = []; vars = []; frame = no_frame; body = record { stmts = done; handles = false; handler = done } }

module _ (s l ts tb : List ℕ) (kn : Known) (vs : List ℤ) (ms : List ℕ) (budget f : ℕ) (F : StoreFault l ts kn.state vs ms f) where
  pub loaded-refused : (r : Result Marked Refusal) → ((f ≡ 0) → ⊥) → r ≡ Err (record { number = f; line = 0 }) → MarksLoaded s l ts tb kn vs ms budget r vs ms
  unfolding on_store lent row_number mark_ending
  loaded-refused r ne e = record {
    says = λ work q acc S _.
        go q (store_fault q.known.env.types q.known.cells vs ms) refl (F.says s q.known S.places S.holds (judged-covered loosely s work q acc));
  }
    where
      go : (q : Read) (o : Option ℕ) → store_fault q.known.env.types q.known.cells vs ms ≡ o → f ≡ row_number o → MarkReports (on_store q.known (mark_all q.known.bodies []) vs ms budget) r vs ms
      go q none h z = absurd (ne z)
      go q (some n) h z = rw (h, e) (record { ending = rw z refl; values = refl; marks = refl })

  pub loaded-run : (a : Marked) (r : Result Marked Refusal) (n : ℕ) (vs' : List ℤ) (ms' : List ℕ) → f ≡ 0 → n ≡ kn.state.procs - 1 → MarksLent s l ts tb n vs ms budget a vs' ms' → r ≡ Ok a
      → MarksLoaded s l ts tb kn vs ms budget r vs' ms'
  unfolding on_store lent row_number mark_ending report store_fault
  loaded-run a r n vs' ms' zero_row p R e = record {
    says = λ work q acc S ended.
        let c = S.holds.cells_are in let d = S.holds.few-cells in
        let many : length q.known.bodies ≡ suc n = omega (arith, p, S.holds.procs-are, S.main-there ended) in
        go q (store_fault q.known.env.types q.known.cells vs ms) refl (F.says s q.known S.places S.holds (judged-covered loosely s work q acc)) λ none_is.
        let A = R.says S.places q.known.bodies nothing (all-stand S.bodies nothing) (omega (arith, many)) (lent-store q.known.env.types S.holds.scene.table q.known.cells vs ms (omega arith) none_is) in
        subst (λ (x : State → Answer). MarkAnswers (x (state (fresh vs ms) budget)) (length vs) budget a vs' ms') (sym (all-is nothing q.known.bodies n many)) A;
  }
    where
      go : (q : Read) (o : Option ℕ) → store_fault q.known.env.types q.known.cells vs ms ≡ o → f ≡ row_number o
          → (store_fault q.known.env.types q.known.cells vs ms ≡ none → MarkAnswers (mark_all q.known.bodies [] (state (fresh vs ms) budget)) (length vs) budget a vs' ms')
          → MarkReports (on_store q.known (mark_all q.known.bodies []) vs ms budget) r vs' ms'
      go q none h z k =
          let A = k h in
          rw (h, e) (record { ending = rw (A.outcome, A.steps) refl; values = A.values; marks = A.marks })
      go q (some n) h z k = absurd (no_row _ _ (h ∙ ap some (sym z ∙ zero_row)))

pub ruleset loaded-laws = (loaded-refused, loaded-run)

module _ (s l ts tb : List ℕ) (c : Result Known Refusal) (vs : List ℤ) (ms : List ℕ) (budget : ℕ) where
  pub checked_refused : (e : Refusal) (r : Result Marked Refusal) → c ≡ Err e → r ≡ Err e → MarksChecked s l ts tb c vs ms budget r vs ms
  unfolding unless mark_ending
  checked_refused x r h e = record { says = λ work C. go (judge loosely s work) C }
    where
      go : (v : Verdict Read) → AdmittedBy s l ts tb v c → MarkReports (unless v vs ms λ q. on_store q.known (mark_all q.known.bodies []) vs ms budget) r vs ms
      go (accepted q) C = absurd (cc (h, C.1))
      go (refused m n) C = let d : x ≡ refusal_of m n = cc (h, C.0) in rw (e, d) (record { ending = refl; values = refl; marks = refl })

  pub checked-run : (kn : Known) (r : Result Marked Refusal) (vs' : List ℤ) (ms' : List ℕ) → c ≡ Ok kn → MarksLoaded s l ts tb kn vs ms budget r vs' ms' → MarksChecked s l ts tb c vs ms budget r vs' ms'
  unfolding unless
  checked-run kn r vs' ms' h R = record { says = λ work C. go work (judge loosely s work) refl C }
    where
      go : (work : ℕ) (v : Verdict Read) → judge loosely s work ≡ v → AdmittedBy s l ts tb v c
          → MarkReports (unless v vs ms λ q. on_store q.known (mark_all q.known.bodies []) vs ms budget) r vs' ms'
      go work (accepted q) e C = let i : kn ≡ C.0 = cc (h, C.1) in R.says work q e (rw i C.2) C.3
      go work (refused m n) e C = absurd (cc (h, C.0))

pub ruleset checked-laws = (checked_refused, checked-run)

-- ---- the whole

module _ (s l : List ℕ) (n : ℕ) (i : n ≡ min 16384 (length l)) (c : Result Known Refusal) (l' ts' tb' : List ℕ) where
  pub judged-here : Admits s (take n l) (replicate notes 0) (replicate 264 0) c l' ts' tb' → AdmittedBy s l' ts' tb' (judge loosely s (length l)) c
  judged-here C =
      let k : n ≡ length (take n l) = part-long l n i in
      let v : judge loosely s (length (take n l)) ≡ judge loosely s (length l) = ap (λ m. judge loosely s m) (sym k ∙ i) ∙ judged-same loosely s (length l) in
      subst (λ (x : Verdict Read). AdmittedBy s l' ts' tb' x c) v (C.says (omega arith) (zeros notes) (omega arith))

  pub mark-told : (vs : List ℤ) (ms : List ℕ) (budget : ℕ) (r : Result Marked Refusal) (vs' : List ℤ) (ms' : List ℕ) → Admits s (take n l) (replicate notes 0) (replicate 264 0) c l' ts' tb' → length l' ≡ length (take n l)
      → MarksChecked s (take n (l' ++ drop n l)) ts' tb' c vs ms budget r vs' ms' → MarkReports (mark_of s (length l) vs ms budget) r vs' ms'
  unfolding mark_of
  mark-told vs ms budget r vs' ms' C e R =
      let k : n ≡ length (take n l) = part-long l n i in
      let front : take n (l' ++ drop n l) ≡ l' = take_at l' (drop n l) n (e ∙ sym k) in
      (rw front at R).says (length l) (judged-here C)

-- the working list
pub list-clears : (l : List ℕ) (n : ℕ) (l' l'' : List ℕ) → n ≡ min 16384 (length l) → length l' ≡ length (take n l) → l'' ≡ work_after (l' ++ drop n l) → l'' ≡ work_after l
list-clears l n l' l'' i e f = f ∙ after_same l l' n i e
