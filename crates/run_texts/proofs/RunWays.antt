-- Runs: rows 10 and 11 by the tables, the run by the code that the list holds, and the whole by the verdict.
use Rattle.std.proofs.Common.{Result, Ok, Err}
use mathlib.Core.Path.{◌≡◌, refl, sym, ap, subst, ◌∙◌}
use mathlib.Core.List.{List, [], ◌++◌}
use mathlib.Core.Option.{Option, none, some}
use Prim.Native.Nat.{ℕ, ◌≤◌, min}
use native.Mathlib.Omega.{arith}
use lib.IntN.{ℤ}
use lib.ListN.{length, take, drop, replicate}
use lib.Seq.{take_at}
use Rattle.rule_declarations.specs.State.{notes}
use Rattle.code.specs.ListMachine.{called}
use Rattle.law.specs.Machine.{Answer, State, state}
use Rattle.law.specs.Store.{store_fault}
use Rattle.law.specs.Verdict as Meaning
use Rattle.law.specs.Verdict.{Read, accepted, refused}
use Rattle.law.specs.Whole.{report, fresh, lent, on_store, unless, run_all, run_of, verdict_of}
use Rattle.code.proofs.Texts as Demand3
use Rattle.law_theorems.specs.StatementsNoted.{Notes}
use Rattle.law_theorems.proofs.LinesCover.{text-covered}
use Rattle.code.proofs.LinesMeasured.{text-measured}
use Rattle.law_answers.specs.declared.Answer.{Answer as Told}
use Rattle.law_answers.specs.declared.Refusal.{Refusal}
use Rattle.law_answers.specs.Verdicts.{refusal_of}
use Rattle.law_answers.specs.RunReports.{ending_of, Reports}
use Rattle.rule_stores.specs.Stores.{StoreFault, row_number}
use Rattle.rule_known.specs.declared.Known.{Known}
use Rattle.code_store.specs.Answers.{Answers}
use Rattle.run_fit.proofs.Texts.{text-fits}
use Rattle.run_chair.specs.Answers.{Running}
use Rattle.rule_texts.specs.Answers.{CheckedBy, Checks}
use Rattle.run_texts.specs.Running.{RunsLoaded, RunsChecked}
use Rattle.code_store.proofs.Lending.{lent-store}
use Rattle.rule_stores.proofs.Rows.{no_row}
use Rattle.rule_texts.proofs.Texts.{verdict-same, part-long, zeros}

module _ (l ts : List ℕ) (kn : Known) (vs : List ℤ) (ms : List ℕ) (budget f : ℕ) (F : StoreFault l ts kn.state vs ms f) where
  pub loaded-refused : (r : Result Told Refusal) → ((f ≡ 0) → ⊥) → r ≡ Err (record { number = f; line = 0 }) → RunsLoaded l ts kn vs ms budget r vs ms
  unfolding on_store lent row_number ending_of
  loaded-refused r ne e = record {
    says = λ s work q bs long acc S.
        go q (store_fault q.known.env.types q.known.cells vs ms) refl (F.says s q.known bs S.holds (text-covered s work q acc));
  }
    where
      go : (q : Read) (o : Option ℕ) → store_fault q.known.env.types q.known.cells vs ms ≡ o → f ≡ row_number o → Reports (on_store q.known (run_all q.codes []) vs ms budget) r vs ms
      go q none h z = absurd (ne z)
      go q (some n) h z = rw (h, e) (record { ending = rw z refl; values = refl; marks = refl })

  pub loaded-run : (a : Told) (r : Result Told Refusal) (vs' : List ℤ) (ms' : List ℕ) → f ≡ 0 → Running l kn.main vs ms budget a vs' ms' → r ≡ Ok a → RunsLoaded l ts kn vs ms budget r vs' ms'
  unfolding on_store lent row_number ending_of report store_fault
  loaded-run a r vs' ms' zero_row R e = record {
    says = λ s work q bs long acc S.
        let c = S.holds.cells_are in let d = S.holds.few-cells in
        go q (store_fault q.known.env.types q.known.cells vs ms) refl (F.says s q.known bs S.holds (text-covered s work q acc)) λ none_is.
        let m = S.main-is (text-measured s work q acc).1 in
        let long : length l ≡ 16384 = omega (arith, S.holds.long-list) in
        let runs : called 33 l kn.main ≡ run_all q.codes [] = ap (called 33 l) m ∙ Demand3.held-runs s work q acc l bs S.bodies 33 (Demand3.body-count s work q acc).1 in
        let A = R.says long bs (text-fits s work q acc l bs long S.bodies kn.main m) (subst Notes (sym runs) (Demand3.statement-noted s work q acc))
        (lent-store q.known.env.types S.holds.scene.table q.known.cells vs ms (omega arith) none_is) in
        subst (λ (x : State → Answer). Answers (x (state (fresh vs ms) budget)) (length vs) budget a vs' ms') runs A;
  }
    where
      go : (q : Read) (o : Option ℕ) → store_fault q.known.env.types q.known.cells vs ms ≡ o → f ≡ row_number o
          → (store_fault q.known.env.types q.known.cells vs ms ≡ none → Answers (run_all q.codes [] (state (fresh vs ms) budget)) (length vs) budget a vs' ms')
          → Reports (on_store q.known (run_all q.codes []) vs ms budget) r vs' ms'
      go q none h z k =
          let A = k h in
          rw (h, e) (record { ending = rw (A.outcome, A.steps) refl; values = A.values; marks = A.marks })
      go q (some n) h z k = absurd (no_row _ _ (h ∙ ap some (sym z ∙ zero_row)))

pub ruleset loaded-laws = (loaded-refused, loaded-run)

module _ (l ts : List ℕ) (c : Result Known Refusal) (vs : List ℤ) (ms : List ℕ) (budget : ℕ) where
  pub checked_refused : (e : Refusal) (r : Result Told Refusal) → c ≡ Err e → r ≡ Err e → RunsChecked l ts c vs ms budget r vs ms
  unfolding unless ending_of
  checked_refused x r h e = record { says = λ s work long C. go s (verdict_of s work) C }
    where
      go : (s : List ℕ) (v : Meaning.Verdict Read) → CheckedBy s l ts v c → Reports (unless v vs ms λ q. on_store q.known (run_all q.codes []) vs ms budget) r vs ms
      go s (accepted q) C = absurd (cc (h, C.1))
      go s (refused m n) C = let d : x ≡ refusal_of m n = cc (h, C.0) in rw (e, d) (record { ending = refl; values = refl; marks = refl })

  pub checked-run : (kn : Known) (r : Result Told Refusal) (vs' : List ℤ) (ms' : List ℕ) → c ≡ Ok kn → RunsLoaded l ts kn vs ms budget r vs' ms' → RunsChecked l ts c vs ms budget r vs' ms'
  unfolding unless
  checked-run kn r vs' ms' h R = record { says = λ s work long C. go s work long (verdict_of s work) refl C }
    where
      go : (s : List ℕ) (work : ℕ) → length l ≤ 16384 → (v : Meaning.Verdict Read) → verdict_of s work ≡ v → CheckedBy s l ts v c
          → Reports (unless v vs ms λ q. on_store q.known (run_all q.codes []) vs ms budget) r vs' ms'
      go s work long (accepted q) e C = let i : kn ≡ C.0 = cc (h, C.1) in R.says s work q C.2 long e (rw i C.3)
      go s work long (refused m n) e C = absurd (cc (h, C.0))

pub ruleset checked-laws = (checked_refused, checked-run)

-- ---- the whole

module _ (s l : List ℕ) (n : ℕ) (i : n ≡ min 16384 (length l)) (c : Result Known Refusal) (l' ts' : List ℕ) (vs : List ℤ) (ms : List ℕ) (budget : ℕ) where
  pub run-told : (r : Result Told Refusal) (vs' : List ℤ) (ms' : List ℕ) → Checks s (take n l) (replicate notes 0) c l' ts' → length l' ≡ length (take n l)
      → RunsChecked (take n (l' ++ drop n l)) ts' c vs ms budget r vs' ms' → Reports (run_of s (length l) vs ms budget) r vs' ms'
  unfolding run_of
  run-told r vs' ms' C e R =
      let k : n ≡ length (take n l) = part-long l n i in
      let front : take n (l' ++ drop n l) ≡ l' = take_at l' (drop n l) n (e ∙ sym k) in
      let v : verdict_of s (length (take n l)) ≡ verdict_of s (length l) = ap (λ m. verdict_of s m) (sym k ∙ i) ∙ verdict-same s (length l) in
      let D : CheckedBy s l' ts' (verdict_of s (length l)) c = subst (λ (x : Meaning.Verdict Read). CheckedBy s l' ts' x c) v (C.says (omega arith) (zeros notes)) in
      (rw front at R).says s (length l) (omega arith) D
