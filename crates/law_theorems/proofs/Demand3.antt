-- Demands 2 and 3 for whole texts: the statements are in specs/Demands.antt, the hypotheses that `verdict_of` and `store_fault` find no fault.
use mathlib.Core.Path.{◌≡◌, ap, ◌∙◌, sym, subst, fun_ext}
use mathlib.Core.List.{List}
use mathlib.Core.Option.{none}
use Prim.Native.Nat.{ℕ, ◌+◌}
use lib.IntN.{ℤ}
use lib.ListN.{length}
use Rattle.law.specs.Machine.{spent, state}
use Rattle.law.specs.Verdict.{Read, accepted}
use Rattle.law.specs.Whole.{Report, fresh, lent, on_store, ran, report, run_of, verdict_of}
use Rattle.law.specs.Demands as Demands
use Rattle.law.specs.Demands.{fault_in}
use Rattle.law_theorems.proofs.TextsAgree as Texts
use Rattle.law_theorems.proofs.StoreInRange.{Fine}
use Rattle.law_theorems.proofs.LinesKeep.{text-keeps}
use Rattle.law_theorems.proofs.BodiesInRange.{store-passes, store-sound, sound-store, tests_of, text-safely}
use Rattle.law_theorems.proofs.Reports.{ended, moved_on, at-most, all-spent, next-taken, same-report, spent-report, goes_on}

-- an accepted text with a working list of that length, whose tables and code are r; an accepted store
module _ (text : List ℕ) (work : ℕ) (r : Read) (accept : verdict_of text work ≡ accepted r)
    (vs : List ℤ) (ms : List ℕ) (sane : fault_in r vs ms ≡ none) where
  abbrev run : ℕ → Report
  run budget = Demands.run text work vs ms budget

  -- ---- both machines. The run is that of the text's code on the lent store

  pub run_is : (budget : ℕ) → run budget ≡ report (length vs) budget (ended r.codes (fresh vs ms) budget)
  unfolding run_of on_store lent
  run_is budget = rw (accept, Texts.unless-on, sane)

  pub ends-fine : (budget : ℕ) → Fine (tests_of r) (ended r.codes (fresh vs ms) budget)
  ends-fine budget =
      let k = text-keeps text work r accept in
      (text-safely text work r accept).at (state (fresh vs ms) budget) (store-sound r.known.env.types r.known.cells r.known.env.parameters k.lent k.stored vs ms sane)

  pub agreement : Demands.Agreement text work vs ms
  agreement budget = Texts.agreement text work r accept vs ms budget

  pub never_stuck : Demands.NeverStuck text work vs ms
  never_stuck budget n h = moved_on r.codes (fresh vs ms) (length vs) budget n (ends-fine budget).moved (rw (agreement budget, run_is budget) at h)

  pub in-range : Demands.InRange text work vs ms r
  unfolding report
  in-range budget = rw (run_is budget) (sound-store r.known.env.types r.known.cells r.known.env.parameters (length vs) _ (store-passes r.known.env.types r.known.cells vs ms sane).values (ends-fine budget).sound)

  -- ---- steps

  pub steps-within : Demands.StepsWithin text work vs ms
  steps-within budget n o h = at-most r.codes (fresh vs ms) (length vs) budget n o (rw (run_is budget) at h)

  pub spent-after : Demands.SpentAfter text work vs ms
  spent-after budget n h = all-spent r.codes (fresh vs ms) (length vs) budget n (rw (run_is budget) at h)

  pub one-more-due : Demands.OneMoreDue text work vs ms
  one-more-due budget n m o h k = next-taken r.codes (fresh vs ms) (length vs) budget n m o (rw (run_is budget) at h) (rw (run_is (budget + 1)) at k)

  pub larger-budget : Demands.LargerBudget text work vs ms
  larger-budget budget k n o h e = rw (run_is budget, run_is (budget + k)) (same-report r.codes (fresh vs ms) (length vs) budget k n o (rw (run_is budget) at h) e)

  -- the run passes through the store that a smaller budget leaves; so does the marking machine, which agrees
  pub run-goes-on : Demands.AfterEachStep text work vs ms (Demands.run text work vs ms)
  run-goes-on budget n h =
      let h' : (report (length vs) budget (ended r.codes (fresh vs ms) budget)).ending ≡ ran spent n = rw (run_is budget) at h in
      let g = goes_on r.codes (fresh vs ms) (length vs) budget n h' in
      record {
        store = (ended r.codes (fresh vs ms) budget).state.store;
        rest = g.rest;
        leaves = run_is budget ∙ spent-report r.codes (fresh vs ms) (length vs) budget n h';
        goes = λ k. run_is (budget + k) ∙ ap (report (length vs) (budget + k)) (g.goes k);
      }

  pub marking-goes-on : Demands.AfterEachStep text work vs ms (Demands.marking text work vs ms)
  marking-goes-on = subst (Demands.AfterEachStep text work vs ms) (sym (fun_ext agreement)) run-goes-on
