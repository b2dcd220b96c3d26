-- The demands hold: each statement of specs/Demands.antt, for every text, working list and store.
use mathlib.Core.Path.{◌≡◌, refl, ap, ◌∙◌}
use mathlib.Core.List.{List, [], ◌∷◌, ◌++◌}
use mathlib.Core.Option.{Option, none, some}
use Prim.Native.Nat.{ℕ, zero, suc, ◌<◌, ◌≤◌, min}
use native.Mathlib.Nat.{le_of_suc-le-suc, min-zero, not-suc-le-zero, suc-min-suc, zero-min}
use native.Mathlib.Omega.{arith}
use lib.IntN.{ℤ}
use lib.ListN.{drop, get_or, length, replicate, get_or-replicate, length-append, length-drop, length-replicate, get_or-append}
use Rattle.law.specs.Machine.{Answer, Outcome, State}
use Rattle.law.specs.Verdict.{Read, Verdict, accepted, refused}
use Rattle.law.specs.Whole.{Ending, Report, lent, mark_of, on_store, ran, refusal, report, reported, run_of, unless, work_after}
use Rattle.law.specs.Demands.{Accepted, Demanded, OfAccepted, WorkCleared}
use Rattle.law_theorems.proofs.Demand3 as Demand3
use Rattle.law_theorems.proofs.TextsAgree as Texts

-- ---- the working list, with any number for 16,384

module _ (k : ℕ) where
  abbrev cleared : List ℕ → List ℕ
  cleared w = replicate (min k (length w)) 0 ++ drop k w

  cleared-long : (w : List ℕ) → length (cleared w) ≡ length w
  cleared-long w = rw (length-append (replicate (min k (length w)) 0) (drop k w), length-replicate {A = ℕ} (min k (length w)) 0, length-drop k w) (omega arith)

  cleared-zeros : (w : List ℕ) (i x : ℕ) → i < k → i < length w → get_or (cleared w) i x ≡ 0
  cleared-zeros w i x h g =
      let l = length-replicate {A = ℕ} (min k (length w)) 0 in
      get_or-append (replicate (min k (length w)) 0) (drop k w) x i (omega arith) ∙ get_or-replicate (min k (length w)) i 0 x (omega arith)

cleared-further : (k : ℕ) (w : List ℕ) (i x : ℕ) → k ≤ i → get_or (cleared k w) i x ≡ get_or w i x
cleared-further zero w i x h = rw (zero-min (length w))
cleared-further (suc k) [] i x h = rw (min-zero (suc k))
cleared-further (suc k) (y ∷ w) zero x h = absurd (not-suc-le-zero h)
cleared-further (suc k) (y ∷ w) (suc i) x h = rw (suc-min-suc k (length w)) (cleared-further k w i x (le_of_suc-le-suc h))

pub work-cleared : (w : List ℕ) → WorkCleared w
unfolding work_after
work-cleared w = record { as_long = cleared-long 16384 w; zeros = cleared-zeros 16384 w; further = λ i x h. cleared-further 16384 w i x h }

-- ---- refusals

same-refusal : {n l m k : ℕ} (vs : List ℤ) (ms : List ℕ) → refusal n l ≡ refusal m k → reported (refusal n l) vs ms ≡ reported (refusal m k) vs ms
same-refusal vs ms h = ap (λ (e : Ending). reported e vs ms) h

not-ran : {A : Type 0} {o : Outcome} {s n l : ℕ} → ran o s ≡ refusal n l → A
not-ran {o} {s} {n} {l} h = absurd (let z : ◌≡◌ {A = ℕ} 0 1 = cc in omega arith)

lent-kept : (f : Option ℕ) (machine : State → Answer) (vs : List ℤ) (ms : List ℕ) (budget n l : ℕ)
    → (lent f machine vs ms budget).ending ≡ refusal n l → lent f machine vs ms budget ≡ reported (refusal n l) vs ms
unfolding lent report
lent-kept (some k) machine vs ms budget n l h = same-refusal vs ms h
lent-kept none machine vs ms budget n l h = not-ran h

unless-kept : (v : Verdict Read) (vs : List ℤ) (ms : List ℕ) (f : Read → Report) (n l : ℕ)
    → ((r : Read) → (f r).ending ≡ refusal n l → f r ≡ reported (refusal n l) vs ms)
    → (unless v vs ms f).ending ≡ refusal n l → unless v vs ms f ≡ reported (refusal n l) vs ms
unfolding unless
unless-kept (refused m k) vs ms f n l h e = same-refusal vs ms e
unless-kept (accepted r) vs ms f n l h e = h r e

unless-refused : (n l : ℕ) (vs : List ℤ) (ms : List ℕ) (f : Read → Report) → (unless (refused n l) vs ms f).ending ≡ refusal n l
unfolding unless
unless-refused n l vs ms f = refl

lent-refused : (n : ℕ) (machine : State → Answer) (vs : List ℤ) (ms : List ℕ) (budget : ℕ) → (lent (some n) machine vs ms budget).ending ≡ refusal n 0
unfolding lent
lent-refused n machine vs ms budget = refl

-- ---- all

module _ (text : List ℕ) (work : ℕ) (vs : List ℤ) (ms : List ℕ) where
  accepted-holds : (r : Read) → Accepted text work vs ms r → OfAccepted text work vs ms r
  accepted-holds r h =
      let a = h.text-fits in let s = h.store-fits in
      record {
        steps-within = Demand3.steps-within text work r a vs ms s;
        spent-after = Demand3.spent-after text work r a vs ms s;
        one-more-due = Demand3.one-more-due text work r a vs ms s;
        larger-budget = Demand3.larger-budget text work r a vs ms s;
        agreement = Demand3.agreement text work r a vs ms s;
        never_stuck = Demand3.never_stuck text work r a vs ms s;
        in-range = Demand3.in-range text work r a vs ms s;
        run-goes-on = Demand3.run-goes-on text work r a vs ms s;
        marking-goes-on = Demand3.marking-goes-on text work r a vs ms s;
      }

  pub demands-hold : Demanded text work vs ms
  unfolding run_of mark_of on_store
  demands-hold = record {
    run-refused = λ budget n l e. unless-kept _ vs ms _ n l (λ r d. lent-kept _ _ vs ms budget n l d) e;
    marking-refused = λ budget n l e. unless-kept _ vs ms _ n l (λ r d. lent-kept _ _ vs ms budget n l d) e;
    refuses-text = λ budget n l h. rw h (unless-refused n l vs ms _);
    refuses-store = λ r a budget n s. rw (a, Texts.unless-on, s) (lent-refused n _ vs ms budget);
    accepted-runs = λ r h. accepted-holds r h;
  }
