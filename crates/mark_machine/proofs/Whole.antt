-- A whole run of the marking machine: what its word tells, and the lists that are saved are the store that the run leaves.
use mathlib.Core.Path.{◌≡◌, refl, sym, ap, subst, ◌∙◌}
use mathlib.Core.List.{List}
use mathlib.Core.Logic.{◌⊎◌, inl, inr}
use Prim.Native.Nat.{ℕ, ◌-◌, ◌<◌, ◌≤◌}
use native.Mathlib.Omega.{arith}
use borrow.Author.Rules.{sfits_of}
use borrow.Author.Tests.{lt-ltb, le-ltb}
use mir.Syntax.{w32, w64}
use mir.Val.{Fits, SFits}
use mir.Facts.{to_z-of_z}
use lib.IntN.{ℤ, pos}
use lib.ListN.{length, get_or, get_or-eq_default}
use Rattle.leaf_integers.specs.Integers.{inside}
use Rattle.leaf_integers.proofs.Machine.{wire}
use Rattle.leaf_integers.proofs.Order.{le-or-lt}
use Rattle.law.specs.Base.{pick}
use Rattle.law.specs.Calculate.{nat_of}
use Rattle.law.specs.Environment.{PlacedBody}
use Rattle.law.specs.Machine.{Store, raised, read_cell, sticks, state, store_cells}
use Rattle.law.specs.Whole.{fresh, mark_body}
use Rattle.law_theorems.proofs.BodiesInRange.{filled-get, filled-length}
use Rattle.law_answers.specs.declared.Marked.{Marked}
use Rattle.law_answers.specs.declared.Ending.{Ending}
use Rattle.law_answers.specs.declared.Ending.TheVariants.{Normal, Raised, Spent, Stuck}
use Rattle.law_answers.specs.MarkingReports.{mark_outcome}
use Rattle.code_calc.specs.Words.{Exceptional, InRange, Means, Ranged, latest_in, latest_at, place_at, store_word, store_words, word_of}
use Rattle.mark_steps.specs.Ends.{left_in, place_in, told_by}
use Rattle.mark_steps.specs.Stands.{Stands}
use Rattle.mark_cells.specs.Cells.{Addresses}
use Rattle.mark_cells.proofs.Ending.{left-small, told-normal, told-spent, told-raised}
use Rattle.code_store.specs.Answers.{Lent}
use Rattle.code_store.specs.Lending.{Loads, Saves, Begins}
use Rattle.code_store.proofs.Cells.{Left, begun-means, cell-left, lent-tidy, marks-saved, values-saved, zero-ranged}
use Rattle.table_bodies.specs.Procedures.{procs_of}
use Rattle.mark_acts.specs.Ends.{mark_told, MarkEnds}
use Rattle.mark_statements.specs.Marks.{MarksBody}
use Rattle.mark_machine.specs.Answers.{MarkAnswers, MarksLent}
use Rattle.mark_machine.specs.Lending.{MarkTells, MarksIn}

-- ---- `told`
module _ (w : ℕ) (ws : List ℤ) where
  below : w < 12884901888 → mark_told w ws ≡ told_by w ws
  unfolding mark_told pick
  below h = rw (lt-ltb w 12884901888 h)

  past : 12884901888 ≤ w → mark_told w ws ≡ sticks
  unfolding mark_told pick
  past h = rw (le-ltb w 12884901888 h)

  pub tells-normal : w < 4294967296 → MarkTells w ws Normal
  unfolding mark_outcome
  tells-normal h = record { says = λ k g e. sym (below (omega arith) ∙ told-normal w ws (omega arith)) }

  pub tells-spent : 4294967296 ≤ w → w < 8589934592 → MarkTells w ws Spent
  unfolding mark_outcome
  tells-spent h g = record { says = λ k i e. sym (below (omega arith) ∙ told-spent w ws (omega arith) g) }

  pub tells-raised : (a : ℕ) → 8589934592 ≤ w → w < 12884901888 → SFits w64 (get_or ws latest_at (pos 0)) → SFits w64 (get_or ws place_at (pos 0)) → Addresses (wire (get_or ws place_at (pos 0))) a
      → MarkTells w ws (Raised (wire (get_or ws latest_at (pos 0))) a)
  unfolding mark_outcome latest_in place_in
  tells-raised a h j f g A = record {
    says = λ k i e.
        ap (λ (z : ℤ). raised z a) (to_z-of_z f) ∙ ap (raised (get_or ws latest_at (pos 0))) (A.says k i (to_z-of_z g ∙ e) ∙ sym (ap nat_of e)) ∙ sym (below j ∙ told-raised w ws h);
  }

  pub tells-stuck : 12884901888 ≤ w → MarkTells w ws Stuck
  unfolding mark_outcome
  tells-stuck h = record { says = λ k i e. sym (past h) }

pub ruleset tells_laws = (tells-normal, tells-spent, tells-raised, tells-stuck, sfits_of)

-- ---- `mark_with`: the array at the start, and what it leaves
module _ (vs : List ℤ) (ms : List ℕ) (ws₀ ws us : List ℤ) (H : Lent vs ms) (L : Loads vs ms ws₀ store_cells ws) (N : Begins ws us) (e : length ws₀ ≡ store_words) where
  -- past the last cell a word and a store have no value
  word-means : (a : ℕ) → Means (store_word us a) (read_cell a (fresh vs ms))
  unfolding store_word read_cell word_of Ranged Exceptional inside pick
  word-means a = go (le-or-lt store_cells a)
    where
      go : (store_cells ≤ a) ⊎ (a < store_cells) → Means (store_word us a) (read_cell a (fresh vs ms))
      go (inl h) = rw (le-ltb a store_cells h, filled-get 0 ms a, get_or-eq_default ms 0 {n = a} (omega (arith, H.even, H.few, h))) (record { word = refl; ranged = refl })
      go (inr h) = rw (lt-ltb a store_cells h) (begun-means vs ms H L N (omega (arith, e)) a h)

  begun-latest : latest_in us ≡ pos 0
  unfolding latest_in
  begun-latest = N.latest (omega (arith, L.long, e))

  fresh-stands : (budget : ℕ) → budget ≤ 4294967295 → Stands us budget (fresh vs ms)
  fresh-stands budget b = record {
    long = N.long ∙ L.long ∙ e;
    steps = b;
    holds = record { cells = word-means; last = sym begun-latest; last-ranged = subst InRange (sym begun-latest) zero-ranged };
    place = N.place (omega (arith, L.long, e));
    small = omega arith;
    values = omega (arith, filled-length (pos 0) vs, H.few);
    marks = omega (arith, filled-length 0 ms, H.even, H.few);
    tidy = λ a. lent-tidy vs ms a (H.cells a);
  }

leaves : (ws : List ℤ) (s : ℕ) (m : Store) → Stands ws s m → (a : ℕ) → a < store_cells → Left m a (store_word ws a)
leaves ws s m T a h = cell-left m a (store_word ws a) (T.holds.cells a) (T.tidy a)

pub left-fits : (k r : ℕ) → k ≡ left_in r → Fits w32 k
left-fits k r e = record { fits = omega (arith, e, left-small r) }

module _ (s l ts tb : List ℕ) (q : ℕ) (vs : List ℤ) (ms : List ℕ) (budget : ℕ) (ws₀ ws us ws' : List ℤ) (r k : ℕ) (o : Ending) (vs' : List ℤ) (ms' : List ℕ) where
  answered : (pbs : List PlacedBody) (other : PlacedBody) → Lent vs ms → MarkEnds (mark_body (get_or pbs q other) (procs_of other pbs q) (state (fresh vs ms) budget)) ws' r → Saves ws' vs ms vs' ms'
      → k ≡ left_in r → MarkTells r ws' o → MarkAnswers (mark_body (get_or pbs q other) (procs_of other pbs q) (state (fresh vs ms) budget)) (length vs) budget (record { steps = budget - k; ending = o }) vs' ms'
  answered pbs other H E S e t =
      let a = mark_body (get_or pbs q other) (procs_of other pbs q) (state (fresh vs ms) budget) in
      record {
        outcome = t.says a.state.store.place E.stands.small E.stands.place ∙ sym E.outcome;
        steps = ap (λ (n : ℕ). budget - n) (e ∙ sym E.left);
        values = values-saved ws' vs ms vs' ms' a.state.store H S (leaves ws' (left_in r) a.state.store E.stands) (omega (arith, E.stands.values));
        marks = marks-saved ws' vs ms vs' ms' a.state.store H S (leaves ws' (left_in r) a.state.store E.stands) (omega (arith, E.stands.marks));
      }

  pub mark-is : Fits w32 budget → Loads vs ms ws₀ store_cells ws → Begins ws us → MarksBody s l ts tb q q us budget ws' r → Saves ws' vs ms vs' ms' → k ≡ left_in r → MarkTells r ws' o
      → MarksIn ws₀ s l ts tb q vs ms budget (record { steps = budget - k; ending = o }) vs' ms'
  mark-is b L N W S e t = record {
    says = λ g. record {
      says = λ bs pbs other A h H. answered pbs other H ((W.runs bs pbs other A h (omega arith)).says (fresh vs ms) (fresh-stands vs ms ws₀ ws us H L N g budget (omega (arith, b.fits)))) S e t;
    };
  }

-- ---- `mark_lent`: an array of this length
pub mark-all : (ws₀ : List ℤ) (s l ts tb : List ℕ) (q : ℕ) (vs : List ℤ) (ms : List ℕ) (budget : ℕ) (r : Marked) (vs' : List ℤ) (ms' : List ℕ)
    → MarksIn ws₀ s l ts tb q vs ms budget r vs' ms' → length ws₀ ≡ store_words → MarksLent s l ts tb q vs ms budget r vs' ms'
mark-all ws₀ s l ts tb q vs ms budget r vs' ms' h e = h.says e
