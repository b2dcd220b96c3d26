-- How the marking machine's ends are put together, for any machine: what comes after a normal end, after a step, after no value; and what a handler takes.
use mathlib.Core.Path.{◌≡◌, refl, sym, ap, subst, ◌∙◌}
use mathlib.Core.Bool.{Bool, true, false}
use mathlib.Core.List.{List}
use mathlib.Core.Logic.{◌⊎◌, inl, inr}
use Prim.Native.Nat.{ℕ, ◌<◌, ◌≤◌}
use native.Mathlib.Omega.{arith}
use borrow.Author.Tests.{lt-ltb, le-ltb, ltb-true, ltb-false}
use lib.Dec.{ltb}
use lib.IntN.{ℤ}
use Rattle.leaf_integers.proofs.Order.{le-or-lt}
use Rattle.law.specs.Base.{pick}
use Rattle.law.specs.Machine.{Store, State, state, Answer, answer, Outcome, normal, spent, raised, sticks, and_then, caught, continued, handled}
use Rattle.code_calc.specs.Words.{latest_in}
use Rattle.mark_steps.specs.Ends.{place_in, left_in, told_by, step_word}
use Rattle.mark_steps.specs.Stands.{Goes, Stands, after}
use Rattle.mark_cells.proofs.Ending.{left-of, told-normal, told-spent, told-raised, step-spent, step-taken, step-stands, spent_ends}
use Rattle.mark_acts.specs.Ends.{mark_told, MarkEnds, MarkRuns}
use Rattle.mark_acts.proofs.Ending.{mark-ends}

-- ---- how a word says that it ended
low_told : (w : ℕ) (ws : List ℤ) → w < 12884901888 → mark_told w ws ≡ told_by w ws
unfolding mark_told pick
low_told w ws h = ap (λ (b : Bool). pick b (told_by w ws) sticks) (lt-ltb w 12884901888 h)

pub mark-normal : (w : ℕ) (ws : List ℤ) → w ≤ 4294967295 → mark_told w ws ≡ normal
mark-normal w ws h = low_told w ws (omega (arith, h)) ∙ told-normal w ws h

pub mark-spent : (w : ℕ) (ws : List ℤ) → 4294967295 < w → w < 8589934592 → mark_told w ws ≡ spent
mark-spent w ws h g = low_told w ws (omega (arith, g)) ∙ told-spent w ws h g

pub mark-raised : (w : ℕ) (ws : List ℤ) → 8589934592 ≤ w → w < 12884901888 → mark_told w ws ≡ raised (latest_in ws) (place_in ws)
mark-raised w ws h g = low_told w ws g ∙ told-raised w ws h

pub mark-sticks : (w : ℕ) (ws : List ℤ) → 12884901888 ≤ w → mark_told w ws ≡ sticks
unfolding mark_told pick
mark-sticks w ws h = ap (λ (b : Bool). pick b (told_by w ws) sticks) (le-ltb w 12884901888 h)

-- what a word says that is no normal end's
mark-stops : (w : ℕ) (ws : List ℤ) (t : State) (f : State → Answer) → 4294967295 < w → continued (mark_told w ws) t f ≡ answer (mark_told w ws) t
mark-stops w ws t f h = go (le-or-lt 8589934592 w) (le-or-lt 12884901888 w)
  where
    by : (o : Outcome) → mark_told w ws ≡ o → continued o t f ≡ answer o t → continued (mark_told w ws) t f ≡ answer (mark_told w ws) t
    by o e k = ap (λ (x : Outcome). continued x t f) e ∙ k ∙ ap (λ (x : Outcome). answer x t) (sym e)

    go : (8589934592 ≤ w) ⊎ (w < 8589934592) → (12884901888 ≤ w) ⊎ (w < 12884901888) → continued (mark_told w ws) t f ≡ answer (mark_told w ws) t
    go a (inl g) = by sticks (mark-sticks w ws g) refl
    go (inl a) (inr g) = by (raised (latest_in ws) (place_in ws)) (mark-raised w ws a g) refl
    go (inr a) (inr g) = by spent (mark-spent w ws h a) refl

pub halted : (q : Bool) (w : ℕ) → q ≡ ltb 4294967295 w → q ≡ true → 4294967295 < w
halted q w e h = ltb-true 4294967295 w (sym e ∙ h)

pub going : (q : Bool) (w : ℕ) → q ≡ ltb 4294967295 w → q ≡ false → w ≤ 4294967295
going q w e h = ltb-false 4294967295 w (sym e ∙ h)

-- ---- what comes after a normal end, and after another
module _ (a : Answer) (f : State → Answer) (ws : List ℤ) (w : ℕ) (E : MarkEnds a ws w) where
  pub goes-next : w ≤ 4294967295 → Goes (and_then a f) f ws w
  goes-next h = record {
    store = a.state.store;
    stands = subst (λ (k : ℕ). Stands ws k a.state.store) (left-of w h) E.stands;
    rest = ap (λ (o : Outcome). continued o a.state f) (E.outcome ∙ mark-normal w ws h) ∙ ap (λ (n : ℕ). f (state a.state.store n)) (E.left ∙ left-of w h);
  }

  pub stops-there : 4294967295 < w → MarkEnds (and_then a f) ws w
  stops-there h =
      subst (λ (x : Answer). MarkEnds x ws w)
      (sym (ap (λ (o : Outcome). continued o a.state f) E.outcome ∙ mark-stops w ws a.state f h ∙ ap (λ (o : Outcome). answer o a.state) (sym E.outcome))) E

-- what is left of a machine ends it
pub goes-ends : {a : Answer} {f : State → Answer} {ws ws' : List ℤ} {t r : ℕ} → Goes a f ws t → ((m : Store) → Stands ws t m → MarkEnds (f (state m t)) ws' r) → MarkEnds a ws' r
goes-ends {a} {f} {ws} {ws'} {t} {r} G h = subst (λ (x : Answer). MarkEnds x ws' r) (sym G.rest) (h G.store G.stands)

-- ---- steps
pub spent-marks : (ws : List ℤ) (s : ℕ) (m : Store) → Stands ws s m → (t : ℕ) → t ≡ step_word s → 4294967295 < t → MarkEnds (answer spent (state m s)) ws t
unfolding step_word pick
spent-marks ws s m S t e h =
    let w : t ≡ 4294967296 = e ∙ ap step_word (step-spent s t e h S.steps) in
    mark-ends (answer spent (state m s)) ws t (omega (arith, w)) (spent_ends ws s m S t e h)

module _ (f : State → Answer) (ws : List ℤ) (s t : ℕ) (e : t ≡ step_word s) where
  -- a machine that takes a step first, where none is left
  pub step-spends : ((m : Store) → f (state m 0) ≡ answer spent (state m 0)) → 4294967295 < t → MarkRuns f ws s ws t
  step-spends g h = record { says = λ m S. go m S (step-spent s t e h S.steps) }
    where
      go : (m : Store) → Stands ws s m → s ≡ 0 → MarkEnds (f (state m s)) ws t
      go m S z = subst (λ (a : Answer). MarkEnds a ws t)
          (sym (ap (λ (k : ℕ). f (state m k)) z ∙ g m ∙ ap (λ (k : ℕ). answer spent (state m k)) (sym z))) (spent-marks ws s m S t e h)

  -- and where it takes one
  pub step-takes : (ws' : List ℤ) (r : ℕ) → t ≤ 4294967295 → MarkRuns (after f) ws t ws' r → MarkRuns f ws s ws' r
  unfolding after
  step-takes ws' r h R = record {
    says = λ m S. subst (λ (k : ℕ). MarkEnds (f (state m k)) ws' r) (sym (step-taken s t e h)) (R.says m (step-stands ws s t m (step-taken s t e h) S));
  }

-- ---- handlers
module _ (b : Bool) (a : Answer) (f : State → Answer) (ws : List ℤ) (w : ℕ) (E : MarkEnds a ws w) where
  as-was : (o : Outcome) → mark_told w ws ≡ o → caught o a.state f ≡ answer o a.state → (c : Bool) → handled c a f ≡ a
  as-was o e k true = ap (λ (x : Outcome). caught x a.state f) (E.outcome ∙ e) ∙ k ∙ ap (λ (x : Outcome). answer x a.state) (sym (E.outcome ∙ e))
  as-was o e k false = refl

  -- spent and stuck are not handled
  pub not-caught : (w < 8589934592) ⊎ (12884901888 ≤ w) → MarkEnds (handled b a f) ws w
  not-caught h = subst (λ (x : Answer). MarkEnds x ws w) (sym (go h (le-or-lt w 4294967295))) E
    where
      go : (w < 8589934592) ⊎ (12884901888 ≤ w) → (w ≤ 4294967295) ⊎ (4294967295 < w) → handled b a f ≡ a
      go (inl g) (inl k) = as-was normal (mark-normal w ws k) refl b
      go (inl g) (inr k) = as-was spent (mark-spent w ws k g) refl b
      go (inr g) k = as-was sticks (mark-sticks w ws g) refl b

  -- without a handler
  pub not-handled : b ≡ false → MarkEnds (handled b a f) ws w
  not-handled h = subst (λ (c : Bool). MarkEnds (handled c a f) ws w) (sym h) E

  -- an exception is
  pub is-caught : (ws' : List ℤ) (r : ℕ) → b ≡ true → 8589934592 ≤ w → w < 12884901888 → ((m : Store) → Stands ws (left_in w) m → MarkEnds (f (state m (left_in w))) ws' r)
      → MarkEnds (handled b a f) ws' r
  is-caught ws' r h g k R =
      subst (λ (x : Answer). MarkEnds x ws' r)
      (sym (ap (λ (c : Bool). handled c a f) h ∙ ap (λ (o : Outcome). caught o a.state f) (E.outcome ∙ mark-raised w ws g k) ∙ ap (λ (n : ℕ). f (state a.state.store n)) E.left))
      (R a.state.store E.stands)
