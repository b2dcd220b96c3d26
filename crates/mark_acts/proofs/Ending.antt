-- The ends of the marking machine's statements.
use mathlib.Core.Path.{◌≡◌, refl, sym, ap, subst, ◌∙◌}
use mathlib.Core.Bool.{Bool}
use mathlib.Core.List.{List}
use Prim.Native.Nat.{ℕ, ◌+◌, ◌-◌, ◌%◌, ◌<◌, ◌≤◌}
use native.Mathlib.Nat.{mod-lt, mod-eq_of_lt, mod-eq-sub-mod}
use native.Mathlib.Omega.{arith}
use borrow.Author.Tests.{lt-ltb, le-ltb}
use borrow.Author.Rules.{sfits_of}
use lib.IntN.{ℤ}
use mir.Syntax.{w64}
use mir.Val.{SFits, of_z}
use mir.Facts.{to_z-of_z}
use Rattle.leaf_integers.proofs.Machine.{wire, same_bits, fits-mag}
use Rattle.law.specs.Base.{pick}
use Rattle.law.specs.Calculate.{Result, is}
use Rattle.law.specs.Machine.{Store, State, state, Answer, answer, normal, sticks, raising, with_result}
use Rattle.code_calc.specs.Words.{no_result, InRange}
use Rattle.code_calc.proofs.Ranging.{small-fault, not_stuck}
use Rattle.mark_steps.proofs.Noting.{fault-back}
use Rattle.mark_steps.specs.Ends.{left_in, told_by, fault_in, Raises}
use Rattle.mark_steps.specs.Stands.{Stands, Ends}
use Rattle.mark_cells.proofs.Ending.{left-most, left-of, raised-fewer, raised-low, normal-ends, raising-ends}
use Rattle.mark_values.specs.Values.{MarkRanged}
use Rattle.mark_values.specs.Carrying.{Broken, by-fault, by-stuck}
use Rattle.mark_acts.specs.Ends.{mark_told, stuck_word, MarkEnds, Halts}

-- ---- the word where it sticks

past_three : (k : ℕ) → k < 4294967296 → (12884901888 + k) % 4294967296 ≡ k
past_three k h =
    let a : 12884901888 + k - 4294967296 ≡ 8589934592 + k = omega arith in
    let b : 8589934592 + k - 4294967296 ≡ 4294967296 + k = omega arith in
    let c : 4294967296 + k - 4294967296 ≡ k = omega arith in
    mod-eq-sub-mod {n = 12884901888 + k} {m = 4294967296} (omega arith) ∙ ap (λ (x : ℕ). x % 4294967296) a
    ∙ mod-eq-sub-mod {n = 8589934592 + k} {m = 4294967296} (omega arith) ∙ ap (λ (x : ℕ). x % 4294967296) b
    ∙ mod-eq-sub-mod {n = 4294967296 + k} {m = 4294967296} (omega arith) ∙ ap (λ (x : ℕ). x % 4294967296) c ∙ mod-eq_of_lt h

left-stuck : (s : ℕ) → left_in (stuck_word s) ≡ left_in s
unfolding left_in stuck_word
left-stuck s = past_three (s % 4294967296) (mod-lt s (omega arith))

stuck-high : (s : ℕ) → 12884901888 ≤ stuck_word s
unfolding stuck_word
stuck-high s = omega arith

pub stuck-fewer : (s r : ℕ) → r ≡ stuck_word s → left_in r ≤ s
stuck-fewer s r e = omega (arith, ap (λ (w : ℕ). left_in w) e ∙ left-stuck s, left-most s)

pub sticking-is : (s : ℕ) → 12884901888 + s % 4294967296 ≡ stuck_word s
unfolding stuck_word
sticking-is s = refl

-- ---- ends

-- an end of the runner's is one
pub mark-ends : (a : Answer) (ws : List ℤ) (w : ℕ) → w < 12884901888 → Ends a ws w → MarkEnds a ws w
unfolding mark_told pick
mark-ends a ws w h E = record { outcome = E.outcome ∙ sym (ap (λ (b : Bool). pick b (told_by w ws) sticks) (lt-ltb w 12884901888 h)); stands = E.stands; left = E.left }

module _ (ws : List ℤ) (s : ℕ) (m : Store) (S : Stands ws s m) where
  pub normal-marks : MarkEnds (answer normal (state m s)) ws s
  normal-marks = mark-ends (answer normal (state m s)) ws s (omega (arith, S.steps)) (normal-ends ws s m S)

  pub raising-marks : (z : ℤ) (n : ℕ) (ws' : List ℤ) (r : ℕ) → InRange z → Raises z n ws s ws' r → MarkEnds (raising z n (state m s)) ws' r
  raising-marks z n ws' r h R = mark-ends (raising z n (state m s)) ws' r (raised-low s r R.word) (raising-ends ws s m S z n ws' r h R)

  pub stuck-marks : (r : ℕ) → r ≡ stuck_word s → MarkEnds (answer sticks (state m s)) ws r
  unfolding mark_told pick
  stuck-marks r e =
      let k : left_in r ≡ s = ap (λ (w : ℕ). left_in w) e ∙ left-stuck s ∙ left-of s S.steps in
      let g : 12884901888 ≤ r = subst (λ (w : ℕ). 12884901888 ≤ w) (sym e) (stuck-high s) in
      record {
        outcome = sym (ap (λ (b : Bool). pick b (told_by r ws) sticks) (le-ltb r 12884901888 g));
        stands = subst (λ (j : ℕ). Stands ws j m) (sym k) S;
        left = sym k;
      }

-- ---- no value

-- what gave no value ends statement n
pub halts-ends : {A : Type 0} (ws : List ℤ) (s : ℕ) (m : Store) (n : ℕ) (v : Result A) (w : ℤ) (f : A → Answer) (ws' : List ℤ) (r : ℕ) → Stands ws s m → Broken w v → Halts w n ws s ws' r
    → MarkEnds (with_result n (state m s) v f) ws' r
unfolding MarkRanged
halts-ends ws s m n _ w f ws' r S (by-fault e h R) H =
    let d : (w ≡ no_result) → ⊥ = λ g. not_stuck e R (sym h ∙ g) in
    let q : fault_in w ≡ e = ap fault_in h ∙ fault-back e R in
    raising-marks ws s m S e n ws' r (small-fault e R) (subst (λ (z : ℤ). Raises z n ws s ws' r) q (H.raises d))
halts-ends ws s m n _ w f ws' r S (by-stuck h) H =
    let e = H.stays h in
    subst (λ (us : List ℤ). MarkEnds (answer sticks (state m s)) us r) (sym e.0) (stuck-marks ws s m S r e.1)

-- a value is what comes after
pub goes_on : {A : Type 0} (n : ℕ) (t : State) (v : Result A) (z : A) (f : A → Answer) (ws : List ℤ) (r : ℕ) → v ≡ is z → MarkEnds (f z) ws r → MarkEnds (with_result n t v f) ws r
goes_on {A} n t v z f ws r e E = subst (λ (u : Result A). MarkEnds (with_result n t u f) ws r) (sym e) E

-- ---- `halting`

module _ (w : ℤ) (n : ℕ) (ws : List ℤ) (left : ℕ) (r : ℕ) (f : SFits w64 w) where
  pub halting-stuck : of_z w64 w ≡ 9223372036854775807 → r ≡ stuck_word left → Halts w n ws left ws r
  halting-stuck e q = record {
    stays = λ h. (refl, q);
    raises = λ h. absurd (h (same_bits w no_result f (fits-mag no_result (omega arith)) e));
    fewer = stuck-fewer left r q;
  }

  pub halting-fault : (ws' : List ℤ) → ((of_z w64 w ≡ 9223372036854775807) → ⊥) → Raises (fault_in (wire w)) n ws left ws' r → Halts w n ws left ws' r
  halting-fault ws' e R = record {
    stays = λ h. absurd (e (ap (of_z w64) h));
    raises = λ h. subst (λ (z : ℤ). Raises (fault_in z) n ws left ws' r) (to_z-of_z f) R;
    fewer = raised-fewer (fault_in (wire w)) n ws left ws' r R;
  }

pub ruleset halting_laws = (halting-stuck, halting-fault, sfits_of)
