-- How the store's array stands for stores, what the word of an end says, and what a value's or a fault's word says.
use mathlib.Core.Path.{◌≡◌, refl, sym, ap, subst, ◌∙◌}
use mathlib.Core.Bool.{Bool, true, false}
use mathlib.Core.List.{List}
use mathlib.Core.Logic.{◌⊎◌, inl, inr}
use Prim.Native.Nat.{ℕ, zero, suc, ◌+◌, ◌-◌, ◌%◌, ◌<◌, ◌≤◌}
use native.Mathlib.Nat.{mod-lt, mod-le, mod-eq_of_lt, mod-eq-sub-mod}
use native.Mathlib.Omega.{arith}
use lib.IntN.{ℤ, pos, ◌+ℤ◌}
use lib.Signed.{lt_z}
use lib.Dec.{T, ltb}
use lib.ListN.{length, get_or, set, length-set}
use lib.Seq.{get_or-set_same, get_or-set_other}
use borrow.Author.Tests.{ne_eqb, lt-ltb, le-ltb}
use Rattle.leaf_integers.specs.Integers.{inside, is_zero}
use Rattle.leaf_integers.proofs.Order.{le-or-lt}
use Rattle.law.specs.Base.{pick}
use Rattle.law.specs.Calculate.{Result, is, fails, stuck, nat_of, system_error}
use Rattle.law.specs.Machine.{Store, state, answer, normal, spent, raised, raising, noting, read_cell, store_cells, branch, pass_on, raise_number}
use Rattle.code_calc.specs.Words.{greatest, fault_base, InRange, Ranged, word_of, Means, latest_at, latest_in, place_at, store_word, store_words, undefined_word}
use Rattle.code_calc.proofs.Ranging.{range-value, above-fault, small-fault}
use Rattle.mark_steps.proofs.Noting.{fault-back}
use Rattle.mark_steps.specs.Ends.{place_in, left_in, told_by, step_word, raised_word, fault_in, noted_in, number_in, Raises}
use Rattle.mark_steps.specs.Stands.{Stands, Ends}

-- ---- the steps left by a word
pub left-small : (w : ℕ) → left_in w ≤ 4294967295
unfolding left_in
left-small w =
    let h : w % 4294967296 < 4294967296 = mod-lt w (omega arith) in
    omega arith

pub left-most : (w : ℕ) → left_in w ≤ w
unfolding left_in
left-most w = mod-le w 4294967296

pub left-of : (w : ℕ) → w ≤ 4294967295 → left_in w ≡ w
unfolding left_in
left-of w h = mod-eq_of_lt (omega arith)

past_two : (k : ℕ) → k < 4294967296 → (8589934592 + k) % 4294967296 ≡ k
past_two k h =
    let a : 8589934592 + k - 4294967296 ≡ 4294967296 + k = omega arith in
    let b : 4294967296 + k - 4294967296 ≡ k = omega arith in
    mod-eq-sub-mod {n = 8589934592 + k} {m = 4294967296} (omega arith) ∙ ap (λ (x : ℕ). x % 4294967296) a
    ∙ mod-eq-sub-mod {n = 4294967296 + k} {m = 4294967296} (omega arith) ∙ ap (λ (x : ℕ). x % 4294967296) b ∙ mod-eq_of_lt h

left-raised : (s : ℕ) → left_in (raised_word s) ≡ left_in s
unfolding left_in raised_word
left-raised s = past_two (s % 4294967296) (mod-lt s (omega arith))

pub again-fewer : (s r : ℕ) → r ≡ raised_word s → left_in r ≤ s
again-fewer s r e = omega (arith, ap (λ (w : ℕ). left_in w) e ∙ left-raised s, left-most s)

pub raised-fewer : (z : ℤ) (n : ℕ) (ws : List ℤ) (s : ℕ) (ws' : List ℤ) (r : ℕ) → Raises z n ws s ws' r → left_in r ≤ s
raised-fewer z n ws s ws' r R = again-fewer s r R.word

raised-high : (s : ℕ) → 8589934592 ≤ raised_word s
unfolding raised_word
raised-high s = omega arith

-- and below those of sticking
pub raised-low : (s r : ℕ) → r ≡ raised_word s → r < 12884901888
unfolding raised_word
raised-low s r e =
    let h : s % 4294967296 < 4294967296 = mod-lt s (omega arith) in
    omega (arith, e)

-- ---- how a word says that it ended
pub told-normal : (w : ℕ) (ws : List ℤ) → w ≤ 4294967295 → told_by w ws ≡ normal
unfolding told_by pick
told-normal w ws h = ap (λ (b : Bool). pick b (pick (ltb w 8589934592) spent (raised (latest_in ws) (place_in ws))) normal) (le-ltb 4294967295 w h)

pub told-spent : (w : ℕ) (ws : List ℤ) → 4294967295 < w → w < 8589934592 → told_by w ws ≡ spent
unfolding told_by pick
told-spent w ws h g =
    ap (λ (b : Bool). pick b (pick (ltb w 8589934592) spent (raised (latest_in ws) (place_in ws))) normal) (lt-ltb 4294967295 w h)
    ∙ ap (λ (b : Bool). pick b spent (raised (latest_in ws) (place_in ws))) (lt-ltb w 8589934592 g)

pub told-raised : (w : ℕ) (ws : List ℤ) → 8589934592 ≤ w → told_by w ws ≡ raised (latest_in ws) (place_in ws)
unfolding told_by pick
told-raised w ws h =
    ap (λ (b : Bool). pick b (pick (ltb w 8589934592) spent (raised (latest_in ws) (place_in ws))) normal) (lt-ltb 4294967295 w (omega arith))
    ∙ ap (λ (b : Bool). pick b spent (raised (latest_in ws) (place_in ws))) (le-ltb w 8589934592 h)

-- ---- a step
step-one : (k : ℕ) → step_word (suc k) ≡ k
unfolding step_word pick
step-one k =
    let e : suc k - 1 ≡ k = omega arith in
    ap (λ (b : Bool). pick b 4294967296 (suc k - 1)) (ne_eqb (suc k) 0 (λ h. absurd (omega (arith, h)))) ∙ e

pub step-spent : (s t : ℕ) → t ≡ step_word s → 4294967295 < t → s ≤ 4294967295 → s ≡ 0
unfolding step_word pick
step-spent zero t e h g = refl
step-spent (suc k) t e h g = absurd (omega (arith, e, step-one k, h, g))

pub step-taken : (s t : ℕ) → t ≡ step_word s → t ≤ 4294967295 → s ≡ suc t
unfolding step_word pick
step-taken zero t e h = absurd (omega (arith, e, h))
step-taken (suc k) t e h = omega (arith, e, step-one k)

-- the same by the steps that were left
pub step-due : (s t : ℕ) → t ≡ step_word s → s ≡ 0 → 4294967295 < t
unfolding step_word pick
step-due s t e z = omega (arith, e ∙ ap step_word z)

pub step-on : (s t : ℕ) → t ≡ step_word s → ((s ≡ 0) → ⊥) → s ≡ suc t
step-on zero t e h = absurd (h refl)
step-on (suc k) t e h = omega (arith, e, step-one k)

step-least : (s : ℕ) → left_in (step_word s) ≤ s
unfolding step_word pick left_in
step-least zero = omega arith
step-least (suc k) = omega (arith, mod-le (step_word (suc k)) 4294967296, step-one k)

pub step_fewer : (s t : ℕ) → t ≡ step_word s → left_in t ≤ s
step_fewer s t e = omega (arith, ap (λ (w : ℕ). left_in w) e, step-least s)

pub step-stands : (ws : List ℤ) (s t : ℕ) (m : Store) → s ≡ suc t → Stands ws s m → Stands ws t m
step-stands ws s t m e S = record {
  long = S.long;
  steps = omega (arith, e, S.steps);
  holds = S.holds;
  place = S.place;
  small = S.small;
  values = S.values;
  marks = S.marks;
  tidy = S.tidy;
}

-- ---- the array after an exception
module _ (z : ℤ) (n : ℕ) (ws : List ℤ) where
  noted_other : (i : ℕ) → ((i ≡ latest_at) → ⊥) → ((i ≡ place_at) → ⊥) → get_or (noted_in z n ws) i (pos 0) ≡ get_or ws i (pos 0)
  unfolding noted_in
  noted_other i h g = get_or-set_other (set ws latest_at z) place_at i (pos n) (pos 0) g ∙ get_or-set_other ws latest_at i z (pos 0) h

  noted-word : (a : ℕ) → store_word (noted_in z n ws) a ≡ store_word ws a
  unfolding store_word pick
  noted-word a = go (le-or-lt store_cells a)
    where
      go : (store_cells ≤ a) ⊎ (a < store_cells) → store_word (noted_in z n ws) a ≡ store_word ws a
      go (inl h) =
          ap (λ (b : Bool). pick b (get_or (noted_in z n ws) a (pos 0)) undefined_word) (le-ltb a store_cells h) ∙ sym (ap (λ (b : Bool). pick b (get_or ws a (pos 0)) undefined_word) (le-ltb a store_cells h))
      go (inr h) =
          ap (λ (x : ℤ). pick (ltb a store_cells) x undefined_word) (noted_other a (λ e. absurd (omega (arith, e, h))) (λ e. absurd (omega (arith, e, h))))

  module _ (l : length ws ≡ store_words) where
    noted-length : length (noted_in z n ws) ≡ store_words
    unfolding noted_in
    noted-length = length-set (set ws latest_at z) place_at (pos n) ∙ length-set ws latest_at z ∙ l

    noted-latest : latest_in (noted_in z n ws) ≡ z
    unfolding latest_in noted_in
    noted-latest = get_or-set_other (set ws latest_at z) place_at latest_at (pos n) (pos 0) (λ e. absurd (omega (arith, e))) ∙ get_or-set_same ws latest_at z (pos 0) (omega (arith, l))

    noted-place : get_or (noted_in z n ws) place_at (pos 0) ≡ pos n
    unfolding noted_in
    noted-place = get_or-set_same (set ws latest_at z) place_at (pos n) (pos 0) (omega (arith, length-set ws latest_at z, l))

    place_is : place_in (noted_in z n ws) ≡ n
    unfolding place_in
    place_is = ap nat_of noted-place

  noted-stands : (s t : ℕ) (m : Store) → t ≤ 4294967295 → n ≤ 4294967295 → InRange z → Stands ws s m → Stands (noted_in z n ws) t (noting z n m)
  unfolding read_cell
  noted-stands s t m j k h S = record {
    long = noted-length S.long;
    steps = j;
    holds = record {
      cells = λ a. subst (λ (w : ℤ). Means w (read_cell a m)) (sym (noted-word a)) (S.holds.cells a);
      last = sym (noted-latest S.long);
      last-ranged = subst InRange (sym (noted-latest S.long)) h;
    };
    place = noted-place S.long;
    small = k;
    values = S.values;
    marks = S.marks;
    tidy = S.tidy;
  }

-- ---- ends

module _ (ws : List ℤ) (s : ℕ) (m : Store) (S : Stands ws s m) where
  pub normal-ends : Ends (answer normal (state m s)) ws s
  normal-ends = record {
    outcome = sym (told-normal s ws S.steps);
    stands = subst (λ (k : ℕ). Stands ws k m) (sym (left-of s S.steps)) S;
    left = sym (left-of s S.steps);
  }

  pub spent_ends : (t : ℕ) → t ≡ step_word s → 4294967295 < t → Ends (answer spent (state m s)) ws t
  unfolding step_word pick left_in
  spent_ends t e h =
      let z : s ≡ 0 = step-spent s t e h S.steps in
      let w : t ≡ 4294967296 = e ∙ ap step_word z in
      let k : s ≡ left_in t = z ∙ ap left_in (sym w) in
      record {
        outcome = sym (told-spent t ws h (omega (arith, w)));
        stands = subst (λ (k : ℕ). Stands ws k m) k S;
        left = k;
      }

  pub raising-ends : (z : ℤ) (n : ℕ) (ws' : List ℤ) (r : ℕ) → InRange z → Raises z n ws s ws' r → Ends (raising z n (state m s)) ws' r
  raising-ends z n ws' r h R =
      let e : left_in r ≡ s = ap (λ (w : ℕ). left_in w) R.word ∙ left-raised s ∙ left-of s S.steps in
      let g : 8589934592 ≤ r = subst (λ (w : ℕ). 8589934592 ≤ w) (sym R.word) (raised-high s) in
      record {
        outcome = sym (told-raised r ws' g ∙ ap (λ (us : List ℤ). raised (latest_in us) (place_in us)) R.store
            ∙ ap (λ (y : ℤ). raised y (place_in (noted_in z n ws))) (noted-latest z n ws S.long) ∙ ap (raised z) (place_is z n ws S.long));
        stands = subst (λ (us : List ℤ). Stands us (left_in r) (noting z n m)) (sym R.store) (noted-stands z n ws s (left_in r) m (left-small r) R.small h S);
        left = sym e;
      }

  -- the last exception again
  pub again-ends : (r : ℕ) → r ≡ raised_word s → Ends (answer (raised m.latest m.place) (state m s)) ws r
  unfolding place_in
  again-ends r w =
      let e : left_in r ≡ s = ap (λ (w : ℕ). left_in w) w ∙ left-raised s ∙ left-of s S.steps in
      let g : 8589934592 ≤ r = subst (λ (w : ℕ). 8589934592 ≤ w) (sym w) (raised-high s) in
      record {
        outcome = ap (λ (y : ℤ). raised y m.place) S.holds.last ∙ ap (raised (latest_in ws)) (sym (ap nat_of S.place)) ∙ sym (told-raised r ws g);
        stands = subst (λ (k : ℕ). Stands ws k m) (sym e) S;
        left = sym e;
      }

-- ---- a number raised
module _ (ws : List ℤ) (s : ℕ) (m : Store) (x : ℤ) (n : ℕ) (S : Stands ws s m) (R : InRange x) (r : ℕ) (w : r ≡ raised_word s) (k : n ≤ 4294967295) where
  new-ends : (z : ℤ) → InRange z → Ends (raising z n (state m s)) (noted_in z n ws) r
  new-ends z h = raising-ends ws s m S z n (noted_in z n ws) r h (record { word = w; store = refl; small = k })

  pass-ends : Ends (pass_on n (state m s)) (pick (is_zero (latest_in ws)) (noted_in system_error n ws) ws) r
  unfolding pass_on pick InRange inside
  pass-ends = go (is_zero m.latest) (is_zero (latest_in ws)) (ap is_zero S.holds.last)
    where
      go : (e c : Bool) → e ≡ c → Ends (branch e (raising system_error n) (answer (raised m.latest m.place)) (state m s)) (pick c (noted_in system_error n ws) ws) r
      go true true g = new-ends system_error refl
      go false false g = again-ends ws s m S r w
      go false true g = absurd (subst T (sym g) tt)
      go true false g = absurd (subst T g tt)

  pub raise-ends : Ends (raise_number n x (state m s)) (number_in x n ws) r
  unfolding raise_number number_in pick
  raise-ends = go (is_zero x)
    where
      go : (b : Bool) → Ends (branch b (pass_on n) (raising x n) (state m s)) (pick b (pick (is_zero (latest_in ws)) (noted_in system_error n ws) ws) (noted_in x n ws)) r
      go false = new-ends x R
      go true = pass-ends

-- ---- words of values and faults
-- an exception's number is in its range
fault-ranged : (e : ℤ) → Ranged (fails e) → InRange e
unfolding Ranged
fault-ranged e f = small-fault e f

-- the word of a fault is above the values, and holds it
fault-word : (e : ℤ) → Ranged (fails e) → (lt_z greatest (e +ℤ fault_base) ≡ true) × (fault_in (e +ℤ fault_base) ≡ e)
unfolding Ranged
fault-word e f = (sym (above-fault e f), fault-back e f)

clash : {A : Type 0} → ◌≡◌ {A = Bool} true false → A
clash h = absurd (subst T h tt)

-- what a word below the faults says
pub record Value (v : Result ℤ) (x : ℤ) : Type 0 where
  pub gives : v ≡ is x
  pub ranged : InRange x

pub word_value : (v : Result ℤ) (x : ℤ) → Means x v → lt_z greatest x ≡ false → Value v x
unfolding word_of Ranged
word_value (is z) x M h = record { gives = ap (λ (y : ℤ). is y) (sym M.word); ranged = subst InRange (sym M.word) M.ranged }
word_value (fails e) x M h = clash (sym (fault-word e M.ranged).0 ∙ ap (lt_z greatest) (sym M.word) ∙ h)
word_value stuck x M h = absurd M.ranged

pub value-not-fault : (z x : ℤ) → Means x (is z) → lt_z greatest x ≡ true → ⊥
unfolding word_of Ranged
value-not-fault z x M h = clash (sym h ∙ ap (lt_z greatest) M.word ∙ range-value z M.ranged)

pub record Faulty {A : Type 0} (v : Result A) (x : ℤ) : Type 0 where
  pub gives : v ≡ fails (fault_in x)
  pub ranged : InRange (fault_in x)

pub word-fault : (v : Result ℤ) (x : ℤ) → Means x v → lt_z greatest x ≡ true → Faulty v x
unfolding word_of Ranged
word-fault (is z) x M h = clash (sym h ∙ ap (lt_z greatest) M.word ∙ range-value z M.ranged)
word-fault (fails e) x M h =
    let f : fault_in x ≡ e = ap fault_in M.word ∙ (fault-word e M.ranged).1 in
    record { gives = ap (λ (y : ℤ). fails y) (sym f); ranged = subst InRange (sym f) (fault-ranged e M.ranged) }
word-fault stuck x M h = absurd M.ranged
