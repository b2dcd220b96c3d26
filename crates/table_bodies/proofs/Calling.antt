-- Procedures by number: the q-th of the first n is its body's run with the q before it; a script's run is that of its last body.
use mathlib.Core.Path.{◌≡◌, refl, ap, ◌∙◌}
use mathlib.Core.List.{List, [], ◌∷◌, ◌++◌}
use mathlib.Core.Logic.{◌⊎◌, inl, inr}
use Prim.Native.Nat.{ℕ, zero, suc, ◌+◌, ◌<◌, ◌≤◌}
use native.Mathlib.Omega.{arith}
use lib.ListN.{length, get_or, get_or-append}
use lib.Seq.{get_or_at}
use Rattle.leaf_integers.proofs.Order.{le-or-lt}
use Rattle.law.specs.Environment.{PlacedBody}
use Rattle.law.specs.Code.{no_frame}
use Rattle.law.specs.Machine.{Proc, answer, normal, proc, procedure_at}
use Rattle.law.specs.Whole.{mark_body, mark_all}
use Rattle.table_bodies.specs.Procedures.{procs_of}

module _ {A : Type 0} (d : A) where
  pub length-snoc : (l : List A) (x : A) → length (l ++ (x ∷ [])) ≡ suc (length l)
  length-snoc [] x = refl
  length-snoc (y ∷ l) x = ap suc (length-snoc l x)

  pub at_before : (l : List A) (x : A) (k : ℕ) → k < length l → get_or (l ++ (x ∷ [])) k d ≡ get_or l k d
  at_before l x k h = get_or-append l (x ∷ []) d k h

  pub at_last : (l : List A) (x : A) (k : ℕ) → length l ≡ k → get_or (l ++ (x ∷ [])) k d ≡ x
  at_last l x k e = get_or_at l x [] d k e

-- ---- procedures

module _ (none : PlacedBody) (pbs : List PlacedBody) where
  -- what stands for no procedure
  abbrev nobody : Proc
  nobody = proc no_frame (answer normal)

  -- procedure q
  abbrev pub called : ℕ → Proc
  called q = proc (get_or pbs q none).frame (mark_body (get_or pbs q none) (procs_of none pbs q))

  pub length-procs : (n : ℕ) → length (procs_of none pbs n) ≡ n
  unfolding procs_of
  length-procs zero = refl
  length-procs (suc n) = length-snoc nobody (procs_of none pbs n) (called n) ∙ ap suc (length-procs n)

  procedure-step : (n q : ℕ) → (q < n → get_or (procs_of none pbs n) q nobody ≡ called q) → (n ≤ q) ⊎ (q < n) → q < suc n → get_or (procs_of none pbs n ++ (called n ∷ [])) q nobody ≡ called q
  procedure-step n q f (inl g) h =
      let o : n ≡ q = omega (arith, g, h) in
      at_last nobody (procs_of none pbs n) (called n) q (length-procs n ∙ o) ∙ ap (λ (j : ℕ). called j) o
  procedure-step n q f (inr g) h = at_before nobody (procs_of none pbs n) (called n) q (omega (arith, g, length-procs n)) ∙ f g

  pub procedure-is : (n q : ℕ) → q < n → procedure_at (procs_of none pbs n) q ≡ called q
  unfolding procs_of procedure_at
  procedure-is zero q h = absurd (omega (arith, h))
  procedure-is (suc n) q h = procedure-step n q (procedure-is n q) (le-or-lt n q) h

  -- a script's run: the bodies from the k-th on
  run_step : (n : ℕ) (bs : List PlacedBody) (k : ℕ) → ((i : ℕ) → i < length bs → get_or bs i none ≡ get_or pbs (k + i) none) → k + length bs ≡ suc n → 1 ≤ length bs
      → mark_all bs (procs_of none pbs k) ≡ mark_body (get_or pbs n none) (procs_of none pbs n)
  unfolding mark_all procs_of
  run_step n [] k f e h = absurd (omega (arith, h))
  run_step n (b ∷ []) k f e h =
      let o : k ≡ n = omega (arith, e) in
      ap (λ (x : PlacedBody). mark_body x (procs_of none pbs k)) (f 0 (omega arith) ∙ ap (λ (j : ℕ). get_or pbs j none) (omega arith))
      ∙ ap (λ (j : ℕ). mark_body (get_or pbs j none) (procs_of none pbs j)) o
  run_step n (b ∷ (c ∷ bs)) k f e h =
      ap (λ (x : PlacedBody). mark_all (c ∷ bs) (procs_of none pbs k ++ (proc x.frame (mark_body x (procs_of none pbs k)) ∷ []))) (f 0 (omega arith) ∙ ap (λ (j : ℕ). get_or pbs j none) (omega arith))
      ∙ run_step n (c ∷ bs) (suc k) (λ i g. f (suc i) (omega (arith, g)) ∙ ap (λ (j : ℕ). get_or pbs j none) (omega arith)) (omega (arith, e)) (omega arith)

  -- is that of its last body
  pub all-is : (n : ℕ) → length pbs ≡ suc n → mark_all pbs [] ≡ mark_body (get_or pbs n none) (procs_of none pbs n)
  unfolding procs_of
  all-is n e = run_step n pbs 0 (λ i h. ap (λ (j : ℕ). get_or pbs j none) (omega arith)) (omega (arith, e)) (omega (arith, e))
