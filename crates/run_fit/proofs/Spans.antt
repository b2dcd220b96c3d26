-- The emitter's numbers (run_nodes, span_code; run_emit, span_act) are a measure of code (code, Measure): an accepted text's code has room for them.
use mathlib.Core.Path.{◌≡◌, refl}
use mathlib.Core.List.{List, [], ◌∷◌}
use mathlib.Core.Logic.{◌⊎◌, inl, inr}
use Prim.Native.Nat.{ℕ, ◌+◌, ◌*◌, ◌<◌, ◌≤◌}
use native.Mathlib.Omega.{arith}
use lib.ListN.{length}
use Rattle.law.specs.Code.{Acts, stop, ◌also◌, BodyCode}
use Rattle.code.proofs.Measure.{Measure, total}
use Rattle.run_nodes.specs.Emitted.{indices_in, members_in, span_code, span_members, span_place}
use Rattle.run_emit.specs.Spans.{span_act, span_acts, span_body, span_cases, span_labels}
use Rattle.run_fit.proofs.Sums.{sum_of}

-- 1 where there is a statement: its link in a chain of the layout leaves 2 over
unfoldable more : Acts → ℕ
more stop = 0
more (a also bs) = 1

unfoldable pub spans : Measure
unfolding indices_in members_in span_code span_place span_act span_labels more
spans = record {
  code = span_code;
  place = span_place;
  codes = λ cs. members_in cs + span_members cs;
  arguments = λ cs. members_in cs + span_members cs;
  labels = span_labels;
  act = span_act;
  acts = λ bs. span_acts bs + more bs;
  cases = span_cases;
  of-literal = λ z. omega arith;
  of_number = omega arith;
  of-set = λ lo hi cs. omega arith;
  of-calculate = λ o a b. omega arith;
  of-short = λ q a b. omega arith;
  of-calculate1 = λ o a. omega arith;
  of-cell = λ a. omega arith;
  of-index = λ p c lo hi k. omega arith;
  of_shift = λ p k. omega arith;
  load_cell = λ a n. omega arith;
  load-index = λ p c lo hi k n. omega arith;
  load-shift = λ p k n. omega arith;
  no-codes = omega arith;
  one_code = λ c cs. omega arith;
  no_arguments = omega arith;
  one_argument = λ c cs. omega arith;
  no-labels = omega arith;
  one_label = λ z zs. omega arith;
  of-ordinal = λ n p lo hi c. omega arith;
  of-set-cell = λ n p c. omega arith;
  of-copy = λ n p q k. omega arith;
  of-sequence = λ n bs. omega arith;
  of-branch = λ n c a b. omega arith;
  of-while = λ n c a. omega arith;
  of-for = λ n i lo hi x y a. omega arith;
  of-case = λ n c cs. omega arith;
  of-call = λ n p cs. omega arith;
  of-raise = λ n c. omega arith;
  of-nothing = omega arith;
  no-acts = omega arith;
  one-act = λ a bs. omega arith;
  of-else = λ a. omega arith;
  no-arms = omega arith;
  one_arm = λ ls a cs. omega arith;
}

-- a list of statements takes nothing, or less than its measure
acts-spare : (bs : Acts) → (span_acts bs + more bs ≡ 0) ⊎ (more bs ≡ 1)
unfolding span_act more
acts-spare stop = inl refl
acts-spare (a also bs) = inr refl

-- place 0 is left free: bodies with a statement take less than their measure, those without take 8 each
pub spare : (bs : List BodyCode) → (sum_of span_body bs ≡ 8 * length bs) ⊎ (sum_of span_body bs < total spans bs)
unfolding sum_of total spans span_body
spare [] = inl refl
spare (b ∷ bs) = go (acts-spare b.acts) (acts-spare b.handler) (spare bs) (within bs)
  where
    within : (cs : List BodyCode) → sum_of span_body cs ≤ total spans cs
    within [] = omega arith
    within (c ∷ cs) = omega (arith, within cs)

    go : (span_acts b.acts + more b.acts ≡ 0) ⊎ (more b.acts ≡ 1) → (span_acts b.handler + more b.handler ≡ 0) ⊎ (more b.handler ≡ 1)
        → (sum_of span_body bs ≡ 8 * length bs) ⊎ (sum_of span_body bs < total spans bs) → sum_of span_body bs ≤ total spans bs
        → (sum_of span_body (b ∷ bs) ≡ 8 * length (b ∷ bs)) ⊎ (sum_of span_body (b ∷ bs) < total spans (b ∷ bs))
    go (inl h) (inl g) (inl k) w = inl (omega (arith, h, g, k))
    go (inl h) (inl g) (inr k) w = inr (omega (arith, k))
    go (inl h) (inr g) k w = inr (omega (arith, g, w))
    go (inr h) g k w = inr (omega (arith, h, w))

-- so at most 33 bodies whose measure is within 16384 take at most 16383
pub spans_fit : (bs : List BodyCode) → length bs ≤ 33 → total spans bs ≤ 16384 → sum_of span_body bs ≤ 16383
spans_fit bs few t = go (spare bs)
  where
    go : (sum_of span_body bs ≡ 8 * length bs) ⊎ (sum_of span_body bs < total spans bs) → sum_of span_body bs ≤ 16383
    go (inl h) = omega (arith, h, few)
    go (inr h) = omega (arith, h, t)
