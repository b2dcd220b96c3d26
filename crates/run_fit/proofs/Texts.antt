-- An accepted text's bodies, held by a list of 16384 numbers, are what the engine asks for.
use mathlib.Core.Path.{◌≡◌, refl, sym, ◌∙◌}
use mathlib.Core.List.{List, [], ◌∷◌, map}
use Prim.Native.Nat.{ℕ, zero, suc, ◌-◌, ◌<◌, ◌≤◌}
use native.Mathlib.Nat.{zero-add}
use native.Mathlib.Omega.{arith}
use lib.ListN.{get_or, length, length-map}
use Rattle.law.specs.Code.{BodyCode}
use Rattle.code.specs.Readback.{body_at_places, read_body}
use Rattle.law.specs.Verdict.{Read, accepted}
use Rattle.law.specs.Whole.{verdict_of}
use Rattle.law_theorems.proofs.Bodies.{body-get}
use Rattle.law_theorems.specs.CodeCalls.{CallsBody, frame_by}
use Rattle.law_theorems.specs.CodeSized.{SizedFrame}
use Rattle.code.proofs.CodeReady.{body-ready-at-places}
use Rattle.code.specs.CodeReady.{ReadyBody}
use Rattle.code.proofs.Texts.{any-room-at, body-count, code-calls, code-ready, code-sized, for-room-at, room-enough}
use Rattle.code.specs.LayoutBodies.{Bodies, BodiesAt}
use Rattle.code.proofs.ListMachineRuns.{frame-read, size-within}
use Rattle.run_linear.specs.Bodies.{no_body}
use Rattle.run_linear.specs.BodyLoops.{loops}
use Rattle.run_emit.specs.Plainly.{Callable}
use Rattle.run_emit.specs.Spans.{span_body}
use Rattle.run_emit.specs.Whole.{span_bodies}
use Rattle.run_fit.specs.Fit.{Fit, loops_in}
use Rattle.run_fit.proofs.Plainly.{Known, plain_body}
use Rattle.run_fit.proofs.Spans.{spans, spans_fit}
use Rattle.run_fit.proofs.Sums.{fors-sum, loops-up, read_at, spans-up, sum-up}

-- the parameters of a body by its number
frame-by : (bs : List BodyCode) (k : ℕ) → k < length bs → frame_by bs k ≡ (get_or bs k no_body).frame
frame-by [] k h = absurd (omega (arith, h))
frame-by (b ∷ bs) zero h = refl
frame-by (b ∷ bs) (suc k) h = frame-by bs k (omega (arith, h))

sized-at-places : (places : List ℕ) (b : BodyCode) → SizedFrame b.frame → SizedFrame (body_at_places places b).frame
unfolding body_at_places
sized-at-places places b f = f

-- the list holds the bodies of the text at these places; nothing is asked of what stands between them
module _ (text : List ℕ) (work : ℕ) (r : Read) (accept : verdict_of text work ≡ accepted r)
    {a t : ℕ} (l places : List ℕ) (long : length l ≡ 16384) (held : (other : BodyCode) → Bodies other a t l places r.codes) where
  here : BodiesAt no_body l places r.codes
  here = (held no_body).held l (record { at = λ _ _ _. refl })

  -- procedures and main
  many : (1 ≤ length r.codes) × (length r.codes ≤ 33)
  many = body-count text work r accept

  count : suc (length places - 1) ≡ length r.codes
  count = omega (arith, (held no_body).count, many.0)

  -- body number k as it is read back, and what is known of it
  read_back : (k : ℕ) → k < length r.codes → read_body 16384 l (get_or places k 0) ≡ body_at_places places (get_or r.codes k no_body)
  read_back k h = here.read places (record { at = λ _ _. refl }) k h 16384 (omega (arith, size-within no_body r.codes k h, room-enough text work r accept))

  ready : (k : ℕ) → k < length r.codes → ReadyBody 31 (get_or r.codes k no_body)
  ready k h = body-get no_body (code-ready text work r accept) k h

  calls : (k : ℕ) → k < length r.codes → CallsBody (frame_by r.codes) k (get_or r.codes k no_body)
  calls k h = rw zero-add at (body-get no_body (code-calls text work r accept) k h)

  callable : (m : ℕ) → m ≤ length r.codes → (j : ℕ) → j < m → Callable l places m (get_or places j 0)
  callable m h j k =
      let i : j < length places = omega (arith, (held no_body).count, h, k) in
      let n = here.number j i in
      record { below = rw n k; same = rw n refl; inside = omega (arith, here.inside j i, long) }

  sized : (k : ℕ) → k < length r.codes → SizedFrame (get_or r.codes k no_body).frame
  sized k h = (body-get no_body (code-sized text work r accept) k h).frame

  known : (m : ℕ) → m ≤ length r.codes → Known l places (frame_by r.codes) m
  known m h = record {
    callable = callable m h;
    frames = λ j k. frame-read l (get_or places j 0) (get_or r.codes j no_body) places (read_back j (omega (arith, h, k))) ∙ sym (frame-by r.codes j (omega (arith, h, k)));
  }

  -- ---- what all of them take

  room : span_bodies l places (suc (length places - 1)) ≤ 16383
  room = rw (count, spans-up l places (length r.codes), sum-up (body_at_places places) no_body r.codes (read_at l places) span_body read_back)
      (spans_fit (map (body_at_places places) r.codes) (omega (arith, length-map r.codes (body_at_places places), many.1)) (any-room-at text work r accept places spans))

  few-loops : loops_in l places (suc (length places - 1)) ≤ 1024
  few-loops = rw (count, loops-up l places (length r.codes), sum-up (body_at_places places) no_body r.codes (read_at l places) loops read_back, ← fors-sum (map (body_at_places places) r.codes))
      (omega (arith, for-room-at text work r accept places))

  -- ---- main's body is the last

  pub text-fits : (main : ℕ) → main ≡ get_or places (length places - 1) 0 → Fit l places main
  text-fits main e = rw e record {
    laying = record {
      number = length places - 1;
      few = omega (arith, count, many.1);
      last = refl;
      own = here.number (length places - 1) (omega (arith, (held no_body).count, count));
      inside = λ k h. omega (arith, here.inside k (omega (arith, (held no_body).count, count, h)), long);
      plain = λ k h. rw (read_back k (omega (arith, count, h))) (plain_body l places (frame_by r.codes) k (known k (omega (arith, count, h))) (ready k (omega (arith, count, h))) (calls k (omega (arith, count, h))) (sized k (omega (arith, count, h))));
      room = room;
    };
    shallow = omega (arith, count, many.1);
    ready = λ k h. rw (read_back k (omega (arith, count, h))) (body-ready-at-places places (ready k (omega (arith, count, h))));
    sized = λ k h. rw (read_back k (omega (arith, count, h))) (sized-at-places places (get_or r.codes k no_body) (sized k (omega (arith, count, h))));
    few-loops = few-loops;
  }
