-- Laying parameters: what it does to the working list, and that reading back gives them.
use mathlib.Core.Path.{◌≡◌, refl}
use mathlib.Core.List.{List, [], ◌∷◌}
use Prim.Native.Nat.{ℕ, ◌+◌}
use native.Mathlib.Omega.{arith}
use borrow.Author.Tests.{ne_eqb}
use lib.ListN.{length}
use Rattle.leaf_words.specs.Numbers.{signed}
use Rattle.law.specs.Code.{Frame, Want, any_set, frame, ranged}
use Rattle.code.specs.Layout.{lay, lay_frame, lay_parameters, lay_wants, want_numbers}
use Rattle.code.specs.Readback.{frame_from, integer_at, read_frame, read_wants, want_at, want_from}
use Rattle.code.specs.LayoutSize.{FrameFits, WantsFit, ranged-fits, set-want-fits, size_parameters, size_wants}
use Rattle.code.proofs.LayoutRegions.{Has, Lays, ◌next◌, lay-l, map-l, moved-l, none-l, top-l}
use Rattle.code.proofs.LayoutCode.{first, signed-bits}

-- ---- what parameters take

-- the list holds it from p on: if its numbers can hold it, it is read back
pub record WantsAt (l : List ℕ) (p : ℕ) (ws : List Want) : Type 0 where
  pub read : WantsFit ws → read_wants (length ws) l p ≡ ws

want-back : {l : List ℕ} {p : ℕ} (w : Want) (ws : List Want) → Has (want_numbers w) p l → WantsFit (w ∷ ws) → want_at l p ≡ w
unfolding want_numbers want_at want_from integer_at signed
want-back (ranged lo hi) ws h (ranged-fits i j e f) = rw (first _ _ _ _ h, h.at 1 (omega arith), signed-bits lo i, signed-bits hi j, e)
want-back any_set ws h (set-want-fits f) = rw (first _ _ _ _ h, h.at 1 (omega arith))

rest-fit : (w : Want) (ws : List Want) → WantsFit (w ∷ ws) → WantsFit ws
rest-fit (ranged lo hi) ws (ranged-fits i j e f) = f
rest-fit any_set ws (set-want-fits f) = f

want-l : (w : Want) (t : ℕ) (l : List ℕ) → Lays 2 t l (lay (want_numbers w) t l) (Has (want_numbers w) t)
unfolding want_numbers
want-l (ranged lo hi) t l = lay-l _ t l
want-l any_set t l = lay-l _ t l

laid-wants : (ws : List Want) (t : ℕ) (l : List ℕ) → Lays (size_wants ws) t l (lay_wants ws t l) (λ l'. WantsAt l' t ws)
unfolding lay_wants size_wants read_wants
laid-wants [] t l = map-l (none-l {p = t}) (λ l' h. record { read = λ f. refl })
laid-wants (w ∷ ws) t l =
    map-l (top-l (want-l w t l) next laid-wants ws _ _)
    (λ l' h. record { read = λ f. rw (want-back w ws h.0.0 f, ← h.0.1, h.1.read (rest-fit w ws f)) })

-- ---- a frame

pub record FrameAt (l : List ℕ) (p : ℕ) (q : Frame) : Type 0 where
  pub read : FrameFits q → read_frame l p ≡ q

none-back : (l : List ℕ) (a : ℕ) → FrameFits (frame a []) → read_frame l 0 ≡ frame a []
unfolding read_frame frame_from
none-back l a f = rw (f.empty-fits refl)

frame_back : {l : List ℕ} {p a : ℕ} (ws : List Want) → Has (a ∷ length ws ∷ []) p l → WantsAt l (p + 2) ws → FrameFits (frame a ws) → read_frame l p ≡ frame a ws
unfolding read_frame frame_from
frame_back {p} ws h W f = rw (ne_eqb p 0 (omega (arith, h.later)), first _ _ _ _ h, h.at 1 (omega arith), W.read f.wants-fit)

laid-parameters : (a : ℕ) (ws : List Want) (t : ℕ) (l : List ℕ) → Lays (size_parameters ws) t l (lay_parameters a ws t l) (λ l'. FrameAt l' (lay_parameters a ws t l).pos (frame a ws))
unfolding lay_parameters size_parameters lay
laid-parameters a [] t l = map-l (none-l {p = 0}) (λ l' h. record { read = none-back l' a })
laid-parameters a (w ∷ ws) t l =
    map-l (moved-l (top-l (lay-l (a ∷ length (w ∷ ws) ∷ []) t l) next laid-wants (w ∷ ws) _ _))
    (λ l' h. record { read = frame_back (w ∷ ws) h.0.0 (rw h.0.1 at h.1) })

pub laid-frame : (q : Frame) (t : ℕ) (l : List ℕ) → Lays (size_parameters q.wants) t l (lay_frame q t l) (λ l'. FrameAt l' (lay_frame q t l).pos q)
unfolding lay_frame
laid-frame q t l = laid-parameters q.base q.wants t l
