-- A procedure's body in the working list: the types of its parameters, its frame, and the node that tells of both.
use mathlib.Core.Path.{◌≡◌, refl, sym, ap, ◌∙◌, subst}
use mathlib.Core.Bool.{Bool}
use mathlib.Core.List.{List, [], ◌∷◌}
use Prim.Native.Nat.{ℕ, zero, suc, ◌+◌, ◌-◌, ◌<◌, ◌≤◌}
use native.Mathlib.Omega.{arith}
use borrow.Author.Tests.{ne_eqb, le-ltb}
use lib.ListN.{length, get_or}
use Rattle.law.specs.Code.{BodyCode, Frame, Want, frame, no_frame}
use Rattle.code.specs.Layout.{out, lay, lay_acts, lay_body, lay_frame, lay_parameters, flag, link}
use Rattle.code.specs.LayoutSize.{size_body}
use Rattle.code.specs.Readback.{frame_from, read_frame, read_wants}
use Rattle.code.proofs.LayoutActs.{laid-acts}
use Rattle.code.proofs.LayoutFrame.{FrameAt, laid-frame}
use Rattle.code.proofs.LayoutRegions.{Has, Lays, ◌next◌, lay-l, map-l, none-l, slot-l, top-l}
use Rattle.rule_parameters.specs.Framing.{lay_types}
use Rattle.table_scope.specs.Frames.{TellsFrame, framed, frame_at, frame_in}

-- ---- the types

none_has : {t : ℕ} {l : List ℕ} → Lays 0 t l (out t t l) (Has [] t)
none_has {t} {l} = let a = none-l {t = t} {p = t} {l = l} in record { grows = a.grows; top-is = a.top-is; held = λ r l' e. record { later = r.start; at = λ i h. absurd (omega (arith, h)) } }

pub laid-types : (us : List ℕ) (t : ℕ) (l : List ℕ) → Lays (length us) t l (lay_types us t l) (Has us t)
unfolding lay_types
laid-types [] t l = none_has
laid-types (u ∷ us) t l =
    let z : 1 + length us ≡ suc (length us) = omega arith in
    subst (λ (n : ℕ). Lays n t l (lay_types us (lay (u ∷ []) t l).top (lay (u ∷ []) t l).list) (Has (u ∷ us) t)) z
    (map-l (top-l (lay-l (u ∷ []) t l) next laid-types us _ _) (λ l' h. record { later = h.0.0.later; at = λ i b. go l' h.0.0 h.0.1 h.1 i b }))
  where
    go : (l' : List ℕ) → Has (u ∷ []) t l' → {x : ℕ} → x ≡ t + 1 → Has us x l' → (i : ℕ) → i < suc (length us) → get_or l' (t + i) 0 ≡ get_or (u ∷ us) i 0
    go l' a e b zero h = a.at 0 (omega arith)
    go l' a {x} e b (suc i) h = ap (λ (j : ℕ). get_or l' j 0) (let z : t + suc i ≡ x + i = omega (arith, e) in z) ∙ b.at i (omega (arith, h))

-- ---- the node

-- the body's node stands at p, below top; its frame is at f
pub record NodeAt (l : List ℕ) (p top f : ℕ) (q : Frame) : Type 0 where
  pub below : p + 5 ≤ top
  pub place_is : get_or l (p + 4) 0 ≡ f
  pub frame-there : FrameAt l f q

pub node-laid : (bs : List ℕ) (k : ℕ) (b : BodyCode) (t : ℕ) (l : List ℕ)
    → Lays (size_body b) t l (lay_body bs k b t l) (λ l'. NodeAt l' (lay_body bs k b t l).pos (lay_body bs k b t l).top (lay_frame b.frame t l).pos b.frame)
unfolding lay_body size_body lay link
node-laid bs k b t l =
    let f = lay_frame b.frame t l in
    let s = lay (0 ∷ []) f.top f.list in
    let m = lay_acts bs b.acts f.top s.top s.list in
    map-l (laid-frame b.frame t l next slot-l (laid-acts bs b.acts _ _ _) next slot-l (laid-acts bs b.handler _ _ _) next top-l (lay-l (k ∷ f.top ∷ flag b.handles ∷ m.top ∷ f.pos ∷ []) _ _))
    (λ l' h. record { below = omega (arith, h.1.1); place_is = h.1.0.at 4 (omega arith); frame-there = h.0.0.0 })

-- ---- what the node tells

wants-length : (n : ℕ) (l : List ℕ) (p : ℕ) → length (read_wants n l p) ≡ n
unfolding read_wants
wants-length zero l p = refl
wants-length (suc n) l p = ap suc (wants-length n l (p + 2))

count-there : (l : List ℕ) (f : ℕ) (q : Frame) → 1 ≤ f → read_frame l f ≡ q → get_or l (f + 1) 0 ≡ length q.wants
unfolding read_frame frame_from
count-there l f q h e =
    sym (wants-length (get_or l (f + 1) 0) l (f + 2)) ∙ ap (λ (x : Frame). length x.wants) (sym (ap (λ (b : Bool). frame_from b l f) (ne_eqb f 0 (λ z. omega (arith, z, h)))) ∙ e)

pub frame-place : (a : ℕ) (w : Want) (ws : List Want) (t : ℕ) (l : List ℕ) → (lay_frame (frame a (w ∷ ws)) t l).pos ≡ t
unfolding lay_frame lay_parameters lay
frame-place a w ws t l = refl

pub none-place : (t : ℕ) (l : List ℕ) → (lay_frame no_frame t l).pos ≡ 0
unfolding lay_frame lay_parameters
none-place t l = refl

-- without parameters
pub tells_none : {l : List ℕ} {p top : ℕ} {q : Frame} → NodeAt l p top 0 q → TellsFrame l top p []
unfolding frame_in
tells_none {l} {p} N =
    let z = N.place_is in
    record {
      node-below = N.below;
      frame_below = omega (arith, z, N.below);
      count-is = rw z refl;
      types_are = λ j h. absurd (omega (arith, h));
      few = omega arith;
    }

-- with the types us from t on, before the frame
pub tells-some : {l : List ℕ} {p top t f : ℕ} {q : Frame} (us : List ℕ) → Has us t l → NodeAt l p top f q → read_frame l f ≡ q → f ≡ t + length us → f + 2 ≤ top → length q.wants ≡ length us → length us ≤ 8
    → TellsFrame l top p us
unfolding frame_in frame_at
tells-some {l} {p} {top} {t} {f} {q} us H N e a b c d =
    let o = H.later in
    let z = N.place_is in
    let n : get_or l (f + 1) 0 ≡ length us = count-there l f q (omega arith) e ∙ c in
    let i : frame_in l p ≡ framed (length us) (f - length us) (get_or l f 0) =
    rw (z, ne_eqb f 0 (λ y. omega (arith, y, a, o)), n, le-ltb f (length us) (omega (arith, a))) refl in
    record {
      node-below = N.below;
      frame_below = omega (arith, z, b);
      count-is = rw i refl;
      types_are = λ j h. rw i (ap (λ (x : ℕ). get_or l x 0) (let y : f - length us + j ≡ t + j = omega (arith, a) in y) ∙ H.at j h);
      few = d;
    }
