-- The node of a procedure's body and its frame, as the loose judge lays them.
use mathlib.Core.Path.{◌≡◌, refl, sym, ap, ◌∙◌}
use mathlib.Core.List.{List, [], ◌∷◌, map}
use Prim.Native.Nat.{ℕ, ◌+◌, ◌*◌, ◌-◌, ◌≤◌}
use native.Mathlib.Omega.{arith}
use borrow.Author.Tests.{ne_eqb, le-ltb}
use lib.ListN.{length, get_or, length-map}
use Rattle.law.specs.Base.{Name}
use Rattle.law.specs.Code.{Frame, Want, any_set, frame, no_frame, ranged}
use Rattle.law.specs.Environment.{Environment, frame_of, parameter_types, want_of}
use Rattle.law.specs.Machine.{lent_cells}
use Rattle.code.specs.Layout.{Out, out, lay, lay_frame, lay_parameters, lay_wants, want_numbers}
use Rattle.code.specs.LayoutRegions.{Room, Same}
use Rattle.code.specs.LayoutSize.{size_parameters, size_wants}
use Rattle.code.proofs.LayoutRegions.{Has, Lays, ◌next◌, lay-l, map-l, moved-l, none-l}
use Rattle.rule_parameters.specs.Framing.{lay_types}
use Rattle.table_scope.specs.Frames.{TellsFrame, framed, frame_at, frame_in}
use Rattle.rule_judge.proofs.BodyFrames.{laid-types}
use Rattle.rule_judge_loose.specs.Standing.{NodeKept}

-- ---- a frame's first two numbers

abbrev Any : List ℕ → Type 0
Any l = l ≡ l

want-room : (w : Want) (t : ℕ) (l : List ℕ) → Lays 2 t l (lay (want_numbers w) t l) Any
unfolding want_numbers
want-room (ranged lo hi) t l = map-l (lay-l _ t l) (λ l' h. refl)
want-room any_set t l = map-l (lay-l _ t l) (λ l' h. refl)

wants-room : (ws : List Want) (t : ℕ) (l : List ℕ) → Lays (size_wants ws) t l (lay_wants ws t l) Any
unfolding lay_wants size_wants
wants-room [] t l = map-l (none-l {p = t}) (λ l' h. refl)
wants-room (w ∷ ws) t l = map-l (want-room w t l next wants-room ws _ _) (λ l' h. refl)

frame-head : (a : ℕ) (w : Want) (ws : List Want) (t : ℕ) (l : List ℕ) → Lays (size_parameters (w ∷ ws)) t l (lay_frame (frame a (w ∷ ws)) t l) (Has (a ∷ length (w ∷ ws) ∷ []) t)
unfolding lay_frame lay_parameters size_parameters lay
frame-head a w ws t l = map-l (moved-l (lay-l (a ∷ length (w ∷ ws) ∷ []) t l next wants-room (w ∷ ws) _ _)) (λ l' h. h.0)

frame-place : (a : ℕ) (w : Want) (ws : List Want) (t : ℕ) (l : List ℕ) → (lay_frame (frame a (w ∷ ws)) t l).pos ≡ t
unfolding lay_frame lay_parameters lay
frame-place a w ws t l = refl

wants-size : (ws : List Want) → size_wants ws ≡ 2 * length ws
unfolding size_wants
wants-size [] = refl
wants-size (w ∷ ws) = let h = wants-size ws in omega (arith, h)

frame-size : (w : Want) (ws : List Want) → size_parameters (w ∷ ws) ≡ 2 + 2 * length (w ∷ ws)
unfolding size_parameters
frame-size w ws = let h = wants-size (w ∷ ws) in omega (arith, h)

-- ---- what a node tells

head_at : {n : ℕ} {ns : List ℕ} {p : ℕ} {l : List ℕ} → Has (n ∷ ns) p l → get_or l p 0 ≡ n
head_at {p = p} {l = l} h = ap (λ (i : ℕ). get_or l i 0) (let z : p ≡ p + 0 = omega arith in z) ∙ h.at 0 (omega arith)

module _ {l : List ℕ} {p q f top : ℕ} (N : Has (q ∷ 0 ∷ 0 ∷ 0 ∷ f ∷ []) p l) (below : p + 5 ≤ top) where
  place_is : get_or l (p + 4) 0 ≡ f
  place_is = N.at 4 (omega arith)

  frame-none : f ≡ 0 → frame_in l p ≡ framed 0 0 0
  unfolding frame_in
  frame-none z = rw (place_is, z) refl

  none-tells : f ≡ 0 → TellsFrame l top p []
  none-tells z =
      let i = frame-none z in
      let y = place_is in
      record { node-below = below; frame_below = omega (arith, y, z, below); count-is = rw i refl; types_are = λ j h. absurd (omega (arith, h)); few = omega arith }

  none_kept : f ≡ 0 → NodeKept l top p q no_frame
  none_kept z =
      let i = frame-none z in
      let y = place_is in
      record { node = record { number_is = head_at N; base-is = rw i refl; count-is = rw i refl }; low = below; frame-low = omega (arith, y, z, below) }

  module _ (us : List ℕ) (t a n : ℕ) (H : Has us t l) (X : Has (a ∷ n ∷ []) f l) (after : f ≡ t + length us) (many : n ≡ length us) (low : f + 2 ≤ top) where
    frame-some : frame_in l p ≡ framed (length us) (f - length us) a
    unfolding frame_in frame_at
    frame-some =
        let o = X.later in
        let m : get_or l (f + 1) 0 ≡ length us = X.at 1 (omega arith) ∙ many in
        rw (place_is, ne_eqb f 0 (λ y. omega (arith, y, o)), m, le-ltb f (length us) (omega (arith, after)), head_at X) refl

    some-tells : length us ≤ 8 → TellsFrame l top p us
    some-tells e =
        let i = frame-some in
        let y = place_is in
        record {
          node-below = below;
          frame_below = omega (arith, y, low);
          count-is = rw i refl;
          types_are = λ j h. rw i (ap (λ (x : ℕ). get_or l x 0) (let z : f - length us + j ≡ t + j = omega (arith, after) in z) ∙ H.at j h);
          few = e;
        }

    some-kept : (fr : Frame) → fr.base ≡ a → length fr.wants ≡ length us → NodeKept l top p q fr
    some-kept fr b c =
        let i = frame-some in
        let y = place_is in
        record { node = record { number_is = head_at N; base-is = rw i (sym b); count-is = rw i (sym c) }; low = below; frame-low = omega (arith, y, low) }

-- ---- all that is laid for a procedure before its name's entry

-- the free place was t and the list l; l₁ is the list after types and frame, l₂ that after the body was walked
pub record NodeThere (σ : Environment) (qs : List (Name × ℕ)) (q t p : ℕ) (l noded : List ℕ) (entry : ℕ) : Type 0 where
  pub entry-is : entry ≡ p + 5
  pub room : p ≤ t + 2 + 3 * length qs
  pub long : length noded ≡ length l
  pub tells : length qs ≤ 8 → TellsFrame noded entry p (parameter_types qs)
  pub kept : NodeKept noded entry p q (frame_of σ qs)

types-length : (qs : List (Name × ℕ)) → length (parameter_types qs) ≡ length qs
types-length qs = length-map qs (λ (p : Name × ℕ). p.1)

module _ (σ : Environment) (q t f p : ℕ) (l l₁ l₂ : List ℕ) (start : 1 ≤ t) (long : 16384 ≤ length l) (E : Same 0 p l₂ l₁) (same : length l₂ ≡ length l₁) where
  abbrev node : List ℕ
  node = q ∷ 0 ∷ 0 ∷ 0 ∷ f ∷ []

  abbrev laid : Out
  laid = lay (q ∷ 0 ∷ 0 ∷ 0 ∷ f ∷ []) p l₂

  node-has : 1 ≤ p → p + 5 ≤ 16384 → 16384 ≤ length l₂ → Has (q ∷ 0 ∷ 0 ∷ 0 ∷ f ∷ []) p (lay (q ∷ 0 ∷ 0 ∷ 0 ∷ f ∷ []) p l₂).list
  node-has a b c = (lay-l node p l₂).held (record { start = a; fits = b; long = c }) _ (record { at = λ i x y. refl })

  none-laid : out f p l₁ ≡ lay_frame no_frame (lay_types [] t l).top (lay_types [] t l).list → (f ≡ 0) × (p ≡ t) × (l₁ ≡ l)
  unfolding lay_frame lay_parameters lay_types
  none-laid F = (ap (λ (x : Out). x.pos) F, ap (λ (x : Out). x.top) F, ap (λ (x : Out). x.list) F)

  pub node-there : (qs : List (Name × ℕ)) → out f p l₁ ≡ lay_frame (frame_of σ qs) (lay_types (parameter_types qs) t l).top (lay_types (parameter_types qs) t l).list → t + 7 + 3 * length qs ≤ 16384
      → NodeThere σ qs q t p l (lay (q ∷ 0 ∷ 0 ∷ 0 ∷ f ∷ []) p l₂).list (lay (q ∷ 0 ∷ 0 ∷ 0 ∷ f ∷ []) p l₂).top
  unfolding frame_of
  node-there [] F h =
      let z = none-laid F in
      let e : p ≡ t = z.1 in
      let m : length l₁ ≡ length l = ap (λ (x : List ℕ). length x) z.2 in
      let v : (lay node p l₂).top ≡ p + 5 = (lay-l node p l₂).top-is (omega (arith, e, h)) in
      let N = node-has (omega (arith, e, start)) (omega (arith, e, h)) (omega (arith, same, m, long)) in
      record {
        entry-is = v;
        room = omega (arith, e);
        long = (lay-l node p l₂).grows.long ∙ same ∙ m;
        tells = λ _. none-tells N (omega (arith, v)) z.0;
        kept = none_kept N (omega (arith, v)) z.0;
      }
  node-there (r ∷ qs) F h =
      let us = parameter_types (r ∷ qs) in
      let T = laid-types (parameter_types (r ∷ qs)) t l in
      let j : length (parameter_types (r ∷ qs)) ≡ length (r ∷ qs) = types-length (r ∷ qs) in
      let t₀ : (lay_types (parameter_types (r ∷ qs)) t l).top ≡ t + length (parameter_types (r ∷ qs)) = T.top-is (omega (arith, h, j)) in
      let a = lent_cells + length σ.parameters in
      let w = want_of σ.types r.1 in
      let ws = map (want_of σ.types) (parameter_types qs) in
      let X = frame-head (lent_cells + length σ.parameters) (want_of σ.types r.1) (map (want_of σ.types) (parameter_types qs)) (lay_types (parameter_types (r ∷ qs)) t l).top (lay_types (parameter_types (r ∷ qs)) t l).list in
      let sz = frame-size (want_of σ.types r.1) (map (want_of σ.types) (parameter_types qs)) in
      let lw : length (map (want_of σ.types) (parameter_types (r ∷ qs))) ≡ length (parameter_types (r ∷ qs)) = length-map (parameter_types (r ∷ qs)) (want_of σ.types) in
      let fp : f ≡ (lay_types (parameter_types (r ∷ qs)) t l).top = ap (λ (x : Out). x.pos) F ∙ frame-place _ _ _ _ _ in
      let tp = ap (λ (x : Out). x.top) F ∙ X.top-is (omega (arith, t₀, sz, lw, j, h)) in
      let lp = ap (λ (x : Out). x.list) F in
      let m : length l₁ ≡ length l = ap (λ (x : List ℕ). length x) lp ∙ X.grows.long ∙ T.grows.long in
      let e : p ≡ t + 2 + 3 * length (r ∷ qs) = omega (arith, tp, t₀, sz, lw, j) in
      let v : (lay node p l₂).top ≡ p + 5 = (lay-l node p l₂).top-is (omega (arith, e, h)) in
      let N = node-has (omega (arith, e, start)) (omega (arith, e, h)) (omega (arith, same, m, long)) in
      let G = (lay-l node p l₂).grows in
      let D = T.held (record { start = start; fits = omega (arith, h, j); long = long }) (lay node p l₂).list
      (record { at = λ i x y. G.below i (omega (arith, y, t₀, e, j)) ∙ E.at i (omega arith) (omega (arith, y, t₀, e, j)) ∙ ap (λ (z : List ℕ). get_or z i 0) lp ∙ X.grows.below i y }) in
      let R : Room (size_parameters (map (want_of σ.types) (parameter_types (r ∷ qs)))) (lay_types (parameter_types (r ∷ qs)) t l).top (lay_types (parameter_types (r ∷ qs)) t l).list = record { start = omega (arith, start, t₀); fits = omega (arith, t₀, sz, lw, j, h); long = let g = T.grows.long in omega (arith, g, long) } in
      let Y = X.held R (lay node p l₂).list
      (record { at = λ i x y. G.below i (omega (arith, y, tp, X.top-is (omega (arith, t₀, sz, lw, j, h)))) ∙ E.at i (omega arith) (omega (arith, y, tp, X.top-is (omega (arith, t₀, sz, lw, j, h)))) ∙ ap (λ (z : List ℕ). get_or z i 0) lp }) in
      let Y' = rw (← fp) at Y in
      record {
        entry-is = v;
        room = omega (arith, e);
        long = G.long ∙ same ∙ m;
        tells = λ few. some-tells N (omega (arith, v)) (parameter_types (r ∷ qs)) t _ _ D Y' (fp ∙ t₀) lw (omega (arith, v, fp, t₀, e, j)) (omega (arith, few, j));
        kept = some-kept N (omega (arith, v)) (parameter_types (r ∷ qs)) t _ _ D Y' (fp ∙ t₀) lw (omega (arith, v, fp, t₀, e, j)) _ refl lw;
      }
