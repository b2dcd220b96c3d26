-- Frames: the ways through their functions.
use mathlib.Core.Path.{◌≡◌, refl, ◌∙◌}
use mathlib.Core.List.{List}
use Prim.Native.Nat.{ℕ, ◌+◌, ◌-◌, ◌<◌, ◌≤◌}
use borrow.Author.Tests.{eq-eqb, ne_eqb, lt-ltb, le-ltb}
use lib.ListN.{get_or}
use Rattle.table_scope.specs.Frames.{framed, frame_at, frame_in}
use Rattle.table_scope.specs.declared.frames.Frame.{Frame}

module _ (l : List ℕ) (f n : ℕ) (x : Frame) where
  pub at_none : f < n → x ≡ framed 0 0 0 → x ≡ frame_at l f n
  unfolding frame_at
  at_none h e = e ∙ rw (lt-ltb f n h) refl

  pub at_some : n ≤ f → (a : ℕ) → a ≡ get_or l f 0 → x ≡ framed n (f - n) a → x ≡ frame_at l f n
  unfolding frame_at
  at_some h a g e = e ∙ rw (le-ltb f n h, g) refl

pub ruleset at_laws = (at_none, at_some)

module _ (l : List ℕ) (p f : ℕ) (e : f ≡ get_or l (p + 4) 0) (x : Frame) where
  pub in-none : f ≡ 0 → x ≡ framed 0 0 0 → x ≡ frame_in l p
  unfolding frame_in
  in-none z g = g ∙ rw (← e, eq-eqb f 0 z) refl

  pub in_some : ((f ≡ 0) → ⊥) → (n : ℕ) → n ≡ get_or l (f + 1) 0 → x ≡ frame_at l f n → x ≡ frame_in l p
  unfolding frame_in
  in_some z n h g = g ∙ rw (← e, ne_eqb f 0 z, h) refl

pub ruleset in_laws = (in-none, in_some)
