-- The parameters of a procedure in the working list, by the place of its body's node (code: Layout): right before the frame stand the parameters'
-- types.
use Rattle.std.specs.Prelude.{cond, List, ◌≡◌, ℕ, ◌+◌, ◌-◌, ◌<◌, ◌≤◌, eqb, ltb, get_or, length}
use Rattle.table_scope.specs.declared.frames.Frame.{Frame}

abbrev pub framed : ℕ → ℕ → ℕ → Frame
framed n p a = record { count = n; types = p; base = a }

-- the frame at f, of n parameters
unfoldable pub frame_at : List ℕ → ℕ → ℕ → Frame
frame_at l f n = cond (ltb f n) (framed 0 0 0) (framed n (f - n) (get_or l f 0))

-- the frame of the body whose node stands at p
unfoldable pub frame_in : List ℕ → ℕ → Frame
frame_in l p = cond (eqb (get_or l (p + 4) 0) 0) (framed 0 0 0) (frame_at l (get_or l (p + 4) 0) (get_or l (get_or l (p + 4) 0 + 1) 0))

-- the body's node at p and its frame stand below top, and tell the parameters' types
pub record TellsFrame (l : List ℕ) (top p : ℕ) (ts : List ℕ) : Type 0 where
  pub node-below : p + 5 ≤ top
  pub frame_below : get_or l (p + 4) 0 + 2 ≤ top
  pub count-is : (frame_in l p).count ≡ length ts
  pub types_are : (j : ℕ) → j < length ts → get_or l ((frame_in l p).types + j) 0 ≡ get_or ts j 0
  pub few : length ts ≤ 8
