-- What the functions on the working list leave.
use Rattle.std.specs.Prelude.{◌≡◌, List, ◌++◌, ℕ, drop, replicate}
use Rattle.code.specs.Layout.{Out}

-- a free place and a list are those of a layout
pub record Laid (o : Out) (top : ℕ) (l : List ℕ) : Type 0 where
  pub free : top ≡ o.top
  pub left : l ≡ o.list

-- a list with 0 in its first n places
unfoldable pub zeroed : ℕ → List ℕ → List ℕ
zeroed n l = replicate n 0 ++ drop n l
