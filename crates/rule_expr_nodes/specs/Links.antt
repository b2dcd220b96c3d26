-- A link of a chain to one place.
use Rattle.std.specs.Prelude.{List, [], ◌∷◌, ℕ}
use Rattle.code.specs.Layout.{Out, lay, link}

-- a link [p, 0] at the free place t, and the slot s before it set
unfoldable pub linked : ℕ → ℕ → ℕ → List ℕ → Out
linked s p t l = link s (lay (p ∷ 0 ∷ []) t l)
