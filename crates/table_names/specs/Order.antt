-- The order of words: letter by letter, and a word before those that go on from it.
use Rattle.std.specs.Prelude.{cond, [], ◌∷◌, ℕ, eqb, ltb}
use Rattle.law.specs.Base.{Name}
use Rattle.std.specs.declared.cmp.Ordering.{Ordering}
use Rattle.std.specs.declared.cmp.Ordering.TheVariants as order

-- two letters that differ
unfoldable pub lettered : ℕ → ℕ → Ordering
lettered a b = cond (ltb a b) order.Less order.Greater

unfoldable pub ordered : Name → Name → Ordering
ordered [] [] = order.Equal
ordered [] (b ∷ w) = order.Less
ordered (a ∷ v) [] = order.Greater
ordered (a ∷ v) (b ∷ w) = cond (eqb a b) (ordered v w) (lettered a b)
