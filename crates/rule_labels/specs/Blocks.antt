-- The labels of a `case` as integers: those of one case have one kind, so their values tell whether they differ.
use Rattle.std.specs.Prelude.{Bool, true, false, not, ◌&&◌, ◌||◌, List, [], ◌∷◌, ℕ, ℤ, pos}
use Rattle.law.specs.Calculate.{truth, equal_z}
use Rattle.law.specs.Environment.{Environment}
use Rattle.table_scope.specs.declared.Scope.{Scope}
use Rattle.table_scope.specs.declared.Meaning.{Meaning}
use Rattle.table_scope.specs.declared.Meaning.TheVariants as meaning
use Rattle.table_scope.specs.Scene.{Scene, meaning_here}
use Rattle.rule_labels.specs.declared.Mark.{Mark}
use Rattle.rule_labels.specs.declared.Mark.TheVariants as mark

-- ---- the value of a label

-- the ordinal of an enum name, 0 for what is none
abbrev pub ordinal_in : Meaning → ℤ
ordinal_in meaning.Unknown = pos 0
ordinal_in (meaning.Type t) = pos 0
ordinal_in (meaning.Var i t a) = pos 0
ordinal_in (meaning.Proc p) = pos 0
ordinal_in (meaning.Value k n) = pos n

-- the value that a mark stands for, by the tables
abbrev pub value_at : List ℕ → List ℕ → Scope → Mark → ℤ
value_at s l scope (mark.Number z) = z
value_at s l scope (mark.Truth b) = truth b
value_at s l scope (mark.Named p) = ordinal_in (meaning_here s l scope p)

-- ---- integers that differ

-- whether z is one of them
unfoldable pub among : ℤ → List ℤ → Bool
among z [] = false
among z (y ∷ ys) = equal_z z y || among z ys

-- whether no two are the same
unfoldable pub apart : List ℤ → Bool
apart [] = true
apart (z ∷ zs) = not (among z zs) && apart zs

-- whether one of the first is among the others
unfoldable pub meets : List ℤ → List ℤ → Bool
meets [] ys = false
meets (z ∷ zs) ys = among z ys || meets zs ys

-- ---- in an environment

-- the tables hold the environment
pub record Held (s l : List ℕ) (scope : Scope) (σ : Environment) : Type 0 where
  pub ts : List ℕ
  pub top : ℕ
  pub bs : List ℕ
  pub scene : Scene s l ts scope top σ bs
