-- The pairs of a list with their types found, or one whose type is not known.
use mathlib.Core.Path.{◌≡◌, refl, ap}
use mathlib.Core.Bool.{true, false}
use mathlib.Core.List.{List, [], ◌∷◌}
use mathlib.Core.Option.{Option, none, some}
use Prim.Native.Nat.{ℕ, suc}
use lib.ListN.{length}
use Rattle.law.specs.Base.{Name, ◌>>=◌, each}
use Rattle.law.specs.Environment.{Environment}
use Rattle.law.specs.Names.{type_of, field_names}
use Rattle.law.specs.Syntax.{TypeName}
use Rattle.rule_pairs.specs.Pairs.{firsts, resolve, known_type, types_known}

pub data Good (σ : Environment) (fs : List (Name × TypeName)) : Type 0 where
  good-yes : (gs : List (Name × ℕ)) → resolve σ fs ≡ some gs → field_names σ gs ≡ firsts fs → length gs ≡ length fs → types_known σ fs ≡ true → Good σ fs
  good-no : resolve σ fs ≡ none → types_known σ fs ≡ false → Good σ fs

pub good-told : (σ : Environment) (fs : List (Name × TypeName)) → Good σ fs
unfolding resolve each field_names firsts types_known ◌>>=◌ known_type
good-told σ [] = good-yes [] refl refl refl refl
good-told σ (f ∷ fs) = go (type_of σ f.1) refl (good-told σ fs)
  where
    go : (o : Option ℕ) → type_of σ f.1 ≡ o → Good σ fs → Good σ (f ∷ fs)
    go none e G = good-no (rw e refl) (rw e refl)
    go (some t) e (good-yes gs a b c d) = good-yes ((f.0, t) ∷ gs) (rw (e, a) refl) (ap (λ (zs : List Name). f.0 ∷ zs) b) (ap suc c) (rw (e, d) refl)
    go (some t) e (good-no a b) = good-no (rw (e, a) refl) (rw (e, b) refl)
