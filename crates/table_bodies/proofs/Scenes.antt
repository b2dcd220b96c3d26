-- A scene asks for the places of the types alone.
use mathlib.Core.Path.{◌≡◌, subst}
use mathlib.Core.List.{List}
use Prim.Native.Nat.{ℕ}
use lib.ListN.{get_or}
use Rattle.law.specs.Environment.{Environment}
use Rattle.law.specs.Types.{info_at}
use Rattle.table_scope.specs.declared.Info.{Info}
use Rattle.table_scope.specs.Descriptions.{info_of, Tells, EndsBelow}
use Rattle.table_scope.specs.declared.Scope.{Scope}
use Rattle.table_scope.specs.Scene.{Scene}

module _ (s l ts ts' : List ℕ) (same : (k : ℕ) → get_or ts' k 0 ≡ get_or ts k 0) where
  info-same : (k : ℕ) → info_of l ts k ≡ info_of l ts' k
  unfolding info_of
  info-same k = rw (same k)

  pub scene-types : (scope : Scope) (top : ℕ) (σ : Environment) (bs : List ℕ) → Scene s l ts scope top σ bs → Scene s l ts' scope top σ bs
  scene-types scope top σ bs S = record {
    names = S.names;
    below = S.below;
    types = λ k. subst (λ (x : Info). Tells s l x (info_at σ.types k)) (info-same k) (S.types k);
    described = λ k. subst (λ (x : Info). EndsBelow top x) (info-same k) (S.described k);
    table = S.table;
    fair = S.fair;
    fieldless = S.fieldless;
    cells = S.cells;
    above = S.above;
    once = S.once;
    frames = S.frames;
  }
