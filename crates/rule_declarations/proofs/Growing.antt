-- The environment in the working list after a new name, variable or type.
use mathlib.Core.Path.{◌≡◌, refl}
use mathlib.Core.List.{List, [], ◌∷◌, map}
use Prim.Native.Nat.{ℕ, suc, ◌+◌, ◌<◌, ◌≤◌}
use native.Mathlib.Omega.{arith}
use borrow.Author.Tests.{ne_eqb}
use Rattle.leaf_bytes.specs.Bytes.{small}
use Rattle.law.specs.Base.{Name}
use Rattle.law.specs.Environment.{Declared, Environment, NameSort}
use Rattle.code.specs.Layout.{lay}
use Rattle.law.specs.Trees.{word_at}
use Rattle.code.proofs.LayoutRegions.{lay-g}
use Rattle.code.specs.LayoutRegions.{Same, Room}
use Rattle.table_names.specs.Keys.{keyed}
use Rattle.table_names.specs.Chain.{entries, values_by}
use Rattle.table_names.proofs.Chained.{Added, added, entries-kept, names-kept, below-kept, below-higher}
use Rattle.table_names.specs.Chained.{Names, no_names, one_name, Below}
use Rattle.table_scope.specs.declared.Scope.{Scope}
use Rattle.table_scope.specs.declared.Meaning.{Meaning}
use Rattle.rule_declarations.specs.State.{scoped, Holds}
use Rattle.rule_declarations.specs.declared.State.{State}
use Rattle.table_scope.specs.Scene.{meaning_by, meaning_at, Means, Meant}

-- ---- names

-- the entries of a chain that stand for names ns
pub record Chained (s l : List ℕ) (scope : Scope) (top : ℕ) (σ : Environment) (bs : List ℕ) (ns : List (Name × NameSort)) : Type 0 where
  pub names : Names s l (Meant σ bs l) (entries scope.count l scope.newest) ns
  pub below : Below s l top scope.count scope.newest

pub holds-chained : {s l ts : List ℕ} {st : State} {k : Declared} {bs : List ℕ} → Holds s l ts st k bs → Chained s l st.scope st.top k.env bs k.env.names
holds-chained H = record { names = H.names; below = H.scene.below }

names-mapped : {A : Type 0} {s l : List ℕ} {R R' : ℕ → A → Type 0} → ((p : ℕ) (a : A) → R p a → R' p a) → {ps : List ℕ} {ns : List (Name × A)} → Names s l R ps ns → Names s l R' ps ns
names-mapped k no_names = no_names
names-mapped k (one_name {w = w} h e r N) = one_name {w = w} h e (k _ _ r) (names-mapped k N)

-- an environment in which each name means what it meant
pub chained-env : {s l : List ℕ} {scope : Scope} {top : ℕ} {σ σ' : Environment} {bs : List ℕ} {ns : List (Name × NameSort)}
    → ((x : Meaning) (m : NameSort) → Means σ bs x m → Means σ' bs x m) → Chained s l scope top σ bs ns → Chained s l scope top σ' bs ns
chained-env k C = record { names = names-mapped (λ p a r. record { means = k _ a r.means }) C.names; below = C.below }

-- what was laid below stays
lay-same : (ns : List ℕ) (t : ℕ) (l : List ℕ) → Same 0 t (lay ns t l).list l
lay-same ns t l = record { at = λ i _ h. (lay-g ns t l).below i h }

pub laid_same : (ns : List ℕ) (t : ℕ) (l l' : List ℕ) → l' ≡ (lay ns t l).list → Same 0 t l' l
laid_same ns t l l' e = rw e (lay-same ns t l)

meant-kept : {l l' : List ℕ} {top : ℕ} → Same 0 top l' l → (σ : Environment) (bs : List ℕ) (p : ℕ) (m : NameSort) → p + 4 ≤ top → Meant σ bs l p m → Meant σ bs l' p m
unfolding meaning_at
meant-kept {l} {l'} E σ bs p m h M =
    let e : meaning_at l' p ≡ meaning_at l p = rw (E.at (p + 1) (omega arith) (omega arith), E.at (p + 2) (omega arith) (omega arith)) refl in
    record { means = rw e M.means }

pub chained-kept : {s l l' : List ℕ} {scope : Scope} {top top' : ℕ} {σ : Environment} {bs : List ℕ} {ns : List (Name × NameSort)}
    → Same 0 top l' l → top ≤ top' → Chained s l scope top σ bs ns → Chained s l' scope top' σ bs ns
chained-kept {σ = σ} {bs = bs} E h C = record {
  names = rw (entries-kept E C.below) (names-kept E (meant-kept E σ bs) C.below C.names);
  below = below-higher h (below-kept E C.below);
}

-- a new entry at the free place, of the name at p
pub chained_more : {s l : List ℕ} {scope : Scope} {top : ℕ} {σ : Environment} {bs : List ℕ} {ns : List (Name × NameSort)} (p sort more : ℕ) (m : NameSort)
    → values_by sort more ≡ 0 → p < 32768 → Room 4 top l → Means σ bs (meaning_by sort more) m → Chained s l scope top σ bs ns
    → Chained s (lay (keyed s p ∷ sort ∷ more ∷ scope.newest ∷ []) top l).list (scoped (suc scope.count) top) (top + 4) σ bs ((map small (word_at s p), m) ∷ ns)
unfolding meaning_at
chained_more {s} {l} {scope} {top} {σ} {bs} {ns} p sort more m v h R M C =
    let l' = (lay (keyed s p ∷ sort ∷ more ∷ scope.newest ∷ []) top l).list in
    let A : Added s l l' top scope.count p sort more scope.newest = added s l top scope.count p sort more scope.newest v h R C.below in
    let K : Chained s l' scope top σ bs ns = chained-kept A.kept (omega arith) C in
    let z : top ≡ 0 → ⊥ = λ e. omega (arith, R.start) in
    let g : meaning_at l' top ≡ meaning_by sort more = rw (ne_eqb top 0 z, A.sort-is, A.more-is) refl in
    record {
      names = rw (A.places, ← entries-kept A.kept C.below) (one_name {a = m} R.start A.called (record { means = rw g M }) K.names);
      below = A.below;
    }
