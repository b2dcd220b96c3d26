-- The ceilings of types as the tables keep them: bounds are integers, a set's are 0 to 31, a type has at most 2,048 cells.
use mathlib.Core.Path.{◌≡◌, refl, sym}
use mathlib.Core.Bool.{true}
use mathlib.Core.List.{List, [], ◌∷◌, ◌++◌}
use Prim.Native.Nat.{ℕ, zero, suc, ◌*◌, ◌≤◌}
use native.Mathlib.Omega.{arith}
use native.Mathlib.Nat.{zero-mul}
use borrow.Author.Tests.{leb-true}
use lib.Dec.{eqb, leb}
use lib.IntN.{pos}
use lib.ListN.{length, length-append}
use lib.Signed.{le_z}
use Rattle.leaf_integers.specs.Integers.{inside}
use Rattle.law.specs.Base.{Name}
use Rattle.law.specs.Ceilings.{field_sizes, type_bounded}
use Rattle.law.specs.Environment.{built_in, copies, extend_types, field_cells, type_sort_of, value_count}
use Rattle.law.specs.Rules.{kept_decl, plain}
use Rattle.law.specs.Script.{Decl, alias, array_of, enum, range, record_of, set_of}
use Rattle.law.specs.Types.{Shape, TypeSort, facts, Types, array_shape, cells_by, cells_of, info_at, ordinal_shape, record_shape, set_shape, size_of, undeclared}
use Rattle.law_theorems.proofs.Inversion.{and-true}
use Rattle.law_theorems.proofs.ValuesInRange.{wrong, int-pos}
use Rattle.law_theorems.specs.TypeSizes.{Small, SmallTypes}

small-none : Small (facts undeclared)
small-none = record { low = int-pos 0 (omega arith); high = int-pos 0 (omega arith); base = λ h. wrong h; cells = omega arith }

-- one entry more
small-last : (Γ : Types) (i : TypeSort) → SmallTypes Γ → Small (facts i) → SmallTypes (Γ ++ (i ∷ []))
small-last [] i h s zero = s
small-last [] i h s (suc t) = small-none
small-last (j ∷ Γ) i h s zero = h 0
small-last (j ∷ Γ) i h s (suc t) = small-last Γ i (λ u. h (suc u)) s t

pub small-start : SmallTypes built_in
unfolding inside
small-start zero = record { low = record { ok = refl }; high = record { ok = refl }; base = λ h. wrong h; cells = omega arith }
small-start (suc zero) = record { low = record { ok = refl }; high = record { ok = refl }; base = λ h. wrong h; cells = omega arith }
small-start (suc (suc t)) = small-none

copies_length : (n : ℕ) (cs : List ℕ) → length (copies n cs) ≡ n * length cs
unfolding copies
copies_length zero cs = sym (zero-mul (length cs))
copies_length (suc n) cs = rw (length-append, copies_length n cs) (omega arith)

fields-length : (Γ : Types) (fs : List (Name × ℕ)) → length (field_cells Γ fs) ≡ field_sizes Γ fs
unfolding field_cells field_sizes
fields-length Γ [] = refl
fields-length Γ (f ∷ fs) = rw (length-append, fields-length Γ fs)

-- a declaration that kept rows 8 and 9
pub small-declared : (Γ : Types) (d : Decl) → kept_decl Γ d ≡ true → type_bounded Γ d ≡ true → SmallTypes Γ → SmallTypes (extend_types Γ d)
unfolding kept_decl type_bounded extend_types type_sort_of plain
small-declared Γ (alias t) k b h = h
small-declared Γ (enum v vs) k b h = small-last Γ _ h (record { low = int-pos 0 (omega arith); high = int-pos (length vs) (let l = leb-true (suc (length vs)) 256 b in omega arith); base = λ h. wrong h; cells = omega arith })
small-declared Γ (range x y) k b h =
    let k₁ = and-true _ (le_z x.value y.value) k in let k₂ = and-true _ (eqb x.kind y.kind) k₁.0 in let k₃ = and-true (plain x) (plain y) k₂.0 in
    small-last Γ _ h (record { low = record { ok = k₃.0 }; high = record { ok = k₃.1 }; base = λ h. wrong h; cells = omega arith })
small-declared Γ (array_of i e) k b h =
    let l = leb-true (value_count Γ i * size_of Γ e) 2048 (and-true (leb (value_count Γ i) 256) _ b).1 in
    small-last Γ _ h (record { low = (h i).low; high = (h i).high; base = λ h. wrong h; cells = rw (copies_length (value_count Γ i) (cells_of Γ e)) l })
small-declared Γ (record_of fs) k b h =
    let l = leb-true (field_sizes Γ fs) 2048 (and-true (leb (length fs) 16) _ b).1 in
    small-last Γ _ h (record { low = int-pos 0 (omega arith); high = int-pos 0 (omega arith); base = λ h. wrong h; cells = rw (fields-length Γ fs) l })
small-declared Γ (set_of s) k b h = small-last Γ _ h (record { low = (h s).low; high = (h s).high; base = λ _. and-true (le_z (pos 0) (info_at Γ s).low) _ b; cells = omega arith })

-- the cells of any type
pub small_size : (Γ : Types) → SmallTypes Γ → (t : ℕ) → size_of Γ t ≤ 2048
small_size Γ h t = go (info_at Γ t).shape
  where
    go : (s : Shape) → length (cells_by s t (info_at Γ t).cells) ≤ 2048
    go ordinal_shape = omega arith
    go set_shape = omega arith
    go array_shape = (h t).cells
    go record_shape = (h t).cells
