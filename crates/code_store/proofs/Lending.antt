-- A store that rows 10 and 11 let pass is one that both machines take.
use mathlib.Core.Path.{◌≡◌, refl, sym, ◌∙◌}
use mathlib.Core.Bool.{Bool, true, false, cond, not, ◌&&◌}
use mathlib.Core.Logic.{◌⊎◌, inl, inr}
use mathlib.Core.List.{List}
use mathlib.Core.Option.{none}
use Prim.Native.Nat.{ℕ, ◌<◌, ◌≤◌}
use native.Mathlib.Decide.{dec_lt}
use native.Mathlib.Omega.{arith}
use borrow.Author.Tests.{eqb-true, leb-true}
use lib.Dec.{eqb, leb}
use lib.IntN.{ℤ, pos, negsuc}
use lib.ListN.{length, get_or, get_or-eq_default}
use Rattle.leaf_integers.specs.Integers.{inside, is_zero, least, most}
use Rattle.leaf_integers.proofs.Order.{le_z-trans}
use Rattle.leaf_integers.proofs.Ranges.{inside_both, inside_is}
use Rattle.leaf_sets.specs.Sets.{lies_in}
use Rattle.law.specs.Store.{cell_fits, store_fault}
use Rattle.law.specs.Types.{Types, info_at, ordinal?}
use Rattle.law_theorems.proofs.BodiesInRange.{Passes, store-passes}
use Rattle.law_theorems.proofs.Inversion.{and-true}
use Rattle.law_theorems.proofs.LinesKeep.{tests-get}
use Rattle.law_theorems.specs.LinesKeep.{tests}
use Rattle.law_theorems.specs.TypeTables.{Table}
use Rattle.law_theorems.specs.ValuesInRange.{any}
use Rattle.code_calc.specs.Words.{InRange}
use Rattle.code_calc.proofs.Ranging.{wide, low-range}
use Rattle.code_store.specs.Answers.{Lent}

-- a value of a cell's type is an ordinal or a set
fits-range : (Γ : Types) → Table Γ → (t : ℕ) (z : ℤ) → cell_fits Γ t z ≡ true → InRange z
unfolding lies_in
fits-range Γ T t z h = go (ordinal? Γ t) refl h
  where
    set-range : (z : ℤ) → lies_in (info_at Γ t).low (info_at Γ t).high z ≡ true → InRange z
    set-range (pos n) k = low-range n (leb-true n 4294967295 (and-true (leb n 4294967295) _ k).0)
    set-range (negsuc n) k = absurd (let e : ◌≡◌ {A = ℕ} 0 1 = cc in omega arith)

    go : (b : Bool) → ordinal? Γ t ≡ b → cond b (inside (info_at Γ t).low (info_at Γ t).high z) (lies_in (info_at Γ t).low (info_at Γ t).high z) ≡ true → InRange z
    go true e k =
        let b = (T.each t).small e in
        let i = inside_is (info_at Γ t).low (info_at Γ t).high z k in
        wide z (inside_both least most z (le_z-trans least (info_at Γ t).low z b.0 i.0) (le_z-trans z (info_at Γ t).high most i.1 b.1))
    go false e k = set-range z k

zero_is : (z : ℤ) → is_zero z ≡ true → z ≡ pos 0
unfolding is_zero
zero_is (pos n) h = let e : n ≡ 0 = eqb-true n 0 h in rw e refl
zero_is (negsuc n) h = absurd (let e : ◌≡◌ {A = ℕ} 0 1 = cc in omega arith)

pub lent-store : (Γ : Types) → Table Γ → (ts : List ℕ) (vs : List ℤ) (ms : List ℕ) → length ts ≤ 2048 → store_fault Γ ts vs ms ≡ none → Lent vs ms
lent-store Γ T ts vs ms few h = record { even = P.marks ∙ sym P.values; few = omega (arith, P.values); cells = λ a. at a (dec_lt a (length vs)) }
  where
    P : Passes Γ ts vs ms
    P = store-passes Γ ts vs ms h

    at : (a : ℕ) → Dec (a < length vs) → ((get_or ms a 0 ≡ 1) × InRange (get_or vs a (pos 0))) ⊎ ((get_or ms a 0 ≡ 0) × (get_or vs a (pos 0) ≡ pos 0))
    at a (no g) = inr (get_or-eq_default ms 0 (omega (arith, P.values, P.marks)), get_or-eq_default vs (pos 0) (omega arith))
    at a (yes g) = go (eqb (get_or ms a 0) 0) refl (P.each a)
      where
        go : (b : Bool) → eqb (get_or ms a 0) 0 ≡ b → cond (not b) (eqb (get_or ms a 0) 1 && get_or (tests Γ ts) a any (get_or vs a (pos 0))) (is_zero (get_or vs a (pos 0))) ≡ true
            → ((get_or ms a 0 ≡ 1) × InRange (get_or vs a (pos 0))) ⊎ ((get_or ms a 0 ≡ 0) × (get_or vs a (pos 0) ≡ pos 0))
        go true e k = inr (eqb-true (get_or ms a 0) 0 e, zero_is (get_or vs a (pos 0)) k)
        go false e k =
            let q = and-true (eqb (get_or ms a 0) 1) (get_or (tests Γ ts) a any (get_or vs a (pos 0))) k in
            inl (eqb-true (get_or ms a 0) 1 q.0, fits-range Γ T (get_or ts a 0) (get_or vs a (pos 0)) (sym (tests-get Γ ts a (omega (arith, P.values)) (get_or vs a (pos 0))) ∙ q.1))
