-- Integers that differ, part by part, and labels of one kind as integers.
use mathlib.Core.Path.{◌≡◌, refl, sym, ap, ◌∙◌}
use mathlib.Core.Bool.{Bool, true, false, not, ◌&&◌, ◌||◌, false≢true}
use mathlib.Core.List.{List, [], ◌∷◌, ◌++◌}
use mathlib.Core.Option.{some}
use Prim.Native.Nat.{ℕ}
use borrow.Author.Tests.{eq-eqb, eqb-true}
use lib.Dec.{eqb}
use lib.IntN.{ℤ}
use Rattle.law.specs.Calculate.{equal_z}
use Rattle.law.specs.Code.{Cases}
use Rattle.law.specs.Elaborate.{elab_labels, elab_arms}
use Rattle.law.specs.Rules.{labelled, differ, labels_of}
use Rattle.law.specs.Script.{Const, Arms, arm, else_arm, no_else}
use Rattle.law.specs.Types.{Types, Vars}
use Rattle.law_theorems.proofs.Inversion.{bind-some, both_some, given-some, and-true, and-both}
use Rattle.rule_labels.specs.Blocks.{among, apart, meets}
use Rattle.rule_labels.specs.Numbers.{numbers_of}
use Rattle.rule_labels.specs.declared.By.TheVariants as by
use Rattle.rule_labels.proofs.Telling.{equal-self, equal_is}

-- ---- integers

both_ways : (a b : Bool) → (a ≡ true → b ≡ true) → (b ≡ true → a ≡ true) → a ≡ b
both_ways true b f g = sym (f refl)
both_ways false true f g = absurd (false≢true (g refl))
both_ways false false f g = refl

equal-turned : (x y : ℤ) → equal_z x y ≡ true → equal_z y x ≡ true
equal-turned x y h = let e : x ≡ y = equal_is x y h in rw e (equal-self y)

equal-sym : (x y : ℤ) → equal_z x y ≡ equal_z y x
equal-sym x y = both_ways (equal_z x y) (equal_z y x) (equal-turned x y) (equal-turned y x)

pub or_assoc : (a b c : Bool) → (a || (b || c)) ≡ ((a || b) || c)
or_assoc true b c = refl
or_assoc false b c = refl

or_swap : (a b c d : Bool) → ((a || b) || (c || d)) ≡ ((a || c) || (b || d))
or_swap true b c d = refl
or_swap false true true d = refl
or_swap false true false d = refl
or_swap false false c d = refl

among-append : (z : ℤ) (xs ys : List ℤ) → among z (xs ++ ys) ≡ (among z xs || among z ys)
unfolding among
among-append z [] ys = refl
among-append z (x ∷ xs) ys = ap (λ (b : Bool). equal_z z x || b) (among-append z xs ys) ∙ or_assoc (equal_z z x) (among z xs) (among z ys)

meets-none : (zs : List ℤ) → meets zs [] ≡ false
unfolding meets among
meets-none [] = refl
meets-none (z ∷ zs) = meets-none zs

meets-more : (zs : List ℤ) (b : ℤ) (bs : List ℤ) → meets zs (b ∷ bs) ≡ (among b zs || meets zs bs)
unfolding meets among
meets-more [] b bs = refl
meets-more (z ∷ zs) b bs =
    ap (λ (t : Bool). (equal_z z b || among z bs) || t) (meets-more zs b bs)
    ∙ or_swap (equal_z z b) (among z bs) (among b zs) (meets zs bs) ∙ ap (λ (t : Bool). (t || among b zs) || (among z bs || meets zs bs)) (equal-sym z b)

apart-bits : (p q a m z : Bool) → (not (p || q) && ((a && not m) && z)) ≡ (((not p && a) && not (q || m)) && z)
apart-bits true q a m z = refl
apart-bits false true true m z = refl
apart-bits false true false m z = refl
apart-bits false false a m z = refl

-- a block and the integers after it
pub apart-append : (bs zs : List ℤ) → apart (bs ++ zs) ≡ ((apart bs && not (meets zs bs)) && apart zs)
unfolding apart
apart-append [] zs = rw (meets-none zs) refl
apart-append (b ∷ bs) zs =
    ap (λ (t : Bool). not t && apart (bs ++ zs)) (among-append b bs zs)
    ∙ ap (λ (t : Bool). not (among b bs || among b zs) && t) (apart-append bs zs)
    ∙ apart-bits (among b bs) (among b zs) (apart bs) (meets zs bs) (apart zs)
    ∙ ap (λ (t : Bool). ((not (among b bs) && apart bs) && not t) && apart zs) (sym (meets-more zs b bs))

-- ---- labels of one kind

unfoldable pub all_of : ℕ → List Const → Bool
all_of k [] = true
all_of k (c ∷ cs) = eqb k c.kind && all_of k cs

all_append : (k : ℕ) (xs ys : List Const) → all_of k xs ≡ true → all_of k ys ≡ true → all_of k (xs ++ ys) ≡ true
unfolding all_of
all_append k [] ys h i = i
all_append k (x ∷ xs) ys h i = let g = and-true (eqb k x.kind) (all_of k xs) h in and-both (eqb k x.kind) (all_of k (xs ++ ys)) g.0 (all_append k xs ys g.1 i)

same_kind : (k : ℕ) (x y : Const) → eqb k x.kind ≡ true → eqb k y.kind ≡ true → eqb x.kind y.kind ≡ true
same_kind k x y h i = eq-eqb x.kind y.kind (sym (eqb-true k x.kind h) ∙ eqb-true k y.kind i)

labelled-among : (k : ℕ) (x : Const) (xs : List Const) → eqb k x.kind ≡ true → all_of k xs ≡ true → labelled x xs ≡ among x.value (numbers_of by.Value xs)
unfolding all_of labelled among numbers_of
labelled-among k x [] h i = refl
labelled-among k x (y ∷ ys) h i =
    let g = and-true (eqb k y.kind) (all_of k ys) i in
    ap (λ (t : Bool). (t && equal_z x.value y.value) || labelled x ys) (same_kind k x y h g.0) ∙ ap (λ (t : Bool). equal_z x.value y.value || t) (labelled-among k x ys h g.1)

pub differ-apart : (k : ℕ) (xs : List Const) → all_of k xs ≡ true → differ xs ≡ apart (numbers_of by.Value xs)
unfolding all_of differ apart numbers_of
differ-apart k [] i = refl
differ-apart k (x ∷ xs) i =
    let g = and-true (eqb k x.kind) (all_of k xs) i in
    ap (λ (t : Bool). not t && differ xs) (labelled-among k x xs g.0 g.1) ∙ ap (λ (t : Bool). not (among x.value (numbers_of by.Value xs)) && t) (differ-apart k xs g.1)

module _ (Γ : Types) (Δ : Vars) (k : ℕ) where
  labels-kind : (cs : List Const) (zs : List ℤ) → elab_labels Γ Δ k cs ≡ some zs → all_of k cs ≡ true
  unfolding all_of elab_labels
  labels-kind [] zs h = refl
  labels-kind (c ∷ cs) zs h = both_some h λ y ys hy hs e. given-some hy λ t q. and-both (eqb k c.kind) (all_of k cs) t (labels-kind cs ys hs)

  -- the labels of arms that fit are of the selector's kind
  pub arms-kind : (b : Arms) (c : Cases) → elab_arms Γ Δ k b ≡ some c → all_of k (labels_of b) ≡ true
  unfolding all_of elab_arms labels_of
  arms-kind (else_arm s) c h = refl
  arms-kind no_else c h = refl
  arms-kind (arm cs s bs) c h = both_some h λ zs x hz hx e. bind-some e λ y hy q. all_append k cs (labels_of bs) (labels-kind cs zs hz) (arms-kind bs y hy)
