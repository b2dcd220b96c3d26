-- Names that differ: one by one, in two parts, and as document 01's rule has it.
use mathlib.Core.Path.{◌≡◌, refl, sym, ap, ◌∙◌}
use mathlib.Core.Bool.{Bool, true, false, not, ◌&&◌, ◌||◌, false≢true}
use mathlib.Core.List.{List, [], ◌∷◌, ◌++◌}
use Rattle.leaf_bytes.specs.Bytes.{same}
use Rattle.leaf_bytes.proofs.Same.{same-equal, same_self}
use Rattle.law.specs.Base.{Name}
use Rattle.law.specs.Environment.{Environment}
use Rattle.law.specs.Names.{listed_in, distinct}
use Rattle.rule_repeats.specs.Blocks.{among, apart, meets}

both_ways : (a b : Bool) → (a ≡ true → b ≡ true) → (b ≡ true → a ≡ true) → a ≡ b
both_ways true b f g = sym (f refl)
both_ways false true f g = absurd (false≢true (g refl))
both_ways false false f g = refl

same-turned : (v w : Name) → same v w ≡ true → same w v ≡ true
same-turned v w h = let e : v ≡ w = same-equal v w h in rw e (same_self w)

same-sym : (v w : Name) → same v w ≡ same w v
same-sym v w = both_ways (same v w) (same w v) (same-turned v w) (same-turned w v)

or_assoc : (a b c : Bool) → (a || (b || c)) ≡ ((a || b) || c)
or_assoc true b c = refl
or_assoc false b c = refl

or_swap : (a b c d : Bool) → ((a || b) || (c || d)) ≡ ((a || c) || (b || d))
or_swap true b c d = refl
or_swap false true true d = refl
or_swap false true false d = refl
or_swap false false c d = refl

among-append : (w : Name) (us vs : List Name) → among w (us ++ vs) ≡ (among w us || among w vs)
unfolding among
among-append w [] vs = refl
among-append w (u ∷ us) vs = ap (λ (b : Bool). same u w || b) (among-append w us vs) ∙ or_assoc (same u w) (among w us) (among w vs)

meets-none : (ws : List Name) → meets ws [] ≡ false
unfolding meets among
meets-none [] = refl
meets-none (w ∷ ws) = meets-none ws

meets-more : (ws : List Name) (b : Name) (bs : List Name) → meets ws (b ∷ bs) ≡ (among b ws || meets ws bs)
unfolding meets among
meets-more [] b bs = refl
meets-more (w ∷ ws) b bs =
    ap (λ (t : Bool). (same b w || among w bs) || t) (meets-more ws b bs)
    ∙ or_swap (same b w) (among w bs) (among b ws) (meets ws bs) ∙ ap (λ (t : Bool). (t || among b ws) || (among w bs || meets ws bs)) (same-sym b w)

apart-bits : (p q a m z : Bool) → (not (p || q) && ((a && not m) && z)) ≡ (((not p && a) && not (q || m)) && z)
apart-bits true q a m z = refl
apart-bits false true true m z = refl
apart-bits false true false m z = refl
apart-bits false false a m z = refl

-- a block and the names after it
pub apart-append : (bs ws : List Name) → apart (bs ++ ws) ≡ ((apart bs && not (meets ws bs)) && apart ws)
unfolding apart
apart-append [] ws = rw (meets-none ws) refl
apart-append (b ∷ bs) ws =
    ap (λ (t : Bool). not t && apart (bs ++ ws)) (among-append b bs ws)
    ∙ ap (λ (t : Bool). not (among b bs || among b ws) && t) (apart-append bs ws)
    ∙ apart-bits (among b bs) (among b ws) (apart bs) (meets ws bs) (apart ws)
    ∙ ap (λ (t : Bool). ((not (among b bs) && apart bs) && not t) && apart ws) (sym (meets-more ws b bs))

-- ---- row 7

listed-among : (σ : Environment) (w : Name) (vs : List Name) → listed_in σ w vs ≡ among w vs
unfolding listed_in among
listed-among σ w [] = refl
listed-among σ w (v ∷ vs) = go (same v w) (listed-among σ w vs)
  where
    go : (b : Bool) → listed_in σ w vs ≡ among w vs → elim b [ true ↦ true | false ↦ listed_in σ w vs ] ≡ (b || among w vs)
    go true e = refl
    go false e = e

pub distinct_apart : (σ : Environment) (ws : List Name) → distinct σ ws ≡ apart ws
unfolding distinct apart
distinct_apart σ [] = refl
distinct_apart σ (w ∷ ws) = ap (λ (b : Bool). not b && distinct σ ws) (listed-among σ w ws) ∙ ap (λ (b : Bool). not (among w ws) && b) (distinct_apart σ ws)
