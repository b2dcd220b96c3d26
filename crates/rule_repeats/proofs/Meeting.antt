-- A name and a block: its key looked for among those of the block, and itself among the names.
use mathlib.Core.Path.{◌≡◌, refl, sym, ap, ◌∙◌}
use mathlib.Core.Bool.{Bool, true, false, ◌&&◌, ◌||◌, false≢true}
use mathlib.Core.List.{List, [], ◌∷◌}
use Prim.Native.Nat.{ℕ, zero, suc, ◌+◌, ◌-◌, ◌<◌, ◌≤◌}
use native.Mathlib.Decide.{dec_lt}
use native.Mathlib.Omega.{arith}
use borrow.Author.Tests.{eq-eqb}
use lib.Dec.{eqb}
use lib.ListN.{length, get_or, take}
use lib.Seq.{take-nil}
use Rattle.std.specs.Prelude.{Option as Maybe, Some, None}
use Rattle.leaf_bytes.specs.Bytes.{same}
use Rattle.leaf_bytes.proofs.Same.{not_same}
use Rattle.law.specs.Base.{Name}
use Rattle.law_theorems.proofs.Inversion.{and-both}
use Rattle.rule_repeats.specs.declared.leads.Lead.{Lead}
use Rattle.rule_repeats.specs.Keys.{low_of, high_of, name_at}
use Rattle.rule_repeats.specs.Leads.{leads_at, Nexts}
use Rattle.rule_repeats.specs.Blocks.{among, has_to, has_both_to, Listed, Meets}

-- ---- `has`, `has_both`, `agrees`

pub record Having (a : ℕ) (xs : List ℕ) (any : Bool) (i : ℕ) : Type 0 where
  pub few : i ≤ 256
  pub any-is : any ≡ has_to i a xs

pub have-start : (a : ℕ) (xs : List ℕ) → Having a xs false 0
unfolding has_to
have-start a xs = record { few = omega arith; any-is = refl }

module _ (a : ℕ) (xs : List ℕ) (any : Bool) (i : ℕ) (H : Having a xs any i) where
  pub have-on : i < 256 → Having a xs (any || eqb (get_or xs i 0) a) (i + 1)
  unfolding has_to
  have-on h = record { few = omega arith; any-is = ap (λ (b : Bool). b || eqb (get_or xs i 0) a) H.any-is ∙ next-is }
    where
      next-is : has_to (suc i) a xs ≡ has_to (i + 1) a xs
      next-is = let z : suc i ≡ i + 1 = omega arith in ap (λ (j : ℕ). has_to j a xs) z

  pub have-end : 256 ≤ i → any ≡ has_to 256 a xs
  have-end h = let z : i ≡ 256 = omega (arith, H.few) in H.any-is ∙ ap (λ (j : ℕ). has_to j a xs) z

pub ruleset have_laws = (have-start, have-on, have-end)

pub record HavingBoth (a b : ℕ) (xs ys : List ℕ) (any : Bool) (i : ℕ) : Type 0 where
  pub few : i ≤ 256
  pub any-is : any ≡ has_both_to i a b xs ys

pub both-start : (a b : ℕ) (xs ys : List ℕ) → HavingBoth a b xs ys false 0
unfolding has_both_to
both-start a b xs ys = record { few = omega arith; any-is = refl }

module _ (a b : ℕ) (xs ys : List ℕ) (any : Bool) (i : ℕ) (H : HavingBoth a b xs ys any i) where
  pub both-on : i < 256 → HavingBoth a b xs ys (any || (eqb (get_or xs i 0) a && eqb (get_or ys i 0) b)) (i + 1)
  unfolding has_both_to
  both-on h = record {
    few = omega arith;
    any-is = ap (λ (c : Bool). c || (eqb (get_or xs i 0) a && eqb (get_or ys i 0) b)) H.any-is ∙ next-is;
  }
    where
      next-is : has_both_to (suc i) a b xs ys ≡ has_both_to (i + 1) a b xs ys
      next-is = let z : suc i ≡ i + 1 = omega arith in ap (λ (j : ℕ). has_both_to j a b xs ys) z

  pub both_end : 256 ≤ i → any ≡ has_both_to 256 a b xs ys
  both_end h = let z : i ≡ 256 = omega (arith, H.few) in H.any-is ∙ ap (λ (j : ℕ). has_both_to j a b xs ys) z

pub ruleset both_laws = (both-start, both-on, both_end)

or-none : (a b : Bool) → (a || b) ≡ false → (a ≡ false) × (b ≡ false)
or-none true b h = absurd (false≢true (sym h))
or-none false b h = (refl, h)

-- where the one is not found the two are not
both-none : (i a b : ℕ) (xs ys : List ℕ) → has_to i a xs ≡ false → has_both_to i a b xs ys ≡ false
unfolding has_to has_both_to
both-none zero a b xs ys h = refl
both-none (suc i) a b xs ys h =
    let g = or-none (has_to i a xs) (eqb (get_or xs i 0) a) h in
    ap (λ (c : Bool). c || (eqb (get_or xs i 0) a && eqb (get_or ys i 0) b)) (both-none i a b xs ys g.0) ∙ ap (λ (c : Bool). c && eqb (get_or ys i 0) b) g.1

pub agree_none : (a b : ℕ) (xs ys : List ℕ) (t : Bool) → t ≡ has_to 256 a xs → t ≡ false → false ≡ has_both_to 256 a b xs ys
agree_none a b xs ys t e h = sym (both-none 256 a b xs ys (sym e ∙ h))

-- ---- `listed`

-- among the first n names is what is among the `left` ones from p on, which are n but k
pub record Listing (s : List ℕ) (x from n p left : ℕ) : Type 0 where
  pub left_is : among (name_at s x) (take n (leads_at s from)) ≡ among (name_at s x) (take left (leads_at s p))

pub list-start : (s : List ℕ) (x from n : ℕ) → Listing s x from n from (n - 0)
list-start s x from n = let z : n - 0 ≡ n = omega arith in record { left_is = ap (λ (j : ℕ). among (name_at s x) (take j (leads_at s from))) (sym z) }

take-first : (k : ℕ) (w : Name) (ws : List Name) → 0 < k → take k (w ∷ ws) ≡ (w ∷ take (k - 1) ws)
take-first zero w ws h = absurd (omega arith)
take-first (suc k) w ws h = let z : k ≡ suc k - 1 = omega arith in ap (λ (j : ℕ). w ∷ take j ws) z

module _ (s : List ℕ) (x from n p k : ℕ) (I : Listing s x from n p (n - k)) where
  abbrev left : ℕ
  left = n - k

  pub list-end : n ≤ k → Listed s x from n false
  unfolding among
  list-end h = let z : left ≡ 0 = omega arith in record { says = sym (I.left_is ∙ ap (λ (j : ℕ). among (name_at s x) (take j (leads_at s p))) z) }

  module _ (y : Maybe (Lead × ℕ)) (N : Nexts s p y) where
    pub list_done : y ≡ None → Listed s x from n false
    unfolding among
    list_done e = let g = rw e at N.says in record { says = sym (I.left_is ∙ ap (λ (ws : List Name). among (name_at s x) (take left ws)) g ∙ ap (among (name_at s x)) (take-nil left)) }

    module _ (z : Lead) (q : ℕ) (e : y ≡ Some (z, q)) (h : k < n) (t : Bool) (f : t ≡ same (name_at s z.at) (name_at s x)) where
      told : among (name_at s x) (take n (leads_at s from)) ≡ (t || among (name_at s x) (take (left - 1) (leads_at s q)))
      unfolding among
      told = let g = rw e at N.says in
          I.left_is ∙ ap (λ (ws : List Name). among (name_at s x) (take left ws)) g.0
          ∙ ap (among (name_at s x)) (take-first left (name_at s z.at) (leads_at s q) (omega arith))
          ∙ ap (λ (b : Bool). b || among (name_at s x) (take (left - 1) (leads_at s q))) (sym f)

      pub list-found : t ≡ true → Listed s x from n true
      list-found i = record { says = sym (told ∙ ap (λ (b : Bool). b || among (name_at s x) (take (left - 1) (leads_at s q))) i) }

      pub list_on : t ≡ false → Listing s x from n q (n - (k + 1))
      list_on i = let z : left - 1 ≡ n - (k + 1) = omega arith in record {
        left_is = told ∙ ap (λ (b : Bool). b || among (name_at s x) (take (left - 1) (leads_at s q))) i ∙ ap (λ (j : ℕ). among (name_at s x) (take j (leads_at s q))) z;
      }

pub ruleset list_laws = (list-start, list-end, list_done, list-found, list_on)

-- ---- `meets`

-- no place has both numbers
no_place : (i a b : ℕ) (xs ys : List ℕ) → has_both_to i a b xs ys ≡ false → (j : ℕ) → j < i → get_or xs j 0 ≡ a → get_or ys j 0 ≡ b → ⊥
unfolding has_both_to
no_place zero a b xs ys h j l e f = omega arith
no_place (suc i) a b xs ys h j l e f =
    let g = or-none (has_both_to i a b xs ys) (eqb (get_or xs i 0) a && eqb (get_or ys i 0) b) h in
    go (dec_lt j i) (λ k. no_place i a b xs ys g.0 j k e f) g.1
  where
    go : Dec (j < i) → (j < i → ⊥) → (eqb (get_or xs i 0) a && eqb (get_or ys i 0) b) ≡ false → ⊥
    go (yes k) r g = r k
    go (no k) r g =
        let z : i ≡ j = omega arith in
        let x : eqb (get_or xs i 0) a ≡ true = eq-eqb (get_or xs i 0) a (ap (λ (m : ℕ). get_or xs m 0) z ∙ e) in
        let y : eqb (get_or ys i 0) b ≡ true = eq-eqb (get_or ys i 0) b (ap (λ (m : ℕ). get_or ys m 0) z ∙ f) in
        false≢true (sym g ∙ and-both (eqb (get_or xs i 0) a) (eqb (get_or ys i 0) b) x y)

not-among : (n : ℕ) (ws : List Name) (w : Name) → ((j : ℕ) → j < n → j < length ws → (get_or ws j [] ≡ w) → ⊥) → among w (take n ws) ≡ false
unfolding among
not-among zero ws w h = refl
not-among (suc n) [] w h = refl
not-among (suc n) (v ∷ vs) w h =
    ap (λ (b : Bool). b || among w (take n vs)) (not_same v w (λ e. h 0 (omega arith) (omega arith) e)) ∙ not-among n vs w (λ j l m e. h (suc j) (omega arith) (omega arith) e)

module _ (s ls hs : List ℕ) (from n : ℕ) (x : Lead) (t : Bool) (e : t ≡ has_both_to 256 x.low x.high ls hs) where
  pub meet-none : t ≡ false → Meets s ls hs from n x false
  meet-none h = record {
    says = λ B L. sym (not-among n (leads_at s from) (name_at s x.at) (λ j l m f.
        no_place 256 x.low x.high ls hs (sym e ∙ h) j (omega (arith, B.few))
        (B.lows j l ∙ ap low_of f ∙ sym L.low-is) (B.highs j l ∙ ap high_of f ∙ sym L.high_is)));
  }

  pub meet-some : t ≡ true → (r : Bool) → Listed s x.at from n r → Meets s ls hs from n x r
  meet-some h r I = record { says = λ B L. I.says }

pub ruleset meet_laws = (meet-none, meet-some)
