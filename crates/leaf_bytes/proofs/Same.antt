-- Two lists of bytes are `same` exactly where they are equal; a word compared with another byte by byte, case ignored. Assumes nothing.
use mathlib.Core.Path.{◌≡◌, refl, sym, ap, subst, ◌∙◌}
use mathlib.Core.Bool.{Bool, true, false, and-eq-true_iff}
use mathlib.Core.List.{List, [], ◌∷◌, map}
use Prim.Native.Nat.{ℕ, ◌<◌}
use borrow.Author.Tests.{eq-eqb, eqb-true}
use lib.Dec.{T, eqb}
use lib.ListN.{length, get_or, length-map, get_or-map}
use lib.Seq.{ext_get_or}
use Rattle.leaf_bytes.specs.Bytes.{same, small}

pub same-equal : (a b : List ℕ) → same a b ≡ true → a ≡ b
unfolding same
same-equal [] [] t = refl
same-equal [] (y ∷ b) t = absurd (subst T (sym t) tt)
same-equal (x ∷ a) [] t = absurd (subst T (sym t) tt)
same-equal (x ∷ a) (y ∷ b) t =
    let p = (and-eq-true_iff (eqb x y) (same a b)).0 t in
    let h = eqb-true x y p.0 in
    let r = same-equal a b p.1 in cc

pub same_self : (a : List ℕ) → same a a ≡ true
unfolding same
same_self [] = refl
same_self (x ∷ a) = rw (eq-eqb x x refl, same_self a)

pub equal-same : (a b : List ℕ) → a ≡ b → same a b ≡ true
equal-same a b e = rw e (same_self b)

-- a test that would lead to the absurd failed
fails : (t : Bool) → ((t ≡ true) → ⊥) → t ≡ false
fails true h = absurd (h refl)
fails false h = refl

pub not_same : (a b : List ℕ) → ((a ≡ b) → ⊥) → same a b ≡ false
not_same a b n = fails (same a b) (λ t. n (same-equal a b t))

pub small_at : (w : List ℕ) (i : ℕ) → get_or (map small w) i 0 ≡ small (get_or w i 0)
unfolding small
small_at w i = get_or-map small w i 0

-- w in small letters, and v
module _ (w v : List ℕ) where
  pub other_length : ((length w ≡ length v) → ⊥) → false ≡ same (map small w) v
  other_length n = sym (not_same (map small w) v (λ e. n (sym (length-map w small) ∙ ap length e)))

  pub other_byte : (i : ℕ) → ((small (get_or w i 0) ≡ get_or v i 0) → ⊥) → false ≡ same (map small w) v
  other_byte i n = sym (not_same (map small w) v (λ e. n (sym (small_at w i) ∙ ap (λ (l : List ℕ). get_or l i 0) e)))

  pub all-bytes : length w ≡ length v → ((i : ℕ) → i < length w → small (get_or w i 0) ≡ get_or v i 0) → true ≡ same (map small w) v
  all-bytes e h =
      sym (equal-same (map small w) v (ext_get_or 0 (map small w) v (length-map w small ∙ e)
      (λ i l. small_at w i ∙ h i (subst (λ (n : ℕ). i < n) (length-map w small) l))))
