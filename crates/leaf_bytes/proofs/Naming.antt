-- Laws of the shape of a name: one for each way through its functions. Assumes nothing.
use mathlib.Core.Path.{◌≡◌, refl, sym, ◌∙◌}
use mathlib.Core.Bool.{Bool, true, false, ◌&&◌, ◌||◌}
use mathlib.Core.List.{List, [], ◌∷◌}
use Prim.Native.Nat.{ℕ, ◌+◌, ◌<◌, ◌≤◌}
use native.Mathlib.Numerals.{add-one}
use native.Mathlib.Omega.{arith}
use borrow.Author.Tests.{eq-eqb, ne_eqb, le-leb, lt-leb}
use lib.Dec.{eqb}
use lib.ListN.{length, get_or, drop, drop_of_length-le}
use lib.Seq.{drop-cons}
use Rattle.leaf_bytes.specs.Bytes.{is_letter, is_alnum}
use Rattle.leaf_bytes.specs.Names.{alnum_first, part_ok, goes_on, is_name}

module _ (w : List ℕ) (i : ℕ) (h : i < length w) where
  part-is : part_ok (drop i w) ≡ is_alnum (get_or w i 0) || (eqb (get_or w i 0) 95 && alnum_first (drop (i + 1) w))
  unfolding part_ok
  part-is = rw (add-one i, drop-cons w i 0 h)

  module _ (t : Bool) (e : t ≡ is_alnum (get_or w i 0)) where
    pub part-alnum : t ≡ true → true ≡ part_ok (drop i w)
    part-alnum f = rw (part-is, ← e, f)

    module _ (f : t ≡ false) where
      pub part-other : ((get_or w i 0 ≡ 95) → ⊥) → false ≡ part_ok (drop i w)
      part-other n = rw (part-is, ← e, f, ne_eqb (get_or w i 0) 95 n)

      module _ (u : get_or w i 0 ≡ 95) where
        pub part-before : (r : Bool) → i + 1 < length w → r ≡ is_alnum (get_or w (i + 1) 0) → r ≡ part_ok (drop i w)
        unfolding alnum_first
        part-before r l g = rw (part-is, ← e, f, eq-eqb (get_or w i 0) 95 u, drop-cons w (i + 1) 0 l) g

        pub part-last : length w ≤ i + 1 → false ≡ part_ok (drop i w)
        unfolding alnum_first
        part-last l = rw (part-is, ← e, f, eq-eqb (get_or w i 0) 95 u, drop_of_length-le w l)

pub ruleset part_laws = (part-alnum, part-other, part-before, part-last)

-- `all` is what the whole loop gives
module _ (w : List ℕ) (i : ℕ) (all : Bool) (a : all ≡ goes_on (drop i w)) where
  pub goes_end : length w ≤ i → true ≡ all
  unfolding goes_on
  goes_end l = sym (a ∙ rw (drop_of_length-le w l))

  module _ (h : i < length w) (t : Bool) (e : t ≡ part_ok (drop i w)) where
    goes_step : goes_on (drop i w) ≡ part_ok (drop i w) && goes_on (drop (i + 1) w)
    unfolding goes_on
    goes_step = rw (add-one i, drop-cons w i 0 h)

    pub goes-not : t ≡ false → false ≡ all
    goes-not f = sym (a ∙ rw (goes_step, ← e, f))

    pub goes-more : t ≡ true → all ≡ goes_on (drop (i + 1) w)
    goes-more f = a ∙ rw (goes_step, ← e, f)

pub ruleset goes_laws = (goes_end, goes-not, goes-more)

pub name-none : (w : List ℕ) → length w ≡ 0 → false ≡ is_name w
unfolding is_name
name-none [] e = refl
name-none (b ∷ w) e = absurd (omega arith)

pub name-long : (w : List ℕ) → 31 < length w → false ≡ is_name w
unfolding is_name
name-long [] l = refl
name-long (b ∷ w) l = rw (lt-leb (length (b ∷ w)) 31 l)

name-is : (w : List ℕ) → ((length w ≡ 0) → ⊥) → length w ≤ 31 → is_name w ≡ is_letter (get_or w 0 0) && goes_on (drop 1 w)
unfolding is_name
name-is [] n l = absurd (n refl)
name-is (b ∷ w) n l = rw (le-leb (length (b ∷ w)) 31 l)

module _ (w : List ℕ) (n : (length w ≡ 0) → ⊥) (l : length w ≤ 31) (t : Bool) (e : t ≡ is_letter (get_or w 0 0)) where
  pub name-no-letter : t ≡ false → false ≡ is_name w
  name-no-letter f = rw (name-is w n l, ← e, f)

  pub name-goes-on : (r : Bool) → t ≡ true → r ≡ goes_on (drop 1 w) → r ≡ is_name w
  name-goes-on r f g = rw (name-is w n l, ← e, f) g

pub ruleset name_laws = (name-none, name-long, name-no-letter, name-goes-on)
