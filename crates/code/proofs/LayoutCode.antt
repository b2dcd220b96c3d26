-- Laying expressions and places: what it does to the working list, and that reading back gives them.
use mathlib.Core.Path.{◌≡◌, refl, sym, ap, ◌∙◌}
use mathlib.Core.Bool.{Bool, true, false, cond}
use mathlib.Core.List.{List, [], ◌∷◌}
use Prim.Native.Nat.{ℕ, zero, suc, ◌+◌, ◌*◌, ◌-◌, ◌/◌, ◌%◌, ◌≤◌}
use native.Mathlib.Nat.{add-zero}
use native.Mathlib.Omega.{arith}
use borrow.Author.Tests.{lt-leb, lt-ltb, leb-true, ne_eqb, eqb-true}
use lib.Dec.{eqb, leb}
use lib.IntN.{ℤ, pos, negsuc, ◌-ℤ◌}
use lib.ListN.{length, get_or}
use Rattle.leaf_integers.specs.Integers.{least, most, inside}
use Rattle.leaf_integers.proofs.Ranges.{inside_is}
use Rattle.leaf_words.specs.Numbers.{signed}
use Rattle.code.specs.declared.CodeOp.TheVariants.{Binary, Unary}
use Rattle.law.specs.Operators.{Operation, int_add, int_sub, int_mul, int_power, int_div, int_mod, set_union, set_difference, set_intersection, num_equal, num_unequal, num_less, num_at_most, num_greater, num_at_least, set_within, set_holds, member_of, bool_and, bool_or, Operation1, int_negate, bool_not, int_abs, int_sqr, int_odd, ordinal_of, pred_in, succ_in, set_card, set_least, set_greatest}
use Rattle.law.specs.Code.{Code, literal, load, last_number, make_set, calculate, short_cut, calculate1, Place, cell, index, shift, Codes, no_codes, ◌with◌}
use Rattle.code.specs.Layout.{Out, lay, link, bits, operation_number, node1, load_cell, lay_load, both, lay_code, lay_place, lay_codes}
use Rattle.code.specs.Readback.{code_ops, code_op, place_op, operations, operation_at, operations1, operation1_at, integer_at, code_from, place_from, codes_from, read_code, read_place, read_codes}
use Rattle.code.specs.LayoutSize.{size_node1, size_load, size_code, size_place, size_codes, IsInteger, pred_fits, succ-fits, CodeFits, literal-fits, load_fits, set-fits, calculate-fits, short-fits, calculate1-fits, PlaceFits, cell-fits, index-fits, shift_fits, CodesFit, with-fit}
use Rattle.code.proofs.LayoutRegions.{Lays, Chains, Has, Linked, lay-pos, lay-l, end-c, map-l, map-c, ◌next◌, slot-l, link-c}

-- ---- numbers

-- 32 bits hold an integer
pub signed-bits : (z : ℤ) → IsInteger z → signed (bits z) ≡ z
unfolding signed bits inside
signed-bits (pos n) h = rw h
signed-bits (negsuc n) h = go (leb-true n 2147483647 (inside_is least most (negsuc n) h).0)
  where
    go : n ≤ 2147483647 → cond (leb (4294967295 - n) 2147483647) (pos (4294967295 - n)) (pos (4294967295 - n) -ℤ pos 4294967296) ≡ negsuc n
    go g = rw (lt-leb (4294967295 - n) 2147483647 (omega arith), lt-ltb (4294967295 - n) 4294967296 (omega arith)) (ap negsuc (omega arith))

-- the first number
pub first : (n : ℕ) (ns : List ℕ) (p : ℕ) (l : List ℕ) → Has (n ∷ ns) p l → get_or l p 0 ≡ n
first n ns p l h = ap (λ k. get_or l k 0) (sym (add-zero p)) ∙ h.at 0 (omega arith)

-- the table of nodes and that of operations have an operation at its number
binary : (o : Operation) → (code_op (9 + operation_number o) ≡ Binary (operation_number o)) × (operation_at (operation_number o) ≡ o)
unfolding code_op code_ops operation_at operations operation_number
binary int_add = (refl, refl)
binary int_sub = (refl, refl)
binary int_mul = (refl, refl)
binary int_power = (refl, refl)
binary int_div = (refl, refl)
binary int_mod = (refl, refl)
binary set_union = (refl, refl)
binary set_difference = (refl, refl)
binary set_intersection = (refl, refl)
binary num_equal = (refl, refl)
binary num_unequal = (refl, refl)
binary num_less = (refl, refl)
binary num_at_most = (refl, refl)
binary num_greater = (refl, refl)
binary num_at_least = (refl, refl)
binary set_within = (refl, refl)
binary set_holds = (refl, refl)
binary member_of = (refl, refl)
binary bool_and = (refl, refl)
binary bool_or = (refl, refl)

-- ---- what a list holds

-- the list holds the expression c at p: if its numbers can hold it, it is read back
pub record CodeAt (l : List ℕ) (p : ℕ) (c : Code) : Type 0 where
  pub read : CodeFits c → (d : ℕ) → size_code c ≤ d → read_code d l p ≡ c

pub record PlaceAt (l : List ℕ) (p : ℕ) (a : Place) : Type 0 where
  pub read : PlaceFits a → (d : ℕ) → size_place a ≤ d → read_place d l p ≡ a

-- from the slot s on
pub record CodesAt (l : List ℕ) (s : ℕ) (cs : Codes) : Type 0 where
  pub read : CodesFit cs → (d : ℕ) → size_codes cs ≤ d → read_codes d l s ≡ cs

unfoldable reading : Unit {0}
unfolding code_op code_ops code_from place_op place_from codes_from operation1_at operations1 integer_at read_code size_code size_load size_node1 node1 load_cell both
reading = tt

module _ {l : List ℕ} {p : ℕ} where
  read-literal : {z : ℤ} → Has (1 ∷ bits z ∷ []) p l → CodeFits (literal z) → (d : ℕ) → 2 ≤ d → read_code d l p ≡ literal z
  unfolding reading
  read-literal h (literal-fits i) zero e = absurd (omega arith)
  read-literal {z} h (literal-fits i) (suc d) e = rw (first _ _ _ _ h, h.at 1 (omega arith), signed-bits z i)

  read-last : Has (5 ∷ []) p l → (d : ℕ) → 1 ≤ d → read_code d l p ≡ last_number
  unfolding reading
  read-last h zero e = absurd (omega arith)
  read-last h (suc d) e = rw (first _ _ _ _ h)

  read_cell : {a n : ℕ} → Has (load_cell (eqb n 1) a n) p l → CodeFits (load (cell a) n) → (d : ℕ) → 2 ≤ d → read_code d l p ≡ load (cell a) n
  unfolding reading
  read_cell h f zero e = absurd (omega arith)
  read_cell {a} {n} h (load_fits (cell-fits i)) (suc d) e = go (eqb n 1) refl h
    where
      go : (t : Bool) → eqb n 1 ≡ t → Has (load_cell t a n) p l → read_code (suc d) l p ≡ load (cell a) n
      go true k g = rw (first _ _ _ _ g, g.at 1 (omega arith), eqb-true n 1 k)
      go false k g = rw (first _ _ _ _ g, g.at 1 (omega arith), rest-is, quotient_is)
        where
          rest-is : (a + 4096 * n) % 4096 ≡ a
          rest-is = omega arith

          quotient_is : (a + 4096 * n) / 4096 ≡ n
          quotient_is = omega arith

  read-load : {x n : ℕ} {a : Place} → Has (4 ∷ x ∷ n ∷ []) p l → PlaceAt l x a → CodeFits (load a n) → (d : ℕ) → size_place a + 3 ≤ d → read_code d l p ≡ load a n
  unfolding reading
  read-load h A f zero e = absurd (omega arith)
  read-load h A (load_fits f) (suc d) e = rw (first _ _ _ _ h, h.at 1 (omega arith), h.at 2 (omega arith), A.read f d (omega arith))

  read_set : {lo hi : ℤ} {s : ℕ} {cs : Codes} → Has (6 ∷ bits lo ∷ bits hi ∷ s ∷ []) p l → CodesAt l s cs → CodeFits (make_set lo hi cs) → (d : ℕ) → size_code (make_set lo hi cs) ≤ d → read_code d l p ≡ make_set lo hi cs
  unfolding reading
  read_set h A f zero e = absurd (omega arith)
  read_set {lo} {hi} h A (set-fits i j f) (suc d) e = rw (first _ _ _ _ h, h.at 1 (omega arith), h.at 2 (omega arith), h.at 3 (omega arith), signed-bits lo i, signed-bits hi j, A.read f d (omega arith))

  module _ {x y : ℕ} {a b : Code} (A : CodeAt l x a) (B : CodeAt l y b) where
    read-calculate : {o : Operation} → Has ((9 + operation_number o) ∷ x ∷ y ∷ []) p l → CodeFits (calculate o a b) → (d : ℕ) → size_code (calculate o a b) ≤ d → read_code d l p ≡ calculate o a b
    unfolding reading
    read-calculate h f zero e = absurd (omega arith)
    read-calculate {o} h (calculate-fits f g) (suc d) e = rw (first _ _ _ _ h, (binary o).0, h.at 1 (omega arith), h.at 2 (omega arith), (binary o).1, A.read f d (omega arith), B.read g d (omega arith))

    read_short : (q : Bool) → Has (both q ∷ x ∷ y ∷ []) p l → CodeFits (short_cut q a b) → (d : ℕ) → size_code (short_cut q a b) ≤ d → read_code d l p ≡ short_cut q a b
    unfolding reading
    read_short q h f zero e = absurd (omega arith)
    read_short true h (short-fits f g) (suc d) e = rw (first _ _ _ _ h, h.at 1 (omega arith), h.at 2 (omega arith), A.read f d (omega arith), B.read g d (omega arith))
    read_short false h (short-fits f g) (suc d) e = rw (first _ _ _ _ h, h.at 1 (omega arith), h.at 2 (omega arith), A.read f d (omega arith), B.read g d (omega arith))

  -- a node of one part: by its operation's number, or with bounds
  module _ {x : ℕ} {a : Code} (A : CodeAt l x a) where
    read-unary : (o : Operation1) (k : ℕ) → code_op (29 + k) ≡ Unary k → operation1_at k ≡ o → Has ((29 + k) ∷ x ∷ []) p l → CodeFits a → (d : ℕ) → size_code a + 2 ≤ d → read_code d l p ≡ calculate1 o a
    unfolding code_from read_code
    read-unary o k i j h f zero e = absurd (omega arith)
    read-unary o k i j h f (suc d) e = rw (first _ _ _ _ h, i, h.at 1 (omega arith), j, A.read f d (omega arith))

    read-node1 : (o : Operation1) → Has (node1 o x) p l → CodeFits (calculate1 o a) → (d : ℕ) → size_code a + size_node1 o ≤ d → read_code d l p ≡ calculate1 o a
    unfolding reading
    read-node1 int_negate h (calculate1-fits g f) d e = read-unary int_negate 0 refl refl h f d e
    read-node1 bool_not h (calculate1-fits g f) d e = read-unary bool_not 1 refl refl h f d e
    read-node1 int_abs h (calculate1-fits g f) d e = read-unary int_abs 2 refl refl h f d e
    read-node1 int_sqr h (calculate1-fits g f) d e = read-unary int_sqr 3 refl refl h f d e
    read-node1 int_odd h (calculate1-fits g f) d e = read-unary int_odd 4 refl refl h f d e
    read-node1 ordinal_of h (calculate1-fits g f) d e = read-unary ordinal_of 5 refl refl h f d e
    read-node1 set_card h (calculate1-fits g f) d e = read-unary set_card 6 refl refl h f d e
    read-node1 set_least h (calculate1-fits g f) d e = read-unary set_least 7 refl refl h f d e
    read-node1 set_greatest h (calculate1-fits g f) d e = read-unary set_greatest 8 refl refl h f d e
    read-node1 (pred_in lo hi) h (calculate1-fits g f) zero e = absurd (omega arith)
    read-node1 (pred_in lo hi) h (calculate1-fits (pred_fits i j) f) (suc d) e =
        rw (first _ _ _ _ h, h.at 1 (omega arith), h.at 2 (omega arith), h.at 3 (omega arith), signed-bits lo i, signed-bits hi j, A.read f d (omega arith))
    read-node1 (succ_in lo hi) h (calculate1-fits g f) zero e = absurd (omega arith)
    read-node1 (succ_in lo hi) h (calculate1-fits (succ-fits i j) f) (suc d) e =
        rw (first _ _ _ _ h, h.at 1 (omega arith), h.at 2 (omega arith), h.at 3 (omega arith), signed-bits lo i, signed-bits hi j, A.read f d (omega arith))

  -- places
  place-cell : {a : ℕ} → Has (40 ∷ a ∷ []) p l → (d : ℕ) → 2 ≤ d → read_place d l p ≡ cell a
  unfolding reading
  place-cell h zero e = absurd (omega arith)
  place-cell h (suc d) e = rw (first _ _ _ _ h, h.at 1 (omega arith))

  place-index : {x y k : ℕ} {lo hi : ℤ} {a : Place} {c : Code} → Has (41 ∷ x ∷ y ∷ bits lo ∷ bits hi ∷ k ∷ []) p l → PlaceAt l x a → CodeAt l y c
      → PlaceFits (index a c lo hi k) → (d : ℕ) → size_place (index a c lo hi k) ≤ d → read_place d l p ≡ index a c lo hi k
  unfolding reading
  place-index h A C f zero e = absurd (omega arith)
  place-index {lo} {hi} h A C (index-fits f g i j) (suc d) e =
      rw (first _ _ _ _ h, h.at 1 (omega arith), h.at 2 (omega arith), h.at 3 (omega arith), h.at 4 (omega arith), h.at 5 (omega arith), signed-bits lo i, signed-bits hi j, A.read f d (omega arith), C.read g d (omega arith))

  place-shift : {x k : ℕ} {a : Place} → Has (42 ∷ x ∷ k ∷ []) p l → PlaceAt l x a → PlaceFits (shift a k) → (d : ℕ) → size_place (shift a k) ≤ d → read_place d l p ≡ shift a k
  unfolding reading
  place-shift h A f zero e = absurd (omega arith)
  place-shift h A (shift_fits f) (suc d) e = rw (first _ _ _ _ h, h.at 1 (omega arith), h.at 2 (omega arith), A.read f d (omega arith))

-- chains
codes-end : (l : List ℕ) (s : ℕ) → get_or l s 0 ≡ 0 → (d : ℕ) → read_codes d l s ≡ no_codes
unfolding reading
codes-end l s h zero = refl
codes-end l s h (suc d) = rw h

codes-link : {l : List ℕ} {s u x : ℕ} {c : Code} {cs : Codes} → CodeAt l x c → Linked (x ∷ []) s u l → CodesAt l (u + 1) cs
    → CodesFit (c with cs) → (d : ℕ) → size_codes (c with cs) ≤ d → read_codes d l s ≡ (c with cs)
unfolding reading
codes-link C k A f zero e = absurd (omega arith)
codes-link {u} C k A (with-fit f g) (suc d) e = rw (k.from, ne_eqb u 0 (omega (arith, k.parts.later)), first _ _ _ _ k.parts, C.read f d (omega arith), A.read g d (omega arith))

-- ---- the layout

laid-load : (p : Place) (n t : ℕ) (l : List ℕ) → Lays (size_place p) t l (lay_place p t l) (λ l'. PlaceAt l' (lay_place p t l).pos p)
    → Lays (size_load p (size_place p)) t l (lay_load p n (lay_place p t l) t l) (λ l'. CodeAt l' (lay_load p n (lay_place p t l) t l).pos (load p n))
unfolding lay_load size_load size_code lay load_cell
laid-load (cell a) n t l x = map-l (cell-node (eqb n 1)) (λ l' h. record { read = read_cell h })
  where
    cell-node : (b : Bool) → Lays 2 t l (lay (load_cell b a n) t l) (Has (load_cell b a n) t)
    cell-node true = lay-l (2 ∷ a ∷ []) t l
    cell-node false = lay-l (3 ∷ (a + 4096 * n) ∷ []) t l
laid-load (index p c lo hi k) n t l x = map-l (x next lay-l _ _ _) (λ l' h. record { read = read-load h.1 h.0 })
laid-load (shift p k) n t l x = map-l (x next lay-l _ _ _) (λ l' h. record { read = read-load h.1 h.0 })

length-node1 : (o : Operation1) (p : ℕ) → size_node1 o ≡ length (node1 o p)
unfolding size_node1 node1
length-node1 int_negate p = refl
length-node1 bool_not p = refl
length-node1 int_abs p = refl
length-node1 int_sqr p = refl
length-node1 int_odd p = refl
length-node1 ordinal_of p = refl
length-node1 set_card p = refl
length-node1 set_least p = refl
length-node1 set_greatest p = refl
length-node1 (pred_in lo hi) p = refl
length-node1 (succ_in lo hi) p = refl

node1-l : (o : Operation1) (p t : ℕ) (l : List ℕ) → Lays (size_node1 o) t l (lay (node1 o p) t l) (Has (node1 o p) t)
node1-l o p t l = rw (length-node1 o p) (lay-l (node1 o p) t l)

mutual
  unfolding lay_code size_code lay link

  pub laid_code : (c : Code) (t : ℕ) (l : List ℕ) → Lays (size_code c) t l (lay_code c t l) (λ l'. CodeAt l' (lay_code c t l).pos c)
  laid_code (literal z) t l = map-l (lay-l (1 ∷ bits z ∷ []) t l) (λ l' h. record { read = read-literal h })
  laid_code (load p n) t l = laid-load p n t l (laid-place p t l)
  laid_code last_number t l = map-l (lay-l (5 ∷ []) t l) (λ l' h. record { read = λ f. read-last h })
  laid_code (make_set lo hi cs) t l =
      map-l (slot-l (laid-codes cs t _ _) next lay-l _ _ _) (λ l' h. record { read = read_set h.1 h.0.1 })
  laid_code (calculate o a b) t l =
      map-l (laid_code a t l next laid_code b _ _ next lay-l _ _ _) (λ l' h. record { read = read-calculate h.0.0 h.0.1 h.1 })
  laid_code (short_cut q a b) t l =
      map-l (laid_code a t l next laid_code b _ _ next lay-l _ _ _) (λ l' h. record { read = read_short h.0.0 h.0.1 q h.1 })
  laid_code (calculate1 o a) t l = map-l (laid_code a t l next node1-l o _ _ _) (λ l' h. record { read = read-node1 h.0 o h.1 })

  pub laid-place : (p : Place) (t : ℕ) (l : List ℕ) → Lays (size_place p) t l (lay_place p t l) (λ l'. PlaceAt l' (lay_place p t l).pos p)
  laid-place (cell a) t l = map-l (lay-l (40 ∷ a ∷ []) t l) (λ l' h. record { read = λ f. place-cell h })
  laid-place (index p c lo hi k) t l =
      map-l (laid-place p t l next laid_code c _ _ next lay-l _ _ _) (λ l' h. record { read = place-index h.1 h.0.0 h.0.1 })
  laid-place (shift p k) t l = map-l (laid-place p t l next lay-l _ _ _) (λ l' h. record { read = place-shift h.1 h.0 })

  pub laid-codes : (cs : Codes) (s t : ℕ) (l : List ℕ) → Chains (size_codes cs) s t l (lay_codes cs s t l) (λ l'. CodesAt l' s cs)
  laid-codes no_codes s t l = map-c end-c (λ l' h. record { read = λ f d e. codes-end l' s h d })
  laid-codes (c with cs) s t l =
      map-c (link-c ((lay_code c t l).pos ∷ []) (laid_code c t l) (laid-codes cs _ _ _)) (λ l' h. record { read = codes-link h.0 h.1 h.2 })

-- ---- where it stands: at or below the free place

load-pos : (p : Place) (n t : ℕ) (l : List ℕ) (x : Out) → (lay_load p n x t l).pos ≤ (lay_load p n x t l).top
unfolding lay_load
load-pos (cell a) n t l x = lay-pos _ _ _
load-pos (index p c lo hi k) n t l x = lay-pos _ _ _
load-pos (shift p k) n t l x = lay-pos _ _ _

pub code-pos : (c : Code) (t : ℕ) (l : List ℕ) → (lay_code c t l).pos ≤ (lay_code c t l).top
unfolding lay_code
code-pos (literal z) t l = lay-pos _ _ _
code-pos (load p n) t l = load-pos p n t l _
code-pos last_number t l = lay-pos _ _ _
code-pos (make_set lo hi cs) t l = lay-pos _ _ _
code-pos (calculate o a b) t l = lay-pos _ _ _
code-pos (short_cut q a b) t l = lay-pos _ _ _
code-pos (calculate1 o a) t l = lay-pos _ _ _

pub place-pos : (p : Place) (t : ℕ) (l : List ℕ) → (lay_place p t l).pos ≤ (lay_place p t l).top
unfolding lay_place
place-pos (cell a) t l = lay-pos _ _ _
place-pos (index p c lo hi k) t l = lay-pos _ _ _
place-pos (shift p k) t l = lay-pos _ _ _
