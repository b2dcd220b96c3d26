-- The fitting sheet of document 01, each case from the bytes of a script to what `runscript` prints.
use mathlib.Core.Path.{◌≡◌, refl}
use mathlib.Core.Bool.{Bool, true, ◌&&◌}
use mathlib.Core.List.{List, [], ◌∷◌}
use Prim.Native.Nat.{ℕ}
use Prim.Native.String.{String}
use lib.Dec.{ltb}
use Rattle.leaf_bytes.specs.Bytes.{bytes}
use Rattle.leaf_reserved.specs.Table.{place_of}
use Rattle.law.specs.Forms.{arm_heads, heads, line_heads, makers, truths, verbs}
use Rattle.law.specs.Print.{runscript}
use Rattle.law.proofs.Open.{everything}

pub record Case : Type 0 where
  pub text : String
  pub budget : ℕ
  pub prints : String

abbrev pub case : String → ℕ → String → Case
case t b p = record { text = t; budget = b; prints = p }

-- each case of a list prints what it says
pub data Print : List Case → Type 0 where
  all : Print []
  ◌&◌ : {c : Case} {cs : List Case} → runscript (bytes c.text) c.budget ≡ bytes c.prints → Print cs → Print (c ∷ cs)

infixr 5 ◌&◌
-- the starred cases
unfoldable pub starred : List Case
starred =
    case "(main (raise 2147483647))\n" 9 "exception 2147483647 1 1\n" ∷
    case "(main (raise 2147483648))\n" 9 "refused 5 1\n" ∷
    case "(main (raise #FFFFFFFF))\n" 9 "exception -1 1 1\n" ∷
    case "(main (raise #80000000))\n" 9 "exception -2147483648 1 1\n" ∷
    case "(main (raise (div (- 7) 2)))\n" 9 "exception -3 1 1\n" ∷
    case "(main (raise (mod (- 7) 3)))\n" 9 "exception 2 1 1\n" ∷
    case "(main (raise (mod 7 (- 3))))\n" 9 "exception -101 1 1\n" ∷
    case "(main (raise (mod 7 0)))\n" 9 "exception -101 1 1\n" ∷
    case "(main (raise (div #80000000 (- 1))))\n" 9 "exception -101 1 1\n" ∷
    case "(main (raise (** (- 2) 31)))\n" 9 "exception -2147483648 1 1\n" ∷
    case "(main (raise (** 2 31)))\n" 9 "exception -101 1 1\n" ∷
    case "(main (raise (** (- 1) 2147483647)))\n" 9 "exception -1 1 1\n" ∷
    case "(main (raise (** 0 0)))\n" 9 "exception -101 1 1\n" ∷
    case "(main (raise (** 5 0)))\n" 9 "exception 1 1 1\n" ∷
    case "(type b (range 0 31))\n(type s (setof b))\n(var x s)\n(var c integer)\n(var l b)\n(var g b)\n(var p boolean)\n(var q boolean)\n(main (:= x (members s 1 3)) (:= c (card x)) (:= l (setmin x)) (:= g (setmax x)) (:= p (in 3 x)) (:= q (in 2 x)))\n" 9
    "normal 6\n1 x 10\n2 c 2\n3 l 1\n4 g 3\n5 p 1\n6 q 0\n" ∷
    case "(main)\n" 0 "normal 0\n" ∷
    case "(main (raise 0))\n" 9 "exception -102 1 1\n" ∷
    []

pub starred-hold : Print starred
unfolding starred everything
starred-hold = refl & refl & refl & refl & refl & refl & refl & refl & refl & refl & refl & refl & refl & refl & refl & refl & refl & all

-- the others: the two loops, the two misfits (marked m), and the sample script at two budgets
unfoldable pub unstarred : List Case
unstarred =
    case "(var i integer)\n(main (for i 2147483646 2147483647 (begin)))\n" 9 "normal 5\n1 i -\n" ∷
    case "(type r (range 1 4))\n(var i r)\n(main (for i 5 1 (begin)))\n" 9 "normal 1\n1 i -\n" ∷
    case "(var x integer)\n(main (:= x (+ 1 true)))\n" 9 "refused 8 2\n" ∷
    case "(main (if 1 (begin)))\n" 9 "refused 8 1\n" ∷
    case "(type slot (range 1 4))\n(var at_slot slot)\n(var sum integer)\n(main (:= at_slot 3) (:= sum (** 2 (+ at_slot 1))))\n" 10000 "normal 2\n1 at_slot 3\n2 sum 16\n" ∷
    case "(type slot (range 1 4))\n(var at_slot slot)\n(var sum integer)\n(main (:= at_slot 3) (:= sum (** 2 (+ at_slot 1))))\n" 1 "spent 1\n1 at_slot 3\n2 sum -\n" ∷
    []

pub unstarred-hold : Print unstarred
unfolding unstarred everything
unstarred-hold = refl & refl & refl & refl & refl & refl & all

-- ---- each head word of the forms stands in the one table

unfoldable pub all_listed : {A : Type 0} → List (String × A) → Bool
all_listed [] = true
all_listed (p ∷ ps) = ltb (place_of (bytes p.0)) 57 && all_listed ps

pub heads-listed : (all_listed heads && all_listed verbs && all_listed arm_heads && all_listed makers && all_listed line_heads && all_listed truths) ≡ true
unfolding all_listed everything
heads-listed = refl
