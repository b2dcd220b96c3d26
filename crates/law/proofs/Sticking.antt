-- Where the marking machine sticks: at least one case for each place that can. The theorems of demand 3 speak of accepted texts alone, and a
-- machine that never sticks would pass them all; it would not pass this list. And what it answers outside its domain; and rows 1, 10 and 11.
use mathlib.Core.Path.{◌≡◌, refl}
use mathlib.Core.List.{List, [], ◌∷◌}
use Prim.Native.String as S
use Prim.Native.String.{String}
use lib.IntN.{pos, negsuc}
use Rattle.leaf_bytes.specs.Bytes.{bytes}
use Rattle.law.specs.Machine.{normal}
use Rattle.law.proofs.Open.{everything}
use Rattle.law.specs.Print.{markscript}
use Rattle.law.specs.Whole.{mark_of, ran, refusal, reported, run_of}

pub record Mark : Type 0 where
  pub text : String
  pub prints : String

abbrev pub mark : String → String → Mark
mark t p = record { text = t; prints = p }

-- each case of a list prints what it says, at a budget of 100
pub data Marks : List Mark → Type 0 where
  all : Marks []
  ◌&◌ : {c : Mark} {cs : List Mark} → markscript (bytes c.text) 100 ≡ bytes c.prints → Marks cs → Marks (c ∷ cs)

infixr 5 ◌&◌
-- each ends in `exception`, which must not take it
unfoldable pub places : List Mark
places =
    mark "(var x integer)\n(main (:= x (+ 1 true)) (exception))\n" "stuck 1\n1 x -\n" ∷  -- operator
    mark "(main (if (and_then 1 true) (begin)) (exception))\n" "stuck 1\n" ∷  -- and_then, its left
    mark "(main (if (and_then true 1) (begin)) (exception))\n" "stuck 1\n" ∷  -- its right
    mark "(main (if (and_then false 1) (begin)) (exception))\n" "normal 1\n" ∷  -- not carried out
    mark "(main (raise (abs true)) (exception))\n" "stuck 1\n" ∷  -- function
    mark "(main (raise (- true)) (exception))\n" "stuck 1\n" ∷
    mark "(main (if (not 1) (begin)) (exception))\n" "stuck 1\n" ∷
    mark "(type a (array boolean integer))\n(main (raise (ord (first a))) (exception))\n" "stuck 1\n" ∷  -- first of no ordinal
    mark "(main (if 1 (begin)) (exception))\n" "stuck 1\n" ∷  -- condition
    mark "(main (begin (while 1 (begin))) (exception))\n" "stuck 2\n" ∷
    mark "(var i integer)\n(main (for i true 2 (begin)) (exception))\n" "stuck 1\n1 i -\n" ∷  -- bound
    mark "(var i integer)\n(main (for i 3 true (begin)) (exception))\n" "stuck 1\n1 i -\n" ∷
    mark "(type a (array boolean integer))\n(var i a)\n(main (for i 1 0 (begin)) (exception))\n" "stuck 1\n1 i -\n2 i -\n" ∷
    mark "(main (case 1 (arm 2 true (begin)) (arm 1 (begin))) (exception))\n" "stuck 1\n" ∷  -- label
    mark "(main (case 1 (arm 2 1 true (begin))) (exception))\n" "normal 2\n" ∷  -- not met
    mark "(type a (array boolean integer))\n(var x a)\n(main (:= (at x 1) 5) (exception))\n" "stuck 1\n1 x -\n2 x -\n" ∷  -- index
    mark "(var x integer)\n(main (:= (at x 1) 5) (exception))\n" "stuck 1\n1 x -\n" ∷  -- index of no array
    mark "(var x integer)\n(main (:= (dot x f) 5) (exception))\n" "stuck 1\n1 x -\n" ∷  -- dot
    mark "(type s (setof boolean))\n(var x s)\n(main (:= x (members s true 1)) (exception))\n" "stuck 1\n1 x -\n" ∷  -- member
    mark "(main (raise (card (members integer))) (exception))\n" "stuck 1\n" ∷  -- members of no set
    mark "(main (raise true) (exception))\n" "stuck 1\n" ∷  -- raise
    mark "(var x integer)\n(main (:= x true) (exception))\n" "stuck 1\n1 x -\n" ∷  -- assignment
    mark "(type s (setof boolean))\n(type t (setof boolean))\n(var x s)\n(main (:= x (members t)) (exception))\n" "stuck 1\n1 x -\n" ∷
    mark "(proc p (raise true) (exception))\n(main (call p) (exception))\n" "stuck 2\n" ∷  -- in a procedure
    mark "(main (raise (+ true (div 1 0))))\n" "exception -101 1 1\n" ∷  -- both sides first
    mark "(var x boolean)\n(main (:= x (+ x 1)))\n" "exception -104 1 1\n1 x -\n" ∷  -- it is read first
    mark "(var i integer)\n(main (for i true (div 1 0) (begin)))\n" "exception -101 1 1\n1 i -\n" ∷  -- both bounds first
    mark "(type a (array boolean integer))\n(var x a)\n(main (:= (at x false) 1) (:= (at x true) 2) (for x x x (begin)) (exception))\n" "stuck 3\n1 x 1\n2 x 2\n" ∷  -- bounds of the control variable's type, which is no ordinal
    mark "(main (raise (card (members integer (div 1 0)))) (exception))\n" "stuck 1\n" ∷  -- before any member
    mark "(type r (range 1 1))\n(type a (array r integer))\n(var x a)\n(main (:= (at x 9) true))\n" "exception -103 1 1\n1 x -\n" ∷  -- value and indices first
    mark "(proc p ((a boolean)))\n(main (call p 1) (exception))\n" "stuck 1\n" ∷  -- argument
    mark "(type s (setof boolean))\n(type t (setof boolean))\n(proc p ((a s)))\n(main (call p (members t)) (exception))\n" "stuck 1\n" ∷
    mark "(proc p ((a boolean) (b integer)))\n(main (call p 1 (div 1 0)) (exception))\n" "stuck 1\n" ∷  -- before the next is worked out
    mark "(type r (range 1 4))\n(proc p ((a r) (b integer)))\n(main (call p 9 true))\n" "exception -103 1 1\n" ∷  -- tested before the next is met
    []

pub places-stick : Marks places
unfolding places everything
places-stick = refl & refl & refl & refl & refl & refl & refl & refl & refl & refl & refl & refl & refl & refl & refl & refl & refl & refl & refl & refl & refl & refl & refl & refl & refl & refl & refl & refl & refl & refl & refl & refl & refl & refl & all

-- outside its domain it gives the refusal that the other rules give, never "stuck"
unfoldable pub outside : List Mark
outside =
    mark "(main (raise (- #80000000)))\n" "refused 8 1\n" ∷
    mark "(var i integer)\n(main (raise true) (for i 1 2 (:= i 1)))\n" "refused 8 2\n" ∷
    mark "(main (case 1 (arm 1 1 (begin))))\n" "refused 8 1\n" ∷
    mark "(main (case 1 (arm 1 true (begin))))\n" "normal 2\n" ∷
    mark "(proc p (raise true))\n(type r (range 2 1))\n(main)\n" "refused 8 2\n" ∷
    mark "(proc p (raise true))\n(main (call q))\n" "refused 7 2\n" ∷
    mark "(type s (setof integer))\n(main)\n" "refused 9 1\n" ∷
    mark "(type s (setof boolean))\n(main (raise (card (members s (- #80000000)))))\n" "refused 8 2\n" ∷
    mark "(proc p ((a boolean)))\n(main (call p) (raise true))\n" "refused 8 2\n" ∷  -- a count meets no type
    mark "(type t (array boolean integer))\n(proc p ((a t)))\n(main)\n" "refused 8 2\n" ∷
    []

pub outside-refused : Marks outside
unfolding outside everything
outside-refused = refl & refl & refl & refl & refl & refl & refl & refl & refl & refl & all

-- ---- rows 1, 10 and 11: the store is left as lent

abbrev text : S.String
text = "(type b (range 1 3))\n(type s (setof b))\n(var x b)\n(var y s)\n(main (:= x 2))\n"

pub rows :
    (run_of (bytes text) 16383 (pos 9 ∷ []) (7 ∷ []) 5 ≡ reported (refusal 1 0) (pos 9 ∷ []) (7 ∷ []))
    × (run_of (bytes text) 16384 (pos 9 ∷ []) (7 ∷ []) 5 ≡ reported (refusal 10 0) (pos 9 ∷ []) (7 ∷ []))
    × (run_of (bytes text) 16384 (pos 0 ∷ pos 0 ∷ []) (0 ∷ []) 5 ≡ reported (refusal 10 0) (pos 0 ∷ pos 0 ∷ []) (0 ∷ []))
    × (run_of (bytes text) 16384 (pos 0 ∷ pos 0 ∷ []) (2 ∷ 0 ∷ []) 5 ≡ reported (refusal 11 0) (pos 0 ∷ pos 0 ∷ []) (2 ∷ 0 ∷ []))
    × (run_of (bytes text) 16384 (pos 1 ∷ pos 0 ∷ []) (0 ∷ 0 ∷ []) 5 ≡ reported (refusal 11 0) (pos 1 ∷ pos 0 ∷ []) (0 ∷ 0 ∷ []))
    × (run_of (bytes text) 16384 (pos 4 ∷ pos 0 ∷ []) (1 ∷ 0 ∷ []) 5 ≡ reported (refusal 11 0) (pos 4 ∷ pos 0 ∷ []) (1 ∷ 0 ∷ []))
    × (run_of (bytes text) 16384 (pos 1 ∷ pos 1 ∷ []) (1 ∷ 1 ∷ []) 5 ≡ reported (refusal 11 0) (pos 1 ∷ pos 1 ∷ []) (1 ∷ 1 ∷ []))
    × (mark_of (bytes text) 16384 (pos 1 ∷ negsuc 0 ∷ []) (1 ∷ 1 ∷ []) 5 ≡ reported (refusal 11 0) (pos 1 ∷ negsuc 0 ∷ []) (1 ∷ 1 ∷ []))
    × (run_of (bytes text) 16384 (pos 1 ∷ pos 14 ∷ []) (1 ∷ 1 ∷ []) 5 ≡ reported (ran normal 1) (pos 2 ∷ pos 14 ∷ []) (1 ∷ 1 ∷ []))
unfolding everything
rows = (refl, refl, refl, refl, refl, refl, refl, refl, refl)
