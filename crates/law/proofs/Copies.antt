-- Scripts of document 02, Point 3, with what both machines print.
use mathlib.Core.Path.{refl}
use mathlib.Core.List.{List, [], ◌∷◌}
use Rattle.law.proofs.Counters.{Both, all, ◌&◌}
use Rattle.law.proofs.FittingSheet.{Case, case}
use Rattle.law.proofs.Open.{everything}

unfoldable pub copies : List Case
copies =
    case "(type i (range 1 2))\n(type a (array i integer))\n(type p (record (s a) (on boolean)))\n(var x p)\n(var y p)\n(main (:= (at (dot x s) 1) 5) (:= (at (dot x s) 2) 6) (:= (dot x on) true) (:= (dot y on) false) (:= y x))\n" 9 "normal 5\n1 x 5\n2 x 6\n3 x 1\n4 y 5\n5 y 6\n6 y 1\n" ∷  -- a profile: one step
    case "(type i (range 1 2))\n(type a (array i integer))\n(type p (record (s a) (on boolean)))\n(var x p)\n(var y p)\n(main (:= (at (dot x s) 1) 5) (:= (at (dot x s) 2) 6) (:= (dot x on) true) (:= (dot y on) false) (:= y x))\n" 4 "spent 4\n1 x 5\n2 x 6\n3 x 1\n4 y -\n5 y -\n6 y 0\n" ∷  -- no step left: no cell
    case "(type i (range 1 2))\n(type p (record (n integer) (on boolean)))\n(type a (array i p))\n(var x a)\n(var y a)\n(main (:= (dot (at x 1) n) 5) (:= (dot (at x 1) on) true) (:= (at x 2) (at x 1)) (:= (dot (at x 2) n) 6) (:= y x))\n" 9 "normal 5\n1 x 5\n2 x 1\n3 x 6\n4 x 1\n5 y 5\n6 y 1\n7 y 6\n8 y 1\n" ∷  -- an element; an array of records
    case "(type p (record (n integer)))\n(var x p)\n(var y p)\n(main (:= (dot x n) 5) (:= y x))\n" 9 "normal 2\n1 x 5\n2 y 5\n" ∷  -- of one cell
    case "(type s (setof boolean))\n(var x s)\n(var y s)\n(main (:= x (members s true)) (:= y x))\n" 9 "normal 2\n1 x 2\n2 y 2\n" ∷  -- a set
    case "(type p (record (n integer) (on boolean)))\n(var x p)\n(var y p)\n(main (:= (dot x n) 5) (:= (dot y n) 7) (:= (dot y on) true) (:= y x))\n" 9 "exception -104 4 4\n1 x 5\n2 x -\n3 y 7\n4 y 1\n" ∷  -- the last component undefined: no cell
    case "(type p (record (n integer) (on boolean)))\n(var x p)\n(var y p)\n(main (:= (dot x on) false) (:= (dot y n) 7) (:= (dot y on) true) (:= y x))\n" 9 "exception -104 4 4\n1 x -\n2 x 0\n3 y 7\n4 y 1\n" ∷  -- the first
    case "(type i (range 1 2))\n(type p (record (n integer) (on boolean)))\n(type a (array i p))\n(var x p)\n(var y a)\n(main (:= (dot x n) 5) (:= (at y 3) x))\n" 9 "exception -104 2 2\n1 x 5\n2 x -\n3 y -\n4 y -\n5 y -\n6 y -\n" ∷  -- before the target's index
    case "(type i (range 1 2))\n(type p (record (n integer) (on boolean)))\n(type a (array i p))\n(var x p)\n(var y a)\n(main (:= (dot x n) 5) (:= (dot x on) true) (:= (at y 3) x))\n" 9 "exception -103 3 3\n1 x 5\n2 x 1\n3 y -\n4 y -\n5 y -\n6 y -\n" ∷  -- which is before the first write
    case "(type i (range 1 2))\n(type p (record (n integer)))\n(type a (array i p))\n(var x a)\n(main (:= (at x 3) (at x (div 1 0))))\n" 9 "exception -101 1 1\n1 x -\n2 x -\n" ∷  -- the source's index first
    case "(type i (range 1 2))\n(type p (record (n i)))\n(type a (array i p))\n(var x a)\n(main (:= (dot (at x 1) n) 1) (:= (dot (at x 2) n) 2) (:= (at x (dot (at x 1) n)) (at x 2)))\n" 9 "normal 3\n1 x 2\n2 x 2\n" ∷  -- an index in the cells that are written
    case "(type p (record (n integer) (on boolean)))\n(var x p)\n(main (:= (dot x n) 5) (:= (dot x on) true) (:= x x))\n" 9 "normal 3\n1 x 5\n2 x 1\n" ∷  -- to itself
    case "(type i (range 1 2))\n(type p (record (n integer) (on boolean)))\n(type a (array i p))\n(var x a)\n(var j integer)\n(main (:= j 2) (:= (dot (at x 2) n) 5) (:= (dot (at x 2) on) true) (:= (at x j) (at x 2)))\n" 9 "normal 4\n1 x -\n2 x -\n3 x 5\n4 x 1\n5 j 2\n" ∷  -- by another index
    case "(type p (record (n integer) (on boolean)))\n(var x p)\n(main (:= (dot x n) 5) (:= x x))\n" 9 "exception -104 2 2\n1 x 5\n2 x -\n" ∷  -- with an undefined component
    []

pub copies-print : Both copies
unfolding copies everything
copies-print = (refl, refl) & (refl, refl) & (refl, refl) & (refl, refl) & (refl, refl) & (refl, refl) & (refl, refl) & (refl, refl) & (refl, refl) & (refl, refl) & (refl, refl) & (refl, refl) & (refl, refl) & (refl, refl) & all
