-- Short scripts that run: each form, operator, function and exception, the order of work, steps; each from its bytes to what is printed.
use mathlib.Core.Path.{refl}
use mathlib.Core.List.{List, [], ◌∷◌}
use Rattle.law.proofs.Open.{everything}
use Rattle.law.proofs.FittingSheet.{Case, case, Print, all, ◌&◌}

-- Words and ceilings at their ends; exceptions, handlers, order of work
unfoldable pub first : List Case
first =
    case "(main (begin (begin (begin (begin (begin (begin (begin (begin (begin (begin (begin (begin (begin (begin (begin (begin (begin (begin (begin (begin (begin (begin (begin (begin (begin (begin (begin (begin (begin (begin (begin ))))))))))))))))))))))))))))))))\n" 100 "normal 31\n" ∷  -- depth 32
    case "(main (raise 0002147483647))\n" 100 "exception 2147483647 1 1\n" ∷  -- leading zeros
    case "(main (raise #7fFFfFff))\n" 100 "exception 2147483647 1 1\n" ∷  -- small and capital digits
    case "(main (raise #FFFFFFF))\n" 100 "exception 268435455 1 1\n" ∷  -- seven digits
    case "(type b (range 0 31))\n(type s (setof b))\n(main)\n" 100 "normal 0\n" ∷  -- at the ceiling
    case "(type i (range 0 255))\n(type a (array i integer))\n(main)\n" 100 "normal 0\n" ∷  -- at the ceiling
    case "(type r (record (f0 integer) (f1 integer) (f2 integer) (f3 integer) (f4 integer) (f5 integer) (f6 integer) (f7 integer) (f8 integer) (f9 integer) (f10 integer) (f11 integer) (f12 integer) (f13 integer) (f14 integer) (f15 integer)))\n(main)\n" 100 "normal 0\n" ∷  -- at the ceiling
    case "(type r (range 1 3))\n(var x r)\n(main (:= x 4))\n" 100 "exception -103 1 1\n1 x -\n" ∷  -- assignment
    case "(type r (range 1 3))\n(type a (array r integer))\n(var x a)\n(main (:= (at x 0) 1))\n" 100 "exception -103 1 1\n1 x -\n2 x -\n3 x -\n" ∷  -- index
    case "(type r (range 1 3))\n(var x r)\n(main (for x 1 4 (begin)))\n" 100 "exception -103 1 1\n1 x -\n" ∷  -- for bound
    case "(type r (range 1 3))\n(type s (setof r))\n(var x s)\n(main (:= x (members s 1 0)))\n" 100 "exception -103 1 1\n1 x -\n" ∷  -- member
    case "(var b boolean)\n(main (:= b (pred false)))\n" 100 "exception -103 1 1\n1 b -\n" ∷  -- pred
    case "(main (raise (succ 2147483647)))\n" 100 "exception -103 1 1\n" ∷  -- succ
    case "(type r (range 1 3))\n(type s (setof r))\n(main (raise (setmax (members s))))\n" 100 "exception -103 1 1\n" ∷  -- setmax of the empty set
    case "(var x integer)\n(main (:= x x))\n" 100 "exception -104 1 1\n1 x -\n" ∷  -- undefined
    case "(type p (record (f integer) (g boolean)))\n(var x p)\n(var y p)\n(main (:= (dot x f) 1) (:= y x) (exception (:= (dot y g) true)))\n" 100 "normal 3\n1 x 1\n2 x -\n3 y -\n4 y 1\n" ∷  -- undefined inside a record: nothing is copied
    case "(type p (record (f integer) (g boolean)))\n(var x p)\n(var y p)\n(main (:= (dot x f) 1) (:= (dot x g) true) (:= y x))\n" 100 "normal 3\n1 x 1\n2 x 1\n3 y 1\n4 y 1\n" ∷  -- whole copy
    case "(main (case 3 (arm 1 2 (begin))))\n" 100 "exception -105 1 1\n" ∷  -- no label
    case "(main (case 3 (arm 1 2 (begin)) (arm 3 (raise 5)) (else (raise 6))))\n" 100 "exception 5 3 2\n" ∷  -- case
    case "(var x integer)\n(proc p (raise 7))\n(main (call p) (exception (:= x error_number) (raise 0)))\n" 100 "exception 7 1 4\n1 x 7\n" ∷  -- number and statement kept
    case "(proc p (raise 7) (exception (raise error_number)))\n(main (call p))\n" 100 "exception 7 2 3\n" ∷  -- a new place
    case "(proc p (raise 7) (exception))\n(main (call p) (raise 0))\n" 100 "exception 7 1 3\n" ∷  -- long after
    case "(main (raise 5) (exception (raise 6)))\n" 100 "exception 6 2 2\n" ∷  -- exception in a handler
    case "(main (while true (begin)))\n" 7 "spent 7\n" ∷  -- spent
    case "(main (while true (begin)) (exception))\n" 8 "spent 8\n" ∷  -- spent is not handled
    case "(var b boolean)\n(main (:= b (and false (= 1 (div 1 0)))))\n" 100 "exception -101 1 1\n1 b -\n" ∷  -- both sides
    case "(var b boolean)\n(main (:= b (and_then false (= 1 (div 1 0)))))\n" 100 "normal 1\n1 b 0\n" ∷  -- not the right side
    case "(type r (range 1 3))\n(type s (setof r))\n(main (if (in 40 (members s 1)) (raise 1) (raise 2)))\n" 100 "exception 2 3 2\n" ∷  -- in outside the base
    case "(type r (range 1 3))\n(type s (setof r))\n(main (if (in (- 1) (members s 1)) (raise 1) (raise 2)))\n" 100 "exception 2 3 2\n" ∷  -- below the base
    case "(type a (array boolean integer))\n(var x a)\n(main (:= (at x (= 1 (div 1 0))) (mod 1 0)))\n" 100 "exception -101 1 1\n1 x -\n2 x -\n" ∷
    case "(type a (array boolean integer))\n(var x a)\n(var y integer)\n(main (:= (at x (= 1 (div 1 0))) y))\n" 100 "exception -104 1 1\n1 x -\n2 x -\n3 y -\n" ∷  -- the value before the indices
    []

pub first-hold : Print first
unfolding first everything
first-hold = refl & refl & refl & refl & refl & refl & refl & refl & refl & refl & refl & refl & refl & refl & refl & refl & refl & refl & refl & refl & refl & refl & refl & refl & refl & refl & refl & refl & refl & refl & refl & all

-- Loops, cases, operators, functions, sets, arrays, records, names, steps
unfoldable pub second : List Case
second =
    case "(var i integer)\n(var n integer)\n(main (:= n 0) (for i 1 3 (:= n (+ n i))))\n" 100 "normal 8\n1 i -\n2 n 6\n" ∷  -- for: a step for each round
    case "(type c (enum red green blue))\n(var x c)\n(var n integer)\n(main (:= n 0) (for x red blue (:= n (+ (* n 10) (ord x)))))\n" 100 "normal 8\n1 x -\n2 n 12\n" ∷  -- for over an enumeration
    case "(var b boolean)\n(main (for b false true (begin)))\n" 100 "normal 5\n1 b -\n" ∷  -- for over booleans
    case "(var i integer)\n(proc p (:= i 9))\n(main (for i 1 2 (call p)))\n" 100 "normal 7\n1 i -\n" ∷  -- the loop keeps its own count
    case "(var i integer)\n(main (:= i 3) (for i i (+ i 1) (begin)))\n" 100 "normal 6\n1 i -\n" ∷  -- bounds are worked out once, with the old value
    case "(var n integer)\n(main (:= n 3) (while (> n 0) (:= n (- n 1))))\n" 100 "normal 8\n1 n 0\n" ∷  -- while
    case "(main (while false (raise 1)))\n" 100 "normal 1\n" ∷  -- while with no round
    case "(var n integer)\n(main (if false (:= n 1) (:= n 2)))\n" 100 "normal 2\n1 n 2\n" ∷  -- else
    case "(var n integer)\n(main (if false (:= n 1)))\n" 100 "normal 1\n1 n -\n" ∷  -- no else: no step
    case "(type c (enum red green blue))\n(var x c)\n(main (:= x green) (case x (arm red (raise 1)) (arm green blue (raise 2))))\n" 100 "exception 2 4 3\n1 x 1\n" ∷  -- case over an enumeration
    case "(main (case (- 5) (arm (- 5) (raise 1)) (else (raise 2))))\n" 100 "exception 1 2 2\n" ∷  -- a negative label
    case "(main (case 9 (arm 1 (begin)) (else (raise 6))))\n" 100 "exception 6 3 2\n" ∷  -- else
    case "(var a boolean)\n(var b boolean)\n(var d boolean)\n(var e boolean)\n(main (:= a (< false true)) (:= b (= 3 3)) (:= d (<> 3 3)) (:= e (>= 2 3)))\n" 100 "normal 4\n1 a 1\n2 b 1\n3 d 0\n4 e 0\n" ∷  -- comparisons
    case "(var a boolean)\n(var b boolean)\n(var d boolean)\n(main (:= a (or false true)) (:= b (not true)) (:= d (or_else true (= 1 (div 1 0)))))\n" 100 "normal 3\n1 a 1\n2 b 0\n3 d 1\n" ∷  -- boolean operators
    case "(var a integer)\n(var b integer)\n(var d integer)\n(main (:= a (abs (- 7))) (:= b (sqr (- 9))) (:= d (- 3 10)))\n" 100 "normal 3\n1 a 7\n2 b 81\n3 d -7\n" ∷  -- abs, sqr, two-sided -
    case "(main (raise (abs #80000000)))\n" 100 "exception -101 1 1\n" ∷  -- abs past the integers
    case "(main (raise (- (first integer))))\n" 100 "exception -101 1 1\n" ∷  -- one-sided - past the integers
    case "(main (raise (sqr 46341)))\n" 100 "exception -101 1 1\n" ∷  -- sqr past the integers
    case "(main (raise (+ 2147483647 1)))\n" 100 "exception -101 1 1\n" ∷  -- + past the integers
    case "(main (raise (* 65536 32768)))\n" 100 "exception -101 1 1\n" ∷  -- * past the integers
    case "(main (raise (div 1 0)))\n" 100 "exception -101 1 1\n" ∷  -- zero divisor
    case "(main (raise (** 2 (- 1))))\n" 100 "exception -101 1 1\n" ∷  -- negative exponent
    case "(main (raise (** 46341 1)))\n" 100 "exception 46341 1 1\n" ∷  -- no square ahead of need
    case "(main (raise (** 2 2147483647)))\n" 100 "exception -101 1 1\n" ∷  -- a large exponent
    case "(var a boolean)\n(var b boolean)\n(main (:= a (odd (- 3))) (:= b (odd #80000000)))\n" 100 "normal 2\n1 a 1\n2 b 0\n" ∷  -- odd of negatives
    case "(type r (range 1 4))\n(var x r)\n(var y integer)\n(main (:= x 4) (:= y (succ x)) (:= x y))\n" 100 "exception -103 3 3\n1 x 4\n2 y 5\n" ∷  -- succ past a range, not past its host
    case "(type r (range 1 4))\n(main (raise (+ (* 10 (last r)) (first r))))\n" 100 "exception 41 1 1\n" ∷  -- first and last
    case "(type b (range 0 31))\n(type s (setof b))\n(var x s)\n(var y s)\n(var u s)\n(var d s)\n(var n s)\n(main (:= x (members s 1 2 2)) (:= y (members s 2 31)) (:= u (+ x y)) (:= d (- x y)) (:= n (* x y)))\n" 100 "normal 5\n1 x 6\n2 y 2147483652\n3 u 2147483654\n4 d 2\n5 n 4\n" ∷  -- set operators; bit 31 counts upwards
    case "(type b (range 0 31))\n(type s (setof b))\n(var x s)\n(var p boolean)\n(var q boolean)\n(var r boolean)\n(main (:= x (members s 1 2)) (:= p (<= (members s 2) x)) (:= q (>= (members s 2) x)) (:= r (= x (members s 2 1))))\n" 100 "normal 4\n1 x 6\n2 p 1\n3 q 0\n4 r 1\n" ∷  -- set comparisons
    case "(type i (range (- 1) 1))\n(type a (array i integer))\n(var x a)\n(main (:= (at x (- 1)) 5) (:= (at x 1) (at x (- 1))))\n" 100 "normal 2\n1 x 5\n2 x -\n3 x 5\n" ∷  -- an array from a negative index on
    case "(type p (record (f integer) (g boolean)))\n(type a (array boolean p))\n(var x a)\n(main (:= (dot (at x true) g) true) (:= (dot (at x false) f) 7))\n" 100 "normal 2\n1 x 7\n2 x -\n3 x -\n4 x 1\n" ∷  -- records in an array
    case "(type a (array boolean integer))\n(var x a)\n(main (:= (at x false) 1) (:= x x) (exception (raise 0)))\n" 100 "exception -104 2 3\n1 x 1\n2 x -\n" ∷  -- a whole array to itself, one cell undefined
    case "(type t integer)\n(type u t)\n(var x u)\n(main (:= x 3))\n" 100 "normal 1\n1 x 3\n" ∷  -- aliases
    case "(type do (enum end set))\n(var nil do)\n(main (:= NIL SET))\n" 100 "normal 1\n1 nil 1\n" ∷  -- free words; case ignored
    case "(proc p (raise 1))\n(proc q (call p) (exception))\n(main (call q) (raise error_number))\n" 100 "exception 1 4 4\n" ∷  -- handled in a caller; error_number stays
    case "(main (begin (raise 4)) (raise 5) (exception (raise 0)))\n" 100 "exception 4 2 3\n" ∷  -- the rest of the body is dropped
    case "(main (raise (+ 1 (* 2 (div 7 2)))))\n" 100 "exception 7 1 1\n" ∷  -- nesting
    case "(main (begin) (begin))\n" 1 "spent 1\n" ∷  -- one step short
    case "(main (begin) (begin))\n" 2 "normal 2\n" ∷  -- the last step is the budget's last
    case "(main (raise 0))\n" 0 "spent 0\n" ∷  -- spent before raise
    case "(var x integer)\n(main (raise (+ (div 1 0) x)))\n" 100 "exception -101 1 1\n1 x -\n" ∷  -- left before right
    case "(type r (range 1 1))\n(type a (array r integer))\n(type m (array r a))\n(var x m)\n(main (raise (at (at x 9) (div 1 0))))\n" 100 "exception -103 1 1\n1 x -\n" ∷  -- an index is tested before the next
    case "(var i integer)\n(main (for i (succ 2147483647) (div 1 0) (begin)))\n" 100 "exception -103 1 1\n1 i -\n" ∷  -- the first bound first
    case "(type r (range 1 3))\n(type s (setof r))\n(main (raise (card (members s 9 (div 1 0)))))\n" 100 "exception -103 1 1\n" ∷  -- a member is tested before the next
    case "(var i integer)\n(main (for i 1 3 (begin)))\n" 1 "spent 1\n1 i -\n" ∷  -- the control variable is set after the round's step
    case "(type a (array boolean integer))\n(type b a)\n(var x a)\n(var y b)\n(main (:= (at x false) 1) (:= (at x true) 2) (:= y x))\n" 100 "normal 3\n1 x 1\n2 x 2\n3 y 1\n4 y 2\n" ∷  -- an alias is the same type
    case "(var f integer)\n(type r (record (f integer) (r boolean)))\n(main)\n" 100 "normal 0\n1 f -\n" ∷  -- fields have a space of their own
    case "(var i integer)\n(var j integer)\n(main (for i 1 2 (for j i i (begin))))\n" 100 "normal 9\n1 i -\n2 j -\n" ∷  -- a control variable may be read
    []

pub second-hold : Print second
unfolding second everything
second-hold = refl & refl & refl & refl & refl & refl & refl & refl & refl & refl & refl & refl & refl & refl & refl & refl & refl & refl & refl & refl & refl & refl & refl & refl & refl & refl & refl & refl & refl & refl & refl & refl & refl & refl & refl & refl & refl & refl & refl & refl & refl & refl & refl & refl & refl & refl & refl & refl & all
