-- Document 02, Point 1: scripts for each of its sentences, each from its bytes to what is printed. The numbers are those of the rulings.
use mathlib.Core.Path.{refl}
use mathlib.Core.List.{List, [], ◌∷◌}
use Rattle.law.proofs.Open.{everything}
use Rattle.law.proofs.FittingSheet.{Case, case, Print, all, ◌&◌}
use Rattle.law.proofs.Sticking as Sticking
use Rattle.law.proofs.Sticking.{Mark, Marks, mark}

-- Rows 6 to 9
unfoldable pub refusals : List Case
refusals =
    case "(proc p ())\n(main)\n" 100 "refused 6 1\n" ∷  -- 1.1, an empty list
    case "(proc p () (raise 1))\n(main)\n" 100 "refused 6 1\n" ∷
    case "(proc p ((a)))\n(main)\n" 100 "refused 6 1\n" ∷  -- 1.2, no pair
    case "(proc p ((a integer integer)))\n(main)\n" 100 "refused 6 1\n" ∷
    case "(proc p ((a (range 1 2))))\n(main)\n" 100 "refused 6 1\n" ∷  -- no type name
    case "(proc p ((a true)))\n(main)\n" 100 "refused 6 1\n" ∷
    case "(proc p ((a integer) b))\n(main)\n" 100 "refused 6 1\n" ∷  -- a part that is no pair
    case "(proc p (a integer))\n(main)\n" 100 "refused 6 1\n" ∷  -- no list
    case "(proc p (raise 1) ((a integer)))\n(main)\n" 100 "refused 6 1\n" ∷  -- a list after a statement
    case "(proc p ((a integer)) ((b integer)))\n(main)\n" 100 "refused 6 1\n" ∷  -- two lists
    case "(main ((a integer)))\n" 100 "refused 6 1\n" ∷  -- a list in main
    case "(proc p ((else integer)))\n(main)\n" 100 "refused 6 1\n" ∷  -- a reserved word
    case "(proc p)\n(main (call))\n" 100 "refused 6 2\n" ∷  -- 1.8
    case "(proc p ((a integer)))\n(main (call p (begin)))\n" 100 "refused 6 2\n" ∷  -- no expression
    case "(proc p ((a t)))\n(main)\n" 100 "refused 7 1\n" ∷  -- 1.3, an unknown type
    case "(var t integer)\n(proc p ((a t)))\n(main)\n" 100 "refused 7 2\n" ∷  -- of another sort
    case "(proc p ((a integer) (A integer)))\n(main)\n" 100 "refused 7 1\n" ∷  -- one another's name
    case "(proc p ((P integer)))\n(main)\n" 100 "refused 7 1\n" ∷  -- the procedure's
    case "(type t (enum a b))\n(proc p ((b t)))\n(main)\n" 100 "refused 7 2\n" ∷  -- an enum name's
    case "(proc q)\n(proc p ((q integer)))\n(main)\n" 100 "refused 7 2\n" ∷  -- an earlier procedure's
    case "(proc p ((a integer) (b a)))\n(main)\n" 100 "refused 7 1\n" ∷  -- 1.5
    case "(proc p ((a integer)))\n(main (call p a))\n" 100 "refused 7 2\n" ∷  -- 1.19, known in their procedure only
    case "(proc p ((a integer)))\n(proc q (call p a))\n(main)\n" 100 "refused 7 2\n" ∷
    case "(proc p ((a integer)) (raise (ord (first a))))\n(main)\n" 100 "refused 7 1\n" ∷  -- 1.14, no type
    case "(proc p ((a integer)))\n(main (call p true x))\n" 100 "refused 7 2\n" ∷  -- 1.8, a 7 before the 8
    case "(type t (array boolean integer))\n(proc p ((a t)))\n(main)\n" 100 "refused 8 2\n" ∷  -- 1.6, neither ordinal nor set
    case "(proc p)\n(main (call p 1))\n" 100 "refused 8 2\n" ∷  -- 1.8, another count
    case "(proc p ((a integer)))\n(main (call p))\n" 100 "refused 8 2\n" ∷
    case "(proc p ((a integer)))\n(main (call p 1 2))\n" 100 "refused 8 2\n" ∷
    case "(proc p ((a integer)))\n(main (call p true))\n" 100 "refused 8 2\n" ∷  -- 1.9, another host
    case "(type s (setof boolean))\n(type t (setof boolean))\n(proc p ((a s)))\n(main (call p (members t)))\n" 100 "refused 8 4\n" ∷  -- another set type
    case "(proc p ((a integer)))\n(main (call p (- #80000000)))\n" 100 "refused 8 2\n" ∷  -- past the integers
    case "(proc p ((a integer)) (for a 1 2 (:= a 1)))\n(main)\n" 100 "refused 8 1\n" ∷  -- 1.14, a loop variable assigned
    case "(type s (setof boolean))\n(proc p ((a s)) (for a a a (begin)))\n(main)\n" 100 "refused 8 2\n" ∷  -- 1.15
    case "(proc p ((p0 integer) (p1 integer) (p2 integer) (p3 integer) (p4 integer) (p5 integer) (p6 integer) (p7 integer) (p8 integer)))\n(main)\n" 100 "refused 9 1\n" ∷  -- 1.7, a ninth
    case "(proc p ((p0 integer) (p1 integer) (p2 integer) (p3 integer) (p4 integer) (p5 integer) (p6 integer) (p7 integer) (p0 integer)))\n(main)\n" 100 "refused 7 1\n" ∷  -- rows 6 to 8 first
    case "(proc p ((p0 integer) (p1 integer) (p2 integer) (p3 integer) (p4 integer) (p5 integer) (p6 integer) (p7 integer) (p8 integer)) (raise p8) (raise true))\n(main)\n" 100 "refused 8 1\n" ∷  -- the ninth is known
    []

pub refusals-hold : Print refusals
unfolding refusals everything
refusals-hold = refl & refl & refl & refl & refl & refl & refl & refl & refl & refl & refl & refl & refl & refl & refl & refl & refl & refl & refl & refl & refl & refl & refl & refl & refl & refl & refl & refl & refl & refl & refl & refl & refl & refl & refl & refl & refl & all

-- Runs
unfoldable pub runs : List Case
runs =
    case "(var x integer)\n(proc p ((p0 integer) (p1 integer) (p2 integer) (p3 integer) (p4 integer) (p5 integer) (p6 integer) (p7 integer)) (:= x (+ p0 p7)))\n(main (call p 1 1 1 1 1 1 1 1))\n" 100 "normal 2\n1 x 2\n" ∷  -- eight
    case "(var x integer)\n(proc p ((a integer)) (:= x a))\n(var a integer)\n(main (call p 3) (:= a 4) (call p a))\n" 100 "normal 5\n1 x 4\n2 a 4\n" ∷  -- 1.4, a later variable of the name
    case "(type r (record (f integer)))\n(var x r)\n(proc p ((f integer)) (:= (dot x f) f))\n(proc q ((f boolean)))\n(main (call p 7) (call q true))\n" 100 "normal 3\n1 x 7\n" ∷  -- 1.3, fields and other procedures
    case "(type r (range 1 4))\n(proc p ((a r) (b integer)))\n(main (call p 9 (div 1 0)))\n" 100 "exception -103 1 1\n" ∷  -- 1.10, tested before the next
    case "(type r (range 1 4))\n(proc p ((b integer) (a r)))\n(main (call p (div 1 0) 9))\n" 100 "exception -101 1 1\n" ∷  -- left to right
    case "(type r (range 1 4))\n(var x integer)\n(proc p ((a r)) (:= x 1) (exception (:= x 2)))\n(main (call p 5) (exception (:= x error_number)))\n" 100 "normal 2\n1 x -103\n" ∷  -- 1.11, the caller's handler
    case "(var x integer)\n(var y integer)\n(proc p ((a integer)) (:= x 1))\n(main (call p y))\n" 100 "exception -104 2 1\n1 x -\n2 y -\n" ∷  -- an undefined argument
    case "(type r (range 1 4))\n(var x integer)\n(proc p ((a r)) (:= a 5) (exception (:= x a)))\n(main (call p 3))\n" 100 "normal 3\n1 x 3\n" ∷  -- 1.15, 1.16, alive in the handler
    case "(var x integer)\n(proc p ((a integer)) (:= a (+ a 1)) (:= x a))\n(var y integer)\n(main (:= y 5) (call p y) (call p y))\n" 100 "normal 7\n1 x 6\n2 y 5\n" ∷  -- values, not variables
    case "(var x integer)\n(proc p ((a integer)) (:= a (* a 2)) (:= x (+ x a)))\n(proc q ((a integer)) (call p (+ a 1)) (:= x (+ (* x 10) a)))\n(main (:= x 0) (call q 3))\n" 100 "normal 6\n1 x 83\n" ∷  -- 1.18, the caller's parameter survives
    case "(var x integer)\n(proc p ((i integer) (n integer)) (for i 1 n (:= x (+ (* x 10) i))))\n(main (:= x 0) (call p 9 3))\n" 100 "normal 9\n1 x 123\n" ∷  -- 1.14, a control variable
    case "(type b (range 0 7))\n(type s (setof b))\n(type t s)\n(var x integer)\n(proc p ((a s) (e b)) (:= a (+ a (members s e))) (:= x (card a)))\n(main (call p (members t 1 2) 5))\n" 100 "normal 3\n1 x 3\n" ∷  -- a set, by an alias too
    case "(var x integer)\n(proc p ((a integer)) (:= x a))\n(main (call p 3))\n" 0 "spent 0\n1 x -\n" ∷  -- the call's step comes first
    case "(var x integer)\n(proc p ((a integer)) (:= x a))\n(main (call p (div 1 0)))\n" 0 "spent 0\n1 x -\n" ∷
    case "(var x integer)\n(proc p ((a integer)) (:= x a))\n(main (call p 3))\n" 1 "spent 1\n1 x -\n" ∷  -- 1.20
    []

pub runs-hold : Print runs
unfolding runs everything
runs-hold = refl & refl & refl & refl & refl & refl & refl & refl & refl & refl & refl & refl & refl & refl & refl & all

-- The marking machine: where it answers a refusal, and where it goes on
unfoldable pub marked : List Mark
marked =
    mark "(proc p ((a integer)))\n(main (call p (- #80000000)))\n" "refused 8 2\n" ∷  -- an argument past the integers
    mark "(proc p ((a integer)))\n(main (raise true) (call p 1 2))\n" "refused 8 2\n" ∷  -- 1.12, another count
    mark "(proc p ((a integer) (b integer)) (for a 1 2 (:= a true)))\n(main)\n" "refused 8 1\n" ∷  -- 1.14, a loop variable assigned
    mark "(var x integer)\n(proc p ((a integer)) (:= x a) (:= a true) (exception (:= x 2)))\n(main (call p 5))\n" "stuck 3\n1 x 5\n" ∷  -- a parameter keeps its type
    mark "(var x integer)\n(proc p ((a integer)) (raise true))\n(main (:= x 1) (if false (call p true)))\n" "normal 2\n1 x 1\n" ∷  -- not carried out
    mark "(var x boolean)\n(proc p ((a integer)))\n(main (call p x))\n" "exception -104 1 1\n1 x -\n" ∷  -- read before its kind is met
    []

pub marked-hold : Marks marked
unfolding marked everything
marked-hold = Sticking.◌&◌ refl (Sticking.◌&◌ refl (Sticking.◌&◌ refl (Sticking.◌&◌ refl (Sticking.◌&◌ refl (Sticking.◌&◌ refl Sticking.all)))))
