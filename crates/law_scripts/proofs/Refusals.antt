-- Short scripts that are refused, at least one for each rule of the refusal table's rows 3 to 9, each from its bytes to what is printed.
use mathlib.Core.Path.{◌≡◌, refl}
use mathlib.Core.List.{List, [], ◌∷◌}
use Rattle.law.proofs.Open.{everything}
use Rattle.law.proofs.FittingSheet.{Case, case, Print, all, ◌&◌}
use Rattle.leaf_bytes.specs.Bytes.{bytes}
use Rattle.law.specs.Print.{runscript}

-- Row 3: a refused byte, looked for in the whole text before any line is judged
pub refused-byte : (runscript (40 ∷ 9 ∷ 10 ∷ []) 1 ≡ bytes "refused 3 1\n") × (runscript (41 ∷ 10 ∷ 40 ∷ 10 ∷ 127 ∷ []) 1 ≡ bytes "refused 3 3\n")
unfolding everything
refused-byte = (refl, refl)

-- Row 4: one balanced form to a line
unfoldable pub brackets : List Case
brackets =
    case "\n" 100 "refused 4 1\n" ∷  -- empty line
    case "(main)" 100 "refused 4 1\n" ∷  -- no line feed
    case "(main))\n" 100 "refused 4 1\n" ∷  -- bracket
    case "((main)\n" 100 "refused 4 1\n" ∷
    case "(main) x\n" 100 "refused 4 1\n" ∷  -- beside the form
    case "(main)(main)\n" 100 "refused 4 1\n" ∷  -- two forms
    case "(main (begin (begin (begin (begin (begin (begin (begin (begin (begin (begin (begin (begin (begin (begin (begin (begin (begin (begin (begin (begin (begin (begin (begin (begin (begin (begin (begin (begin (begin (begin (begin (begin )))))))))))))))))))))))))))))))))\n" 100 "refused 4 1\n" ∷  -- depth 33
    case "(main)\n\n" 100 "refused 4 2\n" ∷  -- empty line
    case "(main)\n(x" 100 "refused 4 2\n" ∷  -- no line feed at the end
    case "(main) x_\n" 100 "refused 4 1\n" ∷  -- a bad word beside the form
    []

pub brackets-hold : Print brackets
unfolding brackets everything
brackets-hold = refl & refl & refl & refl & refl & refl & refl & refl & refl & refl & all

-- Row 5: a word of no kind
unfoldable pub words : List Case
words =
    case "(main (raise a_))\n" 100 "refused 5 1\n" ∷  -- word a_
    case "(main (raise a__b))\n" 100 "refused 5 1\n" ∷  -- word a__b
    case "(main (raise _a))\n" 100 "refused 5 1\n" ∷  -- word _a
    case "(main (raise 1a))\n" 100 "refused 5 1\n" ∷  -- word 1a
    case "(main (raise #))\n" 100 "refused 5 1\n" ∷  -- word #
    case "(main (raise #123456789))\n" 100 "refused 5 1\n" ∷  -- word #123456789
    case "(main (raise #G))\n" 100 "refused 5 1\n" ∷  -- word #G
    case "(main (raise -5))\n" 100 "refused 5 1\n" ∷  -- word -5
    case "(main (raise =<))\n" 100 "refused 5 1\n" ∷  -- word =<
    case "(main (raise 2147483648))\n" 100 "refused 5 1\n" ∷  -- word 2147483648
    case "(main (raise aaaaaaaaaaaaaaaaaaaaaaaaaaaaaaaa))\n" 100 "refused 5 1\n" ∷  -- word aaaaaaaaaaaaaaaaaaaaaaaaaaaaaaaa
    []

pub words-hold : Print words
unfolding words everything
words-hold = refl & refl & refl & refl & refl & refl & refl & refl & refl & refl & refl & all

-- Row 6: shapes, a line after `main`, `main` missing
unfoldable pub forms : List Case
forms =
    case "" 100 "refused 6 1\n" ∷  -- main missing
    case "(foo)\n(main)\n" 100 "refused 6 1\n" ∷  -- unknown head
    case "()\n" 100 "refused 6 1\n" ∷  -- no head
    case "(main)\n(main)\n" 100 "refused 6 2\n" ∷  -- line after main
    case "(var x integer)\n" 100 "refused 6 2\n" ∷  -- main missing
    case "(main (begin (exception)))\n" 100 "refused 6 1\n" ∷  -- exception in begin
    case "(main (exception) (begin))\n" 100 "refused 6 1\n" ∷  -- exception not last
    case "(main (exception) (exception))\n" 100 "refused 6 1\n" ∷  -- twice
    case "(main (if true))\n" 100 "refused 6 1\n" ∷  -- if
    case "(main (if true (begin) (begin) (begin)))\n" 100 "refused 6 1\n" ∷  -- if
    case "(main (case 1 (else (begin))))\n" 100 "refused 6 1\n" ∷  -- no arm
    case "(main (case 1 (arm (begin))))\n" 100 "refused 6 1\n" ∷  -- no label
    case "(main (case 1 (arm 1 2)))\n" 100 "refused 6 1\n" ∷  -- no statement
    case "(main (case 1 (arm 1 (begin)) (else (begin)) (arm 2 (begin))))\n" 100 "refused 6 1\n" ∷  -- else not last
    case "(main (case 1 (arm 1 (begin)) (else (begin)) (else (begin))))\n" 100 "refused 6 1\n" ∷  -- else twice
    case "(main (call begin))\n" 100 "refused 6 1\n" ∷  -- reserved
    case "(type t (enum))\n(main)\n" 100 "refused 6 1\n" ∷  -- enum
    case "(type t (record))\n(main)\n" 100 "refused 6 1\n" ∷  -- record
    case "(type t (range 1))\n(main)\n" 100 "refused 6 1\n" ∷  -- range
    case "(type t (range 1 (first integer)))\n(main)\n" 100 "refused 6 1\n" ∷  -- bound no constant
    case "(var x (range 1 2))\n(main)\n" 100 "refused 6 1\n" ∷  -- type form in var
    case "(main (raise (+ 1)))\n" 100 "refused 6 1\n" ∷  -- operands
    case "(main (raise (+ 1 2 3)))\n" 100 "refused 6 1\n" ∷  -- operands
    case "(main (raise (-)))\n" 100 "refused 6 1\n" ∷  -- operands
    case "(main (raise (first 1)))\n" 100 "refused 6 1\n" ∷  -- first of a number
    case "(main (:= 1 2))\n" 100 "refused 6 1\n" ∷  -- no target
    case "(main (:= error_number 2))\n" 100 "refused 6 1\n" ∷  -- no target
    case "(main (raise (1 2)))\n" 100 "refused 6 1\n" ∷  -- head no word
    case "(main (raise :=))\n" 100 "refused 6 1\n" ∷  -- operator alone
    case "(main (for (at a 1) 1 2 (begin)))\n" 100 "refused 6 1\n" ∷  -- for over a component
    case "(main x)\n" 100 "refused 6 1\n" ∷  -- word for a statement
    case "(type Begin integer)\n(main)\n" 100 "refused 6 1\n" ∷  -- reserved name
    case "(main (raise true false))\n" 100 "refused 6 1\n" ∷  -- surplus
    case "(main (members))\n" 100 "refused 6 1\n" ∷  -- no statement
    case "(main (raise (card (members))))\n" 100 "refused 6 1\n" ∷  -- members without type
    case "(var true integer)\n(main)\n" 100 "refused 6 1\n" ∷  -- a reserved word as a name
    []

pub forms-hold : Print forms
unfolding forms everything
forms-hold = refl & refl & refl & refl & refl & refl & refl & refl & refl & refl & refl & refl & refl & refl & refl & refl & refl & refl & refl & refl & refl & refl & refl & refl & refl & refl & refl & refl & refl & refl & refl & refl & refl & refl & refl & refl & all

-- Row 7: unknown, of the wrong sort, declared twice
unfoldable pub names : List Case
names =
    case "(main (raise x))\n" 100 "refused 7 1\n" ∷  -- unknown
    case "(main (call p))\n" 100 "refused 7 1\n" ∷  -- unknown
    case "(proc p (call p))\n(main)\n" 100 "refused 7 1\n" ∷  -- own name
    case "(type a (enum a b))\n(main)\n" 100 "refused 7 1\n" ∷  -- own name twice
    case "(type a (enum b b))\n(main)\n" 100 "refused 7 1\n" ∷  -- twice
    case "(type r (record (f integer) (F boolean)))\n(main)\n" 100 "refused 7 1\n" ∷  -- field twice
    case "(var x integer)\n(var X boolean)\n(main)\n" 100 "refused 7 2\n" ∷  -- twice
    case "(proc x)\n(proc x)\n(main)\n" 100 "refused 7 2\n" ∷  -- twice
    case "(type e (enum x))\n(var x integer)\n(main)\n" 100 "refused 7 2\n" ∷  -- twice
    case "(var x integer)\n(main (call x))\n" 100 "refused 7 2\n" ∷  -- sort
    case "(var x integer)\n(main (raise (first x)))\n" 100 "refused 7 2\n" ∷  -- sort
    case "(var x integer)\n(var y x)\n(main)\n" 100 "refused 7 2\n" ∷  -- sort
    case "(proc p)\n(main (:= p 1))\n" 100 "refused 7 2\n" ∷  -- sort
    case "(type e (enum a))\n(main (:= a a))\n" 100 "refused 7 2\n" ∷  -- sort
    case "(type e (enum a))\n(main (for a a a (begin)))\n" 100 "refused 7 2\n" ∷  -- sort
    case "(var x integer)\n(main (case 1 (arm x (begin))))\n" 100 "refused 7 2\n" ∷  -- sort of a label
    case "(type t t)\n(main)\n" 100 "refused 7 1\n" ∷  -- own name
    case "(type r (record (f integer)))\n(var x r)\n(main (raise (dot x g)))\n" 100 "refused 7 3\n" ∷  -- no such field
    case "(type r (record (f integer)))\n(type a (array boolean r))\n(var x a)\n(main (raise (dot (at x 1) g)))\n" 100 "refused 7 4\n" ∷  -- behind a misfit index
    case "(main (raise (+ true x)))\n" 100 "refused 7 1\n" ∷  -- 7 before 8
    case "(var x integer)\n(main (:= x (+ 1 true)) (call nope))\n" 100 "refused 7 2\n" ∷  -- 7 before 8
    case "(type e (enum a b))\n(main (:= a 1))\n" 100 "refused 7 2\n" ∷  -- an enum name is no target
    []

pub names-hold : Print names
unfolding names everything
names-hold = refl & refl & refl & refl & refl & refl & refl & refl & refl & refl & refl & refl & refl & refl & refl & refl & refl & refl & refl & refl & refl & refl & all

-- Row 8: kinds, constants, reversed ranges, labels, loop variables
unfoldable pub types : List Case
types =
    case "(type t (range 1 true))\n(main)\n" 100 "refused 8 1\n" ∷  -- hosts
    case "(type t (range 2 1))\n(main)\n" 100 "refused 8 1\n" ∷  -- reversed
    case "(type t (range 0 (- #80000000)))\n(main)\n" 100 "refused 8 1\n" ∷  -- past the integers
    case "(type e (enum a b))\n(type t (range b a))\n(main)\n" 100 "refused 8 2\n" ∷  -- reversed
    case "(type r (record (f integer)))\n(type a (array r integer))\n(main)\n" 100 "refused 8 2\n" ∷  -- index
    case "(type r (record (f integer)))\n(type a (setof r))\n(main)\n" 100 "refused 8 2\n" ∷  -- base
    case "(main (raise (- #80000000)))\n" 100 "refused 8 1\n" ∷  -- past the integers
    case "(main (case 1 (arm 1 (begin)) (arm #1 (begin))))\n" 100 "refused 8 1\n" ∷  -- label
    case "(main (case true (arm 1 (begin))))\n" 100 "refused 8 1\n" ∷  -- label kind
    case "(var i integer)\n(main (for i 1 2 (begin (:= i 3))))\n" 100 "refused 8 2\n" ∷  -- loop variable
    case "(var i integer)\n(main (for i 1 2 (for i 1 2 (begin))))\n" 100 "refused 8 2\n" ∷  -- inner for
    case "(var i integer)\n(main (raise (dot i f)))\n" 100 "refused 8 2\n" ∷  -- dot on no record
    case "(var i integer)\n(main (raise (at i 1)))\n" 100 "refused 8 2\n" ∷  -- no array
    case "(type a (array boolean integer))\n(var x a)\n(main (raise (at x 1)))\n" 100 "refused 8 3\n" ∷  -- index kind
    case "(type a (array boolean integer))\n(var x a)\n(main (for x 1 2 (begin)))\n" 100 "refused 8 3\n" ∷  -- for over no ordinal
    case "(type a (array boolean integer))\n(var x a)\n(main (if (= x x) (begin)))\n" 100 "refused 8 3\n" ∷  -- comparison of arrays
    case "(type s (setof boolean))\n(var x s)\n(main (if (< x x) (begin)))\n" 100 "refused 8 3\n" ∷  -- < on sets
    case "(type s (setof boolean))\n(type t (setof boolean))\n(var x s)\n(var y t)\n(main (:= x y))\n" 100 "refused 8 5\n" ∷  -- sets of two lines
    case "(main (raise (odd true)))\n" 100 "refused 8 1\n" ∷  -- odd
    case "(main (raise (card 1)))\n" 100 "refused 8 1\n" ∷  -- card
    case "(main (if (in 1 2) (begin)))\n" 100 "refused 8 1\n" ∷  -- in
    case "(main (while 1 (begin)))\n" 100 "refused 8 1\n" ∷  -- condition
    case "(type e (enum a))\n(main (raise a))\n" 100 "refused 8 2\n" ∷  -- raise
    case "(main (raise (abs (members integer))))\n" 100 "refused 8 1\n" ∷  -- no set type
    case "(type a (array boolean integer))\n(main (raise (first a)))\n" 100 "refused 8 2\n" ∷  -- first of no ordinal
    case "(type a (array boolean integer))\n(var x a)\n(main (:= (at x (at x true)) x))\n" 100 "refused 8 3\n" ∷
    case "(var i integer)\n(main (for i 1 2 (if true (begin (:= i 3)))))\n" 100 "refused 8 2\n" ∷  -- assigned deep inside the loop
    case "(type a (array boolean integer))\n(var x a)\n(var y a)\n(main (if (= x y) (begin)))\n" 100 "refused 8 4\n" ∷  -- no comparison of arrays
    case "(type a (array boolean integer))\n(type b (array boolean integer))\n(var x a)\n(var y b)\n(main (:= x y))\n" 100 "refused 8 5\n" ∷  -- arrays of two lines
    case "(var b boolean)\n(main (:= b (odd true)))\n" 100 "refused 8 2\n" ∷  -- odd of a boolean
    case "(var b boolean)\n(main (:= b (- true)))\n" 100 "refused 8 2\n" ∷  -- - of a boolean
    case "(type s (setof boolean))\n(main (raise (ord (members s))))\n" 100 "refused 8 2\n" ∷  -- ord of a set
    case "(main (raise (card 3)))\n" 100 "refused 8 1\n" ∷  -- card of an integer
    case "(type e (enum a))\n(main (if (= a 0) (begin)))\n" 100 "refused 8 2\n" ∷  -- an enum name and a number
    case "(type e (enum a))\n(type f (enum b))\n(main (if (= a b) (begin)))\n" 100 "refused 8 3\n" ∷  -- two enumerations
    case "(var i integer)\n(main (exception (for i 1 2 (:= i 1))))\n" 100 "refused 8 2\n" ∷  -- loop variable assigned in a handler
    case "(main (case 1 (arm (- #80000000) (begin))))\n" 100 "refused 8 1\n" ∷  -- a label past the integers
    []

pub types-hold : Print types
unfolding types everything
types-hold = refl & refl & refl & refl & refl & refl & refl & refl & refl & refl & refl & refl & refl & refl & refl & refl & refl & refl & refl & refl & refl & refl & refl & refl & refl & refl & refl & refl & refl & refl & refl & refl & refl & refl & refl & refl & refl & all

-- Row 9, where short scripts do; `law_ceilings` has the others
unfoldable pub limits : List Case
limits =
    case "(type b (range 0 32))\n(type s (setof b))\n(main)\n" 100 "refused 9 2\n" ∷  -- set ordinal 32
    case "(type b (range (- 1) 3))\n(type s (setof b))\n(main)\n" 100 "refused 9 2\n" ∷  -- set ordinal -1
    case "(type s (setof integer))\n(main)\n" 100 "refused 9 1\n" ∷
    case "(type a (array integer boolean))\n(main)\n" 100 "refused 9 1\n" ∷
    case "(type i (range 0 256))\n(type a (array i integer))\n(main)\n" 100 "refused 9 2\n" ∷  -- 257 values
    case "(type r (record (f0 integer) (f1 integer) (f2 integer) (f3 integer) (f4 integer) (f5 integer) (f6 integer) (f7 integer) (f8 integer) (f9 integer) (f10 integer) (f11 integer) (f12 integer) (f13 integer) (f14 integer) (f15 integer) (f16 integer)))\n(main)\n" 100 "refused 9 1\n" ∷  -- 17 fields
    case "(type i (range 1 256))\n(type a (array i integer))\n(type j (range 1 9))\n(type b (array j a))\n(main)\n" 100 "refused 9 4\n" ∷  -- 2304 cells in a type
    case "(type i (range 1 256))\n(type a (array i integer))\n(type j (range 1 8))\n(type b (array j a))\n(var x b)\n(var y boolean)\n(main)\n" 100 "refused 9 6\n" ∷  -- 2049 cells
    case "(type r (range 1 256))\n(type a (array r integer))\n(type p (record (b a) (c a) (d a) (e a) (f a) (g a) (h a) (i a) (j boolean)))\n(main)\n" 100 "refused 9 3\n" ∷  -- 2,049 cells in a record
    []

pub limits-hold : Print limits
unfolding limits everything
limits-hold = refl & refl & refl & refl & refl & refl & refl & refl & refl & all

-- Order: the lowest number on the first faulty line
unfoldable pub order : List Case
order =
    case "(main)\n(call" 100 "refused 4 2\n" ∷  -- 4 before 6 on a line after main
    case "(foo)\n(main\n" 100 "refused 6 1\n" ∷  -- the first faulty line
    case "(main)\n(a_)\n" 100 "refused 5 2\n" ∷  -- 5 on a line after main
    case "(main (:= x (+ 1 true)) (call))\n" 100 "refused 6 1\n" ∷  -- 6 before 7 and 8
    []

pub order-hold : Print order
unfolding order everything
order-hold = refl & refl & refl & refl & all
