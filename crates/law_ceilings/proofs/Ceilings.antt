-- Rows 1, 2 and 9 where they want long texts: each ceiling at its edge and just past it. The line of a refusal says that the lines before it passed.
use mathlib.Core.Path.{◌≡◌, refl}
use mathlib.Core.Bool.{Bool, true, false}
use mathlib.Core.List.{List, [], ◌++◌}
use Prim.Native.Nat.{ℕ, zero, suc}
use lib.ListN.{replicate}
use Rattle.leaf_bytes.specs.Bytes.{bytes}
use Rattle.law.specs.Verdict.{Verdict, Read, accepted, refused}
use Rattle.law.specs.Whole.{verdict_of}
use Rattle.law.specs.Print.{decimal_of}
use Rattle.law.proofs.Open.{everything}

-- n copies of the bytes; n copies with the numbers from i on between two parts
unfoldable pub times : ℕ → List ℕ → List ℕ
times zero xs = []
times (suc n) xs = xs ++ times n xs

unfoldable pub numbered : List ℕ → List ℕ → ℕ → ℕ → List ℕ
numbered xs ys i zero = []
numbered xs ys i (suc n) = xs ++ (decimal_of i ++ (ys ++ numbered xs ys (suc i) n))

abbrev main : List ℕ
main = bytes "(main)\n"

-- the verdict on a text, with a working list that is long enough
abbrev judged : List ℕ → Verdict Read
judged text = verdict_of text 16384

abbrev is_accepted : Verdict Read → Bool
is_accepted (accepted r) = true
is_accepted (refused n l) = false

-- 64 declared types, aliases among them
abbrev types : ℕ → List ℕ
types n = numbered (bytes "(type t") (bytes " integer)\n") 0 n

pub declared-types : (is_accepted (judged (types 64 ++ main)) ≡ true) × (judged (types 65 ++ main) ≡ refused 9 65)
unfolding everything times numbered
declared-types = (refl, refl)

-- 128 variables
pub variables : judged (numbered (bytes "(var v") (bytes " integer)\n") 0 129) ≡ refused 9 129
unfolding everything times numbered
variables = refl

-- 32 procedures; `main` is none
abbrev procs : ℕ → List ℕ
procs n = numbered (bytes "(proc p") (bytes ")\n") 0 n

pub procedures : (is_accepted (judged (procs 32 ++ main)) ≡ true) × (judged (procs 33 ++ main) ≡ refused 9 33)
unfolding everything times numbered
procedures = (refl, refl)

-- 256 enum names; a fault among the surplus comes first
abbrev enum : ℕ → List ℕ → List ℕ
enum n more = bytes "(type e (enum" ++ (numbered (bytes " e") [] 0 n ++ (more ++ bytes "))\n"))

pub enum-names :
    (is_accepted (judged (enum 256 [] ++ main)) ≡ true)
    × (judged (enum 257 [] ++ main) ≡ refused 9 1)
    × (judged (enum 257 (bytes " e0") ++ main) ≡ refused 7 1)
unfolding everything times numbered
enum-names = (refl, refl, refl)

-- 4,096 brackets and words over the text: `(main` and its bracket are 2, `(begin)` is 2
pub nodes :
    (is_accepted (judged (bytes "(main" ++ (times 2047 (bytes "(begin)") ++ bytes ")\n"))) ≡ true)
    × (judged (bytes "(proc p" ++ (times 2046 (bytes "(begin)") ++ (bytes ")\n" ++ main))) ≡ refused 9 2)
    × (judged (bytes "(main" ++ (times 2047 (bytes "(begin)") ++ bytes "(raise true))\n")) ≡ refused 8 1)
unfolding everything times numbered
nodes = (refl, refl, refl)

-- 2,048 cells in a type, and in all variables; 256 values in an index type
abbrev table : List ℕ → List ℕ
table n = bytes "(type i (range 1 256))\n(type a (array i integer))\n(type j (range 1 " ++ (n ++ bytes "))\n(type b (array j a))\n")

pub cells :
    (judged (table (bytes "9") ++ main) ≡ refused 9 4)
    × (judged (table (bytes "8") ++ bytes "(var x b)\n(var y boolean)\n(main)\n") ≡ refused 9 6)
    × (judged (bytes "(type i (range 0 256))\n(type a (array i integer))\n(main)\n") ≡ refused 9 2)
unfolding everything times numbered
cells = (refl, refl, refl)

-- parameters: 128 with the variables, those of all procedures; 2,048 cells with those of the variables. A line of many is judged by rows 6 to 8 first
abbrev ramps : ℕ → List ℕ
ramps n = numbered (bytes "(proc p") (bytes " ((a integer)(b integer)(c integer)(d integer)(e integer)(f integer)(g integer)(h integer)))\n") 0 n

abbrev many : List ℕ → List ℕ
many more = bytes "(proc p (" ++ (numbered (bytes "(a") (bytes " integer)") 0 600 ++ (more ++ bytes "))\n(main)\n"))

pub parameters :
    (is_accepted (judged (ramps 16 ++ main)) ≡ true)
    × (judged (ramps 16 ++ bytes "(proc q ((a integer)))\n(main)\n") ≡ refused 9 17)
    × (judged (ramps 16 ++ bytes "(var x integer)\n(main)\n") ≡ refused 9 17)
    × (judged (bytes "(var x integer)\n" ++ (ramps 16 ++ main)) ≡ refused 9 17)
    × (judged (table (bytes "8") ++ bytes "(var x b)\n(proc p ((z integer)))\n(main)\n") ≡ refused 9 6)
    × (judged (table (bytes "8") ++ bytes "(proc p ((z integer)))\n(var x b)\n(main)\n") ≡ refused 9 6)
    × (judged (many []) ≡ refused 9 1)
    × (judged (many (bytes "(A599 integer)")) ≡ refused 7 1)
unfolding everything times numbered
parameters = (refl, refl, refl, refl, refl, refl, refl, refl)

-- 16,384 working numbers, then 32,768 bytes, before anything else
pub lengths :
    (verdict_of (replicate 32769 0) 16383 ≡ refused 1 0)
    × (verdict_of (replicate 32769 0) 16384 ≡ refused 2 0)
    × (verdict_of (replicate 32768 0) 16384 ≡ refused 3 1)
unfolding everything replicate
lengths = (refl, refl, refl)
