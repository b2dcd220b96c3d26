-- Scripts of document 02, Point 2, with what both machines print.
use mathlib.Core.Path.{◌≡◌, refl}
use mathlib.Core.List.{List, [], ◌∷◌}
use Rattle.leaf_bytes.specs.Bytes.{bytes}
use Rattle.law.proofs.FittingSheet.{Case, case}
use Rattle.law.proofs.Open.{everything}
use Rattle.law.specs.Print.{markscript, runscript}

-- each case of a list prints what it says, in both machines
pub data Both : List Case → Type 0 where
  all : Both []
  ◌&◌ : {c : Case} {cs : List Case} → (runscript (bytes c.text) c.budget ≡ bytes c.prints) × (markscript (bytes c.text) c.budget ≡ bytes c.prints) → Both cs → Both (c ∷ cs)

infixr 5 ◌&◌
unfoldable pub counters : List Case
counters =
    case "(var i integer)\n(main (for i 1 2 (begin)))\n" 5 "normal 5\n1 i -\n" ∷  -- the budget's last step
    case "(var i integer)\n(main (for i 1 2 (begin)))\n" 4 "spent 4\n1 i 2\n" ∷
    case "(var i integer)\n(main (:= i 7) (for i 2 1 (begin)))\n" 9 "normal 2\n1 i -\n" ∷  -- no round
    case "(type r (range 1 4))\n(var i r)\n(main (:= i 3) (for i 5 1 (begin)))\n" 9 "normal 2\n1 i -\n" ∷  -- and no range test
    case "(type r (range 1 4))\n(var i r)\n(main (:= i 3) (for i 1 5 (begin)))\n" 9 "exception -103 2 2\n1 i 3\n" ∷  -- the bounds' exception
    case "(var i integer)\n(main (:= i 3) (for i 1 (div 1 0) (begin)))\n" 9 "exception -101 2 2\n1 i 3\n" ∷
    case "(var i integer)\n(main (for i 1 3 (raise i)))\n" 9 "exception 1 2 3\n1 i 1\n" ∷  -- out of a round
    case "(var i integer)\n(var n integer)\n(main (for i 1 2 (raise i)) (exception (:= n i)))\n" 9 "normal 4\n1 i 1\n2 n 1\n" ∷  -- read in the handler
    case "(var i integer)\n(main (for i 1 1 (begin)) (raise i))\n" 9 "exception -104 3 4\n1 i -\n" ∷  -- read afterwards
    case "(var i integer)\n(proc p (:= i 9))\n(main (for i 1 2 (call p)))\n" 9 "normal 7\n1 i -\n" ∷  -- changed behind a call
    case "(var n integer)\n(proc p ((a integer)) (for a 1 2 (begin)) (:= n a) (exception (:= n error_number)))\n(main (call p 5))\n" 9 "normal 8\n1 n -104\n" ∷  -- a parameter
    case "(var n integer)\n(proc p ((a integer)) (for a 4 5 (raise a)) (exception (:= n a)))\n(main (call p 1))\n" 9 "normal 5\n1 n 4\n" ∷
    []

pub counters-print : Both counters
unfolding counters everything
counters-print = (refl, refl) & (refl, refl) & (refl, refl) & (refl, refl) & (refl, refl) & (refl, refl) & (refl, refl) & (refl, refl) & (refl, refl) & (refl, refl) & (refl, refl) & (refl, refl) & all
