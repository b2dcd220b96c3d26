-- The demands' hypotheses can be met: three scripts that are accepted, each with a store that is accepted, and the theorems for them.
use mathlib.Core.Path.{◌≡◌, refl}
use mathlib.Core.List.{List, [], ◌∷◌}
use Prim.Native.Nat.{ℕ, suc}
use lib.IntN.{ℤ, pos}
use lib.ListN.{get_or, length, replicate}
use Rattle.leaf_bytes.specs.Bytes.{bytes}
use Rattle.law.specs.Environment.{nothing_declared}
use Rattle.law.specs.Demands.{Accepted, OfAccepted}
use Rattle.law.specs.Machine.{Store, defined, lent_cells, normal, undefined}
use Rattle.law.specs.Parameters.{OfParameters, whole}
use Rattle.law.proofs.Open.{everything}
use Rattle.law.specs.Verdict.{Read, Verdict, accepted, has, refused}
use Rattle.law.specs.Whole.{Report, ran, run_of, verdict_of}
use Rattle.law_theorems.proofs.DemandsHold.{demands-hold}
use Rattle.law_theorems.proofs.ParametersHold.{parameters-hold}

-- what an accepted text gave, and of any other text nothing
unfoldable pub read_of : Verdict Read → Read
read_of (accepted r) = r
read_of (refused n l) = has nothing_declared []

-- a text with a working list of 16,384 numbers and a store of undefined cells
module _ (text : List ℕ) where
  unfoldable pub read : Read
  read = read_of (verdict_of text 16384)

  unfoldable pub values : List ℤ
  values = replicate (length read.known.cells) (pos 0)

  unfoldable pub marks : List ℕ
  marks = replicate (length read.known.cells) undefined

  abbrev pub run : ℕ → Report
  run budget = run_of text 16384 values marks budget

  -- the hypotheses: both are accepted
  abbrev pub Met : Type 0
  Met = Accepted text 16384 values marks read

  -- the theorems
  abbrev pub Holds : Type 0
  Holds = OfAccepted text 16384 values marks read

  holds : Met → Holds
  holds m = (demands-hold text 16384 values marks).accepted-runs read m

-- ---- the fitting sheet's sample

unfoldable pub sample : List ℕ
sample = bytes "(type slot (range 1 4))\n(var at_slot slot)\n(var sum integer)\n(main (:= at_slot 3) (:= sum (** 2 (+ at_slot 1))))\n"

pub sample-met : Met sample
unfolding sample read values marks read_of everything
sample-met = record { text-fits = refl; store-fits = refl }

pub sample-holds : Holds sample
sample-holds = holds sample sample-met

-- it is neither empty nor idle: 2 steps to its normal end
pub sample-runs : (run sample 10000).ending ≡ ran normal 2
unfolding sample read values marks read_of everything
sample-runs = refl

-- ---- an array, a record, a set, a procedure with a handler, both loops

unfoldable pub mixed : List ℕ
mixed = bytes "(type color (enum red green blue))\n(type hues (setof color))\n(type row (array color integer))\n(type spot (record (x integer) (seen hues)))\n(var c color)\n(var totals row)\n(var s spot)\n(var t spot)\n(proc count (for c red blue (:= (at totals c) (ord c))) (:= (dot s x) (div (at totals blue) 0)) (exception (:= (dot s x) (- error_number 99))))\n(main (:= (dot s seen) (members hues red blue)) (call count) (while (< (dot s x) (- 100)) (:= (dot s x) (+ (dot s x) 50))) (:= t s) (if (in blue (dot t seen)) (case blue (arm red (raise 7)) (else (begin)))))\n"

pub mixed-met : Met mixed
unfolding mixed read values marks read_of everything
mixed-met = record { text-fits = refl; store-fits = refl }

pub mixed-holds : Holds mixed
mixed-holds = holds mixed mixed-met

pub mixed-runs : (run mixed 10000).ending ≡ ran normal 20
unfolding mixed read values marks read_of everything
mixed-runs = refl

-- ---- parameters, an ordinal's and a set's, of a procedure that one with a parameter of its own calls; an argument outside its parameter's type

unfoldable pub ramps : List ℕ
ramps = bytes "(type pace (range 1 4))\n(type paces (setof pace))\n(var sum integer)\n(proc more ((p pace) (known paces)) (if (in p known) (:= sum (+ sum p))))\n(proc twice ((q pace)) (call more q (members paces 1 3)) (:= q 3) (call more q (members paces q)))\n(main (:= sum 0) (call twice 1) (call twice sum) (call twice sum) (exception (:= sum error_number)))\n"

pub ramps-met : Met ramps
unfolding ramps read values marks read_of everything
ramps-met = record { text-fits = refl; store-fits = refl }

pub ramps-holds : Holds ramps
ramps-holds = holds ramps ramps-met

pub ramps-parameters : OfParameters ramps 16384 (values ramps) (marks ramps)
ramps-parameters = parameters-hold ramps 16384 (values ramps) (marks ramps)

pub ramps-runs : (run ramps 10000).ending ≡ ran normal 18
unfolding ramps read values marks read_of everything
ramps-runs = refl

-- a budget of 4 is spent in `more`, where the parameters of both live; nothing is left of them at the end
abbrev store_at : ℕ → Store
store_at budget = (whole ramps 16384 (values ramps) (marks ramps) (read ramps) budget).state.store

abbrev alive : ℕ → List ℕ
alive budget = get_or (store_at budget).marks lent_cells 9 ∷ get_or (store_at budget).marks (suc lent_cells) 9 ∷ get_or (store_at budget).marks (suc (suc lent_cells)) 9 ∷ []

pub ramps-alive : alive 4 ≡ defined ∷ defined ∷ defined ∷ []
unfolding ramps read values marks read_of everything
ramps-alive = refl

pub ramps-gone : alive 10000 ≡ undefined ∷ undefined ∷ undefined ∷ []
unfolding ramps read values marks read_of everything
ramps-gone = refl
