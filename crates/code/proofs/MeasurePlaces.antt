-- A measure of code with places for procedures, as it is read back (Readback), is one of the code that was laid.
use mathlib.Core.Path.{◌≡◌, refl}
use mathlib.Core.List.{List, [], ◌∷◌, map}
use Prim.Native.Nat.{ℕ}
use lib.ListN.{get_or}
use Rattle.law.specs.Code.{BodyCode}
use Rattle.code.specs.Readback.{all_at_places, at_places, body_at_places, cases_at_places}
use Rattle.code.proofs.Measure.{Measure, total}

unfoldable pub through_places : List ℕ → Measure → Measure
unfolding at_places
through_places ps M = record {
  code = M.code;
  place = M.place;
  codes = M.codes;
  arguments = M.arguments;
  labels = M.labels;
  act = λ a. M.act (at_places ps a);
  acts = λ bs. M.acts (all_at_places ps bs);
  cases = λ cs. M.cases (cases_at_places ps cs);
  of-literal = M.of-literal;
  of_number = M.of_number;
  of-set = M.of-set;
  of-calculate = M.of-calculate;
  of-short = M.of-short;
  of-calculate1 = M.of-calculate1;
  of-cell = M.of-cell;
  of-index = M.of-index;
  of_shift = M.of_shift;
  load_cell = M.load_cell;
  load-index = M.load-index;
  load-shift = M.load-shift;
  no-codes = M.no-codes;
  one_code = M.one_code;
  no_arguments = M.no_arguments;
  one_argument = M.one_argument;
  no-labels = M.no-labels;
  one_label = M.one_label;
  of-ordinal = M.of-ordinal;
  of-set-cell = M.of-set-cell;
  of-copy = M.of-copy;
  of-sequence = λ n bs. M.of-sequence n (all_at_places ps bs);
  of-branch = λ n c a b. M.of-branch n c (at_places ps a) (at_places ps b);
  of-while = λ n c a. M.of-while n c (at_places ps a);
  of-for = λ n i lo hi x y a. M.of-for n i lo hi x y (at_places ps a);
  of-case = λ n c cs. M.of-case n c (cases_at_places ps cs);
  of-call = λ n p cs. M.of-call n (get_or ps p 0) cs;
  of-raise = M.of-raise;
  of-nothing = M.of-nothing;
  no-acts = M.no-acts;
  one-act = λ a bs. M.one-act (at_places ps a) (all_at_places ps bs);
  of-else = λ a. M.of-else (at_places ps a);
  no-arms = M.no-arms;
  one_arm = λ ls a cs. M.one_arm ls (at_places ps a) (cases_at_places ps cs);
}

pub total-places : (ps : List ℕ) (M : Measure) (bs : List BodyCode) → total (through_places ps M) bs ≡ total M (map (body_at_places ps) bs)
unfolding total through_places body_at_places
total-places ps M [] = refl
total-places ps M (b ∷ bs) = rw (total-places ps M bs)
