-- Before any line nothing is declared, and a list and notes that are all 0 hold that.
use mathlib.Core.Path.{◌≡◌, refl}
use mathlib.Core.List.{List, []}
use Prim.Native.Nat.{ℕ, zero, suc, ◌≤◌}
use native.Mathlib.Omega.{arith}
use borrow.Author.Tests.{ne_eqb}
use lib.ListN.{length, get_or}
use Rattle.law.specs.Base.{find}
use Rattle.law.specs.Environment.{built_in, nothing_declared}
use Rattle.code.specs.Layout.{bits}
use Rattle.law.specs.Types.{info_at, size_of}
use Rattle.law_theorems.proofs.Inversion.{none-some}
use Rattle.law_theorems.proofs.LinesKeep.{keeps-start}
use Rattle.law_theorems.specs.LinesKeep.{no_names as none-fair}
use Rattle.law_theorems.proofs.TypeTables.{started}
use Rattle.table_names.specs.Chain.{entries}
use Rattle.table_names.specs.Chained.{no_names, no-entry}
use Rattle.table_scope.specs.Descriptions.{shape_number, integer_info, boolean_info, no_info, info_of, fields_at, Tells, EndsBelow}
use Rattle.table_scope.proofs.Within.{chain-told}
use Rattle.rule_declarations.specs.State.{notes, scoped, Holds, start_state}

none-there : (ts l : List ℕ) → ((i : ℕ) → get_or ts i 0 ≡ 0) → (k : ℕ) → info_of l ts (suc (suc k)) ≡ no_info
unfolding info_of
none-there ts l h k = rw (ne_eqb (suc (suc k)) 0 (λ e. omega arith), ne_eqb (suc (suc k)) 1 (λ e. omega arith), h (suc (suc k))) refl

tells-start : (s l ts : List ℕ) → ((i : ℕ) → get_or ts i 0 ≡ 0) → (k : ℕ) → Tells s l (info_of l ts k) (info_at built_in k)
unfolding info_of integer_info boolean_info no_info shape_number bits fields_at
tells-start s l ts h zero = record { shape_is = refl; host-is = refl; low-is = refl; high_is = refl; size_is = λ t. refl; index_is = refl; element-is = refl; fields-are = refl }
tells-start s l ts h (suc zero) = record { shape_is = refl; host-is = refl; low-is = refl; high_is = refl; size_is = λ t. refl; index_is = refl; element-is = refl; fields-are = refl }
tells-start s l ts h (suc (suc k)) = rw (none-there ts l h k) (record { shape_is = refl; host-is = refl; low-is = refl; high_is = refl; size_is = λ t. refl; index_is = refl; element-is = refl; fields-are = refl })

ends-start : (l ts : List ℕ) → ((i : ℕ) → get_or ts i 0 ≡ 0) → (k : ℕ) → EndsBelow 1 (info_of l ts k)
unfolding info_of integer_info boolean_info no_info
ends-start l ts h zero = record { end_below = λ e. absurd (omega arith); within = omega arith }
ends-start l ts h (suc zero) = record { end_below = λ e. absurd (omega arith); within = omega arith }
ends-start l ts h (suc (suc k)) = rw (none-there ts l h k) (record { end_below = λ e. absurd (omega arith); within = omega arith })

fieldless-start : (t : ℕ) → (info_at built_in t).fields ≡ []
fieldless-start zero = refl
fieldless-start (suc zero) = refl
fieldless-start (suc (suc t)) = refl

size-start : (t : ℕ) → size_of built_in t ≤ 2048
size-start zero = omega arith
size-start (suc zero) = omega arith
size-start (suc (suc t)) = omega arith

pub start_is : record { scope = scoped 0 0; top = 1; types = 2; lines = 0; vars = 0; cells = 0; procs = 0; parameters = 0 } ≡ start_state
unfolding start_state
start_is = refl

pub holds-start : (s l ts : List ℕ) → length s ≤ 32768 → 16384 ≤ length l → notes ≤ length ts → ((i : ℕ) → get_or ts i 0 ≡ 0) → Holds s l ts start_state nothing_declared []
unfolding entries find start_state
holds-start s l ts a b c h = record {
  scene = record {
    names = chain-told (scoped 0 0) {top = 1} refl no-entry no_names;
    below = no-entry;
    types = tells-start s l ts h;
    described = ends-start l ts h;
    table = started;
    fair = none-fair;
    fieldless = λ t _. fieldless-start t;
    cells = λ i v g. none-some g;
    above = λ w c g. none-some g;
    once = λ v w c g _. none-some g;
    frames = λ w q us g. none-some g;
  };
  names = no_names;
  plain = refl;
  keeps = keeps-start;
  types_are = refl;
  lines_are = refl;
  vars-are = refl;
  cells_are = refl;
  procs-are = refl;
  parameters-are = refl;
  bodies-are = refl;
  few-types = omega arith;
  few-lines = omega arith;
  few-vars = omega arith;
  few-cells = omega arith;
  few-parameters = omega arith;
  small-types = size-start;
  few-names = omega arith;
  start = omega arith;
  low = omega arith;
  long-list = b;
  long-notes = c;
  short-text = a;
}
