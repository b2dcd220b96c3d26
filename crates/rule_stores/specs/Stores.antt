-- Document 01, "Refusal table": rows 10 and 11 of the lent store, and each cell's variable, by what the checker holds after all lines.
use Rattle.std.specs.Prelude.{Bool, cond, ◌&&◌, List, [], map, ◌≡◌, ℕ, ◌<◌, eqb, ℤ, length, get_or}
use Rattle.std.proofs.Math.Option.{Option, none, some}
use Rattle.leaf_integers.specs.Integers.{inside, is_zero}
use Rattle.leaf_sets.specs.Sets.{lies_in}
use Rattle.leaf_bytes.specs.Bytes.{small}
use Rattle.leaf_words.specs.Numbers.{signed}
use Rattle.law.specs.Environment.{Declared}
use Rattle.law.specs.Machine.{defined, is_defined}
use Rattle.law.specs.Store.{store_fault}
use Rattle.law.specs.Trees.{word_at}
use Rattle.law_theorems.specs.LinesCover.{Covered}
use Rattle.table_scope.specs.Descriptions.{info_of}
use Rattle.table_scope.specs.declared.Info.{Info}
use Rattle.rule_declarations.specs.State.{Holds}
use Rattle.rule_declarations.specs.declared.State.{State}
use Rattle.rule_stores.specs.Cells.{cell_type}

-- a value of the ordinal or set type that x describes
unfoldable pub value_fits : Info → ℤ → Bool
value_fits x v = cond (eqb x.shape 0) (inside (signed x.low) (signed x.high) v) (lies_in (signed x.low) (signed x.high) v)

-- a defined cell with such a value, or an undefined one with value 0
unfoldable pub mark_fits : Info → ℤ → ℕ → Bool
mark_fits x v m = cond (is_defined m) (eqb m defined && value_fits x v) (is_zero v)

-- so of cell c of the store
unfoldable pub cell_passes : List ℕ → List ℕ → ℕ → ℕ → ℕ → ℤ → ℕ → Bool
cell_passes l ts count newest c v m = mark_fits (info_of l ts (cell_type l ts count newest c)) v m

-- a refusal's number, 0 for none
unfoldable pub row_number : Option ℕ → ℕ
row_number none = 0
row_number (some n) = n

-- ---- contracts

-- r is the row that refuses the store, whatever the lists hold
pub record StoreFault (l ts : List ℕ) (st : State) (vs : List ℤ) (ms : List ℕ) (r : ℕ) : Type 0 where
  pub says : (s : List ℕ) (k : Declared) (bs : List ℕ) → Holds s l ts st k bs → Covered k → r ≡ row_number (store_fault k.env.types k.cells vs ms)

-- r is the offset of the name of cell c's variable
pub record Owner (l ts : List ℕ) (st : State) (c r : ℕ) : Type 0 where
  pub says : (s : List ℕ) (k : Declared) (bs : List ℕ) → Holds s l ts st k bs → Covered k → c < length k.cells → map small (word_at s r) ≡ get_or k.owners c []
