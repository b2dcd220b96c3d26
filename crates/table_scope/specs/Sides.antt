-- A type's kind and what an operator asks of it, by descriptions.
use Rattle.std.specs.Prelude.{cond, List, ℕ, eqb}
use Rattle.table_kinds.specs.declared.Class.{Class}
use Rattle.table_kinds.specs.declared.Class.TheVariants.{Integer, Boolean, Enum, Set, Whole}
use Rattle.table_kinds.specs.declared.Side.{Side}
use Rattle.table_scope.specs.Descriptions.{info_of}

-- the kind of type k
unfoldable pub host_in : List ℕ → List ℕ → ℕ → ℕ
host_in l ts k = cond (eqb (info_of l ts k).shape 0) (info_of l ts k).host k

-- the class of kind k by the number of its shape
unfoldable pub class_in : ℕ → ℕ → Class
class_in shape k = cond (eqb shape 0) (cond (eqb k 0) Integer (cond (eqb k 1) Boolean Enum)) (cond (eqb shape 1) Set Whole)

-- kind k as a side of an operator
unfoldable pub side_in : List ℕ → List ℕ → ℕ → Side
side_in l ts k = record { class = class_in (info_of l ts k).shape k; kind = k; base = host_in l ts (info_of l ts k).element }
