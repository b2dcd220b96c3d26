-- The cells of a variable, and an end of a type, as the code makes them.
use Rattle.std.specs.Prelude.{Bool, cond, ◌&&◌, List, [], ◌∷◌, ℕ, ◌+◌, ◌*◌, eqb, ltb}
use Rattle.code.specs.Layout.{lay}
use Rattle.table_scope.specs.declared.Info.{Info}
use Rattle.rule_expr_nodes.specs.Nodes.{Made, node_made}

-- the first cell and the number of cells in one number, which is exact for all that a script can have
unfoldable pub span_of : ℕ → ℕ → ℕ
span_of a n = cond (ltb a 65536 && ltb n 65536) (a + 4096 * n) 0

-- the cells of a whole variable
unfoldable pub cells_made : ℕ → ℕ → ℕ → ℕ → ℕ → List ℕ → Made
cells_made n k a q t l = cond (eqb n 1) (node_made k q (lay (2 ∷ a ∷ []) t l)) (node_made k q (lay (3 ∷ span_of a n ∷ []) t l))

-- a type's first or last value
unfoldable pub end_bits : Bool → Info → ℕ
end_bits last i = cond last i.high i.low
