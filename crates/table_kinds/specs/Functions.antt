-- The table of function by class, and what a one-sided operator or function comes to at its side.
use Rattle.std.specs.Prelude.{Bool, cond, List, [], map, ℕ, eqb, get_or, None}
use Rattle.std.proofs.Math.Option.{Option, none, some}
use Rattle.law.specs.Base.{pick}
use Rattle.code.specs.Layout.{node1}
use Rattle.law.specs.Operators.{Fun, negate, not_of, abs, sqr, odd, ord, pred, succ, card, setmin, setmax, Operation1, Rule1}
use Rattle.table_kinds.specs.Kinds.{row_of, classes, integer_class, boolean_class, ordinal_class, set_class}
use Rattle.table_kinds.specs.declared.Class.{Class}
use Rattle.table_kinds.specs.declared.Side.{Side}
use Rattle.table_kinds.specs.Kinds.{Ruling, fits}
use Rattle.code_ops.specs.Functions.{functions}

-- the number of a node of one part, as it is laid
abbrev pub node_of : Operation1 → ℕ
node_of o = get_or (node1 o 0) 0 0

-- whether a function takes a class: `function_rule` with a class in place of a kind
unfoldable pub takes : Fun → Class → Bool
takes negate c = integer_class c
takes not_of c = boolean_class c
takes abs c = integer_class c
takes sqr c = integer_class c
takes odd c = integer_class c
takes ord c = ordinal_class c
takes pred c = ordinal_class c
takes succ c = ordinal_class c
takes card c = set_class c
takes setmin c = set_class c
takes setmax c = set_class c

-- the node that it comes to
unfoldable pub fun_node : Fun → ℕ
fun_node negate = 29
fun_node not_of = 30
fun_node abs = 31
fun_node sqr = 32
fun_node odd = 33
fun_node ord = 34
fun_node pred = 38
fun_node succ = 39
fun_node card = 35
fun_node setmin = 36
fun_node setmax = 37

-- the place of a function in the order of the table
unfoldable pub fun_number : Fun → ℕ
fun_number negate = 0
fun_number not_of = 1
fun_number abs = 2
fun_number sqr = 3
fun_number odd = 4
fun_number ord = 5
fun_number pred = 6
fun_number succ = 7
fun_number card = 8
fun_number setmin = 9
fun_number setmax = 10

-- by function and class
unfoldable pub table1 : List (List ℕ)
table1 = map (λ (f : Fun). map (λ (c : Class). cond (takes f c) (fun_node f) 0) classes) functions

-- an entry, 0 where there is none
unfoldable pub node_at1 : ℕ → ℕ → ℕ
node_at1 f c = get_or (get_or table1 f []) c 0

-- the kind of the result, by the node's number
unfoldable pub result_of1 : ℕ → ℕ → ℕ → ℕ
result_of1 n k base =
    cond (eqb n 30) 1 (cond (eqb n 33) 1 (cond (eqb n 36) base (cond (eqb n 37) base (cond (eqb n 38) k (cond (eqb n 39) k 0)))))

-- what the function of number f comes to
unfoldable pub ruling1 : ℕ → Side → Ruling
ruling1 f s = let n = node_at1 f (row_of s.class) in pick (eqb n 0) None (fits n (result_of1 n s.kind s.base))

-- a rule of the definition, as the code tells it
unfoldable pub told1 : Option Rule1 → Ruling
told1 none = None
told1 (some x) = fits (node_of x.operation) x.kind
