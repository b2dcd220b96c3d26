-- The table of operator by left class by right class, and what an operator comes to at its sides (law, Operators and Layout).
use Rattle.std.specs.Prelude.{◌≡◌, Bool, true, false, cond, ◌&&◌, List, [], ◌∷◌, ◌++◌, map, ℕ, zero, suc, ◌+◌, eqb, ltb, get_or, Some, None}
use Rattle.std.proofs.Math.Option.{Option, none, some}
use Rattle.law.specs.Base.{given, either, pick}
use Rattle.code.specs.Layout.{both, operation_number}
use Rattle.law.specs.Operators.{Op, plus, minus, times, power, divide, modulo, equal, unequal, less, at_most, greater, at_least, member, and_both, or_both, Operation, both_booleans, operator_rule, int_add, int_sub, int_mul, int_power, int_div, int_mod, set_union, set_difference, set_intersection, num_equal, num_unequal, num_less, num_at_most, num_greater, num_at_least, set_within, set_holds, member_of, bool_and, bool_or, Rule}
use Rattle.law.specs.Types.{Types, Shape, ordinal_shape, set_shape, array_shape, record_shape, info_at, ordinal?, set?, base_of}
use Rattle.table_kinds.specs.declared.Class.{Class}
use Rattle.table_kinds.specs.declared.Class.TheVariants.{Integer, Boolean, Enum, Set, Whole}
use Rattle.table_kinds.specs.declared.Side.{Side}
use Rattle.std.specs.Prelude as P
use Rattle.table_kinds.specs.declared.Ruled.{Ruled}
use Rattle.code_ops.specs.Operators.{operators}

-- ---- a kind's class

-- of an ordinal: kind 0 is integer and kind 1 boolean
abbrev pub ordinal_by : ℕ → Class
ordinal_by zero = Integer
ordinal_by (suc zero) = Boolean
ordinal_by (suc (suc k)) = Enum

-- the class of kind k by its shape
abbrev pub class_by : Shape → ℕ → Class
class_by ordinal_shape k = ordinal_by k
class_by set_shape k = Set
class_by array_shape k = Whole
class_by record_shape k = Whole

-- the class of kind k in a table of types
abbrev pub class_at : Types → ℕ → Class
class_at Γ k = class_by (info_at Γ k).shape k

-- what is known of kind k as a side of an operator
abbrev pub side_of : Types → ℕ → Side
side_of Γ k = record { class = class_at Γ k; kind = k; base = base_of Γ k }

-- what is asked of a table of types: the built-in kinds are ordinals, and so are the kinds of sets' members
pub record Kinded (Γ : Types) : Type 0 where
  pub integers : ordinal? Γ 0 ≡ true
  pub booleans : ordinal? Γ 1 ≡ true
  pub bases : (k : ℕ) → set? Γ k ≡ true → ordinal? Γ (base_of Γ k) ≡ true

-- the place of a class in the tables
unfoldable pub row_of : Class → ℕ
row_of Integer = 0
row_of Boolean = 1
row_of Enum = 2
row_of Set = 3
row_of Whole = 4

-- the classes in that order
abbrev pub classes : List Class
classes = Integer ∷ Boolean ∷ Enum ∷ Set ∷ Whole ∷ []

-- the class of integer
abbrev pub integer_class : Class → Bool
integer_class c = eqb (row_of c) 0

-- of boolean
abbrev pub boolean_class : Class → Bool
boolean_class c = eqb (row_of c) 1

-- of any ordinal
abbrev pub ordinal_class : Class → Bool
ordinal_class c = ltb (row_of c) 3

-- of sets
abbrev pub set_class : Class → Bool
set_class c = eqb (row_of c) 3

-- ---- the table: `operator_rule` with classes in place of kinds

-- two integers
abbrev pub integers : Class → Class → Bool
integers a b = integer_class a && integer_class b

-- two booleans
abbrev pub booleans : Class → Class → Bool
booleans a b = boolean_class a && boolean_class b

-- two ordinals of one class
abbrev pub ordinals : Class → Class → Bool
ordinals a b = eqb (row_of a) (row_of b) && ordinal_class a

-- two sets
abbrev pub sets : Class → Class → Bool
sets a b = set_class a && set_class b

-- what an operator comes to at two classes, whose kinds must also agree (`partner_of`)
unfoldable pub operation_of : Op → Class → Class → Option Operation
operation_of plus a b = either (given (integers a b) int_add) (given (sets a b) set_union)
operation_of minus a b = either (given (integers a b) int_sub) (given (sets a b) set_difference)
operation_of times a b = either (given (integers a b) int_mul) (given (sets a b) set_intersection)
operation_of power a b = given (integers a b) int_power
operation_of divide a b = given (integers a b) int_div
operation_of modulo a b = given (integers a b) int_mod
operation_of equal a b = either (given (ordinals a b) num_equal) (given (sets a b) num_equal)
operation_of unequal a b = either (given (ordinals a b) num_unequal) (given (sets a b) num_unequal)
operation_of less a b = given (ordinals a b) num_less
operation_of at_most a b = either (given (ordinals a b) num_at_most) (given (sets a b) set_within)
operation_of greater a b = given (ordinals a b) num_greater
operation_of at_least a b = either (given (ordinals a b) num_at_least) (given (sets a b) set_holds)
operation_of member a b = given (ordinal_class a && set_class b) member_of
operation_of and_both a b = given (booleans a b) bool_and
operation_of or_both a b = given (booleans a b) bool_or

-- the number of its node; 0 of none
unfoldable pub coded : Option Operation → ℕ
coded none = 0
coded (some o) = 9 + operation_number o

-- the place of an operator in that order
unfoldable pub op_number : Op → ℕ
op_number plus = 0
op_number minus = 1
op_number times = 2
op_number power = 3
op_number divide = 4
op_number modulo = 5
op_number equal = 6
op_number unequal = 7
op_number less = 8
op_number at_most = 9
op_number greater = 10
op_number at_least = 11
op_number member = 12
op_number and_both = 13
op_number or_both = 14

-- the rows of the table: those operators, and `and_then` (true) and `or_else` (false), which may leave their right side alone
pub data TwoSided : Type 0 where
  strict : Op → TwoSided
  lazy : Bool → TwoSided

abbrev pub rows : List TwoSided
rows = map strict operators ++ (lazy true ∷ lazy false ∷ [])

abbrev pub row_number : TwoSided → ℕ
row_number (strict o) = op_number o
row_number (lazy true) = 15
row_number (lazy false) = 16

-- the number of the node at two classes, as it is laid; 0 of a misfit
unfoldable pub entry_of : TwoSided → Class → Class → ℕ
entry_of (strict o) a b = coded (operation_of o a b)
entry_of (lazy q) a b = cond (booleans a b) (both q) 0

-- by operator, left class and right class
unfoldable pub table : List (List (List ℕ))
table = map (λ (o : TwoSided). map (λ (a : Class). map (λ (b : Class). entry_of o a b) classes) classes) rows

-- an entry, 0 where there is none
unfoldable pub node_at : ℕ → ℕ → ℕ → ℕ
node_at o a b = get_or (get_or (get_or table o []) a []) b 0

-- ---- what an operator comes to

-- the kind that the left side must have: the right side's, of `in` its members'
unfoldable pub partner_of : ℕ → ℕ → ℕ → ℕ
partner_of o k base = cond (eqb o 12) base k

-- the kind of the result, by the node's number
unfoldable pub result_of : ℕ → ℕ → ℕ
result_of n k = cond (ltb n 9) 1 (cond (ltb n 15) 0 (cond (ltb n 18) k 1))

-- what an operator comes to, if it fits: its node's number and the kind of its result
abbrev pub Ruling : Type 0
Ruling = P.Option Ruled

abbrev pub fits : ℕ → ℕ → Ruling
fits n k = Some (record { node = n; kind = k })

-- what an entry of the table says where the left side's kind is k
unfoldable pub numbered : ℕ → ℕ → Ruling
numbered n k = pick (eqb n 0) None (fits n (result_of n k))

-- what the operator of number o comes to
unfoldable pub ruling2 : ℕ → Side → Side → Ruling
ruling2 o l r = pick (eqb l.kind (partner_of o r.kind r.base)) (numbered (node_at o (row_of l.class) (row_of r.class)) l.kind) None

-- a rule of the definition, as the code tells it
unfoldable pub told : Option Rule → Ruling
told none = None
told (some x) = fits (9 + operation_number x.operation) x.kind

-- what the definitions say of two kinds, for each row: `operator_rule`, and the test of `elab_expr` at `short_circuit`
abbrev pub told_of : Types → TwoSided → ℕ → ℕ → Ruling
told_of Γ (strict o) l r = told (operator_rule Γ o l r)
told_of Γ (lazy q) l r = pick (both_booleans l r) (fits (both q) 1) None
