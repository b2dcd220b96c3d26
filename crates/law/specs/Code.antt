-- Elaborated code: what the chair's machine runs. It has no types, only cells, bounds and sizes. The first number of an act is its
-- statement's.
use Rattle.std.specs.Prelude.{Bool, List, [], ℕ, ℤ}
use Rattle.law.specs.Operators.{Operation, Operation1}

-- what a parameter takes: an ordinal within its type's bounds, or a set of its type
pub data Want : Type 0 where
  ranged : ℤ → ℤ → Want
  any_set : Want

-- a procedure's parameters: the first one's cell, after which the others' lie in order, and what each takes
pub record Frame : Type 0 where
  pub base : ℕ
  pub wants : List Want

abbrev pub frame : ℕ → List Want → Frame
frame a ws = record { base = a; wants = ws }

-- of a procedure without parameters, and of main
abbrev pub no_frame : Frame
no_frame = frame 0 []

-- expressions; the places of targets
mutual
  pub data Code : Type 0 where
    literal : ℤ → Code
    load : Place → ℕ → Code  -- so many cells from a place on
    last_number : Code  -- `error_number`
    make_set : ℤ → ℤ → Codes → Code  -- the bounds of the members
    calculate : Operation → Code → Code → Code
    short_cut : Bool → Code → Code → Code  -- and_then (true), or_else (false)
    calculate1 : Operation1 → Code → Code

  pub data Place : Type 0 where
    cell : ℕ → Place
    index : Place → Code → ℤ → ℤ → ℕ → Place  -- the index's bounds, and the element's size
    shift : Place → ℕ → Place  -- a field's offset

  pub data Codes : Type 0 where
    no_codes : Codes
    ◌with◌ : Code → Codes → Codes

infixr 40 ◌with◌
-- statements
mutual
  pub data Act : Type 0 where
    assign_ordinal : ℕ → Place → ℤ → ℤ → Code → Act  -- with the target's bounds
    assign_cell : ℕ → Place → Code → Act  -- a set: one cell
    copy_cells : ℕ → Place → Place → ℕ → Act  -- an array or a record: so many cells to a place, from another
    sequence : ℕ → Acts → Act
    branch_on : ℕ → Code → Act → Act → Act
    while_loop : ℕ → Code → Act → Act
    for_loop : ℕ → ℕ → ℤ → ℤ → Code → Code → Act → Act  -- the control variable's cell and bounds
    case_of : ℕ → Code → Cases → Act
    call_to : ℕ → ℕ → Codes → Act  -- a procedure's number, the arguments
    raise_with : ℕ → Code → Act
    no_act : Act  -- the missing third part of an `if`

  pub data Acts : Type 0 where
    stop : Acts
    ◌also◌ : Act → Acts → Acts

  pub data Cases : Type 0 where
    else_case : Act → Cases
    no_case : Cases  -- no else: Case_Error
    one_case : List ℤ → Act → Cases → Cases

infixr 40 ◌also◌
-- a body, its parameters, and its handler if it has one
pub record BodyCode : Type 0 where
  pub frame : Frame
  pub acts : Acts
  pub handles : Bool
  pub handler : Acts
