-- How many numbers the layout of code takes (Layout), which code its numbers can hold, and how many numbers symbol entries take.
use Rattle.std.specs.Prelude.{Bool, true, List, [], ◌∷◌, ◌≡◌, ℕ, suc, ◌+◌, ◌*◌, ◌<◌, ℤ, length, drop}
use Rattle.std.specs.Int.Signed.{le_z}
use Rattle.leaf_integers.specs.Integers.{least, most, inside}
use Rattle.law.specs.Operators.{Operation, Operation1, int_negate, bool_not, int_abs, int_sqr, int_odd, ordinal_of, pred_in, succ_in, set_card, set_least, set_greatest}
use Rattle.law.specs.Types.{Types, facts}
use Rattle.law.specs.Script.{Decl, Entry, alias, array_of, enum, new_main, new_proc, new_type, new_var, range, record_of, set_of}
use Rattle.law.specs.Environment.{Environment}
use Rattle.law.specs.Code.{Code, literal, load, last_number, make_set, calculate, short_cut, calculate1, Place, cell, index, shift, Codes, no_codes, ◌with◌, Act, assign_ordinal, assign_cell, copy_cells, sequence, branch_on, while_loop, for_loop, case_of, call_to, raise_with, no_act, Acts, stop, ◌also◌, Cases, else_case, no_case, one_case, Want, ranged, any_set, Frame, BodyCode}

-- ---- sizes

-- of a node of one part
unfoldable pub size_node1 : Operation1 → ℕ
size_node1 int_negate = 2
size_node1 bool_not = 2
size_node1 int_abs = 2
size_node1 int_sqr = 2
size_node1 int_odd = 2
size_node1 ordinal_of = 2
size_node1 set_card = 2
size_node1 set_least = 2
size_node1 set_greatest = 2
size_node1 (pred_in lo hi) = 4
size_node1 (succ_in lo hi) = 4

-- of the cells at a place of a given size
unfoldable pub size_load : Place → ℕ → ℕ
size_load (cell a) n = 2
size_load (index p c lo hi k) n = n + 3
size_load (shift p k) n = n + 3

unfoldable mutual
  pub size_code : Code → ℕ
  size_code (literal z) = 2
  size_code (load p n) = size_load p (size_place p)
  size_code last_number = 1
  size_code (make_set lo hi cs) = 1 + size_codes cs + 4
  size_code (calculate o a b) = size_code a + size_code b + 3
  size_code (short_cut q a b) = size_code a + size_code b + 3
  size_code (calculate1 o a) = size_code a + size_node1 o

  pub size_place : Place → ℕ
  size_place (cell a) = 2
  size_place (index p c lo hi k) = size_place p + size_code c + 6
  size_place (shift p k) = size_place p + 3

  -- each has a link of two numbers
  pub size_codes : Codes → ℕ
  size_codes no_codes = 0
  size_codes (c with cs) = size_code c + 2 + size_codes cs

unfoldable pub size_labels : List ℤ → ℕ
size_labels [] = 0
size_labels (z ∷ zs) = 2 + size_labels zs

unfoldable mutual
  pub size_act : Act → ℕ
  size_act (assign_ordinal n p lo hi c) = size_place p + size_code c + 6
  size_act (assign_cell n p c) = size_place p + size_code c + 4
  size_act (copy_cells n p q k) = size_place p + size_code (load q k) + 4
  size_act (sequence n bs) = 1 + size_acts bs + 3
  size_act (branch_on n c a b) = size_code c + size_act a + size_act b + 5
  size_act (while_loop n c a) = size_code c + size_act a + 4
  size_act (for_loop n i lo hi c d a) = size_code c + size_code d + size_act a + 8
  size_act (case_of n c cs) = size_code c + (1 + size_cases cs) + 4
  size_act (call_to n p cs) = 1 + size_codes cs + 4
  size_act (raise_with n c) = size_code c + 3
  size_act no_act = 0

  pub size_acts : Acts → ℕ
  size_acts stop = 0
  size_acts (a also bs) = size_act a + 2 + size_acts bs

  pub size_cases : Cases → ℕ
  size_cases (else_case a) = size_act a + 3
  size_cases no_case = 0
  size_cases (one_case ls a cs) = 1 + size_labels ls + size_act a + 3 + size_cases cs

unfoldable pub size_wants : List Want → ℕ
size_wants [] = 0
size_wants (w ∷ ws) = 2 + size_wants ws

-- of parameters, where there are any
unfoldable pub size_parameters : List Want → ℕ
size_parameters [] = 0
size_parameters (w ∷ ws) = 2 + size_wants (w ∷ ws)

unfoldable pub size_body : BodyCode → ℕ
size_body b = size_parameters b.frame.wants + (1 + size_acts b.acts) + (1 + size_acts b.handler) + 5

-- ---- code that numbers of 32 bits can hold

-- an integer of the language
abbrev pub IsInteger : ℤ → Type 0
IsInteger z = inside least most z ≡ true

-- the bounds of `pred` and `succ` are integers
pub data Fits1 : Operation1 → Type 0 where
  negate-fits : Fits1 int_negate
  not-fits : Fits1 bool_not
  abs-fits : Fits1 int_abs
  sqr-fits : Fits1 int_sqr
  odd-fits : Fits1 int_odd
  ord-fits : Fits1 ordinal_of
  card-fits : Fits1 set_card
  least_fits : Fits1 set_least
  greatest-fits : Fits1 set_greatest
  pred_fits : {lo hi : ℤ} → IsInteger lo → IsInteger hi → Fits1 (pred_in lo hi)
  succ-fits : {lo hi : ℤ} → IsInteger lo → IsInteger hi → Fits1 (succ_in lo hi)

-- literals and bounds are integers; the cells of a whole variable are below 4,096
mutual
  pub data CodeFits : Code → Type 0 where
    literal-fits : {z : ℤ} → IsInteger z → CodeFits (literal z)
    load_fits : {p : Place} {n : ℕ} → PlaceFits p → CodeFits (load p n)
    last_fits : CodeFits last_number
    set-fits : {lo hi : ℤ} {cs : Codes} → IsInteger lo → IsInteger hi → CodesFit cs → CodeFits (make_set lo hi cs)
    calculate-fits : {o : Operation} {a b : Code} → CodeFits a → CodeFits b → CodeFits (calculate o a b)
    short-fits : {q : Bool} {a b : Code} → CodeFits a → CodeFits b → CodeFits (short_cut q a b)
    calculate1-fits : {o : Operation1} {a : Code} → Fits1 o → CodeFits a → CodeFits (calculate1 o a)

  pub data PlaceFits : Place → Type 0 where
    cell-fits : {a : ℕ} → a < 4096 → PlaceFits (cell a)
    index-fits : {p : Place} {c : Code} {lo hi : ℤ} {k : ℕ} → PlaceFits p → CodeFits c → IsInteger lo → IsInteger hi
        → PlaceFits (index p c lo hi k)
    shift_fits : {p : Place} {k : ℕ} → PlaceFits p → PlaceFits (shift p k)

  pub data CodesFit : Codes → Type 0 where
    none-fit : CodesFit no_codes
    with-fit : {c : Code} {cs : Codes} → CodeFits c → CodesFit cs → CodesFit (c with cs)

pub data LabelsFit : List ℤ → Type 0 where
  no-labels-fit : LabelsFit []
  label-fits : {z : ℤ} {zs : List ℤ} → IsInteger z → LabelsFit zs → LabelsFit (z ∷ zs)

-- so of statements; a call is to one of so many bodies
mutual
  pub data ActFits (bodies : ℕ) : Act → Type 0 where
    ordinal-fits : {n : ℕ} {p : Place} {lo hi : ℤ} {c : Code} → PlaceFits p → IsInteger lo → IsInteger hi → CodeFits c
        → ActFits bodies (assign_ordinal n p lo hi c)
    cell-fits : {n : ℕ} {p : Place} {c : Code} → PlaceFits p → CodeFits c → ActFits bodies (assign_cell n p c)
    copy-fits : {n k : ℕ} {p q : Place} → PlaceFits p → CodeFits (load q k) → ActFits bodies (copy_cells n p q k)
    sequence-fits : {n : ℕ} {bs : Acts} → ActsFit bodies bs → ActFits bodies (sequence n bs)
    branch_fits : {n : ℕ} {c : Code} {a b : Act} → CodeFits c → ActFits bodies a → ActFits bodies b → ActFits bodies (branch_on n c a b)
    while-fits : {n : ℕ} {c : Code} {a : Act} → CodeFits c → ActFits bodies a → ActFits bodies (while_loop n c a)
    for-fits : {n i : ℕ} {lo hi : ℤ} {c d : Code} {a : Act} → IsInteger lo → IsInteger hi → CodeFits c → CodeFits d → ActFits bodies a
        → ActFits bodies (for_loop n i lo hi c d a)
    case-fits : {n : ℕ} {c : Code} {cs : Cases} → CodeFits c → CasesFit bodies cs → ActFits bodies (case_of n c cs)
    call_fits : {n p : ℕ} {cs : Codes} → p < bodies → CodesFit cs → ActFits bodies (call_to n p cs)
    raise-fits : {n : ℕ} {c : Code} → CodeFits c → ActFits bodies (raise_with n c)
    no-act-fits : ActFits bodies no_act

  pub data ActsFit (bodies : ℕ) : Acts → Type 0 where
    stop-fits : ActsFit bodies stop
    also-fit : {a : Act} {bs : Acts} → ActFits bodies a → ActsFit bodies bs → ActsFit bodies (a also bs)

  pub data CasesFit (bodies : ℕ) : Cases → Type 0 where
    else-fits : {a : Act} → ActFits bodies a → CasesFit bodies (else_case a)
    no-case-fits : CasesFit bodies no_case
    one-case-fits : {ls : List ℤ} {a : Act} {cs : Cases} → LabelsFit ls → ActFits bodies a → CasesFit bodies cs → CasesFit bodies (one_case ls a cs)

-- bounds of parameters are integers, none of them reversed
pub data WantsFit : List Want → Type 0 where
  no-wants-fit : WantsFit []
  ranged-fits : {lo hi : ℤ} {ws : List Want} → IsInteger lo → IsInteger hi → le_z lo hi ≡ true → WantsFit ws → WantsFit (ranged lo hi ∷ ws)
  set-want-fits : {ws : List Want} → WantsFit ws → WantsFit (any_set ∷ ws)

-- without parameters, a frame is that of none
pub record FrameFits (q : Frame) : Type 0 where
  pub wants-fit : WantsFit q.wants
  pub empty-fits : q.wants ≡ [] → q.base ≡ 0

pub record BodyFits (bodies : ℕ) (b : BodyCode) : Type 0 where
  pub frame-fits : FrameFits b.frame
  pub acts-fit : ActsFit bodies b.acts
  pub handler-fits : ActsFit bodies b.handler

-- ---- symbol entries: 4 numbers for each name, 8 for each type's description, 4 for each field of a record, 1 for each parameter's type

-- of a `type` line; an alias is a name alone
unfoldable pub size_decl : Decl → ℕ
size_decl (alias t) = 4
size_decl (enum v vs) = 4 + 8 + 4 * suc (length vs)
size_decl (range a b) = 4 + 8
size_decl (array_of i e) = 4 + 8
size_decl (record_of fs) = 4 + 8 + 4 * length fs
size_decl (set_of b) = 4 + 8

-- of a line
unfoldable pub symbol_size : Entry → ℕ
symbol_size (new_type w d) = size_decl d
symbol_size (new_var w t) = 4
symbol_size (new_proc w ps b) = 4 + length ps
symbol_size (new_main b) = 0

unfoldable pub size_types : Types → ℕ
size_types [] = 0
size_types (t ∷ ts) = 8 + 4 * length (facts t).fields + size_types ts

-- of all that the lines so far declared; the two built-in types take none
unfoldable pub size_symbols : Environment → ℕ
size_symbols σ = 4 * length σ.names + size_types (drop 2 σ.types) + length σ.parameters

-- ---- all bodies

unfoldable pub size_bodies : List BodyCode → ℕ
size_bodies [] = 0
size_bodies (b ∷ bs) = size_body b + size_bodies bs
