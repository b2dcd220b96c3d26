-- The words that forms begin with, by their kind and number (leaf_words, Words), and what they say at the place where they stand.
use Rattle.std.specs.Prelude.{Bool, true, false, cond, map, ℕ, zero, suc, eqb, ℤ, get_or}
use Rattle.std.proofs.Math.Option.{Option, none, some}
use Rattle.leaf_words.specs.declared.words.Word as Kind
use Rattle.leaf_words.specs.declared.words.Word.TheVariants as W
use Rattle.code_ops.specs.Functions.{functions}
use Rattle.code_ops.specs.Operators.{operators}
use Rattle.law.specs.Base.{Name}
use Rattle.law.specs.Forms as Forms
use Rattle.law.specs.Forms.{Head, h_at, h_dot, h_members, h_minus, h_bound, h_lazy, h_op, h_fun, v_assign, v_begin, v_if, v_while, v_for, v_case, v_call, v_raise, is_arm, is_else, m_enum, m_range, m_array, m_record, m_set, is_type, is_var, is_proc, is_main}
use Rattle.law.specs.Operators.{Op, Fun}
use Rattle.law.specs.Syntax.{Constant, Expr, Target, TypeName, boolean, const, declared, error_number, integer, named, number, truth, var}
use Rattle.text_heads.specs.declared.ExprHead as ExprHead
use Rattle.text_heads.specs.declared.ExprHead.TheVariants as EH
use Rattle.text_heads.specs.declared.Verb as Verb
use Rattle.text_heads.specs.declared.Verb.TheVariants as VB
use Rattle.text_heads.specs.declared.ArmHead as ArmHead
use Rattle.text_heads.specs.declared.ArmHead.TheVariants as AH
use Rattle.text_heads.specs.declared.Maker as Maker
use Rattle.text_heads.specs.declared.Maker.TheVariants as MK
use Rattle.text_heads.specs.declared.LineHead as LineHead
use Rattle.text_heads.specs.declared.LineHead.TheVariants as LH
use Rattle.text_heads.specs.declared.Atom as Atom
use Rattle.text_heads.specs.declared.Atom.TheVariants as AT

-- ---- by number. Each table is an abbreviation, so that an arm's answer is found by computing it, under a name of its own, which stays shut

abbrev pub reserved_expr_by : ℕ → ExprHead.ExprHead
reserved_expr_by k =
    cond (eqb k 19) EH.At (cond (eqb k 20) EH.Dot (cond (eqb k 21) EH.Members (cond (eqb k 22) (EH.One 1) (
    cond (eqb k 23) (EH.One 2) (cond (eqb k 24) (EH.One 3) (cond (eqb k 25) (EH.One 4) (cond (eqb k 26) (EH.One 5) (
    cond (eqb k 27) (EH.One 6) (cond (eqb k 28) (EH.One 7) (cond (eqb k 29) (EH.One 8) (cond (eqb k 30) (EH.One 9) (
    cond (eqb k 31) (EH.One 10) (cond (eqb k 32) (EH.Bound false) (cond (eqb k 33) (EH.Bound true) (
    cond (eqb k 34) (EH.Two 4) (cond (eqb k 35) (EH.Two 5) (cond (eqb k 36) (EH.Two 12) (cond (eqb k 37) (EH.Two 13) (
    cond (eqb k 38) (EH.Two 14) (cond (eqb k 39) (EH.Short true) (cond (eqb k 40) (EH.Short false) EH.Nothing)))))))))))))))))))))

unfoldable pub reserved_expr : ℕ → ExprHead.ExprHead
reserved_expr k = reserved_expr_by k

abbrev pub operator_expr_by : ℕ → ExprHead.ExprHead
operator_expr_by k =
    cond (eqb k 1) (EH.Two 0) (cond (eqb k 2) EH.Minus (cond (eqb k 3) (EH.Two 2) (cond (eqb k 4) (EH.Two 3) (
    cond (eqb k 5) (EH.Two 6) (cond (eqb k 6) (EH.Two 7) (cond (eqb k 7) (EH.Two 8) (cond (eqb k 8) (EH.Two 9) (
    cond (eqb k 9) (EH.Two 10) (cond (eqb k 10) (EH.Two 11) EH.Nothing)))))))))

unfoldable pub operator_expr : ℕ → ExprHead.ExprHead
operator_expr k = operator_expr_by k

abbrev pub reserved_verb_by : ℕ → Verb.Verb
reserved_verb_by k =
    cond (eqb k 10) VB.Begin (cond (eqb k 11) VB.If (cond (eqb k 12) VB.While (cond (eqb k 13) VB.For (
    cond (eqb k 14) VB.Case (cond (eqb k 17) VB.Call (cond (eqb k 18) VB.Raise VB.Nothing))))))

unfoldable pub reserved_verb : ℕ → Verb.Verb
reserved_verb k = reserved_verb_by k

abbrev pub operator_verb_by : ℕ → Verb.Verb
operator_verb_by k =
    cond (eqb k 0) VB.Assign VB.Nothing

unfoldable pub operator_verb : ℕ → Verb.Verb
operator_verb k = operator_verb_by k

abbrev pub reserved_arm_by : ℕ → ArmHead.ArmHead
reserved_arm_by k =
    cond (eqb k 15) AH.Arm (cond (eqb k 16) AH.Else AH.Nothing)

unfoldable pub reserved_arm : ℕ → ArmHead.ArmHead
reserved_arm k = reserved_arm_by k

abbrev pub reserved_maker_by : ℕ → Maker.Maker
reserved_maker_by k =
    cond (eqb k 5) MK.Enum (cond (eqb k 6) MK.Range (cond (eqb k 7) MK.Array (cond (eqb k 8) MK.Record (
    cond (eqb k 9) MK.Set MK.Nothing))))

unfoldable pub reserved_maker : ℕ → Maker.Maker
reserved_maker k = reserved_maker_by k

abbrev pub reserved_line_by : ℕ → LineHead.LineHead
reserved_line_by k =
    cond (eqb k 0) LH.Type (cond (eqb k 1) LH.Var (cond (eqb k 2) LH.Proc (cond (eqb k 3) LH.Main LH.Nothing)))

unfoldable pub reserved_line : ℕ → LineHead.LineHead
reserved_line k = reserved_line_by k

abbrev pub reserved_atom_by : ℕ → Atom.Atom
reserved_atom_by k =
    cond (eqb k 41) (AT.Base 0) (cond (eqb k 42) (AT.Base 1) (cond (eqb k 43) (AT.Truth true) (
    cond (eqb k 44) (AT.Truth false) (cond (eqb k 45) AT.ErrorNumber AT.Nothing))))

unfoldable pub reserved_atom : ℕ → Atom.Atom
reserved_atom k = reserved_atom_by k

-- ---- by kind

abbrev pub expr_head_of : Kind.Word → ExprHead.ExprHead
expr_head_of (W.Number z) = EH.Nothing
expr_head_of W.Name = EH.Nothing
expr_head_of (W.Reserved k) = reserved_expr k
expr_head_of (W.Operator k) = operator_expr k
expr_head_of W.Unknown = EH.Nothing

abbrev pub verb_of : Kind.Word → Verb.Verb
verb_of (W.Number z) = VB.Nothing
verb_of W.Name = VB.Nothing
verb_of (W.Reserved k) = reserved_verb k
verb_of (W.Operator k) = operator_verb k
verb_of W.Unknown = VB.Nothing

abbrev pub arm_head_of : Kind.Word → ArmHead.ArmHead
arm_head_of (W.Number z) = AH.Nothing
arm_head_of W.Name = AH.Nothing
arm_head_of (W.Reserved k) = reserved_arm k
arm_head_of (W.Operator k) = AH.Nothing
arm_head_of W.Unknown = AH.Nothing

abbrev pub maker_of : Kind.Word → Maker.Maker
maker_of (W.Number z) = MK.Nothing
maker_of W.Name = MK.Nothing
maker_of (W.Reserved k) = reserved_maker k
maker_of (W.Operator k) = MK.Nothing
maker_of W.Unknown = MK.Nothing

abbrev pub line_head_of : Kind.Word → LineHead.LineHead
line_head_of (W.Number z) = LH.Nothing
line_head_of W.Name = LH.Nothing
line_head_of (W.Reserved k) = reserved_line k
line_head_of (W.Operator k) = LH.Nothing
line_head_of W.Unknown = LH.Nothing

abbrev pub atom_of : Kind.Word → Atom.Atom
atom_of (W.Number z) = AT.Number z
atom_of W.Name = AT.Named
atom_of (W.Reserved k) = reserved_atom k
atom_of (W.Operator k) = AT.Nothing
atom_of W.Unknown = AT.Nothing

abbrev pub is_exception : Kind.Word → Bool
is_exception (W.Number z) = false
is_exception W.Name = false
is_exception (W.Reserved k) = eqb k 4
is_exception (W.Operator k) = false
is_exception W.Unknown = false

-- ---- what a head says in the definition (law, Forms)

abbrev pub expr_head_meant : ExprHead.ExprHead → Option Head
expr_head_meant EH.At = some h_at
expr_head_meant EH.Dot = some h_dot
expr_head_meant EH.Members = some h_members
expr_head_meant EH.Minus = some h_minus
expr_head_meant (EH.Bound b) = some (h_bound b)
expr_head_meant (EH.Short q) = some (h_lazy q)
expr_head_meant (EH.Two k) = get_or (map (λ (o : Op). some (h_op o)) operators) k none
expr_head_meant (EH.One k) = get_or (map (λ (f : Fun). some (h_fun f)) functions) k none
expr_head_meant EH.Nothing = none

abbrev pub verb_meant : Verb.Verb → Option Forms.Verb
verb_meant VB.Assign = some v_assign
verb_meant VB.Begin = some v_begin
verb_meant VB.If = some v_if
verb_meant VB.While = some v_while
verb_meant VB.For = some v_for
verb_meant VB.Case = some v_case
verb_meant VB.Call = some v_call
verb_meant VB.Raise = some v_raise
verb_meant VB.Nothing = none

abbrev pub arm_head_meant : ArmHead.ArmHead → Option Forms.ArmHead
arm_head_meant AH.Arm = some is_arm
arm_head_meant AH.Else = some is_else
arm_head_meant AH.Nothing = none

abbrev pub maker_meant : Maker.Maker → Option Forms.Maker
maker_meant MK.Enum = some m_enum
maker_meant MK.Range = some m_range
maker_meant MK.Array = some m_array
maker_meant MK.Record = some m_record
maker_meant MK.Set = some m_set
maker_meant MK.Nothing = none

abbrev pub line_head_meant : LineHead.LineHead → Option Forms.LineHead
line_head_meant LH.Type = some is_type
line_head_meant LH.Var = some is_var
line_head_meant LH.Proc = some is_proc
line_head_meant LH.Main = some is_main
line_head_meant LH.Nothing = none

-- one thing at the head `at`, another at `dot`, nothing at any other
abbrev pub target_pick : {A : Type 0} → Option A → Option A → ExprHead.ExprHead → Option A
target_pick x y EH.At = x
target_pick x y EH.Dot = y
target_pick x y EH.Members = none
target_pick x y EH.Minus = none
target_pick x y (EH.Bound b) = none
target_pick x y (EH.Short q) = none
target_pick x y (EH.Two k) = none
target_pick x y (EH.One k) = none
target_pick x y EH.Nothing = none

-- one thing at the head `-`, nothing at any other
abbrev pub minus_pick : {A : Type 0} → Option A → ExprHead.ExprHead → Option A
minus_pick x EH.At = none
minus_pick x EH.Dot = none
minus_pick x EH.Members = none
minus_pick x EH.Minus = x
minus_pick x (EH.Bound b) = none
minus_pick x (EH.Short q) = none
minus_pick x (EH.Two k) = none
minus_pick x (EH.One k) = none
minus_pick x EH.Nothing = none

-- ---- what a word alone says; n is its name

abbrev pub atom_expr : Atom.Atom → Name → Option Expr
atom_expr (AT.Number z) n = some (const (number z))
atom_expr AT.Named n = some (const (named n))
atom_expr (AT.Truth b) n = some (const (truth b))
atom_expr AT.ErrorNumber n = some error_number
atom_expr (AT.Base k) n = none
atom_expr AT.Nothing n = none

abbrev pub atom_constant : Atom.Atom → Name → Option Constant
atom_constant (AT.Number z) n = some (number z)
atom_constant AT.Named n = some (named n)
atom_constant (AT.Truth b) n = some (truth b)
atom_constant AT.ErrorNumber n = none
atom_constant (AT.Base k) n = none
atom_constant AT.Nothing n = none

abbrev pub atom_type : Atom.Atom → Name → Option TypeName
atom_type (AT.Number z) n = none
atom_type AT.Named n = some (declared n)
atom_type (AT.Truth b) n = none
atom_type AT.ErrorNumber n = none
atom_type (AT.Base zero) n = some integer
atom_type (AT.Base (suc zero)) n = some boolean
atom_type (AT.Base (suc (suc k))) n = none
atom_type AT.Nothing n = none

abbrev pub atom_target : Atom.Atom → Name → Option Target
atom_target (AT.Number z) n = none
atom_target AT.Named n = some (var n)
atom_target (AT.Truth b) n = none
atom_target AT.ErrorNumber n = none
atom_target (AT.Base k) n = none
atom_target AT.Nothing n = none

abbrev pub atom_name : Atom.Atom → Name → Option Name
atom_name (AT.Number z) n = none
atom_name AT.Named n = some n
atom_name (AT.Truth b) n = none
atom_name AT.ErrorNumber n = none
atom_name (AT.Base k) n = none
atom_name AT.Nothing n = none

abbrev pub atom_number : Atom.Atom → Option ℤ
atom_number (AT.Number z) = some z
atom_number AT.Named = none
atom_number (AT.Truth b) = none
atom_number AT.ErrorNumber = none
atom_number (AT.Base k) = none
atom_number AT.Nothing = none
