-- The answers for a type's name and for a constant, by what a word is alone and what it means as a name.
use Rattle.std.specs.Prelude.{Bool, true, false, ℕ, ℤ, pos}
use Rattle.leaf_integers.specs.Integers.{exact}
use Rattle.leaf_integers.specs.Integers.{Num}
use Rattle.std.specs.Prelude.{Ok, Err}
use Rattle.law.specs.Calculate.{truth}
use Rattle.rule_faults.specs.declared.Fault.{Fault}
use Rattle.rule_faults.specs.declared.Fault.TheVariants.{Clear, Kind, Name, Form}
use Rattle.table_scope.specs.declared.Meaning.{Meaning}
use Rattle.table_scope.specs.declared.Meaning.TheVariants as meaning
use Rattle.text_heads.specs.declared.Atom.{Atom}
use Rattle.text_heads.specs.declared.Atom.TheVariants as AT
use Rattle.text_heads.specs.declared.ExprHead.{ExprHead}
use Rattle.text_heads.specs.declared.ExprHead.TheVariants as EH
use Rattle.rule_atoms.specs.declared.Typed.{Typed}
use Rattle.rule_atoms.specs.declared.Valued.{Valued}

-- ---- types

abbrev pub typed : Fault → ℕ → ℕ → Typed
typed f k q = record { fault = f; kind = k; next = q }

abbrev pub type_meant : Meaning → ℕ → Typed
type_meant meaning.Unknown q = typed Name 0 q
type_meant (meaning.Type t) q = typed Clear t q
type_meant (meaning.Var i t a) q = typed Name 0 q
type_meant (meaning.Proc p) q = typed Name 0 q
type_meant (meaning.Value k n) q = typed Name 0 q

abbrev pub type_by : Atom → Meaning → ℕ → Typed
type_by (AT.Number z) m q = typed Form 0 q
type_by AT.Named m q = type_meant m q
type_by (AT.Truth b) m q = typed Form 0 q
type_by AT.ErrorNumber m q = typed Form 0 q
type_by (AT.Base k) m q = typed Clear k q
type_by AT.Nothing m q = typed Form 0 q

-- ---- constants

abbrev pub valued : Fault → ℕ → ℤ → ℕ → Valued
valued f k z q = record { fault = f; kind = k; value = z; next = q }

-- a constant past the integers is a fault of row 8
abbrev pub num_valued : ℕ → Num → ℕ → Valued
num_valued k (Ok z) q = valued Clear k z q
num_valued k (Err f) q = valued Kind 0 (pos 0) q

abbrev pub value_meant : Meaning → ℕ → Valued
value_meant meaning.Unknown q = valued Name 0 (pos 0) q
value_meant (meaning.Type t) q = valued Name 0 (pos 0) q
value_meant (meaning.Var i t a) q = valued Name 0 (pos 0) q
value_meant (meaning.Proc p) q = valued Name 0 (pos 0) q
value_meant (meaning.Value k n) q = num_valued k (exact (pos n)) q

abbrev pub value_by : Atom → Meaning → ℕ → Valued
value_by (AT.Number z) m q = num_valued 0 (exact z) q
value_by AT.Named m q = value_meant m q
value_by (AT.Truth b) m q = valued Clear 1 (truth b) q
value_by AT.ErrorNumber m q = valued Form 0 (pos 0) q
value_by (AT.Base k) m q = valued Form 0 (pos 0) q
value_by AT.Nothing m q = valued Form 0 (pos 0) q

-- the head `-`
abbrev pub is_minus : ExprHead → Bool
is_minus EH.At = false
is_minus EH.Dot = false
is_minus EH.Members = false
is_minus EH.Minus = true
is_minus (EH.Bound b) = false
is_minus (EH.Short q) = false
is_minus (EH.Two k) = false
is_minus (EH.One k) = false
is_minus EH.Nothing = false
