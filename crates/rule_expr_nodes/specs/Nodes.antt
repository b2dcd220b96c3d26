-- A node as the code makes it from its numbers, and constants.
use Rattle.std.specs.Prelude.{true, cond, List, [], ◌∷◌, ◌≡◌, ℕ, ℤ}
use Rattle.leaf_integers.specs.Integers.{inside, least, most}
use Rattle.code.specs.Layout.{Out, lay, bits}
use Rattle.rule_faults.specs.declared.Fault.{Fault}
use Rattle.rule_faults.specs.declared.Fault.TheVariants.{Clear, Kind, Name, Form}
use Rattle.rule_faults.specs.declared.Got.{Got}
use Rattle.rule_faults.specs.Got.{failed_got, node_got}

-- an answer, and the working list that comes with it
pub record Made : Type 0 where
  pub got : Got
  pub list : List ℕ

abbrev pub failed_made : Fault → ℕ → ℕ → ℕ → List ℕ → Made
failed_made f k q t l = record { got = failed_got f k q t; list = l }

abbrev pub node_made : ℕ → ℕ → Out → Made
node_made k q o = record { got = node_got k q o; list = o.list }

pub record Makes (m : Made) (g : Got) (l : List ℕ) : Type 0 where
  pub given : g ≡ m.got
  pub left : l ≡ m.list

-- where no fault has come; else that fault
unfoldable pub if_clear : Fault → ℕ → ℕ → ℕ → List ℕ → Made → Made
if_clear Clear k q t l m = m
if_clear Kind k q t l m = failed_made Kind k q t l
if_clear Name k q t l m = failed_made Name k q t l
if_clear Form k q t l m = failed_made Form k q t l

-- ---- constants

-- an integer of the language in 32 bits
pub record IsBits (z : ℤ) (n : ℕ) : Type 0 where
  pub is-bits : inside least most z ≡ true → n ≡ bits z

-- an integer: row 8 where it is past the integers
unfoldable pub literal_made : ℕ → ℤ → ℕ → ℕ → List ℕ → Made
literal_made k z q t l = cond (inside least most z) (node_made k q (lay (1 ∷ bits z ∷ []) t l)) (failed_made Kind 0 q t l)
