-- Names, and results that may be missing.
use Rattle.std.specs.Prelude.{Bool, true, false, List, [], ◌∷◌, ℕ}
use Rattle.std.proofs.Math.Option.{Option, none, some}
use Rattle.leaf_bytes.specs.Bytes.{same}

-- a name: its bytes, in small letters
abbrev pub Name : Type 0
Name = List ℕ

-- the first entry under a name
unfoldable pub find : {A : Type 0} → List (Name × A) → Name → Option A
find [] w = none
find (p ∷ ps) w = elim (same p.0 w) [ true ↦ some p.1 | false ↦ find ps w ]

-- ---- what may give nothing

infixl 1 ◌>>=◌
unfoldable pub ◌>>=◌ : {A B : Type 0} → Option A → (A → Option B) → Option B
some a >>= f = f a
none >>= f = none

-- two parts that do not depend on each other
unfoldable pub both : {A B C : Type 0} → Option A → Option B → (A → B → Option C) → Option C
both (some a) (some b) f = f a b
both (some a) none f = none
both none y f = none

-- a value, if a test passes
unfoldable pub given : {A : Type 0} → Bool → A → Option A
given true a = some a
given false a = none

-- the first of two that gives something
unfoldable pub either : {A : Type 0} → Option A → Option A → Option A
either (some a) o = some a
either none o = o

-- a function on each of a list, all of which must give something
unfoldable pub each : {A B : Type 0} → (A → Option B) → List A → Option (List B)
each f [] = some []
each f (a ∷ as') = f a >>= λ b. each f as' >>= λ bs. some (b ∷ bs)

-- one of two values by a test
unfoldable pub pick : {A : Type 0} → Bool → A → A → A
pick true x y = x
pick false x y = y
