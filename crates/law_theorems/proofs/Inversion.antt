-- What a stage that gave something says of its parts, handed to a continuation: its variables stand for the parts' answers.
use mathlib.Core.Path.{◌≡◌, refl}
use mathlib.Core.Bool.{Bool, true, false, ◌&&◌, and-eq-true_iff}
use mathlib.Core.Option.{Option, none, some}
use Prim.Native.Nat.{ℕ}
use native.Mathlib.Omega.{arith}
use Rattle.law.specs.Base.{◌>>=◌, both, either, given}

pub none-some {ℓ} : {A : Type 0} {X : Type ℓ} {a : A} → none ≡ some a → X
none-some {a} h = absurd (let z : ◌≡◌ {A = ℕ} 0 1 = cc in omega arith)

pub some_inj : {A : Type 0} {a b : A} → some a ≡ some b → a ≡ b
some_inj {a} {b} h = cc

module _ {A B C P : Type 0} where
  pub both_some : {x : Option A} {y : Option B} {f : A → B → Option C} {c : C} → both x y f ≡ some c
      → ((a : A) (b : B) → x ≡ some a → y ≡ some b → f a b ≡ some c → P) → P
  unfolding both
  both_some {x = some a} {y = some b} h k = k a b refl refl h
  both_some {x = some a} {y = none} h k = none-some h
  both_some {x = none} h k = none-some h

module _ {A B P : Type 0} where
  pub bind-some : {x : Option A} {f : A → Option B} {b : B} → (x >>= f) ≡ some b → ((a : A) → x ≡ some a → f a ≡ some b → P) → P
  unfolding ◌>>=◌
  bind-some {x = some a} h k = k a refl h
  bind-some {x = none} h k = none-some h

module _ {A : Type 0} where
  pub given-some : {P : Type 0} {t : Bool} {a b : A} → given t a ≡ some b → (t ≡ true → a ≡ b → P) → P
  unfolding given
  given-some {t = true} {a} {b} h k = k refl (some_inj h)
  given-some {t = false} h k = none-some h

  pub either-some : {P : Type 0} {x y : Option A} {q : A} → either x y ≡ some q → (x ≡ some q → P) → (y ≡ some q → P) → P
  unfolding either
  either-some {x = some a} h k l = k h
  either-some {x = none} h k l = l h

pub and-true : (a b : Bool) → (a && b) ≡ true → (a ≡ true) × (b ≡ true)
and-true a b h = (and-eq-true_iff a b).0 h

pub and-both : (a b : Bool) → a ≡ true → b ≡ true → (a && b) ≡ true
and-both a b h k = (and-eq-true_iff a b).1 (h, k)
