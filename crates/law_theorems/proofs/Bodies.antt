-- A property of each body of a script by its number: procedures from 0 on in their order, main last.
use mathlib.Core.Path.{◌≡◌}
use mathlib.Core.List.{List, [], ◌∷◌, ◌++◌}
use mathlib.Core.Option.{some}
use Prim.Native.Nat.{ℕ, zero, suc, ◌+◌, ◌<◌}
use native.Mathlib.Nat.{add-zero, add-suc, suc-add}
use native.Mathlib.Omega.{arith}
use lib.ListN.{get_or, get_elem?, length}
use Rattle.law.specs.Code.{BodyCode}
use Rattle.law_theorems.proofs.Inversion.{none-some, some_inj}
use Rattle.law_theorems.specs.Bodies.{Bodies, body, none}

-- bodies from number k on

module _ {P : ℕ → BodyCode → Type 0} where
  -- body number k + i
  pub body_at : {k : ℕ} {bs : List BodyCode} → Bodies P k bs → (i : ℕ) (b : BodyCode) → get_elem? bs i ≡ some b → P (k + i) b
  body_at none i b h = none-some h
  body_at {k} (body p bs) zero b h = rw (add-zero k, ← some_inj h) p
  body_at {k} (body p bs) (suc i) b h = rw (add-suc k i, ← suc-add k i) (body_at bs i b h)

  pub body-get : {k : ℕ} {bs : List BodyCode} (other : BodyCode) → Bodies P k bs → (i : ℕ) → i < length bs → P (k + i) (get_or bs i other)
  body-get other none i h = absurd (omega arith)
  body-get {k} other (body p bs) zero h = rw (add-zero k) p
  body-get {k} other (body p bs) (suc i) h = rw (add-suc k i, ← suc-add k i) (body-get other bs i (omega arith))

  -- one more
  pub bodies-last : {k : ℕ} {bs : List BodyCode} (b : BodyCode) → Bodies P k bs → P (k + length bs) b → Bodies P k (bs ++ (b ∷ []))
  bodies-last {k} b none p = body (rw add-zero at p) none
  bodies-last {k} b (body {bs = bs} q h) p = body q (bodies-last b h (rw (suc-add k (length bs), ← add-suc k (length bs)) p))
