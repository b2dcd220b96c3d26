-- A property of each body of a script by its number: procedures from 0 on in their order, main last. The laws are in proofs/.
use Rattle.std.specs.Prelude.{List, [], ◌∷◌, ℕ, suc}
use Rattle.law.specs.Code.{BodyCode}

pub data Bodies (P : ℕ → BodyCode → Type 0) : ℕ → List BodyCode → Type 0 where
  none : {k : ℕ} → Bodies P k []
  body : {k : ℕ} {b : BodyCode} {bs : List BodyCode} → P k b → Bodies P (suc k) bs → Bodies P k (b ∷ bs)
