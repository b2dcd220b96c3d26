-- An expression whose kind is no ordinal and no set is a read: what an array or a record is given lies in cells.
use mathlib.Core.Path.{◌≡◌}
use mathlib.Core.Bool.{false}
use mathlib.Core.List.{[]}
use mathlib.Core.Option.{some}
use Prim.Native.Nat.{ℕ}
use Rattle.law.specs.Code as C
use Rattle.law.specs.Elaborate.{Elaborated, elab_expr}
use Rattle.law.specs.Script.{Expr, binary, const, end_of, error_number, members, read, short_circuit, unary}
use Rattle.law.specs.Types.{Types, Vars, ordinal?, set?}
use Rattle.law_theorems.proofs.Inversion.{and-true, both_some, bind-some, given-some, none-some, some_inj}
use Rattle.law_theorems.proofs.ElaboratedSafe.{One, argument, no-single, one-boolean, one-integer, one-ordinal, one_set, operands}
use Rattle.law_theorems.proofs.TypeTables.{formed}
use Rattle.law_theorems.specs.TypeTables.{Table}
use Rattle.law_theorems.specs.ValuesInRange.{Formed}

pub data Loads : C.Code → Type 0 where
  loads : {q : C.Place} {k : ℕ} → Loads (C.load q k)

module _ (Γ : Types) (T : Table Γ) where
  -- kinds are a matter of the types alone, so that no variable is asked for
  𝓕 : Formed Γ [] []
  𝓕 = formed Γ [] [] T (record { found = λ i v h. none-some h; apart = λ i j v w h k. none-some h })

  abbrev Sole : ℕ → Type 0
  Sole k = One Γ [] [] 𝓕 k

  pub from-cells : (Δ : Vars) (e : Expr) (r : Elaborated) → elab_expr Γ Δ e ≡ some r → ordinal? Γ r.kind ≡ false → set? Γ r.kind ≡ false → Loads r.code
  unfolding elab_expr
  from-cells Δ e r h o s = go e h
    where
      no : Sole r.kind → Loads r.code
      no u = no-single _ o s u

      go : (e : Expr) → elab_expr Γ Δ e ≡ some r → Loads r.code
      go (const c) h = given-some h λ p v. no (rw (← v) (one-ordinal Γ [] [] 𝓕 c.kind (and-true (ordinal? Γ c.kind) _ p).0))
      go (read g) h = bind-some h λ w hw e. rw (← some_inj e) loads
      go error_number h = no (rw (← some_inj h) (one-integer Γ [] [] 𝓕))
      go (members t es) h = bind-some h λ cs hcs e. given-some e λ p v. no (rw (← v) (one_set Γ [] [] 𝓕 t p))
      go (end_of q t) h = given-some h λ p v. no (rw (← v) (one-ordinal Γ [] [] 𝓕 _ (𝓕.hosts t p)))
      go (binary op a b) h = both_some h λ x y hx hy e. bind-some e λ q hq e'. no (rw (← some_inj e') (operands Γ [] [] 𝓕 x.kind y.kind op hq).result)
      go (short_circuit q a b) h = both_some h λ x y hx hy e. given-some e λ p v. no (rw (← v) (one-boolean Γ [] [] 𝓕))
      go (unary f a) h = bind-some h λ x hx e. bind-some e λ q hq e'. no (rw (← some_inj e') (argument Γ [] [] 𝓕 f x.kind hq).result)
