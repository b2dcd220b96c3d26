-- What the answers by atom and meaning tell of the stages.
use mathlib.Core.Path.{◌≡◌, refl, ap}
use mathlib.Core.Bool.{Bool, true, false, cond}
use mathlib.Core.List.{List}
use mathlib.Core.Option.{Option, some}
use Prim.Native.Nat.{ℕ, zero, suc, ◌<◌}
use native.Mathlib.Omega.{arith}
use lib.Dec.{eqb}
use lib.IntN.{ℤ, pos}
use Rattle.leaf_integers.specs.Integers.{inside, least, most, pick, ranged, exact}
use Rattle.leaf_integers.specs.declared.Fault.TheVariants.{Overflow}
use Rattle.std.specs.Prelude.{Ok, Err}
use Rattle.leaf_words.specs.declared.words.Word as Word
use Rattle.leaf_words.specs.declared.words.Word.TheVariants as W
use Rattle.law.specs.Base.{Name, ◌>>=◌, find}
use Rattle.law.specs.Calculate.{truth}
use Rattle.law.specs.Environment.{Environment, NameSort}
use Rattle.law.specs.Names.{type_of, constant_of, const_of, as_type, as_value}
use Rattle.law.specs.Rules.{plain}
use Rattle.rule_stages.specs.Stages.{wrong, unnamed, unfit, fits, ruled, named, staged}
use Rattle.rule_faults.specs.declared.Fault.TheVariants as fault
use Rattle.table_scope.specs.declared.Meaning.{Meaning}
use Rattle.table_scope.specs.Scene.{Told, unknown, known, a-type, a-var, a-proc, a-value}
use Rattle.text_heads.specs.Heads.{atom_of, reserved_atom, atom_type, atom_constant}
use Rattle.text_heads.specs.declared.Atom.{Atom}
use Rattle.text_heads.specs.declared.Atom.TheVariants as AT
use Rattle.rule_atoms.specs.Answers.{type_meant, type_by, valued, num_valued, value_meant, value_by}
use Rattle.rule_atoms.specs.Answering.{TypeTold, ValueTold}

-- ---- stages

pub fits-inj : {A : Type 0} {a b : A} → fits a ≡ fits b → a ≡ b
fits-inj {a} {b} h = cc

pub wrong-fits : {A : Type 0} {X : Type 0} {a : A} → wrong ≡ fits a → X
wrong-fits {a} h = absurd (let z : ◌≡◌ {A = ℕ} 0 1 = cc in omega arith)

pub unnamed-fits : {A : Type 0} {X : Type 0} {a : A} → unnamed ≡ fits a → X
unnamed-fits {a} h = absurd (let z : ◌≡◌ {A = ℕ} 0 1 = cc in omega arith)

pub unfit-fits : {A : Type 0} {X : Type 0} {a : A} → unfit ≡ fits a → X
unfit-fits {a} h = absurd (let z : ◌≡◌ {A = ℕ} 0 1 = cc in omega arith)

-- ---- types

-- the built-in types are two
base-small : (b c d e f : Bool) (k : ℕ) → cond b (AT.Base 0) (cond c (AT.Base 1) (cond d (AT.Truth true) (cond e (AT.Truth false) (cond f AT.ErrorNumber AT.Nothing)))) ≡ AT.Base k → k < 2
base-small true c d e f k h = let z : 0 ≡ k = cc in omega arith
base-small false true d e f k h = let z : 1 ≡ k = cc in omega arith
base-small false false true e f k h = absurd (let z : ◌≡◌ {A = ℕ} 0 1 = cc in omega arith)
base-small false false false true f k h = absurd (let z : ◌≡◌ {A = ℕ} 0 1 = cc in omega arith)
base-small false false false false true k h = absurd (let z : ◌≡◌ {A = ℕ} 0 1 = cc in omega arith)
base-small false false false false false k h = absurd (let z : ◌≡◌ {A = ℕ} 0 1 = cc in omega arith)

pub base-two : (w : Word.Word) (k : ℕ) → atom_of w ≡ AT.Base k → k < 2
unfolding reserved_atom
base-two (W.Number z) k h = absurd (let z : ◌≡◌ {A = ℕ} 0 1 = cc in omega arith)
base-two W.Name k h = absurd (let z : ◌≡◌ {A = ℕ} 0 1 = cc in omega arith)
base-two (W.Reserved n) k h = base-small (eqb n 41) (eqb n 42) (eqb n 43) (eqb n 44) (eqb n 45) k h
base-two (W.Operator n) k h = absurd (let z : ◌≡◌ {A = ℕ} 0 1 = cc in omega arith)
base-two W.Unknown k h = absurd (let z : ◌≡◌ {A = ℕ} 0 1 = cc in omega arith)

module _ (σ : Environment) (bs : List ℕ) (n : Name) (q : ℕ) where
  meant-type : (m : Meaning) (o : Option NameSort) → Told σ bs m o → TypeTold (named (o >>= as_type) (λ _. true) some) (type_meant m q)
  unfolding named ruled ◌>>=◌
  meant-type _ _ unknown = record { fault-is = refl; kind-is = λ k h. unnamed-fits h }
  meant-type _ _ (known (a-type {t})) = record { fault-is = refl; kind-is = λ k h. fits-inj h }
  meant-type _ _ (known (a-var v e)) = record { fault-is = refl; kind-is = λ k h. unnamed-fits h }
  meant-type _ _ (known a-proc) = record { fault-is = refl; kind-is = λ k h. unnamed-fits h }
  meant-type _ _ (known a-value) = record { fault-is = refl; kind-is = λ k h. unnamed-fits h }

  pub type-told : (a : Atom) → ((k : ℕ) → a ≡ AT.Base k → k < 2) → (m : Meaning) → Told σ bs m (find σ.names n)
      → TypeTold (staged (atom_type a n) (type_of σ) (λ _. true) some) (type_by a m q)
  unfolding staged named ruled type_of
  type-told (AT.Number z) b m T = record { fault-is = refl; kind-is = λ k h. wrong-fits h }
  type-told AT.Named b m T = meant-type m (find σ.names n) T
  type-told (AT.Truth t) b m T = record { fault-is = refl; kind-is = λ k h. wrong-fits h }
  type-told AT.ErrorNumber b m T = record { fault-is = refl; kind-is = λ k h. wrong-fits h }
  type-told (AT.Base zero) b m T = record { fault-is = refl; kind-is = λ k h. fits-inj h }
  type-told (AT.Base (suc zero)) b m T = record { fault-is = refl; kind-is = λ k h. fits-inj h }
  type-told (AT.Base (suc (suc k))) b m T = absurd (let z = b (suc (suc k)) refl in omega arith)
  type-told AT.Nothing b m T = record { fault-is = refl; kind-is = λ k h. wrong-fits h }

-- ---- constants

-- a constant in or past the integers
pub num-told : (k : ℕ) (z : ℤ) (q : ℕ) → ValueTold (named (some (const_of k z)) plain some) (num_valued k (exact z) q)
unfolding named ruled plain exact ranged pick
num-told k z q = go (inside least most z)
  where
    go : (t : Bool) → ValueTold (ruled t (some (const_of k z))) (num_valued k (pick t (Ok z) (Err Overflow)) q)
    go true = record { fault-is = refl; value-is = λ c h. (ap (λ c. c.kind) (fits-inj h), ap (λ c. c.value) (fits-inj h)) }
    go false = record { fault-is = refl; value-is = λ c h. unfit-fits h }

pub wrong-told : {q : ℕ} → ValueTold wrong (valued fault.Form 0 (pos 0) q)
wrong-told = record { fault-is = refl; value-is = λ c h. wrong-fits h }

unnamed_told : {q : ℕ} → ValueTold unnamed (valued fault.Name 0 (pos 0) q)
unnamed_told = record { fault-is = refl; value-is = λ c h. unnamed-fits h }

truth-told : (b : Bool) (q : ℕ) → ValueTold (named (some (const_of 1 (truth b))) plain some) (valued fault.Clear 1 (truth b) q)
unfolding named ruled plain truth inside
truth-told true q = record { fault-is = refl; value-is = λ c h. (ap (λ c. c.kind) (fits-inj h), ap (λ c. c.value) (fits-inj h)) }
truth-told false q = record { fault-is = refl; value-is = λ c h. (ap (λ c. c.kind) (fits-inj h), ap (λ c. c.value) (fits-inj h)) }

module _ (σ : Environment) (bs : List ℕ) (n : Name) (q : ℕ) where
  meant-value : (m : Meaning) (o : Option NameSort) → Told σ bs m o → ValueTold (named (o >>= as_value) plain some) (value_meant m q)
  unfolding named ◌>>=◌
  meant-value _ _ unknown = unnamed_told
  meant-value _ _ (known a-type) = unnamed_told
  meant-value _ _ (known (a-var v e)) = unnamed_told
  meant-value _ _ (known a-proc) = unnamed_told
  meant-value _ _ (known (a-value {k} {n})) = num-told k (pos n) q

  pub value-told : (a : Atom) (m : Meaning) → Told σ bs m (find σ.names n) → ValueTold (staged (atom_constant a n) (constant_of σ) plain some) (value_by a m q)
  unfolding staged constant_of
  value-told (AT.Number z) m T = num-told 0 z q
  value-told AT.Named m T = meant-value m (find σ.names n) T
  value-told (AT.Truth b) m T = truth-told b q
  value-told AT.ErrorNumber m T = wrong-told
  value-told (AT.Base k) m T = wrong-told
  value-told AT.Nothing m T = wrong-told
