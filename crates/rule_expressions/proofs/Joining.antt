-- Answers for two parts, or one, joined into that for a form: the lower fault, or the node of what both elaborate to.
use mathlib.Core.Path.{◌≡◌, refl, subst}
use mathlib.Core.List.{List}
use mathlib.Core.Option.{Option, none, some}
use Prim.Native.Nat.{ℕ}
use Rattle.code.specs.Layout.{Out, out}
use Rattle.rule_stages.specs.Stages.{Staged, wrong, unnamed, unfit, fits, join, on_fits, or_unfit}
use Rattle.rule_faults.specs.declared.Fault.{Fault}
use Rattle.rule_faults.specs.declared.Fault.TheVariants.{Clear, Kind, Name, Form}
use Rattle.rule_faults.specs.declared.Got.{Got}
use Rattle.rule_faults.specs.Got.{lowest, fault_of, Told}
use Rattle.rule_expr_nodes.specs.Nodes.{Made, if_clear}

-- ---- a fault is no fit

abbrev IsFits : {A : Type 0} → Staged A → Type 0
IsFits wrong = Unit {0}
IsFits unnamed = Unit {0}
IsFits unfit = Unit {0}
IsFits (fits a) = ⊥

pub wrong-fits : {A : Type 0} {a : A} → wrong ≡ fits a → ⊥
wrong-fits {A} h = subst (IsFits {A = A}) h tt

pub unnamed-fits : {A : Type 0} {a : A} → unnamed ≡ fits a → ⊥
unnamed-fits {A} h = subst (IsFits {A = A}) h tt

pub unfit-fits : {A : Type 0} {a : A} → unfit ≡ fits a → ⊥
unfit-fits {A} h = subst (IsFits {A = A}) h tt

-- what fits has no fault, and the other way round
pub fits-inj : {A : Type 0} {a b : A} → fits a ≡ fits b → a ≡ b
fits-inj h = cc

pub form-wrong : {A : Type 0} (S : Staged A) → fault_of S ≡ Form → S ≡ wrong
form-wrong wrong h = refl
form-wrong unnamed h = cc
form-wrong unfit h = cc
form-wrong (fits a) h = cc

module _ {A : Type 0} {K : A → ℕ} {L : A → ℕ → List ℕ → Out} {top : ℕ} {l : List ℕ} {g : Got} {l' : List ℕ} where
  pub told-wrong : g.fault ≡ Form → Told wrong K L top l g l'
  told-wrong h = record { fault-is = h; laid = λ a e. absurd (wrong-fits e) }

  pub told-unnamed : g.fault ≡ Name → Told unnamed K L top l g l'
  told-unnamed h = record { fault-is = h; laid = λ a e. absurd (unnamed-fits e) }

  pub told-unfit : g.fault ≡ Kind → Told unfit K L top l g l'
  told-unfit h = record { fault-is = h; laid = λ a e. absurd (unfit-fits e) }

  pub told-fits : (a : A) → g.fault ≡ Clear → g.kind ≡ K a → out g.place g.top l' ≡ L a top l → Told (fits a) K L top l g l'
  told-fits a f k o = record { fault-is = f; laid = λ b e. rw (← fits-inj e) (k, o) }

  -- the same answer and list under other names
  pub told-as : {S S' : Staged A} {g' : Got} {l'' : List ℕ} → S' ≡ S → g' ≡ g → l'' ≡ l' → Told S K L top l g l' → Told S' K L top l g' l''
  told-as e f h t = rw (e, f, h) t

-- ---- two parts, and one

module _ {A B C : Type 0} {K : C → ℕ} {L : C → ℕ → List ℕ → Out} {top : ℕ} {l : List ℕ} (f h : Fault) (k q t : ℕ) (m : List ℕ) (M : Made) where
  pub told-join : (S : Staged A) (T : Staged B) (F : A → B → Staged C) → f ≡ fault_of S → h ≡ fault_of T
      → ((x : A) (y : B) → S ≡ fits x → T ≡ fits y → Told (F x y) K L top l M.got M.list)
      → Told (join S T F) K L top l (if_clear (lowest f h) k q t m M).got (if_clear (lowest f h) k q t m M).list
  unfolding join if_clear
  told-join wrong T F e d z = rw e (told-wrong refl)
  told-join unnamed wrong F e d z = rw (e, d) (told-wrong refl)
  told-join unnamed unnamed F e d z = rw (e, d) (told-unnamed refl)
  told-join unnamed unfit F e d z = rw (e, d) (told-unnamed refl)
  told-join unnamed (fits y) F e d z = rw (e, d) (told-unnamed refl)
  told-join unfit wrong F e d z = rw (e, d) (told-wrong refl)
  told-join unfit unnamed F e d z = rw (e, d) (told-unnamed refl)
  told-join unfit unfit F e d z = rw (e, d) (told-unfit refl)
  told-join unfit (fits y) F e d z = rw (e, d) (told-unfit refl)
  told-join (fits x) wrong F e d z = rw (e, d) (told-wrong refl)
  told-join (fits x) unnamed F e d z = rw (e, d) (told-unnamed refl)
  told-join (fits x) unfit F e d z = rw (e, d) (told-unfit refl)
  told-join (fits x) (fits y) F e d z = rw (e, d) (z x y refl refl)

module _ {A C : Type 0} {K : C → ℕ} {L : C → ℕ → List ℕ → Out} {top : ℕ} {l : List ℕ} (f : Fault) (k q t : ℕ) (m : List ℕ) (M : Made) where
  pub told-one : (S : Staged A) (F : A → Staged C) → f ≡ fault_of S → ((x : A) → S ≡ fits x → Told (F x) K L top l M.got M.list)
      → Told (on_fits S F) K L top l (if_clear f k q t m M).got (if_clear f k q t m M).list
  unfolding on_fits if_clear
  told-one wrong F e z = rw e (told-wrong refl)
  told-one unnamed F e z = rw e (told-unnamed refl)
  told-one unfit F e z = rw e (told-unfit refl)
  told-one (fits x) F e z = rw e (z x refl)

-- what fits, or is a misfit
pub told-or : {C : Type 0} {K : C → ℕ} {L : C → ℕ → List ℕ → Out} {top : ℕ} {l : List ℕ} {g : Got} {l' : List ℕ} (o : Option C)
    → (o ≡ none → g.fault ≡ Kind) → ((c : C) → o ≡ some c → (g.fault ≡ Clear) × (g.kind ≡ K c) × (out g.place g.top l' ≡ L c top l)) → Told (or_unfit o) K L top l g l'
unfolding or_unfit
told-or none n s = told-unfit (n refl)
told-or (some c) n s = let x = s c refl in told-fits c x.0 x.1 x.2
