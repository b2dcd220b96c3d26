-- Forms of types with two parts and a rule: their stages from those of the parts.
use mathlib.Core.Path.{◌≡◌, refl, sym, ap, ◌∙◌}
use mathlib.Core.Bool.{Bool, true, false, cond, ◌&&◌, not}
use mathlib.Core.Logic.{◌⊎◌, inl, inr}
use mathlib.Core.List.{[], ◌∷◌}
use mathlib.Core.Option.{Option, none, some}
use Rattle.law.specs.Base.{Name, ◌>>=◌, given}
use Rattle.law.specs.Environment.{Declared}
use Rattle.law.specs.Names.{is_known, new_names, entry_of}
use Rattle.law.specs.Rules.{keeps_rules, kept_decl}
use Rattle.law.specs.Script.{Decl, Entry, new_type}
use Rattle.rule_stages.specs.Stages as Stages
use Rattle.rule_stages.specs.Stages.{Staged, wrong, unnamed, unfit, fits, ruled, staged, join, on_fits, unknown}
use Rattle.law.specs.Syntax.{LineForm}
use Rattle.rule_faults.specs.declared.Fault.{Fault}
use Rattle.rule_faults.specs.declared.Fault.TheVariants.{Clear, Kind}
use Rattle.rule_faults.specs.Got.{lowest, fault_of}
use Rattle.rule_atoms.proofs.Telling.{fits-inj, unfit-fits, wrong-fits, unnamed-fits}
use Rattle.rule_declarations.specs.Lines.{entry_staged, newly}
use Rattle.rule_declarations.proofs.VarLines.{new-one}

pub newly-wrong : {A B : Type 0} (b : Bool) (g : A → Staged B) → newly b wrong g ≡ wrong
unfolding newly unknown on_fits
newly-wrong true g = refl
newly-wrong false g = refl

newly-unnamed : {A B : Type 0} (b : Bool) (g : A → Staged B) → newly b unnamed g ≡ unnamed
unfolding newly unknown on_fits
newly-unnamed true g = refl
newly-unnamed false g = refl

module _ {A₁ A₂ B₁ B₂ : Type 0} (k : Declared) (w : Name) (n₁ : A₁ → Option B₁) (n₂ : A₂ → Option B₂) (r₁ : B₁ → Bool) (r₂ : B₂ → Bool)
    (F : A₁ → A₂ → LineForm) (D : B₁ → B₂ → Decl) (rule : B₁ → B₂ → Bool)
    (hn : (a : A₁) (b : A₂) → entry_of k.env (F a b) ≡ (n₁ a >>= λ (x : B₁). n₂ b >>= λ (y : B₂). given (new_names k.env (w ∷ [])) (new_type w (D x y))))
    (hr : (x : B₁) (y : B₂) → kept_decl k.env.types (D x y) ≡ ((r₁ x && r₂ y) && rule x y)) where
  abbrev J : Staged B₁ → Staged B₂ → Staged Decl
  J S T = join S T (λ (x : B₁) (y : B₂). ruled (rule x y) (some (D x y)))

  abbrev N : Decl → Staged Entry
  N d = fits (new_type w d)

  right-wrong : (S : Staged B₁) → J S wrong ≡ wrong
  unfolding join
  right-wrong wrong = refl
  right-wrong unnamed = refl
  right-wrong unfit = refl
  right-wrong (fits x) = refl

  left-unnamed : (o : Option B₂) → J unnamed (Stages.named o r₂ some) ≡ unnamed
  unfolding join Stages.named ruled
  left-unnamed none = refl
  left-unnamed (some y) = go (r₂ y)
    where
      go : (q : Bool) → J unnamed (ruled q (some y)) ≡ unnamed
      go true = refl
      go false = refl

  right-unnamed : (p : Bool) (x : B₁) → J (ruled p (some x)) unnamed ≡ unnamed
  unfolding join ruled
  right-unnamed true x = refl
  right-unnamed false x = refl

  both-fit : (b p q e : Bool) (x : B₁) (y : B₂) → rule x y ≡ e
      → Stages.named (given (not b) (new_type w (D x y))) (λ (z : Entry). (p && q) && e) some ≡ newly b (J (ruled p (some x)) (ruled q (some y))) N
  unfolding join Stages.named ruled given newly unknown on_fits
  both-fit true true true true x y h = rw h refl
  both-fit true true true false x y h = rw h refl
  both-fit true true false e x y h = refl
  both-fit true false true e x y h = refl
  both-fit true false false e x y h = refl
  both-fit false true true true x y h = rw h refl
  both-fit false true true false x y h = rw h refl
  both-fit false true false e x y h = refl
  both-fit false false true e x y h = refl
  both-fit false false false e x y h = refl

  kept : (x : B₁) (y : B₂) (z : Bool) → Stages.named (given z (new_type w (D x y))) (keeps_rules k.env.types) some
      ≡ Stages.named (given z (new_type w (D x y))) (λ (_ : Entry). (r₁ x && r₂ y) && rule x y) some
  unfolding given Stages.named keeps_rules
  kept x y true = ap (λ (q : Bool). ruled q (some (new_type w (D x y)))) (hr x y)
  kept x y false = refl

  resolved : (u : Option B₁) (v : Option B₂) → Stages.named (u >>= λ (x : B₁). v >>= λ (y : B₂). given (not (is_known k.env w)) (new_type w (D x y))) (keeps_rules k.env.types) some
      ≡ newly (is_known k.env w) (J (Stages.named u r₁ some) (Stages.named v r₂ some)) N
  unfolding Stages.named ◌>>=◌
  resolved none v = sym (ap (λ (S : Staged Decl). newly (is_known k.env w) S N) (left-unnamed v) ∙ newly-unnamed (is_known k.env w) N)
  resolved (some x) none = sym (ap (λ (S : Staged Decl). newly (is_known k.env w) S N) (right-unnamed (r₁ x) x) ∙ newly-unnamed (is_known k.env w) N)
  resolved (some x) (some y) = kept x y (not (is_known k.env w)) ∙ both-fit (is_known k.env w) (r₁ x) (r₂ y) (rule x y) x y refl

  pub two-staged : (o₁ : Option A₁) (o₂ : Option A₂) → entry_staged k (o₁ >>= λ (a : A₁). o₂ >>= λ (b : A₂). some (F a b))
      ≡ newly (is_known k.env w) (J (staged o₁ n₁ r₁ some) (staged o₂ n₂ r₂ some)) N
  unfolding entry_staged staged ◌>>=◌ join
  two-staged none o₂ = sym (newly-wrong (is_known k.env w) N)
  two-staged (some a) none = sym (ap (λ (S : Staged Decl). newly (is_known k.env w) S N) (right-wrong (Stages.named (n₁ a) r₁ some)) ∙ newly-wrong (is_known k.env w) N)
  two-staged (some a) (some b) =
      ap (λ (o : Option Entry). Stages.named o (keeps_rules k.env.types) some)
      (hn a b ∙ ap (λ (z : Bool). n₁ a >>= λ (x : B₁). n₂ b >>= λ (y : B₂). given z (new_type w (D x y))) (new-one k.env w))
      ∙ resolved (n₁ a) (n₂ b)

-- ---- faults, and what fits

last-fault : (t : Bool) (d : Decl) → cond t Clear Kind ≡ fault_of (ruled t (some d))
unfolding ruled
last-fault true d = refl
last-fault false d = refl

module _ {A B : Type 0} (D : A → B → Decl) (rule : A → B → Bool) where
  pub two-fault : (S : Staged A) (T : Staged B) (v : Fault) → ((x : A) (y : B) → S ≡ fits x → T ≡ fits y → v ≡ cond (rule x y) Clear Kind) → (v ≡ Clear) ⊎ (v ≡ Kind)
      → lowest (lowest (fault_of S) (fault_of T)) v ≡ fault_of (join S T (λ (x : A) (y : B). ruled (rule x y) (some (D x y))))
  unfolding join
  two-fault wrong T v h c = refl
  two-fault unnamed wrong v h c = refl
  two-fault unnamed unnamed v h (inl e) = rw e refl
  two-fault unnamed unnamed v h (inr e) = rw e refl
  two-fault unnamed unfit v h (inl e) = rw e refl
  two-fault unnamed unfit v h (inr e) = rw e refl
  two-fault unnamed (fits y) v h (inl e) = rw e refl
  two-fault unnamed (fits y) v h (inr e) = rw e refl
  two-fault unfit wrong v h c = refl
  two-fault unfit unnamed v h (inl e) = rw e refl
  two-fault unfit unnamed v h (inr e) = rw e refl
  two-fault unfit unfit v h (inl e) = rw e refl
  two-fault unfit unfit v h (inr e) = rw e refl
  two-fault unfit (fits y) v h (inl e) = rw e refl
  two-fault unfit (fits y) v h (inr e) = rw e refl
  two-fault (fits x) wrong v h c = refl
  two-fault (fits x) unnamed v h (inl e) = rw e refl
  two-fault (fits x) unnamed v h (inr e) = rw e refl
  two-fault (fits x) unfit v h (inl e) = rw e refl
  two-fault (fits x) unfit v h (inr e) = rw e refl
  two-fault (fits x) (fits y) v h c = h x y refl refl ∙ last-fault (rule x y) (D x y)

  pub two_made : (S : Staged A) (T : Staged B) (d : Decl) → join S T (λ (x : A) (y : B). ruled (rule x y) (some (D x y))) ≡ fits d
      → (x : A) × (y : B) × (S ≡ fits x) × (T ≡ fits y) × (rule x y ≡ true) × (D x y ≡ d)
  unfolding join ruled
  two_made wrong T d h = wrong-fits h
  two_made unnamed wrong d h = wrong-fits h
  two_made unnamed unnamed d h = unnamed-fits h
  two_made unnamed unfit d h = unnamed-fits h
  two_made unnamed (fits y) d h = unnamed-fits h
  two_made unfit wrong d h = wrong-fits h
  two_made unfit unnamed d h = unnamed-fits h
  two_made unfit unfit d h = unfit-fits h
  two_made unfit (fits y) d h = unfit-fits h
  two_made (fits x) wrong d h = wrong-fits h
  two_made (fits x) unnamed d h = unnamed-fits h
  two_made (fits x) unfit d h = unfit-fits h
  two_made (fits x) (fits y) d h = go (rule x y) refl h
    where
      go : (t : Bool) → rule x y ≡ t → ruled t (some (D x y)) ≡ fits d → (x' : A) × (y' : B) × (fits x ≡ fits x') × (fits y ≡ fits y') × (rule x' y' ≡ true) × (D x' y' ≡ d)
      go true e g = (x, y, refl, refl, e, fits-inj g)
      go false e g = unfit-fits g
