-- The ways through words and names.
use mathlib.Core.Path.{◌≡◌, refl, sym, ap, ◌∙◌}
use mathlib.Core.Bool.{Bool, true, false, true≢false}
use mathlib.Core.List.{List, map}
use mathlib.Core.Option.{Option, none, some}
use Prim.Native.Nat.{ℕ, ◌<◌}
use native.Mathlib.Omega.{arith}
use borrow.Author.Rules.{sfits_of}
use lib.IntN.{ℤ, pos}
use mir.Syntax.{w32, w64}
use mir.Val.{SFits, Fits}
use mir.Facts.{to_z-of_z}
use Rattle.leaf_integers.proofs.Machine.{wire}
use Rattle.leaf_words.specs.declared.words.Word.{Word}
use Rattle.leaf_bytes.specs.Bytes.{small}
use Rattle.law.specs.Base.{◌>>=◌, find}
use Rattle.law.specs.Calculate as Calculate
use Rattle.law.specs.Calculate.{is}
use Rattle.law.specs.Environment.{Environment, NameSort, a_var, a_value}
use Rattle.law.specs.Machine.{Store}
use Rattle.law.specs.Marking.{typed_place, mark_expr, mark_target}
use Rattle.law.specs.Names.{as_expr, as_var, const_of, expr_of, target_of, var_of, type_of, atom_of as atom_meant}
use Rattle.law.specs.Script.{const, read, error_number, var}
use Rattle.rule_stages.specs.Stages.{staged, named, ruled}
use Rattle.law.specs.Syntax as Syntax
use Rattle.law.specs.Trees.{first, word_at}
use Rattle.law_theorems.specs.Readings.{stack_at}
use Rattle.law.specs.Types.{Var, variable}
use Rattle.law_theorems.proofs.Inversion.{none-some, some_inj, bind-some}
use Rattle.text_heads.specs.declared.Atom.{Atom}
use Rattle.text_heads.specs.declared.Atom.TheVariants as AT
use Rattle.text_heads.specs.declared.ExprHead.TheVariants as EH
use Rattle.text_heads.specs.Heads.{atom_of}
use Rattle.text_heads.specs.Parts.{type_name_in}
use Rattle.table_scope.specs.declared.Scope.{Scope}
use Rattle.table_scope.specs.declared.Meaning.{Meaning}
use Rattle.table_scope.specs.declared.Meaning.TheVariants as meaning
use Rattle.table_scope.specs.Scene.{Told, unknown, known, a-type, a-var, a-proc, a-value, meaning_here}
use Rattle.table_scope.proofs.Telling.{kinded, meant}
use Rattle.rule_atoms.specs.declared.Typed.{Typed}
use Rattle.rule_atoms.specs.Answering.{GivesType}
use Rattle.mark_values.specs.declared.values.Carried.{Carried}
use Rattle.mark_values.specs.declared.places.Reached.{Reached}
use Rattle.mark_values.specs.Values.{reached_of, Reaches, Known}
use Rattle.mark_values.specs.Steps.{Constants, Ends, Latest, Loads}
use Rattle.mark_values.proofs.Reaching.{reaches-place}
use Rattle.mark_expressions.specs.Marks.{Marked, MarkedPlace, MarksForm, MarksWord, MarksVar, MarksName, MarksPlaceName}
use Rattle.mark_expressions.proofs.Inverting.{bound-part}

-- nothing was read
pub no-expr : {σ : Environment} {ws : List ℤ} {o : Option Syntax.Expr} {r : Carried} → o ≡ none → Marked σ ws o r
no-expr n = record { says = λ x e h k m H. none-some (sym n ∙ h) }

pub no_target : {σ : Environment} {ws : List ℤ} {o : Option Syntax.Target} {r : Reached} → o ≡ none → MarkedPlace σ ws o r
no_target n = record { says = λ x g h k m H. none-some (sym n ∙ h) }

-- ---- meanings

module _ {P : Type 0} (σ : Environment) (bs : List ℕ) where
  as-var : (x : Meaning) (n : Option NameSort) → Told σ bs x n → (n' k a : ℕ) → x ≡ meaning.Var n' k a
      → ((j : ℕ) (v : Var) → variable σ.vars j ≡ some v → v.type ≡ k → v.base ≡ a → n ≡ some (a_var j) → P) → P
  as-var _ _ unknown n' k a e f = let z : ◌≡◌ {A = ℕ} 0 1 = cc in absurd (omega arith)
  as-var _ _ (known a-type) n' k a e f = let z : ◌≡◌ {A = ℕ} 0 1 = cc in absurd (omega arith)
  as-var _ _ (known (a-var {i} v h)) n' k a e f =
      let p : v.type ≡ k = cc in
      let q : v.base ≡ a = cc in
      f i v h p q refl
  as-var _ _ (known a-proc) n' k a e f = let z : ◌≡◌ {A = ℕ} 0 1 = cc in absurd (omega arith)
  as-var _ _ (known a-value) n' k a e f = let z : ◌≡◌ {A = ℕ} 0 1 = cc in absurd (omega arith)

  as-value : (x : Meaning) (n : Option NameSort) → Told σ bs x n → (j a : ℕ) → x ≡ meaning.Value j a → (n ≡ some (a_value (const_of j (pos a))) → P) → P
  as-value _ _ unknown j a e f = let z : ◌≡◌ {A = ℕ} 0 1 = cc in absurd (omega arith)
  as-value _ _ (known a-type) j a e f = let z : ◌≡◌ {A = ℕ} 0 1 = cc in absurd (omega arith)
  as-value _ _ (known (a-var v h)) j a e f = let z : ◌≡◌ {A = ℕ} 0 1 = cc in absurd (omega arith)
  as-value _ _ (known a-proc) j a e f = let z : ◌≡◌ {A = ℕ} 0 1 = cc in absurd (omega arith)
  as-value _ _ (known (a-value {k} {n})) j a e f =
      let p : k ≡ j = cc in
      let q : n ≡ a = cc in
      f (rw (p, q) refl)

-- no expression; no variable
abbrev nameless : Meaning → Bool
nameless meaning.Unknown = true
nameless (meaning.Type t) = true
nameless (meaning.Var i k a) = false
nameless (meaning.Proc p) = true
nameless (meaning.Value k a) = false

abbrev placeless : Meaning → Bool
placeless meaning.Unknown = true
placeless (meaning.Type t) = true
placeless (meaning.Var i k a) = false
placeless (meaning.Proc p) = true
placeless (meaning.Value k a) = true

module _ (σ : Environment) (bs : List ℕ) where
  told-nameless : (x : Meaning) (n : Option NameSort) → Told σ bs x n → nameless x ≡ true → (n >>= as_expr) ≡ none
  unfolding ◌>>=◌
  told-nameless _ _ unknown h = refl
  told-nameless _ _ (known a-type) h = refl
  told-nameless _ _ (known (a-var v e)) h = absurd (true≢false (sym h))
  told-nameless _ _ (known a-proc) h = refl
  told-nameless _ _ (known a-value) h = absurd (true≢false (sym h))

  told-placeless : (x : Meaning) (n : Option NameSort) → Told σ bs x n → placeless x ≡ true → (n >>= as_var) ≡ none
  unfolding ◌>>=◌
  told-placeless _ _ unknown h = refl
  told-placeless _ _ (known a-type) h = refl
  told-placeless _ _ (known (a-var v e)) h = absurd (true≢false (sym h))
  told-placeless _ _ (known a-proc) h = refl
  told-placeless _ _ (known a-value) h = refl

-- the place of a variable
var-reaches : (σ : Environment) (j : ℕ) (v : Var) (m : Store) (z : ℤ) → variable σ.vars j ≡ some v → v.base < 4294967296 → z ≡ pos v.base
    → Reaches (mark_target σ.types σ.vars (var j) m) (reached_of v.type z)
unfolding mark_target
var-reaches σ j v m z e b h = rw e (reaches-place (typed_place v.type v.base) z (h ∙ ap pos (omega arith)))

module _ (l ts : List ℕ) (ws : List ℤ) (x : Meaning) (r : Carried) where
  name-none : nameless x ≡ true → MarksName l ts ws x r
  name-none h = record { says = λ s scope σ S n T e k m H. none-some (sym (told-nameless σ S.bodies x n T h) ∙ k) }

  pub name-unknown : x ≡ meaning.Unknown → MarksName l ts ws x r
  name-unknown h = name-none (rw h refl)

  pub name-type : (t : ℕ) → x ≡ meaning.Type t → MarksName l ts ws x r
  name-type t h = name-none (rw h refl)

  pub name-proc : (p : ℕ) → x ≡ meaning.Proc p → MarksName l ts ws x r
  name-proc p h = name-none (rw h refl)

  pub name-var : (i k a : ℕ) (z : ℤ) (g : Reached) → x ≡ meaning.Var i k a → Fits w32 a → z ≡ pos a → SFits w64 z → g ≡ reached_of k (wire z) → Loads l ts ws g r → MarksName l ts ws x r
  unfolding mark_expr ◌>>=◌
  name-var i k a z g h fa ez fz eg L = record {
    says = λ s scope σ S n T e q m H. as-var σ S.bodies x n T i k a h (λ j v ev et eb en.
        let p : read (var j) ≡ e = some_inj (rw en at q) in
        let R : Reaches (mark_target σ.types σ.vars (var j) m) g = rw (eg, to_z-of_z fz, ← et) (var-reaches σ j v m z ev (omega (arith, eb, fa.fits)) (ez ∙ ap pos (sym eb))) in
        rw (← p) (L.says s scope σ S m H (mark_target σ.types σ.vars (var j) m) R));
  }

  pub name-value : (k a : ℕ) (z : ℤ) → x ≡ meaning.Value k a → z ≡ pos a → SFits w64 z → Constants l ts k (wire z) r → MarksName l ts ws x r
  unfolding mark_expr ◌>>=◌
  name-value k a z h ez fz C = record {
    says = λ s scope σ S n T e q m H. as-value σ S.bodies x n T k a h (λ en.
        let p : const (const_of k (pos a)) ≡ e = some_inj (rw en at q) in
        rw (← p, ← ez, ← to_z-of_z fz) (C.says s scope σ S m));
  }

  -- any other
  pub name-rest : ((i k a : ℕ) → x ≡ meaning.Var i k a → ⊥) → ((k a : ℕ) → x ≡ meaning.Value k a → ⊥) → MarksName l ts ws x r
  name-rest f g = go x refl
    where
      go : (y : Meaning) → x ≡ y → MarksName l ts ws x r
      go meaning.Unknown e = name-unknown e
      go (meaning.Type t) e = name-type t e
      go (meaning.Var i k a) e = absurd (f i k a e)
      go (meaning.Proc q) e = name-proc q e
      go (meaning.Value k a) e = absurd (g k a e)

pub ruleset name-laws = (name-unknown, name-type, name-proc, name-var, name-value, sfits_of)

module _ (x : Meaning) (r : Reached) where
  place_none : placeless x ≡ true → MarksPlaceName x r
  place_none h = record { says = λ σ bs n T i k m. none-some (sym (told-placeless σ bs x n T h) ∙ k) }

  pub place-unknown : x ≡ meaning.Unknown → MarksPlaceName x r
  place-unknown h = place_none (rw h refl)

  pub place-type : (t : ℕ) → x ≡ meaning.Type t → MarksPlaceName x r
  place-type t h = place_none (rw h refl)

  pub place-proc : (p : ℕ) → x ≡ meaning.Proc p → MarksPlaceName x r
  place-proc p h = place_none (rw h refl)

  pub place-value : (k a : ℕ) → x ≡ meaning.Value k a → MarksPlaceName x r
  place-value k a h = place_none (rw h refl)

  pub place-var : (i k a : ℕ) (z : ℤ) → x ≡ meaning.Var i k a → Fits w32 a → z ≡ pos a → SFits w64 z → r ≡ reached_of k (wire z) → MarksPlaceName x r
  unfolding ◌>>=◌
  place-var i k a z h fa ez fz e = record {
    says = λ σ bs n T q f m. as-var σ bs x n T i k a h (λ j v ev et eb en.
        let p : j ≡ q = some_inj (rw en at f) in
        rw (← p, e, to_z-of_z fz, ← et) (var-reaches σ j v m z ev (omega (arith, eb, fa.fits)) (ez ∙ ap pos (sym eb))));
  }

  -- any other
  pub place-rest : ((i k a : ℕ) → x ≡ meaning.Var i k a → ⊥) → MarksPlaceName x r
  place-rest f = go x refl
    where
      go : (y : Meaning) → x ≡ y → MarksPlaceName x r
      go meaning.Unknown e = place-unknown e
      go (meaning.Type t) e = place-type t e
      go (meaning.Var i k a) e = absurd (f i k a e)
      go (meaning.Proc q) e = place-proc q e
      go (meaning.Value k a) e = place-value k a e

pub ruleset place-laws = (place-unknown, place-type, place-proc, place-value, place-var, sfits_of)

-- ---- words

module _ (s l ts : List ℕ) (ws : List ℤ) (scope : Scope) (w : Word) (p : ℕ) (a : Atom) (ea : a ≡ atom_of w) (r : Carried) where
  pub word_number : (z : ℤ) → a ≡ AT.Number z → SFits w64 z → Constants l ts 0 (wire z) r → MarksWord s l ts ws scope w p r
  unfolding expr_of atom_meant mark_expr
  word_number z h f C = record {
    says = λ σ S e. record {
      says = λ x y g k m H.
          let q : Syntax.const (Syntax.number z) ≡ x = some_inj (rw (← ea, h) at g) in
          let t : const (const_of 0 z) ≡ y = some_inj (rw (← q) at k) in
          rw (← t, ← to_z-of_z f) (C.says s scope σ S m);
    };
  }

  pub word-truth : (b : Bool) (z : ℤ) → a ≡ AT.Truth b → z ≡ Calculate.truth b → SFits w64 z → Constants l ts 1 (wire z) r → MarksWord s l ts ws scope w p r
  unfolding expr_of atom_meant mark_expr
  word-truth b z h ez f C = record {
    says = λ σ S e. record {
      says = λ x y g k m H.
          let q : Syntax.const (Syntax.truth b) ≡ x = some_inj (rw (← ea, h) at g) in
          let t : const (const_of 1 (Calculate.truth b)) ≡ y = some_inj (rw (← q) at k) in
          rw (← t, ← ez, ← to_z-of_z f) (C.says s scope σ S m);
    };
  }

  pub word-error : a ≡ AT.ErrorNumber → Latest ws r → MarksWord s l ts ws scope w p r
  unfolding expr_of mark_expr
  word-error h L = record {
    says = λ σ S e. record {
      says = λ x y g k m H.
          let q : Syntax.error_number ≡ x = some_inj (rw (← ea, h) at g) in
          let t : error_number ≡ y = some_inj (rw (← q) at k) in
          rw (← t) (L.says σ.types (kinded S.scene).integers m H);
    };
  }

  pub word-base : (k : ℕ) → a ≡ AT.Base k → MarksWord s l ts ws scope w p r
  word-base k h = record { says = λ σ S e. no-expr (rw (← ea, h) refl) }

  pub word-nothing : a ≡ AT.Nothing → MarksWord s l ts ws scope w p r
  word-nothing h = record { says = λ σ S e. no-expr (rw (← ea, h) refl) }

  pub word-named : (x : Meaning) → a ≡ AT.Named → x ≡ meaning_here s l scope p → MarksName l ts ws x r → MarksWord s l ts ws scope w p r
  unfolding expr_of atom_meant
  word-named x h ex N = record {
    says = λ σ S e. record {
      says = λ v y g k m H.
          let q : Syntax.const (Syntax.named (map small (word_at s p))) ≡ v = some_inj (rw (← ea, h) at g) in
          N.says s scope σ S (find σ.names (map small (word_at s p))) (rw ex (meant S.scene (map small (word_at s p)))) y (rw (← q) at k) m H;
    };
  }

  -- any other
  pub word-rest : ((z : ℤ) → a ≡ AT.Number z → ⊥) → ((a ≡ AT.Named) → ⊥) → ((b : Bool) → a ≡ AT.Truth b → ⊥) → ((a ≡ AT.ErrorNumber) → ⊥) → MarksWord s l ts ws scope w p r
  word-rest f g h k = go a refl
    where
      go : (b : Atom) → a ≡ b → MarksWord s l ts ws scope w p r
      go (AT.Number z) e = absurd (f z e)
      go AT.Named e = absurd (g e)
      go (AT.Truth b) e = absurd (h b e)
      go AT.ErrorNumber e = absurd (k e)
      go (AT.Base n) e = word-base n e
      go AT.Nothing e = word-nothing e

pub ruleset word_laws = (word_number, word-truth, word-error, word-base, word-nothing, word-named, sfits_of)

module _ (s l : List ℕ) (scope : Scope) (w : Word) (p : ℕ) (a : Atom) (ea : a ≡ atom_of w) (r : Reached) where
  pub var-number : (z : ℤ) → a ≡ AT.Number z → MarksVar s l scope w p r
  var-number z h = record { says = λ ts ws σ S e. no_target (rw (← ea, h) refl) }

  pub var-truth : (b : Bool) → a ≡ AT.Truth b → MarksVar s l scope w p r
  var-truth b h = record { says = λ ts ws σ S e. no_target (rw (← ea, h) refl) }

  pub var-error : a ≡ AT.ErrorNumber → MarksVar s l scope w p r
  var-error h = record { says = λ ts ws σ S e. no_target (rw (← ea, h) refl) }

  pub var-base : (k : ℕ) → a ≡ AT.Base k → MarksVar s l scope w p r
  var-base k h = record { says = λ ts ws σ S e. no_target (rw (← ea, h) refl) }

  pub var-nothing : a ≡ AT.Nothing → MarksVar s l scope w p r
  var-nothing h = record { says = λ ts ws σ S e. no_target (rw (← ea, h) refl) }

  pub var-named : (x : Meaning) → a ≡ AT.Named → x ≡ meaning_here s l scope p → MarksPlaceName x r → MarksVar s l scope w p r
  unfolding target_of var_of
  var-named x h ex N = record {
    says = λ ts ws σ S e. record {
      says = λ v g q k m H.
          let t : Syntax.var (map small (word_at s p)) ≡ v = some_inj (rw (← ea, h) at q) in
          bind-some (rw (← t) at k) (λ i hi f. bind-some f (λ u hu d.
          rw (← some_inj d) (N.says σ S.bodies (find σ.names (map small (word_at s p))) (rw ex (meant S.scene (map small (word_at s p)))) i hi m)));
    };
  }

  -- any other
  pub var-rest : ((a ≡ AT.Named) → ⊥) → MarksVar s l scope w p r
  var-rest g = go a refl
    where
      go : (b : Atom) → a ≡ b → MarksVar s l scope w p r
      go (AT.Number z) e = var-number z e
      go AT.Named e = absurd (g e)
      go (AT.Truth b) e = var-truth b e
      go AT.ErrorNumber e = var-error e
      go (AT.Base n) e = var-base n e
      go AT.Nothing e = var-nothing e

pub ruleset var-laws = (var-number, var-truth, var-error, var-base, var-nothing, var-named)

-- ---- `first` and `last`

-- the type that is named
pub named-type : {s l ts : List ℕ} {scope : Scope} {at : ℕ} {t : Typed} {σ : Environment} → GivesType s l scope at t → Known s l ts scope σ
    → (x : Syntax.TypeName) (n : ℕ) → type_name_in (first (stack_at s at)) ≡ some x → type_of σ x ≡ some n → t.kind ≡ n
unfolding staged named ruled
named-type {ts = ts} {σ = σ} G S x n h k = (G.says ts S.top σ S.bodies S.scene).kind-is n (rw h (rw k refl))

pub bound-is : (s l ts : List ℕ) (ws : List ℤ) (scope : Scope) (last : Bool) (d at : ℕ) (t : Typed) (r : Carried) → GivesType s l scope at t → Ends l ts last t.kind r
    → MarksForm s l ts ws scope (EH.Bound last) d at r
unfolding expr_of mark_expr
bound-is s l ts ws scope last d at t r G E = record {
  says = λ σ S. record {
    says = λ x y h k m H. bound-part d (first (stack_at s at)) x last h (λ n hn q. bind-some (rw (← q) at k) (λ c hc i.
        rw (← some_inj i, ← named-type G S n c hn hc) (E.says s scope σ S m)));
  };
}
