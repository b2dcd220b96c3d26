-- What is known in the body after a list: the environment of its parameters.
use mathlib.Core.Path.{◌≡◌, refl, sym, ap, ◌∙◌, subst}
use mathlib.Core.Bool.{true, not, ◌&&◌}
use mathlib.Core.List.{List, ◌∷◌, map}
use mathlib.Core.Option.{Option, none, some}
use Prim.Native.Nat.{ℕ, zero, suc, ◌≤◌}
use native.Mathlib.Omega.{arith}
use borrow.Author.Tests.{ne_eqb}
use lib.ListN.{length}
use Rattle.leaf_bytes.specs.Bytes.{small}
use Rattle.leaf_words.specs.Words.{word_of}
use Rattle.law.specs.Base.{Name, ◌>>=◌, each, find}
use Rattle.law.specs.Environment.{Declared, Environment, NameSort, within}
use Rattle.law.specs.Names.{as_type, distinct, field_names, listed_in, none_known, pair_of, type_of}
use Rattle.law.specs.Syntax.{TypeName}
use Rattle.law.specs.Trees.{Trees, word, form, end, ◌then◌, Run, first}
use Rattle.law_theorems.specs.Readings.{stack_at}
use Rattle.law_theorems.proofs.Inversion.{none-some, some_inj, bind-some, and-true}
use Rattle.text_heads.specs.declared.Atom.{Atom}
use Rattle.text_heads.specs.declared.Atom.TheVariants as AT
use Rattle.text_heads.specs.Heads.{atom_of, atom_name, atom_type}
use Rattle.text_heads.specs.Parts.{closed, name_in, part_of, type_name_in}
use Rattle.text_heads.proofs.Expressions.{name-form, type-form}
use Rattle.text_heads.proofs.Heads.{name-word, type-word}
use Rattle.table_scope.specs.declared.Meaning.{Meaning}
use Rattle.table_scope.specs.declared.Scope.{Scope}
use Rattle.table_scope.specs.Scene.{kind_by, kind_of, declared_in, a-type, a-var, a-proc, a-value, Scene, Told, unknown, known, with_pairs}
use Rattle.table_scope.proofs.Kept.{scene-kept}
use Rattle.table_scope.proofs.Within.{Pairs, no_pairs, a_pair, plain-meaning, scene-within}
use Rattle.rule_declarations.specs.Names.{last_type}
use Rattle.rule_declarations.specs.State.{Holds}
use Rattle.rule_declarations.specs.declared.State.{State}
use Rattle.rule_pairs.specs.Pairs.{pair_by, pair_parts, pairs_in}
use Rattle.rule_parameters.proofs.Lists.{each-inv, each_none}
use Rattle.rule_parameters.specs.Framing.{lets_in, scope_after, Above}
use Rattle.rule_parameters.specs.Listing.{list_new}
use Rattle.rule_parameters.specs.declared.listing.Listed.{Listed}

-- ---- the type that a pair names, by the tables

module _ (σ : Environment) (bs : List ℕ) (n : Name) where
  named-kind : (m : Meaning) (o : Option NameSort) → Told σ bs m o → (k : ℕ) → (o >>= as_type) ≡ some k → kind_by AT.Named m ≡ k
  unfolding ◌>>=◌
  named-kind _ _ unknown k h = none-some h
  named-kind _ _ (known (a-type {t})) k h = some_inj h
  named-kind _ _ (known (a-var v e)) k h = none-some h
  named-kind _ _ (known a-proc) k h = none-some h
  named-kind _ _ (known a-value) k h = none-some h

  kind-told : (a : Atom) → (m : Meaning) → Told σ bs m (find σ.names n) → (t : TypeName) (k : ℕ) → atom_type a n ≡ some t → type_of σ t ≡ some k → kind_by a m ≡ k
  unfolding type_of
  kind-told (AT.Number z) m T t k h g = none-some h
  kind-told AT.Named m T t k h g = named-kind m (find σ.names n) T k (ap (type_of σ) (some_inj h) ∙ g)
  kind-told (AT.Truth b) m T t k h g = none-some h
  kind-told AT.ErrorNumber m T t k h g = none-some h
  kind-told (AT.Base zero) m T t k h g = some_inj (ap (type_of σ) (some_inj h) ∙ g)
  kind-told (AT.Base (suc zero)) m T t k h g = some_inj (ap (type_of σ) (some_inj h) ∙ g)
  kind-told (AT.Base (suc (suc b))) m T t k h g = none-some h
  kind-told AT.Nothing m T t k h g = none-some h

type-end : type_name_in end ≡ none
unfolding type_name_in part_of ◌>>=◌
type-end = refl

name-end : name_in end ≡ none
unfolding name_in part_of ◌>>=◌
name-end = refl

closed_same : (vs : Trees Run) (a b : TypeName) → closed vs a ≡ some b → a ≡ b
unfolding closed
closed_same end a b q = some_inj q
closed_same (v then vs) a b q = none-some q

name-there : (a : Atom) (n w : Name) → atom_name a n ≡ some w → n ≡ w
name-there AT.Named n w h = some_inj h
name-there (AT.Number z) n w h = none-some h
name-there (AT.Truth b) n w h = none-some h
name-there AT.ErrorNumber n w h = none-some h
name-there (AT.Base k) n w h = none-some h
name-there AT.Nothing n w h = none-some h

module _ (s l : List ℕ) (scope : Scope) {σ : Environment} {bs : List ℕ} (told : (w : Name) → Told σ bs (declared_in s l scope w) (find σ.names w)) where
  kind-there : (us : Trees Run) (t : TypeName) (k : ℕ) → last_type us ≡ some t → type_of σ t ≡ some k → kind_of s l scope us ≡ k
  unfolding kind_of last_type
  kind-there end t k h g = bind-some h λ u hu _. none-some (sym type-end ∙ hu)
  kind-there (form us then ts) t k h g = bind-some h λ u hu _. none-some (sym (type-form us ts) ∙ hu)
  kind-there (word y then ts) t k h g = bind-some h λ u hu e.
      kind-told σ bs (map small y) (atom_of (word_of y)) (declared_in s l scope (map small y)) (told (map small y)) u k (sym (type-word y ts) ∙ hu) (ap (type_of σ) (closed_same ts u t e) ∙ g)

  pub pairs-there : (us : Trees Run) (ps : List (Name × TypeName)) (qs : List (Name × ℕ)) → pairs_in us ≡ some ps → each (pair_of σ) ps ≡ some qs → Pairs s l scope us qs
  unfolding pairs_in pair_by pair_parts
  pairs-there end ps qs h g = rw (each_none σ qs (ap (each (pair_of σ)) (some_inj h) ∙ g)) no_pairs
  pairs-there (word x then ts) ps qs h g = bind-some h λ f hf _. none-some hf
  pairs-there (form end then ts) ps qs h g = bind-some h λ f hf _. bind-some hf λ n hn _. none-some (sym name-end ∙ hn)
  pairs-there (form (form vs then us) then ts) ps qs h g = bind-some h λ f hf _. bind-some hf λ n hn _. none-some (sym (name-form vs us) ∙ hn)
  pairs-there (form (word x then us) then ts) ps qs h g =
      bind-some h λ f hf h₁. bind-some h₁ λ fs hs e. bind-some hf λ n hn h₂. bind-some h₂ λ t ht i.
      let c : (n, t) ∷ fs ≡ ps = ap (λ (p : Name × TypeName). p ∷ fs) (some_inj i) ∙ some_inj e in
      let v = each-inv σ n t fs qs (ap (each (pair_of σ)) c ∙ g) in
      let m : map small x ≡ n = name-there (atom_of (word_of x)) (map small x) n (sym (name-word x us) ∙ hn) in
      subst (λ (zs : List (Name × ℕ)). Pairs s l scope (form (word x then us) then ts) zs) (ap (λ (y : Name). (y, v.0) ∷ v.1) m ∙ sym v.4) (a_pair (kind-there us t v.0 ht v.2) (pairs-there ts fs v.1 hs v.3))

-- ---- the scope of the body

module _ {s l ts : List ℕ} {st : State} {k : Declared} {bs : List ℕ} (H : Holds s l ts st k bs) (c : Listed) (later : 1 ≤ c.pairs) (lets : lets_in c.fault ≡ true)
    (ps : List (Name × TypeName)) (qs : List (Name × ℕ)) (read : pairs_in (first (stack_at s c.pairs)) ≡ some ps) (typed : each (pair_of k.env) ps ≡ some qs) (few : length qs ≤ 16384)
    (w : Name) (new : list_new k.env w qs ≡ true) where
  scope-there : scope_after st c ≡ with_pairs st.scope c.pairs (length k.env.vars) (length k.env.parameters)
  unfolding scope_after
  scope-there = rw (ne_eqb c.pairs 0 (λ e. omega (arith, e, later)), lets, H.vars-are, H.parameters-are) refl

  apart : distinct k.env (field_names k.env qs) ≡ true
  unfolding list_new distinct
  apart = (and-true (not (listed_in k.env w (field_names k.env qs))) (distinct k.env (field_names k.env qs))
      (and-true (not (listed_in k.env w (field_names k.env qs)) && distinct k.env (field_names k.env qs)) (none_known k.env (field_names k.env qs)) new).0).1

  pub opened-scene : {r : ℕ} {l' : List ℕ} → Above st.top l r l' → Scene s l' ts (scope_after st c) r (within k.env qs) bs
  unfolding declared_in
  opened-scene A =
      let P = pairs-there s l (with_pairs st.scope c.pairs (length k.env.vars) (length k.env.parameters)) {σ = k.env} {bs = bs} (λ v. rw (← plain-meaning s l st.scope H.plain v) (H.scene.names v)) (first (stack_at s c.pairs)) ps qs read typed in
      let S = scene-within st.scope k.env H.scene H.plain c.pairs (λ e. omega (arith, e, later)) (omega (arith, H.vars-are, H.few-vars)) (omega (arith, H.parameters-are, H.few-parameters)) H.small-types qs few apart P in
      rw scope-there (scene-kept S A.keeps A.up)
