-- The names with which parts begin: the ways through `lead_in` and `next_name`.
use mathlib.Core.Path.{◌≡◌, refl, sym, ap, ◌∙◌}
use mathlib.Core.List.{List, ◌∷◌, map}
use mathlib.Core.Option.{Option, none, some}
use Prim.Native.Nat.{ℕ}
use native.Mathlib.Omega.{arith}
use lib.ListN.{length}
use Rattle.std.specs.Prelude.{Some, None}
use Rattle.leaf_bytes.specs.Bytes.{small}
use Rattle.leaf_words.specs.declared.words.Word as Kind
use Rattle.leaf_words.specs.Words.{word_of}
use Rattle.law.specs.Base.{Name, ◌>>=◌}
use Rattle.law.specs.Forms.{free}
use Rattle.law.specs.Trees.{Tree, word, form, Trees, Run, first, later, word_at}
use Rattle.law_theorems.specs.Readings.{stack_at}
use Rattle.law.specs.Words.{Word, word_by, worded, worded_all}
use Rattle.law_theorems.proofs.Inversion.{none-some, some_inj}
use Rattle.law_theorems.proofs.Reading.{none-word}
use Rattle.text_words.specs.Sights.{Looks}
use Rattle.text_words.specs.declared.sight.Sight.{Sight}
use Rattle.text_words.specs.declared.sight.Sight.TheVariants as sight
use Rattle.text_skips.specs.Skips.{Past}
use Rattle.rule_repeats.specs.declared.keys.Keyed.{Keyed}
use Rattle.rule_repeats.specs.declared.leads.Lead.{Lead}
use Rattle.rule_repeats.specs.Keys.{KeyedAt}
use Rattle.rule_repeats.specs.Leads.{lead_in, lead_of, leads, lead_by, LeadsIn, Nexts}

module _ (s : List ℕ) (at : ℕ) (v : Sight) (L : Looks s (stack_at s at) v) where
  -- ---- `lead_in`

  pub in_leaf : (p : ℕ) → v ≡ sight.Leaf p → LeadsIn s at p
  unfolding lead_in
  in_leaf p e = let g = rw e at L.says in record { name-is = sym (ap (λ (k : List (Trees Run)). lead_in (first k)) g.0) }

  pub in-form : (p : ℕ) → v ≡ sight.Form p → LeadsIn s at (length s)
  unfolding lead_in
  in-form p e = let g = rw e at L.says in record {
    name-is = ap (map small) (none-word s (length s) (omega arith)) ∙ sym (ap (λ (k : List (Trees Run)). lead_in (first k)) g);
  }

  pub in-shut : (q : ℕ) → v ≡ sight.Shut q → LeadsIn s at (length s)
  unfolding lead_in
  in-shut q e = let g = rw e at L.says in record { name-is = ap (map small) (none-word s (length s) (omega arith)) ∙ sym (ap lead_in g.0) }

  pub in-other : ((p : ℕ) → v ≡ sight.Leaf p → ⊥) → LeadsIn s at (length s)
  in-other f = go v refl
    where
      go : (u : Sight) → v ≡ u → LeadsIn s at (length s)
      go (sight.Leaf p) e = absurd (f p e)
      go (sight.Form p) e = in-form p e
      go (sight.Shut q) e = in-shut q e

  -- ---- `next_name`

  pub next-done : (q : ℕ) → v ≡ sight.Shut q → Nexts s at None
  unfolding leads
  next-done q e = let g = rw e at L.says in record { says = ap leads g.0 }

  module _ (p : ℕ) (k : Keyed) (x : Lead) where
    pub next-leaf : v ≡ sight.Leaf p → KeyedAt s p k → x ≡ lead_by p k → Nexts s at (Some (x, k.next))
    unfolding leads lead_of
    next-leaf e K m = let g = rw e at L.says in rw m (record {
      says = (
        ap (λ (z : List (Trees Run)). leads (first z)) g.0 ∙ ap (λ (z : List (Trees Run)). map small (word_at s p) ∷ leads (first z)) (sym K.rest),
        record { low-is = K.low-is; high_is = K.high_is },
      );
    })

    pub next-form : (y q : ℕ) → v ≡ sight.Form p → LeadsIn s p y → KeyedAt s y k → x ≡ lead_by y k → Past s p q → Nexts s at (Some (x, q))
    unfolding leads lead_of
    next-form y q e I K m P = let g = rw e at L.says in rw m (record {
      says = (
        ap (λ (z : List (Trees Run)). leads (first z)) g ∙ ap (λ (w : Name). w ∷ leads (first (later (stack_at s p)))) (sym I.name-is)
            ∙ ap (λ (z : List (Trees Run)). map small (word_at s y) ∷ leads (first z)) P.beyond,
        record { low-is = K.low-is; high_is = K.high_is },
      );
    })

pub ruleset in_laws = (in_leaf, in-other)

pub ruleset next_laws = (next-done, next-leaf, next-form)

-- ---- a part that is a free name begins with it

word-free : (k : Kind.Word) (x : Run) (n : Name) → ((word_by k x >>= λ (v : Word). some (word v)) >>= free) ≡ some n → map small x ≡ n
unfolding word_by ◌>>=◌ free
word-free (Kind.TheVariants.Number z) x n h = none-some h
word-free Kind.TheVariants.Name x n h = some_inj h
word-free (Kind.TheVariants.Reserved k) x n h = none-some h
word-free (Kind.TheVariants.Operator k) x n h = none-some h
word-free Kind.TheVariants.Unknown x n h = none-some h

pub form-free {ℓ} : {X : Type ℓ} (us : Trees Run) (n : Name) → (worded (form us) >>= free) ≡ some n → X
unfolding worded ◌>>=◌ free
form-free {X = X} us n h = go (worded_all us) h
  where
    go : (o : Option (Trees Word)) → ((o >>= λ (vs : Trees Word). some (form vs)) >>= free) ≡ some n → X
    go none h₁ = none-some h₁
    go (some vs) h₁ = none-some h₁

pub lead-free : (t : Tree Run) (n : Name) → (worded t >>= free) ≡ some n → lead_of t ≡ n
unfolding worded lead_of
lead-free (word x) n h = word-free (word_of x) x n h
lead-free (form us) n h = form-free us n h
