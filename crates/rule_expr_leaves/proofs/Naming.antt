-- The laws of a last name.
use mathlib.Core.Path.{◌≡◌, refl, sym, ap, ◌∙◌}
use mathlib.Core.Bool.{Bool, true, false, true≢false}
use mathlib.Core.List.{List, map}
use mathlib.Core.Option.{Option, none, some}
use Prim.Native.Nat.{ℕ}
use Rattle.leaf_words.specs.declared.words.Word.{Word}
use Rattle.leaf_bytes.specs.Bytes.{small}
use Rattle.leaf_words.specs.Words.{word_of}
use Rattle.law.specs.Base as Base
use Rattle.law.specs.Base.{◌>>=◌}
use Rattle.law.specs.Trees.{word, Trees, end, ◌then◌, Run, first, later, word_at}
use Rattle.law_theorems.specs.Readings.{stack_at}
use Rattle.text_heads.specs.declared.Atom.{Atom}
use Rattle.text_heads.specs.declared.Atom.TheVariants as AT
use Rattle.text_heads.specs.Heads.{atom_of, atom_name}
use Rattle.text_heads.specs.Parts.{closed, name_in, part_of}
use Rattle.text_heads.proofs.Heads.{name-word}
use Rattle.text_heads.proofs.Expressions.{name-form}
use Rattle.text_parts.specs.declared.Part.{Part}
use Rattle.text_parts.specs.declared.Part.TheVariants as part
use Rattle.std.specs.Prelude.{Option as Maybe, Some, None}
use Rattle.text_parts.specs.Parts.{Stands, Shuts}
use Rattle.rule_expr_leaves.specs.Fields.{is_named, SoleWord, SoleName}

only-named : (a : Atom) → is_named a ≡ true → a ≡ AT.Named
only-named (AT.Number z) h = absurd (true≢false (sym h))
only-named AT.Named h = refl
only-named (AT.Truth b) h = absurd (true≢false (sym h))
only-named AT.ErrorNumber h = absurd (true≢false (sym h))
only-named (AT.Base k) h = absurd (true≢false (sym h))
only-named AT.Nothing h = absurd (true≢false (sym h))

module _ (s : List ℕ) (w : Word) (p q : ℕ) (a : Atom) (i : a ≡ atom_of w) where
  pub sole-past : (n : ℕ) (e : Maybe ℕ) → a ≡ AT.Named → Shuts s q e → e ≡ Some n → SoleWord s w p q (Some (p, n))
  sole-past n e z c f = record { says = (refl, ap is_named (sym i ∙ z), rw f at c.says) }

  pub sole-more : (e : Maybe ℕ) → a ≡ AT.Named → Shuts s q e → e ≡ None → SoleWord s w p q None
  sole-more e z c f = record { says = λ g k. (rw f at c.says) k }

  pub sole-other : ((a ≡ AT.Named) → ⊥) → SoleWord s w p q None
  sole-other z = record { says = λ g k. absurd (z (only-named a (ap is_named i ∙ g))) }

pub ruleset sole-word-laws = (sole-past, sole-more, sole-other)

named-name : (a : Atom) (n : Base.Name) → is_named a ≡ true → atom_name a n ≡ some n
named-name (AT.Number z) n h = absurd (true≢false (sym h))
named-name AT.Named n h = refl
named-name (AT.Truth b) n h = absurd (true≢false (sym h))
named-name AT.ErrorNumber n h = absurd (true≢false (sym h))
named-name (AT.Base k) n h = absurd (true≢false (sym h))
named-name AT.Nothing n h = absurd (true≢false (sym h))

other_name : (a : Atom) (n : Base.Name) → is_named a ≡ false → atom_name a n ≡ none
other_name (AT.Number z) n h = refl
other_name AT.Named n h = absurd (true≢false h)
other_name (AT.Truth b) n h = refl
other_name AT.ErrorNumber n h = refl
other_name (AT.Base k) n h = refl
other_name AT.Nothing n h = refl

-- a name with no end after it
open-name : (o : Option Base.Name) (us : Trees Run) → (us ≡ end → ⊥) → (o >>= λ n. closed us n) ≡ none
unfolding ◌>>=◌ closed
open-name none us h = refl
open-name (some n) end h = absurd (h refl)
open-name (some n) (t then ts) h = refl

no_name : (us : Trees Run) → (◌>>=◌ {A = Base.Name} none λ n. closed us n) ≡ none
unfolding ◌>>=◌
no_name us = refl

module _ (s : List ℕ) (at : ℕ) (x : Part) (c : Stands s at x) where
  pub sole-leaf : (w : Word) (p q : ℕ) (r : Maybe (ℕ × ℕ)) → x ≡ part.Leaf w p q → SoleWord s w p q r → SoleName s at r
  sole-leaf w p q (Some (p', n)) e g =
      let f = rw e at c.says in
      let b = f.0.leaf in
      let y : is_named (atom_of (word_of (word_at s p))) ≡ true = rw (← f.1) g.says.1 in
      record { says = rw (b.here, g.says.0) (name-word (word_at s p) (first (stack_at s q)) ∙ named-name (atom_of (word_of (word_at s p))) (map small (word_at s p)) y, g.says.2.here, b.around ∙ g.says.2.around) }
  sole-leaf w p q None e g =
      let f = rw e at c.says in
      let b = f.0.leaf in
      record { says = rw b.here (go (is_named (atom_of w)) refl f.1) }
    where
      go : (t : Bool) → is_named (atom_of w) ≡ t → w ≡ word_of (word_at s p) → (name_in (word (word_at s p) then first (stack_at s q)) >>= λ n. closed (first (stack_at s q)) n) ≡ none
      go true h k = open-name (name_in (word (word_at s p) then first (stack_at s q))) (first (stack_at s q)) (λ z. g.says h z)
      go false h k = rw (name-word (word_at s p) (first (stack_at s q)) ∙ other_name (atom_of (word_of (word_at s p))) (map small (word_at s p)) (rw (← k) h)) (no_name (first (stack_at s q)))

  sole-form : (p : ℕ) → x ≡ part.Form p → SoleName s at None
  sole-form p e = let f = rw e at c.says in record { says = rw (f.here, name-form (first (stack_at s p)) (first (later (stack_at s p)))) (no_name (first (later (stack_at s p)))) }

  sole-shut : (p : ℕ) → x ≡ part.Shut p → SoleName s at None
  unfolding name_in part_of ◌>>=◌
  sole-shut p e = let f = rw e at c.says in record { says = rw f.here refl }

  pub sole-none : ((w : Word) (p q : ℕ) → x ≡ part.Leaf w p q → ⊥) → SoleName s at None
  sole-none n = go x refl
    where
      go : (y : Part) → x ≡ y → SoleName s at None
      go (part.Leaf w p q) e = absurd (n w p q e)
      go (part.Form p) e = sole-form p e
      go (part.Shut p) e = sole-shut p e

pub ruleset sole-name-laws = (sole-leaf, sole-none)
