-- The laws of reading parts: what is seen at an offset as a part of a form.
use mathlib.Core.Path.{◌≡◌, refl, sym, ap, ◌∙◌, subst}
use mathlib.Core.List.{List}
use Rattle.std.specs.Prelude.{Some, None}
use Prim.Native.Nat.{ℕ}
use Rattle.leaf_words.specs.declared.words.Word.{Word}
use Rattle.law.specs.Trees.{Tree, word, Trees, end, ◌then◌, Run, first, later, push, word_at}
use Rattle.law_theorems.specs.Readings.{rest_at, stack_at}
use Rattle.text_words.specs.declared.sight.Sight.{Sight}
use Rattle.text_words.specs.declared.sight.Sight.TheVariants as sight
use Rattle.text_words.specs.declared.sight.Seen.{Seen}
use Rattle.text_words.specs.Sights.{Looks, Reads}
use Rattle.text_parts.specs.declared.Part.{Part}
use Rattle.text_parts.specs.declared.Part.TheVariants as part
use Rattle.text_parts.specs.Parts.{LeafAt, FormAt, ShutAt, LeafStands, Stands, Shuts}

pub leaf-is : (s : List ℕ) (p : ℕ) (r : Seen) (w : Word) → Reads s p r → w ≡ r.word → LeafStands s p (part.Leaf w p r.next)
leaf-is s p r w h e = record { says = (refl, h.rest, e ∙ h.said) }

no_end : {t : Tree Run} {ts : Trees Run} → (t then ts) ≡ end → ⊥
no_end h = subst more? h tt
  where
    more? : Trees Run → Type 0
    more? end = ⊥
    more? (t then ts) = Unit {0}

leaf-at : (s : List ℕ) (at p q : ℕ) → stack_at s at ≡ push (word (word_at s p)) (rest_at s p) → stack_at s q ≡ rest_at s p → LeafAt s at p q
leaf-at s at p q h e = record {
  leaf = record {
    here = ap first h ∙ ap (λ k. word (word_at s p) then first k) (sym e);
    around = ap later h ∙ ap later (sym e);
  };
}

module _ (s : List ℕ) (at : ℕ) (x : Sight) (h : Looks s (stack_at s at) x) where
  form-at : (p : ℕ) → x ≡ sight.Form p → FormAt s at p
  form-at p e = let g = rw e at h.says in record { here = ap first g; around = ap later g }

  shut_at : (p : ℕ) → x ≡ sight.Shut p → ShutAt s at p
  shut_at p e = let g = rw e at h.says in record { here = g.0; around = g.1 }

  pub part-form : (p : ℕ) → x ≡ sight.Form p → Stands s at (part.Form p)
  part-form p e = record { says = form-at p e }

  pub part-shut : (p : ℕ) → x ≡ sight.Shut p → Stands s at (part.Shut p)
  part-shut p e = record { says = shut_at p e }

  pub part-leaf : (p : ℕ) (r : Part) → x ≡ sight.Leaf p → LeafStands s p r → Stands s at r
  part-leaf p (part.Leaf w p' q) e f =
      let g : stack_at s at ≡ push (word (word_at s p)) (rest_at s p) = (rw e at h.says).0 in
      record { says = rw f.says.0 (leaf-at s at p q g f.says.1, f.says.2) }
  part-leaf p (part.Form p') e f = absurd f.says
  part-leaf p (part.Shut q) e f = absurd f.says

  pub end-shut : (p : ℕ) → x ≡ sight.Shut p → Shuts s at (Some p)
  end-shut p e = record { says = shut_at p e }

  pub end-form : (p : ℕ) → x ≡ sight.Form p → Shuts s at None
  end-form p e = record { says = λ z. no_end (sym (form-at p e).here ∙ z) }

  pub end-leaf : (p : ℕ) → x ≡ sight.Leaf p → Shuts s at None
  end-leaf p e = record { says = λ z. no_end (sym (ap first (rw e at h.says).0) ∙ z) }

pub ruleset part_laws = (part-form, part-shut, part-leaf)

pub ruleset end_laws = (end-shut, end-form, end-leaf)
