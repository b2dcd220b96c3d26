-- The key of a word, letter by letter.
use mathlib.Core.Path.{◌≡◌, refl, sym, ap, ◌∙◌}
use mathlib.Core.List.{List, [], map}
use Prim.Native.Nat.{ℕ, ◌+◌, ◌*◌, ◌%◌, ◌<◌, ◌≤◌}
use native.Mathlib.Omega.{arith}
use lib.ListN.{length, get_or}
use Rattle.leaf_bytes.specs.declared.bytes.Class.{Class}
use Rattle.leaf_bytes.specs.declared.bytes.Class.TheVariants.{Feed, Space, Open, Close, Visible, Refused}
use Rattle.leaf_bytes.specs.Bytes.{class_of, small}
use Rattle.law.specs.Trees.{Run, word_at}
use Rattle.law_theorems.specs.Readings.{rest_at}
use Rattle.law_theorems.proofs.Reading.{none-word, none-stack, wordless, word-rest, word-word, space-word, open-word, close-word, feed-word, refused-word}
use Rattle.rule_repeats.specs.declared.keys.Keyed.{Keyed}
use Rattle.rule_repeats.specs.Keys.{key_with, key_from, low_factor, high_factor, low_of, high_of, name_at, keyed_by, KeyedAt}

pub low_more : (k b : ℕ) → (k * 75 + b) % 4294967296 ≡ key_with low_factor k b
unfolding key_with
low_more k b = refl

pub high_more : (k b : ℕ) → (k * 2654435769 + b) % 4294967296 ≡ key_with high_factor k b
unfolding key_with
high_more k b = refl

-- ---- `key_at`

-- the letters from `at` to p are in the numbers
pub record Spelled (s : List ℕ) (at p low high : ℕ) : Type 0 where
  pub low-is : low_of (name_at s at) ≡ key_from low_factor low (name_at s p)
  pub high_is : high_of (name_at s at) ≡ key_from high_factor high (name_at s p)
  pub rest : rest_at s at ≡ rest_at s p

pub spelled-start : (s : List ℕ) (at : ℕ) → Spelled s at at 0 0
unfolding low_of high_of
spelled-start s at = record { low-is = refl; high_is = refl; rest = refl }

module _ (s : List ℕ) (at p low high : ℕ) (S : Spelled s at p low high) where
  module _ (k : Class) (h : p < length s) (e : k ≡ class_of (get_or s p 0)) where
    pub key-on : k ≡ Visible → (b : ℕ) → b ≡ small (get_or s p 0) → (low' : ℕ) → low' ≡ key_with low_factor low b → (high' : ℕ) → high' ≡ key_with high_factor high b
        → Spelled s at (p + 1) low' high'
    unfolding key_from
    key-on c b hb low' hl high' hh = record {
      low-is = S.low-is ∙ letter low_factor low low' (hl ∙ ap (key_with low_factor low) hb);
      high_is = S.high_is ∙ letter high_factor high high' (hh ∙ ap (key_with high_factor high) hb);
      rest = S.rest ∙ word-rest s p k h e c;
    }
      where
        letter : (f x y : ℕ) → y ≡ key_with f x (small (get_or s p 0)) → key_from f x (name_at s p) ≡ key_from f y (name_at s (p + 1))
        letter f x y i = ap (λ (w : Run). key_from f x (map small w)) (word-word s p k h e c) ∙ ap (λ (z : ℕ). key_from f z (name_at s (p + 1))) (sym i)

  module _ (r : Keyed) (m : r ≡ keyed_by low high p) where
    ends : word_at s p ≡ [] → KeyedAt s at r
    unfolding key_from
    ends e = rw m (record {
      low-is = sym (S.low-is ∙ ap (λ (w : Run). key_from low_factor low (map small w)) e);
      high_is = sym (S.high_is ∙ ap (λ (w : Run). key_from high_factor high (map small w)) e);
      rest = wordless s p e ∙ sym S.rest;
    })

    module _ (k : Class) (h : p < length s) (e : k ≡ class_of (get_or s p 0)) where
      pub key-other : (k ≡ Visible → ⊥) → KeyedAt s at r
      key-other f = ends (go k refl)
        where
          go : (j : Class) → k ≡ j → word_at s p ≡ []
          go Visible c = absurd (f c)
          go Space c = space-word s p k h e c
          go Open c = open-word s p k h e c
          go Close c = close-word s p k h e c
          go Feed c = feed-word s p k h e c
          go Refused c = refused-word s p k h e c

  -- past the text's end
  pub key-none : (r : Keyed) (q : ℕ) → r ≡ keyed_by low high q → length s ≤ q → length s ≤ p → KeyedAt s at r
  unfolding key_from
  key-none r q m l h = rw m (record {
    low-is = sym (S.low-is ∙ ap (λ (w : Run). key_from low_factor low (map small w)) (none-word s p h));
    high_is = sym (S.high_is ∙ ap (λ (w : Run). key_from high_factor high (map small w)) (none-word s p h));
    rest = none-stack s q l ∙ sym (none-stack s p h) ∙ wordless s p (none-word s p h) ∙ sym S.rest;
  })

pub ruleset key_laws = (key-on, key-none, key-other)
