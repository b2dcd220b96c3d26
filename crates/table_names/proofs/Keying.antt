-- The key of a name, and the first number of its entry.
use mathlib.Core.Path.{◌≡◌, refl, sym, ap, ◌∙◌}
use mathlib.Core.List.{List, [], ◌∷◌, map}
use Prim.Native.Nat.{ℕ, ◌+◌, ◌*◌, ◌/◌, ◌%◌, ◌<◌}
use native.Mathlib.Nat.{mod-lt}
use native.Mathlib.Omega.{arith}
use mir.Syntax.{w32}
use mir.Val.{Fits}
use Rattle.leaf_bytes.specs.Bytes.{small}
use Rattle.law.specs.Base.{Name}
use Rattle.law.specs.Trees.{word_at}
use Rattle.table_names.specs.Letters.{letter_of, byte_at}
use Rattle.table_names.specs.Keys.{key_with, key_from, key_of, keyed}
use Rattle.table_names.proofs.Spelled.{Letters, ended, going, letters}

-- ---- `key_with`

module _ (k b : ℕ) where
  count_low : (k / 4096 + 1) % 32 < 32
  count_low = mod-lt (k / 4096 + 1) (omega arith)

  letters-low : (k % 4096 * 39 + b) % 4096 < 4096
  letters-low = mod-lt (k % 4096 * 39 + b) (omega arith)

  before-low : k % 4096 < 4096
  before-low = mod-lt k (omega arith)

  pub with-product : Fits w32 (k % 4096 * 39)
  with-product = let h = before-low in record { fits = omega arith }

  pub with-letter : b < 256 → Fits w32 (k % 4096 * 39 + b)
  with-letter g = let h = before-low in record { fits = omega arith }

  pub with-count : Fits w32 k → Fits w32 (k / 4096 + 1)
  with-count f = record { fits = omega (arith, f.fits) }

  pub with-length : Fits w32 (4096 * ((k / 4096 + 1) % 32))
  with-length = let h = count_low in record { fits = omega arith }

  pub with-fits : Fits w32 ((k % 4096 * 39 + b) % 4096 + 4096 * ((k / 4096 + 1) % 32))
  with-fits = let h = count_low in let g = letters-low in record { fits = omega arith }

  pub with-is : (k % 4096 * 39 + b) % 4096 + 4096 * ((k / 4096 + 1) % 32) ≡ key_with k b
  unfolding key_with
  with-is = refl

  with-below : key_with k b < 131072
  unfolding key_with
  with-below = let h = count_low in let g = letters-low in omega arith

pub key_below : (k : ℕ) (w : Name) → k < 131072 → key_from k w < 131072
unfolding key_from
key_below k [] h = h
key_below k (b ∷ w) h = key_below (key_with k b) w (with-below k b)

pub key-small : (w : Name) → key_of w < 131072
unfolding key_of
key-small w = key_below 0 w (omega arith)

-- `key_of`: from `at` to p the letters have made k
pub record Keying (s : List ℕ) (at p k : ℕ) : Type 0 where
  pub same_key : key_of (map small (word_at s at)) ≡ key_from k (map small (word_at s p))

pub keying-start : (s : List ℕ) (at : ℕ) → Keying s at at 0
unfolding key_of
keying-start s at = record { same_key = refl }

module _ (s : List ℕ) (at p k b x : ℕ) (K : Keying s at p k) (d : b ≡ byte_at s p) (e : x ≡ letter_of b) where
  letter-is : x ≡ letter_of (byte_at s p)
  letter-is = e ∙ ap letter_of d

  pub keying-end : x ≡ 0 → k ≡ key_of (map small (word_at s at))
  unfolding key_from
  keying-end z = go (letters s p)
    where
      go : Letters s p → k ≡ key_of (map small (word_at s at))
      go (ended _ f) = sym (K.same_key ∙ rw f refl)
      go (going _ n _) = absurd (n (sym letter-is ∙ z))

  pub keying-on : ((x ≡ 0) → ⊥) → (y : ℕ) → y ≡ key_with k x → Keying s at (p + 1) y
  unfolding key_from
  keying-on n y i = record { same_key = K.same_key ∙ go (letters s p) ∙ ap (λ (z : ℕ). key_from z (map small (word_at s (p + 1)))) (sym i) }
    where
      go : Letters s p → key_from k (map small (word_at s p)) ≡ key_from (key_with k x) (map small (word_at s (p + 1)))
      go (ended z _) = absurd (n (letter-is ∙ z))
      go (going _ _ f) = rw (f, letter-is) refl

pub ruleset keying-laws = (keying-end, keying-on)

-- ---- an entry's first number
module _ (s : List ℕ) (p : ℕ) where
  pub keyed-offset : p < 32768 → keyed s p % 32768 ≡ p
  unfolding keyed
  keyed-offset h = omega arith

  pub keyed-key : keyed s p / 32768 ≡ key_of (map small (word_at s p))
  unfolding keyed
  keyed-key = omega arith

  pub keyed-is : (k : ℕ) → k ≡ key_of (map small (word_at s p)) → p % 32768 + 32768 * k ≡ keyed s p
  unfolding keyed
  keyed-is k e = rw e refl

-- it fits 32 bits
module _ (k : ℕ) (w : Name) (e : k ≡ key_of w) where
  below : k < 131072
  below = rw e (key-small w)

  pub key-room : Fits w32 (32768 * k)
  key-room = let h = below in record { fits = omega arith }

  pub keyed-fits : (p : ℕ) → Fits w32 (p % 32768 + 32768 * k)
  keyed-fits p = let h = below in let r : p % 32768 < 32768 = mod-lt p (omega arith) in record { fits = omega arith }
