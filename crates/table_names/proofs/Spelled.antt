-- The letters of a word one after another.
use mathlib.Core.Path.{◌≡◌, refl, sym, ap, ◌∙◌}
use mathlib.Core.Bool.{Bool, true, false}
use mathlib.Core.List.{List, [], ◌∷◌, map}
use Prim.Native.Nat.{ℕ, ◌+◌, ◌-◌, ◌<◌, ◌≤◌}
use native.Mathlib.Decide.{dec_lt}
use native.Mathlib.Omega.{arith}
use borrow.Author.Tests.{eq-eqb, ne_eqb}
use mir.Syntax.{w64}
use mir.Val.{Fits}
use lib.Dec.{eqb}
use lib.ListN.{length, get_or, get_or-eq_default}
use lib.Seq.{drop-cons}
use Rattle.leaf_bytes.specs.declared.bytes.Class.{Class}
use Rattle.leaf_bytes.specs.declared.bytes.Class.TheVariants.{Feed, Space, Open, Close, Visible, Refused}
use Rattle.leaf_bytes.specs.Bytes.{class_of, small}
use Rattle.leaf_bytes.proofs.Letters.{small_low, small-high, small-capital}
use Rattle.law.specs.Trees.{word_at}
use Rattle.law_theorems.proofs.Reading.{none-word, word-word, space-word, open-word, close-word, feed-word, refused-word}
use Rattle.table_names.specs.Letters.{letter_by, letter_of, byte_at, meets}
use Rattle.table_names.specs.declared.letters.Meeting.TheVariants as meeting

-- ---- the ways

pub byte-there : (s : List ℕ) (p : ℕ) → p < length s → get_or s p 0 ≡ byte_at s p
byte-there s p h = ap (λ (l : List ℕ). get_or l 0 0) (sym (drop-cons s p 0 h) ∙ drop-cons s p 10 h)

pub byte_past : (s : List ℕ) (p : ℕ) → length s ≤ p → 10 ≡ byte_at s p
byte_past s p h = sym (get_or-eq_default s 10 h)

pub ruleset byte_laws = (byte-there, byte_past)

module _ (b : ℕ) (k : Class) (e : k ≡ class_of b) where
  by-class : (c : Class) → k ≡ c → letter_by c b ≡ letter_of b
  unfolding letter_of
  by-class c f = ap (λ (i : Class). letter_by i b) (sym f ∙ e)

  pub letter-visible : (x : ℕ) → k ≡ Visible → x ≡ small b → x ≡ letter_of b
  unfolding letter_by
  letter-visible x f g = g ∙ by-class Visible f

  pub letter_other : ((k ≡ Visible) → ⊥) → 0 ≡ letter_of b
  unfolding letter_by
  letter_other n = go k refl
    where
      go : (c : Class) → k ≡ c → 0 ≡ letter_of b
      go Visible f = absurd (n f)
      go Feed f = by-class Feed f
      go Space f = by-class Space f
      go Open f = by-class Open f
      go Close f = by-class Close f
      go Refused f = by-class Refused f

pub ruleset letter_laws = (letter-visible, letter_other)

module _ (a b : ℕ) where
  pub same_byte : a ≡ b → true ≡ eqb (letter_of a) (letter_of b)
  same_byte e = sym (eq-eqb (letter_of a) (letter_of b) (ap letter_of e))

  pub same-small : (x y : ℕ) → x ≡ letter_of a → y ≡ letter_of b → eqb x y ≡ eqb (letter_of a) (letter_of b)
  same-small x y e f = rw (e, f) refl

pub ruleset same_letter_laws = (same_byte, same-small)

module _ (s : List ℕ) (p q x y : ℕ) (e : x ≡ byte_at s p) (f : y ≡ byte_at s q) (t : Bool) (g : t ≡ eqb (letter_of x) (letter_of y)) where
  pub meet-differ : t ≡ false → meeting.Differ ≡ meets (letter_of (byte_at s p)) (letter_of (byte_at s q))
  unfolding meets
  meet-differ h = rw (← e, ← f, ← g, h) refl

  module _ (h : t ≡ true) (z : ℕ) (k : z ≡ letter_of x) where
    pub meet-end : z ≡ 0 → meeting.End ≡ meets (letter_of (byte_at s p)) (letter_of (byte_at s q))
    unfolding meets
    meet-end i = rw (← e, ← f, ← g, h, ← k, i) refl

    pub meet-same : ((z ≡ 0) → ⊥) → meeting.Same ≡ meets (letter_of (byte_at s p)) (letter_of (byte_at s q))
    unfolding meets
    meet-same n = rw (← e, ← f, ← g, h, ← k, ne_eqb z 0 n) refl

pub ruleset meet_laws = (meet-differ, meet-end, meet-same)

-- ---- a word from p on: it has ended, or goes on with a letter that is not 0

pub data Letters (s : List ℕ) (p : ℕ) : Type 0 where
  ended : letter_of (byte_at s p) ≡ 0 → map small (word_at s p) ≡ [] → Letters s p
  going : p < length s → ((letter_of (byte_at s p) ≡ 0) → ⊥) → map small (word_at s p) ≡ letter_of (byte_at s p) ∷ map small (word_at s (p + 1)) → Letters s p

small-zero : (b : ℕ) → small b ≡ 0 → b ≡ 0
small-zero b e = low (dec_lt b 65)
  where
    high : 65 ≤ b → Dec (90 < b) → b ≡ 0
    high h (yes g) = small-high b h g ∙ e
    high h (no g) = let z = small-capital b h (omega (arith, g)) in absurd (omega (arith, z, e))

    low : Dec (b < 65) → b ≡ 0
    low (yes h) = small_low b h ∙ e
    low (no h) = high (omega (arith, h)) (dec_lt 90 b)

-- a byte of a word is not 0
visible-some : (b : ℕ) → Visible ≡ class_of b → (b ≡ 0) → ⊥
unfolding class_of
visible-some b c e = let f : Visible ≡ Refused = c ∙ ap class_of e in let z : ◌≡◌ {A = ℕ} 0 1 = cc in absurd (omega arith)

module _ (s : List ℕ) (p : ℕ) where
  no_byte : length s ≤ p → letter_of (byte_at s p) ≡ 0
  unfolding letter_of letter_by class_of
  no_byte h = rw (← byte_past s p h) refl

  module _ (h : p < length s) where
    ends : 0 ≡ letter_of (get_or s p 0) → word_at s p ≡ [] → Letters s p
    ends z e = ended (ap letter_of (sym (byte-there s p h)) ∙ sym z) (ap (map small) e)

    letter-there : Visible ≡ class_of (get_or s p 0) → letter_of (byte_at s p) ≡ small (get_or s p 0)
    letter-there e = ap letter_of (sym (byte-there s p h)) ∙ sym (letter-visible (get_or s p 0) Visible e (small (get_or s p 0)) refl refl)

    classed : (k : Class) → k ≡ class_of (get_or s p 0) → Letters s p
    unfolding letter_by
    classed Feed e = ends (by-class (get_or s p 0) Feed e Feed refl) (feed-word s p Feed h e refl)
    classed Space e = ends (by-class (get_or s p 0) Space e Space refl) (space-word s p Space h e refl)
    classed Open e = ends (by-class (get_or s p 0) Open e Open refl) (open-word s p Open h e refl)
    classed Close e = ends (by-class (get_or s p 0) Close e Close refl) (close-word s p Close h e refl)
    classed Refused e = ends (by-class (get_or s p 0) Refused e Refused refl) (refused-word s p Refused h e refl)
    classed Visible e =
        going h (λ z. visible-some _ e (small-zero _ (sym (letter-there e) ∙ z)))
        (ap (map small) (word-word s p Visible h e refl) ∙ ap (λ (x : ℕ). x ∷ map small (word_at s (p + 1))) (sym (letter-there e)))

  pub letters : Letters s p
  letters = go (dec_lt p (length s))
    where
      go : Dec (p < length s) → Letters s p
      go (yes h) = classed h (class_of (get_or s p 0)) refl
      go (no h) = ended (no_byte (omega (arith, h))) (ap (map small) (none-word s p (omega (arith, h))))

-- where there is a letter x, the word goes on
module _ (s : List ℕ) (p b x : ℕ) (d : b ≡ byte_at s p) (e : x ≡ letter_of b) (n : (x ≡ 0) → ⊥) where
  inside : p < length s
  inside = go (letters s p)
    where
      go : Letters s p → p < length s
      go (ended z _) = absurd (n (e ∙ ap letter_of d ∙ z))
      go (going h _ _) = h

  pub letter-room : Fits w64 (length s) → Fits w64 (p + 1)
  letter-room f = let h = inside in record { fits = omega (arith, f.fits) }

  pub letter-falls : length s - (p + 1) < length s - p
  letter-falls = let h = inside in omega arith
