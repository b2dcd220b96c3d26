-- Reading from the right is what the tokens of the law give; and its step laws: what stands from an offset of a text on, by the class of the byte
-- there. A walk by offsets needs these alone.
use mathlib.Core.Path.{◌≡◌, refl, sym, ap, ◌∙◌}
use mathlib.Core.Bool.{cond}
use mathlib.Core.List.{List, [], ◌∷◌}
use Prim.Native.Nat.{ℕ, suc, ◌+◌, ◌<◌, ◌≤◌}
use native.Mathlib.Omega.{arith}
use lib.ListN.{length, get_or, drop, drop_of_length-le}
use lib.Seq.{drop-cons}
use Rattle.leaf_bytes.specs.declared.bytes.Class.{Class}
use Rattle.leaf_bytes.specs.declared.bytes.Class.TheVariants.{Feed, Space, Open, Close, Visible, Refused}
use Rattle.leaf_bytes.specs.Bytes.{class_of}
use Rattle.law.specs.Trees.{word, form, end, first, later, push, is_visible, word_of, word_at, behind, with_token, tokens_of, levels, trees_of}
use Rattle.law_theorems.specs.Readings.{Reading, reading, ended, with_byte, read_bytes, rest_at, stack_at}

-- ---- the law's tokens

pub word_read : (bs : List ℕ) → word_of bs ≡ (read_bytes bs).begun
unfolding word_of read_bytes is_visible with_byte
word_read [] = refl
word_read (b ∷ bs) = go (class_of b) (word_read bs)
  where
    go : (c : Class) → word_of bs ≡ (read_bytes bs).begun → cond (is_visible c) (b ∷ word_of bs) [] ≡ (with_byte c b (read_bytes bs)).begun
    go Feed ih = refl
    go Space ih = refl
    go Open ih = refl
    go Close ih = refl
    go Visible ih = ap (λ (w : List ℕ). b ∷ w) ih
    go Refused ih = refl

-- all tokens, and those behind the word that they begin with
tokens-read : (bs : List ℕ) → (levels (tokens_of bs) ≡ ended (read_bytes bs).begun (read_bytes bs).stack) × (levels (behind (word_of bs) (tokens_of bs)) ≡ (read_bytes bs).stack)
unfolding word_of tokens_of read_bytes levels is_visible with_token with_byte
tokens-read [] = (refl, refl)
tokens-read (b ∷ bs) = go (class_of b) (tokens-read bs)
  where
    go : (c : Class) → (levels (tokens_of bs) ≡ ended (read_bytes bs).begun (read_bytes bs).stack) × (levels (behind (word_of bs) (tokens_of bs)) ≡ (read_bytes bs).stack)
        → (levels (with_token c b (word_of bs) (tokens_of bs)) ≡ ended (with_byte c b (read_bytes bs)).begun (with_byte c b (read_bytes bs)).stack)
        × (levels (behind (cond (is_visible c) (b ∷ word_of bs) []) (with_token c b (word_of bs) (tokens_of bs))) ≡ (with_byte c b (read_bytes bs)).stack)
    go Feed ih = (refl, refl)
    go Space ih = (ih.0, ih.0)
    go Open ih = (rw ih.0 refl, rw ih.0 refl)
    go Close ih = (rw ih.0 refl, rw ih.0 refl)
    go Visible ih = (rw (ih.1, word_read bs) refl, ih.1)
    go Refused ih = (refl, refl)

pub trees-read : (bs : List ℕ) → trees_of bs ≡ first (ended (read_bytes bs).begun (read_bytes bs).stack)
unfolding trees_of
trees-read bs = ap first (tokens-read bs).0

module _ (s : List ℕ) (p : ℕ) where
  pub word-at : word_at s p ≡ (read_bytes (drop p s)).begun
  unfolding word_at
  word-at = word_read (drop p s)

  -- ---- past the end

  none_read : length s ≤ p → read_bytes (drop p s) ≡ reading [] []
  unfolding read_bytes
  none_read h = rw (drop_of_length-le s h)

  pub none-word : length s ≤ p → word_at s p ≡ []
  none-word h = word-at ∙ ap (λ (r : Reading). r.begun) (none_read h)

  pub none-stack : length s ≤ p → stack_at s p ≡ []
  unfolding stack_at rest_at
  none-stack h = ap (λ (r : Reading). ended r.begun r.stack) (none_read h)

  -- where no word goes on, the trees are those after it
  pub wordless : word_at s p ≡ [] → stack_at s p ≡ rest_at s p
  unfolding stack_at
  wordless f = rw (sym word-at ∙ f)

  -- ---- one byte on; k is its class

  module _ (k : Class) (h : p < length s) (e : k ≡ class_of (get_or s p 0)) where
    read_step : read_bytes (drop p s) ≡ with_byte k (get_or s p 0) (read_bytes (drop (p + 1) s))
    unfolding read_bytes
    read_step = let n : p + 1 ≡ suc p = omega arith in rw (drop-cons s p 0 h, e, n)

    as-class : (c : Class) → k ≡ c → read_bytes (drop p s) ≡ with_byte c (get_or s p 0) (read_bytes (drop (p + 1) s))
    as-class c f = read_step ∙ ap (λ (i : Class). with_byte i (get_or s p 0) (read_bytes (drop (p + 1) s))) f

    pub space-stack : k ≡ Space → stack_at s p ≡ stack_at s (p + 1)
    unfolding stack_at rest_at with_byte
    space-stack c = ap (λ (r : Reading). ended r.begun r.stack) (as-class Space c)

    pub open-stack : k ≡ Open → stack_at s p ≡ push (form (first (stack_at s (p + 1)))) (later (stack_at s (p + 1)))
    unfolding stack_at rest_at with_byte
    open-stack c = ap (λ (r : Reading). ended r.begun r.stack) (as-class Open c)

    pub close-stack : k ≡ Close → stack_at s p ≡ end ∷ stack_at s (p + 1)
    unfolding stack_at rest_at with_byte
    close-stack c = ap (λ (r : Reading). ended r.begun r.stack) (as-class Close c)

    pub feed-stack : k ≡ Feed → stack_at s p ≡ []
    unfolding stack_at rest_at with_byte
    feed-stack c = ap (λ (r : Reading). ended r.begun r.stack) (as-class Feed c)

    pub word-stack : k ≡ Visible → stack_at s p ≡ push (word (word_at s p)) (rest_at s p)
    unfolding stack_at rest_at with_byte
    word-stack c =
        ap (λ (r : Reading). ended r.begun r.stack) (as-class Visible c)
        ∙ ap (λ (r : Reading). push (word r.begun) r.stack) (sym (as-class Visible c))
        ∙ ap (λ (w : List ℕ). push (word w) (read_bytes (drop p s)).stack) (sym word-at)

    pub word-rest : k ≡ Visible → rest_at s p ≡ rest_at s (p + 1)
    unfolding rest_at with_byte
    word-rest c = ap (λ (r : Reading). r.stack) (as-class Visible c)

    pub word-word : k ≡ Visible → word_at s p ≡ get_or s p 0 ∷ word_at s (p + 1)
    unfolding word_at with_byte
    word-word c = word-at ∙ ap (λ (r : Reading). r.begun) (as-class Visible c) ∙ ap (λ (w : List ℕ). get_or s p 0 ∷ w) (sym (word_read (drop (p + 1) s)))

    pub space-word : k ≡ Space → word_at s p ≡ []
    unfolding with_byte
    space-word c = word-at ∙ ap (λ (r : Reading). r.begun) (as-class Space c)

    pub open-word : k ≡ Open → word_at s p ≡ []
    unfolding with_byte
    open-word c = word-at ∙ ap (λ (r : Reading). r.begun) (as-class Open c)

    pub close-word : k ≡ Close → word_at s p ≡ []
    unfolding with_byte
    close-word c = word-at ∙ ap (λ (r : Reading). r.begun) (as-class Close c)

    pub feed-word : k ≡ Feed → word_at s p ≡ []
    unfolding with_byte
    feed-word c = word-at ∙ ap (λ (r : Reading). r.begun) (as-class Feed c)

    pub refused-stack : k ≡ Refused → stack_at s p ≡ []
    unfolding stack_at rest_at with_byte
    refused-stack c = ap (λ (r : Reading). ended r.begun r.stack) (as-class Refused c)

    pub refused-word : k ≡ Refused → word_at s p ≡ []
    unfolding with_byte
    refused-word c = word-at ∙ ap (λ (r : Reading). r.begun) (as-class Refused c)
