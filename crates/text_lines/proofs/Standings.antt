-- Row 4, one byte: where the code's walk stands is where the definition's does.
use mathlib.Core.Path.{◌≡◌, refl}
use Prim.Native.Nat.{ℕ, zero, suc, ◌+◌, ◌-◌, ◌<◌, ◌≤◌}
use native.Mathlib.Numerals.{add-one, sub-one}
use borrow.Author.Tests.{lt-ltb, le-ltb}
use Rattle.leaf_bytes.specs.declared.bytes.Class.{Class}
use Rattle.leaf_bytes.specs.declared.bytes.Class.TheVariants.{Feed, Space, Open, Close, Visible, Refused}
use Rattle.law.specs.Trees.{after, faulty, inside, deeper, opened, closed, spelled, past, is_after}
use Rattle.text_lines.specs.declared.lines.Standing.{Standing}
use Rattle.text_lines.specs.declared.lines.Standing.TheVariants as standing
use Rattle.text_lines.specs.Passes.{place_of, is_after_now}

module _ (n : ℕ) where
  pub deeper-in : n < 31 → inside (n + 1) ≡ opened (inside n)
  unfolding opened deeper
  deeper-in h = rw (lt-ltb n 31 h, add-one n)

  pub deeper-out : 31 ≤ n → faulty ≡ opened (inside n)
  unfolding opened deeper
  deeper-out h = rw (le-ltb n 31 h)

  pub shallower-none : n ≡ 0 → after ≡ closed (inside n)
  unfolding closed
  shallower-none e = rw e

pub shallower-more : (n : ℕ) → ((n ≡ 0) → ⊥) → inside (n - 1) ≡ closed (inside n)
unfolding closed
shallower-more zero h = absurd (h refl)
shallower-more (suc n) h = rw (sub-one (suc n))

pub ruleset deeper_laws = (deeper-in, deeper-out)

pub ruleset shallower_laws = (shallower-none, shallower-more)

module _ (q : Standing) where
  pub open-before : q ≡ standing.Before → inside 0 ≡ opened (place_of q)
  unfolding opened
  open-before e = rw e

  pub open-inside : (n : ℕ) (r : Standing) → q ≡ standing.Inside n → place_of r ≡ opened (inside n) → place_of r ≡ opened (place_of q)
  open-inside n r e h = rw e h

  pub open_after : q ≡ standing.After → faulty ≡ opened (place_of q)
  unfolding opened
  open_after e = rw e

  pub open-faulty : q ≡ standing.Faulty → faulty ≡ opened (place_of q)
  unfolding opened
  open-faulty e = rw e

  pub close-before : q ≡ standing.Before → faulty ≡ closed (place_of q)
  unfolding closed
  close-before e = rw e

  pub close-inside : (n : ℕ) (r : Standing) → q ≡ standing.Inside n → place_of r ≡ closed (inside n) → place_of r ≡ closed (place_of q)
  close-inside n r e h = rw e h

  pub close-after : q ≡ standing.After → faulty ≡ closed (place_of q)
  unfolding closed
  close-after e = rw e

  pub close-faulty : q ≡ standing.Faulty → faulty ≡ closed (place_of q)
  unfolding closed
  close-faulty e = rw e

  pub word-before : q ≡ standing.Before → faulty ≡ spelled (place_of q)
  unfolding spelled
  word-before e = rw e

  pub word-inside : (n : ℕ) → q ≡ standing.Inside n → inside n ≡ spelled (place_of q)
  unfolding spelled
  word-inside n e = rw e

  pub word_after : q ≡ standing.After → faulty ≡ spelled (place_of q)
  unfolding spelled
  word_after e = rw e

  pub word-faulty : q ≡ standing.Faulty → faulty ≡ spelled (place_of q)
  unfolding spelled
  word-faulty e = rw e

  module _ (k : Class) where
    pub byte-feed : k ≡ Feed → faulty ≡ past k (place_of q)
    unfolding past
    byte-feed e = rw e

    pub byte-refused : k ≡ Refused → faulty ≡ past k (place_of q)
    unfolding past
    byte-refused e = rw e

    pub byte-space : k ≡ Space → place_of q ≡ past k (place_of q)
    unfolding past
    byte-space e = rw e

    module _ (r : Standing) where
      pub byte-open : k ≡ Open → place_of r ≡ opened (place_of q) → place_of r ≡ past k (place_of q)
      unfolding past
      byte-open e h = rw e h

      pub byte-close : k ≡ Close → place_of r ≡ closed (place_of q) → place_of r ≡ past k (place_of q)
      unfolding past
      byte-close e h = rw e h

      pub byte_word : k ≡ Visible → place_of r ≡ spelled (place_of q) → place_of r ≡ past k (place_of q)
      unfolding past
      byte_word e h = rw e h

pub ruleset open_laws = (open-before, open-inside, open_after, open-faulty)

pub ruleset close_laws = (close-before, close-inside, close-after, close-faulty)

pub ruleset spell_laws = (word-before, word-inside, word_after, word-faulty)

pub ruleset byte_laws = (byte-feed, byte-refused, byte-space, byte-open, byte-close, byte_word)

pub after_is : (q : Standing) → is_after_now q ≡ is_after (place_of q)
unfolding is_after
after_is standing.Before = refl
after_is (standing.Inside n) = refl
after_is standing.After = refl
after_is standing.Faulty = refl
