-- Laws of the classes of a byte, and of letters and digits: one for each way through their functions. Assumes nothing.
use mathlib.Core.Path.{◌≡◌}
use mathlib.Core.Bool.{Bool, true, false, cond, ◌&&◌}
use Prim.Native.Nat.{ℕ, ◌+◌, ◌-◌, ◌<◌, ◌≤◌}
use native.Mathlib.Omega.{arith}
use borrow.Author.Tests.{ne_eqb, le-leb, lt-leb}
use lib.Dec.{leb}
use Rattle.leaf_bytes.specs.declared.bytes.Class.TheVariants.{Feed, Space, Open, Close, Visible, Refused}
use Rattle.leaf_bytes.specs.Bytes.{class_of, small, is_letter, is_digit, is_alnum, digit_of}

module _ (b : ℕ) where
  pub class-feed : b ≡ 10 → Feed ≡ class_of b
  unfolding class_of
  class-feed e = rw e

  pub class-space : b ≡ 32 → Space ≡ class_of b
  unfolding class_of
  class-space e = rw e

  pub class-open : b ≡ 40 → Open ≡ class_of b
  unfolding class_of
  class-open e = rw e

  pub class-close : b ≡ 41 → Close ≡ class_of b
  unfolding class_of
  class-close e = rw e

  -- none of the single bytes. The code tests 32 where the source says 33: 32 is a key of the switch
  module _ (n10 : (b ≡ 10) → ⊥) (n32 : (b ≡ 32) → ⊥) (n40 : (b ≡ 40) → ⊥) (n41 : (b ≡ 41) → ⊥) where
    class-range : class_of b ≡ cond (leb 33 b && leb b 126) Visible Refused
    unfolding class_of
    class-range = simp (ne_eqb b 10 n10, ne_eqb b 32 n32, ne_eqb b 40 n40, ne_eqb b 41 n41)

    pub class-visible : 32 ≤ b → b < 127 → Visible ≡ class_of b
    class-visible l h = rw (class-range, le-leb 33 b (omega arith), le-leb b 126 (omega arith))

    pub class_low : b < 32 → Refused ≡ class_of b
    class_low h = rw (class-range, lt-leb 33 b (omega arith))

    pub class-high : 127 ≤ b → Refused ≡ class_of b
    class-high h = rw (class-range, le-leb 33 b (omega arith), lt-leb b 126 (omega arith))

pub ruleset class_laws = (class-feed, class-space, class-open, class-close, class-visible, class_low, class-high)

module _ (b : ℕ) where
  pub small_low : b < 65 → b ≡ small b
  unfolding small
  small_low h = simp (lt-leb 65 b h)

  pub small-high : 65 ≤ b → 90 < b → b ≡ small b
  unfolding small
  small-high h g = simp (le-leb 65 b h, lt-leb b 90 g)

  pub small-capital : 65 ≤ b → b ≤ 90 → b + 32 ≡ small b
  unfolding small
  small-capital h g = simp (le-leb 65 b h, le-leb b 90 g)

pub ruleset small_laws = (small_low, small-high, small-capital)

module _ (b c : ℕ) (e : c ≡ small b) where
  pub letter-low : c < 97 → leb 97 c ≡ is_letter b
  unfolding is_letter
  letter-low h = rw (← e, lt-leb 97 c h)

  pub letter-within : 97 ≤ c → leb c 122 ≡ is_letter b
  unfolding is_letter
  letter-within h = rw (← e, le-leb 97 c h)

pub ruleset letter_laws = (letter-low, letter-within)

module _ (b : ℕ) (t : Bool) (e : t ≡ is_letter b) where
  pub alnum-letter : t ≡ true → true ≡ is_alnum b
  unfolding is_alnum
  alnum-letter f = rw (← e, f)

  module _ (f : t ≡ false) where
    pub alnum-low : b < 48 → leb 48 b ≡ is_alnum b
    unfolding is_alnum is_digit
    alnum-low h = rw (← e, f, lt-leb 48 b h)

    pub alnum-within : 48 ≤ b → leb b 57 ≡ is_alnum b
    unfolding is_alnum is_digit
    alnum-within h = rw (← e, f, le-leb 48 b h)

pub ruleset alnum_laws = (alnum-letter, alnum-low, alnum-within)

module _ (b : ℕ) where
  pub digit_low : b < 48 → 16 ≡ digit_of b
  unfolding digit_of is_digit small
  digit_low h = simp (lt-leb 48 b h, lt-leb 65 b (omega arith), lt-leb 97 b (omega arith))

  pub digit-decimal : 48 ≤ b → b ≤ 57 → b - 48 ≡ digit_of b
  unfolding digit_of is_digit
  digit-decimal h g = rw (le-leb 48 b h, le-leb b 57 g)

  module _ (c : ℕ) (h : 48 ≤ b) (g : 57 < b) (e : c ≡ small b) where
    digit-range : digit_of b ≡ cond (leb 97 c && leb c 102) (c - 87) 16
    unfolding digit_of is_digit
    digit-range = rw (le-leb 48 b h, lt-leb b 57 g, e)

    pub digit-before : c < 97 → 16 ≡ digit_of b
    digit-before l = rw (digit-range, lt-leb 97 c l)

    pub digit-after : 97 ≤ c → 102 < c → 16 ≡ digit_of b
    digit-after l m = rw (digit-range, le-leb 97 c l, lt-leb c 102 m)

    pub digit-letter : 97 ≤ c → c ≤ 102 → c - 87 ≡ digit_of b
    digit-letter l m = rw (digit-range, le-leb 97 c l, le-leb c 102 m)

pub ruleset digit_laws = (digit_low, digit-decimal, digit-before, digit-after, digit-letter)
