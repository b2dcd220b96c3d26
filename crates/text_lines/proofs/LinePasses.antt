-- The loops over bytes: refused bytes (row 3), balance (row 4), the next line.
use mathlib.Core.Path.{◌≡◌, refl, sym, ap, ◌∙◌}
use mathlib.Core.Bool.{Bool, true, false}
use mathlib.Core.List.{List, ◌∷◌}
use mathlib.Core.Option.{some}
use Rattle.std.specs.Prelude.{Some, None}
use Prim.Native.Nat.{ℕ, ◌+◌, ◌<◌, ◌≤◌}
use native.Mathlib.Numerals.{add-one}
use native.Mathlib.Omega.{arith}
use borrow.Author.Tests.{eq-eqb, ne_eqb}
use lib.ListN.{length, get_or, drop, drop_of_length-le}
use lib.Seq.{drop-cons}
use Rattle.leaf_bytes.specs.declared.bytes.Class.{Class}
use Rattle.leaf_bytes.specs.declared.bytes.Class.TheVariants.{Feed, Space, Open, Close, Visible, Refused}
use Rattle.leaf_bytes.specs.Bytes.{class_of}
use Rattle.law.specs.Lines.{refused_at}
use Rattle.law.specs.Trees.{before, past}
use Rattle.text_lines.specs.declared.lines.Standing.{Standing}
use Rattle.text_lines.specs.declared.lines.Standing.TheVariants as standing
use Rattle.text_lines.specs.Passes.{line_of, is_refused, feeds, place_of, is_after_now, balanced_from, after_line}
use Rattle.text_lines.proofs.Standings.{after_is}

-- the byte at p, and those after it
split : (s : List ℕ) (p : ℕ) → p < length s → drop p s ≡ get_or s p 0 ∷ drop (p + 1) s
split s p h = rw (add-one p) (drop-cons s p 0 h)

-- ---- line feeds

module _ (k : Class) (n : ℕ) where
  pub feeds-feed : k ≡ Feed → n + 1 ≡ feeds k n
  feeds-feed e = rw e

  pub feeds_other : ((k ≡ Feed) → ⊥) → n ≡ feeds k n
  feeds_other h = go k refl
    where
      go : (c : Class) → k ≡ c → n ≡ feeds c n
      go Feed e = absurd (h e)
      go Space e = refl
      go Open e = refl
      go Close e = refl
      go Visible e = refl
      go Refused e = refl

pub ruleset feeds_laws = (feeds-feed, feeds_other)

feeds-le : (k : Class) (n : ℕ) → feeds k n ≤ n + 1
feeds-le Feed n = omega arith
feeds-le Space n = omega arith
feeds-le Open n = omega arith
feeds-le Close n = omega arith
feeds-le Visible n = omega arith
feeds-le Refused n = omega arith

-- ---- row 3: n line feeds stand before p, and no refused byte
pub record Seeking (s : List ℕ) (n p : ℕ) : Type 0 where
  pub few : n ≤ p
  pub same : refused_at 1 s ≡ refused_at (n + 1) (drop p s)

pub seek-start : (s : List ℕ) → Seeking s 0 0
seek-start s = record { few = omega arith; same = refl }

one_byte : (n : ℕ) (k : Class) (b : ℕ) (bs : List ℕ) → k ≡ class_of b → is_refused k ≡ false → refused_at (n + 1) (b ∷ bs) ≡ refused_at (feeds k n + 1) bs
unfolding refused_at
one_byte n Feed b bs e h = rw (← e, refused_at, add-one (n + 1))
one_byte n Space b bs e h = rw (← e, refused_at)
one_byte n Open b bs e h = rw (← e, refused_at)
one_byte n Close b bs e h = rw (← e, refused_at)
one_byte n Visible b bs e h = rw (← e, refused_at)
one_byte n Refused b bs e h = let z : ◌≡◌ {A = ℕ} 0 1 = cc in absurd (omega arith)

found : (n : ℕ) (k : Class) (b : ℕ) (bs : List ℕ) → k ≡ class_of b → is_refused k ≡ true → refused_at (n + 1) (b ∷ bs) ≡ some (n + 1)
unfolding refused_at
found n Feed b bs e h = let z : ◌≡◌ {A = ℕ} 0 1 = cc in absurd (omega arith)
found n Space b bs e h = let z : ◌≡◌ {A = ℕ} 0 1 = cc in absurd (omega arith)
found n Open b bs e h = let z : ◌≡◌ {A = ℕ} 0 1 = cc in absurd (omega arith)
found n Close b bs e h = let z : ◌≡◌ {A = ℕ} 0 1 = cc in absurd (omega arith)
found n Visible b bs e h = let z : ◌≡◌ {A = ℕ} 0 1 = cc in absurd (omega arith)
found n Refused b bs e h = rw (← e, refused_at)

module _ (s : List ℕ) (n p : ℕ) (i : Seeking s n p) where
  pub seek-none : length s ≤ p → None ≡ line_of (refused_at 1 s)
  unfolding refused_at
  seek-none h = sym (ap line_of (i.same ∙ ap (refused_at (n + 1)) (drop_of_length-le s h)))

  module _ (k : Class) (t : Bool) (h : p < length s) (e : k ≡ class_of (get_or s p 0)) (f : t ≡ is_refused k) where
    pub seek_found : t ≡ true → Some (n + 1) ≡ line_of (refused_at 1 s)
    seek_found g = sym (ap line_of (i.same ∙ ap (refused_at (n + 1)) (split s p h) ∙ found n k (get_or s p 0) (drop (p + 1) s) e (sym f ∙ g)))

    pub seek-on : (m : ℕ) → t ≡ false → m ≡ feeds k n → Seeking s m (p + 1)
    seek-on m g j = record {
      few = rw j (omega (arith, feeds-le k n, i.few));
      same = i.same ∙ ap (refused_at (n + 1)) (split s p h) ∙ one_byte n k (get_or s p 0) (drop (p + 1) s) e (sym f ∙ g) ∙ ap (λ (m : ℕ). refused_at (m + 1) (drop (p + 1) s)) (sym j);
    }

  pub seek-few : p < length s → n < length s
  seek-few h = omega (arith, i.few)

pub ruleset seek-laws = (seek-none, seek_found, seek-on)

-- ---- row 4: from `at` to p the walk came to q
pub record Walks (s : List ℕ) (at p : ℕ) (q : Standing) : Type 0 where
  pub same : balanced_from (drop at s) before ≡ balanced_from (drop p s) (place_of q)

pub walk_start : (s : List ℕ) (at : ℕ) → Walks s at at standing.Before
walk_start s at = record { same = refl }

module _ (s : List ℕ) (at p : ℕ) (q : Standing) (i : Walks s at p q) where
  pub balance-none : length s ≤ p → false ≡ balanced_from (drop at s) before
  unfolding balanced_from
  balance-none h = sym (i.same ∙ rw (drop_of_length-le s h))

  pub balance-feed : (r : Bool) → p < length s → get_or s p 0 ≡ 10 → r ≡ is_after_now q → r ≡ balanced_from (drop at s) before
  unfolding balanced_from
  balance-feed r h e f = f ∙ after_is q ∙ sym (i.same ∙ rw (split s p h, eq-eqb (get_or s p 0) 10 e))

  pub balance-on : (k : Class) (q' : Standing) → p < length s → ((get_or s p 0 ≡ 10) → ⊥) → k ≡ class_of (get_or s p 0) → place_of q' ≡ past k (place_of q) → Walks s at (p + 1) q'
  unfolding balanced_from
  balance-on k q' h n e f = record { same = i.same ∙ rw (split s p h, ne_eqb (get_or s p 0) 10 n, f, e) }

pub ruleset balance-laws = (balance-none, balance-feed, balance-on)

-- ---- the next line: x is what stands after this one
module _ (s : List ℕ) (p : ℕ) (x : List ℕ) (i : x ≡ after_line (drop p s)) where
  pub next-none : length s ≤ p → (q : ℕ) → length s ≤ q → drop q s ≡ x
  unfolding after_line
  next-none h q g = let e = drop_of_length-le s h in drop_of_length-le s g ∙ sym (i ∙ rw e refl)

  pub next-feed : p < length s → get_or s p 0 ≡ 10 → drop (p + 1) s ≡ x
  unfolding after_line
  next-feed h e = sym (i ∙ rw (split s p h, eq-eqb (get_or s p 0) 10 e) refl)

  pub next-on : p < length s → ((get_or s p 0 ≡ 10) → ⊥) → x ≡ after_line (drop (p + 1) s)
  unfolding after_line
  next-on h e = i ∙ rw (split s p h, ne_eqb (get_or s p 0) 10 e) refl

pub ruleset next-laws = (next-none, next-feed, next-on)
