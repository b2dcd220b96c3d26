-- The count of a pattern's ones is the number of its members, and the zeros below and above its ones tell its least and its greatest member.
-- Each law is by the digits, lowest first. Assumes nothing.
use mathlib.Core.Path.{◌≡◌, refl, sym, ap, ap₂, subst, ◌∙◌}
use mathlib.Core.Bool.{Bool, true, false, cond}
use mathlib.Core.Logic.{⊎_elim}
use mathlib.Core.List.{List, [], ◌∷◌}
use Prim.Native.Nat.{ℕ, zero, suc, ◌+◌, ◌*◌, ◌-◌, ◌/◌, ◌^◌, ◌≤◌, ◌<◌}
use native.Mathlib.Nat.{add-zero, zero-add, eq-zero-or-pos, not-suc-le-zero}
use native.Mathlib.Omega.{arith}
use lib.Count.{ones, ones_in, ones_step, count_trailing_zeros, count_leading_zeros, under, leading_of_zero, leading_top}
use lib.ListN.{length}
use Rattle.leaf_sets.specs.Sets.{those, bit, members, least, greatest}
use Rattle.std.specs.Prelude.{Some, None}
use Rattle.leaf_sets.proofs.Those.{digit, cond-length}
use Rattle.leaf_sets.proofs.Digits.{number, number_lt, number_is, digit-mod, digit-div, members-are}

-- ---- `card`

ones-zero : ones 0 ≡ 0
unfolding ones ones_in
ones-zero = refl

ones-number : (f : ℕ → Bool) (i k : ℕ) → ones (number f i k) ≡ length (those f i k)
unfolding number those
ones-number f i zero = ones-zero
ones-number f i (suc k) =
    let n = number f (suc i) k in
    ones_step (digit (f i) + 2 * n)
    ∙ ap₂ (λ (x y : ℕ). x + ones y) (digit-mod (f i) n) (digit-div (f i) n)
    ∙ ap (λ (x : ℕ). digit (f i) + x) (ones-number f (suc i) k)
    ∙ sym (cond-length (f i) i (those f (suc i) k))

-- ---- `setmin`

min-number : (f : ℕ → Bool) (i k : ℕ) → 0 < number f i k → Some (i + count_trailing_zeros k (number f i k)) ≡ least (those f i k)
unfolding number those count_trailing_zeros least
min-number f i zero p = absurd (omega arith)
min-number f i (suc k) p =
    let n = number f (suc i) k in
    ap₂ (λ (d m : ℕ). Some (i + under d (count_trailing_zeros k m))) (digit-mod (f i) n) (digit-div (f i) n)
    ∙ of (f i) p (λ q. min-number f (suc i) k q)
  where
    of : (b : Bool) → 0 < digit b + 2 * number f (suc i) k
        → (0 < number f (suc i) k → Some (suc i + count_trailing_zeros k (number f (suc i) k)) ≡ least (those f (suc i) k))
        → Some (i + under (digit b) (count_trailing_zeros k (number f (suc i) k))) ≡ least (cond b (i ∷ those f (suc i) k) (those f (suc i) k))
    of true p rest = ap Some (add-zero i)
    of false p rest = ap Some (omega arith) ∙ rest (omega arith)

-- ---- `setmax`

none_number : (f : ℕ → Bool) (i k : ℕ) → number f i k ≡ 0 → those f i k ≡ []
unfolding number those
none_number f i zero e = refl
none_number f i (suc k) e = of (f i) e (none_number f (suc i) k (omega arith))
  where
    of : (b : Bool) → digit b + 2 * number f (suc i) k ≡ 0 → those f (suc i) k ≡ [] → cond b (i ∷ those f (suc i) k) (those f (suc i) k) ≡ []
    of true e rest = absurd (omega arith)
    of false e rest = rest

pub no_member : (x : ℕ) → None ≡ Some x → ⊥
no_member x e = let z : ◌≡◌ {A = ℕ} 0 1 = cc in omega arith

-- one more before the last
keeps-last : (b : Bool) (i m : ℕ) (l : List ℕ) → Some m ≡ greatest l → Some m ≡ greatest (cond b (i ∷ l) l)
unfolding greatest
keeps-last true i m [] e = absurd (no_member m (sym e))
keeps-last true i m (x ∷ l) e = e
keeps-last false i m l e = e

leading_step : (k n : ℕ) → 0 < n → count_leading_zeros (suc k) n ≡ count_leading_zeros k (n / 2)
unfolding count_leading_zeros
leading_step k zero p = absurd (not-suc-le-zero p)
leading_step k (suc n) p = refl

-- nothing above the lowest digit: it is a one, and the last
alone : (b : Bool) (i j k n : ℕ) (l : List ℕ) → 0 < digit b + 2 * n → n ≡ 0 → k + suc j ≡ suc k → l ≡ [] → Some (i + j) ≡ greatest (cond b (i ∷ l) l)
unfolding greatest
alone true i j k n l p z e q = rw q (ap Some (omega arith))
alone false i j k n l p z e q = absurd (omega arith)

-- the zeros above, the one at place j and the j digits below it make k
max-number : (f : ℕ → Bool) (i k j : ℕ) → 0 < number f i k → count_leading_zeros k (number f i k) + suc j ≡ k → Some (i + j) ≡ greatest (those f i k)
unfolding number those
max-number f i zero j p e = absurd (omega arith)
max-number f i (suc k) j p e =
    let n = number f (suc i) k in
    let up : count_leading_zeros k n + suc j ≡ suc k = rw (leading_step k (digit (f i) + 2 * n) p, digit-div (f i) n) at e in
    ⊎_elim (λ z.
    alone (f i) i j k n (those f (suc i) k) p z (ap (λ (m : ℕ). m + suc j) (sym (ap (count_leading_zeros k) z ∙ leading_of_zero k)) ∙ up)
    (none_number f (suc i) k z))
    (λ q.
    let top = leading_top k n q (number_lt f (suc i) k) in
    keeps-last (f i) i (i + j) (those f (suc i) k) (ap Some (omega (arith, top.1)) ∙ max-number f (suc i) k top.0 q top.1))
    (eq-zero-or-pos n)

-- ---- a pattern's count, least and greatest member

module _ (s : ℕ) (h : s < 2 ^ 32) where
  pub card_is : ones s ≡ length (members s)
  card_is = ap ones (sym (number_is s 32 h)) ∙ ones-number (bit s) 0 32 ∙ ap length (sym (members-are s))

  pub none_is : s ≡ 0 → members s ≡ []
  none_is e = members-are s ∙ none_number (bit s) 0 32 (number_is s 32 h ∙ e)

  pub min-none : s ≡ 0 → None ≡ least (members s)
  unfolding least
  min-none e = rw (none_is e)

  pub max_none : s ≡ 0 → None ≡ greatest (members s)
  unfolding greatest
  max_none e = rw (none_is e)

  module _ (n : (s ≡ 0) → ⊥) where
    some : 0 < number (bit s) 0 32
    some = rw (number_is s 32 h) (omega arith)

    pub min-is : Some (count_trailing_zeros 32 s) ≡ least (members s)
    min-is =
        ap Some (sym (zero-add (count_trailing_zeros 32 s))) ∙ ap (λ (m : ℕ). Some (0 + count_trailing_zeros 32 m)) (sym (number_is s 32 h))
        ∙ min-number (bit s) 0 32 some ∙ ap least (sym (members-are s))

    -- there is room for a one below the zeros
    pub leading_le : count_leading_zeros 32 s ≤ 31
    leading_le = omega (arith, (leading_top 32 s (omega arith) h).1)

    pub max-is : Some (31 - count_leading_zeros 32 s) ≡ greatest (members s)
    max-is =
        let top = leading_top 32 s (omega arith) h in
        ap Some (omega (arith, top.1))
        ∙ max-number (bit s) 0 32 top.0 some (subst (λ (m : ℕ). count_leading_zeros 32 m + suc top.0 ≡ 32) (sym (number_is s 32 h)) top.1)
        ∙ ap greatest (sym (members-are s))

pub ruleset min_laws = (min-none, min-is)

pub ruleset max_laws = (max_none, max-is, leading_le)
