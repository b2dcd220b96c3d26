-- Numbers written one after another, and a list that is zeroed.
use mathlib.Core.Path.{◌≡◌, refl, sym, ap, ◌∙◌}
use mathlib.Core.Bool.{Bool, true, false, cond}
use mathlib.Core.List.{List, [], ◌∷◌, ◌++◌}
use Prim.Native.Nat.{ℕ, zero, suc, ◌+◌, ◌<◌, ◌≤◌, min}
use native.Mathlib.Omega.{arith}
use native.Mathlib.Nat.{min-eq_left, min-eq_right}
use borrow.Author.Tests.{le-leb, leb-true, leb-false}
use lib.Dec.{leb}
use lib.ListN.{length, get_or, set, take, length-set, drop, replicate, drop_of_length-le, get_or-eq_default}
use lib.Seq as Seq
use Rattle.code.specs.Layout.{room, out, lay}
use Rattle.law.specs.Whole.{work_after}
use Rattle.table_list.specs.Laid.{Laid, zeroed}

-- past the end there is 0, and nothing is set
pub at_past : (l : List ℕ) (p : ℕ) → length l ≤ p → 0 ≡ get_or l p 0
at_past l p h = sym (get_or-eq_default l 0 h)

pub put_past : (l : List ℕ) (p n : ℕ) → length l ≤ p → l ≡ set l p n
put_past [] p n h = refl
put_past (x ∷ l) zero n h = absurd (omega arith)
put_past (x ∷ l) (suc p) n h = ap (λ l. x ∷ l) (put_past l p n (omega arith))

-- ---- numbers at the free place

-- the first i of ns are written from t on
pub record Laying (l₀ ns : List ℕ) (t : ℕ) (l : List ℕ) (i : ℕ) : Type 0 where
  pub list : l ≡ Seq.sets l₀ t (take i ns)
  pub long : length l ≡ length l₀
  pub few : i ≤ length ns

sets_more : (l ns : List ℕ) (t i : ℕ) → i < length ns → set (Seq.sets l t (take i ns)) (t + i) (get_or ns i 0) ≡ Seq.sets l t (take (suc i) ns)
sets_more l [] t i h = absurd (omega arith)
sets_more l (n ∷ ns) t zero h = ap (λ k. set l k n) (omega arith)
sets_more l (n ∷ ns) t (suc i) h =
    let k : t + suc i ≡ suc t + i = omega arith in
    ap (λ k. set (Seq.sets (set l t n) (suc t) (take i ns)) k (get_or ns i 0)) k ∙ sets_more (set l t n) ns (suc t) i (omega arith)

pub lay-start : (l ns : List ℕ) (t : ℕ) → Laying l ns t l 0
lay-start l ns t = record { list = refl; long = refl; few = omega arith }

pub lay-more : (l₀ ns : List ℕ) (t : ℕ) (l : List ℕ) (i : ℕ) → Laying l₀ ns t l i → i < length ns
    → (x : ℕ) → x ≡ get_or ns i 0 → (l' : List ℕ) → l' ≡ set l (t + i) x → Laying l₀ ns t l' (i + 1)
lay-more l₀ ns t l i L h x e l' g =
    let k : suc i ≡ i + 1 = omega arith in
    record {
      list = g ∙ ap (λ x. set l (t + i) x) e ∙ ap (λ l. set l (t + i) (get_or ns i 0)) L.list ∙ sets_more l₀ ns t i h ∙ ap (λ i. Seq.sets l₀ t (take i ns)) k;
      long = ap length g ∙ length-set l (t + i) x ∙ L.long;
      few = omega arith;
    }

-- all are written
pub lay_done : (l₀ ns : List ℕ) (t : ℕ) (l : List ℕ) (i : ℕ) → Laying l₀ ns t l i → length ns ≤ i → t + length ns ≤ 16384
    → (r : ℕ) → r ≡ t + length ns → Laid (lay ns t l₀) r l
unfolding lay
lay_done l₀ ns t l i L h g r e = rw (le-leb (t + length ns) room g) (record { free = e; left = L.list ∙ ap (λ ns. Seq.sets l₀ t ns) (Seq.take_all i ns h) })

-- there is no room
pub lay-full : (ns : List ℕ) (t : ℕ) (l : List ℕ) → 16384 < t + length ns → Laid (lay ns t l) t l
unfolding lay
lay-full ns t l h = go (leb (t + length ns) room) refl
  where
    go : (b : Bool) → leb (t + length ns) room ≡ b → Laid (out t (cond b (t + length ns) t) (cond b (Seq.sets l t ns) l)) t l
    go true e = absurd (omega (arith, leb-true (t + length ns) room e))
    go false e = record { free = refl; left = refl }

-- ---- zeroing

-- what every call leaves
clear-short : (l l' : List ℕ) → length l < 16384 → l' ≡ zeroed (length l) l → l' ≡ work_after l
unfolding zeroed work_after
clear-short l l' h e =
    let m : min 16384 (length l) ≡ length l = min-eq_right (omega arith) in
    rw (e, m, drop_of_length-le l {i = length l} (omega arith), drop_of_length-le l {i = 16384} (omega arith))

clear-long : (l l' : List ℕ) → 16384 ≤ length l → l' ≡ zeroed 16384 l → l' ≡ work_after l
unfolding zeroed work_after
clear-long l l' h e = let m : min 16384 (length l) ≡ 16384 = min-eq_left h in rw (e, m)

pub cleared : (l f : List ℕ) (n m : ℕ) → n ≡ min (length l) 16384 → f ≡ replicate m 0 → m ≡ n → f ++ drop n l ≡ work_after l
unfolding zeroed
cleared l f n m e g h = go (leb 16384 (length l)) refl
  where
    go : (b : Bool) → leb 16384 (length l) ≡ b → f ++ drop n l ≡ work_after l
    go true t = let k = leb-true 16384 (length l) t in let q : n ≡ 16384 = omega arith in clear-long l (f ++ drop n l) k (rw (g, h, q) refl)
    go false t = let k = leb-false 16384 (length l) t in let q : n ≡ length l = omega arith in clear-short l (f ++ drop n l) k (rw (g, h, q) refl)

pub ruleset lay_laws = (lay-start, lay-more, lay_done, lay-full)
