-- Values put in order: what each step leaves of the list.
use mathlib.Core.Path.{◌≡◌, refl, sym, ap, ◌∙◌}
use mathlib.Core.Bool.{Bool, true, false, false≢true}
use mathlib.Core.List.{List, map}
use Prim.Native.Nat.{ℕ, ◌+◌, ◌*◌, ◌%◌, ◌<◌, ◌≤◌}
use native.Mathlib.Nat.{mod-lt}
use native.Mathlib.Decide.{ℕ_discrete, dec_lt}
use native.Mathlib.Omega.{arith}
use mir.Syntax.{w32}
use mir.Val.{Fits}
use lib.ListN.{length, get_or, set, length-set}
use lib.Seq.{get_or-set_same, get_or-set_other, set_out}
use Rattle.leaf_bytes.specs.Bytes.{small}
use Rattle.law.specs.Trees.{word_at}
use Rattle.table_names.specs.Keys.{key_of}
use Rattle.table_names.specs.Chain.{name_at, first_value, value_in}
use Rattle.table_names.proofs.Chained.{first-low}
use Rattle.table_order.specs.Ordered.{Ranks, Finds, unmarked, marked, Marking, Ordered}
use Rattle.table_order.proofs.Finding.{found_all}

pub ranks-start : (b : ℕ) (l : List ℕ) → Ranks b l l
ranks-start b l = record { long = refl; other = λ _ _. refl; sorts = λ _. refl }

pub ranks-on : {b : ℕ} {l m k : List ℕ} → Ranks b l m → Ranks b m k → Ranks b l k
ranks-on R Q = record {
  long = Q.long ∙ R.long;
  other = λ j h. Q.other j h ∙ R.other j h;
  sorts = λ j. Q.sorts j ∙ R.sorts j;
}

-- ---- `set_rank`

-- a number that is written keeps another below 512, or the list is too short for it
written : (l : List ℕ) (p v j : ℕ) → v % 512 ≡ get_or l p 0 % 512 → get_or (set l p v) j 0 % 512 ≡ get_or l j 0 % 512
written l p v j e = go (ℕ_discrete j p) (dec_lt p (length l))
  where
    go : Dec (j ≡ p) → Dec (p < length l) → get_or (set l p v) j 0 % 512 ≡ get_or l j 0 % 512
    go (yes x) (yes h) = rw (x, get_or-set_same l p v 0 h) e
    go (yes x) (no h) = rw (set_out l p v (omega (arith, h))) refl
    go (no x) d = rw (get_or-set_other l p j v 0 (λ y. x y)) refl

pub rank-set : (b j i : ℕ) (l : List ℕ) (x : ℕ) → x ≡ get_or l (b + 4 * j + 1) 0 → (l' : List ℕ) → l' ≡ set l (b + 4 * j + 1) (x % 512 + 512 * (i % 256)) → Ranks b l l'
rank-set b j i l x e l' f = rw f (record {
  long = length-set l (b + 4 * j + 1) (x % 512 + 512 * (i % 256));
  other = λ k h. get_or-set_other l (b + 4 * j + 1) k (x % 512 + 512 * (i % 256)) 0 (λ y. h j y);
  sorts = λ k. written l (b + 4 * j + 1) (x % 512 + 512 * (i % 256)) k (let z : (x % 512 + 512 * (i % 256)) % 512 ≡ x % 512 = omega arith in z ∙ ap (λ (y : ℕ). y % 512) e);
})

pub rank-times : (i : ℕ) → Fits w32 (512 * (i % 256))
rank-times i = let h = mod-lt i {m = 256} (omega arith) in record { fits = omega arith }

pub rank-fits : (x i : ℕ) → Fits w32 (x % 512 + 512 * (i % 256))
rank-fits x i = let h = mod-lt i {m = 256} (omega arith) in let g = mod-lt x {m = 512} (omega arith) in record { fits = omega arith }

-- ---- `all_found`: the first i values are

pub record Finding (s l : List ℕ) (p n base i : ℕ) : Type 0 where
  pub base-is : base ≡ first_value p
  pub so_far : (j : ℕ) → j < i → value_in s l p n (name_at s l (first_value p + 4 * j)) ≡ first_value p + 4 * j

module _ (s l : List ℕ) (p n base : ℕ) where
  pub finding-start : base ≡ first_value p → Finding s l p n base 0
  finding-start e = record { base-is = e; so_far = λ j h. absurd (omega arith) }

  module _ (i : ℕ) (F : Finding s l p n base i) where
    pub finding-done : n ≤ i → Finds s l p n true
    finding-done h = record { each = λ _ j g. F.so_far j (omega arith) }

    module _ (h : i < n) (x : ℕ) (e : x ≡ get_or l (base + 4 * i) 0) (key : ℕ) (k : key ≡ key_of (map small (word_at s (x % 32768)))) (q : ℕ)
        (Q : key ≡ key_of (map small (word_at s (x % 32768))) → q ≡ value_in s l p n (map small (word_at s (x % 32768)))) where
      pub finding-on : q ≡ base + 4 * i → Finding s l p n base (i + 1)
      unfolding name_at
      finding-on f = record { base-is = F.base-is; so_far = λ j g. go j g (ℕ_discrete j i) }
        where
          here : value_in s l p n (map small (word_at s (get_or l (first_value p + 4 * i) 0 % 32768))) ≡ first_value p + 4 * i
          here = rw (← F.base-is, ← e) (sym (Q k) ∙ f)

          go : (j : ℕ) → j < i + 1 → Dec (j ≡ i) → value_in s l p n (map small (word_at s (get_or l (first_value p + 4 * j) 0 % 32768))) ≡ first_value p + 4 * j
          go j g (yes z) = rw z here
          go j g (no z) = F.so_far j (omega (arith, z, g))

pub finding-not : (s l : List ℕ) (p n : ℕ) → Finds s l p n false
finding-not s l p n = record { each = λ z _ _. absurd (false≢true z) }

pub ruleset finding-laws = (finding-done, finding-on)

-- ---- `mark`

module _ (s m : List ℕ) (p n : ℕ) (k : List ℕ) (e : k ≡ set m (p + 2) n) where
  set_other : (j : ℕ) → (j ≡ p + 2 → ⊥) → get_or k j 0 ≡ get_or m j 0
  set_other j g = rw e (get_or-set_other m (p + 2) j n 0 g)

  long-is : length k ≡ length m
  long-is = ap length e ∙ length-set m (p + 2) n

  pub marking-found : (r : Bool) → Finds s k p n r → r ≡ true → Marking s m p n k
  marking-found r F t = record {
    long = long-is;
    other = set_other;
    head = λ h x. marked (rw e (get_or-set_same m (p + 2) n 0 x)) (found_all s k p n h (rw t at F));
  }

  pub marking-lost : (l' : List ℕ) → l' ≡ set k (p + 2) 0 → Marking s m p n l'
  marking-lost l' f = record {
    long = ap length f ∙ length-set k (p + 2) 0 ∙ long-is;
    other = λ j g. rw f (get_or-set_other k (p + 2) j 0 0 g) ∙ set_other j g;
    head = λ _ x. unmarked (rw f (get_or-set_same k (p + 2) 0 0 (rw long-is x)));
  }

-- ---- `put_in_order`

pub ordered-not : (s l : List ℕ) (p n : ℕ) → 32768 ≤ p → Ordered s l p n l
ordered-not s l p n h = record {
  below = record { at = λ _ _ _. refl };
  long = refl;
  other = λ _ _ _. refl;
  sorts = λ _ _. refl;
  head = λ g _. absurd (omega arith);
}

pub ordered-is : (s l : List ℕ) (p n : ℕ) → p < 32768 → (b : ℕ) → b ≡ first_value p → (m : List ℕ) → Ranks b l m → (l' : List ℕ) → Marking s m p n l' → Ordered s l p n l'
ordered-is s l p n low b B m R l' M = record {
  below = record { at = λ j _ x. M.other j (λ z. omega arith) ∙ sorted j (λ i z. omega arith) };
  long = M.long ∙ R.long;
  other = λ j x y. M.other j x ∙ sorted j y;
  sorts = λ j x. ap (λ (y : ℕ). y % 512) (M.other j x) ∙ R.sorts j;
  head = λ h x. M.head h (rw R.long x);
}
  where
    sorted : (j : ℕ) → ((i : ℕ) → j ≡ p + 12 + 4 * i + 1 → ⊥) → get_or m j 0 ≡ get_or l j 0
    sorted j h = let z : b ≡ p + 12 = B ∙ first-low p low in R.other j (λ i x. h i (x ∙ ap (λ (y : ℕ). y + 4 * i + 1) z))
