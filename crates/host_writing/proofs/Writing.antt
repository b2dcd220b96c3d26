-- Bytes written one after another, numbers, and the rows.
use mathlib.Core.Path.{◌≡◌, refl, sym, ap, ◌∙◌, subst}
use mathlib.Core.Bool.{Bool, true, false, cond, true≢false}
use mathlib.Core.List.{List, [], ◌∷◌, ◌++◌, map, append_assoc}
use Prim.Native.Nat.{ℕ, zero, suc, ◌+◌, ◌-◌, ◌<◌, ◌≤◌, ◌/◌, ◌%◌, min}
use native.Mathlib.Numerals.{add-one}
use native.Mathlib.Omega.{arith}
use borrow.Author.Tests.{lt-ltb, le-ltb, eq-eqb, ne_eqb, leb-true, leb-false}
use lib.Dec.{ltb, leb, eqb}
use lib.IntN.{ℤ, pos, negsuc}
use lib.ListN.{length, get_or, set, take, drop, length-set, drop_of_length-le}
use lib.Seq.{drop-cons}
use lib.Signed.{lt_z}
use mir.Syntax.{w64}
use mir.Val.{SFits}
use mir.Facts.{to_z-of_z}
use Rattle.leaf_integers.proofs.Machine.{wire}
use Rattle.leaf_bytes.specs.Bytes.{bytes, small}
use Rattle.law.specs.Base.{Name}
use Rattle.law_theorems.proofs.Reading.{none-word}
use Rattle.text_words.specs.Sights.{Ends}
use Rattle.law.specs.Print.{decimal_of, signed_of, row, cell_value, cells}
use Rattle.law.specs.Print.{decimal as decimal_by}
use Rattle.host_writing.specs.Written.{natural_of, turn_of}
use Rattle.law_answers.specs.Written.{Out, out_of, put_one, put_all, Puts, name_at, names_at}

-- ---- one after another

put-append : (hs bs : List ℕ) (o : Out) → put_all (hs ++ bs) o ≡ put_all bs (put_all hs o)
unfolding put_all
put-append [] bs o = refl
put-append (a ∷ hs) bs o = put-append hs bs (put_one a o)

pub puts_then : (hs bs l : List ℕ) (p q : ℕ) (m : List ℕ) (r : ℕ) (n : List ℕ) → Puts hs l p q m → Puts bs m q r n → Puts (hs ++ bs) l p r n
puts_then hs bs l p q m r n f g = record { says = put-append hs bs (out_of l p) ∙ ap (put_all bs) f.says ∙ g.says }

one-long : (b : ℕ) (o : Out) → length (put_one b o).list ≡ length o.list
unfolding put_one
one-long b o = of (ltb o.place (length o.list))
  where
    of : (t : Bool) → length (cond t (out_of (set o.list o.place b) (o.place + 1)) o).list ≡ length o.list
    of true = length-set o.list o.place b
    of false = refl

all-long : (bs : List ℕ) (o : Out) → length (put_all bs o).list ≡ length o.list
unfolding put_all
all-long [] o = refl
all-long (b ∷ bs) o = all-long bs (put_one b o) ∙ one-long b o

pub puts-long : (bs l : List ℕ) (p r : ℕ) (m : List ℕ) → Puts bs l p r m → length m ≡ length l
puts-long bs l p r m f = ap (λ (o : Out). length o.list) (sym f.says) ∙ all-long bs (out_of l p)

-- ---- `put`

pub put-here : (b : ℕ) (l : List ℕ) (p : ℕ) → p < length l → Puts (b ∷ []) l p (p + 1) (set l p b)
unfolding put_all put_one
put-here b l p h = record { says = ap (λ (t : Bool). cond t (out_of (set l p b) (p + 1)) (out_of l p)) (lt-ltb p (length l) h) }

pub put-past : (b : ℕ) (l : List ℕ) (p : ℕ) → length l ≤ p → Puts (b ∷ []) l p p l
unfolding put_all put_one
put-past b l p h = record { says = ap (λ (t : Bool). cond t (out_of (set l p b) (p + 1)) (out_of l p)) (le-ltb p (length l) h) }

pub ruleset put-laws = (put-here, put-past)

-- ---- loops: of bs the bytes cs are left to write

pub record Still (bs l₀ : List ℕ) (p₀ : ℕ) (cs l : List ℕ) (p : ℕ) : Type 0 where
  pub left : put_all bs (out_of l₀ p₀) ≡ put_all cs (out_of l p)
  pub long : length l ≡ length l₀

pub still-start : (bs l : List ℕ) (p : ℕ) → Still bs l p bs l p
still-start bs l p = record { left = refl; long = refl }

module _ (bs l₀ : List ℕ) (p₀ : ℕ) where
  still-step : (hs cs l : List ℕ) (p q : ℕ) (m : List ℕ) → Still bs l₀ p₀ (hs ++ cs) l p → Puts hs l p q m → Still bs l₀ p₀ cs m q
  still-step hs cs l p q m g f = record { left = g.left ∙ put-append hs cs (out_of l p) ∙ ap (put_all cs) f.says; long = puts-long hs l p q m f ∙ g.long }

  still-end : (l : List ℕ) (p : ℕ) → Still bs l₀ p₀ [] l p → Puts bs l₀ p₀ p l
  unfolding put_all
  still-end l p g = record { says = g.left }

  pub still-long : (cs l : List ℕ) (p : ℕ) → Still bs l₀ p₀ cs l p → length l ≡ length l₀
  still-long cs l p g = g.long

  -- `put_all`
  pub all-step : (i : ℕ) (l : List ℕ) (p q : ℕ) (m : List ℕ) → Still bs l₀ p₀ (drop i bs) l p → i < length bs → Puts (get_or bs i 0 ∷ []) l p q m → Still bs l₀ p₀ (drop (i + 1) bs) m q
  all-step i l p q m g h f =
      let e : drop i bs ≡ get_or bs i 0 ∷ drop (suc i) bs = drop-cons bs i 0 h in
      rw (add-one i) (still-step (get_or bs i 0 ∷ []) (drop (suc i) bs) l p q m (rw e at g) f)

  pub all_end : (i : ℕ) (l : List ℕ) (p : ℕ) → Still bs l₀ p₀ (drop i bs) l p → length bs ≤ i → Puts bs l₀ p₀ p l
  all_end i l p g h = still-end l p (let e : drop i bs ≡ [] = drop_of_length-le bs h in rw e at g)

pub ruleset all_laws = (all-step, all_end)

-- ---- decimal digits

decimal-few : (f n : ℕ) (rest : List ℕ) → eqb (n / 10) 0 ≡ true → decimal_by (suc f) n rest ≡ (48 + n % 10) ∷ rest
unfolding decimal_by
decimal-few f n rest e = ap (λ (t : Bool). elim t [ true ↦ (48 + n % 10) ∷ rest | false ↦ decimal_by f (n / 10) ((48 + n % 10) ∷ rest) ]) e

decimal-many : (f n : ℕ) (rest : List ℕ) → eqb (n / 10) 0 ≡ false → decimal_by (suc f) n rest ≡ decimal_by f (n / 10) ((48 + n % 10) ∷ rest)
unfolding decimal_by
decimal-many f n rest e = ap (λ (t : Bool). elim t [ true ↦ (48 + n % 10) ∷ rest | false ↦ decimal_by f (n / 10) ((48 + n % 10) ∷ rest) ]) e

decimal-none : (n : ℕ) (rest : List ℕ) → decimal_by 0 n rest ≡ rest
unfolding decimal_by
decimal-none n rest = refl

decimal-rest : (f n : ℕ) (rest : List ℕ) → decimal_by f n rest ≡ decimal_by f n [] ++ rest
decimal-rest zero n rest = rw (decimal-none n rest, decimal-none n [])
decimal-rest (suc f) n rest = of (eqb (n / 10) 0) refl (decimal-rest f (n / 10) ((48 + n % 10) ∷ rest)) (decimal-rest f (n / 10) ((48 + n % 10) ∷ []))
  where
    of : (t : Bool) → eqb (n / 10) 0 ≡ t → decimal_by f (n / 10) ((48 + n % 10) ∷ rest) ≡ decimal_by f (n / 10) [] ++ ((48 + n % 10) ∷ rest)
        → decimal_by f (n / 10) ((48 + n % 10) ∷ []) ≡ decimal_by f (n / 10) [] ++ ((48 + n % 10) ∷ []) → decimal_by (suc f) n rest ≡ decimal_by (suc f) n [] ++ rest
    of true e g h = decimal-few f n rest e ∙ ap (λ (l : List ℕ). l ++ rest) (sym (decimal-few f n [] e))
    of false e g h =
        decimal-many f n rest e ∙ g ∙ sym (append_assoc (decimal_by f (n / 10) []) ((48 + n % 10) ∷ []) rest)
        ∙ ap (λ (l : List ℕ). l ++ rest) (sym h ∙ sym (decimal-many f n [] e))

module _ (n : ℕ) (l : List ℕ) (p : ℕ) where
  pub digits-none : (f : ℕ) → f ≡ 0 → Puts (decimal_by f n []) l p p l
  unfolding put_all
  digits-none f e = rw e (record { says = ap (λ (bs : List ℕ). put_all bs (out_of l p)) (decimal-none n []) })

  few : n < 10 → eqb (n / 10) 0 ≡ true
  few h = eq-eqb (n / 10) 0 (omega arith)

  many : 10 ≤ n → eqb (n / 10) 0 ≡ false
  many h = ne_eqb (n / 10) 0 (λ e. omega arith)

  pub digits-one : (f r : ℕ) (m : List ℕ) (b : ℕ) → ((f ≡ 0) → ⊥) → n < 10 → b ≡ 48 + n % 10 → Puts (b ∷ []) l p r m → Puts (decimal_by f n []) l p r m
  digits-one zero r m b z h e g = absurd (z refl)
  digits-one (suc f) r m b z h e g = rw (decimal-few f n [] (few h), ← e) g

  pub digits_more : (f q : ℕ) (k : List ℕ) (r : ℕ) (m : List ℕ) (b : ℕ) → ((f ≡ 0) → ⊥) → 10 ≤ n → Puts (decimal_by (f - 1) (n / 10) []) l p q k → b ≡ 48 + n % 10
      → Puts (b ∷ []) k q r m → Puts (decimal_by f n []) l p r m
  digits_more zero q k r m b z h g e j = absurd (z refl)
  digits_more (suc f) q k r m b z h g e j =
      let a : suc f - 1 ≡ f = omega arith in
      let x : Puts (decimal_by f (n / 10) []) l p q k = rw a at g in
      rw (decimal-many f n [] (many h), decimal-rest f (n / 10) ((48 + n % 10) ∷ []), ← e) (puts_then (decimal_by f (n / 10) []) (b ∷ []) l p q k r m x j)

pub ruleset digits-laws = (digits-none, digits-one, digits_more)

pub decimal-is : (n : ℕ) (l : List ℕ) (p r : ℕ) (m : List ℕ) → Puts (decimal_by 20 n []) l p r m → Puts (decimal_of n) l p r m
unfolding decimal_of
decimal-is n l p r m g = g

-- ---- `signed`

module _ (z : ℤ) (f : SFits w64 z) (l : List ℕ) (p : ℕ) where
  signed_up : (z : ℤ) → lt_z z (pos 0) ≡ false → signed_of z ≡ decimal_of (natural_of z)
  unfolding signed_of natural_of
  signed_up (pos n) h = refl
  signed_up (negsuc n) h = absurd (true≢false h)

  signed-down : (z : ℤ) → lt_z z (pos 0) ≡ true → signed_of z ≡ 45 ∷ decimal_of (natural_of (turn_of z) + 1)
  unfolding signed_of natural_of turn_of
  signed-down (pos n) h = absurd (true≢false (sym h ∙ le-ltb n 0 (omega arith)))
  signed-down (negsuc n) h = ap (λ (k : ℕ). 45 ∷ decimal_of k) (sym (add-one n))

  pub signed-plus : (n r : ℕ) (m : List ℕ) → lt_z (wire z) (pos 0) ≡ false → n ≡ natural_of z → Puts (decimal_of n) l p r m → Puts (signed_of z) l p r m
  signed-plus n r m h e g = rw (signed_up z (rw (to_z-of_z f) at h), ← e) g

  pub signed-minus : (n q : ℕ) (k : List ℕ) (r : ℕ) (m : List ℕ) → lt_z (wire z) (pos 0) ≡ true → Puts (45 ∷ []) l p q k → n ≡ natural_of (turn_of z) + 1
      → Puts (decimal_of n) k q r m → Puts (signed_of z) l p r m
  signed-minus n q k r m h a e g = rw (signed-down z (rw (to_z-of_z f) at h), ← e) (puts_then (45 ∷ []) (decimal_of n) l p q k r m a g)

  pub wire-plus : (n r : ℕ) (m : List ℕ) → lt_z (wire z) (pos 0) ≡ false → n ≡ natural_of (wire z) → Puts (decimal_of n) l p r m → Puts (signed_of z) l p r m
  wire-plus n r m h e g = signed-plus n r m h (e ∙ ap natural_of (to_z-of_z f)) g

  pub wire-minus : (n q : ℕ) (k : List ℕ) (r : ℕ) (m : List ℕ) → lt_z (wire z) (pos 0) ≡ true → Puts (45 ∷ []) l p q k → n ≡ natural_of (turn_of (wire z)) + 1
      → Puts (decimal_of n) k q r m → Puts (signed_of z) l p r m
  wire-minus n q k r m h a e g = signed-minus n q k r m h a (e ∙ ap (λ (x : ℤ). natural_of (turn_of x) + 1) (to_z-of_z f)) g

pub ruleset signed-laws = (signed-plus, signed-minus, wire-plus, wire-minus)

-- ---- words and spaces

-- a space or line feed ends what comes before it
then-after : (hs bs : List ℕ) (x : ℕ) (l : List ℕ) (p q : ℕ) (m : List ℕ) (r : ℕ) (n : List ℕ) → Puts (hs ++ (x ∷ [])) l p q m → Puts bs m q r n → Puts (hs ++ (x ∷ bs)) l p r n
then-after hs bs x l p q m r n f g =
    let e : (hs ++ (x ∷ [])) ++ bs ≡ hs ++ (x ∷ bs) = append_assoc hs (x ∷ []) bs in
    rw (← e) (puts_then (hs ++ (x ∷ [])) bs l p q m r n f g)

module _ (l : List ℕ) (p q : ℕ) (k : List ℕ) (r : ℕ) (m : List ℕ) where
  pub spaced-is : (n : ℕ) → Puts (decimal_of n) l p q k → Puts (32 ∷ []) k q r m → Puts (decimal_of n ++ (32 ∷ [])) l p r m
  spaced-is n f g = puts_then (decimal_of n) (32 ∷ []) l p q k r m f g

  pub ended_is : (n : ℕ) → Puts (decimal_of n) l p q k → Puts (10 ∷ []) k q r m → Puts (row (decimal_of n ∷ [])) l p r m
  unfolding row
  ended_is n f g = puts_then (decimal_of n) (10 ∷ []) l p q k r m f g

  pub normal-is : (n : ℕ) → Puts (110 ∷ 111 ∷ 114 ∷ 109 ∷ 97 ∷ 108 ∷ 32 ∷ []) l p q k → Puts (row (decimal_of n ∷ [])) k q r m → Puts (row (bytes "normal" ∷ decimal_of n ∷ [])) l p r m
  unfolding row bytes
  normal-is n f g = puts_then (110 ∷ 111 ∷ 114 ∷ 109 ∷ 97 ∷ 108 ∷ 32 ∷ []) (row (decimal_of n ∷ [])) l p q k r m f g

  pub stuck-is : (n : ℕ) → Puts (115 ∷ 116 ∷ 117 ∷ 99 ∷ 107 ∷ 32 ∷ []) l p q k → Puts (row (decimal_of n ∷ [])) k q r m → Puts (row (bytes "stuck" ∷ decimal_of n ∷ [])) l p r m
  unfolding row bytes
  stuck-is n f g = puts_then (115 ∷ 116 ∷ 117 ∷ 99 ∷ 107 ∷ 32 ∷ []) (row (decimal_of n ∷ [])) l p q k r m f g

  pub spent-is : (n : ℕ) → Puts (115 ∷ 112 ∷ 101 ∷ 110 ∷ 116 ∷ 32 ∷ []) l p q k → Puts (row (decimal_of n ∷ [])) k q r m → Puts (row (bytes "spent" ∷ decimal_of n ∷ [])) l p r m
  unfolding row bytes
  spent-is n f g = puts_then (115 ∷ 112 ∷ 101 ∷ 110 ∷ 116 ∷ 32 ∷ []) (row (decimal_of n ∷ [])) l p q k r m f g

  module _ (t : ℕ) (j : List ℕ) where
    pub refused-is : (n i : ℕ) → Puts (114 ∷ 101 ∷ 102 ∷ 117 ∷ 115 ∷ 101 ∷ 100 ∷ 32 ∷ []) l p q k → Puts (decimal_of n ++ (32 ∷ [])) k q t j → Puts (row (decimal_of i ∷ [])) j t r m
        → Puts (row (bytes "refused" ∷ decimal_of n ∷ decimal_of i ∷ [])) l p r m
    unfolding row bytes
    refused-is n i f g h =
        puts_then (114 ∷ 101 ∷ 102 ∷ 117 ∷ 115 ∷ 101 ∷ 100 ∷ 32 ∷ []) (row (decimal_of n ∷ decimal_of i ∷ [])) l p q k r m f (then-after (decimal_of n) (row (decimal_of i ∷ [])) 32 k q t j r m g h)

    pub place_is : (n i : ℕ) → Puts (32 ∷ []) l p q k → Puts (decimal_of n ++ (32 ∷ [])) k q t j → Puts (row (decimal_of i ∷ [])) j t r m → Puts (32 ∷ row (decimal_of n ∷ decimal_of i ∷ [])) l p r m
    unfolding row
    place_is n i f g h = puts_then (32 ∷ []) (row (decimal_of n ∷ decimal_of i ∷ [])) l p q k r m f (then-after (decimal_of n) (row (decimal_of i ∷ [])) 32 k q t j r m g h)

    pub exception-is : (z : ℤ) (n i : ℕ) → SFits w64 z → Puts (101 ∷ 120 ∷ 99 ∷ 101 ∷ 112 ∷ 116 ∷ 105 ∷ 111 ∷ 110 ∷ 32 ∷ []) l p q k → Puts (signed_of (wire z)) k q t j → Puts (32 ∷ row (decimal_of n ∷ decimal_of i ∷ [])) j t r m
        → Puts (row (bytes "exception" ∷ signed_of z ∷ decimal_of n ∷ decimal_of i ∷ [])) l p r m
    unfolding row bytes
    exception-is z n i y f g h =
        puts_then (101 ∷ 120 ∷ 99 ∷ 101 ∷ 112 ∷ 116 ∷ 105 ∷ 111 ∷ 110 ∷ 32 ∷ []) (signed_of z ++ (32 ∷ row (decimal_of n ∷ decimal_of i ∷ []))) l p q k r m f
        (puts_then (signed_of z) (32 ∷ row (decimal_of n ∷ decimal_of i ∷ [])) k q t j r m (rw (to_z-of_z y) at g) h)

    pub named-is : (w : List ℕ) (v : ℤ) (a : ℕ) → SFits w64 v → Puts w l p q k → Puts (32 ∷ []) k q t j → Puts (cell_value (wire v) a) j t r m → Puts (w ++ (32 ∷ cell_value v a)) l p r m
    named-is w v a y f g h = puts_then w (32 ∷ cell_value v a) l p q k r m f (puts_then (32 ∷ []) (cell_value v a) k q t j r m g (rw (to_z-of_z y) at h))

    pub cell-is : (n : ℕ) (w : List ℕ) (v : ℤ) (a : ℕ) → SFits w64 v → Puts (decimal_of n ++ (32 ∷ [])) l p q k → Puts (w ++ (32 ∷ cell_value (wire v) a)) k q t j → Puts (10 ∷ []) j t r m
        → Puts (row (decimal_of n ∷ w ∷ cell_value v a ∷ [])) l p r m
    unfolding row
    cell-is n w v a y f g h =
        let e : (w ++ (32 ∷ cell_value v a)) ++ (10 ∷ []) ≡ w ++ (32 ∷ (cell_value v a ++ (10 ∷ []))) = append_assoc w (32 ∷ cell_value v a) (10 ∷ []) in
        let x : Puts (w ++ (32 ∷ (cell_value v a ++ (10 ∷ [])))) k q r m = rw (← e) (puts_then (w ++ (32 ∷ cell_value v a)) (10 ∷ []) k q t j r m (rw (to_z-of_z y) at g) h) in
        then-after (decimal_of n) (w ++ (32 ∷ (cell_value v a ++ (10 ∷ [])))) 32 l p q k r m f x

-- ---- `value`

module _ (v : ℤ) (a : ℕ) (l : List ℕ) (p r : ℕ) (m : List ℕ) where
  pub value-is : SFits w64 v → ((a ≡ 0) → ⊥) → Puts (signed_of (wire v)) l p r m → Puts (cell_value v a) l p r m
  unfolding cell_value
  value-is y e f = rw (ne_eqb a 0 e, cell_value) (rw (to_z-of_z y) at f)

  pub value_none : a ≡ 0 → Puts (45 ∷ []) l p r m → Puts (cell_value v a) l p r m
  unfolding cell_value
  value_none e f = rw (eq-eqb a 0 e, cell_value) f

pub ruleset value-laws = (value-is, value_none)

-- ---- `put_small`

module _ (bs l₀ : List ℕ) (p₀ i : ℕ) (l : List ℕ) (p : ℕ) (g : Still (map small bs) l₀ p₀ (map small (drop i bs)) l p) where
  pub small-step : (b q : ℕ) (m : List ℕ) → i < length bs → b ≡ small (get_or bs i 0) → Puts (b ∷ []) l p q m → Still (map small bs) l₀ p₀ (map small (drop (i + 1) bs)) m q
  small-step b q m h e f =
      let d : drop i bs ≡ get_or bs i 0 ∷ drop (suc i) bs = drop-cons bs i 0 h in
      let x : Still (map small bs) l₀ p₀ (small (get_or bs i 0) ∷ map small (drop (suc i) bs)) l p = subst (λ (w : List ℕ). Still (map small bs) l₀ p₀ (map small w) l p) d g in
      rw (add-one i) (still-step (map small bs) l₀ p₀ (b ∷ []) (map small (drop (suc i) bs)) l p q m (rw e x) f)

  pub small-end : length bs ≤ i → Puts (map small bs) l₀ p₀ p l
  small-end h =
      let d : drop i bs ≡ [] = drop_of_length-le bs h in
      still-end (map small bs) l₀ p₀ l p (subst (λ (w : List ℕ). Still (map small bs) l₀ p₀ (map small w) l p) d g)

pub ruleset small-laws = (small-step, small-end)

-- ---- `name`

module _ (s : List ℕ) (o : ℕ) (l : List ℕ) (p : ℕ) where
  pub name-none : length s < o → Puts (name_at s o) l p p l
  unfolding name_at put_all
  name-none h = record { says = ap (λ (w : List ℕ). put_all (map small w) (out_of l p)) (none-word s o (omega arith)) }

  pub name-is : (q r : ℕ) (m : List ℕ) → Ends s o q → Puts (map small (take (q - o) (drop o s))) l p r m → Puts (name_at s o) l p r m
  unfolding name_at
  name-is q r m g f = subst (λ (w : List ℕ). Puts (map small w) l p r m) (sym g.bytes) f

pub ruleset name-laws = (name-none, name-is)

-- ---- `cell_rows`

cells-cons : (n : ℕ) (w : Name) (ws : List Name) (v : ℤ) (vs : List ℤ) (a : ℕ) (ms : List ℕ)
    → cells n (w ∷ ws) (v ∷ vs) (a ∷ ms) ≡ row (decimal_of n ∷ w ∷ cell_value v a ∷ []) ++ cells (suc n) ws vs ms
unfolding cells
cells-cons n w ws v vs a ms = refl

no_names : (n : ℕ) (vs : List ℤ) (ms : List ℕ) → cells n [] vs ms ≡ []
unfolding cells
no_names n vs ms = refl

no-values : (n : ℕ) (ws : List Name) (ms : List ℕ) → cells n ws [] ms ≡ []
unfolding cells
no-values n [] ms = refl
no-values n (w ∷ ws) ms = refl

no-marks : (n : ℕ) (ws : List Name) (vs : List ℤ) → cells n ws vs [] ≡ []
unfolding cells
no-marks n [] vs = refl
no-marks n (w ∷ ws) [] = refl
no-marks n (w ∷ ws) (v ∷ vs) = refl

-- the rows from cell i on
abbrev pub cells_from : ℕ → List ℕ → List ℕ → List ℤ → List ℕ → List ℕ
cells_from i s ns vs ms = cells (i + 1) (names_at s (drop i ns)) (drop i vs) (drop i ms)

module _ (s ns : List ℕ) (vs : List ℤ) (ms : List ℕ) (i : ℕ) where
  from_step : i < length ns → i < length vs → i < length ms
      → cells_from i s ns vs ms ≡ row (decimal_of (i + 1) ∷ name_at s (get_or ns i 0) ∷ cell_value (get_or vs i (pos 0)) (get_or ms i 0) ∷ []) ++ cells_from (i + 1) s ns vs ms
  unfolding names_at
  from_step h j k =
      let a : drop i ns ≡ get_or ns i 0 ∷ drop (suc i) ns = drop-cons ns i 0 h in
      let b : drop i vs ≡ get_or vs i (pos 0) ∷ drop (suc i) vs = drop-cons vs i (pos 0) j in
      let c : drop i ms ≡ get_or ms i 0 ∷ drop (suc i) ms = drop-cons ms i 0 k in
      let d : i + 1 ≡ suc i = add-one i in
      let e : i + 1 + 1 ≡ suc (i + 1) = add-one (i + 1) in
      ap (λ (x : List ℕ). cells (i + 1) (names_at s x) (drop i vs) (drop i ms)) a
      ∙ ap (λ (x : List ℤ). cells (i + 1) (names_at s (get_or ns i 0 ∷ drop (suc i) ns)) x (drop i ms)) b
      ∙ ap (λ (x : List ℕ). cells (i + 1) (names_at s (get_or ns i 0 ∷ drop (suc i) ns)) (get_or vs i (pos 0) ∷ drop (suc i) vs) x) c
      ∙ cells-cons (i + 1) (name_at s (get_or ns i 0)) (names_at s (drop (suc i) ns)) (get_or vs i (pos 0)) (drop (suc i) vs) (get_or ms i 0) (drop (suc i) ms)
      ∙ ap (λ (x : List ℕ). row (decimal_of (i + 1) ∷ name_at s (get_or ns i 0) ∷ cell_value (get_or vs i (pos 0)) (get_or ms i 0) ∷ []) ++ x)
      (ap (λ (x : ℕ). cells x (names_at s (drop (suc i) ns)) (drop (suc i) vs) (drop (suc i) ms)) (sym e)
      ∙ ap (λ (x : ℕ). cells (i + 1 + 1) (names_at s (drop x ns)) (drop x vs) (drop x ms)) (sym d))

  module _ (bs l₀ : List ℕ) (p₀ : ℕ) (l : List ℕ) (p : ℕ) (g : Still bs l₀ p₀ (cells_from i s ns vs ms) l p) where
    rows-stop : cells_from i s ns vs ms ≡ [] → Puts bs l₀ p₀ p l
    rows-stop e = still-end bs l₀ p₀ l p (subst (λ (cs : List ℕ). Still bs l₀ p₀ cs l p) e g)

    rows-names : length ns ≤ i → Puts bs l₀ p₀ p l
    unfolding names_at
    rows-names h =
        rows-stop (ap (λ (x : List ℕ). cells (i + 1) (names_at s x) (drop i vs) (drop i ms)) (drop_of_length-le ns h) ∙ no_names (i + 1) (drop i vs) (drop i ms))

    rows-values : length vs ≤ i → Puts bs l₀ p₀ p l
    rows-values h =
        rows-stop (ap (λ (x : List ℤ). cells (i + 1) (names_at s (drop i ns)) x (drop i ms)) (drop_of_length-le vs h) ∙ no-values (i + 1) (names_at s (drop i ns)) (drop i ms))

    rows-marks : length ms ≤ i → Puts bs l₀ p₀ p l
    rows-marks h =
        rows-stop (ap (λ (x : List ℕ). cells (i + 1) (names_at s (drop i ns)) (drop i vs) x) (drop_of_length-le ms h) ∙ no-marks (i + 1) (names_at s (drop i ns)) (drop i vs))

    pub rows_step : (q : ℕ) (m : List ℕ) → i < length ns → i < length vs → i < length ms
        → Puts (row (decimal_of (i + 1) ∷ name_at s (get_or ns i 0) ∷ cell_value (get_or vs i (pos 0)) (get_or ms i 0) ∷ [])) l p q m → Still bs l₀ p₀ (cells_from (i + 1) s ns vs ms) m q
    rows_step q m h j k x =
        still-step bs l₀ p₀ (row (decimal_of (i + 1) ∷ name_at s (get_or ns i 0) ∷ cell_value (get_or vs i (pos 0)) (get_or ms i 0) ∷ [])) (cells_from (i + 1) s ns vs ms) l p q m
        (subst (λ (cs : List ℕ). Still bs l₀ p₀ cs l p) (from_step h j k) g) x

    pub rows-done : i ≡ min (min (length vs) (length ns)) (length ms) → Puts bs l₀ p₀ p l
    rows-done e = go (leb (length vs) i) refl (leb (length ns) i) refl (leb (length ms) i) refl
      where
        go : (a : Bool) → leb (length vs) i ≡ a → (b : Bool) → leb (length ns) i ≡ b → (c : Bool) → leb (length ms) i ≡ c → Puts bs l₀ p₀ p l
        go true x b y c z = rows-values (leb-true (length vs) i x)
        go false x true y c z = rows-names (leb-true (length ns) i y)
        go false x false y true z = rows-marks (leb-true (length ms) i z)
        go false x false y false z =
            let a = leb-false (length vs) i x in let b = leb-false (length ns) i y in let c = leb-false (length ms) i z in
            absurd (omega arith)

pub ruleset rows-laws = (rows-done, rows_step)

-- ---- `cell_at`

pub at-is : (s : List ℕ) (n o i a b : ℕ) (v : ℤ) (l : List ℕ) (p q : ℕ) (m : List ℕ) → SFits w64 v → n ≡ i + 1 → o ≡ b
    → Puts (row (decimal_of n ∷ name_at s o ∷ cell_value (wire v) a ∷ [])) l p q m → Puts (row (decimal_of (i + 1) ∷ name_at s b ∷ cell_value v a ∷ [])) l p q m
at-is s n o i a b v l p q m y e f x =
    subst (λ (z : ℤ). Puts (row (decimal_of (i + 1) ∷ name_at s b ∷ cell_value z a ∷ [])) l p q m) (to_z-of_z y)
    (subst (λ (u : ℕ). Puts (row (decimal_of (i + 1) ∷ name_at s u ∷ cell_value (wire v) a ∷ [])) l p q m) f
    (subst (λ (u : ℕ). Puts (row (decimal_of u ∷ name_at s o ∷ cell_value (wire v) a ∷ [])) l p q m) e x))
