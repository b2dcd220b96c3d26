-- Code that was made of an accepted script never sticks, and keeps each cell in its range.
use mathlib.Core.Option as O
use mathlib.Core.Path.{◌≡◌, refl, sym, ap, ◌∙◌}
use mathlib.Core.Bool.{Bool, true, false, cond, ◌&&◌}
use mathlib.Core.List.{List, [], ◌∷◌}
use mathlib.Core.Option.{some}
use Prim.Native.Nat.{ℕ, zero, suc, ◌+◌, ◌≤◌, ◌<◌}
use native.Mathlib.Decide.{ℕ_discrete, dec_lt}
use native.Mathlib.Omega.{arith}
use native.Mathlib.Nat.{add_assoc, add-zero, add-suc, suc-add}
use lib.IntN.{ℤ, pos, ◌+ℤ◌, ◌-ℤ◌}
use lib.Signed.{le_z}
use borrow.Author.Tests.{eqb-true}
use lib.Dec.{eqb}
use lib.ListN.{get_or, set, length, length-set}
use lib.Seq.{get_or-set_same, get_or-set_other, set_out}
use Rattle.leaf_powers.specs.Powers as Powers
use Rattle.leaf_integers.specs.declared.Fault.{Fault}
use Rattle.leaf_integers.specs.declared.Fault.TheVariants.{Overflow, Divisor, Exponent, Bound}
use Rattle.leaf_integers.specs.Integers.{Num}
use Rattle.std.specs.Prelude.{Ok, Err}
use Rattle.leaf_integers.specs.Integers.{inside, is_zero, exact, quotient, modulus, next, previous}
use Rattle.leaf_integers.proofs.Ranges.{exact-value, ranged-value}
use Rattle.leaf_integers.proofs.Division.{quotient-value, modulus-range}
use Rattle.leaf_powers.proofs.Powers.{power-value}
use Rattle.leaf_sets.specs.Sets as Sets
use Rattle.std.specs.Prelude.{Option}
use Rattle.std.specs.Prelude.{Some, None}
use Rattle.leaf_sets.specs.Sets.{lies_in, members_of, pattern_of}
use Rattle.leaf_sets.proofs.Digits.{members-length}
use Rattle.leaf_sets.proofs.Base.{empty-lies, union-lies, difference-lies, intersection-lies, with-lies, least-lies, greatest-lies}
use Rattle.law.specs.Base.{given, pick}
use Rattle.law.specs.Calculate.{Result, is, fails, ◌>>=◌, numeric_error, range_error, undefined_error, exception_of, integer, truth, tested, is_true, set_value, joined, member_in, compute, compute1}
use Rattle.law.specs.Chair.{eval_code, gather_codes, place_code}
use Rattle.law.specs.Code.{Codes}
use Rattle.law.specs.Elaborate.{Elaborated, Located, elab_expr, elab_members, elab_target}
use Rattle.law.specs.Machine.{Store, defined, is_defined, one_cell, overwritten, read_cell, read_cells, short_circuited, sole, stored}
use Rattle.law.specs.Operators.{Fun, Op, Operation, Rule, Rule1, abs, and_both, at_least, at_most, both_integers as ints?, card, divide, equal, function_rule, greater, int_div, int_mod, int_power, less, member, minus, modulo, negate, not_of, odd, operator_rule, or_both, ord, plus, power, pred, rule, same_sets as sets?, setmax, setmin, sqr, pred_in, succ_in, succ, times, unequal}
use Rattle.law.specs.Script.{Expr, Exprs, Target, ◌and◌, at, binary, const, dot, end_of, error_number, members, nil, read, short_circuit, unary, var}
use Rattle.law.specs.Store.{cell_fits}
use Rattle.law.specs.Types.{Shape, Types, Vars, array_shape, base_of, cells_by, cells_of, host_by, host_of, info_at, is_ordinal, is_set, ordinal?, ordinal_shape, record_shape, set_shape, set?, size_of}
use borrow.Author.Tests.{le-leb}
use Rattle.leaf_integers.proofs.Order.{le_z-trans}
use Rattle.law_theorems.proofs.Inversion.{and-both, and-true, some_inj, both_some, bind-some, given-some, either-some}
use Rattle.law_theorems.specs.ValuesInRange.{At, Formed, Here, InInt, Test, any}

pub none-some : {A : Type 0} {a : A} → O.none ≡ some a → ⊥
none-some {a} h = let z : ◌≡◌ {A = ℕ} 0 1 = cc in omega arith

pub wrong {ℓ} : {X : Type ℓ} → false ≡ true → X
wrong h = absurd (let z : ◌≡◌ {A = ℕ} 0 1 = cc in omega arith)

-- a set is no ordinal
pub no-ordinal : (s : Shape) → is_set s ≡ true → is_ordinal s ≡ false
no-ordinal ordinal_shape h = wrong h
no-ordinal set_shape h = refl
no-ordinal array_shape h = refl
no-ordinal record_shape h = refl

-- ---- a value with a property, or an exception: never stuck

-- the numbers of the exceptions are
e-numeric : InInt numeric_error
unfolding inside
e-numeric = record { ok = refl }

pub e-range : InInt range_error
unfolding inside
e-range = record { ok = refl }

e-undefined : InInt undefined_error
unfolding inside
e-undefined = record { ok = refl }

pub record InBool (z : ℤ) : Type 0 where
  pub ok : inside (pos 0) (pos 1) z ≡ true

truth-in : (b : Bool) → InBool (truth b)
unfolding inside truth
truth-in true = record { ok = refl }
truth-in false = record { ok = refl }

pub data Good {A : Type 0} (P : A → Type 0) : Result A → Type 0 where
  value : {a : A} → P a → Good P (is a)
  failure : {z : ℤ} → InInt z → Good P (fails z)

module _ {A B : Type 0} {P : A → Type 0} {Q : B → Type 0} where
  pub bind-g : {v : Result A} {f : A → Result B} → Good P v → ((a : A) → P a → Good Q (f a)) → Good Q (v >>= f)
  bind-g (value {a} p) k = k a p
  bind-g (failure e) k = failure e

pub weaken : {A : Type 0} {P Q : A → Type 0} {v : Result A} → ((a : A) → P a → Q a) → Good P v → Good Q v
weaken k (value {a} p) = value (k a p)
weaken k (failure e) = failure e

abbrev pub Any : {A : Type 0} → A → Type 0
Any a = Unit {0}

abbrev pub Free : {A : Type 0} → Result A → Type 0
Free v = Good Any v

pub pick-g : {A : Type 0} {P : A → Type 0} (b : Bool) {x y : Result A} → (b ≡ true → Good P x) → Good P y → Good P (pick b x y)
unfolding pick
pick-g true h g = h refl
pick-g false h g = g

-- ---- arithmetic: every operation gives a value or an exception

tested-g : {e : ℤ} → InInt e → (lo hi z : ℤ) → Good (λ x. inside lo hi x ≡ true) (tested e lo hi z)
unfolding tested
tested-g i lo hi z = pick-g (inside lo hi z) (λ h. value h) (failure i)

e-fault : (f : Fault) → InInt (exception_of f)
unfolding exception_of
e-fault Overflow = e-numeric
e-fault Divisor = e-numeric
e-fault Exponent = e-numeric
e-fault Bound = e-range

-- what an integer leaf gives
num-g : {P : ℤ → Type 0} (n : Num) → ((v : ℤ) → n ≡ Ok v → P v) → Good P (integer n)
unfolding integer
num-g (Ok v) k = value (k v refl)
num-g (Err f) k = failure (e-fault f)

exact-g : (z : ℤ) → Good InInt (integer (exact z))
exact-g z = num-g (exact z) λ v e. record { ok = (exact-value z v e).0 }

pow-g : (a b : ℤ) → Good InInt (compute int_power a b)
unfolding compute
pow-g a b = num-g (Powers.power a b) λ v e. record { ok = (power-value a b v e).0 }

div-g : (a b : ℤ) → Good InInt (compute int_div a b)
unfolding compute
div-g a b = num-g (quotient a b) λ v e. record { ok = (quotient-value a b v e).0 }

mod-g : (a b : ℤ) → InInt b → Good InInt (compute int_mod a b)
unfolding compute
mod-g a b i = num-g (modulus a b) λ v e. record { ok = modulus-range a b v i.ok e }

next-g : (lo hi a : ℤ) → Good (λ z. inside lo hi z ≡ true) (compute1 (succ_in lo hi) a)
unfolding compute1 next
next-g lo hi a = num-g (next lo hi a) λ v e. (ranged-value Bound lo hi (a +ℤ pos 1) v e).0

previous-g : (lo hi a : ℤ) → Good (λ z. inside lo hi z ≡ true) (compute1 (pred_in lo hi) a)
unfolding compute1 previous
previous-g lo hi a = num-g (previous lo hi a) λ v e. (ranged-value Bound lo hi (a -ℤ pos 1) v e).0

pub int-pos : (n : ℕ) → n ≤ 2147483647 → InInt (pos n)
unfolding inside
int-pos n l = record { ok = le-leb n 2147483647 l }

-- a member that is asked for
member-g : (lo hi : ℤ) (m : Option ℕ) → ((x : ℕ) → m ≡ Some x → (le_z lo (pos x) && le_z (pos x) hi) ≡ true) → Good (λ z. inside lo hi z ≡ true) (member_in m)
unfolding member_in inside
member-g lo hi (Some x) k = value (k x refl)
member-g lo hi None k = failure e-range

-- a set of a base with a member of the base more
joined-lies : (lo hi z s : ℤ) → inside lo hi z ≡ true → lies_in lo hi s ≡ true → lies_in lo hi (joined z s) ≡ true
unfolding joined set_value inside
joined-lies lo hi z s i h = with-lies lo hi s h z i

-- ---- lists of cells: ys stands in xs from a on

pub at-trans : {xs ys zs : List ℕ} {a b : ℕ} → At xs a ys → At ys b zs → At xs (a + b) zs
at-trans {a} {b} h g = record {
  short = omega (arith, h.short, g.short);
  each = λ j l. rw add_assoc (h.each (b + j) (omega (arith, g.short)) ∙ g.each j l);
}

pub here-trans : {Γ : Types} {tests : List Test} {ys zs : List ℕ} {a b : ℕ} → Here Γ tests a ys → At ys b zs → Here Γ tests (a + b) zs
here-trans {Γ} {a} {b} h g = record {
  short = omega (arith, h.short, g.short);
  each = λ j l z. rw add_assoc (h.each (b + j) (omega (arith, g.short)) z ∙ ap (λ (t : ℕ). cell_fits Γ t z) (g.each j l));
}

-- a cell as row 11 wants it
abbrev pub ok_by : Test → ℤ → ℕ → Bool
ok_by f v m = cond (is_defined m) (eqb m defined && f v) (is_zero v)

pub record Sound (tests : List Test) (m : Store) : Type 0 where
  pub long : length m.values ≡ length m.marks
  pub enough : length tests ≤ length m.values
  pub each : (i : ℕ) → ok_by (get_or tests i any) (get_or m.values i (pos 0)) (get_or m.marks i 0) ≡ true
  pub number : InInt m.latest

-- a cell is written with what it may hold; past the end nothing is
pub put_one : (tests : List Test) (m : Store) (i : ℕ) (z : ℤ) (k : ℕ) → ok_by (get_or tests i any) z k ≡ true → Sound tests m → Sound tests (overwritten i (z ∷ []) (k ∷ []) m)
put_one tests m i z k h s = record {
  long = length-set m.values i z ∙ s.long ∙ sym (length-set m.marks i k);
  enough = rw (length-set m.values i z) s.enough;
  each = λ j. here j (ℕ_discrete j i) (dec_lt i (length m.values));
  number = s.number;
}
  where
    here : (j : ℕ) → Dec (j ≡ i) → Dec (i < length m.values) → ok_by (get_or tests j any) (get_or (set m.values i z) j (pos 0)) (get_or (set m.marks i k) j 0) ≡ true
    here j (no ne) d = rw (get_or-set_other m.values i j z (pos 0) ne, get_or-set_other m.marks i j k 0 ne) (s.each j)
    here j (yes e) (yes l) = rw (e, get_or-set_same m.values i z (pos 0) l, get_or-set_same m.marks i k 0 (rw (← s.long) l)) h
    here j (yes e) (no nl) = rw (set_out m.values i z (omega arith), set_out m.marks i k (omega (arith, s.long))) (s.each j)

-- what the sorts say
pub ord-layout : (s : Shape) (t : ℕ) (cs : List ℕ) → is_ordinal s ≡ true → cells_by s t cs ≡ t ∷ []
ord-layout ordinal_shape t cs h = refl
ord-layout set_shape t cs h = refl
ord-layout array_shape t cs h = cc
ord-layout record_shape t cs h = cc

pub set-layout : (s : Shape) (t : ℕ) (cs : List ℕ) → is_set s ≡ true → cells_by s t cs ≡ t ∷ []
set-layout ordinal_shape t cs h = refl
set-layout set_shape t cs h = refl
set-layout array_shape t cs h = cc
set-layout record_shape t cs h = cc

pub own-host : (s : Shape) (t h : ℕ) → is_ordinal s ≡ false → host_by s t h ≡ t
own-host ordinal_shape t h e = cc
own-host set_shape t h e = refl
own-host array_shape t h e = refl
own-host record_shape t h e = refl

module _ (Γ : Types) (Δ : Vars) (tests : List Test) (𝓕 : Formed Γ Δ tests) where
  -- cells zs of the types ts
  pub record Fits (ts : List ℕ) (zs : List ℤ) : Type 0 where
    pub long : length zs ≡ length ts
    pub each : (j : ℕ) → j < length ts → cell_fits Γ (get_or ts j 0) (get_or zs j (pos 0)) ≡ true

  -- a value of kind k has k's cells. One that is no ordinal has cells of k's types; an ordinal's value is tested where it is stored
  pub record Value-of (k : ℕ) (zs : List ℤ) : Type 0 where
    pub long : length zs ≡ size_of Γ k
    pub fits : ordinal? Γ k ≡ false → Fits (cells_of Γ k) zs
    pub ranged : ordinal? Γ k ≡ true → inside (info_at Γ k).low (info_at Γ k).high (sole zs) ≡ true

  -- a defined cell
  ok-defined : (b : Bool) (x y : Bool) → cond b x y ≡ true → b ≡ true → x ≡ true
  ok-defined true x y h e = h
  ok-defined false x y h e = cc

  fetch-g : {m : Store} → Sound tests m → (a : ℕ) → Good (λ z. get_or tests a any z ≡ true) (read_cell a m)
  unfolding read_cell
  fetch-g {m} s a = pick-g _ (λ h. value (and-true (eqb (get_or m.marks a 0) defined) _ (ok-defined _ _ (is_zero (get_or m.values a (pos 0))) (s.each a) h)).1) (failure e-undefined)

  here-tail : {t : ℕ} {ts : List ℕ} {a : ℕ} → Here Γ tests a (t ∷ ts) → Here Γ tests (suc a) ts
  here-tail {a} h = record { short = omega (arith, h.short); each = λ j l z. rw (suc-add a j, ← add-suc a j) (h.each (suc j) (omega arith) z) }

  here-head : {t : ℕ} {ts : List ℕ} {a : ℕ} → Here Γ tests a (t ∷ ts) → (z : ℤ) → get_or tests a any z ≡ cell_fits Γ t z
  here-head {a} h z = rw add-zero at (h.each 0 (omega arith) z)

  pub fits-none : Fits [] []
  fits-none = record { long = refl; each = λ j l. absurd (omega arith) }

  pub fits-cons : {t : ℕ} {ts : List ℕ} {z : ℤ} {zs : List ℤ} → cell_fits Γ t z ≡ true → Fits ts zs → Fits (t ∷ ts) (z ∷ zs)
  fits-cons {t} {ts} {z} {zs} h g = record { long = ap suc g.long; each = go }
    where
      go : (j : ℕ) → j < suc (length ts) → cell_fits Γ (get_or (t ∷ ts) j 0) (get_or (z ∷ zs) j (pos 0)) ≡ true
      go zero l = h
      go (suc j) l = g.each j (omega arith)

  loads-g : {m : Store} → Sound tests m → (a : ℕ) (ts : List ℕ) → Here Γ tests a ts → Good (λ zs. Fits ts zs) (read_cells a (length ts) m)
  unfolding read_cells
  loads-g s a [] h = value fits-none
  loads-g s a (t ∷ ts) h = bind-g (fetch-g s a) λ z p. bind-g (loads-g s (suc a) ts (here-tail h)) λ zs q. value (fits-cons (sym (here-head h z) ∙ p) q)

  -- ---- storing

  pub stored_one : {m : Store} (i : ℕ) (z : ℤ) → get_or tests i any z ≡ true → Sound tests m → Sound tests (stored i (z ∷ []) m)
  stored_one {m} i z h s = put_one tests m i z defined h s

  pub stored-all : (ts : List ℕ) (zs : List ℤ) {m : Store} (a : ℕ) → Here Γ tests a ts → Fits ts zs → Sound tests m → Sound tests (stored a zs m)
  stored-all ts [] a h f s = record { long = s.long; enough = s.enough; each = s.each; number = s.number }
  stored-all [] (z ∷ zs) a h f s = absurd (omega (arith, f.long))
  stored-all (t ∷ ts) (z ∷ zs) {m} a h f s =
      stored-all ts zs (suc a) (here-tail h) (record { long = omega (arith, f.long); each = λ j l. f.each (suc j) (omega arith) })
      (stored_one {m = m} a z (here-head h z ∙ f.each 0 (omega arith)) s)

  -- ---- the table of operators, once more: an ordinal, or an operation on sets that gives a set

  given-if : {A P : Type 0} (t : Bool) {a q : A} → given t a ≡ some q → (t ≡ true → a ≡ q → P) → P
  unfolding given
  given-if true h k = k refl (some_inj h)
  given-if false h k = absurd (none-some h)

  clash {ℓ} : {X : Type ℓ} (b : Bool) → b ≡ true → b ≡ false → X
  clash b p q = absurd (let z : ◌≡◌ {A = ℕ} 0 1 = cc in omega arith)

  -- an ordinal's value
  value-ordinal : {k : ℕ} {zs : List ℤ} → length zs ≡ 1 → ordinal? Γ k ≡ true → inside (info_at Γ k).low (info_at Γ k).high (sole zs) ≡ true → Value-of k zs
  value-ordinal {k} l h p = record { long = rw (ord-layout _ k _ h) l; fits = λ n. clash (ordinal? Γ k) h n; ranged = λ _. p }

  value-int : {z : ℤ} → InInt z → Value-of 0 (z ∷ [])
  value-int p = value-ordinal refl 𝓕.integers.0 (rw (𝓕.integers.1, 𝓕.integers.2) p.ok)

  value-bool : {z : ℤ} → InBool z → Value-of 1 (z ∷ [])
  value-bool p = value-ordinal refl 𝓕.booleans.0 (rw (𝓕.booleans.1, 𝓕.booleans.2) p.ok)

  pub int-value : {zs : List ℤ} → Value-of 0 zs → InInt (sole zs)
  int-value v = record { ok = rw (𝓕.integers.1, 𝓕.integers.2) at (v.ranged 𝓕.integers.0) }

  one-g : {P : ℤ → Type 0} {Q : List ℤ → Type 0} {v : Result ℤ} → ((z : ℤ) → P z → Q (z ∷ [])) → Good P v → Good Q (one_cell v)
  one-g k g = bind-g g λ z p. value (k z p)

  -- a set's value
  set-no-ordinal : (k : ℕ) → set? Γ k ≡ true → ordinal? Γ k ≡ false
  set-no-ordinal k h = no-ordinal (info_at Γ k).shape h

  abbrev SetOf : ℕ → ℤ → Type 0
  SetOf k z = lies_in (info_at Γ k).low (info_at Γ k).high z ≡ true

  value_set : {k : ℕ} → set? Γ k ≡ true → (z : ℤ) → SetOf k z → Value-of k (z ∷ [])
  value_set {k} h z p = record { long = rw (set-layout _ k _ h); fits = λ n. rw (set-layout _ k _ h) (fits-cons (rw n p) fits-none); ranged = λ o. clash (ordinal? Γ k) o (set-no-ordinal k h) }

  pub set-value : {k : ℕ} → set? Γ k ≡ true → {zs : List ℤ} → Value-of k zs → SetOf k (sole zs)
  set-value {k} h {zs} v =
      let f : Fits (k ∷ []) zs = rw (set-layout _ k _ h) at (v.fits (set-no-ordinal k h)) in
      rw (set-no-ordinal k h) at (f.each 0 (omega arith))

  -- ---- the table of operators, once more

  module _ (l r : ℕ) (u v : List ℤ) (hu : Value-of l u) (hv : Value-of r v) where
    abbrev Gives : Rule → Type 0
    Gives q = Good (Value-of q.kind) (one_cell (compute q.operation (sole u) (sole v)))

    bool-rule : (c : Operation) (t : Bool) {q : Rule} → Good InBool (compute c (sole u) (sole v)) → given t (rule c 1) ≡ some q → Gives q
    bool-rule c t g h = given-if t h λ p e. rw (← e) (one-g (λ z i. value-bool i) g)

    int-rule : (c : Operation) {q : Rule} → (InInt (sole v) → Good InInt (compute c (sole u) (sole v))) → given (ints? l r) (rule c 0) ≡ some q → Gives q
    int-rule c g h = given-if (ints? l r) h λ p e.
        rw (← e) (one-g (λ z i. value-int i) (g (int-value (rw (← eqb-true 0 r ((and-true (eqb 0 l) (eqb 0 r) p).1)) at hv))))

    set-rule : (c : Operation) {q : Rule} → (SetOf l (sole u) → SetOf l (sole v) → Good (SetOf l) (compute c (sole u) (sole v))) → given (sets? Γ l r) (rule c l) ≡ some q → Gives q
    set-rule c g h = given-if (sets? Γ l r) h λ p e.
        let s : set? Γ l ≡ true = (and-true (eqb l r) (set? Γ l) p).1 in
        rw (← e) (one-g (λ z i. value_set s z i) (g (set-value s hu) (set-value s (rw (← eqb-true l r ((and-true (eqb l r) (set? Γ l) p).0)) at hv))))

    abbrev B : Bool → Type 0
    B b = Good InBool (is (truth b))

    truth-g : (b : Bool) → B b
    truth-g b = value (truth-in b)

    bin-good : (op : Op) {q : Rule} → operator_rule Γ op l r ≡ some q → Gives q
    unfolding operator_rule compute set_value
    bin-good plus h = either-some h (int-rule _ (λ _. exact-g _)) (set-rule _ (λ a b. value (union-lies _ _ (sole u) a (sole v) b)))
    bin-good minus h = either-some h (int-rule _ (λ _. exact-g _)) (set-rule _ (λ a b. value (difference-lies _ _ (sole u) a (sole v))))
    bin-good times h = either-some h (int-rule _ (λ _. exact-g _)) (set-rule _ (λ a b. value (intersection-lies _ _ (sole u) a (sole v))))
    bin-good power h = int-rule _ (λ _. pow-g (sole u) (sole v)) h
    bin-good divide h = int-rule _ (λ _. div-g (sole u) (sole v)) h
    bin-good modulo h = int-rule _ (λ i. mod-g (sole u) (sole v) i) h
    bin-good equal h = either-some h (bool-rule _ _ (truth-g _)) (bool-rule _ _ (truth-g _))
    bin-good unequal h = either-some h (bool-rule _ _ (truth-g _)) (bool-rule _ _ (truth-g _))
    bin-good less h = bool-rule _ _ (truth-g _) h
    bin-good at_most h = either-some h (bool-rule _ _ (truth-g _)) (bool-rule _ _ (truth-g _))
    bin-good greater h = bool-rule _ _ (truth-g _) h
    bin-good at_least h = either-some h (bool-rule _ _ (truth-g _)) (bool-rule _ _ (truth-g _))
    bin-good member h = bool-rule _ _ (truth-g _) h
    bin-good and_both h = bool-rule _ _ (truth-g _) h
    bin-good or_both h = bool-rule _ _ (truth-g _) h

  -- ---- and of the functions

  pub inside-wide : (a b c d z : ℤ) → le_z a c ≡ true → le_z d b ≡ true → inside c d z ≡ true → inside a b z ≡ true
  unfolding inside
  inside-wide a b c d z p q h = and-both (le_z a z) (le_z z b)
      (le_z-trans a c z p (and-true (le_z c z) (le_z z d) h).0) (le_z-trans z d b (and-true (le_z c z) (le_z z d) h).1 q)

  card-in : (a : ℤ) → InInt (pos (length (members_of a)))
  unfolding members_of
  card-in a = int-pos (length (Sets.members (pattern_of a))) (omega (arith, members-length (pattern_of a)))

  -- a member of a set of type k is a value of its base's host
  member-value : (k : ℕ) → set? Γ k ≡ true → (z : ℤ) → inside (info_at Γ k).low (info_at Γ k).high z ≡ true → Value-of (base_of Γ k) (z ∷ [])
  member-value k h z i =
      let o = 𝓕.bases k h in
      let w = 𝓕.wider (info_at Γ k).element o in
      value-ordinal refl (𝓕.hosts (info_at Γ k).element o) (inside-wide _ _ _ _ z w.0 w.1 (rw ((𝓕.bounds k h).0, (𝓕.bounds k h).1) at i))

  fun-good : (f : Fun) (k : ℕ) {q : Rule1} → function_rule Γ f k ≡ some q → (u : List ℤ) → Value-of k u → Good (Value-of q.kind) (one_cell (compute1 q.operation (sole u)))
  unfolding function_rule compute1
  fun-good negate k h u v = given-if _ h λ p e. rw (← e) (one-g (λ z i. value-int i) (exact-g _))
  fun-good not_of k h u v = given-if _ h λ p e. rw (← e) (value (value-bool (truth-in _)))
  fun-good abs k h u v = given-if _ h λ p e. rw (← e) (one-g (λ z i. value-int i) (exact-g _))
  fun-good sqr k h u v = given-if _ h λ p e. rw (← e) (one-g (λ z i. value-int i) (exact-g _))
  fun-good odd k h u v = given-if _ h λ p e. rw (← e) (value (value-bool (truth-in _)))
  fun-good ord k h u v = given-if _ h λ p e. rw (← e) (value (value-int (record { ok = inside-wide _ _ _ _ (sole u) (𝓕.small k p).0 (𝓕.small k p).1 (v.ranged p) })))
  fun-good pred k h u v = given-if _ h λ p e. rw (← e) (one-g (λ z i. value-ordinal refl p i) (previous-g _ _ _))
  fun-good succ k h u v = given-if _ h λ p e. rw (← e) (one-g (λ z i. value-ordinal refl p i) (next-g _ _ _))
  fun-good card k h u v = given-if _ h λ p e. rw (← e) (value (value-int (card-in (sole u))))
  fun-good setmin k h u v = given-if _ h λ p e. rw (← e) (bind-g (member-g _ _ _ (λ x f. least-lies _ _ (sole u) x (set-value p v) f)) λ z i. value (member-value k p z i))
  fun-good setmax k h u v = given-if _ h λ p e. rw (← e) (bind-g (member-g _ _ _ (λ x f. greatest-lies _ _ (sole u) x (set-value p v) f)) λ z i. value (member-value k p z i))

  -- ---- values of expressions, places of targets

  -- what a target of type t holds, as a value of t's host
  value-host : (b : Bool) (t : ℕ) → ordinal? Γ t ≡ b → (zs : List ℤ) → Fits (cells_of Γ t) zs → Value-of (host_of Γ t) zs
  value-host true t e zs f =
      let g : Fits (t ∷ []) zs = rw (ord-layout _ t _ e) at f in
      let i : inside (info_at Γ t).low (info_at Γ t).high (sole zs) ≡ true = rw e at (g.each 0 (omega arith)) in
      value-ordinal g.long (𝓕.hosts t e) (inside-wide _ _ _ _ (sole zs) (𝓕.wider t e).0 (𝓕.wider t e).1 i)
  value-host false t e zs f = record { long = rw (own-host _ t _ e) f.long; fits = λ n. rw (own-host _ t _ e) f; ranged = λ o. clash (ordinal? Γ (host_of Γ t)) o (rw (own-host _ t _ e) e) }

  false-in : Value-of 1 (pos 0 ∷ [])
  unfolding truth
  false-in = value-bool (truth-in false)

  true-in : Value-of 1 (pos 1 ∷ [])
  unfolding truth
  true-in = value-bool (truth-in true)

  shortly-g : (q b : Bool) {v : Result (List ℤ)} → Good (Value-of 1) v → Good (Value-of 1) (short_circuited q b v)
  shortly-g true true g = g
  shortly-g true false g = value false-in
  shortly-g false true g = value true-in
  shortly-g false false g = g

  -- the ends of an ordinal type, whose first is not above its last, are values of its host
  pub ends-in : (a b c d : ℤ) → le_z a c ≡ true → le_z d b ≡ true → le_z c d ≡ true → (inside a b c ≡ true) × (inside a b d ≡ true)
  unfolding inside
  ends-in a b c d p q r = (and-both (le_z a c) (le_z c b) p (le_z-trans c d b r q), and-both (le_z a d) (le_z d b) (le_z-trans a c d p r) q)

  bound-value : (q : Bool) (t : ℕ) → ordinal? Γ t ≡ true → Value-of (host_of Γ t) (pick q (info_at Γ t).high (info_at Γ t).low ∷ [])
  unfolding pick
  bound-value true t o = value-ordinal refl (𝓕.hosts t o) (ends-in (info_at Γ (host_of Γ t)).low (info_at Γ (host_of Γ t)).high (info_at Γ t).low (info_at Γ t).high (𝓕.wider t o).0 (𝓕.wider t o).1 (𝓕.filled t o)).1
  bound-value false t o = value-ordinal refl (𝓕.hosts t o) (ends-in (info_at Γ (host_of Γ t)).low (info_at Γ (host_of Γ t)).high (info_at Γ t).low (info_at Γ t).high (𝓕.wider t o).0 (𝓕.wider t o).1 (𝓕.filled t o)).0

  mutual
    unfolding elab_expr eval_code

    pub good-e : (e : Expr) (r : Elaborated) → elab_expr Γ Δ e ≡ some r → {m : Store} → Sound tests m → Good (Value-of r.kind) (eval_code r.code m)
    good-e (const c) r h s = given-some h λ p v. rw (← v) (value (value-ordinal refl (and-true (ordinal? Γ c.kind) _ p).0 (and-true (ordinal? Γ c.kind) _ p).1))
    good-e (read g) r h {m} s = bind-some h λ w hw e.
        rw (← some_inj e) (bind-g (good-t g w hw s) λ a p. weaken (λ zs f. value-host _ w.type refl zs f) (loads-g s a (cells_of Γ w.type) p))
    good-e error_number r h s = rw (← some_inj h) (value (value-int s.number))
    good-e (members t es) r h s = bind-some h λ cs hcs e. given-some e λ p v.
        rw (← v) (bind-g (good-m es (base_of Γ t) cs hcs _ _ (𝓕.lowest t p) s) λ z q. value (value_set p z q))
    good-e (end_of q t) r h s = given-some h λ p v. rw (← v) (value (bound-value q t p))
    good-e (binary op a b) r h s = both_some h λ x y hx hy e. bind-some e λ q hq e'.
        rw (← some_inj e') (bind-g (good-e a x hx s) λ u i. bind-g (good-e b y hy s) λ v j. bin-good x.kind y.kind u v i j op hq)
    good-e (short_circuit q a b) r h s = both_some h λ x y hx hy e. given-some e λ p v.
        rw (← v) (bind-g (good-e a x hx s) λ u _. shortly-g q (is_true (sole u)) (rw (eqb-true 1 y.kind ((and-true (eqb 1 x.kind) (eqb 1 y.kind) p).1)) (good-e b y hy s)))
    good-e (unary f a) r h s = bind-some h λ x hx e. bind-some e λ q hq e'.
        rw (← some_inj e') (bind-g (good-e a x hx s) λ u i. fun-good f x.kind hq u i)

    pub good-t : (g : Target) (w : Located) → elab_target Γ Δ g ≡ some w → {m : Store} → Sound tests m → Good (λ a. Here Γ tests a (cells_of Γ w.type)) (place_code w.place m)
    good-t (var i) w h s = bind-some h λ v hv e. rw (← some_inj e) (value (𝓕.vars i v hv))
    good-t (at g e) w h s = both_some h λ u x hu hx e'. given-some e' λ p v.
        rw (← v) (bind-g (good-t g u hu s) λ a h₁. bind-g (good-e e x hx s) λ y _. bind-g (tested-g e-range _ _ (sole y)) λ z h₂.
        value (here-trans h₁ (𝓕.elements u.type (and-true _ _ p).0 z h₂)))
    good-t (dot g n) w h s = bind-some h λ u hu e. bind-some e λ f hf e'.
        rw (← some_inj e') (bind-g (good-t g u hu s) λ a h₁. value (here-trans h₁ (𝓕.fields u.type n f hf)))

    pub good-m : (es : Exprs) (k : ℕ) (cs : Codes) → elab_members Γ Δ k es ≡ some cs → (lo hi : ℤ) → le_z (pos 0) lo ≡ true → {m : Store} → Sound tests m → Good (λ z. lies_in lo hi z ≡ true) (gather_codes lo hi cs m)
    good-m nil k cs h lo hi l s = rw (← some_inj h) (value (empty-lies lo hi))
    good-m (e and es) k cs h lo hi l s = both_some h λ x cs' hx hcs e'. given-some e' λ p v.
        rw (← v) (bind-g (good-e e x hx s) λ y _. bind-g (tested-g e-range _ _ (sole y)) λ z i. bind-g (good-m es k cs' hcs lo hi l s) λ zs j. value (joined-lies lo hi z zs i j))
