-- The entry that is found for a cell is that of the cell's variable.
use mathlib.Core.Path.{◌≡◌, refl, sym, ap, ◌∙◌}
use mathlib.Core.Bool.{Bool, true, false, cond}
use mathlib.Core.List.{List, [], ◌∷◌}
use mathlib.Core.Option.{some}
use Prim.Native.Nat.{ℕ, ◌+◌, ◌-◌, ◌/◌, ◌%◌, ◌<◌, ◌≤◌}
use native.Mathlib.Decide.{dec_le}
use native.Mathlib.Omega.{arith}
use borrow.Author.Tests.{ne_eqb, eqb-true, le-leb, lt-leb}
use lib.Dec.{eqb, leb}
use lib.ListN.{get_or}
use Rattle.law.specs.Base.{Name}
use Rattle.law.specs.Environment.{Environment, NameSort, a_type, a_var, a_proc, a_value}
use Rattle.law.specs.Script.{Const}
use Rattle.law.specs.Types.{Types, Var, Vars, size_of, variable}
use Rattle.law_theorems.proofs.Inversion.{some_inj}
use Rattle.law_theorems.specs.LinesCover.{Owns, owns_none, owns-type, owns-proc, owns-value, owns-var}
use Rattle.table_names.specs.Chain.{name_at}
use Rattle.table_names.specs.Chained.{Names, no_names, one_name}
use Rattle.table_scope.specs.Scene.{meaning_by, meaning_at, Means, a-type, a-var, a-proc, a-value, Meant}
use Rattle.table_scope.specs.declared.Meaning.{Meaning}
use Rattle.table_scope.specs.declared.Meaning.TheVariants as meaning
use Rattle.rule_stores.specs.Cells.{begins_by, begins_at, holder}

-- ---- what an entry's numbers say, by the meaning that they have

abbrev is_var : Meaning → Bool
is_var meaning.Unknown = false
is_var (meaning.Type t) = false
is_var (meaning.Var i t b) = true
is_var (meaning.Proc q) = false
is_var (meaning.Value k n) = false

abbrev kind_in : Meaning → ℕ
kind_in meaning.Unknown = 0
kind_in (meaning.Type t) = 0
kind_in (meaning.Var i t b) = t
kind_in (meaning.Proc q) = 0
kind_in (meaning.Value k n) = 0

abbrev base_in : Meaning → ℕ
base_in meaning.Unknown = 0
base_in (meaning.Type t) = 0
base_in (meaning.Var i t b) = b
base_in (meaning.Proc q) = 0
base_in (meaning.Value k n) = 0

var-by : (sort more : ℕ) → eqb (sort % 4) 1 ≡ is_var (meaning_by sort more)
unfolding meaning_by
var-by sort more = go (eqb (sort % 4) 0) refl (eqb (sort % 4) 2)
  where
    go : (x : Bool) → eqb (sort % 4) 0 ≡ x → (z : Bool)
        → eqb (sort % 4) 1 ≡ is_var (cond x (meaning.Type (sort / 4)) (cond (eqb (sort % 4) 1) (meaning.Var (sort / 4) (more % 128) (more / 128)) (cond z (meaning.Proc more) (meaning.Value (sort / 4 % 128) more))))
    go true e z = let q : sort % 4 ≡ 0 = eqb-true (sort % 4) 0 e in rw q refl
    go false e true = last (eqb (sort % 4) 1)
      where
        last : (b : Bool) → b ≡ is_var (cond b (meaning.Var (sort / 4) (more % 128) (more / 128)) (meaning.Proc more))
        last true = refl
        last false = refl
    go false e false = last (eqb (sort % 4) 1)
      where
        last : (b : Bool) → b ≡ is_var (cond b (meaning.Var (sort / 4) (more % 128) (more / 128)) (meaning.Value (sort / 4 % 128) more))
        last true = refl
        last false = refl

var-is : (sort more : ℕ) → eqb (sort % 4) 1 ≡ true → meaning_by sort more ≡ meaning.Var (sort / 4) (more % 128) (more / 128)
unfolding meaning_by
var-is sort more h = let q : sort % 4 ≡ 1 = eqb-true (sort % 4) 1 h in rw q refl

type-means : {σ : Environment} {bs : List ℕ} {m : Meaning} {t : ℕ} → Means σ bs m (a_type t) → is_var m ≡ false
type-means a-type = refl

proc-means : {σ : Environment} {bs : List ℕ} {m : Meaning} {q : ℕ} {us : List ℕ} → Means σ bs m (a_proc q us) → is_var m ≡ false
proc-means a-proc = refl

value-means : {σ : Environment} {bs : List ℕ} {m : Meaning} {c : Const} → Means σ bs m (a_value c) → is_var m ≡ false
value-means a-value = refl

record IsVar (m : Meaning) (v : Var) : Type 0 where
  a-variable : is_var m ≡ true
  kind-is : kind_in m ≡ v.type
  base-is : base_in m ≡ v.base

var-means : {σ : Environment} {bs : List ℕ} {m : Meaning} {i : ℕ} (v : Var) → variable σ.vars i ≡ some v → Means σ bs m (a_var i) → IsVar m v
var-means v e (a-var u f) = let q : u ≡ v = some_inj (sym f ∙ e) in record { a-variable = refl; kind-is = ap (λ (x : Var). x.type) q; base-is = ap (λ (x : Var). x.base) q }

meaning-there : (l : List ℕ) (p : ℕ) → 1 ≤ p → meaning_at l p ≡ meaning_by (get_or l (p + 1) 0) (get_or l (p + 2) 0)
unfolding meaning_at
meaning-there l p h = rw (ne_eqb p 0 (λ e. omega arith))

-- ---- the entry of cell c is at p

pub record HeldAt (s l : List ℕ) (Γ : Types) (Δ : Vars) (os : List Name) (c p : ℕ) : Type 0 where
  pub number : ℕ
  pub var : Var
  pub known : variable Δ number ≡ some var
  pub from : var.base ≤ c
  pub to : c < var.base + size_of Γ var.type
  pub kind-is : get_or l (p + 2) 0 % 128 ≡ var.type
  pub base-is : get_or l (p + 2) 0 / 128 ≡ var.base
  pub named : name_at s l p ≡ get_or os c []

module _ (s l : List ℕ) (σ : Environment) (bs : List ℕ) (Γ : Types) (os : List Name) where
  abbrev Held : ℕ → ℕ → Type 0
  Held c p = HeldAt s l Γ σ.vars os c p

  -- an entry of another sort is passed by
  passed : (c p : ℕ) (ps : List ℕ) → 1 ≤ p → is_var (meaning_at l p) ≡ false → Held c (holder l ps c) → Held c (holder l (p ∷ ps) c)
  unfolding holder begins_at begins_by
  passed c p ps h e H =
      let q : eqb (get_or l (p + 1) 0 % 4) 1 ≡ false = var-by (get_or l (p + 1) 0) (get_or l (p + 2) 0) ∙ sym (ap (λ (m : Meaning). is_var m) (meaning-there l p h)) ∙ e in
      rw q H

  module _ (c p : ℕ) (ps : List ℕ) (h : 1 ≤ p) (i : ℕ) (v : Var) (e : variable σ.vars i ≡ some v) (M : Means σ bs (meaning_at l p) (a_var i)) where
    var-sort : eqb (get_or l (p + 1) 0 % 4) 1 ≡ true
    var-sort = var-by (get_or l (p + 1) 0) (get_or l (p + 2) 0) ∙ sym (ap (λ (m : Meaning). is_var m) (meaning-there l p h)) ∙ (var-means v e M).a-variable

    var-meaning : meaning_at l p ≡ meaning.Var (get_or l (p + 1) 0 / 4) (get_or l (p + 2) 0 % 128) (get_or l (p + 2) 0 / 128)
    var-meaning = meaning-there l p h ∙ var-is (get_or l (p + 1) 0) (get_or l (p + 2) 0) var-sort

    kind-there : get_or l (p + 2) 0 % 128 ≡ v.type
    kind-there = sym (ap (λ (m : Meaning). kind_in m) var-meaning) ∙ (var-means v e M).kind-is

    base_there : get_or l (p + 2) 0 / 128 ≡ v.base
    base_there = sym (ap (λ (m : Meaning). base_in m) var-meaning) ∙ (var-means v e M).base-is

    var-here : v.base ≤ c → c < v.base + size_of Γ v.type → name_at s l p ≡ get_or os c [] → Held c (holder l (p ∷ ps) c)
    unfolding holder begins_at begins_by
    var-here a b n =
        let q : leb (get_or l (p + 2) 0 / 128) c ≡ true = le-leb (get_or l (p + 2) 0 / 128) c (rw base_there a) in
        rw (var-sort, q) (record { number = i; var = v; known = e; from = a; to = b; kind-is = kind-there; base-is = base_there; named = n })

    var-later : c < v.base → Held c (holder l ps c) → Held c (holder l (p ∷ ps) c)
    unfolding holder begins_at begins_by
    var-later a H =
        let q : leb (get_or l (p + 2) 0 / 128) c ≡ false = lt-leb (get_or l (p + 2) 0 / 128) c (rw base_there a) in
        rw (var-sort, q) H

  pub holder-is : {ps : List ℕ} {ns : List (Name × NameSort)} {n : ℕ} → Names s l (Meant σ bs l) ps ns → Owns Γ σ.vars os ns n → (c : ℕ) → c < n → Held c (holder l ps c)
  holder-is no_names owns_none c h = absurd (omega arith)
  holder-is (one_name {p} {ps} g e r N) (owns-type o) c h = passed c p ps g (type-means r.means) (holder-is N o c h)
  holder-is (one_name {p} {ps} g e r N) (owns-proc o) c h = passed c p ps g (proc-means r.means) (holder-is N o c h)
  holder-is (one_name {p} {ps} g e r N) (owns-value o) c h = passed c p ps g (value-means r.means) (holder-is N o c h)
  holder-is (one_name {p} {ps} g e r N) (owns-var {w} {i} {n} v x b m f o) c h = go (dec_le n c) (λ k. holder-is N o c k)
    where
      go : Dec (n ≤ c) → (c < n → Held c (holder l ps c)) → Held c (holder l (p ∷ ps) c)
      go (yes k) H =
          let z : n + (c - n) ≡ c = omega arith in
          let t : c - n < size_of Γ v.type = omega (arith, m) in
          var-here c p ps g i v x r.means (rw b k) (rw b (omega (arith, m))) (e.name-is ∙ sym (ap (λ j. get_or os j []) (sym z) ∙ f (c - n) t))
      go (no k) H = var-later c p ps g i v x r.means (rw b (omega arith)) (H (omega arith))
