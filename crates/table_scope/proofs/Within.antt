-- The environment of a line, by its names' chain, and that of a procedure with parameters, by the pairs in the text as well.
use mathlib.Core.Path.{◌≡◌, refl, sym, ap, subst, ◌∙◌}
use mathlib.Core.Bool.{Bool, true, false, cond, not, ◌&&◌, true≢false}
use mathlib.Core.List.{List, [], ◌∷◌, ◌++◌, map}
use mathlib.Core.Option.{Option, none, some}
use Prim.Native.Nat.{ℕ, zero, suc, ◌+◌, ◌%◌, ◌<◌, ◌≤◌}
use native.Mathlib.Nat.{mod-eq_of_lt}
use native.Mathlib.Omega.{arith}
use borrow.Author.Tests.{eq-eqb, ne_eqb, lt-ltb}
use lib.ListN.{length}
use Rattle.leaf_bytes.specs.Bytes.{small, same}
use Rattle.leaf_bytes.proofs.Same.{same-equal}
use Rattle.law.specs.Base.{Name, find}
use Rattle.law.specs.Environment.{Environment, NameSort, a_proc, a_value, a_var, within, with_parameter}
use Rattle.law.specs.Names.{distinct, field_names, listed_in}
use Rattle.law.specs.Script.{Const}
use Rattle.law.specs.Trees.{Trees, word, form, end, ◌then◌, Run, first}
use Rattle.law_theorems.specs.Readings.{stack_at}
use Rattle.law.specs.Types.{Types, Var, Vars, size_of, variable}
use Rattle.law_theorems.proofs.Inversion.{none-some, some_inj}
use Rattle.law_theorems.proofs.LinesKeep.{within-types}
use Rattle.law_theorems.specs.LinesKeep.{AllFair, name, var}
use Rattle.table_names.specs.Chain.{entries, place_in}
use Rattle.table_names.specs.Chained.{Below, Names}
use Rattle.table_names.proofs.Chained.{Found, nothing, entry, found, below-place}
use Rattle.table_scope.specs.Pairs.{lead_in, after_lead, next_pair, pair_in}
use Rattle.table_scope.specs.Scene.{meaning_at, declared_in, kind_of, parameter_of, paired_or, meaning_in, with_pairs, Means, a-type, a-var, a-proc, a-value, Meant, Told, unknown, known, Scene}
use Rattle.table_scope.specs.declared.Meaning.{Meaning}
use Rattle.table_scope.specs.declared.Scope.{Scope}

-- ---- a line

told-by : {σ : Environment} {bs l : List ℕ} {w : Name} (p : ℕ) → Found (Meant σ bs l) w σ.names p → Told σ bs (meaning_at l p) (find σ.names w)
unfolding meaning_at
told-by p (nothing z f) = rw (z, f) unknown
told-by p (entry a h r f) = rw f (known r.means)

pub plain-meaning : (s l : List ℕ) (scope : Scope) → scope.pairs ≡ 0 → (w : Name) → meaning_in s l scope w ≡ declared_in s l scope w
unfolding meaning_in
plain-meaning s l scope e w = rw (eq-eqb scope.pairs 0 e) refl

paired-meaning : (s l : List ℕ) (scope : Scope) → ((scope.pairs ≡ 0) → ⊥) → (w : Name)
    → meaning_in s l scope w ≡ paired_or s l scope (pair_in 0 (first (stack_at s scope.pairs)) w) (declared_in s l scope w)
unfolding meaning_in
paired-meaning s l scope n w = rw (ne_eqb scope.pairs 0 n) refl

pub chain-told : {s l : List ℕ} (scope : Scope) {σ : Environment} {bs : List ℕ} {top : ℕ} → scope.pairs ≡ 0 → Below s l top scope.count scope.newest
    → Names s l (Meant σ bs l) (entries scope.count l scope.newest) σ.names → (w : Name) → Told σ bs (meaning_in s l scope w) (find σ.names w)
unfolding declared_in
chain-told {s} {l} scope e B N w = rw (plain-meaning s l scope e w, below-place B w) (told-by (place_in s l (entries scope.count l scope.newest) w) (found N w))

-- ---- pairs in the text, and the parameters that they say

pub data Pairs (s l : List ℕ) (scope : Scope) : Trees Run → List (Name × ℕ) → Type 0 where
  no_pairs : Pairs s l scope end []
  a_pair : {x : Run} {vs ts : Trees Run} {t : ℕ} {qs : List (Name × ℕ)} → kind_of s l scope vs ≡ t → Pairs s l scope ts qs
      → Pairs s l scope (form (word x then vs) then ts) ((map small x, t) ∷ qs)

-- ---- variables of a longer list

vars-kept : (Δ : Vars) (u : Var) (i : ℕ) (v : Var) → variable Δ i ≡ some v → variable (Δ ++ (u ∷ [])) i ≡ some v
vars-kept [] u i v h = absurd (none-some h)
vars-kept (x ∷ Δ) u zero v h = h
vars-kept (x ∷ Δ) u (suc i) v h = vars-kept Δ u i v h

vars-new : (Δ : Vars) (u : Var) → variable (Δ ++ (u ∷ [])) (length Δ) ≡ some u
vars-new [] u = refl
vars-new (x ∷ Δ) u = vars-new Δ u

vars-all : (P : Var → Type 0) (Δ : Vars) (u : Var) → P u → ((i : ℕ) (v : Var) → variable Δ i ≡ some v → P v) → (i : ℕ) (v : Var) → variable (Δ ++ (u ∷ [])) i ≡ some v → P v
vars-all P [] u p k zero v h = rw (← some_inj h) p
vars-all P [] u p k (suc i) v h = absurd (none-some h)
vars-all P (x ∷ Δ) u p k zero v h = k zero v h
vars-all P (x ∷ Δ) u p k (suc i) v h = vars-all P Δ u p (λ j. k (suc j)) i v h

longer : {A : Type 0} (xs : List A) (a : A) → length (xs ++ (a ∷ [])) ≡ suc (length xs)
longer [] a = refl
longer (x ∷ xs) a = ap suc (longer xs a)

-- ---- what `within` keeps

within-vars : (σ : Environment) (qs : List (Name × ℕ)) (i : ℕ) (v : Var) → variable σ.vars i ≡ some v → variable (within σ qs).vars i ≡ some v
unfolding within
within-vars σ [] i v h = h
within-vars σ (q ∷ qs) i v h = within-vars (with_parameter σ q) qs i v (vars-kept σ.vars _ i v h)

pub find-other : (w v : Name) (m n : NameSort) (ns : List (Name × NameSort)) → (m ≡ n → ⊥) → find ((w, m) ∷ ns) v ≡ some n → find ns v ≡ some n
unfolding find
find-other w v m n ns d h = go (same w v) h
  where
    go : (b : Bool) → elim b [ true ↦ some m | false ↦ find ns v ] ≡ some n → find ns v ≡ some n
    go true e = absurd (d (some_inj e))
    go false e = e

-- a name that means no variable is none of the parameters'
within-other : (σ : Environment) (qs : List (Name × ℕ)) (w : Name) (m : NameSort) → ((i : ℕ) → a_var i ≡ m → ⊥) → find (within σ qs).names w ≡ some m → find σ.names w ≡ some m
unfolding within
within-other σ [] w m d h = h
within-other σ (q ∷ qs) w m d h = find-other q.0 w (a_var (length σ.vars)) m σ.names (d _) (within-other (with_parameter σ q) qs w m d h)

within-fair : (Γ : Types) (k : ℕ) (σ : Environment) (qs : List (Name × ℕ)) → AllFair Γ k σ.names → AllFair Γ k (within σ qs).names
unfolding within
within-fair Γ k σ [] A = A
within-fair Γ k σ (q ∷ qs) A = within-fair Γ k (with_parameter σ q) qs (name var A)

within_all : (P : Var → Type 0) (σ : Environment) (qs : List (Name × ℕ)) → ((i : ℕ) (v : Var) → variable σ.vars i ≡ some v → P v)
    → ((j t : ℕ) → j < length qs → P (record { type = t; base = 2048 + (length σ.parameters + j) })) → (i : ℕ) (v : Var) → variable (within σ qs).vars i ≡ some v → P v
unfolding within
within_all P σ [] f g = f
within_all P σ (q ∷ qs) f g =
    let e : (j : ℕ) → length σ.parameters + suc j ≡ length (σ.parameters ++ (q.1 ∷ [])) + j = λ j. let z = longer σ.parameters q.1 in omega arith in
    let z : length σ.parameters + 0 ≡ length σ.parameters = omega arith in
    within_all P (with_parameter σ q) qs (vars-all P σ.vars _ (rw z at (g 0 q.1 (omega arith))) f) (λ j t h. rw (← e j) (g (suc j) t (omega arith)))

-- ---- a name among the parameters

-- a name that none of them has
within_none : (ρ σ : Environment) (qs : List (Name × ℕ)) (w : Name) → listed_in ρ w (field_names ρ qs) ≡ false → find (within σ qs).names w ≡ find σ.names w
unfolding within listed_in field_names find
within_none ρ σ [] w h = refl
within_none ρ σ (q ∷ qs) w h = go (same q.0 w) refl h (within_none ρ (with_parameter σ q) qs w)
  where
    go : (b : Bool) → same q.0 w ≡ b → elim b [ true ↦ true | false ↦ listed_in ρ w (field_names ρ qs) ] ≡ false
        → (listed_in ρ w (field_names ρ qs) ≡ false → find (within (with_parameter σ q) qs).names w ≡ find ((q.0, a_var (length σ.vars)) ∷ σ.names) w)
        → find (within (with_parameter σ q) qs).names w ≡ find σ.names w
    go true e g k = absurd (true≢false g)
    go false e g k = k g ∙ rw (find, e) refl

-- what the first pair under a name tells: the first of them has number j, n variables and m parameters being before it
pub data Among (s l : List ℕ) (scope : Scope) (σ τ : Environment) (w : Name) (j n m : ℕ) : Option (ℕ × Trees Run) → Type 0 where
  absent : find τ.names w ≡ find σ.names w → Among s l scope σ τ w j n m none
  present : (i : ℕ) (us : Trees Run) → j + i < 65535 → find τ.names w ≡ some (a_var (n + i)) → variable τ.vars (n + i) ≡ some (record { type = kind_of s l scope (after_lead us); base = 2048 + (m + i) })
      → Among s l scope σ τ w j n m (some (j + i, us))

among_later : {s l : List ℕ} {scope : Scope} {σ σ' τ : Environment} {w : Name} {j n m : ℕ} {o : Option (ℕ × Trees Run)} → find σ'.names w ≡ find σ.names w
    → Among s l scope σ' τ w (suc j) (suc n) (suc m) o → Among s l scope σ τ w j n m o
among_later e (absent f) = absent (f ∙ e)
among_later {s} {l} {scope} {σ} {σ'} {τ} {w} {j} {n} {m} e (present i us h f g) =
    let a : suc n + i ≡ n + suc i = omega arith in
    let b : suc m + i ≡ m + suc i = omega arith in
    let c : j + suc i ≡ suc j + i = omega arith in
    subst (λ (k : ℕ). Among s l scope σ τ w j n m (some (k, us))) c (present (suc i) us (omega arith) (rw a at f) (rw (a, b) at g))

next_small : (j : ℕ) → j < 65535 → next_pair j ≡ suc j
unfolding next_pair
next_small j h = rw (lt-ltb j 65535 h) (omega arith)

not-and : (a b : Bool) → (not a && b) ≡ true → (a ≡ false) × (b ≡ true)
not-and true b h = absurd (true≢false (sym h))
not-and false b h = (refl, h)

module _ (s l : List ℕ) (scope : Scope) (ρ : Environment) (w : Name) where
  pub among-pairs : (us : Trees Run) (qs : List (Name × ℕ)) → Pairs s l scope us qs → distinct ρ (field_names ρ qs) ≡ true → (σ : Environment) (j : ℕ) → j + length qs ≤ 65535
      → Among s l scope σ (within σ qs) w j (length σ.vars) (length σ.parameters) (pair_in j us w)
  unfolding pair_in within distinct field_names lead_in after_lead find
  among-pairs end [] no_pairs d σ j h = absent refl
  among-pairs (form (word x then vs) then ts) ((v, t) ∷ qs) (a_pair k P) d σ j h =
      let u = not-and (listed_in ρ (map small x) (field_names ρ qs)) (distinct ρ (field_names ρ qs)) d in
      go (same (map small x) w) refl u.0 (among-pairs ts qs P u.1 (with_parameter σ (map small x, t)) (suc j) (omega arith))
    where
      σ' : Environment
      σ' = with_parameter σ (map small x, t)

      go : (b : Bool) → same (map small x) w ≡ b → listed_in ρ (map small x) (field_names ρ qs) ≡ false
          → Among s l scope σ' (within σ' qs) w (suc j) (length σ'.vars) (length σ'.parameters) (pair_in (suc j) ts w)
          → Among s l scope σ (within σ' qs) w j (length σ.vars) (length σ.parameters) (cond b (some (j, word x then vs)) (pair_in (next_pair j) ts w))
      go true e n A =
          let q : map small x ≡ w = same-equal (map small x) w e in
          let z : j + 0 ≡ j = omega arith in
          let y : length σ.vars + 0 ≡ length σ.vars = omega arith in
          let m : length σ.parameters + 0 ≡ length σ.parameters = omega arith in
          let f : find (within σ' qs).names w ≡ some (a_var (length σ.vars)) = within_none ρ σ' qs w (rw q at n) ∙ rw (find, e) refl in
          let g : variable (within σ' qs).vars (length σ.vars) ≡ some (record { type = kind_of s l scope vs; base = 2048 + (length σ.parameters + 0) })
          = within-vars σ' qs (length σ.vars) _ (rw (k, m) (vars-new σ.vars _)) in
          subst (λ (i : ℕ). Among s l scope σ (within σ' qs) w j (length σ.vars) (length σ.parameters) (some (i, word x then vs))) z
          (present 0 (word x then vs) (omega arith) (rw y f) (rw y g))
      go false e n A =
          let a = longer σ.vars (record { type = t; base = 2048 + length σ.parameters }) in
          let b = longer σ.parameters t in
          rw (next_small j (omega arith)) (among_later (rw (find, e) refl) (rw (a, b) at A))
  among-pairs end (_ ∷ qs) x7 d σ j h = elim x7 [ ]
  among-pairs (word _ then ts) qs x7 d σ j h = elim x7 [ ]
  among-pairs (form end then ts) qs x9 d σ j h = elim x9 [ ]
  among-pairs (form (word x then vs) then ts) [] x14 d σ j h = elim x14 [ ]
  among-pairs (form (form _ then vs) then ts) qs x14 d σ j h = elim x14 [ ]

-- ---- the environment in a procedure

pub var-value : (i : ℕ) (c : Const) → a_var i ≡ a_value c → ⊥
var-value i c h = let z : ◌≡◌ {A = ℕ} 0 1 = cc in omega arith

pub var-proc : (i p : ℕ) (us : List ℕ) → a_var i ≡ a_proc p us → ⊥
var-proc i p us h = let z : ◌≡◌ {A = ℕ} 0 1 = cc in omega arith

means-within : (σ : Environment) (qs : List (Name × ℕ)) {bs : List ℕ} {x : Meaning} {m : NameSort} → Means σ bs x m → Means (within σ qs) bs x m
means-within σ qs a-type = a-type
means-within σ qs (a-var {i} v h) = a-var {i = i} v (within-vars σ qs i v h)
means-within σ qs a-proc = a-proc
means-within σ qs a-value = a-value

told-within : (σ : Environment) (qs : List (Name × ℕ)) {bs : List ℕ} {x : Meaning} {o : Option NameSort} → Told σ bs x o → Told (within σ qs) bs x o
told-within σ qs unknown = unknown
told-within σ qs (known m) = known (means-within σ qs m)

declared_same : (s l : List ℕ) (scope : Scope) (q n m : ℕ) (w : Name) → declared_in s l (with_pairs scope q n m) w ≡ declared_in s l scope w
unfolding declared_in
declared_same s l scope q n m w = refl

module _ {s l ts : List ℕ} (scope : Scope) {top : ℕ} (σ : Environment) {bs : List ℕ} (S : Scene s l ts scope top σ bs) (plain : scope.pairs ≡ 0)
    (q : ℕ) (there : (q ≡ 0) → ⊥) (few-vars : length σ.vars ≤ 128) (few-parameters : length σ.parameters ≤ 128) (small : (t : ℕ) → size_of σ.types t ≤ 2048)
    (qs : List (Name × ℕ)) (few : length qs ≤ 16384) (apart : distinct σ (field_names σ qs) ≡ true) where
  abbrev inner : Scope
  inner = with_pairs scope q (length σ.vars) (length σ.parameters)

  module _ (P : Pairs s l inner (first (stack_at s q)) qs) where
    told-paired : (w : Name) (o : Option (ℕ × Trees Run)) → Among s l inner σ (within σ qs) w 0 (length σ.vars) (length σ.parameters) o
        → Told (within σ qs) bs (paired_or s l inner o (declared_in s l inner w)) (find (within σ qs).names w)
    unfolding parameter_of
    told-paired w none (absent f) =
        rw (f, declared_same s l scope q (length σ.vars) (length σ.parameters) w, ← plain-meaning s l scope plain w) (told-within σ qs (S.names w))
    told-paired w (some p) (present i us h f g) =
        let z : 0 + i ≡ i = omega arith in
        let e : i % 65536 ≡ i = mod-eq_of_lt (omega arith) in
        let a : length σ.vars % 256 ≡ length σ.vars = mod-eq_of_lt (omega arith) in
        let b : length σ.parameters % 256 ≡ length σ.parameters = mod-eq_of_lt (omega arith) in
        let c : 2048 + length σ.parameters + i ≡ 2048 + (length σ.parameters + i) = omega arith in
        rw (f, z, e, a, b, c) (known (a-var {i = length σ.vars + i} _ g))

    pub scene-within : Scene s l ts inner top (within σ qs) bs
    scene-within = record {
      names = λ w. rw (paired-meaning s l inner there w) (told-paired w (pair_in 0 (first (stack_at s q)) w) (among-pairs s l inner σ w (first (stack_at s q)) qs P apart σ 0 (omega arith)));
      below = S.below;
      types = rw (within-types σ qs) S.types;
      described = S.described;
      table = rw (within-types σ qs) S.table;
      fair = rw (within-types σ qs) (within-fair σ.types (length bs) σ qs S.fair);
      fieldless = rw (within-types σ qs) S.fieldless;
      cells = rw (within-types σ qs) (within_all (λ v. v.base + size_of σ.types v.type ≤ 32768) σ qs S.cells (λ j t h. let z = small t in omega arith));
      above = λ w c e. S.above w c (within-other σ qs w (a_value c) (λ i h. var-value i c h) e);
      once = λ v w c e f. S.once v w c (within-other σ qs v (a_value c) (λ i h. var-value i c h) e) (within-other σ qs w (a_value c) (λ i h. var-value i c h) f);
      frames = λ w p us e. S.frames w p us (within-other σ qs w (a_proc p us) (λ i h. var-proc i p us h) e);
    }
