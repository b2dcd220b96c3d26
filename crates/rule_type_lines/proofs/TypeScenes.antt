-- What is held after a `type` line, from what its form adds.
use mathlib.Core.Path.{◌≡◌, refl, ap}
use mathlib.Core.Bool.{true}
use mathlib.Core.List.{List, [], ◌∷◌, ◌++◌}
use mathlib.Core.Option.{some}
use Prim.Native.Nat.{ℕ, suc, ◌+◌, ◌*◌, ◌/◌, ◌%◌, ◌<◌, ◌≤◌}
use native.Mathlib.Decide.{ℕ_discrete, dec_lt}
use native.Mathlib.Nat.{mod-eq_of_lt}
use native.Mathlib.Omega.{arith}
use borrow.Author.Tests.{ne_eqb, leb-true}
use lib.Dec.{leb}
use lib.ListN.{length, get_or, set, length-append, get_or-eq_default}
use lib.Seq.{get_or-set_same, get_or-set_other}
use Rattle.leaf_bytes.specs.Bytes.{small}
use Rattle.law.specs.Base.{Name}
use Rattle.law.specs.Ceilings.{line_bounded, type_bounded}
use Rattle.law.specs.Environment.{Declared, Environment, NameSort, a_proc, a_type, a_value, declare_line, extend_types}
use Rattle.law.specs.Names.{entry_of}
use Rattle.law.specs.Rules.{keeps_rules}
use Rattle.law.specs.Script.{Const, Decl, new_type}
use Rattle.law.specs.Syntax.{LineForm}
use Rattle.law.specs.Types.{Types, TypeInfo, TypeSort, facts, undeclared, info_at, size_of}
use Rattle.law_theorems.proofs.Inversion.{and-true}
use Rattle.code.specs.LayoutRegions.{Same}
use Rattle.law_theorems.proofs.LinesKeep.{line-keeps}
use Rattle.law_theorems.specs.LinesKeep.{Keeps}
use Rattle.law_theorems.proofs.TypeTables.{old, new}
use Rattle.table_scope.specs.declared.Scope.{Scope}
use Rattle.table_scope.specs.declared.Meaning.{Meaning}
use Rattle.table_scope.specs.Descriptions.{info_of, read_info, Tells, EndsBelow}
use Rattle.table_names.specs.Chain.{entries, values_by}
use Rattle.table_names.specs.Chained.{Names}
use Rattle.table_scope.specs.Scene.{Scene, Meant, Means, a-type, a-var, a-proc, a-value, meaning_by}
use Rattle.table_scope.proofs.Kept.{scene-kept}
use Rattle.rule_declarations.specs.State.{notes, scoped, Holds}
use Rattle.rule_type_lines.specs.TypeLines.{type_state}
use Rattle.rule_declarations.specs.declared.State.{State}

-- ---- a table with one more type

pub by_number : (Γ : Types) (i : TypeSort) (P : ℕ → TypeInfo → Type 0) → ((t : ℕ) → t < length Γ → P t (info_at Γ t)) → P (length Γ) (facts i)
    → ((t : ℕ) → length Γ < t → P t (facts undeclared)) → (t : ℕ) → P t (info_at (Γ ++ (i ∷ [])) t)
by_number Γ i P a b c t = go (dec_lt t (length Γ)) (ℕ_discrete t (length Γ))
  where
    go : Dec (t < length Γ) → Dec (t ≡ length Γ) → P t (info_at (Γ ++ (i ∷ [])) t)
    go (yes l) d = rw (old Γ i t l) (a t l)
    go (no nl) (yes q) = rw (q, new Γ i) b
    go (no nl) (no nq) =
        let z : info_at (Γ ++ (i ∷ [])) t ≡ facts undeclared = ap facts (get_or-eq_default (Γ ++ (i ∷ [])) undeclared (rw length-append (omega arith))) in
        rw z (c t (omega arith))

-- past the table
pub past-table : (Γ : Types) (t : ℕ) → length Γ ≤ t → info_at Γ t ≡ facts undeclared
past-table Γ t h = ap facts (get_or-eq_default Γ undeclared h)

-- a description whose place is listed, and the others
info-other : (l ts ts' : List ℕ) (t : ℕ) → get_or ts' t 0 ≡ get_or ts t 0 → info_of l ts' t ≡ info_of l ts t
unfolding info_of
info-other l ts ts' t e = rw e refl

info-new : (l ts : List ℕ) (n place : ℕ) → 2 ≤ n → 1 ≤ place → get_or ts n 0 ≡ place → info_of l ts n ≡ read_info l place
unfolding info_of
info-new l ts n place h g e = rw (ne_eqb n 0 (λ z. omega arith), ne_eqb n 1 (λ z. omega arith), e, ne_eqb place 0 (λ z. omega arith)) refl

-- what is told of types, with a new one at a place
pub types_more : {s l l' ts : List ℕ} {scope : Scope} {top : ℕ} {σ : Environment} {bs : List ℕ} → Scene s l ts scope top σ bs → Same 0 top l' l
    → (top' place : ℕ) → top ≤ top' → 1 ≤ place → length σ.types < length ts → (i : TypeSort) → Tells s l' (read_info l' place) (facts i) → EndsBelow top' (read_info l' place)
    → (t : ℕ) → Tells s l' (info_of l' (set ts (length σ.types) place) t) (info_at (σ.types ++ (i ∷ [])) t) × EndsBelow top' (info_of l' (set ts (length σ.types) place) t)
types_more {s} {l} {l'} {ts} {scope} {top} {σ} {bs} S E top' place h g n i T B =
    by_number σ.types i (λ t j. Tells s l' (info_of l' (set ts (length σ.types) place) t) j × EndsBelow top' (info_of l' (set ts (length σ.types) place) t))
    (λ t q. rw (other t (λ z. omega arith)) (K.types t, K.described t))
    (rw (info-new l' (set ts (length σ.types) place) (length σ.types) place S.table.two g (get_or-set_same ts (length σ.types) place 0 n)) (T, B))
    (λ t q. rw (other t (λ z. omega arith), ← past-table σ.types t (omega arith)) (K.types t, K.described t))
  where
    K : Scene s l' ts scope top' σ bs
    K = scene-kept S E h

    other : (t : ℕ) → (t ≡ length σ.types → ⊥) → info_of l' (set ts (length σ.types) place) t ≡ info_of l' ts t
    other t q = info-other l' ts (set ts (length σ.types) place) t (get_or-set_other ts (length σ.types) t place 0 q)

-- an environment with the same variables
pub means-same : {σ σ' : Environment} {bs : List ℕ} → σ'.vars ≡ σ.vars → (x : Meaning) (m : NameSort) → Means σ bs x m → Means σ' bs x m
means-same e _ _ a-type = a-type
means-same e _ _ (a-var {i} v h) = a-var {i = i} v (rw e h)
means-same e _ _ a-proc = a-proc
means-same e _ _ a-value = a-value

-- no values stand behind its entry
pub type-alone : (t : ℕ) → values_by (4 * t) 0 ≡ 0
unfolding values_by
type-alone t = let a : (4 * t) % 4 ≡ 0 = omega arith in rw a refl

pub type-means : (σ : Environment) (bs : List ℕ) (t more : ℕ) → Means σ bs (meaning_by (4 * t) more) (a_type t)
unfolding meaning_by
type-means σ bs t more =
    let a : (4 * t) % 4 ≡ 0 = omega arith in
    let b : (4 * t) / 4 ≡ t = omega arith in
    rw (a, b) a-type

pub type-proc : (t q : ℕ) (us : List ℕ) → a_type t ≡ a_proc q us → ⊥
type-proc t q us h = let z : ◌≡◌ {A = ℕ} 0 1 = cc in omega arith

pub type-value : (t : ℕ) (c : Const) → a_type t ≡ a_value c → ⊥
type-value t c h = let z : ◌≡◌ {A = ℕ} 0 1 = cc in omega arith

-- ---- all that is held

module _ {s l ts : List ℕ} {st : State} {k : Declared} {bs : List ℕ} (H : Holds s l ts st k bs) (w : Name) (d : Decl)
    (f : LineForm) (e : entry_of k.env f ≡ some (new_type w d)) (r : keeps_rules k.env.types (new_type w d) ≡ true) (b : line_bounded k (new_type w d) ≡ true) (sn nn : ℕ) where
  pub type-keeps : Keeps (declare_line k (new_type w d) sn nn)
  type-keeps = line-keeps k H.keeps f (new_type w d) e r b sn nn

  pub lines-low : st.lines < 64
  unfolding line_bounded
  lines-low = let x = leb-true (suc k.type_lines) 64 (and-true (leb (suc k.type_lines) 64) (type_bounded k.env.types d) b).0 in omega (arith, H.lines_are)

  pub type-within : type_bounded k.env.types d ≡ true
  unfolding line_bounded
  type-within = (and-true (leb (suc k.type_lines) 64) (type_bounded k.env.types d) b).1

  pub type-holds : (names newest made top : ℕ) (l' ts' : List ℕ) → made < 2 → length (extend_types k.env.types d) ≡ length k.env.types + made
      → Scene s l' ts' (scoped (st.scope.count + names) newest) top (declare_line k (new_type w d) sn nn).env bs
      → Names s l' (Meant (declare_line k (new_type w d) sn nn).env bs l') (entries (st.scope.count + names) l' newest) (declare_line k (new_type w d) sn nn).env.names → ((t : ℕ) → size_of (extend_types k.env.types d) t ≤ 2048)
      → 4 * (st.scope.count + names) ≤ top → 1 ≤ top → top ≤ 16384 → 16384 ≤ length l' → notes ≤ length ts'
      → Holds s l' ts' (type_state st names newest made top) (declare_line k (new_type w d) sn nn) bs
  unfolding type_state declare_line
  type-holds names newest made top l' ts' hm more S N small few one low long many =
      let c : st.scope.count % 65536 ≡ st.scope.count = mod-eq_of_lt (omega arith) in
      let n : names % 65536 ≡ names = mod-eq_of_lt (omega arith) in
      let v : st.types % 128 ≡ st.types = mod-eq_of_lt (omega (arith, H.few-types, H.few-lines)) in
      let m : made % 2 ≡ made = mod-eq_of_lt hm in
      let z : st.lines % 128 ≡ st.lines = mod-eq_of_lt (omega (arith, lines-low)) in
      record {
        scene = rw (c, n) S;
        names = rw (c, n) N;
        plain = refl;
        keeps = type-keeps;
        types_are = rw (v, m, more) (omega (arith, H.types_are));
        lines_are = rw z (omega (arith, H.lines_are));
        vars-are = H.vars-are;
        cells_are = H.cells_are;
        procs-are = H.procs-are;
        parameters-are = H.parameters-are;
        bodies-are = H.bodies-are;
        few-types = rw (v, m, z) (omega (arith, H.few-types));
        few-lines = rw z (omega (arith, lines-low));
        few-vars = H.few-vars;
        few-cells = H.few-cells;
        few-parameters = H.few-parameters;
        small-types = small;
        few-names = rw (c, n) few;
        start = one;
        low = low;
        long-list = long;
        long-notes = many;
        short-text = H.short-text;
      }
