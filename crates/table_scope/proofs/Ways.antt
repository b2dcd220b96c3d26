-- The ways through the functions of the crate.
use mathlib.Core.Path.{◌≡◌, refl, sym, ap, ◌∙◌}
use mathlib.Core.Bool.{Bool}
use mathlib.Core.List.{List}
use Prim.Native.Nat.{ℕ, ◌+◌, ◌/◌, ◌%◌}
use lib.IntN.{ℤ}
use borrow.Author.Tests.{eq-eqb, ne_eqb}
use lib.ListN.{get_or}
use Rattle.table_kinds.specs.declared.Class.{Class}
use Rattle.table_kinds.specs.declared.Class.TheVariants.{Integer, Boolean, Enum, Set, Whole}
use Rattle.law.specs.Base.{Name}
use Rattle.table_names.specs.Chain.{place_by}
use Rattle.table_scope.specs.Descriptions.{ordinal_info, integer_info, boolean_info, no_info, read_info, info_of}
use Rattle.leaf_words.specs.declared.words.Word.{Word}
use Rattle.law.specs.Trees.{Trees, Run, first}
use Rattle.law_theorems.specs.Readings.{stack_at}
use Rattle.text_heads.specs.Heads.{atom_of}
use Rattle.text_heads.specs.declared.Atom.{Atom}
use Rattle.text_heads.specs.declared.Atom.TheVariants as AT
use Rattle.text_parts.specs.Parts.{Stands}
use Rattle.text_parts.specs.declared.Part.{Part}
use Rattle.text_parts.specs.declared.Part.TheVariants as part
use Rattle.table_scope.specs.Pairs.{after_lead, FollowsLead, FindsPair}
use Rattle.std.specs.Prelude.{Option, Some, None}
use Rattle.table_scope.specs.Scene.{meaning_by, meaning_at, declared_in, declared_here, type_in, kind_by, kind_of, parameter_of, meaning_in}
use Rattle.table_scope.specs.Sides.{host_in, class_in, side_in}
use Rattle.table_scope.specs.declared.Info.{Info}
use Rattle.table_scope.specs.declared.Meaning.{Meaning}
use Rattle.table_scope.specs.declared.Meaning.TheVariants as meaning
use Rattle.table_scope.specs.declared.Scope.{Scope}

-- ---- `read_info`

pub read_is : (l : List ℕ) (p a b c d e f g h : ℕ) → a ≡ get_or l p 0 → b ≡ get_or l (p + 1) 0 → c ≡ get_or l (p + 2) 0 → d ≡ get_or l (p + 3) 0
    → e ≡ get_or l (p + 4) 0 → f ≡ get_or l (p + 5) 0 → g ≡ get_or l (p + 6) 0 → h ≡ get_or l (p + 7) 0
    → record { shape = a; host = b; low = c; high = d; size = e; index = f; element = g; fields = h; place = p } ≡ read_info l p
unfolding read_info
read_is l p a b c d e f g h i j k m n o q r = rw (i, j, k, m, n, o, q, r) refl

-- ---- the built-in types and no type

pub integer-is : (x : Info) → x ≡ ordinal_info 0 2147483648 2147483647 → x ≡ integer_info
unfolding integer_info
integer-is x e = e

pub boolean-is : (x : Info) → x ≡ ordinal_info 1 0 1 → x ≡ boolean_info
unfolding boolean_info
boolean-is x e = e

pub no-is : record { shape = 3; host = 0; low = 0; high = 0; size = 0; index = 0; element = 0; fields = 0; place = 0 } ≡ no_info
unfolding no_info
no-is = refl

pub ruleset info-laws = (integer-is, boolean-is, no-is)

-- ---- `describe`

module _ (l ts : List ℕ) (k : ℕ) (x : Info) where
  pub describe-integer : k ≡ 0 → x ≡ integer_info → x ≡ info_of l ts k
  unfolding info_of
  describe-integer e f = f ∙ rw e refl

  pub describe-boolean : k ≡ 1 → x ≡ boolean_info → x ≡ info_of l ts k
  unfolding info_of
  describe-boolean e f = f ∙ rw e refl

  module _ (a : (k ≡ 0) → ⊥) (b : (k ≡ 1) → ⊥) (p : ℕ) (e : p ≡ get_or ts k 0) where
    pub describe-none : p ≡ 0 → x ≡ no_info → x ≡ info_of l ts k
    unfolding info_of
    describe-none z f = f ∙ rw (ne_eqb k 0 a, ne_eqb k 1 b, sym e ∙ z) refl

    pub describe-other : ((p ≡ 0) → ⊥) → x ≡ read_info l p → x ≡ info_of l ts k
    unfolding info_of
    describe-other n f = f ∙ rw (ne_eqb k 0 a, ne_eqb k 1 b, ← e, ne_eqb p 0 n) refl

pub ruleset describe_laws = (describe-integer, describe-boolean, describe-none, describe-other)

-- ---- `meaning_by`

module _ (sort more : ℕ) where
  pub by-type : sort % 4 ≡ 0 → meaning.Type (sort / 4) ≡ meaning_by sort more
  unfolding meaning_by
  by-type e = rw (eq-eqb (sort % 4) 0 e) refl

  module _ (a : (sort % 4 ≡ 0) → ⊥) where
    pub by-var : sort % 4 ≡ 1 → meaning.Var (sort / 4) (more % 128) (more / 128) ≡ meaning_by sort more
    unfolding meaning_by
    by-var e = rw (ne_eqb (sort % 4) 0 a, eq-eqb (sort % 4) 1 e) refl

    module _ (b : (sort % 4 ≡ 1) → ⊥) where
      pub by-proc : sort % 4 ≡ 2 → meaning.Proc more ≡ meaning_by sort more
      unfolding meaning_by
      by-proc e = rw (ne_eqb (sort % 4) 0 a, ne_eqb (sort % 4) 1 b, eq-eqb (sort % 4) 2 e) refl

      pub by_value : ((sort % 4 ≡ 2) → ⊥) → meaning.Value (sort / 4 % 128) more ≡ meaning_by sort more
      unfolding meaning_by
      by_value c = rw (ne_eqb (sort % 4) 0 a, ne_eqb (sort % 4) 1 b, ne_eqb (sort % 4) 2 c) refl

pub ruleset by_laws = (by-type, by-var, by-proc, by_value)

-- ---- `declared`

module _ (s l : List ℕ) (scope : Scope) (w : Name) (p : ℕ) (e : p ≡ place_by s l scope.count scope.newest w) where
  pub declared-none : p ≡ 0 → meaning.Unknown ≡ declared_in s l scope w
  unfolding declared_in meaning_at
  declared-none f = rw (sym e ∙ f) refl

  pub declared-some : ((p ≡ 0) → ⊥) → (a b : ℕ) → a ≡ get_or l (p + 1) 0 → b ≡ get_or l (p + 2) 0 → (x : Meaning) → x ≡ meaning_by a b → x ≡ declared_in s l scope w
  unfolding declared_in meaning_at
  declared-some n a b f g x h = h ∙ rw (← e, ne_eqb p 0 n, f, g) refl

pub ruleset declared_laws = (declared-none, declared-some)

-- ---- `kind_by`, `kind_in`

module _ (a b : Atom) (e : a ≡ b) (m : Meaning) where
  pub number-kind : (z : ℤ) → a ≡ AT.Number z → 0 ≡ kind_by b m
  number-kind z f = rw (sym e ∙ f) refl

  pub named-kind : a ≡ AT.Named → (m' : Meaning) (t : ℕ) → m' ≡ m → t ≡ type_in m' → t ≡ kind_by b m
  named-kind f m' t g h = h ∙ rw (sym e ∙ f, g) refl

  pub truth-kind : (q : Bool) → a ≡ AT.Truth q → 0 ≡ kind_by b m
  truth-kind q f = rw (sym e ∙ f) refl

  pub last-kind : a ≡ AT.ErrorNumber → 0 ≡ kind_by b m
  last-kind f = rw (sym e ∙ f) refl

  pub base-kind : (k : ℕ) → a ≡ AT.Base k → k ≡ kind_by b m
  base-kind k f = rw (sym e ∙ f) refl

  pub no_kind : a ≡ AT.Nothing → 0 ≡ kind_by b m
  no_kind f = rw (sym e ∙ f) refl

pub ruleset atom_laws = (number-kind, named-kind, truth-kind, last-kind, base-kind, no_kind)

module _ (s l : List ℕ) (scope : Scope) (at q : ℕ) (F : FollowsLead s at q) (v : Part) (S : Stands s q v) where
  abbrev us : Trees Run
  us = after_lead (first (stack_at s at))

  pub kind-leaf : (w : Word) (p r : ℕ) → v ≡ part.Leaf w p r → (k : ℕ) → k ≡ kind_by (atom_of w) (declared_here s l scope p) → k ≡ kind_of s l scope us
  unfolding kind_of
  kind-leaf w p r e k g = let h = rw e at S.says in
      g ∙ ap (λ (x : Word). kind_by (atom_of x) (declared_here s l scope p)) h.1 ∙ sym (ap (kind_of s l scope) (sym F.follows ∙ h.0.leaf.here))

  pub kind-form : (p : ℕ) → v ≡ part.Form p → 0 ≡ kind_of s l scope us
  unfolding kind_of
  kind-form p e = let h = rw e at S.says in sym (ap (kind_of s l scope) (sym F.follows ∙ h.here))

  pub kind-shut : (p : ℕ) → v ≡ part.Shut p → 0 ≡ kind_of s l scope us
  unfolding kind_of
  kind-shut p e = let h = rw e at S.says in sym (ap (kind_of s l scope) (sym F.follows ∙ h.here))

pub ruleset kind_laws = (kind-leaf, kind-form, kind-shut)

-- ---- `parameter`

pub parameter-is : (s l : List ℕ) (scope : Scope) (j i k : ℕ) (ts : Trees Run) → k ≡ kind_of s l scope (after_lead ts) → i ≡ j % 65536
    → meaning.Var (scope.vars % 256 + i) k (2048 + scope.parameters % 256 + i) ≡ parameter_of s l scope j ts
unfolding parameter_of
parameter-is s l scope j i k ts e f = rw (e, f) refl

-- ---- `meaning_of`

module _ (s l : List ℕ) (scope : Scope) (w : Name) (x : Meaning) where
  pub meaning-plain : scope.pairs ≡ 0 → x ≡ declared_in s l scope w → x ≡ meaning_in s l scope w
  unfolding meaning_in
  meaning-plain e f = f ∙ rw (eq-eqb scope.pairs 0 e) refl

  module _ (n : (scope.pairs ≡ 0) → ⊥) (v : Option (ℕ × ℕ)) (F : FindsPair s scope.pairs w v) where
    pub meaning-paired : (j q : ℕ) → v ≡ Some (j, q) → x ≡ parameter_of s l scope j (first (stack_at s q)) → x ≡ meaning_in s l scope w
    unfolding meaning_in
    meaning-paired j q e f = let h = rw e at F.says in f ∙ rw (ne_eqb scope.pairs 0 n, h) refl

    pub meaning-declared : v ≡ None → x ≡ declared_in s l scope w → x ≡ meaning_in s l scope w
    unfolding meaning_in
    meaning-declared e f = let h = rw e at F.says in f ∙ rw (ne_eqb scope.pairs 0 n, h) refl

pub ruleset meaning_laws = (meaning-plain, meaning-paired, meaning-declared)

-- ---- `host_of`

module _ (l ts : List ℕ) (k : ℕ) (x : Info) (e : x ≡ info_of l ts k) where
  pub host-ordinal : x.shape ≡ 0 → x.host ≡ host_in l ts k
  unfolding host_in
  host-ordinal f = rw (← e, eq-eqb x.shape 0 f) refl

  pub host-other : ((x.shape ≡ 0) → ⊥) → k ≡ host_in l ts k
  unfolding host_in
  host-other f = rw (← e, ne_eqb x.shape 0 f) refl

pub ruleset host_laws = (host-ordinal, host-other)

-- ---- `class_by`

module _ (shape k : ℕ) where
  pub class-set : shape ≡ 1 → Set ≡ class_in shape k
  unfolding class_in
  class-set e = rw e refl

  pub class-whole : ((shape ≡ 1) → ⊥) → ((shape ≡ 0) → ⊥) → Whole ≡ class_in shape k
  unfolding class_in
  class-whole a b = rw (ne_eqb shape 0 b, ne_eqb shape 1 a) refl

  module _ (e : shape ≡ 0) where
    pub class-integer : k ≡ 0 → Integer ≡ class_in shape k
    unfolding class_in
    class-integer f = rw (e, f) refl

    pub class-boolean : k ≡ 1 → Boolean ≡ class_in shape k
    unfolding class_in
    class-boolean f = rw (e, f) refl

    pub class-enum : ((k ≡ 0) → ⊥) → ((k ≡ 1) → ⊥) → Enum ≡ class_in shape k
    unfolding class_in
    class-enum a b = rw (e, ne_eqb k 0 a, ne_eqb k 1 b) refl

pub ruleset class_laws = (class-set, class-whole, class-integer, class-boolean, class-enum)

-- ---- `side_of`

pub side-is : (l ts : List ℕ) (k : ℕ) (x : Info) → x ≡ info_of l ts k → (c : Class) → c ≡ class_in x.shape k → (b : ℕ) → b ≡ host_in l ts x.element
    → record { class = c; kind = k; base = b } ≡ side_in l ts k
unfolding side_in
side-is l ts k x e c f b g = rw (f, g, e) refl
