-- The variables of an assignment and of a `for`: the ways to them, and what the tables say of them.
use mathlib.Core.Path.{◌≡◌, refl, sym, ap, ◌∙◌}
use mathlib.Core.Bool.{Bool, true, false, not, ◌&&◌}
use mathlib.Core.Logic.{◌⊎◌, inl, inr}
use mathlib.Core.List.{List, ◌∷◌, map}
use mathlib.Core.Option.{Option, none, some}
use Prim.Native.Nat.{ℕ, suc}
use native.Mathlib.Omega.{arith}
use Rattle.leaf_words.specs.declared.words.Word.{Word}
use Rattle.leaf_bytes.specs.Bytes.{small}
use Rattle.leaf_words.specs.Words.{word_of}
use Rattle.law.specs.Base.{Name, ◌>>=◌}
use Rattle.law.specs.Environment.{Environment, NameSort, a_type, a_var, a_proc, a_value}
use Rattle.law.specs.Names.{Reached, as_var, var_of, expr_of, target_of, stmt_of}
use Rattle.law.specs.Rules.{looping, steers, plain_expr, plain_target, kept_stmt}
use Rattle.law.specs.Script as Script
use Rattle.law.specs.Syntax as Syntax
use Rattle.law.specs.Trees.{word, form, Trees, end, ◌then◌, Run, first, later, word_at}
use Rattle.law_theorems.specs.Readings.{stack_at}
use Rattle.law_theorems.proofs.Inversion.{none-some, some_inj, bind-some}
use Rattle.text_heads.specs.declared.Atom.{Atom}
use Rattle.text_heads.specs.declared.Atom.TheVariants as AT
use Rattle.text_heads.specs.declared.ExprHead.{ExprHead}
use Rattle.text_heads.specs.declared.ExprHead.TheVariants as EH
use Rattle.text_heads.specs.Heads.{atom_of, atom_name, atom_target, expr_head_of}
use Rattle.text_heads.specs.Parts.{part_of, rest, expr_in, target_in, name_in, stmt_in, target_by}
use Rattle.text_heads.proofs.Heads.{name-word, target-word}
use Rattle.text_heads.proofs.Expressions.{target-form, target-empty, target-headless, name-form}
use Rattle.text_parts.specs.declared.Part.{Part}
use Rattle.text_parts.specs.declared.Part.TheVariants as part
use Rattle.text_parts.specs.Parts.{LeafAt, FormAt, ShutAt, Stands}
use Rattle.text_skips.specs.Skips.{Skips}
use Rattle.rule_constants.specs.Plain.{plain_first}
use Rattle.table_scope.specs.declared.Scope.{Scope}
use Rattle.table_scope.specs.declared.Loops.{Loops}
use Rattle.table_scope.specs.declared.Meaning.{Meaning}
use Rattle.table_scope.specs.declared.Meaning.TheVariants as meaning
use Rattle.table_scope.specs.Loops.{loops_over}
use Rattle.table_scope.specs.Scene.{Means, a-type, a-var, a-proc, a-value, Told, unknown, known, meaning_in, meaning_here}
use Rattle.table_scope.proofs.Looping.{in-force-more}
use Rattle.table_scope.proofs.Telling.{meant}
use Rattle.rule_statements.specs.Walks.{for_in}
use Rattle.rule_statements.proofs.Shapes.{assign-shape, for-shape}
use Rattle.std.specs.Prelude.{Option as Maybe, Some, None}
use Rattle.rule_restrictions.specs.Walks.{Near, KeepsAssign}
use Rattle.rule_restrictions.specs.Control.{PlainTwo, SkipsTwo, free_by, Free, Bounded, StartsBy, StartsAs, Starts}
use Rattle.rule_restrictions.proofs.Passing.{closed_is, split, expr-some, target-some, skip-then, expr-first, target_first}

-- ---- two parts

module _ (s : List ℕ) (at : ℕ) (t : Bool) (h : t ≡ plain_first (first (stack_at s at))) where
  pub two-bad : t ≡ false → PlainTwo s at false
  unfolding plain_first
  two-bad f = record { says = λ u us e. sym (ap (λ (b : Bool). b && plain_first us) (sym (h ∙ ap plain_first e) ∙ f)) }

  pub two-on : (q : ℕ) (r : Bool) → t ≡ true → Skips s at q → r ≡ plain_first (first (stack_at s q)) → PlainTwo s at r
  unfolding plain_first
  two-on q r f S g = record { says = λ u us e. g ∙ ap plain_first (skip-then S u us e) ∙ sym (ap (λ (b : Bool). b && plain_first us) (sym (h ∙ ap plain_first e) ∙ f)) }

pub ruleset two_laws = (two-bad, two-on)

pub skip_twice : (s : List ℕ) (at q r : ℕ) → Skips s at q → Skips s q r → SkipsTwo s at r
skip_twice s at q r S T = record { says = λ t u us e. skip-then T u us (skip-then S t (u then us) e) }

two-told : {s : List ℕ} {at : ℕ} {r : Bool} → PlainTwo s at r → (first (stack_at s at) ≡ end → ⊥) → r ≡ (plain_first (first (stack_at s at)) && plain_first (rest (first (stack_at s at))))
unfolding plain_first
two-told {s} {at} P h = split (first (stack_at s at)) h λ t ts e. P.says t ts e ∙ sym (ap (λ (us : Trees Run). plain_first us && plain_first (rest us)) e)

-- ---- variables of the loops around

module _ (w : Loops) (m : Meaning) where
  pub free-var : (i k a : ℕ) (b : Bool) → m ≡ meaning.Var i k a → b ≡ loops_over w i → not b ≡ free_by w m
  free-var i k a b e h = rw e (ap not h)

  pub free-none : ((i k a : ℕ) → m ≡ meaning.Var i k a → ⊥) → true ≡ free_by w m
  free-none h = go m refl
    where
      go : (x : Meaning) → m ≡ x → true ≡ free_by w m
      go meaning.Unknown e = rw e refl
      go (meaning.Type k) e = rw e refl
      go (meaning.Var i k a) e = absurd (h i k a e)
      go (meaning.Proc p) e = rw e refl
      go (meaning.Value k n) e = rw e refl

pub ruleset free_by_laws = (free-var, free-none)

-- a variable's name means that variable
means-var : {σ : Environment} {bs : List ℕ} {x : Meaning} {n : NameSort} (i : ℕ) → Means σ bs x n → n ≡ a_var i → (k : ℕ) × ((a : ℕ) × (x ≡ meaning.Var i k a))
means-var i a-type e = none-some (ap as_var e)
means-var i (a-var v h) e = (v.type, (v.base, ap (λ (y : ℕ). meaning.Var y v.type v.base) (some_inj (ap as_var e))))
means-var i a-proc e = none-some (ap as_var e)
means-var i a-value e = none-some (ap as_var e)

told-var : {σ : Environment} {bs : List ℕ} {x : Meaning} {o : Option NameSort} (i : ℕ) → Told σ bs x o → o ≡ some (a_var i) → (k : ℕ) × ((a : ℕ) × (x ≡ meaning.Var i k a))
told-var i unknown e = none-some e
told-var i (known M) e = means-var i M (some_inj e)

sort-var : (m : NameSort) (i : ℕ) → as_var m ≡ some i → m ≡ a_var i
sort-var (a_type t) i e = none-some e
sort-var (a_var j) i e = ap a_var (some_inj e)
sort-var (a_proc p ts) i e = none-some e
sort-var (a_value c) i e = none-some e

module _ {s l : List ℕ} {scope : Scope} {loops : Loops} {d : ℕ} {σ : Environment} {js : List ℕ} (N : Near s l scope loops d σ js) where
  var-means : (w : Name) (i : ℕ) → var_of σ w ≡ some i → (k : ℕ) × ((a : ℕ) × (meaning_in s l scope w ≡ meaning.Var i k a))
  unfolding var_of
  var-means w i h = bind-some h λ m hm e. told-var i (meant N.held.scene w) (hm ∙ ap some (sort-var m i e))

-- ---- the target that is assigned

var-free : {s l : List ℕ} {scope : Scope} {loops : Loops} {d : ℕ} (σ : Environment) (js : List ℕ) → Near s l scope loops d σ js → (w : Name) (z : Reached) (x : Meaning) (r : Bool) → x ≡ meaning_in s l scope w
    → r ≡ free_by loops x → target_of σ (Syntax.var w) ≡ some z → r ≡ not (steers z.target js)
unfolding target_of
var-free {loops} σ js N w z x r f g h = bind-some h λ i hi h'. bind-some h' λ v hv p.
    let M = var-means N w i hi in
    rw (← some_inj p) (g ∙ ap (free_by loops) (f ∙ M.1.1) ∙ ap not (N.in-force.in-force i))

name-target : (a : Atom) (w : Name) (g : Syntax.Target) → atom_target a w ≡ some g → Syntax.var w ≡ g
name-target (AT.Number z) w g h = none-some h
name-target AT.Named w g h = some_inj h
name-target (AT.Truth b) w g h = none-some h
name-target AT.ErrorNumber w g h = none-some h
name-target (AT.Base k) w g h = none-some h
name-target AT.Nothing w g h = none-some h

-- a form as a target is no whole variable
form-free : (σ : Environment) (js : List ℕ) (k : ExprHead) (d : ℕ) (us : Trees Run) (g : Syntax.Target) (x : Reached) → target_by k d us ≡ some g → target_of σ g ≡ some x → steers x.target js ≡ false
unfolding target_by target_of
form-free σ js EH.At d us g x h k = bind-some h λ v hv h'. bind-some h' λ a ha c. closed_is c λ z q. bind-some (rw (← q) at k) λ r hr k'. bind-some k' λ e he p. rw (← some_inj p) refl
form-free σ js EH.Dot d us g x h k = bind-some h λ v hv h'. bind-some h' λ n hn c. closed_is c λ z q. bind-some (rw (← q) at k) λ r hr k'. bind-some k' λ t ht p. rw (← some_inj p) refl
form-free σ js EH.Members d us g x h k = none-some h
form-free σ js EH.Minus d us g x h k = none-some h
form-free σ js (EH.Bound b) d us g x h k = none-some h
form-free σ js (EH.Short b) d us g x h k = none-some h
form-free σ js (EH.Two n) d us g x h k = none-some h
form-free σ js (EH.One n) d us g x h k = none-some h
form-free σ js EH.Nothing d us g x h k = none-some h

module _ (s l : List ℕ) (scope : Scope) (loops : Loops) (at : ℕ) (y : Part) (S : Stands s at y) where
  pub free-leaf : (w : Word) (p q : ℕ) (x : Meaning) (r : Bool) → y ≡ part.Leaf w p q → x ≡ meaning_here s l scope p → r ≡ free_by loops x → Free s l scope loops at r
  free-leaf w p q x r e f g = record {
    says = λ d σ js N v z hv hz.
        let L : LeafAt s at p q = (rw e at S.says).0 in
        let n : Syntax.var (map small (word_at s p)) ≡ v
        = name-target (atom_of (word_of (word_at s p))) (map small (word_at s p)) v (sym (target-word 32 (word_at s p) (first (stack_at s q))) ∙ ap (target_in 33) (sym L.leaf.here) ∙ hv) in
        whole d σ js N z (rw (← n) at hz);
  }
    where
      whole : (d : ℕ) (σ : Environment) (js : List ℕ) → Near s l scope loops d σ js → (z : Reached) → target_of σ (Syntax.var (map small (word_at s p))) ≡ some z → r ≡ not (steers z.target js)
      whole d σ js N z h = var-free σ js N (map small (word_at s p)) z x r f g h

  pub free-form : (p : ℕ) → y ≡ part.Form p → Free s l scope loops at true
  free-form p e = record {
    says = λ d σ js N v z hv hz.
        let F : FormAt s at p = rw e at S.says in
        sym (ap not (inside σ js (first (stack_at s p)) v z (ap (target_in 33) (sym F.here) ∙ hv) hz));
  }
    where
      inside : (σ : Environment) (js : List ℕ) (us : Trees Run) (v : Syntax.Target) (z : Reached) → target_in 33 (form us then first (later (stack_at s p))) ≡ some v → target_of σ v ≡ some z → steers z.target js ≡ false
      inside σ js end v z h k = none-some (sym (target-empty 33 (first (later (stack_at s p)))) ∙ h)
      inside σ js (form us then vs) v z h k = none-some (sym (target-headless 33 us vs (first (later (stack_at s p)))) ∙ h)
      inside σ js (word w then us) v z h k = form-free σ js (expr_head_of (word_of w)) 32 us v z (sym (target-form 32 w us (first (later (stack_at s p)))) ∙ h) k

  pub free-shut : (q : ℕ) → y ≡ part.Shut q → Free s l scope loops at true
  free-shut q e = record { says = λ d σ js N v z hv hz. let C : ShutAt s at q = rw e at S.says in absurd (target-some 33 hv C.here) }

  pub free-other : ((w : Word) (p q : ℕ) → y ≡ part.Leaf w p q → ⊥) → Free s l scope loops at true
  free-other h = go y refl
    where
      go : (x : Part) → y ≡ x → Free s l scope loops at true
      go (part.Leaf w p q) e = absurd (h w p q e)
      go (part.Form p) e = free-form p e
      go (part.Shut q) e = free-shut q e

pub ruleset free_laws = (free-leaf, free-other)

-- ---- an assignment

module _ (s l : List ℕ) (scope : Scope) (loops : Loops) (at : ℕ) (t : Bool) (P : PlainTwo s at t) where
  abbrev us : Trees Run
  us = first (stack_at s at)

  assigned : (r : Bool) → ((b : Bool) (d : ℕ) (σ : Environment) (js : List ℕ) → Near s l scope loops d σ js → (g : Syntax.Target) (x : Reached) → target_in 33 us ≡ some g → target_of σ g ≡ some x → r ≡ (t && not (steers x.target js))) → KeepsAssign s l scope loops at r
  unfolding stmt_of kept_stmt
  assigned r f = record {
    any = λ d. record {
      says = λ σ js N n p x h k.
          bind-some (sym (assign-shape d n us) ∙ h) λ g hg h'. bind-some h' λ e he q. bind-some he λ e₀ he₀ c. closed_is c λ z i.
          bind-some (rw (← some_inj q) at k) λ v hv k'. bind-some k' λ y hy j.
          rw (← some_inj j)
          (f t (suc d) σ js N g v hg hv
          ∙ ap (λ (b : Bool). b && not (steers v.target js)) (two-told P (target-some 33 hg) ∙ sym (both (suc d) σ js N g e₀ v y hg he₀ hv (rw (← i) at hy))));
    };
  }
    where
      both : (d : ℕ) (σ : Environment) (js : List ℕ) → Near s l scope loops d σ js → (g : Syntax.Target) (e : Syntax.Expr) (v : Reached) (y : Script.Expr) → target_in 33 us ≡ some g → expr_in 33 (rest us) ≡ some e → target_of σ g ≡ some v → expr_of σ e ≡ some y
          → (plain_target v.target && plain_expr y) ≡ (plain_first us && plain_first (rest us))
      both d σ js N g e v y hg he hv hy = rw (target_first N us g v hg hv, expr-first N (rest us) e y he hy) refl

  pub assign-bad : t ≡ false → KeepsAssign s l scope loops at false
  assign-bad z = assigned false λ b d σ js N g x hg hx. sym (ap (λ (b : Bool). b && not (steers x.target js)) z)

  pub assign-free : (r : Bool) → t ≡ true → Free s l scope loops at r → KeepsAssign s l scope loops at r
  assign-free r z F = assigned r λ b d σ js N g x hg hx. F.says d σ js N g x hg hx ∙ sym (ap (λ (b : Bool). b && not (steers x.target js)) z)

pub ruleset assign_laws = (assign-bad, assign-free)

-- ---- a `for`

module _ (s : List ℕ) (loops : Loops) (i at : ℕ) (t : Bool) (P : PlainTwo s at t) where
  pub bounds-bad : t ≡ false → Bounded s loops i at None
  bounds-bad z = record { says = inr (rw z at P) }

  module _ (z : t ≡ true) (o : Bool) (h : o ≡ loops_over loops i) where
    pub bounds-over : o ≡ true → Bounded s loops i at None
    bounds-over e = record { says = inl (sym h ∙ e) }

    pub bounds-on : (q : ℕ) → o ≡ false → SkipsTwo s at q → Bounded s loops i at (Some (i, q))
    bounds-on q e S = record { says = (refl, (sym h ∙ e, (rw z at P, S))) }

pub ruleset bounds_laws = (bounds-bad, bounds-over, bounds-on)

var-one : {i j k l a b : ℕ} → meaning.Var i k a ≡ meaning.Var j l b → i ≡ j
var-one {i} h = ap (number_or i) h
  where
    number_or : ℕ → Meaning → ℕ
    number_or n meaning.Unknown = n
    number_or n (meaning.Type t) = n
    number_or n (meaning.Var i k a) = i
    number_or n (meaning.Proc p) = n
    number_or n (meaning.Value k v) = n

module _ (s : List ℕ) (loops : Loops) (m : Meaning) (at : ℕ) where
  pub start-none : ((i k a : ℕ) → m ≡ meaning.Var i k a → ⊥) → StartsBy s loops m at None
  start-none h = record { says = λ i k a f. absurd (h i k a f) }

  pub start-var : (i k a : ℕ) (r : Maybe (ℕ × ℕ)) → m ≡ meaning.Var i k a → Bounded s loops i at r → StartsBy s loops m at r
  start-var i k a r e B = record { says = λ j l b f. let q : i ≡ j = var-one (sym e ∙ f) in rw q at B }

pub ruleset start_by_laws = (start-var, start-none)

name-end : name_in end ≡ none
unfolding name_in part_of ◌>>=◌
name-end = refl

name-name : (a : Atom) (w n : Name) → atom_name a w ≡ some n → w ≡ n
name-name (AT.Number z) w n h = none-some h
name-name AT.Named w n h = some_inj h
name-name (AT.Truth b) w n h = none-some h
name-name AT.ErrorNumber w n h = none-some h
name-name (AT.Base k) w n h = none-some h
name-name AT.Nothing w n h = none-some h

-- the parts of a `for` after its control variable, as they are read and named
module _ {s l : List ℕ} {scope : Scope} {loops : Loops} {d : ℕ} {σ : Environment} {js : List ℕ} (N : Near s l scope loops (suc d) σ js) (q n : ℕ)
    (a b : Syntax.Expr) (c : Syntax.Stmt × ℕ) (ha : expr_in 33 (first (stack_at s q)) ≡ some a) (hb : expr_in 33 (rest (first (stack_at s q))) ≡ some b) (hc : stmt_in d n (rest (rest (first (stack_at s q)))) ≡ some c)
    (i : ℕ) (x y : Script.Expr) (z : Script.Stmt) (hx : expr_of σ a ≡ some x) (hy : expr_of σ b ≡ some y) (hz : stmt_of σ c.0 ≡ some z) where
  abbrev vs : Trees Run
  vs = first (stack_at s q)

  bounds-are : (t : Bool) → PlainTwo s q t → (plain_expr x && plain_expr y) ≡ t
  bounds-are t P = sym (two-told P (expr-some 33 ha) ∙ sym (pair (expr-first N vs a x ha hx) (expr-first N (rest vs) b y hb hy)))
    where
      pair : {u v f g : Bool} → u ≡ f → v ≡ g → (u && v) ≡ (f && g)
      pair e h = rw (e, h) refl

  for_as : (r : Maybe (ℕ × ℕ)) → Bounded s loops i q r → (e : Script.Stmt) → Script.for n i x y z ≡ e → StartsAs s loops σ js d n e r
  unfolding kept_stmt
  for_as (Some (j, q')) B e k =
      let g = B.says in
      rw (← k, g.0) (record {
        form = c;
        inside = z;
        in-force = in-force-more N.in-force (let w = N.few-loops in omega arith);
        read = ap (stmt_in d n) (there g.1.1.1) ∙ hc;
        named = hz;
        kept = rw (bounds-are true g.1.1.0, sym (N.in-force.in-force i) ∙ g.1.0) refl;
      })
    where
      there : SkipsTwo s q q' → first (stack_at s q') ≡ rest (rest vs)
      there T = split vs (expr-some 33 ha) λ t ts e. split ts (λ h. expr-some 33 hb (ap rest e ∙ h)) λ u us f. T.says t u us (e ∙ ap (λ (v : Trees Run). t then v) f) ∙ sym (ap (λ (v : Trees Run). rest (rest v)) e ∙ ap rest f)
  for_as None B e k = rw (← k) (go B.says)
    where
      go : (loops_over loops i ≡ true) ⊎ PlainTwo s q false → (((plain_expr x && plain_expr y) && not (looping i js)) && kept_stmt z (i ∷ js)) ≡ false
      go (inl o) = rw (sym (N.in-force.in-force i) ∙ o) (ap (λ (b : Bool). b && kept_stmt z (i ∷ js)) (last (plain_expr x && plain_expr y)))
        where
          last : (b : Bool) → (b && false) ≡ false
          last true = refl
          last false = refl
      go (inr P) = rw (bounds-are false P) refl

module _ (s l : List ℕ) (scope : Scope) (loops : Loops) (at : ℕ) (y : Part) (S : Stands s at y) where
  pub start-leaf : (w : Word) (p q : ℕ) (x : Meaning) (r : Maybe (ℕ × ℕ)) → y ≡ part.Leaf w p q → x ≡ meaning_here s l scope p → StartsBy s loops x q r → Starts s l scope loops at r
  unfolding for_in stmt_of
  start-leaf w p q x r e f B = record {
    says = λ d σ js N n v z h k.
        let L : LeafAt s at p q = (rw e at S.says).0 in
        bind-some (sym (for-shape d n (first (stack_at s at))) ∙ h) λ i hi h'.
        let m : map small (word_at s p) ≡ i = name-name (atom_of (word_of (word_at s p))) (map small (word_at s p)) i (sym (name-word (word_at s p) (first (stack_at s q))) ∙ ap name_in (sym L.leaf.here) ∙ hi) in
        let u : rest (first (stack_at s at)) ≡ first (stack_at s q) = ap rest L.leaf.here in
        bind-some (rw u at h') λ a ha h₁. bind-some h₁ λ b hb h₂. bind-some h₂ λ c hc g. bind-some hc λ c₀ hc₀ j. closed_is j λ o eq.
        bind-some (rw (← some_inj g) at k) λ num hn k₁. bind-some k₁ λ ex hex k₂. bind-some k₂ λ ey hey k₃. bind-some k₃ λ ez hez fin.
        let M = var-means N i num hn in
        for_as N q n a b c₀ ha hb hc₀ num ex ey ez hex hey (rw (← eq) at hez) r
        (B.says num M.0 M.1.0 (f ∙ ap (λ (w : Name). meaning_in s l scope w) m ∙ M.1.1)) z (some_inj fin);
  }

  pub start-form : (p : ℕ) → y ≡ part.Form p → Starts s l scope loops at None
  start-form p e = record {
    says = λ d σ js N n v z h k.
        let F : FormAt s at p = rw e at S.says in
        bind-some (sym (for-shape d n (first (stack_at s at))) ∙ h) λ i hi h'. none-some (sym (name-form (first (stack_at s p)) (first (later (stack_at s p)))) ∙ ap name_in (sym F.here) ∙ hi);
  }

  pub start-shut : (q : ℕ) → y ≡ part.Shut q → Starts s l scope loops at None
  start-shut q e = record {
    says = λ d σ js N n v z h k.
        let C : ShutAt s at q = rw e at S.says in
        bind-some (sym (for-shape d n (first (stack_at s at))) ∙ h) λ i hi h'. none-some (sym name-end ∙ ap name_in (sym C.here) ∙ hi);
  }

  pub start-other : ((w : Word) (p q : ℕ) → y ≡ part.Leaf w p q → ⊥) → Starts s l scope loops at None
  start-other h = go y refl
    where
      go : (x : Part) → y ≡ x → Starts s l scope loops at None
      go (part.Leaf w p q) e = absurd (h w p q e)
      go (part.Form p) e = start-form p e
      go (part.Shut q) e = start-shut q e

pub ruleset start_laws = (start-leaf, start-other)
