-- The arguments of a call, counted and looked through for constants past the integers.
use mathlib.Core.Path.{◌≡◌, refl, sym, ap, ◌∙◌}
use mathlib.Core.Bool.{Bool, true, false, ◌&&◌}
use mathlib.Core.List.{List, map}
use mathlib.Core.Option.{Option, none, some}
use Prim.Native.Nat.compare
use Prim.Native.Nat.{ℕ, zero, suc, ◌-◌}
use native.Mathlib.Omega.{arith}
use borrow.Author.Tests.{ne_eqb}
use lib.Dec.{eqb}
use lib.ListN.{length}
use Rattle.leaf_bytes.specs.Bytes.{small}
use Rattle.leaf_words.specs.declared.words.Word.{Word}
use Rattle.leaf_words.specs.Words.{word_of}
use Rattle.law.specs.Base.{Name, ◌>>=◌, find}
use Rattle.law.specs.Environment.{Environment, NameSort}
use Rattle.law.specs.Names.{as_proc, exprs_of, stmt_of}
use Rattle.law.specs.Rules.{how_many, kept_stmt, plain_expr, plain_exprs}
use Rattle.law.specs.Script as Script
use Rattle.law.specs.Syntax as Syntax
use Rattle.law.specs.Trees.{Tree, Trees, form, end, ◌then◌, Run, first, later, word_at}
use Rattle.law_theorems.specs.Readings.{stack_at}
use Rattle.law_theorems.proofs.Inversion.{none-some, some_inj, bind-some}
use Rattle.text_heads.specs.declared.Atom.{Atom}
use Rattle.text_heads.specs.declared.Atom.TheVariants as AT
use Rattle.text_heads.specs.Heads.{atom_of, atom_name}
use Rattle.text_heads.specs.Parts.{part_of, rest, expr_in, exprs_in, name_in}
use Rattle.text_heads.proofs.Expressions.{name-form}
use Rattle.text_heads.proofs.Heads.{name-word}
use Rattle.text_parts.specs.declared.Part.{Part}
use Rattle.text_parts.specs.declared.Part.TheVariants as part
use Rattle.std.specs.Prelude.{Option as Maybe, Some, None}
use Rattle.text_parts.specs.Parts.{LeafAt, FormAt, ShutAt, Stands, Shuts}
use Rattle.text_skips.specs.Skips.{Skips}
use Rattle.rule_constants.specs.Plain.{plain_first}
use Rattle.table_scope.specs.declared.Loops.{Loops}
use Rattle.table_scope.specs.declared.Meaning.{Meaning}
use Rattle.table_scope.specs.declared.Meaning.TheVariants as meaning
use Rattle.table_scope.specs.declared.Scope.{Scope}
use Rattle.table_scope.specs.declared.frames.Frame.{Frame}
use Rattle.table_scope.specs.Frames.{frame_in}
use Rattle.table_scope.specs.Scene.{a-type, a-var, a-proc, a-value, Scene, Told, unknown, known, meaning_here}
use Rattle.rule_statements.proofs.Shapes.{call_shape}
use Rattle.rule_restrictions.specs.Calls.{count_by, plain_count, KeepsCall}
use Rattle.rule_restrictions.specs.Walks.{Near}
use Rattle.rule_restrictions.proofs.Passing.{expr-first, split, skip-then}

-- ---- `plain_parts`: n parts from `at` on, of which `left` from p on

module _ (s : List ℕ) (at n p left : ℕ) (I : plain_count n (first (stack_at s at)) ≡ plain_count left (first (stack_at s p))) (e : Maybe ℕ) (E : Shuts s p e) where
  pub count-end : (q : ℕ) → e ≡ Some q → eqb left 0 ≡ plain_count n (first (stack_at s at))
  unfolding plain_count
  count-end q h = let C : ShutAt s p q = rw h at E.says in sym (I ∙ ap (plain_count left) C.here)

  pub count-over : e ≡ None → left ≡ 0 → false ≡ plain_count n (first (stack_at s at))
  unfolding plain_count
  count-over h z = split (first (stack_at s p)) (rw h at E.says) λ t ts g. sym (I ∙ ap (plain_count left) g ∙ ap (λ (i : ℕ). plain_count i (t then ts)) z)

  step : (t : Tree Run) (ts : Trees Run) → (left ≡ 0 → ⊥) → plain_count left (t then ts) ≡ (plain_first (t then ts) && plain_count (left - 1) ts)
  unfolding plain_count
  step t ts z = let g : suc (left - 1) ≡ left = omega (arith, z) in ap (λ (i : ℕ). plain_count i (t then ts)) (sym g)

  module _ (h : e ≡ None) (z : left ≡ 0 → ⊥) (b : Bool) (B : b ≡ plain_first (first (stack_at s p))) where
    pub count-not : b ≡ false → false ≡ plain_count n (first (stack_at s at))
    count-not g = split (first (stack_at s p)) (rw h at E.says) λ t ts f.
        sym (I ∙ ap (plain_count left) f ∙ step t ts z ∙ ap (λ (c : Bool). c && plain_count (left - 1) ts) (ap plain_first (sym f) ∙ sym B ∙ g))

    pub count-on : b ≡ true → (q : ℕ) → Skips s p q → plain_count n (first (stack_at s at)) ≡ plain_count (left - 1) (first (stack_at s q))
    count-on g q S = split (first (stack_at s p)) (rw h at E.says) λ t ts f.
        I ∙ ap (plain_count left) f ∙ step t ts z ∙ ap (λ (c : Bool). c && plain_count (left - 1) ts) (ap plain_first (sym f) ∙ sym B ∙ g) ∙ ap (plain_count (left - 1)) (sym (skip-then S t ts f))

pub ruleset count-laws = (count-end, count-over, count-not, count-on)

-- ---- arguments that are read

zero-turned : (n : ℕ) → eqb n 0 ≡ eqb 0 n
zero-turned zero = refl
zero-turned (suc n) = ne_eqb (suc n) 0 (λ h. omega arith) ∙ sym (ne_eqb 0 (suc n) (λ h. omega arith))

none_more : (a b : Bool) (n : ℕ) → false ≡ ((a && b) && eqb (suc n) 0)
none_more a b n = rw (ne_eqb (suc n) 0 (λ h. omega arith)) (go (a && b))
  where
    go : (c : Bool) → false ≡ (c && false)
    go true = refl
    go false = refl

one_more : (a b : Bool) (n m : ℕ) → (a && (b && eqb n m)) ≡ ((a && b) && eqb (suc n) (suc m))
one_more a b n m = rw (compare.suc-suc n m) (go a b (eqb n m))
  where
    go : (a b c : Bool) → (a && (b && c)) ≡ ((a && b) && c)
    go true b c = refl
    go false b c = refl

module _ {s l : List ℕ} {scope : Scope} {loops : Loops} {d : ℕ} {σ : Environment} {js : List ℕ} (N : Near s l scope loops d σ js) where
  arguments-plain : (n : ℕ) (us : Trees Run) (es : Syntax.Exprs) (xs : Script.Exprs) → exprs_in 33 us ≡ some es → exprs_of σ es ≡ some xs → plain_count n us ≡ (plain_exprs xs && eqb (how_many xs) n)
  unfolding plain_count exprs_in expr_in part_of exprs_of plain_exprs how_many
  arguments-plain n end es xs h k =
      let z : some Script.nil ≡ some xs = ap (exprs_of σ) (some_inj h) ∙ k in
      rw (← some_inj z) (zero-turned n)
  arguments-plain zero (t then ts) es xs h k =
      bind-some h λ e he h₁. bind-some h₁ λ fs hf q. bind-some (ap (exprs_of σ) (some_inj q) ∙ k) λ x hx k₁. bind-some k₁ λ ys hy j.
      rw (← some_inj j) (none_more (plain_expr x) (plain_exprs ys) (how_many ys))
  arguments-plain (suc n) (t then ts) es xs h k =
      bind-some h λ e he h₁. bind-some h₁ λ fs hf q. bind-some (ap (exprs_of σ) (some_inj q) ∙ k) λ x hx k₁. bind-some k₁ λ ys hy j.
      rw (← some_inj j, ← expr-first N (t then ts) e x he hx, arguments-plain n ts fs ys hf hy) (one_more (plain_expr x) (plain_exprs ys) (how_many ys) n)

-- ---- `call_kept`

-- how many parameters the procedure of a name has
count-told : {s l ks : List ℕ} {scope : Scope} {top : ℕ} {σ : Environment} {bs : List ℕ} → Scene s l ks scope top σ bs → (p : ℕ) (n : ℕ) (us : List ℕ)
    → (find σ.names (map small (word_at s p)) >>= as_proc) ≡ some (n, us) → count_by l (meaning_here s l scope p) ≡ length us
unfolding count_by ◌>>=◌
count-told {s} {l} {ks} {scope} {top} {σ} {bs} S p n us h = go (meaning_here s l scope p) (find σ.names (map small (word_at s p))) refl (S.names (map small (word_at s p))) h
  where
    pair-last : (a b : ℕ) (xs ys : List ℕ) → ◌≡◌ {A = Option (ℕ × List ℕ)} (some (a, xs)) (some (b, ys)) → xs ≡ ys
    pair-last a b xs ys e = ap (λ (x : ℕ × List ℕ). x.1) (some_inj e)

    go : (m : Meaning) (o : Option NameSort) → find σ.names (map small (word_at s p)) ≡ o → Told σ bs m o → (o >>= as_proc) ≡ some (n, us) → count_by l m ≡ length us
    go _ _ e unknown g = none-some g
    go _ _ e (known a-type) g = none-some g
    go _ _ e (known (a-var v i)) g = none-some g
    go _ _ e (known (a-proc {q} {ts})) g = (S.frames (map small (word_at s p)) q ts e).count-is ∙ ap length (pair-last q n ts us g)
    go _ _ e (known a-value) g = none-some g

pub parameters-are : (l : List ℕ) (m : Meaning) (p : ℕ) → m ≡ meaning.Proc p → (x : Frame) → x ≡ frame_in l p → x.count ≡ count_by l m
unfolding count_by
parameters-are l m p e x h = ap (λ (y : Frame). y.count) h ∙ rw e refl

module _ (l : List ℕ) (m : Meaning) where
  pub no_frame : ((p : ℕ) → m ≡ meaning.Proc p → ⊥) → 0 ≡ count_by l m
  unfolding count_by
  no_frame h = go m refl
    where
      go : (x : Meaning) → m ≡ x → 0 ≡ count_by l m
      go meaning.Unknown e = rw e refl
      go (meaning.Type t) e = rw e refl
      go (meaning.Var i t a) e = rw e refl
      go (meaning.Proc p) e = absurd (h p e)
      go (meaning.Value k n) e = rw e refl

pub ruleset parameters_laws = (parameters-are, no_frame)

module _ (s l : List ℕ) (scope : Scope) (at : ℕ) (y : Part) (S : Stands s at y) where
  -- a name that is free is the word as it stands
  name-there : (a : Atom) (n w : Name) → atom_name a n ≡ some w → n ≡ w
  name-there AT.Named n w h = some_inj h
  name-there (AT.Number z) n w h = none-some h
  name-there (AT.Truth b) n w h = none-some h
  name-there AT.ErrorNumber n w h = none-some h
  name-there (AT.Base k) n w h = none-some h
  name-there AT.Nothing n w h = none-some h

  pub call-leaf : (w : Word) (p q : ℕ) → y ≡ part.Leaf w p q → (m : Meaning) → m ≡ meaning_here s l scope p → (c : ℕ) → c ≡ count_by l m → (r : Bool) → r ≡ plain_count c (first (stack_at s q)) → KeepsCall s l scope at r
  unfolding stmt_of kept_stmt
  call-leaf w p q e m M c C r R = record {
    any = λ loops d. record {
      says = λ σ js N n v x h k.
          let L : LeafAt s at p q = (rw e at S.says).0 in
          bind-some (sym (call_shape d n (first (stack_at s at))) ∙ h) λ a ha h₁. bind-some h₁ λ es he j.
          bind-some (ap (λ (u : Syntax.Stmt × ℕ). stmt_of σ u.0) (some_inj j) ∙ k) λ u hu k₁. bind-some k₁ λ xs hx i.
          let b : map small (word_at s p) ≡ a = name-there (atom_of (word_of (word_at s p))) (map small (word_at s p)) a (sym (name-word (word_at s p) (first (stack_at s q))) ∙ ap name_in (sym L.leaf.here) ∙ ha) in
          let f : first (stack_at s q) ≡ rest (first (stack_at s at)) = sym (ap rest L.leaf.here) in
          let g : c ≡ length u.1 = C ∙ ap (count_by l) M ∙ count-told N.held.scene p u.0 u.1 (ap (λ (z : Name). find σ.names z >>= as_proc) b ∙ hu) in
          rw (← some_inj i) (R ∙ arguments-plain N c (first (stack_at s q)) es xs (ap (exprs_in 33) f ∙ he) hx ∙ ap (λ (z : ℕ). plain_exprs xs && eqb (how_many xs) z) g);
    };
  }

  nothing-called : (us : Trees Run) → first (stack_at s at) ≡ us → name_in us ≡ none → (r : Bool) → KeepsCall s l scope at r
  nothing-called us e h r = record {
    any = λ loops d. record {
      says = λ σ js N n v x g k. bind-some (sym (call_shape d n (first (stack_at s at))) ∙ g) λ a ha _. none-some (sym h ∙ ap name_in (sym e) ∙ ha);
    };
  }

  pub call-form : (p : ℕ) → y ≡ part.Form p → KeepsCall s l scope at true
  call-form p e = let F : FormAt s at p = rw e at S.says in nothing-called (form (first (stack_at s p)) then first (later (stack_at s p))) F.here (name-form (first (stack_at s p)) (first (later (stack_at s p)))) true

  pub call-shut : (q : ℕ) → y ≡ part.Shut q → KeepsCall s l scope at true
  unfolding name_in part_of ◌>>=◌
  call-shut q e = let C : ShutAt s at q = rw e at S.says in nothing-called end C.here refl true

  pub call-other : ((w : Word) (p q : ℕ) → y ≡ part.Leaf w p q → ⊥) → KeepsCall s l scope at true
  call-other h = go y refl
    where
      go : (x : Part) → y ≡ x → KeepsCall s l scope at true
      go (part.Leaf w p q) e = absurd (h w p q e)
      go (part.Form p) e = call-form p e
      go (part.Shut q) e = call-shut q e

pub ruleset call_laws = (call-leaf, call-other)
