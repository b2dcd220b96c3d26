-- Words, `first` and `last`, and `(- number)`: what the answers tell of the stages, and the ways through the functions that promise it.
use mathlib.Core.Path.{◌≡◌, refl, sym, ap, ◌∙◌, subst}
use mathlib.Core.Bool.{Bool, true, false, cond}
use mathlib.Core.List.{List, [], ◌∷◌, map}
use mathlib.Core.Option.{Option, none, some}
use Prim.Native.Nat.{ℕ, ◌+◌, ◌*◌, ◌≤◌}
use native.Mathlib.Omega.{arith}
use lib.Dec.{eqb}
use lib.IntN.{ℤ, pos, neg_ℤ}
use lib.ListN.{length}
use mir.Syntax.{w64}
use mir.Val.{SFits}
use mir.Facts.{to_z-of_z}
use Rattle.leaf_integers.specs.Integers.{inside, least, most}
use Rattle.leaf_integers.proofs.Machine.{wire}
use Rattle.leaf_integers.proofs.Order.{le_z-trans}
use Rattle.leaf_integers.proofs.Ranges.{inside_both, inside_is}
use Rattle.leaf_bytes.specs.Bytes.{small}
use Rattle.leaf_words.specs.declared.words.Word.{Word}
use Rattle.law.specs.Base.{◌>>=◌, given, pick, find}
use Rattle.law.specs.Base as Base
use Rattle.law.specs.Calculate.{truth}
use Rattle.law.specs.Code.{literal, load, last_number, cell}
use Rattle.law.specs.Elaborate.{Elaborated, elaborated, located, in_kind, elab_expr, elab_target}
use Rattle.law.specs.Environment.{Environment, NameSort, a_value}
use Rattle.code.specs.Layout.{lay, lay_code, lay_place, lay_load, load_cell, bits, flag}
use Rattle.law.specs.Names.{Reached, reached, as_var, as_expr, const_of, type_of, var_of, expr_of, target_of}
use Rattle.law.specs.Names as Names
use Rattle.law.specs.Rules.{plain, plain_expr, plain_target}
use Rattle.law.specs.Script as Script
use Rattle.law.specs.Script.{Const}
use Rattle.rule_stages.specs.Stages.{Staged, ruled, named, staged, expr_staged, target_name, target_staged}
use Rattle.law.specs.Syntax as Syntax
use Rattle.law.specs.Trees.{Trees, Run, first, later, word_at}
use Rattle.law_theorems.specs.Readings.{stack_at}
use Rattle.law.specs.Types.{Var, variable, info_at, host_of, size_of, ordinal?}
use Rattle.law_theorems.proofs.Inversion.{none-some, some_inj, and-true}
use Rattle.law_theorems.proofs.LinesKeep.{find-fair}
use Rattle.law_theorems.specs.LinesKeep.{Fair, value}
use Rattle.text_heads.specs.Heads.{atom_of, atom_expr, atom_target}
use Rattle.text_heads.specs.Parts.{rest, closed, type_name_in}
use Rattle.text_heads.specs.declared.Atom.{Atom}
use Rattle.text_heads.specs.declared.Atom.TheVariants as AT
use Rattle.text_heads.specs.declared.ExprHead.TheVariants.{Bound, Minus}
use Rattle.text_heads.proofs.Expressions.{bound-parts, minus-number}
use Rattle.table_scope.specs.declared.Scope.{Scope}
use Rattle.rule_faults.specs.declared.Fault.{Fault}
use Rattle.rule_faults.specs.declared.Fault.TheVariants.{Kind, Name, Form}
use Rattle.table_scope.specs.declared.Meaning.{Meaning}
use Rattle.table_scope.specs.declared.Meaning.TheVariants as meaning
use Rattle.table_scope.specs.Descriptions.{info_of}
use Rattle.table_scope.specs.Scene.{Scene, unknown, known, a-type, a-var, a-proc, a-value, meaning_here}
use Rattle.table_scope.specs.Scene as Scene
use Rattle.table_scope.specs.Sides.{host_in}
use Rattle.table_scope.proofs.Telling.{meant, size-told, host-in, low_told, high-told, shape-ordinal}
use Rattle.rule_atoms.specs.declared.Typed.{Typed}
use Rattle.rule_atoms.specs.Answering.{TypeTold, GivesType}
use Rattle.rule_faults.specs.declared.Got.{Got}
use Rattle.rule_faults.specs.Got.{is_form, failed_got, Told}
use Rattle.rule_expr_nodes.specs.Bracket.{Closes}
use Rattle.std.specs.Prelude.{Some}
use Rattle.rule_expr_nodes.specs.Nodes.{Made, Makes, failed_made, node_made, if_clear, literal_made}
use Rattle.rule_expressions.specs.Walks.{ExprTold, TypeIs, TargetTold, GivesForm, GivesWord, GivesVar, form_in}
use Rattle.rule_expressions.specs.Walks as Walks
use Rattle.rule_expr_nodes.specs.Cells.{span_of, cells_made, end_bits}
use Rattle.rule_expr_leaves.specs.Words.{value_made, whole_made, named_made, word_made, place_made, variable_made, end_made, bound_made, StandsAlone}
use Rattle.rule_expressions.proofs.Joining.{told-wrong, told-unnamed, told-unfit, told-fits}
use Rattle.rule_expressions.proofs.Closing.{clear-form, closes-top, closes-next, Stays, stays-failed, stays-node, stays-clear, stays-cond, rest-is}
use Rattle.rule_expressions.proofs.Operators.{expr-closed}
use Rattle.rule_expr_nodes.proofs.CellsMaking.{span-both}

-- ---- where the walk goes on

stays-literal : (k : ℕ) (z : ℤ) (q t : ℕ) (l : List ℕ) → Stays (literal_made k z q t l) q t l
unfolding literal_made
stays-literal k z q t l = stays-cond (inside least most z) (stays-node k q t (1 ∷ bits z ∷ []) l) (stays-failed Kind 0 q t l)

module _ (l ts : List ℕ) (q t : ℕ) where
  stays-whole : (k a : ℕ) → Stays (whole_made l ts k a q t) q t l
  unfolding whole_made cells_made
  stays-whole k a = stays-cond (eqb (info_of l ts k).size 1) (stays-node (host_in l ts k) q t (2 ∷ a ∷ []) l) (stays-node (host_in l ts k) q t (3 ∷ span_of a (info_of l ts k).size ∷ []) l)

  stays-named : (m : Meaning) → Stays (named_made l ts m q t) q t l
  stays-named meaning.Unknown = stays-failed Name 0 q t l
  stays-named (meaning.Type k) = stays-failed Name 0 q t l
  stays-named (meaning.Var i k a) = stays-whole k a
  stays-named (meaning.Proc p) = stays-failed Name 0 q t l
  stays-named (meaning.Value k n) = stays-node k q t (1 ∷ n ∷ []) l

  stays-word : (a : Atom) (m : Meaning) → Stays (word_made l ts a m q t) q t l
  stays-word (AT.Number z) m = stays-literal 0 z q t l
  stays-word AT.Named m = stays-named m
  stays-word (AT.Truth b) m = stays-node 1 q t (1 ∷ flag b ∷ []) l
  stays-word AT.ErrorNumber m = stays-node 0 q t (5 ∷ []) l
  stays-word (AT.Base k) m = stays-failed Form 0 q t l
  stays-word AT.Nothing m = stays-failed Form 0 q t l

  stays-place : (m : Meaning) → Stays (place_made l m q t) q t l
  stays-place meaning.Unknown = stays-failed Name 0 q t l
  stays-place (meaning.Type k) = stays-failed Name 0 q t l
  stays-place (meaning.Var i k a) = stays-node k q t (40 ∷ a ∷ []) l
  stays-place (meaning.Proc p) = stays-failed Name 0 q t l
  stays-place (meaning.Value k n) = stays-failed Name 0 q t l

  stays-variable : (a : Atom) (m : Meaning) → Stays (variable_made l a m q t) q t l
  stays-variable (AT.Number z) m = stays-failed Form 0 q t l
  stays-variable AT.Named m = stays-place m
  stays-variable (AT.Truth b) m = stays-failed Form 0 q t l
  stays-variable AT.ErrorNumber m = stays-failed Form 0 q t l
  stays-variable (AT.Base k) m = stays-failed Form 0 q t l
  stays-variable AT.Nothing m = stays-failed Form 0 q t l

  stays-bound : (last : Bool) (f : Fault) (k : ℕ) → Stays (bound_made l ts last f k q t) q t l
  unfolding bound_made end_made
  stays-bound last f k = stays-clear f 0 q t l _ (stays-cond (eqb (info_of l ts k).shape 0) (stays-node (host_in l ts k) q t (1 ∷ end_bits last (info_of l ts k) ∷ []) l) (stays-failed Kind 0 q t l))

-- ---- what is told of words

-- the cells of a variable that a script can have
cells_are : (n k a q t : ℕ) (l : List ℕ) → a + n ≤ 32768 → cells_made n k a q t l ≡ node_made k q (lay (load_cell (eqb n 1) a n) t l)
unfolding cells_made load_cell
cells_are n k a q t l h = rw (← span-both a n (omega arith) (omega arith)) (go (eqb n 1))
  where
    go : (b : Bool) → cond b (node_made k q (lay (2 ∷ a ∷ []) t l)) (node_made k q (lay (3 ∷ (a + 4096 * n) ∷ []) t l)) ≡ node_made k q (lay (load_cell b a n) t l)
    go true = refl
    go false = refl

module _ {s l ts : List ℕ} {scope : Scope} {top : ℕ} {σ : Environment} {bs : List ℕ} (S : Scene s l ts scope top σ bs) (q : ℕ) where
  abbrev Tells : Staged Elaborated → Made → Type 0
  Tells F M = Told F (λ e. e.kind) (λ e. lay_code e.code) top l M.got M.list

  -- an expression with its names resolved
  abbrev by : Option Script.Expr → Staged Elaborated
  by o = named o plain_expr (elab_expr σ.types σ.vars)

  const-told : (c : Const) → (inside least most c.value ≡ true → in_kind σ.types c ≡ true) → Tells (by (some (Script.const c))) (literal_made c.kind c.value q top l)
  unfolding named ruled plain_expr plain elab_expr given literal_made lay_code lay
  const-told c h = go (inside least most c.value) refl
    where
      go : (b : Bool) → inside least most c.value ≡ b → Tells (ruled b (given (in_kind σ.types c) (elaborated c.kind (literal c.value)))) (cond b (node_made c.kind q (lay (1 ∷ bits c.value ∷ []) top l)) (failed_made Kind 0 q top l))
      go true e = rw (h e) (told-fits (elaborated c.kind (literal c.value)) refl refl refl)
      go false e = told-unfit refl

  integer-told : (z : ℤ) → Tells (by (some (Script.const (const_of 0 z)))) (literal_made 0 z q top l)
  integer-told z = const-told (const_of 0 z) (λ e. rw (S.table.integers.0, S.table.integers.1, S.table.integers.2) e)

  truth-told : (b : Bool) → Tells (by (some (Script.const (const_of 1 (truth b))))) (value_made 1 (flag b) q top l)
  unfolding truth flag inside literal_made bits
  truth-told true = const-told (const_of 1 (pos 1)) (λ e. rw (S.table.booleans.0, S.table.booleans.1, S.table.booleans.2) refl)
  truth-told false = const-told (const_of 1 (pos 0)) (λ e. rw (S.table.booleans.0, S.table.booleans.1, S.table.booleans.2) refl)

  -- an enum value is an ordinal of its kind, and within the integers
  enum-in : (w : Base.Name) (c : Const) → find σ.names w ≡ some (a_value c) → in_kind σ.types c ≡ true
  enum-in w c h = go (find-fair S.fair w (a_value c) h)
    where
      go : Fair σ.types (length bs) (a_value c) → in_kind σ.types c ≡ true
      go (value i e) = e

  kind-small : (c : Const) → in_kind σ.types c ≡ true → inside least most c.value ≡ true
  kind-small c h =
      let i = info_at σ.types c.kind in
      let a = and-true (ordinal? σ.types c.kind) _ h in
      let b = inside_is i.low i.high c.value a.1 in
      let d = (S.table.each c.kind).small a.0 in
      inside_both least most c.value (le_z-trans least i.low c.value d.0 b.0) (le_z-trans c.value i.high most b.1 d.1)

  enum_told : (w : Base.Name) (k n : ℕ) → find σ.names w ≡ some (a_value (const_of k (pos n))) → Tells (by (some (Script.const (const_of k (pos n))))) (value_made k n q top l)
  unfolding literal_made bits
  enum_told w k n h =
      let e = enum-in w (const_of k (pos n)) h in
      let f : literal_made k (pos n) q top l ≡ value_made k n q top l = rw (kind-small (const_of k (pos n)) e) refl in
      subst (λ M. Tells (by (some (Script.const (const_of k (pos n))))) M) f (const-told (const_of k (pos n)) (λ _. e))

  var-told : (i : ℕ) (v : Var) → variable σ.vars i ≡ some v → Tells (by (some (Script.read (Script.var i)))) (whole_made l ts v.type v.base q top)
  unfolding named ruled plain_expr elab_expr ◌>>=◌ whole_made lay_code lay_load lay
  var-told i v e =
      rw (e, size-told S v.type, host-in S v.type, cells_are (size_of σ.types v.type) (host_of σ.types v.type) v.base q top l (S.cells i v e))
      (told-fits (elaborated (host_of σ.types v.type) (load (cell v.base) (size_of σ.types v.type))) refl refl refl)

  name-told : (w : Base.Name) (m : Meaning) (o : Option NameSort) → Scene.Told σ bs m o → find σ.names w ≡ o → Tells (by (o >>= as_expr)) (named_made l ts m q top)
  unfolding named ◌>>=◌
  name-told w _ _ unknown h = told-unnamed refl
  name-told w _ _ (known a-type) h = told-unnamed refl
  name-told w _ _ (known (a-var {i} v e)) h = var-told i v e
  name-told w _ _ (known a-proc) h = told-unnamed refl
  name-told w _ _ (known (a-value {k} {n})) h = enum_told w k n h

  word-told : (a : Atom) (m : Meaning) (w : Base.Name) → Scene.Told σ bs m (find σ.names w) → ExprTold σ (atom_expr a w) top l (word_made l ts a m q top).got (word_made l ts a m q top).list
  unfolding expr_staged staged named ruled expr_of Names.atom_of plain_expr elab_expr lay_code lay
  word-told (AT.Number z) m w T = record { told = integer-told z }
  word-told AT.Named m w T = record { told = name-told w m (find σ.names w) T refl }
  word-told (AT.Truth b) m w T = record { told = truth-told b }
  word-told AT.ErrorNumber m w T = record { told = told-fits (elaborated 0 last_number) refl refl refl }
  word-told (AT.Base k) m w T = record { told = told-wrong refl }
  word-told AT.Nothing m w T = record { told = told-wrong refl }

  -- ---- and as targets

  -- the variable that a name means
  abbrev reach : Option NameSort → Option Reached
  reach o = (o >>= as_var) >>= λ i. variable σ.vars i >>= λ v. some (reached (Script.var i) (some v.type))

  abbrev PlaceTold : Option Reached → Got → List ℕ → Type 0
  PlaceTold o g l' = Told (named (o >>= λ r. some r.target) plain_target (elab_target σ.types σ.vars)) (λ w. w.type) (λ w. lay_place w.place) top l g l'

  place-told : (m : Meaning) (o : Option NameSort) → Scene.Told σ bs m o → PlaceTold (reach o) (place_made l m q top).got (place_made l m q top).list
  unfolding named ruled plain_target elab_target lay_place lay ◌>>=◌
  place-told _ _ unknown = told-unnamed refl
  place-told _ _ (known a-type) = told-unnamed refl
  place-told _ _ (known (a-var v e)) = rw e (rw e (told-fits (located v.type (cell v.base)) refl refl refl))
  place-told _ _ (known a-proc) = told-unnamed refl
  place-told _ _ (known a-value) = told-unnamed refl

  place-typed : (m : Meaning) (o : Option NameSort) → Scene.Told σ bs m o → (r : Reached) → reach o ≡ some r → TypeIs r.type (place_made l m q top).got.kind
  unfolding ◌>>=◌
  place-typed _ _ unknown r h = none-some h
  place-typed _ _ (known a-type) r h = none-some h
  place-typed _ _ (known (a-var v e)) r h = let f = some_inj (rw e at h) in rw (← f) Walks.a-type
  place-typed _ _ (known a-proc) r h = none-some h
  place-typed _ _ (known a-value) r h = none-some h

  target-failed : (g : Got) (l' : List ℕ) → g.fault ≡ Form → TargetTold σ none top l g l'
  unfolding target_staged staged
  target-failed g l' e = record { told = told-wrong e; typed = λ x r h f. none-some h }

  variable-told : (a : Atom) (m : Meaning) (w : Base.Name) → Scene.Told σ bs m (find σ.names w) → TargetTold σ (atom_target a w) top l (variable_made l a m q top).got (variable_made l a m q top).list
  unfolding target_staged target_name target_of var_of staged
  variable-told (AT.Number z) m w T = target-failed _ _ refl
  variable-told AT.Named m w T = record {
    told = place-told m (find σ.names w) T;
    typed = λ x r e f. place-typed m (find σ.names w) T r (ap (target_of σ) (some_inj e) ∙ f);
  }
  variable-told (AT.Truth b) m w T = target-failed _ _ refl
  variable-told AT.ErrorNumber m w T = target-failed _ _ refl
  variable-told (AT.Base k) m w T = target-failed _ _ refl
  variable-told AT.Nothing m w T = target-failed _ _ refl

  -- ---- `first` and `last`

  end-bits : (last : Bool) (k : ℕ) → end_bits last (info_of l ts k) ≡ bits (pick last (info_at σ.types k).high (info_at σ.types k).low)
  unfolding end_bits pick
  end-bits true k = high-told S k
  end-bits false k = low_told S k

  end-told : (last : Bool) (k : ℕ) → Tells (by (some (Script.end_of last k))) (end_made l ts last k q top)
  unfolding named ruled plain_expr elab_expr given end_made lay_code lay
  end-told last k = rw (shape-ordinal S k, host-in S k, end-bits last k) (go (ordinal? σ.types k))
    where
      E : Elaborated
      E = elaborated (host_of σ.types k) (literal (pick last (info_at σ.types k).high (info_at σ.types k).low))

      go : (b : Bool) → Tells (ruled true (given b E)) (cond b (value_made (host_of σ.types k) (bits (pick last (info_at σ.types k).high (info_at σ.types k).low)) q top l) (failed_made Kind 0 q top l))
      go true = told-fits E refl refl refl
      go false = told-unfit refl

  -- by what is told of the type's name
  bound-told : (last : Bool) (o : Option Syntax.TypeName) (t : Typed) → TypeTold (staged o (type_of σ) (λ _. true) some) t
      → Tells (expr_staged σ (o >>= λ n. some (Syntax.end_of last n))) (bound_made l ts last t.fault t.kind q top)
  unfolding expr_staged staged named ruled expr_of bound_made if_clear ◌>>=◌
  bound-told last none t T = rw T.fault-is (told-wrong refl)
  bound-told last (some n) t T = go (type_of σ n) T
    where
      go : (u : Option ℕ) → TypeTold (named u (λ _. true) some) t → Tells (by (u >>= λ k. some (Script.end_of last k))) (bound_made l ts last t.fault t.kind q top)
      go none T = rw T.fault-is (told-unnamed refl)
      go (some k) T = rw (T.fault-is, T.kind-is k refl) (end-told last k)

-- ---- the ways through `word` and `variable`

module _ (s l ts : List ℕ) (scope : Scope) (w : Word) (p q top : ℕ) (r : Got) (l' : List ℕ) where
  -- the meaning of the word at p
  abbrev here : Meaning
  here = meaning_here s l scope p

  gives-word : Makes (word_made l ts (atom_of w) here q top) r l' → GivesWord s l ts scope w p q top r l'
  gives-word m =
      let st = stays-word l ts q top (atom_of w) here in
      rw (m.given, m.left) (record {
        next-is = st.next-is;
        keeps = st.below;
        grows = st.up;
        says = λ σ bs S e. word-told S q (atom_of w) here (map small (word_at s p)) (meant S (map small (word_at s p)));
      })

  gives-var : Makes (variable_made l (atom_of w) here q top) r l' → GivesVar s l ts scope w p q top r l'
  gives-var m =
      let st = stays-variable l ts q top (atom_of w) here in
      rw (m.given, m.left) (record {
        next-is = st.next-is;
        keeps = st.below;
        grows = st.up;
        says = λ σ bs S e. variable-told S q (atom_of w) here (map small (word_at s p)) (meant S (map small (word_at s p)));
      })

module _ (s l ts : List ℕ) (scope : Scope) (w : Word) (p q top : ℕ) (a : Atom) (e : a ≡ atom_of w) (r : Got) where
  pub word_number : (z : ℤ) (l' : List ℕ) → a ≡ AT.Number z → SFits w64 z → Makes (literal_made 0 (wire z) q top l) r l' → GivesWord s l ts scope w p q top r l'
  word_number z l' f i m = gives-word s l ts scope w p q top r l' (rw (← e, f) (rw (to_z-of_z i) at m))

  pub word-named : (m : Meaning) (l' : List ℕ) → a ≡ AT.Named → m ≡ meaning_here s l scope p
      → Makes (named_made l ts m q top) r l' → GivesWord s l ts scope w p q top r l'
  word-named m l' f g h = gives-word s l ts scope w p q top r l' (rw (← e, f, ← g) h)

  pub word-truth : (b : Bool) (n : ℕ) (l' : List ℕ) → a ≡ AT.Truth b → n ≡ flag b → Makes (node_made 1 q (lay (1 ∷ n ∷ []) top l)) r l' → GivesWord s l ts scope w p q top r l'
  word-truth b n l' f g m = gives-word s l ts scope w p q top r l' (rw (← e, f, ← g) m)

  pub word-error : (l' : List ℕ) → a ≡ AT.ErrorNumber → Makes (node_made 0 q (lay (5 ∷ []) top l)) r l' → GivesWord s l ts scope w p q top r l'
  word-error l' f m = gives-word s l ts scope w p q top r l' (rw (← e, f) m)

  pub word-other : ((z : ℤ) → a ≡ AT.Number z → ⊥) → (a ≡ AT.Named → ⊥) → ((b : Bool) → a ≡ AT.Truth b → ⊥) → (a ≡ AT.ErrorNumber → ⊥) → r ≡ failed_got Form 0 q top → GivesWord s l ts scope w p q top r l
  word-other n n' n'' n₃ g = gives-word s l ts scope w p q top r l (rw (← e) (go a refl))
    where
      none : Makes (failed_made Form 0 q top l) r l
      none = record { given = g; left = refl }

      go : (b : Atom) → a ≡ b → Makes (word_made l ts a (meaning_here s l scope p) q top) r l
      go (AT.Number z) f = absurd (n z f)
      go AT.Named f = absurd (n' f)
      go (AT.Truth b) f = absurd (n'' b f)
      go AT.ErrorNumber f = absurd (n₃ f)
      go (AT.Base k) f = rw f none
      go AT.Nothing f = rw f none

  pub var-named : (m : Meaning) (l' : List ℕ) → a ≡ AT.Named → m ≡ meaning_here s l scope p
      → Makes (place_made l m q top) r l' → GivesVar s l ts scope w p q top r l'
  var-named m l' f g h = gives-var s l ts scope w p q top r l' (rw (← e, f, ← g) h)

  pub var-other : (a ≡ AT.Named → ⊥) → r ≡ failed_got Form 0 q top → GivesVar s l ts scope w p q top r l
  var-other n g = gives-var s l ts scope w p q top r l (rw (← e) (go a refl))
    where
      none : Makes (failed_made Form 0 q top l) r l
      none = record { given = g; left = refl }

      go : (b : Atom) → a ≡ b → Makes (variable_made l a (meaning_here s l scope p) q top) r l
      go (AT.Number z) f = rw f none
      go AT.Named f = absurd (n f)
      go (AT.Truth b) f = rw f none
      go AT.ErrorNumber f = rw f none
      go (AT.Base k) f = rw f none
      go AT.Nothing f = rw f none

pub ruleset word_laws = (word_number, word-named, word-truth, word-error, word-other)

pub ruleset var-laws = (var-named, var-other)

-- ---- the parts of `first`, `last` and `-`

-- one part, of which a form is made, and the bracket
made-closed : {A B : Type 0} (f : A → B) (o : Option A) (us : Trees Run) → (o >>= λ n. closed us (f n)) ≡ ((o >>= λ n. some (f n)) >>= λ y. closed us y)
unfolding ◌>>=◌
made-closed f none us = refl
made-closed f (some n) us = refl

bound-form : (last : Bool) (d : ℕ) (us : Trees Run) → form_in (Bound last) d us ≡ ((type_name_in us >>= λ n. some (Syntax.end_of last n)) >>= λ y. closed (rest us) y)
unfolding form_in ◌>>=◌
bound-form last d us = bound-parts d us last ∙ made-closed (Syntax.end_of last) (type_name_in us) (rest us)

pub bound-is : (s l ts : List ℕ) (scope : Scope) (last : Bool) (d at top : ℕ) (t : Typed) (g r : Got) (l' : List ℕ) → GivesType s l scope at t
    → Makes (bound_made l ts last t.fault t.kind t.next top) g l' → Closes s g r → GivesForm s l ts scope (Bound last) d at top r l'
unfolding bound_made
bound-is s l ts scope last d at top t g r l' T m c =
    let us = first (stack_at s at) in
    let st = stays-bound l ts t.next top last t.fault t.kind in
    let n : g.next ≡ t.next = ap (λ (x : Got). x.next) m.given ∙ st.next-is in
    let f : is_form g.fault ≡ false → is_form t.fault ≡ false = λ h. clear-form t.fault 0 t.next top l (end_made l ts last t.kind t.next top) (rw m.given at h) in
    record {
      leaves = record {
        goes = λ h. let z = closes-next c h in (T.goes (f z.0)).1.around ∙ ap (λ x. later (stack_at s x)) (sym n) ∙ z.1;
        keeps = rw m.left st.below;
        grows = rw (closes-top c, m.given) st.up;
      };
      says = λ σ bs S. rw (bound-form last d us) (expr-closed σ (rest us) (type_name_in us >>= λ y. some (Syntax.end_of last y)) c (λ h. rest-is (T.goes (f h)).1 ∙ ap (λ x. first (stack_at s x)) (sym n))
          (rw (m.given, m.left) (record { told = bound-told S t.next last (type_name_in us) t (T.says ts top σ bs S) })));
    }

-- `(- z)` where a number stands alone
pub negative-gives : (s l ts : List ℕ) (scope : Scope) (d at top : ℕ) (z : ℤ) (q : ℕ) (r : Got) (l' : List ℕ) → StandsAlone s at (Some (z, q))
    → Makes (literal_made 0 (neg_ℤ z) q top l) r l' → GivesForm s l ts scope Minus d at top r l'
unfolding form_in expr_staged staged expr_of Names.atom_of ◌>>=◌
negative-gives s l ts scope d at top z q r l' A m =
    let st = stays-literal 0 (neg_ℤ z) q top l in
    let h = A.says in
    rw (m.given, m.left) (record {
      leaves = record { goes = λ _. h.2 ∙ ap (stack_at s) (sym st.next-is); keeps = st.below; grows = st.up };
      says = λ σ bs S. record { told = rw (minus-number d (first (stack_at s at)) z h.0 h.1) (integer-told S q (neg_ℤ z)) };
    })
