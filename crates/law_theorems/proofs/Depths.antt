-- How deep the brackets of an expression are (row 6): one that is read of a tree d brackets deep is Deep d. What becomes a number in the code,
-- an end of a type or `(- number)`, may stand at any depth, as a word may.
use mathlib.Core.Path.{◌≡◌}
use mathlib.Core.Bool.{Bool, true, false}
use mathlib.Core.List.{List}
use mathlib.Core.Option as O
use mathlib.Core.Option.{Option, some}
use Prim.Native.Nat.{ℕ, zero, suc}
use Rattle.leaf_bytes.specs.Bytes.{bytes, same}
use Rattle.law.specs.Base.{Name, each}
use Rattle.law.specs.Operators.{Fun, Op, minus, negate}
use Rattle.law.specs.Syntax as S
use Rattle.law.specs.Trees.{word, form}
use Rattle.law.specs.Forms.{Item, Head, h_at, h_dot, h_members, h_minus, h_bound, h_lazy, h_op, h_fun, exprs_of, atom}
use Rattle.law_theorems.specs.FormsByDepth.{at_form, dot_form, two_sided, one_sided, expr_form, target_form, expr, target}
use Rattle.law_theorems.proofs.Inversion.{none-some, some_inj, bind-some, either-some}
use Rattle.law_theorems.proofs.TreeDepth as Depth
use Rattle.law_theorems.proofs.TreeDepth.{Shallow, Shallows, none, more, deeper, first-shallow, listed-shallow, one-shallow, two-shallow}
use Rattle.law_theorems.proofs.Weights.{among_one}

mutual
  pub data DeepE : ℕ → S.Expr → Type 0 where
    const : {d : ℕ} {c : S.Constant} → DeepE d (S.const c)
    read : {d : ℕ} {g : S.Target} → DeepT d g → DeepE (suc d) (S.read g)
    error_number : {d : ℕ} → DeepE d S.error_number
    members : {d : ℕ} {t : S.TypeName} {es : S.Exprs} → DeepEs d es → DeepE (suc d) (S.members t es)
    end_of : {d : ℕ} {q : Bool} {t : S.TypeName} → DeepE d (S.end_of q t)
    binary : {d : ℕ} {op : Op} {a b : S.Expr} → DeepE d a → DeepE d b → DeepE (suc d) (S.binary op a b)
    short_circuit : {d : ℕ} {q : Bool} {a b : S.Expr} → DeepE d a → DeepE d b → DeepE (suc d) (S.short_circuit q a b)
    unary : {d : ℕ} {f : Fun} {a : S.Expr} → DeepE d a → DeepE (suc d) (S.unary f a)

  -- by its indices alone: a target's own brackets are not counted
  pub data DeepT : ℕ → S.Target → Type 0 where
    var : {d : ℕ} {w : Name} → DeepT d (S.var w)
    at : {d : ℕ} {g : S.Target} {e : S.Expr} → DeepT d g → DeepE d e → DeepT d (S.at g e)
    dot : {d : ℕ} {g : S.Target} {w : Name} → DeepT d g → DeepT d (S.dot g w)

  pub data DeepEs : ℕ → S.Exprs → Type 0 where
    nil : {d : ℕ} → DeepEs d S.nil
    ◌and◌ : {d : ℕ} {e : S.Expr} {es : S.Exprs} → DeepE d e → DeepEs d es → DeepEs d (S.◌and◌ e es)

infixr 40 ◌and◌
atom-deep : (d : ℕ) (t : Item) {e : S.Expr} → atom t ≡ some e → DeepE d e
unfolding atom
atom-deep d t h = either-some h
    (λ h. bind-some h λ c _ e. rw (← some_inj e) const)
    (λ h. bind-some h λ w _ e. rw (← among_one _ _ w e) error_number)

-- a form, of parts that are d deep
module _ (expr : Item → Option S.Expr) (target : Item → Option S.Target) (d : ℕ) (below-e : (t : Item) → Shallow d t → (e : S.Expr) → expr t ≡ some e → DeepE d e)
    (below-t : (t : Item) → Shallow d t → (g : S.Target) → target t ≡ some g → DeepT d g) where
  at-deep : {ts : List Item} → Shallows d ts → {g : S.Target} → at_form expr target ts ≡ some g → DeepT d g
  unfolding at_form
  at-deep s h = bind-some h λ p hp h. bind-some h λ g hg h. bind-some h λ e he h.
      let q = two-shallow s hp in rw (← some_inj h) (at (below-t p.0 q.0 g hg) (below-e p.1 q.1 e he))

  dot-deep : {ts : List Item} → Shallows d ts → {g : S.Target} → dot_form expr target ts ≡ some g → DeepT d g
  unfolding dot_form
  dot-deep s h = bind-some h λ p hp h. bind-some h λ g hg h. bind-some h λ n _ h. rw (← some_inj h) (dot (below-t p.0 (two-shallow s hp).0 g hg))

  two_deep : (f : S.Expr → S.Expr → S.Expr) → ((a b : S.Expr) → DeepE d a → DeepE d b → DeepE (suc d) (f a b))
      → {ts : List Item} → Shallows d ts → {e : S.Expr} → two_sided expr target f ts ≡ some e → DeepE (suc d) e
  unfolding two_sided
  two_deep f k s h = bind-some h λ p hp h. bind-some h λ a ha h. bind-some h λ b hb h.
      let q = two-shallow s hp in rw (← some_inj h) (k a b (below-e p.0 q.0 a ha) (below-e p.1 q.1 b hb))

  one-deep : (f : Fun) {ts : List Item} → Shallows d ts → {e : S.Expr} → one_sided expr target f ts ≡ some e → DeepE (suc d) e
  unfolding one_sided
  one-deep f s h = bind-some h λ a ha h. bind-some ha λ t ht ha. rw (← some_inj h) (unary (below-e t (one-shallow s ht) a ha))

  each-deep : {ts : List Item} → Shallows d ts → {es : List S.Expr} → each expr ts ≡ some es → DeepEs d (exprs_of es)
  unfolding each exprs_of
  each-deep none h = rw (← some_inj h) nil
  each-deep (more {t = t} s ss) h = bind-some h λ e he h. bind-some h λ es hes h. rw (← some_inj h) (below-e t s e he and each-deep ss hes)

  expr-form-deep : (h : Head) {ts : List Item} → Shallows d ts → {e : S.Expr} → expr_form expr target h ts ≡ some e → DeepE (suc d) e
  unfolding expr_form
  expr-form-deep h_at s h = bind-some h λ g hg h. rw (← some_inj h) (read (at-deep s hg))
  expr-form-deep h_dot s h = bind-some h λ g hg h. rw (← some_inj h) (read (dot-deep s hg))
  expr-form-deep h_members none h = none-some h
  expr-form-deep h_members (more t ts) h = bind-some h λ n _ h. bind-some h λ es hes h. rw (← some_inj h) (members (each-deep ts hes))
  expr-form-deep h_minus s h = either-some h
      (λ h. bind-some h λ z _ h. rw (← some_inj h) const)
      (λ h. either-some h (λ h. one-deep negate s h) (λ h. two_deep (S.binary minus) (λ a b. binary) s h))
  expr-form-deep (h_bound b) s h = bind-some h λ n _ h. rw (← some_inj h) end_of
  expr-form-deep (h_lazy q) s h = two_deep (S.short_circuit q) (λ a b. short_circuit) s h
  expr-form-deep (h_op op) s h = two_deep (S.binary op) (λ a b. binary) s h
  expr-form-deep (h_fun f) s h = one-deep f s h

  target-form-deep : (p : Name × List Item) → Shallows d p.1 → {g : S.Target} → target_form expr target p ≡ some g → DeepT d g
  unfolding target_form
  target-form-deep p s {g} h = go (same (bytes "at") p.0) (same (bytes "dot") p.0) h
    where
      go : (q r : Bool) → elim q [ true ↦ at_form expr target p.1 | false ↦ elim r [ true ↦ dot_form expr target p.1 | false ↦ O.none ] ] ≡ some g → DeepT d g
      go true r h = at-deep s h
      go false true h = dot-deep s h
      go false false h = none-some h

-- an expression's bracket is counted, a target's is not
mutual
  unfolding expr target

  pub expr-deep : (d k : ℕ) (t : Item) → Shallow k t → (e : S.Expr) → expr d t ≡ some e → DeepE k e
  expr-deep zero k t s e h = none-some h
  expr-deep (suc d) k (word w) s e h = atom-deep k (word w) h
  expr-deep (suc d) (suc k) (form ts) (Depth.form s) e h = bind-some h λ p hp h. bind-some h λ q _ h.
      expr-form-deep (λ t. expr d t) (λ t. target d t) k (λ t s e h. expr-deep d k t s e h) (λ t s g h. target-deep d k t (deeper s) g h) q (first-shallow (listed-shallow s) hp) h
  expr-deep (suc d) zero (form ts) s e h = elim s [ ]

  pub target-deep : (d k : ℕ) (t : Item) → Shallow (suc k) t → (g : S.Target) → target d t ≡ some g → DeepT k g
  target-deep zero k t s g h = none-some h
  target-deep (suc d) k (word w) s g h = bind-some h λ n _ h. rw (← some_inj h) var
  target-deep (suc d) k (form ts) (Depth.form s) g h = bind-some h λ p hp h.
      target-form-deep (λ t. expr d t) (λ t. target d t) k (λ t s e h. expr-deep d k t s e h) (λ t s g h. target-deep d k t (deeper s) g h) p (first-shallow (listed-shallow s) hp) h

pub exprs-deep : (d k : ℕ) {ts : List Item} → Shallows k ts → {es : List S.Expr} → each (expr d) ts ≡ some es → DeepEs k (exprs_of es)
exprs-deep d k s h = each-deep (λ t. expr d t) (λ t. target d t) k (λ t s e h. expr-deep d k t s e h) (λ t s g h. target-deep d k t (deeper s) g h) s h
