-- Faults and layouts of forms from those of their parts, over any stages.
use mathlib.Core.Path.{◌≡◌, refl, sym, ap, ◌∙◌}
use mathlib.Core.Bool.{Bool, true, false, cond, true≢false}
use mathlib.Core.List.{List}
use mathlib.Core.Option.{Option, none, some}
use Prim.Native.Nat.{ℕ, ◌≤◌}
use native.Mathlib.Omega.{arith}
use lib.Dec.{eqb}
use Rattle.law.specs.Base.{◌>>=◌, given}
use Rattle.law.specs.Code.{Code}
use Rattle.law.specs.Elaborate.{Elaborated}
use Rattle.law.specs.Environment.{Environment}
use Rattle.code.specs.Layout.{out, lay, lay_code}
use Rattle.rule_stages.specs.Stages.{Staged, wrong, unnamed, unfit, fits, ruled, named, staged, join, on_fits, or_unfit, expr_staged, wanted_staged, stmt_staged}
use Rattle.law.specs.Syntax as Syntax
use Rattle.law.specs.Trees.{Trees, end, ◌then◌, Run, first}
use Rattle.law_theorems.specs.Readings.{stack_at}
use Rattle.code.proofs.LayoutRegions.{lay-g}
use Rattle.code.specs.LayoutRegions.{Same}
use Rattle.law_theorems.proofs.Inversion.{none-some}
use Rattle.rule_stages.proofs.OnePassExprs.{wanted-staged}
use Rattle.rule_faults.specs.declared.Fault.{Fault}
use Rattle.rule_faults.specs.declared.Fault.TheVariants.{Clear, Kind, Name, Form}
use Rattle.rule_faults.specs.declared.Got.{Got}
use Rattle.rule_faults.specs.Got.{lowest, is_form, is_clear, fault_of, failed_got, past_bracket}
use Rattle.text_parts.specs.Parts.{ShutAt}
use Rattle.rule_expr_nodes.specs.Bracket.{Closes, shut, more}
use Rattle.text_heads.specs.Parts.{rest, closed}
use Rattle.rule_expr_nodes.specs.Nodes.{Makes, node_made, if_clear}
use Rattle.rule_expressions.specs.Walks.{Moves, Leaves, ExprTold}
use Rattle.rule_expressions.proofs.Joining.{wrong-fits, unnamed-fits, unfit-fits, fits-inj}
use Rattle.rule_stmt_nodes.specs.BaseNodes.{node_if, with_fault}
use Rattle.rule_stmt_nodes.specs.Nodes.{wanted_got}
use Rattle.rule_statements.specs.Walks.{bare, ActTold, WantTold}

-- ---- the lower fault

pub lowest-form : (f : Fault) → lowest f Form ≡ Form
lowest-form Clear = refl
lowest-form Kind = refl
lowest-form Name = refl
lowest-form Form = refl

-- no fault of row 6 in either
pub form-left : (f g : Fault) → is_form (lowest f g) ≡ false → is_form f ≡ false
form-left Clear g h = refl
form-left Kind g h = refl
form-left Name g h = refl
form-left Form g h = h

pub form-right : (f g : Fault) → is_form (lowest f g) ≡ false → is_form g ≡ false
form-right f Clear h = refl
form-right f Kind h = refl
form-right f Name h = refl
form-right f Form h = absurd (true≢false (ap is_form (sym (lowest-form f)) ∙ h))

pub form-is : (f : Fault) → is_form f ≡ true → f ≡ Form
form-is Clear h = absurd (true≢false (sym h))
form-is Kind h = absurd (true≢false (sym h))
form-is Name h = absurd (true≢false (sym h))
form-is Form h = refl

-- ---- stages joined

module _ {A : Type 0} where
  pub fits-clear : (S : Staged A) (a : A) → S ≡ fits a → fault_of S ≡ Clear
  fits-clear S a h = ap fault_of h

  pub clear-fits : {f : Fault} (S : Staged A) (a : A) → f ≡ fault_of S → S ≡ fits a → f ≡ Clear
  clear-fits S a e h = e ∙ ap fault_of h

module _ {A B C : Type 0} (mk : A → B → C) where
  pub join-fault : (S : Staged A) (T : Staged B) → fault_of (join S T (λ x y. or_unfit (some (mk x y)))) ≡ lowest (fault_of S) (fault_of T)
  unfolding join or_unfit
  join-fault wrong T = refl
  join-fault unnamed wrong = refl
  join-fault unnamed unnamed = refl
  join-fault unnamed unfit = refl
  join-fault unnamed (fits y) = refl
  join-fault unfit wrong = refl
  join-fault unfit unnamed = refl
  join-fault unfit unfit = refl
  join-fault unfit (fits y) = refl
  join-fault (fits x) wrong = refl
  join-fault (fits x) unnamed = refl
  join-fault (fits x) unfit = refl
  join-fault (fits x) (fits y) = refl

  -- both fit
  pub record Both (S : Staged A) (T : Staged B) (z : C) : Type 0 where
    pub one : A
    pub two : B
    pub one-fits : S ≡ fits one
    pub two_fits : T ≡ fits two
    pub made : mk one two ≡ z

  pub join-fits : (S : Staged A) (T : Staged B) (z : C) → join S T (λ x y. or_unfit (some (mk x y))) ≡ fits z → Both S T z
  unfolding join or_unfit
  join-fits wrong T z h = absurd (wrong-fits h)
  join-fits unnamed wrong z h = absurd (wrong-fits h)
  join-fits unnamed unnamed z h = absurd (unnamed-fits h)
  join-fits unnamed unfit z h = absurd (unnamed-fits h)
  join-fits unnamed (fits y) z h = absurd (unnamed-fits h)
  join-fits unfit wrong z h = absurd (wrong-fits h)
  join-fits unfit unnamed z h = absurd (unnamed-fits h)
  join-fits unfit unfit z h = absurd (unfit-fits h)
  join-fits unfit (fits y) z h = absurd (unfit-fits h)
  join-fits (fits x) wrong z h = absurd (wrong-fits h)
  join-fits (fits x) unnamed z h = absurd (unnamed-fits h)
  join-fits (fits x) unfit z h = absurd (unfit-fits h)
  join-fits (fits x) (fits y) z h = record { one = x; two = y; one-fits = refl; two_fits = refl; made = fits-inj h }

-- under a test
module _ {A B C : Type 0} (test : A → B → Bool) (mk : A → B → C) where
  pub tested-fits : (S : Staged A) (T : Staged B) (z : C) → join S T (λ x y. or_unfit (given (test x y) (mk x y))) ≡ fits z → (b : Both mk S T z) × (test b.one b.two ≡ true)
  unfolding join or_unfit given
  tested-fits wrong T z h = absurd (wrong-fits h)
  tested-fits unnamed wrong z h = absurd (wrong-fits h)
  tested-fits unnamed unnamed z h = absurd (unnamed-fits h)
  tested-fits unnamed unfit z h = absurd (unnamed-fits h)
  tested-fits unnamed (fits y) z h = absurd (unnamed-fits h)
  tested-fits unfit wrong z h = absurd (wrong-fits h)
  tested-fits unfit unnamed z h = absurd (unnamed-fits h)
  tested-fits unfit unfit z h = absurd (unfit-fits h)
  tested-fits unfit (fits y) z h = absurd (unfit-fits h)
  tested-fits (fits x) wrong z h = absurd (wrong-fits h)
  tested-fits (fits x) unnamed z h = absurd (unnamed-fits h)
  tested-fits (fits x) unfit z h = absurd (unfit-fits h)
  tested-fits (fits x) (fits y) z h = go (test x y) refl h
    where
      go : (t : Bool) → test x y ≡ t → or_unfit (given t (mk x y)) ≡ fits z → (b : Both mk (fits x) (fits y) z) × (test b.one b.two ≡ true)
      go true e h = (record { one = x; two = y; one-fits = refl; two_fits = refl; made = fits-inj h }, e)
      go false e h = absurd (unfit-fits h)

module _ {A C : Type 0} (mk : A → C) where
  pub on-fault : (S : Staged A) → fault_of (on_fits S (λ x. or_unfit (some (mk x)))) ≡ fault_of S
  unfolding on_fits or_unfit
  on-fault wrong = refl
  on-fault unnamed = refl
  on-fault unfit = refl
  on-fault (fits x) = refl

  pub record Only (S : Staged A) (z : C) : Type 0 where
    pub part : A
    pub part-fits : S ≡ fits part
    pub made : mk part ≡ z

  pub on-fits : (S : Staged A) (z : C) → on_fits S (λ x. or_unfit (some (mk x))) ≡ fits z → Only S z
  unfolding on_fits or_unfit
  on-fits wrong z h = absurd (wrong-fits h)
  on-fits unnamed z h = absurd (unnamed-fits h)
  on-fits unfit z h = absurd (unfit-fits h)
  on-fits (fits x) z h = record { part = x; part-fits = refl; made = fits-inj h }

-- row 6 alone says that there is no form
pub form-none : {A B C : Type 0} (o : Option A) (n : A → Option B) (r : B → Bool) (e : B → Option C) → fault_of (staged o n r e) ≡ Form → o ≡ none
unfolding staged named ruled
form-none none n r e h = refl
form-none {A} {B} {C} (some a) n r e h = absurd (go (n a) h)
  where
    of : (p : Bool) (u : Option C) → fault_of (ruled p u) ≡ Form → ⊥
    of false u h = absurd (true≢false (sym (ap is_form h)))
    of true none h = absurd (true≢false (sym (ap is_form h)))
    of true (some c) h = absurd (true≢false (sym (ap is_form h)))

    go : (u : Option B) → fault_of (named u r e) ≡ Form → ⊥
    go none h = absurd (true≢false (sym (ap is_form h)))
    go (some b) h = of (r b) (e b) h

-- ---- a part, then the closing bracket

pub data Ended {A : Type 0} (s : List ℕ) (b : Got) (o : Option A) (us : Trees Run) : Got → Type 0 where
  past : (q : ℕ) → ShutAt s b.next q → (o >>= λ a. closed us a) ≡ o → Ended s b o us (past_bracket b q)
  left : (o >>= λ a. closed us a) ≡ none → Ended s b o us (failed_got Form 0 b.next b.top)

module _ {A : Type 0} where
  closed-end : (o : Option A) → (o >>= λ a. closed end a) ≡ o
  unfolding ◌>>=◌ closed
  closed-end none = refl
  closed-end (some a) = refl

  closed-more : (o : Option A) (us : Trees Run) → (us ≡ end → ⊥) → (o >>= λ a. closed us a) ≡ none
  unfolding ◌>>=◌ closed
  closed-more none us h = refl
  closed-more (some a) end h = absurd (h refl)
  closed-more (some a) (t then ts) h = refl

  none-closed : (us : Trees Run) → (none >>= λ (a : A). closed us a) ≡ none
  unfolding ◌>>=◌
  none-closed us = refl

  pub ended : {s : List ℕ} {at top : ℕ} {l : List ℕ} {b b' : Got} {l' : List ℕ} (o : Option A) → (b.fault ≡ Form → o ≡ none) → Moves s at top l b l' → Closes s b b'
      → Ended s b o (rest (first (stack_at s at))) b'
  ended {s} {at} {top} {l} {b} {b'} {l'} o k m c = go (is_form b.fault) refl c
    where
      go : {g : Got} (t : Bool) → is_form b.fault ≡ t → Closes s b g → Ended s b o (rest (first (stack_at s at))) g
      go true e (shut q h) = past q h (rw (k (form-is b.fault e)) (none-closed (rest (first (stack_at s at)))))
      go true e (more h) = left (rw (k (form-is b.fault e)) (none-closed (rest (first (stack_at s at)))))
      go false e (shut q h) =
          let r : rest (first (stack_at s at)) ≡ end = ap rest (m.goes e).1.here ∙ h.here in
          past q h (rw r (closed-end o))
      go false e (more h) =
          let r : rest (first (stack_at s at)) ≡ first (stack_at s b.next) = ap rest (m.goes e).1.here in
          left (rw r (closed-more o (first (stack_at s b.next)) h))

pub closes-leaves : {s : List ℕ} {at top : ℕ} {l : List ℕ} {b b' : Got} {l' : List ℕ} → Moves s at top l b l' → Closes s b b' → Leaves s at top l b' l'
closes-leaves m (shut q h) = record { goes = λ e. (m.goes e).1.around ∙ h.around; keeps = m.keeps; grows = m.grows }
closes-leaves m (more h) = record { goes = λ e. absurd (true≢false e); keeps = m.keeps; grows = m.grows }

pub same-trans : {t u : ℕ} {a b c : List ℕ} → Same 0 u a b → t ≤ u → Same 0 t b c → Same 0 t a c
same-trans x h y = record { at = λ i p q. x.at i p (omega arith) ∙ y.at i p q }

pub same_refl : {t : ℕ} {a : List ℕ} → Same 0 t a a
same_refl = record { at = λ i p q. refl }

-- one part after another
pub then-leaves : {s : List ℕ} {at top : ℕ} {l : List ℕ} {a b : Got} {l₁ l₂ : List ℕ} → Moves s at top l a l₁ → is_form a.fault ≡ false → Leaves s a.next a.top l₁ b l₂ → Leaves s at top l b l₂
then-leaves {s} {at} {top} {l} {a} {b} m e v = record {
  goes = λ h. (m.goes e).1.around ∙ v.goes h;
  keeps = same-trans v.keeps m.grows m.keeps;
  grows = let x = m.grows in let y = v.grows in omega arith;
}

-- ---- a node

pub record Node (f : Fault) (k q : ℕ) (ns : List ℕ) (t : ℕ) (l : List ℕ) (r : Got) (l' : List ℕ) : Type 0 where
  pub fault-is : r.fault ≡ f
  pub kind-is : r.kind ≡ k
  pub next-is : r.next ≡ q
  pub up : t ≤ r.top
  pub below : Same 0 t l' l
  pub laid : f ≡ Clear → out r.place r.top l' ≡ lay ns t l

pub node_of : {f : Fault} {k q : ℕ} {ns : List ℕ} {t : ℕ} {l : List ℕ} {r : Got} {l' : List ℕ} → Makes (node_if f k q ns t l) r l' → Node f k q ns t l r l'
unfolding node_if if_clear
node_of {f} {k} {q} {ns} {t} {l} {r} {l'} m = go f m
  where
    none-laid : (f : Fault) → (f ≡ Clear → ⊥) → r ≡ failed_got f k q t → l' ≡ l → Node f k q ns t l r l'
    none-laid f n e e' = rw (e, e') (record { fault-is = refl; kind-is = refl; next-is = refl; up = omega arith; below = same_refl; laid = λ h. absurd (n h) })

    go : (f : Fault) → Makes (if_clear f k q t l (node_made k q (lay ns t l))) r l' → Node f k q ns t l r l'
    go Kind m = none-laid Kind (λ h. true≢false (sym (ap is_clear h))) m.given m.left
    go Name m = none-laid Name (λ h. true≢false (sym (ap is_clear h))) m.given m.left
    go Form m = none-laid Form (λ h. true≢false (sym (ap is_clear h))) m.given m.left
    go Clear m =
        let G = lay-g ns t l in
        rw (m.given, m.left) (record { fault-is = refl; kind-is = refl; next-is = refl; up = G.up; below = record { at = λ i a b. G.below i b }; laid = λ h. refl })

-- a node after the last part, past the closing bracket
pub node-leaves : {s : List ℕ} {at top : ℕ} {l : List ℕ} {b : Got} {l₁ : List ℕ} {f : Fault} {k : ℕ} {ns : List ℕ} {r : Got} {l' : List ℕ}
    → Leaves s at top l b l₁ → (is_form f ≡ false → is_form b.fault ≡ false) → Node f k b.next ns b.top l₁ r l' → Leaves s at top l r l'
node-leaves {s} v h n = record {
  goes = λ e. v.goes (h (ap is_form (sym n.fault-is) ∙ e)) ∙ ap (stack_at s) (sym n.next-is);
  keeps = same-trans n.below v.grows v.keeps;
  grows = let x = v.grows in let y = n.up in omega arith;
}

-- ---- an expression of a kind that is wanted

pub want-told : {σ : Environment} {o : Option Syntax.Expr} {top : ℕ} {l : List ℕ} {g : Got} {l' : List ℕ} (k : ℕ) → ExprTold σ o top l g l' → WantTold σ k o top l (wanted_got k g) l'
unfolding wanted_got on_fits or_unfit given
want-told {σ} {o} {top} {l} {g} {l'} k x = go (expr_staged σ o) (wanted-staged σ k o) x.told.fault-is x.told.laid
  where
    same_place : (b : Bool) → out (cond b g (with_fault g (lowest g.fault Kind))).place (cond b g (with_fault g (lowest g.fault Kind))).top l' ≡ out g.place g.top l'
    same_place true = refl
    same_place false = refl

    fault-of : (b : Bool) (f : Fault) → f ≡ lowest f Kind → g.fault ≡ f → (cond b g (with_fault g (lowest g.fault Kind))).fault ≡ f
    fault-of true f h e = e
    fault-of false f h e = rw e (sym h)

    at-fits : (b : Bool) (e : Elaborated) → g.fault ≡ Clear → (cond b g (with_fault g (lowest g.fault Kind))).fault ≡ fault_of (or_unfit (given b e.code))
    at-fits true e h = h
    at-fits false e h = rw h refl

    code_of : (b : Bool) (e : Elaborated) (c : Code) → or_unfit (given b e.code) ≡ fits c → e.code ≡ c
    code_of true e c h = fits-inj h
    code_of false e c h = absurd (unfit-fits h)

    go : (S : Staged Elaborated) → wanted_staged σ k o ≡ on_fits S (λ e. or_unfit (given (eqb k e.kind) e.code)) → g.fault ≡ fault_of S
        → ((e : Elaborated) → S ≡ fits e → (g.kind ≡ e.kind) × (out g.place g.top l' ≡ lay_code e.code top l)) → WantTold σ k o top l (cond (eqb k g.kind) g (with_fault g (lowest g.fault Kind))) l'
    go wrong w f z = record { fault-is = fault-of (eqb k g.kind) Form refl f ∙ ap fault_of (sym w); laid = λ c e. absurd (wrong-fits (sym w ∙ e)) }
    go unnamed w f z = record { fault-is = fault-of (eqb k g.kind) Name refl f ∙ ap fault_of (sym w); laid = λ c e. absurd (unnamed-fits (sym w ∙ e)) }
    go unfit w f z = record { fault-is = fault-of (eqb k g.kind) Kind refl f ∙ ap fault_of (sym w); laid = λ c e. absurd (unfit-fits (sym w ∙ e)) }
    go (fits e) w f z = record {
      fault-is = at-fits (eqb k g.kind) e f ∙ ap (λ x. fault_of (or_unfit (given (eqb k x) e.code))) (z e refl).0 ∙ ap fault_of (sym w);
      laid = λ c h. same_place (eqb k g.kind) ∙ (z e refl).1 ∙ ap (λ x. lay_code x top l) (code_of (eqb k e.kind) e c (sym w ∙ h));
    }

pub wanted-moves : {s : List ℕ} {at top : ℕ} {l : List ℕ} {g : Got} {l' : List ℕ} (k : ℕ) → Moves s at top l g l' → Moves s at top l (wanted_got k g) l'
unfolding wanted_got
wanted-moves {s} {at} {top} {l} {g} {l'} k m = go (eqb k g.kind)
  where
    form-kept : (f : Fault) → is_form (lowest f Kind) ≡ is_form f
    form-kept Clear = refl
    form-kept Kind = refl
    form-kept Name = refl
    form-kept Form = refl

    go : (b : Bool) → Moves s at top l (cond b g (with_fault g (lowest g.fault Kind))) l'
    go true = m
    go false = record { goes = λ e. m.goes (sym (form-kept g.fault) ∙ e); keeps = m.keeps; grows = m.grows }

pub wanted-leaves : {s : List ℕ} {at top : ℕ} {l : List ℕ} {g : Got} {l' : List ℕ} (k : ℕ) → Leaves s at top l g l' → Leaves s at top l (wanted_got k g) l'
unfolding wanted_got
wanted-leaves {s} {at} {top} {l} {g} {l'} k m = go (eqb k g.kind)
  where
    kept-form : (f : Fault) → is_form (lowest f Kind) ≡ is_form f
    kept-form Clear = refl
    kept-form Kind = refl
    kept-form Name = refl
    kept-form Form = refl

    go : (b : Bool) → Leaves s at top l (cond b g (with_fault g (lowest g.fault Kind))) l'
    go true = m
    go false = record { goes = λ e. m.goes (sym (kept-form g.fault) ∙ e); keeps = m.keeps; grows = m.grows }

-- ---- the closing bracket after an expression or a statement

pub expr-closed : {s : List ℕ} {at top : ℕ} {l : List ℕ} {b b' : Got} {l' : List ℕ} {σ : Environment} (o : Option Syntax.Expr)
    → Moves s at top l b l' → Closes s b b' → ExprTold σ o top l b l' → ExprTold σ (o >>= λ e. closed (rest (first (stack_at s at))) e) top l b' l'
unfolding expr_staged staged
expr-closed {s} {at} {top} {l} {b} {b'} {l'} {σ} o m c x = go (ended o (λ e. form-none o _ _ _ (sym x.told.fault-is ∙ e)) m c)
  where
    go : {g : Got} → Ended s b o (rest (first (stack_at s at))) g → ExprTold σ (o >>= λ e. closed (rest (first (stack_at s at))) e) top l g l'
    go (past q h e) = rw e (record { told = record { fault-is = x.told.fault-is; laid = x.told.laid } })
    go (left e) = rw e (record { told = record { fault-is = refl; laid = λ a h. absurd (wrong-fits h) } })

pub act-closed : {s : List ℕ} {at top : ℕ} {l : List ℕ} {b b' : Got} {l' : List ℕ} {σ : Environment} {bs js : List ℕ} (o : Option (Syntax.Stmt × ℕ))
    → Moves s at top l b l' → Closes s b b' → ActTold σ bs js o top l b l' → ActTold σ bs js (o >>= λ p. closed (rest (first (stack_at s at))) p) top l b' l'
unfolding stmt_staged staged ◌>>=◌
act-closed {s} {at} {top} {l} {b} {b'} {l'} {σ} {bs} {js} o m c x = go (ended o (λ e. bare-none o (form-none (bare o) _ _ _ (sym x.fault-is ∙ e))) m c)
  where
    bare-none : (o : Option (Syntax.Stmt × ℕ)) → bare o ≡ none → o ≡ none
    bare-none none h = refl
    bare-none (some p) h = cc

    go : {g : Got} → Ended s b o (rest (first (stack_at s at))) g → ActTold σ bs js (o >>= λ p. closed (rest (first (stack_at s at))) p) top l g l'
    go (past q h e) = rw e (record { fault-is = x.fault-is; laid = x.laid; number = x.number })
    go (left e) = rw e (record { fault-is = refl; laid = λ a h. absurd (wrong-fits h); number = λ p h. none-some h })
