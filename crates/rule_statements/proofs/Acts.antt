-- What the answer for a statement tells, from the answers for its parts.
use mathlib.Core.Path.{◌≡◌, refl, sym, ap, ◌∙◌}
use mathlib.Core.Bool.{true, false, true≢false}
use mathlib.Core.List.{List, [], ◌∷◌}
use mathlib.Core.Option.{Option, none, some}
use Prim.Native.Nat.{ℕ}
use Rattle.law.specs.Base.{◌>>=◌}
use Rattle.law.specs.Code.{Code, Act, raise_with, while_loop, branch_on}
use Rattle.law.specs.Environment.{Environment}
use Rattle.code.specs.Layout.{out, lay, lay_code, lay_act}
use Rattle.rule_stages.specs.Stages.{staged, named, ruled, join, on_fits, or_unfit, wanted_staged, stmt_staged}
use Rattle.law.specs.Syntax as Syntax
use Rattle.law_theorems.proofs.Inversion.{none-some, some_inj, bind-some}
use Rattle.rule_stages.proofs.Staging.{pair}
use Rattle.rule_stages.proofs.OnePassStmts.{raise-staged, while-staged, if-staged}
use Rattle.law.specs.Names.{stmt_of}
use Rattle.law.specs.Rules.{kept_stmt}
use Rattle.law.specs.Elaborate.{elab_stmt}
use Rattle.rule_faults.specs.declared.Got.{Got}
use Rattle.rule_faults.specs.Got.{lowest, is_form, fault_of}
use Rattle.rule_stmt_nodes.specs.Nodes.{skip_got}
use Rattle.rule_statements.specs.Walks.{bare, WantTold, ActTold}
use Rattle.rule_statements.proofs.Faults.{join-fault, join-fits, on-fault, on-fits, Node, form-is}
use Rattle.rule_expressions.proofs.Joining.{wrong-fits, fits-inj}

-- ---- without the numbers

module _ {A C : Type 0} where
  pub bare-one : (o : Option A) (f : A → C) (n : ℕ) → bare (o >>= λ a. some (f a, n)) ≡ (o >>= λ a. some (f a))
  unfolding ◌>>=◌
  bare-one none f n = refl
  bare-one (some a) f n = refl

  pub bare-last : (p : Option (A × ℕ)) (f : A → C) → bare (p >>= λ a. some (f a.0, a.1)) ≡ (bare p >>= λ x. some (f x))
  unfolding ◌>>=◌
  bare-last none f = refl
  bare-last (some a) f = refl

  pub bare-two : {B : Type 0} (o : Option A) (p : Option (B × ℕ)) (f : A → B → C) → bare (o >>= λ a. p >>= λ b. some (f a b.0, b.1)) ≡ (o >>= λ a. bare p >>= λ x. some (f a x))
  unfolding ◌>>=◌
  bare-two none p f = refl
  bare-two (some a) none f = refl
  bare-two (some a) (some b) f = refl

  pub bare-three : {B D : Type 0} (o : Option A) (p : Option (B × ℕ)) (q : Option (D × ℕ)) (f : A → B → D → C)
      → bare (o >>= λ a. p >>= λ b. q >>= λ d. some (f a b.0 d.0, d.1)) ≡ (o >>= λ a. bare p >>= λ x. bare q >>= λ y. some (f a x y))
  unfolding ◌>>=◌
  bare-three none p q f = refl
  bare-three (some a) none q f = refl
  bare-three (some a) (some b) none f = refl
  bare-three (some a) (some b) (some d) f = refl

-- ---- no form

pub act-none : {σ : Environment} {bs js : List ℕ} {o : Option (Syntax.Stmt × ℕ)} {top : ℕ} {l : List ℕ} {g : Got} {l' : List ℕ} → o ≡ none → is_form g.fault ≡ true → ActTold σ bs js o top l g l'
unfolding stmt_staged staged ◌>>=◌
act-none {σ} {bs} {js} {o} {top} {l} {g} {l'} e h = rw e (record { fault-is = form-is g.fault h; laid = λ a z. absurd (wrong-fits z); number = λ p z. none-some z })

-- what is no fault of row 6 is a statement
pub some_of : {σ : Environment} {bs js : List ℕ} {top : ℕ} {l : List ℕ} {g : Got} {l' : List ℕ} (o : Option (Syntax.Stmt × ℕ)) → ActTold σ bs js o top l g l' → is_form g.fault ≡ false
    → (p : Syntax.Stmt × ℕ) × (o ≡ some p)
unfolding stmt_staged staged ◌>>=◌
some_of none t h = absurd (true≢false (sym (ap is_form t.fault-is) ∙ h))
some_of (some p) t h = (p, refl)

module _ {σ : Environment} {bs js : List ℕ} {n top : ℕ} {l : List ℕ} {r : Got} {l' : List ℕ} where
  -- ---- `raise`

  pub raise-act : (o : Option Syntax.Expr) (c : Got) (l₁ : List ℕ) → WantTold σ 0 o top l c l₁ → Node c.fault n c.next (51 ∷ n ∷ c.place ∷ []) c.top l₁ r l'
      → ActTold σ bs js (o >>= λ e. some (Syntax.raise n e, n)) top l r l'
  unfolding lay_act
  raise-act o c l₁ w N =
      let S : stmt_staged σ js (bare (o >>= λ e. some (Syntax.raise n e, n))) ≡ on_fits (wanted_staged σ 0 o) (λ x. or_unfit (some (raise_with n x)))
      = ap (stmt_staged σ js) (bare-one o (λ e. Syntax.raise n e) n) ∙ raise-staged σ js n o in
      record {
        fault-is = N.fault-is ∙ w.fault-is ∙ sym (ap fault_of S ∙ on-fault (λ x. raise_with n x) (wanted_staged σ 0 o));
        laid = λ a h.
            let z = on-fits (λ x. raise_with n x) (wanted_staged σ 0 o) a (sym S ∙ h) in
            N.laid (w.fault-is ∙ ap fault_of z.part-fits) ∙ raise-lay z.part (w.laid z.part z.part-fits) ∙ ap (λ (x : Act). lay_act bs x top l) z.made;
        number = λ p h. bind-some h λ e he q. N.kind-is ∙ ap (λ (x : Syntax.Stmt × ℕ). x.1) (some_inj q);
      }
    where
      raise-lay : (x : Code) → out c.place c.top l₁ ≡ lay_code x top l → lay (51 ∷ n ∷ c.place ∷ []) c.top l₁ ≡ lay_act bs (raise_with n x) top l
      raise-lay x e = rw (← e) refl

  -- ---- `while`

  pub while-act : (o : Option Syntax.Expr) (p : Option (Syntax.Stmt × ℕ)) (c : Got) (l₁ : List ℕ) (b : Got) (l₂ : List ℕ) → WantTold σ 1 o top l c l₁ → ActTold σ bs js p c.top l₁ b l₂
      → Node (lowest c.fault b.fault) b.kind b.next (47 ∷ n ∷ c.place ∷ b.place ∷ []) b.top l₂ r l'
      → ActTold σ bs js (o >>= λ e. p >>= λ a. some (Syntax.while n e a.0, a.1)) top l r l'
  unfolding lay_act
  while-act o p c l₁ b l₂ w t N =
      let S : stmt_staged σ js (bare (o >>= λ e. p >>= λ a. some (Syntax.while n e a.0, a.1))) ≡ join (wanted_staged σ 1 o) (stmt_staged σ js (bare p)) (λ x y. or_unfit (some (while_loop n x y)))
      = ap (stmt_staged σ js) (bare-two o p (Syntax.while n)) ∙ while-staged σ js n o (bare p) in
      record {
        fault-is = N.fault-is ∙ rw (w.fault-is, t.fault-is) refl ∙ sym (ap fault_of S ∙ join-fault (λ x y. while_loop n x y) (wanted_staged σ 1 o) (stmt_staged σ js (bare p)));
        laid = λ a h.
            let z = join-fits (λ x y. while_loop n x y) (wanted_staged σ 1 o) (stmt_staged σ js (bare p)) a (sym S ∙ h) in
            N.laid (rw (w.fault-is, t.fault-is, z.one-fits, z.two_fits) refl)
            ∙ while-lay z.one z.two (w.laid z.one z.one-fits) (t.laid z.two z.two_fits) ∙ ap (λ (x : Act). lay_act bs x top l) z.made;
        number = λ q h. bind-some h λ e he h'. bind-some h' λ a ha i. N.kind-is ∙ t.number a ha ∙ ap (λ (x : Syntax.Stmt × ℕ). x.1) (some_inj i);
      }
    where
      while-lay : (x : Code) (y : Act) → out c.place c.top l₁ ≡ lay_code x top l → out b.place b.top l₂ ≡ lay_act bs y c.top l₁
          → lay (47 ∷ n ∷ c.place ∷ b.place ∷ []) b.top l₂ ≡ lay_act bs (while_loop n x y) top l
      while-lay x y e f = rw (← e, ← f) refl

  -- ---- `if`

  pub if-act : (o : Option Syntax.Expr) (p q : Option (Syntax.Stmt × ℕ)) (c : Got) (l₁ : List ℕ) (a : Got) (l₂ : List ℕ) (b : Got) (l₃ : List ℕ)
      → WantTold σ 1 o top l c l₁ → ActTold σ bs js p c.top l₁ a l₂ → ActTold σ bs js q a.top l₂ b l₃
      → Node (lowest (lowest c.fault a.fault) b.fault) b.kind b.next (46 ∷ n ∷ c.place ∷ a.place ∷ b.place ∷ []) b.top l₃ r l'
      → ActTold σ bs js (o >>= λ e. p >>= λ x. q >>= λ y. some (Syntax.if_else n e x.0 y.0, y.1)) top l r l'
  unfolding lay_act
  if-act o p q c l₁ a l₂ b l₃ w t u N =
      let J = join (wanted_staged σ 1 o) (stmt_staged σ js (bare p)) (λ x y. or_unfit (some (pair x y))) in
      let S : stmt_staged σ js (bare (o >>= λ e. p >>= λ x. q >>= λ y. some (Syntax.if_else n e x.0 y.0, y.1))) ≡ join J (stmt_staged σ js (bare q)) (λ x y. or_unfit (some (branch_on n x.0 x.1 y)))
      = ap (stmt_staged σ js) (bare-three o p q (Syntax.if_else n)) ∙ if-staged σ js n o (bare p) (bare q) in
      let F : lowest c.fault a.fault ≡ fault_of J = rw (w.fault-is, t.fault-is) (sym (join-fault (λ x y. pair x y) (wanted_staged σ 1 o) (stmt_staged σ js (bare p)))) in
      record {
        fault-is = N.fault-is ∙ rw (F, u.fault-is) refl ∙ sym (ap fault_of S ∙ join-fault (λ x y. branch_on n x.0 x.1 y) J (stmt_staged σ js (bare q)));
        laid = λ z h.
            let k = join-fits (λ x y. branch_on n x.0 x.1 y) J (stmt_staged σ js (bare q)) z (sym S ∙ h) in
            let j = join-fits (λ x y. pair x y) (wanted_staged σ 1 o) (stmt_staged σ js (bare p)) k.one k.one-fits in
            N.laid (rw (w.fault-is, t.fault-is, u.fault-is, j.one-fits, j.two_fits, k.two_fits) refl)
            ∙ if-lay j.one j.two k.two (w.laid j.one j.one-fits) (t.laid j.two j.two_fits) (u.laid k.two k.two_fits)
            ∙ ap (λ (x : Code × Act). lay_act bs (branch_on n x.0 x.1 k.two) top l) j.made ∙ ap (λ (x : Act). lay_act bs x top l) k.made;
        number = λ z h. bind-some h λ e he h'. bind-some h' λ x hx h''. bind-some h'' λ y hy i. N.kind-is ∙ u.number y hy ∙ ap (λ (x : Syntax.Stmt × ℕ). x.1) (some_inj i);
      }
    where
      if-lay : (x : Code) (y z : Act) → out c.place c.top l₁ ≡ lay_code x top l → out a.place a.top l₂ ≡ lay_act bs y c.top l₁ → out b.place b.top l₃ ≡ lay_act bs z a.top l₂
          → lay (46 ∷ n ∷ c.place ∷ a.place ∷ b.place ∷ []) b.top l₃ ≡ lay_act bs (branch_on n x y z) top l
      if-lay x y z e f g = rw (← e, ← f, ← g) refl

-- a missing third part
pub skip-act : {σ : Environment} {bs js : List ℕ} {n q top : ℕ} {l : List ℕ} → ActTold σ bs js (some (Syntax.skip, n)) top l (skip_got n q top) l
unfolding lay_act stmt_staged staged named ruled stmt_of kept_stmt elab_stmt ◌>>=◌
skip-act {σ} {bs} {js} {n} {q} {top} {l} = record {
  fault-is = refl;
  laid = λ a h. ap (λ (x : Act). lay_act bs x top l) (fits-inj h);
  number = λ p h. ap (λ (x : Syntax.Stmt × ℕ). x.1) (some_inj h);
}
