-- What the answers for an assignment and a `for` tell, from the answers for their parts.
use mathlib.Core.Path.{◌≡◌, refl, sym, ap, ◌∙◌}
use mathlib.Core.Bool.{Bool, true, false, cond, not, ◌&&◌}
use mathlib.Core.List.{List, [], ◌∷◌}
use mathlib.Core.Option.{Option, none, some}
use Prim.Native.Nat.{ℕ}
use lib.Dec.{eqb}
use lib.IntN.{ℤ}
use Rattle.law.specs.Base.{Name, ◌>>=◌, both, given, find}
use Rattle.law.specs.Code.{Code, Act, assign_ordinal, assign_cell, copy_cells, for_loop, load, literal, last_number, make_set, calculate, short_cut, calculate1}
use Rattle.law.specs.Elaborate.{Elaborated, Located, copying, elab_expr, elab_stmt, expects, assigning}
use Rattle.law.specs.Environment.{Environment}
use Rattle.code.specs.Layout.{out, lay, bits, lay_code, lay_place, lay_act}
use Rattle.law.specs.Names.{var_of, expr_of, stmt_of}
use Rattle.law.specs.Rules.{plain_expr, kept_stmt, looping}
use Rattle.law.specs.Script as Script
use Rattle.rule_stages.specs.Stages.{Staged, wrong, unnamed, unfit, fits, staged, named, ruled, join, or_unfit, kept_if, unknown, expr_staged, wanted_staged, assigned_staged, stmt_staged}
use Rattle.law.specs.Syntax as Syntax
use Rattle.law.specs.Types.{Var, variable, info_at, host_of, ordinal?, set?}
use Rattle.law_theorems.proofs.Inversion.{some_inj, bind-some}
use Rattle.law_theorems.proofs.ValuesInRange.{own-host}
use Rattle.law_theorems.proofs.WholeValues.{Loads, loads, from-cells}
use borrow.Author.Tests.{eqb-true}
use Rattle.rule_stages.proofs.Staging.{pair, staged-unknown, staged-three}
use Rattle.rule_stages.proofs.OnePassStmts.{assign-staged, for-staged}
use Rattle.table_scope.specs.declared.Scope.{Scope}
use Rattle.rule_faults.specs.declared.Fault.{Fault}
use Rattle.rule_faults.specs.declared.Fault.TheVariants.{Clear, Kind, Name as Unnamed, Form}
use Rattle.table_scope.specs.declared.Info.{Info}
use Rattle.table_scope.specs.declared.Meaning.{Meaning}
use Rattle.table_scope.specs.Descriptions.{info_of}
use Rattle.table_scope.specs.Scene as Scenes
use Rattle.table_scope.specs.Scene.{Scene, a-type, a-var, a-proc, a-value}
use Rattle.table_scope.specs.Sides.{host_in}
use Rattle.table_scope.proofs.Telling.{shape-ordinal, shape-set, low_told, high-told, host-in}
use Rattle.rule_faults.specs.declared.Got.{Got}
use Rattle.rule_faults.specs.Got.{lowest, fault_of, Told}
use Rattle.rule_faults.proofs.Order.{lowest-assoc, lowest-clear}
use Rattle.rule_expr_nodes.specs.Nodes.{Makes, failed_made, node_made, if_clear}
use Rattle.rule_expressions.specs.Walks.{ExprTold}
use Rattle.rule_expressions.proofs.Joining.{wrong-fits, unnamed-fits, unfit-fits, fits-inj, told-join, told-as, told-fits, told-unfit}
use Rattle.rule_stmt_nodes.specs.declared.nodes.Control.{Control}
use Rattle.rule_stmt_nodes.specs.Nodes.{stored, assigned, control_by, control_fault}
use Rattle.rule_statements.specs.Walks.{bare, WantTold, ActTold, StoreTold, ControlTold, known, unknown as not_known}
use Rattle.rule_statements.proofs.Faults.{join-fault, Both, join-fits, tested-fits, Node}

-- ---- an assignment

bare-pair : (n : ℕ) (o : Option Syntax.Target) (p : Option Syntax.Expr) → bare (o >>= λ x. p >>= λ y. some (Syntax.assign n x y, n)) ≡ (o >>= λ x. p >>= λ y. some (Syntax.assign n x y))
unfolding ◌>>=◌
bare-pair n none p = refl
bare-pair n (some x) none = refl
bare-pair n (some x) (some y) = refl

-- what fits in all three stages has a kind
staged-fits : {A B C P : Type 0} (o : Option A) (names : A → Option B) (rules : B → Bool) (kinds : B → Option C) (c : C) → staged o names rules kinds ≡ fits c → ((b : B) → kinds b ≡ some c → P) → P
unfolding staged named ruled
staged-fits none names rules kinds c h k = absurd (wrong-fits h)
staged-fits {B = B} {C = C} {P = P} (some a) names rules kinds c h k = go (names a) h
  where
    by : (b : B) (t : Bool) (v : Option C) → kinds b ≡ v → ruled t v ≡ fits c → P
    by b false v e h = absurd (unfit-fits h)
    by b true none e h = absurd (unfit-fits h)
    by b true (some d) e h = k b (e ∙ ap some (fits-inj h))

    go : (o : Option B) → named o rules kinds ≡ fits c → P
    go none h = absurd (unnamed-fits h)
    go (some b) h = by b (rules b) (kinds b) refl h

module _ (σ : Environment) (bs js : List ℕ) (n top : ℕ) (l : List ℕ) where
  -- the kind of a told statement is its number
  act-of : {o : Option (Syntax.Stmt × ℕ)} {r : Got} {l' : List ℕ} → Told (stmt_staged σ js (bare o)) (λ _. n) (lay_act bs) top l r l' → r.kind ≡ n → ((p : Syntax.Stmt × ℕ) → o ≡ some p → p.1 ≡ n)
      → ActTold σ bs js o top l r l'
  act-of t k h = record { fault-is = t.fault-is; laid = λ a e. (t.laid a e).1; number = λ p e. k ∙ sym (h p e) }

  module _ (s ts : List ℕ) (scope : Scope) (top₂ : ℕ) (g : Got) (l₁ : List ℕ) (e : Got) (l₂ : List ℕ) (Sc : Scene s l₂ ts scope top₂ σ bs) where
    stored-told : (w : Located) (x : Elaborated) → g.kind ≡ w.type → out g.place g.top l₁ ≡ lay_place w.place top l
        → e.kind ≡ x.kind → out e.place e.top l₂ ≡ lay_code x.code g.top l₁
        → (ordinal? σ.types x.kind ≡ false → set? σ.types x.kind ≡ false → Loads x.code)
        → Told (or_unfit (given (eqb (host_of σ.types w.type) x.kind) x.code >>= λ c. some (assigning σ.types σ.vars n w c))) (λ _. n) (lay_act bs) top l
        (stored l₂ (info_of l₂ ts g.kind) (host_in l₂ ts g.kind) n g e).got (stored l₂ (info_of l₂ ts g.kind) (host_in l₂ ts g.kind) n g e).list
    unfolding stored given or_unfit lay_act copying ◌>>=◌
    stored-told w x gk gp ek ep ld =
        rw (gk, ek, host-in Sc w.type, shape-ordinal Sc w.type, shape-set Sc w.type, low_told Sc w.type, high-told Sc w.type)
        (go (eqb (host_of σ.types w.type) x.kind) (ordinal? σ.types w.type) (set? σ.types w.type) (info_at σ.types w.type).low (info_at σ.types w.type).high refl refl refl)
      where
        copied : (c : Code) → Loads c → out e.place e.top l₂ ≡ lay_code c g.top l₁
            → Told (or_unfit (some (copying n w.place c))) (λ _. n) (lay_act bs) top l (node_made n e.next (lay (52 ∷ n ∷ g.place ∷ e.place ∷ []) e.top l₂)).got (node_made n e.next (lay (52 ∷ n ∷ g.place ∷ e.place ∷ []) e.top l₂)).list
        copied (load q k) loads ep = told-fits (copy_cells n w.place q k) refl refl (rw (← gp, ← ep) refl)
        copied (literal z) l ep = elim l [ ]
        copied last_number l ep = elim l [ ]
        copied (make_set lo hi cs) l ep = elim l [ ]
        copied (calculate o c d) l ep = elim l [ ]
        copied (short_cut o c d) l ep = elim l [ ]
        copied (calculate1 f c) l ep = elim l [ ]

        go : (b o s : Bool) (lo hi : ℤ) → eqb (host_of σ.types w.type) x.kind ≡ b → ordinal? σ.types w.type ≡ o → set? σ.types w.type ≡ s
            → Told (or_unfit (given b x.code >>= λ c. some (cond o (assign_ordinal n w.place lo hi c) (cond s (assign_cell n w.place c) (copying n w.place c))))) (λ _. n) (lay_act bs) top l
            (cond b (node_made n e.next (lay (cond o (43 ∷ n ∷ g.place ∷ e.place ∷ bits lo ∷ bits hi ∷ []) (cond s (44 ∷ n ∷ g.place ∷ e.place ∷ []) (52 ∷ n ∷ g.place ∷ e.place ∷ []))) e.top l₂)) (failed_made Kind n e.next e.top l₂)).got
            (cond b (node_made n e.next (lay (cond o (43 ∷ n ∷ g.place ∷ e.place ∷ bits lo ∷ bits hi ∷ []) (cond s (44 ∷ n ∷ g.place ∷ e.place ∷ []) (52 ∷ n ∷ g.place ∷ e.place ∷ []))) e.top l₂)) (failed_made Kind n e.next e.top l₂)).list
        go true true s lo hi _ _ _ = told-fits (assign_ordinal n w.place lo hi x.code) refl refl (rw (← gp, ← ep) refl)
        go true false true lo hi _ _ _ = told-fits (assign_cell n w.place x.code) refl refl (rw (← gp, ← ep) refl)
        go true false false lo hi h o s =
            let y : w.type ≡ x.kind = sym (own-host (info_at σ.types w.type).shape w.type (info_at σ.types w.type).host o) ∙ eqb-true (host_of σ.types w.type) x.kind h in
            copied x.code (ld (rw (← y) o) (rw (← y) s)) ep
        go false o s lo hi _ _ _ = told-unfit refl

    kind-of : (f : Fault) (k : ℕ) (i : Info) → (if_clear f n e.next e.top l₂ (stored l₂ i k n g e)).got.kind ≡ n
    unfolding if_clear stored
    kind-of Kind k i = refl
    kind-of Unnamed k i = refl
    kind-of Form k i = refl
    kind-of Clear k i = of (eqb k e.kind) (eqb i.shape 0) (eqb i.shape 1)
      where
        of : (b o s : Bool) → (cond b (node_made n e.next (lay (cond o (43 ∷ n ∷ g.place ∷ e.place ∷ i.low ∷ i.high ∷ []) (cond s (44 ∷ n ∷ g.place ∷ e.place ∷ []) (52 ∷ n ∷ g.place ∷ e.place ∷ []))) e.top l₂)) (failed_made Kind n e.next e.top l₂)).got.kind ≡ n
        of true o s = refl
        of false o s = refl

    pub assign-act : (o : Option Syntax.Target) (p : Option Syntax.Expr) (r : Got) (l' : List ℕ) → StoreTold σ js o top l g l₁ → ExprTold σ p g.top l₁ e l₂ → Makes (assigned l₂ ts n g e) r l'
        → ActTold σ bs js (o >>= λ x. p >>= λ y. some (Syntax.assign n x y, n)) top l r l'
    unfolding assigned expr_staged
    assign-act o p r l' a b m =
        act-of
        (told-as (ap (stmt_staged σ js) (bare-pair n o p) ∙ assign-staged σ js n o p) m.given m.left
        (told-join g.fault e.fault n e.next e.top l₂ _ (assigned_staged σ js o) (expr_staged σ p) _ a.told.fault-is b.told.fault-is
        (λ w x hw hx. stored-told w x (a.told.laid w hw).0 (a.told.laid w hw).1 (b.told.laid x hx).0 (b.told.laid x hx).1 (loaded x hx))))
        (ap (λ (x : Got). x.kind) m.given ∙ kind-of (lowest g.fault e.fault) (host_in l₂ ts g.kind) (info_of l₂ ts g.kind))
        (λ q h. bind-some h λ x hx h'. bind-some h' λ y hy i. sym (ap (λ (z : Syntax.Stmt × ℕ). z.1) (some_inj i)))
      where
        loaded : (x : Elaborated) → expr_staged σ p ≡ fits x → ordinal? σ.types x.kind ≡ false → set? σ.types x.kind ≡ false → Loads x.code
        loaded x h u v = staged-fits p (expr_of σ) plain_expr (elab_expr σ.types σ.vars) x h λ y k. from-cells σ.types Sc.table σ.vars y x k u v

-- ---- the control variable

pub control-told : {σ : Environment} {bs : List ℕ} {m : Meaning} (w : Name) → Scenes.Told σ bs m (find σ.names w) → ControlTold σ w (control_by m)
unfolding var_of ◌>>=◌
control-told {σ} {bs} {m} w t = go (find σ.names w) refl t
  where
    go : {x : Meaning} (o : Option _) → find σ.names w ≡ o → Scenes.Told σ bs x o → ControlTold σ w (control_by x)
    go none e Scenes.unknown = not_known (rw e refl)
    go (some a) e (Scenes.known a-type) = not_known (rw e refl)
    go (some a) e (Scenes.known (a-var {i} v h)) = known i v (rw e refl) h
    go (some a) e (Scenes.known a-proc) = not_known (rw e refl)
    go (some a) e (Scenes.known a-value) = not_known (rw e refl)

-- ---- `for`

kept-fault : {A : Type 0} (t : Bool) (S : Staged A) → fault_of (kept_if (not t) S) ≡ lowest (fault_of S) (cond t Kind Clear)
unfolding kept_if
kept-fault true wrong = refl
kept-fault true unnamed = refl
kept-fault true unfit = refl
kept-fault true (fits a) = refl
kept-fault false wrong = refl
kept-fault false unnamed = refl
kept-fault false unfit = refl
kept-fault false (fits a) = refl

kept-fits : {A : Type 0} (t : Bool) (S : Staged A) (a : A) → kept_if (not t) S ≡ fits a → (t ≡ false) × (S ≡ fits a)
unfolding kept_if
kept-fits t wrong a h = absurd (wrong-fits h)
kept-fits t unnamed a h = absurd (unnamed-fits h)
kept-fits t unfit a h = absurd (unfit-fits h)
kept-fits true (fits b) a h = absurd (unfit-fits h)
kept-fits false (fits b) a h = (refl, h)

module _ {A B C : Type 0} (mk : A → B → C) where
  given-fault : (o : Bool) (S : Staged A) (T : Staged B) → fault_of (join S T (λ x y. or_unfit (given o (mk x y)))) ≡ lowest (lowest (fault_of S) (fault_of T)) (cond o Clear Kind)
  unfolding given or_unfit join
  given-fault true S T = join-fault mk S T ∙ sym (lowest-clear (lowest (fault_of S) (fault_of T)))
  given-fault false wrong T = refl
  given-fault false unnamed wrong = refl
  given-fault false unnamed unnamed = refl
  given-fault false unnamed unfit = refl
  given-fault false unnamed (fits y) = refl
  given-fault false unfit wrong = refl
  given-fault false unfit unnamed = refl
  given-fault false unfit unfit = refl
  given-fault false unfit (fits y) = refl
  given-fault false (fits x) wrong = refl
  given-fault false (fits x) unnamed = refl
  given-fault false (fits x) unfit = refl
  given-fault false (fits x) (fits y) = refl

  given-fits : (o : Bool) (S : Staged A) (T : Staged B) (z : C) → join S T (λ x y. or_unfit (given o (mk x y))) ≡ fits z → (o ≡ true) × Both mk S T z
  given-fits o S T z h = let t = tested-fits (λ _ _. o) mk S T z h in (t.1, t.0)

pub unknown-fault : {A : Type 0} (B : Type 0) (S : Staged A) → fault_of (unknown {B = B} S) ≡ lowest Unnamed (fault_of S)
unfolding unknown
unknown-fault B wrong = refl
unknown-fault B unnamed = refl
unknown-fault B unfit = refl
unknown-fault B (fits a) = refl

pub unknown-fits : {A B : Type 0} (S : Staged A) (b : B) → unknown S ≡ fits b → ⊥
unfolding unknown
unknown-fits wrong b h = wrong-fits h
unknown-fits unnamed b h = unnamed-fits h
unknown-fits unfit b h = unnamed-fits h
unknown-fits (fits a) b h = unnamed-fits h

-- a fault of row 8 beside
two-tests : (t o : Bool) (f : Fault) → lowest (lowest f (cond o Clear Kind)) (cond t Kind Clear) ≡ lowest f (cond t Kind (cond o Clear Kind))
two-tests true true f = ap (λ x. lowest x Kind) (lowest-clear f)
two-tests true false f = sym (lowest-assoc f Kind Kind)
two-tests false o f = lowest-clear (lowest f (cond o Clear Kind))

no_test : (t o : Bool) (f : Fault) → lowest (lowest Unnamed f) (cond t Kind (cond o Clear Kind)) ≡ lowest Unnamed f
no_test true o Clear = refl
no_test true o Kind = refl
no_test true o Unnamed = refl
no_test true o Form = refl
no_test false true f = lowest-clear (lowest Unnamed f)
no_test false false Clear = refl
no_test false false Kind = refl
no_test false false Unnamed = refl
no_test false false Form = refl

bare-four : {A B C D : Type 0} (o : Option A) (p : Option B) (q : Option (C × ℕ)) (f : A → B → C → D)
    → bare (o >>= λ a. p >>= λ b. q >>= λ d. some (f a b d.0, d.1)) ≡ (o >>= λ a. p >>= λ b. bare q >>= λ y. some (f a b y))
unfolding ◌>>=◌
bare-four none p q f = refl
bare-four (some a) none q f = refl
bare-four (some a) (some b) none f = refl
bare-four (some a) (some b) (some d) f = refl

-- its control variable is not known
module _ (σ : Environment) (js : List ℕ) where
  pub for-unknown : (n : ℕ) (w : Name) → var_of σ w ≡ none → (k : ℕ) (is : List ℕ) (a b : Option Syntax.Expr) (s : Option Syntax.Stmt)
      → stmt_staged σ js (a >>= λ x. b >>= λ y. s >>= λ z. some (Syntax.for n w x y z))
      ≡ unknown (join (join (wanted_staged σ k a) (wanted_staged σ k b) λ c d. or_unfit (some (pair c d))) (stmt_staged σ is s) λ p x. or_unfit (some (pair p x)))
  unfolding stmt_staged wanted_staged stmt_of ◌>>=◌
  for-unknown n w h k is a b s =
      ap (λ (o : Option Syntax.Stmt). staged o (stmt_of σ) (λ s. kept_stmt s js) (elab_stmt σ.types σ.vars)) (parse a b s)
      ∙ staged-unknown names rules kinds (stmt_of σ) (λ s. kept_stmt s js) (elab_stmt σ.types σ.vars) (λ p. Syntax.for n w p.0.0 p.0.1 p.1) (λ p. rw h refl) (a >>= λ x. b >>= λ y. s >>= λ z. some (pair (pair x y) z))
      ∙ ap unknown (staged-three (expr_of σ) plain_expr (expects σ.types σ.vars k) (expr_of σ) plain_expr (expects σ.types σ.vars k)
      (stmt_of σ) (λ s. kept_stmt s is) (elab_stmt σ.types σ.vars) names rules kinds (λ x y z. pair (pair x y) z) (λ x y z. pair (pair x y) z)
      (λ c d x. some (pair (pair c d) x)) (λ x y z. refl) (λ x y z. refl) (λ x y z. refl) a b s)
    where
      names : (Syntax.Expr × Syntax.Expr) × Syntax.Stmt → Option ((Script.Expr × Script.Expr) × Script.Stmt)
      names p = expr_of σ p.0.0 >>= λ x. expr_of σ p.0.1 >>= λ y. stmt_of σ p.1 >>= λ z. some (pair (pair x y) z)

      rules : (Script.Expr × Script.Expr) × Script.Stmt → Bool
      rules q = (plain_expr q.0.0 && plain_expr q.0.1) && kept_stmt q.1 is

      kinds : (Script.Expr × Script.Expr) × Script.Stmt → Option ((Code × Code) × Act)
      kinds q = both (expects σ.types σ.vars k q.0.0) (expects σ.types σ.vars k q.0.1) (λ c d. elab_stmt σ.types σ.vars q.1 >>= λ x. some (pair (pair c d) x))

      parse : (a b : Option Syntax.Expr) (s : Option Syntax.Stmt) → (a >>= λ x. b >>= λ y. s >>= λ z. some (Syntax.for n w x y z))
          ≡ ((a >>= λ x. b >>= λ y. s >>= λ z. some (pair (pair x y) z)) >>= λ p. some (Syntax.for n w p.0.0 p.0.1 p.1))
      parse none b s = refl
      parse (some x) none s = refl
      parse (some x) (some y) none = refl
      parse (some x) (some y) (some z) = refl

module _ (σ : Environment) (bs js : List ℕ) (n top : ℕ) (l : List ℕ) (r : Got) (l' : List ℕ) (k : ℕ) (is : List ℕ) (o p : Option Syntax.Expr) (q : Option (Syntax.Stmt × ℕ))
    (x : Got) (l₁ : List ℕ) (y : Got) (l₂ : List ℕ) (z : Got) (l₃ : List ℕ) (i : Info) (over : Bool) (w : Name)
    (a : WantTold σ k o top l x l₁) (b : WantTold σ k p x.top l₁ y l₂) (c : ActTold σ bs is q y.top l₂ z l₃) where
  abbrev J : Staged (Code × Code)
  J = join (wanted_staged σ k o) (wanted_staged σ k p) λ c d. or_unfit (some (pair c d))

  parts-fault : lowest (lowest x.fault y.fault) z.fault ≡ lowest (fault_of J) (fault_of (stmt_staged σ is (bare q)))
  parts-fault = rw (a.fault-is, b.fault-is, c.fault-is, join-fault (λ (u v : Code). pair u v) (wanted_staged σ k o) (wanted_staged σ k p)) refl

  abbrev whole : Option (Syntax.Stmt × ℕ)
  whole = o >>= λ u. p >>= λ v. q >>= λ d. some (Syntax.for n w u v d.0, d.1)

  for-number : z.kind ≡ r.kind → (d : Syntax.Stmt × ℕ) → whole ≡ some d → r.kind ≡ d.1
  for-number e d h = bind-some h λ u hu h'. bind-some h' λ v hv h''. bind-some h'' λ m hm j. sym e ∙ c.number m hm ∙ ap (λ (x : Syntax.Stmt × ℕ). x.1) (some_inj j)

  module _ (v : Control) (N : Node (lowest (lowest v.fault (lowest (lowest x.fault y.fault) z.fault)) (control_fault over i)) z.kind z.next
      (48 ∷ n ∷ v.base ∷ i.low ∷ i.high ∷ x.place ∷ y.place ∷ z.place ∷ []) z.top l₃ r l') where
    pub for-not-known : v.fault ≡ Unnamed → var_of σ w ≡ none → ActTold σ bs js whole top l r l'
    unfolding control_fault
    for-not-known e h =
        let S : stmt_staged σ js (bare whole) ≡ unknown (join J (stmt_staged σ is (bare q)) λ u v. or_unfit (some (pair u v)))
        = ap (stmt_staged σ js) (bare-four o p q (Syntax.for n w)) ∙ for-unknown σ js n w h k is o p (bare q) in
        record {
          fault-is = N.fault-is ∙ rw (e, parts-fault) (no_test over (eqb i.shape 0) (lowest (fault_of J) (fault_of (stmt_staged σ is (bare q)))))
              ∙ ap (lowest Unnamed) (sym (join-fault (λ (u : Code × Code) (v : Act). pair u v) J (stmt_staged σ is (bare q)))) ∙ sym (unknown-fault Act _) ∙ sym (ap fault_of S);
          laid = λ u j. absurd (unknown-fits _ u (sym S ∙ j));
          number = for-number (sym N.kind-is);
        }

    pub for-known : (j : ℕ) (d : Var) → v.fault ≡ Clear → var_of σ w ≡ some j → variable σ.vars j ≡ some d → k ≡ host_of σ.types d.type → is ≡ (j ∷ js) → v.base ≡ d.base
        → over ≡ looping j js → eqb i.shape 0 ≡ ordinal? σ.types d.type → i.low ≡ bits (info_at σ.types d.type).low → i.high ≡ bits (info_at σ.types d.type).high
        → ActTold σ bs js whole top l r l'
    unfolding control_fault lay_act
    for-known j d e hj hd hk hi hb ho hs hl hh =
        let mk : Code × Code → Act → Act = λ u m. for_loop n d.base (info_at σ.types d.type).low (info_at σ.types d.type).high u.0 u.1 m in
        let T = stmt_staged σ is (bare q) in
        let G = join J T λ u m. or_unfit (given (ordinal? σ.types d.type) (mk u m)) in
        let S : stmt_staged σ js (bare whole) ≡ kept_if (not (looping j js)) G
        = ap (stmt_staged σ js) (bare-four o p q (Syntax.for n w)) ∙ rw (hk, hi) (for-staged σ js n w j d hj hd o p (bare q)) in
        record {
          fault-is = N.fault-is ∙ rw (e, parts-fault, ho, hs) (sym (two-tests (looping j js) (ordinal? σ.types d.type) (lowest (fault_of J) (fault_of T))))
              ∙ ap (λ f. lowest f (cond (looping j js) Kind Clear)) (sym (given-fault mk (ordinal? σ.types d.type) J T)) ∙ sym (kept-fault (looping j js) G) ∙ sym (ap fault_of S);
          laid = λ u m.
              let kf = kept-fits (looping j js) G u (sym S ∙ m) in
              let gf = given-fits mk (ordinal? σ.types d.type) J T u kf.1 in
              let B = gf.1 in
              let A = join-fits (λ (u v : Code). pair u v) (wanted_staged σ k o) (wanted_staged σ k p) B.one B.one-fits in
              N.laid (rw (e, parts-fault, B.one-fits, B.two_fits, ho, hs, kf.0, gf.0) refl)
              ∙ for-lay d.base (info_at σ.types d.type).low (info_at σ.types d.type).high A.one A.two B.two hb hl hh (a.laid A.one A.one-fits) (b.laid A.two A.two_fits) (c.laid B.two B.two_fits)
              ∙ ap (λ (u : Code × Code). lay_act bs (mk u B.two) top l) A.made ∙ ap (λ (x : Act). lay_act bs x top l) B.made;
          number = for-number (sym N.kind-is);
        }
      where
        for-lay : (base : ℕ) (lo hi : ℤ) (u m : Code) (t : Act) → v.base ≡ base → i.low ≡ bits lo → i.high ≡ bits hi
            → out x.place x.top l₁ ≡ lay_code u top l → out y.place y.top l₂ ≡ lay_code m x.top l₁ → out z.place z.top l₃ ≡ lay_act bs t y.top l₂
            → lay (48 ∷ n ∷ v.base ∷ i.low ∷ i.high ∷ x.place ∷ y.place ∷ z.place ∷ []) z.top l₃ ≡ lay_act bs (for_loop n base lo hi u m t) top l
        for-lay base lo hi u m t hb hl hh e f g = rw (hb, hl, hh, ← e, ← f, ← g) refl
