-- The ways of `case`: from the answers for its selector and its arms.
use mathlib.Core.Path.{◌≡◌, refl, sym, ap, ◌∙◌}
use mathlib.Core.Bool.{Bool, true, false, cond, true≢false}
use mathlib.Core.List.{List, [], ◌∷◌}
use mathlib.Core.Option.{Option, none, some}
use Prim.Native.Nat.{ℕ, suc, ◌≤◌}
use native.Mathlib.Omega.{arith}
use lib.Dec.{eqb}
use Rattle.law.specs.Base.{◌>>=◌, given}
use Rattle.law.specs.Code.{Act, Cases, case_of}
use Rattle.law.specs.Elaborate.{Elaborated}
use Rattle.law.specs.Environment.{Environment}
use Rattle.law.specs.Forms.{arms_first}
use Rattle.code.specs.Layout.{out, lay, lay_code, lay_act, lay_cases}
use Rattle.rule_stages.specs.Stages.{Staged, wrong, unnamed, unfit, fits, staged, join, on_fits, or_unfit, selected, expr_staged, stmt_staged, arms_staged, cases_staged}
use Rattle.law.specs.Syntax as Syntax
use Rattle.law.specs.Trees.{first}
use Rattle.law_theorems.specs.Readings.{stack_at}
use Rattle.law.specs.Types.{ordinal?}
use Rattle.law_theorems.proofs.Inversion.{some_inj, bind-some}
use Rattle.code.proofs.LayoutRegions.{lay-g}
use Rattle.code.specs.LayoutRegions.{Same}
use Rattle.rule_stages.proofs.OnePassStmts.{case-staged}
use Rattle.text_heads.specs.declared.Verb.TheVariants as VB
use Rattle.text_heads.specs.Parts.{rest, expr_in, arms_in}
use Rattle.table_scope.specs.declared.Scope.{Scope}
use Rattle.rule_faults.specs.declared.Fault.{Fault}
use Rattle.rule_faults.specs.declared.Fault.TheVariants.{Clear, Kind, Name, Form}
use Rattle.table_scope.specs.declared.Loops.{Loops}
use Rattle.table_scope.specs.Descriptions.{info_of}
use Rattle.table_scope.specs.Scene.{Scene}
use Rattle.table_scope.proofs.Kept.{scene-kept}
use Rattle.table_scope.proofs.Telling.{shape-ordinal}
use Rattle.table_list.specs.Laid.{Laid}
use Rattle.rule_faults.specs.declared.Got.{Got}
use Rattle.rule_faults.specs.Got.{lowest, is_form, fault_of}
use Rattle.rule_expr_nodes.specs.Nodes.{Makes}
use Rattle.rule_expressions.specs.Walks.{Leaves, GivesExpr}
use Rattle.rule_expressions.proofs.Joining.{wrong-fits, unnamed-fits, unfit-fits, fits-inj}
use Rattle.rule_statements.specs.Walks.{bare, ActTold, Around, GivesVerb}
use Rattle.rule_labels.specs.Repeating.{labels_differ, Repeating}
use Rattle.rule_statements.specs.Cases.{ArmsTold, GivesArms, selected_kind, cased, FirstArm, an-arm, no_arm, case_made, case-ends, CaseBy, case-parts}
use Rattle.rule_statements.proofs.Faults.{lowest-form, form-left, form-right, form-is, form-none, Node, node_of}
use Rattle.rule_statements.proofs.Acts.{bare-two, act-none}
use Rattle.rule_statements.proofs.Shapes.{case-shape}
use Rattle.rule_statements.proofs.Cases.{cases-fault, cases-fits, selector_kind, selected-fits}
use Rattle.rule_statements.proofs.Ways.{stop-leaves, none-bind, around-next}
use Rattle.rule_statements.proofs.ArmLoop.{lay-is}

-- ---- forms

abbrev case_read : ℕ → Syntax.Expr → Syntax.Arms × ℕ → Option (Syntax.Stmt × ℕ)
case_read n e z = some (Syntax.case n e z.0, z.1)

case-cased : (n : ℕ) (o : Option Syntax.Expr) (B : Option (Syntax.Arms × ℕ))
    → (o >>= λ e. B >>= λ bs. arms_first bs.0 >>= λ b. some (Syntax.case n e b, bs.1)) ≡ (o >>= λ e. cased B >>= λ z. case_read n e z)
unfolding ◌>>=◌
case-cased n none B = refl
case-cased n (some e) none = refl
case-cased n (some e) (some b) = go (arms_first b.0)
  where
    go : (m : Option Syntax.Arms) → (m >>= λ c. case_read n e (c, b.1)) ≡ ((m >>= λ c. some (c, b.1)) >>= λ z. case_read n e z)
    go none = refl
    go (some c) = refl

no-arms : (n : ℕ) (o : Option Syntax.Expr) (B : Option (Syntax.Arms × ℕ)) → B ≡ none → (o >>= λ e. B >>= λ z. case_read n e z) ≡ none
unfolding ◌>>=◌
no-arms n none B h = refl
no-arms n (some e) B h = rw h refl

-- ---- faults

small-kind : (w : Fault) → lowest w Kind ≡ Kind → (b : Bool) → lowest Kind (cond b Clear Kind) ≡ lowest Kind w
small-kind Clear h true = refl
small-kind Clear h false = refl
small-kind Kind h true = refl
small-kind Kind h false = refl
small-kind Name h b = absurd (name-kind h)
  where
    name-kind : Name ≡ Kind → ⊥
    name-kind h = let z : ◌≡◌ {A = ℕ} 0 1 = cc in absurd (omega arith)
small-kind Form h b = absurd (true≢false (ap is_form h))

small-name : (w : Fault) → lowest w Kind ≡ Kind → (b : Bool) → lowest Name (cond b Clear Kind) ≡ lowest Name w
small-name Clear h true = refl
small-name Clear h false = refl
small-name Kind h true = refl
small-name Kind h false = refl
small-name Name h true = refl
small-name Name h false = refl
small-name Form h b = absurd (true≢false (ap is_form h))

module _ {B C : Type 0} (t : Elaborated → Bool) (mk : Elaborated → B → C) (T : ℕ → Staged B) (u : Bool) where
  selected-fault : (S : Staged Elaborated) → ((y : Elaborated) → S ≡ fits y → t y ≡ u)
      → fault_of (selected S T (λ x b. or_unfit (given (t x) (mk x b)))) ≡ lowest (lowest (fault_of S) (fault_of (T (selector_kind S)))) (cond u Clear Kind)
  unfolding selected join on_fits or_unfit given selector_kind
  selected-fault wrong e = refl
  selected-fault unnamed e = at_name (T 0) u
    where
      at_name : (b : Staged B) (v : Bool) → fault_of (join {A = Elaborated} unnamed b (λ x b. or_unfit (given (t x) (mk x b)))) ≡ lowest (lowest Name (fault_of b)) (cond v Clear Kind)
      at_name wrong v = refl
      at_name unnamed true = refl
      at_name unnamed false = refl
      at_name unfit true = refl
      at_name unfit false = refl
      at_name (fits b) true = refl
      at_name (fits b) false = refl
  selected-fault unfit e = at-kind (T 0) u
    where
      at-kind : (b : Staged B) (v : Bool) → fault_of (join {A = Elaborated} unfit b (λ x b. or_unfit (given (t x) (mk x b)))) ≡ lowest (lowest Kind (fault_of b)) (cond v Clear Kind)
      at-kind wrong v = refl
      at-kind unnamed true = refl
      at-kind unnamed false = refl
      at-kind unfit true = refl
      at-kind unfit false = refl
      at-kind (fits b) true = refl
      at-kind (fits b) false = refl
  selected-fault (fits y) e = rw (e y refl) (at-fits (T y.kind) u)
    where
      at-fits : (b : Staged B) (v : Bool) → fault_of (on_fits b (λ b. or_unfit (given v (mk y b)))) ≡ lowest (fault_of b) (cond v Clear Kind)
      at-fits wrong v = refl
      at-fits unnamed true = refl
      at-fits unnamed false = refl
      at-fits unfit true = refl
      at-fits unfit false = refl
      at-fits (fits b) true = refl
      at-fits (fits b) false = refl

-- what fits after a test
given-fits : {B C : Type 0} (v : Bool) (mk : B → C) (T : Staged B) (c : C) → on_fits T (λ b. or_unfit (given v (mk b))) ≡ fits c → (b : B) × ((T ≡ fits b) × (mk b ≡ c))
unfolding on_fits or_unfit given
given-fits v mk wrong c h = absurd (wrong-fits h)
given-fits v mk unnamed c h = absurd (unnamed-fits h)
given-fits v mk unfit c h = absurd (unfit-fits h)
given-fits true mk (fits b) c h = (b, (refl, fits-inj h))
given-fits false mk (fits b) c h = absurd (unfit-fits h)

kind-is : (x : Got) (S : Staged Elaborated) → x.fault ≡ fault_of S → ((y : Elaborated) → S ≡ fits y → x.kind ≡ y.kind) → selected_kind x ≡ selector_kind S
unfolding selected_kind selector_kind
kind-is x wrong f e = rw f refl
kind-is x unnamed f e = rw f refl
kind-is x unfit f e = rw f refl
kind-is x (fits y) f e = rw f (e y refl)

-- the fault of the arms and of their labels
labels-fault : (s l ts : List ℕ) (scope : Scope) (top : ℕ) (σ : Environment) (bs js : List ℕ) (k d n at : ℕ) (f w : Fault) (B : Option (Syntax.Arms × ℕ)) → B ≡ arms_in d n (first (stack_at s at)) → Scene s l ts scope top σ bs
    → f ≡ fault_of (arms_staged σ js k (bare B)) → Repeating s l scope at f w → fault_of (cases_staged σ js k (bare B)) ≡ lowest f w
unfolding arms_staged staged ◌>>=◌
labels-fault s l ts scope top σ bs js k d n at f w B eb S ef R =
    cases-fault σ js k (bare B) ∙ rw ef (go (arms_staged σ js k (bare B)) refl)
  where
    clear : (o : Option (Syntax.Arms × ℕ)) → B ≡ o → (c : Cases) → arms_staged σ js k (bare B) ≡ fits c → cond (labels_differ σ (bare B)) Clear Kind ≡ w
    clear none e c h = absurd (wrong-fits (rw e at h))
    clear (some a) e c h = rw e (sym (R.says (ef ∙ ap fault_of h) ts top σ bs S js k d n a c (sym eb ∙ e) (rw e at h)))

    go : (A : Staged Cases) → arms_staged σ js k (bare B) ≡ A → lowest (fault_of A) (cond (labels_differ σ (bare B)) Clear Kind) ≡ lowest (fault_of A) w
    go wrong h = refl
    go unnamed h = small-name w R.small (labels_differ σ (bare B))
    go unfit h = small-kind w R.small (labels_differ σ (bare B))
    go (fits c) h = clear B refl c h

-- ---- the ways

case-lay : (bs : List ℕ) (y : Elaborated) (cs : Cases) (n top : ℕ) (l : List ℕ) (x m : Got) (l₁ : List ℕ) (t : ℕ) (l₂ l₃ : List ℕ) → out x.place x.top l₁ ≡ lay_code y.code top l → Laid (lay (0 ∷ []) x.top l₁) t l₂
    → m.top ≡ (lay_cases bs cs x.top t l₂).top → l₃ ≡ (lay_cases bs cs x.top t l₂).list → lay (49 ∷ n ∷ x.place ∷ x.top ∷ []) m.top l₃ ≡ lay_act bs (case_of n y.code cs) top l
unfolding lay_act
case-lay bs y cs n top l x m l₁ t l₂ l₃ e K f g = rw (← e, lay-is (0 ∷ []) x.top l₁ t l₂ K, f, g) refl

module _ (s l ts : List ℕ) (scope : Scope) (loops : Loops) (d n at top : ℕ) (x : Got) (l₁ : List ℕ) (E : GivesExpr s l ts scope 33 at top x l₁) (t : Bool) (et : t ≡ is_form x.fault) where
  pub case-wrong : t ≡ true → GivesVerb s l ts scope loops VB.Case d n at top x l₁
  unfolding expr_staged
  case-wrong h = record {
    leaves = stop-leaves E.moves (sym et ∙ h);
    says = λ σ bs js A.
        act-none (case-shape d n (first (stack_at s at)) ∙ none-bind _ (form-none (expr_in 33 (first (stack_at s at))) _ _ _ (sym (E.says σ bs A.scene).told.fault-is ∙ form-is x.fault (sym et ∙ h)))) (sym et ∙ h);
  }

  module _ (h : t ≡ false) (u k : ℕ) (m r : Got) (l₂ l₃ l' : List ℕ) (K : Laid (lay (0 ∷ []) x.top l₁) u l₂) (ek : k ≡ selected_kind x) (GA : GivesArms s l₂ ts scope loops k d n x.top x.next u m l₃) (w : Fault)
      (R : Repeating s l₃ scope x.next m.fault w) where
    slot-up : x.top ≤ u
    slot-up = rw K.free (lay-g (0 ∷ []) x.top l₁).up

    slot_same : Same 0 x.top l₂ l₁
    slot_same = record { at = λ i a b. rw K.left ((lay-g (0 ∷ []) x.top l₁).below i b) }

    case-rest : rest (first (stack_at s at)) ≡ first (stack_at s x.next)
    case-rest = ap rest (E.moves.goes (sym et ∙ h)).1.here

    case-leaves : (e : Fault) → (is_form e ≡ false → is_form m.fault ≡ false) → Node e m.kind m.next (49 ∷ n ∷ x.place ∷ x.top ∷ []) m.top l₃ r l' → Leaves s at top l r l'
    case-leaves e f N =
        let up = slot-up in let gm = GA.grows in let gn = N.up in let ge = E.moves.grows in
        record {
          goes = λ i. (E.moves.goes (sym et ∙ h)).1.around ∙ GA.goes (f (ap is_form (sym N.fault-is) ∙ i)) ∙ ap (stack_at s) (sym N.next-is);
          keeps = record { at = λ i a b. N.below.at i a (omega arith) ∙ (GA.keeps up).at i a (omega arith) ∙ slot_same.at i a (omega arith) ∙ E.moves.keeps.at i a b };
          grows = omega arith;
        }

    module _ (Z : (d n : ℕ) → cased (arms_in d n (first (stack_at s x.next))) ≡ arms_in d n (first (stack_at s x.next)))
        (N : Node (lowest (lowest x.fault (lowest m.fault w)) (cond (eqb (info_of l₃ ts x.kind).shape 0) Clear Kind)) m.kind m.next (49 ∷ n ∷ x.place ∷ x.top ∷ []) m.top l₃ r l')
        (σ : Environment) (bs js : List ℕ) (A : Around s l ts scope loops (suc d) n at top σ bs js) where
      abbrev O : Option Syntax.Expr
      O = expr_in 33 (first (stack_at s at))

      abbrev B : Option (Syntax.Arms × ℕ)
      B = arms_in d n (first (stack_at s x.next))

      next-around : Around s l₁ ts scope loops (suc d) n x.next x.top σ bs js
      next-around = around-next A E.moves (sym et ∙ h)

      arms-scene : Scene s l₂ ts scope x.top σ bs
      arms-scene = scene-kept next-around.scene slot_same (omega arith)

      arms-told : ArmsTold σ bs js k B x.top u l₂ m l₃
      arms-told = GA.says σ bs js (record { scene = arms-scene; in-force = A.in-force; few-loops = let w = A.few-loops in omega arith; few = next-around.few }) slot-up

      after-scene : Scene s l₃ ts scope m.top σ bs
      after-scene = let up = slot-up in let gm = GA.grows in scene-kept arms-scene (GA.keeps up) (omega arith)

      kind-told : k ≡ selector_kind (expr_staged σ O)
      kind-told = let X = (E.says σ bs A.scene).told in ek ∙ kind-is x (expr_staged σ O) X.fault-is (λ y e. (X.laid y e).0)

      abbrev test : Elaborated → Bool
      test y = ordinal? σ.types y.kind

      case-stages : stmt_staged σ js (bare (O >>= λ e. B >>= λ z. case_read n e z)) ≡ selected (expr_staged σ O) (λ k. cases_staged σ js k (bare B)) (λ y cs. or_unfit (given (test y) (case_of n y.code cs)))
      case-stages = ap (stmt_staged σ js) (bare-two O B (Syntax.case n)) ∙ case-staged σ js n O (bare B)

      case-fault : r.fault ≡ fault_of (stmt_staged σ js (bare (O >>= λ e. B >>= λ z. case_read n e z)))
      case-fault =
          let X = (E.says σ bs A.scene).told in
          N.fault-is
          ∙ rw (X.fault-is, ← labels-fault s l₃ ts scope m.top σ bs js k d n x.next m.fault w B refl after-scene arms-told.fault-is R, kind-told, shape-ordinal after-scene x.kind)
          (sym (ap fault_of case-stages ∙ selected-fault test (λ (y : Elaborated) (cs : Cases). case_of n y.code cs) (λ k. cases_staged σ js k (bare B)) (ordinal? σ.types x.kind) (expr_staged σ O) (λ y e. ap (ordinal? σ.types) (sym (X.laid y e).0))))

      case-told : ActTold σ bs js (O >>= λ e. B >>= λ z. case_read n e z) top l r l'
      unfolding selector_kind
      case-told =
          let X = (E.says σ bs A.scene).told in
          record {
            fault-is = case-fault;
            laid = λ a i.
                let y = selected-fits test (λ (y : Elaborated) (cs : Cases). case_of n y.code cs) (λ k. cases_staged σ js k (bare B)) (expr_staged σ O) a (sym case-stages ∙ i) in
                let z = given-fits (test y.0) (λ (cs : Cases). case_of n y.0.code cs) (cases_staged σ js y.0.kind (bare B)) a y.1.1 in
                let q : k ≡ y.0.kind = kind-told ∙ ap selector_kind y.1.0 in
                let v = arms-told.laid z.0 (ap (λ j. arms_staged σ js j (bare B)) q ∙ (cases-fits σ js y.0.kind (bare B) z.0 z.1.0).0) in
                N.laid (sym N.fault-is ∙ case-fault ∙ ap fault_of i)
                ∙ case-lay bs y.0 z.0 n top l x m l₁ u l₂ l₃ (X.laid y.0 y.1.0).1 K v.0 v.1 ∙ ap (λ (c : Act). lay_act bs c top l) z.1.1;
            number = λ p i. bind-some i λ e he j. bind-some j λ z hz q. N.kind-is ∙ arms-told.number z hz ∙ ap (λ (c : Syntax.Stmt × ℕ). c.1) (some_inj q);
          }

    case-made : (f : Fault) → FirstArm s x.next f → Makes (case_made l₃ (info_of l₃ ts x.kind) n x m f w) r l' → GivesVerb s l ts scope loops VB.Case d n at top r l'
    unfolding case_made
    case-made Clear (an-arm Z) M =
        let N = node_of M in
        record {
          leaves = case-leaves _ (λ i. form-left m.fault w (form-right x.fault (lowest m.fault w) (form-left (lowest x.fault (lowest m.fault w)) _ i))) N;
          says = λ σ bs js A. rw (case-shape d n (first (stack_at s at)), case-rest, case-cased n (expr_in 33 (first (stack_at s at))) (arms_in d n (first (stack_at s x.next))), Z d n) (case-told Z N σ bs js A);
        }
    case-made Form (no_arm Z) M =
        let N = node_of M in
        let q : r.fault ≡ Form = N.fault-is ∙ rw (lowest-form x.fault) refl in
        record {
          leaves = case-leaves _ (λ i. absurd (true≢false (sym (ap is_form (sym N.fault-is ∙ q)) ∙ i))) N;
          says = λ σ bs js A. act-none (case-shape d n (first (stack_at s at)) ∙ rw (case-rest, case-cased n (expr_in 33 (first (stack_at s at))) (arms_in d n (first (stack_at s x.next)))) (no-arms n (expr_in 33 (first (stack_at s at))) (cased (arms_in d n (first (stack_at s x.next)))) (Z d n))) (ap is_form q);
        }
    case-made Kind x3 M = elim x3 [ ]
    case-made Name x4 M = elim x4 [ ]

  pub case-right : (r : Got) (l' : List ℕ) → t ≡ false → CaseBy s l₁ ts scope loops x d n r l' → GivesVerb s l ts scope loops VB.Case d n at top r l'
  case-right r l' h (case-parts u v k m l₂ l₃ K ev ek GA (case-ends f w F R M)) = case-made h u k m r l₂ l₃ l' K ek (rw ev at GA) w R f F M

pub ruleset case-laws = (case-wrong, case-right)
