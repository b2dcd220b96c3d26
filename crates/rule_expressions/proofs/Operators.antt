-- Operators and functions: the form's stages from those of its sides, and its node as it is laid.
use mathlib.Core.Path.{◌≡◌, refl, sym, ap, ◌∙◌}
use mathlib.Core.Bool.{Bool, true, false, cond, true≢false}
use mathlib.Core.List.{List, [], ◌∷◌, map}
use mathlib.Core.Option.{Option, none, some}
use Prim.Native.Nat.{ℕ, zero, suc, ◌<◌, ◌≤◌}
use native.Mathlib.Omega.{arith}
use lib.Dec.{eqb, ltb}
use lib.ListN.{get_or-eq_default}
use Rattle.law.specs.Base.{◌>>=◌, given, pick}
use Rattle.law.specs.Code.{calculate, short_cut, calculate1}
use Rattle.law.specs.Elaborate.{Elaborated, elaborated}
use Rattle.law.specs.Environment.{Environment}
use Rattle.law.specs.Forms.{h_op, h_fun, h_lazy}
use Rattle.law_theorems.specs.FormsByDepth.{expr, target, expr_form}
use Rattle.code.specs.Layout.{out, lay, lay_code, bits, both, node1}
use Rattle.law.specs.Names.{expr_of}
use Rattle.law.specs.Operators.{Op, plus, minus, times, power, divide, modulo, equal, unequal, less, at_most, greater, at_least, member, and_both, or_both, Fun, negate, not_of, abs, sqr, odd, ord, pred, succ, card, setmin, setmax, Rule, Rule1, both_booleans, operator_rule, function_rule}
use Rattle.law.specs.Rules.{plain_expr}
use Rattle.rule_stages.specs.Stages.{wrong, join, or_unfit, expr_staged}
use Rattle.law.specs.Syntax as Syntax
use Rattle.law.specs.Trees.{Trees, Run, first, list}
use Rattle.law_theorems.specs.Readings.{stack_at}
use Rattle.law.specs.Types.{Types, info_at, ordinal?, set?}
use Rattle.law.specs.Words.{worded_all}
use Rattle.law.specs.Elaborate.{elab_expr}
use Rattle.law_theorems.proofs.Inversion.{none-some, some_inj}
use Rattle.rule_stages.proofs.OnePassExprs.{binary-staged, short-staged, unary-staged}
use Rattle.table_kinds.specs.Kinds.{TwoSided, strict, lazy, row_number, op_number, told, told_of}
use Rattle.code_ops.specs.Operators.{operators}
use Rattle.table_kinds.specs.Functions.{fun_number, told1, node_of}
use Rattle.code_ops.specs.Functions.{functions}
use Rattle.table_kinds.proofs.TwoSided.{two-sided-rule}
use Rattle.table_kinds.proofs.OneSided.{one-sided-rule}
use Rattle.table_kinds.specs.Kinds.{Ruling, fits}
use Rattle.std.specs.Prelude.{Some, None}
use Rattle.text_heads.specs.declared.ExprHead.TheVariants.{Short, Two, One}
use Rattle.text_heads.specs.Heads.{expr_head_meant}
use Rattle.text_heads.specs.Parts.{rest, closed, expr_in}
use Rattle.text_heads.proofs.Expressions.{two-parts, one-part}
use Rattle.table_scope.specs.declared.Scope.{Scope}
use Rattle.rule_faults.specs.declared.Fault.TheVariants.{Kind, Form}
use Rattle.table_scope.specs.declared.Info.{Info}
use Rattle.table_scope.specs.Descriptions.{info_of}
use Rattle.table_scope.specs.Scene.{Scene}
use Rattle.table_scope.proofs.Kept.{scene-kept}
use Rattle.table_scope.proofs.Telling.{kinded, side-in, low_told, high-told}
use Rattle.rule_faults.specs.declared.Got.{Got}
use Rattle.rule_faults.specs.Got.{lowest, is_form, failed_got, Told}
use Rattle.rule_expr_nodes.specs.Bracket.{Closes}
use Rattle.rule_expr_nodes.specs.Nodes.{Makes}
use Rattle.rule_expr_compounds.specs.Operators.{ruled_node, operated, paired, ruled_node1, applied_clear, applied}
use Rattle.rule_expressions.specs.Sides.{GivesSecond, of_sides, two_in, GivesTwo}
use Rattle.rule_expressions.specs.Walks.{ExprTold, GivesExpr, form_in, GivesForm}
use Rattle.rule_expressions.proofs.Joining.{told-wrong, told-join, told-one, told-or}
use Rattle.rule_expressions.proofs.Closing.{staged-none, wrong-none, form-true, wrong-true, right-lowest, clear-form, closed-told, closed-two, closed-one, Stays, stays-failed, stays-node, stays-clear, rest-is, left-wrong, leaves-one, leaves-two}

-- ---- row 6 of an expression

pub expr-none : (σ : Environment) → expr_staged σ none ≡ wrong
unfolding expr_staged
expr-none σ = staged-none (expr_of σ) plain_expr (elab_expr σ.types σ.vars)

pub expr-wrong : (σ : Environment) (o : Option Syntax.Expr) → expr_staged σ o ≡ wrong → o ≡ none
unfolding expr_staged
expr-wrong σ o h = wrong-none (expr_of σ) plain_expr (elab_expr σ.types σ.vars) o h

-- no expression: a fault of row 6
pub expr-failed : (σ : Environment) (o : Option Syntax.Expr) (top : ℕ) (l : List ℕ) (g : Got) (l' : List ℕ) → o ≡ none → g.fault ≡ Form → ExprTold σ o top l g l'
expr-failed σ o top l g l' h e = record { told = rw (h, expr-none σ) (told-wrong e) }

-- and the other way round
pub expr-missing : {σ : Environment} {o : Option Syntax.Expr} {top : ℕ} {l : List ℕ} {g : Got} {l' : List ℕ} → ExprTold σ o top l g l' → is_form g.fault ≡ true → o ≡ none
expr-missing {σ} {o} t h = expr-wrong σ o (wrong-true (expr_staged σ o) (ap is_form (sym t.told.fault-is) ∙ h))

-- a last part and the bracket after it
pub expr-closed : {s : List ℕ} {b x : Got} (σ : Environment) (us : Trees Run) (o : Option Syntax.Expr) {top : ℕ} {l l' : List ℕ} → Closes s b x → (is_form b.fault ≡ false → us ≡ first (stack_at s b.next))
    → ExprTold σ o top l b l' → ExprTold σ (o >>= λ y. closed us y) top l x l'
expr-closed σ us o c p t = record { told = closed-told (expr_staged σ) (expr-none σ) (expr-wrong σ) us c p o t.told }

-- ---- numbers of operators and functions

pub op-known : (k : ℕ) → k < 15 → (o : Op) × (op_number o ≡ k) × (expr_head_meant (Two k) ≡ some (h_op o))
unfolding op_number
op-known zero h = (plus, refl, refl)
op-known (suc zero) h = (minus, refl, refl)
op-known (suc (suc zero)) h = (times, refl, refl)
op-known (suc (suc (suc zero))) h = (power, refl, refl)
op-known (suc (suc (suc (suc zero)))) h = (divide, refl, refl)
op-known (suc (suc (suc (suc (suc zero))))) h = (modulo, refl, refl)
op-known (suc (suc (suc (suc (suc (suc zero)))))) h = (equal, refl, refl)
op-known (suc (suc (suc (suc (suc (suc (suc zero))))))) h = (unequal, refl, refl)
op-known (suc (suc (suc (suc (suc (suc (suc (suc zero)))))))) h = (less, refl, refl)
op-known (suc (suc (suc (suc (suc (suc (suc (suc (suc zero))))))))) h = (at_most, refl, refl)
op-known (suc (suc (suc (suc (suc (suc (suc (suc (suc (suc zero)))))))))) h = (greater, refl, refl)
op-known (suc (suc (suc (suc (suc (suc (suc (suc (suc (suc (suc zero))))))))))) h = (at_least, refl, refl)
op-known (suc (suc (suc (suc (suc (suc (suc (suc (suc (suc (suc (suc zero)))))))))))) h = (member, refl, refl)
op-known (suc (suc (suc (suc (suc (suc (suc (suc (suc (suc (suc (suc (suc zero))))))))))))) h = (and_both, refl, refl)
op-known (suc (suc (suc (suc (suc (suc (suc (suc (suc (suc (suc (suc (suc (suc zero)))))))))))))) h = (or_both, refl, refl)
op-known (suc (suc (suc (suc (suc (suc (suc (suc (suc (suc (suc (suc (suc (suc (suc k))))))))))))))) h = absurd (omega arith)

pub fun-known : (k : ℕ) → k < 11 → (f : Fun) × (fun_number f ≡ k) × (expr_head_meant (One k) ≡ some (h_fun f))
unfolding fun_number
fun-known zero h = (negate, refl, refl)
fun-known (suc zero) h = (not_of, refl, refl)
fun-known (suc (suc zero)) h = (abs, refl, refl)
fun-known (suc (suc (suc zero))) h = (sqr, refl, refl)
fun-known (suc (suc (suc (suc zero)))) h = (odd, refl, refl)
fun-known (suc (suc (suc (suc (suc zero))))) h = (ord, refl, refl)
fun-known (suc (suc (suc (suc (suc (suc zero)))))) h = (pred, refl, refl)
fun-known (suc (suc (suc (suc (suc (suc (suc zero))))))) h = (succ, refl, refl)
fun-known (suc (suc (suc (suc (suc (suc (suc (suc zero)))))))) h = (card, refl, refl)
fun-known (suc (suc (suc (suc (suc (suc (suc (suc (suc zero))))))))) h = (setmin, refl, refl)
fun-known (suc (suc (suc (suc (suc (suc (suc (suc (suc (suc zero)))))))))) h = (setmax, refl, refl)
fun-known (suc (suc (suc (suc (suc (suc (suc (suc (suc (suc (suc k))))))))))) h = absurd (omega arith)

some-bind : {A B : Type 0} (a : A) (f : A → Option B) → (some a >>= f) ≡ f a
unfolding ◌>>=◌
some-bind a f = refl

none-bind : {A B : Type 0} (f : A → Option B) → (none >>= f) ≡ none
unfolding ◌>>=◌
none-bind f = refl

pub two-form : (k d : ℕ) (us : Trees Run) (o : Op) → expr_head_meant (Two k) ≡ some (h_op o)
    → form_in (Two k) d us ≡ (expr_in d us >>= λ a. (expr_in d (rest us) >>= λ b. closed (rest (rest us)) b) >>= λ b. some (Syntax.binary o a b))
unfolding form_in expr_form
two-form k d us o e = rw e (some-bind (h_op o) (λ h. worded_all us >>= λ vs. expr_form (λ t. expr d t) (λ t. target d t) h (list vs)) ∙ two-parts d us (Syntax.binary o) ∙ closed-two (Syntax.binary o) (expr_in d us) (expr_in d (rest us)) (rest (rest us)))

pub short-form : (q : Bool) (d : ℕ) (us : Trees Run)
    → form_in (Short q) d us ≡ (expr_in d us >>= λ a. (expr_in d (rest us) >>= λ b. closed (rest (rest us)) b) >>= λ b. some (Syntax.short_circuit q a b))
unfolding form_in expr_form
short-form q d us = some-bind (h_lazy q) (λ h. worded_all us >>= λ vs. expr_form (λ t. expr d t) (λ t. target d t) h (list vs)) ∙ two-parts d us (Syntax.short_circuit q) ∙ closed-two (Syntax.short_circuit q) (expr_in d us) (expr_in d (rest us)) (rest (rest us))

pub one_form : (k d : ℕ) (us : Trees Run) (f : Fun) → expr_head_meant (One k) ≡ some (h_fun f)
    → form_in (One k) d us ≡ ((expr_in d us >>= λ a. closed (rest us) a) >>= λ a. some (Syntax.unary f a))
unfolding form_in expr_form
one_form k d us f e = rw e (some-bind (h_fun f) (λ h. worded_all us >>= λ vs. expr_form (λ t. expr d t) (λ t. target d t) h (list vs)) ∙ one-part d us f ∙ closed-one (Syntax.unary f) (expr_in d us) (rest us))

past_two : (k d : ℕ) (us : Trees Run) → 15 ≤ k → form_in (Two k) d us ≡ none
unfolding form_in ◌>>=◌
past_two k d us h = rw (get_or-eq_default (map (λ (o : Op). some (h_op o)) operators) none h) refl

past_one : (k d : ℕ) (us : Trees Run) → 11 ≤ k → form_in (One k) d us ≡ none
unfolding form_in ◌>>=◌
past_one k d us h = rw (get_or-eq_default (map (λ (f : Fun). some (h_fun f)) functions) none h) refl

-- ---- the nodes

given-rule : (t : Bool) (u r : Rule1) → given t u ≡ some r → u ≡ r
unfolding given
given-rule true u r h = some_inj h
given-rule false u r h = absurd (none-some h)

-- the numbers of a node of one part
numbers-are : (p lo hi : ℕ) (Γ : Types) (f : Fun) (k : ℕ) (r : Rule1) → lo ≡ bits (info_at Γ k).low → hi ≡ bits (info_at Γ k).high → function_rule Γ f k ≡ some r
    → cond (ltb (node_of r.operation) 38) (node_of r.operation ∷ p ∷ []) (node_of r.operation ∷ p ∷ lo ∷ hi ∷ []) ≡ node1 r.operation p
unfolding function_rule node1
numbers-are p lo hi Γ negate k r a b h = rw (← given-rule (eqb k 0) _ r h) refl
numbers-are p lo hi Γ not_of k r a b h = rw (← given-rule (eqb k 1) _ r h) refl
numbers-are p lo hi Γ abs k r a b h = rw (← given-rule (eqb k 0) _ r h) refl
numbers-are p lo hi Γ sqr k r a b h = rw (← given-rule (eqb k 0) _ r h) refl
numbers-are p lo hi Γ odd k r a b h = rw (← given-rule (eqb k 0) _ r h) refl
numbers-are p lo hi Γ ord k r a b h = rw (← given-rule (ordinal? Γ k) _ r h) refl
numbers-are p lo hi Γ pred k r a b h = rw (← given-rule (ordinal? Γ k) _ r h, a, b) refl
numbers-are p lo hi Γ succ k r a b h = rw (← given-rule (ordinal? Γ k) _ r h, a, b) refl
numbers-are p lo hi Γ card k r a b h = rw (← given-rule (set? Γ k) _ r h) refl
numbers-are p lo hi Γ setmin k r a b h = rw (← given-rule (set? Γ k) _ r h) refl
numbers-are p lo hi Γ setmax k r a b h = rw (← given-rule (set? Γ k) _ r h) refl

-- what kinds come to at two sides, and the code of both
abbrev elab_of : Types → TwoSided → Elaborated → Elaborated → Option Elaborated
elab_of Γ (strict o) x y = operator_rule Γ o x.kind y.kind >>= λ r. some (elaborated r.kind (calculate r.operation x.code y.code))
elab_of Γ (lazy q) x y = given (both_booleans x.kind y.kind) (elaborated 1 (short_cut q x.code y.code))

two-staged : (σ : Environment) (o : TwoSided) (a b : Option Syntax.Expr)
    → expr_staged σ (a >>= λ x. b >>= λ y. some (of_sides o x y)) ≡ join (expr_staged σ a) (expr_staged σ b) λ x y. or_unfit (elab_of σ.types o x y)
two-staged σ (strict o) a b = binary-staged σ o a b
two-staged σ (lazy q) a b = short-staged σ q a b

-- two sides without a fault: a, laid on l₀ from t₀ on, and b after it
module _ {s ts : List ℕ} {scope : Scope} {σ : Environment} {bs : List ℕ} {l₂ : List ℕ} {t₂ : ℕ} (S : Scene s l₂ ts scope t₂ σ bs) {t₀ : ℕ} {l₀ : List ℕ} where
  module _ {l₁ : List ℕ} (a b : Got) (x y : Elaborated) (ka : a.kind ≡ x.kind) (la : out a.place a.top l₁ ≡ lay_code x.code t₀ l₀) (kb : b.kind ≡ y.kind) (lb : out b.place b.top l₂ ≡ lay_code y.code a.top l₁) where
    operated-told : (o : TwoSided)
        → Told (or_unfit (elab_of σ.types o x y)) (λ e. e.kind) (λ e. lay_code e.code) t₀ l₀ (operated l₂ ts (row_number o) a b).got (operated l₂ ts (row_number o) a b).list
    unfolding operated told ruled_node lay_code lay ◌>>=◌ given pick
    operated-told o =
        rw (side-in S a.kind, side-in S b.kind, ka, kb, two-sided-rule σ.types (kinded S) x.kind y.kind o) (go o)
      where
        by-rule : (m : Option Rule) → Told (or_unfit (m >>= λ r. some (elaborated r.kind (calculate r.operation x.code y.code)))) (λ e. e.kind) (λ e. lay_code e.code) t₀ l₀
            (ruled_node (told m) a.place b.place b.next b.top l₂).got (ruled_node (told m) a.place b.place b.next b.top l₂).list
        by-rule none = told-or none (λ _. refl) (λ c e. absurd (none-some e))
        by-rule (some r) = told-or (some (elaborated r.kind (calculate r.operation x.code y.code))) (λ e. absurd (none-some (sym e))) (λ c e. rw (← some_inj e) (refl, refl, rw (← la, ← lb) refl))

        by-test : (q t : Bool) → Told (or_unfit (given t (elaborated 1 (short_cut q x.code y.code)))) (λ e. e.kind) (λ e. lay_code e.code) t₀ l₀
            (ruled_node (pick t (fits (both q) 1) None) a.place b.place b.next b.top l₂).got (ruled_node (pick t (fits (both q) 1) None) a.place b.place b.next b.top l₂).list
        by-test q true = told-or (some (elaborated 1 (short_cut q x.code y.code))) (λ e. absurd (none-some (sym e))) (λ c e. rw (← some_inj e) (refl, refl, rw (← la, ← lb) refl))
        by-test q false = told-or none (λ _. refl) (λ c e. absurd (none-some e))

        go : (o : TwoSided) → Told (or_unfit (elab_of σ.types o x y)) (λ e. e.kind) (λ e. lay_code e.code) t₀ l₀
            (ruled_node (told_of σ.types o x.kind y.kind) a.place b.place b.next b.top l₂).got (ruled_node (told_of σ.types o x.kind y.kind) a.place b.place b.next b.top l₂).list
        go (strict o) = by-rule (operator_rule σ.types o x.kind y.kind)
        go (lazy q) = by-test q (both_booleans x.kind y.kind)

  one_told : (a : Got) (x : Elaborated) → a.kind ≡ x.kind → out a.place a.top l₂ ≡ lay_code x.code t₀ l₀ → (f : Fun)
      → Told (or_unfit (function_rule σ.types f x.kind >>= λ r. some (elaborated r.kind (calculate1 r.operation x.code)))) (λ e. e.kind) (λ e. lay_code e.code) t₀ l₀
      (applied_clear l₂ ts (fun_number f) a).got (applied_clear l₂ ts (fun_number f) a).list
  unfolding applied_clear told1 ruled_node1 lay_code lay ◌>>=◌
  one_told a x ka la f =
      rw (side-in S a.kind, ka, one-sided-rule σ.types (kinded S) x.kind f) (go (function_rule σ.types f x.kind) refl)
    where
      go : (m : Option Rule1) → function_rule σ.types f x.kind ≡ m → Told (or_unfit (m >>= λ r. some (elaborated r.kind (calculate1 r.operation x.code)))) (λ e. e.kind) (λ e. lay_code e.code) t₀ l₀
          (ruled_node1 (told1 m) (info_of l₂ ts x.kind) a.place a.next a.top l₂).got (ruled_node1 (told1 m) (info_of l₂ ts x.kind) a.place a.next a.top l₂).list
      go none h = told-or none (λ _. refl) (λ c e. absurd (none-some e))
      go (some r) h =
          told-or (some (elaborated r.kind (calculate1 r.operation x.code))) (λ e. absurd (none-some (sym e)))
          (λ c e. rw (← some_inj e, numbers-are a.place _ _ σ.types f x.kind r (low_told S x.kind) (high-told S x.kind) h) (refl, refl, rw (← la) refl))

-- ---- where the walk goes on

stays-ruled : (x : Ruling) (u v q t : ℕ) (l : List ℕ) → Stays (ruled_node x u v q t l) q t l
unfolding ruled_node
stays-ruled None u v q t l = stays-failed Kind 0 q t l
stays-ruled (Some r) u v q t l = stays-node r.kind q t (r.node ∷ u ∷ v ∷ []) l

pub stays-paired : (l ts : List ℕ) (op : ℕ) (a b : Got) → Stays (paired l ts op a b) b.next b.top l
unfolding paired operated
stays-paired l ts op a b = stays-clear (lowest a.fault b.fault) 0 b.next b.top l _ (stays-ruled _ a.place b.place b.next b.top l)

stays-ruled1 : (x : Ruling) (i : Info) (u q t : ℕ) (l : List ℕ) → Stays (ruled_node1 x i u q t l) q t l
unfolding ruled_node1
stays-ruled1 None i u q t l = stays-failed Kind 0 q t l
stays-ruled1 (Some r) i u q t l = stays-node r.kind q t (cond (ltb r.node 38) (r.node ∷ u ∷ []) (r.node ∷ u ∷ i.low ∷ i.high ∷ [])) l

pub stays-applied : (l ts : List ℕ) (f : ℕ) (a : Got) → Stays (applied l ts f a) a.next a.top l
unfolding applied applied_clear
stays-applied l ts f a = stays-clear a.fault 0 a.next a.top l _ (stays-ruled1 _ (info_of l ts a.kind) a.place a.next a.top l)

-- ---- the walk

module _ (s l ts : List ℕ) (scope : Scope) (d at top : ℕ) (a : Got) (l₁ : List ℕ) (A : GivesExpr s l ts scope d at top a l₁) where
  -- a first side without a form
  module _ (t : Bool) (e : t ≡ is_form a.fault) where
    pub two-left : (op : ℕ) → t ≡ true → GivesTwo s l ts scope op d at top a l₁
    two-left op z = record {
      leaves = left-wrong A.moves (sym e ∙ z);
      says = λ o h σ bs S.
          let n = expr-missing (A.says σ bs S) (sym e ∙ z) in
          expr-failed σ (two_in o d (first (stack_at s at))) top l a l₁ (rw n (none-bind _)) (form-true a.fault (sym e ∙ z));
    }

    -- both sides
    module _ (z : t ≡ false) (b : Got) (l₂ : List ℕ) (B : GivesExpr s l₁ ts scope d a.next a.top b l₂) (x : Got) (C : Closes s b x) (r : Got) (l' : List ℕ) where
      abbrev us : Trees Run
      us = first (stack_at s at)

      -- what is told of the second side and the bracket
      second : (σ : Environment) (bs : List ℕ) → Scene s l ts scope top σ bs
          → ExprTold σ (expr_in d (rest us) >>= λ y. closed (rest (rest us)) y) a.top l₁ x l₂
      second σ bs S =
          let f = (A.moves.goes (sym e ∙ z)).1 in
          let S₁ = scene-kept S A.moves.keeps A.moves.grows in
          expr-closed σ (rest (rest us)) (expr_in d (rest us)) C
          (λ h. ap rest (rest-is f) ∙ rest-is (B.moves.goes h).1)
          (rw (rest-is f) (B.says σ bs S₁))

      last-scene : (σ : Environment) (bs : List ℕ) → Scene s l ts scope top σ bs → Scene s l₂ ts scope b.top σ bs
      last-scene σ bs S = scene-kept (scene-kept S A.moves.keeps A.moves.grows) B.moves.keeps B.moves.grows

      two-both : (op : ℕ) → Makes (paired l₂ ts op a x) r l' → GivesTwo s l ts scope op d at top r l'
      unfolding paired
      two-both op m = record {
        leaves = leaves-two A.moves (sym e ∙ z) B.moves C (stays-paired l₂ ts op a x) (λ g. right-lowest a.fault x.fault (clear-form (lowest a.fault x.fault) 0 x.next x.top l₂ _ g)) m;
        says = λ o n σ bs S.
            let T = (A.says σ bs S).told in
            let U = (second σ bs S).told in
            record {
              told = rw (two-staged σ o (expr_in d us) (expr_in d (rest us) >>= λ y. closed (rest (rest us)) y), m.given, m.left, n)
                  (told-join a.fault x.fault 0 x.next x.top l₂ (operated l₂ ts (row_number o) a x) (expr_staged σ (expr_in d us)) (expr_staged σ (expr_in d (rest us) >>= λ y. closed (rest (rest us)) y)) _
                  T.fault-is U.fault-is
                  (λ p q ep eq. operated-told (last-scene σ bs S) a x p q (T.laid p ep).0 (T.laid p ep).1 (U.laid q eq).0 (U.laid q eq).1 o));
            };
      }

    pub two-second : (op : ℕ) → t ≡ false → (r : Got) (l' : List ℕ) → GivesSecond s l₁ ts scope op d a r l' → GivesTwo s l ts scope op d at top r l'
    two-second op z r l' G = two-both z G.side G.list G.gives G.past G.closes r l' op G.makes

  -- one side
  one-made : (x : Got) → Closes s a x → (f : ℕ) (k : Fun) → fun_number k ≡ f → expr_head_meant (One f) ≡ some (h_fun k) → (r : Got) (l' : List ℕ) → Makes (applied l₁ ts f x) r l' → GivesForm s l ts scope (One f) d at top r l'
  unfolding applied
  one-made x C f k n i r l' m = record {
    leaves = leaves-one A.moves C (stays-applied l₁ ts f x) (λ g. clear-form x.fault 0 x.next x.top l₁ _ g) m;
    says = λ σ bs S.
        let us = first (stack_at s at) in
        let S₁ = scene-kept S A.moves.keeps A.moves.grows in
        let T = (expr-closed σ (rest us) (expr_in d us) C (λ g. rest-is (A.moves.goes g).1) (A.says σ bs S)).told in
        record {
          told = rw (one_form f d us k i, unary-staged σ k (expr_in d us >>= λ y. closed (rest us) y), m.given, m.left, ← n)
              (told-one x.fault 0 x.next x.top l₁ (applied_clear l₁ ts (fun_number k) x) (expr_staged σ (expr_in d us >>= λ y. closed (rest us) y)) _ T.fault-is
              (λ p ep. one_told S₁ x p (T.laid p ep).0 (T.laid p ep).1 k));
        };
  }

  pub one_side : (x : Got) → Closes s a x → (f : ℕ) → f < 11 → (r : Got) (l' : List ℕ) → Makes (applied l₁ ts f x) r l' → GivesForm s l ts scope (One f) d at top r l'
  one_side x C f h r l' m = let k = fun-known f h in one-made x C f k.0 k.1 k.2 r l' m

-- by the head word: an operator's number is its row, `and_then` and `or_else` have theirs
module _ (s l ts : List ℕ) (scope : Scope) (op d at top : ℕ) (r : Got) (l' : List ℕ) (G : GivesTwo s l ts scope op d at top r l') where
  pub two-gives : op < 15 → GivesForm s l ts scope (Two op) d at top r l'
  two-gives h =
      let o = op-known op h in
      record { leaves = G.leaves; says = λ σ bs S. rw (two-form op d (first (stack_at s at)) o.0 o.2) (G.says (strict o.0) (sym o.1) σ bs S) }

  pub short-gives : (q : Bool) → op ≡ row_number (lazy q) → GivesForm s l ts scope (Short q) d at top r l'
  short-gives q h = record { leaves = G.leaves; says = λ σ bs S. rw (short-form q d (first (stack_at s at))) (G.says (lazy q) h σ bs S) }

-- a number that no operator or function has
pub two_none : (s l ts : List ℕ) (scope : Scope) (op d at top q : ℕ) (r : Got) → 15 ≤ op → r ≡ failed_got Form 0 q top → GivesForm s l ts scope (Two op) d at top r l
two_none s l ts scope op d at top q r h e = rw e (record {
  leaves = record { goes = λ i. absurd (true≢false i); keeps = record { at = λ i a b. refl }; grows = omega arith };
  says = λ σ bs S. expr-failed σ (form_in (Two op) d (first (stack_at s at))) top l (failed_got Form 0 q top) l (past_two op d (first (stack_at s at)) h) refl;
})

pub one_none : (s l ts : List ℕ) (scope : Scope) (f d at top q : ℕ) (r : Got) → 11 ≤ f → r ≡ failed_got Form 0 q top → GivesForm s l ts scope (One f) d at top r l
one_none s l ts scope f d at top q r h e = rw e (record {
  leaves = record { goes = λ i. absurd (true≢false i); keeps = record { at = λ i a b. refl }; grows = omega arith };
  says = λ σ bs S. expr-failed σ (form_in (One f) d (first (stack_at s at))) top l (failed_got Form 0 q top) l (past_one f d (first (stack_at s at)) h) refl;
})

pub second_is : (s l ts : List ℕ) (scope : Scope) (op d : ℕ) (a b : Got) (l₂ : List ℕ) (x r : Got) (l' : List ℕ) → GivesExpr s l ts scope d a.next a.top b l₂ → Closes s b x → Makes (paired l₂ ts op a x) r l'
    → GivesSecond s l ts scope op d a r l'
second_is s l ts scope op d a b l₂ x r l' B C M = record { side = b; list = l₂; past = x; gives = B; closes = C; makes = M }

pub ruleset two-laws = (two-left, two-second)

pub ruleset one_laws = (one_none, one_side)
