-- The rules of a `case`: each arm by itself, and labels that differ.
use mathlib.Core.Path.{◌≡◌, refl, sym, ap, ◌∙◌}
use mathlib.Core.Bool.{Bool, true, false, ◌&&◌}
use mathlib.Core.List.{List}
use mathlib.Core.Option.{some}
use Prim.Native.Nat.{ℕ, ◌<◌}
use lib.ListN.{length}
use Rattle.law.specs.Base.{◌>>=◌, each}
use Rattle.law.specs.Environment.{Environment}
use Rattle.law.specs.Forms.{is_arm, is_else, arms_first}
use Rattle.law.specs.Names.{constant_of, stmt_of, arms_of}
use Rattle.law.specs.Rules.{all_plain, differ, labels_of, kept_stmt, kept_arms}
use Rattle.law.specs.Script as Script
use Rattle.law.specs.Syntax as Syntax
use Rattle.law.specs.Syntax.{Constant}
use Rattle.law.specs.Trees.{word, form, Trees, end, ◌then◌, Run, first, later}
use Rattle.law_theorems.specs.Readings.{stack_at}
use Rattle.law_theorems.proofs.Inversion.{none-some, some_inj, bind-some}
use Rattle.text_heads.specs.declared.Verb.TheVariants as VB
use Rattle.text_heads.specs.Parts.{rest, stmt_in, arm_in, arms_in, arm_head_in, else_arm_in}
use Rattle.text_parts.specs.Parts.{ShutAt}
use Rattle.text_skips.specs.Skips.{Skips}
use Rattle.rule_constants.specs.Plain.{plain_first}
use Rattle.table_scope.specs.declared.Scope.{Scope}
use Rattle.table_scope.specs.declared.Loops.{Loops}
use Rattle.rule_labels.proofs.Finding.{arms-plain}
use Rattle.rule_labels.specs.Differ.{Differs}
use Rattle.rule_statements.specs.declared.arms.NextArm.{NextArm}
use Rattle.rule_statements.specs.declared.arms.NextArm.TheVariants as next-arm
use Rattle.rule_statements.specs.Cases.{ArmFormAt, ArmComes}
use Rattle.rule_statements.specs.Chains.{many}
use Rattle.rule_statements.proofs.Shapes.{case-shape}
use Rattle.rule_restrictions.specs.declared.arm_parts.AfterArm.{AfterArm}
use Rattle.rule_restrictions.specs.declared.arm_parts.AfterArm.TheVariants as after
use Rattle.rule_restrictions.specs.Walks.{Near, KeepsStmt, KeepsVerb, KeepsArm, KeepsArms, KeepsCases}
use Rattle.rule_restrictions.specs.ArmParts.{AfterLabels}
use Rattle.rule_restrictions.proofs.Passing.{near-in, closed_is, no_end, expr-some, skip-then, skip-rest, skip-falls, expr-first, and_one, and_none}
use Rattle.rule_restrictions.proofs.ArmLabels.{arm-from}

-- ---- an arm

module _ (s l : List ℕ) (scope : Scope) (loops : Loops) (d at : ℕ) (x : AfterArm) (A : AfterLabels s at x) where
  pub arm-stmt : (p : ℕ) (r : Bool) → x ≡ after.Stmt p → KeepsStmt s l scope loops d p r → KeepsArm s l scope loops d at r
  arm-stmt p r e K = record {
    says = λ σ js N n a ls y h hl hy.
        let g = (rw e at A.says) d n a (arm-from d n (first (stack_at s at)) a h) in
        K.says σ js N n a.1 y g.0 hy
        ∙ sym (ap (λ (b : Bool). b && kept_stmt y js) (g.1.says σ N.held.scene.table (length N.held.bs) N.held.scene.fair ls hl));
  }

  pub arm-broken : x ≡ after.Broken → KeepsArm s l scope loops d at false
  arm-broken e = record {
    says = λ σ js N n a ls y h hl hy.
        let g = (rw e at A.says) d n a (arm-from d n (first (stack_at s at)) a h) in
        sym (ap (λ (b : Bool). b && kept_stmt y js) (g.says σ N.held.scene.table (length N.held.bs) N.held.scene.fair ls hl));
  }

  pub arm-nothing : x ≡ after.Nothing → KeepsArm s l scope loops d at true
  arm-nothing e = record { says = λ σ js N n a ls y h hl hy. absurd ((rw e at A.says) d n a (arm-from d n (first (stack_at s at)) a h)) }

pub ruleset arm-laws = (arm-stmt, arm-broken, arm-nothing)

-- ---- arms by their heads

arms-arm : (d n : ℕ) (w : Run) (us ts : Trees Run) → arm_head_in w ≡ some is_arm
    → arms_in d n (form (word w then us) then ts) ≡ (arm_in d n us >>= λ a. arms_in d a.1.1 ts >>= λ bs. some (Syntax.arm a.0 a.1.0 bs.0, bs.1))
unfolding arms_in ◌>>=◌
arms-arm d n w us ts h = rw (arms_in, h) refl

arms-else : (d n : ℕ) (w : Run) (us ts : Trees Run) → arm_head_in w ≡ some is_else → arms_in d n (form (word w then us) then ts) ≡ else_arm_in d n us ts
unfolding arms_in ◌>>=◌
arms-else d n w us ts h = rw (arms_in, h) refl

-- the statement of a last `else`
else-part : {P : Type 0} (d n : ℕ) (us ts : Trees Run) (u : Syntax.Arms × ℕ) → else_arm_in d n us ts ≡ some u → ((a : Syntax.Stmt × ℕ) → stmt_in d n us ≡ some a → (Syntax.else_arm a.0, a.1) ≡ u → P) → P
unfolding else_arm_in stmt_in
else-part d n us end u h k = bind-some h λ a ha c. closed_is c λ z i. k a ha i
else-part d n us (t then ts) u h k = none-some h

-- ---- all arms

-- those from `at` to p keep the rules
pub record Arming (s l : List ℕ) (scope : Scope) (loops : Loops) (d at p : ℕ) : Type 0 where
  pub done : (σ : Environment) (js : List ℕ) → Near s l scope loops d σ js → (n : ℕ) (v : Syntax.Arms × ℕ) (b : Script.Arms) → arms_in d n (first (stack_at s at)) ≡ some v → arms_of σ v.0 ≡ some b
      → (m : ℕ) × ((u : Syntax.Arms × ℕ) × ((c : Script.Arms) × ((arms_in d m (first (stack_at s p)) ≡ some u) × ((arms_of σ u.0 ≡ some c) × (kept_arms b js ≡ kept_arms c js)))))

pub arms_start : (s l : List ℕ) (scope : Scope) (loops : Loops) (d at : ℕ) → Arming s l scope loops d at at
arms_start s l scope loops d at = record { done = λ σ js N n v b h k. (n, (v, (b, (h, (k, refl))))) }

-- the first arm and the others
first-arm : {P : Type 0} (σ : Environment) (js : List ℕ) (d m : ℕ) (w : Run) (us ts : Trees Run) (u : Syntax.Arms × ℕ) (c : Script.Arms) → arm_head_in w ≡ some is_arm → arms_in d m (form (word w then us) then ts) ≡ some u → arms_of σ u.0 ≡ some c
    → ((a : List Constant × (Syntax.Stmt × ℕ)) (ls : List Script.Const) (x : Script.Stmt) (b : Syntax.Arms × ℕ) (ys : Script.Arms) → arm_in d m us ≡ some a → each (constant_of σ) a.0 ≡ some ls → stmt_of σ a.1.0 ≡ some x
    → arms_in d a.1.1 ts ≡ some b → arms_of σ b.0 ≡ some ys → kept_arms c js ≡ ((all_plain ls && kept_stmt x js) && kept_arms ys js) → P) → P
unfolding arms_of kept_arms
first-arm σ js d m w us ts u c e h k f =
    bind-some (sym (arms-arm d m w us ts e) ∙ h) λ a ha h'. bind-some h' λ b hb q. bind-some (rw (← some_inj q) at k) λ ls hls k'. bind-some k' λ x hx k''. bind-some k'' λ ys hys j.
    f a ls x b ys ha hls hx hb hys (ap (λ (v : Script.Arms). kept_arms v js) (sym (some_inj j)))

module _ (s l : List ℕ) (scope : Scope) (loops : Loops) (d at p : ℕ) (I : Arming s l scope loops d at p) (e : NextArm) (E : ArmComes s p e) where
  pub arms_end : (q : ℕ) → e ≡ next-arm.Past q → KeepsArms s l scope loops d at true
  unfolding arms_in arms_of kept_arms
  arms_end q f = record {
    says = λ σ js N n v b h k.
        let C : ShutAt s p q = rw f at E.says in
        let i = I.done σ js N n v b h k in
        let a : (Syntax.no_else, i.0) ≡ i.1.0 = some_inj (ap (arms_in d i.0) (sym C.here) ∙ i.1.1.1.0) in
        let c : Script.no_else ≡ i.1.1.0 = some_inj (ap (λ (w : Syntax.Arms × ℕ). arms_of σ w.0) a ∙ i.1.1.1.1.0) in
        sym (i.1.1.1.1.1 ∙ ap (λ (w : Script.Arms). kept_arms w js) (sym c));
  }

  pub arms-nothing : e ≡ next-arm.Nothing → KeepsArms s l scope loops d at true
  arms-nothing f = record {
    says = λ σ js N n v b h k. let i = I.done σ js N n v b h k in none-some (sym ((rw f at E.says) d i.0) ∙ i.1.1.1.0);
  }

  pub arms_last : (q : ℕ) (r : Bool) → e ≡ next-arm.Else q → KeepsStmt s l scope loops d q r → KeepsArms s l scope loops d at r
  unfolding arms_of kept_arms
  arms_last q r f K = record {
    says = λ σ js N n v b h k.
        let F : ArmFormAt is_else s p q = rw f at E.says in
        let i = I.done σ js N n v b h k in
        else-part d i.0 (first (stack_at s q)) (first (later (stack_at s q))) i.1.0
        (sym (arms-else d i.0 F.head (first (stack_at s q)) (first (later (stack_at s q))) F.headed) ∙ ap (arms_in d i.0) (sym F.here) ∙ i.1.1.1.0) λ a ha z.
        bind-some (ap (λ (w : Syntax.Arms × ℕ). arms_of σ w.0) z ∙ i.1.1.1.1.0) λ x hx j.
        K.says σ js N i.0 a x ha hx ∙ sym (i.1.1.1.1.1 ∙ ap (λ (w : Script.Arms). kept_arms w js) (sym (some_inj j)));
  }

  module _ (q : ℕ) (f : e ≡ next-arm.Arm q) (t : Bool) (K : KeepsArm s l scope loops d q t) where
    F : ArmFormAt is_arm s p q
    F = rw f at E.says

    pub arms-bad : t ≡ false → KeepsArms s l scope loops d at false
    arms-bad g = record {
      says = λ σ js N n v b h k.
          let i = I.done σ js N n v b h k in
          first-arm σ js d i.0 F.head (first (stack_at s q)) (first (later (stack_at s q))) i.1.0 i.1.1.0 F.headed (ap (arms_in d i.0) (sym F.here) ∙ i.1.1.1.0) i.1.1.1.1.0 λ a ls x c ys ha hl hx hc hy j.
          sym (i.1.1.1.1.1 ∙ j ∙ ap (λ (b : Bool). b && kept_arms ys js) (sym (K.says σ js N i.0 a ls x ha hl hx) ∙ g));
    }

    pub arms-on : (z : ℕ) → t ≡ true → Skips s p z → Arming s l scope loops d at z
    arms-on z g S = record {
      done = λ σ js N n v b h k.
          let i = I.done σ js N n v b h k in
          first-arm σ js d i.0 F.head (first (stack_at s q)) (first (later (stack_at s q))) i.1.0 i.1.1.0 F.headed (ap (arms_in d i.0) (sym F.here) ∙ i.1.1.1.0) i.1.1.1.1.0 λ a ls x c ys ha hl hx hc hy j. (
            a.1.1,
            (
              c,
              (
                ys,
                (
                  ap (arms_in d a.1.1) (skip-then S (form (word F.head then first (stack_at s q))) (first (later (stack_at s q))) F.here) ∙ hc,
                  (hy, i.1.1.1.1.1 ∙ j ∙ ap (λ (b : Bool). b && kept_arms ys js) (sym (K.says σ js N i.0 a ls x ha hl hx) ∙ g)),
                ),
              ),
            ),
          );
    }

pub ruleset arms-laws = (arms_end, arms-nothing, arms_last, arms-bad, arms-on)

pub arms-falls : (s : List ℕ) (p q z : ℕ) (e : NextArm) → ArmComes s p e → e ≡ next-arm.Arm q → Skips s p z → many (first (stack_at s z)) < many (first (stack_at s p))
arms-falls s p q z e E f S = let F : ArmFormAt is_arm s p q = rw f at E.says in skip-falls S (λ h. no_end (sym F.here ∙ h))

-- ---- the case

module _ (s l : List ℕ) (scope : Scope) (loops : Loops) (d at : ℕ) (t : Bool) (K : KeepsArms s l scope loops d at t) where
  pub cases-bad : t ≡ false → KeepsCases s l scope loops d at t
  cases-bad g = record { says = λ σ js N n a b h k. g ∙ sym (ap (λ (c : Bool). differ (labels_of b) && c) (sym (K.says σ js N n a b h k) ∙ g) ∙ and_none (differ (labels_of b))) }

  pub cases-on : (r : Bool) → t ≡ true → Differs s l scope at r → KeepsCases s l scope loops d at r
  cases-on r g D = record {
    says = λ σ js N n a b h k.
        let e : kept_arms b js ≡ true = sym (K.says σ js N n a b h k) ∙ g in
        D.says N.held.ts N.held.top σ N.held.bs N.held.scene d n a b h k (arms-plain b js e)
        ∙ sym (ap (λ (c : Bool). differ (labels_of b) && c) e ∙ and_one (differ (labels_of b)));
  }

pub ruleset cases-laws = (cases-bad, cases-on)

first-is : (a b : Syntax.Arms) → arms_first a ≡ some b → a ≡ b
unfolding arms_first
first-is (Syntax.else_arm x) b h = none-some h
first-is Syntax.no_else b h = none-some h
first-is (Syntax.arm cs x ys) b h = some_inj h

module _ (s l : List ℕ) (scope : Scope) (loops : Loops) (d at : ℕ) (t : Bool) (f : t ≡ plain_first (first (stack_at s at))) where
  abbrev us : Trees Run
  us = first (stack_at s at)

  cased : (r b : Bool) → t ≡ b
      → ((σ : Environment) (js : List ℕ) → Near s l scope loops d σ js → (n : ℕ) (a : Syntax.Arms × ℕ) (y : Script.Arms) → (us ≡ end → ⊥) → arms_in d n (rest us) ≡ some a → arms_of σ a.0 ≡ some y → r ≡ ((b && differ (labels_of y)) && kept_arms y js))
      → KeepsVerb s l scope loops VB.Case d at r
  unfolding stmt_of kept_stmt
  cased r b g H = record {
    says = λ σ js N n p x h k.
        bind-some (sym (case-shape d n us) ∙ h) λ e he h'. bind-some h' λ a ha h''. bind-some h'' λ c hc q.
        bind-some (rw (← some_inj q) at k) λ u hu k'. bind-some k' λ y hy j.
        rw (← some_inj j, expr-first N us e u he hu ∙ sym f ∙ g) (H σ js (near-in N) n a y (expr-some 33 he) ha (ap (arms_of σ) (first-is a.0 c hc) ∙ hy));
  }

  pub case-bad : t ≡ false → KeepsVerb s l scope loops VB.Case d at t
  case-bad g = cased t false g λ σ js N n a y z ha hy. g

  pub case-on : (q : ℕ) (r : Bool) → t ≡ true → Skips s at q → KeepsCases s l scope loops d q r → KeepsVerb s l scope loops VB.Case d at r
  case-on q r g S K = cased r true g λ σ js N n a y z ha hy. K.says σ js N n a y (ap (arms_in d n) (skip-rest S z) ∙ ha) hy

pub ruleset case-laws = (case-bad, case-on)
