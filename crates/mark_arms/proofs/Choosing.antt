-- Into the arms, what each says, and the choice.
use mathlib.Core.Path.{◌≡◌, refl, sym, ap, subst, ◌∙◌}
use mathlib.Core.Bool.{Bool, true, false}
use mathlib.Core.List.{List}
use mathlib.Core.Option.{none, some}
use Prim.Native.Nat.{ℕ, ◌+◌, ◌<◌, ◌≤◌}
use native.Mathlib.Omega.{arith}
use borrow.Author.Rules.{sfits_of}
use lib.IntN.{ℤ}
use mir.Syntax.{w64}
use mir.Val.{SFits}
use mir.Facts.{to_z-of_z}
use Rattle.std.specs.Prelude.{Result as Tried, Ok, Err}
use Rattle.mark_arms.specs.declared.Stuck.{Stuck}
use Rattle.leaf_integers.proofs.Machine.{wire}
use Rattle.leaf_words.specs.declared.words.Word.{Word}
use Rattle.law.specs.Base.{each}
use Rattle.law.specs.Environment.{Environment}
use Rattle.law.specs.Forms.{is_arm, is_else}
use Rattle.law.specs.Machine.{Answer, State, Procs, with_result, branch}
use Rattle.law.specs.Marking.{mark_labels, mark_arms, mark_stmt}
use Rattle.law.specs.Names.{constant_of, stmt_of, arms_of}
use Rattle.law.specs.Script as Script
use Rattle.law.specs.Script.{Const}
use Rattle.law.specs.Syntax.{Constant, Stmt, Arms, else_arm, no_else}
use Rattle.law.specs.Trees.{Tree, word, form, Trees, end, ◌then◌, Run, first, later, word_at}
use Rattle.law_theorems.specs.Readings.{stack_at}
use Rattle.law_theorems.proofs.Inversion.{none-some, some_inj, bind-some}
use Rattle.text_parts.specs.Parts.{Before, FormAt, ShutAt, Stands}
use Rattle.text_parts.specs.declared.Part.{Part}
use Rattle.text_parts.specs.declared.Part.TheVariants as part
use Rattle.text_heads.specs.declared.ArmHead.{ArmHead}
use Rattle.text_heads.specs.declared.ArmHead.TheVariants as AH
use Rattle.text_heads.specs.Heads.{arm_head_of, arm_head_meant}
use Rattle.text_heads.specs.Parts.{rest, closed, stmt_in, arm_in, arm_head_in, else_arm_in, arms_in}
use Rattle.text_heads.proofs.Heads.{arm-head-is}
use Rattle.rule_labels.specs.Blocks.{Held}
use Rattle.text_skips.specs.Skips.{Skips}
use Rattle.mark_counts.specs.Statements.{verbs, CountsStatements}
use Rattle.mark_counts.proofs.Items.{bind-of}
use Rattle.mark_counts.proofs.Numbers.{arms-first, arms-number}
use Rattle.mark_arms.specs.declared.Entry.{Entry}
use Rattle.mark_arms.specs.declared.Entry.TheVariants as entry
use Rattle.mark_arms.specs.declared.Turn.{Turn}
use Rattle.mark_arms.specs.declared.Turn.TheVariants as turn
use Rattle.mark_arms.specs.declared.Arm.TheVariants as chosen
use Rattle.mark_arms.specs.Arms.{many, EndsAt, fit_of, Meets, NoArm, EntersForm, ArmAt, Enters, ArmsLeft, StmtLeft, Sticks, Turns, Chooses}
use Rattle.mark_arms.proofs.Reading.{arm-labels, arm-last}
use Rattle.table_scope.specs.declared.Scope.{Scope}

-- ---- `entry_in`, `entry_at`

no-head : (w : Run) (us ts : Trees Run) → arm_head_in w ≡ none → NoArm (form (word w then us) then ts)
unfolding arms_in
no-head w us ts h = record { says = λ d n a e. bind-some e λ k hk g. none-some (sym h ∙ hk) }

module _ (s : List ℕ) (at : ℕ) (x : Part) (S : Stands s at x) where
  module _ (w : Word) (p q : ℕ) (e : x ≡ part.Leaf w p q) (h : ArmHead) (f : h ≡ arm_head_of w) where
    leaf : Before s at (word (word_at s p)) q
    leaf = (rw e at S.says).0.leaf

    head-is : arm_head_in (word_at s p) ≡ arm_head_meant h
    unfolding arm_head_in
    head-is = arm-head-is (word_at s p) ∙ ap arm_head_meant (ap arm_head_of (sym (rw e at S.says).1) ∙ sym f)

    pub enter-arm : h ≡ AH.Arm → EntersForm s at (entry.Labelled q)
    enter-arm g = record { says = record { head = word_at s p; parts = leaf.here; is = head-is ∙ ap arm_head_meant g } }

    pub enter-else : h ≡ AH.Else → EntersForm s at (entry.Other q)
    enter-else g = record { says = record { head = word_at s p; parts = leaf.here; is = head-is ∙ ap arm_head_meant g } }

    pub enter-none : h ≡ AH.Nothing → EntersForm s at entry.Over
    enter-none g = record { says = λ ts. subst (λ (us : Trees Run). NoArm (form us then ts)) (sym leaf.here) (no-head (word_at s p) (first (stack_at s q)) ts (head-is ∙ ap arm_head_meant g)) }

  pub enter-form : (p : ℕ) → x ≡ part.Form p → EntersForm s at entry.Over
  unfolding arms_in
  enter-form p e = let F : FormAt s at p = rw e at S.says in record {
    says = λ ts. subst (λ (us : Trees Run). NoArm (form us then ts)) (sym F.here) (record { says = λ d n a h. none-some h });
  }

  pub enter-shut : (q : ℕ) → x ≡ part.Shut q → EntersForm s at entry.Over
  unfolding arms_in
  enter-shut q e = let F : ShutAt s at q = rw e at S.says in record {
    says = λ ts. subst (λ (us : Trees Run). NoArm (form us then ts)) (sym F.here) (record { says = λ d n a h. none-some h });
  }

  pub at_leaf : (w : Word) (p q : ℕ) → x ≡ part.Leaf w p q → Enters s at entry.Over
  unfolding arms_in
  at_leaf w p q e = record { says = subst NoArm (sym (rw e at S.says).0.leaf.here) (record { says = λ d n a h. none-some h }) }

  pub at-shut : (q : ℕ) → x ≡ part.Shut q → Enters s at entry.Over
  unfolding arms_in
  at-shut q e = let F : ShutAt s at q = rw e at S.says in record { says = subst NoArm (sym F.here) (record { says = λ d n a h. sym (some_inj h) }) }

  pub at-form : (p : ℕ) (r : Entry) → x ≡ part.Form p → EntersForm s p r → Enters s at r
  at-form p (entry.Labelled q) e E =
      let F : FormAt s at p = rw e at S.says in
      record { says = record { parts = first (stack_at s p); others = first (later (stack_at s p)); here = F.here; headed = E.says } }
  at-form p (entry.Other q) e E =
      let F : FormAt s at p = rw e at S.says in
      record { says = record { parts = first (stack_at s p); others = first (later (stack_at s p)); here = F.here; headed = E.says } }
  at-form p entry.Over e E = let F : FormAt s at p = rw e at S.says in record { says = subst NoArm (sym F.here) (E.says (first (later (stack_at s p)))) }

module _ (s : List ℕ) (at : ℕ) (x : Part) (S : Stands s at x) where
  pub enter-other : ((w : Word) (p q : ℕ) → x ≡ part.Leaf w p q → ⊥) → EntersForm s at entry.Over
  enter-other f = go x refl
    where
      go : (y : Part) → x ≡ y → EntersForm s at entry.Over
      go (part.Leaf w p q) e = absurd (f w p q e)
      go (part.Form p) e = enter-form s at x S p e
      go (part.Shut q) e = enter-shut s at x S q e

  pub at-other : ((p : ℕ) → x ≡ part.Form p → ⊥) → Enters s at entry.Over
  at-other f = go x refl
    where
      go : (y : Part) → x ≡ y → Enters s at entry.Over
      go (part.Leaf w p q) e = at_leaf s at x S w p q e
      go (part.Form p) e = absurd (f p e)
      go (part.Shut q) e = at-shut s at x S q e

pub ruleset enter_laws = (enter-arm, enter-else, enter-none, enter-other)

pub ruleset at_laws = (at-other, at-form)

-- ---- an arm, opened

pub record Opened (s : List ℕ) (σ : Environment) (d k : ℕ) (z : ℤ) (m : ℕ) (t : Tree Run) (q : ℕ) (ts : Trees Run) (f : Procs → ℕ → State → Answer) : Type 0 where
  pub constants : List Constant
  pub labels : List Const
  pub read : Stmt
  pub stmt : Script.Stmt
  pub others : Arms × ℕ
  pub arms : Script.Arms
  pub reads : arm_in d m (first (stack_at s q)) ≡ some (constants, (read, m + verbs t))
  pub known : each (constant_of σ) constants ≡ some labels
  pub names : stmt_of σ read ≡ some stmt
  pub others-read : arms_in d (m + verbs t) ts ≡ some others
  pub others-known : arms_of σ others.0 ≡ some arms
  pub few : others.1 ≤ 4294967295
  pub same : (ps : Procs) (n : ℕ) (u : State) → f ps n u ≡ with_result n u (mark_labels σ.types σ.vars k z labels) λ b. branch b (λ v. mark_stmt σ.types σ.vars ps stmt v) (λ v. mark_arms σ.types σ.vars ps n k z arms v) u

opened : (s : List ℕ) (σ : Environment) (d k : ℕ) (z : ℤ) (m at q : ℕ) (f : Procs → ℕ → State → Answer) → (A : ArmAt s at is_arm q) → ArmsLeft σ d k z m (first (stack_at s at)) f
    → Opened s σ d k z m (form A.parts) q A.others f
unfolding arms_of mark_arms
opened s σ d k z m at q f A L =
    arms-first d m A.headed.head (first (stack_at s q)) A.others L.read A.headed.is
    (ap (λ (us : Trees Run). arms_in d m (form us then A.others)) (sym A.headed.parts) ∙ ap (arms_in d m) (sym A.here) ∙ L.reads) λ cs a b ha hb e.
    bind-some (subst (λ (y : Arms × ℕ). arms_of σ y.0 ≡ some L.arms) (sym e) L.names) λ ls hls g. bind-some g λ x hx g'. bind-some g' λ ys hys i.
    let v : verbs (form (word A.headed.head then first (stack_at s q))) ≡ verbs (form A.parts) = ap (λ (us : Trees Run). verbs (form us)) (sym A.headed.parts) in
    record {
      constants = cs;
      labels = ls;
      read = a;
      stmt = x;
      others = b;
      arms = ys;
      reads = ha ∙ ap (λ (j : ℕ). some (cs, (a, m + j))) v;
      known = hls;
      names = hx;
      others-read = subst (λ (j : ℕ). arms_in d (m + j) A.others ≡ some b) v hb;
      others-known = hys;
      few = subst (λ (y : Arms × ℕ). y.1 ≤ 4294967295) (sym e) L.few;
      same = λ ps n u. L.same ps n u ∙ ap (λ (y : Script.Arms). mark_arms σ.types σ.vars ps n k z y u) (sym (some_inj i));
    }

-- ---- what an arm says

module _ (s l : List ℕ) (scope : Scope) (k : ℕ) (z : ℤ) (at : ℕ) where
  module _ (q : ℕ) (A : ArmAt s at is_arm q) where
    -- what the labels come to
    labels-are : (r : Tried Bool Stuck) → Meets s l scope k z q r → (σ : Environment) → Held s l scope σ → (d m : ℕ) (f : Procs → ℕ → State → Answer)
        → (O : Opened s σ d k z m (form A.parts) q A.others f) → mark_labels σ.types σ.vars k z O.labels ≡ fit_of r
    labels-are r M σ H d m f O = M.says σ H (mark_labels σ.types σ.vars k z O.labels) (record {
      constants = O.constants;
      values = O.labels;
      reads = arm-labels d m (first (stack_at s q)) (O.constants, (O.read, m + verbs (form A.parts))) O.reads;
      known = O.known;
      same = refl;
    })

    below : (σ : Environment) (d m : ℕ) (f : Procs → ℕ → State → Answer) (O : Opened s σ d k z m (form A.parts) q A.others f) → m + verbs (form A.parts) ≤ 4294967295
    below σ d m f O =
        let i = arms-number d (m + verbs (form A.parts)) A.others O.others O.others-read in
        omega (arith, i, O.few)

    hit : (r : ℕ) → Meets s l scope k z q (Ok true) → EndsAt s q r → Turns s l scope k z at (turn.Taken r)
    hit r M E = record {
      falls = tt;
      says = λ σ H d m f L. go σ H d m f (opened s σ d k z m at q f A L);
    }
      where
        go : (σ : Environment) → Held s l scope σ → (d m : ℕ) (f : Procs → ℕ → State → Answer) → Opened s σ d k z m (form A.parts) q A.others f → StmtLeft s σ d m r f
        go σ H d m f O = record {
          read = (O.read, m + verbs (form A.parts));
          stmt = O.stmt;
          reads = sym (E.says d m) ∙ arm-last d m (first (stack_at s q)) (O.constants, (O.read, m + verbs (form A.parts))) O.reads;
          names = O.names;
          few = below σ d m f O;
          same = λ ps n u. O.same ps n u ∙ rw (labels-are (Ok true) M σ H d m f O) refl;
        }

    stops : (x : Stuck) → Meets s l scope k z q (Err x) → Turns s l scope k z at turn.Stuck
    stops x M = record {
      falls = tt;
      says = λ σ H d m f L. go σ H d m f (opened s σ d k z m at q f A L);
    }
      where
        go : (σ : Environment) → Held s l scope σ → (d m : ℕ) (f : Procs → ℕ → State → Answer) → Opened s σ d k z m (form A.parts) q A.others f → Sticks f
        go σ H d m f O = record { same = λ ps n u. O.same ps n u ∙ rw (labels-are (Err x) M σ H d m f O) refl }

    module _ (p : ℕ) (K : Skips s at p) where
      past : Before s at (form A.parts) p
      past = K.says (form A.parts) A.others A.here

      others-at : A.others ≡ first (stack_at s p)
      others-at = ap rest (sym A.here ∙ past.here)

      on : Meets s l scope k z q (Ok false) → Turns s l scope k z at (turn.On p)
      unfolding many
      on M = record {
        falls = fewer (ap many past.here);
        says = λ σ H d m f L c C. go σ H d m f (opened s σ d k z m at q f A L) c (C.says (form A.parts) A.others A.here);
      }
        where
          fewer : many (first (stack_at s at)) ≡ many (form A.parts then first (stack_at s p)) → many (first (stack_at s p)) < many (first (stack_at s at))
          fewer e = omega (arith, e)

          go : (σ : Environment) → Held s l scope σ → (d m : ℕ) (f : Procs → ℕ → State → Answer) → Opened s σ d k z m (form A.parts) q A.others f → (c : ℕ) → c ≡ verbs (form A.parts)
              → ArmsLeft σ d k z (m + c) (first (stack_at s p)) f
          go σ H d m f O c e = record {
            read = O.others;
            arms = O.arms;
            reads = ap (λ (j : ℕ). arms_in d (m + j) (first (stack_at s p))) e ∙ ap (arms_in d (m + verbs (form A.parts))) (sym others-at) ∙ O.others-read;
            names = O.others-known;
            few = O.few;
            same = λ ps n u. O.same ps n u ∙ rw (labels-are (Ok false) M σ H d m f O) refl;
          }

  -- a last `else`
  else-read : {P : Type 0} (d m : ℕ) (us ts : Trees Run) (r : Arms × ℕ) → else_arm_in d m us ts ≡ some r
      → ((a : Stmt × ℕ) → stmt_in d m us ≡ some a → (else_arm a.0, a.1) ≡ r → P) → P
  unfolding else_arm_in stmt_in closed
  else-read d m us (t then ts) r h g = none-some h
  else-read {P} d m us end r h g = bind-some h λ a ha e. go a ha (rest us) e
    where
      go : (a : Stmt × ℕ) → stmt_in d m us ≡ some a → (vs : Trees Run) → closed vs (else_arm a.0, a.1) ≡ some r → P
      go a ha end e = g a ha (some_inj e)
      go a ha (t then ts) e = none-some e

  else-taken : (q : ℕ) → ArmAt s at is_else q → Turns s l scope k z at (turn.Taken q)
  unfolding arms_in arms_of mark_arms
  else-taken q A = record {
    falls = tt;
    says = λ σ H d m f L. else-read d m (first (stack_at s q)) A.others L.read
        (sym (bind-of (arm_head_in A.headed.head) is_else _ A.headed.is) ∙ ap (λ (us : Trees Run). arms_in d m (form us then A.others)) (sym A.headed.parts) ∙ ap (arms_in d m) (sym A.here) ∙ L.reads)
        λ a ha e. bind-some (subst (λ (y : Arms × ℕ). arms_of σ y.0 ≡ some L.arms) (sym e) L.names) λ x hx i. record {
          read = a;
          stmt = x;
          reads = ha;
          names = hx;
          few = subst (λ (y : Arms × ℕ). y.1 ≤ 4294967295) (sym e) L.few;
          same = λ ps n u. L.same ps n u ∙ ap (λ (y : Script.Arms). mark_arms σ.types σ.vars ps n k z y u) (sym (some_inj i));
        };
  }

  none_left : NoArm (first (stack_at s at)) → Turns s l scope k z at turn.Absent
  unfolding arms_of mark_arms
  none_left N = record {
    falls = tt;
    says = λ σ H d m f L.
        let e : L.read ≡ (no_else, m) = N.says d m L.read L.reads in
        let i : Script.no_else ≡ L.arms = some_inj (subst (λ (y : Arms × ℕ). arms_of σ y.0 ≡ some L.arms) e L.names) in
        record { same = λ ps n u. L.same ps n u ∙ ap (λ (y : Script.Arms). mark_arms σ.types σ.vars ps n k z y u) (sym i) };
  }

-- ---- `turn_at`

module _ (s l : List ℕ) (scope : Scope) (k : ℕ) (z : ℤ) (at : ℕ) (e : Entry) (E : Enters s at e) where
  module _ (fz : SFits w64 z) (q : ℕ) (h : e ≡ entry.Labelled q) (g : Tried Bool Stuck) (M : Meets s l scope k (wire z) q g) where
    met-as : (r : Tried Bool Stuck) → g ≡ r → Meets s l scope k z q r
    met-as r i = subst (λ (y : ℤ). Meets s l scope k y q r) (to_z-of_z fz) (subst (Meets s l scope k (wire z) q) i M)

    pub turn-hit : (r : ℕ) (b : Bool) → g ≡ Ok b → b ≡ true → EndsAt s q r → Turns s l scope k z at (turn.Taken r)
    turn-hit r b i j N = hit s l scope k z at q (rw h at E.says) r (met-as (Ok true) (i ∙ ap (λ (c : Bool). Ok c) j)) N

    pub turn-stuck : (x : Stuck) → g ≡ Err x → Turns s l scope k z at turn.Stuck
    turn-stuck x i = stops s l scope k z at q (rw h at E.says) x (met-as (Err x) i)

    pub turn_on : (p : ℕ) (b : Bool) → g ≡ Ok b → b ≡ false → Skips s at p → Turns s l scope k z at (turn.On p)
    turn_on p b i j K = on s l scope k z at q (rw h at E.says) p K (met-as (Ok false) (i ∙ ap (λ (c : Bool). Ok c) j))

  pub turn-else : (q : ℕ) → e ≡ entry.Other q → Turns s l scope k z at (turn.Taken q)
  turn-else q h = else-taken s l scope k z at q (rw h at E.says)

  pub turn-none : e ≡ entry.Over → Turns s l scope k z at turn.Absent
  turn-none h = none_left s l scope k z at (rw h at E.says)

pub ruleset turn_laws = (turn-hit, turn-stuck, turn_on, turn-else, turn-none, sfits_of)

-- ---- `choose_arm`

-- the arms from p on are left; m is the number of the last statement before them
pub record Choosing (s l : List ℕ) (scope : Scope) (k : ℕ) (z : ℤ) (n at m p : ℕ) : Type 0 where
  pub says : (σ : Environment) → Held s l scope σ → (d : ℕ) (f : Procs → ℕ → State → Answer) → ArmsLeft σ d k z n (first (stack_at s at)) f → ArmsLeft σ d k z m (first (stack_at s p)) f

pub choose-start : (s l : List ℕ) (scope : Scope) (k : ℕ) (z : ℤ) (n at : ℕ) → Choosing s l scope k z n at n at
choose-start s l scope k z n at = record { says = λ σ H d f L. L }

module _ (s l : List ℕ) (scope : Scope) (k : ℕ) (z : ℤ) (n at m p : ℕ) (fz : SFits w64 z) (I : Choosing s l scope k (wire z) n at m p) (t : Turn) (T : Turns s l scope k (wire z) p t) where
  so_far : Choosing s l scope k z n at m p
  so_far = subst (λ (y : ℤ). Choosing s l scope k y n at m p) (to_z-of_z fz) I

  turns_as : (r : Turn) → t ≡ r → Turns s l scope k z p r
  turns_as r e = subst (λ (y : ℤ). Turns s l scope k y p r) (to_z-of_z fz) (subst (Turns s l scope k (wire z) p) e T)

  pub choose-taken : (q : ℕ) → t ≡ turn.Taken q → Chooses s l scope k z n at (chosen.Taken q m)
  choose-taken q e = record { says = λ σ H d f L. (turns_as (turn.Taken q) e).says σ H d m f (so_far.says σ H d f L) }

  pub choose-absent : t ≡ turn.Absent → Chooses s l scope k z n at chosen.Absent
  choose-absent e = record { says = λ σ H d f L. (turns_as turn.Absent e).says σ H d m f (so_far.says σ H d f L) }

  pub choose-stuck : t ≡ turn.Stuck → Chooses s l scope k z n at chosen.Stuck
  choose-stuck e = record { says = λ σ H d f L. (turns_as turn.Stuck e).says σ H d m f (so_far.says σ H d f L) }

  pub choose-on : (q c o : ℕ) → t ≡ turn.On q → CountsStatements s p c → (m + c ≤ 4294967295 → o ≡ m + c) → Choosing s l scope k (wire z) n at o q
  choose-on q c o e C g = subst (λ (y : ℤ). Choosing s l scope k y n at o q) (sym (to_z-of_z fz)) (record { says = λ σ H d f L. go σ d f ((turns_as (turn.On q) e).says σ H d m f (so_far.says σ H d f L) c C) })
    where
      go : (σ : Environment) (d : ℕ) (f : Procs → ℕ → State → Answer) → ArmsLeft σ d k z (m + c) (first (stack_at s q)) f → ArmsLeft σ d k z o (first (stack_at s q)) f
      go σ d f L =
          let i = arms-number d (m + c) (first (stack_at s q)) L.read L.reads in
          subst (λ (j : ℕ). ArmsLeft σ d k z j (first (stack_at s q)) f) (sym (g (omega (arith, i, L.few)))) L

pub choose-falls : (s l : List ℕ) (scope : Scope) (k : ℕ) (z : ℤ) (p q : ℕ) (t : Turn) → Turns s l scope k z p t → t ≡ turn.On q → many (first (stack_at s q)) < many (first (stack_at s p))
choose-falls s l scope k z p q t T e = rw e at T.falls

pub ruleset choose_laws = (choose-taken, choose-absent, choose-stuck, choose-on, sfits_of)
