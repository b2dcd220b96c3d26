-- A statement's form by its verb: what it gives is what its parts give one by one. And the numbers of statements: a statement counts at
-- most its brackets and words.
use mathlib.Core.Path.{◌≡◌, refl, sym, ap, ◌∙◌}
use mathlib.Core.List.{List}
use mathlib.Core.Option.{Option, none, some}
use Prim.Native.Nat.{ℕ, zero, suc, ◌+◌, ◌≤◌}
use native.Mathlib.Omega.{arith}
use Rattle.leaf_words.specs.Words.{word_of}
use Rattle.law.specs.Base.{Name, ◌>>=◌}
use Rattle.law.specs.Forms as Forms
use Rattle.law.specs.Forms.{arms_first, is_arm, is_else, v_assign, v_begin, v_if, v_while, v_for, v_case, v_call, v_raise}
use Rattle.law_theorems.specs.FormsByDepth.{stmt, stmt_form}
use Rattle.law.specs.Syntax.{Constant, Stmt, Stmts, Arms, assign, begin, if_else, while, for, case, call, raise, arm}
use Rattle.law.specs.Trees.{word, form, Trees, end, ◌then◌, Run, list, nodes, nodes_in}
use Rattle.law.specs.Words.{Word, worded_all}
use Rattle.law_theorems.proofs.Inversion.{none-some, some_inj, bind-some}
use Rattle.text_heads.specs.declared.Verb.{Verb}
use Rattle.text_heads.specs.declared.Verb.TheVariants as VB
use Rattle.text_heads.specs.Heads.{verb_of, verb_meant}
use Rattle.text_heads.specs.Parts.{part_of, rest, closed, expr_in, exprs_in, target_in, name_in, stmt_in, stmts_in, else_in, arm_in, arms_in, else_arm_in}
use Rattle.text_heads.proofs.Heads.{verb-is}
use Rattle.text_heads.proofs.Walks.{bind-cong}
use Rattle.text_heads.proofs.Statements.{verbed, stmt-end, stmt-zero, stmt-word, stmt-empty, stmt-headless, assign-parts, while-parts, call-parts, raise-parts, for-parts, begin-parts, if-parts, case-parts}
use Rattle.rule_statements.specs.Walks.{verb_in, for_in}

-- ---- the verbs; m is the statement's number

pub closed-then : {A B : Type 0} (o : Option A) (ts : Trees Run) (f : A → B) → (o >>= λ a. closed ts (f a)) ≡ ((o >>= λ a. closed ts a) >>= λ a. some (f a))
unfolding ◌>>=◌ closed
closed-then none ts f = refl
closed-then (some a) end f = refl
closed-then (some a) (t then ts) f = refl

pub form-shape : (d n : ℕ) (w : Run) (us ts : Trees Run) → stmt_in (suc d) n (form (word w then us) then ts) ≡ verb_in (verb_of (word_of w)) d (suc n) us
unfolding verb_in
form-shape d n w us ts =
    verbed d n w us ts ∙ ap (λ (o : Option Forms.Verb). o >>= λ (v : Forms.Verb). worded_all us >>= λ (vs : Trees Word). stmt_form (stmt d) v (suc n) (list vs)) (verb-is w)

module _ (d m : ℕ) (us : Trees Run) where
  meant : (v : Verb) (k : Forms.Verb) → verb_meant v ≡ some k → verb_in v d m us ≡ (worded_all us >>= λ vs. stmt_form (stmt d) k m (list vs))
  unfolding verb_in ◌>>=◌
  meant v k h = rw h refl

  pub none-shape : verb_in VB.Nothing d m us ≡ none
  unfolding verb_in ◌>>=◌
  none-shape = refl

  pub assign-shape : verb_in VB.Assign d m us ≡ (target_in 33 us >>= λ g. (expr_in 33 (rest us) >>= λ e. closed (rest (rest us)) e) >>= λ e. some (assign m g e, m))
  assign-shape = meant VB.Assign v_assign refl ∙ assign-parts d m us ∙ bind-cong (target_in 33 us) (λ g. closed-then (expr_in 33 (rest us)) (rest (rest us)) (λ e. (assign m g e, m)))

  pub raise-shape : verb_in VB.Raise d m us ≡ ((expr_in 33 us >>= λ e. closed (rest us) e) >>= λ e. some (raise m e, m))
  raise-shape = meant VB.Raise v_raise refl ∙ raise-parts d m us ∙ closed-then (expr_in 33 us) (rest us) (λ e. (raise m e, m))

  pub call_shape : verb_in VB.Call d m us ≡ (name_in us >>= λ w. exprs_in 33 (rest us) >>= λ es. some (call m w es, m))
  call_shape = meant VB.Call v_call refl ∙ call-parts d m us

  pub while-shape : verb_in VB.While d m us ≡ (expr_in 33 us >>= λ e. (stmt_in d m (rest us) >>= λ p. closed (rest (rest us)) p) >>= λ a. some (while m e a.0, a.1))
  while-shape = meant VB.While v_while refl ∙ while-parts d m us ∙ bind-cong (expr_in 33 us) (λ e. closed-then (stmt_in d m (rest us)) (rest (rest us)) (λ (a : Stmt × ℕ). (while m e a.0, a.1)))

  pub if-shape : verb_in VB.If d m us ≡ (expr_in 33 us >>= λ e. stmt_in d m (rest us) >>= λ a. else_in d a.1 (rest (rest us)) >>= λ b. some (if_else m e a.0 b.0, b.1))
  if-shape = meant VB.If v_if refl ∙ if-parts d m us

  pub for-shape : verb_in VB.For d m us ≡ (name_in us >>= λ i. for_in d m i (rest us))
  unfolding for_in
  for-shape =
      meant VB.For v_for refl ∙ for-parts d m us
      ∙ bind-cong (name_in us) (λ i. bind-cong (expr_in 33 (rest us)) (λ a. bind-cong (expr_in 33 (rest (rest us))) (λ b.
      closed-then (stmt_in d m (rest (rest (rest us)))) (rest (rest (rest (rest us)))) (λ (c : Stmt × ℕ). (for m i a b c.0, c.1)))))

  pub begin-shape : verb_in VB.Begin d m us ≡ (stmts_in d m us >>= λ p. some (begin m p.0, p.1))
  begin-shape = meant VB.Begin v_begin refl ∙ begin-parts d m us

  pub case-shape : verb_in VB.Case d m us ≡ (expr_in 33 us >>= λ e. arms_in d m (rest us) >>= λ bs. arms_first bs.0 >>= λ bs'. some (case m e bs', bs.1))
  case-shape = meant VB.Case v_case refl ∙ case-parts d m us

-- ---- numbers

closed_some : {A : Type 0} {a p : A} (ts : Trees Run) → closed ts a ≡ some p → a ≡ p
unfolding closed
closed_some end h = some_inj h
closed_some (t then ts) h = none-some h

pub rest-few : (us : Trees Run) → nodes_in (rest us) ≤ nodes_in us
unfolding nodes
rest-few end = omega arith
rest-few (t then ts) = omega arith

module _ (d : ℕ) (hr : (n : ℕ) (us : Trees Run) (p : Stmt × ℕ) → stmt_in d n us ≡ some p → p.1 + nodes_in (rest us) ≤ n + nodes_in us) where
  stmts-count : (n : ℕ) (us : Trees Run) (p : Stmts × ℕ) → stmts_in d n us ≡ some p → p.1 ≤ n + nodes_in us
  unfolding stmts_in stmt_in part_of nodes
  stmts-count n end p h = rw (← some_inj h) (omega arith)
  stmts-count n (t then ts) p h = bind-some h λ a ha h'. bind-some h' λ b hb e.
      let i = hr n (t then ts) a ha in let j = stmts-count a.1 ts b hb in rw (← some_inj e) (omega arith)

  else-count : (n : ℕ) (us : Trees Run) (p : Stmt × ℕ) → else_in d n us ≡ some p → p.1 ≤ n + nodes_in us
  unfolding else_in stmt_in part_of nodes
  else-count n end p h = rw (← some_inj h) (omega arith)
  else-count n (t then ts) p h = bind-some h λ a ha h'. let i = hr n (t then ts) a ha in rw (← closed_some ts h') (omega arith)

  arm-count : (n : ℕ) (us : Trees Run) (p : List Constant × (Stmt × ℕ)) → arm_in d n us ≡ some p → p.1.1 ≤ n + nodes_in us
  unfolding arm_in stmt_in part_of nodes
  arm-count n end p h = none-some h
  arm-count n (t then end) p h = none-some h
  arm-count n (t then (u then end)) p h = bind-some h λ c hc h'. bind-some h' λ a ha e. let i = hr n (u then end) a ha in rw (← some_inj e) (omega arith)
  arm-count n (t then (u then (v then ts))) p h = bind-some h λ c hc h'. bind-some h' λ a ha e.
      let i = arm-count n (u then (v then ts)) a ha in rw (← some_inj e) (omega arith)

  arms-count : (n : ℕ) (us : Trees Run) (p : Arms × ℕ) → arms_in d n us ≡ some p → p.1 ≤ n + nodes_in us
  unfolding arms_in else_arm_in stmt_in nodes
  arms-count n end p h = rw (← some_inj h) (omega arith)
  arms-count n (word w then ts) p h = none-some h
  arms-count n (form end then ts) p h = none-some h
  arms-count n (form (form us then vs) then ts) p h = none-some h
  arms-count n (form (word w then us) then ts) p h = bind-some h λ k hk h'. by-head k ts h' (λ m q hq. arms-count m ts q hq)
    where
      by-head : (k : Forms.ArmHead) (ts : Trees Run)
          → elim k [
            | is_arm ↦ arm_in d n us >>= λ a. arms_in d a.1.1 ts >>= λ bs. some (arm a.0 a.1.0 bs.0, bs.1)
            | is_else ↦ else_arm_in d n us ts
          ] ≡ some p → ((m : ℕ) (q : Arms × ℕ) → arms_in d m ts ≡ some q → q.1 ≤ m + nodes_in ts) → p.1 ≤ n + nodes_in (form (word w then us) then ts)
      by-head is_arm ts h k = bind-some h λ a ha h'. bind-some h' λ b hb e. let i = arm-count n us a ha in let j = k a.1.1 b hb in rw (← some_inj e) (omega arith)
      by-head is_else end h k = bind-some h λ a ha e. let i = hr n us a ha in rw (← closed_some (rest us) e) (omega arith)
      by-head is_else (t then ts) h k = none-some h

  for-count : (m : ℕ) (w : Name) (us : Trees Run) (p : Stmt × ℕ) → for_in d m w us ≡ some p → p.1 ≤ m + nodes_in us
  unfolding for_in
  for-count m w us p h = bind-some h λ a ha h. bind-some h λ b hb h. bind-some h λ c hc q. bind-some hc λ e he f.
      let i = hr m (rest (rest us)) e he in let k = rest-few us in let j = rest-few (rest us) in rw (← some_inj q, ← closed_some (rest (rest (rest us))) f) (omega arith)

  verb-count : (v : Verb) (m : ℕ) (us : Trees Run) (p : Stmt × ℕ) → verb_in v d m us ≡ some p → p.1 ≤ m + nodes_in us
  verb-count VB.Assign m us p h = bind-some (sym (assign-shape d m us) ∙ h) λ g hg h. bind-some h λ e he q. rw (← some_inj q) (omega arith)
  verb-count VB.Begin m us p h = bind-some (sym (begin-shape d m us) ∙ h) λ a ha q. let i = stmts-count m us a ha in rw (← some_inj q) i
  verb-count VB.If m us p h = bind-some (sym (if-shape d m us) ∙ h) λ e he h. bind-some h λ a ha h. bind-some h λ b hb q.
      let i = hr m (rest us) a ha in let j = else-count a.1 (rest (rest us)) b hb in let k = rest-few us in rw (← some_inj q) (omega arith)
  verb-count VB.While m us p h = bind-some (sym (while-shape d m us) ∙ h) λ e he h. bind-some h λ a ha q. bind-some ha λ b hb c.
      let i = hr m (rest us) b hb in let k = rest-few us in rw (← some_inj q, ← closed_some (rest (rest us)) c) (omega arith)
  verb-count VB.For m us p h = bind-some (sym (for-shape d m us) ∙ h) λ w hw h. let i = for-count m w (rest us) p h in let k = rest-few us in omega arith
  verb-count VB.Case m us p h = bind-some (sym (case-shape d m us) ∙ h) λ e he h. bind-some h λ a ha h. bind-some h λ b hb q.
      let i = arms-count m (rest us) a ha in let k = rest-few us in rw (← some_inj q) (omega arith)
  verb-count VB.Call m us p h = bind-some (sym (call_shape d m us) ∙ h) λ w hw h. bind-some h λ es hes q. rw (← some_inj q) (omega arith)
  verb-count VB.Raise m us p h = bind-some (sym (raise-shape d m us) ∙ h) λ e he q. rw (← some_inj q) (omega arith)
  verb-count VB.Nothing m us p h = none-some (sym (none-shape d m us) ∙ h)

pub stmt-count : (d n : ℕ) (us : Trees Run) (p : Stmt × ℕ) → stmt_in d n us ≡ some p → p.1 + nodes_in (rest us) ≤ n + nodes_in us
unfolding nodes
stmt-count zero n us p h = none-some (sym (stmt-zero n us) ∙ h)
stmt-count (suc d) n end p h = none-some (sym (stmt-end (suc d) n) ∙ h)
stmt-count (suc d) n (word w then ts) p h = none-some (sym (stmt-word (suc d) n w ts) ∙ h)
stmt-count (suc d) n (form end then ts) p h = none-some (sym (stmt-empty (suc d) n ts) ∙ h)
stmt-count (suc d) n (form (form us then vs) then ts) p h = none-some (sym (stmt-headless (suc d) n us vs ts) ∙ h)
stmt-count (suc d) n (form (word w then us) then ts) p h =
    let i = verb-count d (λ m vs q k. stmt-count d m vs q k) (verb_of (word_of w)) (suc n) us p (sym (form-shape d n w us ts) ∙ h) in omega arith
