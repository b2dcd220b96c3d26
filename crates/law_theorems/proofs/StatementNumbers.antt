-- "Statements count from 1 over the text by opening bracket": the numbers of a line's statements are from 1 to the count at its end, and a line
-- counts at most its brackets and words. Beside them, how deep the expressions of statements are.
use mathlib.Core.Path.{◌≡◌, refl}
use mathlib.Core.List.{List, [], ◌∷◌}
use mathlib.Core.Option.{Option, none, some}
use Prim.Native.Nat.{ℕ, zero, suc, ◌+◌, ◌≤◌}
use native.Mathlib.Omega.{arith}
use Rattle.law.specs.Base.{Name, ◌>>=◌}
use Rattle.law.specs.Forms.{ArmHead, Item, LineHead, Verb, arms_first, first?, headed, is_arm, is_else, is_main, is_proc, is_type, is_var, one, pairs_of, parameters, two, v_assign, v_begin, v_call, v_case, v_for, v_if, v_raise, v_while}
use Rattle.law_theorems.specs.FormsByDepth.{Reader, arms, body, case_form, else_of, ending, expr, for_form, handler_of, if_form, line_by, line_form, one_arm, stmt, stmt_form, stmts}
use Rattle.law.specs.Syntax as S
use Rattle.law.specs.Trees.{Trees, end, form, list, nodes, nodes_in, word, ◌then◌}
use Rattle.law.specs.Words.{Word}
use Rattle.law_theorems.proofs.Weights.{by-handler}
use Rattle.law_theorems.proofs.Inversion.{none-some, some_inj, bind-some, given-some}
use Rattle.law_theorems.proofs.TreeDepth.{Shallow, Shallows, none as no-parts, more, first, rest, ending-shallow, handler-shallow, headed-shallow, one-shallow, two-shallow}
use Rattle.law_theorems.proofs.Depths.{DeepE, DeepEs, DeepT, expr-deep, exprs-deep, target-deep}
use Rattle.law_theorems.specs.StatementNumbers.{Number}

-- ---- every statement number is from 1 to l; expressions are at most 32 brackets deep

mutual
  pub data Counted (l : ℕ) : S.Stmt → Type 0 where
    assign : {n : ℕ} {g : S.Target} {e : S.Expr} → Number l n → DeepT 31 g → DeepE 32 e → Counted l (S.assign n g e)
    begin : {n : ℕ} {ss : S.Stmts} → Number l n → CountedAll l ss → Counted l (S.begin n ss)
    if_else : {n : ℕ} {e : S.Expr} {a b : S.Stmt} → Number l n → DeepE 32 e → Counted l a → Counted l b → Counted l (S.if_else n e a b)
    while : {n : ℕ} {e : S.Expr} {a : S.Stmt} → Number l n → DeepE 32 e → Counted l a → Counted l (S.while n e a)
    for : {n : ℕ} {w : Name} {a b : S.Expr} {s : S.Stmt} → Number l n → DeepE 32 a → DeepE 32 b → Counted l s → Counted l (S.for n w a b s)
    case : {n : ℕ} {e : S.Expr} {bs : S.Arms} → Number l n → DeepE 32 e → CountedArms l bs → Counted l (S.case n e bs)
    call : {n : ℕ} {w : Name} {es : S.Exprs} → Number l n → DeepEs 32 es → Counted l (S.call n w es)
    raise : {n : ℕ} {e : S.Expr} → Number l n → DeepE 32 e → Counted l (S.raise n e)
    skip : Counted l S.skip

  pub data CountedAll (l : ℕ) : S.Stmts → Type 0 where
    done : CountedAll l S.done
    ◌next◌ : {s : S.Stmt} {ss : S.Stmts} → Counted l s → CountedAll l ss → CountedAll l (S.◌next◌ s ss)

  pub data CountedArms (l : ℕ) : S.Arms → Type 0 where
    else_arm : {s : S.Stmt} → Counted l s → CountedArms l (S.else_arm s)
    no_else : CountedArms l S.no_else
    arm : {cs : List S.Constant} {s : S.Stmt} {bs : S.Arms} → Counted l s → CountedArms l bs → CountedArms l (S.arm cs s bs)

infixr 40 ◌next◌
pub record CountedBody (l : ℕ) (b : S.Body) : Type 0 where
  pub stmts : CountedAll l b.stmts
  pub handler : CountedAll l b.handler

pub data CountedLine (l : ℕ) : S.LineForm → Type 0 where
  type_line : {w : Name} {t : S.TypeForm} → CountedLine l (S.type_line w t)
  var_line : {w : Name} {t : S.TypeName} → CountedLine l (S.var_line w t)
  proc_line : {w : Name} {ps : List (Name × S.TypeName)} {b : S.Body} → CountedBody l b → CountedLine l (S.proc_line w ps b)
  main_line : {b : S.Body} → CountedBody l b → CountedLine l (S.main_line b)

-- ---- the brackets and words of parts

unfoldable weigh : List Item → ℕ
weigh [] = 0
weigh (t ∷ ts) = nodes t + weigh ts

weigh-list : (ts : Trees Word) → weigh (list ts) ≡ nodes_in ts
unfolding weigh list nodes
weigh-list end = refl
weigh-list (t then ts) = rw (weigh-list ts)

weigh-one : {a : Item} (ts : List Item) → one ts ≡ some a → weigh ts ≡ nodes a
unfolding one weigh
weigh-one {a} [] h = none-some h
weigh-one {a} (t ∷ []) h = rw (some_inj h) (omega arith)
weigh-one {a} (t ∷ (u ∷ ts)) h = none-some h

weigh-two : {p : Item × Item} (ts : List Item) → two ts ≡ some p → weigh ts ≡ nodes p.0 + nodes p.1
unfolding two weigh
weigh-two [] h = none-some h
weigh-two (t ∷ ts) h = bind-some h λ u hu e. rw (← some_inj e, weigh-one ts hu)

weigh-ending : {p : List Item × Item} (ts : List Item) → ending ts ≡ some p → weigh ts ≡ weigh p.0 + nodes p.1
unfolding ending weigh
weigh-ending [] h = none-some h
weigh-ending (t ∷ []) h = rw (← some_inj h) (omega arith)
weigh-ending (t ∷ (u ∷ ts)) h = bind-some h λ q hq e. let i = weigh-ending (u ∷ ts) hq in rw (← some_inj e) (omega arith)

weigh-first : {p : Name × List Item} (ts : List Item) → first? ts ≡ some p → weigh p.1 ≤ weigh ts
unfolding first? weigh
weigh-first [] h = none-some h
weigh-first (t ∷ ts) h = bind-some h λ w hw e. rw (← some_inj e) (omega arith)

-- a form's parts after its head
weigh-headed : {p : Name × List Item} (t : Item) → headed t ≡ some p → suc (weigh p.1) ≤ nodes t
unfolding headed nodes
weigh-headed (word w) h = none-some h
weigh-headed (form ts) h = let i = weigh-first (list ts) h in let e = weigh-list ts in omega arith

-- ---- readers: from a count to the next, at most the weight of what was read, with every number up to the next, where what was read is
-- of the depth Q

pub record Counts {A : Type 0} (Q : Type 0) (P : ℕ → A → Type 0) (n w : ℕ) (p : A × ℕ) : Type 0 where
  pub up : n ≤ p.1
  pub most : p.1 ≤ n + w
  pub each : (l : ℕ) → p.1 ≤ l → Q → P l p.0

-- a line is at most 32 deep, and so is all in it
abbrev Flat : Item → Type 0
Flat t = Shallow 32 t

abbrev Flats : List Item → Type 0
Flats ts = Shallows 32 ts

-- a whole expression
deep : (t : Item) (e : S.Expr) → expr 33 t ≡ some e → Flat t → DeepE 32 e
deep t e h s = expr-deep 33 32 t s e h

module _ (r : Reader) (hr : (n : ℕ) (t : Item) (p : S.Stmt × ℕ) → r n t ≡ some p → Counts (Flat t) Counted n (nodes t) p) where
  stmts-count : (n : ℕ) (ts : List Item) (p : S.Stmts × ℕ) → stmts r n ts ≡ some p → Counts (Flats ts) CountedAll n (weigh ts) p
  unfolding stmts weigh
  stmts-count n [] p h = rw (← some_inj h) (record { up = omega arith; most = omega arith; each = λ l _ _. done })
  stmts-count n (t ∷ ts) p h = bind-some h λ a ha h'. bind-some h' λ b hb e.
      let i = hr n t a ha in let j = stmts-count a.1 ts b hb in
      rw (← some_inj e) (record { up = omega (arith, i.up, j.up); most = omega (arith, i.most, j.most); each = λ l k s. i.each l (omega (arith, j.up)) (first s) next j.each l k (rest s) })

  arm-counts : (n : ℕ) (ts : List Item) (p : List S.Constant × (S.Stmt × ℕ)) → one_arm r n ts ≡ some p → Counts (Flats ts) Counted n (weigh ts) p.1
  unfolding one_arm
  arm-counts n ts p h = bind-some h λ q hq h'. bind-some h' λ cs hcs h''. bind-some h'' λ a ha e.
      let i = hr n q.1 a ha in let w = weigh-ending ts hq in
      rw (← some_inj e) (record { up = i.up; most = omega (arith, i.most); each = λ l k s. i.each l k (ending-shallow s hq) })

  arms-count : (n : ℕ) (ts : List Item) (p : S.Arms × ℕ) → arms r n ts ≡ some p → Counts (Flats ts) CountedArms n (weigh ts) p
  unfolding arms weigh
  arms-count n [] p h = rw (← some_inj h) (record { up = omega arith; most = omega arith; each = λ l _ _. no_else })
  arms-count n (t ∷ ts) p h = bind-some h λ q hq h'. bind-some h' λ a ha h''. by-head a ts q hq h'' (λ m b hb. arms-count m ts b hb)
    where
      by-head : (a : ArmHead) (ts : List Item) (q : Name × List Item) → headed t ≡ some q
          → elim a [
            | is_arm ↦ one_arm r n q.1 >>= λ a. arms r a.1.1 ts >>= λ bs. some (S.arm a.0 a.1.0 bs.0, bs.1)
            | is_else ↦ elim ts [ [] ↦ one q.1 >>= r n >>= λ a. some (S.else_arm a.0, a.1) | u ∷ us ↦ none ]
          ] ≡ some p
          → ((m : ℕ) (b : S.Arms × ℕ) → arms r m ts ≡ some b → Counts (Flats ts) CountedArms m (weigh ts) b) → Counts (Flats (t ∷ ts)) CountedArms n (nodes t + weigh ts) p
      by-head is_arm ts q hq h k = bind-some h λ a ha h'. bind-some h' λ b hb e.
          let i = arm-counts n q.1 a ha in let j = k a.1.1 b hb in let w = weigh-headed t hq in
          rw (← some_inj e) (record { up = omega (arith, i.up, j.up); most = omega (arith, i.most, j.most); each = λ l g s. arm (i.each l (omega (arith, j.up)) (headed-shallow (first s) hq)) (j.each l g (rest s)) })
      by-head is_else [] q hq h k = bind-some h λ a ha e. bind-some ha λ u hu ha'.
          let i = hr n u a ha' in let w = weigh-headed t hq in let v = weigh-one q.1 hu in
          rw (← some_inj e) (record { up = i.up; most = omega (arith, i.most); each = λ l g s. else_arm (i.each l g (one-shallow (headed-shallow (first s) hq) hu)) })
      by-head is_else (u ∷ us) q hq h k = none-some h

  else-counts : (n : ℕ) (ts : List Item) (p : S.Stmt × ℕ) → else_of r n ts ≡ some p → Counts (Flats ts) Counted n (weigh ts) p
  unfolding else_of weigh
  else-counts n [] p h = rw (← some_inj h) (record { up = omega arith; most = omega arith; each = λ l _ _. skip })
  else-counts n (t ∷ ts) p h = bind-some h λ u hu h'.
      let i = hr n u p h' in let w : weigh (t ∷ ts) ≡ nodes u = weigh-one (t ∷ ts) hu in
      record { up = i.up; most = omega (arith, i.most); each = λ l k s. i.each l k (one-shallow s hu) }

  -- ---- statement n, by its head

  module _ (n : ℕ) (f : 1 ≤ n) where
    -- one without statements in it
    leaf : {ts : List Item} (w : ℕ) (s : S.Stmt) → ((l : ℕ) → n ≤ l → Flats ts → Counted l s) → Counts (Flats ts) Counted n w (s, n)
    leaf w s k = record { up = omega arith; most = omega arith; each = k }

    if-counts : (ts : List Item) (p : S.Stmt × ℕ) → if_form r n ts ≡ some p → Counts (Flats ts) Counted n (weigh ts) p
    unfolding if_form weigh
    if-counts [] p h = none-some h
    if-counts (t ∷ []) p h = none-some h
    if-counts (t ∷ (u ∷ ts)) p h = bind-some h λ x hx h. bind-some h λ a ha h. bind-some h λ b hb e.
        let i = hr n u a ha in let j = else-counts a.1 ts b hb in
        rw (← some_inj e) (record { up = omega (arith, i.up, j.up); most = omega (arith, i.most, j.most); each = λ l k s. if_else (record { from = f; to = omega (arith, i.up, j.up) }) (deep t x hx (first s)) (i.each l (omega (arith, j.up)) (first (rest s))) (j.each l k (rest (rest s))) })

    for-counts : (ts : List Item) (p : S.Stmt × ℕ) → for_form r n ts ≡ some p → Counts (Flats ts) Counted n (weigh ts) p
    unfolding for_form weigh
    for-counts [] p h = none-some h
    for-counts (v ∷ []) p h = none-some h
    for-counts (v ∷ (t ∷ ts)) p h = bind-some h λ w hw h. bind-some h λ a ha h. bind-some h λ q hq h. bind-some h λ b hb h. bind-some h λ c hc e.
        let i = hr n q.1 c hc in let g = weigh-two ts hq in
        rw (← some_inj e) (record { up = i.up; most = omega (arith, i.most); each = λ l k s. let o = two-shallow (rest (rest s)) hq in for (record { from = f; to = omega (arith, i.up) }) (deep t a ha (first (rest s))) (deep q.0 b hb o.0) (i.each l k o.1) })

    first-arms : (l : ℕ) (bs cs : S.Arms) → arms_first bs ≡ some cs → CountedArms l bs → CountedArms l cs
    unfolding arms_first
    first-arms l (S.else_arm s) cs h k = none-some h
    first-arms l S.no_else cs h k = none-some h
    first-arms l (S.arm c s bs) cs h k = rw (← some_inj h) k

    case-counts : (ts : List Item) (p : S.Stmt × ℕ) → case_form r n ts ≡ some p → Counts (Flats ts) Counted n (weigh ts) p
    unfolding case_form weigh
    case-counts [] p h = none-some h
    case-counts (t ∷ ts) p h = bind-some h λ x hx h. bind-some h λ a ha h. bind-some h λ b hb e.
        let i = arms-count n ts a ha in
        rw (← some_inj e) (record { up = i.up; most = omega (arith, i.most); each = λ l k s. case (record { from = f; to = omega (arith, i.up) }) (deep t x hx (first s)) (first-arms l a.0 b hb (i.each l k (rest s))) })

    form-counts : (v : Verb) (ts : List Item) (p : S.Stmt × ℕ) → stmt_form r v n ts ≡ some p → Counts (Flats ts) Counted n (weigh ts) p
    unfolding stmt_form
    form-counts v_assign ts p h = bind-some h λ q hq h. bind-some h λ g hg h. bind-some h λ x hx e. rw (← some_inj e) (leaf _ _ (λ l k s. let o = two-shallow s hq in assign (record { from = f; to = k }) (target-deep 33 31 q.0 o.0 g hg) (deep q.1 x hx o.1)))
    form-counts v_begin ts p h = bind-some h λ a ha e.
        let i = stmts-count n ts a ha in
        rw (← some_inj e) (record { up = i.up; most = i.most; each = λ l k s. begin (record { from = f; to = omega (arith, i.up) }) (i.each l k s) })
    form-counts v_if ts p h = if-counts ts p h
    form-counts v_while ts p h = bind-some h λ q hq h. bind-some h λ x hx h. bind-some h λ a ha e.
        let i = hr n q.1 a ha in let g = weigh-two ts hq in
        rw (← some_inj e) (record { up = i.up; most = omega (arith, i.most); each = λ l k s. let o = two-shallow s hq in while (record { from = f; to = omega (arith, i.up) }) (deep q.0 x hx o.0) (i.each l k o.1) })
    form-counts v_for ts p h = for-counts ts p h
    form-counts v_case ts p h = case-counts ts p h
    form-counts v_call [] p h = none-some h
    form-counts v_call (t ∷ ts) p h = bind-some h λ w hw h. bind-some h λ es hes e.
        rw (← some_inj e) (leaf _ _ (λ l k s. call (record { from = f; to = k }) (exprs-deep 33 32 (rest s) hes)))
    form-counts v_raise ts p h = bind-some h λ x hx e. bind-some hx λ t ht hx. rw (← some_inj e) (leaf _ _ (λ l k s. raise (record { from = f; to = k }) (deep t x hx (one-shallow s ht))))

stmt-counts : (d n : ℕ) (t : Item) (p : S.Stmt × ℕ) → stmt d n t ≡ some p → Counts (Flat t) Counted n (nodes t) p
unfolding stmt
stmt-counts zero n t p h = none-some h
stmt-counts (suc d) n t p h = bind-some h λ q hq h. bind-some h λ v hv h.
    let i = form-counts (stmt d) (stmt-counts d) (suc n) (omega arith) v q.1 p h in let w = weigh-headed t hq in
    record { up = omega (arith, i.up); most = omega (arith, i.most); each = λ l k s. i.each l k (headed-shallow s hq) }

-- ---- bodies and lines

weigh-handler : {hs : List Item} (t : Item) → handler_of t ≡ some hs → weigh hs ≤ nodes t
unfolding handler_of
weigh-handler t h = bind-some h λ q hq g. given-some g λ _ e. let w = weigh-headed t hq in rw (← e) (omega arith)

body-counts : (n : ℕ) (ts : List Item) (p : S.Body × ℕ) → body n ts ≡ some p → Counts (Flats ts) CountedBody n (weigh ts) p
unfolding body weigh
body-counts n [] p h = rw (← some_inj h) (record { up = omega arith; most = omega arith; each = λ l _ _. record { stmts = done; handler = done } })
body-counts n (t ∷ ts) p h = by-handler (handler_of t) refl ts h (λ m q hq. body-counts m ts q hq)
  where
    by-handler : (o : Option (List Item)) → handler_of t ≡ o → (ts : List Item) → body n (t ∷ ts) ≡ some p
        → ((m : ℕ) (q : S.Body × ℕ) → body m ts ≡ some q → Counts (Flats ts) CountedBody m (weigh ts) q) → Counts (Flats (t ∷ ts)) CountedBody n (nodes t + weigh ts) p
    by-handler (some hs) e [] h k = bind-some (rw (e, body) at h) λ a ha v.
        let i = stmts-count (stmt 33) (stmt-counts 33) n hs a ha in let w = weigh-handler t e in
        rw (← some_inj v) (record { up = i.up; most = omega (arith, i.most); each = λ l g s. record { stmts = done; handler = i.each l g (handler-shallow (first s) e) } })
    by-handler (some hs) e (u ∷ us) h k = none-some (rw (e, body) at h)
    by-handler none e ts h k = bind-some (rw (e, body) at h) λ a ha h'. bind-some h' λ b hb v.
        let i = stmt-counts 33 n t a ha in let j = k a.1 b hb in
        rw (← some_inj v) (record {
          up = omega (arith, i.up, j.up);
          most = omega (arith, i.most, j.most);
          each = λ l g s. record { stmts = i.each l (omega (arith, j.up)) (first s) next (j.each l g (rest s)).stmts; handler = (j.each l g (rest s)).handler };
        })

-- what comes after a list of parameters
after_list : (ts : List Item) {q : List (Name × S.TypeName) × List Item} → parameters ts ≡ some q → weigh q.1 ≤ weigh ts
unfolding parameters weigh
after_list [] h = rw (← some_inj h) (omega arith)
after_list (t ∷ ts) h = by-handler (pairs_of t) h (λ ps _ h. bind-some h λ fs hfs h. rw (← some_inj h) (omega arith)) (λ h. rw (← some_inj h) (omega arith))

list-shallow : {ts : List Item} → Flats ts → {q : List (Name × S.TypeName) × List Item} → parameters ts ≡ some q → Flats q.1
unfolding parameters
list-shallow no-parts h = rw (← some_inj h) no-parts
list-shallow (more {t} s ss) h = by-handler (pairs_of t) h (λ ps _ h. bind-some h λ fs hfs h. rw (← some_inj h) ss) (λ h. rw (← some_inj h) (more s ss))

by-counts : (d : LineHead) (n : ℕ) (ts : List Item) (p : S.LineForm × ℕ) → line_by d n ts ≡ some p → Counts (Flats ts) CountedLine n (weigh ts) p
unfolding line_by weigh
by-counts is_type n ts p h = bind-some h λ q hq h. bind-some h λ w hw h. bind-some h λ t ht e. rw (← some_inj e) (record { up = omega arith; most = omega arith; each = λ l _ _. type_line })
by-counts is_var n ts p h = bind-some h λ q hq h. bind-some h λ w hw h. bind-some h λ t ht e. rw (← some_inj e) (record { up = omega arith; most = omega arith; each = λ l _ _. var_line })
by-counts is_proc n [] p h = none-some h
by-counts is_proc n (t ∷ ts) p h = bind-some h λ w hw h. bind-some h λ q hq h. bind-some h λ b hb e.
    let i = body-counts n q.1 b hb in let m = after_list ts hq in
    rw (← some_inj e) (record { up = i.up; most = omega (arith, i.most); each = λ l k s. proc_line (i.each l k (list-shallow (rest s) hq)) })
by-counts is_main n ts p h = bind-some h λ b hb e.
    let i = body-counts n ts b hb in
    rw (← some_inj e) (record { up = i.up; most = i.most; each = λ l k s. main_line (i.each l k s) })

pub line-counts : (n : ℕ) (t : Item) (p : S.LineForm × ℕ) → line_form n t ≡ some p → Counts (Flat t) CountedLine n (nodes t) p
unfolding line_form
line-counts n t p h = bind-some h λ q hq h. bind-some h λ d hd h.
    let i = by-counts d n q.1 p h in let w = weigh-headed t hq in
    record { up = i.up; most = omega (arith, i.most); each = λ l k s. i.each l k (headed-shallow s hq) }
