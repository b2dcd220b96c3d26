-- What a tree reads as (row 6) weighs at most the tree's brackets and words.
use mathlib.Core.Path.{◌≡◌, refl, sym, ap}
use mathlib.Core.Bool.{Bool, true, false}
use mathlib.Core.List.{List, [], ◌∷◌}
use mathlib.Core.Option.{Option, none, some}
use Prim.Native.Nat.{ℕ, zero, suc, ◌+◌, ◌*◌, ◌≤◌}
use Prim.Native.String.{String}
use native.Mathlib.Nat.{mul-zero, mul-suc}
use native.Mathlib.Omega.{arith}
use lib.ListN.{length}
use Rattle.leaf_bytes.specs.Bytes.{bytes, same}
use Rattle.law.specs.Base.{Name, ◌>>=◌, either, each}
use Rattle.law.specs.Operators.{Fun, minus, negate}
use Rattle.law.specs.Syntax.{Arms, Body, Constant, Expr, Exprs, LineForm, Stmt, Stmts, Target, TypeForm, TypeName, ◌and◌, ◌next◌, alias, arm, array_of, assign, at, begin, binary, call, case, const, done, dot, else_arm, end_of, enum, error_number, for, if_else, main_line, members, nil, no_else, proc_line, raise, range, read, record_of, set_of, short_circuit, skip, type_line, unary, var, var_line, while}
use Rattle.law.specs.Trees.{Run, Tree, Trees, word, form, end, ◌then◌, list, nodes, nodes_in}
use Rattle.law.specs.Words.{Word, worded, worded_all}
use Rattle.law.specs.Forms.{Item, Head, h_at, h_dot, h_members, h_minus, h_bound, h_lazy, h_op, h_fun, first?, headed, one, two, some?, among, exprs_of, atom, constant, Verb, v_assign, v_begin, v_if, v_while, v_for, v_case, v_call, v_raise, ArmHead, is_arm, is_else, arms_first, field, Maker, m_enum, m_range, m_array, m_record, m_set, made_type, type_form, pairs_of, parameters, LineHead, is_type, is_var, is_proc, is_main, free}
use Rattle.law_theorems.specs.FormsByDepth.{ending, at_form, dot_form, two_sided, one_sided, expr_form, target_form, expr, target, Reader, stmts, one_arm, arms, else_of, if_form, for_form, case_form, stmt_form, stmt, handler_of, body, line_by, line_form}
use Rattle.law_theorems.proofs.Inversion.{none-some, some_inj, bind-some, given-some}

-- ---- weights: at most the brackets and words that spell a thing. A constant weighs 1, `(- number)` too

unfoldable mutual
  pub weight_e : Expr → ℕ
  weight_e (const c) = 1
  weight_e (read g) = weight_t g
  weight_e error_number = 1
  weight_e (members t es) = 3 + weight_es es
  weight_e (end_of q t) = 3
  weight_e (binary op a b) = 2 + (weight_e a + weight_e b)
  weight_e (short_circuit q a b) = 2 + (weight_e a + weight_e b)
  weight_e (unary f a) = 2 + weight_e a

  pub weight_t : Target → ℕ
  weight_t (var w) = 1
  weight_t (at g e) = 2 + (weight_t g + weight_e e)
  weight_t (dot g w) = 3 + weight_t g

  pub weight_es : Exprs → ℕ
  weight_es nil = 0
  weight_es (e and es) = weight_e e + weight_es es

-- an `if` without its third part has a part that weighs 1, for its head word
unfoldable mutual
  pub weight_s : Stmt → ℕ
  weight_s (assign n g e) = 2 + (weight_t g + weight_e e)
  weight_s (begin n ss) = 2 + weight_ss ss
  weight_s (if_else n e a b) = 1 + (weight_e e + weight_s a + weight_s b)
  weight_s (while n e a) = 2 + (weight_e e + weight_s a)
  weight_s (for n w a b s) = 3 + (weight_e a + weight_e b + weight_s s)
  weight_s (case n e bs) = 2 + (weight_e e + weight_a bs)
  weight_s (call n w es) = 3 + weight_es es
  weight_s (raise n e) = 2 + weight_e e
  weight_s skip = 1

  pub weight_ss : Stmts → ℕ
  weight_ss done = 0
  weight_ss (s next ss) = weight_s s + weight_ss ss

  pub weight_a : Arms → ℕ
  weight_a (else_arm s) = 2 + weight_s s
  weight_a no_else = 0
  weight_a (arm cs s bs) = 2 + (length cs + weight_s s + weight_a bs)

unfoldable pub weight_b : Body → ℕ
weight_b b = weight_ss b.stmts + weight_ss b.handler

unfoldable pub weight_d : TypeForm → ℕ
weight_d (alias t) = 1
weight_d (enum v vs) = 3 + length vs
weight_d (range a b) = 4
weight_d (array_of i e) = 4
weight_d (record_of fs) = 2 + 3 * length fs
weight_d (set_of b) = 3

-- a list of parameters, which has its own bracket
unfoldable pub weight_p : List (Name × TypeName) → ℕ
weight_p [] = 0
weight_p (p ∷ ps) = 4 + 3 * length ps

unfoldable pub weight_l : LineForm → ℕ
weight_l (type_line w t) = 3 + weight_d t
weight_l (var_line w t) = 4
weight_l (proc_line w ps b) = 3 + (weight_p ps + weight_b b)
weight_l (main_line b) = 2 + weight_b b

-- ---- sums over lists

unfoldable pub total : {A : Type 0} → (A → ℕ) → List A → ℕ
total f [] = 0
total f (a ∷ bs) = f a + total f bs

listed : (ts : Trees Word) → nodes_in ts ≡ total nodes (list ts)
unfolding nodes_in total list
listed end = refl
listed (t then ts) = ap (λ (n : ℕ). nodes t + n) (listed ts)

at_least_one : (t : Item) → 1 ≤ nodes t
unfolding nodes
at_least_one (word w) = omega arith
at_least_one (form ts) = omega arith

-- ---- shapes

first-nodes : (ts : List Item) {p : Name × List Item} → first? ts ≡ some p → suc (total nodes p.1) ≤ total nodes ts
unfolding first? total
first-nodes [] h = none-some h
first-nodes (t ∷ ts) {p} h = bind-some h λ w _ e. rw (← some_inj e) (let l = at_least_one t in omega arith)

headed-nodes : (t : Item) {p : Name × List Item} → headed t ≡ some p → 2 + total nodes p.1 ≤ nodes t
unfolding headed nodes
headed-nodes (word w) h = none-some h
headed-nodes (form ts) h = let l = first-nodes (list ts) h in rw (listed ts) (omega arith)

one-nodes : (ts : List Item) {t : Item} → one ts ≡ some t → nodes t ≤ total nodes ts
unfolding one total
one-nodes [] h = none-some h
one-nodes (a ∷ []) h = rw (← some_inj h) (omega arith)
one-nodes (a ∷ (b ∷ ts)) h = none-some h

two-nodes : (ts : List Item) {p : Item × Item} → two ts ≡ some p → nodes p.0 + nodes p.1 ≤ total nodes ts
unfolding two total
two-nodes [] h = none-some h
two-nodes (a ∷ ts) h = bind-some h λ b hb e. rw (← some_inj e) (let l = one-nodes ts hb in omega arith)

ending-nodes : (ts : List Item) {p : List Item × Item} → ending ts ≡ some p → total nodes p.0 + nodes p.1 ≤ total nodes ts
unfolding ending total
ending-nodes [] h = none-some h
ending-nodes (a ∷ []) h = rw (← some_inj h) (omega arith)
ending-nodes (a ∷ (b ∷ ts)) h = bind-some h λ q hq e. rw (← some_inj e) (let l = ending-nodes (b ∷ ts) hq in omega arith)

-- what is read of each of a list, where it weighs at most what it is read from
each-nodes : {A : Type 0} (f : Item → Option A) (w : A → ℕ) → ((t : Item) (a : A) → f t ≡ some a → w a ≤ nodes t)
    → (ts : List Item) {bs : List A} → each f ts ≡ some bs → total w bs ≤ total nodes ts
unfolding each total
each-nodes f w k [] h = rw (← some_inj h) (omega arith)
each-nodes f w k (t ∷ ts) h = bind-some h λ b hb h. bind-some h λ bs hbs e.
    rw (← some_inj e) (let l = k t b hb in let m = each-nodes f w k ts hbs in omega arith)

either-some : {A P : Type 0} (o : Option A) {p : Option A} {a : A} → either o p ≡ some a → (o ≡ some a → P) → (p ≡ some a → P) → P
unfolding either
either-some (some b) h k l = k h
either-some none h k l = l h

-- the only word of a table
pub among_one : {A : Type 0} (s : String) (a : A) (w : Name) {b : A} → among ((s, a) ∷ []) w ≡ some b → a ≡ b
unfolding among
among_one s a w {b} h = go (same (bytes s) w) h
  where
    go : (q : Bool) → elim q [ true ↦ some a | false ↦ none ] ≡ some b → a ≡ b
    go true h = some_inj h
    go false h = none-some h

-- ---- expressions and targets

weights-listed : (es : List Expr) → weight_es (exprs_of es) ≡ total weight_e es
unfolding weight_es exprs_of total
weights-listed [] = refl
weights-listed (e ∷ es) = ap (λ (n : ℕ). weight_e e + n) (weights-listed es)

atom-weighs : (t : Item) {e : Expr} → atom t ≡ some e → weight_e e ≤ nodes t
unfolding atom weight_e
atom-weighs t h = either-some _ h
    (λ h. bind-some h λ c _ e. rw (← some_inj e) (at_least_one t))
    (λ h. bind-some h λ w _ e. rw (← among_one _ _ w e) (at_least_one t))

module _ (expr : Item → Option Expr) (target : Item → Option Target) (below-e : (t : Item) (e : Expr) → expr t ≡ some e → weight_e e ≤ nodes t)
    (below-t : (t : Item) (g : Target) → target t ≡ some g → weight_t g ≤ nodes t) where
  at-weighs : (ts : List Item) {g : Target} → at_form expr target ts ≡ some g → weight_t g ≤ 2 + total nodes ts
  unfolding at_form weight_t
  at-weighs ts h = bind-some h λ p hp h. bind-some h λ g hg h. bind-some h λ e he h.
      rw (← some_inj h) (let l = two-nodes ts hp in let a = below-t p.0 g hg in let b = below-e p.1 e he in omega arith)

  dot-weighs : (ts : List Item) {g : Target} → dot_form expr target ts ≡ some g → weight_t g ≤ 2 + total nodes ts
  unfolding dot_form weight_t
  dot-weighs ts h = bind-some h λ p hp h. bind-some h λ g hg h. bind-some h λ n _ h.
      rw (← some_inj h) (let l = two-nodes ts hp in let a = below-t p.0 g hg in let b = at_least_one p.1 in omega arith)

  two-weigh : (f : Expr → Expr → Expr) → ((a b : Expr) → weight_e (f a b) ≡ 2 + (weight_e a + weight_e b))
      → (ts : List Item) {e : Expr} → two_sided expr target f ts ≡ some e → weight_e e ≤ 2 + total nodes ts
  unfolding two_sided
  two-weigh f k ts h = bind-some h λ p hp h. bind-some h λ a ha h. bind-some h λ b hb h.
      rw (← some_inj h, k a b) (let l = two-nodes ts hp in let m = below-e p.0 a ha in let n = below-e p.1 b hb in omega arith)

  one-weighs : (f : Fun) (ts : List Item) {e : Expr} → one_sided expr target f ts ≡ some e → weight_e e ≤ 2 + total nodes ts
  unfolding one_sided weight_e
  one-weighs f ts h = bind-some h λ a ha h. bind-some ha λ t ht ha.
      rw (← some_inj h) (let l = one-nodes ts ht in let m = below-e t a ha in omega arith)

  expr-form-weighs : (h : Head) (ts : List Item) {e : Expr} → expr_form expr target h ts ≡ some e → weight_e e ≤ 2 + total nodes ts
  unfolding expr_form weight_e total
  expr-form-weighs h_at ts h = bind-some h λ g hg h. rw (← some_inj h) (at-weighs ts hg)
  expr-form-weighs h_dot ts h = bind-some h λ g hg h. rw (← some_inj h) (dot-weighs ts hg)
  expr-form-weighs h_members [] h = none-some h
  expr-form-weighs h_members (t ∷ ts) h = bind-some h λ n _ h. bind-some h λ es hes h.
      rw (← some_inj h, weights-listed es) (let l = at_least_one t in let m = each-nodes expr weight_e below-e ts hes in omega arith)
  expr-form-weighs h_minus ts h = either-some _ h
      (λ h. bind-some h λ z _ h. rw (← some_inj h) (omega arith))
      (λ h. either-some _ h (λ h. one-weighs negate ts h) (λ h. two-weigh (binary minus) (λ a b. refl) ts h))
  expr-form-weighs (h_bound b) ts h = bind-some h λ n hn h. bind-some hn λ t ht _.
      rw (← some_inj h) (let l = one-nodes ts ht in let m = at_least_one t in omega arith)
  expr-form-weighs (h_lazy q) ts h = two-weigh (short_circuit q) (λ a b. refl) ts h
  expr-form-weighs (h_op op) ts h = two-weigh (binary op) (λ a b. refl) ts h
  expr-form-weighs (h_fun f) ts h = one-weighs f ts h

  target-form-weighs : (p : Name × List Item) {g : Target} → target_form expr target p ≡ some g → weight_t g ≤ 2 + total nodes p.1
  unfolding target_form
  target-form-weighs p {g} h = go (same (bytes "at") p.0) (same (bytes "dot") p.0) h
    where
      go : (q r : Bool) → elim q [ true ↦ at_form expr target p.1 | false ↦ elim r [ true ↦ dot_form expr target p.1 | false ↦ none ] ] ≡ some g
          → weight_t g ≤ 2 + total nodes p.1
      go true r h = at-weighs p.1 h
      go false true h = dot-weighs p.1 h
      go false false h = none-some h

mutual
  unfolding expr target weight_t nodes

  pub expr-weighs : (d : ℕ) (t : Item) (e : Expr) → expr d t ≡ some e → weight_e e ≤ nodes t
  expr-weighs zero t e h = none-some h
  expr-weighs (suc d) (word w) e h = atom-weighs (word w) h
  expr-weighs (suc d) (form ts) e h = bind-some h λ p hp h. bind-some h λ k _ h.
      let l = first-nodes (list ts) hp in
      let m = expr-form-weighs (λ t. expr d t) (λ t. target d t) (λ t e h. expr-weighs d t e h) (λ t g h. target-weighs d t g h) k p.1 h in
      rw (listed ts) (omega arith)

  pub target-weighs : (d : ℕ) (t : Item) (g : Target) → target d t ≡ some g → weight_t g ≤ nodes t
  target-weighs zero t g h = none-some h
  target-weighs (suc d) (word w) g h = bind-some h λ n _ h. rw (← some_inj h) (omega arith)
  target-weighs (suc d) (form ts) g h = bind-some h λ p hp h.
      let l = first-nodes (list ts) hp in
      let m = target-form-weighs (λ t. expr d t) (λ t. target d t) (λ t e h. expr-weighs d t e h) (λ t g h. target-weighs d t g h) p h in
      rw (listed ts) (omega arith)

-- ---- statements

total-same : {A : Type 0} (k : ℕ) (bs : List A) → total (λ _. k) bs ≡ k * length bs
unfolding total
total-same k [] = sym (mul-zero k)
total-same k (b ∷ bs) = rw (total-same k bs, mul-suc) (omega arith)

some?-length : {A : Type 0} (bs : List A) {p : A × List A} → some? bs ≡ some p → length bs ≡ suc (length p.1)
unfolding some?
some?-length [] h = none-some h
some?-length (b ∷ bs) h = rw (← some_inj h) refl

first-same : (bs : Arms) {cs : Arms} → arms_first bs ≡ some cs → bs ≡ cs
unfolding arms_first
first-same (else_arm s) h = none-some h
first-same no_else h = none-some h
first-same (arm cs s bs) h = some_inj h

by-head : {A P : Type 0} (k : ArmHead) {x y : Option A} {a : A} → elim k [ is_arm ↦ x | is_else ↦ y ] ≡ some a → (x ≡ some a → P) → (y ≡ some a → P) → P
by-head is_arm h f g = f h
by-head is_else h f g = g h

only-last : {A P : Type 0} (ts : List Item) {x : Option A} {a : A} → elim ts [ [] ↦ x | u ∷ us ↦ none ] ≡ some a → (ts ≡ [] → x ≡ some a → P) → P
only-last [] h f = f refl h
only-last (u ∷ us) h f = none-some h

module _ (r : Reader) (below : (n : ℕ) (t : Item) (p : Stmt × ℕ) → r n t ≡ some p → weight_s p.0 ≤ nodes t) where
  stmts-weigh : (n : ℕ) (ts : List Item) {p : Stmts × ℕ} → stmts r n ts ≡ some p → weight_ss p.0 ≤ total nodes ts
  unfolding stmts weight_ss total
  stmts-weigh n [] h = rw (← some_inj h) (omega arith)
  stmts-weigh n (t ∷ ts) h = bind-some h λ s hs h. bind-some h λ ss hss h.
      rw (← some_inj h) (let l = below n t s hs in let m = stmts-weigh s.1 ts hss in omega arith)

  arm-weighs : (n : ℕ) (ts : List Item) {p : List Constant × (Stmt × ℕ)} → one_arm r n ts ≡ some p → length p.0 + weight_s p.1.0 ≤ total nodes ts
  unfolding one_arm
  arm-weighs n ts h = bind-some h λ q hq h. bind-some h λ cs hcs h. bind-some h λ a ha h.
      rw (← some_inj h) (let l = ending-nodes ts hq in let m = labels-weigh q.0 cs hcs in let b = below n q.1 a ha in omega arith)
    where
      labels-weigh : (ls : List Item) (cs : Constant × List Constant) → (each constant ls >>= some?) ≡ some cs → suc (length cs.1) ≤ total nodes ls
      labels-weigh ls cs h = bind-some h λ bs hbs h.
          let l = each-nodes constant (λ _. 1) (λ t c _. at_least_one t) ls hbs in let e = total-same 1 bs in let f = some?-length bs h in omega arith

  else-weighs : (n : ℕ) (ts : List Item) {p : Stmt × ℕ} → else_of r n ts ≡ some p → weight_s p.0 ≤ 1 + total nodes ts
  unfolding else_of weight_s
  else-weighs n [] h = rw (← some_inj h) (omega arith)
  else-weighs n (t ∷ ts) {p} h = bind-some h λ u hu h. let l = one-nodes (t ∷ ts) hu in let m = below n u p h in omega arith

  arms-weigh : (n : ℕ) (ts : List Item) {p : Arms × ℕ} → arms r n ts ≡ some p → weight_a p.0 ≤ total nodes ts
  unfolding arms weight_a total
  arms-weigh n [] h = rw (← some_inj h) (omega arith)
  arms-weigh n (t ∷ ts) {p} h = bind-some h λ q hq h. bind-some h λ k _ h. by-head k h
      (λ h. bind-some h λ a ha h. bind-some h λ bs hbs h.
      rw (← some_inj h) (let l = headed-nodes t hq in let m = arm-weighs n q.1 ha in let o = arms-weigh a.1.1 ts hbs in omega arith))
      (λ h. only-last ts h λ _ h. bind-some h λ a ha h. bind-some ha λ u hu ha.
      rw (← some_inj h) (let l = headed-nodes t hq in let m = one-nodes q.1 hu in let o = below n u a ha in omega arith))

  if-weighs : (n : ℕ) (ts : List Item) {p : Stmt × ℕ} → if_form r n ts ≡ some p → weight_s p.0 ≤ 2 + total nodes ts
  unfolding if_form weight_s total
  if-weighs n [] h = none-some h
  if-weighs n (t ∷ []) h = none-some h
  if-weighs n (t ∷ (u ∷ ts)) h = bind-some h λ e he h. bind-some h λ a ha h. bind-some h λ b hb h.
      rw (← some_inj h) (let l = expr-weighs 33 t e he in let m = below n u a ha in let o = else-weighs a.1 ts hb in omega arith)

  for-weighs : (n : ℕ) (ts : List Item) {p : Stmt × ℕ} → for_form r n ts ≡ some p → weight_s p.0 ≤ 2 + total nodes ts
  unfolding for_form weight_s total
  for-weighs n [] h = none-some h
  for-weighs n (v ∷ []) h = none-some h
  for-weighs n (v ∷ (t ∷ ts)) h = bind-some h λ i _ h. bind-some h λ a ha h. bind-some h λ q hq h. bind-some h λ b hb h. bind-some h λ c hc h.
      rw (← some_inj h) (let k = at_least_one v in let l = expr-weighs 33 t a ha in let o = two-nodes ts hq in let m = expr-weighs 33 q.0 b hb in let s = below n q.1 c hc in omega arith)

  case-weighs : (n : ℕ) (ts : List Item) {p : Stmt × ℕ} → case_form r n ts ≡ some p → weight_s p.0 ≤ 2 + total nodes ts
  unfolding case_form weight_s total
  case-weighs n [] h = none-some h
  case-weighs n (t ∷ ts) h = bind-some h λ e he h. bind-some h λ bs hbs h. bind-some h λ cs hcs h.
      rw (← some_inj h, ← first-same bs.0 hcs) (let l = expr-weighs 33 t e he in let m = arms-weigh n ts hbs in omega arith)

  stmt-form-weighs : (v : Verb) (n : ℕ) (ts : List Item) {p : Stmt × ℕ} → stmt_form r v n ts ≡ some p → weight_s p.0 ≤ 2 + total nodes ts
  unfolding stmt_form weight_s total
  stmt-form-weighs v_assign n ts h = bind-some h λ q hq h. bind-some h λ g hg h. bind-some h λ e he h.
      rw (← some_inj h) (let l = two-nodes ts hq in let a = target-weighs 33 q.0 g hg in let b = expr-weighs 33 q.1 e he in omega arith)
  stmt-form-weighs v_begin n ts h = bind-some h λ ss hss h. rw (← some_inj h) (let l = stmts-weigh n ts hss in omega arith)
  stmt-form-weighs v_if n ts h = if-weighs n ts h
  stmt-form-weighs v_while n ts h = bind-some h λ q hq h. bind-some h λ e he h. bind-some h λ a ha h.
      rw (← some_inj h) (let l = two-nodes ts hq in let m = expr-weighs 33 q.0 e he in let b = below n q.1 a ha in omega arith)
  stmt-form-weighs v_for n ts h = for-weighs n ts h
  stmt-form-weighs v_case n ts h = case-weighs n ts h
  stmt-form-weighs v_call n [] h = none-some h
  stmt-form-weighs v_call n (t ∷ ts) h = bind-some h λ w _ h. bind-some h λ es hes h.
      rw (← some_inj h, weights-listed es) (let l = at_least_one t in let m = each-nodes (expr 33) weight_e (expr-weighs 33) ts hes in omega arith)
  stmt-form-weighs v_raise n ts h = bind-some h λ e he h. bind-some he λ t ht he.
      rw (← some_inj h) (let l = one-nodes ts ht in let m = expr-weighs 33 t e he in omega arith)

pub stmt-weighs : (d n : ℕ) (t : Item) (p : Stmt × ℕ) → stmt d n t ≡ some p → weight_s p.0 ≤ nodes t
unfolding stmt
stmt-weighs zero n t p h = none-some h
stmt-weighs (suc d) n t p h = bind-some h λ q hq h. bind-some h λ v _ h.
    let l = headed-nodes t hq in let m = stmt-form-weighs (stmt d) (stmt-weighs d) v (suc n) q.1 h in omega arith

-- ---- bodies

handler-nodes : (t : Item) {hs : List Item} → handler_of t ≡ some hs → 2 + total nodes hs ≤ nodes t
unfolding handler_of
handler-nodes t h = bind-some h λ p hp h. given-some h λ _ e. rw (← e) (headed-nodes t hp)

pub by-handler : {A B P : Type 0} (o : Option A) {x : A → Option B} {y : Option B} {b : B} → elim o [ some a ↦ x a | none ↦ y ] ≡ some b
    → ((a : A) → o ≡ some a → x a ≡ some b → P) → (y ≡ some b → P) → P
by-handler (some a) h f g = f a refl h
by-handler none h f g = g h

pub body-weighs : (n : ℕ) (ts : List Item) {p : Body × ℕ} → body n ts ≡ some p → weight_b p.0 ≤ total nodes ts
unfolding body weight_b weight_ss total
body-weighs n [] h = rw (← some_inj h) (omega arith)
body-weighs n (t ∷ ts) h = by-handler (handler_of t) h
    (λ hs k h. only-last ts h λ _ h. bind-some h λ p hp h.
    rw (← some_inj h) (let l = handler-nodes t k in let m = stmts-weigh (stmt 33) (stmt-weighs 33) n hs hp in omega arith))
    (λ h. bind-some h λ p hp h. bind-some h λ q hq h.
    rw (← some_inj h) (let l = stmt-weighs 33 n t p hp in let m = body-weighs p.1 ts hq in omega arith))

-- ---- lines

field-nodes : (t : Item) (f : Name × TypeName) → field t ≡ some f → 3 ≤ nodes t
unfolding field nodes
field-nodes (word w) f h = none-some h
field-nodes (form ts) f h = bind-some h λ p hp _.
    rw (listed ts) (let l = two-nodes (list ts) hp in let a = at_least_one p.0 in let b = at_least_one p.1 in omega arith)

made-weighs : (m : Maker) (ts : List Item) {d : TypeForm} → made_type m ts ≡ some d → weight_d d ≤ 2 + total nodes ts
unfolding made_type weight_d
made-weighs m_enum ts h = bind-some h λ p hp h. bind-some hp λ ns hns hp.
    rw (← some_inj h) (let l = each-nodes free (λ _. 1) (λ t _ _. at_least_one t) ts hns in let e = total-same 1 ns in let f = some?-length ns hp in omega arith)
made-weighs m_range ts h = bind-some h λ p hp h. bind-some h λ a _ h. bind-some h λ b _ h.
    rw (← some_inj h) (let l = two-nodes ts hp in let a = at_least_one p.0 in let b = at_least_one p.1 in omega arith)
made-weighs m_array ts h = bind-some h λ p hp h. bind-some h λ a _ h. bind-some h λ b _ h.
    rw (← some_inj h) (let l = two-nodes ts hp in let a = at_least_one p.0 in let b = at_least_one p.1 in omega arith)
made-weighs m_record ts h = bind-some h λ p hp h. bind-some hp λ fs hfs hp.
    rw (← some_inj h) (let l = each-nodes field (λ _. 3) field-nodes ts hfs in let e = total-same 3 fs in let f = some?-length fs hp in omega arith)
made-weighs m_set ts h = bind-some h λ b hb h. bind-some hb λ t ht _.
    rw (← some_inj h) (let l = one-nodes ts ht in let m = at_least_one t in omega arith)

type-weighs : (t : Item) {d : TypeForm} → type_form t ≡ some d → weight_d d ≤ nodes t
unfolding type_form weight_d nodes
type-weighs (word w) h = bind-some h λ n _ h. rw (← some_inj h) (omega arith)
type-weighs (form ts) h = bind-some h λ p hp h. bind-some h λ m _ h.
    rw (listed ts) (let l = first-nodes (list ts) hp in let k = made-weighs m p.1 h in omega arith)

pairs-nodes : (t : Item) {ps : List Item} → pairs_of t ≡ some ps → suc (total nodes ps) ≤ nodes t
unfolding pairs_of nodes list total
pairs-nodes (word w) h = none-some h
pairs-nodes (form end) h = none-some h
pairs-nodes (form (word w then ts)) h = none-some h
pairs-nodes (form (form us then ts)) h = rw (← some_inj h, listed ts) (omega arith)

weight_p-most : (ps : List (Name × TypeName)) → weight_p ps ≤ 1 + 3 * length ps
unfolding weight_p
weight_p-most [] = omega arith
weight_p-most (p ∷ ps) = omega arith

parameters-weigh : (ts : List Item) {q : List (Name × TypeName) × List Item} → parameters ts ≡ some q → weight_p q.0 + total nodes q.1 ≤ total nodes ts
unfolding parameters total weight_p
parameters-weigh [] h = rw (← some_inj h) (omega arith)
parameters-weigh (t ∷ ts) h = by-handler (pairs_of t) h
    (λ ps k h. bind-some h λ fs hfs h.
    rw (← some_inj h) (let l = pairs-nodes t k in let e = each-nodes field (λ _. 3) field-nodes ps hfs in let f = total-same 3 fs in let g = weight_p-most fs in omega arith))
    (λ h. rw (← some_inj h) (omega arith))

line-by-weighs : (k : LineHead) (n : ℕ) (ts : List Item) {p : LineForm × ℕ} → line_by k n ts ≡ some p → weight_l p.0 ≤ 2 + total nodes ts
unfolding line_by weight_l total
line-by-weighs is_type n ts h = bind-some h λ p hp h. bind-some h λ w _ h. bind-some h λ d hd h.
    rw (← some_inj h) (let l = two-nodes ts hp in let a = at_least_one p.0 in let m = type-weighs p.1 hd in omega arith)
line-by-weighs is_var n ts h = bind-some h λ p hp h. bind-some h λ w _ h. bind-some h λ d _ h.
    rw (← some_inj h) (let l = two-nodes ts hp in let a = at_least_one p.0 in let b = at_least_one p.1 in omega arith)
line-by-weighs is_proc n [] h = none-some h
line-by-weighs is_proc n (t ∷ ts) h = bind-some h λ w _ h. bind-some h λ q hq h. bind-some h λ p hp h.
    rw (← some_inj h) (let a = at_least_one t in let l = body-weighs n q.1 hp in let m = parameters-weigh ts hq in omega arith)
line-by-weighs is_main n ts h = bind-some h λ p hp h. rw (← some_inj h) (let l = body-weighs n ts hp in omega arith)

-- row 6: a line weighs at most its brackets and words
pub line-weighs : (n : ℕ) (t : Item) (p : LineForm × ℕ) → line_form n t ≡ some p → weight_l p.0 ≤ nodes t
unfolding line_form
line-weighs n t p h = bind-some h λ q hq h. bind-some h λ k _ h. let l = headed-nodes t hq in let m = line-by-weighs k n q.1 h in omega arith

-- ---- row 5 keeps the brackets and words

mutual
  unfolding worded nodes

  pub worded-nodes : (t : Tree Run) (v : Item) → worded t ≡ some v → nodes v ≡ nodes t
  worded-nodes (word w) v h = bind-some h λ x _ e. rw (← some_inj e) refl
  worded-nodes (form ts) v h = bind-some h λ vs hvs e. rw (← some_inj e) (ap suc (worded-all-nodes ts vs hvs))

  worded-all-nodes : (ts : Trees Run) (vs : Trees Word) → worded_all ts ≡ some vs → nodes_in vs ≡ nodes_in ts
  worded-all-nodes end vs h = rw (← some_inj h) refl
  worded-all-nodes (t then ts) vs h = bind-some h λ v hv h. bind-some h λ us hus e.
      rw (← some_inj e, worded-nodes t v hv, worded-all-nodes ts us hus)
