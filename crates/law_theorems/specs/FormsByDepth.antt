-- The forms as the checker reads them, which counts brackets: `expr d`, `target d`, `stmt d` read what is less than d deep, each form by a function of its parts, given the readers
-- for what stands one bracket deeper. For a line's tree, at most 32 deep, they give what the law's readers give (proofs/FormsAgree).
use Rattle.std.specs.Prelude.{true, false, List, [], ◌∷◌, ℕ, zero, suc}
use Rattle.std.proofs.Math.Option.{Option, none, some}
use Rattle.leaf_bytes.specs.Bytes.{bytes, same}
use Rattle.law.specs.Syntax as Syntax
use Rattle.law.specs.Base.{Name, ◌>>=◌, given, either, each}
use Rattle.law.specs.Operators.{Fun, minus, negate}
use Rattle.law.specs.Syntax.{Arms, Body, Constant, Expr, LineForm, Stmt, Stmts, Target, ◌next◌, arm, assign, at, begin, binary, call, case, const, done, dot, else_arm, end_of, for, if_else, main_line, members, no_else, proc_line, raise, read, short_circuit, skip, type_line, unary, var, var_line, while}
use Rattle.law.specs.Trees.{word, form, list}
use Rattle.law.specs.Forms.{Head, Item, LineHead, Verb, among, arm_heads, arms_first, atom, constant, exprs_of, first?, free, h_at, h_bound, h_dot, h_fun, h_lazy, h_members, h_minus, h_op, headed, heads, is_arm, is_else, is_main, is_number, is_proc, is_type, is_var, line_heads, one, parameters, plain_body, some?, two, type_form, type_name, v_assign, v_begin, v_call, v_case, v_for, v_if, v_raise, v_while, verbs}

-- all but the last, and the last
unfoldable pub ending : List Item → Option (List Item × Item)
ending [] = none
ending (a ∷ []) = some ([], a)
ending (a ∷ (b ∷ ts)) = ending (b ∷ ts) >>= λ p. some (a ∷ p.0, p.1)

-- forms whose expressions and targets are read by these
module _ (expr : Item → Option Expr) (target : Item → Option Target) where
  -- `(at G E)`, `(dot G N)`
  unfoldable pub at_form : List Item → Option Target
  at_form ts = two ts >>= λ p. target p.0 >>= λ g. expr p.1 >>= λ e. some (at g e)

  unfoldable pub dot_form : List Item → Option Target
  dot_form ts = two ts >>= λ p. target p.0 >>= λ g. free p.1 >>= λ n. some (dot g n)

  -- `(OP E E)`; `(not E)` and the like
  unfoldable pub two_sided : (Expr → Expr → Expr) → List Item → Option Expr
  two_sided f ts = two ts >>= λ p. expr p.0 >>= λ a. expr p.1 >>= λ b. some (f a b)

  unfoldable pub one_sided : Fun → List Item → Option Expr
  one_sided f ts = one ts >>= expr >>= λ a. some (unary f a)

  -- a form that is an expression: one of those, `(members T E..)`, `(- E)`, `(first T)`, `(last T)`
  unfoldable pub expr_form : Head → List Item → Option Expr
  expr_form h_at ts = at_form ts >>= λ g. some (read g)
  expr_form h_dot ts = dot_form ts >>= λ g. some (read g)
  expr_form h_members [] = none
  expr_form h_members (t ∷ ts) = type_name t >>= λ n. each expr ts >>= λ es. some (members n (exprs_of es))
  expr_form h_minus ts =
      either (one ts >>= is_number >>= λ z. some (const (Syntax.minus z))) (either (one_sided negate ts) (two_sided (binary minus) ts))
  expr_form (h_bound b) ts = one ts >>= type_name >>= λ n. some (end_of b n)
  expr_form (h_lazy q) ts = two_sided (short_circuit q) ts
  expr_form (h_op op) ts = two_sided (binary op) ts
  expr_form (h_fun f) ts = one_sided f ts

  -- a form that is a target
  unfoldable pub target_form : Name × List Item → Option Target
  target_form p = elim (same (bytes "at") p.0) [
    | true ↦ at_form p.1
    | false ↦
        elim (same (bytes "dot") p.0) [ true ↦ dot_form p.1 | false ↦ none ]
  ]

-- E: "a constant, a target, `error_number`", or a form. G: "a variable, `(at G E)`, `(dot G N)`"
unfoldable mutual
  pub expr : ℕ → Item → Option Expr
  expr zero t = none
  expr (suc d) (word w) = atom (word w)
  expr (suc d) (form ts) = first? (list ts) >>= λ p. among heads p.0 >>= λ h. expr_form (λ t. expr d t) (λ t. target d t) h p.1

  pub target : ℕ → Item → Option Target
  target zero t = none
  target (suc d) (word w) = free (word w) >>= λ n. some (var n)
  target (suc d) (form ts) = first? (list ts) >>= target_form (λ t. expr d t) (λ t. target d t)

-- at any depth that a line has
abbrev pub expr_at : Item → Option Expr
expr_at = expr 33

abbrev pub target_at : Item → Option Target
target_at = target 33

-- ---- statements. A reader takes the number of the last statement before, and gives the number of the last one read

abbrev pub Reader : Type 0
Reader = ℕ → Item → Option (Stmt × ℕ)

-- `S..`
unfoldable pub stmts : Reader → ℕ → List Item → Option (Stmts × ℕ)
stmts r n [] = some (done, n)
stmts r n (t ∷ ts) = do
  (s, m) ← r n t
  (ss, m') ← stmts r m ts
  some (s next ss, m')

-- `(arm C.. S)`: the last part is the statement
unfoldable pub one_arm : Reader → ℕ → List Item → Option (List Constant × (Stmt × ℕ))
one_arm r n ts = do
  (ls, s) ← ending ts
  cs ← each constant ls >>= some?
  a ← r n s
  some (cs.0 ∷ cs.1, a)

-- arms, and at most one last `(else S)`
unfoldable pub arms : Reader → ℕ → List Item → Option (Arms × ℕ)
arms r n [] = some (no_else, n)
arms r n (t ∷ ts) = do
  (w, ps) ← headed t
  h ← among arm_heads w
  elim h [
    | is_arm ↦ one_arm r n ps >>= λ a. arms r a.1.1 ts >>= λ bs. some (arm a.0 a.1.0 bs.0, bs.1)
    | is_else ↦ elim ts [ [] ↦ one ps >>= r n >>= λ a. some (else_arm a.0, a.1) | u ∷ us ↦ none ]
  ]

-- `(if E S)` and `(if E S S)`
unfoldable pub else_of : Reader → ℕ → List Item → Option (Stmt × ℕ)
else_of r n [] = some (skip, n)
else_of r n (t ∷ ts) = one (t ∷ ts) >>= r n

unfoldable pub if_form : Reader → ℕ → List Item → Option (Stmt × ℕ)
if_form r n [] = none
if_form r n (t ∷ []) = none
if_form r n (t ∷ (u ∷ ts)) = do
  e ← expr_at t
  (a, m) ← r n u
  (b, m') ← else_of r m ts
  some (if_else n e a b, m')

-- `(for N E E S)`
unfoldable pub for_form : Reader → ℕ → List Item → Option (Stmt × ℕ)
for_form r n [] = none
for_form r n (v ∷ []) = none
for_form r n (v ∷ (t ∷ ts)) = do
  i ← free v
  a ← expr_at t
  (u, s) ← two ts
  b ← expr_at u
  (c, m) ← r n s
  some (for n i a b c, m)

-- `(case E (arm C.. S).. )` "with one or more arms, each of one or more labels, and at most one last `(else S)`"
unfoldable pub case_form : Reader → ℕ → List Item → Option (Stmt × ℕ)
case_form r n [] = none
case_form r n (t ∷ ts) = do
  e ← expr_at t
  (bs, m) ← arms r n ts
  bs' ← arms_first bs
  some (case n e bs', m)

-- statement n, by its head: the others are `(:= G E)`, `(begin S..)`, `(while E S)`, `(call N)`, `(raise E)`
unfoldable pub stmt_form : Reader → Verb → ℕ → List Item → Option (Stmt × ℕ)
stmt_form r v_assign n ts = do
  (t, u) ← two ts
  g ← target_at t
  e ← expr_at u
  some (assign n g e, n)
stmt_form r v_begin n ts = stmts r n ts >>= λ p. some (begin n p.0, p.1)
stmt_form r v_if n ts = if_form r n ts
stmt_form r v_while n ts = do
  (t, u) ← two ts
  e ← expr_at t
  (a, m) ← r n u
  some (while n e a, m)
stmt_form r v_for n ts = for_form r n ts
stmt_form r v_case n ts = case_form r n ts
stmt_form r v_call n [] = none
stmt_form r v_call n (t ∷ ts) = free t >>= λ p. each expr_at ts >>= λ es. some (call n p (exprs_of es), n)
stmt_form r v_raise n ts = one ts >>= expr_at >>= λ e. some (raise n e, n)

unfoldable pub stmt : ℕ → Reader
stmt zero n t = none
stmt (suc d) n t = do
  (w, ts) ← headed t
  v ← among verbs w
  stmt_form (stmt d) v (suc n) ts

-- ---- BODY: "any number of statements, then at most one `(exception S..)`"

unfoldable pub handler_of : Item → Option (List Item)
handler_of t = headed t >>= λ p. given (same (bytes "exception") p.0) p.1

unfoldable pub body : ℕ → List Item → Option (Body × ℕ)
body n [] = some (plain_body done, n)
body n (t ∷ ts) = elim (handler_of t) [
  | some hs ↦ elim ts [ u ∷ us ↦ none | [] ↦ stmts (stmt 33) n hs >>= λ p. some (record { stmts = done; handles = true; handler = p.0 }, p.1) ]
  | none ↦ stmt 33 n t >>= λ p. body p.1 ts >>= λ q.
      some (record { stmts = p.0 next q.0.stmts; handles = q.0.handles; handler = q.0.handler }, q.1)
]

-- `(type N T)`, `(var N T)`, `(proc N BODY)`, `(main BODY)`
unfoldable pub line_by : LineHead → ℕ → List Item → Option (LineForm × ℕ)
line_by is_type n ts = two ts >>= λ p. free p.0 >>= λ w. type_form p.1 >>= λ t. some (type_line w t, n)
line_by is_var n ts = two ts >>= λ p. free p.0 >>= λ w. type_name p.1 >>= λ t. some (var_line w t, n)
line_by is_proc n [] = none
line_by is_proc n (t ∷ ts) = free t >>= λ w. parameters ts >>= λ q. body n q.1 >>= λ p. some (proc_line w q.0 p.0, p.1)
line_by is_main n ts = body n ts >>= λ p. some (main_line p.0, p.1)

-- row 6: what a line says, and the number of the last statement up to its end
unfoldable pub line_form : ℕ → Item → Option (LineForm × ℕ)
line_form n t = headed t >>= λ p. among line_heads p.0 >>= λ h. line_by h n p.1
