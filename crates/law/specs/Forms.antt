-- "The forms" (row 6): a line's tree to what it says. The quoted forms are document 01's: T a type, I, E and B type names, C a constant, G a target,
-- E an expression, S a statement; `..` stands for none or more. A form's first part, its head word, says what the parts after it are.
use Rattle.std.specs.Prelude.{Bool, true, false, List, [], ◌∷◌, ℕ, suc, ℤ}
use Rattle.std.proofs.Math.Option.{Option, none, some}
use Prim.Native.String.{String}
use Rattle.leaf_bytes.specs.Bytes.{bytes, same}
use Rattle.law.specs.Syntax as Syntax
use Rattle.law.specs.Base.{Name, ◌>>=◌, given, either, each}
use Rattle.law.specs.Operators.{Fun, Op, abs, and_both, at_least, at_most, card, divide, equal, greater, less, member, minus, modulo, negate, not_of, odd, or_both, ord, plus, power, pred, setmax, setmin, sqr, succ, times, unequal}
use Rattle.law.specs.Syntax.{Arms, Body, Constant, Expr, Exprs, LineForm, Stmt, Stmts, Target, TypeForm, TypeName, ◌and◌, ◌next◌, alias, arm, array_of, assign, at, begin, binary, boolean, call, case, const, declared, done, dot, else_arm, end_of, enum, error_number, for, if_else, integer, main_line, members, named, nil, no_else, proc_line, raise, range, read, record_of, set_of, short_circuit, skip, truth, type_line, unary, var, var_line, while}
use Rattle.law.specs.Trees.{Tree, word, form, Trees, end, ◌then◌, list}
use Rattle.law.specs.Words.{Word, number, name, key}

abbrev pub Item : Type 0
Item = Tree Word

-- ---- shapes

-- a name that is not reserved
unfoldable pub free : Item → Option Name
free (word (number z)) = none
free (word (name w)) = some w
free (word (key w)) = none
free (form ts) = none

-- a reserved word or an operator
unfoldable pub key_of : Item → Option Name
key_of (word (number z)) = none
key_of (word (name w)) = none
key_of (word (key w)) = some w
key_of (form ts) = none

unfoldable pub is_number : Item → Option ℤ
is_number (word (number z)) = some z
is_number (word (name w)) = none
is_number (word (key w)) = none
is_number (form ts) = none

unfoldable pub first? : List Item → Option (Name × List Item)
first? [] = none
first? (t ∷ ts) = key_of t >>= λ w. some (w, ts)

-- a form's head word and its other parts
unfoldable pub headed : Item → Option (Name × List Item)
headed (word w) = none
headed (form ts) = first? (list ts)

-- so many
unfoldable pub one : {A : Type 0} → List A → Option A
one [] = none
one (a ∷ []) = some a
one (a ∷ (b ∷ cs)) = none

unfoldable pub two : {A : Type 0} → List A → Option (A × A)
two [] = none
two (a ∷ bs) = one bs >>= λ b. some (a, b)

unfoldable pub three : {A : Type 0} → List A → Option (A × (A × A))
three [] = none
three (a ∷ bs) = two bs >>= λ p. some (a, p)

-- one or more: the first and the others
unfoldable pub some? : {A : Type 0} → List A → Option (A × List A)
some? [] = none
some? (a ∷ bs) = some (a, bs)

-- a table of words
unfoldable pub among : {A : Type 0} → List (String × A) → Name → Option A
among [] w = none
among (p ∷ ps) w = elim (same (bytes p.0) w) [ true ↦ some p.1 | false ↦ among ps w ]

-- ---- type names and constants

-- "type names, `integer` and `boolean` among them"
unfoldable pub type_name : Item → Option TypeName
type_name t = either (free t >>= λ w. some (declared w)) (key_of t >>= among (("integer", integer) ∷ ("boolean", boolean) ∷ []))

unfoldable pub truths : List (String × Bool)
truths = ("true", true) ∷ ("false", false) ∷ []

-- "`(- number)` (always read as a constant)"
unfoldable pub minus_number : Name × List Item → Option Constant
minus_number p = elim (same (bytes "-") p.0) [ false ↦ none | true ↦ one p.1 >>= is_number >>= λ z. some (Syntax.minus z) ]

-- C: "a number, `(- number)`, an enum name, `true`, `false`"
unfoldable pub constant : Item → Option Constant
constant t =
    either (is_number t >>= λ z. some (Syntax.number z))
    (either (free t >>= λ w. some (named w))
    (either (key_of t >>= among truths >>= λ b. some (truth b))
    (headed t >>= minus_number)))

-- ---- expressions and targets

pub data Head : Type 0 where
  h_at h_dot h_members h_minus : Head
  h_bound h_lazy : Bool → Head
  h_op : Op → Head
  h_fun : Fun → Head

unfoldable pub heads : List (String × Head)
heads =
    ("at", h_at) ∷ ("dot", h_dot) ∷ ("members", h_members) ∷ ("first", h_bound false) ∷ ("last", h_bound true) ∷
    ("+", h_op plus) ∷ ("-", h_minus) ∷ ("*", h_op times) ∷ ("**", h_op power) ∷ ("div", h_op divide) ∷ ("mod", h_op modulo) ∷
    ("=", h_op equal) ∷ ("<>", h_op unequal) ∷ ("<", h_op less) ∷ ("<=", h_op at_most) ∷ (">", h_op greater) ∷ (">=", h_op at_least) ∷
    ("in", h_op member) ∷ ("and", h_op and_both) ∷ ("or", h_op or_both) ∷ ("and_then", h_lazy true) ∷ ("or_else", h_lazy false) ∷
    ("not", h_fun not_of) ∷ ("abs", h_fun abs) ∷ ("sqr", h_fun sqr) ∷ ("odd", h_fun odd) ∷ ("ord", h_fun ord) ∷ ("pred", h_fun pred) ∷
    ("succ", h_fun succ) ∷ ("card", h_fun card) ∷ ("setmin", h_fun setmin) ∷ ("setmax", h_fun setmax) ∷ []

unfoldable pub exprs_of : List Expr → Exprs
exprs_of [] = nil
exprs_of (e ∷ es) = e and exprs_of es

-- a word as an expression: a constant, or `error_number`
unfoldable pub atom : Item → Option Expr
atom t = either (constant t >>= λ c. some (const c)) (key_of t >>= among (("error_number", error_number) ∷ []))

-- `(OP E E)`; `(not E)` and the like
unfoldable pub two_sided : (Expr → Expr → Expr) → List Expr → Option Expr
two_sided f es = two es >>= λ p. some (f p.0 p.1)

unfoldable pub one_sided : (Expr → Expr) → List Expr → Option Expr
one_sided f es = one es >>= λ a. some (f a)

unfoldable mutual
  -- E: "a constant, a target, `error_number`", or a form
  pub expr : Item → Option Expr
  expr (word w) = atom (word w)
  expr (form ts) = expr_form ts

  -- one of the others, `(- number)`, `(- E)`, `(- E E)`, `(first T)`, `(last T)`
  pub expr_form : Trees Word → Option Expr
  expr_form end = none
  expr_form (t then ts) = key_of t >>= among heads >>= λ h. elim h [
    | h_at ↦ at_form ts >>= λ g. some (read g)
    | h_dot ↦ dot_form ts >>= λ g. some (read g)
    | h_members ↦ members_form ts
    | h_minus ↦
        either (one (list ts) >>= is_number >>= λ z. some (const (Syntax.minus z)))
        (exprs ts >>= λ es. either (one_sided (unary negate) es) (two_sided (binary minus) es))
    | h_bound b ↦ one (list ts) >>= type_name >>= λ n. some (end_of b n)
    | h_lazy q ↦ exprs ts >>= two_sided (short_circuit q)
    | h_op op ↦ exprs ts >>= two_sided (binary op)
    | h_fun f ↦ exprs ts >>= one_sided (unary f)
  ]

  -- `E..`
  pub exprs : Trees Word → Option (List Expr)
  exprs end = some []
  exprs (t then ts) = expr t >>= λ e. exprs ts >>= λ es. some (e ∷ es)

  -- `(members T E..)`: its parts after the head word, as in what follows
  pub members_form : Trees Word → Option Expr
  members_form end = none
  members_form (t then ts) = type_name t >>= λ n. exprs ts >>= λ es. some (members n (exprs_of es))

  -- G: "a variable, `(at G E)`, `(dot G N)`"
  pub target : Item → Option Target
  target (word w) = free (word w) >>= λ n. some (var n)
  target (form ts) = target_form ts

  pub target_form : Trees Word → Option Target
  target_form end = none
  target_form (t then ts) = key_of t >>= among (("at", at_form ts) ∷ ("dot", dot_form ts) ∷ []) >>= λ g. g

  pub at_form : Trees Word → Option Target
  at_form end = none
  at_form (t then ts) = target t >>= λ g. exprs ts >>= one >>= λ e. some (at g e)

  pub dot_form : Trees Word → Option Target
  dot_form end = none
  dot_form (t then ts) = target t >>= λ g. one (list ts) >>= free >>= λ n. some (dot g n)

-- ---- statements. A reader takes the number of the last statement before, and gives the number of the last one read

pub data Verb : Type 0 where
  v_assign v_begin v_if v_while v_for v_case v_call v_raise : Verb

unfoldable pub verbs : List (String × Verb)
verbs = (":=", v_assign) ∷ ("begin", v_begin) ∷ ("if", v_if) ∷ ("while", v_while) ∷ ("for", v_for) ∷ ("case", v_case) ∷ ("call", v_call) ∷ ("raise", v_raise) ∷ []

pub data ArmHead : Type 0 where
  is_arm is_else : ArmHead

unfoldable pub arm_heads : List (String × ArmHead)
arm_heads = ("arm", is_arm) ∷ ("else", is_else) ∷ []

-- an arm has one or more labels, an `else` none
unfoldable pub labels : ArmHead → List Constant → Option (List Constant)
labels is_arm [] = none
labels is_arm (c ∷ cs) = some (c ∷ cs)
labels is_else [] = some []
labels is_else (c ∷ cs) = none

-- one or more arms
unfoldable pub arms_first : Arms → Option Arms
arms_first (else_arm s) = none
arms_first no_else = none
arms_first (arm cs s bs) = some (arm cs s bs)

-- one statement, or two
unfoldable pub branches : Stmts → Option (Stmt × Stmt)
branches done = none
branches (a next done) = some (a, skip)
branches (a next (b next done)) = some (a, b)
branches (a next (b next (c next ss))) = none

unfoldable mutual
  pub stmt : ℕ → Item → Option (Stmt × ℕ)
  stmt n (word w) = none
  stmt n (form ts) = stmt_form (suc n) ts

  -- statement n, by its head word
  pub stmt_form : ℕ → Trees Word → Option (Stmt × ℕ)
  stmt_form n end = none
  stmt_form n (t then ts) = key_of t >>= among verbs >>= λ v. elim v [
    -- `(:= G E)`
    | v_assign ↦ two (list ts) >>= λ p. target p.0 >>= λ g. expr p.1 >>= λ e. some (assign n g e, n)
    -- `(begin S..)`
    | v_begin ↦ stmts n ts >>= λ p. some (begin n p.0, p.1)
    | v_if ↦ if_form n ts
    -- `(while E S)`
    | v_while ↦ lastly n ts >>= λ p. one p.0 >>= expr >>= λ e. some (while n e p.1.0, p.1.1)
    -- `(for N E E S)`
    | v_for ↦ lastly n ts >>= λ p. three p.0 >>= λ q. free q.0 >>= λ i. expr q.1.0 >>= λ a. expr q.1.1 >>= λ b.
        some (for n i a b p.1.0, p.1.1)
    | v_case ↦ case_form n ts
    -- `(call N E..)`
    | v_call ↦ some? (list ts) >>= λ p. free p.0 >>= λ w. each expr p.1 >>= λ es. some (call n w (exprs_of es), n)
    -- `(raise E)`
    | v_raise ↦ one (list ts) >>= expr >>= λ e. some (raise n e, n)
  ]

  -- `S..`
  pub stmts : ℕ → Trees Word → Option (Stmts × ℕ)
  stmts n end = some (done, n)
  stmts n (t then ts) = do
    (s, m) ← stmt n t
    (ss, m') ← stmts m ts
    some (s next ss, m')

  -- the parts before the last, and the last, a statement
  pub lastly : ℕ → Trees Word → Option (List Item × (Stmt × ℕ))
  lastly n end = none
  lastly n (t then ts) = elim ts [ end ↦ stmt n t >>= λ s. some ([], s) | u then us ↦ lastly n ts >>= λ p. some (t ∷ p.0, p.1) ]

  -- `(if E S)` and `(if E S S)`
  pub if_form : ℕ → Trees Word → Option (Stmt × ℕ)
  if_form n end = none
  if_form n (t then ts) = do
    e ← expr t
    (ss, m) ← stmts n ts
    (a, b) ← branches ss
    some (if_else n e a b, m)

  -- `(case E (arm C.. S).. )` "with one or more arms, each of one or more labels, and at most one last `(else S)`"
  pub case_form : ℕ → Trees Word → Option (Stmt × ℕ)
  case_form n end = none
  case_form n (t then ts) = do
    e ← expr t
    (bs, m) ← arms n ts
    bs' ← arms_first bs
    some (case n e bs', m)

  pub arms : ℕ → Trees Word → Option (Arms × ℕ)
  arms n end = some (no_else, n)
  arms n (t then ts) = labelled n t >>= λ p. elim p.0 [
    | [] ↦ elim ts [ end ↦ some (else_arm p.1.0, p.1.1) | u then us ↦ none ]
    | c ∷ cs ↦ arms p.1.1 ts >>= λ q. some (arm (c ∷ cs) p.1.0 q.0, q.1)
  ]

  -- `(arm C.. S)` or `(else S)`: labels and statement
  pub labelled : ℕ → Item → Option (List Constant × (Stmt × ℕ))
  labelled n (word w) = none
  labelled n (form ts) = arm_form n ts

  pub arm_form : ℕ → Trees Word → Option (List Constant × (Stmt × ℕ))
  arm_form n end = none
  arm_form n (t then ts) = do
    h ← key_of t >>= among arm_heads
    (ps, s) ← lastly n ts
    cs ← each constant ps >>= labels h
    some (cs, s)

-- ---- BODY: "any number of statements, then at most one `(exception S..)`"

unfoldable pub handler_of : Item → Option (Trees Word)
handler_of (word w) = none
handler_of (form end) = none
handler_of (form (t then ts)) = key_of t >>= λ w. given (same (bytes "exception") w) ts

abbrev pub plain_body : Stmts → Body
plain_body ss = record { stmts = ss; handles = false; handler = done }

unfoldable pub body : ℕ → List Item → Option (Body × ℕ)
body n [] = some (plain_body done, n)
body n (t ∷ ts) = elim (handler_of t) [
  | some hs ↦ elim ts [ u ∷ us ↦ none | [] ↦ stmts n hs >>= λ p. some (record { stmts = done; handles = true; handler = p.0 }, p.1) ]
  | none ↦ stmt n t >>= λ p. body p.1 ts >>= λ q.
      some (record { stmts = p.0 next q.0.stmts; handles = q.0.handles; handler = q.0.handler }, q.1)
]

-- ---- lines

-- `(N T)`, of a record or of a parameter list
unfoldable pub field : Item → Option (Name × TypeName)
field (word w) = none
field (form ts) = two (list ts) >>= λ p. free p.0 >>= λ n. type_name p.1 >>= λ t. some (n, t)

pub data Maker : Type 0 where
  m_enum m_range m_array m_record m_set : Maker

unfoldable pub makers : List (String × Maker)
makers = ("enum", m_enum) ∷ ("range", m_range) ∷ ("array", m_array) ∷ ("record", m_record) ∷ ("setof", m_set) ∷ []

-- T: `(enum N..)`, `(range C C)`, `(array I E)`, `(record (N E)..)`, `(setof B)`. 257 enum names or 17 fields are matters of row 9
unfoldable pub made_type : Maker → List Item → Option TypeForm
made_type m_enum ts = each free ts >>= some? >>= λ ns. some (enum ns.0 ns.1)
made_type m_range ts = two ts >>= λ p. constant p.0 >>= λ a. constant p.1 >>= λ b. some (range a b)
made_type m_array ts = two ts >>= λ p. type_name p.0 >>= λ i. type_name p.1 >>= λ e. some (array_of i e)
made_type m_record ts = each field ts >>= some? >>= λ fs. some (record_of (fs.0 ∷ fs.1))
made_type m_set ts = one ts >>= type_name >>= λ b. some (set_of b)

-- T in a `type` line
unfoldable pub type_form : Item → Option TypeForm
type_form (word w) = type_name (word w) >>= λ t. some (alias t)
type_form (form ts) = first? (list ts) >>= λ p. among makers p.0 >>= λ m. made_type m p.1

-- Point 1, "written `((N T)..)` with at least one pair after its name": the part that begins with a bracket pair. No statement does
unfoldable pub pairs_of : Item → Option (List Item)
pairs_of (word w) = none
pairs_of (form end) = none
pairs_of (form (word w then ts)) = none
pairs_of (form (form us then ts)) = some (form us ∷ list ts)

-- the parameters, "or with no list", and the BODY's parts after them. A ninth parameter is a matter of row 9
unfoldable pub parameters : List Item → Option (List (Name × TypeName) × List Item)
parameters [] = some ([], [])
parameters (t ∷ ts) = elim (pairs_of t) [ none ↦ some ([], t ∷ ts) | some ps ↦ each field ps >>= λ fs. some (fs, ts) ]

pub data LineHead : Type 0 where
  is_type is_var is_proc is_main : LineHead

unfoldable pub line_heads : List (String × LineHead)
line_heads = ("type", is_type) ∷ ("var", is_var) ∷ ("proc", is_proc) ∷ ("main", is_main) ∷ []

-- `(type N T)`, `(var N T)`, `(proc N BODY)`, `(main BODY)`
unfoldable pub line_by : LineHead → ℕ → List Item → Option (LineForm × ℕ)
line_by is_type n ts = two ts >>= λ p. free p.0 >>= λ w. type_form p.1 >>= λ t. some (type_line w t, n)
line_by is_var n ts = two ts >>= λ p. free p.0 >>= λ w. type_name p.1 >>= λ t. some (var_line w t, n)
line_by is_proc n [] = none
line_by is_proc n (t ∷ ts) = free t >>= λ w. parameters ts >>= λ q. body n q.1 >>= λ p. some (proc_line w q.0 p.0, p.1)
line_by is_main n ts = body n ts >>= λ p. some (main_line p.0, p.1)

-- row 6: what a line says, and the number of the last statement up to its end
unfoldable pub line_form : ℕ → Item → Option (LineForm × ℕ)
line_form n t = headed t >>= λ p. among line_heads p.0 >>= λ h. line_by h n p.1
