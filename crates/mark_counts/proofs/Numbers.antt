-- What a walk over statements adds to their numbers: of a part that was read, the number of statements in it.
use mathlib.Core.Path.{◌≡◌, refl, sym, ap, subst, ◌∙◌}
use mathlib.Core.List.{List}
use mathlib.Core.Option.{Option, none, some}
use Prim.Native.Nat.{ℕ, ◌+◌}
use native.Mathlib.Omega.{arith}
use lib.IntN.{ℤ}
use Rattle.leaf_words.specs.Words.{word_of}
use Rattle.law.specs.Base.{Name, ◌>>=◌}
use Rattle.law.specs.Forms.{ArmHead, Item, Verb, among, constant, free, is_arm, is_else, is_number, key_of, type_name}
use Rattle.law_theorems.specs.FormsByDepth.{expr, stmt, target}
use Rattle.law.specs.Forms as Forms
use Rattle.law.specs.Syntax.{Arms, Body, Constant, Expr, Exprs, Stmt, Stmts, Target, TypeName, ◌next◌, arm}
use Rattle.law.specs.Trees.{Tree, word, form, Trees, end, ◌then◌, Run}
use Rattle.law.specs.Words.{Word, worded, worded_all, word_by}
use Rattle.law_theorems.proofs.Inversion.{none-some, some_inj, bind-some, given-some}
use Rattle.text_heads.specs.Heads.{verb_of, verb_meant}
use Rattle.text_heads.specs.Parts.{part_of, closed, key_in, expr_in, target_in, name_in, number_in, type_name_in, constant_in, stmt_in, exprs_in, stmts_in, else_in, arm_in, arm_head_in, else_arm_in, arms_in, handler_in, handling, with_first, handler_last, body_in}
use Rattle.text_heads.specs.declared.Verb as Heading
use Rattle.text_heads.specs.declared.Verb.TheVariants as VB
use Rattle.text_heads.proofs.Heads.{verb-is, exception-is}
use Rattle.mark_counts.specs.Statements.{one_for, head_verbs, verbs, verbs_in}
use Rattle.mark_counts.proofs.Items.{counted, head_item, verbs_item, verbs_items, bind-of, arm_apart, exception-apart, free-none, number-none, type-none, constant-none, expr-none, target_none, stmt-next}

-- ---- the words read

one-is : (v : Heading.Verb) → one_for v ≡ counted (verb_meant v)
one-is VB.Assign = refl
one-is VB.Begin = refl
one-is VB.If = refl
one-is VB.While = refl
one-is VB.For = refl
one-is VB.Case = refl
one-is VB.Call = refl
one-is VB.Raise = refl
one-is VB.Nothing = refl

-- a word as a form's head
word-head : (w : Run) → one_for (verb_of (word_of w)) ≡ counted (key_in w >>= among Forms.verbs)
word-head w = one-is (verb_of (word_of w)) ∙ ap counted (sym (verb-is w))

key-read : (w : Run) (v : Word) → word_by (word_of w) w ≡ some v → key_in w ≡ key_of (word v)
unfolding key_in
key-read w v h = bind-of (word_by (word_of w) w) v (λ (x : Word). key_of (word x)) h

head_read : (ts : Trees Run) (vs : Trees Word) → worded_all ts ≡ some vs → head_verbs ts ≡ head_item vs
unfolding head_verbs head_item worded key_of ◌>>=◌
head_read end vs h = rw (← some_inj h) refl
head_read (word w then ts) vs h = go (word_by (word_of w) w) refl (worded_all ts) h
  where
    go : (o : Option Word) → word_by (word_of w) w ≡ o → (q : Option (Trees Word)) → ((o >>= λ (v : Word). some (word v)) >>= λ (v : Item). q >>= λ (vs : Trees Word). some (v then vs)) ≡ some vs
        → one_for (verb_of (word_of w)) ≡ head_item vs
    go none e q h = none-some h
    go (some v) e none h = none-some h
    go (some v) e (some xs) h = word-head w ∙ rw (← some_inj h) (ap (λ (o : Option Name). counted (o >>= among Forms.verbs)) (key-read w v e))
head_read (form us then ts) vs h = go (worded_all us) (worded_all ts) h
  where
    go : (o q : Option (Trees Word)) → ((o >>= λ (xs : Trees Word). some (form xs)) >>= λ (v : Item). q >>= λ (vs : Trees Word). some (v then vs)) ≡ some vs → 0 ≡ head_item vs
    go none q h = none-some h
    go (some xs) none h = none-some h
    go (some xs) (some ys) h = rw (← some_inj h) refl

mutual
  unfolding verbs verbs_item worded

  verbs-read : (t : Tree Run) (v : Item) → worded t ≡ some v → verbs t ≡ verbs_item v
  verbs-read (word w) v h = bind-some h λ x hx e. rw (← some_inj e) refl
  verbs-read (form ts) v h = bind-some h λ xs hxs e. let a = head_read ts xs hxs in let b = parts-read ts xs hxs in rw (← some_inj e) (omega arith)

  parts-read : (ts : Trees Run) (vs : Trees Word) → worded_all ts ≡ some vs → verbs_in ts ≡ verbs_items vs
  parts-read end vs h = rw (← some_inj h) refl
  parts-read (t then ts) vs h = bind-some h λ x hx h. bind-some h λ xs hxs e. let a = verbs-read t x hx in let b = parts-read ts xs hxs in rw (← some_inj e) (omega arith)

-- ---- a part that was read

-- f gives something of a tree's words: what holds of these holds of the tree
read-part : {A P : Type 0} (f : Item → Option A) (t : Tree Run) (a : A) → (worded t >>= f) ≡ some a → ((v : Item) → verbs t ≡ verbs_item v → f v ≡ some a → P) → P
read-part f t a h k = bind-some h λ v hv e. k v (verbs-read t v hv) e

module _ (d : ℕ) (t : Tree Run) where
  expr-holds : (e : Expr) → (worded t >>= expr d) ≡ some e → verbs t ≡ 0
  expr-holds e h = read-part (expr d) t e h λ v i g. i ∙ expr-none d v e g

  target-holds : (g : Target) → (worded t >>= target d) ≡ some g → verbs t ≡ 0
  target-holds g h = read-part (target d) t g h λ v i e. i ∙ target_none d v g e

  stmt-holds : (n : ℕ) (p : Stmt × ℕ) → (worded t >>= stmt d n) ≡ some p → p.1 ≡ n + verbs t
  stmt-holds n p h = read-part (stmt d n) t p h λ v i g. let a = stmt-next d n v p g in omega arith

constant-holds : (t : Tree Run) (c : Constant) → (worded t >>= constant) ≡ some c → verbs t ≡ 0
constant-holds t c h = read-part constant t c h λ v i g. i ∙ constant-none v c g

-- what has been read as an expression, a target, a label or a name holds no statement
module _ (t : Tree Run) (ts : Trees Run) where
  pub expr-zero : (d : ℕ) (e : Expr) → expr_in d (t then ts) ≡ some e → verbs t ≡ 0
  unfolding expr_in part_of
  expr-zero d e h = expr-holds d t e h

  pub target-zero : (d : ℕ) (g : Target) → target_in d (t then ts) ≡ some g → verbs t ≡ 0
  unfolding target_in part_of
  target-zero d g h = target-holds d t g h

  pub constant-zero : (c : Constant) → constant_in (t then ts) ≡ some c → verbs t ≡ 0
  unfolding constant_in part_of
  constant-zero c h = constant-holds t c h

  pub type-zero : (n : TypeName) → type_name_in (t then ts) ≡ some n → verbs t ≡ 0
  unfolding type_name_in part_of
  type-zero n h = read-part type_name t n h λ v i g. i ∙ type-none v n g

  pub name-zero : (n : Name) → name_in (t then ts) ≡ some n → verbs t ≡ 0
  unfolding name_in part_of
  name-zero n h = read-part free t n h λ v i g. i ∙ free-none v n g

  pub number-zero : (z : ℤ) → number_in (t then ts) ≡ some z → verbs t ≡ 0
  unfolding number_in part_of
  number-zero z h = read-part is_number t z h λ v i g. i ∙ number-none v z g

  -- after a statement the number of the last one is by the statements in it higher
  pub stmt-number : (d n : ℕ) (p : Stmt × ℕ) → stmt_in d n (t then ts) ≡ some p → p.1 ≡ n + verbs t
  unfolding stmt_in part_of
  stmt-number d n p h = stmt-holds d t n p h

pub exprs-zero : (d : ℕ) (us : Trees Run) (es : Exprs) → exprs_in d us ≡ some es → verbs_in us ≡ 0
unfolding exprs_in verbs
exprs-zero d end es h = refl
exprs-zero d (t then ts) es h = bind-some h λ e he h. bind-some h λ xs hxs _. let a = expr-holds d t e he in let b = exprs-zero d ts xs hxs in omega arith

-- ---- statements in a row

-- the first of them, and the others from its number on
pub stmts-first : {P : Type 0} (d n : ℕ) (t : Tree Run) (ts : Trees Run) (p : Stmts × ℕ) → stmts_in d n (t then ts) ≡ some p
    → ((a : Stmt) (q : Stmts × ℕ) → stmt_in d n (t then ts) ≡ some (a, n + verbs t) → stmts_in d (n + verbs t) ts ≡ some q → (a next q.0, q.1) ≡ p → P) → P
unfolding stmts_in stmt_in part_of
stmts-first d n t ts p h k = bind-some h λ a ha h. bind-some h λ q hq e.
    let i = stmt-holds d t n a ha in
    k a.0 q (ha ∙ ap (λ (m : ℕ). some (a.0, m)) i) (subst (λ (m : ℕ). stmts_in d m ts ≡ some q) i hq) (some_inj e)

pub stmts-number : (d n : ℕ) (us : Trees Run) (p : Stmts × ℕ) → stmts_in d n us ≡ some p → p.1 ≡ n + verbs_in us
unfolding stmts_in verbs
stmts-number d n end p h = rw (← some_inj h) (omega arith)
stmts-number d n (t then ts) p h = bind-some h λ a ha h. bind-some h λ q hq e.
    let i = stmt-holds d t n a ha in let j = stmts-number d a.1 ts q hq in rw (← some_inj e) (omega arith)

-- the last part of an `if`: the second branch is numbered from where the first ended, which `stmt-number` tells
pub else-number : (d n : ℕ) (us : Trees Run) (p : Stmt × ℕ) → else_in d n us ≡ some p → p.1 ≡ n + verbs_in us
unfolding else_in closed verbs
else-number d n end p h = rw (← some_inj h) (omega arith)
else-number d n (t then end) p h = bind-some h λ a ha e. let i = stmt-holds d t n a ha in rw (← some_inj e) (omega arith)
else-number d n (t then (u then us)) p h = bind-some h λ a ha e. none-some e

-- ---- arms

-- a form's head that is an arm's is no statement's
arm-head : (w : Run) (us : Trees Run) (h : ArmHead) → arm_head_in w ≡ some h → verbs (form (word w then us)) ≡ verbs_in us
unfolding arm_head_in verbs head_verbs
arm-head w us h e = bind-some e λ k hk g.
    let a : one_for (verb_of (word_of w)) ≡ 0 = word-head w ∙ ap counted (bind-of (key_in w) k (among Forms.verbs) hk ∙ arm_apart k h g) in
    omega arith

pub arm-number : (d n : ℕ) (us : Trees Run) (p : List Constant × (Stmt × ℕ)) → arm_in d n us ≡ some p → p.1.1 ≡ n + verbs_in us
unfolding arm_in verbs
arm-number d n end p h = none-some h
arm-number d n (t then end) p h = none-some h
arm-number d n (t then (u then end)) p h = bind-some h λ c hc h. bind-some h λ a ha e.
    let i = constant-holds t c hc in let j = stmt-holds d u n a ha in rw (← some_inj e) (omega arith)
arm-number d n (t then (u then (v then ts))) p h = bind-some h λ c hc h. bind-some h λ a ha e.
    let i = constant-holds t c hc in let j = arm-number d n (u then (v then ts)) a ha in rw (← some_inj e) (omega arith)

-- the first arm, and the others from the number after it
pub arms-first : {P : Type 0} (d n : ℕ) (w : Run) (us ts : Trees Run) (p : Arms × ℕ) → arm_head_in w ≡ some is_arm → arms_in d n (form (word w then us) then ts) ≡ some p
    → ((cs : List Constant) (a : Stmt) (q : Arms × ℕ) → arm_in d n us ≡ some (cs, (a, n + verbs (form (word w then us)))) → arms_in d (n + verbs (form (word w then us))) ts ≡ some q → (arm cs a q.0, q.1) ≡ p → P) → P
unfolding arms_in
arms-first d n w us ts p e h k = bind-some (sym (bind-of (arm_head_in w) is_arm _ e) ∙ h) λ a ha h. bind-some h λ q hq g.
    let i : a.1.1 ≡ n + verbs (form (word w then us)) = arm-number d n us a ha ∙ ap (λ (m : ℕ). n + m) (sym (arm-head w us is_arm e)) in
    k a.0 a.1.0 q (ha ∙ ap (λ (m : ℕ). some (a.0, (a.1.0, m))) i) (subst (λ (m : ℕ). arms_in d m ts ≡ some q) i hq) (some_inj g)

else-arm-number : (d n : ℕ) (us ts : Trees Run) (p : Arms × ℕ) → else_arm_in d n us ts ≡ some p → p.1 ≡ n + (verbs_in us + verbs_in ts)
unfolding else_arm_in part_of closed verbs
else-arm-number d n end end p h = bind-some h λ a ha e. bind-some ha λ v hv _. none-some hv
else-arm-number d n (t then end) end p h = bind-some h λ a ha e. let i = stmt-holds d t n a ha in rw (← some_inj e) (omega arith)
else-arm-number d n (t then (u then us)) end p h = bind-some h λ a ha e. none-some e
else-arm-number d n us (t then ts) p h = none-some h

pub arms-number : (d n : ℕ) (us : Trees Run) (p : Arms × ℕ) → arms_in d n us ≡ some p → p.1 ≡ n + verbs_in us
unfolding arms_in verbs
arms-number d n end p h = rw (← some_inj h) (omega arith)
arms-number d n (word w then ts) p h = none-some h
arms-number d n (form end then ts) p h = none-some h
arms-number d n (form (form us then vs) then ts) p h = none-some h
arms-number d n (form (word w then us) then ts) p h = bind-some h λ k hk h. by-head k (arm-head w us k hk) h (λ m q hq. arms-number d m ts q hq)
  where
    by-head : (k : ArmHead) → verbs (form (word w then us)) ≡ verbs_in us
        → elim k [
          | is_arm ↦ arm_in d n us >>= λ a. arms_in d a.1.1 ts >>= λ bs. some (arm a.0 a.1.0 bs.0, bs.1)
          | is_else ↦ else_arm_in d n us ts
        ] ≡ some p
        → ((m : ℕ) (q : Arms × ℕ) → arms_in d m ts ≡ some q → q.1 ≡ m + verbs_in ts) → p.1 ≡ n + (verbs (form (word w then us)) + verbs_in ts)
    by-head is_arm i h again = bind-some h λ a ha h. bind-some h λ q hq e.
        let j = arm-number d n us a ha in let l = again a.1.1 q hq in rw (← some_inj e) (omega arith)
    by-head is_else i h again = let j = else-arm-number d n us ts p h in omega arith

-- ---- bodies

-- the head of a handler is no statement's
pub handler-verbs : (t : Tree Run) (us : Trees Run) → handler_in t ≡ some us → verbs t ≡ verbs_in us
unfolding handler_in verbs head_verbs
handler-verbs (word w) us h = none-some h
handler-verbs (form end) us h = none-some h
handler-verbs (form (form vs then ts)) us h = none-some h
handler-verbs (form (word w then vs)) us h = bind-some (exception-is vs w ∙ h) λ k hk g. given-some g λ f e.
    let a : one_for (verb_of (word_of w)) ≡ 0 = word-head w ∙ ap counted (bind-of (key_in w) k (among Forms.verbs) hk ∙ exception-apart k f) in
    rw (← e) (omega arith)

-- the statements of a handler, which is the last part
pub body-handler : {P : Type 0} (n : ℕ) (t : Tree Run) (us ts : Trees Run) (p : Body × ℕ) → handler_in t ≡ some us → body_in n (t then ts) ≡ some p
    → ((q : Stmts × ℕ) → ts ≡ end → stmts_in 33 n us ≡ some q → (handling q.0, q.1) ≡ p → P) → P
unfolding body_in handler_last
body-handler n t us end p e h k = bind-some (rw (e, body_in) at h) λ q hq g. k q refl hq (some_inj g)
body-handler n t us (u then ts) p e h k = none-some (rw (e, body_in) at h)

-- the first statement of a body, and the other parts from its number on
pub body-first : {P : Type 0} (n : ℕ) (t : Tree Run) (ts : Trees Run) (p : Body × ℕ) → handler_in t ≡ none → body_in n (t then ts) ≡ some p
    → ((a : Stmt) (q : Body × ℕ) → stmt_in 33 n (t then ts) ≡ some (a, n + verbs t) → body_in (n + verbs t) ts ≡ some q → (with_first a q.0, q.1) ≡ p → P) → P
unfolding body_in stmt_in part_of
body-first n t ts p e h k = bind-some (rw (e, body_in) at h) λ a ha h. bind-some h λ q hq g.
    let i = stmt-holds 33 t n a ha in
    k a.0 q (ha ∙ ap (λ (m : ℕ). some (a.0, m)) i) (subst (λ (m : ℕ). body_in m ts ≡ some q) i hq) (some_inj g)

body_end : (n : ℕ) (p : Body × ℕ) → body_in n end ≡ some p → p.1 ≡ n
unfolding body_in
body_end n p h = rw (← some_inj h) refl

pub body-number : (n : ℕ) (us : Trees Run) (p : Body × ℕ) → body_in n us ≡ some p → p.1 ≡ n + verbs_in us
unfolding verbs
body-number n end p h = let e = body_end n p h in omega arith
body-number n (t then ts) p h = by-handler (handler_in t) refl (λ m q hq. body-number m ts q hq)
  where
    by-handler : (o : Option (Trees Run)) → handler_in t ≡ o → ((m : ℕ) (q : Body × ℕ) → body_in m ts ≡ some q → q.1 ≡ m + verbs_in ts) → p.1 ≡ n + (verbs t + verbs_in ts)
    by-handler (some us) e again = body-handler n t us ts p e h λ q z hq g.
        let a = handler-verbs t us e in let b = stmts-number 33 n us q hq in let c : verbs_in ts ≡ 0 = ap verbs_in z in rw (← g) (omega arith)
    by-handler none e again = body-first n t ts p e h λ a q ha hq g. let b = again (n + verbs t) q hq in rw (← g) (omega arith)
