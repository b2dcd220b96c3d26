-- The forms (law, Forms) part by part, over trees whose words are as they stand: what a walk from part to part reads.
use Rattle.std.specs.Prelude.{true, List, [], ◌∷◌, ℕ, ℤ}
use Rattle.std.proofs.Math.Option.{Option, none, some}
use Rattle.leaf_words.specs.Words.{word_of}
use Rattle.law.specs.Base.{Name, ◌>>=◌, given}
use Rattle.law.specs.Forms.{Item, plain_body, free, key_of, is_number, type_name, constant, among, ArmHead, arm_heads, is_arm, is_else}
use Rattle.law_theorems.specs.FormsByDepth.{expr, target, stmt}
use Rattle.law.specs.Syntax.{Expr, Exprs, at, dot, minus, Target, TypeName, Constant, Stmt, Stmts, Arms, Body, nil, ◌and◌, skip, done, ◌next◌, arm, else_arm, no_else}
use Rattle.law.specs.Trees.{Tree, word, form, Trees, end, ◌then◌, Run}
use Rattle.law.specs.Words.{worded, word_by}
use Rattle.text_heads.specs.Heads.{is_exception, target_pick, minus_pick}
use Rattle.text_heads.specs.declared.ExprHead as ExprHead

-- the first part; the parts after it
unfoldable pub part_of : Trees Run → Option Item
part_of end = none
part_of (t then ts) = worded t

abbrev pub rest : Trees Run → Trees Run
rest end = end
rest (t then ts) = ts

-- no part is left
unfoldable pub closed : {A : Type 0} → Trees Run → A → Option A
closed end a = some a
closed (t then ts) a = none

-- a word's key: a reserved word or an operator
unfoldable pub key_in : Run → Option Name
key_in w = word_by (word_of w) w >>= λ v. key_of (word v)

-- ---- the first part as one thing or another

unfoldable pub expr_in : ℕ → Trees Run → Option Expr
expr_in d ts = part_of ts >>= expr d

unfoldable pub target_in : ℕ → Trees Run → Option Target
target_in d ts = part_of ts >>= target d

unfoldable pub name_in : Trees Run → Option Name
name_in ts = part_of ts >>= free

unfoldable pub number_in : Trees Run → Option ℤ
number_in ts = part_of ts >>= is_number

unfoldable pub type_name_in : Trees Run → Option TypeName
type_name_in ts = part_of ts >>= type_name

unfoldable pub constant_in : Trees Run → Option Constant
constant_in ts = part_of ts >>= constant

-- a statement, where n is the number of the last one before; and the number of the last one read
unfoldable pub stmt_in : ℕ → ℕ → Trees Run → Option (Stmt × ℕ)
stmt_in d n ts = part_of ts >>= stmt d n

-- ---- all parts

-- of `members`
unfoldable pub exprs_in : ℕ → Trees Run → Option Exprs
exprs_in d end = some nil
exprs_in d (t then ts) = (worded t >>= expr d) >>= λ e. exprs_in d ts >>= λ es. some (e and es)

-- of `begin`
unfoldable pub stmts_in : ℕ → ℕ → Trees Run → Option (Stmts × ℕ)
stmts_in d n end = some (done, n)
stmts_in d n (t then ts) = (worded t >>= stmt d n) >>= λ p. stmts_in d p.1 ts >>= λ q. some (p.0 next q.0, q.1)

-- the third part of an `if`, which may be missing
unfoldable pub else_in : ℕ → ℕ → Trees Run → Option (Stmt × ℕ)
else_in d n end = some (skip, n)
else_in d n (t then ts) = (worded t >>= stmt d n) >>= λ p. closed ts p

-- labels up to the last part, which is the statement: one label or more
unfoldable pub arm_in : ℕ → ℕ → Trees Run → Option (List Constant × (Stmt × ℕ))
arm_in d n end = none
arm_in d n (t then end) = none
arm_in d n (t then (u then end)) = (worded t >>= constant) >>= λ c. (worded u >>= stmt d n) >>= λ p. some (c ∷ [], p)
arm_in d n (t then (u then (v then ts))) = (worded t >>= constant) >>= λ c. arm_in d n (u then (v then ts)) >>= λ p. some (c ∷ p.0, p.1)

-- arms, and at most one last `else`
unfoldable pub arm_head_in : Run → Option ArmHead
arm_head_in w = key_in w >>= among arm_heads

-- a last `(else S)`
unfoldable pub else_arm_in : ℕ → ℕ → Trees Run → Trees Run → Option (Arms × ℕ)
else_arm_in d n us end = (part_of us >>= stmt d n) >>= λ p. closed (rest us) (else_arm p.0, p.1)
else_arm_in d n us (t then ts) = none

unfoldable pub arms_in : ℕ → ℕ → Trees Run → Option (Arms × ℕ)
arms_in d n end = some (no_else, n)
arms_in d n (word w then ts) = none
arms_in d n (form end then ts) = none
arms_in d n (form (form us then vs) then ts) = none
arms_in d n (form (word w then us) then ts) = arm_head_in w >>= λ h. elim h [
  | is_arm ↦ arm_in d n us >>= λ a. arms_in d a.1.1 ts >>= λ bs. some (arm a.0 a.1.0 bs.0, bs.1)
  | is_else ↦ else_arm_in d n us ts
]

-- ---- bodies

-- the statements of `(exception S..)`, if a part is that
unfoldable pub handler_in : Tree Run → Option (Trees Run)
handler_in (word w) = none
handler_in (form end) = none
handler_in (form (form us then vs)) = none
handler_in (form (word w then us)) = given (is_exception (word_of w)) us

abbrev pub handling : Stmts → Body
handling ss = record { stmts = done; handles = true; handler = ss }

-- a body with a statement more in front
abbrev pub with_first : Stmt → Body → Body
with_first s b = record { stmts = s next b.stmts; handles = b.handles; handler = b.handler }

-- a handler is the last part
unfoldable pub handler_last : ℕ → Trees Run → Trees Run → Option (Body × ℕ)
handler_last n us end = stmts_in 33 n us >>= λ p. some (handling p.0, p.1)
handler_last n us (t then ts) = none

unfoldable pub body_in : ℕ → Trees Run → Option (Body × ℕ)
body_in n end = some (plain_body done, n)
body_in n (t then ts) = elim (handler_in t) [
  | some us ↦ handler_last n us ts
  | none ↦ (worded t >>= stmt 33 n) >>= λ p. body_in p.1 ts >>= λ q. some (with_first p.0 q.0, q.1)
]

-- ---- by a form's head; us are the parts after it

unfoldable pub target_by : ExprHead.ExprHead → ℕ → Trees Run → Option Target
target_by h d us =
    target_pick (target_in d us >>= λ g. expr_in d (rest us) >>= λ e. closed (rest (rest us)) (at g e))
    (target_in d us >>= λ g. name_in (rest us) >>= λ n. closed (rest (rest us)) (dot g n)) h

-- `(- number)`
unfoldable pub constant_by : ExprHead.ExprHead → Trees Run → Option Constant
constant_by h us = minus_pick (number_in us >>= λ z. closed (rest us) (minus z)) h
