-- Row 8 but for the fitting of kinds inside a body: constants past the integers, repeated labels, assigned loop variables,
-- another count of arguments than of parameters, and in a `type` line or a parameter list its kinds and a reversed range. The marking machine runs what keeps these and breaks none but the kinds.
use Rattle.std.specs.Prelude.{Bool, true, false, ◌&&◌, ◌||◌, not, List, [], ◌∷◌, ◌++◌, ℕ, suc, eqb, length}
use Rattle.std.specs.Int.Signed.{le_z}
use Rattle.leaf_integers.specs.Integers.{inside, least, most}
use Rattle.law.specs.Base.{Name}
use Rattle.law.specs.Calculate.{equal_z}
use Rattle.law.specs.Script.{Arms, Body, Const, Decl, Entry, Expr, Exprs, Stmt, Stmts, Target, ◌and◌, ◌next◌, alias, arm, array_of, assign, at, begin, binary, call, case, const, done, dot, else_arm, end_of, enum, error_number, for, if_else, members, new_main, new_proc, new_type, new_var, nil, no_else, raise, range, read, record_of, set_of, short_circuit, skip, unary, var, while}
use Rattle.law.specs.Types.{Types, ordinal?, set?}

-- `(- number)` past the integers; enum names and truth values are never past them
unfoldable pub plain : Const → Bool
plain c = inside least most c.value

unfoldable pub all_plain : List Const → Bool
all_plain [] = true
all_plain (c ∷ cs) = plain c && all_plain cs

-- ---- labels: of one kind and one value is a repeat

abbrev pub same_const : Const → Const → Bool
same_const a b = eqb a.kind b.kind && equal_z a.value b.value

unfoldable pub labelled : Const → List Const → Bool
labelled c [] = false
labelled c (d ∷ ds) = same_const c d || labelled c ds

unfoldable pub differ : List Const → Bool
differ [] = true
differ (c ∷ cs) = not (labelled c cs) && differ cs

unfoldable pub labels_of : Arms → List Const
labels_of (else_arm s) = []
labels_of no_else = []
labels_of (arm cs s bs) = cs ++ labels_of bs

-- ---- loop variables: those of the loops around

unfoldable pub looping : ℕ → List ℕ → Bool
looping i [] = false
looping i (j ∷ js) = eqb i j || looping i js

-- a whole variable alone is assigned directly
abbrev pub steers : Target → List ℕ → Bool
steers (var i) js = looping i js
steers (at g e) js = false
steers (dot g w) js = false

-- ---- bodies

unfoldable mutual
  pub plain_expr : Expr → Bool
  plain_expr (const c) = plain c
  plain_expr (read g) = plain_target g
  plain_expr error_number = true
  plain_expr (members t es) = plain_exprs es
  plain_expr (end_of q t) = true
  plain_expr (binary op a b) = plain_expr a && plain_expr b
  plain_expr (short_circuit q a b) = plain_expr a && plain_expr b
  plain_expr (unary f a) = plain_expr a

  pub plain_target : Target → Bool
  plain_target (var i) = true
  plain_target (at g e) = plain_target g && plain_expr e
  plain_target (dot g w) = plain_target g

  pub plain_exprs : Exprs → Bool
  plain_exprs nil = true
  plain_exprs (e and es) = plain_expr e && plain_exprs es

-- how many arguments a call has
unfoldable pub how_many : Exprs → ℕ
how_many nil = 0
how_many (e and es) = suc (how_many es)

unfoldable mutual
  pub kept_stmt : Stmt → List ℕ → Bool
  kept_stmt (assign n g e) js = plain_target g && plain_expr e && not (steers g js)
  kept_stmt (begin n ss) js = kept_stmts ss js
  kept_stmt (if_else n e a b) js = plain_expr e && kept_stmt a js && kept_stmt b js
  kept_stmt (while n e a) js = plain_expr e && kept_stmt a js
  kept_stmt (for n i a b s) js = plain_expr a && plain_expr b && not (looping i js) && kept_stmt s (i ∷ js)
  kept_stmt (case n e bs) js = plain_expr e && differ (labels_of bs) && kept_arms bs js
  kept_stmt (call n p ts es) js = plain_exprs es && eqb (how_many es) (length ts)
  kept_stmt (raise n e) js = plain_expr e
  kept_stmt skip js = true

  pub kept_stmts : Stmts → List ℕ → Bool
  kept_stmts done js = true
  kept_stmts (s next ss) js = kept_stmt s js && kept_stmts ss js

  pub kept_arms : Arms → List ℕ → Bool
  kept_arms (else_arm s) js = kept_stmt s js
  kept_arms no_else js = true
  kept_arms (arm cs s bs) js = all_plain cs && kept_stmt s js && kept_arms bs js

unfoldable pub kept_body : Body → Bool
kept_body b = kept_stmts b.stmts [] && kept_stmts b.handler []

-- ---- `type` lines: index and base are ordinal; a range has one host and is not reversed

unfoldable pub kept_decl : Types → Decl → Bool
kept_decl Γ (alias t) = true
kept_decl Γ (enum v vs) = true
kept_decl Γ (range a b) = plain a && plain b && eqb a.kind b.kind && le_z a.value b.value
kept_decl Γ (array_of i e) = ordinal? Γ i
kept_decl Γ (record_of fs) = true
kept_decl Γ (set_of b) = ordinal? Γ b

-- ---- parameters: "each of an ordinal or set type"

unfoldable pub kept_parameters : Types → List (Name × ℕ) → Bool
kept_parameters Γ [] = true
kept_parameters Γ (p ∷ ps) = (ordinal? Γ p.1 || set? Γ p.1) && kept_parameters Γ ps

unfoldable pub keeps_rules : Types → Entry → Bool
keeps_rules Γ (new_type w d) = kept_decl Γ d
keeps_rules Γ (new_var w t) = true
keeps_rules Γ (new_proc w ps b) = kept_parameters Γ ps && kept_body b
keeps_rules Γ (new_main b) = kept_body b
