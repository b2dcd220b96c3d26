-- Row 7: each name is known, of the right sort, and declared once. Names become numbers; fields stay names.
use Rattle.std.specs.Prelude.{Bool, true, false, ◌&&◌, not, List, [], ◌∷◌, ℕ, ℤ, neg_ℤ}
use Rattle.std.proofs.Math.Option.{Option, none, some}
use Rattle.leaf_bytes.specs.Bytes.{same}
use Rattle.law.specs.Calculate as Calculate
use Rattle.law.specs.Syntax as Syntax
use Rattle.law.specs.Base.{Name, ◌>>=◌, each, find, given}
use Rattle.law.specs.Environment.{Environment, NameSort, a_proc, a_type, a_value, a_var, within}
use Rattle.law.specs.Script.{Arms, Body, Const, Decl, Entry, Expr, Exprs, Stmt, Stmts, Target, ◌and◌, ◌next◌, alias, arm, array_of, assign, at, begin, binary, call, case, const, done, dot, else_arm, end_of, enum, error_number, for, if_else, members, new_main, new_proc, new_type, new_var, nil, no_else, raise, range, read, record_of, set_of, short_circuit, skip, unary, var, while}
use Rattle.law.specs.Syntax.{Constant, LineForm, TypeForm, TypeName, boolean, declared, integer, main_line, minus, named, number, proc_line, truth, type_line, var_line}
use Rattle.law.specs.Types.{array?, field_of, info_at, record?, variable}

-- ---- the sorts

abbrev pub as_type : NameSort → Option ℕ
as_type (a_type t) = some t
as_type (a_var i) = none
as_type (a_proc p ts) = none
as_type (a_value c) = none

abbrev pub as_var : NameSort → Option ℕ
as_var (a_type t) = none
as_var (a_var i) = some i
as_var (a_proc p ts) = none
as_var (a_value c) = none

-- its number and its parameters' types
abbrev pub as_proc : NameSort → Option (ℕ × List ℕ)
as_proc (a_type t) = none
as_proc (a_var i) = none
as_proc (a_proc p ts) = some (p, ts)
as_proc (a_value c) = none

abbrev pub as_value : NameSort → Option Const
as_value (a_type t) = none
as_value (a_var i) = none
as_value (a_proc p ts) = none
as_value (a_value c) = some c

-- a name alone, as an expression: a variable or an enum name
abbrev pub as_expr : NameSort → Option Expr
as_expr (a_type t) = none
as_expr (a_var i) = some (read (var i))
as_expr (a_proc p ts) = none
as_expr (a_value c) = some (const c)

abbrev pub const_of : ℕ → ℤ → Const
const_of k z = record { kind = k; value = z }

-- a target, and its type if one is known: it depends on the variable and the types on the way, never on an index
pub record Reached : Type 0 where
  pub target : Target
  pub type : Option ℕ

abbrev pub reached : Target → Option ℕ → Reached
reached g t = record { target = g; type = t }

module _ (σ : Environment) where
  unfoldable pub type_of : TypeName → Option ℕ
  type_of integer = some 0
  type_of boolean = some 1
  type_of (declared w) = find σ.names w >>= as_type

  unfoldable pub var_of : Name → Option ℕ
  var_of w = find σ.names w >>= as_var

  unfoldable pub constant_of : Constant → Option Const
  constant_of (number z) = some (const_of 0 z)
  constant_of (minus z) = some (const_of 0 (neg_ℤ z))
  constant_of (truth b) = some (const_of 1 (Calculate.truth b))
  constant_of (named w) = find σ.names w >>= as_value

  unfoldable pub atom_of : Constant → Option Expr
  atom_of (number z) = some (const (const_of 0 z))
  atom_of (minus z) = some (const (const_of 0 (neg_ℤ z)))
  atom_of (truth b) = some (const (const_of 1 (Calculate.truth b)))
  atom_of (named w) = find σ.names w >>= as_expr

  -- the type of an array's element; what a `dot` says of its field. Of no known array or record, nothing is said here
  unfoldable pub element_of : Option ℕ → Option ℕ
  element_of none = none
  element_of (some t) = given (array? σ.types t) (info_at σ.types t).element

  unfoldable pub field_in : Option ℕ → Name → Option (Option ℕ)
  field_in none w = some none
  field_in (some t) w = elim (record? σ.types t) [ false ↦ some none | true ↦ field_of (info_at σ.types t).fields w >>= λ f. some (some f.type) ]

  unfoldable mutual
    pub expr_of : Syntax.Expr → Option Expr
    expr_of (Syntax.const c) = atom_of c
    expr_of (Syntax.read g) = target_of g >>= λ r. some (read r.target)
    expr_of Syntax.error_number = some error_number
    expr_of (Syntax.members t es) = type_of t >>= λ n. exprs_of es >>= λ xs. some (members n xs)
    expr_of (Syntax.end_of q t) = type_of t >>= λ n. some (end_of q n)
    expr_of (Syntax.binary op a b) = expr_of a >>= λ x. expr_of b >>= λ y. some (binary op x y)
    expr_of (Syntax.short_circuit q a b) = expr_of a >>= λ x. expr_of b >>= λ y. some (short_circuit q x y)
    expr_of (Syntax.unary f a) = expr_of a >>= λ x. some (unary f x)

    pub target_of : Syntax.Target → Option Reached
    target_of (Syntax.var w) = var_of w >>= λ i. variable σ.vars i >>= λ v. some (reached (var i) (some v.type))
    target_of (Syntax.at g e) = target_of g >>= λ r. expr_of e >>= λ x. some (reached (at r.target x) (element_of r.type))
    target_of (Syntax.dot g w) = target_of g >>= λ r. field_in r.type w >>= λ t. some (reached (dot r.target w) t)

    pub exprs_of : Syntax.Exprs → Option Exprs
    exprs_of Syntax.nil = some nil
    exprs_of (Syntax.◌and◌ e es) = expr_of e >>= λ x. exprs_of es >>= λ xs. some (x and xs)

  unfoldable mutual
    pub stmt_of : Syntax.Stmt → Option Stmt
    stmt_of (Syntax.assign n g e) = target_of g >>= λ r. expr_of e >>= λ x. some (assign n r.target x)
    stmt_of (Syntax.begin n ss) = stmts_of ss >>= λ xs. some (begin n xs)
    stmt_of (Syntax.if_else n e a b) = expr_of e >>= λ x. stmt_of a >>= λ y. stmt_of b >>= λ z. some (if_else n x y z)
    stmt_of (Syntax.while n e a) = expr_of e >>= λ x. stmt_of a >>= λ y. some (while n x y)
    stmt_of (Syntax.for n w a b s) = var_of w >>= λ i. expr_of a >>= λ x. expr_of b >>= λ y. stmt_of s >>= λ z. some (for n i x y z)
    stmt_of (Syntax.case n e bs) = expr_of e >>= λ x. arms_of bs >>= λ ys. some (case n x ys)
    stmt_of (Syntax.call n w es) = find σ.names w >>= as_proc >>= λ p. exprs_of es >>= λ xs. some (call n p.0 p.1 xs)
    stmt_of (Syntax.raise n e) = expr_of e >>= λ x. some (raise n x)
    stmt_of Syntax.skip = some skip

    pub stmts_of : Syntax.Stmts → Option Stmts
    stmts_of Syntax.done = some done
    stmts_of (Syntax.◌next◌ s ss) = stmt_of s >>= λ x. stmts_of ss >>= λ xs. some (x next xs)

    pub arms_of : Syntax.Arms → Option Arms
    arms_of (Syntax.else_arm s) = stmt_of s >>= λ x. some (else_arm x)
    arms_of Syntax.no_else = some no_else
    arms_of (Syntax.arm cs s bs) = each constant_of cs >>= λ ls. stmt_of s >>= λ x. arms_of bs >>= λ ys. some (arm ls x ys)

  unfoldable pub body_of : Syntax.Body → Option Body
  body_of b = stmts_of b.stmts >>= λ x. stmts_of b.handler >>= λ y. some (record { stmts = x; handles = b.handles; handler = y })

  -- ---- declarations: a new name is not known yet, nor twice on its line

  unfoldable pub is_known : Name → Bool
  is_known w = elim (find σ.names w) [ none ↦ false | some m ↦ true ]

  unfoldable pub listed_in : Name → List Name → Bool
  listed_in w [] = false
  listed_in w (v ∷ vs) = elim (same v w) [ true ↦ true | false ↦ listed_in w vs ]

  unfoldable pub distinct : List Name → Bool
  distinct [] = true
  distinct (w ∷ ws) = not (listed_in w ws) && distinct ws

  unfoldable pub none_known : List Name → Bool
  none_known [] = true
  none_known (w ∷ ws) = not (is_known w) && none_known ws

  unfoldable pub new_names : List Name → Bool
  new_names ws = distinct ws && none_known ws

  unfoldable pub field_names : List (Name × ℕ) → List Name
  field_names [] = []
  field_names (f ∷ fs) = f.0 ∷ field_names fs

  -- a field's or a parameter's name with its type
  abbrev pub pair_of : Name × TypeName → Option (Name × ℕ)
  pair_of f = type_of f.1 >>= λ t. some (f.0, t)

  unfoldable pub decl_of : Name → TypeForm → Option Decl
  decl_of w (Syntax.alias t) = type_of t >>= λ n. given (new_names (w ∷ [])) (alias n)
  decl_of w (Syntax.enum v vs) = given (new_names (w ∷ v ∷ vs)) (enum v vs)
  decl_of w (Syntax.range a b) = constant_of a >>= λ x. constant_of b >>= λ y. given (new_names (w ∷ [])) (range x y)
  decl_of w (Syntax.array_of i e) = type_of i >>= λ x. type_of e >>= λ y. given (new_names (w ∷ [])) (array_of x y)
  decl_of w (Syntax.record_of fs) = each pair_of fs >>= λ gs. given (new_names (w ∷ []) && distinct (field_names gs)) (record_of gs)
  decl_of w (Syntax.set_of b) = type_of b >>= λ x. given (new_names (w ∷ [])) (set_of x)

-- row 7: a line with its names resolved. Parameters "repeat no known name, one another's or the procedure's"
unfoldable pub entry_of : Environment → LineForm → Option Entry
entry_of σ (type_line w t) = decl_of σ w t >>= λ d. some (new_type w d)
entry_of σ (var_line w t) = type_of σ t >>= λ n. given (new_names σ (w ∷ [])) (new_var w n)
entry_of σ (proc_line w ps b) = each (pair_of σ) ps >>= λ qs. body_of (within σ qs) b >>= λ x. given (new_names σ (w ∷ field_names σ qs)) (new_proc w qs x)
entry_of σ (main_line b) = body_of σ b >>= λ x. some (new_main x)
