-- Expressions and targets by their shapes: what the definition (law, Forms) gives of a form is what its parts give one by one.
use mathlib.Core.Path.{◌≡◌, refl, sym, ap, ◌∙◌}
use mathlib.Core.Bool.{Bool, true, false}
use mathlib.Core.List.{List, ◌∷◌}
use mathlib.Core.Option.{Option, none, some}
use Prim.Native.Nat.{ℕ, zero, suc}
use lib.IntN.{ℤ}
use Rattle.law.specs.Base.{Name, ◌>>=◌, either, each, pick}
use Rattle.law.specs.Forms.{Item, key_of, headed, constant, minus_number, is_number, type_name, free, among, Head, h_at, h_dot, h_members, h_minus, h_bound, heads, one, two, exprs_of}
use Rattle.law_theorems.specs.FormsByDepth.{target_form, expr, target, at_form, dot_form, two_sided, one_sided, expr_form}
use Rattle.law.specs.Operators.{Fun, negate, minus}
use Rattle.law.specs.Syntax as Syntax
use Rattle.law.specs.Syntax.{Expr, Exprs, Target, TypeName, at, binary, const, dot, end_of, members, read, unary, ◌and◌}
use Rattle.law.specs.Trees.{Tree, word, form, Trees, end, ◌then◌, Run, list}
use Rattle.law.specs.Words.{Word, worded, worded_all}
use Rattle.text_heads.specs.Parts.{part_of, rest, closed, key_in, expr_in, target_in, name_in, number_in, type_name_in, constant_in, exprs_in, target_by, constant_by}
use Rattle.leaf_bytes.specs.Bytes.{bytes, same}
use Rattle.leaf_words.specs.Words.{word_of}
use Rattle.text_heads.specs.Heads.{expr_head_of}
use Rattle.text_heads.proofs.Heads.{target-head-is, minus-head-is}
use Rattle.text_heads.proofs.Walks.{bind-none, bind-nones, bind-cong, bind_assoc, bind-swap, first_part, next-part, one_then, two_then, headed-form, empty-form, headless-form}

-- ---- an expression by its head word

pub expr-form : (d : ℕ) (w : Run) (us ts : Trees Run) → expr_in (suc d) (form (word w then us) then ts)
    ≡ ((key_in w >>= among heads) >>= λ (h : Head). worded_all us >>= λ (vs : Trees Word). expr_form (λ (t : Item). expr d t) (λ (t : Item). target d t) h (list vs))
unfolding expr_in part_of expr
expr-form d w us ts =
    headed-form (expr (suc d)) (λ (k : Name) (vs : List Item). among heads k >>= λ (h : Head). expr_form (λ (t : Item). expr d t) (λ (t : Item). target d t) h vs) (λ vs. refl) w us
    ∙ bind-swap (key_in w) (worded_all us) (among heads) (λ (h : Head) (vs : Trees Word). expr_form (λ (t : Item). expr d t) (λ (t : Item). target d t) h (list vs))

pub expr-end : (d : ℕ) → expr_in d end ≡ none
unfolding expr_in part_of ◌>>=◌
expr-end d = refl

pub expr-zero : (ts : Trees Run) → expr_in 0 ts ≡ none
unfolding expr_in expr
expr-zero ts = bind-none (part_of ts)

pub expr-empty : (d : ℕ) (ts : Trees Run) → expr_in d (form end then ts) ≡ none
unfolding expr_in part_of expr
expr-empty zero ts = bind-none (worded (form end))
expr-empty (suc d) ts = empty-form (expr (suc d)) (λ (k : Name) (vs : List Item). among heads k >>= λ (h : Head). expr_form (λ (t : Item). expr d t) (λ (t : Item). target d t) h vs) (λ vs. refl)

pub expr-headless : (d : ℕ) (us vs ts : Trees Run) → expr_in d (form (form us then vs) then ts) ≡ none
unfolding expr_in part_of expr
expr-headless zero us vs ts = bind-none (worded (form (form us then vs)))
expr-headless (suc d) us vs ts =
    headless-form (expr (suc d)) (λ (k : Name) (vs : List Item). among heads k >>= λ (h : Head). expr_form (λ (t : Item). expr d t) (λ (t : Item). target d t) h vs) (λ vs. refl) us vs

-- ---- the shapes, over the parts after the head word

module _ (d : ℕ) (us : Trees Run) where
  abbrev E : Item → Option Expr
  E = λ (t : Item). expr d t

  abbrev G : Item → Option Target
  G = λ (t : Item). target d t

  pub two-parts : (f : Expr → Expr → Expr) → (worded_all us >>= λ (vs : Trees Word). two_sided E G f (list vs))
      ≡ (expr_in d us >>= λ (a : Expr). expr_in d (rest us) >>= λ (b : Expr). closed (rest (rest us)) (f a b))
  unfolding two_sided expr_in
  two-parts f = two_then E E f us

  pub one-part : (f : Fun) → (worded_all us >>= λ (vs : Trees Word). one_sided E G f (list vs)) ≡ (expr_in d us >>= λ (a : Expr). closed (rest us) (unary f a))
  unfolding one_sided expr_in
  one-part f = one_then E (unary f) us

  pub at-parts : (worded_all us >>= λ (vs : Trees Word). at_form E G (list vs))
      ≡ (target_in d us >>= λ (g : Target). expr_in d (rest us) >>= λ (e : Expr). closed (rest (rest us)) (at g e))
  unfolding at_form target_in expr_in
  at-parts = two_then G E at us

  pub dot-parts : (worded_all us >>= λ (vs : Trees Word). dot_form E G (list vs))
      ≡ (target_in d us >>= λ (g : Target). name_in (rest us) >>= λ (n : Name). closed (rest (rest us)) (dot g n))
  unfolding dot_form target_in name_in
  dot-parts = two_then G free dot us

  pub bound-parts : (b : Bool) → (worded_all us >>= λ (vs : Trees Word). expr_form E G (h_bound b) (list vs))
      ≡ (type_name_in us >>= λ (n : TypeName). closed (rest us) (end_of b n))
  unfolding expr_form type_name_in
  bound-parts b = one_then type_name (end_of b) us

-- `at` and `dot` as expressions
pub at_read : (d : ℕ) (us : Trees Run) → (worded_all us >>= λ (vs : Trees Word). expr_form (λ (t : Item). expr d t) (λ (t : Item). target d t) h_at (list vs))
    ≡ ((target_in d us >>= λ (g : Target). expr_in d (rest us) >>= λ (e : Expr). closed (rest (rest us)) (at g e)) >>= λ (g : Target). some (read g))
unfolding expr_form
at_read d us =
    sym (bind_assoc (worded_all us) (λ (vs : Trees Word). at_form (λ (t : Item). expr d t) (λ (t : Item). target d t) (list vs)) (λ (g : Target). some (read g)))
    ∙ ap (λ (o : Option Target). o >>= λ (g : Target). some (read g)) (at-parts d us)

pub dot-read : (d : ℕ) (us : Trees Run) → (worded_all us >>= λ (vs : Trees Word). expr_form (λ (t : Item). expr d t) (λ (t : Item). target d t) h_dot (list vs))
    ≡ ((target_in d us >>= λ (g : Target). name_in (rest us) >>= λ (n : Name). closed (rest (rest us)) (dot g n)) >>= λ (g : Target). some (read g))
unfolding expr_form
dot-read d us =
    sym (bind_assoc (worded_all us) (λ (vs : Trees Word). dot_form (λ (t : Item). expr d t) (λ (t : Item). target d t) (list vs)) (λ (g : Target). some (read g)))
    ∙ ap (λ (o : Option Target). o >>= λ (g : Target). some (read g)) (dot-parts d us)

-- ---- `members`

each-parts : (d : ℕ) (ts : Trees Run) → (worded_all ts >>= λ (vs : Trees Word). each (λ (t : Item). expr d t) (list vs) >>= λ (es : List Expr). some (exprs_of es)) ≡ exprs_in d ts
unfolding ◌>>=◌ worded list each exprs_of exprs_in
each-parts d end = refl
each-parts d (t then ts) =
    first_part (λ (vs : List Item). each E1 vs >>= λ (es : List Expr). some (exprs_of es)) E1 more step t ts
    ∙ bind-cong (worded t >>= E1) (λ (e : Expr).
    bind-cong (worded_all ts) (λ (vs : Trees Word). sym (bind_assoc (each E1 (list vs)) (λ (es : List Expr). some (exprs_of es)) (λ (es : Exprs). some (e and es))))
    ∙ sym (bind_assoc (worded_all ts) (λ (vs : Trees Word). each E1 (list vs) >>= λ (es : List Expr). some (exprs_of es)) (λ (es : Exprs). some (e and es)))
    ∙ ap (λ (o : Option Exprs). o >>= λ (es : Exprs). some (e and es)) (each-parts d ts))
  where
    E1 : Item → Option Expr
    E1 t = expr d t

    more : Expr → List Item → Option Exprs
    more e vs = each E1 vs >>= λ (es : List Expr). some (e and exprs_of es)

    step : (v : Item) (vs : List Item) → (each E1 (v ∷ vs) >>= λ (es : List Expr). some (exprs_of es)) ≡ (E1 v >>= λ (e : Expr). more e vs)
    step v vs = go (E1 v) (each E1 vs)
      where
        go : (o : Option Expr) (p : Option (List Expr))
            → ((o >>= λ (b : Expr). p >>= λ (bs : List Expr). some (b ∷ bs)) >>= λ (es : List Expr). some (exprs_of es))
            ≡ (o >>= λ (e : Expr). p >>= λ (es : List Expr). some (e and exprs_of es))
        go none p = refl
        go (some e) none = refl
        go (some e) (some es) = refl

-- all parts are expressions, and then h
pub exprs-then : {C : Type 0} (d : ℕ) (h : Exprs → C) (us : Trees Run)
    → (worded_all us >>= λ (vs : Trees Word). each (expr d) (list vs) >>= λ (es : List Expr). some (h (exprs_of es))) ≡ (exprs_in d us >>= λ (es : Exprs). some (h es))
unfolding ◌>>=◌
exprs-then {C} d h us =
    bind-cong (worded_all us) (λ (vs : Trees Word). sym (bind_assoc (each (expr d) (list vs)) (λ (es : List Expr). some (exprs_of es)) (λ (es : Exprs). some (h es))))
    ∙ sym (bind_assoc (worded_all us) (λ (vs : Trees Word). each (expr d) (list vs) >>= λ (es : List Expr). some (exprs_of es)) (λ (es : Exprs). some (h es)))
    ∙ ap (λ (o : Option Exprs). o >>= λ (es : Exprs). some (h es)) (each-parts d us)

pub members-parts : (d : ℕ) (us : Trees Run)
    → (worded_all us >>= λ (vs : Trees Word). expr_form (λ (t : Item). expr d t) (λ (t : Item). target d t) h_members (list vs))
    ≡ (type_name_in us >>= λ (n : TypeName). exprs_in d (rest us) >>= λ (es : Exprs). some (members n es))
unfolding expr_form type_name_in ◌>>=◌
members-parts d us =
    next-part (λ (vs : List Item). expr_form (λ (t : Item). expr d t) (λ (t : Item). target d t) h_members vs) type_name more refl (λ v vs. refl) us
    ∙ bind-cong (type_name_in us) (λ (n : TypeName). exprs-then d (members n) (rest us))
  where
    more : TypeName → List Item → Option Expr
    more n vs = each (expr d) vs >>= λ (es : List Expr). some (members n (exprs_of es))

-- ---- `-`: a constant, an operator with one side or with two

module _ (d : ℕ) where
  pub minus-number : (us : Trees Run) (z : ℤ) → number_in us ≡ some z → rest us ≡ end
      → (worded_all us >>= λ (vs : Trees Word). expr_form (λ (t : Item). expr d t) (λ (t : Item). target d t) h_minus (list vs)) ≡ some (const (Syntax.minus z))
  unfolding expr_form number_in part_of ◌>>=◌ worded list one either
  minus-number end z e f = cc
  minus-number (t then ts) z e f = rw f (go (worded t) e)
    where
      go : (o : Option Item) → (o >>= is_number) ≡ some z
          → ((o >>= λ (v : Item). some (v then end)) >>= λ (vs : Trees Word). expr_form (λ (t : Item). expr d t) (λ (t : Item). target d t) h_minus (list vs)) ≡ some (const (Syntax.minus z))
      go none g = cc
      go (some v) g = rw g refl

  pub minus_one : (us : Trees Run) → number_in us ≡ none → rest us ≡ end
      → (worded_all us >>= λ (vs : Trees Word). expr_form (λ (t : Item). expr d t) (λ (t : Item). target d t) h_minus (list vs)) ≡ (expr_in d us >>= λ (a : Expr). some (unary negate a))
  unfolding expr_form number_in expr_in part_of ◌>>=◌ worded list one two either one_sided two_sided
  minus_one end e f = refl
  minus_one (t then ts) e f = rw f (go (worded t) e)
    where
      side : (o : Option Expr) → either (o >>= λ (a : Expr). some (unary negate a)) none ≡ (o >>= λ (a : Expr). some (unary negate a))
      side none = refl
      side (some a) = refl

      go : (o : Option Item) → (o >>= is_number) ≡ none
          → ((o >>= λ (v : Item). some (v then end)) >>= λ (vs : Trees Word). expr_form (λ (t : Item). expr d t) (λ (t : Item). target d t) h_minus (list vs))
          ≡ ((o >>= expr d) >>= λ (a : Expr). some (unary negate a))
      go none g = refl
      go (some v) g = rw g (side (expr d v))

  pub minus-two : (us : Trees Run) (t : Tree Run) (ts : Trees Run) → rest us ≡ (t then ts)
      → (worded_all us >>= λ (vs : Trees Word). expr_form (λ (t : Item). expr d t) (λ (t : Item). target d t) h_minus (list vs))
      ≡ (expr_in d us >>= λ (a : Expr). expr_in d (rest us) >>= λ (b : Expr). closed (rest (rest us)) (binary minus a b))
  unfolding expr_form ◌>>=◌ worded list one either one_sided
  minus-two end t ts e = cc
  minus-two (u then us) t ts e = rw e (go (worded u) (worded t) (worded_all ts) ∙ two-parts d (u then (t then ts)) (binary minus))
    where
      go : (o p : Option Item) (q : Option (Trees Word))
          → ((o >>= λ (v : Item). (p >>= λ (x : Item). q >>= λ (xs : Trees Word). some (x then xs)) >>= λ (vs : Trees Word). some (v then vs)) >>= λ (vs : Trees Word). expr_form (λ (t : Item). expr d t) (λ (t : Item). target d t) h_minus (list vs))
          ≡ ((o >>= λ (v : Item). (p >>= λ (x : Item). q >>= λ (xs : Trees Word). some (x then xs)) >>= λ (vs : Trees Word). some (v then vs)) >>= λ (vs : Trees Word). two_sided (λ (t : Item). expr d t) (λ (t : Item). target d t) (binary minus) (list vs))
      go none p q = refl
      go (some v) none q = refl
      go (some v) (some x) none = refl
      go (some v) (some x) (some xs) = refl

-- ---- targets

pub target-form : (d : ℕ) (w : Run) (us ts : Trees Run) → target_in (suc d) (form (word w then us) then ts) ≡ target_by (expr_head_of (word_of w)) d us
unfolding target_in part_of expr target_by target_form ◌>>=◌ pick
target-form d w us ts =
    headed-form (target (suc d)) (λ (k : Name) (vs : List Item). target_form E3 G3 (k, vs)) (λ vs. refl) w us
    ∙ bind-cong (key_in w) (λ (k : Name). inside (same (bytes "at") k) (same (bytes "dot") k))
    ∙ target-head-is (worded_all us >>= λ (vs : Trees Word). at_form E3 G3 (list vs)) (worded_all us >>= λ (vs : Trees Word). dot_form E3 G3 (list vs)) w
    ∙ rw (at-parts d us, dot-parts d us) refl
  where
    E3 : Item → Option Expr
    E3 t = expr d t

    G3 : Item → Option Target
    G3 t = target d t

    inside : (s t : Bool)
        → (worded_all us >>= λ (vs : Trees Word). elim s [ true ↦ at_form E3 G3 (list vs) | false ↦ elim t [ true ↦ dot_form E3 G3 (list vs) | false ↦ none ] ])
        ≡ pick s (worded_all us >>= λ (vs : Trees Word). at_form E3 G3 (list vs)) (pick t (worded_all us >>= λ (vs : Trees Word). dot_form E3 G3 (list vs)) none)
    inside true t = refl
    inside false true = refl
    inside false false = bind-none (worded_all us)

pub target-end : (d : ℕ) → target_in d end ≡ none
unfolding target_in part_of ◌>>=◌
target-end d = refl

pub target-zero : (ts : Trees Run) → target_in 0 ts ≡ none
unfolding target_in expr
target-zero ts = bind-none (part_of ts)

pub target-empty : (d : ℕ) (ts : Trees Run) → target_in d (form end then ts) ≡ none
unfolding target_in part_of expr target_form
target-empty zero ts = bind-none (worded (form end))
target-empty (suc d) ts = empty-form (target (suc d)) (λ (k : Name) (vs : List Item). target_form (λ (t : Item). expr d t) (λ (t : Item). target d t) (k, vs)) (λ vs. refl)

pub target-headless : (d : ℕ) (us vs ts : Trees Run) → target_in d (form (form us then vs) then ts) ≡ none
unfolding target_in part_of expr target_form
target-headless zero us vs ts = bind-none (worded (form (form us then vs)))
target-headless (suc d) us vs ts =
    headless-form (target (suc d)) (λ (k : Name) (xs : List Item). target_form (λ (t : Item). expr d t) (λ (t : Item). target d t) (k, xs)) (λ xs. refl) us vs

-- ---- constants

pub constant-form : (w : Run) (us ts : Trees Run) → constant_in (form (word w then us) then ts) ≡ constant_by (expr_head_of (word_of w)) us
unfolding constant_in number_in part_of constant headed is_number free key_of either constant_by minus_number ◌>>=◌ pick
constant-form w us ts =
    headed-form constant (λ (k : Name) (vs : List Item). minus_number (k, vs)) (λ vs. refl) w us
    ∙ bind-cong (key_in w) (λ (k : Name). inside (same (bytes "-") k))
    ∙ minus-head-is (worded_all us >>= λ (vs : Trees Word). one (list vs) >>= is_number >>= λ (z : ℤ). some (Syntax.minus z)) w
    ∙ rw (one_then is_number Syntax.minus us) refl
  where
    inside : (s : Bool)
        → (worded_all us >>= λ (vs : Trees Word). elim s [ false ↦ none | true ↦ one (list vs) >>= is_number >>= λ (z : ℤ). some (Syntax.minus z) ])
        ≡ pick s (worded_all us >>= λ (vs : Trees Word). one (list vs) >>= is_number >>= λ (z : ℤ). some (Syntax.minus z)) none
    inside true = refl
    inside false = bind-none (worded_all us)

pub constant-empty : (ts : Trees Run) → constant_in (form end then ts) ≡ none
unfolding constant_in part_of constant headed is_number free key_of either minus_number ◌>>=◌
constant-empty ts = empty-form constant (λ (k : Name) (vs : List Item). minus_number (k, vs)) (λ vs. refl)

pub constant-headless : (us vs ts : Trees Run) → constant_in (form (form us then vs) then ts) ≡ none
unfolding constant_in part_of constant headed is_number free key_of either minus_number ◌>>=◌
constant-headless us vs ts = headless-form constant (λ (k : Name) (xs : List Item). minus_number (k, xs)) (λ xs. refl) us vs

-- ---- a form is no name, number or type's name

no-form : {A : Type 0} (f : Item → Option A) → ((vs : Trees Word) → f (form vs) ≡ none) → (us : Trees Run) → (worded (form us) >>= f) ≡ none
unfolding worded ◌>>=◌
no-form f h us = bind_assoc (worded_all us) (λ (vs : Trees Word). some (form vs)) f ∙ bind-nones (worded_all us) h

pub name-form : (us ts : Trees Run) → name_in (form us then ts) ≡ none
unfolding name_in part_of free ◌>>=◌
name-form us ts = no-form free (λ vs. refl) us

pub number-form : (us ts : Trees Run) → number_in (form us then ts) ≡ none
unfolding number_in part_of is_number ◌>>=◌
number-form us ts = no-form is_number (λ vs. refl) us

pub type-form : (us ts : Trees Run) → type_name_in (form us then ts) ≡ none
unfolding type_name_in part_of type_name free key_of either ◌>>=◌
type-form us ts = no-form type_name (λ vs. refl) us
