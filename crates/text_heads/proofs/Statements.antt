-- Statements by their verbs, and bodies: what the definition (law, Forms) gives of a form is what its parts give one by one.
use mathlib.Core.Path.{◌≡◌, refl, sym, ap, ◌∙◌}
use mathlib.Core.Bool.{Bool, true, false}
use mathlib.Core.List.{List, [], ◌∷◌}
use mathlib.Core.Option.{Option, none, some}
use Prim.Native.Nat.{ℕ, zero, suc}
use Rattle.leaf_bytes.specs.Bytes.{bytes, same}
use Rattle.leaf_words.specs.Words.{word_of}
use Rattle.law.specs.Base.{Name, ◌>>=◌, each, given}
use Rattle.law.specs.Forms.{Item, ArmHead, is_arm, is_else, Verb, v_assign, v_begin, v_if, v_while, v_for, v_case, v_call, v_raise, verbs, among, arm_heads, arms_first, constant, exprs_of, first?, free, headed, key_of, one, some?, two}
use Rattle.law_theorems.specs.FormsByDepth.{arms, body, case_form, else_of, ending, expr, for_form, handler_of, if_form, one_arm, stmt, stmt_form, stmts, target}
use Rattle.law.specs.Syntax.{Arms, Body, Constant, Expr, Exprs, Stmt, Stmts, Target, ◌next◌, arm, assign, begin, call, case, else_arm, for, if_else, raise, while}
use Rattle.law.specs.Trees.{Tree, word, form, Trees, end, ◌then◌, Run, list}
use Rattle.law.specs.Words.{Word, worded, worded_all, word_by}
use Rattle.text_heads.specs.Parts.{part_of, rest, closed, key_in, expr_in, exprs_in, target_in, name_in, stmt_in, stmts_in, else_in, arm_in, arm_head_in, else_arm_in, arms_in, handler_in, handling, with_first, handler_last, body_in}
use Rattle.text_heads.specs.Heads.{is_exception}
use Rattle.text_heads.proofs.Heads.{exception-is}
use Rattle.text_heads.proofs.Expressions.{exprs-then}
use Rattle.text_heads.proofs.Walks.{bind-none, bind-nones, bind-cong, bind_assoc, bind-swap, first_part, next-part, ended, ended-part, one_then, two_then, headed-form, empty-form, headless-form}

-- ---- a statement by its head word

abbrev verb-form : ℕ → ℕ → Name → List Item → Option (Stmt × ℕ)
verb-form d n k vs = among verbs k >>= λ (v : Verb). stmt_form (stmt d) v (suc n) vs

by-verb : (d n : ℕ) (vs : Trees Word) → stmt (suc d) n (form vs) ≡ (first? (list vs) >>= λ (p : Name × List Item). verb-form d n p.0 p.1)
unfolding stmt headed
by-verb d n vs = refl

pub verbed : (d n : ℕ) (w : Run) (us ts : Trees Run) → stmt_in (suc d) n (form (word w then us) then ts)
    ≡ ((key_in w >>= among verbs) >>= λ (v : Verb). worded_all us >>= λ (vs : Trees Word). stmt_form (stmt d) v (suc n) (list vs))
unfolding stmt_in part_of
verbed d n w us ts =
    headed-form (stmt (suc d) n) (verb-form d n) (by-verb d n) w us
    ∙ bind-swap (key_in w) (worded_all us) (among verbs) (λ (v : Verb) (vs : Trees Word). stmt_form (stmt d) v (suc n) (list vs))

pub stmt-end : (d n : ℕ) → stmt_in d n end ≡ none
unfolding stmt_in part_of ◌>>=◌
stmt-end d n = refl

pub stmt-zero : (n : ℕ) (ts : Trees Run) → stmt_in 0 n ts ≡ none
unfolding stmt_in stmt
stmt-zero n ts = bind-none (part_of ts)

pub stmt-word : (d n : ℕ) (w : Run) (ts : Trees Run) → stmt_in d n (word w then ts) ≡ none
unfolding stmt_in part_of worded stmt headed ◌>>=◌
stmt-word zero n w ts = bind-none (worded (word w))
stmt-word (suc d) n w ts = go (word_by (word_of w) w)
  where
    go : (o : Option Word) → ((o >>= λ (v : Word). some (word v)) >>= stmt (suc d) n) ≡ none
    go none = refl
    go (some v) = refl

pub stmt-empty : (d n : ℕ) (ts : Trees Run) → stmt_in d n (form end then ts) ≡ none
unfolding stmt_in part_of stmt
stmt-empty zero n ts = bind-none (worded (form end))
stmt-empty (suc d) n ts = empty-form (stmt (suc d) n) (verb-form d n) (by-verb d n)

pub stmt-headless : (d n : ℕ) (us vs ts : Trees Run) → stmt_in d n (form (form us then vs) then ts) ≡ none
unfolding stmt_in part_of stmt
stmt-headless zero n us vs ts = bind-none (worded (form (form us then vs)))
stmt-headless (suc d) n us vs ts = headless-form (stmt (suc d) n) (verb-form d n) (by-verb d n) us vs

-- ---- the verbs; m is the statement's number

module _ (d m : ℕ) (us : Trees Run) where
  pub assign-parts : (worded_all us >>= λ (vs : Trees Word). stmt_form (stmt d) v_assign m (list vs))
      ≡ (target_in 33 us >>= λ (g : Target). expr_in 33 (rest us) >>= λ (e : Expr). closed (rest (rest us)) (assign m g e, m))
  unfolding stmt_form target_in expr_in
  assign-parts = two_then (target 33) (expr 33) (λ (g : Target) (e : Expr). (assign m g e, m)) us

  pub while-parts : (worded_all us >>= λ (vs : Trees Word). stmt_form (stmt d) v_while m (list vs))
      ≡ (expr_in 33 us >>= λ (e : Expr). stmt_in d m (rest us) >>= λ (a : Stmt × ℕ). closed (rest (rest us)) (while m e a.0, a.1))
  unfolding stmt_form stmt_in expr_in
  while-parts = two_then (expr 33) (stmt d m) (λ (e : Expr) (a : Stmt × ℕ). (while m e a.0, a.1)) us

  pub call-parts : (worded_all us >>= λ (vs : Trees Word). stmt_form (stmt d) v_call m (list vs))
      ≡ (name_in us >>= λ (p : Name). exprs_in 33 (rest us) >>= λ (es : Exprs). some (call m p es, m))
  unfolding stmt_form name_in
  call-parts =
      next-part (λ (vs : List Item). stmt_form (stmt d) v_call m vs) free (λ (p : Name) (vs : List Item). each (expr 33) vs >>= λ (es : List Expr). some (call m p (exprs_of es), m)) refl (λ v vs. refl) us
      ∙ bind-cong (name_in us) (λ (p : Name). exprs-then 33 (λ (es : Exprs). (call m p es, m)) (rest us))

  pub raise-parts : (worded_all us >>= λ (vs : Trees Word). stmt_form (stmt d) v_raise m (list vs)) ≡ (expr_in 33 us >>= λ (e : Expr). closed (rest us) (raise m e, m))
  unfolding stmt_form expr_in
  raise-parts = one_then (expr 33) (λ (e : Expr). (raise m e, m)) us

  -- `for`: from its last two parts on, from its second on
  for-last : Name → Expr → List Item → Option (Stmt × ℕ)
  for-last i a vs = two vs >>= λ (p : Item × Item). expr 33 p.0 >>= λ (b : Expr). stmt d m p.1 >>= λ (c : Stmt × ℕ). some (for m i a b c.0, c.1)

  for-first : Name → List Item → Option (Stmt × ℕ)
  for-first i [] = none
  for-first i (v ∷ vs) = expr 33 v >>= λ (a : Expr). for-last i a vs

  for-step : (v : Item) (vs : List Item) → stmt_form (stmt d) v_for m (v ∷ vs) ≡ (free v >>= λ (i : Name). for-first i vs)
  unfolding stmt_form for_form for-first for-last
  for-step v [] = sym (bind-none (free v))
  for-step v (x ∷ xs) = refl

  pub for-parts : (worded_all us >>= λ (vs : Trees Word). stmt_form (stmt d) v_for m (list vs))
      ≡ (name_in us >>= λ (i : Name). expr_in 33 (rest us) >>= λ (a : Expr). expr_in 33 (rest (rest us)) >>= λ (b : Expr).
      stmt_in d m (rest (rest (rest us))) >>= λ (c : Stmt × ℕ). closed (rest (rest (rest (rest us)))) (for m i a b c.0, c.1))
  unfolding stmt_form for_form name_in expr_in stmt_in for-first for-last
  for-parts =
      next-part (λ (vs : List Item). stmt_form (stmt d) v_for m vs) free for-first refl for-step us
      ∙ bind-cong (name_in us) (λ (i : Name). next-part (for-first i) (expr 33) (for-last i) refl (λ v vs. refl) (rest us)
      ∙ bind-cong (expr_in 33 (rest us)) (λ (a : Expr).
      two_then (expr 33) (stmt d m) (λ (b : Expr) (c : Stmt × ℕ). (for m i a b c.0, c.1)) (rest (rest us))))

-- `begin`
pub stmts-parts : (d n : ℕ) (us : Trees Run) → (worded_all us >>= λ (vs : Trees Word). stmts (stmt d) n (list vs)) ≡ stmts_in d n us
unfolding stmts stmts_in worded list ◌>>=◌
stmts-parts d n end = refl
stmts-parts d n (t then ts) =
    first_part (λ (vs : List Item). stmts (stmt d) n vs) (stmt d n) more (λ v vs. refl) t ts
    ∙ bind-cong (worded t >>= stmt d n) (λ (p : Stmt × ℕ).
    sym (bind_assoc (worded_all ts) (λ (vs : Trees Word). stmts (stmt d) p.1 (list vs)) (λ (q : Stmts × ℕ). some (p.0 next q.0, q.1)))
    ∙ ap (λ (o : Option (Stmts × ℕ)). o >>= λ (q : Stmts × ℕ). some (p.0 next q.0, q.1)) (stmts-parts d p.1 ts))
  where
    more : Stmt × ℕ → List Item → Option (Stmts × ℕ)
    more p vs = stmts (stmt d) p.1 vs >>= λ (q : Stmts × ℕ). some (p.0 next q.0, q.1)

pub begin-parts : (d m : ℕ) (us : Trees Run) → (worded_all us >>= λ (vs : Trees Word). stmt_form (stmt d) v_begin m (list vs))
    ≡ (stmts_in d m us >>= λ (p : Stmts × ℕ). some (begin m p.0, p.1))
unfolding stmt_form
begin-parts d m us =
    sym (bind_assoc (worded_all us) (λ (vs : Trees Word). stmts (stmt d) m (list vs)) (λ (p : Stmts × ℕ). some (begin m p.0, p.1)))
    ∙ ap (λ (o : Option (Stmts × ℕ)). o >>= λ (p : Stmts × ℕ). some (begin m p.0, p.1)) (stmts-parts d m us)

-- `if`
pub else-parts : (d n : ℕ) (us : Trees Run) → (worded_all us >>= λ (vs : Trees Word). else_of (stmt d) n (list vs)) ≡ else_in d n us
unfolding else_of else_in worded list one ended ◌>>=◌
else-parts d n end = refl
else-parts d n (t then ts) =
    first_part (λ (vs : List Item). else_of (stmt d) n vs) (stmt d n) (λ (p : Stmt × ℕ) (vs : List Item). ended p vs) step t ts
    ∙ bind-cong (worded t >>= stmt d n) (λ (p : Stmt × ℕ). ended-part p ts)
  where
    whole : (o : Option (Stmt × ℕ)) → o ≡ (o >>= λ (p : Stmt × ℕ). some p)
    whole none = refl
    whole (some p) = refl

    step : (v : Item) (vs : List Item) → else_of (stmt d) n (v ∷ vs) ≡ (stmt d n v >>= λ (p : Stmt × ℕ). ended p vs)
    step v [] = whole (stmt d n v)
    step v (x ∷ xs) = sym (bind-none (stmt d n v))

module _ (d m : ℕ) where
  if-last : Expr → Stmt × ℕ → List Item → Option (Stmt × ℕ)
  if-last e a vs = else_of (stmt d) a.1 vs >>= λ (b : Stmt × ℕ). some (if_else m e a.0 b.0, b.1)

  if-then : Expr → List Item → Option (Stmt × ℕ)
  if-then e [] = none
  if-then e (v ∷ vs) = stmt d m v >>= λ (a : Stmt × ℕ). if-last e a vs

  if-step : (v : Item) (vs : List Item) → stmt_form (stmt d) v_if m (v ∷ vs) ≡ (expr 33 v >>= λ (e : Expr). if-then e vs)
  unfolding stmt_form if_form if-then if-last
  if-step v [] = sym (bind-none (expr 33 v))
  if-step v (x ∷ xs) = refl

  pub if-parts : (us : Trees Run) → (worded_all us >>= λ (vs : Trees Word). stmt_form (stmt d) v_if m (list vs))
      ≡ (expr_in 33 us >>= λ (e : Expr). stmt_in d m (rest us) >>= λ (a : Stmt × ℕ). else_in d a.1 (rest (rest us)) >>= λ (b : Stmt × ℕ). some (if_else m e a.0 b.0, b.1))
  unfolding stmt_form if_form expr_in stmt_in if-then if-last
  if-parts us =
      next-part (λ (vs : List Item). stmt_form (stmt d) v_if m vs) (expr 33) if-then refl if-step us
      ∙ bind-cong (expr_in 33 us) (λ (e : Expr). next-part (if-then e) (stmt d m) (if-last e) refl (λ v vs. refl) (rest us)
      ∙ bind-cong (stmt_in d m (rest us)) (λ (a : Stmt × ℕ).
      sym (bind_assoc (worded_all (rest (rest us))) (λ (vs : Trees Word). else_of (stmt d) a.1 (list vs)) (λ (b : Stmt × ℕ). some (if_else m e a.0 b.0, b.1)))
      ∙ ap (λ (o : Option (Stmt × ℕ)). o >>= λ (b : Stmt × ℕ). some (if_else m e a.0 b.0, b.1)) (else-parts d a.1 (rest (rest us)))))

-- ---- arms

-- labels and a statement
abbrev labelled : Constant → List Constant → Stmt × ℕ → Option (List Constant × (Stmt × ℕ))
labelled c cs a = some (c ∷ cs, a)

-- a list of labels with one more in front
abbrev more-label : Constant → List Constant × (Stmt × ℕ) → Option (List Constant × (Stmt × ℕ))
more-label c p = some (c ∷ p.0, p.1)

arm_step : (d n : ℕ) (v x y : Item) (ys : List Item)
    → one_arm (stmt d) n (v ∷ (x ∷ (y ∷ ys))) ≡ (constant v >>= λ (c : Constant). one_arm (stmt d) n (x ∷ (y ∷ ys)) >>= more-label c)
unfolding one_arm ending each some? ◌>>=◌
arm_step d n v x y ys = go (ending (y ∷ ys))
  where
    labels : (o p : Option Constant) (q : Option (List Constant)) (r : Option (Stmt × ℕ))
        → (((o >>= λ (c : Constant). (p >>= λ (b : Constant). q >>= λ (bs : List Constant). some (b ∷ bs)) >>= λ (cs : List Constant). some (c ∷ cs)) >>= some?) >>= λ (cs : Constant × List Constant). r >>= λ (a : Stmt × ℕ). labelled cs.0 cs.1 a)
        ≡ (o >>= λ (c : Constant). (((p >>= λ (b : Constant). q >>= λ (bs : List Constant). some (b ∷ bs)) >>= some?) >>= λ (cs : Constant × List Constant). r >>= λ (a : Stmt × ℕ). labelled cs.0 cs.1 a) >>= more-label c)
    labels none p q r = refl
    labels (some c) none q r = refl
    labels (some c) (some b) none r = refl
    labels (some c) (some b) (some bs) none = refl
    labels (some c) (some b) (some bs) (some a) = refl

    go : (o : Option (List Item × Item))
        → (((o >>= λ (p : List Item × Item). some (x ∷ p.0, p.1)) >>= λ (p : List Item × Item). some (v ∷ p.0, p.1)) >>= λ (p : List Item × Item). (each constant p.0 >>= some?) >>= λ (cs : Constant × List Constant). stmt d n p.1 >>= λ (a : Stmt × ℕ). labelled cs.0 cs.1 a)
        ≡ (constant v >>= λ (c : Constant). ((o >>= λ (p : List Item × Item). some (x ∷ p.0, p.1)) >>= λ (p : List Item × Item). (each constant p.0 >>= some?) >>= λ (cs : Constant × List Constant). stmt d n p.1 >>= λ (a : Stmt × ℕ). labelled cs.0 cs.1 a) >>= more-label c)
    go none = sym (bind-none (constant v))
    go (some p) = labels (constant v) (constant x) (each constant p.0) (stmt d n p.1)

pub arm-parts : (d n : ℕ) (us : Trees Run) → (worded_all us >>= λ (vs : Trees Word). one_arm (stmt d) n (list vs)) ≡ arm_in d n us
unfolding one_arm ending each some? arm_in worded list ◌>>=◌
arm-parts d n end = refl
arm-parts d n (t then end) = go (worded t)
  where
    go : (o : Option Item) → ((o >>= λ (v : Item). some (v then end)) >>= λ (vs : Trees Word). one_arm (stmt d) n (list vs)) ≡ none
    go none = refl
    go (some v) = refl
arm-parts d n (t then (u then end)) = go (worded t) (worded u)
  where
    both : (o : Option Constant) (p : Option (Stmt × ℕ))
        → (((o >>= λ (c : Constant). some (c ∷ [])) >>= some?) >>= λ (cs : Constant × List Constant). p >>= λ (a : Stmt × ℕ). labelled cs.0 cs.1 a)
        ≡ (o >>= λ (c : Constant). p >>= λ (a : Stmt × ℕ). labelled c [] a)
    both none p = refl
    both (some c) p = refl

    go : (o p : Option Item) → ((o >>= λ (v : Item). (p >>= λ (x : Item). some (x then end)) >>= λ (vs : Trees Word). some (v then vs)) >>= λ (vs : Trees Word). one_arm (stmt d) n (list vs))
        ≡ ((o >>= constant) >>= λ (c : Constant). (p >>= stmt d n) >>= λ (a : Stmt × ℕ). labelled c [] a)
    go none p = refl
    go (some v) none = sym (bind-none (constant v))
    go (some v) (some x) = both (constant v) (stmt d n x)
arm-parts d n (t then (u then (x then ts))) =
    go (worded t) (worded u) (worded x) (worded_all ts)
    ∙ bind-cong (worded t >>= constant) (λ (c : Constant). ap (λ (o : Option (List Constant × (Stmt × ℕ))). o >>= more-label c) (arm-parts d n (u then (x then ts))))
  where
    go : (o p q : Option Item) (r : Option (Trees Word))
        → ((o >>= λ (v : Item). (p >>= λ (y : Item). (q >>= λ (z : Item). r >>= λ (zs : Trees Word). some (z then zs)) >>= λ (ys : Trees Word). some (y then ys)) >>= λ (vs : Trees Word). some (v then vs)) >>= λ (vs : Trees Word). one_arm (stmt d) n (list vs))
        ≡ ((o >>= constant) >>= λ (c : Constant). ((p >>= λ (y : Item). (q >>= λ (z : Item). r >>= λ (zs : Trees Word). some (z then zs)) >>= λ (ys : Trees Word). some (y then ys)) >>= λ (vs : Trees Word). one_arm (stmt d) n (list vs)) >>= more-label c)
    go none p q r = refl
    go (some v) none q r = sym (bind-none (constant v))
    go (some v) (some y) none r = sym (bind-none (constant v))
    go (some v) (some y) (some z) none = sym (bind-none (constant v))
    go (some v) (some y) (some z) (some zs) = arm_step d n v y z (list zs)

-- ---- `case`

-- an arm and the arms after it
abbrev more-arms : List Constant × (Stmt × ℕ) → Arms × ℕ → Option (Arms × ℕ)
more-arms a bs = some (arm a.0 a.1.0 bs.0, bs.1)

module _ (d n : ℕ) where
  -- an arm's head and parts; the arms from there on
  abbrev head-and-parts : ArmHead → List Item → Option (ArmHead × List Item)
  head-and-parts h ps = some (h, ps)

  abbrev by-arm-head : Item → Option (ArmHead × List Item)
  by-arm-head v = headed v >>= λ (p : Name × List Item). among arm_heads p.0 >>= λ (h : ArmHead). head-and-parts h p.1

  abbrev arm-or-else : ArmHead → List Item → List Item → Option (Arms × ℕ)
  arm-or-else h ps vs = elim h [
    | is_arm ↦ one_arm (stmt d) n ps >>= λ (a : List Constant × (Stmt × ℕ)). arms (stmt d) a.1.1 vs >>= more-arms a
    | is_else ↦ elim vs [ [] ↦ one ps >>= stmt d n >>= λ (a : Stmt × ℕ). some (else_arm a.0, a.1) | x ∷ xs ↦ none ]
  ]

  arms_step : (v : Item) (vs : List Item) → arms (stmt d) n (v ∷ vs) ≡ (by-arm-head v >>= λ (p : ArmHead × List Item). arm-or-else p.0 p.1 vs)
  unfolding arms ◌>>=◌
  arms_step v vs = go (headed v)
    where
      inner : (ps : List Item) (o : Option ArmHead)
          → (o >>= λ (h : ArmHead). arm-or-else h ps vs) ≡ ((o >>= λ (h : ArmHead). head-and-parts h ps) >>= λ (p : ArmHead × List Item). arm-or-else p.0 p.1 vs)
      inner ps none = refl
      inner ps (some h) = refl

      go : (o : Option (Name × List Item)) → (o >>= λ (p : Name × List Item). among arm_heads p.0 >>= λ (h : ArmHead). arm-or-else h p.1 vs)
          ≡ ((o >>= λ (p : Name × List Item). among arm_heads p.0 >>= λ (h : ArmHead). head-and-parts h p.1) >>= λ (p : ArmHead × List Item). arm-or-else p.0 p.1 vs)
      go none = refl
      go (some p) = inner p.1 (among arm_heads p.0)

  else-arm-parts : (ps ts : Trees Run) → (worded_all ps >>= λ (vs : Trees Word). worded_all ts >>= λ (ws : Trees Word). arm-or-else is_else (list vs) (list ws)) ≡ else_arm_in d n ps ts
  unfolding else_arm_in worded list ◌>>=◌
  else-arm-parts ps end = one_then (stmt d n) (λ (a : Stmt × ℕ). (else_arm a.0, a.1)) ps
  else-arm-parts ps (t then ts) = bind-nones (worded_all ps) (λ (vs : Trees Word). go vs (worded t) (worded_all ts))
    where
      go : (vs : Trees Word) (o : Option Item) (p : Option (Trees Word))
          → ((o >>= λ (v : Item). p >>= λ (ws : Trees Word). some (v then ws)) >>= λ (ws : Trees Word). arm-or-else is_else (list vs) (list ws)) ≡ none
      go vs none p = refl
      go vs (some v) none = refl
      go vs (some v) (some ws) = refl

  module _ (ts : Trees Run) (again : (m : ℕ) → (worded_all ts >>= λ (ws : Trees Word). arms (stmt d) m (list ws)) ≡ arms_in d m ts) where
    arm-arm-parts : (ps : Trees Run) → (worded_all ps >>= λ (vs : Trees Word). worded_all ts >>= λ (ws : Trees Word). arm-or-else is_arm (list vs) (list ws))
        ≡ (arm_in d n ps >>= λ (a : List Constant × (Stmt × ℕ)). arms_in d a.1.1 ts >>= more-arms a)
    arm-arm-parts ps =
        bind-swap (worded_all ps) (worded_all ts) (λ (vs : Trees Word). one_arm (stmt d) n (list vs)) (λ (a : List Constant × (Stmt × ℕ)) (ws : Trees Word). arms (stmt d) a.1.1 (list ws) >>= more-arms a)
        ∙ ap (λ (o : Option (List Constant × (Stmt × ℕ))). o >>= λ (a : List Constant × (Stmt × ℕ)). worded_all ts >>= λ (ws : Trees Word). arms (stmt d) a.1.1 (list ws) >>= more-arms a) (arm-parts d n ps)
        ∙ bind-cong (arm_in d n ps) (λ (a : List Constant × (Stmt × ℕ)).
        sym (bind_assoc (worded_all ts) (λ (ws : Trees Word). arms (stmt d) a.1.1 (list ws)) (more-arms a))
        ∙ ap (λ (o : Option (Arms × ℕ)). o >>= more-arms a) (again a.1.1))

    by-head : (ps : Trees Run) (h : ArmHead) → (worded_all ps >>= λ (vs : Trees Word). worded_all ts >>= λ (ws : Trees Word). arm-or-else h (list vs) (list ws))
        ≡ elim h [ is_arm ↦ arm_in d n ps >>= λ (a : List Constant × (Stmt × ℕ)). arms_in d a.1.1 ts >>= more-arms a | is_else ↦ else_arm_in d n ps ts ]
    by-head ps is_arm = arm-arm-parts ps
    by-head ps is_else = else-arm-parts ps ts

  -- what follows an arm whose head and parts are given
  abbrev after-head : Trees Run → ArmHead × List Item → Option (Arms × ℕ)
  after-head ts p = worded_all ts >>= λ (ws : Trees Word). arm-or-else p.0 p.1 (list ws)

  headed-arm : (ts ps : Trees Run) (w : Run) → ((worded (form (word w then ps)) >>= by-arm-head) >>= after-head ts)
      ≡ (arm_head_in w >>= λ (h : ArmHead). worded_all ps >>= λ (vs : Trees Word). worded_all ts >>= λ (ws : Trees Word). arm-or-else h (list vs) (list ws))
  unfolding headed arm_head_in ◌>>=◌
  headed-arm ts ps w =
      ap (λ (o : Option (ArmHead × List Item)). o >>= after-head ts)
      (headed-form by-arm-head (λ (k : Name) (vs : List Item). among arm_heads k >>= λ (h : ArmHead). head-and-parts h vs) (λ vs. refl) w ps
      ∙ bind-swap (key_in w) (worded_all ps) (among arm_heads) (λ (h : ArmHead) (vs : Trees Word). head-and-parts h (list vs)))
      ∙ bind_assoc (arm_head_in w) (λ (h : ArmHead). worded_all ps >>= λ (vs : Trees Word). head-and-parts h (list vs)) (after-head ts)
      ∙ bind-cong (arm_head_in w) (λ (h : ArmHead). bind_assoc (worded_all ps) (λ (vs : Trees Word). head-and-parts h (list vs)) (after-head ts))

  no_arm : (t : Tree Run) (ts : Trees Run) → (worded t >>= by-arm-head) ≡ none → (worded_all (t then ts) >>= λ (vs : Trees Word). arms (stmt d) n (list vs)) ≡ none
  unfolding ◌>>=◌
  no_arm t ts e =
      first_part (λ (vs : List Item). arms (stmt d) n vs) by-arm-head (λ (p : ArmHead × List Item) (vs : List Item). arm-or-else p.0 p.1 vs) arms_step t ts
      ∙ ap (λ (o : Option (ArmHead × List Item)). o >>= after-head ts) e

  word-no-arm : (w : Run) → (worded (word w) >>= by-arm-head) ≡ none
  unfolding worded headed ◌>>=◌
  word-no-arm w = go (word_by (word_of w) w)
    where
      go : (o : Option Word) → ((o >>= λ (v : Word). some (word v)) >>= by-arm-head) ≡ none
      go none = refl
      go (some v) = refl

  empty-no-arm : (worded (form end) >>= by-arm-head) ≡ none
  unfolding headed
  empty-no-arm = empty-form by-arm-head (λ (k : Name) (vs : List Item). among arm_heads k >>= λ (h : ArmHead). head-and-parts h vs) (λ vs. refl)

  headless-no-arm : (us vs : Trees Run) → (worded (form (form us then vs)) >>= by-arm-head) ≡ none
  unfolding headed
  headless-no-arm us vs = headless-form by-arm-head (λ (k : Name) (xs : List Item). among arm_heads k >>= λ (h : ArmHead). head-and-parts h xs) (λ xs. refl) us vs

pub arms-parts : (d n : ℕ) (us : Trees Run) → (worded_all us >>= λ (vs : Trees Word). arms (stmt d) n (list vs)) ≡ arms_in d n us
unfolding arms arms_in worded list ◌>>=◌
arms-parts d n end = refl
arms-parts d n (word w then ts) = no_arm d n (word w) ts (word-no-arm d n w)
arms-parts d n (form end then ts) = no_arm d n (form end) ts (empty-no-arm d n)
arms-parts d n (form (form us then vs) then ts) = no_arm d n (form (form us then vs)) ts (headless-no-arm d n us vs)
arms-parts d n (form (word w then ps) then ts) =
    first_part (λ (vs : List Item). arms (stmt d) n vs) (by-arm-head d n) (λ (p : ArmHead × List Item) (vs : List Item). arm-or-else d n p.0 p.1 vs) (arms_step d n) (form (word w then ps)) ts
    ∙ headed-arm d n ts ps w
    ∙ bind-cong (arm_head_in w) (by-head d n ts (λ m. arms-parts d m ts) ps)

pub case-parts : (d m : ℕ) (us : Trees Run) → (worded_all us >>= λ (vs : Trees Word). stmt_form (stmt d) v_case m (list vs))
    ≡ (expr_in 33 us >>= λ (e : Expr). arms_in d m (rest us) >>= λ (bs : Arms × ℕ). arms_first bs.0 >>= λ (bs' : Arms). some (case m e bs', bs.1))
unfolding stmt_form case_form expr_in
case-parts d m us =
    next-part (λ (vs : List Item). stmt_form (stmt d) v_case m vs) (expr 33) (λ (e : Expr) (vs : List Item). arms (stmt d) m vs >>= cased e) refl (λ v vs. refl) us
    ∙ bind-cong (expr_in 33 us) (λ (e : Expr).
    sym (bind_assoc (worded_all (rest us)) (λ (vs : Trees Word). arms (stmt d) m (list vs)) (cased e))
    ∙ ap (λ (o : Option (Arms × ℕ)). o >>= cased e) (arms-parts d m (rest us)))
  where
    cased : Expr → Arms × ℕ → Option (Stmt × ℕ)
    cased e bs = arms_first bs.0 >>= λ (bs' : Arms). some (case m e bs', bs.1)

-- ---- bodies

word-no-handler : (w : Run) → (worded (word w) >>= handler_of) ≡ none
unfolding worded handler_of headed ◌>>=◌
word-no-handler w = go (word_by (word_of w) w)
  where
    go : (o : Option Word) → ((o >>= λ (v : Word). some (word v)) >>= handler_of) ≡ none
    go none = refl
    go (some v) = refl

abbrev handler-parts : Name → List Item → Option (List Item)
handler-parts k vs = given (same (bytes "exception") k) vs

empty-no-handler : (worded (form end) >>= handler_of) ≡ none
unfolding handler_of headed
empty-no-handler = empty-form handler_of handler-parts (λ vs. refl)

headless-no-handler : (us vs : Trees Run) → (worded (form (form us then vs)) >>= handler_of) ≡ none
unfolding handler_of headed
headless-no-handler us vs = headless-form handler_of handler-parts (λ xs. refl) us vs

other-no-handler : (w : Run) (us : Trees Run) → is_exception (word_of w) ≡ false → (worded (form (word w then us)) >>= handler_of) ≡ none
unfolding handler_of headed given ◌>>=◌
other-no-handler w us e = headed-form handler_of handler-parts (λ vs. refl) w us ∙ go (key_in w) (exception-is zero w ∙ ap (λ (b : Bool). given b zero) e)
  where
    pass : (b : Bool) → given b zero ≡ none → (worded_all us >>= λ (vs : Trees Word). given b (list vs)) ≡ none
    pass true h = cc
    pass false h = bind-none (worded_all us)

    go : (o : Option Name) → (o >>= λ (k : Name). given (same (bytes "exception") k) zero) ≡ none
        → (o >>= λ (k : Name). worded_all us >>= λ (vs : Trees Word). handler-parts k (list vs)) ≡ none
    go none h = refl
    go (some k) h = pass (same (bytes "exception") k) h

module _ (n : ℕ) where
  -- a body's other parts, after its first statement
  abbrev after_first : Stmt × ℕ → Body × ℕ → Option (Body × ℕ)
  after_first p q = some (with_first p.0 q.0, q.1)

  plain-first : (t : Tree Run) (ts : Trees Run) → (worded t >>= handler_of) ≡ none → ((m : ℕ) → (worded_all ts >>= λ (vs : Trees Word). body m (list vs)) ≡ body_in m ts)
      → (worded_all (t then ts) >>= λ (vs : Trees Word). body n (list vs)) ≡ ((worded t >>= stmt 33 n) >>= λ (p : Stmt × ℕ). body_in p.1 ts >>= after_first p)
  unfolding body worded list ◌>>=◌
  plain-first t ts e again =
      go (worded t) (worded_all ts) e
      ∙ bind-cong (worded t >>= stmt 33 n) (λ (p : Stmt × ℕ).
      sym (bind_assoc (worded_all ts) (λ (vs : Trees Word). body p.1 (list vs)) (after_first p))
      ∙ ap (λ (o : Option (Body × ℕ)). o >>= after_first p) (again p.1))
    where
      go : (o : Option Item) (q : Option (Trees Word)) → (o >>= handler_of) ≡ none
          → ((o >>= λ (v : Item). q >>= λ (vs : Trees Word). some (v then vs)) >>= λ (vs : Trees Word). body n (list vs))
          ≡ ((o >>= stmt 33 n) >>= λ (p : Stmt × ℕ). q >>= λ (vs : Trees Word). body p.1 (list vs) >>= after_first p)
      go none q h = refl
      go (some v) none h = sym (bind-none (stmt 33 n v))
      go (some v) (some vs) h = rw (body, h) refl

  abbrev last-of : List Item → List Item → Option (Body × ℕ)
  last-of hs [] = stmts (stmt 33) n hs >>= λ (p : Stmts × ℕ). some (handling p.0, p.1)
  last-of hs (v ∷ vs) = none

  last-parts : (us ts : Trees Run) → (worded_all us >>= λ (hs : Trees Word). worded_all ts >>= λ (vs : Trees Word). last-of (list hs) (list vs)) ≡ handler_last n us ts
  unfolding handler_last worded list ◌>>=◌
  last-parts us end =
      sym (bind_assoc (worded_all us) (λ (hs : Trees Word). stmts (stmt 33) n (list hs)) (λ (p : Stmts × ℕ). some (handling p.0, p.1)))
      ∙ ap (λ (o : Option (Stmts × ℕ)). o >>= λ (p : Stmts × ℕ). some (handling p.0, p.1)) (stmts-parts 33 n us)
  last-parts us (t then ts) = bind-nones (worded_all us) (λ (hs : Trees Word). go hs (worded t) (worded_all ts))
    where
      go : (hs : Trees Word) (o : Option Item) (q : Option (Trees Word))
          → ((o >>= λ (v : Item). q >>= λ (vs : Trees Word). some (v then vs)) >>= λ (vs : Trees Word). last-of (list hs) (list vs)) ≡ none
      go hs none q = refl
      go hs (some v) none = refl
      go hs (some v) (some vs) = refl

  handler-is : (v : Word) (hs : Trees Word) → (key_of (word v) >>= λ (k : Name). given (same (bytes "exception") k) zero) ≡ some zero
      → handler_of (form (word v then hs)) ≡ some (list hs)
  unfolding handler_of headed first? list given ◌>>=◌
  handler-is v hs e = go (key_of (word v)) e
    where
      pass : (b : Bool) → given b zero ≡ some zero → given b (list hs) ≡ some (list hs)
      pass true h = refl
      pass false h = cc

      go : (o : Option Name) → (o >>= λ (k : Name). given (same (bytes "exception") k) zero) ≡ some zero
          → ((o >>= λ (k : Name). some (k, list hs)) >>= λ (p : Name × List Item). given (same (bytes "exception") p.0) p.1) ≡ some (list hs)
      go none h = cc
      go (some k) h = pass (same (bytes "exception") k) h

  handler-first : (w : Run) (us ts : Trees Run) → is_exception (word_of w) ≡ true
      → (worded_all (form (word w then us) then ts) >>= λ (vs : Trees Word). body n (list vs)) ≡ handler_last n us ts
  unfolding body worded list key_in given ◌>>=◌
  handler-first w us ts e =
      go (word_by (word_of w) w) (worded_all us) (worded_all ts) (exception-is zero w ∙ ap (λ (b : Bool). given b zero) e) ∙ last-parts us ts
    where
      at-end : (v : Word) (hs : Trees Word) (xs : List Item) → handler_of (form (word v then hs)) ≡ some (list hs) → body n (form (word v then hs) ∷ xs) ≡ last-of (list hs) xs
      at-end v hs [] h = rw (body, h) refl
      at-end v hs (x ∷ xs) h = rw (body, h) refl

      go : (o : Option Word) (p q : Option (Trees Word)) → ((o >>= λ (v : Word). key_of (word v)) >>= λ (k : Name). given (same (bytes "exception") k) zero) ≡ some zero
          → (((((o >>= λ (v : Word). some (word v)) >>= λ (v : Item). p >>= λ (vs : Trees Word). some (v then vs)) >>= λ (vs : Trees Word). some (form vs)) >>= λ (v : Item). q >>= λ (vs : Trees Word). some (v then vs)) >>= λ (vs : Trees Word). body n (list vs))
          ≡ (p >>= λ (hs : Trees Word). q >>= λ (vs : Trees Word). last-of (list hs) (list vs))
      go none p q h = cc
      go (some v) none q h = refl
      go (some v) (some hs) none h = refl
      go (some v) (some hs) (some xs) h = at-end v hs (list xs) (handler-is v hs h)

pub body-parts : (n : ℕ) (us : Trees Run) → (worded_all us >>= λ (vs : Trees Word). body n (list vs)) ≡ body_in n us
unfolding body body_in handler_in worded list given ◌>>=◌
body-parts n end = refl
body-parts n (word w then ts) = plain-first n (word w) ts (word-no-handler w) (λ m. body-parts m ts)
body-parts n (form end then ts) = plain-first n (form end) ts empty-no-handler (λ m. body-parts m ts)
body-parts n (form (form us then vs) then ts) = plain-first n (form (form us then vs)) ts (headless-no-handler us vs) (λ m. body-parts m ts)
body-parts n (form (word w then us) then ts) = go (λ m. body-parts m ts) (is_exception (word_of w)) refl
  where
    go : ((m : ℕ) → (worded_all ts >>= λ (vs : Trees Word). body m (list vs)) ≡ body_in m ts) → (b : Bool) → is_exception (word_of w) ≡ b
        → (worded_all (form (word w then us) then ts) >>= λ (vs : Trees Word). body n (list vs)) ≡ body_in n (form (word w then us) then ts)
    go again true e = rw (body_in, e) (handler-first n w us ts e)
    go again false e = rw (body_in, e) (plain-first n (form (word w then us)) ts (other-no-handler w us e) again)
