-- The forms read by depth (specs/FormsByDepth) are the law's for every tree that a line has: those at most 32 brackets deep.
use mathlib.Core.Path.{◌≡◌, refl, sym, ap, ◌∙◌}
use mathlib.Core.Bool.{Bool, true, false}
use mathlib.Core.List.{List, [], ◌∷◌}
use mathlib.Core.Option.{Option, none, some}
use Prim.Native.Nat.{ℕ, zero, suc, ◌<◌, ◌≤◌}
use native.Mathlib.Omega.{arith}
use Rattle.leaf_bytes.specs.Bytes.{bytes, same}
use Rattle.law.specs.Base.{Name, ◌>>=◌, given, either, each}
use Rattle.law.specs.Operators.{Fun, minus, negate}
use Rattle.law.specs.Syntax as S
use Rattle.law.specs.Syntax.{Arms, Constant, Expr, LineForm, Stmt, Stmts, Target, ◌next◌, done}
use Rattle.law.specs.Lines.{Line}
use Rattle.law.specs.Trees as T
use Rattle.law.specs.Trees.{Run, Tree, Trees, form_of, list}
use Rattle.law.specs.Words.{Word, worded}
use Rattle.law.specs.Forms as Law
use Rattle.law.specs.Forms.{ArmHead, Head, Item, LineHead, Verb, among, arm_heads, arms_first, branches, constant, exprs_of, field, first?, free, h_at, h_bound, h_dot, h_fun, h_lazy, h_members, h_minus, h_op, headed, heads, is_arm, is_else, is_main, is_number, is_proc, is_type, is_var, key_of, labels, line_heads, one, pairs_of, parameters, some?, three, two, type_name, v_assign, v_begin, v_call, v_case, v_for, v_if, v_raise, v_while, verbs}
use Rattle.law_theorems.specs.FormsByDepth as ByDepth
use Rattle.law_theorems.specs.FormsByDepth.{Reader, ending, expr_at, target_at}
use Rattle.law_theorems.proofs.Balance.{form-depth}
use Rattle.law_theorems.proofs.TreeDepth as Depth
use Rattle.law_theorems.proofs.TreeDepth.{Shallow, ShallowAll, Shallows, headed-shallow, listed-shallow, word, form, end, ◌then◌, worded-shallow}
use Rattle.law_theorems.proofs.Inversion.{none-some, some_inj}

-- ---- what may give nothing, in another order

pub unheeded : {A C : Type 0} (o : Option A) → ◌>>=◌ {B = C} o (λ a. none) ≡ none
unfolding ◌>>=◌
unheeded none = refl
unheeded (some a) = refl

bind-ext : {A C : Type 0} (o : Option A) {f g : A → Option C} → ((a : A) → f a ≡ g a) → (o >>= f) ≡ (o >>= g)
unfolding ◌>>=◌
bind-ext none k = refl
bind-ext (some a) k = k a

bind_assoc : {A B C : Type 0} (o : Option A) (f : A → Option B) (g : B → Option C) → ((o >>= f) >>= g) ≡ (o >>= λ a. f a >>= g)
unfolding ◌>>=◌
bind_assoc none f g = refl
bind_assoc (some a) f g = refl

swap : {A B C : Type 0} (o : Option A) (p : Option B) (f : A → B → Option C) → (o >>= λ a. p >>= λ b. f a b) ≡ (p >>= λ b. o >>= λ a. f a b)
unfolding ◌>>=◌
swap none none f = refl
swap none (some b) f = refl
swap (some a) none f = refl
swap (some a) (some b) f = refl

two-ap : {A B C : Type 0} (f : A → B → C) {a a' : A} {b b' : B} → a ≡ a' → b ≡ b' → f a b ≡ f a' b'
two-ap f {a'} {b} h k = ap (λ x. f x b) h ∙ ap (λ y. f a' y) k

-- by a head word
head-bind : {A C : Type 0} (o : Option Name) (tab : Name → Option A) (xs : List Item) (f : A → Option C) (g : A → List Item → Option C) → ((h : A) → f h ≡ g h xs)
    → ((o >>= tab) >>= f) ≡ (◌>>=◌ {B = Name × List Item} o (λ w. some (w, xs)) >>= λ p. tab p.0 >>= λ h. g h p.1)
unfolding ◌>>=◌
head-bind none tab xs f g k = refl
head-bind (some w) tab xs f g k = bind-ext (tab w) k

-- ---- expressions and targets, of parts that are read the same

module _ (E : Item → Option Expr) (G : Item → Option Target) where
  each-one : (xs : List Item) → (each E xs >>= one) ≡ (one xs >>= E)
  unfolding each one ◌>>=◌
  each-one [] = refl
  each-one (a ∷ []) = go (E a)
    where
      go : (o : Option Expr) → ((o >>= λ b. some (b ∷ [])) >>= one) ≡ o
      go none = refl
      go (some b) = refl
  each-one (a ∷ (b ∷ xs)) = go (E a) (E b) (each E xs)
    where
      go : (o p : Option Expr) (q : Option (List Expr)) → ((o >>= λ x. (p >>= λ y. q >>= λ ys. some (y ∷ ys)) >>= λ ys. some (x ∷ ys)) >>= one) ≡ none
      go none p q = refl
      go (some x) none q = refl
      go (some x) (some y) none = refl
      go (some x) (some y) (some ys) = refl

  one-is : (f : Fun) (xs : List Item) (es : Option (List Expr)) → es ≡ each E xs → (es >>= Law.one_sided (S.unary f)) ≡ ByDepth.one_sided E G f xs
  unfolding Law.one_sided ByDepth.one_sided
  one-is f xs es h = rw h (sym (bind_assoc (each E xs) one (λ a. some (S.unary f a))) ∙ ap (λ (o : Option Expr). o >>= λ a. some (S.unary f a)) (each-one xs))

  each_two : {C : Type 0} (f : Expr → Expr → Option C) (xs : List Item) → (each E xs >>= λ es. two es >>= λ p. f p.0 p.1) ≡ (two xs >>= λ p. E p.0 >>= λ a. E p.1 >>= λ b. f a b)
  unfolding each two ◌>>=◌
  each_two f [] = refl
  each_two {C} f (t ∷ xs) = by_first (E t) (each E xs)
      ∙ ap (λ (o : Option Expr). E t >>= λ a. o >>= λ b. f a b) (each-one xs)
      ∙ by-second (E t) (one xs)
      ∙ sym (bind_assoc {B = Item × Item} (one xs) (λ u. some (t, u)) (λ p. E p.0 >>= λ a. E p.1 >>= λ b. f a b))
    where
      by_first : (o : Option Expr) (q : Option (List Expr)) → ((o >>= λ x. q >>= λ ys. some (x ∷ ys)) >>= λ es. two es >>= λ p. f p.0 p.1) ≡ (o >>= λ a. (q >>= one) >>= λ b. f a b)
      by_first none q = refl
      by_first (some a) none = refl
      by_first (some a) (some ys) = go (one ys)
        where
          go : (r : Option Expr) → (◌>>=◌ {B = Expr × Expr} r (λ b. some (a, b)) >>= λ p. f p.0 p.1) ≡ (r >>= λ b. f a b)
          go none = refl
          go (some b) = refl

      by-second : (o : Option Expr) (r : Option Item) → (o >>= λ a. (r >>= E) >>= λ b. f a b) ≡ (r >>= λ u. o >>= λ a. E u >>= λ b. f a b)
      by-second none none = refl
      by-second (some a) none = refl
      by-second o (some u) = refl

  two_is : (f : Expr → Expr → Expr) (xs : List Item) (es : Option (List Expr)) → es ≡ each E xs → (es >>= Law.two_sided f) ≡ ByDepth.two_sided E G f xs
  unfolding Law.two_sided ByDepth.two_sided
  two_is f xs es h = rw h (each_two (λ a b. some (f a b)) xs)

  minus_is : (xs : List Item) (es : Option (List Expr)) → es ≡ each E xs
      → either (one xs >>= is_number >>= λ z. some (S.const (S.minus z))) (es >>= λ es. either (Law.one_sided (S.unary negate) es) (Law.two_sided (S.binary minus) es)) ≡ ByDepth.expr_form E G h_minus xs
  unfolding ByDepth.expr_form either ◌>>=◌
  minus_is xs es h = ap (either (one xs >>= is_number >>= λ z. some (S.const (S.minus z))))
      (apart es (Law.one_sided (S.unary negate)) (Law.two_sided (S.binary minus)) ∙ rw (one-is negate xs es h, two_is (S.binary minus) xs es h))
    where
      apart : (o : Option (List Expr)) (f g : List Expr → Option Expr) → (o >>= λ es. either (f es) (g es)) ≡ either (o >>= f) (o >>= g)
      apart none f g = refl
      apart (some es) f g = refl

  at-is : (t : Item) (xs : List Item) (g : Option Target) (es : Option (List Expr)) → g ≡ G t → es ≡ each E xs → (g >>= λ g. es >>= one >>= λ e. some (S.at g e)) ≡ ByDepth.at_form E G (t ∷ xs)
  unfolding ByDepth.at_form two ◌>>=◌
  at-is t xs g es h k = rw (h, k, each-one xs) (go (G t) (one xs) ∙ sym (bind_assoc {B = Item × Item} (one xs) (λ u. some (t, u)) (λ p. G p.0 >>= λ g. E p.1 >>= λ e. some (S.at g e))))
    where
      go : (o : Option Target) (r : Option Item) → (o >>= λ g. r >>= E >>= λ e. some (S.at g e)) ≡ (r >>= λ u. o >>= λ g. E u >>= λ e. some (S.at g e))
      go none none = refl
      go (some g) none = refl
      go o (some u) = refl

  dot-is : (t : Item) (xs : List Item) (g : Option Target) → g ≡ G t → (g >>= λ g. one xs >>= free >>= λ n. some (S.dot g n)) ≡ ByDepth.dot_form E G (t ∷ xs)
  unfolding ByDepth.dot_form two ◌>>=◌
  dot-is t xs g h = rw h (go (G t) (one xs) ∙ sym (bind_assoc {B = Item × Item} (one xs) (λ u. some (t, u)) (λ p. G p.0 >>= λ g. free p.1 >>= λ n. some (S.dot g n))))
    where
      go : (o : Option Target) (r : Option Item) → (o >>= λ g. r >>= free >>= λ n. some (S.dot g n)) ≡ (r >>= λ u. o >>= λ g. free u >>= λ n. some (S.dot g n))
      go none none = refl
      go (some g) none = refl
      go o (some u) = refl

  target_is : (o : Option Name) (xs : List Item) (a b : Option Target) → a ≡ ByDepth.at_form E G xs → b ≡ ByDepth.dot_form E G xs
      → (o >>= among (("at", a) ∷ ("dot", b) ∷ []) >>= λ g. g) ≡ (◌>>=◌ {B = Name × List Item} o (λ w. some (w, xs)) >>= ByDepth.target_form E G)
  unfolding ◌>>=◌ among ByDepth.target_form
  target_is none xs a b h k = refl
  target_is (some w) xs a b h k = go (same (bytes "at") w) (same (bytes "dot") w)
    where
      go : (p q : Bool) → ◌>>=◌ {B = Target} (elim p as (λ x. Option (Option Target)) [ true ↦ some a | false ↦ elim q as (λ x. Option (Option Target)) [ true ↦ some b | false ↦ none ] ]) (λ g. g)
          ≡ elim p as (λ x. Option Target) [ true ↦ ByDepth.at_form E G xs | false ↦ elim q as (λ x. Option Target) [ true ↦ ByDepth.dot_form E G xs | false ↦ none ] ]
      go true q = h
      go false true = k
      go false false = refl

-- what the law reads behind each head word: what stands in `Law.expr_form`
abbrev expr-by : Trees Word → Head → Option Expr
expr-by us h = elim h [
  | h_at ↦ Law.at_form us >>= λ g. some (S.read g)
  | h_dot ↦ Law.dot_form us >>= λ g. some (S.read g)
  | h_members ↦ Law.members_form us
  | h_minus ↦
      either (one (list us) >>= is_number >>= λ z. some (S.const (S.minus z)))
      (Law.exprs us >>= λ es. either (Law.one_sided (S.unary negate) es) (Law.two_sided (S.binary minus) es))
  | h_bound b ↦ one (list us) >>= type_name >>= λ n. some (S.end_of b n)
  | h_lazy q ↦ Law.exprs us >>= Law.two_sided (S.short_circuit q)
  | h_op op ↦ Law.exprs us >>= Law.two_sided (S.binary op)
  | h_fun f ↦ Law.exprs us >>= Law.one_sided (S.unary f)
]

mutual
  unfolding Law.expr Law.target Law.expr_form Law.target_form Law.exprs Law.members_form Law.at_form Law.dot_form ByDepth.expr ByDepth.target ByDepth.expr_form ByDepth.at_form ByDepth.dot_form two first? list each ◌>>=◌

  pub expr-same : {k : ℕ} {t : Item} → Shallow k t → (d : ℕ) → k < d → Law.expr t ≡ ByDepth.expr d t
  expr-same word zero l = absurd (omega arith)
  expr-same word (suc d) l = refl
  expr-same (form ts) zero l = absurd (omega arith)
  expr-same (form ts) (suc d) l = expr-form-same ts d (omega arith)

  expr-form-same : {k : ℕ} {ts : Trees Word} → ShallowAll k ts → (d : ℕ) → k < d
      → Law.expr_form ts ≡ (first? (list ts) >>= λ p. among heads p.0 >>= λ h. ByDepth.expr_form (λ t. ByDepth.expr d t) (λ t. ByDepth.target d t) h p.1)
  expr-form-same end d l = refl
  expr-form-same (◌then◌ {t = t} {ts = us} s ts) d l =
      head-bind (key_of t) (among heads) (list us) (expr-by us) (λ h xs. ByDepth.expr_form (λ t. ByDepth.expr d t) (λ t. ByDepth.target d t) h xs) λ h.
      elim h as (λ h. expr-by us h ≡ ByDepth.expr_form (λ t. ByDepth.expr d t) (λ t. ByDepth.target d t) h (list us)) [
        | h_at ↦ ap (λ (o : Option Target). o >>= λ g. some (S.read g)) (at_same ts d l)
        | h_dot ↦ ap (λ (o : Option Target). o >>= λ g. some (S.read g)) (dot-same ts d l)
        | h_members ↦ members-same ts d l
        | h_minus ↦ minus_is (λ t. ByDepth.expr d t) (λ t. ByDepth.target d t) (list us) (Law.exprs us) (exprs-same ts d l)
        | h_bound b ↦ refl
        | h_lazy q ↦ two_is (λ t. ByDepth.expr d t) (λ t. ByDepth.target d t) (S.short_circuit q) (list us) (Law.exprs us) (exprs-same ts d l)
        | h_op op ↦ two_is (λ t. ByDepth.expr d t) (λ t. ByDepth.target d t) (S.binary op) (list us) (Law.exprs us) (exprs-same ts d l)
        | h_fun f ↦ one-is (λ t. ByDepth.expr d t) (λ t. ByDepth.target d t) f (list us) (Law.exprs us) (exprs-same ts d l)
      ]

  exprs-same : {k : ℕ} {ts : Trees Word} → ShallowAll k ts → (d : ℕ) → k < d → Law.exprs ts ≡ each (λ t. ByDepth.expr d t) (list ts)
  exprs-same end d l = refl
  exprs-same (s then ts) d l = two-ap (λ (o : Option Expr) (q : Option (List Expr)). o >>= λ e. q >>= λ es. some (e ∷ es)) (expr-same s d l) (exprs-same ts d l)

  members-same : {k : ℕ} {ts : Trees Word} → ShallowAll k ts → (d : ℕ) → k < d → Law.members_form ts ≡ ByDepth.expr_form (λ t. ByDepth.expr d t) (λ t. ByDepth.target d t) h_members (list ts)
  members-same end d l = refl
  members-same (◌then◌ {t = t} s ts) d l = ap (λ (q : Option (List Expr)). type_name t >>= λ n. q >>= λ es. some (S.members n (exprs_of es))) (exprs-same ts d l)

  pub target-same : {k : ℕ} {t : Item} → Shallow k t → (d : ℕ) → k < d → Law.target t ≡ ByDepth.target d t
  target-same word zero l = absurd (omega arith)
  target-same word (suc d) l = refl
  target-same (form ts) zero l = absurd (omega arith)
  target-same (form ts) (suc d) l = target-form-same ts d (omega arith)

  target-form-same : {k : ℕ} {ts : Trees Word} → ShallowAll k ts → (d : ℕ) → k < d
      → Law.target_form ts ≡ (first? (list ts) >>= ByDepth.target_form (λ t. ByDepth.expr d t) (λ t. ByDepth.target d t))
  target-form-same end d l = refl
  target-form-same (◌then◌ {t = t} {ts = us} s ts) d l =
      target_is (λ t. ByDepth.expr d t) (λ t. ByDepth.target d t) (key_of t) (list us) (Law.at_form us) (Law.dot_form us) (at_same ts d l) (dot-same ts d l)

  at_same : {k : ℕ} {ts : Trees Word} → ShallowAll k ts → (d : ℕ) → k < d → Law.at_form ts ≡ ByDepth.at_form (λ t. ByDepth.expr d t) (λ t. ByDepth.target d t) (list ts)
  at_same end d l = refl
  at_same (◌then◌ {t = t} {ts = us} s ts) d l =
      at-is (λ t. ByDepth.expr d t) (λ t. ByDepth.target d t) t (list us) (Law.target t) (Law.exprs us) (target-same s d l) (exprs-same ts d l)

  dot-same : {k : ℕ} {ts : Trees Word} → ShallowAll k ts → (d : ℕ) → k < d → Law.dot_form ts ≡ ByDepth.dot_form (λ t. ByDepth.expr d t) (λ t. ByDepth.target d t) (list ts)
  dot-same end d l = refl
  dot-same (◌then◌ {t = t} {ts = us} s ts) d l = dot-is (λ t. ByDepth.expr d t) (λ t. ByDepth.target d t) t (list us) (Law.target t) (target-same s d l)

-- ---- statements

abbrev Same : Option (Stmt × ℕ) → Option (Stmt × ℕ) → Type 0
Same a b = a ≡ b

-- the parts before the last, and the last, read by r
abbrev ended : Reader → ℕ → List Item → Option (List Item × (Stmt × ℕ))
ended r n xs = ending xs >>= λ p. r n p.1 >>= λ s. some (p.0, s)

ended-then : {C : Type 0} (r : Reader) (n : ℕ) (xs : List Item) (f : List Item × (Stmt × ℕ) → Option C) → (ended r n xs >>= f) ≡ (ending xs >>= λ p. r n p.1 >>= λ s. f (p.0, s))
unfolding ◌>>=◌
ended-then {C} r n xs f = go (ending xs)
  where
    inner : (ls : List Item) (o : Option (Stmt × ℕ)) → (◌>>=◌ {B = List Item × (Stmt × ℕ)} o (λ s. some (ls, s)) >>= f) ≡ (o >>= λ s. f (ls, s))
    inner ls none = refl
    inner ls (some s) = refl

    go : (o : Option (List Item × Item)) → (◌>>=◌ {B = List Item × (Stmt × ℕ)} o (λ p. r n p.1 >>= λ s. some (p.0, s)) >>= f) ≡ (o >>= λ p. r n p.1 >>= λ s. f (p.0, s))
    go none = refl
    go (some p) = inner p.0 (r n p.1)

module _ {k : ℕ} (b : k ≤ 32) where
  expr-flat : {t : Item} → Shallow k t → Law.expr t ≡ expr_at t
  expr-flat s = expr-same s 33 (omega arith)

  target-flat : {t : Item} → Shallow k t → Law.target t ≡ target_at t
  target-flat s = target-same s 33 (omega arith)

  each-flat : {xs : List Item} → Shallows k xs → each Law.expr xs ≡ each expr_at xs
  unfolding each
  each-flat Depth.none = refl
  each-flat (Depth.more s ss) = two-ap (λ (o : Option Expr) (q : Option (List Expr)). o >>= λ e. q >>= λ es. some (e ∷ es)) (expr-flat s) (each-flat ss)

  module _ (r : Reader) (n : ℕ) where
    assign-is : {xs : List Item} → Shallows k xs → Same (two xs >>= λ p. Law.target p.0 >>= λ g. Law.expr p.1 >>= λ e. some (S.assign n g e, n)) (ByDepth.stmt_form r v_assign n xs)
    unfolding two one ◌>>=◌ ByDepth.stmt_form
    assign-is Depth.none = refl
    assign-is (Depth.more s Depth.none) = refl
    assign-is (Depth.more s (Depth.more u Depth.none)) = two-ap {C = Option (Stmt × ℕ)} (λ (g : Option Target) (e : Option Expr). g >>= λ g. e >>= λ e. some (S.assign n g e, n)) (target-flat s) (expr-flat u)
    assign-is (Depth.more s (Depth.more u (Depth.more v vs))) = refl

    raise-is : {xs : List Item} → Shallows k xs → Same (one xs >>= Law.expr >>= λ e. some (S.raise n e, n)) (ByDepth.stmt_form r v_raise n xs)
    unfolding one ◌>>=◌ ByDepth.stmt_form
    raise-is Depth.none = refl
    raise-is (Depth.more s Depth.none) = ap {B = Option (Stmt × ℕ)} (λ (e : Option Expr). e >>= λ e. some (S.raise n e, n)) (expr-flat s)
    raise-is (Depth.more s (Depth.more u us)) = refl

    call-is : {xs : List Item} → Shallows k xs → Same (some? xs >>= λ p. free p.0 >>= λ w. each Law.expr p.1 >>= λ es. some (S.call n w (exprs_of es), n)) (ByDepth.stmt_form r v_call n xs)
    unfolding some? ◌>>=◌ ByDepth.stmt_form
    call-is Depth.none = refl
    call-is (Depth.more {t = t} s ss) = ap {B = Option (Stmt × ℕ)} (λ (q : Option (List Expr)). free t >>= λ w. q >>= λ es. some (S.call n w (exprs_of es), n)) (each-flat ss)

    abbrev whiles : List Item × (Stmt × ℕ) → Option (Stmt × ℕ)
    whiles p = one p.0 >>= Law.expr >>= λ e. some (S.while n e p.1.0, p.1.1)

    while-is : {xs : List Item} → Shallows k xs → (ended r n xs >>= whiles) ≡ ByDepth.stmt_form r v_while n xs
    unfolding ending one two ◌>>=◌ ByDepth.stmt_form
    while-is {xs} ss = ended-then r n xs whiles ∙ go ss
      where
        live : (t : Item) → Law.expr t ≡ expr_at t → (o : Option (Stmt × ℕ)) → Same (o >>= λ s. whiles (t ∷ [], s)) (expr_at t >>= λ e. o >>= λ p. some (S.while n e p.0, p.1))
        live t h none = sym (unheeded (expr_at t))
        live t h (some p) = ap {B = Option (Stmt × ℕ)} (λ (e : Option Expr). e >>= λ e. some (S.while n e p.0, p.1)) h

        more : (t u : Item) (o : Option (List Item × Item))
            → Same (◌>>=◌ {B = List Item × Item} (◌>>=◌ {B = List Item × Item} o (λ p. some (u ∷ p.0, p.1))) (λ p. some (t ∷ p.0, p.1)) >>= λ p. r n p.1 >>= λ s. whiles (p.0, s)) none
        more t u none = refl
        more t u (some p) = unheeded (r n p.1)

        go : {xs : List Item} → Shallows k xs → Same (ending xs >>= λ p. r n p.1 >>= λ s. whiles (p.0, s)) (ByDepth.stmt_form r v_while n xs)
        go Depth.none = refl
        go (Depth.more {t = u} s Depth.none) = unheeded (r n u)
        go (Depth.more {t = t} s (Depth.more {t = u} _ Depth.none)) = live t (expr-flat s) (r n u)
        go (Depth.more {t = t} _ (Depth.more {t = u} _ (Depth.more {t = v} {ts = vs} _ _))) = more t u (ending (v ∷ vs))

    abbrev fors : List Item × (Stmt × ℕ) → Option (Stmt × ℕ)
    fors p = three p.0 >>= λ q. free q.0 >>= λ i. Law.expr q.1.0 >>= λ a. Law.expr q.1.1 >>= λ b. some (S.for n i a b p.1.0, p.1.1)

    for-is : {xs : List Item} → Shallows k xs → (ended r n xs >>= fors) ≡ ByDepth.for_form r n xs
    unfolding ending one two three ◌>>=◌ ByDepth.for_form
    for-is {xs} ss = ended-then r n xs fors ∙ go ss
      where
        dead : (v t : Item) → Same none (free v >>= λ i. expr_at t >>= λ a. none)
        dead v t = sym (bind-ext (free v) (λ i. unheeded (expr_at t)) ∙ unheeded (free v))

        live : (v t u z : Item) → Law.expr t ≡ expr_at t → Law.expr u ≡ expr_at u → Same (r n z >>= λ s. fors (v ∷ t ∷ u ∷ [], s)) (ByDepth.for_form r n (v ∷ t ∷ u ∷ z ∷ []))
        live v t u z h k =
            two-ap {C = Option (Stmt × ℕ)} (λ (x y : Option Expr). r n z >>= λ s. free v >>= λ i. x >>= λ a. y >>= λ b. some (S.for n i a b s.0, s.1)) h k
            ∙ swap {C = Stmt × ℕ} (r n z) (free v) (λ s i. expr_at t >>= λ a. expr_at u >>= λ b. some (S.for n i a b s.0, s.1))
            ∙ bind-ext (free v) (λ i. swap {C = Stmt × ℕ} (r n z) (expr_at t) (λ s a. expr_at u >>= λ b. some (S.for n i a b s.0, s.1))
            ∙ bind-ext (expr_at t) (λ a. swap {C = Stmt × ℕ} (r n z) (expr_at u) (λ s b. some (S.for n i a b s.0, s.1))))

        more : (v t u z : Item) (o : Option (List Item × Item))
            → Same (◌>>=◌ {B = List Item × Item} (◌>>=◌ {B = List Item × Item} (◌>>=◌ {B = List Item × Item} (◌>>=◌ {B = List Item × Item} o (λ p. some (z ∷ p.0, p.1))) (λ p. some (u ∷ p.0, p.1))) (λ p. some (t ∷ p.0, p.1))) (λ p. some (v ∷ p.0, p.1))
            >>= λ p. r n p.1 >>= λ s. fors (p.0, s)) none
        more v t u z none = refl
        more v t u z (some p) = unheeded (r n p.1)

        go : {xs : List Item} → Shallows k xs → Same (ending xs >>= λ p. r n p.1 >>= λ s. fors (p.0, s)) (ByDepth.for_form r n xs)
        go Depth.none = refl
        go (Depth.more {t = v} _ Depth.none) = unheeded (r n v)
        go (Depth.more {t = v} _ (Depth.more {t = t} _ Depth.none)) = unheeded (r n t) ∙ dead v t
        go (Depth.more {t = v} _ (Depth.more {t = t} _ (Depth.more {t = u} _ Depth.none))) = unheeded (r n u) ∙ dead v t
        go (Depth.more {t = v} _ (Depth.more {t = t} s (Depth.more {t = u} s' (Depth.more {t = z} _ Depth.none)))) = live v t u z (expr-flat s) (expr-flat s')
        go (Depth.more {t = v} _ (Depth.more {t = t} s (Depth.more {t = u} s' (Depth.more {t = z} _ (Depth.more {t = w} {ts = ws} _ _))))) = more v t u z (ending (w ∷ ws)) ∙ dead v t

    if-is : {t : Item} (xs : List Item) → Shallow k t → Same (Law.expr t >>= λ e. ByDepth.stmts r n xs >>= λ p. branches p.0 >>= λ q. some (S.if_else n e q.0 q.1, p.1)) (ByDepth.if_form r n (t ∷ xs))
    unfolding one branches ◌>>=◌ ByDepth.stmts ByDepth.else_of ByDepth.if_form
    if-is {t} xs s = rw (expr-flat s) (go xs)
      where
        three? : (e : Expr) (a b : Stmt) (o : Option (Stmt × ℕ)) (rest : ℕ → Option (Stmts × ℕ))
            → Same (◌>>=◌ {B = Stmts × ℕ} (◌>>=◌ {B = Stmts × ℕ} (◌>>=◌ {B = Stmts × ℕ} o (λ p. rest p.1 >>= λ q. some (p.0 next q.0, q.1))) (λ q. some (b next q.0, q.1))) (λ q. some (a next q.0, q.1))
            >>= λ p. branches p.0 >>= λ q. some (S.if_else n e q.0 q.1, p.1)) none
        three? e a b none rest = refl
        three? e a b (some p) rest = last (rest p.1)
          where
            last : (o : Option (Stmts × ℕ)) → Same (◌>>=◌ {B = Stmts × ℕ} (◌>>=◌ {B = Stmts × ℕ} (◌>>=◌ {B = Stmts × ℕ} o (λ q. some (p.0 next q.0, q.1))) (λ q. some (b next q.0, q.1))) (λ q. some (a next q.0, q.1))
                >>= λ p. branches p.0 >>= λ q. some (S.if_else n e q.0 q.1, p.1)) none
            last none = refl
            last (some q) = refl

        second : (e : Expr) (a : Stmt) (o : Option (Stmt × ℕ))
            → Same (◌>>=◌ {B = Stmts × ℕ} (◌>>=◌ {B = Stmts × ℕ} o (λ p. some (p.0 next done, p.1))) (λ q. some (a next q.0, q.1)) >>= λ p. branches p.0 >>= λ q. some (S.if_else n e q.0 q.1, p.1))
            (o >>= λ p. some (S.if_else n e a p.0, p.1))
        second e a none = refl
        second e a (some p) = refl

        otherwise : (e : Expr) (a : Stmt) (m : ℕ) (us : List Item)
            → Same (◌>>=◌ {B = Stmts × ℕ} (ByDepth.stmts r m us) (λ q. some (a next q.0, q.1)) >>= λ p. branches p.0 >>= λ q. some (S.if_else n e q.0 q.1, p.1))
            (ByDepth.else_of r m us >>= λ p. some (S.if_else n e a p.0, p.1))
        otherwise e a m [] = refl
        otherwise e a m (u ∷ []) = second e a (r m u)
        otherwise e a m (u ∷ (v ∷ vs)) = third (r m u)
          where
            third : (o : Option (Stmt × ℕ)) → Same (◌>>=◌ {B = Stmts × ℕ} (◌>>=◌ {B = Stmts × ℕ} o (λ p. ByDepth.stmts r p.1 (v ∷ vs) >>= λ q. some (p.0 next q.0, q.1))) (λ q. some (a next q.0, q.1))
                >>= λ p. branches p.0 >>= λ q. some (S.if_else n e q.0 q.1, p.1)) none
            third none = refl
            third (some p) = three? e a p.0 (r p.1 v) (λ m. ByDepth.stmts r m vs)

        first : (e : Expr) (us : List Item) (o : Option (Stmt × ℕ))
            → Same (◌>>=◌ {B = Stmts × ℕ} o (λ p. ByDepth.stmts r p.1 us >>= λ q. some (p.0 next q.0, q.1)) >>= λ p. branches p.0 >>= λ q. some (S.if_else n e q.0 q.1, p.1))
            (o >>= λ p. ByDepth.else_of r p.1 us >>= λ q. some (S.if_else n e p.0 q.0, q.1))
        first e us none = refl
        first e us (some p) = otherwise e p.0 p.1 us

        go : (xs : List Item) → Same (expr_at t >>= λ e. ByDepth.stmts r n xs >>= λ p. branches p.0 >>= λ q. some (S.if_else n e q.0 q.1, p.1)) (ByDepth.if_form r n (t ∷ xs))
        go [] = unheeded (expr_at t)
        go (u ∷ us) = bind-ext (expr_at t) λ e. first e us (r n u)

    case-is : {t : Item} (xs : List Item) → Shallow k t → Same (Law.expr t >>= λ e. ByDepth.arms r n xs >>= λ p. arms_first p.0 >>= λ q. some (S.case n e q, p.1)) (ByDepth.case_form r n (t ∷ xs))
    unfolding ByDepth.case_form
    case-is {t} xs s = ap {B = Option (Stmt × ℕ)} (λ (o : Option Expr). o >>= λ e. ByDepth.arms r n xs >>= λ p. arms_first p.0 >>= λ q. some (S.case n e q, p.1)) (expr-flat s)

-- ---- arms

-- an arm's labels and statement
abbrev arm_by : Reader → ℕ → ArmHead → List Item → Option (List Constant × (Stmt × ℕ))
arm_by r n h ps = ending ps >>= λ p. r n p.1 >>= λ s. each constant p.0 >>= labels h >>= λ cs. some (cs, s)

abbrev armed : Trees Word → (ℕ → Option (Arms × ℕ)) → List Constant × (Stmt × ℕ) → Option (Arms × ℕ)
armed us more p = elim p.0 [
  | [] ↦ elim us [ T.end ↦ some (S.else_arm p.1.0, p.1.1) | T.◌then◌ u vs ↦ none ]
  | c ∷ cs ↦ more p.1.1 >>= λ q. some (S.arm (c ∷ cs) p.1.0 q.0, q.1)
]

module _ (r : Reader) (n : ℕ) (us : Trees Word) (more : ℕ → Option (Arms × ℕ)) where
  abbrev Arm : Option (Arms × ℕ) → Option (Arms × ℕ) → Type 0
  Arm a b = a ≡ b

  arm_is : (ps : List Item) → Arm (arm_by r n is_arm ps >>= armed us more) (ByDepth.one_arm r n ps >>= λ a. more a.1.1 >>= λ bs. some (S.arm a.0 a.1.0 bs.0, bs.1))
  unfolding labels some? ◌>>=◌ ByDepth.one_arm
  arm_is ps = go (ending ps)
    where
      inner : (o : Option (List Constant)) (q : Option (Stmt × ℕ))
          → Arm (◌>>=◌ {B = List Constant × (Stmt × ℕ)} q (λ s. o >>= labels is_arm >>= λ cs. some (cs, s)) >>= armed us more)
          (◌>>=◌ {B = List Constant × (Stmt × ℕ)} (o >>= some?) (λ cs. q >>= λ a. some (cs.0 ∷ cs.1, a)) >>= λ a. more a.1.1 >>= λ bs. some (S.arm a.0 a.1.0 bs.0, bs.1))
      inner none none = refl
      inner none (some s) = refl
      inner (some []) none = refl
      inner (some []) (some s) = refl
      inner (some (c ∷ cs)) none = refl
      inner (some (c ∷ cs)) (some s) = refl

      go : (o : Option (List Item × Item))
          → Arm (◌>>=◌ {B = List Constant × (Stmt × ℕ)} o (λ p. r n p.1 >>= λ s. each constant p.0 >>= labels is_arm >>= λ cs. some (cs, s)) >>= armed us more)
          (◌>>=◌ {B = List Constant × (Stmt × ℕ)} o (λ p. each constant p.0 >>= some? >>= λ cs. r n p.1 >>= λ a. some (cs.0 ∷ cs.1, a)) >>= λ a. more a.1.1 >>= λ bs. some (S.arm a.0 a.1.0 bs.0, bs.1))
      go none = refl
      go (some p) = inner (each constant p.0) (r n p.1)

module _ (r : Reader) (n : ℕ) (more : ℕ → Option (Arms × ℕ)) where
  -- an `else` has no label
  else-labels : (us : Trees Word) (o : Option (List Constant)) (q : Option (Stmt × ℕ)) → ((cs : List Constant) → o ≡ some cs → (c : Constant) × ((ds : List Constant) × (cs ≡ c ∷ ds)))
      → (◌>>=◌ {B = List Constant × (Stmt × ℕ)} q (λ s. o >>= labels is_else >>= λ cs. some (cs, s)) >>= armed us more) ≡ none
  unfolding labels ◌>>=◌
  else-labels us none none h = refl
  else-labels us none (some s) h = refl
  else-labels us (some cs) none h = refl
  else-labels us (some cs) (some s) h = let x = h cs refl in rw x.1.1 refl

  else_is : (ps : List Item) → (arm_by r n is_else ps >>= armed T.end more) ≡ (one ps >>= r n >>= λ a. some (S.else_arm a.0, a.1))
  unfolding labels ending one each ◌>>=◌
  else_is [] = refl
  else_is (p ∷ []) = go (r n p)
    where
      go : (q : Option (Stmt × ℕ)) → (◌>>=◌ {B = List Constant × (Stmt × ℕ)} q (λ s. some ([], s)) >>= armed T.end more) ≡ (q >>= λ a. some (S.else_arm a.0, a.1))
      go none = refl
      go (some s) = refl
  else_is (p ∷ (q ∷ ps)) = go (ending (q ∷ ps))
    where
      there : (ls : List Item) (o : Option Constant) (m : Option (List Constant)) (cs : List Constant) → (o >>= λ c. m >>= λ cs. some (c ∷ cs)) ≡ some cs → (c : Constant) × ((ds : List Constant) × (cs ≡ c ∷ ds))
      there ls none m cs h = none-some h
      there ls (some c) none cs h = none-some h
      there ls (some c) (some ds) cs h = (c, (ds, sym (some_inj h)))

      go : (o : Option (List Item × Item))
          → (◌>>=◌ {B = List Constant × (Stmt × ℕ)} (◌>>=◌ {B = List Item × Item} o (λ x. some (p ∷ x.0, x.1))) (λ x. r n x.1 >>= λ s. each constant x.0 >>= labels is_else >>= λ cs. some (cs, s)) >>= armed T.end more) ≡ none
      go none = refl
      go (some x) = else-labels T.end (each constant (p ∷ x.0)) (r n x.1) (there x.0 (constant p) (each constant x.0))

  else-last : (u : Item) (us : Trees Word) (ps : List Item) → (arm_by r n is_else ps >>= armed (T.◌then◌ u us) more) ≡ none
  unfolding labels ◌>>=◌
  else-last u us ps = go (ending ps)
    where
      inner : (o : Option (List Constant)) (q : Option (Stmt × ℕ)) → (◌>>=◌ {B = List Constant × (Stmt × ℕ)} q (λ s. o >>= labels is_else >>= λ cs. some (cs, s)) >>= armed (T.◌then◌ u us) more) ≡ none
      inner none none = refl
      inner none (some s) = refl
      inner (some []) none = refl
      inner (some []) (some s) = refl
      inner (some (c ∷ cs)) none = refl
      inner (some (c ∷ cs)) (some s) = refl

      go : (o : Option (List Item × Item)) → (◌>>=◌ {B = List Constant × (Stmt × ℕ)} o (λ x. r n x.1 >>= λ s. each constant x.0 >>= labels is_else >>= λ cs. some (cs, s)) >>= armed (T.◌then◌ u us) more) ≡ none
      go none = refl
      go (some x) = inner (each constant x.0) (r n x.1)

abbrev arm_of : Reader → ℕ → Item → Option (List Constant × (Stmt × ℕ))
arm_of r n t = headed t >>= λ p. among arm_heads p.0 >>= λ h. arm_by r n h p.1

arms-is : (r : Reader) (n : ℕ) (t : Item) (us : Trees Word) → (arm_of r n t >>= armed us (λ m. ByDepth.arms r m (list us))) ≡ ByDepth.arms r n (t ∷ list us)
unfolding ◌>>=◌ list ByDepth.arms
arms-is r n t us = go (headed t)
  where
    by-head : (us : Trees Word) (h : ArmHead) (ps : List Item) → (arm_by r n h ps >>= armed us (λ m. ByDepth.arms r m (list us)))
        ≡ elim h as (λ x. Option (Arms × ℕ)) [
          | is_arm ↦ ByDepth.one_arm r n ps >>= λ a. ByDepth.arms r a.1.1 (list us) >>= λ bs. some (S.arm a.0 a.1.0 bs.0, bs.1)
          | is_else ↦ elim (list us) as (λ x. Option (Arms × ℕ)) [ [] ↦ one ps >>= r n >>= λ a. some (S.else_arm a.0, a.1) | v ∷ vs ↦ none ]
        ]
    by-head us is_arm ps = arm_is r n us (λ m. ByDepth.arms r m (list us)) ps
    by-head T.end is_else ps = else_is r n (λ m. ByDepth.arms r m []) ps
    by-head (T.◌then◌ v vs) is_else ps = else-last r n (λ m. ByDepth.arms r m (v ∷ list vs)) v vs ps

    found : (o : Option ArmHead) (ps : List Item) → (◌>>=◌ {B = List Constant × (Stmt × ℕ)} o (λ h. arm_by r n h ps) >>= armed us (λ m. ByDepth.arms r m (list us)))
        ≡ (o >>= λ h. elim h as (λ x. Option (Arms × ℕ)) [
          | is_arm ↦ ByDepth.one_arm r n ps >>= λ a. ByDepth.arms r a.1.1 (list us) >>= λ bs. some (S.arm a.0 a.1.0 bs.0, bs.1)
          | is_else ↦ elim (list us) as (λ x. Option (Arms × ℕ)) [ [] ↦ one ps >>= r n >>= λ a. some (S.else_arm a.0, a.1) | v ∷ vs ↦ none ]
        ])
    found none ps = refl
    found (some h) ps = by-head us h ps

    go : (o : Option (Name × List Item)) → (◌>>=◌ {B = List Constant × (Stmt × ℕ)} o (λ p. among arm_heads p.0 >>= λ h. arm_by r n h p.1) >>= armed us (λ m. ByDepth.arms r m (list us)))
        ≡ (o >>= λ p. among arm_heads p.0 >>= λ h. elim h as (λ x. Option (Arms × ℕ)) [
          | is_arm ↦ ByDepth.one_arm r n p.1 >>= λ a. ByDepth.arms r a.1.1 (list us) >>= λ bs. some (S.arm a.0 a.1.0 bs.0, bs.1)
          | is_else ↦ elim (list us) as (λ x. Option (Arms × ℕ)) [ [] ↦ one p.1 >>= r n >>= λ a. some (S.else_arm a.0, a.1) | v ∷ vs ↦ none ]
        ])
    go none = refl
    go (some p) = found (among arm_heads p.0) p.1

armed-ext : (us : Trees Word) {f g : ℕ → Option (Arms × ℕ)} → ((m : ℕ) → f m ≡ g m) → (p : List Constant × (Stmt × ℕ)) → armed us f p ≡ armed us g p
armed-ext us {f} {g} h p = go p.0
  where
    go : (cs : List Constant) → armed us f (cs, p.1) ≡ armed us g (cs, p.1)
    go [] = refl
    go (c ∷ cs) = ap {B = Option (Arms × ℕ)} (λ (o : Option (Arms × ℕ)). o >>= λ q. some (S.arm (c ∷ cs) p.1.0 q.0, q.1)) (h p.1.1)

-- ---- the recursion

last-is : (r : Reader) (n : ℕ) (t : Item) (us : Trees Word) (o : Option (Stmt × ℕ)) (q : Option (List Item × (Stmt × ℕ))) → o ≡ r n t → q ≡ ended r n (list us)
    → elim us as (λ x. Option (List Item × (Stmt × ℕ))) [ T.end ↦ o >>= λ s. some ([], s) | T.◌then◌ u vs ↦ q >>= λ p. some (t ∷ p.0, p.1) ] ≡ ended r n (t ∷ list us)
unfolding ending list ◌>>=◌
last-is r n t T.end o q h k = ap {B = Option (List Item × (Stmt × ℕ))} (λ (o : Option (Stmt × ℕ)). o >>= λ s. some ([], s)) h
last-is r n t (T.◌then◌ u vs) o q h k =
    ap {B = Option (List Item × (Stmt × ℕ))} (λ (q : Option (List Item × (Stmt × ℕ))). q >>= λ p. some (t ∷ p.0, p.1)) k
    ∙ ended-then r n (u ∷ list vs) (λ p. some (t ∷ p.0, p.1))
    ∙ sym (bind_assoc {B = List Item × Item} {C = List Item × (Stmt × ℕ)} (ending (u ∷ list vs)) (λ p. some (t ∷ p.0, p.1)) (λ p. r n p.1 >>= λ s. some (p.0, s)))

-- what the law reads of statement n behind each head word: what stands in `Law.stmt_form`
abbrev stmt-by : ℕ → Trees Word → Verb → Option (Stmt × ℕ)
stmt-by n us v = elim v [
  | v_assign ↦ two (list us) >>= λ p. Law.target p.0 >>= λ g. Law.expr p.1 >>= λ e. some (S.assign n g e, n)
  | v_begin ↦ Law.stmts n us >>= λ p. some (S.begin n p.0, p.1)
  | v_if ↦ Law.if_form n us
  | v_while ↦ Law.lastly n us >>= λ p. one p.0 >>= Law.expr >>= λ e. some (S.while n e p.1.0, p.1.1)
  | v_for ↦ Law.lastly n us >>= λ p. three p.0 >>= λ q. free q.0 >>= λ i. Law.expr q.1.0 >>= λ a. Law.expr q.1.1 >>= λ b.
      some (S.for n i a b p.1.0, p.1.1)
  | v_case ↦ Law.case_form n us
  | v_call ↦ some? (list us) >>= λ p. free p.0 >>= λ w. each Law.expr p.1 >>= λ es. some (S.call n w (exprs_of es), n)
  | v_raise ↦ one (list us) >>= Law.expr >>= λ e. some (S.raise n e, n)
]

mutual
  unfolding Law.stmt Law.stmt_form Law.stmts Law.lastly Law.if_form Law.case_form Law.arms Law.labelled Law.arm_form ByDepth.stmt ByDepth.stmt_form ByDepth.stmts ByDepth.arms ByDepth.if_form ByDepth.case_form ending headed first? list ◌>>=◌

  pub stmt-same : {k : ℕ} {t : Item} → Shallow k t → k ≤ 32 → (d : ℕ) → k < d → (n : ℕ) → Law.stmt n t ≡ ByDepth.stmt d n t
  stmt-same word b zero l n = absurd (omega arith)
  stmt-same word b (suc d) l n = refl
  stmt-same (form ts) b zero l n = absurd (omega arith)
  stmt-same (form ts) b (suc d) l n = stmt-form-same ts (omega arith) d (omega arith) (suc n)

  stmt-form-same : {k : ℕ} {ts : Trees Word} → ShallowAll k ts → k ≤ 32 → (d : ℕ) → k < d → (n : ℕ)
      → Law.stmt_form n ts ≡ (first? (list ts) >>= λ p. among verbs p.0 >>= λ v. ByDepth.stmt_form (ByDepth.stmt d) v n p.1)
  stmt-form-same end b d l n = refl
  stmt-form-same (◌then◌ {t = t} {ts = us} s ts) b d l n =
      head-bind (key_of t) (among verbs) (list us) (stmt-by n us) (λ v xs. ByDepth.stmt_form (ByDepth.stmt d) v n xs) λ v.
      elim v as (λ v. stmt-by n us v ≡ ByDepth.stmt_form (ByDepth.stmt d) v n (list us)) [
        | v_assign ↦ assign-is b (ByDepth.stmt d) n (listed-shallow ts)
        | v_begin ↦ ap {B = Option (Stmt × ℕ)} (λ (q : Option (Stmts × ℕ)). q >>= λ p. some (S.begin n p.0, p.1)) (stmts-same ts b d l n)
        | v_if ↦ if-same ts b d l n
        | v_while ↦ ap (λ (q : Option (List Item × (Stmt × ℕ))). q >>= whiles b (ByDepth.stmt d) n) (last-same ts b d l n) ∙ while-is b (ByDepth.stmt d) n (listed-shallow ts)
        | v_for ↦ ap (λ (q : Option (List Item × (Stmt × ℕ))). q >>= fors b (ByDepth.stmt d) n) (last-same ts b d l n) ∙ for-is b (ByDepth.stmt d) n (listed-shallow ts)
        | v_case ↦ case_same ts b d l n
        | v_call ↦ call-is b (ByDepth.stmt d) n (listed-shallow ts)
        | v_raise ↦ raise-is b (ByDepth.stmt d) n (listed-shallow ts)
      ]

  pub stmts-same : {k : ℕ} {ts : Trees Word} → ShallowAll k ts → k ≤ 32 → (d : ℕ) → k < d → (n : ℕ) → Law.stmts n ts ≡ ByDepth.stmts (ByDepth.stmt d) n (list ts)
  stmts-same end b d l n = refl
  stmts-same (◌then◌ {t = t} {ts = us} s ts) b d l n =
      ap {B = Option (Stmts × ℕ)} (λ (o : Option (Stmt × ℕ)). o >>= λ p. Law.stmts p.1 us >>= λ q. some (p.0 next q.0, q.1)) (stmt-same s b d l n)
      ∙ bind-ext (ByDepth.stmt d n t) λ p. ap {B = Option (Stmts × ℕ)} (λ (o : Option (Stmts × ℕ)). o >>= λ q. some (p.0 next q.0, q.1)) (stmts-same ts b d l p.1)

  last-same : {k : ℕ} {ts : Trees Word} → ShallowAll k ts → k ≤ 32 → (d : ℕ) → k < d → (n : ℕ) → Law.lastly n ts ≡ ended (ByDepth.stmt d) n (list ts)
  last-same end b d l n = refl
  last-same (◌then◌ {t = t} {ts = us} s ts) b d l n = last-is (ByDepth.stmt d) n t us (Law.stmt n t) (Law.lastly n us) (stmt-same s b d l n) (last-same ts b d l n)

  if-same : {k : ℕ} {ts : Trees Word} → ShallowAll k ts → k ≤ 32 → (d : ℕ) → k < d → (n : ℕ) → Law.if_form n ts ≡ ByDepth.if_form (ByDepth.stmt d) n (list ts)
  if-same end b d l n = refl
  if-same (◌then◌ {t = t} {ts = us} s ts) b d l n =
      ap {B = Option (Stmt × ℕ)} (λ (o : Option (Stmts × ℕ)). Law.expr t >>= λ e. o >>= λ p. branches p.0 >>= λ q. some (S.if_else n e q.0 q.1, p.1)) (stmts-same ts b d l n)
      ∙ if-is b (ByDepth.stmt d) n (list us) s

  case_same : {k : ℕ} {ts : Trees Word} → ShallowAll k ts → k ≤ 32 → (d : ℕ) → k < d → (n : ℕ) → Law.case_form n ts ≡ ByDepth.case_form (ByDepth.stmt d) n (list ts)
  case_same end b d l n = refl
  case_same (◌then◌ {t = t} {ts = us} s ts) b d l n =
      ap {B = Option (Stmt × ℕ)} (λ (o : Option (Arms × ℕ)). Law.expr t >>= λ e. o >>= λ p. arms_first p.0 >>= λ q. some (S.case n e q, p.1)) (arms_same ts b d l n)
      ∙ case-is b (ByDepth.stmt d) n (list us) s

  arms_same : {k : ℕ} {ts : Trees Word} → ShallowAll k ts → k ≤ 32 → (d : ℕ) → k < d → (n : ℕ) → Law.arms n ts ≡ ByDepth.arms (ByDepth.stmt d) n (list ts)
  arms_same end b d l n = refl
  arms_same (◌then◌ {t = t} {ts = us} s ts) b d l n =
      ap (λ (o : Option (List Constant × (Stmt × ℕ))). o >>= armed us (λ m. Law.arms m us)) (labelled-same s b d l n)
      ∙ bind-ext (arm_of (ByDepth.stmt d) n t) (λ p. armed-ext us (λ m. arms_same ts b d l m) p)
      ∙ arms-is (ByDepth.stmt d) n t us

  labelled-same : {k : ℕ} {t : Item} → Shallow k t → k ≤ 32 → (d : ℕ) → k < d → (n : ℕ) → Law.labelled n t ≡ arm_of (ByDepth.stmt d) n t
  labelled-same word b d l n = refl
  labelled-same (form ts) b d l n = arm-form-same ts (omega arith) d (omega arith) n

  arm-form-same : {k : ℕ} {ts : Trees Word} → ShallowAll k ts → k ≤ 32 → (d : ℕ) → k < d → (n : ℕ)
      → Law.arm_form n ts ≡ (first? (list ts) >>= λ p. among arm_heads p.0 >>= λ h. arm_by (ByDepth.stmt d) n h p.1)
  arm-form-same end b d l n = refl
  arm-form-same (◌then◌ {t = t} {ts = us} s ts) b d l n =
      head-bind (key_of t) (among arm_heads) (list us) _ (λ h xs. arm_by (ByDepth.stmt d) n h xs) λ h.
      ap (λ (q : Option (List Item × (Stmt × ℕ))). q >>= λ p. each constant p.0 >>= labels h >>= λ cs. some (cs, p.1)) (last-same ts b d l n)
      ∙ ended-then (ByDepth.stmt d) n (list us) (λ p. each constant p.0 >>= labels h >>= λ cs. some (cs, p.1))

-- ---- bodies and lines

-- a handler, if there is one, or what follows
abbrev body_by : {H : Type 0} → List Item → Option H → (H → Option (Stmts × ℕ)) → Option (S.Body × ℕ) → Option (S.Body × ℕ)
body_by xs o f x = elim o [
  | some hs ↦ elim xs [ u ∷ us ↦ none | [] ↦ f hs >>= λ p. some (record { stmts = done; handles = true; handler = p.0 }, p.1) ]
  | none ↦ x
]

body_is : {k : ℕ} {t : Item} → Shallow k t → k ≤ 32 → (xs : List Item) (n : ℕ) (x y : Option (S.Body × ℕ)) → x ≡ y
    → body_by xs (Law.handler_of t) (λ hs. Law.stmts n hs) x ≡ body_by xs (ByDepth.handler_of t) (λ hs. ByDepth.stmts (ByDepth.stmt 33) n hs) y
unfolding Law.handler_of ByDepth.handler_of headed first? list given ◌>>=◌
body_is word b xs n x y h = h
body_is (form end) b xs n x y h = h
body_is (form (◌then◌ {t = u} {ts = us} s ts)) b xs n x y h = go (key_of u)
  where
    last : (xs : List Item) → body_by xs (some us) (λ hs. Law.stmts n hs) x ≡ body_by xs (some (list us)) (λ hs. ByDepth.stmts (ByDepth.stmt 33) n hs) y
    last [] = ap {B = Option (S.Body × ℕ)} (λ (q : Option (Stmts × ℕ)). q >>= λ p. some (record { stmts = done; handles = true; handler = p.0 }, p.1)) (stmts-same ts (omega arith) 33 (omega arith) n)
    last (v ∷ vs) = refl

    tested : (c : Bool) → body_by xs (given c us) (λ hs. Law.stmts n hs) x ≡ body_by xs (given c (list us)) (λ hs. ByDepth.stmts (ByDepth.stmt 33) n hs) y
    tested true = last xs
    tested false = h

    go : (o : Option Name) → body_by xs (o >>= λ w. given (same (bytes "exception") w) us) (λ hs. Law.stmts n hs) x
        ≡ body_by xs (◌>>=◌ {B = Name × List Item} o (λ w. some (w, list us)) >>= λ p. given (same (bytes "exception") p.0) p.1) (λ hs. ByDepth.stmts (ByDepth.stmt 33) n hs) y
    go none = h
    go (some w) = tested (same (bytes "exception") w)

body_same : {xs : List Item} → Shallows 32 xs → (n : ℕ) → Law.body n xs ≡ ByDepth.body n xs
unfolding Law.body ByDepth.body
body_same Depth.none n = refl
body_same (Depth.more {t = t} {ts = xs} s ss) n = body_is s (omega arith) xs n _ _
    (ap {B = Option (S.Body × ℕ)} (λ (o : Option (Stmt × ℕ)). o >>= λ p. Law.body p.1 xs >>= λ q. some (record { stmts = p.0 next q.0.stmts; handles = q.0.handles; handler = q.0.handler }, q.1)) (stmt-same s (omega arith) 33 (omega arith) n)
    ∙ bind-ext (ByDepth.stmt 33 n t) λ p. ap {B = Option (S.Body × ℕ)} (λ (o : Option (S.Body × ℕ)). o >>= λ q. some (record { stmts = p.0 next q.0.stmts; handles = q.0.handles; handler = q.0.handler }, q.1)) (body_same ss p.1))

proc-same : (w : Name) (n : ℕ) {xs : List Item} → Shallows 32 xs → ◌≡◌ {A = Option (LineForm × ℕ)} (parameters xs >>= λ q. Law.body n q.1 >>= λ p. some (S.proc_line w q.0 p.0, p.1)) (parameters xs >>= λ q. ByDepth.body n q.1 >>= λ p. some (S.proc_line w q.0 p.0, p.1))
unfolding parameters ◌>>=◌
proc-same w n Depth.none = ap {B = Option (LineForm × ℕ)} (λ (o : Option (S.Body × ℕ)). o >>= λ p. some (S.proc_line w [] p.0, p.1)) (body_same Depth.none n)
proc-same w n (Depth.more {t = t} {ts = xs} s ss) = go (pairs_of t)
  where
    after : (ps : List (Name × S.TypeName)) {ys : List Item} → Shallows 32 ys → ◌≡◌ {A = Option (LineForm × ℕ)} (Law.body n ys >>= λ p. some (S.proc_line w ps p.0, p.1)) (ByDepth.body n ys >>= λ p. some (S.proc_line w ps p.0, p.1))
    after ps ss = ap {B = Option (LineForm × ℕ)} (λ (o : Option (S.Body × ℕ)). o >>= λ p. some (S.proc_line w ps p.0, p.1)) (body_same ss n)

    listed : (o : Option (List (Name × S.TypeName)))
        → ◌≡◌ {A = Option (LineForm × ℕ)} (◌>>=◌ {B = List (Name × S.TypeName) × List Item} o (λ fs. some (fs, xs)) >>= λ q. Law.body n q.1 >>= λ p. some (S.proc_line w q.0 p.0, p.1))
        (◌>>=◌ {B = List (Name × S.TypeName) × List Item} o (λ fs. some (fs, xs)) >>= λ q. ByDepth.body n q.1 >>= λ p. some (S.proc_line w q.0 p.0, p.1))
    listed none = refl
    listed (some fs) = after fs ss

    go : (o : Option (List Item))
        → ◌≡◌ {A = Option (LineForm × ℕ)} (◌>>=◌ {A = List (Name × S.TypeName) × List Item} (elim o [ none ↦ some ([], t ∷ xs) | some ps ↦ each field ps >>= λ fs. some (fs, xs) ]) λ q. Law.body n q.1 >>= λ p. some (S.proc_line w q.0 p.0, p.1))
        (◌>>=◌ {A = List (Name × S.TypeName) × List Item} (elim o [ none ↦ some ([], t ∷ xs) | some ps ↦ each field ps >>= λ fs. some (fs, xs) ]) λ q. ByDepth.body n q.1 >>= λ p. some (S.proc_line w q.0 p.0, p.1))
    go none = after [] (Depth.more s ss)
    go (some ps) = listed (each field ps)

head-same : (h : LineHead) (n : ℕ) {xs : List Item} → Shallows 32 xs → Law.line_by h n xs ≡ ByDepth.line_by h n xs
unfolding Law.line_by ByDepth.line_by
head-same is_type n ss = refl
head-same is_var n ss = refl
head-same is_proc n Depth.none = refl
head-same is_proc n (Depth.more {t = t} s ss) = bind-ext (free t) λ w. proc-same w n ss
head-same is_main n ss = ap {B = Option (LineForm × ℕ)} (λ (o : Option (S.Body × ℕ)). o >>= λ p. some (S.main_line p.0, p.1)) (body_same ss n)

-- row 6 of a line
pub line_same : (l : Line) (t : Tree Run) (v : Item) → form_of l ≡ some t → worded t ≡ some v → (n : ℕ) → Law.line_form n v ≡ ByDepth.line_form n v
unfolding Law.line_form ByDepth.line_form ◌>>=◌
line_same l t v h k n = go (headed v) λ p e. headed-shallow (worded-shallow (form-depth l t h) v k) e
  where
    go : (o : Option (Name × List Item)) → ((p : Name × List Item) → o ≡ some p → Shallows 32 p.1)
        → (o >>= λ p. among line_heads p.0 >>= λ h. Law.line_by h n p.1) ≡ (o >>= λ p. among line_heads p.0 >>= λ h. ByDepth.line_by h n p.1)
    go none f = refl
    go (some p) f = bind-ext (among line_heads p.0) λ h. head-same h n (f p refl)
