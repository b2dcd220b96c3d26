-- Statement heads in forms whose words are read (law, Forms): what is no statement holds none, and a statement's reader counts each of them.
use mathlib.Core.Path.{◌≡◌, refl, sym, ap, ◌∙◌}
use mathlib.Core.Bool.{Bool, true, false, ◌&&◌}
use mathlib.Core.List.{List, [], ◌∷◌}
use mathlib.Core.Option.{Option, none, some}
use Prim.Native.Nat.{ℕ, zero, suc, ◌+◌}
use Prim.Native.String.{String}
use native.Mathlib.Omega.{arith}
use lib.IntN.{ℤ}
use Rattle.leaf_bytes.proofs.Same.{same-equal}
use Rattle.leaf_bytes.specs.Bytes.{bytes, same}
use Rattle.law.specs.Base.{Name, ◌>>=◌, each, either}
use Rattle.law.specs.Forms.{ArmHead, Head, Item, Verb, among, arm_heads, constant, first?, free, h_at, h_bound, h_dot, h_fun, h_lazy, h_members, h_minus, h_op, headed, heads, is_arm, is_else, is_number, key_of, minus_number, one, two, type_name, v_assign, v_begin, v_call, v_case, v_for, v_if, v_raise, v_while}
use Rattle.law_theorems.specs.FormsByDepth.{Reader, arms, at_form, case_form, dot_form, else_of, ending, expr, expr_form, for_form, if_form, one_arm, one_sided, stmt, stmt_form, stmts, target, target_form, two_sided}
use Rattle.law.specs.Forms as Forms
use Rattle.law.specs.Operators.{Fun}
use Rattle.law.specs.Syntax as S
use Rattle.law.specs.Trees.{word, form, Trees, end, ◌then◌, list}
use Rattle.law.specs.Words.{Word}
use Rattle.law_theorems.proofs.Inversion.{none-some, some_inj, bind-some, either-some, and-true}

pub bind-of : {A B : Type 0} (o : Option A) (a : A) (f : A → Option B) → o ≡ some a → (o >>= f) ≡ f a
unfolding ◌>>=◌
bind-of o a f h = rw h refl

-- ---- no word of one table is in another

abbrev missing : {A : Type 0} → Option A → Bool
missing none = true
missing (some a) = false

unfoldable apart : {A B : Type 0} → List (String × A) → List (String × B) → Bool
apart [] qs = true
apart (p ∷ ps) qs = missing (among qs (bytes p.0)) && apart ps qs

is-missing : {A : Type 0} (o : Option A) → missing o ≡ true → o ≡ none
is-missing none h = refl
is-missing (some a) h = absurd (let z : ◌≡◌ {A = ℕ} 0 1 = cc in omega arith)

among-apart : {A B : Type 0} (ps : List (String × A)) (qs : List (String × B)) (w : Name) (a : A) → apart ps qs ≡ true → among ps w ≡ some a → among qs w ≡ none
unfolding apart among
among-apart [] qs w a h e = none-some e
among-apart {A} (p ∷ ps) qs w a h e = go (λ f. among-apart ps qs w a split.1 f) (same (bytes p.0) w) refl e
  where
    split : (missing (among qs (bytes p.0)) ≡ true) × (apart ps qs ≡ true)
    split = and-true (missing (among qs (bytes p.0))) (apart ps qs) h

    go : (among ps w ≡ some a → among qs w ≡ none) → (t : Bool) → same (bytes p.0) w ≡ t → elim t [ true ↦ some p.1 | false ↦ among ps w ] ≡ some a → among qs w ≡ none
    go again true f g = ap (λ (v : Name). among qs v) (sym (same-equal (bytes p.0) w f)) ∙ is-missing (among qs (bytes p.0)) split.0
    go again false f g = again g

-- an expression's head, and an arm's, is no statement's
head_apart : (w : Name) (h : Head) → among heads w ≡ some h → among Forms.verbs w ≡ none
unfolding apart among heads Forms.verbs same bytes
head_apart w h e = among-apart heads Forms.verbs w h refl e

pub arm_apart : (w : Name) (h : ArmHead) → among arm_heads w ≡ some h → among Forms.verbs w ≡ none
unfolding apart among arm_heads Forms.verbs same bytes
arm_apart w h e = among-apart arm_heads Forms.verbs w h refl e

-- nor is a word that the table of statements' heads has not
word-apart : (v : String) → missing (among Forms.verbs (bytes v)) ≡ true → (w : Name) → same (bytes v) w ≡ true → among Forms.verbs w ≡ none
word-apart v h w e = ap (λ (x : Name). among Forms.verbs x) (sym (same-equal (bytes v) w e)) ∙ is-missing (among Forms.verbs (bytes v)) h

minus-missing : missing (among Forms.verbs (bytes "-")) ≡ true
unfolding among Forms.verbs same bytes
minus-missing = refl

at-missing : missing (among Forms.verbs (bytes "at")) ≡ true
unfolding among Forms.verbs same bytes
at-missing = refl

dot-missing : missing (among Forms.verbs (bytes "dot")) ≡ true
unfolding among Forms.verbs same bytes
dot-missing = refl

exception-missing : missing (among Forms.verbs (bytes "exception")) ≡ true
unfolding among Forms.verbs same bytes
exception-missing = refl

pub exception-apart : (w : Name) → same (bytes "exception") w ≡ true → among Forms.verbs w ≡ none
exception-apart w e = word-apart "exception" exception-missing w e

-- ---- the statement heads in a form whose words are read

abbrev pub counted : Option Verb → ℕ
counted none = 0
counted (some v) = 1

unfoldable pub head_item : Trees Word → ℕ
head_item end = 0
head_item (t then ts) = counted (key_of t >>= among Forms.verbs)

unfoldable mutual
  pub verbs_item : Item → ℕ
  verbs_item (word w) = 0
  verbs_item (form ts) = head_item ts + verbs_items ts

  pub verbs_items : Trees Word → ℕ
  verbs_items end = 0
  verbs_items (t then ts) = verbs_item t + verbs_items ts

unfoldable weigh : List Item → ℕ
weigh [] = 0
weigh (t ∷ ts) = verbs_item t + weigh ts

weigh-list : (ts : Trees Word) → weigh (list ts) ≡ verbs_items ts
unfolding weigh list verbs_item
weigh-list end = refl
weigh-list (t then ts) = rw (weigh-list ts)

weigh-one : {a : Item} (ts : List Item) → one ts ≡ some a → weigh ts ≡ verbs_item a
unfolding one weigh
weigh-one {a} [] h = none-some h
weigh-one {a} (t ∷ []) h = rw (some_inj h) (omega arith)
weigh-one {a} (t ∷ (u ∷ ts)) h = none-some h

weigh-two : {p : Item × Item} (ts : List Item) → two ts ≡ some p → weigh ts ≡ verbs_item p.0 + verbs_item p.1
unfolding two weigh
weigh-two [] h = none-some h
weigh-two (t ∷ ts) h = bind-some h λ u hu e. rw (← some_inj e, weigh-one ts hu)

weigh-ending : {p : List Item × Item} (ts : List Item) → ending ts ≡ some p → weigh ts ≡ weigh p.0 + verbs_item p.1
unfolding ending weigh
weigh-ending [] h = none-some h
weigh-ending (t ∷ []) h = rw (← some_inj h) (omega arith)
weigh-ending (t ∷ (u ∷ ts)) h = bind-some h λ q hq e. let i = weigh-ending (u ∷ ts) hq in rw (← some_inj e) (omega arith)

weigh-each : {A : Type 0} (f : Item → Option A) → ((t : Item) (a : A) → f t ≡ some a → verbs_item t ≡ 0) → (ts : List Item) (as' : List A) → each f ts ≡ some as' → weigh ts ≡ 0
unfolding each weigh
weigh-each f hf [] as' h = refl
weigh-each f hf (t ∷ ts) as' h = bind-some h λ a ha h. bind-some h λ bs hbs e. let i = hf t a ha in let j = weigh-each f hf ts bs hbs in omega arith

-- a form's head and the other parts
weigh-first : {p : Name × List Item} (ts : Trees Word) → first? (list ts) ≡ some p → verbs_item (form ts) ≡ counted (among Forms.verbs p.0) + weigh p.1
unfolding first? list verbs_item head_item key_of
weigh-first end h = none-some h
weigh-first (word v then ts) h = bind-some h λ w hw e.
    let i = weigh-list ts in
    let j : counted (key_of (word v) >>= among Forms.verbs) ≡ counted (among Forms.verbs w) = ap counted (bind-of (key_of (word v)) w (among Forms.verbs) hw) in
    rw (← some_inj e) (omega arith)
weigh-first (form us then ts) h = bind-some h λ w hw e. none-some hw

weigh-headed : {p : Name × List Item} (t : Item) → headed t ≡ some p → verbs_item t ≡ counted (among Forms.verbs p.0) + weigh p.1
unfolding headed
weigh-headed (word w) h = none-some h
weigh-headed (form ts) h = weigh-first ts h

-- a form whose head is no statement's
headless : {p : Name × List Item} (t : Item) → headed t ≡ some p → among Forms.verbs p.0 ≡ none → verbs_item t ≡ weigh p.1
headless {p} t h e = let a = weigh-headed t h in let b : counted (among Forms.verbs p.0) ≡ 0 = ap counted e in omega arith

-- ---- names, numbers, constants

pub free-none : (t : Item) (w : Name) → free t ≡ some w → verbs_item t ≡ 0
unfolding free verbs_item
free-none (word v) w h = refl
free-none (form ts) w h = none-some h

pub number-none : (t : Item) (z : ℤ) → is_number t ≡ some z → verbs_item t ≡ 0
unfolding is_number verbs_item
number-none (word v) z h = refl
number-none (form ts) z h = none-some h

pub type-none : (t : Item) (n : S.TypeName) → type_name t ≡ some n → verbs_item t ≡ 0
unfolding type_name free key_of either verbs_item ◌>>=◌
type-none (word v) n h = refl
type-none (form ts) n h = none-some h

minus-none : (t : Item) (p : Name × List Item) (c : S.Constant) → headed t ≡ some p → minus_number p ≡ some c → verbs_item t ≡ 0
unfolding minus_number
minus-none t p c h e = go (same (bytes "-") p.0) refl e
  where
    go : (b : Bool) → same (bytes "-") p.0 ≡ b → elim b [ false ↦ none | true ↦ one p.1 >>= is_number >>= λ (z : ℤ). some (S.minus z) ] ≡ some c → verbs_item t ≡ 0
    go true f g = bind-some g λ z hz _. bind-some hz λ u hu hz. headless t h (word-apart "-" minus-missing p.0 f) ∙ weigh-one p.1 hu ∙ number-none u z hz
    go false f g = none-some g

pub constant-none : (t : Item) (c : S.Constant) → constant t ≡ some c → verbs_item t ≡ 0
unfolding constant is_number free key_of either verbs_item ◌>>=◌
constant-none (word v) c h = refl
constant-none (form ts) c h = bind-some h λ p hp e. minus-none (form ts) p c hp e

-- ---- expressions and targets

module _ (E : Item → Option S.Expr) (G : Item → Option S.Target)
    (h_e : (t : Item) (e : S.Expr) → E t ≡ some e → verbs_item t ≡ 0) (h_g : (t : Item) (g : S.Target) → G t ≡ some g → verbs_item t ≡ 0) where
  at_none : (ts : List Item) (g : S.Target) → at_form E G ts ≡ some g → weigh ts ≡ 0
  unfolding at_form
  at_none ts g h = bind-some h λ p hp h. bind-some h λ u hu h. bind-some h λ e he _.
      let a = weigh-two ts hp in let b = h_g p.0 u hu in let c = h_e p.1 e he in omega arith

  dot-none : (ts : List Item) (g : S.Target) → dot_form E G ts ≡ some g → weigh ts ≡ 0
  unfolding dot_form
  dot-none ts g h = bind-some h λ p hp h. bind-some h λ u hu h. bind-some h λ n hn _.
      let a = weigh-two ts hp in let b = h_g p.0 u hu in let c = free-none p.1 n hn in omega arith

  two_none : (f : S.Expr → S.Expr → S.Expr) (ts : List Item) (x : S.Expr) → two_sided E G f ts ≡ some x → weigh ts ≡ 0
  unfolding two_sided
  two_none f ts x h = bind-some h λ p hp h. bind-some h λ a ha h. bind-some h λ b hb _.
      let i = weigh-two ts hp in let j = h_e p.0 a ha in let k = h_e p.1 b hb in omega arith

  one_none : (f : Fun) (ts : List Item) (x : S.Expr) → one_sided E G f ts ≡ some x → weigh ts ≡ 0
  unfolding one_sided
  one_none f ts x h = bind-some h λ a ha _. bind-some ha λ u hu ha. weigh-one ts hu ∙ h_e u a ha

  form-none : (k : Head) (ts : List Item) (x : S.Expr) → expr_form E G k ts ≡ some x → weigh ts ≡ 0
  unfolding expr_form weigh
  form-none h_at ts x h = bind-some h λ g hg _. at_none ts g hg
  form-none h_dot ts x h = bind-some h λ g hg _. dot-none ts g hg
  form-none h_members [] x h = none-some h
  form-none h_members (t ∷ ts) x h = bind-some h λ n hn h. bind-some h λ es hes _.
      let a = type-none t n hn in let b = weigh-each E h_e ts es hes in omega arith
  form-none h_minus ts x h =
      either-some h (λ h. bind-some h λ z hz _. bind-some hz λ u hu hz. weigh-one ts hu ∙ number-none u z hz)
      (λ h. either-some h (λ h. one_none _ ts x h) (λ h. two_none _ ts x h))
  form-none (h_bound b) ts x h = bind-some h λ n hn _. bind-some hn λ u hu hn. weigh-one ts hu ∙ type-none u n hn
  form-none (h_lazy q) ts x h = two_none _ ts x h
  form-none (h_op o) ts x h = two_none _ ts x h
  form-none (h_fun f) ts x h = one_none f ts x h

  reach-none : (t : Item) (p : Name × List Item) (g : S.Target) → headed t ≡ some p → target_form E G p ≡ some g → verbs_item t ≡ 0
  unfolding target_form
  reach-none t p g h e = go (same (bytes "at") p.0) (same (bytes "dot") p.0) refl refl e
    where
      go : (a b : Bool) → same (bytes "at") p.0 ≡ a → same (bytes "dot") p.0 ≡ b
          → elim a [ true ↦ at_form E G p.1 | false ↦ elim b [ true ↦ dot_form E G p.1 | false ↦ none ] ] ≡ some g → verbs_item t ≡ 0
      go true b f f' k = headless t h (word-apart "at" at-missing p.0 f) ∙ at_none p.1 g k
      go false true f f' k = headless t h (word-apart "dot" dot-missing p.0 f') ∙ dot-none p.1 g k
      go false false f f' k = none-some k

-- no statement's head is in an expression or a target
module _ (d : ℕ) (h_e : (t : Item) (x : S.Expr) → expr d t ≡ some x → verbs_item t ≡ 0) (h_g : (t : Item) (g : S.Target) → target d t ≡ some g → verbs_item t ≡ 0) where
  deeper-expr : (t : Item) (x : S.Expr) → expr (suc d) t ≡ some x → verbs_item t ≡ 0
  unfolding expr headed verbs_item
  deeper-expr (word w) x h = refl
  deeper-expr (form ts) x h = bind-some h λ p hp h. bind-some h λ k hk h.
      headless (form ts) hp (head_apart p.0 k hk) ∙ form-none (λ (t : Item). expr d t) (λ (t : Item). target d t) h_e h_g k p.1 x h

  deeper-target : (t : Item) (g : S.Target) → target (suc d) t ≡ some g → verbs_item t ≡ 0
  unfolding expr headed verbs_item
  deeper-target (word w) g h = refl
  deeper-target (form ts) g h = bind-some h λ p hp h. reach-none (λ (t : Item). expr d t) (λ (t : Item). target d t) h_e h_g (form ts) p g hp h

both-none : (d : ℕ) → ((t : Item) (x : S.Expr) → expr d t ≡ some x → verbs_item t ≡ 0) × ((t : Item) (g : S.Target) → target d t ≡ some g → verbs_item t ≡ 0)
unfolding expr
both-none zero = ((λ t x h. none-some h), (λ t g h. none-some h))
both-none (suc d) = (deeper-expr d (both-none d).0 (both-none d).1, deeper-target d (both-none d).0 (both-none d).1)

pub expr-none : (d : ℕ) (t : Item) (x : S.Expr) → expr d t ≡ some x → verbs_item t ≡ 0
expr-none d = (both-none d).0

pub target_none : (d : ℕ) (t : Item) (g : S.Target) → target d t ≡ some g → verbs_item t ≡ 0
target_none d = (both-none d).1

-- ---- statements: from a number to the next

module _ (r : Reader) (hr : (n : ℕ) (t : Item) (p : S.Stmt × ℕ) → r n t ≡ some p → p.1 ≡ n + verbs_item t) where
  stmts-next : (n : ℕ) (ts : List Item) (p : S.Stmts × ℕ) → stmts r n ts ≡ some p → p.1 ≡ n + weigh ts
  unfolding stmts weigh
  stmts-next n [] p h = rw (← some_inj h) (omega arith)
  stmts-next n (t ∷ ts) p h = bind-some h λ a ha h. bind-some h λ b hb e.
      let i = hr n t a ha in let j = stmts-next a.1 ts b hb in rw (← some_inj e) (omega arith)

  arm-next : (n : ℕ) (ts : List Item) (p : List S.Constant × (S.Stmt × ℕ)) → one_arm r n ts ≡ some p → p.1.1 ≡ n + weigh ts
  unfolding one_arm
  arm-next n ts p h = bind-some h λ q hq h. bind-some h λ cs hcs h. bind-some hcs λ ls hls _. bind-some h λ a ha e.
      let i = hr n q.1 a ha in let j = weigh-ending ts hq in let k = weigh-each constant constant-none q.0 ls hls in rw (← some_inj e) (omega arith)

  arms_next : (n : ℕ) (ts : List Item) (p : S.Arms × ℕ) → arms r n ts ≡ some p → p.1 ≡ n + weigh ts
  unfolding arms weigh
  arms_next n [] p h = rw (← some_inj h) (omega arith)
  arms_next n (t ∷ ts) p h = bind-some h λ q hq h. bind-some h λ a ha h. by-head a ts q (headless t hq (arm_apart q.0 a ha)) h (λ m b hb. arms_next m ts b hb)
    where
      by-head : (a : ArmHead) (ts : List Item) (q : Name × List Item) → verbs_item t ≡ weigh q.1
          → elim a [
            | is_arm ↦ one_arm r n q.1 >>= λ a. arms r a.1.1 ts >>= λ bs. some (S.arm a.0 a.1.0 bs.0, bs.1)
            | is_else ↦ elim ts [ [] ↦ one q.1 >>= r n >>= λ a. some (S.else_arm a.0, a.1) | u ∷ us ↦ none ]
          ] ≡ some p
          → ((m : ℕ) (b : S.Arms × ℕ) → arms r m ts ≡ some b → b.1 ≡ m + weigh ts) → p.1 ≡ n + (verbs_item t + weigh ts)
      by-head is_arm ts q w h k = bind-some h λ a ha h. bind-some h λ b hb e.
          let i = arm-next n q.1 a ha in let j = k a.1.1 b hb in rw (← some_inj e) (omega arith)
      by-head is_else [] q w h k = bind-some h λ a ha e. bind-some ha λ u hu ha.
          let i = hr n u a ha in let v = weigh-one q.1 hu in rw (← some_inj e) (omega arith)
      by-head is_else (u ∷ us) q w h k = none-some h

  else-next : (n : ℕ) (ts : List Item) (p : S.Stmt × ℕ) → else_of r n ts ≡ some p → p.1 ≡ n + weigh ts
  unfolding else_of weigh
  else-next n [] p h = rw (← some_inj h) (omega arith)
  else-next n (t ∷ ts) p h = bind-some h λ u hu h. let i = hr n u p h in let w : weigh (t ∷ ts) ≡ verbs_item u = weigh-one (t ∷ ts) hu in omega arith

  if-next : (n : ℕ) (ts : List Item) (p : S.Stmt × ℕ) → if_form r n ts ≡ some p → p.1 ≡ n + weigh ts
  unfolding if_form weigh
  if-next n [] p h = none-some h
  if-next n (t ∷ []) p h = none-some h
  if-next n (t ∷ (u ∷ ts)) p h = bind-some h λ x hx h. bind-some h λ a ha h. bind-some h λ b hb e.
      let i = expr-none 33 t x hx in let j = hr n u a ha in let k = else-next a.1 ts b hb in rw (← some_inj e) (omega arith)

  for-next : (n : ℕ) (ts : List Item) (p : S.Stmt × ℕ) → for_form r n ts ≡ some p → p.1 ≡ n + weigh ts
  unfolding for_form weigh
  for-next n [] p h = none-some h
  for-next n (v ∷ []) p h = none-some h
  for-next n (v ∷ (t ∷ ts)) p h = bind-some h λ w hw h. bind-some h λ a ha h. bind-some h λ q hq h. bind-some h λ b hb h. bind-some h λ c hc e.
      let i = free-none v w hw in let j = expr-none 33 t a ha in let k = weigh-two ts hq in let l = expr-none 33 q.0 b hb in let m = hr n q.1 c hc in
      rw (← some_inj e) (omega arith)

  case-next : (n : ℕ) (ts : List Item) (p : S.Stmt × ℕ) → case_form r n ts ≡ some p → p.1 ≡ n + weigh ts
  unfolding case_form weigh
  case-next n [] p h = none-some h
  case-next n (t ∷ ts) p h = bind-some h λ x hx h. bind-some h λ a ha h. bind-some h λ b hb e.
      let i = expr-none 33 t x hx in let j = arms_next n ts a ha in rw (← some_inj e) (omega arith)

  call_next : (n : ℕ) (ts : List Item) (p : S.Stmt × ℕ) → stmt_form r v_call n ts ≡ some p → p.1 ≡ n + weigh ts
  unfolding stmt_form weigh
  call_next n [] p h = none-some h
  call_next n (t ∷ ts) p h = bind-some h λ w hw h. bind-some h λ es he e.
      let i = free-none t w hw in let j = weigh-each (expr 33) (expr-none 33) ts es he in rw (← some_inj e) (omega arith)

  form-next : (v : Verb) (n : ℕ) (ts : List Item) (p : S.Stmt × ℕ) → stmt_form r v n ts ≡ some p → p.1 ≡ n + weigh ts
  unfolding stmt_form
  form-next v_assign n ts p h = bind-some h λ q hq h. bind-some h λ g hg h. bind-some h λ x hx e.
      let i = weigh-two ts hq in let j = target_none 33 q.0 g hg in let k = expr-none 33 q.1 x hx in rw (← some_inj e) (omega arith)
  form-next v_begin n ts p h = bind-some h λ a ha e. rw (← some_inj e) (stmts-next n ts a ha)
  form-next v_if n ts p h = if-next n ts p h
  form-next v_while n ts p h = bind-some h λ q hq h. bind-some h λ x hx h. bind-some h λ a ha e.
      let i = weigh-two ts hq in let j = expr-none 33 q.0 x hx in let k = hr n q.1 a ha in rw (← some_inj e) (omega arith)
  form-next v_for n ts p h = for-next n ts p h
  form-next v_case n ts p h = case-next n ts p h
  form-next v_call n ts p h = call_next n ts p h
  form-next v_raise n ts p h = bind-some h λ x hx e. bind-some hx λ u hu hx.
      let i = weigh-one ts hu in let j = expr-none 33 u x hx in rw (← some_inj e) (omega arith)

pub stmt-next : (d n : ℕ) (t : Item) (p : S.Stmt × ℕ) → stmt d n t ≡ some p → p.1 ≡ n + verbs_item t
unfolding stmt
stmt-next zero n t p h = none-some h
stmt-next (suc d) n t p h = bind-some h λ q hq h. bind-some h λ v hv h.
    let i = form-next (stmt d) (stmt-next d) v (suc n) q.1 p h in
    let w : verbs_item t ≡ 1 + weigh q.1 = weigh-headed t hq ∙ ap (λ (o : Option Verb). counted o + weigh q.1) hv in
    omega arith
