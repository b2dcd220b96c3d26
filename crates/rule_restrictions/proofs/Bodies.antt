-- The rules of a body, part by part.
use mathlib.Core.Path.{◌≡◌, refl, sym, ap, ◌∙◌}
use mathlib.Core.Bool.{Bool, true, false, ◌&&◌}
use mathlib.Core.List.{List, []}
use mathlib.Core.Option.{Option, none, some}
use Prim.Native.Nat.{ℕ, ◌<◌}
use native.Mathlib.Omega.{arith}
use Rattle.leaf_words.specs.Words.{word_of}
use Rattle.law.specs.Base.{◌>>=◌, given}
use Rattle.law.specs.Environment.{Environment}
use Rattle.law.specs.Forms.{plain_body}
use Rattle.law.specs.Names.{stmt_of, stmts_of, body_of}
use Rattle.law.specs.Rules.{kept_stmt, kept_stmts, kept_body}
use Rattle.law.specs.Script as Script
use Rattle.law.specs.Syntax as Syntax
use Rattle.law.specs.Trees.{Tree, word, form, Trees, end, ◌then◌, Run, first, later}
use Rattle.law_theorems.specs.Readings.{stack_at}
use Rattle.law_theorems.proofs.Inversion.{none-some, some_inj, bind-some}
use Rattle.text_heads.specs.Heads.{is_exception}
use Rattle.text_heads.specs.Parts.{part_of, stmt_in, stmts_in, body_in, handler_in, handler_last, handling, with_first}
use Rattle.text_parts.specs.Parts.{ShutAt}
use Rattle.text_skips.specs.Skips.{Skips}
use Rattle.table_scope.specs.declared.Scope.{Scope}
use Rattle.table_scope.specs.declared.Loops.{Loops}
use Rattle.table_scope.specs.Loops.{no_loops}
use Rattle.table_scope.proofs.Looping.{in-force-none}
use Rattle.rule_stmt_nodes.specs.declared.last.Next.{Next}
use Rattle.rule_stmt_nodes.specs.declared.last.Next.TheVariants as following
use Rattle.rule_stmt_nodes.specs.Handlers.{HandlerAt, PlainAt, Comes}
use Rattle.rule_statements.specs.Chains.{many}
use Rattle.rule_restrictions.specs.Walks.{Near, KeepsStmt, KeepsStmts, KeepsBody}
use Rattle.rule_restrictions.proofs.Passing.{split, skip-then, skip-falls}

-- ---- a body by its first part

handler-first : (n : ℕ) (w : Run) (us ts : Trees Run) → is_exception (word_of w) ≡ true → body_in n (form (word w then us) then ts) ≡ handler_last n us ts
unfolding body_in handler_in given
handler-first n w us ts h = rw (body_in, h) refl

plain-first : (n : ℕ) (t : Tree Run) (ts : Trees Run) → handler_in t ≡ none → body_in n (t then ts) ≡ (stmt_in 33 n (t then ts) >>= λ p. body_in p.1 ts >>= λ q. some (with_first p.0 q.0, q.1))
unfolding body_in stmt_in part_of
plain-first n t ts h = rw (body_in, h) refl

handler-part : {P : Type 0} (n : ℕ) (us ts : Trees Run) (u : Syntax.Body × ℕ) → handler_last n us ts ≡ some u → ((p : Syntax.Stmts × ℕ) → stmts_in 33 n us ≡ some p → (handling p.0, p.1) ≡ u → P) → P
unfolding handler_last
handler-part n us end u h k = bind-some h λ p hp q. k p hp (some_inj q)
handler-part n us (t then ts) u h k = none-some h

-- ---- the loop: the statements from `at` to p keep the rules

pub record Fronting (s l : List ℕ) (scope : Scope) (at p : ℕ) : Type 0 where
  pub done : (σ : Environment) → Near s l scope no_loops 33 σ [] → (n : ℕ) (v : Syntax.Body × ℕ) (b : Script.Body) → body_in n (first (stack_at s at)) ≡ some v → body_of σ v.0 ≡ some b
      → (m : ℕ) × ((u : Syntax.Body × ℕ) × ((c : Script.Body) × ((body_in m (first (stack_at s p)) ≡ some u) × ((body_of σ u.0 ≡ some c) × (kept_body b ≡ kept_body c)))))

pub front-start : (s l : List ℕ) (scope : Scope) (at : ℕ) → Fronting s l scope at at
front-start s l scope at = record { done = λ σ N n v b h k. (n, (v, (b, (h, (k, refl))))) }

abbrev with-parts : Script.Stmts → Bool → Script.Stmts → Option Script.Body
with-parts x b y = some (record { stmts = x; handles = b; handler = y })

body-made : (o p : Option Script.Stmts) (xs ys : Script.Stmts) (b : Bool) → o ≡ some xs → p ≡ some ys → (o >>= λ x. p >>= λ y. with-parts x b y) ≡ with-parts xs b ys
unfolding ◌>>=◌
body-made o p xs ys b h k = rw (h, k) refl

-- a body with a statement in front
first_of : {P : Type 0} (σ : Environment) (a : Syntax.Stmt) (u : Syntax.Body) (c : Script.Body) → body_of σ (with_first a u) ≡ some c
    → ((x : Script.Stmt) (z : Script.Body) → stmt_of σ a ≡ some x → body_of σ u ≡ some z → kept_body c ≡ (kept_stmt x [] && kept_body z) → P) → P
unfolding body_of stmt_of kept_body kept_stmt
first_of σ a u c h f = bind-some h λ X h_x h'. bind-some h' λ Y h_y q. bind-some h_x λ x hx g. bind-some g λ xs hxs r.
    f x (record { stmts = xs; handles = u.handles; handler = Y }) hx (body-made (stmts_of σ u.stmts) (stmts_of σ u.handler) xs Y u.handles hxs h_y)
    (ap kept_body (sym (some_inj q)) ∙ ap (λ (Z : Script.Stmts). kept_stmts Z [] && kept_stmts Y []) (sym (some_inj r)) ∙ assoc (kept_stmt x []) (kept_stmts xs []) (kept_stmts Y []))
  where
    assoc : (i j k : Bool) → ((i && j) && k) ≡ (i && (j && k))
    assoc true j k = refl
    assoc false j k = refl

-- a body that is a handler alone
handler-of : {P : Type 0} (σ : Environment) (ss : Syntax.Stmts) (c : Script.Body) → body_of σ (handling ss) ≡ some c → ((ys : Script.Stmts) → stmts_of σ ss ≡ some ys → kept_body c ≡ kept_stmts ys [] → P) → P
unfolding body_of stmt_of kept_body kept_stmt
handler-of σ ss c h f = bind-some h λ X h_x h'. bind-some h' λ Y h_y q. f Y h_y (ap kept_body (sym (some_inj q)) ∙ ap (λ (Z : Script.Stmts). kept_stmts Z [] && kept_stmts Y []) (sym (some_inj h_x)))

-- a body with nothing in it
abbrev none-there : Script.Body
none-there = record { stmts = Script.done; handles = false; handler = Script.done }

plain_of : (σ : Environment) → some none-there ≡ body_of σ (plain_body Syntax.done)
unfolding body_of stmt_of ◌>>=◌
plain_of σ = refl

module _ (s l : List ℕ) (scope : Scope) (at p : ℕ) (I : Fronting s l scope at p) (e : Next) (E : Comes s p e) where
  -- in every environment that the tables hold
  body-by : (r : Bool) → ((σ : Environment) → Near s l scope no_loops 33 σ [] → (n : ℕ) (v : Syntax.Body × ℕ) (b : Script.Body) → body_in n (first (stack_at s at)) ≡ some v → body_of σ v.0 ≡ some b → r ≡ kept_body b) → KeepsBody s l scope at r
  body-by r f = record { says = λ ts top σ bs S n v b h k. f σ (record { held = record { ts = ts; top = top; bs = bs; scene = S }; in-force = in-force-none; few-loops = omega arith }) n v b h k }

  pub front-end : (q : ℕ) → e ≡ following.Past q → KeepsBody s l scope at true
  unfolding body_in body_of stmt_of kept_body kept_stmt
  front-end q f = body-by true λ σ N n v b h k.
      let C : ShutAt s p q = rw f at E.says in
      let i = I.done σ N n v b h k in
      let a : (plain_body Syntax.done, i.0) ≡ i.1.0 = some_inj (ap (body_in i.0) (sym C.here) ∙ i.1.1.1.0) in
      let c : none-there ≡ i.1.1.0 = some_inj (plain_of σ ∙ ap (λ (w : Syntax.Body × ℕ). body_of σ w.0) a ∙ i.1.1.1.1.0) in
      sym (i.1.1.1.1.1 ∙ ap kept_body (sym c))

  pub front-handler : (w : Loops) (q : ℕ) (r : Bool) → e ≡ following.Handler q → w ≡ no_loops → KeepsStmts s l scope w 33 q r → KeepsBody s l scope at r
  front-handler w q r f g K = body-by r λ σ N n v b h k.
      let H : HandlerAt s p q = rw f at E.says in
      let K' : KeepsStmts s l scope no_loops 33 q r = rw g at K in
      let i = I.done σ N n v b h k in
      handler-part i.0 (first (stack_at s q)) (first (later (stack_at s q))) i.1.0
      (sym (handler-first i.0 H.head (first (stack_at s q)) (first (later (stack_at s q))) H.exception) ∙ ap (body_in i.0) (sym H.here) ∙ i.1.1.1.0) λ a ha z.
      handler-of σ a.0 i.1.1.0 (ap (λ (w : Syntax.Body × ℕ). body_of σ w.0) z ∙ i.1.1.1.1.0) λ ys hys j.
      K'.says σ [] N i.0 a ys ha hys ∙ sym (i.1.1.1.1.1 ∙ j)

  module _ (w : Loops) (f : e ≡ following.Stmt) (g : w ≡ no_loops) (t : Bool) (K : KeepsStmt s l scope w 33 p t) where
    P : PlainAt s p
    P = rw f at E.says

    -- the first statement of what is left, and the others
    after : {X : Type 0} (σ : Environment) → Near s l scope no_loops 33 σ [] → (m : ℕ) (u : Syntax.Body × ℕ) (c : Script.Body) → body_in m (first (stack_at s p)) ≡ some u → body_of σ u.0 ≡ some c
        → ((y : Tree Run) (ys : Trees Run) (n : ℕ) (q : Syntax.Body × ℕ) (z : Script.Body) → first (stack_at s p) ≡ (y then ys) → body_in n ys ≡ some q → body_of σ q.0 ≡ some z → kept_body c ≡ (t && kept_body z) → X) → X
    after σ N m u c h k j = split (first (stack_at s p)) P.more λ y ys d.
        let K' : KeepsStmt s l scope no_loops 33 p t = rw g at K in
        bind-some (sym (plain-first m y ys (P.plain y ys d)) ∙ ap (body_in m) (sym d) ∙ h) λ a ha h'. bind-some h' λ q hq i.
        first_of σ a.0 q.0 c (ap (λ (v : Syntax.Body × ℕ). body_of σ v.0) (some_inj i) ∙ k) λ x z hx hz e.
        j y ys a.1 q z d hq hz (e ∙ ap (λ (b : Bool). b && kept_body z) (sym (K'.says σ [] N m a x (ap (stmt_in 33 m) d ∙ ha) hx)))

    pub front-bad : t ≡ false → KeepsBody s l scope at false
    front-bad z = body-by false λ σ N n v b h k.
        let i = I.done σ N n v b h k in
        after σ N i.0 i.1.0 i.1.1.0 i.1.1.1.0 i.1.1.1.1.0 λ y ys m q c d hq hc j. sym (i.1.1.1.1.1 ∙ j ∙ ap (λ (b : Bool). b && kept_body c) z)

    pub front-on : (r : ℕ) → t ≡ true → Skips s p r → Fronting s l scope at r
    front-on r z S = record {
      done = λ σ N n v b h k.
          let i = I.done σ N n v b h k in
          after σ N i.0 i.1.0 i.1.1.0 i.1.1.1.0 i.1.1.1.1.0 λ y ys m q c d hq hc j.
          (m, (q, (c, (ap (body_in m) (skip-then S y ys d) ∙ hq, (hc, i.1.1.1.1.1 ∙ j ∙ ap (λ (b : Bool). b && kept_body c) z)))));
    }

pub ruleset front-laws = (front-end, front-handler, front-bad, front-on)

pub front-falls : (s : List ℕ) (p q : ℕ) (e : Next) → Comes s p e → e ≡ following.Stmt → Skips s p q → many (first (stack_at s q)) < many (first (stack_at s p))
front-falls s p q e E f S = let P : PlainAt s p = rw f at E.says in skip-falls S P.more
