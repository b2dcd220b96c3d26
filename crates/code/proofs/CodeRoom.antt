-- Code takes at most 4 numbers for each bracket and word of what it was made from (rows 6 to 8), by any measure.
use mathlib.Core.Path.{◌≡◌}
use mathlib.Core.Bool.{Bool, true, false, cond}
use mathlib.Core.List.{List, [], ◌∷◌}
use mathlib.Core.Option.{some}
use Prim.Native.Nat.{ℕ, ◌+◌, ◌*◌, ◌≤◌}
use native.Mathlib.Omega.{arith}
use lib.IntN.{ℤ}
use lib.ListN.{length}
use Rattle.law.specs.Base.{each}
use Rattle.law.specs.Syntax as Syntax
use Rattle.law.specs.Trees.{nodes}
use Rattle.law.specs.Forms.{Item}
use Rattle.law_theorems.specs.FormsByDepth.{expr, target, stmt}
use Rattle.law.specs.Types.{Types, Vars, ordinal?, set?, size_of}
use Rattle.law.specs.Script.{Const, Expr, Exprs, Stmt, Stmts, Arms, Body, const, read, var}
use Rattle.law.specs.Environment.{Environment, NameSort, a_proc, a_type, a_value, a_var}
use Rattle.law.specs.Names.{Reached, as_expr, atom_of, constant_of, expr_of, target_of, exprs_of, stmt_of, stmts_of, arms_of, body_of}
use Rattle.law.specs.Code.{Code, load, assign_ordinal, assign_cell, Place, Codes, Act, Acts, Cases, Frame, BodyCode}
use Rattle.law_theorems.proofs.Copying.{wholly-by}
use Rattle.law.specs.Elaborate.{Elaborated, Located, assigning, copying, elab_expr, elab_target, elab_members, expects, elab_labels, elab_arguments, elab_stmt, elab_stmts, elab_arms, elab_body}
use Rattle.code.specs.LayoutSize.{size_load, size_code, size_place, size_act, size_parameters, size_body}
use Rattle.law_theorems.proofs.Inversion.{none-some, some_inj, both_some, bind-some, given-some}
use Rattle.law_theorems.proofs.TextsAgree.{body-frame}
use Rattle.code.proofs.Measure.{Measure, in_layout}
use Rattle.law_theorems.proofs.Weights.{weight_e, weight_t, weight_es, weight_s, weight_ss, weight_a, weight_b, expr-weighs, target-weighs, stmt-weighs}

-- two numbers more than what is at most b
under : {a b k : ℕ} → a ≤ b → b + 2 ≤ k → a + 2 ≤ k
under h g = omega arith

module _ (M : Measure) (σ : Environment) (Γ : Types) (Δ : Vars) where
  -- ---- expressions and targets

  literal-room : (c : Const) {r : Elaborated} → elab_expr Γ Δ (const c) ≡ some r → M.code r.code + 2 ≤ 4
  unfolding elab_expr
  literal-room c h = given-some h λ _ e. rw (← e) (omega (arith, M.of-literal c.value))

  variable-room : (i : ℕ) {r : Elaborated} → elab_expr Γ Δ (read (var i)) ≡ some r → M.code r.code + 2 ≤ 4
  unfolding elab_expr
  variable-room i h = bind-some h λ w hw h. bind-some hw λ v _ hw. rw (← some_inj h, ← some_inj hw) (omega (arith, M.load_cell v.base (size_of Γ v.type)))

  name-room : (s : NameSort) {x : Expr} {r : Elaborated} → as_expr s ≡ some x → elab_expr Γ Δ x ≡ some r → M.code r.code + 2 ≤ 4
  name-room (a_type t) h k = none-some h
  name-room (a_var i) h k = variable-room i (rw (← some_inj h) at k)
  name-room (a_proc p ts) h k = none-some h
  name-room (a_value c) h k = literal-room c (rw (← some_inj h) at k)

  atom-room : (c : Syntax.Constant) {x : Expr} {r : Elaborated} → atom_of σ c ≡ some x → elab_expr Γ Δ x ≡ some r → M.code r.code + 2 ≤ 4
  unfolding atom_of
  atom-room (Syntax.number z) h k = literal-room _ (rw (← some_inj h) at k)
  atom-room (Syntax.minus z) h k = literal-room _ (rw (← some_inj h) at k)
  atom-room (Syntax.truth b) h k = literal-room _ (rw (← some_inj h) at k)
  atom-room (Syntax.named w) h k = bind-some h λ s _ e. name-room s e k

  -- a place, and the load of cells there
  pub record Reaching (p : Place) (k : ℕ) : Type 0 where
    pub at : M.place p + 2 ≤ k
    pub loaded : (n : ℕ) → M.code (load p n) + 2 ≤ k

  mutual
    unfolding expr_of elab_expr weight_e

    pub expr-room : (e : Syntax.Expr) (x : Expr) (r : Elaborated) → expr_of σ e ≡ some x → elab_expr Γ Δ x ≡ some r → M.code r.code + 2 ≤ 4 * weight_e e
    expr-room (Syntax.const c) x r h k = atom-room c h k
    expr-room (Syntax.read g) x r h k = bind-some h λ u hu h. bind-some (rw (← some_inj h) at k) λ w hw k.
        rw (← some_inj k) ((target_room g u w hu hw).loaded (size_of Γ w.type))
    expr-room Syntax.error_number x r h k = rw (← some_inj (rw (← some_inj h) at k)) (omega (arith, M.of_number))
    expr-room (Syntax.members t es) x r h k = bind-some h λ n _ h. bind-some h λ xs hxs h. bind-some (rw (← some_inj h) at k) λ cs hcs k. given-some k λ _ k.
        rw (← k) (let l = members-room es xs _ cs hxs hcs in under (M.of-set _ _ cs) (omega arith))
    expr-room (Syntax.end_of q t) x r h k = bind-some h λ n _ h. given-some (rw (← some_inj h) at k) λ _ k. rw (← k) (under (M.of-literal _) (omega arith))
    expr-room (Syntax.binary op a b) x r h k = bind-some h λ y hy h. bind-some h λ z hz h. both_some (rw (← some_inj h) at k) λ c d hc hd k. bind-some k λ q _ k.
        rw (← some_inj k) (let l = expr-room a y c hy hc in let m = expr-room b z d hz hd in omega (arith, M.of-calculate q.operation c.code d.code))
    expr-room (Syntax.short_circuit q a b) x r h k = bind-some h λ y hy h. bind-some h λ z hz h. both_some (rw (← some_inj h) at k) λ c d hc hd k. given-some k λ _ k.
        rw (← k) (let l = expr-room a y c hy hc in let m = expr-room b z d hz hd in omega (arith, M.of-short q c.code d.code))
    expr-room (Syntax.unary f a) x r h k = bind-some h λ y hy h. bind-some (rw (← some_inj h) at k) λ c hc k. bind-some k λ q _ k.
        rw (← some_inj k) (let l = expr-room a y c hy hc in omega (arith, M.of-calculate1 q.operation c.code))

    pub target_room : (g : Syntax.Target) (u : Reached) (w : Located) → target_of σ g ≡ some u → elab_target Γ Δ u.target ≡ some w → Reaching w.place (4 * weight_t g)
    target_room (Syntax.var n) u w h k = bind-some h λ i _ h. bind-some h λ v _ h. bind-some (rw (← some_inj h) at k) λ v' _ k.
        rw (← some_inj k) (record { at = omega (arith, M.of-cell v'.base); loaded = λ n. omega (arith, M.load_cell v'.base n) })
    target_room (Syntax.at g e) u w h k = bind-some h λ y hy h. bind-some h λ z hz h. both_some (rw (← some_inj h) at k) λ c d hc hd k. given-some k λ _ k.
        let l = (target_room g y c hy hc).at in let m = expr-room e z d hz hd in
        rw (← k) (record { at = under (M.of-index c.place d.code _ _ _) (omega arith); loaded = λ n. under (M.load-index c.place d.code _ _ _ n) (omega arith) })
    target_room (Syntax.dot g n) u w h k = bind-some h λ y hy h. bind-some h λ t _ h. bind-some (rw (← some_inj h) at k) λ c hc k. bind-some k λ f _ k.
        let l = (target_room g y c hy hc).at in
        rw (← some_inj k) (record { at = omega (arith, M.of_shift c.place f.offset); loaded = λ n. omega (arith, M.load-shift c.place f.offset n) })

    pub members-room : (es : Syntax.Exprs) (xs : Exprs) (n : ℕ) (cs : Codes) → exprs_of σ es ≡ some xs → elab_members Γ Δ n xs ≡ some cs → M.codes cs ≤ 4 * weight_es es
    members-room Syntax.nil xs n cs h k = rw (← some_inj (rw (← some_inj h) at k)) (omega (arith, M.no-codes))
    members-room (Syntax.◌and◌ e es) xs n cs h k = bind-some h λ y hy h. bind-some h λ ys hys h. both_some (rw (← some_inj h) at k) λ c ds hc hds k. given-some k λ _ k.
        rw (← k) (let l = expr-room e y c hy hc in let m = members-room es ys n ds hys hds in omega (arith, M.one_code c.code ds))

  -- ---- statements

  wanted_room : (n : ℕ) (e : Syntax.Expr) (x : Expr) (c : Code) → expr_of σ e ≡ some x → expects Γ Δ n x ≡ some c → M.code c + 2 ≤ 4 * weight_e e
  unfolding expects
  wanted_room n e x c h k = bind-some k λ r hr k. given-some k λ _ k. rw (← k) (expr-room e x r h hr)

  arguments-room : (es : Syntax.Exprs) (xs : Exprs) (ts : List ℕ) (cs : Codes) → exprs_of σ es ≡ some xs → elab_arguments Γ Δ ts xs ≡ some cs → M.arguments cs ≤ 4 * weight_es es
  unfolding exprs_of elab_arguments weight_es
  arguments-room Syntax.nil xs [] cs h k = rw (← some_inj (rw (← some_inj h) at k)) (omega (arith, M.no_arguments))
  arguments-room Syntax.nil xs (t ∷ ts) cs h k = none-some (rw (← some_inj h) at k)
  arguments-room (Syntax.◌and◌ e es) xs [] cs h k = bind-some h λ y _ h. bind-some h λ ys _ h. none-some (rw (← some_inj h) at k)
  arguments-room (Syntax.◌and◌ e es) xs (t ∷ ts) cs h k = bind-some h λ y hy h. bind-some h λ ys hys h. both_some (rw (← some_inj h) at k) λ c ds hc hds k.
      rw (← some_inj k) (let l = wanted_room _ e y c hy hc in let m = arguments-room es ys ts ds hys hds in omega (arith, M.one_argument c ds))

  assigning-size : (n : ℕ) (w : Located) (c : Code) → M.act (assigning Γ Δ n w c) ≤ M.place w.place + M.code c + 10
  assigning-size n w c = go (ordinal? Γ w.type) _ _
    where
      go : (b : Bool) (lo hi : ℤ) → M.act (cond b (assign_ordinal n w.place lo hi c) (cond (set? Γ w.type) (assign_cell n w.place c) (copying n w.place c))) ≤ M.place w.place + M.code c + 10
      go true lo hi = M.of-ordinal n w.place lo hi c
      go false lo hi = wholly-by (λ a. M.act a ≤ M.place w.place + M.code c + 10) (set? Γ w.type) n w.place c (M.of-set-cell n w.place c) (λ q k e. rw e (M.of-copy n w.place q k))

  labels-room : (cs : List Syntax.Constant) (xs : List Const) (n : ℕ) (zs : List ℤ) → each (constant_of σ) cs ≡ some xs → elab_labels Γ Δ n xs ≡ some zs
      → M.labels zs ≤ 4 * length cs
  unfolding each elab_labels
  labels-room [] xs n zs h k = rw (← some_inj (rw (← some_inj h) at k)) (omega (arith, M.no-labels))
  labels-room (c ∷ cs) xs n zs h k = bind-some h λ y _ h. bind-some h λ ys hys h. both_some (rw (← some_inj h) at k) λ z us _ hus k.
      rw (← some_inj k) (let l = labels-room cs ys n us hys hus in omega (arith, M.one_label z us))

  mutual
    unfolding stmt_of elab_stmt weight_s

    pub stmt-room : (s : Syntax.Stmt) (x : Stmt) (a : Act) → stmt_of σ s ≡ some x → elab_stmt Γ Δ x ≡ some a → M.act a + 2 ≤ 4 * weight_s s
    stmt-room (Syntax.assign n g e) x a h k = bind-some h λ u hu h. bind-some h λ y hy h. bind-some (rw (← some_inj h) at k) λ w hw k. bind-some k λ c hc k.
        rw (← some_inj k) (let l = (target_room g u w hu hw).at in let m = wanted_room _ e y c hy hc in let p = assigning-size n w c in omega arith)
    stmt-room (Syntax.begin n ss) x a h k = bind-some h λ y hy h. bind-some (rw (← some_inj h) at k) λ b hb k.
        rw (← some_inj k) (let l = stmts-room ss y b hy hb in omega (arith, M.of-sequence n b))
    stmt-room (Syntax.if_else n e s t) x a h k = bind-some h λ y hy h. bind-some h λ u hu h. bind-some h λ v hv h. both_some (rw (← some_inj h) at k) λ c b hc hb k. bind-some k λ d hd k.
        rw (← some_inj k) (let l = wanted_room _ e y c hy hc in let m = stmt-room s u b hu hb in let o = stmt-room t v d hv hd in omega (arith, M.of-branch n c b d))
    stmt-room (Syntax.while n e s) x a h k = bind-some h λ y hy h. bind-some h λ u hu h. both_some (rw (← some_inj h) at k) λ c b hc hb k.
        rw (← some_inj k) (let l = wanted_room _ e y c hy hc in let m = stmt-room s u b hu hb in omega (arith, M.of-while n c b))
    stmt-room (Syntax.for n w e f s) x a h k = bind-some h λ i _ h. bind-some h λ y hy h. bind-some h λ z hz h. bind-some h λ u hu h.
        bind-some (rw (← some_inj h) at k) λ v _ k. both_some k λ c d hc hd k. bind-some k λ b hb k. given-some k λ _ k.
        rw (← k) (let l = wanted_room _ e y c hy hc in let o = wanted_room _ f z d hz hd in let m = stmt-room s u b hu hb in under (M.of-for n _ _ _ c d b) (omega arith))
    stmt-room (Syntax.case n e bs) x a h k = bind-some h λ y hy h. bind-some h λ ys hys h. bind-some (rw (← some_inj h) at k) λ c hc k. bind-some k λ cs hcs k. given-some k λ _ k.
        rw (← k) (let l = expr-room e y c hy hc in let m = arms-room bs ys _ cs hys hcs in omega (arith, M.of-case n c.code cs))
    stmt-room (Syntax.call n w es) x a h k = bind-some h λ p _ h. bind-some h λ xs hxs h. bind-some (rw (← some_inj h) at k) λ cs hcs k.
        rw (← some_inj k) (let l = arguments-room es xs p.1 cs hxs hcs in omega (arith, M.of-call n p.0 cs))
    stmt-room (Syntax.raise n e) x a h k = bind-some h λ y hy h. bind-some (rw (← some_inj h) at k) λ c hc k.
        rw (← some_inj k) (let l = wanted_room _ e y c hy hc in omega (arith, M.of-raise n c))
    stmt-room Syntax.skip x a h k = rw (← some_inj (rw (← some_inj h) at k)) (omega (arith, M.of-nothing))

    pub stmts-room : (ss : Syntax.Stmts) (xs : Stmts) (bs : Acts) → stmts_of σ ss ≡ some xs → elab_stmts Γ Δ xs ≡ some bs → M.acts bs ≤ 4 * weight_ss ss
    stmts-room Syntax.done xs bs h k = rw (← some_inj (rw (← some_inj h) at k)) (omega (arith, M.no-acts))
    stmts-room (Syntax.◌next◌ s ss) xs bs h k = bind-some h λ y hy h. bind-some h λ ys hys h. both_some (rw (← some_inj h) at k) λ a cs ha hcs k.
        rw (← some_inj k) (let l = stmt-room s y a hy ha in let m = stmts-room ss ys cs hys hcs in omega (arith, M.one-act a cs))

    pub arms-room : (bs : Syntax.Arms) (xs : Arms) (n : ℕ) (cs : Cases) → arms_of σ bs ≡ some xs → elab_arms Γ Δ n xs ≡ some cs → M.cases cs ≤ 4 * weight_a bs
    arms-room (Syntax.else_arm s) xs n cs h k = bind-some h λ y hy h. bind-some (rw (← some_inj h) at k) λ a ha k.
        rw (← some_inj k) (let l = stmt-room s y a hy ha in omega (arith, M.of-else a))
    arms-room Syntax.no_else xs n cs h k = rw (← some_inj (rw (← some_inj h) at k)) (omega (arith, M.no-arms))
    arms-room (Syntax.arm ls s bs) xs n cs h k = bind-some h λ zs hzs h. bind-some h λ y hy h. bind-some h λ ys hys h.
        both_some (rw (← some_inj h) at k) λ ns a hns ha k. bind-some k λ ds hds k.
        rw (← some_inj k) (let o = labels-room ls zs n ns hzs hns in let l = stmt-room s y a hy ha in let m = arms-room bs ys n ds hys hds in omega (arith, M.one_arm ns a ds))

  -- the statements of a body
  pub body-takes : (q : Frame) (b : Syntax.Body) (x : Body) (c : BodyCode) → body_of σ b ≡ some x → elab_body Γ Δ q x ≡ some c → M.acts c.acts + M.acts c.handler ≤ 4 * weight_b b
  unfolding body_of elab_body weight_b
  body-takes q b x c h k = bind-some h λ y hy h. bind-some h λ z hz h. both_some (rw (← some_inj h) at k) λ d e hd he k.
      rw (← some_inj k) (let l = stmts-room b.stmts y d hy hd in let m = stmts-room b.handler z e hz he in omega arith)

-- ---- the layout

module _ (σ : Environment) (Γ : Types) (Δ : Vars) where
  -- a body: 7 numbers beside its statements and parameters
  pub body-room : (q : Frame) (b : Syntax.Body) (x : Body) (c : BodyCode) → body_of σ b ≡ some x → elab_body Γ Δ q x ≡ some c → size_body c ≤ 4 * weight_b b + 7 + size_parameters q.wants
  unfolding size_body in_layout
  body-room q b x c h k =
      let l = body-takes in_layout σ Γ Δ q b x c h k in
      rw (← body-frame (record { types = Γ; vars = Δ; frame = q; body = x }) c k) (omega arith)

  -- ---- from the trees: what a checker lays for a part of a line

  pub expr-takes : (d : ℕ) (t : Item) {e : Syntax.Expr} {x : Expr} {r : Elaborated} → expr d t ≡ some e → expr_of σ e ≡ some x → elab_expr Γ Δ x ≡ some r
      → size_code r.code + 2 ≤ 4 * nodes t
  unfolding in_layout
  expr-takes d t {e} {x} {r} h k l = let m = expr-weighs d t e h in let n = expr-room in_layout σ Γ Δ e x r k l in omega arith

  pub target-takes : (d : ℕ) (t : Item) {g : Syntax.Target} {u : Reached} {w : Located} → target d t ≡ some g → target_of σ g ≡ some u → elab_target Γ Δ u.target ≡ some w
      → size_load w.place (size_place w.place) + 2 ≤ 4 * nodes t
  unfolding in_layout size_code
  target-takes d t {g} {u} {w} h k l = let m = target-weighs d t g h in let n = (target_room in_layout σ Γ Δ g u w k l).loaded 1 in omega arith

  pub stmt-takes : (d n : ℕ) (t : Item) {p : Syntax.Stmt × ℕ} {x : Stmt} {a : Act} → stmt d n t ≡ some p → stmt_of σ p.0 ≡ some x → elab_stmt Γ Δ x ≡ some a
      → size_act a + 2 ≤ 4 * nodes t
  unfolding in_layout
  stmt-takes d n t {p} {x} {a} h k l = let m = stmt-weighs d n t p h in let o = stmt-room in_layout σ Γ Δ p.0 x a k l in omega arith
