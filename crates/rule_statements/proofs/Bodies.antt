-- The ways of a body.
use mathlib.Core.Path.{◌≡◌, refl, sym, ap, ◌∙◌}
use mathlib.Core.Bool.{Bool, true, false, true≢false}
use mathlib.Core.List.{List, [], ◌∷◌}
use mathlib.Core.Option.{Option, none, some}
use Prim.Native.Nat.{ℕ, suc, ◌+◌, ◌<◌, ◌≤◌}
use native.Mathlib.Omega.{arith}
use Rattle.leaf_words.specs.Words.{word_of}
use Rattle.law.specs.Base.{◌>>=◌, both, given}
use Rattle.law.specs.Code.{Acts, stop, Frame, BodyCode}
use Rattle.law.specs.Elaborate.{elab_stmts, elab_body}
use Rattle.law.specs.Environment.{Environment}
use Rattle.law.specs.Forms.{plain_body}
use Rattle.code.specs.Layout.{out, lay, lay_act, lay_acts, lay_frame, lay_body, flag}
use Rattle.law.specs.Names.{stmts_of, body_of}
use Rattle.law.specs.Rules.{kept_stmts, kept_body}
use Rattle.rule_stages.specs.Stages.{Staged, fits, staged, named, ruled, join, or_unfit, stmts_staged, body_staged}
use Rattle.law.specs.Syntax as Syntax
use Rattle.law.specs.Trees.{Tree, word, form, Trees, end, ◌then◌, Run, first, later, nodes, nodes_in}
use Rattle.law_theorems.specs.Readings.{stack_at}
use Rattle.law_theorems.proofs.Inversion.{none-some, some_inj, bind-some}
use Rattle.code.proofs.LayoutRegions.{lay-g}
use Rattle.code.specs.LayoutRegions.{Same}
use Rattle.rule_stages.proofs.OnePassStmts.{body-staged}
use Rattle.text_heads.specs.Heads.{is_exception}
use Rattle.text_heads.specs.Parts.{stmt_in, stmts_in, body_in, handler_in, handler_last, handling}
use Rattle.table_scope.specs.declared.Scope.{Scope}
use Rattle.rule_faults.specs.declared.Fault.TheVariants.{Clear, Form}
use Rattle.table_scope.specs.declared.Loops.{Loops}
use Rattle.table_scope.specs.Loops.{no_loops}
use Rattle.table_scope.specs.Scene.{Scene}
use Rattle.table_scope.proofs.Kept.{scene-kept}
use Rattle.table_scope.proofs.Looping.{in-force-none}
use Rattle.table_list.specs.Laid.{Laid}
use Rattle.rule_faults.specs.declared.Got.{Got}
use Rattle.rule_faults.specs.Got.{lowest, is_form, fault_of, past_bracket}
use Rattle.rule_faults.proofs.Order.{lowest-clear}
use Rattle.text_parts.specs.Parts.{ShutAt}
use Rattle.rule_expr_nodes.specs.Bracket.{Closes, shut, more}
use Rattle.rule_expr_nodes.specs.Nodes.{Makes}
use Rattle.rule_expressions.proofs.Joining.{wrong-fits, fits-inj}
use Rattle.rule_expr_nodes.specs.Links.{linked}
use Rattle.rule_stmt_nodes.specs.Nodes.{plain_made, handled_made, skip_got, joined_got}
use Rattle.rule_statements.specs.Chains.{many}
use Rattle.rule_stmt_nodes.specs.declared.last.Head.{Head}
use Rattle.rule_stmt_nodes.specs.declared.last.Next.{Next}
use Rattle.rule_stmt_nodes.specs.declared.last.Next.TheVariants as following
use Rattle.rule_statements.specs.Walks.{bare, ActsTold, Around, GivesActs, GivesStmt, lay_rest, lay_framed, GivesBody}
use Rattle.rule_stmt_nodes.specs.Handlers.{HandlerAt, PlainAt, Comes}
use Rattle.rule_statements.specs.Fronts.{BodyLeft, Fronting, GivesRest, HandledBy, by_parts}
use Rattle.rule_statements.proofs.Faults.{lowest-form, join-fault, join-fits, form-is, form-right, form-none, node_of}
use Rattle.rule_statements.proofs.Chains.{none_of}
use Rattle.rule_statements.proofs.Fronts.{body-none, front-start, front-next, front-falls}

-- ---- a body with no part left, and one with its handler alone

-- a body that is a handler alone
abbrev handled : Syntax.Stmts × ℕ → Option (Syntax.Body × ℕ)
handled p = some (handling p.0, p.1)

abbrev made : Syntax.Stmts → Syntax.Stmts → Option Syntax.Body
made x y = some (record { stmts = x; handles = true; handler = y })

bare-handling : (o : Option (Syntax.Stmts × ℕ)) → bare (o >>= λ p. handled p) ≡ (some Syntax.done >>= λ x. bare o >>= λ y. made x y)
unfolding ◌>>=◌
bare-handling none = refl
bare-handling (some p) = refl

abbrev handling_code : Frame → Acts → Acts → BodyCode
handling_code fr x y = record { frame = fr; acts = x; handles = true; handler = y }

done-staged : (σ : Environment) → stmts_staged σ [] (some Syntax.done) ≡ fits stop
unfolding stmts_staged staged named ruled stmts_of kept_stmts elab_stmts
done-staged σ = refl

plain-staged : (σ : Environment) (fr : Frame) (n : ℕ) → body_staged σ fr (bare (some (plain_body Syntax.done, n))) ≡ fits (record { frame = fr; acts = stop; handles = false; handler = stop })
unfolding body_staged staged named ruled body_of stmts_of kept_body kept_stmts elab_body elab_stmts both ◌>>=◌
plain-staged σ fr n = refl

handling-staged : (σ : Environment) (fr : Frame) (o : Option (Syntax.Stmts × ℕ)) → body_staged σ fr (bare (o >>= λ p. handled p)) ≡ join (fits stop) (stmts_staged σ [] (bare o)) (λ x y. or_unfit (some (handling_code fr x y)))
handling-staged σ fr o =
    ap (body_staged σ fr) (bare-handling o) ∙ body-staged σ fr true (some Syntax.done) (bare o)
    ∙ ap (λ (S : Staged Acts). join S (stmts_staged σ [] (bare o)) (λ x y. or_unfit (some (handling_code fr x y)))) (done-staged σ)

handler-is : (n : ℕ) (w : Run) (us ts : Trees Run) → is_exception (word_of w) ≡ true → body_in n (form (word w then us) then ts) ≡ handler_last n us ts
unfolding body_in handler_in given
handler-is n w us ts h = rw (body_in, h) refl

last_end : (n : ℕ) (us : Trees Run) → handler_last n us end ≡ (stmts_in 33 n us >>= λ p. handled p)
unfolding handler_last
last_end n us = refl

last_none : (n : ℕ) (us ts : Trees Run) → stmts_in 33 n us ≡ none → handler_last n us ts ≡ none
unfolding handler_last ◌>>=◌
last_none n us end h = rw h refl
last_none n us (t then ts) h = refl

last_more : (n : ℕ) (us ts : Trees Run) → (ts ≡ end → ⊥) → handler_last n us ts ≡ none
unfolding handler_last
last_more n us end h = absurd (h refl)
last_more n us (t then ts) h = refl

acts-none : {σ : Environment} {bs js : List ℕ} {slot top : ℕ} {l : List ℕ} {g : Got} {l' : List ℕ} (o : Option (Syntax.Stmts × ℕ)) → ActsTold σ bs js o slot top l g l' → g.fault ≡ Form → o ≡ none
unfolding stmts_staged ◌>>=◌
acts-none none A h = refl
acts-none (some p) A h = none-some (sym (form-none (bare (some p)) _ _ _ (sym A.fault-is ∙ h)))

-- what is told of a last handler
record LastTold (σ : Environment) (fr : Frame) (bs : List ℕ) (o : Option (Syntax.Body × ℕ)) (slot top : ℕ) (l : List ℕ) (b : Got) (l' : List ℕ) : Type 0 where
  fault-is : b.fault ≡ fault_of (body_staged σ fr (bare o))
  laid : (c : BodyCode) → body_staged σ fr (bare o) ≡ fits c → (c.acts ≡ stop) × ((c.handles ≡ true) × ((b.top ≡ (lay_acts bs c.handler slot top l).top) × (l' ≡ (lay_acts bs c.handler slot top l).list)))
  number : (p : Syntax.Body × ℕ) → o ≡ some p → b.kind ≡ p.1

last-told : {σ : Environment} {fr : Frame} {bs : List ℕ} {s : List ℕ} {slot top : ℕ} {l : List ℕ} {a b : Got} {l' : List ℕ} (n : ℕ) (us ts : Trees Run) → (is_form a.fault ≡ false → first (stack_at s a.next) ≡ ts)
    → ActsTold σ bs [] (stmts_in 33 n us) slot top l a l' → Closes s a b → LastTold σ fr bs (handler_last n us ts) slot top l b l'
unfolding body_staged staged ◌>>=◌
last-told {σ} {fr} {bs} {s} {slot} {top} {l} {a} {b} {l'} n us ts e T C = go C (is_form a.fault) refl
  where
    no_body : {g : Got} → handler_last n us ts ≡ none → g.fault ≡ Form → LastTold σ fr bs (handler_last n us ts) slot top l g l'
    no_body z f = rw z (record { fault-is = f; laid = λ c h. absurd (wrong-fits h); number = λ p h. none-some h })

    all_read : (q : ℕ) → ts ≡ end → LastTold σ fr bs (handler_last n us ts) slot top l (past_bracket a q) l'
    all_read q z =
        let S = handling-staged σ fr (stmts_in 33 n us) in
        rw (z, last_end n us) (record {
          fault-is = T.fault-is ∙ sym (ap fault_of S ∙ join-fault (handling_code fr) (fits stop) (stmts_staged σ [] (bare (stmts_in 33 n us))));
          laid = λ c h.
              let J = join-fits (handling_code fr) (fits stop) (stmts_staged σ [] (bare (stmts_in 33 n us))) c (sym S ∙ h) in
              let y = T.laid J.two J.two_fits in
              let m = J.made in (
                ap (λ (x : BodyCode). x.acts) (sym m) ∙ sym (fits-inj J.one-fits),
                (
                  ap (λ (x : BodyCode). x.handles) (sym m),
                  (y.0 ∙ ap (λ (x : BodyCode). (lay_acts bs x.handler slot top l).top) m, y.1 ∙ ap (λ (x : BodyCode). (lay_acts bs x.handler slot top l).list) m),
                ),
              );
          number = λ p h. bind-some h λ q hq i. T.number q hq ∙ ap (λ (x : Syntax.Body × ℕ). x.1) (some_inj i);
        })

    go : {g : Got} → Closes s a g → (t : Bool) → is_form a.fault ≡ t → LastTold σ fr bs (handler_last n us ts) slot top l g l'
    go (shut q h) false f = all_read q (sym (e f) ∙ h.here)
    go (more h) false f = no_body (last_more n us ts (rw (← e f) h)) refl
    go (shut q h) true f = no_body (last_none n us ts (acts-none (stmts_in 33 n us) T (form-is a.fault f))) (form-is a.fault f)
    go (more h) true f = no_body (last_none n us ts (acts-none (stmts_in 33 n us) T (form-is a.fault f))) refl

-- ---- the ways out of the loop

module _ (s l ts : List ℕ) (scope : Scope) (hd : Head) (n slot at top : ℕ) (x : Got) (slot' : ℕ) (l₁ : List ℕ) (D : Fronting s l ts scope n slot at top x slot' l₁) where
  -- the tables where the statements before the handler end
  scene-there : (σ : Environment) (bs : List ℕ) → Around s l ts scope no_loops 33 n at slot σ bs [] → slot ≤ top → Scene s l₁ ts scope x.top σ bs
  scene-there σ bs A h = scene-kept A.scene (D.keeps h) (let y = D.grows in omega arith)

  pub rest_plain : (q : ℕ) (r : Got) (l' : List ℕ) → ShutAt s x.next q → Makes (plain_made l₁ hd slot x q) r l' → GivesRest s l ts scope hd n slot at top r l'
  unfolding plain_made lay lay_rest lay_act body_in flag
  rest_plain q r l' H m =
      let N = node_of m in
      let g = lay-g (0 ∷ []) x.top l₁ in
      let gu = g.up in let du = D.grows in let nu = N.up in
      record {
        goes = λ e. D.around ∙ H.around ∙ ap (stack_at s) (sym N.next-is);
        keeps = λ h. record { at = λ i a b. N.below.at i a (omega arith) ∙ g.below i (omega arith) ∙ (D.keeps h).at i a b };
        grows = omega arith;
        says = λ σ fr bs A h.
            let L : BodyLeft σ fr bs (body_in n (first (stack_at s at))) slot top l x.fault (some (plain_body Syntax.done, x.kind)) slot' x.top l₁ = rw H.here at (D.says σ fr bs A h) in
            let P = plain-staged σ fr x.kind in
            record {
              fault-is = N.fault-is ∙ sym (L.fault-is ∙ ap (λ (S : Staged BodyCode). lowest x.fault (fault_of S)) P ∙ lowest-clear x.fault);
              laid = λ b z.
                  let c = L.laid b z in
                  let e : record { frame = fr; acts = stop; handles = false; handler = stop } ≡ c.0 = fits-inj (sym P ∙ c.1.0) in
                  let f : x.fault ≡ Clear = sym (sym (ap fault_of z) ∙ L.fault-is ∙ ap (λ (S : Staged BodyCode). lowest x.fault (fault_of S)) P ∙ lowest-clear x.fault) in
                  N.laid f ∙ plain-lay bs b (c.1.1.0 ∙ ap (λ (y : BodyCode). y.handles) (sym e)) (c.1.1.1.0 ∙ ap (λ (y : BodyCode). y.handler) (sym e))
                  (c.1.1.1.1 ∙ ap (λ (y : BodyCode). lay_acts bs y.acts slot' x.top l₁) (sym e));
              number = λ p z. let v = L.number p z in N.kind-is ∙ ap (λ (y : Syntax.Body × ℕ). y.1) (some_inj v.1.0) ∙ sym v.1.1;
            };
      }
    where
      plain-lay : (bs : List ℕ) (b : BodyCode) → b.handles ≡ false → b.handler ≡ stop → lay_acts bs b.acts slot top l ≡ out slot' x.top l₁
          → lay (hd.number ∷ slot ∷ 0 ∷ x.top ∷ hd.frame ∷ []) (lay (0 ∷ []) x.top l₁).top (lay (0 ∷ []) x.top l₁).list ≡ lay_rest bs hd b slot top l
      plain-lay bs b e f h = rw (e, f, h) refl

  pub rest-handled : (q t w : ℕ) (ms : Loops) (a b r : Got) (l₂ l₃ l' : List ℕ) → HandlerAt s x.next q → Laid (lay (0 ∷ []) x.top l₁) t l₂ → w ≡ x.top → ms ≡ no_loops
      → GivesActs s l₂ ts scope ms 33 x.kind w q t a l₃ → Closes s a b → Makes (handled_made l₃ hd slot x b) r l' → GivesRest s l ts scope hd n slot at top r l'
  unfolding handled_made lay lay_rest lay_act flag nodes
  rest-handled q t w ms a b r l₂ l₃ l' H K ew em G C m =
      let N = node_of m in
      let g = lay-g (0 ∷ []) x.top l₁ in
      let up : x.top ≤ t = rw K.free g.up in
      let same₂ : Same 0 x.top l₂ l₁ = record { at = λ i p q. rw K.left (g.below i q) } in
      let same₃ : Same 0 x.top l₃ l₂ = rw ew at (G.keeps (rw ew up)) in
      let gg = G.grows in let du = D.grows in let nu = N.up in
      let bt : b.top ≡ a.top = close-top C in
      record {
        goes = λ e.
            let fb = form-right x.fault b.fault (ap is_form (sym N.fault-is) ∙ e) in
            D.around ∙ H.around ∙ close-goes C (λ i. G.goes i) fb ∙ ap (stack_at s) (sym N.next-is);
        keeps = λ h. record { at = λ i p v. N.below.at i p (omega arith) ∙ same₃.at i p (omega arith) ∙ same₂.at i p (omega arith) ∙ (D.keeps h).at i p v };
        grows = omega arith;
        says = λ σ fr bs A h.
            let us = first (stack_at s q) in
            let vs = first (later (stack_at s q)) in
            let E : body_in x.kind (first (stack_at s x.next)) ≡ handler_last x.kind us vs = rw H.here (handler-is x.kind H.head us vs H.exception) in
            let L : BodyLeft σ fr bs (body_in n (first (stack_at s at))) slot top l x.fault (handler_last x.kind us vs) slot' x.top l₁ = rw E at (D.says σ fr bs A h) in
            let few₁ = D.few-left σ bs A h in
            let c : nodes_in (first (stack_at s x.next)) ≡ suc (1 + nodes_in us) + nodes_in vs = ap nodes_in H.here in
            let T : ActsTold σ bs [] (stmts_in 33 x.kind us) x.top t l₂ a l₃
            = rw ew at (G.says σ bs [] (rw (ew, em) (record { scene = scene-kept (scene-there σ bs A h) same₂ (omega arith); in-force = in-force-none; few-loops = let w = A.few-loops in omega arith; few = omega arith })) (rw ew up)) in
            let Z = last-told x.kind us vs (λ i. ap first (sym (G.goes i))) T C in
            record {
              fault-is = N.fault-is ∙ rw Z.fault-is refl ∙ sym L.fault-is;
              laid = λ d z.
                  let y = L.laid d z in
                  let v = Z.laid y.0 y.1.0 in
                  let f : lowest x.fault b.fault ≡ Clear = rw Z.fault-is (sym L.fault-is) ∙ ap fault_of z in
                  N.laid f ∙ handled-lay bs d (y.1.1.0 ∙ v.1.0)
                  (y.1.1.1.1 ∙ ap (λ (u : Acts). lay_acts bs u slot' x.top l₁) v.0) (v.1.1.0 ∙ ap (λ (u : Acts). (lay_acts bs u x.top t l₂).top) (sym y.1.1.1.0))
                  (v.1.1.1 ∙ ap (λ (u : Acts). (lay_acts bs u x.top t l₂).list) (sym y.1.1.1.0));
              number = λ p z. let v = L.number p z in N.kind-is ∙ Z.number v.0 v.1.0 ∙ sym v.1.1;
            };
      }
    where
      close-top : {g : Got} → Closes s a g → g.top ≡ a.top
      close-top (shut q h) = refl
      close-top (more h) = refl

      close-goes : {g : Got} → Closes s a g → (is_form a.fault ≡ false → later (stack_at s q) ≡ stack_at s a.next) → is_form g.fault ≡ false → later (later (stack_at s q)) ≡ stack_at s g.next
      close-goes (shut q h) f e = ap later (f e) ∙ h.around
      close-goes (more h) f e = absurd (true≢false e)

      handled-lay : (bs : List ℕ) (d : BodyCode) → d.handles ≡ true → lay_acts bs d.acts slot top l ≡ out slot' x.top l₁ → b.top ≡ (lay_acts bs d.handler x.top t l₂).top
          → l₃ ≡ (lay_acts bs d.handler x.top t l₂).list → lay (hd.number ∷ slot ∷ 1 ∷ x.top ∷ hd.frame ∷ []) b.top l₃ ≡ lay_rest bs hd d slot top l
      handled-lay bs d e h f i = rw (e, h, f, i, K.free, K.left) refl

  pub rest-wrong : (g : Got) (l₂ : List ℕ) (t : Bool) → PlainAt s x.next → GivesStmt s l₁ ts scope no_loops 33 x.kind x.next x.top g l₂ → t ≡ is_form g.fault → t ≡ true
      → GivesRest s l ts scope hd n slot at top g l₂
  unfolding body_staged staged ◌>>=◌
  rest-wrong g l₂ t P G et h =
      let du = D.grows in let gu = G.moves.grows in
      let f = form-is g.fault (sym et ∙ h) in
      record {
        goes = λ e. absurd (true≢false (sym (sym et ∙ h) ∙ e));
        keeps = λ i. record { at = λ j a b. G.moves.keeps.at j a (omega arith) ∙ (D.keeps i).at j a b };
        grows = omega arith;
        says = λ σ fr bs A i.
            let T = G.says σ bs [] (record { scene = scene-there σ bs A i; in-force = A.in-force; few-loops = let w = A.few-loops in omega arith; few = D.few-left σ bs A i }) in
            let z = no_body (first (stack_at s x.next)) P.more P.plain (none_of _ T f) in
            let L = D.says σ fr bs A i in
            record {
              fault-is = f ∙ sym (L.fault-is ∙ rw z (lowest-form x.fault));
              laid = λ b y. let c = L.laid b y in absurd (wrong-fits (rw z at c.1.0));
              number = λ p y. let v = L.number p y in none-some (sym z ∙ v.1.0);
            };
      }
    where
      no_body : (us : Trees Run) → (us ≡ end → ⊥) → ((t : Tree Run) (vs : Trees Run) → us ≡ (t then vs) → handler_in t ≡ none) → stmt_in 33 x.kind us ≡ none → body_in x.kind us ≡ none
      no_body end a b c = absurd (a refl)
      no_body (t then vs) a b c = body-none x.kind t vs (t then vs) refl (b t vs refl) c

-- ---- all of it

-- a body is its frame and what comes after that
pub body-laid : (bs : List ℕ) (k : ℕ) (b : BodyCode) (t : ℕ) (l : List ℕ)
    → lay_body bs k b t l ≡ lay_framed bs (record { number = k; frame = (lay_frame b.frame t l).pos }) b (lay_frame b.frame t l).top (lay_frame b.frame t l).list
unfolding lay_body lay_framed lay_rest
body-laid bs k b t l = refl

pub body-way : (s l ts : List ℕ) (scope : Scope) (hd : Head) (n at top t : ℕ) (r : Got) (l₁ l' : List ℕ) → Laid (lay (0 ∷ []) top l) t l₁ → GivesRest s l₁ ts scope hd n top at t r l'
    → GivesBody s l ts scope hd n at top r l'
unfolding lay_framed lay_rest lay
body-way s l ts scope hd n at top t r l₁ l' K G =
    let g = lay-g (0 ∷ []) top l in
    let up : top ≤ t = rw K.free g.up in
    let same₁ : Same 0 top l₁ l = record { at = λ i a b. rw K.left (g.below i b) } in
    let gg = G.grows in
    record {
      leaves = record {
        goes = G.goes;
        keeps = record { at = λ i a b. (G.keeps up).at i a b ∙ same₁.at i a b };
        grows = omega arith;
      };
      says = λ σ fr bs S f.
          let T = G.says σ fr bs (record { scene = scene-kept S same₁ (omega arith); in-force = in-force-none; few-loops = omega arith; few = f }) up in
          record { fault-is = T.fault-is; laid = λ b h. T.laid b h ∙ rw (K.free, K.left) refl; number = T.number };
    }

pub handled-way : (s l ts : List ℕ) (scope : Scope) (hd : Head) (start : ℕ) (x : Got) (q t w : ℕ) (ms : Loops) (a b r : Got) (l₁ l₂ l' : List ℕ) → Laid (lay (0 ∷ []) x.top l) t l₁ → w ≡ x.top → ms ≡ no_loops
    → GivesActs s l₁ ts scope ms 33 x.kind w q t a l₂ → Closes s a b → Makes (handled_made l₂ hd start x b) r l' → HandledBy s l ts scope hd start x q r l'
handled-way s l ts scope hd start x q t w ms a b r l₁ l₂ l' K ew em G C m = by_parts t a b l₁ l₂ K (rw (ew, em) at G) C m

module _ (s l ts : List ℕ) (scope : Scope) (hd : Head) (n slot at top : ℕ) (x : Got) (slot' : ℕ) (l₁ : List ℕ) (D : Fronting s l ts scope n slot at top x slot' l₁) (e : Next) (H : Comes s x.next e) where
  pub body-past : (q : ℕ) (r : Got) (l' : List ℕ) → e ≡ following.Past q → Makes (plain_made l₁ hd slot x q) r l' → GivesRest s l ts scope hd n slot at top r l'
  body-past q r l' h m = rest_plain s l ts scope hd n slot at top x slot' l₁ D q r l' (rw h at H.says) m

  pub body-handled : (q : ℕ) (r : Got) (l' : List ℕ) → e ≡ following.Handler q → HandledBy s l₁ ts scope hd slot x q r l' → GivesRest s l ts scope hd n slot at top r l'
  body-handled q r l' h (by_parts t a b l₂ l₃ K G C m) = rest-handled s l ts scope hd n slot at top x slot' l₁ D q t x.top no_loops a b r l₂ l₃ l' (rw h at H.says) K refl refl G C m

  module _ (h : e ≡ following.Stmt) (ms : Loops) (em : ms ≡ no_loops) (g : Got) (l₂ : List ℕ) (G : GivesStmt s l₁ ts scope ms 33 x.kind x.next x.top g l₂) (t : Bool) (et : t ≡ is_form g.fault) where
    pub body-wrong : t ≡ true → GivesRest s l ts scope hd n slot at top g l₂
    body-wrong i = rest-wrong s l ts scope hd n slot at top x slot' l₁ D g l₂ t (rw h at H.says) (rw em at G) et i

    pub body-next : (u : ℕ) (l₃ : List ℕ) (y : Got) (w : ℕ) → t ≡ false → Laid (linked slot' g.place g.top l₂) u l₃ → w ≡ g.top + 1 → y ≡ joined_got x g u → Fronting s l ts scope n slot at top y w l₃
    body-next u l₃ y w i K ew ey = front-next s l ts scope n slot at top x slot' l₁ D (rw h at H.says) g l₂ (rw em at G) t et i u l₃ y w K ew ey

    pub body-falls : (y : Got) (u : ℕ) → t ≡ false → y ≡ joined_got x g u → many (first (stack_at s y.next)) < many (first (stack_at s x.next))
    body-falls y u i ey = front-falls s l ts scope n slot at top x slot' l₁ D (rw h at H.says) g l₂ (rw em at G) t et i y u ey

pub body-start : (s l ts : List ℕ) (scope : Scope) (n slot at top : ℕ) (g : Got) (p : ℕ) → g ≡ skip_got n at top → p ≡ slot → Fronting s l ts scope n slot at top g p l
body-start s l ts scope n slot at top g p e h = rw h (front-start s l ts scope n slot at top g e)

pub ruleset body-laws = (body-past, body-handled, body-wrong)
