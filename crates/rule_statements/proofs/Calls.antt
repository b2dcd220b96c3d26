-- A call: the procedure that it names, and what its answer tells, from that for its arguments.
use mathlib.Core.Path.{◌≡◌, refl, sym, ap, ◌∙◌}
use mathlib.Core.List.{List, [], ◌∷◌, map}
use mathlib.Core.Option.{Option, none, some}
use Prim.Native.Nat.{ℕ, ◌≤◌}
use native.Mathlib.Omega.{arith}
use lib.ListN.{get_or}
use Rattle.leaf_bytes.specs.Bytes.{small}
use Rattle.law.specs.Base.{Name, ◌>>=◌, find}
use Rattle.law.specs.Code.{Act, call_to}
use Rattle.law.specs.Environment.{Environment, NameSort}
use Rattle.law.specs.Names.{as_proc}
use Rattle.law.specs.Syntax as Syntax
use Rattle.law.specs.Trees.{first, word_at}
use Rattle.law_theorems.specs.Readings.{stack_at}
use Rattle.code.specs.Layout.{lay, lay_act}
use Rattle.code.specs.LayoutRegions.{Same}
use Rattle.code.proofs.LayoutRegions.{lay-g}
use Rattle.law_theorems.proofs.Inversion.{some_inj, bind-some}
use Rattle.rule_stages.specs.Stages.{on_fits, or_unfit, unknown as unknown_of, arguments_staged, stmt_staged}
use Rattle.rule_stages.proofs.OnePassStmts.{call-staged, call-unknown}
use Rattle.table_list.specs.Laid.{Laid}
use Rattle.table_scope.specs.declared.frames.Frame.{Frame}
use Rattle.table_scope.specs.declared.Meaning.{Meaning}
use Rattle.table_scope.specs.declared.Scope.{Scope}
use Rattle.table_scope.specs.Frames.{framed, frame_in, TellsFrame}
use Rattle.table_scope.specs.Scene as Scenes
use Rattle.table_scope.specs.Scene.{Scene, a-type, a-var, a-proc, a-value, meaning_in, meaning_here}
use Rattle.table_scope.proofs.Kept.{scene-kept, types-before}
use Rattle.table_scope.proofs.Telling.{meant}
use Rattle.text_heads.specs.Parts.{exprs_in}
use Rattle.rule_faults.specs.declared.Fault.{Fault}
use Rattle.rule_faults.specs.declared.Fault.TheVariants.{Name as Unnamed}
use Rattle.rule_faults.specs.declared.Got.{Got}
use Rattle.rule_faults.specs.Got.{lowest, fault_of}
use Rattle.rule_expr_nodes.specs.Nodes.{Makes}
use Rattle.rule_expressions.specs.Walks.{Leaves}
use Rattle.rule_stmt_nodes.specs.declared.calls.Callee.{Callee}
use Rattle.rule_stmt_nodes.specs.Calls.{callee_by, Takes, few_fault, called}
use Rattle.rule_statements.specs.Walks.{bare, ActTold}
use Rattle.rule_statements.specs.Arguments.{CalleeTold, known, unknown, ArgumentsTold, GivesArguments, GivesCallNamed}
use Rattle.rule_statements.proofs.Faults.{form-left, form-right, on-fault, on-fits, same_refl, Node, node_of, node-leaves}
use Rattle.rule_statements.proofs.Acts.{bare-one}
use Rattle.rule_statements.proofs.Stores.{unknown-fault, unknown-fits}
use Rattle.rule_statements.proofs.Arguments.{takes-kept}

-- ---- the procedure

takes-frame : {l : List ℕ} {top p : ℕ} {us : List ℕ} → TellsFrame l top p us → Takes l top us (frame_in l p)
takes-frame {l} {top} {p} T =
    let a = types-before {l = l} {l' = l} {top = top} same_refl p in
    let b = T.frame_below in
    let c = T.count-is in
    record { count-is = T.count-is; types-below = omega arith; types_are = T.types_are; few = T.few }

no-parameters : (l : List ℕ) (top : ℕ) → Takes l top [] (framed 0 0 0)
no-parameters l top = record { count-is = refl; types-below = omega arith; types_are = λ j h. absurd (omega arith); few = omega arith }

callee-told : {s l ts : List ℕ} {scope : Scope} {top : ℕ} {σ : Environment} {bs : List ℕ} → Scene s l ts scope top σ bs → (w : Name) → CalleeTold σ bs l top w (callee_by l (meaning_in s l scope w))
unfolding ◌>>=◌
callee-told {s} {l} {ts} {scope} {top} {σ} {bs} S w = go (find σ.names w) refl (meant S w)
  where
    go : {m : Meaning} (o : Option NameSort) → find σ.names w ≡ o → Scenes.Told σ bs m o → CalleeTold σ bs l top w (callee_by l m)
    go none e Scenes.unknown = unknown (rw e refl)
    go (some a) e (Scenes.known a-type) = unknown (rw e refl)
    go (some a) e (Scenes.known (a-var v h)) = unknown (rw e refl)
    go (some a) e (Scenes.known a-value) = unknown (rw e refl)
    go (some a) e (Scenes.known (a-proc {q} {ts = us})) = known q us (frame_in l (get_or bs q 0)) (rw e refl) (takes-frame (S.frames w q us e))

-- ---- what is told

abbrev call_of : ℕ → Name → Option Syntax.Exprs → Option (Syntax.Stmt × ℕ)
call_of n w o = o >>= λ es. some (Syntax.call n w es, n)

call-number : (n : ℕ) (w : Name) (o : Option Syntax.Exprs) (p : Syntax.Stmt × ℕ) → call_of n w o ≡ some p → n ≡ p.1
call-number n w o p h = bind-some h λ es hes q. ap (λ (x : Syntax.Stmt × ℕ). x.1) (some_inj q)

module _ {σ : Environment} {bs js : List ℕ} {n top : ℕ} {l : List ℕ} {r : Got} {l' : List ℕ} (w : Name) (o : Option Syntax.Exprs) (us : List ℕ) (x : Frame) (t : ℕ) (l₁ : List ℕ) (a : Got) (l₂ : List ℕ)
    (A : ArgumentsTold σ us x o top t l₁ a l₂) where
  call-known-act : (p : ℕ) → (find σ.names w >>= as_proc) ≡ some (p, us) → Laid (lay (0 ∷ []) top l) t l₁
      → Node (lowest a.fault (few_fault x a.kind)) n a.next (50 ∷ n ∷ get_or bs p 0 ∷ top ∷ []) a.top l₂ r l' → ActTold σ bs js (call_of n w o) top l r l'
  unfolding lay_act lay
  call-known-act p hp K N =
      let S : stmt_staged σ js (bare (call_of n w o)) ≡ on_fits (arguments_staged σ us o) (λ cs. or_unfit (some (call_to n p cs)))
      = ap (stmt_staged σ js) (bare-one o (λ es. Syntax.call n w es) n) ∙ call-staged σ js n w p us hp o in
      record {
        fault-is = N.fault-is ∙ A.fault-is ∙ sym (ap fault_of S ∙ on-fault (λ cs. call_to n p cs) (arguments_staged σ us o));
        laid = λ z h.
            let b = on-fits (λ cs. call_to n p cs) (arguments_staged σ us o) z (sym S ∙ h) in
            let c = A.laid b.part b.part-fits in
            N.laid (A.fault-is ∙ ap fault_of b.part-fits) ∙ rw (c.0, c.1, K.free, K.left) refl ∙ ap (λ (x : Act). lay_act bs x top l) b.made;
        number = λ p h. N.kind-is ∙ call-number n w o p h;
      }

  call-unknown-act : {f : Fault} {q : ℕ} {ns : List ℕ} → (find σ.names w >>= as_proc) ≡ none → f ≡ lowest Unnamed (lowest a.fault (few_fault x a.kind)) → Node f n q ns a.top l₂ r l' → ActTold σ bs js (call_of n w o) top l r l'
  call-unknown-act hp e N =
      let S : stmt_staged σ js (bare (call_of n w o)) ≡ unknown_of (arguments_staged σ us o)
      = ap (stmt_staged σ js) (bare-one o (λ es. Syntax.call n w es) n) ∙ call-unknown σ js n w hp us o in
      record {
        fault-is = N.fault-is ∙ e ∙ ap (lowest Unnamed) A.fault-is ∙ sym (ap fault_of S ∙ unknown-fault Act (arguments_staged σ us o));
        laid = λ z h. absurd (unknown-fits (arguments_staged σ us o) z (sym S ∙ h));
        number = λ p h. N.kind-is ∙ call-number n w o p h;
      }

-- ---- the way

pub call-way : (s l ts : List ℕ) (scope : Scope) (n p at top : ℕ) (m : Meaning) (c : Callee) (t h : ℕ) (a r : Got) (l₁ l₂ l' : List ℕ) → m ≡ meaning_here s l scope p → c ≡ callee_by l m
    → Laid (lay (0 ∷ []) top l) t l₁ → h ≡ top → GivesArguments s l₁ ts scope c.frame h at t a l₂ → Makes (called l₂ n c top a) r l' → GivesCallNamed s l ts scope n p at top r l'
unfolding called
call-way s l ts scope n p at top m c t h a r l₁ l₂ l' em ec K eh G k =
    let N = node_of k in
    let g = lay-g (0 ∷ []) top l in
    let up : top ≤ t = rw K.free g.up in
    let same₁ : Same 0 top l₁ l = record { at = λ i p q. rw K.left (g.below i q) } in
    let up' : h ≤ t = rw eh up in
    let same₂ : Same 0 top l₂ l₁ = rw eh at (G.keeps up') in
    let gg = G.grows in
    let before : Leaves s at top l a l₂ = record { goes = G.goes; keeps = record { at = λ i p q. same₂.at i p q ∙ same₁.at i p q }; grows = omega arith } in
    record {
      leaves = node-leaves before (λ z. form-left a.fault (few_fault c.frame a.kind) (form-right c.fault (lowest a.fault (few_fault c.frame a.kind)) z)) N;
      says = λ σ bs js S. told σ bs js S c (rw (ec, em) (callee-told S (map small (word_at s p)))) (rw eh at G) N;
    }
  where
    told : (σ : Environment) (bs js : List ℕ) → Scene s l ts scope top σ bs → (c : Callee) → CalleeTold σ bs l top (map small (word_at s p)) c → GivesArguments s l₁ ts scope c.frame top at t a l₂
        → Node (lowest c.fault (lowest a.fault (few_fault c.frame a.kind))) n a.next (50 ∷ n ∷ c.place ∷ top ∷ []) a.top l₂ r l'
        → ActTold σ bs js (exprs_in 33 (first (stack_at s at)) >>= λ es. some (Syntax.call n (map small (word_at s p)) es, n)) top l r l'
    told σ bs js S _ (known q us x hp T) G N =
        let g = lay-g (0 ∷ []) top l in
        let same₁ : Same 0 top l₁ l = record { at = λ i p q. rw K.left (g.below i q) } in
        call-known-act (map small (word_at s p)) (exprs_in 33 (first (stack_at s at))) us x t l₁ a l₂
        (G.says σ bs us (scene-kept {top' = top} S same₁ (omega arith)) (takes-kept same₁ T) (rw K.free g.up)) q hp K N
    told σ bs js S _ (unknown hp) G N =
        let g = lay-g (0 ∷ []) top l in
        let same₁ : Same 0 top l₁ l = record { at = λ i p q. rw K.left (g.below i q) } in
        call-unknown-act (map small (word_at s p)) (exprs_in 33 (first (stack_at s at))) [] (framed 0 0 0) t l₁ a l₂
        (G.says σ bs [] (scene-kept {top' = top} S same₁ (omega arith)) (no-parameters l₁ top) (rw K.free g.up)) hp refl N
