-- The arguments of a call, one by one.
use mathlib.Core.Path.{◌≡◌, refl, sym, ap, ◌∙◌}
use mathlib.Core.Bool.{Bool, true, false, cond, true≢false}
use mathlib.Core.List.{List, [], ◌∷◌}
use mathlib.Core.Option.{Option, none, some}
use Prim.Native.Nat.{ℕ, suc, ◌+◌, ◌<◌, ◌≤◌}
use native.Mathlib.Omega.{arith}
use borrow.Author.Tests.{lt-ltb, ltb-true, ltb-false}
use lib.Dec.{eqb, ltb}
use lib.ListN.{length, drop, get_or, drop_of_length-le}
use lib.Seq.{drop-cons, get_or-set_other}
use Rattle.law.specs.Base.{◌>>=◌, given}
use Rattle.law.specs.Code.{Codes, no_codes, ◌with◌}
use Rattle.law.specs.Elaborate.{Elaborated}
use Rattle.law.specs.Environment.{Environment}
use Rattle.law.specs.Syntax as Syntax
use Rattle.law.specs.Trees.{Tree, Trees, end, ◌then◌, Run, first}
use Rattle.law_theorems.specs.Readings.{stack_at}
use Rattle.law.specs.Types.{host_of}
use Rattle.code.specs.Layout.{Out, out, lay, link, lay_code, lay_codes}
use Rattle.code.specs.LayoutRegions.{Same}
use Rattle.code.proofs.LayoutRegions.{lay-g}
use Rattle.rule_stages.specs.Stages.{Staged, wrong, unnamed, unfit, fits, staged, join, or_unfit, expr_staged, arguments_staged}
use Rattle.rule_stages.proofs.OnePassExprs.{argument-staged, argument-past, arguments-end, arguments-few}
use Rattle.table_list.specs.Laid.{Laid}
use Rattle.table_scope.specs.declared.frames.Frame.{Frame}
use Rattle.table_scope.specs.declared.Scope.{Scope}
use Rattle.table_scope.specs.Scene.{Scene}
use Rattle.table_scope.specs.Sides.{host_in}
use Rattle.table_scope.proofs.Kept.{scene-kept}
use Rattle.table_scope.proofs.Telling.{host-in}
use Rattle.text_heads.specs.Parts.{part_of, expr_in, exprs_in}
use Rattle.std.specs.Prelude.{Option as Maybe, Some, None}
use Rattle.text_parts.specs.Parts.{Shuts, ShutAt}
use Rattle.rule_faults.specs.declared.Fault.{Fault}
use Rattle.rule_faults.specs.declared.Fault.TheVariants.{Clear, Kind, Form}
use Rattle.rule_faults.specs.declared.Got.{Got}
use Rattle.rule_faults.specs.Got.{lowest, is_form, fault_of}
use Rattle.rule_faults.proofs.Order.{lowest-assoc}
use Rattle.rule_expr_nodes.specs.Members.{member_fault}
use Rattle.rule_expressions.specs.Walks.{GivesExpr}
use Rattle.rule_expressions.proofs.Joining.{wrong-fits, unfit-fits, fits-inj}
use Rattle.rule_expressions.proofs.Membership.{one_more, more-fault}
use Rattle.rule_expressions.proofs.Operators.{expr-missing}
use Rattle.rule_stmt_nodes.specs.Calls.{Takes, argument_fault, argument_got, few_fault}
use Rattle.rule_expr_nodes.specs.Links.{linked}
use Rattle.rule_stmt_nodes.specs.Nodes.{next_number, skip_got, finished_got}
use Rattle.rule_statements.specs.Arguments.{GivesArguments, ArgumentsLeft, Passing}
use Rattle.rule_statements.specs.Chains.{many}
use Rattle.rule_statements.proofs.Faults.{lowest-form, Both, tested-fits, form-is, same_refl}

-- ---- stages that never fit together

module _ {A B : Type 0} where
  never-fault : (C : Type 0) (S : Staged A) (T : Staged B) → fault_of (join {C = C} S T (λ x y. unfit)) ≡ lowest (lowest (fault_of S) Kind) (fault_of T)
  unfolding join
  never-fault C wrong T = refl
  never-fault C unnamed wrong = refl
  never-fault C unnamed unnamed = refl
  never-fault C unnamed unfit = refl
  never-fault C unnamed (fits y) = refl
  never-fault C unfit wrong = refl
  never-fault C unfit unnamed = refl
  never-fault C unfit unfit = refl
  never-fault C unfit (fits y) = refl
  never-fault C (fits x) wrong = refl
  never-fault C (fits x) unnamed = refl
  never-fault C (fits x) unfit = refl
  never-fault C (fits x) (fits y) = refl

  never-fits : {C : Type 0} (S : Staged A) (T : Staged B) (z : C) → join S T (λ x y. unfit) ≡ fits z → ⊥
  unfolding join or_unfit given
  never-fits S T z h = true≢false (sym (tested-fits (λ _ _. false) (λ _ _. z) S T z h).1)

-- ---- one argument more, after the first n

abbrev coded : Elaborated → Codes → Codes
coded y cs = y.code with cs

next_past : (n : ℕ) → n ≤ next_number n
unfolding next_number
next_past n = go (ltb n 4294967295)
  where
    go : (b : Bool) → n ≤ cond b (n + 1) n
    go true = omega arith
    go false = omega arith

next-suc : (n : ℕ) → n < 4294967295 → next_number n ≡ suc n
unfolding next_number
next-suc n h = rw (lt-ltb n 4294967295 h) (omega arith)

module _ (σ : Environment) (us : List ℕ) (few : length us ≤ 8) (n : ℕ) (e : Option Syntax.Expr) (es : Option Syntax.Exprs) where
  abbrev E : Staged Elaborated
  E = expr_staged σ e

  abbrev R : Staged Codes
  R = arguments_staged σ (drop (next_number n) us) es

  abbrev all : Option Syntax.Exprs
  all = e >>= λ x. es >>= λ y. some (Syntax.◌and◌ x y)

  within_step : n < length us → arguments_staged σ (drop n us) all ≡ join E R (one_more (host_of σ.types (get_or us n 0)))
  within_step h = rw (drop-cons us n 0 h, next-suc n (omega arith)) (argument-staged σ (get_or us n 0) (drop (suc n) us) e es)

  past-step : length us ≤ n → arguments_staged σ (drop n us) all ≡ join E R (λ y cs. unfit)
  past-step h = let p = next_past n in rw (drop_of_length-le us {i = n} h, drop_of_length-le us {i = next_number n} (omega arith)) (argument-past σ e es)

  step-fault : (kind : ℕ) → ((y : Elaborated) → E ≡ fits y → kind ≡ y.kind) → fault_of (arguments_staged σ (drop n us) all)
      ≡ lowest (cond (ltb n (length us)) (member_fault (fault_of E) kind (host_of σ.types (get_or us n 0))) (lowest (fault_of E) Kind)) (fault_of R)
  step-fault kind k = go (ltb n (length us)) refl
    where
      go : (b : Bool) → ltb n (length us) ≡ b → fault_of (arguments_staged σ (drop n us) all)
          ≡ lowest (cond b (member_fault (fault_of E) kind (host_of σ.types (get_or us n 0))) (lowest (fault_of E) Kind)) (fault_of R)
      go true i = ap fault_of (within_step (ltb-true n (length us) i)) ∙ more-fault (host_of σ.types (get_or us n 0)) kind E R k
      go false i = ap fault_of (past-step (ltb-false n (length us) i)) ∙ never-fault Codes E R

  step_fits : (z : Codes) → arguments_staged σ (drop n us) all ≡ fits z → Both coded E R z
  step_fits z h = go (ltb n (length us)) refl
    where
      go : (b : Bool) → ltb n (length us) ≡ b → Both coded E R z
      go true i = (tested-fits (λ (y : Elaborated) (cs : Codes). eqb (host_of σ.types (get_or us n 0)) y.kind) coded E R z (sym (within_step (ltb-true n (length us) i)) ∙ h)).0
      go false i = absurd (never-fits E R z (sym (past-step (ltb-false n (length us) i)) ∙ h))

-- ---- no argument more

module _ (σ : Environment) (us : List ℕ) (n : ℕ) where
  end-fault : fault_of (arguments_staged σ (drop n us) (some Syntax.nil)) ≡ cond (ltb n (length us)) Kind Clear
  end-fault = go (ltb n (length us)) refl
    where
      go : (b : Bool) → ltb n (length us) ≡ b → fault_of (arguments_staged σ (drop n us) (some Syntax.nil)) ≡ cond b Kind Clear
      go true i = rw (drop-cons us n 0 (ltb-true n (length us) i)) (ap fault_of (arguments-few σ (get_or us n 0) (drop (suc n) us)))
      go false i = rw (drop_of_length-le us {i = n} (ltb-false n (length us) i)) (ap fault_of (arguments-end σ))

  end_fits : (z : Codes) → arguments_staged σ (drop n us) (some Syntax.nil) ≡ fits z → z ≡ no_codes
  end_fits z h = go (ltb n (length us)) refl
    where
      go : (b : Bool) → ltb n (length us) ≡ b → z ≡ no_codes
      go true i = absurd (unfit-fits (sym (arguments-few σ (get_or us n 0) (drop (suc n) us)) ∙ (rw (drop-cons us n 0 (ltb-true n (length us) i)) at h)))
      go false i = sym (fits-inj (sym (arguments-end σ) ∙ (rw (drop_of_length-le us {i = n} (ltb-false n (length us) i)) at h)))

-- ---- by the frame in the working list

pub takes-kept : {l l' : List ℕ} {top : ℕ} {us : List ℕ} {x : Frame} → Same 0 top l' l → Takes l top us x → Takes l' top us x
takes-kept {x} K T =
    let b = T.types-below in
    record { count-is = T.count-is; types-below = T.types-below; types_are = λ j h. K.at (x.types + j) (omega arith) (omega arith) ∙ T.types_are j h; few = T.few }

argument-told : {s l ts : List ℕ} {scope : Scope} {top : ℕ} {σ : Environment} {bs : List ℕ} → Scene s l ts scope top σ bs → (us : List ℕ) (x : Frame) → Takes l top us x → (n : ℕ) (a : Got) (f : Fault) → a.fault ≡ f
    → argument_fault l ts x n a ≡ cond (ltb n (length us)) (member_fault f a.kind (host_of σ.types (get_or us n 0))) (lowest f Kind)
unfolding argument_fault
argument-told {s} {l} {ts} {scope} {top} {σ} S us x T n a f e = rw (T.count-is, e) (go (ltb n (length us)) refl)
  where
    go : (b : Bool) → ltb n (length us) ≡ b → cond b (member_fault f a.kind (host_in l ts (get_or l (x.types + n) 0))) (lowest f Kind) ≡ cond b (member_fault f a.kind (host_of σ.types (get_or us n 0))) (lowest f Kind)
    go true i = rw (T.types_are n (ltb-true n (length us) i), host-in S (get_or us n 0)) refl
    go false i = refl

few-told : (l : List ℕ) (top : ℕ) (us : List ℕ) (x : Frame) → Takes l top us x → (n : ℕ) → few_fault x n ≡ cond (ltb n (length us)) Kind Clear
unfolding few_fault
few-told l top us x T n = rw T.count-is refl

-- ---- the loop

exprs-first : (t : Tree Run) (ts us : Trees Run) → us ≡ (t then ts) → exprs_in 33 us ≡ (expr_in 33 us >>= λ x. exprs_in 33 ts >>= λ y. some (Syntax.◌and◌ x y))
unfolding exprs_in expr_in part_of
exprs-first t ts us h = rw h refl

exprs-none : (us : Trees Run) → (us ≡ end → ⊥) → expr_in 33 us ≡ none → exprs_in 33 us ≡ none
unfolding exprs_in expr_in part_of ◌>>=◌
exprs-none end n h = absurd (n refl)
exprs-none (t then ts) n h = rw h refl

exprs-end : exprs_in 33 end ≡ some Syntax.nil
unfolding exprs_in
exprs-end = refl

no_arguments : (σ : Environment) (us : List ℕ) → arguments_staged σ us none ≡ wrong
unfolding arguments_staged staged
no_arguments σ us = refl

link-codes : (y : Elaborated) (cs : Codes) (slot top : ℕ) (l : List ℕ) (p u : ℕ) (l₂ : List ℕ) (t : ℕ) (l₃ : List ℕ) → out p u l₂ ≡ lay_code y.code top l → Laid (linked slot p u l₂) t l₃
    → lay_codes (coded y cs) slot top l ≡ lay_codes cs (u + 1) t l₃
unfolding lay_code linked link lay
link-codes y cs slot top l p u l₂ t l₃ e k = rw (← e, k.free, k.left) refl

codes-end : (cs : Codes) (slot top : ℕ) (l : List ℕ) → cs ≡ no_codes → lay_codes cs slot top l ≡ out slot top l
unfolding lay_code
codes-end cs slot top l h = rw h refl

module _ (s l ts : List ℕ) (scope : Scope) (x : Frame) (slot at top : ℕ) where
  pub arguments-start : (g : Got) (p : ℕ) → g ≡ skip_got 0 at top → p ≡ slot → Passing s l ts scope x slot at top g p l
  arguments-start g p e h = rw (e, h) (record {
    around = refl;
    keeps = λ _. same_refl;
    above = λ _. omega arith;
    grows = omega arith;
    says = λ σ bs us S T u. record { fault-is = refl; laid = λ cs k. (cs, (k, refl)) };
  })

  module _ (g : Got) (slot' : ℕ) (l₁ : List ℕ) (D : Passing s l ts scope x slot at top g slot' l₁) (e : Maybe ℕ) (H : Shuts s g.next e) where
    pub arguments-past : (q : ℕ) (r : Got) → e ≡ Some q → r ≡ finished_got g q → GivesArguments s l ts scope x slot at top r l₁
    arguments-past q r h m =
        let X : ShutAt s g.next q = rw h at H.says in
        rw m (record {
          goes = λ _. D.around ∙ X.around;
          keeps = D.keeps;
          grows = D.grows;
          says = λ σ bs us S T u.
              let L : ArgumentsLeft σ us (exprs_in 33 (first (stack_at s at))) slot top l g.fault g.kind (some Syntax.nil) slot' g.top l₁ = rw (X.here, exprs-end) at (D.says σ bs us S T u) in
              record {
                fault-is = sym (L.fault-is ∙ ap (lowest g.fault) (end-fault σ us g.kind ∙ sym (few-told l slot us x T g.kind)));
                laid = λ cs k.
                    let d = L.laid cs k in
                    let z = d.1.1 ∙ codes-end d.0 slot' g.top l₁ (end_fits σ us g.kind d.0 d.1.0) in
                    (ap (λ (o : Out). o.top) (sym z), ap (λ (o : Out). o.list) (sym z));
              };
        })

    module _ (h : e ≡ None) (a : Got) (l₂ : List ℕ) (A : GivesExpr s l₁ ts scope 33 g.next g.top a l₂) (t : Bool) (et : t ≡ is_form a.fault) where
      scene-now : (σ : Environment) (bs : List ℕ) → Scene s l ts scope slot σ bs → slot ≤ top → Scene s l₁ ts scope g.top σ bs
      scene-now σ bs S u = scene-kept S (D.keeps u) (let y = D.grows in omega arith)

      pub arguments-wrong : t ≡ true → GivesArguments s l ts scope x slot at top a l₂
      arguments-wrong i =
          let du = D.grows in let au = A.moves.grows in
          let f = form-is a.fault (sym et ∙ i) in
          record {
            goes = λ z. absurd (true≢false (sym (sym et ∙ i) ∙ z));
            keeps = λ u. record { at = λ j p q. A.moves.keeps.at j p (omega arith) ∙ (D.keeps u).at j p q };
            grows = omega arith;
            says = λ σ bs us S T u.
                let z = exprs-none (first (stack_at s g.next)) (rw h at H.says) (expr-missing (A.says σ bs (scene-now σ bs S u)) (sym et ∙ i)) in
                let L = D.says σ bs us S T u in
                let w : fault_of (arguments_staged σ us (exprs_in 33 (first (stack_at s at)))) ≡ Form = L.fault-is ∙ rw (z, no_arguments σ (drop g.kind us)) (lowest-form g.fault) in
                record {
                  fault-is = rw f (sym w);
                  laid = λ cs k. absurd (wrong-fits (sym (no_arguments σ (drop g.kind us)) ∙ (rw z at (L.laid cs k).1.0)));
                };
          }

      module _ (i : t ≡ false) where
        here-now : (u : Tree Run) × (first (stack_at s g.next) ≡ (u then first (stack_at s a.next)))
        here-now = let b = A.moves.goes (sym et ∙ i) in (b.0, b.1.here)

        pub arguments-falls : (y : Got) (v : ℕ) (l₃ : List ℕ) → y ≡ argument_got l₃ ts x g a v → many (first (stack_at s y.next)) < many (first (stack_at s g.next))
        unfolding many
        arguments-falls y v l₃ e = rw (e, here-now.1) (omega arith)

        module _ (v : ℕ) (l₃ : List ℕ) (K : Laid (linked slot' a.place a.top l₂) v l₃) where
          kept-now : slot ≤ top → Same 0 slot l₃ l
          unfolding linked link
          kept-now u =
              let G = lay-g (a.place ∷ 0 ∷ []) a.top l₂ in
              let b = D.above u in let du = D.grows in let au = A.moves.grows in
              record {
                at = λ j p q. rw K.left (get_or-set_other (lay (a.place ∷ 0 ∷ []) a.top l₂).list slot' j (lay (a.place ∷ 0 ∷ []) a.top l₂).pos 0 (omega arith)
                    ∙ G.below j (omega arith) ∙ A.moves.keeps.at j p (omega arith) ∙ (D.keeps u).at j p q);
              }

          left-now : (σ : Environment) (bs us : List ℕ) → Scene s l ts scope slot σ bs → Takes l slot us x → slot ≤ top
              → ArgumentsLeft σ us (exprs_in 33 (first (stack_at s at))) slot top l (lowest g.fault (argument_fault l₃ ts x g.kind a)) (next_number g.kind) (exprs_in 33 (first (stack_at s a.next))) (a.top + 1) v l₃
          left-now σ bs us S T u =
              let L = D.says σ bs us S T u in
              let P = (A.says σ bs (scene-now σ bs S u)).told in
              let o = expr_in 33 (first (stack_at s g.next)) in
              let os = exprs_in 33 (first (stack_at s a.next)) in
              let B = exprs-first here-now.0 (first (stack_at s a.next)) (first (stack_at s g.next)) here-now.1 in
              let F = argument-told (scene-kept {top' = slot} S (kept-now u) (omega arith)) us x (takes-kept (kept-now u) T) g.kind a (fault_of (expr_staged σ o)) P.fault-is in
              record {
                fault-is = L.fault-is ∙ ap (lowest g.fault) (ap (λ (q : Option Syntax.Exprs). fault_of (arguments_staged σ (drop g.kind us) q)) B ∙ step-fault σ us T.few g.kind o os a.kind (λ y z. (P.laid y z).0))
                    ∙ rw F (lowest-assoc g.fault _ _);
                laid = λ cs k.
                    let d = L.laid cs k in
                    let b = step_fits σ us T.few g.kind o os d.0 (rw B at d.1.0) in (
                      b.two,
                      (
                        b.two_fits,
                        d.1.1 ∙ ap (λ (z : Codes). lay_codes z slot' g.top l₁) (sym b.made)
                            ∙ link-codes b.one b.two slot' g.top l₁ a.place a.top l₂ v l₃ (P.laid b.one b.one-fits).1 K,
                      ),
                    );
              }

          pub arguments-next : (y : Got) (w : ℕ) → w ≡ a.top + 1 → y ≡ argument_got l₃ ts x g a v → Passing s l ts scope x slot at top y w l₃
          unfolding linked link
          arguments-next y w ew ey =
              let G = lay-g (a.place ∷ 0 ∷ []) a.top l₂ in
              let du = D.grows in let au = A.moves.grows in let gu = G.up in let f = K.free in
              rw (ey, ew) (record {
                around = D.around ∙ (A.moves.goes (sym et ∙ i)).1.around;
                keeps = kept-now;
                above = λ u. omega arith;
                grows = omega arith;
                says = left-now;
              })

pub ruleset arguments-laws = (arguments-past, arguments-wrong)
