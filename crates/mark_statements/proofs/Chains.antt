-- The ways through statements in a row: those of a form, and those of a body before its handler.
use mathlib.Core.Path.{◌≡◌, refl, sym, ap, subst, ◌∙◌}
use mathlib.Core.Bool.{Bool, true, false}
use mathlib.Core.List.{List}
use mathlib.Core.Option.{Option, none, some}
use Prim.Native.Nat.{ℕ, ◌+◌, ◌<◌, ◌≤◌}
use native.Mathlib.Omega.{arith}
use lib.Dec.{ltb}
use lib.IntN.{ℤ}
use Rattle.law.specs.Base.{◌>>=◌, given}
use Rattle.law.specs.Environment.{Environment}
use Rattle.law.specs.Machine.{Store, State, state, Answer, answer, normal, and_then}
use Rattle.law.specs.Marking.{mark_stmts}
use Rattle.law.specs.Names.{stmts_of}
use Rattle.law.specs.Script as Script
use Rattle.law.specs.Syntax.{Body, Stmt, Stmts, done, ◌next◌}
use Rattle.law.specs.Trees.{Tree, word, form, Trees, end, ◌then◌, Run, first, later}
use Rattle.law_theorems.specs.Readings.{stack_at}
use Rattle.law_theorems.proofs.Inversion.{some_inj, bind-some}
use Rattle.text_heads.specs.Parts.{rest, stmt_in, stmts_in, body_in, handler_in}
use Rattle.std.specs.Prelude.{Option as Maybe, Some, None}
use Rattle.text_parts.specs.Parts.{Shuts}
use Rattle.rule_stmt_nodes.specs.declared.last.Next.{Next}
use Rattle.rule_stmt_nodes.specs.declared.last.Next.TheVariants as following
use Rattle.rule_stmt_nodes.specs.Handlers.{Comes, HandlerAt, PlainAt}
use Rattle.text_skips.specs.Skips.{Skips}
use Rattle.mark_counts.specs.Statements.{CountsStatements, verbs, verbs_in}
use Rattle.mark_counts.proofs.Numbers.{stmts-first, stmts-number, body-first, body-number, body-handler}
use Rattle.mark_counts.proofs.Passing.{stmts-on, body-on}
use Rattle.rule_expressions.specs.Members.{many}
use Rattle.mark_steps.specs.Ends.{left_in}
use Rattle.mark_steps.specs.Stands.{Goes, Stands}
use Rattle.mark_cells.proofs.Ending.{left-most, left-of}
use Rattle.mark_acts.specs.Ends.{MarkEnds, MarkRuns}
use Rattle.mark_acts.proofs.Ending.{normal-marks}
use Rattle.mark_statements.specs.Marks.{Found, FoundAll, Setting, front_in, machine, machines, MarksStmt, MarksStmts, MarksFront}
use Rattle.mark_statements.proofs.Machines.{halted, going, goes-next, stops-there, goes-ends}
use Rattle.table_scope.specs.declared.Scope.{Scope}

-- ---- what was found of statements: none, or a first one and others

-- the parts read as a first statement and others
pub record Split (o : Option (Stmts × ℕ)) (a : Option (Stmt × ℕ)) (b : Option (Stmts × ℕ)) : Type 0 where
  pub splits : (p : Stmts × ℕ) → o ≡ some p → p.1 ≤ 4294967295
      → (x : Stmt × ℕ) × ((y : Stmts × ℕ) × ((a ≡ some x) × ((b ≡ some y) × (((x.0 next y.0, y.1) ≡ p) × (x.1 ≤ 4294967295)))))

pub record First (σ : Environment) (a : Option (Stmt × ℕ)) (b : Option (Stmts × ℕ)) (ys : Script.Stmts) : Type 0 where
  pub head : Found σ a
  pub others : FoundAll σ b
  pub same : ys ≡ Script.◌next◌ head.stmt others.stmts

module _ {σ : Environment} {o : Option (Stmts × ℕ)} (X : FoundAll σ o) where
  found-done : ((p : Stmts × ℕ) → o ≡ some p → p.0 ≡ done) → X.stmts ≡ Script.done
  unfolding stmts_of
  found-done h = sym (some_inj (ap (stmts_of σ) (sym (h X.form X.reads)) ∙ X.names))

  found_first : (a : Option (Stmt × ℕ)) (b : Option (Stmts × ℕ)) → Split o a b → First σ a b X.stmts
  unfolding stmts_of
  found_first a b S =
      let z = S.splits X.form X.reads X.few in
      let e : (z.0.0 next z.1.0.0, z.1.0.1) ≡ X.form = z.1.1.1.1.0 in
      bind-some (ap (λ (p : Stmts × ℕ). stmts_of σ p.0) e ∙ X.names) λ y hy f. bind-some f λ ys hys j. record {
        head = record { form = z.0; stmt = y; reads = z.1.1.0; names = hy; few = z.1.1.1.1.1 };
        others = record { form = z.1.0; stmts = ys; reads = z.1.1.1.0; names = hys; few = subst (λ (p : Stmts × ℕ). p.1 ≤ 4294967295) (sym e) X.few };
        same = sym (some_inj j);
      }

-- ---- the statements that are left. R reads them, from a number on

pub record StmtsLeft {s l us ts tb : List ℕ} {scope : Scope} {calls : ℕ} (F : Setting s l us ts tb scope calls) (a : Answer) (o : Option (Stmts × ℕ)) (ws : List ℤ) (t : ℕ) : Type 0 where
  pub found : FoundAll F.env o
  pub goes : Goes a (machines F found.stmts) ws t

pub record Following (R : ℕ → Trees Run → Option (Stmts × ℕ)) (s l us ts tb : List ℕ) (scope : Scope) (calls : ℕ) (n at : ℕ) (ws : List ℤ) (left : ℕ) (m p : ℕ) (vs : List ℤ) (t : ℕ) : Type 0 where
  pub goes : (F : Setting s l us ts tb scope calls) (X : FoundAll F.env (R n (first (stack_at s at)))) (k : Store) → Stands ws left k
      → StmtsLeft F (machines F X.stmts (state k left)) (R m (first (stack_at s p))) vs t
  pub fewer : t ≤ left

-- so the walk over them runs
pub record Walks (R : ℕ → Trees Run → Option (Stmts × ℕ)) (s l us ts tb : List ℕ) (scope : Scope) (calls : ℕ) (n at : ℕ) (ws : List ℤ) (left : ℕ) (ws' : List ℤ) (r : ℕ) : Type 0 where
  pub runs : (F : Setting s l us ts tb scope calls) (X : FoundAll F.env (R n (first (stack_at s at)))) → MarkRuns (machines F X.stmts) ws left ws' r
  pub fewer : left_in r ≤ left

none_left : {s l us ts tb : List ℕ} {scope : Scope} {calls : ℕ} (F : Setting s l us ts tb scope calls) (t : State) → machines F Script.done t ≡ answer normal t
unfolding mark_stmts
none_left F t = refl

first-left : {s l us ts tb : List ℕ} {scope : Scope} {calls : ℕ} (F : Setting s l us ts tb scope calls) (y : Script.Stmt) (ys : Script.Stmts) (t : State)
    → machines F (Script.◌next◌ y ys) t ≡ and_then (machine F y t) (machines F ys)
unfolding mark_stmts
first-left F y ys t = refl

module _ (R : ℕ → Trees Run → Option (Stmts × ℕ)) (s l us ts tb : List ℕ) (scope : Scope) (calls : ℕ) (n at : ℕ) (ws : List ℤ) (left : ℕ) where
  chain-start : Following R s l us ts tb scope calls n at ws left n at ws left
  chain-start = record { goes = λ F X k S. record { found = X; goes = record { store = k; stands = S; rest = refl } }; fewer = omega arith }

  module _ (m p : ℕ) (vs : List ℤ) (t : ℕ) (G : Following R s l us ts tb scope calls n at ws left m p vs t) where
    chain-done : ((x : Stmts × ℕ) → R m (first (stack_at s p)) ≡ some x → x.0 ≡ done) → Walks R s l us ts tb scope calls n at ws left vs t
    chain-done h = record { runs = λ F X. record { says = λ k S. go F (G.goes F X k S) }; fewer = omega (arith, left-most t, G.fewer) }
      where
        go : {a : Answer} (F : Setting s l us ts tb scope calls) → StmtsLeft F a (R m (first (stack_at s p))) vs t → MarkEnds a vs t
        go F Y = goes-ends Y.goes (λ k S. subst (λ (x : Answer). MarkEnds x vs t)
            (sym (ap (λ (ys : Script.Stmts). machines F ys (state k t)) (found-done Y.found h) ∙ none_left F (state k t))) (normal-marks vs t k S))

    module _ (d : ℕ) (b : Option (Stmts × ℕ)) (T : Split (R m (first (stack_at s p))) (stmt_in d m (first (stack_at s p))) b)
        (os : List ℤ) (o : ℕ) (E : MarksStmt s l us ts tb scope calls d m p vs t os o) where
      -- the first of those that are left, and the others
      next-left : {a : Answer} (F : Setting s l us ts tb scope calls) (Y : StmtsLeft F a (R m (first (stack_at s p))) vs t)
          (Z : First F.env (stmt_in d m (first (stack_at s p))) b Y.found.stmts)
          → a ≡ and_then (machine F Z.head.stmt (state Y.goes.store t)) (machines F Z.others.stmts)
      next-left F Y Z =
          Y.goes.rest ∙ ap (λ (ys : Script.Stmts). machines F ys (state Y.goes.store t)) Z.same ∙ first-left F Z.head.stmt Z.others.stmts (state Y.goes.store t)

      chain-stops : 4294967295 < o → Walks R s l us ts tb scope calls n at ws left os o
      chain-stops h = record { runs = λ F X. record { says = λ k S. go F (G.goes F X k S) }; fewer = omega (arith, E.fewer, G.fewer) }
        where
          go : {a : Answer} (F : Setting s l us ts tb scope calls) → StmtsLeft F a (R m (first (stack_at s p))) vs t → MarkEnds a os o
          go F Y =
              let Z = found_first Y.found (stmt_in d m (first (stack_at s p))) b T in
              subst (λ (x : Answer). MarkEnds x os o) (sym (next-left F Y Z))
              (stops-there (machine F Z.head.stmt (state Y.goes.store t)) (machines F Z.others.stmts) os o ((E.runs F Z.head).says Y.goes.store Y.goes.stands) h)

      on-left : o ≤ 4294967295 → {a : Answer} (F : Setting s l us ts tb scope calls) → StmtsLeft F a (R m (first (stack_at s p))) vs t → StmtsLeft F a b os o
      on-left h F Y =
          let Z = found_first Y.found (stmt_in d m (first (stack_at s p))) b T in
          let H = goes-next (machine F Z.head.stmt (state Y.goes.store t)) (machines F Z.others.stmts) os o ((E.runs F Z.head).says Y.goes.store Y.goes.stands) h in
          record { found = Z.others; goes = record { store = H.store; stands = H.stands; rest = next-left F Y Z ∙ H.rest } }

    chain_next : (d m' q : ℕ) → Split (R m (first (stack_at s p))) (stmt_in d m (first (stack_at s p))) (R m' (first (stack_at s q)))
        → (os : List ℤ) (o : ℕ) → MarksStmt s l us ts tb scope calls d m p vs t os o → o ≤ 4294967295 → Following R s l us ts tb scope calls n at ws left m' q os o
    chain_next d m' q T os o E h = record {
      goes = λ F X k S. on-left d (R m' (first (stack_at s q))) T os o E h F (G.goes F X k S);
      fewer = omega (arith, left-of o h, E.fewer, G.fewer);
    }

-- ---- a part more is passed
falls : (s : List ℕ) (p q : ℕ) → Skips s p q → ((first (stack_at s p) ≡ end) → ⊥) → many (first (stack_at s q)) < many (first (stack_at s p))
unfolding many
falls s p q Q h = go (first (stack_at s p)) refl
  where
    go : (us : Trees Run) → first (stack_at s p) ≡ us → many (first (stack_at s q)) < many us
    go end i = absurd (h i)
    go (u then us) i = let b : us ≡ first (stack_at s q) = ap rest (sym i ∙ (Q.says u us i).here) in rw b (omega arith)

module _ (s : List ℕ) (p q r m m' : ℕ) (Q : Skips s p q) (C : CountsStatements s p r) (M : m + r ≤ 4294967295 → m' ≡ m + r) where
  -- those of a form
  stmts-split : (d : ℕ) → ((first (stack_at s p) ≡ end) → ⊥) → Split (stmts_in d m (first (stack_at s p))) (stmt_in d m (first (stack_at s p))) (stmts_in d m' (first (stack_at s q)))
  stmts-split d n = record { splits = λ x h l. go x h l (first (stack_at s p)) refl }
    where
      go : (x : Stmts × ℕ) → stmts_in d m (first (stack_at s p)) ≡ some x → x.1 ≤ 4294967295 → (us : Trees Run) → first (stack_at s p) ≡ us
          → (a : Stmt × ℕ) × ((b : Stmts × ℕ) × ((stmt_in d m (first (stack_at s p)) ≡ some a) × ((stmts_in d m' (first (stack_at s q)) ≡ some b) × (((a.0 next b.0, b.1) ≡ x) × (a.1 ≤ 4294967295)))))
      go x h l end z = absurd (n z)
      go x h l (t then us) z = stmts-on s p r C q t d m x (Q.says t us z) h λ a b ha hb e.
          let v : b.1 ≡ m + r + verbs_in (first (stack_at s q)) = stmts-number d (m + r) (first (stack_at s q)) b hb in
          let w : b.1 ≡ x.1 = ap (λ (y : Stmts × ℕ). y.1) e in
          let u : m + r ≤ 4294967295 = omega (arith, v, w, l) in
          ((a, m + r), (b, (ha, (ap (λ (y : ℕ). stmts_in d y (first (stack_at s q))) (M u) ∙ hb, (e, u)))))

  -- those of a body
  front-split : PlainAt s p → Split (front_in m (first (stack_at s p))) (stmt_in 33 m (first (stack_at s p))) (front_in m' (first (stack_at s q)))
  unfolding front_in ◌>>=◌
  front-split P = record { splits = λ x h l. bind-some h λ y hy e. go x y hy (some_inj e) l (first (stack_at s p)) refl }
    where
      go : (x : Stmts × ℕ) (y : Body × ℕ) → body_in m (first (stack_at s p)) ≡ some y → (y.0.stmts, y.1) ≡ x → x.1 ≤ 4294967295 → (us : Trees Run) → first (stack_at s p) ≡ us
          → (a : Stmt × ℕ) × ((b : Stmts × ℕ) × ((stmt_in 33 m (first (stack_at s p)) ≡ some a) × ((front_in m' (first (stack_at s q)) ≡ some b) × (((a.0 next b.0, b.1) ≡ x) × (a.1 ≤ 4294967295)))))
      go x y h f l end z = absurd (P.more z)
      go x y h f l (t then us) z = body-on s p r C q t m y (Q.says t us z) (P.plain t us z) h λ a b ha hb e.
          let v : b.1 ≡ m + r + verbs_in (first (stack_at s q)) = body-number (m + r) (first (stack_at s q)) b hb in
          let w : b.1 ≡ y.1 = ap (λ (c : Body × ℕ). c.1) e in
          let o : y.1 ≡ x.1 = ap (λ (c : Stmts × ℕ). c.1) f in
          let u : m + r ≤ 4294967295 = omega (arith, v, w, o, l) in
          ((a, m + r), ((b.0.stmts, b.1), (ha, (rw (M u, hb) refl, (ap (λ (c : Body × ℕ). (c.0.stmts, c.1)) e ∙ f, u)))))

-- the first of them alone
module _ (s : List ℕ) (p m : ℕ) where
  stmts-head : (d : ℕ) → ((first (stack_at s p) ≡ end) → ⊥) → (b : Option (Stmts × ℕ)) × Split (stmts_in d m (first (stack_at s p))) (stmt_in d m (first (stack_at s p))) b
  stmts-head d n = go (first (stack_at s p)) n
    where
      go : (us : Trees Run) → ((us ≡ end) → ⊥) → (b : Option (Stmts × ℕ)) × Split (stmts_in d m us) (stmt_in d m us) b
      go end n = absurd (n refl)
      go (t then us) n = (
        stmts_in d (m + verbs t) us,
        record {
          splits = λ x h l. stmts-first d m t us x h λ a b ha hb e.
              let v : b.1 ≡ m + verbs t + verbs_in us = stmts-number d (m + verbs t) us b hb in
              let w : b.1 ≡ x.1 = ap (λ (y : Stmts × ℕ). y.1) e in
              ((a, m + verbs t), (b, (ha, (hb, (e, omega (arith, v, w, l))))));
        },
      )

  front-head : PlainAt s p → (b : Option (Stmts × ℕ)) × Split (front_in m (first (stack_at s p))) (stmt_in 33 m (first (stack_at s p))) b
  unfolding front_in ◌>>=◌
  front-head P = go (first (stack_at s p)) P.more P.plain
    where
      go : (us : Trees Run) → ((us ≡ end) → ⊥) → ((t : Tree Run) (ts : Trees Run) → us ≡ (t then ts) → handler_in t ≡ none)
          → (b : Option (Stmts × ℕ)) × Split (front_in m us) (stmt_in 33 m us) b
      go end n f = absurd (n refl)
      go (t then us) n f = (
        front_in (m + verbs t) us,
        record {
          splits = λ x h l. bind-some h λ y hy g. body-first m t us y (f t us refl) hy λ a b ha hb e.
              let v : b.1 ≡ m + verbs t + verbs_in us = body-number (m + verbs t) us b hb in
              let w : b.1 ≡ y.1 = ap (λ (c : Body × ℕ). c.1) e in
              let o : y.1 ≡ x.1 = ap (λ (c : Stmts × ℕ). c.1) (some_inj g) in
              ((a, m + verbs t), ((b.0.stmts, b.1), (ha, (rw hb refl, (ap (λ (c : Body × ℕ). (c.0.stmts, c.1)) e ∙ some_inj g, omega (arith, v, w, o, l))))));
        },
      )

-- ---- `stmts`
module _ (s l us ts tb : List ℕ) (scope : Scope) (calls d n at : ℕ) (ws : List ℤ) (left : ℕ) where
  pub stmts-start : Following (stmts_in d) s l us ts tb scope calls n at ws left n at ws left
  stmts-start = chain-start (stmts_in d) s l us ts tb scope calls n at ws left

  as-stmts : (vs : List ℤ) (r : ℕ) → Walks (stmts_in d) s l us ts tb scope calls n at ws left vs r → MarksStmts s l us ts tb scope calls d n at ws left vs r
  as-stmts vs r W = record { runs = W.runs; fewer = W.fewer }

  module _ (m p : ℕ) (vs : List ℤ) (t : ℕ) (G : Following (stmts_in d) s l us ts tb scope calls n at ws left m p vs t) (e : Maybe ℕ) (E : Shuts s p e) where
    pub stmts-end : (q : ℕ) → e ≡ Some q → MarksStmts s l us ts tb scope calls d n at ws left vs t
    unfolding stmts_in
    stmts-end q h = as-stmts vs t (chain-done (stmts_in d) s l us ts tb scope calls n at ws left m p vs t G
        (λ x k. ap (λ (y : Stmts × ℕ). y.0) (sym (some_inj (rw (rw h at E.says).here at k)))))

    module _ (h : e ≡ None) (os : List ℤ) (o : ℕ) (X : MarksStmt s l us ts tb scope calls d m p vs t os o) (i : Bool) (I : i ≡ ltb 4294967295 o) where
      not_end : (first (stack_at s p) ≡ end) → ⊥
      not_end = rw h at E.says

      pub stmts-stop : i ≡ true → MarksStmts s l us ts tb scope calls d n at ws left os o
      stmts-stop k =
          let H = stmts-head s p m d not_end in
          as-stmts os o (chain-stops (stmts_in d) s l us ts tb scope calls n at ws left m p vs t G d H.0 H.1 os o X (halted i o I k))

      module _ (r m' q : ℕ) (C : CountsStatements s p r) (M : m + r ≤ 4294967295 → m' ≡ m + r) (Q : Skips s p q) where
        pub stmts-next : i ≡ false → Following (stmts_in d) s l us ts tb scope calls n at ws left m' q os o
        stmts-next k = chain_next (stmts_in d) s l us ts tb scope calls n at ws left m p vs t G d m' q (stmts-split s p q r m m' Q C M d not_end) os o X (going i o I k)

-- ---- `front`
module _ (s l us ts tb : List ℕ) (scope : Scope) (calls n at : ℕ) (ws : List ℤ) (left : ℕ) where
  pub front-start : Following front_in s l us ts tb scope calls n at ws left n at ws left
  front-start = chain-start front_in s l us ts tb scope calls n at ws left

  as-front : (vs : List ℤ) (r : ℕ) → Walks front_in s l us ts tb scope calls n at ws left vs r → MarksFront s l us ts tb scope calls n at ws left vs r
  as-front vs r W = record { runs = W.runs; fewer = W.fewer }

  module _ (m p : ℕ) (vs : List ℤ) (t : ℕ) (G : Following front_in s l us ts tb scope calls n at ws left m p vs t) (e : Next) (E : Comes s p e) where
    pub front-past : (q : ℕ) → e ≡ following.Past q → MarksFront s l us ts tb scope calls n at ws left vs t
    unfolding front_in body_in ◌>>=◌
    front-past q h = as-front vs t (chain-done front_in s l us ts tb scope calls n at ws left m p vs t G
        (λ x k. ap (λ (y : Stmts × ℕ). y.0) (sym (some_inj (rw (rw h at E.says).here at k)))))

    pub front-handler : (q : ℕ) → e ≡ following.Handler q → MarksFront s l us ts tb scope calls n at ws left vs t
    unfolding front_in handler_in given
    front-handler q h = as-front vs t (chain-done front_in s l us ts tb scope calls n at ws left m p vs t G (λ x k. bind-some k λ y hy f. go x y hy (some_inj f)))
      where
        H : HandlerAt s p q
        H = rw h at E.says

        go : (x : Stmts × ℕ) (y : Body × ℕ) → body_in m (first (stack_at s p)) ≡ some y → (y.0.stmts, y.1) ≡ x → x.0 ≡ done
        go x y k f = body-handler m (form (word H.head then first (stack_at s q))) (first (stack_at s q)) (first (later (stack_at s q))) y
            (rw H.exception refl) (ap (body_in m) (sym H.here) ∙ k) λ u z hu g.
            ap (λ (v : Stmts × ℕ). v.0) (sym f) ∙ ap (λ (v : Body × ℕ). v.0.stmts) (sym g)

    module _ (h : e ≡ following.Stmt) (os : List ℤ) (o : ℕ) (X : MarksStmt s l us ts tb scope calls 33 m p vs t os o) (i : Bool) (I : i ≡ ltb 4294967295 o) where
      plainly : PlainAt s p
      plainly = rw h at E.says

      pub front-stop : i ≡ true → MarksFront s l us ts tb scope calls n at ws left os o
      front-stop k =
          let H = front-head s p m plainly in
          as-front os o (chain-stops front_in s l us ts tb scope calls n at ws left m p vs t G 33 H.0 H.1 os o X (halted i o I k))

      module _ (r m' q : ℕ) (C : CountsStatements s p r) (M : m + r ≤ 4294967295 → m' ≡ m + r) (Q : Skips s p q) where
        pub front-next : i ≡ false → Following front_in s l us ts tb scope calls n at ws left m' q os o
        front-next k = chain_next front_in s l us ts tb scope calls n at ws left m p vs t G 33 m' q (front-split s p q r m m' Q C M plainly) os o X (going i o I k)

pub stmts-falls : (s : List ℕ) (p q : ℕ) (e : Maybe ℕ) → Shuts s p e → e ≡ None → Skips s p q → many (first (stack_at s q)) < many (first (stack_at s p))
stmts-falls s p q e E h Q = falls s p q Q (rw h at E.says)

pub front-falls : (s : List ℕ) (p q : ℕ) (e : Next) → Comes s p e → e ≡ following.Stmt → Skips s p q → many (first (stack_at s q)) < many (first (stack_at s p))
front-falls s p q e E h Q = falls s p q Q (rw h at E.says).more

pub ruleset stmts-laws = (stmts-end, stmts-stop)

pub ruleset front-laws = (front-past, front-handler, front-stop)
