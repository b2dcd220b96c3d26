-- The ways through bodies: their statements, their handler, and their line in the table.
use mathlib.Core.Path.{◌≡◌, refl, sym, ap, subst, ◌∙◌}
use mathlib.Core.Bool.{true}
use mathlib.Core.List.{List, []}
use mathlib.Core.Logic.{inl, inr}
use mathlib.Core.Option.{some}
use Prim.Native.Nat.{ℕ, suc, ◌<◌, ◌≤◌}
use native.Mathlib.Omega.{arith}
use lib.IntN.{ℤ}
use lib.ListN.{length, get_or, replicate, take}
use Rattle.law.specs.Base.{◌>>=◌}
use Rattle.law.specs.Environment.{Environment, PlacedBody}
use Rattle.law.specs.Machine.{Store, State, state, Answer, handled}
use Rattle.law.specs.Marking.{mark_stmts}
use Rattle.law.specs.Names.{body_of, stmts_of}
use Rattle.law.specs.Script as Script
use Rattle.law.specs.Syntax.{Body}
use Rattle.law.specs.Trees.{first}
use Rattle.law_theorems.specs.Readings.{stack_at}
use Rattle.law.specs.Types.{Types, Vars}
use Rattle.law.specs.Whole.{mark_body, mark_all}
use Rattle.law_theorems.proofs.Inversion.{some_inj, bind-some}
use Rattle.text_heads.specs.Parts.{stmts_in, body_in}
use Rattle.mark_steps.specs.Ends.{left_in}
use Rattle.mark_steps.specs.Stands.{Stands}
use Rattle.mark_acts.specs.Ends.{MarkEnds, MarkRuns}
use Rattle.table_bodies.specs.Procedures.{procs_of}
use Rattle.table_bodies.specs.Table.{most_types, clip, Clips, offset_of, scope_of, stmts_before, types_of, BodyStands, AllStand}
use Rattle.table_bodies.proofs.Calling.{all-is}
use Rattle.table_bodies.proofs.Scenes.{scene-types}
use Rattle.std.specs.Prelude.{Some, None, Option as Held}
use Rattle.mark_statements.specs.declared.finding.Line.{Line}
use Rattle.mark_statements.specs.Finding.{line_of, Handles}
use Rattle.mark_statements.specs.Marks.{FoundAll, FoundBody, Setting, front_in, machines, serving, MarksStmts, MarksFront, MarksWithin, MarksBody}
use Rattle.mark_statements.proofs.Branching.{runs_as}
use Rattle.mark_statements.proofs.Machines.{not-caught, not-handled, is-caught}
use Rattle.table_scope.specs.declared.Scope.{Scope}

-- ---- what was found of a body: its statements, whether it has a handler, and that handler's
pub record BodyFound (σ : Environment) (b : Body) (x : Script.Body) : Type 0 where
  pub stmts-are : stmts_of σ b.stmts ≡ some x.stmts
  pub handler-are : stmts_of σ b.handler ≡ some x.handler
  pub handles-is : x.handles ≡ b.handles

body-found : (σ : Environment) (b : Body) (x : Script.Body) → body_of σ b ≡ some x → BodyFound σ b x
unfolding body_of
body-found σ b x h = bind-some h λ y hy h. bind-some h λ z hz e. subst (BodyFound σ b) (some_inj e) (record { stmts-are = hy; handler-are = hz; handles-is = refl })

-- ---- `body_from`
module _ (s l us ts tb : List ℕ) (scope : Scope) (calls n at : ℕ) (ws : List ℤ) (left : ℕ) (vs : List ℤ) (o : ℕ) (W : MarksFront s l us ts tb scope calls n at ws left vs o) where
  module _ (F : Setting s l us ts tb scope calls) (X : FoundBody F.env (body_in n (first (stack_at s at)))) where
    fronts : FoundAll F.env (front_in n (first (stack_at s at)))
    unfolding front_in ◌>>=◌
    fronts = record { form = (X.form.0.stmts, X.form.1); stmts = X.body.stmts; reads = rw X.reads refl; names = (body-found F.env X.form.0 X.body X.names).stmts-are; few = X.few }

    front_ends : (k : Store) → Stands ws left k → MarkEnds (machines F X.body.stmts (state k left)) vs o
    unfolding fronts
    front_ends k S = (W.runs F fronts).says k S

  -- an end that is no exception's
  pub within-calm : o < 8589934592 → MarksWithin s l us ts tb scope calls n at ws left vs o
  within-calm h = record {
    runs = λ F X. record { says = λ k S. not-caught X.body.handles (machines F X.body.stmts (state k left)) (machines F X.body.handler) vs o (front_ends F X k S) (inl h) };
    fewer = W.fewer;
  }

  pub within-stuck : 12884901888 ≤ o → MarksWithin s l us ts tb scope calls n at ws left vs o
  within-stuck h = record {
    runs = λ F X. record { says = λ k S. not-caught X.body.handles (machines F X.body.stmts (state k left)) (machines F X.body.handler) vs o (front_ends F X k S) (inr h) };
    fewer = W.fewer;
  }

  module _ (g : Held (ℕ × ℕ)) (H : Handles s n at g) where
    pub within-plain : g ≡ None → MarksWithin s l us ts tb scope calls n at ws left vs o
    within-plain e = record {
      runs = λ F X. record {
        says = λ k S. not-handled X.body.handles (machines F X.body.stmts (state k left)) (machines F X.body.handler) vs o (front_ends F X k S)
            ((body-found F.env X.form.0 X.body X.names).handles-is ∙ (rw e at (H.says X.form X.reads X.few)));
      };
      fewer = W.fewer;
    }

    pub within-handled : (q m t : ℕ) (ws' : List ℤ) (r : ℕ) → 8589934592 ≤ o → o < 12884901888 → g ≡ Some (q, m) → t ≡ left_in o → MarksStmts s l us ts tb scope calls 33 m q vs t ws' r
        → MarksWithin s l us ts tb scope calls n at ws left ws' r
    within-handled q m t ws' r h i e T R = record {
      runs = λ F X. record { says = λ k S. go F X k S (rw e at (H.says X.form X.reads X.few)) };
      fewer = omega (arith, R.fewer, T, W.fewer);
    }
      where
        go : (F : Setting s l us ts tb scope calls) (X : FoundBody F.env (body_in n (first (stack_at s at)))) (k : Store) → Stands ws left k
            → (X.form.0.handles ≡ true) × (stmts_in 33 m (first (stack_at s q)) ≡ some (X.form.0.handler, X.form.1)) → MarkEnds (serving F X.body (state k left)) ws' r
        go F X k S Y =
            let B = body-found F.env X.form.0 X.body X.names in
            is-caught X.body.handles (machines F X.body.stmts (state k left)) (machines F X.body.handler) vs o (front_ends F X k S) ws' r (B.handles-is ∙ Y.0) h i
            (λ j J. subst (λ (c : ℕ). MarkEnds (machines F X.body.handler (state j c)) ws' r) T
            ((R.runs F (record { form = (X.form.0.handler, X.form.1); stmts = X.body.handler; reads = Y.1; names = B.handler-are; few = X.few })).says j
            (subst (λ (c : ℕ). Stands vs c j) (sym T) J)))

pub ruleset within-laws = (within-calm, within-stuck, within-plain, within-handled)

-- ---- `mark_body`
module _ (s l us tb : List ℕ) (calls q : ℕ) (ws : List ℤ) (left : ℕ) (ts₀ ts : List ℕ) (C : Clips us (types_of tb q) ts₀ ts) (L : length ts₀ ≡ most_types) (ws' : List ℤ) (r : ℕ)
    (W : MarksWithin s l us ts tb (scope_of tb q) calls (stmts_before tb q) (offset_of tb q) ws left ws' r) where
  module _ (places : List ℕ) (bodies : List PlacedBody) (other : PlacedBody) (A : AllStand s l us tb places bodies other) (h : q < length bodies) (g : q ≤ calls) where
    abbrev stood : BodyStands s l us tb places (get_or bodies q other) q
    stood = A.each q h

    -- where the body is run
    setting : Setting s l us ts tb (scope_of tb q) calls
    setting = record {
      env = stood.env;
      places = places;
      bodies = bodies;
      other = other;
      before = q;
      top = stood.top;
      scene = scene-types s l (clip (types_of tb q) us) ts (C.places (omega (arith, L, stood.few-types))) (scope_of tb q) stood.top stood.env (take q places) stood.scene;
      placed = stood.before;
      small = stood.small;
      all = A;
      callees = A.callees q h;
      few = h;
      deep = g;
    }

    found-body : FoundBody stood.env (body_in (stmts_before tb q) (first (stack_at s (offset_of tb q))))
    found-body = record { form = (stood.form, stood.last); body = (get_or bodies q other).body; reads = stood.reads; names = stood.names; few = stood.few }

    served : (k : State) → mark_body (get_or bodies q other) (procs_of other bodies q) k ≡ serving setting found-body.body k
    unfolding mark_body setting found-body
    served k =
        ap (λ (Γ : Types). handled (get_or bodies q other).body.handles (mark_stmts Γ (get_or bodies q other).vars (procs_of other bodies q) (get_or bodies q other).body.stmts k)
        (mark_stmts Γ (get_or bodies q other).vars (procs_of other bodies q) (get_or bodies q other).body.handler)) stood.types_are
        ∙ ap (λ (Δ : Vars). handled (get_or bodies q other).body.handles (mark_stmts stood.env.types Δ (procs_of other bodies q) (get_or bodies q other).body.stmts k)
        (mark_stmts stood.env.types Δ (procs_of other bodies q) (get_or bodies q other).body.handler)) stood.vars-are

    body-runs : MarkRuns (mark_body (get_or bodies q other) (procs_of other bodies q)) ws left ws' r
    unfolding setting
    body-runs = runs_as (λ k. served (state k left)) (W.runs setting found-body)

  pub body-marks : MarksBody s l us tb calls q ws left ws' r
  body-marks = record { runs = body-runs; fewer = W.fewer }

-- as the code has the line
pub body_is : (s l us tb : List ℕ) (calls q : ℕ) (ws : List ℤ) (left : ℕ) (e : Line) (ts : List ℕ) (ws' : List ℤ) (r : ℕ) → e ≡ line_of tb q → Clips us e.kinds (replicate most_types 0) ts
    → MarksWithin s l us ts tb e.scope calls e.number e.start ws left ws' r → MarksBody s l us tb calls q ws left ws' r
body_is s l us tb calls q ws left e ts ws' r h C W = body-marks s l us tb calls q ws left (replicate most_types 0) ts (rw h at C) refl ws' r (rw h at W)

-- the last body is the script's run
pub marks-all : (s l us tb : List ℕ) (calls n : ℕ) (ws : List ℤ) (left : ℕ) (ws' : List ℤ) (r : ℕ) → MarksBody s l us tb calls n ws left ws' r
    → (places : List ℕ) (bodies : List PlacedBody) (other : PlacedBody) → AllStand s l us tb places bodies other → length bodies ≡ suc n → n ≤ calls → MarkRuns (mark_all bodies []) ws left ws' r
marks-all s l us tb calls n ws left ws' r B places bodies other A e h =
    subst (λ (f : State → Answer). MarkRuns f ws left ws' r) (sym (all-is other bodies n e)) (B.runs places bodies other A (omega (arith, e)) h)
