-- A line with a body: its line in the bodies' table, and what the answer for `main` tells.
use mathlib.Core.Path.{◌≡◌, refl, sym, ap, ◌∙◌, subst}
use mathlib.Core.Bool.{false}
use mathlib.Core.List.{List, [], ◌∷◌, ◌++◌}
use mathlib.Core.Option.{Option, some}
use Prim.Native.Nat.{ℕ, zero, suc, ◌+◌, ◌≤◌}
use native.Mathlib.Omega.{arith}
use lib.ListN.{length, take}
use Rattle.law.specs.Base.{Name, ◌>>=◌, find}
use Rattle.law.specs.Ceilings.{line_bounded}
use Rattle.law.specs.Code.{Frame, no_frame}
use Rattle.law.specs.Environment.{Declared, Environment, a_proc, declare_line, with_body, within}
use Rattle.law.specs.Forms.{is_main}
use Rattle.law.specs.Names.{body_of}
use Rattle.law.specs.Script.{Body, Entry, new_main}
use Rattle.law.specs.Syntax as Syntax
use Rattle.law.specs.Trees.{nodes_in, first}
use Rattle.law_theorems.specs.Readings.{stack_at}
use Rattle.code.specs.LayoutRegions.{Same}
use Rattle.law_theorems.proofs.LinesKeep.{heading-known, text-stand}
use Rattle.law_theorems.specs.LinesKeep.{Keeps, frames_of}
use Rattle.table_scope.specs.Scene.{Scene}
use Rattle.text_heads.specs.Parts.{body_in}
use Rattle.rule_parameters.specs.Framing.{opened_main}
use Rattle.rule_parameters.specs.declared.framing.Opened.{Opened}
use Rattle.rule_known.specs.declared.Known.{Known}
use Rattle.rule_judge.specs.Entering.{last_of}
use Rattle.rule_judge.specs.Whole.{head_in}
use Rattle.rule_judge.proofs.Bodies.{main_of, main-shape}
use Rattle.rule_judge.proofs.BodyStands.{main-holds}
use Rattle.rule_judge_loose.specs.declared.easing.Eased.{Eased}
use Rattle.rule_judge_loose.specs.Standing.{CallKept, BodyKept, AllKept, LooseStanding}
use Rattle.rule_body_notes.specs.Noting.{noted}
use Rattle.rule_judge_loose.specs.Easing.{BodyEased, GivesEased}
use Rattle.rule_judge_loose.specs.Entering.{loose_main, loose_size, LooseStands, LooseTold}
use Rattle.rule_body_notes.proofs.Notes.{offset-stack, noted-offset, noted-scope, noted-stmts, noted-types, noted-before}
use Rattle.rule_judge_loose.proofs.Keeping.{Telling, scene-tells, extends-self, clipped-scene, kept-going, all-on, all-main, call-more}
use Rattle.rule_judge_loose.proofs.Staging.{BodyRead, main-fault, main-fits}

take_all : (bs : List ℕ) (b q : ℕ) → q ≡ length bs → take q (bs ++ b ∷ []) ≡ bs
take_all [] b zero h = refl
take_all [] b (suc q) h = absurd (omega (arith, h))
take_all (x ∷ bs) b zero h = absurd (omega (arith, h))
take_all (x ∷ bs) b (suc q) h = ap (λ (r : List ℕ). x ∷ r) (take_all bs b q (omega (arith, h)))

-- what a body may call
pub body-calls : (k : Declared) → Keeps k → (qs : List (Name × ℕ)) (w : Name) (p : ℕ) (us : List ℕ) → find (within k.env qs).names w ≡ some (a_proc p us) → CallKept k.env.types (frames_of k.bodies) p us
body-calls k K qs w p us h =
    let C = heading-known k K qs _ (text-stand k K) w p us h in
    record { below = C.below; wants-are = C.framed.wants }

main-calls : (k : Declared) → Keeps k → (w : Name) (p : ℕ) (us : List ℕ) → find k.env.names w ≡ some (a_proc p us) → CallKept k.env.types (frames_of k.bodies) p us
unfolding within
main-calls k K w p us h = body-calls k K [] w p us h

module _ {s l ts tb : List ℕ} {kn : Known} {k : Declared} (S : LooseStanding s l ts tb kn k) (going : k.ended ≡ false) where
  pub procs-here : kn.state.procs ≡ length k.bodies
  procs-here = S.holds.procs-are

  pub procs-few : length k.bodies ≤ 32
  procs-few = S.few-procs going

  -- the next body, which begins so, with its own environment τ; l' is the list at the end of its line, u the free place then
  module _ (o : Opened) (inside : o.scope.pairs ≤ length s) (τ : Environment) (same-types : τ.types ≡ k.env.types) (l₁ l' : List ℕ) (N : Scene s l₁ ts o.scope o.top τ S.places)
      (E : Same 0 o.top l' l₁) (u : ℕ) (up : o.top ≤ u) (T : Telling s l' ts u k.env.types) (p : Syntax.Body × ℕ) (x : Body)
      (read : body_in k.stmts (first (stack_at s o.at)) ≡ some p) (names : body_of τ p.0 ≡ some x) (fewer : p.1 ≤ 65535) (fr : Frame) (b : ℕ)
      (calls : (w : Name) (q : ℕ) (us : List ℕ) → find τ.names w ≡ some (a_proc q us) → CallKept k.env.types (frames_of k.bodies) q us) where
    pub next-kept : BodyKept s l' ts (noted s kn o tb) (S.places ++ b ∷ []) u k.env.types (frames_of k.bodies ++ (fr ∷ [])) (with_body τ fr x) (length k.bodies)
    next-kept =
        let at = noted-offset s kn o tb (length k.bodies) procs-here procs-few S.long-table in
        let c = noted-scope s kn o tb (length k.bodies) procs-here procs-few S.long-table inside S.holds.short-text in
        let m = noted-stmts s kn o tb (length k.bodies) procs-here procs-few S.long-table in
        let t = noted-types s kn o tb (length k.bodies) procs-here procs-few S.long-table in
        let v = take_all S.places b (length k.bodies) (sym S.holds.bodies-are) in
        record {
          stands = record {
            env = τ;
            top = u;
            form = p.0;
            last = p.1;
            scene = rw (t, c, v) (clipped-scene N E up T (rw same-types (extends-self k.env.types)) (rw same-types S.two) kn.state.types (rw same-types S.holds.types_are));
            before = let z = take-length S.places b in omega (arith, z, S.holds.bodies-are);
            reads = rw (m, at, offset-stack s o.at S.holds.short-text, S.stmts-are) read;
            names = names;
            types_are = refl;
            vars-are = refl;
            few-types = rw t (omega (arith, S.holds.few-types, S.holds.few-lines));
            small = rw same-types S.small;
            few = omega (arith, fewer);
          };
          low = omega arith;
          types_are = rw same-types (t ∙ S.holds.types_are);
          two = rw same-types S.two;
          extends = rw same-types (extends-self k.env.types);
          calls = λ w q us h. rw same-types (call-more fr (calls w q us h));
        }
      where
        take-length : (bs : List ℕ) (b : ℕ) → length (bs ++ b ∷ []) ≡ suc (length bs)
        take-length [] b = refl
        take-length (y ∷ bs) b = ap suc (take-length bs b)

    -- the bodies before
    pub before-kept : Same 0 kn.state.top l' l → kn.state.top ≤ u → AllKept s l' ts (noted s kn o tb) S.places u k.env.types k.bodies (length k.bodies)
    before-kept E₀ h = all-on E₀ h (extends-self k.env.types) T (kept-going S going) (λ q g. noted-before s kn o tb (length k.bodies) procs-here procs-few S.long-table q g)

  -- ---- `main`

  module _ (at : ℕ) (few : k.stmts + nodes_in (first (stack_at s at)) ≤ 65535) (b : Eased) (l' : List ℕ) (B : GivesEased s l ts kn (opened_main kn.state at) b l') where
    body-told : BodyEased k.env (body_in k.stmts (first (stack_at s at))) b
    body-told = subst (λ (n : ℕ). BodyEased k.env (body_in n (first (stack_at s at))) b) S.stmts-are (B.says k.env S.places S.holds.scene (omega (arith, few, S.stmts-are)))

    main-here : (p : Syntax.Body × ℕ) (x : Body) → body_in k.stmts (first (stack_at s at)) ≡ some p → body_of k.env p.0 ≡ some x → p.1 ≤ 65535 → (nn : ℕ) → Keeps (declare_line k (new_main x) p.1 nn)
        → LooseStands s l' ts (noted s kn (opened_main kn.state at) tb) kn.state.top (loose_main kn b) k (new_main x) p.1 nn
    unfolding declare_line loose_size
    main-here p x hp hx hn nn K =
        let o = opened_main kn.state at in
        let H = main-holds S.holds (omega (arith, procs-here, procs-few)) x p.1 nn B.keeps B.long kn.state.top (omega arith) S.holds.low 0 K in
        let T : Telling s l' ts kn.state.top k.env.types = scene-tells H.scene in
        let i : kn.state.scope.pairs ≤ length s = omega (arith, S.holds.plain) in
        let C = main-calls k S.holds.keeps in
        let X = next-kept (opened_main kn.state at) i k.env refl l l' S.holds.scene B.keeps kn.state.top (omega arith) T p x hp hx hn no_frame 0 C in
        let A = before-kept (opened_main kn.state at) i k.env refl l l' S.holds.scene B.keeps kn.state.top (omega arith) T p x hp hx hn no_frame 0 C B.keeps (omega arith) in
        record {
          places = S.places ++ 0 ∷ [];
          holds = H;
          room = omega arith;
          stmts-are = body-told.number p hp;
          ended_is = refl;
          bodies = all-main 0 A X S.holds.bodies-are;
        }

    last-main : (o : Option (Syntax.Body × ℕ)) (p : Syntax.Body × ℕ) → o ≡ some p → last_of (o >>= λ p. some (main_of p)) ≡ p.1
    unfolding ◌>>=◌
    last-main o p h = rw h refl

    main-stands : (e : Entry) → BodyRead k (body_in k.stmts (first (stack_at s at))) new_main e → last_of (body_in k.stmts (first (stack_at s at)) >>= λ p. some (main_of p)) ≤ 65535 → (nn : ℕ)
        → Keeps (declare_line k e (last_of (body_in k.stmts (first (stack_at s at)) >>= λ p. some (main_of p))) nn)
        → LooseStands s l' ts (noted s kn (opened_main kn.state at) tb) kn.state.top (loose_main kn b) k e (last_of (body_in k.stmts (first (stack_at s at)) >>= λ p. some (main_of p))) nn
    main-stands e X hn nn K =
        let i = last-main (body_in k.stmts (first (stack_at s at))) X.read X.read_is in
        rw (X.entry-is, i) (main-here X.read X.body X.read_is X.body_is (rw (← i) hn) nn (rw (← X.entry-is, ← i) K))

    pub main-told : LooseTold s l' ts (noted s kn (opened_main kn.state at) tb) kn.state.top k (head_in is_main k.stmts (first (stack_at s at))) (loose_main kn b)
    unfolding line_bounded
    main-told = rw (main-shape k.stmts (first (stack_at s at))) (record {
      fault-is = body-told.fault-is ∙ main-fault k (body_in k.stmts (first (stack_at s at)));
      within-is = λ e q. let X = main-fits k (body_in k.stmts (first (stack_at s at))) e q in rw X.entry-is refl;
      stands = λ e q _ _ hn nn K. main-stands e (main-fits k (body_in k.stmts (first (stack_at s at))) e q) hn nn K;
    })
