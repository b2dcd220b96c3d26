-- `main` and `proc` lines: what the answer for their parts tells.
use mathlib.Core.Path.{◌≡◌, refl, sym, ap, ◌∙◌, subst}
use mathlib.Core.List.{List, [], ◌∷◌, ◌++◌}
use mathlib.Core.Option.{Option, some}
use Prim.Native.Nat.{ℕ, ◌+◌, ◌-◌, ◌<◌, ◌≤◌}
use native.Mathlib.Omega.{arith}
use lib.ListN.{length, get_or, get_elem?, length-append}
use lib.Seq.{get_or-append_seam}
use Rattle.law.specs.Base.{◌>>=◌}
use Rattle.law.specs.Ceilings.{line_bounded}
use Rattle.law.specs.Code.{BodyCode, Frame, no_frame}
use Rattle.law.specs.Elaborate.{elab_body}
use Rattle.law.specs.Environment.{Declared, Environment, declare_line, with_body}
use Rattle.law.specs.Names.{body_of}
use Rattle.law.specs.Rules.{kept_body}
use Rattle.table_scope.specs.Scene.{Scene}
use Rattle.law.specs.Forms.{is_main}
use Rattle.code.specs.Layout.{Out, out, lay_body, lay_frame, lay_parameters}
use Rattle.code.specs.LayoutSize.{symbol_size, size_body, size_bodies, BodyFits, FrameFits}
use Rattle.law.specs.Script.{Body, Entry, new_main}
use Rattle.rule_stages.specs.Stages.{fits, body_staged}
use Rattle.law.specs.Syntax as Syntax
use Rattle.law.specs.Trees.{nodes_in, first}
use Rattle.law_theorems.specs.Readings.{stack_at}
use Rattle.law.specs.Verdict.{Read}
use Rattle.law_theorems.proofs.Bodies.{body_at}
use Rattle.law_theorems.proofs.TextsAgree.{body-frame}
use Rattle.code.proofs.LayoutActs.{laid-body}
use Rattle.code.proofs.LayoutBodies.{body-next}
use Rattle.code.specs.LayoutBodies.{Bodies}
use Rattle.code.proofs.LayoutFits.{bodies-fit}
use Rattle.code.proofs.LayoutRegions.{Has}
use Rattle.code.specs.LayoutRegions.{Room, Same}
use Rattle.code.specs.LinesMeasured.{Measured}
use Rattle.rule_faults.specs.declared.Got.{Got}
use Rattle.text_heads.specs.Parts.{body_in}
use Rattle.rule_statements.specs.Walks.{BodyTold, bare, lay_framed}
use Rattle.rule_statements.proofs.Bodies.{body-laid}
use Rattle.rule_expressions.proofs.Targets.{fits-inv}
use Rattle.rule_known.specs.declared.Known.{Known}
use Rattle.rule_parameters.specs.Framing.{Above, lay_types, opened_main}
use Rattle.rule_parameters.specs.declared.framing.Opened.{Opened}
use Rattle.rule_judge.specs.Answers.{main_entry}
use Rattle.rule_judge.specs.Entering.{EntryStands, last_of, EntryTold, GivesOpened, head_of}
use Rattle.rule_judge.specs.Judging.{Standing}
use Rattle.rule_judge.specs.Whole.{head_in}
use Rattle.rule_judge.proofs.Bodies.{main_of, main-shape, main-fault, main-fits, MainThere}
use Rattle.rule_judge.proofs.BodyFrames.{laid-types, NodeAt, node-laid}
use Rattle.rule_judge.proofs.BodyStands.{main-holds}
use Rattle.rule_judge.proofs.Declaring.{bodies_kept}

-- the last of so many
last-there : (cs : List BodyCode) (c : BodyCode) → get_elem? (cs ++ c ∷ []) (length cs) ≡ some c
last-there [] c = refl
last-there (b ∷ cs) c = last-there cs c

-- the code of a line's body fits where it is the next
pub next_fits : (k : Declared) (cs : List BodyCode) (c : BodyCode) → Measured k (cs ++ c ∷ []) → BodyFits (length cs) c
next_fits k cs c M = subst (λ (n : ℕ). BodyFits n c) (omega arith) (body_at (bodies-fit M.sized M.calls) (length cs) c (last-there cs c))

-- a body's code has its frame
pub staged-frame : (τ : Environment) (fr : Frame) (o : Option Syntax.Body) (c : BodyCode) → body_staged τ fr o ≡ fits c → fr ≡ c.frame
unfolding body_staged
staged-frame τ fr o c h = let x = fits-inv (body_of τ) kept_body (elab_body τ.types τ.vars fr) o c h in body-frame (with_body τ fr x.1) c x.4

module _ (s l ts : List ℕ) (kn : Known) (r : Read) (bs : List ℕ) (S : Standing s l ts kn r bs) where
  pub procs-here : kn.state.procs ≡ length bs
  procs-here = S.holds.procs-are ∙ sym S.holds.bodies-are

  pub procs-few : kn.state.procs < 16384
  procs-few = omega (arith, S.holds.procs-are, S.measured.long, S.measured.most)

  codes-here : length bs ≡ length r.codes
  codes-here = S.holds.bodies-are ∙ sym S.measured.long

  -- a body that begins so, in the environment τ
  module _ (o : Opened) (l₁ : List ℕ) (A : Above kn.state.top l o.top l₁) (few : r.known.stmts + nodes_in (first (stack_at s o.at)) ≤ 65535) (g : Got) (l' : List ℕ) (B : GivesOpened s l₁ ts kn o g l')
      (τ : Environment) (fr : Frame) (N : Scene s l₁ ts o.scope o.top τ bs) where
    abbrev read : Option (Syntax.Body × ℕ)
    read = body_in r.known.stmts (first (stack_at s o.at))

    pub body-told : BodyTold τ fr bs (head_of kn o) (body_in r.known.stmts (first (stack_at s o.at))) o.top l₁ g l'
    body-told = subst (λ (n : ℕ). BodyTold τ fr bs (head_of kn o) (body_in n (first (stack_at s o.at))) o.top l₁ g l') S.stmts-are
        (B.gives.says τ fr bs N (omega (arith, few, S.stmts-are)))

    pub body-keeps : Same 0 kn.state.top l' l
    body-keeps = record { at = λ i a b. B.gives.leaves.keeps.at i a (omega (arith, b, A.up)) ∙ A.keeps.at i a b }

    pub body-grows : kn.state.top ≤ g.top
    body-grows = omega (arith, A.up, B.gives.leaves.grows)

    -- the types us are laid first, then the frame
    module _ (us : List ℕ) (F : out o.frame o.top l₁ ≡ lay_frame fr (lay_types us kn.state.top l).top (lay_types us kn.state.top l).list) where
      abbrev t₀ : ℕ
      t₀ = (lay_types us kn.state.top l).top

      abbrev l₀ : List ℕ
      l₀ = (lay_types us kn.state.top l).list

      -- what the body's layout comes to
      pub record LaidHere (c : BodyCode) : Type 0 where
        pub top-here : g.top ≡ kn.state.top + length us + size_body c
        pub long-here : length l' ≡ length l
        pub bodies-here : (other : BodyCode) → Bodies other 1 g.top l' (bs ++ g.place ∷ []) (r.codes ++ c ∷ [])
        pub typed-here : Has us kn.state.top l'
        pub start-here : t₀ ≡ kn.state.top + length us
        pub frame-fits : FrameFits fr
        pub node-here : NodeAt l' g.place g.top (lay_frame fr t₀ l₀).pos fr

      laid-is : (c : BodyCode) → body_staged τ fr (bare (body_in r.known.stmts (first (stack_at s o.at)))) ≡ fits c → out g.place g.top l' ≡ lay_body bs (length bs) c t₀ l₀
      laid-is c q =
          let f = staged-frame τ fr (bare (body_in r.known.stmts (first (stack_at s o.at)))) c q in
          let F' : out o.frame o.top l₁ ≡ lay_frame c.frame t₀ l₀ = F ∙ ap (λ (x : Frame). lay_frame x t₀ l₀) f in
          body-told.laid c q
          ∙ ap (λ (x : Out). lay_framed bs (record { number = kn.state.procs; frame = x.pos }) c x.top x.list) F'
          ∙ ap (λ (k : ℕ). lay_framed bs (record { number = k; frame = (lay_frame c.frame t₀ l₀).pos }) c (lay_frame c.frame t₀ l₀).top (lay_frame c.frame t₀ l₀).list) procs-here
          ∙ sym (body-laid bs (length bs) c t₀ l₀)

      pub laid-here : (c : BodyCode) → body_staged τ fr (bare (body_in r.known.stmts (first (stack_at s o.at)))) ≡ fits c → kn.state.top + length us + size_body c ≤ 16384 → BodyFits (length r.codes) c → LaidHere c
      laid-here c q h f =
          let e = laid-is c q in
          let T = laid-types us kn.state.top l in
          let u : t₀ ≡ kn.state.top + length us = T.top-is (omega (arith, h)) in
          let L = laid-body bs (length bs) c t₀ l₀ in
          let n = T.grows.long in
          let R₀ : Room (length us) kn.state.top l = record { start = S.holds.start; fits = omega (arith, h); long = S.holds.long-list } in
          let R : Room (size_body c) t₀ l₀ = record { start = omega (arith, S.holds.start, u); fits = omega (arith, h, u); long = omega (arith, S.holds.long-list, n) } in
          let K : Same 0 kn.state.top l₀ l = record { at = λ i a b. T.grows.below i b } in
          let p = staged-frame τ fr (bare (body_in r.known.stmts (first (stack_at s o.at)))) c q in
          let d : (out g.place g.top l').list ≡ (lay_body bs (length bs) c t₀ l₀).list = ap (λ (x : Out). x.list) e in
          record {
            top-here = ap (λ (x : Out). x.top) e ∙ L.top-is (omega (arith, h, u)) ∙ ap (λ (x : ℕ). x + size_body c) u;
            long-here = ap (λ (x : Out). length x.list) e ∙ L.grows.long ∙ n;
            bodies-here = λ other. subst (λ (x : Out). Bodies other 1 x.top x.list (bs ++ x.pos ∷ []) (r.codes ++ c ∷ [])) (sym e)
                (body-next other 1 t₀ l₀ bs r.codes c (omega (arith, S.holds.start, u)) R (subst (λ (n : ℕ). BodyFits n c) (sym codes-here) f) (bodies_kept other (S.bodies other) K (omega (arith, u))));
            typed-here = T.held R₀ l' (record { at = λ i a b. ap (λ (x : List ℕ). get_or x i 0) d ∙ L.grows.below i b });
            start-here = u;
            frame-fits = subst FrameFits (sym p) f.frame-fits;
            node-here = subst (λ (x : Frame). NodeAt l' g.place g.top (lay_frame x t₀ l₀).pos x) (sym p)
                (subst (λ (x : Out). NodeAt x.list x.pos x.top (lay_frame c.frame t₀ l₀).pos c.frame) (sym e) ((node-laid bs (length bs) c t₀ l₀).held R _ (record { at = λ i a b. refl })));
          }

-- ---- `main`

pub none-laid : (t : ℕ) (l : List ℕ) → out 0 t l ≡ lay_frame no_frame (lay_types [] t l).top (lay_types [] t l).list
unfolding lay_types lay_frame lay_parameters
none-laid t l = refl

pub above-none : (t : ℕ) (l : List ℕ) → Above t l t l
above-none t l = record { keeps = record { at = λ i a b. refl }; long = refl; up = omega arith }

module _ (s l ts : List ℕ) (kn : Known) (r : Read) (bs : List ℕ) (S : Standing s l ts kn r bs) (at : ℕ) (few : r.known.stmts + nodes_in (first (stack_at s at)) ≤ 65535) (g : Got) (l' : List ℕ)
    (B : GivesOpened s l ts kn (opened_main kn.state at) g l') where
  abbrev main : Opened
  main = opened_main kn.state at

  told-main : BodyTold r.known.env no_frame bs (head_of kn (opened_main kn.state at)) (body_in r.known.stmts (first (stack_at s at))) kn.state.top l g l'
  told-main = body-told s l ts kn r bs S main l (above-none kn.state.top l) few g l' B r.known.env no_frame S.holds.scene

  last-read : (o : Option (Syntax.Body × ℕ)) (p : Syntax.Body × ℕ) → o ≡ some p → last_of (o >>= λ p. some (main_of p)) ≡ p.1
  unfolding ◌>>=◌
  last-read o p h = rw h refl

  main-here : (p : Syntax.Body × ℕ) (x : Body) (c : BodyCode) → body_in r.known.stmts (first (stack_at s at)) ≡ some p → body_staged r.known.env no_frame (bare (body_in r.known.stmts (first (stack_at s at)))) ≡ fits c
      → kn.state.top + symbol_size (new_main x) + size_bodies (c ∷ []) ≤ 16384 → (nn : ℕ) → Measured (declare_line r.known (new_main x) p.1 nn) (r.codes ++ c ∷ [])
      → EntryStands s l' ts kn.state.top (main_entry kn g) r (new_main x) (c ∷ []) p.1 nn
  unfolding symbol_size size_bodies declare_line
  main-here p x c hp q h nn M =
      let L = laid-here s l ts kn r bs S main l (above-none kn.state.top l) few g l' B r.known.env no_frame S.holds.scene [] (none-laid kn.state.top l) c q (omega arith)
      (next_fits (declare_line r.known (new_main x) p.1 nn) r.codes c M) in
      let b : length (bs ++ g.place ∷ []) - 1 ≡ length bs = let z : length (bs ++ g.place ∷ []) ≡ length bs + 1 = length-append bs (g.place ∷ []) in omega (arith, z) in
      let t = L.top-here in
      record {
        places = bs ++ g.place ∷ [];
        holds = main-holds S.holds (procs-few s l ts kn r bs S) x p.1 nn B.gives.leaves.keeps L.long-here g.top B.gives.leaves.grows (omega (arith, t, h)) g.place M.keeps;
        top-is = omega (arith, t);
        bodies = L.bodies-here;
        stmts-are = told-main.number p hp;
        ended_is = refl;
        main-is = λ _. sym (ap (λ (i : ℕ). get_or (bs ++ g.place ∷ []) i 0) b ∙ get_or-append_seam bs g.place [] 0);
      }

  main-stands : (e : Entry) (cs : List BodyCode) → MainThere r.known (body_in r.known.stmts (first (stack_at s at))) e cs → kn.state.top + symbol_size e + size_bodies cs ≤ 16384 → (nn : ℕ)
      → Measured (declare_line r.known e (last_of (body_in r.known.stmts (first (stack_at s at)) >>= λ p. some (main_of p))) nn) (r.codes ++ cs)
      → EntryStands s l' ts kn.state.top (main_entry kn g) r e cs (last_of (body_in r.known.stmts (first (stack_at s at)) >>= λ p. some (main_of p))) nn
  main-stands e cs X h nn M =
      let z = last-read (body_in r.known.stmts (first (stack_at s at))) X.read X.read_is in
      let h' : kn.state.top + symbol_size (new_main X.body) + size_bodies (X.code ∷ []) ≤ 16384 = rw (← X.entry-is, ← X.codes-are) h in
      let M' : Measured (declare_line r.known (new_main X.body) X.read.1 nn) (r.codes ++ X.code ∷ []) = rw (← X.entry-is, ← X.codes-are, ← z) M in
      let E = main-here X.read X.body X.code X.read_is X.fits-so h' nn M' in
      rw (X.entry-is, X.codes-are, z) E

  pub main-told : EntryTold s l' ts kn.state.top r (head_in is_main r.known.stmts (first (stack_at s at))) (main_entry kn g)
  unfolding line_bounded
  main-told = rw (main-shape r.known.stmts (first (stack_at s at))) (record {
    fault-is = told-main.fault-is ∙ sym (main-fault r.known (body_in r.known.stmts (first (stack_at s at))));
    within-is = λ e cs q. let X = main-fits r.known (body_in r.known.stmts (first (stack_at s at))) e cs q in rw X.entry-is refl;
    stands = λ e cs q b c nn M. main-stands e cs (main-fits r.known (body_in r.known.stmts (first (stack_at s at))) e cs q) c nn M;
  })
