-- What is held after a line with a body: its place is one more, and of `proc` its name.
use mathlib.Core.Path.{◌≡◌, refl, sym, ap, ◌∙◌, subst}
use mathlib.Core.Bool.{Bool, true, false}
use mathlib.Core.List.{List, [], ◌∷◌, ◌++◌, map}
use mathlib.Core.Option.{Option, some}
use Prim.Native.Nat.{ℕ, suc, ◌+◌, ◌*◌, ◌%◌, ◌<◌, ◌≤◌}
use native.Mathlib.Nat.{mod-eq_of_lt}
use native.Mathlib.Omega.{arith}
use lib.ListN.{length, get_or, length-append, get_or-append}
use lib.Seq.{get_or-append_seam}
use Rattle.leaf_bytes.specs.Bytes.{small, same}
use Rattle.law.specs.Base.{Name, find}
use Rattle.law.specs.Code.{no_frame}
use Rattle.law.specs.Environment.{Declared, Environment, NameSort, a_proc, a_value, declare_line, frame_of, parameter_types, with_body, within}
use Rattle.code.specs.Layout.{lay}
use Rattle.law.specs.Script.{Body, Const, new_main, new_proc}
use Rattle.law.specs.Trees.{word_at}
use Rattle.law.specs.Types.{Types, Vars, variable}
use Rattle.code.proofs.LayoutRegions.{lay-g, lay-l}
use Rattle.code.specs.LayoutRegions.{Same}
use Rattle.law_theorems.proofs.Inversion.{some_inj}
use Rattle.law_theorems.proofs.LinesKeep.{find-named, within-parameters}
use Rattle.law_theorems.specs.LinesKeep.{Keeps, Fair, AllFair, proc, no_names as none-fair, name as one-fair}
use Rattle.table_names.specs.Keys.{keyed}
use Rattle.table_names.specs.Chain.{entries, values_by}
use Rattle.table_names.specs.Chained.{Names, no_names, one_name}
use Rattle.table_scope.specs.declared.Scope.{Scope}
use Rattle.table_scope.specs.declared.Meaning.{Meaning}
use Rattle.table_scope.specs.declared.Meaning.TheVariants as meaning
use Rattle.table_scope.specs.Frames.{TellsFrame}
use Rattle.table_scope.specs.Scene.{meaning_by, Means, a-type, a-var, a-proc, a-value, Meant, Told, unknown, known, Scene}
use Rattle.table_scope.proofs.Kept.{scene-kept, tells-frame-kept}
use Rattle.table_scope.proofs.Within.{chain-told}
use Rattle.rule_declarations.specs.declared.State.{State}
use Rattle.rule_parameters.specs.Framing.{proc_state}
use Rattle.rule_declarations.specs.State.{scoped, Holds, body_state}
use Rattle.rule_declarations.proofs.Growing.{Chained, holds-chained, chained-env, chained-kept, chained_more, laid_same}
use Rattle.rule_declarations.proofs.VarLines.{value-find}

-- ---- one body more

means-more : (σ : Environment) (bs : List ℕ) (p : ℕ) (x : Meaning) (m : NameSort) → Fair σ.types (length bs) m → Means σ bs x m → Means σ (bs ++ p ∷ []) x m
means-more σ bs p x m f a-type = a-type
means-more σ bs p x m f (a-var v e) = a-var v e
means-more σ bs p x m (proc l _) (a-proc {q}) = rw (← get_or-append bs (p ∷ []) 0 q l) (a-proc {q = q})
means-more σ bs p x m f a-value = a-value

told_more : (σ : Environment) (bs : List ℕ) (p : ℕ) (x : Meaning) (o : Option NameSort) → ((m : NameSort) → o ≡ some m → Fair σ.types (length bs) m) → Told σ bs x o → Told σ (bs ++ p ∷ []) x o
told_more σ bs p x o f unknown = unknown
told_more σ bs p x o f (known {m = m} M) = known (means-more σ bs p x m (f m refl) M)

names_more : (σ : Environment) (bs : List ℕ) (p : ℕ) {s l ps : List ℕ} {ns : List (Name × NameSort)} → AllFair σ.types (length bs) ns → Names s l (Meant σ bs l) ps ns → Names s l (Meant σ (bs ++ p ∷ []) l) ps ns
names_more σ bs p none-fair no_names = no_names
names_more σ bs p (one-fair f F) (one_name {p = q} {w = w} {a = a} h e r N) = one_name {w = w} h e (record { means = means-more σ bs p _ a f r.means }) (names_more σ bs p F N)

proc-low : {Γ : Types} {n q : ℕ} {us : List ℕ} → Fair Γ n (a_proc q us) → q < n
proc-low (proc l _) = l

-- the same environment, with a body laid at p
pub body-scene : {s l l' ts : List ℕ} {scope : Scope} {top top' : ℕ} {σ : Environment} {bs : List ℕ} → Scene s l ts scope top σ bs → Same 0 top l' l → top ≤ top' → (p : ℕ)
    → AllFair σ.types (length (bs ++ p ∷ [])) σ.names → Scene s l' ts scope top' σ (bs ++ p ∷ [])
body-scene {l' = l'} {top' = top'} {σ = σ} {bs = bs} S E h p F =
    let K = scene-kept {top' = top'} S E h in
    record {
      names = λ w. told_more σ bs p _ (find σ.names w) (λ m e. find-named K.fair w m e) (K.names w);
      below = K.below;
      types = K.types;
      described = K.described;
      table = K.table;
      fair = F;
      fieldless = K.fieldless;
      cells = K.cells;
      above = K.above;
      once = K.once;
      frames = λ w q us e. subst (λ (x : ℕ). TellsFrame l' top' x us) (sym (get_or-append bs (p ∷ []) 0 q (proc-low (find-named K.fair w (a_proc q us) e)))) (K.frames w q us e);
    }

body-chain : {s l ts : List ℕ} {st : State} {k : Declared} {bs : List ℕ} → Holds s l ts st k bs → {l' : List ℕ} → Same 0 st.top l' l → (t : ℕ) → st.top ≤ t → (p : ℕ)
    → Chained s l' st.scope t k.env (bs ++ p ∷ []) k.env.names
body-chain {k = k} {bs = bs} H E t up p = let C = chained-kept E up (holds-chained H) in record { names = names_more k.env bs p H.scene.fair C.names; below = C.below }

-- ---- `main`

module _ {s l ts : List ℕ} {st : State} {k : Declared} {bs : List ℕ} (H : Holds s l ts st k bs) (few : st.procs < 16384) (x : Body) (n nn : ℕ) {l' : List ℕ} (E : Same 0 st.top l' l) (long : length l' ≡ length l)
    (t : ℕ) (up : st.top ≤ t) (low : t ≤ 16384) (p : ℕ) where
  pub main-holds : Keeps (declare_line k (new_main x) n nn) → Holds s l' ts (body_state st t) (declare_line k (new_main x) n nn) (bs ++ p ∷ [])
  unfolding declare_line
  main-holds K =
      let q : st.procs % 16384 ≡ st.procs = mod-eq_of_lt few in
      let b : length (bs ++ p ∷ []) ≡ length bs + 1 = length-append bs (p ∷ []) in
      let c : length (k.bodies ++ (with_body k.env no_frame x ∷ [])) ≡ length k.bodies + 1 = length-append k.bodies (with_body k.env no_frame x ∷ []) in
      record {
        scene = body-scene H.scene E up p (rw (b, H.bodies-are, ← c) K.names);
        names = (body-chain H E t up p).names;
        plain = H.plain;
        keeps = K;
        types_are = H.types_are;
        lines_are = H.lines_are;
        vars-are = H.vars-are;
        cells_are = H.cells_are;
        procs-are = omega (arith, q, c, H.procs-are);
        parameters-are = H.parameters-are;
        bodies-are = omega (arith, b, c, H.bodies-are);
        few-types = H.few-types;
        few-lines = H.few-lines;
        few-vars = H.few-vars;
        few-cells = H.few-cells;
        few-parameters = H.few-parameters;
        small-types = H.small-types;
        few-names = omega (arith, H.few-names);
        start = omega (arith, H.start);
        low = low;
        long-list = omega (arith, long, H.long-list);
        long-notes = H.long-notes;
        short-text = H.short-text;
      }

-- ---- `proc`: after the body its name's entry

proc-alone : (q more : ℕ) → values_by (2 + 4 * q) more ≡ 0
unfolding values_by
proc-alone q more = let a : (2 + 4 * q) % 4 ≡ 2 = omega arith in rw a refl

proc-means : (σ : Environment) (bs : List ℕ) (p : ℕ) (us : List ℕ) → Means σ (bs ++ p ∷ []) (meaning_by (2 + 4 * length bs) p) (a_proc (length bs) us)
unfolding meaning_by
proc-means σ bs p us =
    let a : (2 + 4 * length bs) % 4 ≡ 2 = omega arith in
    let g : get_or (bs ++ p ∷ []) (length bs) 0 ≡ p = get_or-append_seam bs p [] 0 in
    rw a (subst (λ m. Means σ (bs ++ p ∷ []) (meaning.Proc m) (a_proc (length bs) us)) g (a-proc {q = length bs}))

proc-value : (q : ℕ) (us : List ℕ) (c : Const) → a_proc q us ≡ a_value c → ⊥
proc-value q us c h = let z : ◌≡◌ {A = ℕ} 0 1 = cc in omega arith

means-env : (σ σ' : Environment) (bs : List ℕ) → σ'.vars ≡ σ.vars → (x : Meaning) (m : NameSort) → Means σ bs x m → Means σ' bs x m
means-env σ σ' bs h x m a-type = a-type
means-env σ σ' bs h x m (a-var {i} v e) = a-var v (ap (λ (Δ : Vars). variable Δ i) h ∙ e)
means-env σ σ' bs h x m a-proc = a-proc
means-env σ σ' bs h x m a-value = a-value

-- a procedure is the new one or one of those before
new-or-old : (P : ℕ → List ℕ → Type 0) (w v : Name) (n : ℕ) (us : List ℕ) (ns : List (Name × NameSort)) → P n us → ((q : ℕ) (vs : List ℕ) → find ns v ≡ some (a_proc q vs) → P q vs)
    → (q : ℕ) (vs : List ℕ) → find ((w, a_proc n us) ∷ ns) v ≡ some (a_proc q vs) → P q vs
unfolding find
new-or-old P w v n us ns new old q vs h = go (same w v) h
  where
    proc-number : {a b : ℕ} {xs ys : List ℕ} → a_proc a xs ≡ a_proc b ys → a ≡ b
    proc-number e = cc

    proc-types : {a b : ℕ} {xs ys : List ℕ} → a_proc a xs ≡ a_proc b ys → xs ≡ ys
    proc-types e = cc

    go : (b : Bool) → elim b [ true ↦ some (a_proc n us) | false ↦ find ns v ] ≡ some (a_proc q vs) → P q vs
    go true e = let z = some_inj e in subst (λ (a : ℕ). P a vs) (proc-number z) (subst (λ (xs : List ℕ). P n xs) (proc-types z) new)
    go false e = old q vs e

module _ {s l ts : List ℕ} {st : State} {k : Declared} {bs : List ℕ} (H : Holds s l ts st k bs) (few : st.procs < 16384) (qs : List (Name × ℕ)) (x : Body) (n nn : ℕ) {l' : List ℕ} (E : Same 0 st.top l' l) (long : length l' ≡ length l)
    (t : ℕ) (up : st.top ≤ t) (low : t + 4 ≤ 16384) (p name : ℕ) (inside : name < 32768) (T : TellsFrame l' t p (parameter_types qs)) (most : length k.env.parameters + length qs ≤ 128)
    (K : Keeps (declare_line k (new_proc (map small (word_at s name)) qs x) n nn)) where
  abbrev w : Name
  w = map small (word_at s name)

  abbrev entry : List ℕ
  entry = keyed s name ∷ (2 + 4 * length bs) ∷ p ∷ st.scope.newest ∷ []

  abbrev l'' : List ℕ
  l'' = (lay (keyed s name ∷ (2 + 4 * length bs) ∷ p ∷ st.scope.newest ∷ []) t l').list

  abbrev us : List ℕ
  us = parameter_types qs

  abbrev k' : Declared
  k' = declare_line k (new_proc (map small (word_at s name)) qs x) n nn

  proc-bodies : length (k.bodies ++ (with_body (within k.env qs) (frame_of k.env qs) x ∷ [])) ≡ length k.bodies + 1
  proc-bodies = length-append k.bodies (with_body (within k.env qs) (frame_of k.env qs) x ∷ [])

  proc-places : length (bs ++ p ∷ []) ≡ length bs + 1
  proc-places = length-append bs (p ∷ [])

  proc-fair : AllFair k.env.types (length (bs ++ p ∷ [])) ((w, a_proc (length k.bodies) us) ∷ k.env.names)
  unfolding declare_line
  proc-fair = rw (proc-places, H.bodies-are, ← proc-bodies) K.names

  old-fair : {m : ℕ} {v : Name} {a : NameSort} {ns : List (Name × NameSort)} → AllFair k.env.types m ((v, a) ∷ ns) → AllFair k.env.types m ns
  old-fair (one-fair f F) = F

  before : Scene s l' ts st.scope t k.env (bs ++ p ∷ [])
  before = body-scene H.scene E up p (old-fair proc-fair)

  proc-chained : Chained s l'' (scoped (suc st.scope.count) t) (t + 4) k'.env (bs ++ p ∷ []) ((w, a_proc (length bs) us) ∷ k.env.names)
  unfolding declare_line
  proc-chained = chained_more name (2 + 4 * length bs) p (a_proc (length bs) us) (proc-alone (length bs) p) inside (record { start = omega (arith, H.start); fits = low; long = omega (arith, long, H.long-list) }) (proc-means k'.env bs p us)
      (chained-env {σ' = k'.env} (means-env k.env k'.env (bs ++ p ∷ []) refl) (body-chain H E t up p))

  -- by the number that the definitions give it
  proc-names : Names s l'' (Meant k'.env (bs ++ p ∷ []) l'') (entries (suc st.scope.count) l'' t) ((w, a_proc (length k.bodies) us) ∷ k.env.names)
  proc-names = subst (λ (q : ℕ). Names s l'' (Meant k'.env (bs ++ p ∷ []) l'') (entries (suc st.scope.count) l'' t) ((w, a_proc q us) ∷ k.env.names)) H.bodies-are proc-chained.names

  proc-frames : (v : Name) (q : ℕ) (vs : List ℕ) → find ((w, a_proc (length k.bodies) us) ∷ k.env.names) v ≡ some (a_proc q vs) → TellsFrame l'' (t + 4) (get_or (bs ++ p ∷ []) q 0) vs
  proc-frames v =
      let L = laid_same entry t l' l'' refl in
      let g : get_or (bs ++ p ∷ []) (length k.bodies) 0 ≡ p = ap (λ (i : ℕ). get_or (bs ++ p ∷ []) i 0) (sym H.bodies-are) ∙ get_or-append_seam bs p [] 0 in
      new-or-old (λ q vs. TellsFrame l'' (t + 4) (get_or (bs ++ p ∷ []) q 0) vs) w v (length k.bodies) us k.env.names
      (rw g (tells-frame-kept L (omega arith) p us T)) (λ q vs e. tells-frame-kept L (omega arith) (get_or (bs ++ p ∷ []) q 0) vs (before.frames v q vs e))

  proc-scene : Scene s l'' ts (scoped (suc st.scope.count) t) (t + 4) k'.env (bs ++ p ∷ [])
  unfolding declare_line
  proc-scene =
      let S = scene-kept {top' = t + 4} before (laid_same entry t l' l'' refl) (omega arith) in
      record {
        names = chain-told (scoped (suc st.scope.count) t) refl proc-chained.below proc-names;
        below = proc-chained.below;
        types = S.types;
        described = S.described;
        table = S.table;
        fair = proc-fair;
        fieldless = S.fieldless;
        cells = S.cells;
        above = λ v c g. S.above v c (value-find w v (a_proc (length k.bodies) us) k.env.names c (proc-value (length k.bodies) us) g);
        once = λ v y c g h. S.once v y c (value-find w v (a_proc (length k.bodies) us) k.env.names c (proc-value (length k.bodies) us) g)
            (value-find w y (a_proc (length k.bodies) us) k.env.names c (proc-value (length k.bodies) us) h);
        frames = proc-frames;
      }

  mapped : (rs : List (Name × ℕ)) → length (parameter_types rs) ≡ length rs
  mapped [] = refl
  mapped (r ∷ rs) = ap suc (mapped rs)

  all-parameters : length (within k.env qs).parameters ≡ length k.env.parameters + length qs
  all-parameters = ap length (within-parameters k.env qs) ∙ length-append k.env.parameters (parameter_types qs) ∙ ap (λ (i : ℕ). length k.env.parameters + i) (mapped qs)

  pub proc-holds : Holds s l'' ts (proc_state st (length qs) t (lay entry t l').top) k' (bs ++ p ∷ [])
  unfolding declare_line
  proc-holds =
      let q : st.procs % 16384 ≡ st.procs = mod-eq_of_lt few in
      let r : st.scope.count % 65536 ≡ st.scope.count = mod-eq_of_lt (omega (arith, H.few-names, H.low)) in
      let c : st.scope.count % 65536 + 1 ≡ suc st.scope.count = omega (arith, r) in
      let u : (lay entry t l').top ≡ t + 4 = (lay-l entry t l').top-is low in
      let g = (lay-g entry t l').long in
      let a : st.parameters % 256 ≡ st.parameters = mod-eq_of_lt (omega (arith, H.few-parameters)) in
      let b : length qs % 256 ≡ length qs = mod-eq_of_lt (omega arith) in
      record {
        scene = rw (c, u) proc-scene;
        names = rw c proc-names;
        plain = refl;
        keeps = K;
        types_are = H.types_are;
        lines_are = H.lines_are;
        vars-are = H.vars-are;
        cells_are = H.cells_are;
        procs-are = omega (arith, q, proc-bodies, H.procs-are);
        parameters-are = rw (a, b, all-parameters, H.parameters-are) refl;
        bodies-are = omega (arith, proc-places, proc-bodies, H.bodies-are);
        few-types = H.few-types;
        few-lines = H.few-lines;
        few-vars = H.few-vars;
        few-cells = H.few-cells;
        few-parameters = rw (a, b, H.parameters-are) most;
        small-types = H.small-types;
        few-names = omega (arith, r, u, H.few-names);
        start = omega (arith, u);
        low = omega (arith, u);
        long-list = omega (arith, g, long, H.long-list);
        long-notes = H.long-notes;
        short-text = H.short-text;
      }
