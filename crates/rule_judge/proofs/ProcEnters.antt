-- `proc` lines: what the answer for their parts tells.
use mathlib.Core.Path.{◌≡◌, refl, sym, ap, ◌∙◌, subst}
use mathlib.Core.Bool.{Bool, true, false, cond, ◌&&◌, true≢false}
use mathlib.Core.List.{List, [], ◌∷◌, ◌++◌, map}
use mathlib.Core.Logic.{◌⊎◌, inl, inr}
use mathlib.Core.Option.{Option, none, some}
use Prim.Native.Nat.{ℕ, suc, ◌+◌, ◌*◌, ◌%◌, ◌<◌, ◌≤◌}
use native.Mathlib.Nat.{mod-eq_of_lt}
use borrow.Author.Tests.{ltb-true, ltb-false, le-leb, lt-leb, leb-true, leb-false}
use lib.Dec.{eqb, ltb, leb}
use Rattle.leaf_bytes.specs.Bytes.{small}
use native.Mathlib.Omega.{arith}
use lib.ListN.{length, length-map}
use Rattle.law.specs.Base.{Name, find, ◌>>=◌, each}
use Rattle.law.specs.Ceilings.{line_bounded}
use Rattle.law.specs.Code.{BodyCode, Frame, no_frame}
use Rattle.law.specs.Environment.{Declared, Environment, NameSort, declare_line, frame_of, parameter_types, want_of, within}
use Rattle.law.specs.Names.{new_names, distinct, none_known, is_known, listed_in, pair_of}
use Rattle.law.specs.Rules.{kept_parameters}
use Rattle.table_names.specs.Keys.{keyed}
use Rattle.rule_faults.specs.declared.Fault.{Fault}
use Rattle.rule_faults.specs.declared.Fault.TheVariants.{Clear, Kind, Name as Unnamed, Form}
use Rattle.table_scope.specs.declared.Meaning.{Meaning}
use Rattle.table_scope.specs.Frames.{TellsFrame}
use Rattle.table_scope.specs.Scene.{Scene, Told, unknown, known, a-type, a-var, a-proc, a-value, meaning_here}
use Rattle.rule_declarations.specs.Names.{new_fault}
use Rattle.law.specs.Forms.{is_proc}
use Rattle.code.specs.Layout.{out, lay, lay_frame}
use Rattle.code.specs.LayoutSize.{symbol_size, size_body, size_bodies}
use Rattle.law.specs.Script.{Body, Entry, new_proc}
use Rattle.rule_stages.specs.Stages.{fits, body_staged}
use Rattle.law.specs.Syntax as Syntax
use Rattle.law.specs.Trees.{nodes_in, first, word_at}
use Rattle.law_theorems.specs.Readings.{stack_at}
use Rattle.law.specs.Verdict.{Read}
use Rattle.code.proofs.LayoutRegions.{lay-l}
use Rattle.code.specs.LinesMeasured.{Measured}
use Rattle.rule_faults.specs.declared.Got.{Got}
use Rattle.rule_faults.specs.Got.{lowest, fault_of}
use Rattle.text_parts.specs.Parts.{LeafAt}
use Rattle.text_heads.specs.Parts.{rest, name_in, body_in}
use Rattle.rule_statements.specs.Walks.{BodyTold, bare}
use Rattle.rule_declarations.specs.declared.State.{State}
use Rattle.rule_declarations.specs.State.{Holds}
use Rattle.rule_declarations.proofs.Growing.{laid_same}
use Rattle.rule_known.specs.declared.Known.{Known}
use Rattle.rule_known.specs.declared.Entered.{Entered}
use Rattle.rule_parameters.specs.Framing.{Above, lay_types, opened_main, proc_fits}
use Rattle.rule_parameters.specs.declared.framing.Opened.{Opened}
use Rattle.rule_judge.specs.Answers.{proc_numbers}
use Rattle.rule_judge.specs.Entering.{EntryStands, last_of, EntryTold, GivesOpened, head_of}
use Rattle.rule_judge.specs.Judging.{Standing}
use Rattle.rule_judge.specs.Whole.{head_in, whole_staged}
use Rattle.rule_judge.proofs.Bodies.{proc_of, proc-shape, proc-old, proc-new, proc-fits, ProcThere, list-old-or-new}
use Rattle.rule_judge.proofs.BodyEnters.{next_fits, procs-here, procs-few, body-told, body-keeps, body-grows, LaidHere, laid-here, above-none, none-laid}
use Rattle.rule_judge.proofs.BodyFrames.{frame-place, none-place, tells_none, tells-some}
use Rattle.rule_judge.proofs.BodyStands.{proc-holds}
use Rattle.rule_judge.proofs.Declaring.{bodies_kept}
use Rattle.law_theorems.proofs.Inversion.{none-some, some_inj, bind-some, and-true}
use Rattle.law.specs.Ceilings.{variables_in, cells_in}
use Rattle.rule_parameters.specs.Framing.{parameters_fit}
use Rattle.rule_parameters.specs.Listing.{list_new, list_staged, list_of, kind_fault, parameters_by, parameters_in, body_by, body_part, ListTold, list-none, list-wrong, list_read, no_list}
use Rattle.rule_declarations.specs.Vars.{vars_fit}
use Rattle.rule_declarations.proofs.VarLines.{vars-held, cells-held}
use Rattle.rule_judge.specs.Entering.{ProcEnds, ProcListed, ProcNamed, proc-wrong, proc-right}
use Rattle.law.specs.Names.{field_names}
use Rattle.law.specs.Syntax.{TypeName}
use Rattle.law.specs.Trees.{Tree, Trees, Run, word, form, end, ◌then◌, nodes}
use Rattle.rule_faults.specs.Got.{is_form, is_clear}
use Rattle.rule_stages.specs.Stages.{unnamed, staged}
use Rattle.rule_atoms.proofs.Telling.{wrong-fits}
use Rattle.rule_pairs.specs.Pairs.{pairs_in, pair_by, pair_parts}
use Rattle.rule_parameters.specs.Framing.{lay_opening, base_of, lets_in, opened_by, scope_after, nothing_framed}
use Rattle.rule_parameters.specs.declared.listing.Listed.{Listed}
use Rattle.rule_parameters.proofs.Lists.{each-inv, each_none}
use Rattle.rule_parameters.proofs.Openings.{opened-scene}
use Rattle.table_scope.proofs.Kept.{scene-kept}
use Rattle.text_heads.specs.Parts.{part_of}
use Rattle.table_scope.proofs.Telling.{meant}

-- ---- a new name

-- a name is new where it means nothing yet
free-name : (σ : Environment) (w : Name) → find σ.names w ≡ none → new_names σ (w ∷ []) ≡ true
unfolding new_names distinct none_known is_known listed_in
free-name σ w h = rw (h, is_known) refl

taken-name : (σ : Environment) (w : Name) (m : NameSort) → find σ.names w ≡ some m → new_names σ (w ∷ []) ≡ false
unfolding new_names distinct none_known is_known listed_in
taken-name σ w m h = rw (h, is_known) refl

pub new-name : (σ : Environment) (bs : List ℕ) (x : Meaning) (w : Name) → Told σ bs x (find σ.names w) → new_fault Clear x ≡ cond (new_names σ (w ∷ [])) Clear Unnamed
new-name σ bs x w T = go (find σ.names w) refl x T
  where
    go : (o : Option NameSort) → find σ.names w ≡ o → (x : Meaning) → Told σ bs x o → new_fault Clear x ≡ cond (new_names σ (w ∷ [])) Clear Unnamed
    go none h x unknown = rw (free-name σ w h) refl
    go (some m) h x (known a-type) = rw (taken-name σ w m h) refl
    go (some m) h x (known (a-var v e)) = rw (taken-name σ w m h) refl
    go (some m) h x (known a-proc) = rw (taken-name σ w m h) refl
    go (some m) h x (known a-value) = rw (taken-name σ w m h) refl

pub proc-open : (k : Declared) (w : Name) (qs : List (Name × ℕ)) (y : Body) (n nn : ℕ) → (declare_line k (new_proc w qs y) n nn).ended ≡ false
unfolding declare_line
proc-open k w qs y n nn = refl

pub last-proc : (w : Name) (ps : List (Name × Syntax.TypeName)) (o : Option (Syntax.Body × ℕ)) (p : Syntax.Body × ℕ) → o ≡ some p → last_of (o >>= λ b. some (proc_of w ps b)) ≡ p.1
unfolding ◌>>=◌
last-proc w ps o p h = rw h refl

below-32 : (n : ℕ) → ltb n 32 ≡ leb (suc n) 32
below-32 n = go (ltb n 32) refl
  where
    go : (b : Bool) → ltb n 32 ≡ b → b ≡ leb (suc n) 32
    go true e = sym (le-leb (suc n) 32 (let h = ltb-true n 32 e in omega arith))
    go false e = sym (lt-leb (suc n) 32 (let h = ltb-false n 32 e in omega arith))

-- ---- row 9: n is how many parameters the code counts

module _ {s l ts : List ℕ} {st : State} {k : Declared} {bs : List ℕ} (H : Holds s l ts st k bs) (w : Name) (qs : List (Name × ℕ)) (y : Body) (n : ℕ)
    (few : length qs ≤ 1000 → n ≡ length qs) (full : 1000 < length qs → n ≡ 1000) where
  bounds : (b : Bool) → leb (length qs) 8 ≡ b → proc_fits st n ≡ line_bounded k (new_proc w qs y)
  unfolding proc_fits parameters_fit vars_fit line_bounded
  bounds true e =
      let i = leb-true (length qs) 8 e in
      let m : n ≡ length qs = few (omega (arith, i)) in
      rw (m, vars-held H, cells-held H, below-32 st.procs, H.procs-are) (all (leb (suc (length k.bodies)) 32) (leb (length qs) 8) _ _)
    where
      all : (a b c d : Bool) → (a && (b && (c && d))) ≡ (a && b && c && d)
      all true true c d = refl
      all true false c d = refl
      all false b c d = refl
  bounds false e =
      let z : leb n 8 ≡ false = past n (leb (length qs) 1000) refl in
      rw (z, e, below-32 st.procs, H.procs-are) (no (leb (suc (length k.bodies)) 32) true (leb (variables_in k + length qs) 128) (leb (cells_in k + length qs) 2048))
    where
      no : (a v x y : Bool) → (a && (false && v)) ≡ (a && false && x && y)
      no true v x y = refl
      no false v x y = refl

      past : (m : ℕ) (b : Bool) → leb (length qs) 1000 ≡ b → leb n 8 ≡ false
      past m true h = ap (λ (x : ℕ). leb x 8) (few (leb-true (length qs) 1000 h)) ∙ e
      past m false h = ap (λ (x : ℕ). leb x 8) (full (over (length qs) 1000 h))
        where
          over : (a b : ℕ) → leb a b ≡ false → b < a
          over a b g = leb-false a b g

  pub bounded-is : proc_fits st n ≡ line_bounded k (new_proc w qs y)
  bounded-is = bounds (leb (length qs) 8) refl

pub row-nine : (k : Declared) (w : Name) (qs : List (Name × ℕ)) (y : Body) → line_bounded k (new_proc w qs y) ≡ true → (length qs ≤ 8) × (variables_in k + length qs ≤ 128)
unfolding line_bounded
row-nine k w qs y h =
    let x = (and-true (leb (suc (length k.bodies)) 32 && leb (length qs) 8 && leb (variables_in k + length qs) 128) (leb (cells_in k + length qs) 2048) h).0 in
    let y = and-true (leb (suc (length k.bodies)) 32 && leb (length qs) 8) (leb (variables_in k + length qs) 128) x in
    (leb-true (length qs) 8 (and-true (leb (suc (length k.bodies)) 32) (leb (length qs) 8) y.0).1, leb-true (variables_in k + length qs) 128 y.1)

pub fits-parameters : (st : State) (n : ℕ) → proc_fits st n ≡ true → parameters_fit st n ≡ true
unfolding proc_fits
fits-parameters st n h = (and-true (ltb st.procs 32) (parameters_fit st n) h).1

-- ---- what the node of the body tells

module _ (s l ts : List ℕ) (kn : Known) (r : Read) (bs : List ℕ) (S : Standing s l ts kn r bs) (o : Opened) (l₁ : List ℕ) (A : Above kn.state.top l o.top l₁)
    (few : r.known.stmts + nodes_in (first (stack_at s o.at)) ≤ 65535) (g : Got) (l' : List ℕ) (B : GivesOpened s l₁ ts kn o g l') (τ : Environment) (N : Scene s l₁ ts o.scope o.top τ bs) (c : BodyCode) where
  types-length : (qs : List (Name × ℕ)) → length (parameter_types qs) ≡ length qs
  types-length qs = length-map qs (λ (p : Name × ℕ). p.1)

  pub tells-parameters : (qs : List (Name × ℕ)) → (F : out o.frame o.top l₁ ≡ lay_frame (frame_of r.known.env qs) (lay_types (parameter_types qs) kn.state.top l).top (lay_types (parameter_types qs) kn.state.top l).list)
      → LaidHere s l ts kn r bs S o l₁ A few g l' B τ (frame_of r.known.env qs) N (parameter_types qs) F c → length qs ≤ 8 → TellsFrame l' g.top g.place (parameter_types qs)
  unfolding frame_of size_body
  tells-parameters [] F L h = tells_none (rw (none-place (lay_types [] kn.state.top l).top (lay_types [] kn.state.top l).list) at L.node-here)
  tells-parameters (q ∷ qs) F L h =
      let n : length (parameter_types (q ∷ qs)) ≡ length (q ∷ qs) = types-length (q ∷ qs) in
      let e = frame-place (frame_of r.known.env (q ∷ qs)).base (want_of r.known.env.types q.1) (map (want_of r.known.env.types) (parameter_types qs)) (lay_types (parameter_types (q ∷ qs)) kn.state.top l).top (lay_types (parameter_types (q ∷ qs)) kn.state.top l).list in
      let X = L.node-here in
      tells-some (parameter_types (q ∷ qs)) L.typed-here X (X.frame-there.read L.frame-fits) (e ∙ L.start-here) (omega (arith, e, L.start-here, L.top-here))
      (length-map (parameter_types (q ∷ qs)) (want_of r.known.env.types)) (omega (arith, n, h))

-- ---- a line whose list is right: its parameters are qs, the code counts n of them

module _ (s l ts : List ℕ) (kn : Known) (r : Read) (bs : List ℕ) (S : Standing s l ts kn r bs) (p : ℕ) (inside : p < length s) (ps : List (Name × Syntax.TypeName)) (qs : List (Name × ℕ))
    (typed : each (pair_of r.known.env) ps ≡ some qs) (new : list_new r.known.env (map small (word_at s p)) qs ≡ true) (o : Opened) (l₁ : List ℕ) (A : Above kn.state.top l o.top l₁)
    (few : r.known.stmts + nodes_in (first (stack_at s o.at)) ≤ 65535) (g : Got) (l' : List ℕ) (B : GivesOpened s l₁ ts kn o g l') (N : Scene s l₁ ts o.scope o.top (within r.known.env qs) bs)
    (lf : Fault) (hl : lf ≡ kind_fault (kept_parameters r.known.env.types qs)) (n : ℕ) (count-few : length qs ≤ 1000 → n ≡ length qs) (count-full : 1000 < length qs → n ≡ 1000)
    (F : lf ≡ Clear → parameters_fit kn.state n ≡ true → out o.frame o.top l₁ ≡ lay_frame (frame_of r.known.env qs) (lay_types (parameter_types qs) kn.state.top l).top (lay_types (parameter_types qs) kn.state.top l).list)
    (e : Entered) (l'' : List ℕ) (P : ProcEnds kn (lowest (lowest (new_fault Clear (meaning_here s l kn.state.scope p)) lf) g.fault) n g (keyed s p) l' e l'') where
  abbrev w : Name
  w = map small (word_at s p)

  abbrev fr : Frame
  fr = frame_of r.known.env qs

  abbrev f : Fault
  f = lowest (lowest (new_fault Clear (meaning_here s l kn.state.scope p)) lf) g.fault

  abbrev read : Option (Syntax.Body × ℕ)
  read = body_in r.known.stmts (first (stack_at s o.at))

  told : BodyTold (within r.known.env qs) fr bs (head_of kn o) read o.top l₁ g l'
  told = body-told s l ts kn r bs S o l₁ A few g l' B (within r.known.env qs) fr N

  fault-here : f ≡ fault_of (whole_staged r.known (read >>= λ b. some (proc_of w ps b)))
  fault-here =
      ap (λ (h : Fault). lowest (lowest h lf) g.fault) (new-name r.known.env bs _ w (meant S.holds.scene w))
      ∙ ap (λ (h : Fault). lowest (lowest (cond (new_names r.known.env (w ∷ [])) Clear Unnamed) h) g.fault) hl
      ∙ ap (lowest (lowest (cond (new_names r.known.env (w ∷ [])) Clear Unnamed) (kind_fault (kept_parameters r.known.env.types qs)))) told.fault-is
      ∙ sym (proc-new r.known w ps qs typed new read)

  numbers-are : proc_numbers kn.state (keyed s p) g.place ≡ keyed s p ∷ (2 + 4 * length bs) ∷ g.place ∷ kn.state.scope.newest ∷ []
  unfolding proc_numbers
  numbers-are = let b : kn.state.procs % 16384 ≡ length bs = mod-eq_of_lt (procs-few s l ts kn r bs S) ∙ procs-here s l ts kn r bs S in rw b refl

  proc-here : (d : Syntax.Body × ℕ) (y : Body) (c : BodyCode) → f ≡ Clear → lf ≡ Clear → read ≡ some d → body_staged (within r.known.env qs) fr (bare read) ≡ fits c → line_bounded r.known (new_proc w qs y) ≡ true
      → kn.state.top + symbol_size (new_proc w qs y) + size_bodies (c ∷ []) ≤ 16384 → (nn : ℕ) → Measured (declare_line r.known (new_proc w qs y) d.1 nn) (r.codes ++ c ∷ [])
      → EntryStands s l'' ts kn.state.top e r (new_proc w qs y) (c ∷ []) d.1 nn
  unfolding symbol_size size_bodies
  proc-here d y c z zl hd hc hb h nn M =
      let q = row-nine r.known w qs y hb in
      let m : n ≡ length qs = count-few (omega (arith, q.0)) in
      let i = F zl (fits-parameters kn.state n (bounded-is S.holds w qs y n count-few count-full ∙ hb)) in
      let j : length (parameter_types qs) ≡ length qs = length-map qs (λ (p : Name × ℕ). p.1) in
      let L = laid-here s l ts kn r bs S o l₁ A few g l' B (within r.known.env qs) fr N (parameter_types qs) i c hc (omega (arith, h, j)) (next_fits (declare_line r.known (new_proc w qs y) d.1 nn) r.codes c M) in
      let T = tells-parameters s l ts kn r bs S o l₁ A few g l' B (within r.known.env qs) N c qs i L q.0 in
      let t = L.top-here in
      let Z = P.laid.laid_so z in
      let x = numbers-are in
      let v : (lay (keyed s p ∷ (2 + 4 * length bs) ∷ g.place ∷ kn.state.scope.newest ∷ []) g.top l').top ≡ g.top + 4 = (lay-l (keyed s p ∷ (2 + 4 * length bs) ∷ g.place ∷ kn.state.scope.newest ∷ []) g.top l').top-is (omega (arith, t, h, j)) in
      rw (P.given, Z.0, Z.1, x, m) (record {
        places = bs ++ g.place ∷ [];
        holds = proc-holds S.holds (procs-few s l ts kn r bs S) qs y d.1 nn (body-keeps s l ts kn r bs S o l₁ A few g l' B (within r.known.env qs) fr N) L.long-here g.top
            (body-grows s l ts kn r bs S o l₁ A few g l' B (within r.known.env qs) fr N) (omega (arith, t, h, j)) g.place p (omega (arith, inside, S.holds.short-text)) T (omega (arith, q.1)) M.keeps;
        top-is = omega (arith, v, t, j);
        bodies = λ other. bodies_kept other (L.bodies-here other) (laid_same (keyed s p ∷ (2 + 4 * length bs) ∷ g.place ∷ kn.state.scope.newest ∷ []) g.top l' _ refl) (omega (arith, v));
        stmts-are = told.number d hd;
        ended_is = sym (proc-open r.known w qs y d.1 nn);
        main-is = λ a. absurd (true≢false (sym a ∙ proc-open r.known w qs y d.1 nn));
      })

  there : (a : Entry) (cs : List BodyCode) → whole_staged r.known (read >>= λ b. some (proc_of w ps b)) ≡ fits (a, cs) → ProcThere r.known w qs read a cs
  there a cs h = proc-fits r.known w ps qs typed new read a cs h

  clear-list : (b : Bool) → b ≡ true → kind_fault b ≡ Clear
  unfolding kind_fault
  clear-list b h = rw h refl

  proc-stands : (a : Entry) (cs : List BodyCode) → f ≡ Clear → ProcThere r.known w qs read a cs → line_bounded r.known a ≡ true → kn.state.top + symbol_size a + size_bodies cs ≤ 16384 → (nn : ℕ)
      → Measured (declare_line r.known a (last_of (read >>= λ b. some (proc_of w ps b))) nn) (r.codes ++ cs) → EntryStands s l'' ts kn.state.top e r a cs (last_of (read >>= λ b. some (proc_of w ps b))) nn
  proc-stands a cs z Y hb h nn M =
      let i = last-proc w ps read Y.read Y.read_is in
      let b' : line_bounded r.known (new_proc w qs Y.body) ≡ true = rw (← Y.entry-is) hb in
      let h' : kn.state.top + symbol_size (new_proc w qs Y.body) + size_bodies (Y.code ∷ []) ≤ 16384 = rw (← Y.entry-is, ← Y.codes-are) h in
      let M' : Measured (declare_line r.known (new_proc w qs Y.body) Y.read.1 nn) (r.codes ++ Y.code ∷ []) = rw (← Y.entry-is, ← Y.codes-are, ← i) M in
      let E = proc-here Y.read Y.body Y.code z (hl ∙ clear-list (kept_parameters r.known.env.types qs) Y.kept-so) Y.read_is Y.fits-so b' h' nn M' in
      rw (Y.entry-is, Y.codes-are, i) E

  pub listed-told : EntryTold s l'' ts kn.state.top r (read >>= λ b. some (proc_of w ps b)) e
  listed-told = record {
    fault-is = ap (λ (x : Entered). x.fault) P.given ∙ fault-here;
    within-is = λ a cs k. let Y = there a cs k in ap (λ (x : Entered). x.within) P.given ∙ bounded-is S.holds w qs Y.body n count-few count-full ∙ ap (line_bounded r.known) (sym Y.entry-is);
    stands = λ a cs k b c nn M. proc-stands a cs (fault-here ∙ ap fault_of k) (there a cs k) b c nn M;
  }

-- ---- a line whose list has a fault of row 7

low-name : (x : Fault) → is_clear (lowest Unnamed x) ≡ false
low-name Clear = refl
low-name Kind = refl
low-name Unnamed = refl
low-name Form = refl

never-clear : (a x : Fault) → is_clear (lowest (lowest a Unnamed) x) ≡ false
never-clear Clear x = low-name x
never-clear Kind x = low-name x
never-clear Unnamed x = low-name x
never-clear Form x = refl

module _ (s l ts : List ℕ) (kn : Known) (r : Read) (bs : List ℕ) (S : Standing s l ts kn r bs) (p : ℕ) (ps : List (Name × TypeName)) (old : list_staged r.known.env (map small (word_at s p)) ps ≡ unnamed)
    (o : Opened) (l₁ : List ℕ) (A : Above kn.state.top l o.top l₁) (few : r.known.stmts + nodes_in (first (stack_at s o.at)) ≤ 65535) (g : Got) (l' : List ℕ) (B : GivesOpened s l₁ ts kn o g l')
    (N : Scene s l₁ ts o.scope o.top r.known.env bs) (lf : Fault) (hl : lf ≡ Unnamed) (n : ℕ)
    (e : Entered) (l'' : List ℕ) (P : ProcEnds kn (lowest (lowest (new_fault Clear (meaning_here s l kn.state.scope p)) lf) g.fault) n g (keyed s p) l' e l'') where
  abbrev line : Option (Syntax.LineForm × ℕ)
  line = body_in r.known.stmts (first (stack_at s o.at)) >>= λ b. some (proc_of (map small (word_at s p)) ps b)

  old-fault : lowest (lowest (new_fault Clear (meaning_here s l kn.state.scope p)) lf) g.fault ≡ fault_of (whole_staged r.known line)
  old-fault =
      ap (λ (h : Fault). lowest (lowest h lf) g.fault) (new-name r.known.env bs _ (map small (word_at s p)) (meant S.holds.scene (map small (word_at s p))))
      ∙ ap (λ (h : Fault). lowest (lowest (cond (new_names r.known.env (map small (word_at s p) ∷ [])) Clear Unnamed) h) g.fault) hl
      ∙ ap (lowest (lowest (cond (new_names r.known.env (map small (word_at s p) ∷ [])) Clear Unnamed) Unnamed)) (body-told s l ts kn r bs S o l₁ A few g l' B r.known.env no_frame N).fault-is
      ∙ sym (proc-old r.known (map small (word_at s p)) ps old r.known.env no_frame (body_in r.known.stmts (first (stack_at s o.at))))

  no-fit : (x : Entry × List BodyCode) → whole_staged r.known line ≡ fits x → ⊥
  no-fit x h =
      let z : lowest (lowest (new_fault Clear (meaning_here s l kn.state.scope p)) Unnamed) g.fault ≡ Clear = ap (λ (y : Fault). lowest (lowest (new_fault Clear (meaning_here s l kn.state.scope p)) y) g.fault) (sym hl) ∙ old-fault ∙ ap fault_of h in
      true≢false (sym (ap is_clear z) ∙ never-clear (new_fault Clear (meaning_here s l kn.state.scope p)) g.fault)

  pub old-told : EntryTold s l'' ts kn.state.top r line e
  old-told = record { fault-is = ap (λ (x : Entered). x.fault) P.given ∙ old-fault; within-is = λ a cs k. absurd (no-fit (a, cs) k); stands = λ a cs k. absurd (no-fit (a, cs) k) }

-- ---- counts

pub list-small : (us vs : Trees Run) → list_of us ≡ some vs → nodes_in vs ≤ nodes_in us
unfolding list_of nodes
list-small end vs h = none-some h
list-small (word x then ts) vs h = none-some h
list-small (form end then ts) vs h = none-some h
list-small (form (word x then us) then ts) vs h = none-some h
list-small (form (form xs then us) then ts) vs h = let z : nodes_in (form xs then us) ≡ nodes_in vs = ap (λ (a : Trees Run). nodes_in a) (some_inj h) in omega (arith, z)

pub rest-small : (us : Trees Run) → nodes_in (rest us) ≤ nodes_in us
unfolding nodes
rest-small end = omega arith
rest-small (t then ts) = omega arith

no_name : name_in end ≡ none
unfolding name_in part_of ◌>>=◌
no_name = refl

node-one : (t : Tree Run) → 1 ≤ nodes t
unfolding nodes
node-one (word x) = omega arith
node-one (form ts) = omega arith

pub pairs_small : (us : Trees Run) (ps : List (Name × TypeName)) → pairs_in us ≡ some ps → 2 * length ps ≤ nodes_in us
unfolding pairs_in pair_by pair_parts nodes
pairs_small end ps h = let z : 0 ≡ length ps = ap length (some_inj h) in omega (arith, z)
pairs_small (word x then ts) ps h = bind-some h λ f hf _. none-some hf
pairs_small (form end then ts) ps h = bind-some h λ f hf _. bind-some hf λ n hn _. none-some (sym no_name ∙ hn)
pairs_small (form (v then vs) then ts) ps h = bind-some h λ f hf g. bind-some g λ fs hs e.
    let z : suc (length fs) ≡ length ps = ap length (some_inj e) in
    let i = pairs_small ts fs hs in
    omega (arith, z, i, node-one v)

pub resolved-length : (σ : Environment) (ps : List (Name × TypeName)) (qs : List (Name × ℕ)) → each (pair_of σ) ps ≡ some qs → length qs ≡ length ps
resolved-length σ [] qs h = ap length (each_none σ qs h)
resolved-length σ (p ∷ ps) qs h = let v = each-inv σ p.0 p.1 ps qs h in ap length v.4 ∙ ap suc (resolved-length σ ps v.1 v.3)

pub opening-is : (σ : Environment) (a : ℕ) (qs : List (Name × ℕ)) (t : ℕ) (l : List ℕ) → 1 ≤ length qs → a ≡ 2048 + length σ.parameters
    → lay_opening a (parameter_types qs) σ t l ≡ lay_frame (frame_of σ qs) (lay_types (parameter_types qs) t l).top (lay_types (parameter_types qs) t l).list
unfolding lay_opening frame_of
opening-is σ a [] t l h e = absurd (omega (arith, h))
opening-is σ a (q ∷ qs) t l h e = rw e refl

pub fit-few : (st : State) (n : ℕ) → parameters_fit st n ≡ true → n ≤ 8
unfolding parameters_fit
fit-few st n h = leb-true n 8 (and-true (leb n 8) (vars_fit st n n) h).0

pub counted : (m n : ℕ) → (m ≤ 1000 → n ≡ m) → (1000 < m → n ≡ 1000) → n ≤ 8 → n ≡ m
counted m n few full h = go (leb m 1000) refl
  where
    go : (b : Bool) → leb m 1000 ≡ b → n ≡ m
    go true e = few (leb-true m 1000 e)
    go false e = let z = full (leb-false m 1000 e) in absurd (omega (arith, z, h))

-- ---- all of it

-- no form: a fault of row 6
pub wrong-told : (s l ts : List ℕ) (top : ℕ) (r : Read) (o : Option (Syntax.LineForm × ℕ)) (g : Entered) → o ≡ none → g.fault ≡ Form → EntryTold s l ts top r o g
unfolding whole_staged staged ◌>>=◌
wrong-told s l ts top r o g h e = rw h (record { fault-is = e; within-is = λ x cs q. absurd (wrong-fits q); stands = λ x cs q. absurd (wrong-fits q) })

pub name-first : {A B : Type 0} (o : Option A) (a : A) (f : A → Option B) → o ≡ some a → (o >>= f) ≡ f a
unfolding ◌>>=◌
name-first o a f h = rw h refl

pub none_first : {A B : Type 0} (o : Option A) (f : A → Option B) → o ≡ none → (o >>= f) ≡ none
unfolding ◌>>=◌
none_first o f h = rw h refl

pub kind-form : (b : Bool) → is_form (kind_fault b) ≡ false
unfolding kind_fault
kind-form true = refl
kind-form false = refl

pub in-kind : (b : Bool) → lets_in (kind_fault b) ≡ true
unfolding kind_fault
in-kind true = refl
in-kind false = refl

pub list-there : (us vs : Trees Run) (ps : List (Name × TypeName)) → list_of us ≡ some vs → pairs_in vs ≡ some ps → parameters_in us ≡ some ps
unfolding parameters_by
list-there us vs ps h g = rw h g

pub no-list-there : (us : Trees Run) → list_of us ≡ none → parameters_in us ≡ some []
unfolding parameters_by
no-list-there us h = rw h refl

pub body-after : (us vs : Trees Run) → list_of us ≡ some vs → body_part us ≡ rest us
unfolding body_by
body-after us vs h = rw h refl

pub body-alone : (us : Trees Run) → list_of us ≡ none → body_part us ≡ us
unfolding body_by
body-alone us h = rw h refl

module _ (s l ts : List ℕ) (kn : Known) (r : Read) (bs : List ℕ) (S : Standing s l ts kn r bs) (at p q : ℕ) (there : LeafAt s at p q) (inside : p < length s) (called : name_in (first (stack_at s at)) ≡ some (map small (word_at s p)))
    (short : nodes_in (first (stack_at s q)) ≤ 32768) (e : Entered) (l'' : List ℕ) where
  abbrev wn : Name
  wn = map small (word_at s p)

  abbrev σ : Environment
  σ = r.known.env

  abbrev us : Trees Run
  us = first (stack_at s q)

  few-in : (vs : Trees Run) → nodes_in vs ≤ nodes_in (first (stack_at s q)) → r.known.stmts + nodes_in vs ≤ 65535
  few-in vs h = omega (arith, h, short, S.measured.stmts, S.measured.nodes)

  proc-read : head_in is_proc r.known.stmts (first (stack_at s at)) ≡ (parameters_in us >>= λ ps. body_in r.known.stmts (body_part us) >>= λ b. some (proc_of wn ps b))
  proc-read =
      proc-shape r.known.stmts (first (stack_at s at))
      ∙ name-first (name_in (first (stack_at s at))) wn (λ v. parameters_in (rest (first (stack_at s at))) >>= λ ps. body_in r.known.stmts (body_part (rest (first (stack_at s at)))) >>= λ b. some (proc_of v ps b)) called
      ∙ ap (λ (vs : Trees Run). parameters_in vs >>= λ ps. body_in r.known.stmts (body_part vs) >>= λ b. some (proc_of wn ps b)) (ap rest there.leaf.here)

  read-so : (ps : List (Name × TypeName)) (vs : Trees Run) → parameters_in us ≡ some ps → body_part us ≡ vs → head_in is_proc r.known.stmts (first (stack_at s at)) ≡ (body_in r.known.stmts vs >>= λ b. some (proc_of wn ps b))
  read-so ps vs h g =
      proc-read ∙ name-first (parameters_in us) ps (λ ps. body_in r.known.stmts (body_part us) >>= λ b. some (proc_of wn ps b)) h
      ∙ ap (λ (vs : Trees Run). body_in r.known.stmts vs >>= λ b. some (proc_of wn ps b)) g

  abbrev Goal : Type 0
  Goal = EntryTold s l'' ts kn.state.top r (head_in is_proc r.known.stmts (first (stack_at s at))) e

  not-form : (ps : List (Name × TypeName)) → fault_of (list_staged σ wn ps) ≡ Form → ⊥
  not-form ps h = go (list-old-or-new r.known wn ps)
    where
      go : (list_staged σ wn (ps) ≡ unnamed) ⊎ ((qs : List (Name × ℕ)) × (each (pair_of σ) (ps) ≡ some qs) × (list_new σ wn qs ≡ true) × (fault_of (list_staged σ wn (ps)) ≡ kind_fault (kept_parameters σ.types qs))) → ⊥
      go (inl a) = true≢false (ap is_form (sym h ∙ ap fault_of a))
      go (inr x) = true≢false (ap is_form (sym h ∙ x.3) ∙ kind-form (kept_parameters σ.types x.0))

  -- no list
  alone-told : (c : Listed) → c ≡ no_list q → list_of us ≡ none → ProcListed s l ts kn (lowest (new_fault Clear (meaning_here s l kn.state.scope p)) c.fault) c p e l'' → Goal
  unfolding within scope_after each list_new distinct none_known listed_in field_names kept_parameters kind_fault frame_of
  alone-told c h a L =
      let n = L.opens.frames.none (ap (λ (x : Listed). x.count) h) in
      let o : L.opened ≡ opened_main kn.state q = L.opens.opened ∙ ap (opened_by kn.state c) n.0 ∙ ap (λ (x : Listed). opened_by kn.state x (nothing_framed kn.state)) h in
      let B : GivesOpened s l ts kn (opened_main kn.state q) L.answer L.list =
      subst (λ (x : Opened). GivesOpened s l ts kn x L.answer L.list) o (subst (λ (x : List ℕ). GivesOpened s x ts kn L.opened L.answer L.list) n.1 L.gives) in
      rw (read-so [] us (no-list-there us a) (body-alone us a))
      (listed-told s l ts kn r bs S p inside [] [] refl refl (opened_main kn.state q) l (above-none kn.state.top l) (few-in us (omega arith)) L.answer L.list B S.holds.scene
      c.fault (ap (λ (x : Listed). x.fault) h) c.count (λ _. ap (λ (x : Listed). x.count) h) (λ i. absurd (omega (arith, i))) (λ _ _. none-laid kn.state.top l) e l'' L.ends)

  -- a list
  module _ (c : Listed) (L : ProcListed s l ts kn (lowest (new_fault Clear (meaning_here s l kn.state.scope p)) c.fault) c p e l'') (f : Name × TypeName) (fs : List (Name × TypeName))
      (hl : list_of us ≡ some (first (stack_at s c.pairs))) (hp : pairs_in (first (stack_at s c.pairs)) ≡ some (f ∷ fs)) (later : 1 ≤ c.pairs) (nx : first (stack_at s c.next) ≡ rest us)
      (cf : length (f ∷ fs) ≤ 1000 → c.count ≡ length (f ∷ fs)) (cm : 1000 < length (f ∷ fs) → c.count ≡ 1000) (hf : c.fault ≡ fault_of (list_staged σ wn (f ∷ fs))) where
    abbrev o : Opened
    o = opened_by kn.state c L.opens.framed

    B : GivesOpened s L.framed ts kn (opened_by kn.state c L.opens.framed) L.answer L.list
    B = subst (λ (x : Opened). GivesOpened s L.framed ts kn x L.answer L.list) L.opens.opened L.gives

    A : Above kn.state.top l L.opens.framed.top L.framed
    A = L.opens.frames.above

    few-here : r.known.stmts + nodes_in (first (stack_at s c.next)) ≤ 65535
    few-here = few-in (first (stack_at s c.next)) (rw nx (rest-small us))

    read_here : head_in is_proc r.known.stmts (first (stack_at s at)) ≡ (body_in r.known.stmts (first (stack_at s c.next)) >>= λ b. some (proc_of wn (f ∷ fs) b))
    read_here = read-so (f ∷ fs) (first (stack_at s c.next)) (list-there us (first (stack_at s c.pairs)) (f ∷ fs) hl hp) (body-after us (first (stack_at s c.pairs)) hl ∙ sym nx)

    list-old : list_staged σ wn (f ∷ fs) ≡ unnamed → Goal
    unfolding scope_after
    list-old h =
        let u : c.fault ≡ Unnamed = hf ∙ ap fault_of h in
        let N : Scene s L.framed ts kn.state.scope L.opens.framed.top σ bs = scene-kept S.holds.scene A.keeps A.up in
        let sc : scope_after kn.state c ≡ kn.state.scope = rw u (same (eqb c.pairs 0)) in
        rw read_here (old-told s l ts kn r bs S p (f ∷ fs) h o L.framed A few-here L.answer L.list B (rw sc N) c.fault u c.count e l'' L.ends)
      where
        same : (b : Bool) → cond b kn.state.scope kn.state.scope ≡ kn.state.scope
        same true = refl
        same false = refl

    list-new : (qs : List (Name × ℕ)) → each (pair_of σ) (f ∷ fs) ≡ some qs → list_new σ wn qs ≡ true → fault_of (list_staged σ wn (f ∷ fs)) ≡ kind_fault (kept_parameters σ.types qs) → Goal
    list-new qs ty nw k =
        let m = resolved-length σ (f ∷ fs) qs ty in
        let z = pairs_small (first (stack_at s c.pairs)) (f ∷ fs) hp in
        let y = list-small us (first (stack_at s c.pairs)) hl in
        let lets : lets_in c.fault ≡ true = ap lets_in (hf ∙ k) ∙ in-kind (kept_parameters σ.types qs) in
        let N = opened-scene S.holds c later lets (f ∷ fs) qs hp ty (omega (arith, m, z, y, short)) wn nw A in
        let base : base_of kn.state ≡ 2048 + length σ.parameters = let v : kn.state.parameters % 2048 ≡ kn.state.parameters = mod-eq_of_lt (omega (arith, S.holds.few-parameters)) in omega (arith, v, S.holds.parameters-are) in
        rw read_here (listed-told s l ts kn r bs S p inside (f ∷ fs) qs ty nw o L.framed A few-here L.answer L.list B N c.fault (hf ∙ k) c.count (λ i. cf (omega (arith, i, m)) ∙ sym m) (λ i. cm (omega (arith, i, m)))
        (λ cl fit.
        let n : c.count ≡ length (f ∷ fs) = counted (length (f ∷ fs)) c.count cf cm (fit-few kn.state c.count fit) in
        L.opens.frames.says cl fit (omega (arith, n)) σ bs S.holds.scene (parameter_types qs) (record { read = f ∷ fs; pairs = qs; read_is = hp; pairs-are = ty; types_are = refl; count-is = n })
        ∙ opening-is σ (base_of kn.state) qs kn.state.top l (omega (arith, m)) base) e l'' L.ends)

    pub list-told : Goal
    list-told = go (list-old-or-new r.known wn (f ∷ fs))
      where
        go : (list_staged σ wn (f ∷ fs) ≡ unnamed) ⊎ ((qs : List (Name × ℕ)) × (each (pair_of σ) (f ∷ fs) ≡ some qs) × (list_new σ wn qs ≡ true) × (fault_of (list_staged σ wn (f ∷ fs)) ≡ kind_fault (kept_parameters σ.types qs))) → Goal
        go (inl a) = list-old a
        go (inr x) = list-new x.0 x.1 x.2 x.3

  pub proc-told : ProcNamed s l ts kn p q e l'' → Goal
  proc-told (proc-wrong c C z ge gl) = go (C.says kn.state.top σ bs S.holds.scene)
    where
      go : ListTold s σ wn q c → Goal
      go (list-none a b) = absurd (true≢false (ap is_form (sym z ∙ ap (λ (x : Listed). x.fault) b)))
      go (list-wrong a b) = wrong-told s l'' ts kn.state.top r _ e (proc-read ∙ none_first (parameters_in us) (λ ps. body_in r.known.stmts (body_part us) >>= λ b. some (proc_of wn ps b)) a) (ap (λ (x : Entered). x.fault) ge)
      go (list_read f fs a b d h i j k m n) = absurd (not-form (f ∷ fs) (sym n ∙ z))
  proc-told (proc-right c C nf L) = go (C.says kn.state.top σ bs S.holds.scene)
    where
      go : ListTold s σ wn q c → Goal
      go (list-none a b) = alone-told c b a L
      go (list-wrong a b) = absurd (true≢false (sym (ap is_form b) ∙ nf))
      go (list_read f fs a b d h i j k m n) = list-told c L f fs a b d i k m n
