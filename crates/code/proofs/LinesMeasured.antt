-- What accepted lines keep of the ceilings, and of the code of their bodies: its calls, the sizes of its numbers, and what an engine needs.
use mathlib.Core.Path.{◌≡◌, refl, sym, ap, ◌∙◌}
use mathlib.Core.Bool.{Bool, true, false, not}
use mathlib.Core.List.{List, [], ◌∷◌, ◌++◌, append-nil, map, map-append}
use mathlib.Core.Option.{some}
use Prim.Native.Nat.{ℕ, suc, ◌+◌, ◌≤◌, ◌<◌}
use native.Mathlib.Nat.{zero-add}
use native.Mathlib.Omega.{arith}
use borrow.Author.Tests.{leb-true}
use lib.Dec.{leb}
use lib.ListN.{get_or-append, get_or, length, length-append, length-map}
use Rattle.law.specs.Base.{Name, find}
use Rattle.law.specs.Ceilings.{cells_in, line_bounded, type_bounded, variables_in}
use Rattle.law.specs.Code.{BodyCode, Frame, no_frame}
use Rattle.law.specs.Elaborate.{elab_body}
use Rattle.law.specs.Environment.{Declared, PlacedBody, a_proc, declare_line, frame_of, nothing_declared, with_body, within}
use Rattle.law.specs.Forms.{Item}
use Rattle.law_theorems.specs.FormsByDepth.{line_form}
use Rattle.law_theorems.proofs.FormsAgree.{line_same}
use Rattle.law.specs.Lines.{Line, lines_of}
use Rattle.law.specs.Machine.{store_cells}
use Rattle.law.specs.Names.{body_of, entry_of}
use Rattle.law.specs.Rules.{keeps_rules, kept_body, kept_decl, kept_parameters}
use Rattle.law.specs.Script.{Body, Decl, Entry, new_main, new_proc, new_type, new_var}
use Rattle.law.specs.Syntax as S
use Rattle.law.specs.Trees.{nodes}
use Rattle.law.specs.Types.{size_of}
use Rattle.law.specs.Verdict.{Read, accepted, good, has, judge, judge_line, judge_lines, must, strictly}
use Rattle.law.specs.Whole.{verdict_of}
use Rattle.law_theorems.proofs.StatementNumbers as Counted
use Rattle.law_theorems.proofs.Inversion.{some_inj, bind-some, given-some, and-true}
use Rattle.law_theorems.proofs.TextsAgree.{accepted-inj, bad-good, body-frame, good-inj, musted, onward-is, opening-is, stage}
use Rattle.law_theorems.proofs.ValuesInRange.{wrong}
use Rattle.law_theorems.proofs.TypeSizes.{small-declared, small-start}
use Rattle.law_theorems.specs.ValuesInRange.{Formed, Test}
use Rattle.law_theorems.proofs.LinesKeep.{Bounds, Heading, heading-formed, heading-known, heading-less, keeps-formed, keeps-start, line-heading, line-keeps, proc-bounds, text-stand, text-tests, within-types}
use Rattle.law_theorems.specs.LinesKeep.{Callee, Keeps, Stand, frames_of, store_tests}
use Rattle.law_theorems.proofs.StatementNumbers.{CountedBody, CountedLine, line-counts}
use Rattle.law_theorems.proofs.TreeDepth.{Shallow, worded-shallow}
use Rattle.law_theorems.proofs.Balance.{form-depth}
use Rattle.law_theorems.proofs.Weights.{worded-nodes}
use Rattle.law_theorems.proofs.ScriptNumbers.{body-within}
use Rattle.law_theorems.proofs.ScriptCalls.{body-calling}
use Rattle.law_theorems.proofs.CodeCalls.{Below, body-also, body-calls}
use Rattle.law_theorems.specs.CodeCalls.{CallsBody, frame_by}
use Rattle.law_theorems.proofs.CodeSized.{Limits, body-sized, frame-sized, limits}
use Rattle.law_theorems.specs.CodeSized.{SizedBody, SizedFrame}
use Rattle.code.specs.CodeReady.{ReadyBody}
use Rattle.code.proofs.ElaboratedReady.{body-ready}
use Rattle.law_theorems.proofs.Bodies.{bodies-last}
use Rattle.law_theorems.specs.Bodies.{Bodies, body, none}
use Rattle.code.specs.LinesMeasured.{Measured}

-- ---- what the lines so far gave

pub measured-start : Measured nothing_declared []
measured-start = record {
  keeps = keeps-start;
  small = small-start;
  cells = omega arith;
  stmts = omega arith;
  nodes = omega arith;
  long = refl;
  frames = refl;
  procs = λ _. omega arith;
  most = omega arith;
  main = λ h. wrong h;
  calls = none;
  sized = none;
  ready = none;
}

open? : (b : Bool) → not b ≡ true → b ≡ false
open? true h = wrong h
open? false h = refl

must-good : (n : ℕ) (t : Bool) {u : Unit {0}} → must n t ≡ good u → t ≡ true
unfolding must
must-good n true h = refl
must-good n false h = bad-good h

-- the stages of a line that was judged good
line-parts : {P : Type 0} (k : Declared) (l : Line) (p : Declared × List BodyCode) → judge_line strictly k l ≡ good p
    → ((v : Item) (f : S.LineForm × ℕ) (e : Entry) (n : ℕ) → Shallow 32 v → k.ended ≡ false → line_form k.stmts v ≡ some f → entry_of k.env f.0 ≡ some e → keeps_rules k.env.types e ≡ true
    → strictly k.env e ≡ some p.1 → line_bounded k e ≡ true → n ≡ k.nodes + nodes v → n ≤ 4096 → declare_line k e f.1 n ≡ p.0 → P) → P
unfolding judge_line
line-parts k l p h c =
    stage 4 h λ t h₄ h. stage 5 h λ v h₅ h. musted 6 (not k.ended) h λ h₆ _ h. stage 6 h λ f f₆ h. stage 7 h λ e h₇ h.
    musted 8 (keeps_rules k.env.types e) h λ h₈ _ h. stage 8 h λ cs f₈ h. musted 9 _ h λ h₉ _ h.
    c v f e (k.nodes + nodes t) (worded-shallow (form-depth l t h₄) v h₅) (open? k.ended h₆) (sym (line_same l t v h₄ h₅ k.stmts) ∙ f₆) h₇ h₈ (f₈ ∙ ap (λ (q : Declared × List BodyCode). some q.1) (good-inj h)) (and-true (line_bounded k e) _ h₉).0 (rw (worded-nodes t v h₅)) (leb-true _ _ (and-true (line_bounded k e) _ h₉).1)
    (ap (λ (q : Declared × List BodyCode). q.0) (good-inj h))

-- ---- a line more

-- the code of a line without a body
no_code : (cs ds : List BodyCode) → some [] ≡ some ds → cs ++ ds ≡ cs
no_code cs ds e = rw (← some_inj e) (append-nil cs)

calls-more : {qs qs' : ℕ → Frame} {m : ℕ} {bs : List BodyCode} → Bodies (CallsBody qs) m bs → ((p : ℕ) → p < m + length bs → qs' p ≡ qs p) → Bodies (CallsBody qs') m bs
calls-more none same = none
calls-more (body b bs) same = body (body-also (λ p l. same p (omega arith)) b) (calls-more bs (λ p l. same p (omega arith)))

module _ (k : Declared) (cs : List BodyCode) (h : Measured k cs) (going : k.ended ≡ false) (s n : ℕ) (low : s ≤ n) (high : n ≤ 4096) where
  type-measured : (w : Name) (d : Decl) → Keeps (declare_line k (new_type w d) s n) → kept_decl k.env.types d ≡ true → type_bounded k.env.types d ≡ true → Measured (declare_line k (new_type w d) s n) cs
  unfolding declare_line
  type-measured w d q p b = record {
    keeps = q;
    small = small-declared k.env.types d p b h.small;
    cells = h.cells;
    stmts = low;
    nodes = high;
    long = h.long;
    frames = h.frames;
    procs = λ _. h.procs going;
    most = h.most;
    main = λ e. wrong e;
    calls = h.calls;
    sized = h.sized;
    ready = h.ready;
  }

  var-measured : (w : Name) (t : ℕ) → Keeps (declare_line k (new_var w t) s n) → length k.cells + size_of k.env.types t ≤ 2048 → Measured (declare_line k (new_var w t) s n) cs
  unfolding declare_line
  var-measured w t q b = record {
    keeps = q;
    small = h.small;
    cells = rw length-append b;
    stmts = low;
    nodes = high;
    long = h.long;
    frames = h.frames;
    procs = λ _. h.procs going;
    most = h.most;
    main = λ e. wrong e;
    calls = h.calls;
    sized = h.sized;
    ready = h.ready;
  }

  -- what is said of all bodies, with one more
  record Bodied (d : PlacedBody) (c : BodyCode) : Type 0 where
    long : length (cs ++ (c ∷ [])) ≡ length (k.bodies ++ (d ∷ []))
    frames : map (λ (c : BodyCode). c.frame) (cs ++ (c ∷ [])) ≡ frames_of (k.bodies ++ (d ∷ []))
    calls : Bodies (CallsBody (frame_by (cs ++ (c ∷ [])))) 0 (cs ++ (c ∷ []))
    sized : Bodies (λ _. SizedBody) 0 (cs ++ (c ∷ []))
    ready : Bodies (λ _. ReadyBody 31) 0 (cs ++ (c ∷ []))

  -- the code of a body on this line, of a procedure with the parameters ps, whose cells stand among the tests xs
  module _ (ps : List (Name × ℕ)) (q : Frame) (b : S.Body) (x : Body) (names : body_of (within k.env ps) b ≡ some x) (counted : CountedBody 4096 b) (kept : kept_body x ≡ true) (c : BodyCode)
      (coded : elab_body (within k.env ps).types (within k.env ps).vars q x ≡ some c) (xs : List Test) (S : Stand k xs) (short : length xs ≤ store_cells)
      (𝓕 : Formed (within k.env ps).types (within k.env ps).vars xs) (F : SizedFrame q) where
    -- the frames up to this body
    now-frame : (p : ℕ) → p < length k.bodies → frame_by (cs ++ (c ∷ [])) p ≡ get_or (frames_of k.bodies) p no_frame
    now-frame p l = rw (map-append, h.frames) (get_or-append (frames_of k.bodies) (c.frame ∷ []) no_frame p (rw length-map l))

    known : (w : Name) (p : ℕ) (ts : List ℕ) → find (within k.env ps).names w ≡ some (a_proc p ts) → Callee k.env.types xs (frames_of k.bodies) p ts
    known = heading-known k h.keeps ps xs S

    called-right : (w : Name) (p : ℕ) (ts : List ℕ) → find (within k.env ps).names w ≡ some (a_proc p ts) → Below (frame_by (cs ++ (c ∷ []))) (length k.bodies) p ts
    called-right w p ts f =
        let K = known w p ts f in
        let l : p < length k.bodies = rw (length-map k.bodies (λ (b : PlacedBody). b.frame)) at K.below in
        record { number = l; count = rw (now-frame p l, K.framed.wants, length-map) }

    now-calls : Bodies (CallsBody (frame_by (cs ++ (c ∷ [])))) 0 (cs ++ (c ∷ []))
    now-calls = bodies-last c (calls-more h.calls (λ p l. now-frame p (omega (arith, h.long)) ∙ rw h.frames))
        (rw (zero-add, h.long) (body-calls (within k.env ps).types (within k.env ps).vars (frame_by (cs ++ (c ∷ []))) (length k.bodies) q
        (body-calling (within k.env ps) (Below (frame_by (cs ++ (c ∷ []))) (length k.bodies)) called-right b x names) c coded))

    now-limits : Limits (within k.env ps).types (within k.env ps).vars
    now-limits = limits (within k.env ps).types (within k.env ps).vars xs 𝓕 (rw (within-types k.env ps) h.small) short

    now-sized : Bodies (λ _. SizedBody) 0 (cs ++ (c ∷ []))
    now-sized = bodies-last c h.sized (body-sized (within k.env ps).types (within k.env ps).vars now-limits q F (body-within (within k.env ps) counted x names) kept c coded)

    now-ready : Bodies (λ _. ReadyBody 31) 0 (cs ++ (c ∷ []))
    now-ready = bodies-last c h.ready (body-ready (within k.env ps) xs 𝓕 now-limits (λ w p ts f. rw (within-types k.env ps) (known w p ts f).framed.simple) counted q x c names kept coded)

    now : Bodied (with_body (within k.env ps) q x) c
    now = record {
      long = rw (length-append, length-append, h.long);
      frames = rw (map-append, map-append, h.frames, ← body-frame (with_body (within k.env ps) q x) c coded);
      calls = now-calls;
      sized = now-sized;
      ready = now-ready;
    }

  proc-measured : (w : Name) (ps : List (Name × ℕ)) → Heading k ps → Bounds k ps → (b : S.Body) (x : Body) → body_of (within k.env ps) b ≡ some x → CountedBody 4096 b → kept_body x ≡ true
      → (c : BodyCode) → elab_body (within k.env ps).types (within k.env ps).vars (frame_of k.env ps) x ≡ some c
      → Keeps (declare_line k (new_proc w ps x) s n) → Measured (declare_line k (new_proc w ps x) s n) (cs ++ (c ∷ []))
  unfolding declare_line
  proc-measured w ps H B b x names counted kept c coded q =
      let m = declare_line k (new_proc w ps x) s n in
      let xs = store_tests m.env.types m.cells m.env.parameters in
      let T = text-stand m q in
      let S = heading-less k ps w x s n xs T in
      let short = text-tests m q in
      let 𝓕 = heading-formed k h.keeps ps H w x s n xs T in
      let F = frame-sized k.env (limits k.env.types k.env.vars xs (keeps-formed k h.keeps xs S) h.small short) ps B.few H.stored in
      let N = now ps (frame_of k.env ps) b x names counted kept c coded xs S short 𝓕 F in
      record {
        keeps = q;
        small = h.small;
        cells = h.cells;
        stmts = low;
        nodes = high;
        long = N.long;
        frames = N.frames;
        procs = λ _. rw length-append (omega (arith, h.long, B.bodies));
        most = rw length-append (omega (arith, h.long, B.bodies));
        main = λ e. wrong e;
        calls = N.calls;
        sized = N.sized;
        ready = N.ready;
      }

  main-measured : (b : S.Body) (x : Body) → body_of k.env b ≡ some x → CountedBody 4096 b → kept_body x ≡ true → (c : BodyCode) → elab_body k.env.types k.env.vars no_frame x ≡ some c
      → Keeps (declare_line k (new_main x) s n) → Measured (declare_line k (new_main x) s n) (cs ++ (c ∷ []))
  unfolding declare_line within frame_of
  main-measured b x names counted kept c coded q =
      let xs = store_tests k.env.types k.cells k.env.parameters in
      let S = text-stand k h.keeps in
      let short = text-tests k h.keeps in
      let 𝓕 = keeps-formed k h.keeps xs S in
      let F : SizedFrame no_frame = frame-sized k.env (limits k.env.types k.env.vars xs 𝓕 h.small short) [] (omega arith) (omega (arith, h.keeps.stored)) in
      let N = now [] no_frame b x names counted kept c coded xs S short 𝓕 F in
      record {
        keeps = q;
        small = h.small;
        cells = h.cells;
        stmts = low;
        nodes = high;
        long = N.long;
        frames = N.frames;
        procs = λ e. wrong (sym e);
        most = rw length-append (omega (arith, h.procs going));
        main = λ _. rw length-append (omega arith);
        calls = N.calls;
        sized = N.sized;
        ready = N.ready;
      }

  -- what is shown of a line
  abbrev Measures : Entry → List BodyCode → Type 0
  Measures e ds = keeps_rules k.env.types e ≡ true → line_bounded k e ≡ true → strictly k.env e ≡ some ds → Keeps (declare_line k e s n) → Measured (declare_line k e s n) (cs ++ ds)

  line-measured : {f : S.LineForm} → CountedLine 4096 f → (e : Entry) → entry_of k.env f ≡ some e → (ds : List BodyCode) → Measures e ds
  unfolding entry_of keeps_rules line_bounded strictly
  line-measured (Counted.type_line {w = w}) e p ds = bind-some p λ d hd v. rw (← some_inj v) λ r b c q.
      rw (no_code cs ds c) (type-measured w d q r (and-true (leb (suc k.type_lines) 64) _ b).1)
  line-measured (Counted.var_line {w = w}) e p ds = bind-some p λ t ht v. given-some v λ _ v. rw (← v) λ r b c q.
      rw (no_code cs ds c) (var-measured w t q (let l : cells_in k + size_of k.env.types t ≤ 2048 = leb-true _ 2048 (and-true (leb (suc (variables_in k)) 128) (leb (cells_in k + size_of k.env.types t) 2048) b).1 in omega arith))
  line-measured (Counted.proc_line {w = w} {ps = ps} {b = f} u) e p ds = bind-some p λ fs hfs p. bind-some p λ x hx v. given-some v λ _ v. rw (← v) λ r b c q.
      bind-some c λ d hd y. rw (← some_inj y) (proc-measured w fs (line-heading k h.keeps w ps fs x hfs r b) (proc-bounds k fs x w b) f x hx u
      (and-true (kept_parameters k.env.types fs) (kept_body x) r).1 d hd q)
  line-measured (Counted.main_line {b = f} u) e p ds = bind-some p λ x hx v. rw (← some_inj v) λ r b c q.
      bind-some c λ d hd y. rw (← some_inj y) (main-measured f x hx u r d hd q)

pub measured-line : (k : Declared) (cs : List BodyCode) (l : Line) (q : Declared × List BodyCode) → judge_line strictly k l ≡ good q → Measured k cs → Measured q.0 (cs ++ q.1)
measured-line k cs l q hq p = line-parts k l q hq λ v f e m flat going h₆ h₇ h₈ c b em lm d.
    let i = line-counts k.stmts v f h₆ in
    let low : f.1 ≤ m = omega (arith, i.most, p.stmts) in
    rw (← d) (line-measured k cs p going f.1 m low lm (i.each 4096 (omega arith) flat) e h₇ q.1 h₈ b c (line-keeps k p.keeps f.0 e h₇ h₈ b f.1 m))

-- ---- all lines

pub lines-measured : (n : ℕ) (ls : List Line) (k : Declared) (cs : List BodyCode) (r : Read) → judge_lines strictly n ls (has k cs) ≡ accepted r → Measured k cs → Measured r.known r.codes × (r.known.ended ≡ true)
unfolding judge_lines
lines-measured n [] k cs r h p = onward-is n h λ u hu e. rw (← accepted-inj e) (p, must-good 6 k.ended hu)
lines-measured n (l ∷ ls) k cs r h p = onward-is n h λ q hq h'. lines-measured (suc n) ls q.0 (cs ++ q.1) r h' (measured-line k cs l q hq p)

-- an accepted text
pub text-measured : (text : List ℕ) (work : ℕ) (r : Read) → verdict_of text work ≡ accepted r → Measured r.known r.codes × (r.known.ended ≡ true)
unfolding verdict_of judge
text-measured text work r h = opening-is _ _ _ _ _ h λ h' _. lines-measured 1 (lines_of text) nothing_declared [] r h' measured-start
