-- The ways through calls.
use mathlib.Core.Path.{◌≡◌, refl, sym, ap, subst, ◌∙◌}
use Rattle.std.specs.Prelude.{Ok, Err, Result as Held}
use mathlib.Core.Bool.{true, false}
use mathlib.Core.List.{List}
use mathlib.Core.Logic.{◌⊎◌, inl, inr}
use mathlib.Core.Option.{Option, none, some}
use Prim.Native.Nat.{ℕ, ◌-◌, ◌<◌, ◌≤◌}
use native.Mathlib.Omega.{arith}
use borrow.Author.Rules.{sfits_of}
use borrow.Author.Tests.{lt-ltb, le-ltb}
use lib.IntN.{ℤ}
use lib.ListN.{length, get_or, take, length-take}
use lib.Seq.{get_or-take}
use lib.Signed.{lt_z}
use mir.Syntax.{w64}
use mir.Val.{SFits}
use mir.Facts.{to_z-of_z}
use Rattle.leaf_integers.proofs.Machine.{wire}
use Rattle.leaf_integers.proofs.Order.{le-or-lt}
use Rattle.law.specs.Base as Base
use Rattle.law.specs.Base.{Name}
use Rattle.law.specs.Calculate.{Result}
use Rattle.law.specs.Code.{Frame, Want}
use Rattle.law.specs.Environment.{NameSort, a_type, a_var, a_proc, a_value}
use Rattle.law.specs.Machine.{Store, State, state, Answer, answer, Outcome, normal, spent, sticks, raised, Proc, procedure_at, entered, forgotten, returned, returning, stored, with_result}
use Rattle.law.specs.Marking.{mark_arguments, mark_stmt}
use Rattle.law.specs.Names as Names
use Rattle.law.specs.Script as Script
use Rattle.law.specs.Trees.{first}
use Rattle.law_theorems.specs.Readings.{stack_at}
use Rattle.law.specs.Whole.{mark_body}
use Rattle.law_theorems.proofs.Inversion.{none-some, some_inj}
use Rattle.law_theorems.proofs.LinesKeep.{proc-in}
use Rattle.code_calc.specs.Words.{greatest, latest_at, latest_in, place_at}
use Rattle.text_heads.specs.declared.Verb.TheVariants as VB
use Rattle.text_heads.specs.Parts.{exprs_in}
use Rattle.table_scope.specs.declared.Scope.{Scope}
use Rattle.table_scope.specs.declared.frames.Frame as Listed
use Rattle.table_scope.specs.Frames.{TellsFrame}
use Rattle.table_bodies.specs.Procedures.{procs_of}
use Rattle.table_bodies.specs.Table.{NodeStands}
use Rattle.table_bodies.proofs.Calling.{called, procedure-is}
use Rattle.mark_steps.specs.Ends.{left_in, place_in}
use Rattle.mark_steps.specs.Stands.{Stands, after}
use Rattle.mark_cells.specs.Cells.{Forgets}
use Rattle.mark_cells.proofs.Ending.{left-most}
use Rattle.mark_cells.proofs.Stored.{forgotten-stands}
use Rattle.mark_acts.specs.Arguments.{Lists, arguments_of, Given, Passed, Passes, returns, TakesBack}
use Rattle.mark_acts.specs.Ends.{mark_told, MarkEnds, Halts}
use Rattle.mark_values.specs.Carrying.{Broken}
use Rattle.mark_acts.proofs.Arguing.{returns-normal, returns-spent, returns-raised}
use Rattle.mark_acts.proofs.Ending.{halts-ends, goes_on}
use Rattle.mark_statements.specs.declared.finding.Callee.{Callee}
use Rattle.mark_statements.specs.Finding.{callee_at, CalleeIs, Calls}
use Rattle.mark_statements.specs.Marks.{Setting, machine, MarksVerb, MarksBody}
use Rattle.mark_statements.proofs.Branching.{known}
use Rattle.mark_statements.proofs.Founding.{call-found}
use Rattle.mark_statements.proofs.Machines.{mark-normal, mark-spent, mark-raised, mark-sticks}

-- ---- a body returns: its parameters are gone, but not where it is spent or sticks

-- the last exception stands beside the cells
module _ (ws : List ℤ) (a k : ℕ) (ws' : List ℤ) (s : ℕ) (m : Store) (S : Stands ws s m) (G : Forgets ws a k ws') where
  same-raised : raised (latest_in ws) (place_in ws) ≡ raised (latest_in ws') (place_in ws')
  unfolding latest_in place_in
  same-raised = rw ((G.says S.long).beside latest_at (omega arith), (G.says S.long).beside place_at (omega arith))

module _ (q : Frame) (x : Listed.Frame) (eb : x.base ≡ q.base) (ec : x.count ≡ length q.wants) (a : Answer) (ws : List ℤ) (o : ℕ) (E : MarkEnds a ws o) (ws' : List ℤ) (T : TakesBack x o ws ws') where
  -- what the cells hold then
  gone-stands : returns o ≡ true → Stands ws' (left_in o) (forgotten q.base (length q.wants) a.state.store)
  gone-stands h = subst (λ (n : ℕ). Stands ws' (left_in o) (forgotten q.base n a.state.store)) ec
      (subst (λ (b : ℕ). Stands ws' (left_in o) (forgotten b x.count a.state.store)) eb (forgotten-stands ws (left_in o) a.state.store x.base x.count ws' E.stands (T.gone h)))

  -- it returns with the outcome p
  goes_back : (p : Outcome) → mark_told o ws ≡ p → mark_told o ws' ≡ p → returns o ≡ true → ((t : State) → returning q p t ≡ answer p (state (forgotten q.base (length q.wants) t.store) t.left))
      → MarkEnds (returned q a) ws' o
  goes_back p e f h k =
      subst (λ (y : Answer). MarkEnds y ws' o) (sym (ap (λ (y : Outcome). returning q y a.state) (E.outcome ∙ e) ∙ k a.state))
      (record { outcome = sym f; stands = gone-stands h; left = E.left })

  -- it does not
  stays-there : (p : Outcome) → mark_told o ws ≡ p → returns o ≡ false → ((t : State) → returning q p t ≡ answer p t) → MarkEnds (returned q a) ws' o
  stays-there p e h k =
      subst (λ (vs : List ℤ). MarkEnds (returned q a) vs o) (sym (T.kept h))
      (subst (λ (y : Answer). MarkEnds y ws o) (sym (ap (λ (y : Outcome). returning q y a.state) (E.outcome ∙ e) ∙ k a.state ∙ ap (λ (y : Outcome). answer y a.state) (sym (E.outcome ∙ e)))) E)

  pub ends-returned : MarkEnds (returned q a) ws' o
  ends-returned = go (le-or-lt 4294967296 o) (le-or-lt 8589934592 o) (le-or-lt 12884901888 o)
    where
      go : (4294967296 ≤ o) ⊎ (o < 4294967296) → (8589934592 ≤ o) ⊎ (o < 8589934592) → (12884901888 ≤ o) ⊎ (o < 12884901888) → MarkEnds (returned q a) ws' o
      go (inr h) g f = goes_back normal (mark-normal o ws (omega (arith, h))) (mark-normal o ws' (omega (arith, h))) (sym (returns-normal o h)) (λ t. refl)
      go (inl h) (inr g) f = stays-there spent (mark-spent o ws (omega (arith, h)) g) (sym (returns-spent o h g)) (λ t. refl)
      go (inl h) (inl g) (inl f) = stays-there sticks (mark-sticks o ws f) (sym (returns-raised o g) ∙ le-ltb o 12884901888 f) (λ t. refl)
      go (inl h) (inl g) (inr f) =
          let r : returns o ≡ true = sym (returns-raised o g) ∙ lt-ltb o 12884901888 f in
          goes_back (raised (latest_in ws) (place_in ws)) (mark-raised o ws g f)
          (mark-raised o ws' g f ∙ sym (same-raised ws x.base x.count ws' (left_in o) a.state.store E.stands (T.gone r))) r (λ t. refl)

-- ---- the procedure that is called

as-proc : (n : Option NameSort) (p : ℕ × List ℕ) → Base.◌>>=◌ n Names.as_proc ≡ some p → n ≡ some (a_proc p.0 p.1)
unfolding Base.◌>>=◌
as-proc none p h = none-some h
as-proc (some (a_type t)) p h = none-some h
as-proc (some (a_var i)) p h = none-some h
as-proc (some (a_proc q ts)) p h = ap (λ (y : ℕ × List ℕ). some (a_proc y.0 y.1)) (some_inj h)
as-proc (some (a_value c)) p h = none-some h

-- a call after its step
call-after : {s l us ts tb : List ℕ} {scope : Scope} {calls : ℕ} (F : Setting s l us ts tb scope calls) (n : ℕ) (k : Store) (left p : ℕ) (vs : List ℕ) (xs : Script.Exprs)
    → after (machine F (Script.call n p vs xs)) (state k left)
    ≡ (with_result n (state k left) (mark_arguments F.env.types F.env.vars (procedure_at (procs_of F.other F.bodies F.before) p).frame.wants vs xs k) λ zs.
    entered (procedure_at (procs_of F.other F.bodies F.before) p) zs (state k left))
unfolding after mark_stmt
call-after F n k left p vs xs = refl

module _ {s l us ts tb : List ℕ} {scope : Scope} {calls : ℕ} (F : Setting s l us ts tb scope calls) (w : Name) (p : ℕ × List ℕ) (hp : Base.◌>>=◌ (Base.find F.env.names w) Names.as_proc ≡ some p) where
  named : Base.find F.env.names w ≡ some (a_proc p.0 p.1)
  named = as-proc (Base.find F.env.names w) p hp

  -- it is one of those before
  before-it : p.0 < F.before
  before-it =
      let a : p.0 < length (take F.before F.places) = proc-in F.scene.fair w p.0 p.1 named in
      omega (arith, a, length-take F.before F.places)

  abbrev its-frame : Frame
  its-frame = (get_or F.bodies p.0 F.other).frame

  abbrev its-body : State → Answer
  its-body = mark_body (get_or F.bodies p.0 F.other) (procs_of F.other F.bodies p.0)

  -- the call, by what its arguments come to
  call_shape : (n : ℕ) (k : Store) (left : ℕ) (xs : Script.Exprs) → after (machine F (Script.call n p.0 p.1 xs)) (state k left)
      ≡ (with_result n (state k left) (arguments_of F.env p.1 xs k) λ zs. returned its-frame (its-body (state (stored its-frame.base zs k) left)))
  unfolding entered
  call_shape n k left xs =
      call-after F n k left p.0 p.1 xs
      ∙ ap (λ (q : Proc). with_result n (state k left) (mark_arguments F.env.types F.env.vars q.frame.wants p.1 xs k) λ zs. entered q zs (state k left)) (procedure-is F.other F.bodies F.before p.0 before-it)
      ∙ ap (λ (ws : List Want). with_result n (state k left) (mark_arguments F.env.types F.env.vars ws p.1 xs k) λ zs. entered (called F.other F.bodies p.0) zs (state k left)) (F.callees w p.0 p.1 named)

  its-place : get_or (take F.before F.places) p.0 0 ≡ get_or F.places p.0 0
  its-place = get_or-take F.before F.places p.0 0 before-it

  its-node : NodeStands l (get_or F.places p.0 0) p.0 its-frame
  its-node = F.all.nodes p.0 (omega (arith, before-it, F.few))

  tells : TellsFrame l F.top (get_or F.places p.0 0) p.1
  tells = subst (λ (q : ℕ). TellsFrame l F.top q p.1) its-place (F.scene.frames w p.0 p.1 named)

  module _ (at : ℕ) (c : Callee) (C : CalleeIs s l at (get_or (take F.before F.places) p.0 0) c) where
    here : c ≡ callee_at l (get_or F.places p.0 0) c.next
    here = C.callee ∙ ap (λ (q : ℕ). callee_at l q c.next) its-place

    its-number : c.number ≡ p.0
    its-number = ap (λ (y : Callee). y.number) here ∙ its-node.number_is

    lists : Lists l c.frame p.1
    lists = subst (λ (y : Listed.Frame). Lists l y p.1) (sym (ap (λ (y : Callee). y.frame) here)) (record { count-is = tells.count-is; types_are = tells.types_are; few = tells.few })

    its-base : c.frame.base ≡ its-frame.base
    its-base = ap (λ (y : Callee). y.frame.base) here ∙ its-node.base-is

    its-count : c.frame.count ≡ length its-frame.wants
    its-count = ap (λ (y : Callee). y.frame.count) here ∙ its-node.count-is

-- ---- `call`
module _ (s l us ts tb : List ℕ) (scope : Scope) (calls d n at : ℕ) (ws : List ℤ) (left : ℕ) where
  pub call_none : calls ≡ 0 → MarksVerb s l us ts tb scope calls VB.Call d n at ws left ws left
  call_none h = record {
    runs = λ F X. call-found F.env d n (first (stack_at s at)) X (λ w es p xs hw he hp hx j. absurd (omega (arith, before-it F w p hp, F.deep, h)));
    fewer = left-most left;
  }

  module _ (z : (calls ≡ 0) → ⊥) (c : Callee) (C : Calls s l scope at c) (vs : List ℤ) (v : Held Unit ℤ) (P : Passes s l ts scope c.frame c.next ws vs v) (ws' : List ℤ) (r : ℕ) where
    -- as its arguments do, and what comes after
    called-by : left_in r ≤ left
        → ((F : Setting s l us ts tb scope calls) (w : Name) (p : ℕ × List ℕ) (hp : Base.◌>>=◌ (Base.find F.env.names w) Names.as_proc ≡ some p) → CalleeIs s l at (get_or (take F.before F.places) p.0 0) c
        → (k : Store) → Stands ws left k → (u : Result (List ℤ)) → Passed k left c.frame.base u ws vs v
        → MarkEnds (with_result n (state k left) u λ zs. returned (its-frame F w p hp) (its-body F w p hp (state (stored (its-frame F w p hp).base zs k) left))) ws' r)
        → MarksVerb s l us ts tb scope calls VB.Call d n at ws left ws' r
    called-by f g = record {
      runs = λ F X. call-found F.env d n (first (stack_at s at)) X (λ w es p xs hw he hp hx j.
          let K : CalleeIs s l at (get_or (take F.before F.places) p.0 0) c = C.says ts F.top F.env (take F.before F.places) F.scene w hw p hp in
          record {
            says = λ k S. subst (λ (y : Script.Stmt). MarkEnds (after (machine F y) (state k left)) ws' r) (sym j)
                (subst (λ (a : Answer). MarkEnds a ws' r) (sym (call_shape F w p hp n k left xs))
                (g F w p hp K k S (arguments_of F.env p.1 xs k)
                (P.says F.env (known F) p.1 (lists F w p hp at c K) es xs (ap (exprs_in 33) (sym K.after) ∙ he) hx k left S)));
          });
      fewer = f;
    }

    pub call_halts : (y : ℤ) → v ≡ Err y → SFits w64 y → Halts (wire y) n vs left ws' r → MarksVerb s l us ts tb scope calls VB.Call d n at ws left ws' r
    call_halts y e fy H = called-by H.fewer (λ F w p hp K k S u Q.
        let b : Broken y u × ((lt_z greatest y ≡ true) × (vs ≡ ws)) = rw e at Q in
        halts-ends ws left k n u y (λ zs. returned (its-frame F w p hp) (its-body F w p hp (state (stored (its-frame F w p hp).base zs k) left))) ws' r S b.0
        (subst (λ (us : List ℤ). Halts y n us left ws' r) b.1.1 (subst (λ (z : ℤ). Halts z n vs left ws' r) (to_z-of_z fy) H)))

    pub call-runs : (i : Unit) (xs : List ℤ) → v ≡ Ok i → MarksBody s l us tb (calls - 1) c.number vs left xs r → TakesBack c.frame r xs ws'
        → MarksVerb s l us ts tb scope calls VB.Call d n at ws left ws' r
    call-runs i xs h B T = called-by B.fewer (λ F w p hp K k S u Q.
        let b = before-it F w p hp in
        let e : c.number ≡ p.0 = its-number F w p hp at c K in
        let G : Given k left c.frame.base u vs = rw h at Q in
        let S' : Stands vs left (stored (its-frame F w p hp).base G.values k) = subst (λ (a : ℕ). Stands vs left (stored a G.values k)) (its-base F w p hp at c K) G.stands in
        let R = B.runs F.places F.bodies F.other F.all (omega (arith, e, b, F.few)) (omega (arith, e, b, F.deep)) in
        goes_on n (state k left) u G.values (λ zs. returned (its-frame F w p hp) (its-body F w p hp (state (stored (its-frame F w p hp).base zs k) left))) ws' r G.gives
        (ends-returned (its-frame F w p hp) c.frame (its-base F w p hp at c K) (its-count F w p hp at c K) (its-body F w p hp (state (stored (its-frame F w p hp).base G.values k) left)) xs r
        (subst (λ (y : ℕ). MarkEnds (mark_body (get_or F.bodies y F.other) (procs_of F.other F.bodies y) (state (stored (its-frame F w p hp).base G.values k) left)) xs r) e (R.says (stored (its-frame F w p hp).base G.values k) S'))
        ws' T))

pub ruleset call-laws = (call_none, call_halts, call-runs, sfits_of)
