-- Bodies and scripts whose tables are formed never stick, and keep each cell in its range; rows 10 and 11 are what that asks of a store, and
-- what it says of one.
use mathlib.Core.Option as O
use mathlib.Core.Path.{◌≡◌, refl, sym, ◌∙◌}
use mathlib.Core.Bool.{Bool, true, false}
use mathlib.Core.List.{List, [], ◌∷◌, ◌++◌}
use mathlib.Core.Option.{some}
use Prim.Native.Nat.{ℕ, zero, suc, ◌+◌, ◌-◌, ◌≤◌, ◌<◌}
use native.Mathlib.Decide.{dec_lt}
use native.Mathlib.Omega.{arith}
use lib.IntN.{ℤ, pos}
use borrow.Author.Tests.{eqb-true, eq-eqb}
use lib.Dec.{eqb}
use lib.ListN.{get_or, length, length-append, length-replicate, replicate, take, get_or-append}
use lib.Seq.{get_or-take, length-take-le}
use Rattle.leaf_integers.specs.Integers.{inside, is_zero}
use Rattle.law.specs.Code.{BodyCode, Frame, no_frame}
use Rattle.law.specs.Elaborate.{elab_body}
use Rattle.law.specs.Environment.{PlacedBody}
use Rattle.law.specs.Machine.{Answer, Outcome, Proc, Procs, State, Store, caught, handled, lent_cells, proc, procedure_at, store_cells}
use Rattle.law.specs.Store.{cell_ok, cells_ok, fault_of, store_fault}
use Rattle.law.specs.Types.{Types}
use Rattle.law.specs.Verdict.{Read, accepted}
use Rattle.law.specs.Whole.{filled, fresh, run_all, run_body, verdict_of}
use Rattle.law_theorems.proofs.Inversion.{some_inj, both_some, and-true, and-both}
use Rattle.law_theorems.proofs.TextsAgree.{Paired, body-frame, empty, more, judged-agree}
use Rattle.law_theorems.proofs.Programs.{calling-all, no-procs}
use Rattle.law_theorems.proofs.ValuesInRange.{none-some, ok_by, Sound}
use Rattle.law_theorems.specs.ValuesInRange.{InInt, Test, any, Formed}
use Rattle.law_theorems.proofs.StoreInRange.{Moved, normally, out_of_steps, by_exception, Fine, fine, Safely, runs-s, answer-s}
use Rattle.law_theorems.proofs.LinesKeep.{store-tests-length, tests-length, text-keeps, text-stand}
use Rattle.law_theorems.specs.LinesKeep.{tests, store_tests, AllFormed, Callee, Framed, body}
use Rattle.law_theorems.specs.ScriptCalls.{CallingBody}
use Rattle.law_theorems.proofs.ScriptCalls.{body-calling-also}

-- ---- the frames of procedures

pub data Frames : Procs → List Frame → Type 0 where
  no_frames : Frames [] []
  frame : {f : Proc} {q : Frame} {ps : Procs} {qs : List Frame} → q ≡ f.frame → Frames ps qs → Frames (f ∷ ps) (q ∷ qs)

pub frames-last : (ps : Procs) (qs : List Frame) (q : Frame) (f : Proc) → Frames ps qs → q ≡ f.frame → Frames (ps ++ (f ∷ [])) (qs ++ (q ∷ []))
frames-last [] [] q f no_frames e = frame e no_frames
frames-last (g ∷ ps) (r ∷ qs) q f (frame d h) e = frame d (frames-last ps qs q f h e)
frames-last [] (r ∷ qs) q f x4 e = elim x4 [ ]
frames-last (g ∷ ps) [] q f x4 e = elim x4 [ ]

pub frame-at : (ps : Procs) (qs : List Frame) → Frames ps qs → (p : ℕ) → (procedure_at ps p).frame ≡ get_or qs p no_frame
unfolding procedure_at
frame-at [] [] no_frames p = refl
frame-at (g ∷ ps) (q ∷ qs) (frame e h) zero = sym e
frame-at (g ∷ ps) (q ∷ qs) (frame e h) (suc p) = frame-at ps qs h p
frame-at [] (q ∷ qs) x'' p = elim x'' [ ]
frame-at (g ∷ ps) [] x3 p = elim x3 [ ]

-- ---- bodies and scripts never stick, and keep each cell in its range

module _ {xs : List Test} where
  caught-s : {f : State → Answer} → Safely xs f → {o : Outcome} (st : State) → Moved o → Sound xs st.store → Fine xs (caught o st f)
  caught-s h st normally g = fine normally g
  caught-s h st out_of_steps g = fine out_of_steps g
  caught-s h st by_exception g = h.at st g

  pub handled-s : (b : Bool) {f g : State → Answer} → Safely xs f → Safely xs g → Safely xs (λ st. handled b (f st) g)
  handled-s true {f} hf hg = record { at = λ st g. let a = hf.at st g in caught-s hg (f st).state a.moved a.sound }
  handled-s false hf hg = hf

  -- a body whose calls have the parameters that the procedures have
  pub body-s : (b : PlacedBody) (c : BodyCode) → elab_body b.types b.vars b.frame b.body ≡ some c → Formed b.types b.vars xs → (ps : Procs)
      → CallingBody (λ p ts. Framed b.types xs ts (procedure_at ps p).frame) b.body → ((i : ℕ) → Safely xs (procedure_at ps i).run) → Safely xs (run_body c ps)
  unfolding elab_body run_body
  body-s b c h 𝓕 ps k hp = both_some h λ x y hx hy e.
      rw (← some_inj e) (handled-s b.body.handles (runs-s b.types b.vars xs 𝓕 ps hp b.body.stmts x hx k.stmts) (runs-s b.types b.vars xs 𝓕 ps hp b.body.handler y hy k.handler))

  formed-s : (b : PlacedBody) (c : BodyCode) → elab_body b.types b.vars b.frame b.body ≡ some c → Formed b.types b.vars xs → (ps : Procs) (qs : List Frame) → Frames ps qs
      → CallingBody (Callee b.types xs qs) b.body → ((i : ℕ) → Safely xs (procedure_at ps i).run) → Safely xs (run_body c ps)
  formed-s b c h 𝓕 ps qs f k hp = body-s b c h 𝓕 ps
      (body-calling-also (λ p ts c. rw (frame-at ps qs f p) c.framed) k) hp

  pub all-s : {bs : List PlacedBody} {cs : List BodyCode} → Paired bs cs → (ps : Procs) (qs : List Frame) → Frames ps qs → AllFormed xs qs bs → ((i : ℕ) → Safely xs (procedure_at ps i).run) → Safely xs (run_all cs ps)
  unfolding run_all
  all-s empty ps qs f a hp = answer-s normally
  all-s (more {b} {c} h empty) ps qs f (body 𝓕 k a) hp = formed-s b c h 𝓕 ps qs f k hp
  all-s (more {b} {c} h (more h' p)) ps qs f (body 𝓕 k a) hp = all-s (more h' p) (ps ++ (proc c.frame (run_body c ps) ∷ [])) (qs ++ (b.frame ∷ [])) (frames-last ps qs b.frame _ f (body-frame b c h)) a
      (calling-all (λ (g : Proc). Safely xs g.run) (answer-s normally) ps _ (formed-s b c h 𝓕 ps qs f k hp) hp)

-- ---- rows 10 and 11 are what the machines' theorem asks of a store, and what it says of one

cells-each : (Γ : Types) (ts : List ℕ) (vs : List ℤ) (ms : List ℕ) → length vs ≡ length ts → length ms ≡ length ts → cells_ok Γ ts vs ms ≡ true
    → (i : ℕ) → ok_by (get_or (tests Γ ts) i any) (get_or vs i (pos 0)) (get_or ms i 0) ≡ true
unfolding cells_ok tests is_zero
cells-each Γ [] [] [] lv lm h i = refl
cells-each Γ [] [] (m ∷ ms) lv lm h i = absurd (omega arith)
cells-each Γ [] (v ∷ vs) ms lv lm h i = absurd (omega arith)
cells-each Γ (t ∷ ts) [] ms lv lm h i = absurd (omega arith)
cells-each Γ (t ∷ ts) (v ∷ vs) [] lv lm h i = absurd (omega arith)
cells-each Γ (t ∷ ts) (v ∷ vs) (m ∷ ms) lv lm h zero = (and-true (cell_ok Γ t v m) _ h).0
cells-each Γ (t ∷ ts) (v ∷ vs) (m ∷ ms) lv lm h (suc i) = cells-each Γ ts vs ms (omega arith) (omega arith) (and-true (cell_ok Γ t v m) _ h).1 i

pub each-cells : (Γ : Types) (ts : List ℕ) (vs : List ℤ) (ms : List ℕ)
    → ((i : ℕ) → i < length ts → ok_by (get_or (tests Γ ts) i any) (get_or vs i (pos 0)) (get_or ms i 0) ≡ true) → cells_ok Γ ts vs ms ≡ true
unfolding cells_ok tests is_zero
each-cells Γ [] vs ms h = refl
each-cells Γ (t ∷ ts) [] ms h = refl
each-cells Γ (t ∷ ts) (v ∷ vs) [] h = refl
each-cells Γ (t ∷ ts) (v ∷ vs) (m ∷ ms) h = and-both (cell_ok Γ t v m) _ (h 0 (omega arith)) (each-cells Γ ts vs ms (λ i l. h (suc i) (omega arith)))

fault-none : {P : Type 0} (b c : Bool) → fault_of b c ≡ O.none → (b ≡ true → c ≡ true → P) → P
unfolding fault_of
fault-none false c h k = absurd (none-some (sym h))
fault-none true false h k = absurd (none-some (sym h))
fault-none true true h k = k refl refl

zero-int : InInt (pos 0)
unfolding inside
zero-int = record { ok = refl }

-- what rows 10 and 11 say of lent lists
pub record Passes (Γ : Types) (ts : List ℕ) (vs : List ℤ) (ms : List ℕ) : Type 0 where
  pub values : length vs ≡ length ts
  pub marks : length ms ≡ length ts
  pub each : (i : ℕ) → ok_by (get_or (tests Γ ts) i any) (get_or vs i (pos 0)) (get_or ms i 0) ≡ true

pub store-passes : (Γ : Types) (ts : List ℕ) (vs : List ℤ) (ms : List ℕ) → store_fault Γ ts vs ms ≡ O.none → Passes Γ ts vs ms
unfolding store_fault
store-passes Γ ts vs ms h = fault-none _ _ h λ l c.
    let q = and-true (eqb (length vs) (length ts)) (eqb (length ms) (length ts)) l in
    let lv : length vs ≡ length ts = eqb-true _ _ (q.0) in let lm : length ms ≡ length ts = eqb-true _ _ (q.1) in
    record { values = lv; marks = lm; each = cells-each Γ ts vs ms lv lm c }

-- a list filled up reads as before
blank-get : {A : Type 0} (d : A) (k i : ℕ) → get_or (replicate k d) i d ≡ d
blank-get d zero i = refl
blank-get d (suc k) zero = refl
blank-get d (suc k) (suc i) = blank-get d k i

filled-by : {A : Type 0} (d : A) (xs : List A) (k i : ℕ) → get_or (xs ++ replicate k d) i d ≡ get_or xs i d
filled-by d [] k i = blank-get d k i
filled-by d (x ∷ xs) k zero = refl
filled-by d (x ∷ xs) k (suc i) = filled-by d xs k i

pub filled-get : {A : Type 0} (d : A) (xs : List A) (i : ℕ) → get_or (filled d xs) i d ≡ get_or xs i d
filled-get d xs i = filled-by d xs (store_cells - length xs) i

pub filled-length : {A : Type 0} (d : A) (xs : List A) → length (filled d xs) ≡ length xs + (store_cells - length xs)
filled-length d xs = rw (length-append, length-replicate)

-- what is past the end of lent lists passes any test
past-ok : (x : Test) (vs : List ℤ) (ms : List ℕ) (i : ℕ) → length vs ≤ i → length ms ≤ i → ok_by x (get_or vs i (pos 0)) (get_or ms i 0) ≡ true
unfolding is_zero
past-ok x [] [] i lv lm = refl
past-ok x [] (m ∷ ms) zero lv lm = absurd (omega arith)
past-ok x [] (m ∷ ms) (suc i) lv lm = past-ok x [] ms i (omega arith) (omega arith)
past-ok x (v ∷ vs) ms zero lv lm = absurd (omega arith)
past-ok x (v ∷ vs) [] (suc i) lv lm = past-ok x vs [] i (omega arith) (omega arith)
past-ok x (v ∷ vs) (m ∷ ms) (suc i) lv lm = past-ok x vs ms i (omega arith) (omega arith)

-- so tests may be added past what is lent
ok-more : (xs ys : List Test) (vs : List ℤ) (ms : List ℕ) → length vs ≡ length xs → length ms ≡ length xs → (i : ℕ)
    → ok_by (get_or xs i any) (get_or vs i (pos 0)) (get_or ms i 0) ≡ true → ok_by (get_or (xs ++ ys) i any) (get_or vs i (pos 0)) (get_or ms i 0) ≡ true
ok-more xs ys vs ms lv lm i h = go (dec_lt i (length xs))
  where
    go : Dec (i < length xs) → ok_by (get_or (xs ++ ys) i any) (get_or vs i (pos 0)) (get_or ms i 0) ≡ true
    go (yes l) = rw (get_or-append xs ys any i l) h
    go (no n) = past-ok (get_or (xs ++ ys) i any) vs ms i (omega arith) (omega arith)

pub store-sound : (Γ : Types) (ts ps : List ℕ) → length ts ≤ lent_cells → lent_cells + length ps ≤ store_cells → (vs : List ℤ) (ms : List ℕ) → store_fault Γ ts vs ms ≡ O.none → Sound (store_tests Γ ts ps) (fresh vs ms)
store-sound Γ ts ps lt lp vs ms h =
    let p = store-passes Γ ts vs ms h in let n = tests-length Γ ts in
    record {
      long = omega (arith, filled-length (pos 0) vs, filled-length 0 ms, p.values, p.marks);
      enough = omega (arith, filled-length (pos 0) vs, store-tests-length Γ ts ps, p.values);
      each = λ i. rw (filled-get (pos 0) vs i, filled-get 0 ms i) (ok-more (tests Γ ts) _ vs ms (omega (arith, p.values)) (omega (arith, p.marks)) i (p.each i));
      number = zero-int;
    }

-- as many cells of a sound store as there are types pass
pub sound-store : (Γ : Types) (ts ps : List ℕ) (n : ℕ) (m : Store) → n ≡ length ts → Sound (store_tests Γ ts ps) m → store_fault Γ ts (take n m.values) (take n m.marks) ≡ O.none
unfolding store_fault fault_of
sound-store Γ ts ps n m e s =
    let l = store-tests-length Γ ts ps in let k = tests-length Γ ts in
    let lv : length (take n m.values) ≡ length ts = length-take-le n m.values (omega (arith, e, s.enough)) ∙ e in
    let lm : length (take n m.marks) ≡ length ts = length-take-le n m.marks (omega (arith, e, s.enough, s.long)) ∙ e in
    rw (
      lv,
      lm,
      eq-eqb (length ts) (length ts) refl,
      each-cells Γ ts (take n m.values) (take n m.marks)
          (λ i l. rw (get_or-take n m.values i (pos 0) (omega (arith, e)), get_or-take n m.marks i 0 (omega (arith, e)), ← get_or-append (tests Γ ts) (replicate (lent_cells - length ts) any ++ tests Γ ps) any i (omega arith)) (s.each i)),
    )

-- ---- an accepted text

abbrev pub tests_of : Read → List Test
tests_of r = store_tests r.known.env.types r.known.cells r.known.env.parameters

pub text-safely : (text : List ℕ) (work : ℕ) (r : Read) → verdict_of text work ≡ accepted r → Safely (tests_of r) (run_all r.codes [])
text-safely text work r accept =
    let k = text-keeps text work r accept in
    judged-agree text work r accept λ es _ p.
    all-s p [] [] no_frames (k.bodies (tests_of r) (text-stand r.known k)) (no-procs (λ (f : Proc). Safely (tests_of r) f.run) (answer-s normally))
