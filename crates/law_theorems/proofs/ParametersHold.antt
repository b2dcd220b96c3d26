-- What document 02 asks of parameters holds: each statement of law's specs/Parameters.antt, for every text, working list and store.
use mathlib.Core.Path.{◌≡◌, refl, ap, sym, ◌∙◌}
use mathlib.Core.Bool.{true}
use mathlib.Core.List.{List, [], ◌∷◌, ◌++◌, append_assoc, append-nil}
use Prim.Native.Nat.{ℕ, zero, suc, ◌+◌, ◌<◌, ◌≤◌}
use native.Mathlib.Decide.{ℕ_discrete}
use native.Mathlib.Omega.{arith}
use lib.IntN.{ℤ, pos}
use lib.ListN.{drop, get_or, length, replicate, set}
use lib.Seq.{get_or-drop, get_or-set_other, sets}
use Rattle.law.specs.Chair.{run_act}
use Rattle.law.specs.Code.{BodyCode, Frame, no_frame}
use Rattle.law.specs.Demands.{Accepted}
use Rattle.law.specs.Environment.{PlacedBody}
use Rattle.law.specs.Machine.{Outcome, Procs, State, Store, entered, lent_cells, normal, proc, procedure_at, raised, returning, spent, state, sticks, stored}
use Rattle.law.specs.Store.{cells_ok}
use Rattle.law.specs.Types.{Types}
use Rattle.law.specs.Parameters.{AtTheCall, EveryDepth, Gone, GoneAtReturn, InFrame, OfParameters, OfTheirOwn, ParametersInRange, Returns, by_exception, in_marking, mark_procs, normally, run_procs}
use Rattle.law.specs.Verdict.{Read, accepted, has}
use Rattle.law.specs.Whole.{mark_body, run_body, verdict_of}
use Rattle.law_theorems.proofs.BodiesInRange.{Frames, each-cells, frame-at, frames-last, no_frames, tests_of}
use Rattle.law_theorems.proofs.Demand3.{ends-fine}
use Rattle.law_theorems.proofs.LinesKeep.{tests-get, text-keeps, text-stand}
use Rattle.law_theorems.proofs.TextsAgree.{Paired, body-agrees, body-frame, empty, judged-agree, more}
use Rattle.law_theorems.proofs.ValuesInRange.{Sound, ok_by}
use Rattle.law_theorems.specs.LinesKeep as Keeping
use Rattle.law_theorems.specs.LinesKeep.{Apart, frames_of, tests}
use Rattle.law_theorems.specs.ValuesInRange.{Here, Test, any}

-- ---- every depth of calls

procs-agree : {bs : List PlacedBody} {cs : List BodyCode} → Paired bs cs → (ps : Procs) → run_procs cs ps ≡ mark_procs bs ps
unfolding run_procs mark_procs
procs-agree empty ps = refl
procs-agree (more {b} {c} h p) ps = rw (body-agrees b c h, body-frame b c h) (procs-agree p (ps ++ (proc c.frame (run_body c ps) ∷ [])))

same-procs : (text : List ℕ) (work : ℕ) (r : Read) → verdict_of text work ≡ accepted r → run_procs r.codes [] ≡ mark_procs r.known.bodies []
same-procs text work r h = judged-agree text work r h λ es _ p. procs-agree p []

every-depth : (text : List ℕ) (work : ℕ) (r : Read) → verdict_of text work ≡ accepted r → EveryDepth text work r
every-depth text work r h = judged-agree text work r h λ es loose p.
    record { reading = has r.known es; reads = loose; same = λ i. record { frames = rw (procs-agree p []); runs = λ s. rw (procs-agree p []) } }

-- ---- cells of their own

mark-frames : (bs : List PlacedBody) (ps : Procs) (qs : List Frame) → Frames ps qs → Frames (mark_procs bs ps) (qs ++ frames_of bs)
unfolding mark_procs
mark-frames [] ps qs h = rw (append-nil qs) h
mark-frames (b ∷ bs) ps qs h =
    rw (← append_assoc qs (b.frame ∷ []) (frames_of bs)) (mark-frames bs _ (qs ++ (b.frame ∷ [])) (frames-last ps qs b.frame (proc b.frame (mark_body b ps)) h refl))

frame_is : (r : Read) (p : ℕ) → (in_marking r p).frame ≡ get_or (frames_of r.known.bodies) p no_frame
frame_is r p = frame-at _ _ (mark-frames r.known.bodies [] [] no_frames) p

not-in-none : {X : Type 0} {a : ℕ} → InFrame no_frame a → X
not-in-none {a = a} h = absurd (omega (arith, h.to_last))

apart-up : {n m : ℕ} {bs : List PlacedBody} → Apart n bs m → n ≤ m
apart-up Keeping.no_frames = omega arith
apart-up (Keeping.a-frame e z h) = omega (arith, apart-up h)

first-in : (n : ℕ) (q : Frame) → (0 < length q.wants → q.base ≡ lent_cells + n) → (a : ℕ) → InFrame q a → (lent_cells + n ≤ a) × (a < lent_cells + (n + length q.wants))
first-in n q e a h =
    let b = e (omega (arith, h.from_first, h.to_last)) in
    (omega (arith, b, h.from_first), omega (arith, b, h.to_last))

frame-in : {n m : ℕ} {bs : List PlacedBody} → Apart n bs m → (p a : ℕ) → InFrame (get_or (frames_of bs) p no_frame) a → (lent_cells + n ≤ a) × (a < lent_cells + m)
frame-in Keeping.no_frames p a h = not-in-none h
frame-in (Keeping.a-frame {n = n} {b = b} e z x) zero a h = let g = first-in n b.frame e a h in (g.0, omega (arith, g.1, apart-up x))
frame-in (Keeping.a-frame e z x) (suc p) a h = let g = frame-in x p a h in (omega (arith, g.0), g.1)

frames-apart : {n m : ℕ} {bs : List PlacedBody} → Apart n bs m → (p q a : ℕ) → InFrame (get_or (frames_of bs) p no_frame) a → InFrame (get_or (frames_of bs) q no_frame) a → p ≡ q
frames-apart Keeping.no_frames p q a h g = not-in-none h
frames-apart (Keeping.a-frame e z x) zero zero a h g = refl
frames-apart (Keeping.a-frame {n = n} {b = b} e z x) zero (suc q) a h g = absurd (omega (arith, (first-in n b.frame e a h).1, (frame-in x q a g).0))
frames-apart (Keeping.a-frame {n = n} {b = b} e z x) (suc p) zero a h g = absurd (omega (arith, (first-in n b.frame e a g).1, (frame-in x p a h).0))
frames-apart (Keeping.a-frame e z x) (suc p) (suc q) a h g = ap suc (frames-apart x p q a h g)

of-their-own : (text : List ℕ) (work : ℕ) (r : Read) → verdict_of text work ≡ accepted r → OfTheirOwn r
of-their-own text work r h =
    let k = text-keeps text work r h in
    record {
      not-lent = λ p a i. omega (arith, (frame-in k.apart p a (here p a i)).0);
      in-store = λ p a i. omega (arith, (frame-in k.apart p a (here p a i)).1, k.stored);
      apart = λ p q a i j. frames-apart k.apart p q a (here p a i) (here q a j);
    }
  where
    here : (p a : ℕ) → InFrame (procedure_at (run_procs r.codes []) p).frame a → InFrame (get_or (frames_of r.known.bodies) p no_frame) a
    here p a i = rw (← frame_is r p, ← same-procs text work r h) i

-- ---- gone at return

module _ {A : Type 0} (d : A) where
  set-blank : (xs : List A) (a : ℕ) → get_or (set xs a d) a d ≡ d
  set-blank [] a = refl
  set-blank (x ∷ xs) zero = refl
  set-blank (x ∷ xs) (suc a) = set-blank xs a

  sets-before : (k : ℕ) (xs : List A) (a i : ℕ) → i < a → get_or (sets xs a (replicate k d)) i d ≡ get_or xs i d
  sets-before zero xs a i h = refl
  sets-before (suc k) xs a i h = sets-before k (set xs a d) (suc a) i (omega arith) ∙ get_or-set_other xs a i d d (λ e. omega arith)

  pub sets-blank : (k : ℕ) (xs : List A) (a i : ℕ) → a ≤ i → i < a + k → get_or (sets xs a (replicate k d)) i d ≡ d
  sets-blank zero xs a i h g = absurd (omega arith)
  sets-blank (suc k) xs a i h g = go (ℕ_discrete i a) (λ n. sets-blank k (set xs a d) (suc a) i (omega arith) (omega arith))
    where
      go : Dec (i ≡ a) → ((i ≡ a → ⊥) → get_or (sets (set xs a d) (suc a) (replicate k d)) i d ≡ d) → get_or (sets (set xs a d) (suc a) (replicate k d)) i d ≡ d
      go (yes e) f = rw e (sets-before k (set xs a d) (suc a) a (omega arith) ∙ set-blank xs a)
      go (no n) f = f n

abbrev Came : Outcome → Type 0
Came normal = Unit {0}
Came spent = ⊥
Came sticks = ⊥
Came (raised z n) = Unit {0}

came : {o : Outcome} → Returns o → Came o
came normally = tt
came by_exception = tt

returning-gone : (q : Frame) (o : Outcome) (t : State) → Returns (returning q o t).outcome → (a : ℕ) → InFrame q a → Gone (returning q o t).state.store a
returning-gone q normal t h a i = record { mark = sets-blank 0 _ _ q.base a i.from_first i.to_last; value = sets-blank (pos 0) _ _ q.base a i.from_first i.to_last }
returning-gone q spent t h a i = absurd (came h)
returning-gone q sticks t h a i = absurd (came h)
returning-gone q (raised z n) t h a i = record { mark = sets-blank 0 _ _ q.base a i.from_first i.to_last; value = sets-blank (pos 0) _ _ q.base a i.from_first i.to_last }

gone-at-return : GoneAtReturn
unfolding entered
gone-at-return f zs s h a i =
    let b = f.run (state (stored f.frame.base zs s.store) s.left) in returning-gone f.frame b.outcome b.state h a i

-- ---- at the call

at-the-call : AtTheCall
unfolding run_act
at-the-call ps n p cs m left z h = rw h

-- ---- in range, after each step

same_ok : (f g : Test) (v : ℤ) (m : ℕ) → f v ≡ g v → ok_by g v m ≡ true → ok_by f v m ≡ true
same_ok f g v m e h = rw e h

-- cells of the types ts that stand among the tests of a sound store from n on
sound-cells : (Γ : Types) (ts : List ℕ) (xs : List Test) (n : ℕ) (m : Store) → Sound xs m → Here Γ xs n ts → cells_ok Γ ts (drop n m.values) (drop n m.marks) ≡ true
sound-cells Γ ts xs n m s h = each-cells Γ ts (drop n m.values) (drop n m.marks) λ i l.
    let v = get_or m.values (n + i) (pos 0) in
    rw (get_or-drop n m.values i (pos 0), get_or-drop n m.marks i 0)
    (same_ok (get_or (tests Γ ts) i any) (get_or xs (n + i) any) v (get_or m.marks (n + i) 0) (tests-get Γ ts i l v ∙ sym (h.each i l v)) (s.each (n + i)))

module _ (text : List ℕ) (work : ℕ) (vs : List ℤ) (ms : List ℕ) where
  in-range : (r : Read) → Accepted text work vs ms r → ParametersInRange text work vs ms r
  in-range r h budget =
      let k = text-keeps text work r h.text-fits in
      sound-cells r.known.env.types r.known.env.parameters (tests_of r) lent_cells _
      (ends-fine text work r h.text-fits vs ms h.store-fits budget).sound (text-stand r.known k).own

  -- ---- together

  pub parameters-hold : OfParameters text work vs ms
  parameters-hold = record {
    every-depth = every-depth text work;
    of-their-own = of-their-own text work;
    gone-at-return = gone-at-return;
    at-the-call = at-the-call;
    in-range = in-range;
  }
