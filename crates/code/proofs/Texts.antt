-- The code of an accepted text, for those who lay it down and run it: facts about it, its layout, and the machine over the working list.
use mathlib.Core.Path.{◌≡◌, refl, sym, ◌∙◌}
use mathlib.Core.Bool.{false}
use mathlib.Core.List.{List, [], ◌∷◌, ◌++◌, append_assoc, map}
use mathlib.Core.Option.{none}
use Prim.Native.Nat.{ℕ, ◌+◌, ◌*◌, ◌-◌, ◌<◌, ◌≤◌}
use native.Mathlib.Omega.{arith}
use lib.IntN.{ℤ}
use lib.ListN.{get_or-append, length, get_or}
use Rattle.law.specs.Environment.{PlacedBody}
use Rattle.law.specs.Code.{BodyCode, Frame, no_frame, stop}
use Rattle.code.specs.Layout.{Laid, lay_bodies}
use Rattle.code.specs.LayoutSize.{size_body, size_bodies, size_symbols}
use Rattle.code.specs.Readback.{read_body, body_at_places}
use Rattle.law.specs.Machine.{Proc, normal}
use Rattle.law.specs.Store.{store_fault}
use Rattle.law.specs.Verdict.{Read, accepted}
use Rattle.law.specs.Whole.{fresh, run_all, verdict_of}
use Rattle.code.specs.ListMachine.{called}
use Rattle.law_theorems.proofs.TextsAgree.{Paired, empty, more, judged-agree}
use Rattle.law_theorems.proofs.ValuesInRange.{Sound}
use Rattle.law_theorems.specs.ValuesInRange.{Test}
use Rattle.law_theorems.proofs.LinesKeep.{text-keeps, text-stand}
use Rattle.law_theorems.specs.LinesKeep.{AllFormed, body as formed, frames_of, store_tests}
use Rattle.law_theorems.proofs.BodiesInRange.{store-sound}
use Rattle.law_theorems.proofs.Programs.{no-procs}
use Rattle.law_theorems.proofs.StatementsNoted.{all-n, answer-n}
use Rattle.law_theorems.specs.StatementsNoted.{Notes}
use Rattle.law_theorems.specs.Bodies as Numbered
use Rattle.law_theorems.specs.Bodies.{Bodies}
use Rattle.law_theorems.proofs.CodeSafe.{SafeBody}
use Rattle.law_theorems.specs.CodeCalls.{CallsBody, frame_by}
use Rattle.law_theorems.specs.CodeSized.{SizedBody}
use Rattle.code.specs.CodeReady.{ReadyBody}
use Rattle.law_theorems.proofs.ElaboratedSafe.{body-safe}
use Rattle.law_theorems.proofs.ScriptCalls.{body-calling-also}
use Rattle.code.proofs.LinesMeasured.{text-measured}
use Rattle.code.proofs.TextRoom.{text-within, text-room, total-room}
use Rattle.code.proofs.Measure.{Measure, total}
use Rattle.code.proofs.MeasurePlaces.{through_places, total-places}
use Rattle.code.proofs.ForLoops.{fors_bodies, of_fors, total-fors}
use Rattle.code.specs.LayoutBodies as Held
use Rattle.code.proofs.LayoutBodies.{no-bodies}
use Rattle.code.proofs.LayoutFits.{all_laid, bodies-fit}
use Rattle.code.proofs.ListMachineRuns.{bodies-run}

no_body : BodyCode
no_body = record { frame = no_frame; acts = stop; handles = false; handler = stop }

-- ---- the code of an accepted text, for those who lay it down and run it. The predicates are in CodeSafe, CodeCalls, CodeSized and CodeReady;
-- bodies are counted from 0, main's is the last

-- after bodies with the frames qs
all-safe : {xs : List Test} {k : ℕ} {bs : List PlacedBody} {cs : List BodyCode} (all qs : List Frame) → all ≡ qs ++ frames_of bs → Paired bs cs → AllFormed xs qs bs
    → Bodies (λ _. SafeBody xs (λ p. get_or all p no_frame)) k cs
all-safe all qs e empty a = Numbered.none
all-safe {xs} all qs e (more {b} {c} {bs} h p) (formed 𝓕 j a) = Numbered.body
    (body-safe b.types b.vars xs 𝓕 (λ p. get_or all p no_frame) b.frame b.body c h
    (body-calling-also (λ p ts K. rw (e, get_or-append qs (frames_of (b ∷ bs)) no_frame p K.below) K.framed) j))
    (all-safe all (qs ++ (b.frame ∷ [])) (e ∙ sym (append_assoc qs (b.frame ∷ []) (frames_of bs))) p a)

module _ (text : List ℕ) (work : ℕ) (r : Read) (accept : verdict_of text work ≡ accepted r) where
  -- a test for each cell: what it may hold when it is defined
  abbrev pub cell_tests : List Test
  cell_tests = store_tests r.known.env.types r.known.cells r.known.env.parameters

  -- in every sound store, each expression's value is of its kind, each place lies in the store, each statement leaves a sound store
  pub code-safe : Bodies (λ _. SafeBody cell_tests (frame_by r.codes)) 0 r.codes
  code-safe = judged-agree text work r accept λ es _ p.
      let K = text-keeps text work r accept in
      all-safe (map (λ (c : BodyCode). c.frame) r.codes) [] (text-measured text work r accept).0.frames p (K.bodies cell_tests (text-stand r.known K))

  -- an accepted store is sound
  pub store-is-sound : (vs : List ℤ) (ms : List ℕ) → store_fault r.known.env.types r.known.cells vs ms ≡ none → Sound cell_tests (fresh vs ms)
  store-is-sound vs ms h = let K = text-keeps text work r accept in store-sound r.known.env.types r.known.cells r.known.env.parameters K.lent K.stored vs ms h

  -- body number k calls only bodies below k, with as many arguments as these have parameters
  pub code-calls : Bodies (CallsBody (frame_by r.codes)) 0 r.codes
  code-calls = (text-measured text work r accept).0.calls

  -- the numbers in the code are small
  pub code-sized : Bodies (λ _. SizedBody) 0 r.codes
  code-sized = (text-measured text work r accept).0.sized

  -- what an engine needs: the numbers, one-cell expressions, the reach of places, and at most 32 brackets in an expression
  pub code-ready : Bodies (λ _. ReadyBody 31) 0 r.codes
  code-ready = (text-measured text work r accept).0.ready

  -- the statement of the last exception is one of the script's
  pub statement-noted : Notes (run_all r.codes [])
  statement-noted = all-n code-sized [] (no-procs (λ (f : Proc). Notes f.run) (answer-n normal))

  -- how many cells, and how many bodies
  pub cell-count : length r.known.cells ≤ 2048
  cell-count = (text-measured text work r accept).0.cells

  pub body-count : (1 ≤ length r.codes) × (length r.codes ≤ 33)
  body-count = let m = text-measured text work r accept in (m.0.main m.1, m.0.most)

  -- ---- the layout, symbol entries included

  -- 4 numbers for each bracket and word are enough, place 0 left free
  pub four-each : 1 + size_symbols r.known.env + size_bodies r.codes ≤ 4 * r.known.nodes
  four-each = text-within text work r accept

  -- so the 16,384 that the working list must have are
  pub room-enough : 1 + size_symbols r.known.env + size_bodies r.codes ≤ 16384
  room-enough = text-room text work r accept

  -- the code alone, by any measure of it (Measure)
  pub any-room : (M : Measure) → total M r.codes ≤ 16384
  any-room M = total-room M text work r accept

  -- and as it is read back, with places for the bodies that it calls
  pub any-room-at : (places : List ℕ) (M : Measure) → total M (map (body_at_places places) r.codes) ≤ 16384
  any-room-at places M = rw (← total-places places M r.codes) (any-room (through_places places M))

  -- so there are at most 1,024 `for` loops, in all bodies together
  pub for-room : 16 * fors_bodies r.codes ≤ 16384
  for-room = omega (arith, any-room of_fors, total-fors r.codes)

  pub for-room-at : (places : List ℕ) → 16 * fors_bodies (map (body_at_places places) r.codes) ≤ 16384
  for-room-at places = omega (arith, any-room-at places of_fors, total-fors (map (body_at_places places) r.codes))

  bodies-laid : (t : ℕ) (l : List ℕ) → 1 ≤ t → t + size_bodies r.codes ≤ 16384 → 16384 ≤ length l → (other : BodyCode)
      → Held.Bodies other t (lay_bodies [] r.codes t l).top (lay_bodies [] r.codes t l).list (lay_bodies [] r.codes t l).places r.codes
  bodies-laid t l h g i other =
      all_laid other t t l [] [] r.codes (omega arith) (record { start = h; fits = g; long = i }) (bodies-fit code-sized code-calls) (no-bodies other t t l)

  -- all bodies, laid from t on where there is room, are read back, with places for the bodies that they call; `other` is the body past
  -- the last, of which nothing is said
  pub laid-back : (t : ℕ) (l : List ℕ) → 1 ≤ t → t + size_bodies r.codes ≤ 16384 → 16384 ≤ length l
      → (o : Laid) → lay_bodies [] r.codes t l ≡ o → (other : BodyCode) (k d : ℕ) → k < length r.codes → size_body (get_or r.codes k other) ≤ d
      → read_body d o.list (get_or o.places k 0) ≡ body_at_places o.places (get_or r.codes k other)
  laid-back t l h g i o e other k d j m =
      rw (← e) (((bodies-laid t l h g i other).held (lay_bodies [] r.codes t l).list (record { at = λ _ _ _. refl })).read _ (record { at = λ _ _. refl }) k j d m)

  -- ---- the machine over the working list (`called`, ListMachine), which runs the body at a place

  -- in every list that holds the bodies at these places, whatever stands between them, the body at the last place, which is main's, runs as
  -- the text's code does. Bodies are nested no deeper than there are bodies, so that each n from there on is deep enough
  pub held-runs : {a t : ℕ} (l places : List ℕ) → ((other : BodyCode) → Held.Bodies other a t l places r.codes) → (n : ℕ) → length r.codes ≤ n
      → called n l (get_or places (length places - 1) 0) ≡ run_all r.codes []
  held-runs l places B n h =
      let H = B no_body in
      bodies-run no_body l places r.codes H.count (H.held l (record { at = λ _ _ _. refl })) code-calls (omega (arith, room-enough)) body-count.0 n h

  -- so where all bodies are laid from t on
  pub list-runs : (t : ℕ) (l : List ℕ) → 1 ≤ t → t + size_bodies r.codes ≤ 16384 → 16384 ≤ length l
      → (o : Laid) → lay_bodies [] r.codes t l ≡ o → (n : ℕ) → length r.codes ≤ n
      → called n o.list (get_or o.places (length o.places - 1) 0) ≡ run_all r.codes []
  list-runs t l h g i o e n j =
      rw (← e) (held-runs (lay_bodies [] r.codes t l).list (lay_bodies [] r.codes t l).places (λ other. bodies-laid t l h g i other) n j)
