-- The ways through the loops of `while` and `for`.
use mathlib.Core.Path.{◌≡◌, refl, sym, ap, subst, ◌∙◌}
use mathlib.Core.Bool.{Bool, true, false, ◌&&◌}
use mathlib.Core.List.{List, [], ◌∷◌}
use mathlib.Core.Option.{none, some}
use Prim.Native.Nat.{ℕ, suc, ◌-◌, ◌<◌, ◌≤◌}
use native.Mathlib.Omega.{arith}
use borrow.Author.Rules.{sfits_of}
use lib.IntN.{ℤ, pos, negsuc, ◌-ℤ◌, suc_ℤ}
use lib.Signed.{le_z, lt_z}
use mir.Syntax.{w32, w64}
use mir.Val.{Fits, SFits}
use mir.Facts.{to_z-of_z}
use Rattle.leaf_integers.specs.Integers.{inside}
use Rattle.leaf_integers.proofs.Machine.{wire}
use Rattle.leaf_integers.proofs.Order.{le_not, not-le}
use Rattle.law.specs.Base.{Name, pick, ◌>>=◌}
use Rattle.law.specs.Calculate.{Result, is_true, nat_of, range_error}
use Rattle.law.specs.Machine.{Store, State, state, Answer, answer, normal, spent, and_then, branch, count_up, ended, for_rounds, forgotten, opened, raising, stored, while_rounds, with_result}
use Rattle.law.specs.Script as Script
use Rattle.law.specs.Syntax.{Expr}
use Rattle.law.specs.Trees.{end, first}
use Rattle.law_theorems.specs.Readings.{stack_at}
use Rattle.law.specs.Types.{Types, info_at}
use Rattle.text_heads.specs.declared.Verb.TheVariants as VB
use Rattle.text_heads.specs.Parts.{part_of, rest, expr_in, name_in, stmt_in}
use Rattle.text_heads.proofs.Expressions.{expr-end}
use Rattle.text_skips.specs.Skips.{Skips}
use Rattle.code_calc.specs.Words.{greatest, InRange}
use Rattle.mark_steps.specs.Ends.{left_in, step_word, Raises}
use Rattle.mark_steps.specs.Stands.{Goes, Stands, after}
use Rattle.mark_steps.specs.Turns.{Increments, Plans, plan_from}
use Rattle.mark_cells.specs.Cells.{Forgets, Puts}
use Rattle.mark_cells.proofs.Ending.{left-most, left-of, raised-fewer, step-spent, step-taken, step_fewer, step-stands}
use Rattle.mark_cells.proofs.Stored.{forgotten-stands, put-stands}
use Rattle.mark_values.specs.Carrying.{Broken}
use Rattle.mark_acts.specs.declared.bounds.Span.{Span}
use Rattle.mark_acts.specs.Acts.{Conditions}
use Rattle.mark_acts.specs.Bounds.{Counted, counted, SpanIs, Bounding}
use Rattle.mark_acts.specs.Ends.{MarkEnds, MarkRuns, Halts}
use Rattle.mark_acts.proofs.Ending.{normal-marks, raising-marks, halts-ends}
use Rattle.mark_acts.proofs.Shapes.{for-shape}
use Rattle.table_bodies.specs.Procedures.{procs_of}
use Rattle.std.specs.Prelude.{Ok, Err, Result as Held}
use Rattle.mark_steps.specs.declared.turns.Plan.{Plan}
use Rattle.mark_steps.specs.declared.turns.Plan.TheVariants as plan
use Rattle.mark_statements.specs.Marks.{Found, FoundExpr, Setting, machine, testing, MarksStmt, MarksVerb, MarksWhile, MarksRounds}
use Rattle.mark_statements.proofs.Machines.{goes-next, stops-there, goes-ends, spent-marks}
use Rattle.mark_statements.proofs.Turning.{onward, rounds-by, onward-spent, onward-round, count-one, count-rest, count-last, next_up, next-ranged, for-spent, for-round, for-none as rounds-none, count-opened}
use Rattle.mark_statements.proofs.Founding.{found_as, for-found, past}
use Rattle.mark_statements.proofs.Branching.{known, test-halts, test-gives}
use Rattle.table_scope.specs.declared.Scope.{Scope}

-- ---- `repeat`

-- rounds are left, no more than the steps
pub record RoundsLeft (a : Answer) (test : State → (Bool → Answer) → Answer) (body : State → Answer) (ws : List ℤ) (t : ℕ) : Type 0 where
  pub more : ℕ
  pub enough : t ≤ more
  pub goes : Goes a (while_rounds more test body) ws t

pub record Repeating (s l us ts tb : List ℕ) (scope : Scope) (calls d n c b : ℕ) (ws : List ℤ) (left : ℕ) (vs : List ℤ) (t : ℕ) : Type 0 where
  pub goes : (F : Setting s l us ts tb scope calls) (E : FoundExpr F.env (expr_in 33 (first (stack_at s c)))) (X : Found F.env (stmt_in d n (first (stack_at s b)))) (f : ℕ) → left ≤ f → (k : Store) → Stands ws left k
      → RoundsLeft (while_rounds f (testing F n E.expr) (machine F X.stmt) (state k left)) (testing F n E.expr) (machine F X.stmt) vs t
  pub fewer : t ≤ left

module _ (s l us ts tb : List ℕ) (scope : Scope) (calls d n c b : ℕ) (ws : List ℤ) (left : ℕ) where
  pub while-start : Repeating s l us ts tb scope calls d n c b ws left ws left
  while-start = record { goes = λ F E X f g k S. record { more = f; enough = g; goes = record { store = k; stands = S; rest = refl } }; fewer = omega arith }

  module _ (vs : List ℤ) (t : ℕ) (R : Repeating s l us ts tb scope calls d n c b ws left vs t) (x : ℤ) (C : Conditions s l ts vs scope c x) (fx : SFits w64 x) where
    -- the loop ends as a round from here does
    while-from : (os : List ℤ) (r : ℕ) → left_in r ≤ left
        → ((F : Setting s l us ts tb scope calls) (E : FoundExpr F.env (expr_in 33 (first (stack_at s c)))) (X : Found F.env (stmt_in d n (first (stack_at s b)))) (f : ℕ) → t ≤ f → (k : Store) → Stands vs t k
        → MarkEnds (testing F n E.expr (state k t) (λ q. branch q (onward (testing F n E.expr) (machine F X.stmt) f) (answer normal) (state k t))) os r)
        → MarksWhile s l us ts tb scope calls d n c b ws left os r
    while-from os r h g = record {
      runs = λ F E X f z. record {
        says = λ k S.
            let Q = R.goes F E X f z k S in
            goes-ends Q.goes (λ j J. subst (λ (a : Answer). MarkEnds a os r) (sym (rounds-by (testing F n E.expr) (machine F X.stmt) Q.more (state j t))) (g F E X Q.more Q.enough j J));
      };
      fewer = h;
    }

    pub while-halts : (os : List ℤ) (r : ℕ) → lt_z greatest (wire x) ≡ true → Halts (wire x) n vs t os r → MarksWhile s l us ts tb scope calls d n c b ws left os r
    while-halts os r h H = while-from os r (omega (arith, H.fewer, R.fewer)) (λ F E X f z k S.
        test-halts F n c E vs t x C k S os r (rw (to_z-of_z fx) at h) (rw (to_z-of_z fx) at H) (λ q. branch q (onward (testing F n E.expr) (machine F X.stmt) f) (answer normal) (state k t)))

    module _ (h : lt_z greatest (wire x) ≡ false) where
      -- what the test leads to
      while-gives : (q : Bool) → is_true x ≡ q → (F : Setting s l us ts tb scope calls) (E : FoundExpr F.env (expr_in 33 (first (stack_at s c)))) (X : Found F.env (stmt_in d n (first (stack_at s b)))) (f : ℕ)
          (k : Store) → Stands vs t k
          → testing F n E.expr (state k t) (λ q. branch q (onward (testing F n E.expr) (machine F X.stmt) f) (answer normal) (state k t))
          ≡ branch q (onward (testing F n E.expr) (machine F X.stmt) f) (answer normal) (state k t)
      while-gives q e F E X f k S =
          test-gives F n c E vs t x C k S (rw (to_z-of_z fx) at h) q e (λ q. branch q (onward (testing F n E.expr) (machine F X.stmt) f) (answer normal) (state k t))

      pub while-done : le_z (wire x) (pos 0) ≡ true → MarksWhile s l us ts tb scope calls d n c b ws left vs t
      while-done g = while-from vs t (omega (arith, left-most t, R.fewer)) (λ F E X f z k S.
          subst (λ (a : Answer). MarkEnds a vs t) (sym (while-gives false (le_not x (pos 0) (rw (to_z-of_z fx) at g)) F E X f k S)) (normal-marks vs t k S))

      module _ (g : le_z (wire x) (pos 0) ≡ false) (u : ℕ) (U : u ≡ step_word t) where
        while-on : (F : Setting s l us ts tb scope calls) (E : FoundExpr F.env (expr_in 33 (first (stack_at s c)))) (X : Found F.env (stmt_in d n (first (stack_at s b)))) (f : ℕ) (k : Store) → Stands vs t k
            → testing F n E.expr (state k t) (λ q. branch q (onward (testing F n E.expr) (machine F X.stmt) f) (answer normal) (state k t)) ≡ onward (testing F n E.expr) (machine F X.stmt) f (state k t)
        while-on F E X f k S = while-gives true (not-le x (pos 0) (rw (to_z-of_z fx) at g)) F E X f k S

        pub while-spent : 4294967295 < u → MarksWhile s l us ts tb scope calls d n c b ws left vs u
        while-spent e = while-from vs u (omega (arith, step_fewer t u U, R.fewer)) (λ F E X f z k S. go F E X f k S (step-spent t u U e S.steps))
          where
            go : (F : Setting s l us ts tb scope calls) (E : FoundExpr F.env (expr_in 33 (first (stack_at s c)))) (X : Found F.env (stmt_in d n (first (stack_at s b)))) (f : ℕ) (k : Store) → Stands vs t k → t ≡ 0
                → MarkEnds (testing F n E.expr (state k t) (λ q. branch q (onward (testing F n E.expr) (machine F X.stmt) f) (answer normal) (state k t))) vs u
            go F E X f k S z = subst (λ (a : Answer). MarkEnds a vs u)
                (sym (while-on F E X f k S ∙ ap (λ (w : ℕ). onward (testing F n E.expr) (machine F X.stmt) f (state k w)) z
                ∙ onward-spent (testing F n E.expr) (machine F X.stmt) f k ∙ ap (λ (w : ℕ). answer spent (state k w)) (sym z)))
                (spent-marks vs t k S u U e)

        module _ (j : u ≤ 4294967295) (os : List ℤ) (o : ℕ) (B : MarksStmt s l us ts tb scope calls d n b vs u os o) where
          taken : t ≡ suc u
          taken = step-taken t u U j

          while-round : (F : Setting s l us ts tb scope calls) (E : FoundExpr F.env (expr_in 33 (first (stack_at s c)))) (X : Found F.env (stmt_in d n (first (stack_at s b)))) (f : ℕ) → t ≤ f → (k : Store) → Stands vs t k
              → testing F n E.expr (state k t) (λ q. branch q (onward (testing F n E.expr) (machine F X.stmt) f) (answer normal) (state k t))
              ≡ and_then (machine F X.stmt (state k u)) (while_rounds (f - 1) (testing F n E.expr) (machine F X.stmt))
          while-round F E X f z k S =
              while-on F E X f k S ∙ ap (λ (w : ℕ). onward (testing F n E.expr) (machine F X.stmt) f (state k w)) taken
              ∙ onward-round (testing F n E.expr) (machine F X.stmt) f k u (omega (arith, taken, z))

          round-ends : (F : Setting s l us ts tb scope calls) (X : Found F.env (stmt_in d n (first (stack_at s b)))) (k : Store) → Stands vs t k → MarkEnds (machine F X.stmt (state k u)) os o
          round-ends F X k S = (B.runs F X).says k (step-stands vs t u k taken S)

          pub while-stops : 4294967295 < o → MarksWhile s l us ts tb scope calls d n c b ws left os o
          while-stops q = while-from os o (omega (arith, B.fewer, taken, R.fewer)) (λ F E X f z k S.
              subst (λ (a : Answer). MarkEnds a os o) (sym (while-round F E X f z k S))
              (stops-there (machine F X.stmt (state k u)) (while_rounds (f - 1) (testing F n E.expr) (machine F X.stmt)) os o (round-ends F X k S) q))

          pub while-falls : o ≤ 4294967295 → o < t
          while-falls q = omega (arith, left-of o q, B.fewer, taken)

          pub while-next : o ≤ 4294967295 → Repeating s l us ts tb scope calls d n c b ws left os o
          while-next q = record { goes = λ F E X f z k S. go F E X (R.goes F E X f z k S); fewer = omega (arith, left-of o q, B.fewer, taken, R.fewer) }
            where
              go : {a : Answer} (F : Setting s l us ts tb scope calls) (E : FoundExpr F.env (expr_in 33 (first (stack_at s c)))) (X : Found F.env (stmt_in d n (first (stack_at s b))))
                  → RoundsLeft a (testing F n E.expr) (machine F X.stmt) vs t → RoundsLeft a (testing F n E.expr) (machine F X.stmt) os o
              go {a} F E X Q =
                  let k = Q.goes.store in
                  let H = goes-next (machine F X.stmt (state k u)) (while_rounds (Q.more - 1) (testing F n E.expr) (machine F X.stmt)) os o (round-ends F X k Q.goes.stands) q in
                  record {
                    more = Q.more - 1;
                    enough = omega (arith, left-of o q, B.fewer, taken, Q.enough);
                    goes = record {
                      store = H.store;
                      stands = H.stands;
                      rest = Q.goes.rest ∙ rounds-by (testing F n E.expr) (machine F X.stmt) Q.more (state k t) ∙ while-round F E X Q.more Q.enough k Q.goes.stands ∙ H.rest;
                    };
                  }

pub ruleset while-laws = (while-halts, while-done, while-spent, while-stops, sfits_of)

-- ---- `rounds`

-- its control variable undefined, a `for` ends
ended-marks : (ws : List ℤ) (left : ℕ) (m : Store) (a : ℕ) (es : List ℤ) → Stands ws left m → Forgets ws a 1 es → MarkEnds (ended a (state m left)) es left
ended-marks ws left m a es S G = normal-marks es left (forgotten a 1 m) (forgotten-stands ws left m a 1 es S G)

-- rounds from z to y are left
pub record TurnsLeft (v : Answer) (a : ℕ) (body : State → Answer) (z y : ℤ) (ws : List ℤ) (t : ℕ) : Type 0 where
  pub up : le_z z y ≡ true
  pub ranged : InRange z
  pub goes : Goes v (for_rounds (nat_of (suc_ℤ (y -ℤ z))) a body z) ws t

pub record Counting (s l us ts tb : List ℕ) (scope : Scope) (calls d n a : ℕ) (x y : ℤ) (b : ℕ) (ws : List ℤ) (left : ℕ) (z : ℤ) (vs : List ℤ) (t : ℕ) : Type 0 where
  pub goes : (F : Setting s l us ts tb scope calls) (X : Found F.env (stmt_in d n (first (stack_at s b)))) → le_z x y ≡ true → InRange x → InRange y → (k : Store) → Stands ws left k
      → TurnsLeft (for_rounds (nat_of (suc_ℤ (y -ℤ x))) a (machine F X.stmt) x (state k left)) a (machine F X.stmt) z y vs t
  pub fewer : t ≤ left
  pub small : a ≤ 4294967295

module _ (s l us ts tb : List ℕ) (scope : Scope) (calls d n a : ℕ) (x y : ℤ) (b : ℕ) (ws : List ℤ) (left : ℕ) where
  pub turn-start : Fits w32 a → Counting s l us ts tb scope calls d n a x y b ws left x ws left
  turn-start f = record { goes = λ F X h R Q k S. record { up = h; ranged = R; goes = record { store = k; stands = S; rest = refl } }; fewer = omega arith; small = omega (arith, f.fits) }

  module _ (z : ℤ) (vs : List ℤ) (t : ℕ) (C : Counting s l us ts tb scope calls d n a x y b ws left z vs t) where
    turn-from : (os : List ℤ) (r : ℕ) → left_in r ≤ left
        → ((F : Setting s l us ts tb scope calls) (X : Found F.env (stmt_in d n (first (stack_at s b)))) → InRange y → (k : Store) → le_z z y ≡ true → InRange z → Stands vs t k
        → MarkEnds (for_rounds (suc (nat_of (y -ℤ z))) a (machine F X.stmt) z (state k t)) os r)
        → MarksRounds s l us ts tb scope calls d n a x y b ws left os r
    turn-from os r h g = record {
      runs = λ F X i R Q. record {
        says = λ k S.
            let K = C.goes F X i R Q k S in
            goes-ends K.goes (λ j J. subst (λ (e : ℕ). MarkEnds (for_rounds e a (machine F X.stmt) z (state j t)) os r) (sym (count-one y z K.up)) (g F X Q j K.up K.ranged J));
      };
      fewer = h;
    }

    module _ (u : ℕ) (U : u ≡ step_word t) where
      turn-spent : 4294967295 < u → MarksRounds s l us ts tb scope calls d n a x y b ws left vs u
      turn-spent e = turn-from vs u (omega (arith, step_fewer t u U, C.fewer)) (λ F X Q k h R S. go F X k S (step-spent t u U e S.steps))
        where
          go : (F : Setting s l us ts tb scope calls) (X : Found F.env (stmt_in d n (first (stack_at s b)))) (k : Store) → Stands vs t k → t ≡ 0
              → MarkEnds (for_rounds (suc (nat_of (y -ℤ z))) a (machine F X.stmt) z (state k t)) vs u
          go F X k S i = subst (λ (v : Answer). MarkEnds v vs u)
              (sym (ap (λ (w : ℕ). for_rounds (suc (nat_of (y -ℤ z))) a (machine F X.stmt) z (state k w)) i
              ∙ for-spent a (machine F X.stmt) z (nat_of (y -ℤ z)) k ∙ ap (λ (w : ℕ). answer spent (state k w)) (sym i)))
              (spent-marks vs t k S u U e)

      module _ (j : u ≤ 4294967295) (qs os : List ℤ) (o : ℕ) (P : Puts vs a z qs) (B : MarksStmt s l us ts tb scope calls d n b qs u os o) where
        turned : t ≡ suc u
        turned = step-taken t u U j

        turn-ends : (F : Setting s l us ts tb scope calls) (X : Found F.env (stmt_in d n (first (stack_at s b)))) (k : Store) → InRange z → Stands vs t k
            → MarkEnds (machine F X.stmt (state (stored a (z ∷ []) k) u)) os o
        turn-ends F X k R S = (B.runs F X).says (stored a (z ∷ []) k) (step-stands qs t u (stored a (z ∷ []) k) turned (put-stands vs t k a a z qs S R (omega (arith, C.small)) P))

        turn-round : (F : Setting s l us ts tb scope calls) (X : Found F.env (stmt_in d n (first (stack_at s b)))) (e : ℕ) (k : Store) → for_rounds (suc e) a (machine F X.stmt) z (state k t)
            ≡ and_then (machine F X.stmt (state (stored a (z ∷ []) k) u)) (for_rounds e a (machine F X.stmt) (suc_ℤ z))
        turn-round F X e k = ap (λ (w : ℕ). for_rounds (suc e) a (machine F X.stmt) z (state k w)) turned ∙ for-round a (machine F X.stmt) z e k u

        turn-stops : 4294967295 < o → MarksRounds s l us ts tb scope calls d n a x y b ws left os o
        turn-stops q = turn-from os o (omega (arith, B.fewer, turned, C.fewer)) (λ F X Q k h R S.
            subst (λ (v : Answer). MarkEnds v os o) (sym (turn-round F X (nat_of (y -ℤ z)) k))
            (stops-there (machine F X.stmt (state (stored a (z ∷ []) k) u)) (for_rounds (nat_of (y -ℤ z)) a (machine F X.stmt) (suc_ℤ z)) os o (turn-ends F X k R S) q))

        pub turn-falls : o ≤ 4294967295 → o < t
        turn-falls q = omega (arith, left-of o q, B.fewer, turned)

        -- the last round, and the end
        turn_last : o ≤ 4294967295 → le_z y z ≡ true → (es : List ℤ) → Forgets os a 1 es → MarksRounds s l us ts tb scope calls d n a x y b ws left es o
        turn_last q i es G = turn-from es o (omega (arith, B.fewer, turned, C.fewer)) (λ F X Q k h R S.
            subst (λ (v : Answer). MarkEnds v es o)
            (sym (turn-round F X (nat_of (y -ℤ z)) k
            ∙ ap (λ (e : ℕ). and_then (machine F X.stmt (state (stored a (z ∷ []) k) u)) (for_rounds e a (machine F X.stmt) (suc_ℤ z))) (count-last y z h i)))
            (goes-ends (goes-next (machine F X.stmt (state (stored a (z ∷ []) k) u)) (for_rounds 0 a (machine F X.stmt) (suc_ℤ z)) os o (turn-ends F X k R S) q)
            (λ m T. subst (λ (v : Answer). MarkEnds v es o) (sym (rounds-none a (machine F X.stmt) (suc_ℤ z) (state m o))) (ended-marks os o m a es T G))))

        turn-next : (r : ℤ) → o ≤ 4294967295 → le_z y z ≡ false → r ≡ suc_ℤ z → Counting s l us ts tb scope calls d n a x y b ws left r os o
        turn-next r q i e = subst (λ (v : ℤ). Counting s l us ts tb scope calls d n a x y b ws left v os o) (sym e) (record {
          goes = λ F X h R Q k S. go F X Q (C.goes F X h R Q k S);
          fewer = omega (arith, left-of o q, B.fewer, turned, C.fewer);
          small = C.small;
        })
          where
            go : {v : Answer} (F : Setting s l us ts tb scope calls) (X : Found F.env (stmt_in d n (first (stack_at s b)))) → InRange y
                → TurnsLeft v a (machine F X.stmt) z y vs t → TurnsLeft v a (machine F X.stmt) (suc_ℤ z) y os o
            go {v} F X Q K =
                let k = K.goes.store in
                let e : nat_of (suc_ℤ (y -ℤ z)) ≡ suc (nat_of (suc_ℤ (y -ℤ suc_ℤ z))) = count-one y z K.up ∙ ap (λ (c : ℤ). suc (nat_of c)) (sym (count-rest y z)) in
                let H = goes-next (machine F X.stmt (state (stored a (z ∷ []) k) u)) (for_rounds (nat_of (suc_ℤ (y -ℤ suc_ℤ z))) a (machine F X.stmt) (suc_ℤ z)) os o (turn-ends F X k K.ranged K.goes.stands) q in
                record {
                  up = next_up y z (not-le y z i);
                  ranged = next-ranged y z (not-le y z i) K.ranged Q;
                  goes = record {
                    store = H.store;
                    stands = H.stands;
                    rest = K.goes.rest ∙ ap (λ (c : ℕ). for_rounds c a (machine F X.stmt) z (state k t)) e ∙ turn-round F X (nat_of (suc_ℤ (y -ℤ suc_ℤ z))) k ∙ H.rest;
                  };
                }

-- the same as the code has it
module _ (s l us ts tb : List ℕ) (scope : Scope) (calls d n a : ℕ) (x y : ℤ) (b : ℕ) (ws : List ℤ) (left : ℕ) (f : SFits w64 x) (g : SFits w64 y) (z : ℤ) (vs : List ℤ) (t : ℕ)
    (C : Counting s l us ts tb scope calls d n a (wire x) (wire y) b ws left z vs t) where
  plainly : (os : List ℤ) (r : ℕ) → MarksRounds s l us ts tb scope calls d n a (wire x) (wire y) b ws left os r → MarksRounds s l us ts tb scope calls d n a x y b ws left os r
  plainly os r K =
      subst (λ (v : ℤ). MarksRounds s l us ts tb scope calls d n a v y b ws left os r) (to_z-of_z f)
      (subst (λ (v : ℤ). MarksRounds s l us ts tb scope calls d n a (wire x) v b ws left os r) (to_z-of_z g) K)

  module _ (u : ℕ) (U : u ≡ step_word t) where
    pub rounds-spent : 4294967295 < u → MarksRounds s l us ts tb scope calls d n a x y b ws left vs u
    rounds-spent e = plainly vs u (turn-spent s l us ts tb scope calls d n a (wire x) (wire y) b ws left z vs t C u U e)

    module _ (j : u ≤ 4294967295) (qs os : List ℤ) (o : ℕ) (P : Puts vs a z qs) (B : MarksStmt s l us ts tb scope calls d n b qs u os o) where
      pub rounds-stop : 4294967295 < o → MarksRounds s l us ts tb scope calls d n a x y b ws left os o
      rounds-stop q = plainly os o (turn-stops s l us ts tb scope calls d n a (wire x) (wire y) b ws left z vs t C u U j qs os o P B q)

      pub rounds-end : (k : Bool) (es : List ℤ) → o ≤ 4294967295 → k ≡ le_z (wire y) z → k ≡ true → Forgets os a 1 es → MarksRounds s l us ts tb scope calls d n a x y b ws left es o
      rounds-end k es q K e G = plainly es o (turn_last s l us ts tb scope calls d n a (wire x) (wire y) b ws left z vs t C u U j qs os o P B q (sym K ∙ e) es G)

      pub rounds-next : (k : Bool) (r : ℤ) → o ≤ 4294967295 → k ≡ le_z (wire y) z → k ≡ false → Increments z (wire y) r → SFits w64 r
          → Counting s l us ts tb scope calls d n a (wire x) (wire y) b ws left (wire r) os o
      rounds-next k r q K e J h =
          turn-next s l us ts tb scope calls d n a (wire x) (wire y) b ws left z vs t C u U j qs os o P B (wire r) q (sym K ∙ e) (to_z-of_z h ∙ J.says (not-le (wire y) z (sym K ∙ e)))

pub ruleset rounds-laws = (rounds-spent, rounds-stop, rounds-end, sfits_of)

-- ---- `count_up`
name-end : name_in end ≡ none
unfolding name_in part_of ◌>>=◌
name-end = refl

-- what a plan says of what v is, where a `for` of cell a counts from x to y
abbrev PlanFor : (n a : ℕ) (x y : ℤ) (body : State → Answer) (t : State) → Answer → Plan → Type 0
PlanFor n a x y body t v plan.Rounds = (le_z x y ≡ true) × (v ≡ for_rounds (nat_of (suc_ℤ (y -ℤ x))) a body x t)
PlanFor n a x y body t v plan.NoRound = v ≡ ended a t
PlanFor n a x y body t v plan.Outside = v ≡ raising range_error n t

plan-tells : (n a : ℕ) (lo hi x y : ℤ) (body : State → Answer) (t : State) (p : Plan) → Plans lo hi x y p → PlanFor n a x y body t (count_up n a lo hi x y body t) p
unfolding opened
plan-tells n a lo hi x y body t p P = go p (count-opened n a lo hi x y body t (plan_from x y p) P.says) P.up
  where
    go : (q : Plan) → count_up n a lo hi x y body t ≡ opened (plan_from x y q) n a x body t → (q ≡ plan.Rounds → le_z x y ≡ true) → PlanFor n a x y body t (count_up n a lo hi x y body t) q
    go plan.Rounds e u = (u refl, e)
    go plan.NoRound e u = e
    go plan.Outside e u = e

module _ (Γ : Types) (n : ℕ) (body : State → Answer) (t : State) (w : Result Counted) where
  abbrev over : Counted → Answer
  over q = count_up n q.0.base (info_at Γ q.0.type).low (info_at Γ q.0.type).high q.1.0 q.1.1 body t

  -- by the bounds
  span-over : (c : Span) → SpanIs Γ w (Ok c) → count_up n c.cell c.low c.high c.from c.to body t ≡ with_result n t w over
  span-over c S =
      let C = S.says in
      ap (λ (a : ℕ). count_up n a c.low c.high c.from c.to body t) C.cell ∙ ap (λ (z : ℤ). count_up n C.control.base z c.high c.from c.to body t) C.least-is
      ∙ ap (λ (z : ℤ). count_up n C.control.base (info_at Γ C.control.type).low z c.from c.to body t) C.most-is ∙ ap (λ (v : Result Counted). with_result n t v over) (sym C.gives)

module _ (s l us ts tb : List ℕ) (scope : Scope) (calls d n at : ℕ) (ws : List ℤ) (left : ℕ) (b : Held Span ℤ) (B : Bounding s l ts ws scope at b) where
  for-from : (ws' : List ℤ) (r : ℕ) → left_in r ≤ left
      → ((F : Setting s l us ts tb scope calls) (C : Found F.env (stmt_in d n (rest (rest (rest (first (stack_at s at))))))) (w : Name) (x y : Expr) → name_in (first (stack_at s at)) ≡ some w
      → expr_in 33 (rest (first (stack_at s at))) ≡ some x → expr_in 33 (rest (rest (first (stack_at s at)))) ≡ some y → (k : Store) → Stands ws left k → (v : Result Counted)
      → SpanIs F.env.types v b
      → MarkEnds (with_result n (state k left) v (over F.env.types n (machine F C.stmt) (state k left) v)) ws' r)
      → MarksVerb s l us ts tb scope calls VB.For d n at ws left ws' r
  for-from ws' r h f = record {
    runs = λ F X. for-found F.env d n (first (stack_at s at)) X (λ w i A D C hw hi j.
        subst (λ (y : Script.Stmt). MarkRuns (after (machine F y)) ws left ws' r) (sym j) (record {
          says = λ k S.
              let v = counted F.env.types F.env.vars i A.expr D.expr k in
              let T = B.says F.env (known F) w A.form D.form i A.expr D.expr hw A.reads D.reads hi A.names D.names k S.holds in
              subst (λ (a : Answer). MarkEnds a ws' r)
              (sym (for-shape F.env.types F.env.vars (procs_of F.other F.bodies F.before) k left n i A.expr D.expr C.stmt))
              (f F C w A.form D.form hw A.reads D.reads k S v T);
        }));
    fewer = h;
  }

  pub for-halts : (u : ℤ) (ws' : List ℤ) (r : ℕ) → b ≡ Err u → SFits w64 u → Halts (wire u) n ws left ws' r → MarksVerb s l us ts tb scope calls VB.For d n at ws left ws' r
  for-halts u ws' r e g H = for-from ws' r H.fewer (λ F C w x y hw hx hy k S v T.
      halts-ends ws left k n v u (over F.env.types n (machine F C.stmt) (state k left) v) ws' r S (rw e at T).says (rw (to_z-of_z g) at H))

  module _ (c : Span) (e : b ≡ Ok c) (fl : SFits w64 c.low) (fh : SFits w64 c.high) (fx : SFits w64 c.from) (fy : SFits w64 c.to) (p : Plan) (P : Plans (wire c.low) (wire c.high) (wire c.from) (wire c.to) p) where
    plans : Plans c.low c.high c.from c.to p
    plans = rw (to_z-of_z fl, to_z-of_z fh, to_z-of_z fx, to_z-of_z fy) at P

    -- by the plan
    for-planned : (ws' : List ℤ) (r : ℕ) → left_in r ≤ left
        → ((F : Setting s l us ts tb scope calls) (C : Found F.env (stmt_in d n (rest (rest (rest (first (stack_at s at))))))) (w : Name) (x y : Expr) → name_in (first (stack_at s at)) ≡ some w
        → expr_in 33 (rest (first (stack_at s at))) ≡ some x → expr_in 33 (rest (rest (first (stack_at s at)))) ≡ some y → (k : Store) → Stands ws left k → InRange c.from → InRange c.to → (a : Answer)
        → PlanFor n c.cell c.from c.to (machine F C.stmt) (state k left) a p → MarkEnds a ws' r)
        → MarksVerb s l us ts tb scope calls VB.For d n at ws left ws' r
    for-planned ws' r h f = for-from ws' r h (λ F C w x y hw hx hy k S v T.
        let Q : SpanIs F.env.types v (Ok c) = rw e at T in
        subst (λ (a : Answer). MarkEnds a ws' r) (span-over F.env.types n (machine F C.stmt) (state k left) v c Q)
        (f F C w x y hw hx hy k S Q.says.from-ranged Q.says.to-ranged (count_up n c.cell c.low c.high c.from c.to (machine F C.stmt) (state k left))
        (plan-tells n c.cell c.low c.high c.from c.to (machine F C.stmt) (state k left) p plans)))

    pub for-none : (es : List ℤ) → p ≡ plan.NoRound → Forgets ws c.cell 1 es → MarksVerb s l us ts tb scope calls VB.For d n at ws left es left
    for-none es g G = for-planned es left (left-most left) (λ F C w x y hw hx hy k S R Q a T. subst (λ (r : Answer). MarkEnds r es left) (sym (rw g at T)) (ended-marks ws left k c.cell es S G))

    pub for-outside : (ws' : List ℤ) (r : ℕ) → p ≡ plan.Outside → Raises (negsuc 102) n ws left ws' r → MarksVerb s l us ts tb scope calls VB.For d n at ws left ws' r
    unfolding InRange inside
    for-outside ws' r g A = for-planned ws' r (raised-fewer (negsuc 102) n ws left ws' r A) (λ F C w x y hw hx hy k S R Q a T.
        subst (λ (a : Answer). MarkEnds a ws' r) (sym (rw g at T)) (raising-marks ws left k S range_error n ws' r refl A))

    pub for-rounds : (q₁ q₂ q₃ : ℕ) (ws' : List ℤ) (r : ℕ) → p ≡ plan.Rounds → Skips s at q₁ → Skips s q₁ q₂ → Skips s q₂ q₃
        → MarksRounds s l us ts tb scope calls d n c.cell (wire c.from) (wire c.to) q₃ ws left ws' r → MarksVerb s l us ts tb scope calls VB.For d n at ws left ws' r
    for-rounds q₁ q₂ q₃ ws' r g A₁ A₂ A₃ M = for-planned ws' r M.fewer (λ F C w x y hw hx hy k S R Q a T. go F C w x y hw hx hy k S R Q a (rw g at T))
      where
        go : (F : Setting s l us ts tb scope calls) (C : Found F.env (stmt_in d n (rest (rest (rest (first (stack_at s at))))))) (w : Name) (g h : Expr) → name_in (first (stack_at s at)) ≡ some w
            → expr_in 33 (rest (first (stack_at s at))) ≡ some g → expr_in 33 (rest (rest (first (stack_at s at)))) ≡ some h → (k : Store) → Stands ws left k → InRange c.from → InRange c.to → (a : Answer)
            → PlanFor n c.cell c.from c.to (machine F C.stmt) (state k left) a plan.Rounds → MarkEnds a ws' r
        go F C w g h hw hg hh k S R Q a T =
            let e₁ : rest (first (stack_at s at)) ≡ first (stack_at s q₁) = past A₁ name_in w name-end hw in
            let e₂ : rest (first (stack_at s q₁)) ≡ first (stack_at s q₂) = past A₂ (expr_in 33) g (expr-end 33) (ap (expr_in 33) (sym e₁) ∙ hg) in
            let e₃ : rest (first (stack_at s q₂)) ≡ first (stack_at s q₃) = past A₃ (expr_in 33) h (expr-end 33) (ap (expr_in 33) (sym (ap rest e₁ ∙ e₂)) ∙ hh) in
            let N : MarksRounds s l us ts tb scope calls d n c.cell c.from c.to q₃ ws left ws' r
            = subst (λ (z : ℤ). MarksRounds s l us ts tb scope calls d n c.cell z c.to q₃ ws left ws' r) (to_z-of_z fx)
            (subst (λ (z : ℤ). MarksRounds s l us ts tb scope calls d n c.cell (wire c.from) z q₃ ws left ws' r) (to_z-of_z fy) M) in
            subst (λ (z : Answer). MarkEnds z ws' r) (sym T.1)
            ((N.runs F (found_as C (stmt_in d n (first (stack_at s q₃))) (ap (stmt_in d n) (ap rest (ap rest e₁ ∙ e₂) ∙ e₃))) T.0 R Q).says k S)

pub ruleset for-laws = (for-halts, for-none, for-outside, for-rounds, sfits_of)
