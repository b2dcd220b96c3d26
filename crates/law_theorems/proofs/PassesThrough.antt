-- Where a run is spent, its store and what is left of it (Rest) give what the run gives at any larger budget: so that one passes through it.
use mathlib.Core.Path.{◌≡◌, refl, ap, sym, subst, fun_ext}
use mathlib.Core.Bool.{Bool, true, false}
use mathlib.Core.List.{List, [], ◌∷◌}
use Prim.Native.Nat.{ℕ, zero, suc, ◌+◌, ◌≤◌}
use native.Mathlib.Nat.{suc-add, zero-add}
use native.Mathlib.Omega.{arith}
use lib.IntN.{ℤ, suc_ℤ}
use Rattle.leaf_integers.specs.Integers.{inside, is_zero}
use Rattle.law.specs.Calculate.{Result, fails, is, is_true, stuck}
use Rattle.law.specs.Chair.{condition, eval_code, matches, place_code, run_act, run_acts, run_arguments, run_cases}
use Rattle.law.specs.Code.{Act, Acts, BodyCode, Cases, Code, Frame, ◌also◌, assign_ordinal, assign_cell, copy_cells, load, branch_on, call_to, case_of, else_case, for_loop, no_case, no_act, one_case, raise_with, sequence, stop, while_loop}
use Rattle.law.specs.Machine.{Answer, Outcome, Proc, Procs, State, Store, and_then, answer, branch, caught, continued, Plan, count_up, ended, entered, for_rounds, no_round, opened, outside, planned, rounds, handled, normal, pass_on, proc, procedure_at, raise_number, raised, raising, returned, returning, set_control, sole, spent, state, step, step_if, sticks, stored, store_ordinal, store_whole, while_rounds, with_result}
use Rattle.law.specs.Whole.{run_all, run_body}
use Rattle.law.specs.Rest.{Rest, before, for_from, handled_by, in_body, leaving, procs_of, resume, statement, statements, while_from}
use Rattle.law_theorems.proofs.MoreBudget.{Ends, Stable, answer-f, more, more_a, run-f, runs-f, set-f}
use Rattle.law_theorems.proofs.SpentOnly as Spent
use Rattle.law_theorems.proofs.SpentOnly.{Falls, answer-d, run-d}
use Rattle.law_theorems.proofs.Programs.{body-f, body-d, calling-all, no-procs}

not-normal : {A : Type 0} → normal ≡ spent → A
not-normal h = absurd (let z : ◌≡◌ {A = ℕ} 0 1 = cc in omega arith)

not_stuck : {A : Type 0} → sticks ≡ spent → A
not_stuck h = absurd (let z : ◌≡◌ {A = ℕ} 0 1 = cc in omega arith)

not-raised : {A : Type 0} {z : ℤ} {n : ℕ} → raised z n ≡ spent → A
not-raised {z} {n} h = absurd (let y : ◌≡◌ {A = ℕ} 0 1 = cc in omega arith)

-- in a body with those before it
module _ (bs : List BodyCode) where
  -- a rest that from the store m on, with k steps more, gives what F gives
  pub record Goes (F : ℕ → Answer) (m : Store) : Type 0 where
    pub rest : Rest
    pub goes : (k : ℕ) → F k ≡ resume bs rest (state m k)

  -- where f is spent, from s on, there is a rest
  pub record Pauses (f : State → Answer) (s : State) : Type 0 where
    pub at : (f s).outcome ≡ spent → Goes (λ k. f (more k s)) (f s).state.store

  -- ---- the parts of machines

  answer-p : (s : State) → Pauses (answer normal) s
  answer-p s = record { at = λ e. not-normal e }

  ended-p : (a : ℕ) (s : State) → Pauses (ended a) s
  ended-p a s = record { at = λ e. not-normal e }

  raising-p : (z : ℤ) (n : ℕ) (s : State) → Pauses (raising z n) s
  raising-p z n s = record { at = λ e. not-raised e }

  branch-p : (q : Bool) {f g : State → Answer} (s : State) → Pauses f s → Pauses g s → Pauses (branch q f g) s
  branch-p true s hf hg = hf
  branch-p false s hf hg = hg

  -- r is the statement or loop whose step is due
  due-p : (r : Rest) (f : State → Answer) → ((s : State) → resume bs r s ≡ step s f) → (n : ℕ) (m : Store) → ((l : ℕ) → n ≡ suc l → Pauses f (state m l))
      → (step_if n (state m n) f).outcome ≡ spent → Goes (λ k. step_if (n + k) (state m (n + k)) f) (step_if n (state m n) f).state.store
  due-p r f own zero m h e = record { rest = r; goes = λ k. rw (zero-add k) (sym (own (state m k))) }
  due-p r f own (suc n) m h e = let g = (h n refl).at e in record { rest = g.rest; goes = λ k. rw suc-add (g.goes k) }

  step-p : (r : Rest) (f : State → Answer) → ((s : State) → resume bs r s ≡ step s f) → ((s : State) → Pauses f s) → (s : State) → Pauses (λ t. step t f) s
  step-p r f own h s = record { at = λ e. due-p r f own s.left s.store (λ l _. h (state s.store l)) e }

  onto-p : (q : Rest) (g : State → Answer) → (λ t. resume bs q t) ≡ g → (F : ℕ → Answer) (o : Outcome) (t : State)
      → (o ≡ spent → Goes F t.store) → (Ends o → (k : ℕ) → F k ≡ more_a k (answer o t)) → (o ≡ normal → Pauses g t)
      → (continued o t g).outcome ≡ spent → Goes (λ k. and_then (F k) g) (continued o t g).state.store
  unfolding resume
  onto-p q g own F normal t hf hs hg e = let w = (hg refl).at e in record { rest = w.rest; goes = λ k. rw (hs tt k) (w.goes k) }
  onto-p q g own F spent t hf hs hg e = let w = hf refl in record { rest = before w.rest q; goes = λ k. rw (w.goes k, ← own) }
  onto-p q g own F sticks t hf hs hg e = not_stuck e
  onto-p q g own F (raised z n) t hf hs hg e = not-raised e

  then-p : (q : Rest) (f g : State → Answer) → (λ t. resume bs q t) ≡ g → ((k : ℕ) → Stable k f) → (s : State)
      → Pauses f s → ((f s).outcome ≡ normal → Pauses g (f s).state) → Pauses (λ t. and_then (f t) g) s
  then-p q f g own st s hf hg = record {
    at = λ e. onto-p q g own (λ k. f (more k s)) (f s).outcome (f s).state (λ d. hf.at d) (λ d k. (st k).at s d) hg e;
  }

  after-p : {A : Type 0} (n : ℕ) (v : Store → Result A) (f : A → State → Answer) (s : State) → ((z : A) → Pauses (f z) s) → Pauses (λ t. with_result n t (v t.store) (λ z. f z t)) s
  after-p {A} n v f s h = record { at = λ e. go (v s.store) e }
    where
      go : (w : Result A) → (with_result n s w (λ z. f z s)).outcome ≡ spent → Goes (λ k. with_result n (more k s) w (λ z. f z (more k s))) (with_result n s w (λ z. f z s)).state.store
      go (is z) e = (h z).at e
      go (fails z) e = not-raised e
      go stuck e = not_stuck e

  check-p : (n : ℕ) (c : Code) (f : Bool → State → Answer) (s : State) → ((b : Bool) → Pauses (f b) s) → Pauses (λ t. condition n c t (λ b. f b t)) s
  unfolding condition
  check-p n c f s h = after-p n (eval_code c) (λ z. f (is_true (sole z))) s (λ z. h (is_true (sole z)))

  keep-p : (n a : ℕ) (lo hi z : ℤ) (s : State) → Pauses (store_ordinal n a lo hi z) s
  unfolding store_ordinal
  keep-p n a lo hi z s = branch-p (inside lo hi z) s (record { at = λ e. not-normal e }) (raising-p _ n s)

  copy-p : (n a : ℕ) (zs : List ℤ) (s : State) → Pauses (store_whole n a zs) s
  unfolding store_whole
  copy-p n a zs s = record { at = λ e. not-normal e }

  passes-p : (n : ℕ) (s : State) → Pauses (pass_on n) s
  unfolding pass_on
  passes-p n s = record { at = λ e. (branch-p (is_zero s.store.latest) s (raising-p _ n s) (record { at = λ d. not-raised d })).at e }

  raises-p : (n : ℕ) (z : ℤ) (s : State) → Pauses (raise_number n z) s
  unfolding raise_number
  raises-p n z s = branch-p (is_zero z) s (passes-p n s) (raising-p z n s)

  -- ---- loops

  abbrev Stays : (State → Answer) → Type 0
  Stays f = (k : ℕ) → Stable k f

  abbrev Sinks : (State → Answer) → Type 0
  Sinks f = (s : State) → (f s).state.left ≤ s.left

  module _ (n : ℕ) (c : Code) (body : State → Answer) (low : Sinks body) where
    abbrev loop : State → Answer
    loop s = while_rounds s.left (condition n c) body s

    abbrev round : (State → Answer) → State → Answer
    round next t = step t (λ s. and_then (body s) next)

    onto_same : (f g : State → Answer) (o : Outcome) (t : State) → f t ≡ g t → continued o t f ≡ continued o t g
    onto_same f g normal t e = e
    onto_same f g spent t e = refl
    onto_same f g sticks t e = refl
    onto_same f g (raised z k) t e = refl

    -- rounds beyond what is left of the budget change nothing
    round_same : (f g : State → Answer) (m : Store) (l : ℕ) → ((t : State) → suc t.left ≤ l → f t ≡ g t) → round f (state m l) ≡ round g (state m l)
    round_same f g m zero h = refl
    round_same f g m (suc l) h =
        let a = body (state m l) in let k = low (state m l) in
        onto_same f g a.outcome a.state (h a.state (omega arith))

    tested-same : (f g : State → Answer) (s : State) → f s ≡ g s
        → condition n c s (λ b. branch b f (answer normal) s) ≡ condition n c s (λ b. branch b g (answer normal) s)
    tested-same f g s e = ap (condition n c s) (fun_ext λ b. go b)
      where
        go : (b : Bool) → branch b f (answer normal) s ≡ branch b g (answer normal) s
        go true = e
        go false = refl

    none_left : (f : State → Answer) (m : Store) (l : ℕ) → l ≤ 0 → answer spent (state m l) ≡ round f (state m l)
    none_left f m zero h = refl
    none_left f m (suc l) h = absurd (omega arith)

    rounds-same : (d e : ℕ) (s : State) → s.left ≤ d → s.left ≤ e → while_rounds d (condition n c) body s ≡ while_rounds e (condition n c) body s
    unfolding while_rounds
    rounds-same zero zero s h g = refl
    rounds-same zero (suc e) s h g = tested-same (answer spent) _ s (none_left _ s.store s.left h)
    rounds-same (suc d) zero s h g = sym (tested-same (answer spent) _ s (none_left _ s.store s.left g))
    rounds-same (suc d) (suc e) s h g =
        tested-same _ _ s (round_same _ _ s.store s.left (λ t l. rounds-same d e t (omega arith) (omega arith)))

    -- a loop is its test, then a round and the loop again
    loop-is : (m : Store) (l : ℕ) → loop (state m l) ≡ condition n c (state m l) (λ b. branch b (round loop) (answer normal) (state m l))
    unfolding while_rounds
    loop-is m zero = tested-same (answer spent) _ (state m zero) refl
    loop-is m (suc l) = tested-same _ _ (state m (suc l)) (round_same _ _ m (suc l) (λ t h. rounds-same l t.left t (omega arith) (omega arith)))

    -- with nothing left, a test changes no store
    kept_store : (m : Store) → (loop (state m zero)).outcome ≡ spent → (loop (state m zero)).state.store ≡ m
    unfolding while_rounds condition
    kept_store m = go (eval_code c m)
      where
        chosen : (b : Bool) → (branch b (answer spent) (answer normal) (state m zero)).state.store ≡ m
        chosen true = refl
        chosen false = refl

        go : (w : Result (List ℤ)) → (with_result n (state m zero) w (λ x. branch (is_true (sole x)) (answer spent) (answer normal) (state m zero))).outcome ≡ spent
            → (with_result n (state m zero) w (λ x. branch (is_true (sole x)) (answer spent) (answer normal) (state m zero))).state.store ≡ m
        go (is x) e = chosen (is_true (sole x))
        go (fails z) e = not-raised e
        go stuck e = not_stuck e

    module _ (q : Rest) (own : (λ t. resume bs q t) ≡ loop) (st : Stays body) (hb : (s : State) → Pauses body s) where
      turn-p : (m : Store) (l : ℕ) → Pauses loop (body (state m l)).state → Pauses (round loop) (state m (suc l))
      turn-p m l h = record {
        at = λ e.
            let g = (then-p q body loop own st (state m l) (hb (state m l)) (λ _. h)).at e in record { rest = g.rest; goes = λ k. rw suc-add (g.goes k) };
      }

      level-p : (l b : ℕ) → l ≤ b → ((t : State) → suc t.left ≤ b → Pauses loop t) → (m : Store) → Pauses loop (state m l)
      level-p zero b h below m = record {
        at = λ e.
            subst (Goes (λ k. loop (more k (state m zero)))) (sym (kept_store m e))
            (record { rest = q; goes = λ k. rw (zero-add k) (sym (ap (λ (f : State → Answer). f (state m k)) own)) });
      }
      level-p (suc l) b h below m =
          let k = low (state m l) in
          subst (λ (f : State → Answer). Pauses f (state m (suc l))) (sym (fun_ext λ s. loop-is s.store s.left))
          (check-p n c (λ i. branch i (round loop) (answer normal)) (state m (suc l))
          (λ i. branch-p i (state m (suc l)) (turn-p m l (below (body (state m l)).state (omega arith))) (answer-p (state m (suc l)))))

      loop-p : (b : ℕ) (s : State) → s.left ≤ b → Pauses loop s
      loop-p zero s h = level-p s.left 0 h (λ t k. absurd (omega arith)) s.store
      loop-p (suc b) s h = level-p s.left (suc b) h (λ t k. loop-p b t (omega arith)) s.store

  -- ---- a call: where its body pauses, its parameters go after the rest of it

  returning-p : (q : Frame) (F : ℕ → Answer) (o : Outcome) (t : State) → (o ≡ spent → Goes F t.store) → (returning q o t).outcome ≡ spent → Goes (λ k. returned q (F k)) (returning q o t).state.store
  unfolding resume
  returning-p q F normal t h e = not-normal e
  returning-p q F spent t h e = let w = h refl in record { rest = leaving q w.rest; goes = λ k. rw (w.goes k) }
  returning-p q F sticks t h e = not_stuck e
  returning-p q F (raised z n) t h e = not-raised e

  entered-p : (f : Proc) (zs : List ℤ) → ((s : State) → Pauses f.run s) → (s : State) → Pauses (entered f zs) s
  unfolding entered
  entered-p f zs h s = record {
    at = λ e.
        let t = state (stored f.frame.base zs s.store) s.left in
        returning-p f.frame (λ k. f.run (more k t)) (f.run t).outcome (f.run t).state (λ d. (h t).at d) e;
  }

  -- ---- the machine

  module _ (hp : (p : ℕ) (s : State) → Pauses (procedure_at (procs_of bs) p).run s) (hs : (p k : ℕ) → Stable k (procedure_at (procs_of bs) p).run)
      (hd : (p b : ℕ) → Falls b (procedure_at (procs_of bs) p).run) where
    abbrev ps : Procs
    ps = procs_of bs

    stays : (a : Act) → Stays (run_act ps a)
    stays a k = run-f k ps (λ p. hs p k) a

    sinks : (a : Act) → Sinks (run_act ps a)
    sinks a s = ((run-d ps hd a s.left).at s (omega arith)).less

    set_p : (a : ℕ) (z : ℤ) (b : Act) → ((s : State) → Pauses (run_act ps b) s) → (s : State) → Pauses (λ t. run_act ps b (set_control a z t)) s
    set_p a z b h s = record { at = λ e. (h (set_control a z s)).at e }

    turns-p : (j a : ℕ) (b : Act) → ((s : State) → Pauses (run_act ps b) s) → (z : ℤ) (s : State) → Pauses (for_rounds j a (run_act ps b) z) s
    unfolding for_rounds resume
    turns-p zero a b h z s = ended-p a s
    turns-p (suc j) a b h z s = step-p (for_from (suc j) a b z) _ (λ t. refl) (λ t. then-p (for_from j a b (suc_ℤ z)) (λ u. run_act ps b (set_control a z u)) _ refl
        (λ k. set-f k a z (stays b k)) t (set_p a z b h t) (λ _. turns-p j a b h (suc_ℤ z) _)) s

    opened-p : (q : Plan) (n a : ℕ) (x : ℤ) (b : Act) → ((s : State) → Pauses (run_act ps b) s) → (s : State) → Pauses (opened q n a x (run_act ps b)) s
    unfolding opened
    opened-p no_round n a x b h s = ended-p a s
    opened-p outside n a x b h s = raising-p _ n s
    opened-p (rounds j) n a x b h s = turns-p j a b h x s

    counting-p : (n a : ℕ) (lo hi x y : ℤ) (b : Act) → ((s : State) → Pauses (run_act ps b) s) → (s : State) → Pauses (count_up n a lo hi x y (run_act ps b)) s
    unfolding count_up
    counting-p n a lo hi x y b h s = opened-p (planned lo hi x y) n a x b h s

    mutual
      unfolding run_act resume

      run-p : (a : Act) (s : State) → Pauses (run_act ps a) s
      run-p (assign_ordinal n p lo hi c) = step-p (statement (assign_ordinal n p lo hi c)) _ (λ t. refl) λ s. after-p n (eval_code c) _ s λ zs. after-p n (place_code p) _ s λ a. keep-p n a lo hi (sole zs) s
      run-p (assign_cell n p c) = step-p (statement (assign_cell n p c)) _ (λ t. refl) λ s. after-p n (eval_code c) _ s λ zs. after-p n (place_code p) _ s λ a. copy-p n a zs s
      run-p (copy_cells n p q k) = step-p (statement (copy_cells n p q k)) _ (λ t. refl) λ s. after-p n (eval_code (load q k)) _ s λ zs. after-p n (place_code p) _ s λ a. copy-p n a zs s
      run-p (sequence n ss) = step-p (statement (sequence n ss)) _ (λ t. refl) λ s. runs-p ss s
      run-p (branch_on n c a b) = step-p (statement (branch_on n c a b)) _ (λ t. refl) λ s. check-p n c _ s λ q. branch-p q s (run-p a s) (run-p b s)
      run-p (while_loop n c a) = step-p (statement (while_loop n c a)) _ (λ t. refl) λ s. loop-p n c (run_act ps a) (sinks a) (while_from n c a) refl (stays a) (λ t. run-p a t) s.left s (omega arith)
      run-p (for_loop n a lo hi x y b) = step-p (statement (for_loop n a lo hi x y b)) _ (λ t. refl) λ s.
          after-p n (eval_code x) _ s λ u. after-p n (eval_code y) _ s λ v. counting-p n a lo hi (sole u) (sole v) b (λ t. run-p b t) s
      run-p (case_of n c cs) = step-p (statement (case_of n c cs)) _ (λ t. refl) λ s. after-p n (eval_code c) _ s λ x. picks-p cs n (sole x) s
      run-p (call_to n p cs) = step-p (statement (call_to n p cs)) _ (λ t. refl) λ s. after-p n (run_arguments (procedure_at ps p).frame.wants cs) _ s λ zs. entered-p (procedure_at ps p) zs (hp p) s
      run-p (raise_with n c) = step-p (statement (raise_with n c)) _ (λ t. refl) λ s. after-p n (eval_code c) _ s λ x. raises-p n (sole x) s
      run-p no_act = λ s. answer-p s

      runs-p : (ss : Acts) (s : State) → Pauses (run_acts ps ss) s
      runs-p stop s = answer-p s
      runs-p (a also ss) s = then-p (statements ss) (run_act ps a) (λ t. run_acts ps ss t) refl (stays a) s (run-p a s) (λ _. runs-p ss _)

      picks-p : (cs : Cases) (n : ℕ) (z : ℤ) (s : State) → Pauses (run_cases ps n z cs) s
      picks-p (else_case a) n z s = run-p a s
      picks-p no_case n z s = raising-p _ n s
      picks-p (one_case ls a cs) n z s = branch-p (matches z ls) s (run-p a s) (picks-p cs n z s)

    -- ---- a body

    caught-p : (h : Acts) (F : ℕ → Answer) (o : Outcome) (t : State) → (o ≡ spent → Goes F t.store) → (Ends o → (k : ℕ) → F k ≡ more_a k (answer o t))
        → (caught o t (run_acts ps h)).outcome ≡ spent → Goes (λ k. handled true (F k) (run_acts ps h)) (caught o t (run_acts ps h)).state.store
    unfolding resume
    caught-p h F normal t hf hs e = not-normal e
    caught-p h F spent t hf hs e = let w = hf refl in record { rest = handled_by w.rest h; goes = λ k. rw (w.goes k) }
    caught-p h F sticks t hf hs e = not_stuck e
    caught-p h F (raised z n) t hf hs e = let w = (runs-p h t).at e in record { rest = w.rest; goes = λ k. rw (hs tt k) (w.goes k) }

    handled-p : (q : Bool) (ss h : Acts) (s : State) → Pauses (λ t. handled q (run_acts ps ss t) (run_acts ps h)) s
    handled-p false ss h s = runs-p ss s
    handled-p true ss h s = record {
      at = λ e.
          let a = run_acts ps ss s in
          caught-p h (λ k. run_acts ps ss (more k s)) a.outcome a.state (λ d. (runs-p ss s).at d) (λ d k. (runs-f k ps (λ p. hs p k) ss).at s d) e;
    }

    pub body-p : (b : BodyCode) (s : State) → Pauses (run_body b ps) s
    unfolding run_body
    body-p b s = handled-p b.handles b.acts b.handler s

-- ---- scripts

abbrev Kept : (State → Answer) → Type 0
Kept f = ((k : ℕ) → Stable k f) × ((b : ℕ) → Falls b f)

elsewhere : (bs cs : List BodyCode) {f : State → Answer} {s : State} → Pauses bs f s → Pauses cs f s
unfolding resume
elsewhere bs cs h = record { at = λ e. let g = h.at e in record { rest = in_body bs g.rest; goes = λ k. g.goes k } }

all-p : (bs : List BodyCode) → ((p : ℕ) (s : State) → Pauses bs (procedure_at (procs_of bs) p).run s) → ((p : ℕ) → Kept (procedure_at (procs_of bs) p).run)
    → (cs : List BodyCode) (s : State) → Pauses [] (run_all cs (procs_of bs)) s
unfolding run_all procs_of
all-p bs hp hk [] s = answer-p [] s
all-p bs hp hk (b ∷ []) s = elsewhere bs [] (body-p bs hp (λ p. (hk p).0) (λ p. (hk p).1) b s)
all-p bs hp hk (b ∷ (c ∷ cs)) s =
    all-p (b ∷ bs)
    (calling-all (λ (f : Proc). (t : State) → Pauses (b ∷ bs) f.run t) (answer-p (b ∷ bs)) (procs_of bs) (proc b.frame (run_body b (procs_of bs)))
    (λ t. elsewhere bs (b ∷ bs) (body-p bs hp (λ p. (hk p).0) (λ p. (hk p).1) b t)) (λ p t. elsewhere bs (b ∷ bs) (hp p t)))
    (calling-all (λ (f : Proc). Kept f.run) ((λ k. answer-f k normal), λ k. answer-d λ _. Spent.normally) (procs_of bs) (proc b.frame (run_body b (procs_of bs)))
    ((λ k. body-f k b (procs_of bs) (λ p. (hk p).0 k)), body-d b (procs_of bs) (λ p. (hk p).1)) hk)
    (c ∷ cs) s

pub program-p : (cs : List BodyCode) (s : State) → Pauses [] (run_all cs []) s
unfolding procs_of
program-p cs s = all-p [] (no-procs (λ (f : Proc). (t : State) → Pauses [] f.run t) (answer-p [])) (no-procs (λ (f : Proc). Kept f.run) ((λ k. answer-f k normal), λ k. answer-d λ _. Spent.normally)) cs s
