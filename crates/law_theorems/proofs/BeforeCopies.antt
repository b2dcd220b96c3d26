-- Document 02, Point 3: "outcome, steps and store stay the same for every script, store and budget". Before it, an array or a record was assigned by the
-- act of a set: its expression was worked out and all its cells were stored. The code as it was then, and that its reports are those of now. It goes
-- with Point 5.
use mathlib.Core.Path.{◌≡◌, refl, sym, ap, ◌∙◌, fun_ext}
use mathlib.Core.Bool.{Bool, true, false, cond}
use mathlib.Core.List.{List, [], ◌∷◌, ◌++◌, map}
use mathlib.Core.Option.{Option, none, some}
use Prim.Native.Nat.{ℕ}
use lib.IntN.{ℤ}
use Rattle.law.specs.Base.{◌>>=◌}
use Rattle.law.specs.Chair.{eval_code, run_act, run_acts, run_cases}
use Rattle.law.specs.Code.{Act, Acts, BodyCode, Cases, Code, Place, ◌also◌, assign_cell, assign_ordinal, branch_on, calculate, calculate1, call_to, case_of, copy_cells, else_case, for_loop, last_number, literal, load, make_set, no_act, no_case, one_case, raise_with, sequence, short_cut, stop, while_loop}
use Rattle.law.specs.Elaborate.{Located, assigning, copying, elab_stmt, elab_target, expects}
use Rattle.law.specs.Machine.{Procs, proc, sole, step, with_result}
use Rattle.law.specs.Script as X
use Rattle.law.specs.Types.{Types, Vars, host_of, info_at, ordinal?, set?}
use Rattle.law.specs.Whole.{Report, on_store, run_all, run_body, run_of, unless, verdict_of}

-- ---- the code as it was

unfoldable mutual
  pub was_act : Act → Act
  was_act (assign_ordinal n p lo hi c) = assign_ordinal n p lo hi c
  was_act (assign_cell n p c) = assign_cell n p c
  was_act (copy_cells n p q k) = assign_cell n p (load q k)
  was_act (sequence n bs) = sequence n (were_acts bs)
  was_act (branch_on n c a b) = branch_on n c (was_act a) (was_act b)
  was_act (while_loop n c a) = while_loop n c (was_act a)
  was_act (for_loop n i lo hi x y a) = for_loop n i lo hi x y (was_act a)
  was_act (case_of n c bs) = case_of n c (were_cases bs)
  was_act (call_to n p cs) = call_to n p cs
  was_act (raise_with n c) = raise_with n c
  was_act no_act = no_act

  pub were_acts : Acts → Acts
  were_acts stop = stop
  were_acts (a also bs) = was_act a also were_acts bs

  pub were_cases : Cases → Cases
  were_cases (else_case a) = else_case (was_act a)
  were_cases no_case = no_case
  were_cases (one_case ls a bs) = one_case ls (was_act a) (were_cases bs)

unfoldable pub was_body : BodyCode → BodyCode
was_body b = record { frame = b.frame; acts = were_acts b.acts; handles = b.handles; handler = were_acts b.handler }

-- an assignment as it was elaborated
copying-was : (n : ℕ) (p : Place) (c : Code) → was_act (copying n p c) ≡ assign_cell n p c
unfolding was_act copying
copying-was n p (literal z) = refl
copying-was n p (load q k) = refl
copying-was n p last_number = refl
copying-was n p (make_set lo hi cs) = refl
copying-was n p (calculate o a b) = refl
copying-was n p (short_cut q a b) = refl
copying-was n p (calculate1 o a) = refl

module _ (Γ : Types) (Δ : Vars) where
  abbrev then-assigning : ℕ → Located → Code → Act
  then-assigning n w c = cond (ordinal? Γ w.type) (assign_ordinal n w.place (info_at Γ w.type).low (info_at Γ w.type).high c) (assign_cell n w.place c)

  assigning-was : (n : ℕ) (w : Located) (c : Code) → was_act (assigning Γ Δ n w c) ≡ then-assigning n w c
  unfolding was_act
  assigning-was n w c = go (ordinal? Γ w.type) (set? Γ w.type)
    where
      go : (b s : Bool) → was_act (cond b (assign_ordinal n w.place (info_at Γ w.type).low (info_at Γ w.type).high c) (cond s (assign_cell n w.place c) (copying n w.place c)))
          ≡ cond b (assign_ordinal n w.place (info_at Γ w.type).low (info_at Γ w.type).high c) (assign_cell n w.place c)
      go true s = refl
      go false true = refl
      go false false = copying-was n w.place c

  pub assign-was : (n : ℕ) (g : X.Target) (e : X.Expr)
      → (elab_stmt Γ Δ (X.assign n g e) >>= λ a. some (was_act a)) ≡ (elab_target Γ Δ g >>= λ w. expects Γ Δ (host_of Γ w.type) e >>= λ c. some (then-assigning n w c))
  unfolding elab_stmt ◌>>=◌
  assign-was n g e = go (elab_target Γ Δ g)
    where
      then : (w : Located) (o : Option Code) → ((o >>= λ c. some (assigning Γ Δ n w c)) >>= λ a. some (was_act a)) ≡ (o >>= λ c. some (then-assigning n w c))
      then w none = refl
      then w (some c) = ap some (assigning-was n w c)

      go : (o : Option Located) → ((o >>= λ w. expects Γ Δ (host_of Γ w.type) e >>= λ c. some (assigning Γ Δ n w c)) >>= λ a. some (was_act a))
          ≡ (o >>= λ w. expects Γ Δ (host_of Γ w.type) e >>= λ c. some (then-assigning n w c))
      go none = refl
      go (some w) = then w (expects Γ Δ (host_of Γ w.type) e)

-- ---- it runs as that of now

module _ (ps : Procs) where
  mutual
    unfolding run_act was_act

    act-was : (a : Act) → run_act ps (was_act a) ≡ run_act ps a
    act-was (assign_ordinal n p lo hi c) = refl
    act-was (assign_cell n p c) = refl
    act-was (copy_cells n p q k) = refl
    act-was (sequence n bs) = fun_ext λ s. rw (acts-were bs)
    act-was (branch_on n c a b) = fun_ext λ s. rw (act-was a, act-was b)
    act-was (while_loop n c a) = fun_ext λ s. rw (act-was a)
    act-was (for_loop n i lo hi x y a) = fun_ext λ s. rw (act-was a)
    act-was (case_of n c bs) = fun_ext λ s. ap (step s) (fun_ext λ s'. ap (with_result n s' (eval_code c s'.store)) (fun_ext λ x. rw (cases-were n (sole x) bs)))
    act-was (call_to n p cs) = refl
    act-was (raise_with n c) = refl
    act-was no_act = refl

    acts-were : (bs : Acts) → run_acts ps (were_acts bs) ≡ run_acts ps bs
    acts-were stop = refl
    acts-were (a also bs) = fun_ext λ s. rw (act-was a, acts-were bs)

    cases-were : (n : ℕ) (z : ℤ) (bs : Cases) → run_cases ps n z (were_cases bs) ≡ run_cases ps n z bs
    cases-were n z (else_case a) = fun_ext λ s. rw (act-was a)
    cases-were n z no_case = refl
    cases-were n z (one_case ls a bs) = fun_ext λ s. rw (act-was a, cases-were n z bs)

body-was : (b : BodyCode) (ps : Procs) → run_body (was_body b) ps ≡ run_body b ps
unfolding run_body was_body
body-was b ps = fun_ext λ s. rw (acts-were ps b.acts, acts-were ps b.handler)

all-were : (bs : List BodyCode) (ps : Procs) → run_all (map was_body bs) ps ≡ run_all bs ps
unfolding run_all was_body
all-were [] ps = refl
all-were (b ∷ []) ps = body-was b ps
all-were (b ∷ (c ∷ bs)) ps = ap (λ f. run_all (map was_body (c ∷ bs)) (ps ++ (proc b.frame f ∷ []))) (body-was b ps) ∙ all-were (c ∷ bs) (ps ++ (proc b.frame (run_body b ps) ∷ []))

-- the report of every text, with every store, budget and working list
pub report-before : List ℕ → ℕ → List ℤ → List ℕ → ℕ → Report
report-before text work vs ms budget = unless (verdict_of text work) vs ms λ r. on_store r.known (run_all (map was_body r.codes) []) vs ms budget

pub same-reports : (text : List ℕ) (work : ℕ) (vs : List ℤ) (ms : List ℕ) (budget : ℕ) → run_of text work vs ms budget ≡ report-before text work vs ms budget
unfolding run_of report-before
same-reports text work vs ms budget = ap (unless (verdict_of text work) vs ms) (fun_ext λ r. ap (λ f. on_store r.known f vs ms budget) (sym (all-were r.codes [])))
