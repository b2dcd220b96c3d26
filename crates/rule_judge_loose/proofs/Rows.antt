-- A line judged with the kinds of bodies left out: rows 6 to 9 from the answer for its parts.
use Rattle.std.proofs.Common.{Result, Ok, Err}
use mathlib.Core.Path.{◌≡◌, refl, sym, ap, ◌∙◌}
use mathlib.Core.Bool.{Bool, true, false, cond, ◌&&◌}
use mathlib.Core.List.{List, [], ◌∷◌, ◌++◌}
use mathlib.Core.Option.{Option, none, some}
use Prim.Native.Nat.{ℕ, suc, ◌+◌, ◌*◌, ◌≤◌}
use native.Mathlib.Omega.{arith}
use borrow.Author.Tests.{leb-true}
use lib.Dec.{leb}
use lib.ListN.{length, length-append}
use Rattle.law.specs.Base as Base
use Rattle.law.specs.Ceilings.{line_bounded}
use Rattle.law.specs.Code.{BodyCode, no_frame}
use Rattle.law.specs.Environment.{Declared, declare_line, frame_of, with_body, within}
use Rattle.law_theorems.specs.FormsByDepth.{line_form}
use Rattle.law_theorems.proofs.FormsAgree.{line_same}
use Rattle.code.specs.LayoutSize.{symbol_size, size_bodies}
use Rattle.law.specs.Lines.{Line}
use Rattle.law.specs.Names.{entry_of}
use Rattle.law.specs.Rules.{keeps_rules}
use Rattle.law.specs.Script.{Entry, new_type, new_var, new_proc, new_main}
use Rattle.rule_stages.specs.Stages.{Staged, wrong, unnamed, unfit, fits, ruled, named, staged}
use Rattle.law.specs.Syntax.{LineForm, TypeName, type_line, var_line, proc_line, main_line}
use Rattle.law.specs.Trees.{Tree, Run, nodes, form_of}
use Rattle.law.specs.Verdict.{Judged, good, bad, ◌>>=◌, or_bad, must, loosely, strictly, judge_line}
use Rattle.law.specs.Words.{Word, worded}
use Rattle.law_theorems.proofs.Inversion.{bind-some, given-some, some_inj, and-true}
use Rattle.law_theorems.proofs.LinesKeep.{line-keeps, proc-bounds}
use Rattle.law_theorems.specs.LinesKeep.{Keeps}
use Rattle.rule_stages.proofs.OnePassLines.{judged_by}
use Rattle.law_theorems.proofs.StatementNumbers.{line-counts}
use Rattle.code.proofs.TextRoom.{entry-room, line-types}
use Rattle.law_theorems.proofs.TextsAgree.{stage-on, line-good}
use Rattle.law_theorems.proofs.TypeSizes.{small-declared}
use Rattle.law_theorems.specs.TypeSizes.{SmallTypes}
use Rattle.law_theorems.proofs.Weights.{line-weighs, weight_l, weight_p, worded-nodes}
use Rattle.rule_faults.specs.Got.{fault_of}
use Rattle.rule_expressions.proofs.Joining.{wrong-fits, unnamed-fits, unfit-fits, fits-inj}
use Rattle.rule_statements.specs.Walks.{bare}
use Rattle.rule_declarations.specs.Lines.{entry_staged}
use Rattle.rule_known.specs.declared.Known.{Known}
use Rattle.rule_known.specs.declared.Entered.{Entered}
use Rattle.rule_known.specs.Answers.{known_after, ninth_judgement, judgement}
use Rattle.rule_judge.specs.Entering.{last_of}
use Rattle.rule_judge.specs.Whole.{line_in}
use Rattle.rule_judge.proofs.Declaring.{entry-there}
use Rattle.rule_judge.proofs.Lines.{line-in, must-open}
use Rattle.rule_known.proofs.Rows.{fits-nodes, good-nodes}
use Rattle.rule_judge.proofs.Stepping.{declared-stmts, declared-count}
use Rattle.rule_judge_loose.specs.Standing.{LooseStanding}
use Rattle.rule_judge_loose.specs.Entering.{loose_size, LooseTold}
use Rattle.rule_judge_loose.specs.Judging.{LooselyBy}

-- ---- rows 6 to 9 by the stages

-- row 9 and what is known then
abbrev pub ninth : Declared → Tree Run → ℕ → Entry → Judged (Declared × List BodyCode)
ninth k t s e = must 9 (line_bounded k e && leb (k.nodes + nodes t) 4096) >>= λ _. good (declare_line k e s (k.nodes + nodes t), [])

module _ (k : Declared) (t : Tree Run) where
  abbrev after : LineForm × ℕ → Judged (Declared × List BodyCode)
  after f = or_bad 7 (entry_of k.env f.0) >>= λ e. must 8 (keeps_rules k.env.types e) >>= λ _. or_bad 8 (loosely k.env e) >>= λ cs. must 9 (line_bounded k e && leb (k.nodes + nodes t) 4096) >>= λ _. good (declare_line k e f.1 (k.nodes + nodes t), cs)

  by_form : (o : Option (LineForm × ℕ)) → (or_bad 6 o >>= after) ≡ judged_by (entry_staged k (bare o)) (λ e. ninth k t (last_of o) e)
  unfolding entry_staged staged named ruled judged_by or_bad must loosely ◌>>=◌ Base.◌>>=◌
  by_form none = refl
  by_form (some f) = go (entry_of k.env f.0)
    where
      rows : (e : Entry) (b : Bool) → (must 8 b >>= λ _. or_bad 8 (loosely k.env e) >>= λ cs. must 9 (line_bounded k e && leb (k.nodes + nodes t) 4096) >>= λ _. good (declare_line k e f.1 (k.nodes + nodes t), cs))
          ≡ judged_by {A = Entry} (ruled b (some e)) (λ e. ninth k t f.1 e)
      rows e false = refl
      rows e true = refl

      go : (u : Option Entry) → (or_bad 7 u >>= λ e. must 8 (keeps_rules k.env.types e) >>= λ _. or_bad 8 (loosely k.env e) >>= λ cs. must 9 (line_bounded k e && leb (k.nodes + nodes t) 4096) >>= λ _. good (declare_line k e f.1 (k.nodes + nodes t), cs))
          ≡ judged_by {A = Entry} (named u (keeps_rules k.env.types) some) (λ e. ninth k t f.1 e)
      go none = refl
      go (some e) = rows e (keeps_rules k.env.types e)

  pub line-judged : (l : Line) → form_of l ≡ some t → (v : Tree Word) → worded t ≡ some v → k.ended ≡ false
      → judge_line loosely k l ≡ judged_by (entry_staged k (bare (line_in k.stmts t))) (λ e. ninth k t (last_of (line_in k.stmts t)) e)
  unfolding judge_line
  line-judged l h4 v h5 h6 = rw (h4, stage-on, h5, stage-on, line_same l t v h4 h5 k.stmts) (must-open k.ended h6 (or_bad 6 (line_form k.stmts v) >>= after) ∙ rw (← line-in k.stmts t v h5) (by_form (line_in k.stmts t)))

-- ---- what a line that fits takes

weigh-room : (ps : List (Base.Name × TypeName)) → 3 * length ps ≤ 4 * weight_p ps
unfolding weight_p
weigh-room [] = omega arith
weigh-room (p ∷ ps) = omega arith

each-length : {A B : Type 0} (f : A → Option B) (xs : List A) {ys : List B} → Base.each f xs ≡ some ys → length ys ≡ length xs
unfolding Base.each
each-length f [] h = rw (← some_inj h) refl
each-length f (x ∷ xs) h = bind-some h λ y hy h. bind-some h λ ys hys h. rw (← some_inj h) (ap suc (each-length f xs hys))

loose-room : (k : Declared) (f : LineForm) (e : Entry) → entry_of k.env f ≡ some e → loose_size e + 1 ≤ 4 * weight_l f
unfolding entry_of strictly symbol_size size_bodies weight_l loose_size
loose-room k (type_line w t) e h = bind-some h λ d hd i. let z = entry-room k.env (type_line w t) (new_type w d) [] (h ∙ sym i ∙ i ∙ ap some (sym (some_inj i))) refl in rw (← some_inj i) (omega arith)
loose-room k (var_line w t) e h = bind-some h λ n _ i. given-some i λ _ j. rw (← j) (omega arith)
loose-room k (proc_line w ps b) e h = bind-some h λ qs hqs i. bind-some i λ x hx i. given-some i λ _ j. rw (← j) (let m = each-length _ ps hqs in let n = weigh-room ps in omega arith)
loose-room k (main_line b) e h = bind-some h λ x hx i. rw (← some_inj i) (omega arith)

record Taken (k : Declared) (t : Tree Run) (o : Option (LineForm × ℕ)) (e : Entry) : Type 0 where
  size : loose_size e + 1 ≤ 4 * nodes t
  last : last_of o ≤ k.stmts + nodes t

taken : (k : Declared) (t : Tree Run) (v : Tree Word) → worded t ≡ some v → (e : Entry) → entry_staged k (bare (line_in k.stmts t)) ≡ fits e → Taken k t (line_in k.stmts t) e
taken k t v h e q =
    let x = entry-there k (bare (line_in k.stmts t)) e q in
    bind-some x.1 λ p hp ef.
    let a = worded-nodes t v h in
    let f : line_form k.stmts v ≡ some p = sym (line-in k.stmts t v h) ∙ hp in
    let b = line-weighs k.stmts v p f in
    let c = loose-room k p.0 e (ap (entry_of k.env) (some_inj ef) ∙ x.2) in
    let m = (line-counts k.stmts v p f).most in
    record { size = omega arith; last = rw hp (omega arith) }

-- bodies within their ceiling
record FewBodies (k : Declared) : Type 0 where
  going : k.ended ≡ false → length k.bodies ≤ 32
  most : length k.bodies ≤ 33
  last : k.ended ≡ true → 1 ≤ length k.bodies

few-bodies : (k : Declared) (e : Entry) (s n : ℕ) → length k.bodies ≤ 32 → line_bounded k e ≡ true → FewBodies (declare_line k e s n)
unfolding declare_line line_bounded
few-bodies k (new_type w d) s n h b = record { going = λ _. h; most = omega arith; last = λ i. absurd (let z : ◌≡◌ {A = ℕ} 0 1 = cc in omega arith) }
few-bodies k (new_var w t) s n h b = record { going = λ _. h; most = omega arith; last = λ i. absurd (let z : ◌≡◌ {A = ℕ} 0 1 = cc in omega arith) }
few-bodies k (new_proc w ps x) s n h b =
    let e : length (k.bodies ++ with_body (within k.env ps) (frame_of k.env ps) x ∷ []) ≡ length k.bodies + 1 = length-append k.bodies (with_body (within k.env ps) (frame_of k.env ps) x ∷ []) in
    let c = (proc-bounds k ps x w b).bodies in
    record { going = λ _. omega (arith, e); most = omega (arith, e); last = λ i. omega (arith, e) }
few-bodies k (new_main x) s n h b =
    let e : length (k.bodies ++ with_body k.env no_frame x ∷ []) ≡ length k.bodies + 1 = length-append k.bodies (with_body k.env no_frame x ∷ []) in
    record { going = λ i. absurd (let z : ◌≡◌ {A = ℕ} 0 1 = cc in omega arith); most = omega (arith, e); last = λ i. omega (arith, e) }

-- the types within theirs
line_small : (k : Declared) (e : Entry) (s n : ℕ) → keeps_rules k.env.types e ≡ true → line_bounded k e ≡ true → SmallTypes k.env.types → SmallTypes (declare_line k e s n).env.types
unfolding declare_line line_bounded keeps_rules
line_small k (new_type w d) s n r b h = small-declared k.env.types d r (and-true (leb (suc k.type_lines) 64) _ b).1 h
line_small k (new_var w t) s n r b h = h
line_small k (new_proc w ps x) s n r b h = h
line_small k (new_main x) s n r b h = h

entry_kept : (k : Declared) (o : Option LineForm) (e : Entry) → entry_staged k o ≡ fits e → keeps_rules k.env.types e ≡ true
unfolding entry_staged staged named ruled
entry_kept k none e h = absurd (wrong-fits h)
entry_kept k (some f) e h = go (entry_of k.env f) h
  where
    rows : (x : Entry) (b : Bool) → keeps_rules k.env.types x ≡ b → ruled b (some x) ≡ fits e → keeps_rules k.env.types e ≡ true
    rows x false i g = absurd (unfit-fits g)
    rows x true i g = rw (fits-inj g) at i

    go : (u : Option Entry) → named u (keeps_rules k.env.types) some ≡ fits e → keeps_rules k.env.types e ≡ true
    go none g = absurd (unnamed-fits g)
    go (some x) g = rows x (keeps_rules k.env.types x) refl g

-- ---- the line

module _ (s l ts tb : List ℕ) (kn : Known) (k : Declared) (S : LooseStanding s l ts tb kn k) (t : Tree Run) (v : Tree Word) (h5 : worded t ≡ some v) (ln : Line) (h4 : form_of ln ≡ some t) (h6 : k.ended ≡ false)
    (g : Entered) (l' ts' tb' : List ℕ) (long : length tb' ≡ length tb) (T : LooseTold s l' ts' tb' kn.state.top k (line_in k.stmts t) g) where
  judged : judge_line loosely k ln ≡ judged_by (entry_staged k (bare (line_in k.stmts t))) (λ e. ninth k t (last_of (line_in k.stmts t)) e)
  judged = line-judged k t ln h4 v h5 h6

  keeps-after : (d : Declared) → judge_line loosely k ln ≡ good (d, []) → Keeps d
  keeps-after d h = line-good loosely k ln (d, []) h λ f e s n he hk _ hb hg _. rw (← hg) (line-keeps k S.holds.keeps f e he hk hb s n)

  stands_after : (e : Entry) → entry_staged k (bare (line_in k.stmts t)) ≡ fits e → line_bounded k e ≡ true → k.nodes + nodes t ≤ 4096
      → judge_line loosely k ln ≡ good (declare_line k e (last_of (line_in k.stmts t)) (k.nodes + nodes t), [])
      → LooseStanding s l' ts' tb' (known_after kn g (nodes t)) (declare_line k e (last_of (line_in k.stmts t)) (k.nodes + nodes t))
  stands_after e q b n h =
      let X = taken k t v h5 e q in
      let c : kn.state.top + loose_size e ≤ 16384 = omega (arith, S.room, X.size, n) in
      let E = T.stands e q b c (omega (arith, X.last, S.few-stmts, n)) (k.nodes + nodes t) (keeps-after _ h) in
      let F = few-bodies k e (last_of (line_in k.stmts t)) (k.nodes + nodes t) (S.few-procs h6) b in
      let d = declared-stmts k e (last_of (line_in k.stmts t)) (k.nodes + nodes t) in
      let m = declared-count k e (last_of (line_in k.stmts t)) (k.nodes + nodes t) in
      record {
        places = E.places;
        holds = E.holds;
        stmts-are = E.stmts-are ∙ sym d;
        nodes-are = rw S.nodes-are (good-nodes k.nodes (nodes t) n) ∙ sym m;
        ended_is = E.ended_is;
        two = omega (arith, S.two, line-types k e (last_of (line_in k.stmts t)) (k.nodes + nodes t));
        small = line_small k e (last_of (line_in k.stmts t)) (k.nodes + nodes t) (entry_kept k (bare (line_in k.stmts t)) e q) b S.small;
        few-stmts = omega (arith, d, m, X.last, S.few-stmts);
        few-nodes = omega (arith, m);
        room = omega (arith, E.room, m, X.size, S.room);
        few-procs = F.going;
        few-bodies = F.most;
        main-there = F.last;
        long-table = omega (arith, long, S.long-table);
        bodies = E.bodies;
      }

  pub line-answer : (j : Result Known ℕ) → j ≡ judgement kn g (nodes t) → LooselyBy s l' ts' tb' (judge_line loosely k ln) j
  unfolding judgement ninth_judgement judged_by must ◌>>=◌
  line-answer j m = rw m (go (entry_staged k (bare (line_in k.stmts t))) refl)
    where
      failing : (n : ℕ) (f : ℕ) → judge_line loosely k ln ≡ bad n → f ≡ n → 1 ≤ n → LooselyBy s l' ts' tb' (judge_line loosely k ln) (Err f)
      failing n f e h i = rw (e, h) (refl, i)

      row-9 : (e : Entry) → entry_staged k (bare (line_in k.stmts t)) ≡ fits e → (b c : Bool) → line_bounded k e ≡ b → leb (k.nodes + nodes t) 4096 ≡ c
          → judge_line loosely k ln ≡ (must 9 (b && c) >>= λ _. good (declare_line k e (last_of (line_in k.stmts t)) (k.nodes + nodes t), []))
          → LooselyBy s l' ts' tb' (judge_line loosely k ln) (cond b (cond c (Ok (known_after kn g (nodes t))) (Err 9)) (Err 9))
      row-9 e q true true hb hc h = let z = stands_after e q hb (leb-true (k.nodes + nodes t) 4096 hc) h in rw h (known_after kn g (nodes t), refl, z)
      row-9 e q true false hb hc h = failing 9 9 h refl (omega arith)
      row-9 e q false c hb hc h = failing 9 9 h refl (omega arith)

      go : (W : Staged Entry) → entry_staged k (bare (line_in k.stmts t)) ≡ W → LooselyBy s l' ts' tb' (judge_line loosely k ln) (judgement kn g (nodes t))
      go wrong e = rw (T.fault-is ∙ ap fault_of e) (failing 6 6 (judged ∙ rw e refl) refl (omega arith))
      go unnamed e = rw (T.fault-is ∙ ap fault_of e) (failing 7 7 (judged ∙ rw e refl) refl (omega arith))
      go unfit e = rw (T.fault-is ∙ ap fault_of e) (failing 8 8 (judged ∙ rw e refl) refl (omega arith))
      go (fits e) q =
          rw (T.fault-is ∙ ap fault_of q, T.within-is e q, fits-nodes kn.nodes (nodes t) ∙ ap (λ (m : ℕ). leb (m + nodes t) 4096) S.nodes-are)
          (row-9 e q (line_bounded k e) (leb (k.nodes + nodes t) 4096) refl refl (judged ∙ rw q refl))
