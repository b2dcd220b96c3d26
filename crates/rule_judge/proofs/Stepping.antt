-- From what stands before a line to what stands after it.
use Rattle.std.proofs.Common.{Result, Ok, Err}
use mathlib.Core.Path.{◌≡◌, refl, sym, ap, ◌∙◌, subst}
use mathlib.Core.Bool.{Bool, true, false, cond, ◌&&◌}
use mathlib.Core.List.{List, ◌++◌}
use mathlib.Core.Option.{Option, some}
use Prim.Native.Nat.{ℕ, ◌+◌, ◌*◌, ◌≤◌}
use native.Mathlib.Omega.{arith}
use borrow.Author.Tests.{leb-true}
use lib.Dec.{leb}
use Rattle.law.specs.Base as Base
use Rattle.law.specs.Ceilings.{line_bounded}
use Rattle.law.specs.Code.{BodyCode}
use Rattle.law.specs.Environment.{Declared, declare_line}
use Rattle.law_theorems.specs.FormsByDepth.{line_form}
use Rattle.code.specs.LayoutSize.{symbol_size, size_bodies}
use Rattle.law.specs.Lines.{Line}
use Rattle.law.specs.Names.{entry_of}
use Rattle.law.specs.Rules.{keeps_rules}
use Rattle.law.specs.Script.{Entry, new_type, new_var, new_proc, new_main}
use Rattle.rule_stages.specs.Stages.{Staged, wrong, unnamed, unfit, fits}
use Rattle.law.specs.Syntax.{LineForm}
use Rattle.law.specs.Trees.{Tree, Run, nodes, form_of}
use Rattle.law.specs.Verdict.{good, bad, ◌>>=◌, must, Read, has, strictly, judge_line}
use Rattle.law.specs.Words.{Word, worded}
use Rattle.law_theorems.proofs.Inversion.{bind-some, some_inj}
use Rattle.rule_stages.proofs.OnePassLines.{judged_by}
use Rattle.code.proofs.LinesMeasured.{measured-line}
use Rattle.law_theorems.proofs.StatementNumbers.{line-counts}
use Rattle.code.proofs.TextRoom.{room-line, entry-room, line-symbols, bodies-append}
use Rattle.law_theorems.proofs.Weights.{line-weighs, worded-nodes}
use Rattle.rule_faults.specs.Got.{fault_of}
use Rattle.rule_expressions.proofs.Targets.{fits-inv}
use Rattle.rule_known.specs.declared.Known.{Known}
use Rattle.rule_known.specs.declared.Entered.{Entered}
use Rattle.rule_known.specs.Answers.{known_after, ninth_judgement, judgement}
use Rattle.rule_judge.specs.Entering.{last_of, EntryTold}
use Rattle.rule_judge.specs.Judging.{Standing, JudgedBy}
use Rattle.rule_judge.specs.Whole.{line_in, whole_staged}
use Rattle.rule_judge.proofs.Lines.{ninth, line-judged, line-in}
use Rattle.rule_known.proofs.Rows.{fits-nodes, good-nodes}

pub declared-stmts : (k : Declared) (e : Entry) (s n : ℕ) → (declare_line k e s n).stmts ≡ s
unfolding declare_line
declared-stmts k (new_type w d) s n = refl
declared-stmts k (new_var w t) s n = refl
declared-stmts k (new_proc w ps b) s n = refl
declared-stmts k (new_main b) s n = refl

pub declared-count : (k : Declared) (e : Entry) (s n : ℕ) → (declare_line k e s n).nodes ≡ n
unfolding declare_line
declared-count k (new_type w d) s n = refl
declared-count k (new_var w t) s n = refl
declared-count k (new_proc w ps b) s n = refl
declared-count k (new_main b) s n = refl

-- what a line that fits is, and what it takes
record Taken (k : Declared) (t : Tree Run) (o : Option (LineForm × ℕ)) (e : Entry) (cs : List BodyCode) : Type 0 where
  size : symbol_size e + size_bodies cs + 1 ≤ 4 * nodes t
  last : last_of o ≤ k.stmts + nodes t

taken : (k : Declared) (t : Tree Run) (v : Tree Word) → worded t ≡ some v → (e : Entry) (cs : List BodyCode) → whole_staged k (line_in k.stmts t) ≡ fits (e, cs) → Taken k t (line_in k.stmts t) e cs
unfolding whole_staged
taken k t v h e cs q =
    let x = fits-inv (entry_of k.env) (keeps_rules k.env.types) (λ e. Base.◌>>=◌ (strictly k.env e) λ cs. some (e, cs)) (Base.◌>>=◌ (line_in k.stmts t) λ p. some p.0) (e, cs) q in
    bind-some x.2 λ p hp ef. bind-some x.4 λ ds hd ee.
    let a = worded-nodes t v h in
    let f : line_form k.stmts v ≡ some p = sym (line-in k.stmts t v h) ∙ hp in
    let b = line-weighs k.stmts v p f in
    let c = entry-room k.env p.0 x.1 ds (ap (entry_of k.env) (some_inj ef) ∙ x.3) hd in
    let m = (line-counts k.stmts v p f).most in
    let y : (x.1, ds) ≡ (e, cs) = some_inj ee in
    record {
      size = subst (λ (z : Entry × List BodyCode). symbol_size z.0 + size_bodies z.1 + 1 ≤ 4 * nodes t) y (let z : symbol_size x.1 + size_bodies ds + 1 ≤ 4 * nodes t = omega arith in z);
      last = rw hp (omega arith);
    }

-- a line without a fault and within its bounds
module _ (s l ts : List ℕ) (kn : Known) (r : Read) (bs : List ℕ) (S : Standing s l ts kn r bs) (t : Tree Run) (v : Tree Word) (h5 : worded t ≡ some v) (ln : Line) (h4 : form_of ln ≡ some t) (h6 : r.known.ended ≡ false)
    (g : Entered) (l' ts' : List ℕ) (T : EntryTold s l' ts' kn.state.top r (line_in r.known.stmts t) g) where
  abbrev k : Declared
  k = r.known

  abbrev o : Option (LineForm × ℕ)
  o = line_in r.known.stmts t

  judged : judge_line strictly r.known ln ≡ judged_by (whole_staged r.known (line_in r.known.stmts t)) (λ p. ninth r.known t (last_of (line_in r.known.stmts t)) p.0 p.1)
  judged = line-judged r.known t ln h4 v h5 h6

  stands_after : (e : Entry) (cs : List BodyCode) → whole_staged r.known (line_in r.known.stmts t) ≡ fits (e, cs) → line_bounded r.known e ≡ true → r.known.nodes + nodes t ≤ 4096
      → judge_line strictly r.known ln ≡ good (declare_line r.known e (last_of (line_in r.known.stmts t)) (r.known.nodes + nodes t), cs)
      → (places : List ℕ) × Standing s l' ts' (known_after kn g (nodes t)) (has (declare_line r.known e (last_of (line_in r.known.stmts t)) (r.known.nodes + nodes t)) (r.codes ++ cs)) places
  stands_after e cs q b n h =
      let X = taken r.known t v h5 e cs q in
      let R = S.room in
      let w = R.within in
      let c : kn.state.top + symbol_size e + size_bodies cs ≤ 16384 = let u = S.top-is in let x = X.size in omega arith in
      let N = r.known.nodes + nodes t in
      let M = measured-line r.known r.codes ln (declare_line r.known e (last_of (line_in r.known.stmts t)) N, cs) h S.measured in
      let E = T.stands e cs q b c N M in (
        E.places,
        record {
          holds = E.holds;
          stmts-are = E.stmts-are ∙ sym (declared-stmts r.known e (last_of (line_in r.known.stmts t)) N);
          nodes-are = rw S.nodes-are (good-nodes r.known.nodes (nodes t) n) ∙ sym (declared-count r.known e (last_of (line_in r.known.stmts t)) N);
          ended_is = E.ended_is;
          measured = M;
          room = room-line R ln (declare_line r.known e (last_of (line_in r.known.stmts t)) N, cs) h;
          top-is = E.top-is ∙ (let a = line-symbols r.known e (last_of (line_in r.known.stmts t)) N R.two in let d = bodies-append r.codes cs in let u = S.top-is in omega arith);
          bodies = E.bodies;
          main-is = E.main-is;
        },
      )

  pub line-answer : (j : Result Known ℕ) → j ≡ judgement kn g (nodes t) → JudgedBy s l' ts' r (judge_line strictly r.known ln) j
  unfolding judgement ninth_judgement judged_by must ◌>>=◌
  line-answer j m = rw m (go (whole_staged r.known (line_in r.known.stmts t)) refl)
    where
      failing : (n : ℕ) (f : ℕ) → judge_line strictly r.known ln ≡ bad n → f ≡ n → 1 ≤ n → JudgedBy s l' ts' r (judge_line strictly r.known ln) (Err f)
      failing n f e h i = rw (e, h) (refl, i)

      row-9 : (e : Entry) (cs : List BodyCode) → whole_staged r.known (line_in r.known.stmts t) ≡ fits (e, cs) → (b c : Bool) → line_bounded r.known e ≡ b → leb (r.known.nodes + nodes t) 4096 ≡ c
          → judge_line strictly r.known ln ≡ (must 9 (b && c) >>= λ _. good (declare_line r.known e (last_of (line_in r.known.stmts t)) (r.known.nodes + nodes t), cs))
          → JudgedBy s l' ts' r (judge_line strictly r.known ln) (cond b (cond c (Ok (known_after kn g (nodes t))) (Err 9)) (Err 9))
      row-9 e cs q true true hb hc h = let z = stands_after e cs q hb (leb-true (r.known.nodes + nodes t) 4096 hc) h in rw h (known_after kn g (nodes t), refl, z.0, z.1)
      row-9 e cs q true false hb hc h = failing 9 9 h refl (omega arith)
      row-9 e cs q false c hb hc h = failing 9 9 h refl (omega arith)

      go : (W : Staged (Entry × List BodyCode)) → whole_staged r.known (line_in r.known.stmts t) ≡ W → JudgedBy s l' ts' r (judge_line strictly r.known ln) (judgement kn g (nodes t))
      go wrong e = rw (T.fault-is ∙ ap fault_of e) (failing 6 6 (judged ∙ rw e refl) refl (omega arith))
      go unnamed e = rw (T.fault-is ∙ ap fault_of e) (failing 7 7 (judged ∙ rw e refl) refl (omega arith))
      go unfit e = rw (T.fault-is ∙ ap fault_of e) (failing 8 8 (judged ∙ rw e refl) refl (omega arith))
      go (fits (e, cs)) q =
          rw (T.fault-is ∙ ap fault_of q, T.within-is e cs q, fits-nodes kn.nodes (nodes t) ∙ ap (λ (m : ℕ). leb (m + nodes t) 4096) S.nodes-are)
          (row-9 e cs q (line_bounded r.known e) (leb (r.known.nodes + nodes t) 4096) refl refl (judged ∙ rw q refl))
