-- From a line at an offset, by its form and head word, to its judgement.
use Rattle.std.proofs.Common.{Result, Ok, Err}
use mathlib.Core.Path.{◌≡◌, refl, sym, ap, ◌∙◌, subst}
use mathlib.Core.Bool.{Bool, true, false, false≢true}
use mathlib.Core.List.{List, [], ◌∷◌}
use mathlib.Core.Option.{Option, none, some}
use Prim.Native.Nat.{ℕ, ◌+◌, ◌*◌, ◌%◌}
use native.Mathlib.Omega.{arith}
use lib.ListN.{drop, length}
use Rattle.leaf_words.specs.declared.words.Word as Kind
use Rattle.leaf_words.specs.Words.{word_of}
use Rattle.law.specs.Base.{◌>>=◌}
use Rattle.law.specs.Environment.{Declared}
use Rattle.law.specs.Forms.{is_type, is_var, is_proc, is_main}
use Rattle.code.specs.Layout.{lay}
use Rattle.law.specs.Lines.{Line}
use Rattle.rule_stages.specs.Stages.{staged}
use Rattle.law.specs.Trees.{form, Trees, end, ◌then◌, Run, nodes, first, later, before, word_at}
use Rattle.law_theorems.specs.Readings.{stack_at}
use Rattle.law.specs.Verdict.{bad, loosely, judge_line}
use Rattle.law.specs.Words.{worded}
use Rattle.rule_stages.proofs.OnePassLines.{judged_by}
use Rattle.text_lines.specs.Passes.{line_at, balanced_from}
use Rattle.text_words.specs.Passes.{known_all, nodes_all}
use Rattle.text_lines.proofs.Ties.{formed, unformed}
use Rattle.text_words.proofs.Ties.{worded-some, worded-none, line_known, line-nodes as tie-nodes}
use Rattle.table_names.specs.Keys.{keyed}
use Rattle.table_scope.specs.Scene.{meaning_here}
use Rattle.rule_faults.specs.declared.Fault.{Fault}
use Rattle.rule_faults.specs.declared.Fault.TheVariants.{Clear, Kind, Name as Unnamed, Form}
use Rattle.text_parts.specs.declared.Part.{Part}
use Rattle.text_parts.specs.declared.Part.TheVariants as part
use Rattle.rule_faults.specs.Got.{is_form, lowest}
use Rattle.text_parts.specs.Parts.{Stands}
use Rattle.table_list.specs.Laid.{Laid}
use Rattle.text_heads.specs.declared.LineHead.{LineHead}
use Rattle.text_heads.specs.declared.LineHead.TheVariants as LH
use Rattle.text_heads.specs.Heads.{line_head_of, line_head_meant}
use Rattle.rule_declarations.specs.declared.Lined.{Lined}
use Rattle.rule_declarations.specs.declared.FreeName.{FreeName}
use Rattle.std.specs.Prelude.{Option as Maybe, Some, None}
use Rattle.rule_declarations.specs.Lines.{line_of, entry_staged, GivesLine}
use Rattle.rule_declarations.specs.Names.{GivesName, new_fault}
use Rattle.rule_known.specs.declared.Known.{Known}
use Rattle.rule_known.specs.declared.Entered.{Entered}
use Rattle.rule_known.specs.Answers.{judgement, declared_entry}
use Rattle.rule_judge.specs.Answers.{failed_entry, proc_numbers}
use Rattle.rule_parameters.specs.Framing.{Opens, opened_main, proc_fits, proc_state}
use Rattle.rule_parameters.specs.Listing.{GivesList}
use Rattle.rule_parameters.specs.declared.framing.Opened.{Opened}
use Rattle.rule_parameters.specs.declared.listing.Listed.{Listed}
use Rattle.rule_judge.specs.Forms.{LineIs}
use Rattle.rule_judge.specs.Whole.{line_in, head_in}
use Rattle.rule_judge.proofs.Bodies.{proc-shape}
use Rattle.text_skips.proofs.Counts.{nodes-short}
use Rattle.rule_judge.proofs.Declaring.{some_first, type-fixed, var-fixed}
use Rattle.rule_judge.proofs.Dispatch.{less-nodes, line-nodes}
use Rattle.rule_judge.proofs.Lines.{line-headed, line-empty, line-headless}
use Rattle.rule_judge.proofs.Opening.{fourth, fifth, sixth, no-leaf, no-shut}
use Rattle.rule_judge_loose.specs.declared.easing.Eased.{Eased}
use Rattle.rule_judge_loose.specs.Easing.{with_fault}
use Rattle.rule_judge_loose.specs.Entering.{NotesEased, loose_main, loose_node, loose_proc, ProcDeclared, LooseListed, LooseEnters, ProcLoosely, loose-wrong, loose-right}
use Rattle.rule_judge_loose.specs.Judging.{JudgesLoosely, LooseKnown, LooseForm, LooseHeaded}
use Rattle.rule_body_notes.proofs.Notes.{noted-long}
use Rattle.rule_judge_loose.proofs.BodyLines.{main-told}
use Rattle.rule_judge_loose.proofs.ProcLists.{wrong-told, proc-told}
use Rattle.rule_judge_loose.proofs.Declarations.{declared-enters}
use Rattle.rule_judge_loose.proofs.Rows.{line-judged, line-answer}
use Rattle.rule_declarations.specs.State.{body_state}
use Rattle.rule_declarations.specs.declared.State.{State}

-- ---- lines with a body

pub main-enters : (s l ts tb : List ℕ) (kn : Known) (at : ℕ) (o : Opened) → o ≡ opened_main kn.state at → (b : Eased) (l' tb' : List ℕ) (g : Entered) → NotesEased s l ts tb kn o b l' tb' → g ≡ loose_main kn b
    → LooseEnters s l ts tb kn LH.Main at g l' ts tb'
main-enters s l ts tb kn at o q b l' tb' g N e =
    let M : NotesEased s l ts tb kn (opened_main kn.state at) b l' tb' = subst (λ (x : Opened). NotesEased s l ts tb kn x b l' tb') q N in
    rw (M.noted-so, e) (record {
      long = noted-long s kn (opened_main kn.state at) tb;
      says = λ k S i n. rw (some_first is_main (λ x. head_in x k.stmts (first (stack_at s at)))) (main-told S i at (omega (arith, n, S.few-stmts, S.few-nodes)) b l' M.gives);
    })

pub proc-declared : (s : List ℕ) (kn : Known) (n : ℕ) (o : Opened) (b : Eased) (p : ℕ) (l : List ℕ) (t : ℕ) (l₁ : List ℕ) (u : ℕ) (l' : List ℕ) (g : Entered) → Laid (lay (loose_node kn o) o.top l) t l₁ → (m : ℕ) → m ≡ keyed s p
    → Laid (lay (m ∷ (2 + 4 * (kn.state.procs % 16384)) ∷ o.top ∷ kn.state.scope.newest ∷ []) t l₁) u l' → g ≡ loose_proc kn n b t u → ProcDeclared kn n o b (keyed s p) l g l'
unfolding proc_numbers
proc-declared s kn n o b p l t l₁ u l' g N m M L e = record { entry = t; noded = l₁; free = u; node = N; laid = rw (← M) L; given = e }

pub listed-so : (s l ts tb : List ℕ) (kn : Known) (f : Fault) (c : Listed) (p : ℕ) (o : Opened) (l₁ : List ℕ) → Opens s l ts kn.state c o l₁ → (b : Eased) (l₂ tb' : List ℕ) → NotesEased s l₁ ts tb kn o b l₂ tb'
    → (b' : Eased) → b' ≡ with_fault b f → (g : Entered) (l' : List ℕ) → ProcDeclared kn c.count o b' (keyed s p) l₂ g l' → LooseListed s l ts tb kn f c p g l' tb'
listed-so s l ts tb kn f c p o l₁ O b l₂ tb' N b' E g l' D = record { opened = o; framed = l₁; opens = O; answer = b; list = l₂; gives = N.gives; noted-so = N.noted-so; ends = rw (← E) D }

module _ (s l ts tb : List ℕ) (kn : Known) (p at : ℕ) (n : Fault) (N : n ≡ new_fault Clear (meaning_here s l kn.state.scope p)) (c : Listed) (C : GivesList s l ts kn.state.scope p at c) (x : Fault) (X : x ≡ c.fault)
    (b : Bool) (B : b ≡ is_form x) (e : Entered) where
  pub named-wrong : b ≡ true → e ≡ failed_entry kn Form → ProcLoosely s l ts tb kn p at e l tb
  named-wrong h g = loose-wrong c C (sym X ∙ form-is x (sym B ∙ h)) g refl refl
    where
      form-is : (y : Fault) → is_form y ≡ true → y ≡ Form
      form-is Form q = refl
      form-is Clear q = absurd (false≢true q)
      form-is Kind q = absurd (false≢true q)
      form-is Unnamed q = absurd (false≢true q)

  pub named-right : b ≡ false → (m : Fault) → m ≡ lowest n x → (l' tb' : List ℕ) → LooseListed s l ts tb kn m c p e l' tb' → ProcLoosely s l ts tb kn p at e l' tb'
  named-right h m M l' tb' P = loose-right c C (ap is_form (sym X) ∙ sym B ∙ h) (subst (λ (z : Fault). LooseListed s l ts tb kn z c p e l' tb') (M ∙ ap (λ (z : Fault). lowest z x) N ∙ ap (lowest (new_fault Clear (meaning_here s l kn.state.scope p))) X) P)

pub ruleset named-laws = (named-wrong, named-right)

none_first : {A B : Type 0} (f : A → Option B) → (none >>= f) ≡ none
unfolding ◌>>=◌
none_first f = refl

module _ (s l ts tb : List ℕ) (kn : Known) (at : ℕ) (n : Maybe FreeName) (N : GivesName s at n) (g : Entered) where
  pub proc-called : (m : FreeName) (l' tb' : List ℕ) → n ≡ Some m → length tb' ≡ length tb → ProcLoosely s l ts tb kn m.at m.next g l' tb' → LooseEnters s l ts tb kn LH.Proc at g l' ts tb'
  proc-called m l' tb' h i P = record {
    long = i;
    says = λ k S r c.
        let Z = rw h at N.says in
        rw (some_first is_proc (λ x. head_in x k.stmts (first (stack_at s at)))) (proc-told S r at m.at m.next Z.0 Z.1 Z.2
        (less-nodes (first (stack_at s at)) (first (stack_at s m.next)) (word_at s m.at) Z.0.leaf.here 32768 c) g l' tb' P);
  }

  pub proc-nameless : n ≡ None → g ≡ failed_entry kn Form → LooseEnters s l ts tb kn LH.Proc at g l ts tb
  proc-nameless h e = record {
    long = refl;
    says = λ k S i c. wrong-told s l ts tb kn.state.top k _ g
        (some_first is_proc (λ x. head_in x k.stmts (first (stack_at s at))) ∙ proc-shape k.stmts (first (stack_at s at)) ∙ rw (rw h at N.says) (none_first _)) (ap (λ (x : Entered). x.fault) e);
  }

pub ruleset proc-line-laws = (proc-called, proc-nameless)

-- ---- by the head word

module _ (s l ts tb : List ℕ) (kn : Known) (k : LineHead) (at : ℕ) (g : Entered) where
  pub enters-nothing : k ≡ LH.Nothing → g ≡ failed_entry kn Form → LooseEnters s l ts tb kn k at g l ts tb
  enters-nothing h e = rw h (record { long = refl; says = λ d S i n. wrong-told s l ts tb kn.state.top d _ g (none_first _) (ap (λ (x : Entered). x.fault) e) })

  module _ (l' ts' : List ℕ) where
    pub enters-type : (x : Lined) → k ≡ LH.Type → GivesLine s l ts kn.state (line_of is_type 0 (first (stack_at s at))) x l' ts' → g ≡ declared_entry kn x → LooseEnters s l ts tb kn k at g l' ts' tb
    enters-type x h G e = rw h (declared-enters s l ts tb kn LH.Type is_type refl type-fixed at x l' ts' G g e)

    pub enters-var : (x : Lined) → k ≡ LH.Var → GivesLine s l ts kn.state (line_of is_var 0 (first (stack_at s at))) x l' ts' → g ≡ declared_entry kn x → LooseEnters s l ts tb kn k at g l' ts' tb
    enters-var x h G e = rw h (declared-enters s l ts tb kn LH.Var is_var refl var-fixed at x l' ts' G g e)

    pub enters-by : (tb' : List ℕ) (h : LineHead) → k ≡ h → LooseEnters s l ts tb kn h at g l' ts' tb' → LooseEnters s l ts tb kn k at g l' ts' tb'
    enters-by tb' h e E = rw e E

pub ruleset enter-laws = (enters-type, enters-var, enters-by, enters-nothing)

-- ---- the line's form

pub headed-is : (s l ts tb : List ℕ) (kn : Known) (w : Kind.Word) (at n : ℕ) (h : LineHead) (g : Entered) (l' ts' tb' : List ℕ) (j : Result Known ℕ) → h ≡ line_head_of w → LooseEnters s l ts tb kn h at g l' ts' tb' → j ≡ judgement kn g n
    → LooseHeaded s l ts tb kn w at n j l' ts' tb'
headed-is s l ts tb kn w at n h g l' ts' tb' j i E e = record { entered = g; enters = rw (← i) E; judged = e }

module _ (s l ts tb : List ℕ) (kn : Known) (at n : ℕ) (x : Part) (c : Stands s at x) (j : Result Known ℕ) where
  -- no head word: row 6
  no-head : (k : Declared) (ln : Line) → LineIs s ln at n k → line_in k.stmts (form (first (stack_at s at))) ≡ none → judge_line loosely k ln ≡ bad 6
  unfolding judged_by entry_staged staged ◌>>=◌
  no-head k ln L h = line-judged k (form (first (stack_at s at))) ln L.form-is L.read L.worded-is L.going ∙ rw h refl

  pub form-shut : (q : ℕ) → x ≡ part.Shut q → j ≡ Err 6 → LooseForm s l ts tb kn at n j l ts tb
  form-shut q h e = rw e (record {
    says = λ k S ln L.
        rw (no-head k ln L (rw (rw h at c.says).here (line-empty k.stmts))) (refl, omega arith);
  })

  pub form-form : (p : ℕ) → x ≡ part.Form p → j ≡ Err 6 → LooseForm s l ts tb kn at n j l ts tb
  form-form p h e = rw e (record {
    says = λ k S ln L.
        rw (no-head k ln L (rw (rw h at c.says).here (line-headless k.stmts (first (stack_at s p)) (first (later (stack_at s p)))))) (refl, omega arith);
  })

  pub form-headed : (w : Kind.Word) (p q : ℕ) (l' ts' tb' : List ℕ) → x ≡ part.Leaf w p q → LooseHeaded s l ts tb kn w q n j l' ts' tb' → LooseForm s l ts tb kn at n j l' ts' tb'
  form-headed w p q l' ts' tb' h J = record {
    says = λ k S ln L.
        let Z = rw h at c.says in
        let E = J.enters in
        let y : line_head_of w ≡ line_head_of (word_of (word_at s p)) = ap line_head_of Z.1 in
        let v : line_in k.stmts (form (first (stack_at s at))) ≡ (line_head_meant (line_head_of w) >>= λ x. head_in x k.stmts (first (stack_at s q))) = ap (λ (us : Trees Run). line_in k.stmts (form us)) Z.0.leaf.here ∙ line-headed k.stmts (word_at s p) (first (stack_at s q)) ∙ rw y refl in
        line-answer s l ts tb kn k S (form (first (stack_at s at))) L.read L.worded-is ln L.form-is L.going J.entered l' ts' tb' E.long
        (rw v (E.says k S L.going (let a = line-nodes (first (stack_at s at)) (first (stack_at s q)) (word_at s p) Z.0.leaf.here n L.count-is in omega (arith, L.short, a)))) j (J.judged ∙ ap (judgement kn J.entered) L.count-is);
  }

pub ruleset form-laws = (form-shut, form-form, form-headed)

-- ---- rows 4 and 5, and the line after `main`

module _ (s l ts tb : List ℕ) (kn : Known) (at : ℕ) (j : Result Known ℕ) where
  pub known-ended : kn.ended ≡ true → j ≡ Err 6 → LooseKnown s l ts tb kn at j l ts tb
  known-ended h m = rw m (record {
    says = λ k S K.
        let F = formed s at K.balanced in
        let R = worded-some (form F.0) (sym (ap known_all F.2 ∙ line_known F.0) ∙ K.known) in
        rw (sixth loosely k (line_at (drop at s)) (form F.0) R.0 F.1 R.1 (sym S.ended_is ∙ h)) (refl, omega arith);
  })

  module _ (x : Part) (c : Stands s at x) where
    pub known-leaf : (p q : ℕ) (w : Kind.Word) → x ≡ part.Leaf w p q → LooseKnown s l ts tb kn at j l ts tb
    known-leaf p q w h = record { says = λ k S K. absurd (no-leaf s l ts kn at j x c p q w h K) }

    pub known-shut : (q : ℕ) → x ≡ part.Shut q → LooseKnown s l ts tb kn at j l ts tb
    known-shut q h = record { says = λ k S K. absurd (no-shut s l ts kn at j x c q h K) }

    pub known-form : (p n : ℕ) (l' ts' tb' : List ℕ) → kn.ended ≡ false → x ≡ part.Form p → n ≡ nodes_all (stack_at s at) → LooseForm s l ts tb kn p n j l' ts' tb' → LooseKnown s l ts tb kn at j l' ts' tb'
    known-form p n l' ts' tb' g h m J = record {
      says = λ k S K.
          let F = formed s at K.balanced in
          let Z = rw h at c.says in
          let y : (form F.0 then end) ≡ (form (first (stack_at s p)) then first (later (stack_at s p))) = sym (ap first F.2) ∙ Z.here in
          let z : F.0 ≡ first (stack_at s p) = cc in
          let R = worded-some (form F.0) (sym (ap known_all F.2 ∙ line_known F.0) ∙ K.known) in
          J.says k S (line_at (drop at s)) (record {
            form-is = F.1 ∙ ap (λ (f : Trees Run). some (form f)) z;
            read = R.0;
            worded-is = ap (λ (f : Trees Run). worded (form f)) (sym z) ∙ R.1;
            count-is = m ∙ ap nodes_all F.2 ∙ tie-nodes F.0 ∙ ap (λ (f : Trees Run). nodes (form f)) z;
            short = let a = nodes-short s at in omega (arith, S.holds.short-text);
            going = sym S.ended_is ∙ g;
          });
    }

  module _ (b : Bool) (e : b ≡ balanced_from (drop at s) before) where
    pub line-unbalanced : b ≡ false → j ≡ Err 4 → JudgesLoosely s l ts tb kn at j l ts tb
    line-unbalanced h m = rw m (record { says = λ k S. rw (fourth loosely k (line_at (drop at s)) (unformed s at (sym e ∙ h))) (refl, omega arith) })

    module _ (h : b ≡ true) (c : Bool) (i : c ≡ known_all (stack_at s at)) where
      pub line-unknown : c ≡ false → j ≡ Err 5 → JudgesLoosely s l ts tb kn at j l ts tb
      line-unknown u m = rw m (record {
        says = λ k S.
            let F = formed s at (sym e ∙ h) in
            rw (fifth loosely k (line_at (drop at s)) (form F.0) F.1 (worded-none (form F.0) (sym (ap known_all F.2 ∙ line_known F.0) ∙ sym i ∙ u))) (refl, omega arith);
      })

      pub line-known-so : c ≡ true → (l' ts' tb' : List ℕ) → LooseKnown s l ts tb kn at j l' ts' tb' → JudgesLoosely s l ts tb kn at j l' ts' tb'
      line-known-so u l' ts' tb' J = record { says = λ k S. J.says k S (record { balanced = sym e ∙ h; known = sym i ∙ u }) }

pub ruleset known-laws = (known-ended, known-leaf, known-shut, known-form)

pub ruleset line-laws = (line-unbalanced, line-unknown, line-known-so)

-- ---- the answers for a line with a body

pub main-entry-is : (kn : Known) (b : Eased) (st : State) → st ≡ body_state kn.state kn.state.top
    → record { fault = b.fault; within = true; state = st; stmts = b.stmts; ended = true; main = 0 } ≡ loose_main kn b
main-entry-is kn b st e = rw e refl

pub proc-entry-is : (kn : Known) (n : ℕ) (b : Eased) (t u : ℕ) (st : State) (x : Bool) → st ≡ proc_state kn.state n t u → x ≡ proc_fits kn.state n
    → record { fault = b.fault; within = x; state = st; stmts = b.stmts; ended = false; main = 0 } ≡ loose_proc kn n b t u
proc-entry-is kn n b t u st x d e = rw (d, e) refl
