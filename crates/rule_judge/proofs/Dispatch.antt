-- From a line's head word to its judgement.
use Rattle.std.proofs.Common.{Result, Err}
use mathlib.Core.Path.{◌≡◌, refl, sym, ap, ◌∙◌, subst}
use mathlib.Core.Bool.{Bool, true, false, true≢false, false≢true}
use mathlib.Core.List.{List, [], ◌∷◌}
use mathlib.Core.Option.{Option, none}
use Prim.Native.Nat.{ℕ, ◌+◌, ◌*◌, ◌%◌, ◌≤◌}
use native.Mathlib.Omega.{arith}
use Rattle.leaf_words.specs.declared.words.Word as Kind
use Rattle.leaf_words.specs.Words.{word_of}
use Rattle.law.specs.Base.{◌>>=◌}
use Rattle.law.specs.Forms.{is_type, is_var, is_proc, is_main}
use Rattle.law.specs.Lines.{Line}
use Rattle.rule_stages.specs.Stages.{staged}
use Rattle.law.specs.Trees.{word, form, Trees, ◌then◌, Run, nodes, nodes_in, first, later, word_at}
use Rattle.law_theorems.specs.Readings.{stack_at}
use Rattle.law.specs.Verdict.{Read, bad, strictly, judge_line}
use Rattle.rule_stages.proofs.OnePassLines.{judged_by}
use Rattle.table_names.specs.Keys.{keyed}
use Rattle.table_scope.specs.Scene.{meaning_here}
use Rattle.rule_faults.specs.declared.Fault.{Fault}
use Rattle.rule_faults.specs.declared.Fault.TheVariants.{Clear, Kind, Name as Unnamed, Form}
use Rattle.rule_faults.specs.declared.Got.{Got}
use Rattle.text_parts.specs.declared.Part.{Part}
use Rattle.text_parts.specs.declared.Part.TheVariants as part
use Rattle.rule_faults.specs.Got.{lowest, is_clear, is_form}
use Rattle.code.specs.Layout.{lay}
use Rattle.table_list.specs.Laid.{Laid}
use Rattle.text_parts.specs.Parts.{Stands}
use Rattle.text_heads.specs.declared.LineHead.{LineHead}
use Rattle.text_heads.specs.declared.LineHead.TheVariants as LH
use Rattle.text_heads.specs.Heads.{line_head_of, line_head_meant}
use Rattle.rule_statements.specs.Walks.{GivesBody}
use Rattle.rule_declarations.specs.declared.Lined.{Lined}
use Rattle.rule_declarations.specs.Lines.{line_of, GivesLine}
use Rattle.rule_declarations.specs.declared.FreeName.{FreeName}
use Rattle.std.specs.Prelude.{Option as Maybe, Some, None}
use Rattle.rule_declarations.specs.Names.{GivesName, new_fault}
use Rattle.rule_known.specs.declared.Known.{Known}
use Rattle.rule_known.specs.declared.Entered.{Entered}
use Rattle.rule_known.specs.Answers.{judgement, declared_entry}
use Rattle.rule_judge.specs.Answers.{main_entry, proc_numbers, proc_entry, failed_entry}
use Rattle.rule_parameters.specs.Framing.{Opens, opened_main, proc_fits, proc_state}
use Rattle.rule_parameters.specs.Listing.{GivesList}
use Rattle.rule_parameters.specs.declared.framing.Opened.{Opened}
use Rattle.rule_parameters.specs.declared.listing.Listed.{Listed}
use Rattle.rule_stmt_nodes.specs.declared.last.Head.{Head}
use Rattle.rule_judge.specs.Entering.{Enters, ProcEnds, ProcListed, ProcNamed, proc-wrong, proc-right, GivesOpened, head_of}
use Rattle.rule_judge.specs.Forms.{LineIs, JudgesForm}
use Rattle.rule_judge.specs.Judging.{Standing}
use Rattle.rule_judge.specs.Whole.{line_in, head_in, whole_staged}
use Rattle.rule_judge.proofs.Bodies.{proc-shape}
use Rattle.rule_judge.proofs.BodyEnters.{main-told}
use Rattle.rule_judge.proofs.ProcEnters.{wrong-told, proc-told}
use Rattle.rule_judge.proofs.Declaring.{some_first, declared-enters, type-fixed, var-fixed}
use Rattle.rule_judge.proofs.Lines.{line-judged, line-headed, line-empty, line-headless}
use Rattle.rule_judge.proofs.Stepping.{line-answer}
use Rattle.rule_declarations.specs.State.{body_state}
use Rattle.rule_declarations.specs.declared.State.{State}

-- ---- counts

pub less-nodes : (us vs : Trees Run) (w : Run) → us ≡ (word w then vs) → (m : ℕ) → nodes_in us ≤ m → nodes_in vs ≤ m
unfolding nodes
less-nodes us vs w h m i = let j : nodes_in us ≡ nodes_in (word w then vs) = ap (λ (ts : Trees Run). nodes_in ts) h in omega arith

pub line-nodes : (us vs : Trees Run) (w : Run) → us ≡ (word w then vs) → (n : ℕ) → n ≡ nodes (form us) → nodes_in vs ≤ n
unfolding nodes
line-nodes us vs w h n e = let j : n ≡ nodes (form (word w then vs)) = e ∙ ap (λ (ts : Trees Run). nodes (form ts)) h in omega arith

-- ---- the parts after the head word

none_first : {A B : Type 0} (f : A → Option B) → (none >>= f) ≡ none
unfolding ◌>>=◌
none_first f = refl

module _ (s l ts : List ℕ) (kn : Known) (at : ℕ) (g : Entered) where
  pub enters-nothing : (k : LineHead) → k ≡ LH.Nothing → g.fault ≡ Form → Enters s l ts kn k at g l ts
  enters-nothing k h e = rw h (record { says = λ r bs S n. wrong-told s l ts kn.state.top r _ g (none_first _) e })

  pub enters-main : (k : LineHead) (b : Got) (l' : List ℕ) → k ≡ LH.Main → GivesOpened s l ts kn (opened_main kn.state at) b l' → g ≡ main_entry kn b → Enters s l ts kn k at g l' ts
  enters-main k b l' h B e = rw (h, e) (record { says = λ r bs S n. rw (some_first is_main (λ k. head_in k r.known.stmts (first (stack_at s at)))) (main-told s l ts kn r bs S at (omega (arith, n, S.measured.stmts, S.measured.nodes)) b l' B) })

  module _ (n : Maybe FreeName) (N : GivesName s at n) where
    pub enters-nameless : n ≡ None → g.fault ≡ Form → Enters s l ts kn LH.Proc at g l ts
    enters-nameless h e = record {
      says = λ r bs S i. wrong-told s l ts kn.state.top r _ g
          (some_first is_proc (λ k. head_in k r.known.stmts (first (stack_at s at))) ∙ proc-shape r.known.stmts (first (stack_at s at)) ∙ rw (rw h at N.says) (none_first _)) e;
    }

    pub enters-proc : (m : FreeName) (l' : List ℕ) → n ≡ Some m → ProcNamed s l ts kn m.at m.next g l' → Enters s l ts kn LH.Proc at g l' ts
    enters-proc m l' h P = record {
      says = λ r bs S i.
          let Z = rw h at N.says in
          rw (some_first is_proc (λ k. head_in k r.known.stmts (first (stack_at s at))))
          (proc-told s l ts kn r bs S at m.at m.next Z.0 Z.1 Z.2 (less-nodes (first (stack_at s at)) (first (stack_at s m.next)) (word_at s m.at) Z.0.leaf.here 32768 i) g l' P);
    }

-- by the head word
module _ (s l ts : List ℕ) (kn : Known) (k : LineHead) (at : ℕ) (g : Entered) (l' ts' : List ℕ) where
  pub enters-type : (x : Lined) → k ≡ LH.Type → GivesLine s l ts kn.state (line_of is_type 0 (first (stack_at s at))) x l' ts' → g ≡ declared_entry kn x → Enters s l ts kn k at g l' ts'
  enters-type x h G e = rw h (declared-enters s l ts kn LH.Type is_type refl type-fixed at x l' ts' G g e)

  pub enters-var : (x : Lined) → k ≡ LH.Var → GivesLine s l ts kn.state (line_of is_var 0 (first (stack_at s at))) x l' ts' → g ≡ declared_entry kn x → Enters s l ts kn k at g l' ts'
  enters-var x h G e = rw h (declared-enters s l ts kn LH.Var is_var refl var-fixed at x l' ts' G g e)

  pub enters-by : (h : LineHead) → k ≡ h → Enters s l ts kn h at g l' ts' → Enters s l ts kn k at g l' ts'
  enters-by h e E = rw e E

-- ---- the line's form

module _ (s l ts : List ℕ) (kn : Known) (at n : ℕ) (x : Part) (c : Stands s at x) (j : Result Known ℕ) where
  -- no head word: row 6
  no-head : (r : Read) (bs : List ℕ) → Standing s l ts kn r bs → (ln : Line) → LineIs s ln at n r.known → line_in r.known.stmts (form (first (stack_at s at))) ≡ none → judge_line strictly r.known ln ≡ bad 6
  unfolding judged_by whole_staged staged ◌>>=◌
  no-head r bs S ln L h = line-judged r.known (form (first (stack_at s at))) ln L.form-is L.read L.worded-is L.going ∙ rw h refl

  pub form-shut : (q : ℕ) → x ≡ part.Shut q → j ≡ Err 6 → JudgesForm s l ts kn at n j l ts
  form-shut q h e = rw e (record {
    says = λ r bs S ln L.
        rw (no-head r bs S ln L (rw (rw h at c.says).here (line-empty r.known.stmts))) (refl, omega arith);
  })

  pub form-form : (p : ℕ) → x ≡ part.Form p → j ≡ Err 6 → JudgesForm s l ts kn at n j l ts
  form-form p h e = rw e (record {
    says = λ r bs S ln L.
        rw (no-head r bs S ln L (rw (rw h at c.says).here (line-headless r.known.stmts (first (stack_at s p)) (first (later (stack_at s p)))))) (refl, omega arith);
  })

  pub form-headed : (w : Kind.Word) (p q : ℕ) (k : LineHead) (g : Entered) (l' ts' : List ℕ) → x ≡ part.Leaf w p q → k ≡ line_head_of w → Enters s l ts kn k q g l' ts' → j ≡ judgement kn g n → JudgesForm s l ts kn at n j l' ts'
  form-headed w p q k g l' ts' h i E e = record {
    says = λ r bs S ln L.
        let Z = rw h at c.says in
        let y : k ≡ line_head_of (word_of (word_at s p)) = i ∙ ap line_head_of Z.1 in
        let v : line_in r.known.stmts (form (first (stack_at s at))) ≡ (line_head_meant k >>= λ k. head_in k r.known.stmts (first (stack_at s q))) = ap (λ (us : Trees Run). line_in r.known.stmts (form us)) Z.0.leaf.here ∙ line-headed r.known.stmts (word_at s p) (first (stack_at s q)) ∙ rw y refl in
        line-answer s l ts kn r bs S (form (first (stack_at s at))) L.read L.worded-is ln L.form-is L.going g l' ts'
        (rw v (E.says r bs S (let a = line-nodes (first (stack_at s at)) (first (stack_at s q)) (word_at s p) Z.0.leaf.here n L.count-is in omega (arith, a, L.short)))) j (e ∙ ap (judgement kn g) L.count-is);
  }

-- ---- a procedure's parts

module _ (kn : Known) (f : Fault) (k : ℕ) (g : Got) (n : ℕ) (l : List ℕ) (b : Bool) (c : b ≡ is_clear f) (e : Entered) where
  pub proc-clear : (u : ℕ) (l' : List ℕ) → b ≡ true → Laid (lay (n ∷ (2 + 4 * (kn.state.procs % 16384)) ∷ g.place ∷ kn.state.scope.newest ∷ []) g.top l) u l' → e ≡ proc_entry kn f k g u → ProcEnds kn f k g n l e l'
  unfolding proc_numbers
  proc-clear u l' h L q = record { free = u; laid = record { laid_so = λ _. (L.free, L.left) }; given = q }

  pub proc-fault : b ≡ false → e ≡ proc_entry kn f k g g.top → ProcEnds kn f k g n l e l
  proc-fault h q = record { free = g.top; laid = record { laid_so = λ z. absurd (true≢false (sym (ap is_clear z) ∙ sym c ∙ h)) }; given = q }

pub ruleset proc-end-laws = (proc-clear, proc-fault)

pub listed-so : (s l ts : List ℕ) (kn : Known) (f : Fault) (c : Listed) (p : ℕ) (o : Opened) (l₁ : List ℕ) → Opens s l ts kn.state c o l₁ → (g : Got) (l₂ : List ℕ) → GivesOpened s l₁ ts kn o g l₂
    → (h m : Fault) → h ≡ g.fault → m ≡ lowest f h → (i : ℕ) → i ≡ keyed s p → (e : Entered) (l' : List ℕ) → ProcEnds kn m c.count g i l₂ e l' → ProcListed s l ts kn f c p e l'
listed-so s l ts kn f c p o l₁ O g l₂ G h m a b i d e l' E = record { opened = o; framed = l₁; opens = O; answer = g; list = l₂; gives = G; ends = subst (λ (x : Fault). ProcEnds kn x c.count g (keyed s p) l₂ e l') (b ∙ ap (lowest f) a) (subst (λ (x : ℕ). ProcEnds kn m c.count g x l₂ e l') d E) }

module _ (s l ts : List ℕ) (kn : Known) (p at : ℕ) (n : Fault) (N : n ≡ new_fault Clear (meaning_here s l kn.state.scope p)) (c : Listed) (C : GivesList s l ts kn.state.scope p at c) (x : Fault) (X : x ≡ c.fault)
    (b : Bool) (B : b ≡ is_form x) (e : Entered) where
  pub named-wrong : b ≡ true → e ≡ failed_entry kn Form → ProcNamed s l ts kn p at e l
  named-wrong h g = proc-wrong c C (sym X ∙ form-is x (sym B ∙ h)) g refl
    where
      form-is : (y : Fault) → is_form y ≡ true → y ≡ Form
      form-is Form q = refl
      form-is Clear q = absurd (false≢true q)
      form-is Kind q = absurd (false≢true q)
      form-is Unnamed q = absurd (false≢true q)

  pub named-right : b ≡ false → (m : Fault) → m ≡ lowest n x → (l' : List ℕ) → ProcListed s l ts kn m c p e l' → ProcNamed s l ts kn p at e l'
  named-right h m M l' P = proc-right c C (ap is_form (sym X) ∙ sym B ∙ h) (subst (λ (y : Fault). ProcListed s l ts kn y c p e l') (M ∙ ap (λ (y : Fault). lowest y x) N ∙ ap (lowest (new_fault Clear (meaning_here s l kn.state.scope p))) X) P)

pub ruleset named-laws = (named-wrong, named-right)

pub walked-so : (s l ts : List ℕ) (kn : Known) (o : Opened) (h : Head) → h ≡ head_of kn o → (g : Got) (l' : List ℕ) → GivesBody s l ts o.scope h kn.stmts o.at o.top g l' → GivesOpened s l ts kn o g l'
walked-so s l ts kn o h H g l' B = record { gives = rw (← H) B }

pub main-line-is : (s l ts : List ℕ) (kn : Known) (at : ℕ) (o : Opened) → o ≡ opened_main kn.state at → (b : Got) (l' : List ℕ) (g : Entered) → GivesOpened s l ts kn o b l' → g ≡ main_entry kn b → Enters s l ts kn LH.Main at g l' ts
main-line-is s l ts kn at o h b l' g B e = enters-main s l ts kn at g LH.Main b l' refl (rw (← h) B) e

module _ (s l ts : List ℕ) (kn : Known) (at : ℕ) (n : Maybe FreeName) (N : GivesName s at n) (g : Entered) where
  pub proc-called : (m : FreeName) (l' : List ℕ) → n ≡ Some m → ProcNamed s l ts kn m.at m.next g l' → Enters s l ts kn LH.Proc at g l' ts
  proc-called m l' h P = enters-proc s l ts kn at g n N m l' h P

  pub proc-nameless : n ≡ None → g ≡ failed_entry kn Form → Enters s l ts kn LH.Proc at g l ts
  proc-nameless h e = enters-nameless s l ts kn at g n N h (ap (λ (x : Entered). x.fault) e)

pub no-head-word : (s l ts : List ℕ) (kn : Known) (at : ℕ) (g : Entered) (k : LineHead) → k ≡ LH.Nothing → g ≡ failed_entry kn Form → Enters s l ts kn k at g l ts
no-head-word s l ts kn at g k h e = enters-nothing s l ts kn at g k h (ap (λ (x : Entered). x.fault) e)

pub ruleset proc-line-laws = (proc-called, proc-nameless)

pub ruleset enter-laws = (enters-type, enters-var, enters-by, no-head-word)

pub ruleset form-laws = (form-shut, form-form, form-headed)

-- ---- the answers for a line with a body

pub main-entry-is : (kn : Known) (g : Got) (st : State) → st ≡ body_state kn.state g.top
    → record { fault = g.fault; within = true; state = st; stmts = g.kind; ended = true; main = g.place } ≡ main_entry kn g
main-entry-is kn g st e = rw e refl

pub proc-entry-is : (kn : Known) (f : Fault) (n : ℕ) (g : Got) (u : ℕ) (a : State) (b : Bool) → a ≡ proc_state kn.state n g.top u → b ≡ proc_fits kn.state n
    → record { fault = f; within = b; state = a; stmts = g.kind; ended = false; main = 0 } ≡ proc_entry kn f n g u
proc-entry-is kn f n g u a b d e = rw (e, d) refl
