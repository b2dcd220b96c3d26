-- Rows 6 to 8 of a line with a body: the verdict on the line is what one pass over the body answers.
use mathlib.Core.Path.{◌≡◌, refl, ◌∙◌}
use mathlib.Core.Bool.{Bool, true, false, ◌&&◌, and_comm}
use mathlib.Core.List.{List, [], ◌∷◌}
use mathlib.Core.Option.{Option, none, some}
use Prim.Native.Nat.{ℕ, ◌+◌}
use lib.Dec.{leb}
use Rattle.law.specs.Base as Base
use Rattle.law.specs.Base.{Name, each, given}
use Rattle.law.specs.Lines.{Line}
use Rattle.law.specs.Trees.{Tree, Run, nodes, form_of}
use Rattle.law.specs.Words.{Word, worded}
use Rattle.law.specs.Syntax as Syntax
use Rattle.law_theorems.specs.FormsByDepth.{line_form}
use Rattle.law_theorems.proofs.FormsAgree.{line_same}
use Rattle.law.specs.Script.{Body, Entry, new_proc, new_main}
use Rattle.law.specs.Environment.{Declared, declare_line, frame_of, within}
use Rattle.law.specs.Names.{body_of, field_names, new_names, pair_of, entry_of}
use Rattle.law.specs.Code.{BodyCode, no_frame}
use Rattle.law.specs.Elaborate.{elab_body}
use Rattle.law.specs.Rules.{kept_body, kept_parameters, keeps_rules}
use Rattle.law.specs.Ceilings.{line_bounded}
use Rattle.rule_stages.specs.Stages.{Staged, wrong, unnamed, unfit, fits, ruled, named, staged, kept_if, body_staged}
use Rattle.rule_stages.proofs.Staging.{kept-ruled}
use Rattle.law.specs.Verdict.{Judged, good, bad, ◌>>=◌, or_bad, must, strictly, judge_line}
use Rattle.law_theorems.proofs.TextsAgree.{stage-on, must-on}

-- the row of a fault, or what comes next
unfoldable pub judged_by : {A B : Type 0} → Staged A → (A → Judged B) → Judged B
judged_by wrong f = bad 6
judged_by unnamed f = bad 7
judged_by unfit f = bad 8
judged_by (fits a) f = f a

-- a line whose names are known: its rules, then its body's kinds
rows-8 : (next : List BodyCode → Judged (Declared × List BodyCode)) (p : Bool) (u : Option BodyCode)
    → (must 8 p >>= λ _. or_bad 8 (Base.◌>>=◌ u (λ c. some (c ∷ []))) >>= next) ≡ judged_by (ruled p u) (λ c. next (c ∷ []))
unfolding judged_by ruled must or_bad ◌>>=◌ Base.◌>>=◌
rows-8 next false u = refl
rows-8 next true none = refl
rows-8 next true (some c) = refl

module _ (k : Declared) (l : Line) (t : Tree Run) (v : Tree Word) (s : ℕ) (h4 : form_of l ≡ some t) (h5 : worded t ≡ some v) (h6 : k.ended ≡ false) where
  -- row 9 and what the line declares
  abbrev pub rest : Entry → List BodyCode → Judged (Declared × List BodyCode)
  rest e cs = must 9 (line_bounded k e && leb (k.nodes + nodes t) 4096) >>= λ _. good (declare_line k e s (k.nodes + nodes t), cs)

  module _ (f : Syntax.LineForm) (hf : line_form k.stmts v ≡ some (f, s)) where
    opened : judge_line strictly k l ≡ (or_bad 7 (entry_of k.env f) >>= λ e. must 8 (keeps_rules k.env.types e) >>= λ _. or_bad 8 (strictly k.env e) >>= λ cs. rest e cs)
    unfolding judge_line
    opened = rw (h4, stage-on, h5, stage-on, h6, must-on, line_same l t v h4 h5 k.stmts, hf, stage-on)

  -- `(main BODY)`
  module _ (b : Syntax.Body) (hf : line_form k.stmts v ≡ some (Syntax.main_line b, s)) where
    pub main-unnamed : body_of k.env b ≡ none → judge_line strictly k l ≡ bad 7
    unfolding entry_of Base.◌>>=◌ or_bad ◌>>=◌
    main-unnamed h = opened (Syntax.main_line b) hf ∙ rw h

    pub main-judged : (x : Body) → body_of k.env b ≡ some x → judge_line strictly k l ≡ judged_by (body_staged k.env no_frame (some b)) (λ c. rest (new_main x) (c ∷ []))
    unfolding entry_of body_staged staged named Base.◌>>=◌ keeps_rules strictly
    main-judged x h = opened (Syntax.main_line b) hf ∙ rw (h, stage-on) (rows-8 (rest (new_main x)) (kept_body x) (elab_body k.env.types k.env.vars no_frame x))

  -- `(proc N ((N T)..) BODY)`: its parameters' types are known, then its body's names, and its own name and theirs are new
  module _ (w : Name) (ps : List (Name × Syntax.TypeName)) (b : Syntax.Body) (hf : line_form k.stmts v ≡ some (Syntax.proc_line w ps b, s)) where
    pub proc-untyped : each (pair_of k.env) ps ≡ none → judge_line strictly k l ≡ bad 7
    unfolding entry_of Base.◌>>=◌ or_bad ◌>>=◌
    proc-untyped h = opened (Syntax.proc_line w ps b) hf ∙ rw h

    module _ (qs : List (Name × ℕ)) (hq : each (pair_of k.env) ps ≡ some qs) where
      pub proc-unnamed : body_of (within k.env qs) b ≡ none → judge_line strictly k l ≡ bad 7
      unfolding entry_of Base.◌>>=◌ or_bad ◌>>=◌
      proc-unnamed h = opened (Syntax.proc_line w ps b) hf ∙ rw (hq, h)

      pub proc-known : (x : Body) → body_of (within k.env qs) b ≡ some x → new_names k.env (w ∷ field_names k.env qs) ≡ false → judge_line strictly k l ≡ bad 7
      unfolding entry_of given Base.◌>>=◌ or_bad ◌>>=◌
      proc-known x h q = opened (Syntax.proc_line w ps b) hf ∙ rw (hq, h, q)

      pub proc-judged : (x : Body) → body_of (within k.env qs) b ≡ some x → new_names k.env (w ∷ field_names k.env qs) ≡ true → judge_line strictly k l
          ≡ judged_by (kept_if (kept_parameters k.env.types qs) (body_staged (within k.env qs) (frame_of k.env qs) (some b))) (λ c. rest (new_proc w qs x) (c ∷ []))
      unfolding entry_of body_staged staged named given Base.◌>>=◌ keeps_rules strictly
      proc-judged x h q = opened (Syntax.proc_line w ps b) hf
          ∙ rw (hq, h, q, stage-on, and_comm (kept_parameters k.env.types qs) (kept_body x), ← kept-ruled (kept_body x) (kept_parameters k.env.types qs) (elab_body (within k.env qs).types (within k.env qs).vars (frame_of k.env qs) x))
          (rows-8 (rest (new_proc w qs x)) (kept_body x && kept_parameters k.env.types qs) (elab_body (within k.env qs).types (within k.env qs).vars (frame_of k.env qs) x))
