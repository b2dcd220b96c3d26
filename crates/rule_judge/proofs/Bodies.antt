-- Lines with a body, `proc` and `main`: their shape and their stages from those of the body.
use mathlib.Core.Path.{◌≡◌, refl, sym, ap, ◌∙◌}
use mathlib.Core.Bool.{Bool, true, false, cond, not, ◌&&◌}
use mathlib.Core.Logic.{◌⊎◌, inl, inr}
use native.Mathlib.Omega.{arith}
use mathlib.Core.List.{List, [], ◌∷◌}
use mathlib.Core.Option.{Option, none, some}
use Prim.Native.Nat.{ℕ}
use Rattle.law.specs.Base.{Name, ◌>>=◌, each, given}
use Rattle.law.specs.Code.{BodyCode, Frame, no_frame}
use Rattle.law.specs.Elaborate.{elab_body}
use Rattle.law.specs.Environment.{Declared, Environment, frame_of, within}
use Rattle.law.specs.Forms as Forms
use Rattle.law_theorems.specs.FormsByDepth as ByDepth
use Rattle.law.specs.Forms.{Item, is_proc, is_main, free}
use Rattle.law_theorems.specs.FormsByDepth.{line_by}
use Rattle.law.specs.Names.{entry_of, body_of, distinct, field_names, is_known, listed_in, new_names, none_known, pair_of}
use Rattle.law.specs.Rules.{keeps_rules, kept_body, kept_parameters}
use Rattle.law.specs.Script.{Body, Entry, new_proc, new_main}
use Rattle.rule_stages.specs.Stages.{Staged, unnamed, fits, ruled, named, staged, body_staged}
use Rattle.law.specs.Syntax as Syntax
use Rattle.law.specs.Syntax.{LineForm, proc_line, main_line}
use Rattle.law.specs.Trees.{Trees, Run, list}
use Rattle.law.specs.Verdict.{strictly}
use Rattle.law.specs.Words.{worded_all}
use Rattle.rule_faults.specs.Got.{lowest, fault_of}
use Rattle.text_heads.specs.Parts.{rest, name_in, body_in, part_of}
use Rattle.text_heads.proofs.Statements.{body-parts}
use Rattle.text_heads.proofs.Walks.{bind_assoc, bind-cong, next-part}
use Rattle.rule_statements.specs.Walks.{bare}
use Rattle.rule_faults.specs.declared.Fault.{Fault}
use Rattle.rule_faults.specs.declared.Fault.TheVariants.{Clear, Kind, Name as Unnamed, Form}
use Rattle.rule_atoms.proofs.Telling.{wrong-fits, unnamed-fits, unfit-fits, fits-inj}
use Rattle.rule_parameters.specs.Listing.{parameters_in, body_part, list_new, list_staged, kind_fault}
use Rattle.rule_parameters.proofs.Parts.{list-parts}
use Rattle.rule_judge.specs.Whole.{head_in, whole_staged}

-- ---- shapes

abbrev pub main_of : Syntax.Body × ℕ → LineForm × ℕ
main_of p = (main_line p.0, p.1)

abbrev pub proc_of : Name → List (Name × Syntax.TypeName) → Syntax.Body × ℕ → LineForm × ℕ
proc_of w ps p = (proc_line w ps p.0, p.1)

pub main-shape : (n : ℕ) (us : Trees Run) → head_in is_main n us ≡ (body_in n us >>= λ p. some (main_of p))
unfolding head_in line_by
main-shape n us = sym (bind_assoc (worded_all us) (λ vs. ByDepth.body n (list vs)) (λ p. some (main_of p))) ∙ ap (λ (o : Option (Syntax.Body × ℕ)). o >>= λ p. some (main_of p)) (body-parts n us)

pub proc-shape : (n : ℕ) (us : Trees Run) → head_in is_proc n us ≡ (name_in us >>= λ w. parameters_in (rest us) >>= λ ps. body_in n (body_part (rest us)) >>= λ p. some (proc_of w ps p))
unfolding head_in line_by name_in
proc-shape n us =
    next-part (λ ts. line_by is_proc n ts) free (λ w ts. Forms.parameters ts >>= λ q. ByDepth.body n q.1 >>= λ p. some (proc_of w q.0 p)) refl (λ v vs. refl) us
    ∙ bind-cong (part_of us >>= free) (λ w. list-parts (λ ps ts. ByDepth.body n ts >>= λ p. some (proc_of w ps p)) (rest us)
    ∙ bind-cong (parameters_in (rest us)) (λ ps.
    sym (bind_assoc (worded_all (body_part (rest us))) (λ vs. ByDepth.body n (list vs)) (λ p. some (proc_of w ps p))) ∙ ap (λ (o : Option (Syntax.Body × ℕ)). o >>= λ p. some (proc_of w ps p)) (body-parts n (body_part (rest us)))))

-- ---- stages

-- what a body's line comes to
abbrev entered : Entry → BodyCode → Entry × List BodyCode
entered e c = (e, c ∷ [])

abbrev Whole : Type 0
Whole = Entry × List BodyCode

-- the kinds of a line whose body is x
code_of : (σ : Environment) (e : Entry) (u : Option BodyCode) → strictly σ e ≡ (u >>= λ c. some (c ∷ [])) → (b : Bool)
    → ruled {A = Whole} b (strictly σ e >>= λ cs. some (e, cs)) ≡ ruled b (u >>= λ c. some (entered e c))
unfolding ◌>>=◌
code_of σ e none h b = rw h refl
code_of σ e (some c) h b = rw h refl

ruled-fault : (e : Entry) (b : Bool) (u : Option BodyCode) → fault_of (ruled {A = Whole} b (u >>= λ c. some (entered e c))) ≡ fault_of (ruled b u)
unfolding ruled ◌>>=◌
ruled-fault e false u = refl
ruled-fault e true none = refl
ruled-fault e true (some c) = refl

ruled-fits : (e : Entry) (b : Bool) (u : Option BodyCode) (x : Whole) → ruled b (u >>= λ c. some (entered e c)) ≡ fits x → (c : BodyCode) × (x ≡ entered e c) × (ruled b u ≡ fits c)
unfolding ruled ◌>>=◌
ruled-fits e false u x h = absurd (unfit-fits h)
ruled-fits e true none x h = absurd (unfit-fits h)
ruled-fits e true (some c) x h = (c, sym (fits-inj h), refl)

-- what is known of the body of `main` that fits
pub record MainThere (k : Declared) (o : Option (Syntax.Body × ℕ)) (e : Entry) (cs : List BodyCode) : Type 0 where
  pub read : Syntax.Body × ℕ
  pub body : Body
  pub code : BodyCode
  pub read_is : o ≡ some read
  pub body_is : body_of k.env read.0 ≡ some body
  pub entry-is : e ≡ new_main body
  pub codes-are : cs ≡ code ∷ []
  pub fits-so : body_staged k.env no_frame (bare o) ≡ fits code

-- of a procedure with the parameters qs
pub record ProcThere (k : Declared) (w : Name) (qs : List (Name × ℕ)) (o : Option (Syntax.Body × ℕ)) (e : Entry) (cs : List BodyCode) : Type 0 where
  pub read : Syntax.Body × ℕ
  pub body : Body
  pub code : BodyCode
  pub read_is : o ≡ some read
  pub body_is : body_of (within k.env qs) read.0 ≡ some body
  pub entry-is : e ≡ new_proc w qs body
  pub codes-are : cs ≡ code ∷ []
  pub kept-so : kept_parameters k.env.types qs ≡ true
  pub fits-so : body_staged (within k.env qs) (frame_of k.env qs) (bare o) ≡ fits code

and-true-right : (b : Bool) → (b && true) ≡ b
and-true-right true = refl
and-true-right false = refl

module _ (k : Declared) where
  abbrev σ : Environment
  σ = k.env

  -- a line's entry from its body x, in its own environment τ with the frame fr; `more` is what is asked of it beside its body's rules
  module _ (τ : Environment) (fr : Frame) (make : Body → Entry) (more : Bool) (rules : (x : Body) → keeps_rules k.env.types (make x) ≡ (more && kept_body x))
      (kinds : (x : Body) → strictly k.env (make x) ≡ (elab_body τ.types τ.vars fr x >>= λ c. some (c ∷ []))) where
    abbrev stage : Option Entry → Staged Whole
    stage u = named u (keeps_rules k.env.types) (λ e. strictly k.env e >>= λ cs. some (e, cs))

    abbrev bodied : Option Body → Staged BodyCode
    bodied u = named u kept_body (elab_body τ.types τ.vars fr)

    made_fault : (x : Body) → fault_of (stage (some (make x))) ≡ lowest (kind_fault more) (fault_of (bodied (some x)))
    unfolding named kind_fault ruled
    made_fault x =
        ap fault_of (code_of k.env (make x) (elab_body τ.types τ.vars fr x) (kinds x) (keeps_rules k.env.types (make x)))
        ∙ ruled-fault (make x) (keeps_rules k.env.types (make x)) (elab_body τ.types τ.vars fr x)
        ∙ ap (λ b. fault_of (ruled b (elab_body τ.types τ.vars fr x))) (rules x) ∙ go more (kept_body x) (elab_body τ.types τ.vars fr x)
      where
        go : (a b : Bool) (u : Option BodyCode) → fault_of (ruled (a && b) u) ≡ lowest (kind_fault a) (fault_of (ruled b u))
        go true b u = refl
        go false false u = refl
        go false true none = refl
        go false true (some c) = refl

    made-fits : (x : Body) (y : Whole) → stage (some (make x)) ≡ fits y → (c : BodyCode) × (y ≡ entered (make x) c) × (more ≡ true) × (bodied (some x) ≡ fits c)
    unfolding named ruled
    made-fits x y h =
        let z = ruled-fits (make x) (keeps_rules k.env.types (make x)) (elab_body τ.types τ.vars fr x) y
        (sym (code_of k.env (make x) (elab_body τ.types τ.vars fr x) (kinds x) (keeps_rules k.env.types (make x))) ∙ h) in
        go more refl (kept_body x) refl z.0 z.1 (ap (λ b. ruled b (elab_body τ.types τ.vars fr x)) (sym (rules x)) ∙ z.2)
      where
        go : (a : Bool) → more ≡ a → (b : Bool) → kept_body x ≡ b → (c : BodyCode) → y ≡ entered (make x) c → ruled (more && kept_body x) (elab_body τ.types τ.vars fr x) ≡ fits c
            → (c : BodyCode) × (y ≡ entered (make x) c) × (more ≡ true) × (bodied (some x) ≡ fits c)
        go true e b f c q g = (c, q, e, ap (λ (a : Bool). ruled (a && kept_body x) (elab_body τ.types τ.vars fr x)) (sym e) ∙ g)
        go false e b f c q g = absurd (unfit-fits (ap (λ (a : Bool). ruled (a && kept_body x) (elab_body τ.types τ.vars fr x)) (sym e) ∙ g))

  -- ---- `main`

  main-rules : (x : Body) → keeps_rules k.env.types (new_main x) ≡ (true && kept_body x)
  unfolding keeps_rules
  main-rules x = refl

  main-kinds : (x : Body) → strictly k.env (new_main x) ≡ (elab_body k.env.types k.env.vars no_frame x >>= λ c. some (c ∷ []))
  unfolding strictly
  main-kinds x = refl

  pub main-fault : (o : Option (Syntax.Body × ℕ)) → fault_of (whole_staged k (o >>= λ p. some (main_of p))) ≡ fault_of (body_staged k.env no_frame (bare o))
  unfolding whole_staged body_staged staged entry_of ◌>>=◌ named kind_fault
  main-fault none = refl
  main-fault (some p) = go (body_of k.env p.0)
    where
      go : (u : Option Body) → fault_of (stage k.env no_frame new_main true main-rules main-kinds (u >>= λ x. some (new_main x))) ≡ fault_of (bodied k.env no_frame new_main true main-rules main-kinds u)
      go none = refl
      go (some x) = made_fault k.env no_frame new_main true main-rules main-kinds x

  pub main-fits : (o : Option (Syntax.Body × ℕ)) (e : Entry) (cs : List BodyCode) → whole_staged k (o >>= λ p. some (main_of p)) ≡ fits (e, cs) → MainThere k o e cs
  unfolding whole_staged body_staged staged entry_of ◌>>=◌ named
  main-fits none e cs h = absurd (wrong-fits h)
  main-fits (some p) e cs h = go (body_of k.env p.0) refl h
    where
      go : (u : Option Body) → body_of k.env p.0 ≡ u → stage k.env no_frame new_main true main-rules main-kinds (u >>= λ x. some (new_main x)) ≡ fits (e, cs) → MainThere k (some p) e cs
      go none q g = absurd (unnamed-fits g)
      go (some x) q g =
          let z = made-fits k.env no_frame new_main true main-rules main-kinds x (e, cs) g in
          record {
            read = p;
            body = x;
            code = z.0;
            read_is = refl;
            body_is = q;
            entry-is = ap (λ (y : Whole). y.0) z.1;
            codes-are = ap (λ (y : Whole). y.1) z.1;
            fits-so = ap (λ (u : Option Body). named u kept_body (elab_body k.env.types k.env.vars no_frame)) q ∙ z.3;
          }

  -- ---- `proc`: the types of its parameters are known, its own name and theirs are new

  module _ (w : Name) (ps : List (Name × Syntax.TypeName)) where
    -- the fault of its own name
    abbrev own : Fault
    own = cond (new_names k.env (w ∷ [])) Clear Unnamed

    abbrev line : Option (Syntax.Body × ℕ) → Option (LineForm × ℕ)
    line o = o >>= λ p. some (proc_of w ps p)

    pub no-form : (f : Fault) → Form ≡ lowest f Form
    no-form Clear = refl
    no-form Kind = refl
    no-form Unnamed = refl
    no-form Form = refl

    -- a list with a fault of row 7: the body's own is 6, or none that counts
    list-named : (u : Option BodyCode) (b : Bool) → Unnamed ≡ lowest (lowest own Unnamed) (fault_of (ruled b u))
    unfolding ruled
    list-named u b = go (new_names k.env (w ∷ [])) b u
      where
        go : (a b : Bool) (u : Option BodyCode) → Unnamed ≡ lowest (lowest (cond a Clear Unnamed) Unnamed) (fault_of (ruled b u))
        go true false u = refl
        go true true none = refl
        go true true (some c) = refl
        go false false u = refl
        go false true none = refl
        go false true (some c) = refl

    names-split : (qs : List (Name × ℕ)) → new_names k.env (w ∷ field_names k.env qs) ≡ (new_names k.env (w ∷ []) && list_new k.env w qs)
    unfolding new_names distinct none_known listed_in list_new
    names-split qs = go (is_known k.env w) (not (listed_in k.env w (field_names k.env qs)) && distinct k.env (field_names k.env qs)) (none_known k.env (field_names k.env qs))
      where
        go : (a d n : Bool) → (d && (not a && n)) ≡ (((not false && true) && (not a && true)) && (d && n))
        go true true n = refl
        go true false n = refl
        go false true n = refl
        go false false n = refl

    pub old-entry : (b : Syntax.Body) → list_staged k.env w ps ≡ unnamed → entry_of k.env (proc_line w ps b) ≡ none
    unfolding list_staged entry_of ◌>>=◌ given named ruled
    old-entry b h = go (each (pair_of k.env) ps) h
      where
        last : (u : Option Body) (qs : List (Name × ℕ)) (t : Bool) → list_new k.env w qs ≡ t → named (given t qs) (kept_parameters k.env.types) some ≡ unnamed → (u >>= λ x. given (new_names k.env (w ∷ field_names k.env qs)) (new_proc w qs x)) ≡ none
        last none qs t e g = refl
        last (some x) qs true e g = absurd (no-ruled (kept_parameters k.env.types qs) g)
          where
            no-ruled : (t : Bool) → ruled t (some qs) ≡ unnamed → ⊥
            no-ruled true q = let z : ◌≡◌ {A = ℕ} 0 1 = cc in omega arith
            no-ruled false q = let z : ◌≡◌ {A = ℕ} 0 1 = cc in omega arith
        last (some x) qs false e g = rw (names-split qs, e) (no-and (new_names k.env (w ∷ [])))
          where
            no-and : (t : Bool) → given (t && false) (new_proc w qs x) ≡ none
            no-and true = refl
            no-and false = refl

        go : (u : Option (List (Name × ℕ))) → named (u >>= λ qs. given (list_new k.env w qs) qs) (kept_parameters k.env.types) some ≡ unnamed
            → (u >>= λ qs. body_of (within k.env qs) b >>= λ x. given (new_names k.env (w ∷ field_names k.env qs)) (new_proc w qs x)) ≡ none
        go none g = refl
        go (some qs) g = last (body_of (within k.env qs) b) qs (list_new k.env w qs) refl g

    -- whatever environment the body is read in
    pub proc-old : list_staged k.env w ps ≡ unnamed → (τ : Environment) (fr : Frame) (o : Option (Syntax.Body × ℕ))
        → fault_of (whole_staged k (line o)) ≡ lowest (lowest own Unnamed) (fault_of (body_staged τ fr (bare o)))
    unfolding whole_staged body_staged staged ◌>>=◌ named
    proc-old h τ fr none = no-form (lowest own Unnamed)
    proc-old h τ fr (some p) = rw (old-entry p.0 h) (go (body_of τ p.0))
      where
        go : (u : Option Body) → Unnamed ≡ lowest (lowest own Unnamed) (fault_of (named u kept_body (elab_body τ.types τ.vars fr)))
        go none = last (new_names k.env (w ∷ []))
          where
            last : (a : Bool) → Unnamed ≡ lowest (lowest (cond a Clear Unnamed) Unnamed) Unnamed
            last true = refl
            last false = refl
        go (some x) = list-named (elab_body τ.types τ.vars fr x) (kept_body x)

    module _ (qs : List (Name × ℕ)) (typed : each (pair_of k.env) ps ≡ some qs) (new : list_new k.env w qs ≡ true) where
      abbrev τ : Environment
      τ = within k.env qs

      abbrev fr : Frame
      fr = frame_of k.env qs

      abbrev kept : Bool
      kept = kept_parameters k.env.types qs

      proc-rules : (x : Body) → keeps_rules k.env.types (new_proc w qs x) ≡ (kept && kept_body x)
      unfolding keeps_rules
      proc-rules x = refl

      proc-kinds : (x : Body) → strictly k.env (new_proc w qs x) ≡ (elab_body τ.types τ.vars fr x >>= λ c. some (c ∷ []))
      unfolding strictly
      proc-kinds x = refl

      pub new-entry : (b : Syntax.Body) → entry_of k.env (proc_line w ps b) ≡ (body_of τ b >>= λ x. given (new_names k.env (w ∷ [])) (new_proc w qs x))
      unfolding entry_of ◌>>=◌
      new-entry b = rw (typed, names-split qs, new, and-true-right (new_names k.env (w ∷ []))) refl

      pub proc-new : (o : Option (Syntax.Body × ℕ)) → fault_of (whole_staged k (line o)) ≡ lowest (lowest own (kind_fault kept)) (fault_of (body_staged τ fr (bare o)))
      unfolding whole_staged body_staged staged ◌>>=◌ named given kind_fault ruled
      proc-new none = no-form (lowest own (kind_fault kept))
      proc-new (some p) = rw (new-entry p.0) (go (new_names k.env (w ∷ [])) (body_of τ p.0))
        where
          unknown-body : (a b : Bool) → Unnamed ≡ lowest (lowest (cond a Clear Unnamed) (kind_fault b)) Unnamed
          unknown-body true true = refl
          unknown-body true false = refl
          unknown-body false true = refl
          unknown-body false false = refl

          known-name : (b t : Bool) (u : Option BodyCode) → Unnamed ≡ lowest (lowest Unnamed (kind_fault b)) (fault_of (ruled t u))
          known-name true false u = refl
          known-name true true none = refl
          known-name true true (some c) = refl
          known-name false false u = refl
          known-name false true none = refl
          known-name false true (some c) = refl

          go : (a : Bool) (u : Option Body) → fault_of (stage τ fr (new_proc w qs) kept proc-rules proc-kinds (u >>= λ x. given a (new_proc w qs x)))
              ≡ lowest (lowest (cond a Clear Unnamed) (kind_fault kept)) (fault_of (bodied τ fr (new_proc w qs) kept proc-rules proc-kinds u))
          go a none = unknown-body a kept
          go true (some x) = made_fault τ fr (new_proc w qs) kept proc-rules proc-kinds x
          go false (some x) = known-name kept (kept_body x) (elab_body τ.types τ.vars fr x)

      -- what is known of a line that fits
      pub proc-fits : (o : Option (Syntax.Body × ℕ)) (e : Entry) (cs : List BodyCode) → whole_staged k (line o) ≡ fits (e, cs) → ProcThere k w qs o e cs
      unfolding whole_staged body_staged staged ◌>>=◌ named given
      proc-fits none e cs h = absurd (wrong-fits h)
      proc-fits (some p) e cs h = go (new_names k.env (w ∷ [])) (body_of τ p.0) refl (ap (λ (u : Option Entry). stage τ fr (new_proc w qs) kept proc-rules proc-kinds u) (sym (new-entry p.0)) ∙ h)
        where
          go : (a : Bool) (u : Option Body) → body_of τ p.0 ≡ u → stage τ fr (new_proc w qs) kept proc-rules proc-kinds (u >>= λ x. given a (new_proc w qs x)) ≡ fits (e, cs) → ProcThere k w qs (some p) e cs
          go a none q g = absurd (unnamed-fits g)
          go false (some x) q g = absurd (unnamed-fits g)
          go true (some x) q g =
              let z = made-fits τ fr (new_proc w qs) kept proc-rules proc-kinds x (e, cs) g in
              record {
                read = p;
                body = x;
                code = z.0;
                read_is = refl;
                body_is = q;
                entry-is = ap (λ (y : Whole). y.0) z.1;
                codes-are = ap (λ (y : Whole). y.1) z.1;
                kept-so = z.2;
                fits-so = ap (λ (u : Option Body). named u kept_body (elab_body τ.types τ.vars fr)) q ∙ z.3;
              }

    -- a list is of one sort or the other
    pub list-old-or-new : (list_staged k.env w ps ≡ unnamed) ⊎ ((qs : List (Name × ℕ)) × (each (pair_of k.env) ps ≡ some qs) × (list_new k.env w qs ≡ true) × (fault_of (list_staged k.env w ps) ≡ kind_fault (kept_parameters k.env.types qs)))
    unfolding list_staged ◌>>=◌ given named ruled kind_fault
    list-old-or-new = go (each (pair_of k.env) ps) refl
      where
        by : (b : Bool) (qs : List (Name × ℕ)) → fault_of (ruled b (some qs)) ≡ kind_fault b
        by true qs = refl
        by false qs = refl

        last : (qs : List (Name × ℕ)) → each (pair_of k.env) ps ≡ some qs → (t : Bool) → list_new k.env w qs ≡ t
            → (named (given t qs) (kept_parameters k.env.types) some ≡ unnamed) ⊎ ((rs : List (Name × ℕ)) × (each (pair_of k.env) ps ≡ some rs) × (list_new k.env w rs ≡ true) × (fault_of (named (given t qs) (kept_parameters k.env.types) some) ≡ kind_fault (kept_parameters k.env.types rs)))
        last qs e false n = inl refl
        last qs e true n = inr (qs, e, n, by (kept_parameters k.env.types qs) qs)

        go : (u : Option (List (Name × ℕ))) → each (pair_of k.env) ps ≡ u
            → (named (u >>= λ qs. given (list_new k.env w qs) qs) (kept_parameters k.env.types) some ≡ unnamed) ⊎ ((qs : List (Name × ℕ)) × (each (pair_of k.env) ps ≡ some qs) × (list_new k.env w qs ≡ true)
            × (fault_of (named (u >>= λ qs. given (list_new k.env w qs) qs) (kept_parameters k.env.types) some) ≡ kind_fault (kept_parameters k.env.types qs)))
        go none e = inl refl
        go (some qs) e = last qs e (list_new k.env w qs) refl
