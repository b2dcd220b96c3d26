-- `proc` lines: what the answer for their parts tells, by their list of parameters.
use mathlib.Core.Path.{◌≡◌, refl, sym, ap, ◌∙◌, subst}
use mathlib.Core.Bool.{Bool, true, false, cond, true≢false}
use mathlib.Core.List.{List, [], ◌∷◌, map}
use mathlib.Core.Logic.{◌⊎◌, inl, inr}
use mathlib.Core.Option.{Option, none, some}
use Prim.Native.Nat.{ℕ, ◌+◌, ◌%◌, ◌<◌, ◌≤◌}
use native.Mathlib.Nat.{mod-eq_of_lt}
use lib.Dec.{eqb}
use Rattle.leaf_bytes.specs.Bytes.{small}
use native.Mathlib.Omega.{arith}
use lib.ListN.{length}
use Rattle.law.specs.Base.{Name, ◌>>=◌, each}
use Rattle.law.specs.Environment.{Declared, Environment, frame_of, parameter_types, within}
use Rattle.law.specs.Names.{distinct, none_known, listed_in, pair_of, field_names}
use Rattle.law.specs.Rules.{kept_parameters}
use Rattle.table_names.specs.Keys.{keyed}
use Rattle.rule_faults.specs.declared.Fault.TheVariants.{Clear, Name as Unnamed, Form}
use Rattle.table_scope.specs.Scene.{Scene, meaning_here, with_pairs}
use Rattle.rule_declarations.specs.Names.{new_fault}
use Rattle.law.specs.Forms.{is_proc}
use Rattle.law.specs.Syntax as Syntax
use Rattle.law.specs.Trees.{nodes_in, first, word_at, Trees, Run}
use Rattle.law_theorems.specs.Readings.{stack_at}
use Rattle.rule_faults.specs.Got.{lowest, fault_of, is_form}
use Rattle.text_parts.specs.Parts.{LeafAt}
use Rattle.text_heads.specs.Parts.{rest, name_in, body_in}
use Rattle.rule_known.specs.declared.Known.{Known}
use Rattle.rule_known.specs.declared.Entered.{Entered}
use Rattle.rule_parameters.specs.Framing.{Above, opened_main, base_of, lets_in, opened_by, scope_after, nothing_framed}
use Rattle.rule_parameters.specs.declared.framing.Opened.{Opened}
use Rattle.rule_parameters.specs.Listing.{list_new, list_staged, list_of, kind_fault, parameters_in, body_part, ListTold, list-none, list-wrong, list_read, no_list}
use Rattle.law.specs.Syntax.{TypeName}
use Rattle.rule_stages.specs.Stages.{unnamed, staged}
use Rattle.rule_atoms.proofs.Telling.{wrong-fits}
use Rattle.rule_pairs.specs.Pairs.{pairs_in}
use Rattle.rule_parameters.specs.declared.listing.Listed.{Listed}
use Rattle.rule_parameters.proofs.Openings.{opened-scene}
use Rattle.table_scope.proofs.Kept.{scene-kept}
use Rattle.rule_declarations.specs.Lines.{entry_staged}
use Rattle.rule_body_notes.specs.Noting.{noted}
use Rattle.rule_judge.specs.Whole.{head_in}
use Rattle.rule_judge.proofs.Bodies.{proc_of, proc-shape, list-old-or-new}
use Rattle.rule_judge.proofs.BodyEnters.{above-none, none-laid}
use Rattle.rule_judge.proofs.ProcEnters.{rest-small, pairs_small, list-small, resolved-length, opening-is, fit-few, counted, name-first, none_first, kind-form, in-kind, list-there, no-list-there, body-after, body-alone}
use Rattle.rule_judge_loose.specs.Standing.{LooseStanding}
use Rattle.rule_judge_loose.specs.Easing.{GivesEased, with_fault}
use Rattle.rule_judge_loose.specs.Entering.{ProcDeclared, LooseListed, ProcLoosely, loose-wrong, loose-right, LooseTold}
use Rattle.rule_judge_loose.proofs.ProcLines.{listed-told, old-told}

-- no form: a fault of row 6
pub wrong-told : (s l ts tb : List ℕ) (top : ℕ) (k : Declared) (o : Option (Syntax.LineForm × ℕ)) (g : Entered) → o ≡ none → g.fault ≡ Form → LooseTold s l ts tb top k o g
unfolding entry_staged staged ◌>>=◌
wrong-told s l ts tb top k o g h e = rw h (record { fault-is = e; within-is = λ x q. absurd (wrong-fits q); stands = λ x q. absurd (wrong-fits q) })

module _ {s l ts tb : List ℕ} {kn : Known} {k : Declared} (S : LooseStanding s l ts tb kn k) (going : k.ended ≡ false) (at p q : ℕ) (there : LeafAt s at p q) (inside : p < length s) (called : name_in (first (stack_at s at)) ≡ some (map small (word_at s p)))
    (short : nodes_in (first (stack_at s q)) ≤ 32768) (e : Entered) (l'' tb'' : List ℕ) where
  abbrev wn : Name
  wn = map small (word_at s p)

  abbrev σ : Environment
  σ = k.env

  abbrev us : Trees Run
  us = first (stack_at s q)

  few-in : (vs : Trees Run) → nodes_in vs ≤ nodes_in (first (stack_at s q)) → k.stmts + nodes_in vs ≤ 65535
  few-in vs h = omega (arith, h, short, S.few-stmts, S.few-nodes)

  proc-read : head_in is_proc k.stmts (first (stack_at s at)) ≡ (parameters_in us >>= λ ps. body_in k.stmts (body_part us) >>= λ b. some (proc_of wn ps b))
  proc-read =
      proc-shape k.stmts (first (stack_at s at))
      ∙ name-first (name_in (first (stack_at s at))) wn (λ v. parameters_in (rest (first (stack_at s at))) >>= λ ps. body_in k.stmts (body_part (rest (first (stack_at s at)))) >>= λ b. some (proc_of v ps b)) called
      ∙ ap (λ (vs : Trees Run). parameters_in vs >>= λ ps. body_in k.stmts (body_part vs) >>= λ b. some (proc_of wn ps b)) (ap rest there.leaf.here)

  read-so : (ps : List (Name × TypeName)) (vs : Trees Run) → parameters_in us ≡ some ps → body_part us ≡ vs → head_in is_proc k.stmts (first (stack_at s at)) ≡ (body_in k.stmts vs >>= λ b. some (proc_of wn ps b))
  read-so ps vs h g =
      proc-read ∙ name-first (parameters_in us) ps (λ ps. body_in k.stmts (body_part us) >>= λ b. some (proc_of wn ps b)) h
      ∙ ap (λ (vs : Trees Run). body_in k.stmts vs >>= λ b. some (proc_of wn ps b)) g

  abbrev Goal : Type 0
  Goal = LooseTold s l'' ts tb'' kn.state.top k (head_in is_proc k.stmts (first (stack_at s at))) e

  not-form : (ps : List (Name × TypeName)) → fault_of (list_staged σ wn ps) ≡ Form → ⊥
  not-form ps h = go (list-old-or-new k wn ps)
    where
      go : (list_staged σ wn (ps) ≡ unnamed) ⊎ ((qs : List (Name × ℕ)) × (each (pair_of σ) (ps) ≡ some qs) × (list_new σ wn qs ≡ true) × (fault_of (list_staged σ wn (ps)) ≡ kind_fault (kept_parameters σ.types qs))) → ⊥
      go (inl a) = true≢false (ap is_form (sym h ∙ ap fault_of a))
      go (inr x) = true≢false (ap is_form (sym h ∙ x.3) ∙ kind-form (kept_parameters σ.types x.0))

  -- no list
  alone-told : (c : Listed) → c ≡ no_list q → list_of us ≡ none → LooseListed s l ts tb kn (lowest (new_fault Clear (meaning_here s l kn.state.scope p)) c.fault) c p e l'' tb'' → Goal
  unfolding within scope_after each list_new distinct none_known listed_in field_names kept_parameters kind_fault frame_of
  alone-told c h a L =
      let n = L.opens.frames.none (ap (λ (x : Listed). x.count) h) in
      let o : L.opened ≡ opened_main kn.state q = L.opens.opened ∙ ap (opened_by kn.state c) n.0 ∙ ap (λ (x : Listed). opened_by kn.state x (nothing_framed kn.state)) h in
      let B : GivesEased s l ts kn (opened_main kn.state q) L.answer L.list =
      subst (λ (x : Opened). GivesEased s l ts kn x L.answer L.list) o (subst (λ (x : List ℕ). GivesEased s x ts kn L.opened L.answer L.list) n.1 L.gives) in
      rw (L.noted-so ∙ ap (λ (x : Opened). noted s kn x tb) o, read-so [] us (no-list-there us a) (body-alone us a))
      (listed-told S going p inside [] [] refl refl (opened_main kn.state q) (omega (arith, S.holds.plain)) l (above-none kn.state.top l) (few-in us (omega arith)) L.answer L.list B S.holds.scene
      c.fault (ap (λ (x : Listed). x.fault) h) c.count (λ _. ap (λ (x : Listed). x.count) h) (λ i. absurd (omega (arith, i))) (λ _ _. none-laid kn.state.top l) e l'' (subst (λ (x : Opened). ProcDeclared kn c.count x (with_fault L.answer (lowest (new_fault Clear (meaning_here s l kn.state.scope p)) c.fault)) (keyed s p) L.list e l'') o L.ends))

  -- a list
  module _ (c : Listed) (L : LooseListed s l ts tb kn (lowest (new_fault Clear (meaning_here s l kn.state.scope p)) c.fault) c p e l'' tb'') (f : Name × TypeName) (fs : List (Name × TypeName))
      (hl : list_of us ≡ some (first (stack_at s c.pairs))) (hp : pairs_in (first (stack_at s c.pairs)) ≡ some (f ∷ fs)) (later : 1 ≤ c.pairs) (in-text : c.pairs ≤ length s) (nx : first (stack_at s c.next) ≡ rest us)
      (cf : length (f ∷ fs) ≤ 1000 → c.count ≡ length (f ∷ fs)) (cm : 1000 < length (f ∷ fs) → c.count ≡ 1000) (hf : c.fault ≡ fault_of (list_staged σ wn (f ∷ fs))) where
    abbrev o : Opened
    o = opened_by kn.state c L.opens.framed

    B : GivesEased s L.framed ts kn (opened_by kn.state c L.opens.framed) L.answer L.list
    B = subst (λ (x : Opened). GivesEased s L.framed ts kn x L.answer L.list) L.opens.opened L.gives

    P : ProcDeclared kn c.count (opened_by kn.state c L.opens.framed) (with_fault L.answer (lowest (new_fault Clear (meaning_here s l kn.state.scope p)) c.fault)) (keyed s p) L.list e l''
    P = subst (λ (x : Opened). ProcDeclared kn c.count x (with_fault L.answer (lowest (new_fault Clear (meaning_here s l kn.state.scope p)) c.fault)) (keyed s p) L.list e l'') L.opens.opened L.ends

    A : Above kn.state.top l L.opens.framed.top L.framed
    A = L.opens.frames.above

    few-here : k.stmts + nodes_in (first (stack_at s c.next)) ≤ 65535
    few-here = few-in (first (stack_at s c.next)) (rw nx (rest-small us))

    read_here : head_in is_proc k.stmts (first (stack_at s at)) ≡ (body_in k.stmts (first (stack_at s c.next)) >>= λ b. some (proc_of wn (f ∷ fs) b))
    read_here = read-so (f ∷ fs) (first (stack_at s c.next)) (list-there us (first (stack_at s c.pairs)) (f ∷ fs) hl hp) (body-after us (first (stack_at s c.pairs)) hl ∙ sym nx)

    scope-low : (scope_after kn.state c).pairs ≤ length s
    unfolding scope_after
    scope-low = go (eqb c.pairs 0) (lets_in c.fault)
      where
        plain : kn.state.scope.pairs ≤ length s
        plain = omega (arith, S.holds.plain)

        go : (x y : Bool) → (cond x kn.state.scope (cond y (with_pairs kn.state.scope c.pairs kn.state.vars kn.state.parameters) kn.state.scope)).pairs ≤ length s
        go true y = plain
        go false true = in-text
        go false false = plain

    list-old : list_staged σ wn (f ∷ fs) ≡ unnamed → Goal
    unfolding scope_after
    list-old h =
        let u : c.fault ≡ Unnamed = hf ∙ ap fault_of h in
        let N : Scene s L.framed ts kn.state.scope L.opens.framed.top σ S.places = scene-kept S.holds.scene A.keeps A.up in
        let sc : scope_after kn.state c ≡ kn.state.scope = rw u (same (eqb c.pairs 0)) in
        rw read_here (old-told S p (f ∷ fs) h o L.framed few-here L.answer L.list B (rw sc N) c.fault u c.count e l'' tb'' P)
      where
        same : (b : Bool) → cond b kn.state.scope kn.state.scope ≡ kn.state.scope
        same true = refl
        same false = refl

    list-new : (qs : List (Name × ℕ)) → each (pair_of σ) (f ∷ fs) ≡ some qs → list_new σ wn qs ≡ true → fault_of (list_staged σ wn (f ∷ fs)) ≡ kind_fault (kept_parameters σ.types qs) → Goal
    list-new qs ty nw kf =
        let m = resolved-length σ (f ∷ fs) qs ty in
        let z = pairs_small (first (stack_at s c.pairs)) (f ∷ fs) hp in
        let y = list-small us (first (stack_at s c.pairs)) hl in
        let lets : lets_in c.fault ≡ true = ap lets_in (hf ∙ kf) ∙ in-kind (kept_parameters σ.types qs) in
        let N = opened-scene S.holds c later lets (f ∷ fs) qs hp ty (omega (arith, m, z, y, short)) wn nw A in
        let base : base_of kn.state ≡ 2048 + length σ.parameters = let v : kn.state.parameters % 2048 ≡ kn.state.parameters = mod-eq_of_lt (omega (arith, S.holds.few-parameters)) in omega (arith, v, S.holds.parameters-are) in
        rw (L.noted-so ∙ ap (λ (x : Opened). noted s kn x tb) L.opens.opened, read_here) (listed-told S going p inside (f ∷ fs) qs ty nw o scope-low L.framed A few-here L.answer L.list B N c.fault (hf ∙ kf) c.count (λ i. cf (omega (arith, i, m)) ∙ sym m) (λ i. cm (omega (arith, i, m)))
        (λ cl fit.
        let n : c.count ≡ length (f ∷ fs) = counted (length (f ∷ fs)) c.count cf cm (fit-few kn.state c.count fit) in
        L.opens.frames.says cl fit (omega (arith, n)) σ S.places S.holds.scene (parameter_types qs) (record { read = f ∷ fs; pairs = qs; read_is = hp; pairs-are = ty; types_are = refl; count-is = n })
        ∙ opening-is σ (base_of kn.state) qs kn.state.top l (omega (arith, m)) base) e l'' P)

    pub list-told : Goal
    list-told = go (list-old-or-new k wn (f ∷ fs))
      where
        go : (list_staged σ wn (f ∷ fs) ≡ unnamed) ⊎ ((qs : List (Name × ℕ)) × (each (pair_of σ) (f ∷ fs) ≡ some qs) × (list_new σ wn qs ≡ true) × (fault_of (list_staged σ wn (f ∷ fs)) ≡ kind_fault (kept_parameters σ.types qs))) → Goal
        go (inl a) = list-old a
        go (inr x) = list-new x.0 x.1 x.2 x.3

  pub proc-told : ProcLoosely s l ts tb kn p q e l'' tb'' → Goal
  proc-told (loose-wrong c C z ge gl gt) = go (C.says kn.state.top σ S.places S.holds.scene)
    where
      go : ListTold s σ wn q c → Goal
      go (list-none a b) = absurd (true≢false (ap is_form (sym z ∙ ap (λ (x : Listed). x.fault) b)))
      go (list-wrong a b) = wrong-told s l'' ts tb'' kn.state.top k _ e (proc-read ∙ none_first (parameters_in us) (λ ps. body_in k.stmts (body_part us) >>= λ b. some (proc_of wn ps b)) a) (ap (λ (x : Entered). x.fault) ge)
      go (list_read f fs a b d h i j m u n) = absurd (not-form (f ∷ fs) (sym n ∙ z))
  proc-told (loose-right c C nf L) = go (C.says kn.state.top σ S.places S.holds.scene)
    where
      go : ListTold s σ wn q c → Goal
      go (list-none a b) = alone-told c b a L
      go (list-wrong a b) = absurd (true≢false (sym (ap is_form b) ∙ nf))
      go (list_read f fs a b d h i j m u n) = list-told c L f fs a b d h i m u n
