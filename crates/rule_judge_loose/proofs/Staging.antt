-- Lines with a body: their stages, kinds left out, from those of the body.
use mathlib.Core.Path.{◌≡◌, refl, sym, ap, ◌∙◌}
use mathlib.Core.Bool.{Bool, true, false, cond, ◌&&◌}
use mathlib.Core.List.{List, [], ◌∷◌}
use mathlib.Core.Option.{Option, none, some}
use Prim.Native.Nat.{ℕ}
use Rattle.law.specs.Base.{Name, ◌>>=◌, each, given}
use Rattle.law.specs.Environment.{Declared, Environment, within}
use Rattle.law.specs.Names.{entry_of, body_of, new_names, pair_of}
use Rattle.law.specs.Rules.{keeps_rules, kept_body, kept_parameters}
use Rattle.law.specs.Script.{Body, Entry, new_proc, new_main}
use Rattle.rule_stages.specs.Stages.{unnamed, fits, ruled, named, staged}
use Rattle.law.specs.Syntax as Syntax
use Rattle.law.specs.Syntax.{LineForm}
use Rattle.rule_faults.specs.Got.{lowest, fault_of}
use Rattle.rule_statements.specs.Walks.{bare}
use Rattle.rule_faults.specs.declared.Fault.{Fault}
use Rattle.rule_faults.specs.declared.Fault.TheVariants.{Clear, Kind, Name as Unnamed, Form}
use Rattle.rule_declarations.specs.Lines.{entry_staged}
use Rattle.rule_expressions.proofs.Joining.{wrong-fits, unnamed-fits, unfit-fits, fits-inj}
use Rattle.rule_parameters.specs.Listing.{list_new, list_staged, kind_fault}
use Rattle.rule_judge.proofs.Bodies.{main_of, proc_of, old-entry, new-entry, no-form}
use Rattle.rule_judge_loose.specs.Easing.{loose_body}

-- what is known of the body of a line that fits
pub record BodyRead (k : Declared) (o : Option (Syntax.Body × ℕ)) (make : Body → Entry) (e : Entry) : Type 0 where
  pub read : Syntax.Body × ℕ
  pub body : Body
  pub read_is : o ≡ some read
  pub body_is : body_of k.env read.0 ≡ some body
  pub entry-is : e ≡ make body

-- of a procedure with the parameters qs
pub record ProcRead (k : Declared) (w : Name) (qs : List (Name × ℕ)) (o : Option (Syntax.Body × ℕ)) (e : Entry) : Type 0 where
  pub read : Syntax.Body × ℕ
  pub body : Body
  pub read_is : o ≡ some read
  pub body_is : body_of (within k.env qs) read.0 ≡ some body
  pub entry-is : e ≡ new_proc w qs body
  pub kept-so : kept_parameters k.env.types qs ≡ true

ruled-fault : {A B : Type 0} (t : Bool) (a : A) (b : B) → fault_of (ruled t (some a)) ≡ fault_of (ruled t (some b))
unfolding ruled
ruled-fault true a b = refl
ruled-fault false a b = refl

ruled-fits : {A : Type 0} (t : Bool) (a e : A) → ruled t (some a) ≡ fits e → e ≡ a
unfolding ruled
ruled-fits true a e h = sym (fits-inj h)
ruled-fits false a e h = absurd (unfit-fits h)

module _ (k : Declared) where
  -- ---- `main`

  pub main-fault : (o : Option (Syntax.Body × ℕ)) → fault_of (loose_body k.env (bare o)) ≡ fault_of (entry_staged k (bare (o >>= λ p. some (main_of p))))
  unfolding entry_staged loose_body staged named entry_of keeps_rules ◌>>=◌
  main-fault none = refl
  main-fault (some p) = go (body_of k.env p.0)
    where
      go : (u : Option Body) → fault_of (named u kept_body some) ≡ fault_of (named {C = Entry} (u >>= λ x. some (new_main x)) (keeps_rules k.env.types) some)
      go none = refl
      go (some x) = ruled-fault (kept_body x) x (new_main x)

  pub main-fits : (o : Option (Syntax.Body × ℕ)) (e : Entry) → entry_staged k (bare (o >>= λ p. some (main_of p))) ≡ fits e → BodyRead k o new_main e
  unfolding entry_staged staged named entry_of keeps_rules ◌>>=◌
  main-fits none e h = absurd (wrong-fits h)
  main-fits (some p) e h = go (body_of k.env p.0) refl h
    where
      go : (u : Option Body) → body_of k.env p.0 ≡ u → named {C = Entry} (u >>= λ x. some (new_main x)) (keeps_rules k.env.types) some ≡ fits e → BodyRead k (some p) new_main e
      go none i h = absurd (unnamed-fits h)
      go (some x) i h = record { read = p; body = x; read_is = refl; body_is = i; entry-is = ruled-fits (kept_body x) (new_main x) e h }

  -- ---- `proc`: the types of its parameters are known, its own name and theirs are new

  module _ (w : Name) (ps : List (Name × Syntax.TypeName)) where
    -- the fault of its own name
    abbrev own : Fault
    own = cond (new_names k.env (w ∷ [])) Clear Unnamed

    abbrev line : Option (Syntax.Body × ℕ) → Option (LineForm × ℕ)
    line o = o >>= λ p. some (proc_of w ps p)

    -- a list with a fault of row 7: the body's own is 6, or none that counts
    list-named : (a b : Bool) (x : Body) → Unnamed ≡ lowest (lowest (cond a Clear Unnamed) Unnamed) (fault_of (ruled b (some x)))
    unfolding ruled
    list-named true true x = refl
    list-named true false x = refl
    list-named false true x = refl
    list-named false false x = refl

    -- whatever environment the body is read in
    pub proc-old : list_staged k.env w ps ≡ unnamed → (τ : Environment) (o : Option (Syntax.Body × ℕ))
        → fault_of (entry_staged k (bare (line o))) ≡ lowest (lowest own Unnamed) (fault_of (loose_body τ (bare o)))
    unfolding entry_staged loose_body staged named ◌>>=◌
    proc-old h τ none = no-form k w ps (lowest own Unnamed)
    proc-old h τ (some p) = rw (old-entry k w ps p.0 h) (go (body_of τ p.0))
      where
        last : (a : Bool) → Unnamed ≡ lowest (lowest (cond a Clear Unnamed) Unnamed) Unnamed
        last true = refl
        last false = refl

        go : (u : Option Body) → Unnamed ≡ lowest (lowest own Unnamed) (fault_of (named u kept_body some))
        go none = last (new_names k.env (w ∷ []))
        go (some x) = list-named (new_names k.env (w ∷ [])) (kept_body x) x

    pub old-fits : list_staged k.env w ps ≡ unnamed → (o : Option (Syntax.Body × ℕ)) (e : Entry) → entry_staged k (bare (line o)) ≡ fits e → ⊥
    unfolding entry_staged staged named ◌>>=◌
    old-fits h none e g = wrong-fits g
    old-fits h (some p) e g = unnamed-fits (ap (λ (u : Option Entry). named {C = Entry} u (keeps_rules k.env.types) some) (sym (old-entry k w ps p.0 h)) ∙ g)

    module _ (qs : List (Name × ℕ)) (typed : each (pair_of k.env) ps ≡ some qs) (new : list_new k.env w qs ≡ true) where
      abbrev τ : Environment
      τ = within k.env qs

      abbrev kept : Bool
      kept = kept_parameters k.env.types qs

      both : (a b : Bool) (e : Entry) (x : Body) → fault_of (ruled (a && b) (some e)) ≡ lowest (kind_fault a) (fault_of (ruled b (some x)))
      unfolding ruled kind_fault
      both true true e x = refl
      both true false e x = refl
      both false true e x = refl
      both false false e x = refl

      unknown-body : (a b : Bool) → Unnamed ≡ lowest (lowest (cond a Clear Unnamed) (kind_fault b)) Unnamed
      unfolding kind_fault
      unknown-body true true = refl
      unknown-body true false = refl
      unknown-body false true = refl
      unknown-body false false = refl

      known-name : (b t : Bool) (x : Body) → Unnamed ≡ lowest (lowest Unnamed (kind_fault b)) (fault_of (ruled t (some x)))
      unfolding kind_fault ruled
      known-name true true x = refl
      known-name true false x = refl
      known-name false true x = refl
      known-name false false x = refl

      clear_first : (f : Fault) → lowest Clear f ≡ f
      clear_first Clear = refl
      clear_first Kind = refl
      clear_first Unnamed = refl
      clear_first Form = refl

      pub proc-new : (o : Option (Syntax.Body × ℕ)) → fault_of (entry_staged k (bare (line o))) ≡ lowest (lowest own (kind_fault kept)) (fault_of (loose_body τ (bare o)))
      unfolding entry_staged loose_body staged named ◌>>=◌ given keeps_rules
      proc-new none = no-form k w ps (lowest own (kind_fault kept))
      proc-new (some p) = rw (new-entry k w ps qs typed new p.0) (go (new_names k.env (w ∷ [])) (body_of τ p.0))
        where
          go : (a : Bool) (u : Option Body) → fault_of (named {C = Entry} (u >>= λ x. given a (new_proc w qs x)) (keeps_rules k.env.types) some)
              ≡ lowest (lowest (cond a Clear Unnamed) (kind_fault kept)) (fault_of (named u kept_body some))
          go a none = unknown-body a kept
          go true (some x) = both kept (kept_body x) (new_proc w qs x) x ∙ ap (λ (f : Fault). lowest f (fault_of (ruled (kept_body x) (some x)))) (sym (clear_first (kind_fault kept)))
          go false (some x) = known-name kept (kept_body x) x

      -- what is known of a line that fits
      pub proc-fits : (o : Option (Syntax.Body × ℕ)) (e : Entry) → entry_staged k (bare (line o)) ≡ fits e → ProcRead k w qs o e
      unfolding entry_staged staged named ruled ◌>>=◌ given keeps_rules
      proc-fits none e h = absurd (wrong-fits h)
      proc-fits (some p) e h = go (new_names k.env (w ∷ [])) (body_of τ p.0) refl
          (ap (λ (u : Option Entry). named {C = Entry} u (keeps_rules k.env.types) some) (sym (new-entry k w ps qs typed new p.0)) ∙ h)
        where
          kept-first : (a b : Bool) (y : Entry) → ruled (a && b) (some y) ≡ fits e → a ≡ true
          kept-first true b y g = refl
          kept-first false b y g = absurd (unfit-fits g)

          go : (a : Bool) (u : Option Body) → body_of τ p.0 ≡ u → named {C = Entry} (u >>= λ x. given a (new_proc w qs x)) (keeps_rules k.env.types) some ≡ fits e → ProcRead k w qs (some p) e
          go a none q g = absurd (unnamed-fits g)
          go false (some x) q g = absurd (unnamed-fits g)
          go true (some x) q g = record {
            read = p;
            body = x;
            read_is = refl;
            body_is = q;
            entry-is = ruled-fits (kept && kept_body x) (new_proc w qs x) e g;
            kept-so = kept-first kept (kept_body x) (new_proc w qs x) g;
          }
