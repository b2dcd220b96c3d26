-- A body's fault with the kinds left out, from the checker's walk and the other rules.
use mathlib.Core.Path.{◌≡◌, refl, ap, ◌∙◌}
use mathlib.Core.Bool.{Bool, true, false}
use mathlib.Core.List.{List}
use mathlib.Core.Option.{Option, none, some}
use Prim.Native.Nat.{ℕ}
use lib.ListN.{length}
use Rattle.law.specs.Base.{◌>>=◌}
use Rattle.law.specs.Code.{BodyCode, Frame, no_frame}
use Rattle.law.specs.Elaborate.{elab_body}
use Rattle.law.specs.Environment.{Environment}
use Rattle.law.specs.Names.{body_of}
use Rattle.law.specs.Rules.{kept_body}
use Rattle.law.specs.Script.{Body}
use Rattle.rule_stages.specs.Stages.{ruled, named, staged, body_staged}
use Rattle.law.specs.Syntax as Syntax
use Rattle.law.specs.Trees.{first}
use Rattle.law_theorems.specs.Readings.{stack_at}
use Rattle.text_heads.specs.Parts.{body_in}
use Rattle.rule_faults.specs.declared.Fault.{Fault}
use Rattle.rule_faults.specs.declared.Got.{Got}
use Rattle.rule_faults.specs.Got.{fault_of, lowest}
use Rattle.rule_statements.specs.Walks.{bare}
use Rattle.rule_parameters.specs.declared.framing.Opened.{Opened}
use Rattle.rule_judge.specs.Entering.{GivesOpened}
use Rattle.rule_restrictions.specs.Walks.{KeepsBody}
use Rattle.rule_known.specs.declared.Known.{Known}
use Rattle.rule_judge_loose.specs.Easing.{eased_by, loose_body, with_fault, GivesEased}
use Rattle.rule_judge_loose.specs.declared.easing.Eased.{Eased}

-- the checker's fault is that of the rules, or of the kinds alone
ruled-eased : (t kept : Bool) (u : Option BodyCode) (b : Body) → kept ≡ t → eased_by (fault_of (ruled t u)) kept ≡ fault_of (ruled t (some b))
unfolding ruled
ruled-eased false kept u b e = rw e refl
ruled-eased true kept none b e = rw e refl
ruled-eased true kept (some c) b e = refl

eased-is : (σ : Environment) (fr : Frame) (o : Option (Syntax.Body × ℕ)) (kept : Bool) → ((p : Syntax.Body × ℕ) (b : Body) → o ≡ some p → body_of σ p.0 ≡ some b → kept ≡ kept_body b)
    → eased_by (fault_of (body_staged σ fr (bare o))) kept ≡ fault_of (loose_body σ (bare o))
unfolding body_staged loose_body staged named ◌>>=◌
eased-is σ fr none kept h = refl
eased-is σ fr (some p) kept h = go (body_of σ p.0) refl
  where
    go : (u : Option Body) → body_of σ p.0 ≡ u → eased_by (fault_of (named u kept_body (elab_body σ.types σ.vars fr))) kept ≡ fault_of (named u kept_body some)
    go none e = refl
    go (some b) e = ruled-eased (kept_body b) kept (elab_body σ.types σ.vars fr b) b (h p b refl e)

pub body-eased : (s l ts : List ℕ) (kn : Known) (o : Opened) (kept : Bool) (g : Got) (l' : List ℕ) (f : Fault) → KeepsBody s l o.scope o.at kept → GivesOpened s l ts kn o g l'
    → f ≡ eased_by g.fault kept → length l' ≡ length l → GivesEased s l ts kn o (record { fault = f; stmts = g.kind }) l'
body-eased s l ts kn o kept g l' f K B e h = record {
  keeps = B.gives.leaves.keeps;
  long = h;
  says = λ σ bs S n.
      let T = B.gives.says σ no_frame bs S n in
      record {
        fault-is = e ∙ ap (λ (x : Fault). eased_by x kept) T.fault-is
            ∙ eased-is σ no_frame (body_in kn.stmts (first (stack_at s o.at))) kept (λ p b h i. K.says ts o.top σ bs S kn.stmts p b h i);
        number = T.number;
      };
}

pub with-fault-is : (b : Eased) (f h : Fault) → h ≡ lowest f b.fault → record { fault = h; stmts = b.stmts } ≡ with_fault b f
with-fault-is b f h e = rw e refl
