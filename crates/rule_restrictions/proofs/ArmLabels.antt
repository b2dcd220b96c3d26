-- Past the labels of an arm: the ways of the walk.
use mathlib.Core.Path.{◌≡◌, refl, sym, ap, ◌∙◌}
use mathlib.Core.Bool.{Bool, true, false, ◌&&◌}
use mathlib.Core.List.{List, [], ◌∷◌}
use mathlib.Core.Option.{Option, none, some}
use Prim.Native.Nat.{ℕ, ◌<◌}
use native.Mathlib.Omega.{arith}
use Rattle.law.specs.Base.{◌>>=◌, each}
use Rattle.law.specs.Forms.{constant}
use Rattle.law_theorems.specs.FormsByDepth.{stmt}
use Rattle.law.specs.Rules.{all_plain}
use Rattle.law.specs.Syntax.{Constant, Stmt}
use Rattle.law.specs.Trees.{Tree, Trees, end, ◌then◌, Run, first}
use Rattle.law_theorems.specs.Readings.{stack_at}
use Rattle.law.specs.Words.{worded}
use Rattle.law_theorems.proofs.Inversion.{none-some, some_inj, bind-some}
use Rattle.text_heads.specs.Parts.{part_of, constant_in, stmt_in, arm_in}
use Rattle.std.specs.Prelude.{Option as Maybe, Some, None}
use Rattle.text_parts.specs.Parts.{ShutAt, Shuts}
use Rattle.text_skips.specs.Skips.{Skips}
use Rattle.rule_constants.specs.Plain.{plain_tree, plain_first}
use Rattle.rule_constants.proofs.Exprs.{constant-plain}
use Rattle.rule_statements.specs.Cases.{arm_from}
use Rattle.rule_statements.specs.Chains.{many}
use Rattle.rule_restrictions.specs.declared.arm_parts.ArmPart.{ArmPart}
use Rattle.rule_restrictions.specs.declared.arm_parts.ArmPart.TheVariants as part
use Rattle.rule_restrictions.specs.declared.arm_parts.AfterArm.TheVariants as after
use Rattle.rule_restrictions.specs.ArmParts.{LabelBefore, PartBy, SomePart, Labelled, LabelledBy, AllAre, AfterLabels}
use Rattle.rule_restrictions.proofs.Passing.{split, skip-then}

-- ---- one part

module _ (s : List ℕ) (at q : ℕ) (t : Bool) (h : t ≡ plain_first (first (stack_at s at))) where
  pub label-plain : t ≡ true → LabelBefore s at q (part.Label q)
  label-plain e = record { says = (refl, sym h ∙ e) }

  pub label-bad : t ≡ false → LabelBefore s at q part.Bad
  label-bad e = record { says = sym h ∙ e }

pub ruleset label-laws = (label-plain, label-bad)

module _ (s : List ℕ) (at q : ℕ) (S : Skips s at q) (e : Maybe ℕ) (E : Shuts s q e) where
  pub part-last : (r : ℕ) → e ≡ Some r → SomePart s at part.Last
  part-last r f = record { says = λ t us g. let C : ShutAt s q r = rw f at E.says in sym (skip-then S t us g) ∙ C.here }

  pub part-label : (r : ArmPart) → e ≡ None → LabelBefore s at q r → SomePart s at r
  unfolding plain_first
  part-label part.Missing f L = absurd L.says
  part-label part.Last f L = absurd L.says
  part-label (part.Label p) f L = record {
    says = λ t us g.
        let m = rw f at E.says in
        let k = L.says in
        (ap (λ (i : ℕ). first (stack_at s i)) k.0 ∙ skip-then S t us g, (λ z. m (skip-then S t us g ∙ z), sym (ap plain_first g) ∙ k.1));
  }
  part-label part.Bad f L = record { says = λ t us g. let m = rw f at E.says in (λ z. m (skip-then S t us g ∙ z), sym (ap plain_first g) ∙ L.says) }

pub ruleset some-laws = (part-last, part-label)

-- the part with the tree it is
labelled_by : (s : List ℕ) (at : ℕ) (t : Tree Run) (us : Trees Run) (r : ArmPart) → first (stack_at s at) ≡ (t then us) → PartBy s t us r → LabelledBy s at r
labelled_by s at t us part.Missing e P = absurd P
labelled_by s at t us part.Last e P = (t, e ∙ ap (λ (v : Trees Run). t then v) P)
labelled_by s at t us (part.Label q) e P = (t, (e ∙ ap (λ (v : Trees Run). t then v) (sym P.0), (λ z. P.1.0 (sym P.0 ∙ z), P.1.1)))
labelled_by s at t us part.Bad e P = (t, (us, (e, (P.0, P.1))))

module _ (s : List ℕ) (at : ℕ) (e : Maybe ℕ) (E : Shuts s at e) where
  pub arm-missing : (q : ℕ) → e ≡ Some q → Labelled s at part.Missing
  arm-missing q f = record { says = let C : ShutAt s at q = rw f at E.says in C.here }

  pub arm-some : (r : ArmPart) → e ≡ None → SomePart s at r → Labelled s at r
  arm-some r f P = record { says = let m = rw f at E.says in split (first (stack_at s at)) m λ t us g. labelled_by s at t us r g (P.says t us g) }

pub ruleset arm-laws = (arm-missing, arm-some)

-- ---- the parts of an arm

-- labels and a statement
abbrev armed : List Constant → Stmt × ℕ → Option (List Constant × (Stmt × ℕ))
armed cs x = some (cs, x)

one_label : (o : Option Constant) (p : Option (Stmt × ℕ)) (a : List Constant × (Stmt × ℕ)) → (o >>= λ c. p >>= λ x. armed (c ∷ []) x) ≡ some a → (o >>= λ c. (p >>= λ x. armed [] x) >>= λ q. armed (c ∷ q.0) q.1) ≡ some a
unfolding ◌>>=◌
one_label none p a h = h
one_label (some c) none a h = h
one_label (some c) (some x) a h = h

more-labels : (o : Option Constant) (p q : Option (List Constant × (Stmt × ℕ))) (a : List Constant × (Stmt × ℕ)) → ((b : List Constant × (Stmt × ℕ)) → p ≡ some b → q ≡ some b)
    → (o >>= λ c. p >>= λ b. armed (c ∷ b.0) b.1) ≡ some a → (o >>= λ c. q >>= λ b. armed (c ∷ b.0) b.1) ≡ some a
unfolding ◌>>=◌
more-labels none p q a f h = h
more-labels (some c) none q a f h = none-some h
more-labels (some c) (some b) q a f h = rw (f b refl) h

-- an arm has its labels before its statement
pub arm-from : (d n : ℕ) (us : Trees Run) (a : List Constant × (Stmt × ℕ)) → arm_in d n us ≡ some a → arm_from d n us ≡ some a
unfolding arm_in arm_from
arm-from d n end a h = none-some h
arm-from d n (t then end) a h = none-some h
arm-from d n (t then (u then end)) a h = one_label (worded t >>= constant) (worded u >>= stmt d n) a h
arm-from d n (t then (u then (v then ts))) a h =
    more-labels (worded t >>= constant) (arm_in d n (u then (v then ts))) (arm_from d n (u then (v then ts))) a (λ b k. arm-from d n (u then (v then ts)) b k) h

-- from the parts us of an arm to us', over labels that are in the integers
pub record Over (us us' : Trees Run) : Type 0 where
  pub over : (d n : ℕ) (a : List Constant × (Stmt × ℕ)) → arm_from d n us ≡ some a → (b : List Constant × (Stmt × ℕ)) × ((arm_from d n us' ≡ some b) × ((b.1 ≡ a.1) × ((c : Bool) → AllAre c b.0 → AllAre c a.0)))

pub record Passing (s : List ℕ) (at p : ℕ) : Type 0 where
  pub passed : Over (first (stack_at s at)) (first (stack_at s p))

pub pass-start : (s : List ℕ) (at : ℕ) → Passing s at at
pass-start s at = record { passed = record { over = λ d n a h. (a, (h, (refl, λ c A. A))) } }

-- one label
first-label : (d n : ℕ) (t : Tree Run) (us : Trees Run) (a : List Constant × (Stmt × ℕ)) → (us ≡ end → ⊥) → arm_from d n (t then us) ≡ some a
    → (c : Constant) × ((b : List Constant × (Stmt × ℕ)) × ((constant_in (t then us) ≡ some c) × ((arm_from d n us ≡ some b) × ((c ∷ b.0, b.1) ≡ a))))
unfolding arm_from constant_in part_of
first-label d n t end a k h = absurd (k refl)
first-label d n t (u then ts) a k h = bind-some h λ c hc h'. bind-some h' λ b hb q. (c, (b, (hc, (hb, some_inj q))))

all_more : (us : Trees Run) (t : Tree Run) (c : Constant) (cs : List Constant) (f g : Bool) → constant_in (t then us) ≡ some c → plain_tree t ≡ f → AllAre g cs → AllAre (f && g) (c ∷ cs)
unfolding each all_plain plain_first
all_more us t c cs f g h e A = record {
  says = λ σ T k F xs hx. bind-some hx λ x hy h'. bind-some h' λ ys hys q.
      ap all_plain (sym (some_inj q)) ∙ both (constant-plain σ T k F (t then us) c x h hy ∙ e) (A.says σ T k F ys hys);
}
  where
    both : {u v w z : Bool} → u ≡ w → v ≡ z → (u && v) ≡ (w && z)
    both i j = rw (i, j) refl

all_none : AllAre true []
unfolding each all_plain
all_none = record { says = λ σ T k F xs hx. ap all_plain (sym (some_inj hx)) }

-- a label past the integers, whatever the others are
all-bad : (us : Trees Run) (t : Tree Run) (c : Constant) (cs : List Constant) → constant_in (t then us) ≡ some c → plain_tree t ≡ false → AllAre false (c ∷ cs)
unfolding each all_plain plain_first
all-bad us t c cs h e = record {
  says = λ σ T k F xs hx. bind-some hx λ x hy h'. bind-some h' λ ys hys q.
      ap all_plain (sym (some_inj q)) ∙ ap (λ (b : Bool). b && all_plain ys) (constant-plain σ T k F (t then us) c x h hy ∙ e);
}

over-label : (us₀ : Trees Run) (t : Tree Run) (us : Trees Run) → Over us₀ (t then us) → (us ≡ end → ⊥) → plain_tree t ≡ true → Over us₀ us
over-label us₀ t us O k e = record {
  over = λ d n a h.
      let i = O.over d n a h in
      let j = first-label d n t us i.0 k i.1.0 in
      let b = j.1.0 in
      let eq = j.1.1.1.1 in (
        b,
        (
          j.1.1.1.0,
          (
            ap (λ (z : List Constant × (Stmt × ℕ)). z.1) eq ∙ i.1.1.0,
            λ c A.
                i.1.1.1 c (along (ap (λ (z : List Constant × (Stmt × ℕ)). z.0) eq) (all_more us t j.0 b.0 true c j.1.1.0 e A)),
          ),
        ),
      );
}
  where
    along : {c : Bool} {cs ds : List Constant} → cs ≡ ds → AllAre c cs → AllAre c ds
    along p A = rw (← p) A

-- ---- the loop

module _ (s : List ℕ) (at p : ℕ) (x : ArmPart) (I : Passing s at p) (L : Labelled s p x) where
  pub pass-missing : x ≡ part.Missing → AfterLabels s at after.Nothing
  unfolding arm_from
  pass-missing e = record {
    says = λ d n a h.
        let i = I.passed.over d n a h in
        let g : first (stack_at s p) ≡ end = rw e at L.says in
        none-some (ap (arm_from d n) (sym g) ∙ i.1.0);
  }

  pub pass-last : x ≡ part.Last → AfterLabels s at (after.Stmt p)
  unfolding arm_from stmt_in part_of
  pass-last e = record {
    says = λ d n a h.
        let i = I.passed.over d n a h in
        let g = rw e at L.says in
        bind-some (ap (arm_from d n) (sym g.1) ∙ i.1.0) λ v hv q. (
          ap (stmt_in d n) g.1 ∙ hv ∙ ap some (ap (λ (z : List Constant × (Stmt × ℕ)). z.1) (some_inj q) ∙ i.1.1.0),
          i.1.1.1 true (none-there (ap (λ (z : List Constant × (Stmt × ℕ)). z.0) (some_inj q))),
        );
  }
    where
      none-there : {cs : List Constant} → [] ≡ cs → AllAre true cs
      none-there p = rw (← p) all_none

  pub pass-bad : x ≡ part.Bad → AfterLabels s at after.Broken
  pass-bad e = record {
    says = λ d n a h.
        let i = I.passed.over d n a h in
        let g = rw e at L.says in
        let j = first-label d n g.0 g.1.0 i.0 g.1.1.1.0 (ap (arm_from d n) (sym g.1.1.0) ∙ i.1.0) in
        i.1.1.1 false (false-there j.0 j.1.0.0 (ap (λ (z : List Constant × (Stmt × ℕ)). z.0) j.1.1.1.1) g.1.0 g.0 j.1.1.0 g.1.1.1.1);
  }
    where
      false-there : {ds : List Constant} (c : Constant) (cs : List Constant) → (c ∷ cs) ≡ ds → (us : Trees Run) (t : Tree Run) → constant_in (t then us) ≡ some c → plain_tree t ≡ false → AllAre false ds
      false-there c cs p us t h k = rw (← p) (all-bad us t c cs h k)

  pub pass_on : (q : ℕ) → x ≡ part.Label q → Passing s at q
  pass_on q e =
      let g = rw e at L.says in
      let O : Over (first (stack_at s at)) (g.0 then first (stack_at s q)) = rw g.1.0 at I.passed in
      record { passed = over-label (first (stack_at s at)) g.0 (first (stack_at s q)) O g.1.1.0 g.1.1.1 }

pub ruleset pass-laws = (pass-missing, pass-last, pass-bad, pass_on)

pub pass-falls : (s : List ℕ) (p : ℕ) (x : ArmPart) (q : ℕ) → Labelled s p x → x ≡ part.Label q → many (first (stack_at s q)) < many (first (stack_at s p))
unfolding many
pass-falls s p x q L e = let g = rw e at L.says in rw g.1.0 (omega arith)
