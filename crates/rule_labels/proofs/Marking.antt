-- The labels of arms in the text are those of the arms that are read.
use mathlib.Core.Path.{◌≡◌, refl, ap, ◌∙◌}
use mathlib.Core.List.{List, [], ◌∷◌, ◌++◌}
use mathlib.Core.Option.{Option, some}
use Prim.Native.Nat.{ℕ}
use Rattle.law.specs.Base.{◌>>=◌, each}
use Rattle.law.specs.Environment.{Environment}
use Rattle.law.specs.Names.{constant_of, arms_of}
use Rattle.law.specs.Rules.{labels_of}
use Rattle.law.specs.Script as Script
use Rattle.law.specs.Forms as Forms
use Rattle.law.specs.Forms.{is_arm, is_else}
use Rattle.law.specs.Syntax.{Constant, Stmt, Arms, arm, else_arm, no_else}
use Rattle.law.specs.Trees.{word, form, Trees, end, ◌then◌, Run}
use Rattle.law_theorems.proofs.Inversion.{none-some, some_inj, bind-some}
use Rattle.text_heads.specs.Parts.{part_of, rest, closed, arm_in, arms_in, else_arm_in}
use Rattle.rule_labels.specs.Marks.{with_mark, marks_in, marks_of, labels_of_arms}

marks-arm : (d n : ℕ) (us : Trees Run) (p : List Constant × (Stmt × ℕ)) → arm_in d n us ≡ some p → marks_in us ≡ p.0
unfolding arm_in with_mark marks_in
marks-arm d n end p h = none-some h
marks-arm d n (t then end) p h = none-some h
marks-arm d n (t then (u then end)) p h = bind-some h λ c hc h'. bind-some h' λ a ha e. ap (λ (o : Option Constant). with_mark o []) hc ∙ ap (λ (z : List Constant × (Stmt × ℕ)). z.0) (some_inj e)
marks-arm d n (t then (u then (v then ts))) p h = bind-some h λ c hc h'. bind-some h' λ a ha e. ap (λ (o : Option Constant). with_mark o (marks_in (u then (v then ts)))) hc ∙ ap (λ (k : List Constant). c ∷ k) (marks-arm d n (u then (v then ts)) a ha) ∙ ap (λ (z : List Constant × (Stmt × ℕ)). z.0) (some_inj e)

pub marks-arms : (d n : ℕ) (us : Trees Run) (p : Arms × ℕ) → arms_in d n us ≡ some p → marks_of us ≡ labels_of_arms p.0
unfolding arms_in else_arm_in marks_of marks_in labels_of_arms closed
marks-arms d n end p h = rw (← some_inj h) refl
marks-arms d n (word w then ts) p h = none-some h
marks-arms d n (form end then ts) p h = none-some h
marks-arms d n (form (form us then vs) then ts) p h = none-some h
marks-arms d n (form (word w then us) then ts) p h = bind-some h λ k hk h'. by-head k ts h' (λ m q hq. marks-arms d m ts q hq)
  where
    alone : (vs : Trees Run) (a : Stmt × ℕ) → part_of vs ≡ part_of vs → closed (rest vs) (else_arm a.0, a.1) ≡ some p → (marks_in vs ++ []) ≡ labels_of_arms p.0
    alone end a i e = rw (← some_inj e) refl
    alone (t then end) a i e = rw (← some_inj e) refl
    alone (t then (u then us)) a i e = none-some e

    by-head : (k : Forms.ArmHead) (ts : Trees Run)
        → elim k [
          | is_arm ↦ arm_in d n us >>= λ a. arms_in d a.1.1 ts >>= λ bs. some (arm a.0 a.1.0 bs.0, bs.1)
          | is_else ↦ else_arm_in d n us ts
        ] ≡ some p → ((m : ℕ) (q : Arms × ℕ) → arms_in d m ts ≡ some q → marks_of ts ≡ labels_of_arms q.0) → (marks_in us ++ marks_of ts) ≡ labels_of_arms p.0
    by-head is_arm ts h k = bind-some h λ a ha h'. bind-some h' λ b hb e. rw (← some_inj e, marks-arm d n us a ha, k a.1.1 b hb) refl
    by-head is_else end h k = bind-some h λ a ha e. alone us a refl e
    by-head is_else (t then ts) h k = none-some h

-- ---- and so are their values

module _ (σ : Environment) where
  cons-some : (o : Option Script.Const) (p : Option (List Script.Const)) (x : Script.Const) (zs : List Script.Const) → o ≡ some x → p ≡ some zs → (o >>= λ b. p >>= λ bs. some (b ∷ bs)) ≡ some (x ∷ zs)
  unfolding ◌>>=◌
  cons-some o p x zs h k = rw (h, k) refl

  each_append : (cs ds : List Constant) (xs ys : List Script.Const) → each (constant_of σ) cs ≡ some xs → each (constant_of σ) ds ≡ some ys → each (constant_of σ) (cs ++ ds) ≡ some (xs ++ ys)
  unfolding each
  each_append [] ds xs ys h k = k ∙ ap (λ (z : List Script.Const). some (z ++ ys)) (some_inj h)
  each_append (c ∷ cs) ds xs ys h k = bind-some h λ x hx h'. bind-some h' λ zs hz e.
      cons-some (constant_of σ c) (each (constant_of σ) (cs ++ ds)) x (zs ++ ys) hx (each_append cs ds zs ys hz k) ∙ ap (λ (z : List Script.Const). some (z ++ ys)) (some_inj e)

  pub labels-known : (a : Arms) (b : Script.Arms) → arms_of σ a ≡ some b → each (constant_of σ) (labels_of_arms a) ≡ some (labels_of b)
  unfolding arms_of labels_of labels_of_arms each
  labels-known (else_arm s) b h = bind-some h λ x hx e. ap (λ (z : Script.Arms). some (labels_of z)) (some_inj e)
  labels-known no_else b h = ap (λ (z : Script.Arms). some (labels_of z)) (some_inj h)
  labels-known (arm cs s bs) b h = bind-some h λ xs hx h'. bind-some h' λ y hy h''. bind-some h'' λ zs hz e.
      each_append cs (labels_of_arms bs) xs (labels_of zs) hx (labels-known bs zs hz) ∙ ap (λ (z : Script.Arms). some (labels_of z)) (some_inj e)
