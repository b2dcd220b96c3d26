-- The arms of a `case`, one by one, and the leaves of their code.
use mathlib.Core.Path.{◌≡◌, refl, sym, ap, ◌∙◌}
use mathlib.Core.Bool.{Bool, true, false, cond}
use mathlib.Core.List.{List, [], ◌∷◌}
use mathlib.Core.Option.{Option, none, some}
use Prim.Native.Nat.{ℕ}
use borrow.Author.Tests.{eq-eqb, ne_eqb}
use lib.Dec.{eqb}
use lib.ListN.{set}
use Rattle.leaf_words.specs.declared.words.Word.{Word}
use Rattle.leaf_words.specs.Words.{word_of}
use Rattle.law.specs.Base.{◌>>=◌}
use Rattle.law_theorems.specs.FormsByDepth as ByDepth
use Rattle.law.specs.Forms.{ArmHead, is_arm, is_else, arms_first}
use Rattle.code.specs.Layout.{lay, link}
use Rattle.law.specs.Syntax as Syntax
use Rattle.law.specs.Trees.{word, form, Trees, end, ◌then◌, Run, first, later, word_at}
use Rattle.law_theorems.specs.Readings.{stack_at}
use Rattle.text_heads.specs.declared.ArmHead as Heads
use Rattle.text_heads.specs.declared.ArmHead.TheVariants as AH
use Rattle.text_heads.specs.Heads.{arm_head_of, arm_head_meant}
use Rattle.text_heads.specs.Parts.{part_of, rest, closed, arm_in, arms_in, else_arm_in, arm_head_in}
use Rattle.text_heads.proofs.Heads.{arm-head-is}
use Rattle.table_scope.specs.declared.Scope.{Scope}
use Rattle.rule_faults.specs.declared.Fault.{Fault}
use Rattle.rule_faults.specs.declared.Fault.TheVariants.{Clear, Kind, Form}
use Rattle.table_scope.specs.declared.Info.{Info}
use Rattle.table_scope.specs.declared.Loops.{Loops}
use Rattle.table_scope.specs.Descriptions.{info_of}
use Rattle.table_list.specs.Laid.{Laid}
use Rattle.rule_faults.specs.declared.Got.{Got}
use Rattle.text_parts.specs.declared.Part.{Part}
use Rattle.text_parts.specs.declared.Part.TheVariants as part
use Rattle.rule_faults.specs.Got.{lowest, is_clear}
use Rattle.text_parts.specs.Parts.{LeafAt, FormAt, ShutAt, Stands}
use Rattle.rule_expr_nodes.specs.Bracket.{Closes}
use Rattle.rule_expr_nodes.specs.Nodes.{Makes}
use Rattle.rule_statements.specs.declared.arms.NextArm.{NextArm}
use Rattle.rule_statements.specs.declared.arms.NextArm.TheVariants as next-arm
use Rattle.rule_stmt_nodes.specs.BaseNodes.{node_if}
use Rattle.rule_statements.specs.Walks.{GivesStmt}
use Rattle.rule_labels.specs.Repeating.{Repeating}
use Rattle.rule_statements.specs.Cases.{GivesLabels, ArmFormAt, ArmHeadAt, ArmComes, ArmInside, arm_made, ArmStmtBy, stmt-parts, ArmBy, arm-parts, ElseBy, else-parts, GivesArms, selected_kind, cased, FirstArm, an-arm, no_arm, case_made, CaseEnds, case-ends, CaseBy, case-parts}

-- ---- what comes next

head_in : (w : Run) (h : Heads.ArmHead) → h ≡ arm_head_of (word_of w) → arm_head_in w ≡ arm_head_meant h
unfolding arm_head_in
head_in w h e = arm-head-is w ∙ ap arm_head_meant (sym e)

no-head : (d n : ℕ) (w : Run) (us ts : Trees Run) → arm_head_in w ≡ none → arms_in d n (form (word w then us) then ts) ≡ none
unfolding arms_in ◌>>=◌
no-head d n w us ts h = rw h refl

module _ (s : List ℕ) (at : ℕ) (x : Part) (S : Stands s at x) where
  module _ (w : Word) (p q : ℕ) (h : x ≡ part.Leaf w p q) (m : Heads.ArmHead) (em : m ≡ arm_head_of w) where
    head-here : LeafAt s at p q × (w ≡ word_of (word_at s p))
    head-here = rw h at S.says

    head-meant : arm_head_in (word_at s p) ≡ arm_head_meant m
    head-meant = head_in (word_at s p) m (em ∙ ap arm_head_of head-here.1)

    pub inside-arm : m ≡ AH.Arm → ArmInside s at (next-arm.Arm q)
    inside-arm i = record { says = record { head = word_at s p; here = head-here.0.leaf.here; around = head-here.0.leaf.around; headed = head-meant ∙ ap arm_head_meant i } }

    pub inside-else : m ≡ AH.Else → ArmInside s at (next-arm.Else q)
    inside-else i = record { says = record { head = word_at s p; here = head-here.0.leaf.here; around = head-here.0.leaf.around; headed = head-meant ∙ ap arm_head_meant i } }

    pub inside-other : m ≡ AH.Nothing → ArmInside s at next-arm.Nothing
    inside-other i = record { says = λ d n ts. rw head-here.0.leaf.here (no-head d n (word_at s p) (first (stack_at s q)) ts (head-meant ∙ ap arm_head_meant i)) }

  inside-form : (p : ℕ) → x ≡ part.Form p → ArmInside s at next-arm.Nothing
  unfolding arms_in
  inside-form p h = let F : FormAt s at p = rw h at S.says in record { says = λ d n ts. rw F.here refl }

  inside-shut : (q : ℕ) → x ≡ part.Shut q → ArmInside s at next-arm.Nothing
  unfolding arms_in
  inside-shut q h = let Z : ShutAt s at q = rw h at S.says in record { says = λ d n ts. rw Z.here refl }

  pub inside-none : ((w : Word) (p q : ℕ) → x ≡ part.Leaf w p q → ⊥) → ArmInside s at next-arm.Nothing
  inside-none n = go x refl
    where
      go : (y : Part) → x ≡ y → ArmInside s at next-arm.Nothing
      go (part.Leaf w p q) e = absurd (n w p q e)
      go (part.Form p) e = inside-form p e
      go (part.Shut q) e = inside-shut q e

  pub comes-word : (w : Word) (p q : ℕ) → x ≡ part.Leaf w p q → ArmComes s at next-arm.Nothing
  unfolding arms_in
  comes-word w p q h = let X = rw h at S.says in record { says = λ d n. rw X.0.leaf.here refl }

  pub comes-past : (q : ℕ) → x ≡ part.Shut q → ArmComes s at (next-arm.Past q)
  comes-past q h = record { says = rw h at S.says }

  pub comes-form : (p : ℕ) (r : NextArm) → x ≡ part.Form p → ArmInside s p r → ArmComes s at r
  comes-form p r h I = go r I
    where
      F : FormAt s at p
      F = rw h at S.says

      of : (m : ArmHead) (q : ℕ) → ArmHeadAt m s p q → ArmFormAt m s at q
      of m q A = record {
        head = A.head;
        here = F.here ∙ rw (A.here, A.around) refl;
        around = F.around ∙ ap later A.around;
        headed = A.headed;
      }

      go : (r : NextArm) → ArmInside s p r → ArmComes s at r
      go (next-arm.Past q) I = absurd I.says
      go (next-arm.Arm q) I = record { says = of is_arm q I.says }
      go (next-arm.Else q) I = record { says = of is_else q I.says }
      go next-arm.Nothing I = record { says = λ d n. rw F.here (I.says d n (first (later (stack_at s p)))) }

pub ruleset inside-laws = (inside-arm, inside-else, inside-other, inside-none)

pub ruleset comes-laws = (comes-word, comes-past, comes-form)

-- ---- leaves

pub link-arm-is : (l : List ℕ) (slot head : ℕ) (g b : Got) (t : ℕ) (f : Fault) (l' : List ℕ) → Laid (link slot (lay (head ∷ b.place ∷ 0 ∷ []) b.top l)) t l' → f ≡ lowest g.fault b.fault
    → Makes (arm_made l slot head g b) (record { fault = f; kind = b.kind; place = b.top; next = b.next; top = t }) l'
unfolding arm_made link lay
link-arm-is l slot head g b t f l' K ef = record { given = rw (ef, K.free) refl; left = K.left }

module _ (x : Got) (t : Bool) (e : t ≡ is_clear x.fault) where
  pub kind-clear : t ≡ true → x.kind ≡ selected_kind x
  unfolding selected_kind
  kind-clear h = rw (sym e ∙ h) refl

  pub kind-none : t ≡ false → 0 ≡ selected_kind x
  unfolding selected_kind
  kind-none h = rw (sym e ∙ h) refl

pub ruleset kind-laws = (kind-clear, kind-none)

module _ (i : Info) where
  pub ordinal-is : i.shape ≡ 0 → Clear ≡ cond (eqb i.shape 0) Clear Kind
  ordinal-is h = rw (eq-eqb i.shape 0 h) refl

  pub ordinal-not : ((i.shape ≡ 0) → ⊥) → Kind ≡ cond (eqb i.shape 0) Clear Kind
  ordinal-not h = rw (ne_eqb i.shape 0 h) refl

pub ruleset ordinal-laws = (ordinal-is, ordinal-not)

pub arms-head : (d n : ℕ) (w : Run) (us ts : Trees Run) → arm_head_in w ≡ some is_arm
    → arms_in d n (form (word w then us) then ts) ≡ (arm_in d n us >>= λ a. arms_in d a.1.1 ts >>= λ bs. some (Syntax.arm a.0 a.1.0 bs.0, bs.1))
unfolding arms_in ◌>>=◌
arms-head d n w us ts h = rw h refl

pub arms-else : (d n : ℕ) (w : Run) (us ts : Trees Run) → arm_head_in w ≡ some is_else → arms_in d n (form (word w then us) then ts) ≡ else_arm_in d n us ts
unfolding arms_in ◌>>=◌
arms-else d n w us ts h = rw h refl

-- an arm before arms is not dropped
arm-kept : (d : ℕ) (o : Option (List Syntax.Constant × (Syntax.Stmt × ℕ))) (ts : Trees Run)
    → cased (o >>= λ a. arms_in d a.1.1 ts >>= λ bs. some (Syntax.arm a.0 a.1.0 bs.0, bs.1)) ≡ (o >>= λ a. arms_in d a.1.1 ts >>= λ bs. some (Syntax.arm a.0 a.1.0 bs.0, bs.1))
unfolding ◌>>=◌ arms_first
arm-kept d none ts = refl
arm-kept d (some a) ts = one (arms_in d a.1.1 ts)
  where
    one : (o : Option (Syntax.Arms × ℕ)) → cased (o >>= λ bs. some (Syntax.arm a.0 a.1.0 bs.0, bs.1)) ≡ (o >>= λ bs. some (Syntax.arm a.0 a.1.0 bs.0, bs.1))
    one none = refl
    one (some b) = refl

-- an `else` alone is no case
else-none : (d n : ℕ) (us ts : Trees Run) → cased (else_arm_in d n us ts) ≡ none
unfolding ◌>>=◌ arms_first else_arm_in closed
else-none d n us (t then ts) = refl
else-none d n us end = go (part_of us >>= ByDepth.stmt d n) (rest us)
  where
    go : (o : Option (Syntax.Stmt × ℕ)) (vs : Trees Run) → cased (o >>= λ p. closed vs (Syntax.else_arm p.0, p.1)) ≡ none
    go none vs = refl
    go (some p) end = refl
    go (some p) (t then ts) = refl

none-cased : (o : Option (Syntax.Arms × ℕ)) → o ≡ none → cased o ≡ none
unfolding ◌>>=◌
none-cased o h = rw h refl

module _ (s : List ℕ) (at : ℕ) (e : NextArm) (E : ArmComes s at e) where
  pub first-arm : (q : ℕ) → e ≡ next-arm.Arm q → FirstArm s at Clear
  first-arm q h =
      let A : ArmFormAt is_arm s at q = rw h at E.says in
      an-arm (λ d n. rw (A.here, arms-head d n A.head (first (stack_at s q)) (first (later (stack_at s q))) A.headed) (arm-kept d (arm_in d n (first (stack_at s q))) (first (later (stack_at s q)))))

  first_else : (q : ℕ) → e ≡ next-arm.Else q → FirstArm s at Form
  first_else q h =
      let A : ArmFormAt is_else s at q = rw h at E.says in
      no_arm (λ d n. rw (A.here, arms-else d n A.head (first (stack_at s q)) (first (later (stack_at s q))) A.headed) (else-none d n (first (stack_at s q)) (first (later (stack_at s q)))))

  first_past : (q : ℕ) → e ≡ next-arm.Past q → FirstArm s at Form
  unfolding arms_in arms_first ◌>>=◌
  first_past q h = let Z : ShutAt s at q = rw h at E.says in no_arm (λ d n. rw Z.here refl)

  first-nothing : e ≡ next-arm.Nothing → FirstArm s at Form
  first-nothing h =
      let Z : (d n : ℕ) → arms_in d n (first (stack_at s at)) ≡ none = rw h at E.says in
      no_arm (λ d n. none-cased (arms_in d n (first (stack_at s at))) (Z d n))

  pub first-other : ((q : ℕ) → e ≡ next-arm.Arm q → ⊥) → FirstArm s at Form
  first-other n = go e refl
    where
      go : (r : NextArm) → e ≡ r → FirstArm s at Form
      go (next-arm.Past q) h = first_past q h
      go (next-arm.Arm q) h = absurd (n q h)
      go (next-arm.Else q) h = first_else q h
      go next-arm.Nothing h = first-nothing h

pub ruleset first-laws = (first-arm, first-other)

pub case-is : (l : List ℕ) (i : Info) (n : ℕ) (x m : Got) (f w a b c d e : Fault) (r : Got) (l' : List ℕ) → a ≡ lowest f m.fault → b ≡ lowest a w → c ≡ lowest x.fault b → d ≡ cond (eqb i.shape 0) Clear Kind → e ≡ lowest c d
    → Makes (node_if e m.kind m.next (49 ∷ n ∷ x.place ∷ x.top ∷ []) m.top l) r l' → Makes (case_made l i n x m f w) r l'
unfolding case_made
case-is l i n x m f w a b c d e r l' ea eb ec ed ee k = rw (← ea, ← eb, ← ec, ← ed, ← ee) k

pub end_is : (s l ts : List ℕ) (scope : Scope) (n : ℕ) (x m r : Got) (l' : List ℕ) (i : Info) (f w : Fault) → FirstArm s x.next f → Repeating s l scope x.next m.fault w → i ≡ info_of l ts x.kind → Makes (case_made l i n x m f w) r l'
    → CaseEnds s l ts scope n x m r l'
end_is s l ts scope n x m r l' i f w F R e k = case-ends f w F R (rw (← e) k)

-- ---- by parts

module _ (s l ts : List ℕ) (scope : Scope) (loops : Loops) where
  pub arm-way : (k d n slot at top : ℕ) (r : Got) (l' : List ℕ) (t h : ℕ) (g : Got) (l₁ l₂ : List ℕ) → Laid (lay (0 ∷ []) top l) t l₁ → h ≡ top → GivesLabels s l₁ scope k h at t g l₂
      → ArmStmtBy s l₂ ts scope loops d n slot top g r l' → ArmBy s l ts scope loops k d n slot at top r l'
  arm-way k d n slot at top r l' t h g l₁ l₂ K e L M = arm-parts t h g l₁ l₂ K e L M

  pub stmt-way : (d n slot head : ℕ) (g r : Got) (l' : List ℕ) (a b : Got) (l₁ : List ℕ) → GivesStmt s l ts scope loops d n g.next g.top a l₁ → Closes s a b → Makes (arm_made l₁ slot head g b) r l'
      → ArmStmtBy s l ts scope loops d n slot head g r l'
  stmt-way d n slot head g r l' a b l₁ G C M = stmt-parts a b l₁ G C M

  pub else-way : (d slot : ℕ) (g : Got) (at : ℕ) (r : Got) (l' : List ℕ) (a b c : Got) (l₁ : List ℕ) → GivesStmt s l ts scope loops d g.kind at g.top a l₁ → Closes s a b → Closes s b c → Makes (arm_made l₁ slot 0 g c) r l'
      → ElseBy s l ts scope loops d slot g at r l'
  else-way d slot g at r l' a b c l₁ G C E M = else-parts a b c l₁ G C E M

  pub case-way : (x : Got) (d n : ℕ) (r : Got) (l' : List ℕ) (t h k : ℕ) (m : Got) (l₁ l₂ : List ℕ) → Laid (lay (0 ∷ []) x.top l) t l₁ → h ≡ x.top → k ≡ selected_kind x
      → GivesArms s l₁ ts scope loops k d n h x.next t m l₂ → CaseEnds s l₂ ts scope n x m r l' → CaseBy s l ts scope loops x d n r l'
  case-way x d n r l' t h k m l₁ l₂ K e i G E = case-parts t h k m l₁ l₂ K e i G E
