-- The labels of an arm, one by one.
use mathlib.Core.Path.{◌≡◌, refl, sym, ap, ◌∙◌}
use mathlib.Core.Bool.{Bool, true, false, cond, true≢false}
use mathlib.Core.List.{List, [], ◌∷◌, ◌++◌}
use mathlib.Core.Option.{Option, none, some}
use Prim.Native.Nat.{ℕ, suc, ◌+◌, ◌<◌, ◌≤◌}
use native.Mathlib.Omega.{arith}
use borrow.Author.Tests.{eq-eqb, ne_eqb, eqb-true}
use lib.Dec.{eqb}
use lib.IntN.{ℤ}
use lib.Seq.{get_or-set_other}
use mir.Syntax.{w64}
use mir.Val.{SFits, to_z, of_z}
use mir.Facts.{to_z-of_z}
use Rattle.leaf_integers.specs.Integers.{inside, least, most}
use Rattle.law.specs.Base.{◌>>=◌, given, each}
use Rattle.law.specs.Elaborate.{elab_labels}
use Rattle.law.specs.Environment.{Environment}
use Rattle.law.specs.Forms.{constant}
use Rattle.law_theorems.specs.FormsByDepth.{stmt}
use Rattle.code.specs.Layout.{Out, out, lay, link, bits, lay_labels}
use Rattle.law.specs.Names.{constant_of}
use Rattle.law.specs.Rules.{plain, all_plain}
use Rattle.law.specs.Script.{Const}
use Rattle.rule_stages.specs.Stages.{Staged, fits, staged, named, ruled, join, or_unfit, labels_staged}
use Rattle.law.specs.Syntax.{Constant, Stmt}
use Rattle.law.specs.Trees.{Tree, Trees, end, ◌then◌, Run, first, nodes, nodes_in}
use Rattle.law_theorems.specs.Readings.{stack_at}
use Rattle.law.specs.Words.{worded}
use Rattle.code.proofs.LayoutRegions.{lay-g}
use Rattle.rule_stages.proofs.Staging.{staged-two}
use Rattle.text_heads.specs.Parts.{part_of, rest, closed, constant_in, stmt_in, arm_in}
use Rattle.table_scope.specs.declared.Scope.{Scope}
use Rattle.rule_faults.specs.declared.Fault.{Fault}
use Rattle.rule_faults.specs.declared.Fault.TheVariants.{Clear, Form}
use Rattle.table_scope.specs.Scene.{Scene}
use Rattle.table_scope.proofs.Kept.{scene-kept}
use Rattle.table_list.specs.Laid.{Laid}
use Rattle.rule_faults.specs.declared.Got.{Got}
use Rattle.std.specs.Prelude.{Option as Maybe, Some, None}
use Rattle.rule_faults.specs.Got.{lowest, is_form, fault_of, failed_got}
use Rattle.rule_faults.proofs.Order.{lowest-assoc, lowest-clear}
use Rattle.text_parts.specs.Parts.{Before, Shuts, ShutAt}
use Rattle.rule_atoms.specs.declared.Valued.{Valued}
use Rattle.rule_atoms.specs.Answering.{ValueTold, GivesConstant}
use Rattle.rule_expr_nodes.specs.Nodes.{IsBits}
use Rattle.rule_expr_nodes.specs.Members.{member_fault}
use Rattle.rule_expressions.proofs.Joining.{wrong-fits, unnamed-fits, unfit-fits, fits-inj}
use Rattle.rule_expr_nodes.specs.Links.{linked}
use Rattle.rule_stmt_nodes.specs.Nodes.{skip_got}
use Rattle.rule_statements.specs.Chains.{many}
use Rattle.rule_statements.specs.Cases.{arm_from, prefixed, some_labels, counts, labelled_got, counted_got, LinksLabel, LabelsLeft, Labelling, LabelsTold, GivesLabels}
use Rattle.rule_statements.proofs.Faults.{join-fault, join-fits, form-is, form-none, same_refl}

-- ---- leaves

pub labelled-is : (g : Got) (v : Valued) (k t : ℕ) (f h : Fault) → f ≡ member_fault v.fault v.kind k → h ≡ lowest g.fault f
    → record { fault = h; kind = 1; place = 0; next = v.next; top = t } ≡ labelled_got g v k t
labelled-is g v k t f h e i = rw (i, e) refl

module _ (g : Got) where
  pub counted_none : (r : Got) → g.kind ≡ 0 → r ≡ failed_got Form 0 g.next g.top → r ≡ counted_got g
  unfolding counted_got
  counted_none r h e = rw (eq-eqb g.kind 0 h) e

  pub counted-some : ((g.kind ≡ 0) → ⊥) → g ≡ counted_got g
  unfolding counted_got
  counted-some h = rw (ne_eqb g.kind 0 h) refl

pub ruleset counted-laws = (counted_none, counted-some)

pub label-link : (z : ℤ) (n slot top : ℕ) (l : List ℕ) (t : ℕ) (l' : List ℕ) → SFits w64 z → IsBits (to_z w64 (of_z w64 z)) n → Laid (linked slot n top l) t l' → LinksLabel z slot top l t l'
label-link z n slot top l t l' h b k = record { bits_are = n; is-bits = rw (to_z-of_z h) at b; laid = k }

-- ---- forms

pub append_assoc : {A : Type 0} (a b c : List A) → ((a ++ b) ++ c) ≡ (a ++ (b ++ c))
append_assoc [] b c = refl
append_assoc (x ∷ a) b c = ap (λ k. x ∷ k) (append_assoc a b c)

counts-more : (cs : List Constant) (c : Constant) → counts (cs ++ (c ∷ [])) ≡ 1
unfolding counts
counts-more [] c = refl
counts-more (d ∷ cs) c = refl

abbrev Arm : Type 0
Arm = List Constant × (Stmt × ℕ)

abbrev arm_of : List Constant → Stmt × ℕ → Option Arm
arm_of cs p = some (cs, p)

prefix-none : (o : Option Arm) → prefixed [] o ≡ o
unfolding ◌>>=◌
prefix-none none = refl
prefix-none (some p) = refl

prefix-more : (cs : List Constant) (c : Constant) (o : Option Arm) → prefixed cs (prefixed (c ∷ []) o) ≡ prefixed (cs ++ (c ∷ [])) o
unfolding ◌>>=◌
prefix-more cs c none = refl
prefix-more cs c (some p) = ap (λ (k : List Constant). arm_of k p.1) (sym (append_assoc cs (c ∷ []) p.0))

label-first : (d n : ℕ) (t : Tree Run) (us ts : Trees Run) (c : Constant) → us ≡ (t then ts) → (ts ≡ end → ⊥) → constant_in us ≡ some c → arm_from d n us ≡ prefixed (c ∷ []) (arm_from d n ts)
unfolding constant_in part_of arm_from ◌>>=◌
label-first d n t us end c e m h = absurd (m refl)
label-first d n t us (u then ts) c e m h = rw e (go (rw e at h))
  where
    go : (worded t >>= constant) ≡ some c → arm_from d n (t then (u then ts)) ≡ prefixed (c ∷ []) (arm_from d n (u then ts))
    go h = rw h refl

-- the statement is the next part
abbrev Last : ℕ → ℕ → Trees Run → Option (Stmt × ℕ)
Last d n us = stmt_in d n us >>= λ p. closed (rest us) p

last-first : (d n : ℕ) (us : Trees Run) → (constant_in us ≡ none) → arm_from d n us ≡ (Last d n us >>= λ p. arm_of [] p)
unfolding constant_in stmt_in part_of arm_from closed ◌>>=◌
last-first d n end h = refl
last-first d n (u then end) h = go (worded u >>= stmt d n)
  where
    go : (o : Option (Stmt × ℕ)) → (o >>= λ p. arm_of [] p) ≡ ((o >>= λ p. closed end p) >>= λ p. arm_of [] p)
    go none = refl
    go (some p) = refl
last-first d n (t then (u then ts)) h = rw h (none_left (worded t >>= stmt d n))
  where
    none_left : (o : Option (Stmt × ℕ)) → none ≡ ((o >>= λ p. closed (u then ts) p) >>= λ p. arm_of [] p)
    none_left none = refl
    none_left (some p) = refl

last-only : (d n : ℕ) (us : Trees Run) → rest us ≡ end → arm_from d n us ≡ (Last d n us >>= λ p. arm_of [] p)
unfolding many stmt_in part_of arm_from closed ◌>>=◌
last-only d n end h = refl
last-only d n (u then end) h = go (worded u >>= stmt d n)
  where
    go : (o : Option (Stmt × ℕ)) → (o >>= λ p. arm_of [] p) ≡ ((o >>= λ p. closed end p) >>= λ p. arm_of [] p)
    go none = refl
    go (some p) = refl
last-only d n (t then (u then ts)) h = absurd (let z : ◌≡◌ {A = ℕ} (suc (many ts)) 0 = ap many h in omega arith)

arm-from : (d n : ℕ) (us : Trees Run) → arm_in d n us ≡ (arm_from d n us >>= λ p. some_labels p.0 >>= λ cs. arm_of cs p.1)
unfolding arm_in arm_from some_labels ◌>>=◌
arm-from d n end = refl
arm-from d n (t then end) = go (worded t >>= stmt d n)
  where
    go : (o : Option (Stmt × ℕ)) → none ≡ ((o >>= λ p. arm_of [] p) >>= λ p. some_labels p.0 >>= λ cs. arm_of cs p.1)
    go none = refl
    go (some p) = refl
arm-from d n (t then (u then end)) = go (worded t >>= constant) (worded u >>= stmt d n)
  where
    go : (o : Option Constant) (q : Option (Stmt × ℕ)) → (o >>= λ c. q >>= λ p. arm_of (c ∷ []) p)
        ≡ ((o >>= λ c. (q >>= λ p. arm_of [] p) >>= λ p. arm_of (c ∷ p.0) p.1) >>= λ p. some_labels p.0 >>= λ cs. arm_of cs p.1)
    go none q = refl
    go (some c) none = refl
    go (some c) (some p) = refl
arm-from d n (t then (u then (v then ts))) = rw (arm-from d n (u then (v then ts))) (go (worded t >>= constant) (worded u >>= constant) (arm_from d n (v then ts)))
  where
    go : (o m : Option Constant) (q : Option Arm)
        → (o >>= λ c. ((m >>= λ e. q >>= λ p. arm_of (e ∷ p.0) p.1) >>= λ p. some_labels p.0 >>= λ cs. arm_of cs p.1) >>= λ p. arm_of (c ∷ p.0) p.1)
        ≡ ((o >>= λ c. (m >>= λ e. q >>= λ p. arm_of (e ∷ p.0) p.1) >>= λ p. arm_of (c ∷ p.0) p.1) >>= λ p. some_labels p.0 >>= λ cs. arm_of cs p.1)
    go none m q = refl
    go (some c) none q = refl
    go (some c) (some e) none = refl
    go (some c) (some e) (some p) = refl

arm_is : (d n : ℕ) (us us' : Trees Run) (cs : List Constant) → arm_from d n us ≡ prefixed cs (arm_from d n us') → arm_from d n us' ≡ (Last d n us' >>= λ p. arm_of [] p)
    → arm_in d n us ≡ (some_labels (cs ++ []) >>= λ ds. Last d n us' >>= λ p. arm_of ds p)
unfolding ◌>>=◌
arm_is d n us us' cs e h = arm-from d n us ∙ rw (e, h) (go (Last d n us'))
  where
    nothing : (o : Option (List Constant)) → none ≡ (o >>= λ ds. (none >>= λ (p : Stmt × ℕ). arm_of ds p))
    nothing none = refl
    nothing (some ds) = refl

    go : (q : Option (Stmt × ℕ)) → (prefixed cs (q >>= λ p. arm_of [] p) >>= λ p. some_labels p.0 >>= λ ds. arm_of ds p.1) ≡ (some_labels (cs ++ []) >>= λ ds. q >>= λ p. arm_of ds p)
    go none = nothing (some_labels (cs ++ []))
    go (some p) = refl

-- ---- stages

module _ (σ : Environment) (k : ℕ) where
  -- one label
  abbrev label_staged : Constant → Staged ℤ
  label_staged c = staged (some c) (constant_of σ) plain (λ x. given (eqb k x.kind) x.value)

  label-staged : (c : Constant) (cs : List Constant) → labels_staged σ k (some (c ∷ cs)) ≡ join (label_staged c) (labels_staged σ k (some cs)) (λ z zs. or_unfit (some (z ∷ zs)))
  unfolding labels_staged all_plain elab_labels each ◌>>=◌
  label-staged c cs =
      staged-two (constant_of σ) plain (λ x. given (eqb k x.kind) x.value) (each (constant_of σ)) all_plain (elab_labels σ.types σ.vars k) (each (constant_of σ)) all_plain (elab_labels σ.types σ.vars k)
      (λ x xs. x ∷ xs) (λ x xs. x ∷ xs) (λ z zs. some (z ∷ zs)) (λ x y. refl) (λ x y. refl) (λ x y. refl) (some c) (some cs)

  pub no-labels : labels_staged σ k (some []) ≡ fits []
  unfolding labels_staged staged named ruled all_plain elab_labels each
  no-labels = refl

  turned : (a b : ℕ) → eqb a b ≡ eqb b a
  turned a b = go (eqb a b) refl
    where
      go : (t : Bool) → eqb a b ≡ t → t ≡ eqb b a
      go true e = sym (eq-eqb b a (sym (eqb-true a b e)))
      go false e = sym (ne_eqb b a (λ h. true≢false (sym (eq-eqb a b (sym h)) ∙ e)))

  module _ (c : Constant) (v : Valued) (VC : ValueTold (staged (some c) (constant_of σ) plain some) v) where
    label-fault : member_fault v.fault v.kind k ≡ fault_of (label_staged c)
    unfolding staged named ruled member_fault given
    label-fault = go (constant_of σ c) VC
      where
        kinds : (x : Const) → v.fault ≡ Clear → v.kind ≡ x.kind → (b : Bool) → eqb k x.kind ≡ b → member_fault v.fault v.kind k ≡ fault_of (ruled true (given b x.value))
        kinds x f e true h = rw (f, e, turned x.kind k, h) refl
        kinds x f e false h = rw (f, e, turned x.kind k, h) refl

        plains : (x : Const) (b : Bool) → ValueTold (ruled b (some x)) v → member_fault v.fault v.kind k ≡ fault_of (ruled b (given (eqb k x.kind) x.value))
        plains x false W = rw W.fault-is refl
        plains x true W = kinds x W.fault-is (W.value-is x refl).0 (eqb k x.kind) refl

        go : (o : Option Const) → ValueTold (named o plain some) v → member_fault v.fault v.kind k ≡ fault_of (named o plain (λ x. given (eqb k x.kind) x.value))
        go none W = rw W.fault-is refl
        go (some x) W = plains x (plain x) W

    label-value : (z : ℤ) → label_staged c ≡ fits z → (inside least most v.value ≡ true) × (v.value ≡ z)
    unfolding staged named ruled given plain
    label-value z h = find (constant_of σ c) VC h
      where
        of-kind : (x : Const) (b : Bool) → ruled true (given b x.value) ≡ fits z → x.value ≡ z
        of-kind x true h = fits-inj h
        of-kind x false h = absurd (unfit-fits h)

        of_plain : (x : Const) (b : Bool) → inside least most x.value ≡ b → ValueTold (ruled b (some x)) v → ruled b (given (eqb k x.kind) x.value) ≡ fits z
            → (inside least most v.value ≡ true) × (v.value ≡ z)
        of_plain x false e W h = absurd (unfit-fits h)
        of_plain x true e W h = (ap (inside least most) (W.value-is x refl).1 ∙ e, (W.value-is x refl).1 ∙ of-kind x (eqb k x.kind) h)

        find : (o : Option Const) → ValueTold (named o plain some) v → named o plain (λ x. given (eqb k x.kind) x.value) ≡ fits z → (inside least most v.value ≡ true) × (v.value ≡ z)
        find none W h = absurd (unnamed-fits h)
        find (some x) W h = of_plain x (inside least most x.value) refl W h

-- ---- the loop

module _ (s l : List ℕ) (scope : Scope) (k slot at top : ℕ) where
  pub labels-start : (g : Got) → g ≡ skip_got 0 at top → Labelling s l scope k slot at top g slot l
  unfolding counts
  labels-start g e = rw e (record {
    around = refl;
    fewer = omega arith;
    keeps = λ h. same_refl;
    above = λ h. omega arith;
    grows = omega arith;
    says = λ ts σ bs S h. record {
      found = [];
      counted = refl;
      reads = λ d n. sym (prefix-none (arm_from d n (first (stack_at s at))));
      fault-is = λ ds. refl;
      laid = λ ds zs i. (zs, (i, refl));
    };
  })

  module _ (x : Got) (slot' : ℕ) (l₁ : List ℕ) (D : Labelling s l scope k slot at top x slot' l₁) (v : Valued) (VC : GivesConstant s l₁ scope x.next v) (t : Bool) (et : t ≡ is_form v.fault) where
    inside-labels : (ts : List ℕ) (σ : Environment) (bs : List ℕ) → Scene s l ts scope slot σ bs → slot ≤ top → ValueTold (staged (constant_in (first (stack_at s x.next))) (constant_of σ) plain some) v
    inside-labels ts σ bs S h = VC.says ts x.top σ bs (scene-kept S (D.keeps h) (let y = D.grows in omega arith))

    -- no label is left
    labels-over : (r : Got) → r ≡ counted_got x → ((ts : List ℕ) (σ : Environment) (bs : List ℕ) → Scene s l ts scope slot σ bs → slot ≤ top → (d n : ℕ)
        → arm_from d n (first (stack_at s x.next)) ≡ (Last d n (first (stack_at s x.next)) >>= λ p. arm_of [] p)) → GivesLabels s l scope k slot at top r l₁
    unfolding counted_got some_labels counts lay_labels labels_staged staged
    labels-over r e K =
        rw e (by_kind (eqb x.kind 0) refl)
      where
        told : {σ : Environment} {us us' : Trees Run} → LabelsLeft σ k us slot top l x us' slot' l₁ → ((d n : ℕ) → arm_from d n us' ≡ (Last d n us' >>= λ p. arm_of [] p)) → (b : Bool) → eqb x.kind 0 ≡ b
            → LabelsTold σ k us slot top l (cond b (failed_got Form 0 x.next x.top) x) us' l₁
        told {σ} {us} {us'} L M b i = go L.found refl b i
          where
            go : (cs : List Constant) → L.found ≡ cs → (b : Bool) → eqb x.kind 0 ≡ b → LabelsTold σ k us slot top l (cond b (failed_got Form 0 x.next x.top) x) us' l₁
            go [] f true i = record {
              found = none;
              reads = λ d n. arm_is d n us us' L.found (L.reads d n) (M d n) ∙ rw f refl;
              fault-is = refl;
              laid = λ zs h. absurd (wrong-fits h);
            }
            go [] f false i = absurd (true≢false (sym (eq-eqb x.kind 0 (L.counted ∙ ap counts f)) ∙ i))
            go (c ∷ cs) f true i = absurd (let z = sym (eqb-true x.kind 0 i) ∙ L.counted ∙ ap counts f in omega arith)
            go (c ∷ cs) f false i = record {
              found = some ((c ∷ cs) ++ []);
              reads = λ d n. arm_is d n us us' L.found (L.reads d n) (M d n) ∙ rw f refl;
              fault-is = sym (ap (λ (z : List Constant). fault_of (labels_staged σ k (some (z ++ [])))) (sym f) ∙ L.fault-is [] ∙ ap (λ (z : Staged (List ℤ)). lowest x.fault (fault_of z)) (no-labels σ k) ∙ lowest-clear x.fault);
              laid = λ zs h.
                  let y = L.laid [] zs (ap (λ (z : List Constant). labels_staged σ k (some (z ++ []))) f ∙ h) in
                  let E : lay_labels zs slot top l ≡ out slot' x.top l₁ = y.1.1 ∙ ap (λ (z : List ℤ). lay_labels z slot' x.top l₁) (sym (fits-inj (sym (no-labels σ k) ∙ y.1.0))) in
                  (ap (λ (z : Out). z.top) (sym E), ap (λ (z : Out). z.list) (sym E));
            }

        by_kind : (b : Bool) → eqb x.kind 0 ≡ b → GivesLabels s l scope k slot at top (cond b (failed_got Form 0 x.next x.top) x) l₁
        by_kind true i = record { around = D.around; fewer = D.fewer; keeps = D.keeps; grows = D.grows; says = λ ts σ bs S h. told (D.says ts σ bs S h) (K ts σ bs S h) true i }
        by_kind false i = record { around = D.around; fewer = D.fewer; keeps = D.keeps; grows = D.grows; says = λ ts σ bs S h. told (D.says ts σ bs S h) (K ts σ bs S h) false i }

    pub labels-stmt : (r : Got) → t ≡ true → r ≡ counted_got x → GivesLabels s l scope k slot at top r l₁
    labels-stmt r i e = labels-over r e (λ ts σ bs S h d n.
        last-first d n (first (stack_at s x.next)) (form-none (constant_in (first (stack_at s x.next))) (constant_of σ) plain some (sym (inside-labels ts σ bs S h).fault-is ∙ form-is v.fault (sym et ∙ i))))

    module _ (i : t ≡ false) (e : Maybe ℕ) (E : Shuts s v.next e) where
      label-here : (u : Tree Run) × Before s x.next u v.next
      label-here = VC.goes (sym et ∙ i)

      pub labels-last : (q : ℕ) (r : Got) → e ≡ Some q → r ≡ counted_got x → GivesLabels s l scope k slot at top r l₁
      labels-last q r h m =
          let Z : ShutAt s v.next q = rw h at E.says in
          labels-over r m (λ ts σ bs S j d n. last-only d n (first (stack_at s x.next)) (ap rest label-here.1.here ∙ Z.here))

      module _ (h : e ≡ None) where
        pub labels-falls : (u : ℕ) (y : Got) → y ≡ labelled_got x v k u → many (first (stack_at s y.next)) < many (first (stack_at s x.next))
        unfolding many
        labels-falls u y ey = rw (ey, label-here.1.here) (omega arith)

        labels-left : (c : Constant) (σ : Environment) → constant_in (first (stack_at s x.next)) ≡ some c → ValueTold (staged (some c) (constant_of σ) plain some) v
            → LabelsLeft σ k (first (stack_at s at)) slot top l x (first (stack_at s x.next)) slot' l₁ → (u : ℕ) (l₂ : List ℕ) → LinksLabel v.value slot' x.top l₁ u l₂
            → LabelsLeft σ k (first (stack_at s at)) slot top l (labelled_got x v k u) (first (stack_at s v.next)) (x.top + 1) l₂
        unfolding lay_labels linked link lay
        labels-left c σ ec T L u l₂ K = record {
          found = L.found ++ (c ∷ []);
          counted = sym (counts-more L.found c);
          reads = λ d n.
              L.reads d n ∙ ap (prefixed L.found) (label-first d n label-here.0 (first (stack_at s x.next)) (first (stack_at s v.next)) c label-here.1.here (rw h at E.says) ec)
              ∙ prefix-more L.found c (arm_from d n (first (stack_at s v.next)));
          fault-is = λ ds.
              ap (λ (z : List Constant). fault_of (labels_staged σ k (some z))) (append_assoc L.found (c ∷ []) ds) ∙ L.fault-is (c ∷ ds)
              ∙ ap (λ (z : Fault). lowest x.fault z) (ap fault_of (label-staged σ k c ds) ∙ join-fault (λ (z : ℤ) (zs : List ℤ). z ∷ zs) (label_staged σ k c) (labels_staged σ k (some ds)) ∙ ap (λ (z : Fault). lowest z (fault_of (labels_staged σ k (some ds)))) (sym (label-fault σ k c v T)))
              ∙ lowest-assoc x.fault (member_fault v.fault v.kind k) (fault_of (labels_staged σ k (some ds)));
          laid = λ ds zs j.
              let y = L.laid (c ∷ ds) zs (ap (λ (z : List Constant). labels_staged σ k (some z)) (sym (append_assoc L.found (c ∷ []) ds)) ∙ j) in
              let z = join-fits (λ (z : ℤ) (zs : List ℤ). z ∷ zs) (label_staged σ k c) (labels_staged σ k (some ds)) y.0 (sym (label-staged σ k c ds) ∙ y.1.0) in
              let w = label-value σ k c v T z.one z.one-fits in
              let B : K.bits_are ≡ bits z.one = K.is-bits.is-bits w.0 ∙ ap bits w.1 in
              (z.two, (z.two_fits, y.1.1 ∙ ap (λ (q : List ℤ). lay_labels q slot' x.top l₁) (sym z.made) ∙ rw (K.laid.free, K.laid.left, B) refl));
        }

        pub labels_next : (u : ℕ) (l₂ : List ℕ) (y : Got) (w : ℕ) → LinksLabel v.value slot' x.top l₁ u l₂ → w ≡ x.top + 1 → y ≡ labelled_got x v k u → Labelling s l scope k slot at top y w l₂
        unfolding linked link nodes staged
        labels_next u l₂ y w K ew ey =
            let G = lay-g (K.bits_are ∷ 0 ∷ []) x.top l₁ in
            let b = D.grows in
            rw (ey, ew) (record {
              around = D.around ∙ label-here.1.around;
              fewer = let m = ap nodes_in label-here.1.here in let j = D.fewer in omega arith;
              keeps = λ j.
                  let a = D.above j in
                  record { at = λ i p q. rw K.laid.left (get_or-set_other (lay (K.bits_are ∷ 0 ∷ []) x.top l₁).list slot' i (lay (K.bits_are ∷ 0 ∷ []) x.top l₁).pos 0 (omega arith) ∙ G.below i (omega arith) ∙ (D.keeps j).at i p q) };
              above = λ j. omega arith;
              grows = let m = G.up in rw K.laid.free (omega arith);
              says = λ ts σ bs S j. one_more ts σ bs S j (constant_in (first (stack_at s x.next))) refl (inside-labels ts σ bs S j);
            })
          where
            one_more : (ts : List ℕ) (σ : Environment) (bs : List ℕ) → Scene s l ts scope slot σ bs → slot ≤ top → (o : Option Constant) → constant_in (first (stack_at s x.next)) ≡ o
                → ValueTold (staged o (constant_of σ) plain some) v
                → LabelsLeft σ k (first (stack_at s at)) slot top l (labelled_got x v k u) (first (stack_at s v.next)) (x.top + 1) l₂
            one_more ts σ bs S j none ec T = absurd (true≢false (sym (ap is_form T.fault-is) ∙ sym et ∙ i))
            one_more ts σ bs S j (some c) ec T = labels-left c σ ec T (D.says ts σ bs S j) u l₂ K

pub ruleset labels-laws = (labels-stmt, labels-last)
