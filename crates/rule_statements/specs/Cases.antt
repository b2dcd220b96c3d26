-- The arms of a `case` while they are laid: what is done and what is left.
use Rattle.std.specs.Prelude.{false, cond, List, [], ◌∷◌, ◌++◌, ◌≡◌, ℕ, ◌+◌, ◌≤◌, eqb, ℤ}
use Rattle.std.proofs.Math.Option.{Option, none, some}
use Rattle.law.specs.Base.{◌>>=◌}
use Rattle.law.specs.Code.{Cases}
use Rattle.law.specs.Environment.{Environment}
use Rattle.law.specs.Forms.{ArmHead, is_arm, is_else, arms_first, constant}
use Rattle.law_theorems.specs.FormsByDepth.{stmt}
use Rattle.code.specs.Layout.{lay, link, lay_labels, lay_cases}
use Rattle.rule_stages.specs.Stages.{fits, labels_staged, arms_staged}
use Rattle.law.specs.Syntax.{Constant, Stmt, Arms}
use Rattle.law.specs.Trees.{word, form, Trees, end, ◌then◌, Run, first, later, nodes_in}
use Rattle.law_theorems.specs.Readings.{stack_at}
use Rattle.law.specs.Words.{worded}
use Rattle.code.specs.LayoutRegions.{Same}
use Rattle.text_heads.specs.Parts.{rest, closed, stmt_in, arm_in, arms_in, arm_head_in}
use Rattle.table_scope.specs.declared.Scope.{Scope}
use Rattle.rule_faults.specs.declared.Fault.{Fault}
use Rattle.rule_faults.specs.declared.Fault.TheVariants.{Clear, Kind, Form}
use Rattle.table_scope.specs.declared.Info.{Info}
use Rattle.table_scope.specs.declared.Loops.{Loops}
use Rattle.table_scope.specs.Descriptions.{info_of}
use Rattle.table_scope.specs.Scene.{Scene}
use Rattle.rule_faults.specs.declared.Got.{Got}
use Rattle.rule_faults.specs.Got.{lowest, is_form, is_clear, fault_of, failed_got}
use Rattle.text_parts.specs.Parts.{ShutAt}
use Rattle.rule_expr_nodes.specs.Bracket.{Closes}
use Rattle.table_list.specs.Laid.{Laid}
use Rattle.rule_atoms.specs.declared.Valued.{Valued}
use Rattle.rule_labels.specs.Repeating.{Repeating}
use Rattle.rule_expr_nodes.specs.Nodes.{IsBits, Made, Makes}
use Rattle.rule_expr_nodes.specs.Members.{member_fault}
use Rattle.rule_stmt_nodes.specs.BaseNodes.{node_if}
use Rattle.rule_expr_nodes.specs.Links.{linked}
use Rattle.rule_statements.specs.Walks.{bare, Around, GivesStmt}
use Rattle.rule_statements.specs.declared.arms.NextArm.{NextArm}
use Rattle.rule_statements.specs.declared.arms.NextArm.TheVariants as next-arm

-- ---- labels

-- labels, none or more, then the statement, which is the last part
unfoldable pub arm_from : ℕ → ℕ → Trees Run → Option (List Constant × (Stmt × ℕ))
arm_from d n end = none
arm_from d n (u then end) = (worded u >>= stmt d n) >>= λ p. some ([], p)
arm_from d n (t then (u then ts)) = (worded t >>= constant) >>= λ c. arm_from d n (u then ts) >>= λ p. some (c ∷ p.0, p.1)

-- with labels in front
abbrev pub prefixed : List Constant → Option (List Constant × (Stmt × ℕ)) → Option (List Constant × (Stmt × ℕ))
prefixed cs o = o >>= λ p. some (cs ++ p.0, p.1)

-- one label or more
unfoldable pub some_labels : List Constant → Option (List Constant)
some_labels [] = none
some_labels (c ∷ cs) = some (c ∷ cs)

-- 0 for no label
unfoldable pub counts : List Constant → ℕ
counts [] = 0
counts (c ∷ cs) = 1

-- the answer with one label more, laid up to t; and for all labels
abbrev pub labelled_got : Got → Valued → ℕ → ℕ → Got
labelled_got g v k t = record { fault = lowest g.fault (member_fault v.fault v.kind k); kind = 1; place = 0; next = v.next; top = t }

unfoldable pub counted_got : Got → Got
counted_got g = cond (eqb g.kind 0) (failed_got Form 0 g.next g.top) g

-- a label's link
pub record LinksLabel (z : ℤ) (slot top : ℕ) (l : List ℕ) (t : ℕ) (l' : List ℕ) : Type 0 where
  pub bits_are : ℕ
  pub is-bits : IsBits z bits_are
  pub laid : Laid (linked slot bits_are top l) t l'

-- of the labels in us, those that are left are in us'
pub record LabelsLeft (σ : Environment) (k : ℕ) (us : Trees Run) (slot top : ℕ) (l : List ℕ) (g : Got) (us' : Trees Run) (slot' : ℕ) (l' : List ℕ) : Type 0 where
  pub found : List Constant
  pub counted : g.kind ≡ counts found
  pub reads : (d n : ℕ) → arm_from d n us ≡ prefixed found (arm_from d n us')
  pub fault-is : (ds : List Constant) → fault_of (labels_staged σ k (some (found ++ ds))) ≡ lowest g.fault (fault_of (labels_staged σ k (some ds)))
  pub laid : (ds : List Constant) (zs : List ℤ) → labels_staged σ k (some (found ++ ds)) ≡ fits zs
      → (ys : List ℤ) × ((labels_staged σ k (some ds) ≡ fits ys) × (lay_labels zs slot top l ≡ lay_labels ys slot' g.top l'))

pub record Labelling (s l : List ℕ) (scope : Scope) (k slot at top : ℕ) (g : Got) (slot' : ℕ) (l' : List ℕ) : Type 0 where
  pub around : later (stack_at s at) ≡ later (stack_at s g.next)
  pub fewer : nodes_in (first (stack_at s g.next)) ≤ nodes_in (first (stack_at s at))
  pub keeps : slot ≤ top → Same 0 slot l' l
  pub above : slot ≤ top → slot ≤ slot'
  pub grows : top ≤ g.top
  pub says : (ts : List ℕ) (σ : Environment) (bs : List ℕ) → Scene s l ts scope slot σ bs → slot ≤ top
      → LabelsLeft σ k (first (stack_at s at)) slot top l g (first (stack_at s g.next)) slot' l'

-- all labels of an arm's parts us; its statement stands in us'
pub record LabelsTold (σ : Environment) (k : ℕ) (us : Trees Run) (slot top : ℕ) (l : List ℕ) (g : Got) (us' : Trees Run) (l' : List ℕ) : Type 0 where
  pub found : Option (List Constant)
  pub reads : (d n : ℕ) → arm_in d n us ≡ (found >>= λ cs. (stmt_in d n us' >>= λ p. closed (rest us') p) >>= λ p. some (cs, p))
  pub fault-is : g.fault ≡ fault_of (labels_staged σ k found)
  pub laid : (zs : List ℤ) → labels_staged σ k found ≡ fits zs → (g.top ≡ (lay_labels zs slot top l).top) × (l' ≡ (lay_labels zs slot top l).list)

pub record GivesLabels (s l : List ℕ) (scope : Scope) (k slot at top : ℕ) (g : Got) (l' : List ℕ) : Type 0 where
  pub around : later (stack_at s at) ≡ later (stack_at s g.next)
  pub fewer : nodes_in (first (stack_at s g.next)) ≤ nodes_in (first (stack_at s at))
  pub keeps : slot ≤ top → Same 0 slot l' l
  pub grows : top ≤ g.top
  pub says : (ts : List ℕ) (σ : Environment) (bs : List ℕ) → Scene s l ts scope slot σ bs → slot ≤ top
      → LabelsTold σ k (first (stack_at s at)) slot top l g (first (stack_at s g.next)) l'

-- ---- arms

-- `(arm ..)` or `(else ..)` whose parts after the head begin at q
pub record ArmFormAt (h : ArmHead) (s : List ℕ) (at q : ℕ) : Type 0 where
  pub head : Run
  pub here : first (stack_at s at) ≡ (form (word head then first (stack_at s q)) then first (later (stack_at s q)))
  pub around : later (stack_at s at) ≡ later (later (stack_at s q))
  pub headed : arm_head_in head ≡ some h

-- the same from inside the form
pub record ArmHeadAt (h : ArmHead) (s : List ℕ) (at q : ℕ) : Type 0 where
  pub head : Run
  pub here : first (stack_at s at) ≡ (word head then first (stack_at s q))
  pub around : later (stack_at s at) ≡ later (stack_at s q)
  pub headed : arm_head_in head ≡ some h

abbrev pub ArmComesBy : List ℕ → ℕ → NextArm → Type 0
ArmComesBy s at (next-arm.Past q) = ShutAt s at q
ArmComesBy s at (next-arm.Arm q) = ArmFormAt is_arm s at q
ArmComesBy s at (next-arm.Else q) = ArmFormAt is_else s at q
ArmComesBy s at next-arm.Nothing = (d n : ℕ) → arms_in d n (first (stack_at s at)) ≡ none

pub record ArmComes (s : List ℕ) (at : ℕ) (r : NextArm) : Type 0 where
  pub says : ArmComesBy s at r

abbrev pub ArmInsideBy : List ℕ → ℕ → NextArm → Type 0
ArmInsideBy s at (next-arm.Past q) = ⊥
ArmInsideBy s at (next-arm.Arm q) = ArmHeadAt is_arm s at q
ArmInsideBy s at (next-arm.Else q) = ArmHeadAt is_else s at q
ArmInsideBy s at next-arm.Nothing = (d n : ℕ) (ts : Trees Run) → arms_in d n (form (first (stack_at s at)) then ts) ≡ none

pub record ArmInside (s : List ℕ) (at : ℕ) (r : NextArm) : Type 0 where
  pub says : ArmInsideBy s at r

-- an arm's link [head, statement, 0], where g is the answer for what comes before its statement and b for that; the slot before it is set
unfoldable pub arm_made : List ℕ → ℕ → ℕ → Got → Got → Made
arm_made l slot head g b =
    let y = link slot (lay (head ∷ b.place ∷ 0 ∷ []) b.top l) in
    record { got = record { fault = lowest g.fault b.fault; kind = b.kind; place = b.top; next = b.next; top = y.top }; list = y.list }

-- an arm from its statement on; g is the answer for its labels, whose slot is `head`
pub data ArmStmtBy (s l ts : List ℕ) (scope : Scope) (loops : Loops) (d n slot head : ℕ) (g r : Got) (l' : List ℕ) : Type 0 where
  stmt-parts : (a b : Got) (l₁ : List ℕ) → GivesStmt s l ts scope loops d n g.next g.top a l₁ → Closes s a b → Makes (arm_made l₁ slot head g b) r l'
      → ArmStmtBy s l ts scope loops d n slot head g r l'

-- an arm after its head word
pub data ArmBy (s l ts : List ℕ) (scope : Scope) (loops : Loops) (k d n slot at top : ℕ) (r : Got) (l' : List ℕ) : Type 0 where
  arm-parts : (t h : ℕ) (g : Got) (l₁ l₂ : List ℕ) → Laid (lay (0 ∷ []) top l) t l₁ → h ≡ top → GivesLabels s l₁ scope k h at t g l₂
      → ArmStmtBy s l₂ ts scope loops d n slot top g r l' → ArmBy s l ts scope loops k d n slot at top r l'

-- a last `else` after its head word, and the end of the case; g is the answer for the arms before
pub data ElseBy (s l ts : List ℕ) (scope : Scope) (loops : Loops) (d slot : ℕ) (g : Got) (at : ℕ) (r : Got) (l' : List ℕ) : Type 0 where
  else-parts : (a b c : Got) (l₁ : List ℕ) → GivesStmt s l ts scope loops d g.kind at g.top a l₁ → Closes s a b → Closes s b c → Makes (arm_made l₁ slot 0 g c) r l'
      → ElseBy s l ts scope loops d slot g at r l'

-- of all arms o, those that are left are o'
pub record ArmsLeft (σ : Environment) (bs js : List ℕ) (k : ℕ) (o : Option (Arms × ℕ)) (slot top : ℕ) (l : List ℕ) (f : Fault) (o' : Option (Arms × ℕ)) (slot' top' : ℕ) (l' : List ℕ) : Type 0 where
  pub fault-is : fault_of (arms_staged σ js k (bare o)) ≡ lowest f (fault_of (arms_staged σ js k (bare o')))
  pub laid : (a : Cases) → arms_staged σ js k (bare o) ≡ fits a → (b : Cases) × ((arms_staged σ js k (bare o') ≡ fits b) × (lay_cases bs a slot top l ≡ lay_cases bs b slot' top' l'))
  pub number : (p : Arms × ℕ) → o ≡ some p → (q : Arms × ℕ) × ((o' ≡ some q) × (p.1 ≡ q.1))

pub record Arming (s l ts : List ℕ) (scope : Scope) (loops : Loops) (k d n slot at top : ℕ) (g : Got) (slot' : ℕ) (l' : List ℕ) : Type 0 where
  pub around : later (stack_at s at) ≡ later (stack_at s g.next)
  pub keeps : slot ≤ top → Same 0 slot l' l
  pub above : slot ≤ top → slot ≤ slot'
  pub grows : top ≤ g.top
  pub few-left : (σ : Environment) (bs js : List ℕ) → Around s l ts scope loops d n at slot σ bs js → slot ≤ top → g.kind + nodes_in (first (stack_at s g.next)) ≤ 65535
  pub says : (σ : Environment) (bs js : List ℕ) → Around s l ts scope loops d n at slot σ bs js → slot ≤ top
      → ArmsLeft σ bs js k (arms_in d n (first (stack_at s at))) slot top l g.fault (arms_in d g.kind (first (stack_at s g.next))) slot' g.top l'

pub record ArmsTold (σ : Environment) (bs js : List ℕ) (k : ℕ) (o : Option (Arms × ℕ)) (slot top : ℕ) (l : List ℕ) (g : Got) (l' : List ℕ) : Type 0 where
  pub fault-is : g.fault ≡ fault_of (arms_staged σ js k (bare o))
  pub laid : (a : Cases) → arms_staged σ js k (bare o) ≡ fits a → (g.top ≡ (lay_cases bs a slot top l).top) × (l' ≡ (lay_cases bs a slot top l).list)
  pub number : (p : Arms × ℕ) → o ≡ some p → g.kind ≡ p.1

-- arms up to the end of the case, chained from a slot on; their labels are of kind k
pub record GivesArms (s l ts : List ℕ) (scope : Scope) (loops : Loops) (k d n slot at top : ℕ) (g : Got) (l' : List ℕ) : Type 0 where
  pub goes : is_form g.fault ≡ false → later (stack_at s at) ≡ stack_at s g.next
  pub keeps : slot ≤ top → Same 0 slot l' l
  pub grows : top ≤ g.top
  pub says : (σ : Environment) (bs js : List ℕ) → Around s l ts scope loops d n at slot σ bs js → slot ≤ top
      → ArmsTold σ bs js k (arms_in d n (first (stack_at s at))) slot top l g l'

-- ---- the case

-- the kind of a selector by its answer: 0 where it has a fault
unfoldable pub selected_kind : Got → ℕ
selected_kind x = cond (is_clear x.fault) x.kind 0

-- the first is an arm, or a fault of row 6
abbrev pub cased : Option (Arms × ℕ) → Option (Arms × ℕ)
cased o = o >>= λ b. arms_first b.0 >>= λ c. some (c, b.1)

pub data FirstArm (s : List ℕ) (at : ℕ) : Fault → Type 0 where
  an-arm : ((d n : ℕ) → cased (arms_in d n (first (stack_at s at))) ≡ arms_in d n (first (stack_at s at))) → FirstArm s at Clear
  no_arm : ((d n : ℕ) → cased (arms_in d n (first (stack_at s at))) ≡ none) → FirstArm s at Form

-- the node, where i describes the selector's kind, f is the fault of the first arm and w that of the labels
unfoldable pub case_made : List ℕ → Info → ℕ → Got → Got → Fault → Fault → Made
case_made l i n x m f w =
    node_if (lowest (lowest x.fault (lowest (lowest f m.fault) w)) (cond (eqb i.shape 0) Clear Kind)) m.kind m.next (49 ∷ n ∷ x.place ∷ x.top ∷ []) m.top l

-- the end of a case whose selector has the answer x and whose arms have m
pub data CaseEnds (s l ts : List ℕ) (scope : Scope) (n : ℕ) (x m r : Got) (l' : List ℕ) : Type 0 where
  case-ends : (f w : Fault) → FirstArm s x.next f → Repeating s l scope x.next m.fault w → Makes (case_made l (info_of l ts x.kind) n x m f w) r l' → CaseEnds s l ts scope n x m r l'

-- the parts of a case after its selector
pub data CaseBy (s l ts : List ℕ) (scope : Scope) (loops : Loops) (x : Got) (d n : ℕ) (r : Got) (l' : List ℕ) : Type 0 where
  case-parts : (t h k : ℕ) (m : Got) (l₁ l₂ : List ℕ) → Laid (lay (0 ∷ []) x.top l) t l₁ → h ≡ x.top → k ≡ selected_kind x → GivesArms s l₁ ts scope loops k d n h x.next t m l₂
      → CaseEnds s l₂ ts scope n x m r l' → CaseBy s l ts scope loops x d n r l'
