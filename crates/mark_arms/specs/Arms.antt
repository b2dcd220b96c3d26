-- The arms of a `case` by offset, and the one that a value takes in the marking machine (law, Marking).
use Rattle.std.specs.Prelude.{Bool, List, [], ◌∷◌, ◌≡◌, ℕ, suc, ◌+◌, ◌<◌, ◌≤◌, ℤ, Some, None, Ok, Err, Option as Maybe, Result as Tried}
use Rattle.std.proofs.Math.Option.{Option, none, some}
use Rattle.law.specs.Base.{◌>>=◌, each}
use Rattle.law.specs.Calculate.{Result, is, stuck, case_error}
use Rattle.law.specs.Environment.{Environment}
use Rattle.law.specs.Forms.{ArmHead, is_arm, is_else, constant}
use Rattle.law_theorems.specs.FormsByDepth.{stmt}
use Rattle.law.specs.Machine.{Answer, State, Procs, answer, sticks, raising}
use Rattle.law.specs.Marking.{mark_labels, mark_arms, mark_stmt}
use Rattle.law.specs.Names.{constant_of, stmt_of, arms_of}
use Rattle.law.specs.Script as Script
use Rattle.law.specs.Script.{Const}
use Rattle.law.specs.Syntax.{Constant, Stmt, Arms, no_else}
use Rattle.law.specs.Trees.{Tree, word, form, Trees, end, ◌then◌, Run, first}
use Rattle.law_theorems.specs.Readings.{stack_at}
use Rattle.law.specs.Words.{worded}
use Rattle.text_parts.specs.Parts.{Before}
use Rattle.text_heads.specs.Parts.{rest, constant_in, stmt_in, arm_head_in, arms_in}
use Rattle.rule_labels.specs.Blocks.{Held}
use Rattle.mark_counts.specs.Statements.{CountsStatements}
use Rattle.mark_arms.specs.declared.Label.{Label}
use Rattle.mark_arms.specs.declared.Stuck.{Stuck}
use Rattle.mark_arms.specs.declared.Entry.{Entry}
use Rattle.mark_arms.specs.declared.Entry.TheVariants as entry
use Rattle.mark_arms.specs.declared.Turn.{Turn}
use Rattle.mark_arms.specs.declared.Turn.TheVariants as turn
use Rattle.mark_arms.specs.declared.Arm.{Arm}
use Rattle.mark_arms.specs.declared.Arm.TheVariants as chosen
use Rattle.table_scope.specs.declared.Scope.{Scope}

-- ---- an arm's parts, after its head

-- how many parts are left, by which the loops are measured
unfoldable pub many : Trees Run → ℕ
many end = 0
many (t then ts) = suc (many ts)

-- the labels: all parts but the last
unfoldable pub labels_in : Trees Run → Option (List Constant)
labels_in end = some []
labels_in (t then end) = some []
labels_in (t then (u then us)) = (worded t >>= constant) >>= λ c. labels_in (u then us) >>= λ cs. some (c ∷ cs)

-- the last part as a statement, where n is the number of the last one before
unfoldable pub last_in : ℕ → ℕ → Trees Run → Option (Stmt × ℕ)
last_in d n end = none
last_in d n (t then end) = worded t >>= stmt d n
last_in d n (t then (u then us)) = last_in d n (u then us)

-- a label stands at an offset, and the next part at q; or no more than one part is left
pub record Marks (s : List ℕ) (at q : ℕ) : Type 0 where
  pub part : Tree Run
  pub before : Before s at part q
  pub more : (first (stack_at s q) ≡ end) → ⊥

abbrev pub SpotsBy : List ℕ → ℕ → Maybe ℕ → Type 0
SpotsBy s at (Some q) = Marks s at q
SpotsBy s at None = rest (first (stack_at s at)) ≡ end

pub record Spots (s : List ℕ) (at : ℕ) (r : Maybe ℕ) : Type 0 where
  pub says : SpotsBy s at r

-- r is the label at an offset
pub record Labels (s l : List ℕ) (scope : Scope) (at : ℕ) (r : Label) : Type 0 where
  pub says : (σ : Environment) → Held s l scope σ → (c : Constant) (x : Const) → constant_in (first (stack_at s at)) ≡ some c → constant_of σ c ≡ some x
      → (r.kind ≡ x.kind) × (r.value ≡ x.value)

-- the last part stands at r
pub record EndsAt (s : List ℕ) (at r : ℕ) : Type 0 where
  pub says : (d n : ℕ) → last_in d n (first (stack_at s at)) ≡ stmt_in d n (first (stack_at s r))

-- ---- whether z, of kind k, is a label

abbrev pub fit_of : Tried Bool Stuck → Result Bool
fit_of (Ok b) = is b
fit_of (Err x) = stuck

-- v is what the labels among the parts us come to
pub record LabelsLeft (σ : Environment) (k : ℕ) (z : ℤ) (us : Trees Run) (v : Result Bool) : Type 0 where
  pub constants : List Constant
  pub values : List Const
  pub reads : labels_in us ≡ some constants
  pub known : each (constant_of σ) constants ≡ some values
  pub same : v ≡ mark_labels σ.types σ.vars k z values

pub record Meets (s l : List ℕ) (scope : Scope) (k : ℕ) (z : ℤ) (at : ℕ) (r : Tried Bool Stuck) : Type 0 where
  pub says : (σ : Environment) → Held s l scope σ → (v : Result Bool) → LabelsLeft σ k z (first (stack_at s at)) v → v ≡ fit_of r

-- ---- arms

-- a form with a head of an arm; what is after the head stands at q
pub record Headed (s : List ℕ) (h : ArmHead) (us : Trees Run) (q : ℕ) : Type 0 where
  pub head : Run
  pub parts : us ≡ (word head then first (stack_at s q))
  pub is : arm_head_in head ≡ some h

-- no arm is left
pub record NoArm (ts : Trees Run) : Type 0 where
  pub says : (d n : ℕ) (a : Arms × ℕ) → arms_in d n ts ≡ some a → a ≡ (no_else, n)

abbrev pub EntersFormBy : List ℕ → ℕ → Entry → Type 0
EntersFormBy s at (entry.Labelled q) = Headed s is_arm (first (stack_at s at)) q
EntersFormBy s at (entry.Other q) = Headed s is_else (first (stack_at s at)) q
EntersFormBy s at entry.Over = (ts : Trees Run) → NoArm (form (first (stack_at s at)) then ts)

pub record EntersForm (s : List ℕ) (at : ℕ) (r : Entry) : Type 0 where
  pub says : EntersFormBy s at r

-- at an offset stands a form with a head of an arm
pub record ArmAt (s : List ℕ) (at : ℕ) (h : ArmHead) (q : ℕ) : Type 0 where
  pub parts : Trees Run
  pub others : Trees Run
  pub here : first (stack_at s at) ≡ (form parts then others)
  pub headed : Headed s h parts q

abbrev pub EntersBy : List ℕ → ℕ → Entry → Type 0
EntersBy s at (entry.Labelled q) = ArmAt s at is_arm q
EntersBy s at (entry.Other q) = ArmAt s at is_else q
EntersBy s at entry.Over = NoArm (first (stack_at s at))

pub record Enters (s : List ℕ) (at : ℕ) (r : Entry) : Type 0 where
  pub says : EntersBy s at r

-- the machine f, for any procedures and any statement's number, is that of the arms us; m is the number of the last statement before them
pub record ArmsLeft (σ : Environment) (d k : ℕ) (z : ℤ) (m : ℕ) (us : Trees Run) (f : Procs → ℕ → State → Answer) : Type 0 where
  pub read : Arms × ℕ
  pub arms : Script.Arms
  pub reads : arms_in d m us ≡ some read
  pub names : arms_of σ read.0 ≡ some arms
  pub few : read.1 ≤ 4294967295
  pub same : (ps : Procs) (n : ℕ) (t : State) → f ps n t ≡ mark_arms σ.types σ.vars ps n k z arms t

-- f is the machine of the statement at q
pub record StmtLeft (s : List ℕ) (σ : Environment) (d m q : ℕ) (f : Procs → ℕ → State → Answer) : Type 0 where
  pub read : Stmt × ℕ
  pub stmt : Script.Stmt
  pub reads : stmt_in d m (first (stack_at s q)) ≡ some read
  pub names : stmt_of σ read.0 ≡ some stmt
  pub few : read.1 ≤ 4294967295
  pub same : (ps : Procs) (n : ℕ) (t : State) → f ps n t ≡ mark_stmt σ.types σ.vars ps stmt t

-- f raises a Case_Error; f sticks
pub record RaisesCase (f : Procs → ℕ → State → Answer) : Type 0 where
  pub same : (ps : Procs) (n : ℕ) (t : State) → f ps n t ≡ raising case_error n t

pub record Sticks (f : Procs → ℕ → State → Answer) : Type 0 where
  pub same : (ps : Procs) (n : ℕ) (t : State) → f ps n t ≡ answer sticks t

-- what the first arm says; past it, the others are left, by the statements in it
abbrev pub TurnsBy : List ℕ → Environment → ℕ → ℕ → ℤ → ℕ → ℕ → (Procs → ℕ → State → Answer) → Turn → Type 0
TurnsBy s σ d k z m at f (turn.Taken q) = StmtLeft s σ d m q f
TurnsBy s σ d k z m at f turn.Absent = RaisesCase f
TurnsBy s σ d k z m at f turn.Stuck = Sticks f
TurnsBy s σ d k z m at f (turn.On q) = (c : ℕ) → CountsStatements s at c → ArmsLeft σ d k z (m + c) (first (stack_at s q)) f

abbrev pub Falls : List ℕ → ℕ → Turn → Type 0
Falls s at (turn.Taken q) = Unit {0}
Falls s at turn.Absent = Unit {0}
Falls s at turn.Stuck = Unit {0}
Falls s at (turn.On q) = many (first (stack_at s q)) < many (first (stack_at s at))

pub record Turns (s l : List ℕ) (scope : Scope) (k : ℕ) (z : ℤ) (at : ℕ) (r : Turn) : Type 0 where
  pub falls : Falls s at r
  pub says : (σ : Environment) → Held s l scope σ → (d m : ℕ) (f : Procs → ℕ → State → Answer) → ArmsLeft σ d k z m (first (stack_at s at)) f → TurnsBy s σ d k z m at f r

-- ---- the choice

abbrev pub ChoosesBy : List ℕ → Environment → ℕ → (Procs → ℕ → State → Answer) → Arm → Type 0
ChoosesBy s σ d f (chosen.Taken q m) = StmtLeft s σ d m q f
ChoosesBy s σ d f chosen.Absent = RaisesCase f
ChoosesBy s σ d f chosen.Stuck = Sticks f

-- what arms come to for z, which is of kind k; n is the number of the last statement before them
pub record Chooses (s l : List ℕ) (scope : Scope) (k : ℕ) (z : ℤ) (n at : ℕ) (r : Arm) : Type 0 where
  pub says : (σ : Environment) → Held s l scope σ → (d : ℕ) (f : Procs → ℕ → State → Answer) → ArmsLeft σ d k z n (first (stack_at s at)) f → ChoosesBy s σ d f r
