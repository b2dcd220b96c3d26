-- The answer for a part of a line, and what it tells of the stages of rows 6 to 8 (rule_stages, Stages).
use Rattle.std.specs.Prelude.{Bool, true, false, List, ◌≡◌, ℕ}
use Rattle.code.specs.Layout.{Out, out}
use Rattle.rule_stages.specs.Stages.{Staged, wrong, unnamed, unfit, fits}
use Rattle.rule_faults.specs.declared.Fault.{Fault}
use Rattle.rule_faults.specs.declared.Fault.TheVariants.{Clear, Kind, Name, Form}
use Rattle.rule_faults.specs.declared.Got.{Got}

-- ---- faults

-- the fault of the lower row
abbrev pub lowest : Fault → Fault → Fault
lowest Clear g = g
lowest Kind Clear = Kind
lowest Kind Kind = Kind
lowest Kind Name = Name
lowest Kind Form = Form
lowest Name Clear = Name
lowest Name Kind = Name
lowest Name Name = Name
lowest Name Form = Form
lowest Form g = Form

abbrev pub is_form : Fault → Bool
is_form Clear = false
is_form Kind = false
is_form Name = false
is_form Form = true

abbrev pub is_clear : Fault → Bool
is_clear Clear = true
is_clear Kind = false
is_clear Name = false
is_clear Form = false

-- the fault of an answer by stages
abbrev pub fault_of : {A : Type 0} → Staged A → Fault
fault_of wrong = Form
fault_of unnamed = Name
fault_of unfit = Kind
fault_of (fits a) = Clear

-- ---- answers

abbrev pub failed_got : Fault → ℕ → ℕ → ℕ → Got
failed_got f k q t = record { fault = f; kind = k; place = 0; next = q; top = t }

-- a node that was laid
abbrev pub node_got : ℕ → ℕ → Out → Got
node_got k q o = record { fault = Clear; kind = k; place = o.pos; next = q; top = o.top }

abbrev pub past_bracket : Got → ℕ → Got
past_bracket g q = record { fault = g.fault; kind = g.kind; place = g.place; next = q; top = g.top }

-- what an answer tells: the fault; where there is none, the kind and the layout of what the part elaborates to
pub record Told {A : Type 0} (S : Staged A) (kind_of : A → ℕ) (lay_of : A → ℕ → List ℕ → Out) (top : ℕ) (l : List ℕ) (g : Got) (l' : List ℕ) : Type 0 where
  pub fault-is : g.fault ≡ fault_of S
  pub laid : (a : A) → S ≡ fits a → (g.kind ≡ kind_of a) × (out g.place g.top l' ≡ lay_of a top l)
