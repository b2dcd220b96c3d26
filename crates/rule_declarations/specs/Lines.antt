-- What a `var` or `type` line gives: its fault of rows 6 to 8, row 9, and what is held after it.
use Rattle.std.specs.Prelude.{Bool, true, false, List, ◌≡◌, ℕ, ◌+◌, ◌≤◌}
use Rattle.std.proofs.Math.Option.{Option, some}
use Rattle.law.specs.Base.{◌>>=◌}
use Rattle.law.specs.Ceilings.{line_bounded}
use Rattle.law.specs.Environment.{Declared, declare_line}
use Rattle.law.specs.Forms.{LineHead}
use Rattle.law_theorems.specs.FormsByDepth.{line_by}
use Rattle.code.specs.LayoutSize.{symbol_size}
use Rattle.law.specs.Names.{entry_of}
use Rattle.law.specs.Rules.{keeps_rules}
use Rattle.law.specs.Script.{Entry}
use Rattle.rule_stages.specs.Stages.{Staged, fits, staged, on_fits, unknown}
use Rattle.law.specs.Syntax.{LineForm}
use Rattle.law.specs.Trees.{Trees, Run, list}
use Rattle.law.specs.Words.{worded_all}
use Rattle.code.specs.LayoutRegions.{Same}
use Rattle.rule_faults.specs.declared.Fault.{Fault}
use Rattle.rule_faults.specs.Got.{fault_of}
use Rattle.rule_declarations.specs.State.{Holds}
use Rattle.rule_declarations.specs.declared.State.{State}
use Rattle.rule_declarations.specs.declared.Lined.{Lined}

-- the parts after a line's head word; n statements came before
unfoldable pub line_of : LineHead → ℕ → Trees Run → Option LineForm
line_of h n us = worded_all us >>= λ vs. line_by h n (list vs) >>= λ p. some p.0

-- rows 6 to 8
unfoldable pub entry_staged : Declared → Option LineForm → Staged Entry
entry_staged k o = staged o (entry_of k.env) (keeps_rules k.env.types) some

-- a new name, which may be known already, beside other parts
unfoldable pub newly : {A B : Type 0} → Bool → Staged A → (A → Staged B) → Staged B
newly true S f = unknown S
newly false S f = on_fits S f

abbrev pub lined_by : Fault → Bool → State → Lined
lined_by f b st = record { fault = f; within = b; state = st }

-- what the answer tells; l' and ts' are the lists then
pub record LineTold (s : List ℕ) (st : State) (k : Declared) (bs : List ℕ) (S : Staged Entry) (r : Lined) (l' ts' : List ℕ) : Type 0 where
  pub fault-is : r.fault ≡ fault_of S
  pub within-is : (e : Entry) → S ≡ fits e → r.within ≡ line_bounded k e
  pub holds : (e : Entry) → S ≡ fits e → line_bounded k e ≡ true → st.top + symbol_size e ≤ 16384 → (sn nn : ℕ)
      → Holds s l' ts' r.state (declare_line k e sn nn) bs × (r.state.top ≡ st.top + symbol_size e)

-- the line's parts say o
pub record GivesLine (s l ts : List ℕ) (st : State) (o : Option LineForm) (r : Lined) (l' ts' : List ℕ) : Type 0 where
  pub below : Same 0 st.top l' l
  pub told : (k : Declared) (bs : List ℕ) → Holds s l ts st k bs → LineTold s st k bs (entry_staged k o) r l' ts'
