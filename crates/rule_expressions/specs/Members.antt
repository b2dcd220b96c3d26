-- The members of a set: a chain of links from a slot on.
use Rattle.std.specs.Prelude.{false, List, ◌≡◌, ℕ, suc, ◌≤◌}
use Rattle.law.specs.Code.{Codes}
use Rattle.law.specs.Environment.{Environment}
use Rattle.code.specs.Layout.{lay_codes}
use Rattle.rule_stages.specs.Stages.{fits, members_staged}
use Rattle.law.specs.Trees.{Trees, end, ◌then◌, Run, first, later}
use Rattle.law_theorems.specs.Readings.{stack_at}
use Rattle.code.specs.LayoutRegions.{Same}
use Rattle.text_heads.specs.Parts.{exprs_in}
use Rattle.table_scope.specs.declared.Scope.{Scope}
use Rattle.table_scope.specs.Scene.{Scene}
use Rattle.rule_faults.specs.declared.Got.{Got}
use Rattle.rule_faults.specs.Got.{is_form, fault_of}

-- how many parts there are
unfoldable pub many : Trees Run → ℕ
many end = 0
many (t then ts) = suc (many ts)

pub record MembersTold (σ : Environment) (k d : ℕ) (us : Trees Run) (chain top : ℕ) (l : List ℕ) (g : Got) (l' : List ℕ) : Type 0 where
  pub fault-is : g.fault ≡ fault_of (members_staged σ k (exprs_in d us))
  pub laid : (cs : Codes) → members_staged σ k (exprs_in d us) ≡ fits cs → (g.top ≡ (lay_codes cs chain top l).top) × (l' ≡ (lay_codes cs chain top l).list)

-- members of kind k up to the closing bracket, in a chain from the slot on
pub record GivesMembers (s l ts : List ℕ) (scope : Scope) (k d at chain top : ℕ) (g : Got) (l' : List ℕ) : Type 0 where
  pub goes : is_form g.fault ≡ false → later (stack_at s at) ≡ stack_at s g.next
  pub keeps : chain ≤ top → Same 0 chain l' l
  pub grows : top ≤ g.top
  pub says : (σ : Environment) (bs : List ℕ) → Scene s l ts scope chain σ bs → chain ≤ top → MembersTold σ k d (first (stack_at s at)) chain top l g l'
