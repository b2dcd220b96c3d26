-- A call's arguments: what rules it keeps beside kinds.
use Rattle.std.specs.Prelude.{Bool, false, ◌&&◌, List, ℕ, zero, suc, eqb}
use Rattle.law.specs.Trees.{Trees, end, ◌then◌, Run}
use Rattle.text_heads.specs.declared.Verb.TheVariants as VB
use Rattle.table_scope.specs.declared.Loops.{Loops}
use Rattle.table_scope.specs.declared.Meaning.{Meaning}
use Rattle.table_scope.specs.declared.Meaning.TheVariants as meaning
use Rattle.table_scope.specs.declared.Scope.{Scope}
use Rattle.table_scope.specs.Frames.{frame_in}
use Rattle.rule_constants.specs.Plain.{plain_first}
use Rattle.rule_restrictions.specs.Walks.{KeepsVerb}

-- how many parameters a procedure has by its name's meaning
unfoldable pub count_by : List ℕ → Meaning → ℕ
count_by l meaning.Unknown = 0
count_by l (meaning.Type t) = 0
count_by l (meaning.Var i t a) = 0
count_by l (meaning.Proc p) = (frame_in l p).count
count_by l (meaning.Value k n) = 0

-- the parts are n, with no constant past the integers
unfoldable pub plain_count : ℕ → Trees Run → Bool
plain_count n end = eqb n 0
plain_count zero (t then ts) = false
plain_count (suc n) (t then ts) = plain_first (t then ts) && plain_count n ts

pub record KeepsCall (s l : List ℕ) (scope : Scope) (at : ℕ) (r : Bool) : Type 0 where
  pub any : (loops : Loops) (d : ℕ) → KeepsVerb s l scope loops VB.Call d at r
