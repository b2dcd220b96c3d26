-- The procedures of a script for the marking machine: each is its body's run with the ones before it.
use Rattle.std.specs.Prelude.{List, [], ◌∷◌, ◌++◌, ℕ, zero, suc, get_or}
use Rattle.law.specs.Environment.{PlacedBody}
use Rattle.law.specs.Machine.{Procs, proc}
use Rattle.law.specs.Whole.{mark_body}

-- the first n; `none` stands for a body that is not there
unfoldable pub procs_of : PlacedBody → List PlacedBody → ℕ → Procs
procs_of none pbs zero = []
procs_of none pbs (suc n) = procs_of none pbs n ++ (proc (get_or pbs n none).frame (mark_body (get_or pbs n none) (procs_of none pbs n)) ∷ [])
