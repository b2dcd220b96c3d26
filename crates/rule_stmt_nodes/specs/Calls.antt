-- A call as the code makes it: the procedure that it names, its arguments' faults, and its node.
use Rattle.std.specs.Prelude.{cond, List, [], ◌∷◌, ◌≡◌, ℕ, ◌+◌, ◌<◌, ◌≤◌, ltb, get_or, length}
use Rattle.rule_faults.specs.declared.Fault.{Fault}
use Rattle.rule_faults.specs.declared.Fault.TheVariants.{Clear, Kind, Name}
use Rattle.rule_faults.specs.declared.Got.{Got}
use Rattle.rule_faults.specs.Got.{lowest}
use Rattle.table_scope.specs.declared.frames.Frame.{Frame}
use Rattle.table_scope.specs.declared.Meaning.{Meaning}
use Rattle.table_scope.specs.declared.Meaning.TheVariants as meaning
use Rattle.table_scope.specs.Frames.{framed, frame_in}
use Rattle.table_scope.specs.Sides.{host_in}
use Rattle.rule_expr_nodes.specs.Members.{member_fault}
use Rattle.rule_expr_nodes.specs.Nodes.{Made}
use Rattle.rule_stmt_nodes.specs.BaseNodes.{node_if}
use Rattle.rule_stmt_nodes.specs.Nodes.{next_number}
use Rattle.rule_stmt_nodes.specs.declared.calls.Callee.{Callee}

-- ---- the procedure

abbrev pub callee_is : Fault → ℕ → Frame → Callee
callee_is f p x = record { fault = f; place = p; frame = x }

abbrev pub no_callee : Callee
no_callee = callee_is Name 0 (framed 0 0 0)

-- by what its name means
abbrev pub callee_by : List ℕ → Meaning → Callee
callee_by l meaning.Unknown = no_callee
callee_by l (meaning.Type k) = no_callee
callee_by l (meaning.Var i k a) = no_callee
callee_by l (meaning.Proc p) = callee_is Clear p (frame_in l p)
callee_by l (meaning.Value k v) = no_callee

-- a frame in a list is that of parameters of these types, which stand below top
pub record Takes (l : List ℕ) (top : ℕ) (us : List ℕ) (x : Frame) : Type 0 where
  pub count-is : x.count ≡ length us
  pub types-below : x.types + length us ≤ top
  pub types_are : (j : ℕ) → j < length us → get_or l (x.types + j) 0 ≡ get_or us j 0
  pub few : length us ≤ 8

-- ---- its arguments

-- the fault of argument j, whose answer is a, by the kind that its parameter takes; past the last parameter it is one of row 8 at least
unfoldable pub argument_fault : List ℕ → List ℕ → Frame → ℕ → Got → Fault
argument_fault l ts x j a = cond (ltb j x.count) (member_fault a.fault a.kind (host_in l ts (get_or l (x.types + j) 0))) (lowest a.fault Kind)

-- the answer for arguments with one more, laid up to t; its kind is their count
abbrev pub argument_got : List ℕ → List ℕ → Frame → Got → Got → ℕ → Got
argument_got l ts x g a t = record { fault = lowest g.fault (argument_fault l ts x g.kind a); kind = next_number g.kind; place = 0; next = a.next; top = t }

-- fewer arguments than parameters
unfoldable pub few_fault : Frame → ℕ → Fault
few_fault x n = cond (ltb n x.count) Kind Clear

-- ---- the node; n is the statement's number, a the answer for the arguments

unfoldable pub called : List ℕ → ℕ → Callee → ℕ → Got → Made
called l n c slot a =
    node_if (lowest c.fault (lowest a.fault (few_fault c.frame a.kind))) n a.next (50 ∷ n ∷ c.place ∷ slot ∷ []) a.top l
