use Rattle.law.specs.Trees.{first}
use Rattle.law_theorems.specs.Readings.{stack_at}
use Rattle.text_heads.specs.Parts.{stmts_in}
use Rattle.rule_expressions.specs.Members.{many}
use Rattle.mark_statements.specs.Marks.{front_in}
use Rattle.mark_statements.proofs.Chains.{Following}
use Rattle.mark_statements.proofs.Looping.{Repeating, Counting}
use Prim.Native.Nat.{◌+◌, ◌*◌}
use Rattle.mark_statements.proofs.walk.Setting.+walk.Given as goal

abbrev pub decreases-stmts : goal.decreases-stmts
decreases-stmts l = 16 * (l.self.now.calls * 4294967296 + l.depth) + 2

abbrev pub decreases-rounds : goal.decreases-rounds
decreases-rounds l = 16 * (l.self.now.calls * 4294967296 + l.depth) + 2

abbrev pub decreases-repeat : goal.decreases-repeat
decreases-repeat l = 16 * (l.self.now.calls * 4294967296 + l.depth) + 2

abbrev pub decreases-mark_stmt : goal.decreases-mark_stmt
decreases-mark_stmt l = 16 * (l.self.now.calls * 4294967296 + l.depth) + 0

abbrev pub decreases-mark_body : goal.decreases-mark_body
decreases-mark_body l = 16 * (l.calls * 4294967296 + 33) + 5

abbrev pub decreases-inner : goal.decreases-inner
decreases-inner l = 16 * (l.self.now.calls * 4294967296 + l.depth) + 9

abbrev pub decreases-if_else : goal.decreases-if_else
decreases-if_else l = 16 * (l.self.now.calls * 4294967296 + l.depth) + 3

abbrev pub decreases-headed : goal.decreases-headed
decreases-headed l = 16 * (l.self.now.calls * 4294967296 + l.depth) + 8

abbrev pub decreases-front : goal.decreases-front
decreases-front l = 16 * (l.self.now.calls * 4294967296 + 33) + 3

abbrev pub decreases-else_part : goal.decreases-else_part
decreases-else_part l = 16 * (l.self.now.calls * 4294967296 + l.depth) + 1

abbrev pub decreases-count_up : goal.decreases-count_up
decreases-count_up l = 16 * (l.self.now.calls * 4294967296 + l.depth) + 4

abbrev pub decreases-choose : goal.decreases-choose
decreases-choose l = 16 * (l.self.now.calls * 4294967296 + l.depth) + 2

abbrev pub decreases-call : goal.decreases-call
decreases-call l = 16 * (l.self.now.calls * 4294967296 + l.depth) + 2

abbrev pub decreases-body_from : goal.decreases-body_from
decreases-body_from l = 16 * (l.self.now.calls * 4294967296 + 33) + 4

abbrev pub invariant-front-loop-store : goal.invariant-front-loop-store
invariant-front-loop-store l = Following front_in l.self.tables.text.now l.self.tables.work.now l.self.all.now l.self.tables.types.now l.self.bodies.now l.self.tables.scope l.self.calls l.n l.at l.initial.store l.initial.t l.m l.p l.store l.t

abbrev pub decreases-front-loop-store : goal.decreases-front-loop-store
decreases-front-loop-store l = many (first (stack_at l.self.tables.text.now l.p))

abbrev pub invariant-repeat-loop-store : goal.invariant-repeat-loop-store
invariant-repeat-loop-store l = Repeating l.self.tables.text.now l.self.tables.work.now l.self.all.now l.self.tables.types.now l.self.bodies.now l.self.tables.scope l.self.calls l.depth l.n l.c l.b l.initial.store l.initial.t l.store l.t

abbrev pub decreases-repeat-loop-store : goal.decreases-repeat-loop-store
decreases-repeat-loop-store l = l.t

abbrev pub invariant-rounds-loop-depth : goal.invariant-rounds-loop-depth
invariant-rounds-loop-depth l = Counting l.self.tables.text.now l.self.tables.work.now l.self.all.now l.self.tables.types.now l.self.bodies.now l.self.tables.scope l.self.calls l.depth l.n l.a l.x l.y l.b l.initial.store l.initial.t l.z l.store l.t

abbrev pub decreases-rounds-loop-depth : goal.decreases-rounds-loop-depth
decreases-rounds-loop-depth l = l.t

abbrev pub invariant-stmts-loop-store : goal.invariant-stmts-loop-store
invariant-stmts-loop-store l = Following (stmts_in l.depth) l.self.tables.text.now l.self.tables.work.now l.self.all.now l.self.tables.types.now l.self.bodies.now l.self.tables.scope l.self.calls l.n l.at l.initial.store l.initial.t l.m l.p l.store l.t

abbrev pub decreases-stmts-loop-store : goal.decreases-stmts-loop-store
decreases-stmts-loop-store l = many (first (stack_at l.self.tables.text.now l.p))
