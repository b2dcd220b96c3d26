use mir.Syntax.{w64}
use mir.Val.{Fits}
use native.Mathlib.Omega.{arith}
use lib.ListN.{length}
use Prim.Native.Nat.{◌≤◌, ◌+◌}
use borrow.Author.Rules.{rules}
use Rattle.text_words.proofs.WordPasses.{count-laws, count_room, count-start, hop-falls}
use Rattle.text_words.proofs.lines.count_nodes.Goals as goal

pub loop-h-init : goal.loop-h-init
loop-h-init c = count-start _ _

pub returns-then-stops : goal.returns-then-stops
returns-then-stops c = search count-laws

pub overflow_add-n : goal.overflow_add-n
overflow_add-n c = let r : c.loop-h.n + c.weight-n.result ≤ length c.args.text.now = search count_room in let l : Fits w64 (length c.args.text.now) = search rules in omega arith

pub loop-h-smaller : goal.loop-h-smaller
loop-h-smaller c = search hop-falls

pub loop-h-preserved : goal.loop-h-preserved
loop-h-preserved c = search count-laws
