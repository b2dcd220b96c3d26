use mathlib.Core.Path.{◌≡◌, ◌∙◌}
use mathlib.Core.Bool.{cond}
use lib.Dec.{eqb}
use Rattle.rule_stmt_nodes.proofs.Making.{store-laws, store-cells, cells_one, cells_more}
use Rattle.rule_stmt_nodes.proofs.nodes.store_node.Goals.{then-i-eq1, else-i-eq1}
use Rattle.rule_stmt_nodes.proofs.nodes.store_node.Goals as goal

pub returns-then-k-e : goal.returns-then-k-e
returns-then-k-e c = search store-laws

pub returns-then-i-eq0 : goal.returns-then-i-eq0
returns-then-i-eq0 c = search store-laws

pub returns : goal.returns
returns c =
    let y : c.if-i-eq1.code ≡ cond (eqb c.args.i.shape 1) 44 52 = elim c.if-i-eq1.branch [ then-i-eq1 w ↦ w.code-is ∙ cells_one c.args.i.shape w.if-i-eq1.true | else-i-eq1 w ↦ w.code-is ∙ cells_more c.args.i.shape w.if-i-eq1.false ] in
    store-cells c.args.work.now c.args.i c.args.k c.args.n c.args.g c.args.e c.node-2.result c.if-i-eq1.code c.node-2.new.work c.if-k-e.false c.if-i-eq0.false y c.node-2.ensures
