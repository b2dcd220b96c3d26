use Rattle.rule_stores.proofs.+leaf_type.Given as goal

abbrev pub decreases-leaf_type : goal.decreases-leaf_type
decreases-leaf_type l = l.depth
