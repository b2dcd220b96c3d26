use Rattle.rule_parameters.proofs.framing.+lay_wants.Given as goal

abbrev pub decreases-lay_wants : goal.decreases-lay_wants
decreases-lay_wants l = l.n
