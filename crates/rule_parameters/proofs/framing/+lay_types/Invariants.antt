use Rattle.rule_parameters.proofs.framing.+lay_types.Given as goal

abbrev pub decreases-lay_types : goal.decreases-lay_types
decreases-lay_types l = l.n
