-- The exponent, which a half is below.
use Rattle.leaf_powers.proofs.+halved.Given as goal

abbrev pub decreases-halved : goal.decreases-halved
decreases-halved l = l.n
