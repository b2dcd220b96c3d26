use Rattle.std.proofs.lemmas.Result.{err_from_is_err_and}
use Rattle.leaf_powers.proofs.Powers.{square-fault, halved_laws}
use Rattle.leaf_powers.proofs.+halved.Goals as goal

pub returns-in_err-square : goal.returns-in_err-square
returns-in_err-square t c =
    let p = err_from_is_err_and c.from_residual-in_err-square.result c.from_residual-in_err-square.ensures.1 in
    rw (p.1, p.2) (square-fault _ _ c.ranges.x _ c.halved.ensures _ c.in_ok-half.was _ c.mul.ensures _ c.in_err-square.was)

pub returns-then-n-eq0-2 : goal.returns-then-n-eq0-2
returns-then-n-eq0-2 t c = search (halved_laws, c.in_ok-half.was, c.in_ok-square.was)

pub returns-else-n-eq0-2 : goal.returns-else-n-eq0-2
returns-else-n-eq0-2 t c = search (halved_laws, c.in_ok-half.was, c.in_ok-square.was)
