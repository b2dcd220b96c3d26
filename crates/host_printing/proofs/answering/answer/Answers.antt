use Rattle.std.proofs.Common.{length}
use Rattle.host_printing.proofs.Showing.{answer_counted, answer_refused}
use Rattle.host_printing.proofs.answering.answer.Goals as goal

pub returns-in-Ok : goal.returns-in-Ok
returns-in-Ok g c = λ m n e. answer_counted c.in-Ok.cells (g.M.Machine.verdict c.args.text.now (length c.args.work.now)) _ c.in-Ok.ensures.0 m n e

pub returns-in-Err : goal.returns-in-Err
returns-in-Err g c = answer_refused c.in-Err.e (g.M.Machine.verdict c.args.text.now (length c.args.work.now)) _ _ _ c.in-Err.ensures.0 c.refused.ensures
