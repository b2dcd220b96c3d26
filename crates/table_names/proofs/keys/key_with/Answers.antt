use Rattle.table_names.proofs.Keying.{with-is}
use Rattle.table_names.proofs.keys.key_with.Goals as goal

pub returns : goal.returns
returns c = search with-is
