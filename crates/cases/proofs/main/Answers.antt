-- A list of so many equal bytes is compared as a whole only where the lemma has its level and its type written out: else the check counts the bytes one by one.
use Rattle.std.proofs.Common.{sym, ℕ}
use Rattle.std.proofs.lemmas.List.{length-replicate}
use Rattle.cases.proofs.main.Goals as goal

pub slice_bounds-serve-end : goal.slice_bounds-serve-end
slice_bounds-serve-end c = sym (length-replicate {0} {A = ℕ} 524288 0)
