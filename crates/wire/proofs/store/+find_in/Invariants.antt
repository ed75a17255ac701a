use Rattle.std.proofs.Common.{length}
use Rattle.wire.proofs.store.+find_in.Given as goal

abbrev pub decreases-find_in : goal.decreases-find_in
decreases-find_in l = length l.s.now
