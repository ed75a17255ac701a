use Rattle.std.proofs.Common.{◌≤◌, length}
use Rattle.replay.proofs.stream.run.Given as goal

abbrev pub invariant-loop-turn : goal.invariant-loop-turn
invariant-loop-turn g l = l.have ≤ length l.text
