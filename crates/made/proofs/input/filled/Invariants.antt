use Rattle.std.proofs.Common.{length, ◌-◌, ◌≤◌}
use Rattle.made.proofs.input.filled.Given as goal

abbrev pub invariant-loop-have : goal.invariant-loop-have
invariant-loop-have g l = l.have ≤ length l.text

abbrev pub decreases-loop-have : goal.decreases-loop-have
decreases-loop-have g l = length l.initial.text - l.have
