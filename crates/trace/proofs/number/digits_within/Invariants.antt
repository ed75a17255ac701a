use Rattle.std.proofs.Common.{◌≡◌, ◌≤◌, drop}
use Rattle.trace.specs.Numbers.{digits_of, within}
use Rattle.trace.proofs.Numbers.{onward}
use Rattle.trace.proofs.number.digits_within.Given as goal

abbrev pub invariant-loop-len : goal.invariant-loop-len
invariant-loop-len l = (l.value ≤ l.most) × (within l.most (digits_of l.text) ≡ onward l.most l.value l.len (digits_of (drop l.len l.text)))
