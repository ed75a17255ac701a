use Rattle.std.proofs.Common.{◌≡◌, ◌+◌, ◌*◌, ◌≤◌, drop}
use Rattle.message.specs.Datagrams.{ones_sum}
use Rattle.message.specs.Pieces.{carried_in}
use Rattle.message.proofs.sum.deferred.Given as goal

abbrev pub invariant-loop-word : goal.invariant-loop-word
invariant-loop-word l = record {
  fits : l.sum ≤ 65535 * l.word-index;
  same : ones_sum l.start l.s ≡ ones_sum (carried_in (l.start + 256 * l.sum)) (drop (l.word-index * 2) l.s);
}
