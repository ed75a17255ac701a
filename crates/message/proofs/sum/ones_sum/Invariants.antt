use Rattle.std.proofs.Common.{◌≡◌}
use Rattle.message.specs.Datagrams.{ones_sum}
use Rattle.message.proofs.sum.ones_sum.Given as goal

abbrev pub invariant-loop-part : goal.invariant-loop-part
invariant-loop-part l = record {
  size : l.part-iterator.size ≡ 65534;
  same : ones_sum l.start l.s ≡ ones_sum l.sum l.part-iterator.rest.now;
}
