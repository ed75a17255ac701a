use Rattle.std.proofs.Common.{◌≡◌, false, MatchOption, length, nat_eq, rules}
use lib.Pointwise.{pointwise}
use Rattle.wire.proofs.Walks.{six_at}
use Rattle.wire.proofs.reply.is_addressed_to.Goals.{Start}
use Rattle.wire.proofs.reply.is_addressed_to.Goals as goal

size : (c : Start) → length c.args.hardware ≡ 6
size c = search rules

pub returns : goal.returns
returns c =
    let found : MatchOption c.get.result (c.is_some_and.result ≡ false) (λ x. c.is_some_and.result ≡ pointwise nat_eq x.now c.args.hardware) = search rules in
    six_at _ _ c.get.result (size (goal.at.returns c).Start) c.get.ensures.lookup found
