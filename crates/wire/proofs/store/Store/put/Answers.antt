use Rattle.std.proofs.Common.{◌≡◌, length, rules, arith}
use Rattle.wire.proofs.Stores.{put_in}
use Rattle.wire.proofs.store.Store.put.Goals.{Start}
use Rattle.wire.proofs.store.Store.put.Goals as goal

size : (c : Start) → length c.args.self.now.bytes ≡ 256
size c = search rules

pub overflow_add-self : goal.overflow_add-self
overflow_add-self c =
    omega (arith, (put_in _ _ _ _ _ (size (goal.at.overflow_add-self c).Start) c.put_option_at.ensures.0 c.put_option_at.ensures.1).within)

pub returns : goal.returns
returns c = (put_in _ _ _ _ _ (size (goal.at.returns c).Start) c.put_option_at.ensures.0 c.put_option_at.ensures.1).kept
