use Rattle.std.proofs.Common.{ap, refl}
use Rattle.wire.proofs.Walks.{reply_tail}
use Rattle.wire.specs.Options.{options_from}
use Rattle.wire.proofs.options.Options.of.Goals as goal

pub returns : goal.returns
returns c = ap (options_from 0) (reply_tail c.args.reply.now c.get.result _ c.get.ensures.lookup c.unwrap_or.ensures refl)
