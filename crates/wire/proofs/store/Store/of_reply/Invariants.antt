use Rattle.std.proofs.Common.{◌≡◌}
use Rattle.wire.specs.Options.{options_left, options_of}
use Rattle.wire.specs.Stored.{all_pushed, empty_store}
use Rattle.wire.proofs.store.Store.of_reply.Given as goal

abbrev pub invariant-loop-item : goal.invariant-loop-item
invariant-loop-item l = all_pushed empty_store (options_of l.reply) ≡ all_pushed (record { bytes = l.bytes; len = l.len }) (options_left l.item-iterator)
