use Rattle.std.proofs.Common.{◌≡◌, length}
use Rattle.wire.specs.Options.{options_from}
use Rattle.wire.proofs.options.past_padding.Given as goal

abbrev pub invariant-loop-code : goal.invariant-loop-code
invariant-loop-code l = options_from 0 l.rest ≡ options_from 0 l.field

abbrev pub decreases-loop-code : goal.decreases-loop-code
decreases-loop-code l = length l.rest
