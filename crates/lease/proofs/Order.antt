-- Document 01: the moments of an ACK "stand in the order ACK, renew, rebind, expiry when the maximum is absent or at least
-- 8 ms". Assumes nothing.
use Prim.Native.Nat.{ℕ}
use mathlib.Core.List.{List}
use Rattle.octets.specs.Codes.{lease_time_code, renewal_code, rebinding_code}
use Rattle.wire.specs.Options.{option_data}
use Rattle.wire.specs.Readings.{seconds_of}
use Rattle.machine.specs.Times.{given}
use Rattle.machine.proofs.Order.{Ordered, Enough, in_order}
use Rattle.settings.specs.Settings.{maximum_of}
use Rattle.lease.specs.Bound.{reply_lease, reply_row}
use Rattle.settings.specs.declared.settings.Settings.{Settings}

pub reply_in_order : (settings : Settings) (reply : List ℕ) → Enough (maximum_of settings)
    → Ordered (reply_lease (maximum_of settings) reply) (reply_row reply (reply_lease (maximum_of settings) reply))
reply_in_order settings reply h =
    in_order (seconds_of (option_data lease_time_code reply)) (given (seconds_of (option_data renewal_code reply))) (given (seconds_of (option_data rebinding_code reply))) (maximum_of settings) h
