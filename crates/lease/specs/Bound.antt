-- The moments that an ACK sets (document 01, "Reading a reply"): L, the row of T1 and T2, and Renewing by its times.
use Rattle.std.specs.Prelude.{ℕ, List, Option}
use Rattle.clock.specs.Durations.{duration}
use Rattle.clock.specs.declared.instant.Instant.{Instant}
use Rattle.octets.specs.Codes.{lease_time_code, renewal_code, rebinding_code}
use Rattle.wire.specs.Options.{option_data}
use Rattle.wire.specs.Readings.{seconds_of}
use Rattle.machine.specs.Times.{given, lease_time, row_of, times_of}
use Rattle.machine.specs.States.{renewing}
use Rattle.machine.specs.declared.state.ClientState.{ClientState}
use Rattle.machine.specs.declared.times.Row.{Row}
use Rattle.settings.specs.Settings.{maximum_of}
use Rattle.settings.specs.declared.settings.Settings.{Settings}
use Rattle.clock.specs.declared.duration.Duration.{Duration}

-- L of a reply, under a maximum.
abbrev pub reply_lease : Option Duration → List ℕ → ℕ
reply_lease maximum reply = lease_time (seconds_of (option_data lease_time_code reply)) maximum

-- The row of the table of T1 and T2 that a reply with this L falls under.
abbrev pub reply_row : List ℕ → ℕ → Row
reply_row reply l = row_of (given (seconds_of (option_data renewal_code reply))) (given (seconds_of (option_data rebinding_code reply))) l

-- Renewing, by the times of an ACK.
abbrev pub bound_for : ℕ → List ℕ → Instant → ClientState
bound_for l reply moment = renewing (times_of (reply_row reply l) l) (duration l) moment

unfoldable pub bound_by : Settings → List ℕ → Instant → ClientState
bound_by settings reply moment = bound_for (reply_lease (maximum_of settings) reply) reply moment
