-- How long a lease is and when it is renewed and rebound, in milliseconds (document 01, "Reading a reply").
use Rattle.std.specs.Prelude.{ℕ, ◌+◌, ◌*◌, ◌-◌, ◌/◌, min, ltb, Option, None, Some}
use Rattle.choice.specs.Choice.{when◌then◌else◌}
use Rattle.clock.specs.Durations.{seconds, duration}
use Rattle.clock.specs.declared.duration.Duration.{Duration}
use Rattle.machine.specs.declared.times.Row.{Row}
use Rattle.machine.specs.declared.times.Row.TheVariants.{Both, OnlyRenew, OnlyRebind, Neither}
use Rattle.machine.specs.declared.times.Times.{Times}

-- The time of an option that gives it in seconds.
abbrev pub given : Option ℕ → Option Duration
given None = None
given (Some s) = Some (duration (seconds s))

-- A lease for which the server names no time.
abbrev pub default_time : ℕ
default_time = seconds 120

abbrev pub or_default : Option Duration → Duration
or_default None = duration default_time
or_default (Some t) = t

-- No more than a maximum, if there is one.
abbrev pub at_most : Option Duration → ℕ → ℕ
at_most None l = l
at_most (Some maximum) l = min l maximum.millis

-- "L is option 51 or 120 s, then at most the configured maximum."
unfoldable pub lease_time : Option ℕ → Option Duration → ℕ
lease_time said maximum = at_most maximum (or_default (given said)).millis

-- The row that options 58 and 59, T1 and T2, and L fall under.
unfoldable pub both_row : Duration → Duration → ℕ → Row
both_row t1 t2 l = when ltb t1.millis t2.millis then (when ltb t2.millis l then Both t1 t2 else Neither) else Neither

abbrev pub row_of : Option Duration → Option Duration → ℕ → Row
row_of (Some t1) (Some t2) l = both_row t1 t2 l
row_of (Some t1) None l = when ltb t1.millis l then OnlyRenew t1 else Neither
row_of None (Some t2) l = when ltb t2.millis l then OnlyRebind t2 else Neither
row_of None None l = Neither

-- The times of a row. Division cuts down.
abbrev pub renew_after : Row → ℕ → ℕ
renew_after (Both t1 t2) l = t1.millis
renew_after (OnlyRenew t1) l = t1.millis
renew_after (OnlyRebind t2) l = min (l / 2) t2.millis
renew_after Neither l = l / 2

abbrev pub rebind_after : Row → ℕ → ℕ
rebind_after (Both t1 t2) l = t2.millis
rebind_after (OnlyRenew t1) l = t1.millis + (l - t1.millis) / 4 * 3
rebind_after (OnlyRebind t2) l = t2.millis
rebind_after Neither l = l / 8 * 7

unfoldable pub times_of : Row → ℕ → Times
times_of row l = record { renew = duration (renew_after row l); rebind = duration (rebind_after row l) }
