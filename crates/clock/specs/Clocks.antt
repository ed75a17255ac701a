-- The clock of a single poll: document 01's "The waking moment is the earliest open deadline, at most 86,400,000 ms on."
use Rattle.std.specs.Prelude.{ℕ, Bool, true, false}
use Rattle.choice.specs.Choice.{when◌then◌else◌}
use Rattle.clock.specs.Moments.{plus, due, earlier, moment}
use Rattle.clock.specs.declared.clock.Clock.{Clock}
use Rattle.clock.specs.declared.clock.Clocked.{Clocked}
use Rattle.clock.specs.declared.instant.Instant.{Instant}

-- 24 hours.
abbrev pub day : ℕ
day = 86400000

-- The clock of a poll at a moment that has gathered no deadline.
unfoldable pub clock_at : ℕ → Clock
clock_at now = record { now = moment now; next = moment (plus now day) }

-- The clock once it has gathered one more. `earlier` is not associative, so the order of gathering matters.
unfoldable pub gathering : Clock → ℕ → Clock
gathering c deadline = record { now = c.now; next = moment (earlier c.next.millis deadline) }

-- Whether a deadline has come; one that has not is gathered.
unfoldable pub expired_at : Clock → ℕ → Clocked Bool
expired_at c deadline =
    when due deadline c.now.millis then record { value = true; clock = c }
    else record { value = false; clock = gathering c deadline }

-- A deadline set a wait from now, and gathered.
unfoldable pub timer_after : Clock → ℕ → Clocked Instant
timer_after c wait =
    record { value = moment (plus c.now.millis wait); clock = gathering c (plus c.now.millis wait) }
