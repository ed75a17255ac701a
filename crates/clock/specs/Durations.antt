-- Durations: milliseconds, at most 1,073,741,824 (document 01, src/time.rs).
use Rattle.std.specs.Prelude.{ℕ, ◌*◌, min, Bool, Option, None, Some}
use Rattle.choice.specs.Choice.{when◌then◌else◌}
use Rattle.clock.specs.declared.duration.Duration.{Duration}

-- The longest duration, in milliseconds: 2^30.
abbrev pub longest : ℕ
longest = 1073741824

-- A duration is at most that.
abbrev pub clamp : ℕ → ℕ
clamp millis = min millis longest

-- A number of seconds as milliseconds of a duration.
abbrev pub seconds : ℕ → ℕ
seconds s = clamp (1000 * s)

-- The duration of so many milliseconds.
abbrev pub duration : ℕ → Duration
duration millis = record { millis = millis }

-- What a checked operation gives: none where the test says so, else the duration of so many milliseconds.
unfoldable pub none_if : Bool → ℕ → Option Duration
none_if test millis = when test then None else Some (duration millis)
