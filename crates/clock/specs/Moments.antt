-- Moments: 32-bit milliseconds that wrap (document 01, src/time.rs). A moment is a number below 2^32.
use Rattle.std.specs.Prelude.{ℕ, ◌+◌, ◌-◌, ◌%◌, ◌^◌, Bool, true, ◌==◌, nat_le}
use Rattle.choice.specs.Choice.{when◌then◌else◌}
use Rattle.clock.specs.Durations.{clamp}
use Rattle.clock.specs.declared.instant.Instant.{Instant}

-- A count of milliseconds as a moment.
abbrev pub wrap : ℕ → ℕ
wrap millis = millis % 2 ^ 32

-- A moment plus a wait wraps at 2^32.
abbrev pub plus : ℕ → ℕ → ℕ
plus m wait = wrap (m + wait)

-- The wrapped difference a − b.
abbrev pub gap : ℕ → ℕ → ℕ
gap a b = wrap (a + (2 ^ 32 - b))

-- Read as a signed 32-bit number, n is below zero.
abbrev pub negative : ℕ → Bool
negative n = nat_le (2 ^ 31) n

-- Moment a is before b when the wrapped difference a − b, read as a signed 32-bit number, is below zero. At a
-- distance of exactly 2^31 each is before the other.
unfoldable pub before : ℕ → ℕ → Bool
before a b = negative (gap a b)

-- A deadline is due at its own moment and where it is before now: at a distance of exactly 2^31, too.
unfoldable pub due : ℕ → ℕ → Bool
due deadline now = when deadline == now then true else before deadline now

-- The rest from now to a moment: none where that has passed, and at most the longest duration.
unfoldable pub rest : ℕ → ℕ → ℕ
rest m now = when before m now then 0 else clamp (gap m now)

-- The earlier of two moments: the second where it is before the first. This is not associative: of three moments that
-- lie all round the clock, each is before the next.
unfoldable pub earlier : ℕ → ℕ → ℕ
earlier a b = when before b a then b else a

-- The later of two moments: the first where the second is due at it.
unfoldable pub later : ℕ → ℕ → ℕ
later a b = when due b a then a else b

-- The moment of so many milliseconds.
abbrev pub moment : ℕ → Instant
moment millis = record { millis = millis }
