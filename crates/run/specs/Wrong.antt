-- Wrong clients, each ours with one call changed in one respect. None meets `Demand3` (proofs/Refuted.antt), and each field of
-- it has one that fails by it (proofs/Fields.antt), so that nobody need wonder whether the claim says enough.
use Rattle.std.specs.Prelude.{ℕ, ◌+◌, ◌-◌, ◌^◌, Bool, true, false, ◌&&◌, List, [], ◌∷◌, eqb, leb, Result, Ok, Err}
use Rattle.choice.specs.Choice.{when◌then◌else◌}
use Rattle.reasons.specs.declared.refusal.Refusal.{Refusal}
use Rattle.reasons.specs.declared.refusal.Refusal.TheVariants.{LongestMessage, ShortBuffer, NotWhole}
use Rattle.clock.specs.Moments.{plus, earlier, moment}
use Rattle.clock.specs.Clocks.{day}
use Rattle.clock.specs.declared.instant.Instant.{Instant}
use Rattle.clock.specs.declared.rand.Rand.{Rand}
use Rattle.machine.specs.States.{has_lease}
use Rattle.machine.specs.Decisions.{next_retry}
use Rattle.machine.specs.declared.state.ClientState.{ClientState}
use Rattle.machine.specs.declared.state.ClientState.TheVariants.{Init, Discovering, Requesting, Renewing}
use Rattle.tables.specs.Applied.{applied}
use Rattle.tables.specs.Tables.{routes_of, route_table}
use Rattle.tables.specs.declared.route.Route.{Route}
use Rattle.tables.specs.declared.tables.Tables.{Tables}
use Rattle.tables.specs.declared.manual.Changed.{Changed}
use Rattle.lease.specs.Leases.{installed, nothing}
use Rattle.client.specs.Taken.{holds, processed}
use Rattle.client.specs.Polls.{PolledInto, refused_by, passed_by, too_short, polled}
use Rattle.client.specs.declared.client.Client.{Client}
use Rattle.client.specs.Outcomes.{Processed, WasReset}
use Rattle.client.specs.declared.poll.PollAnswer.{PollAnswer}
use Rattle.client.specs.Resets.{cleared}
use Rattle.run.specs.Calls.{Manual, Calls, wake_of, calls}
use Rattle.client.specs.declared.process.NotTaken.{NotTaken}
use Rattle.client.specs.declared.process.NotTaken.TheVariants.{PassedOver, Refused}

-- Ours with one call changed: another poll, another way to take replies, another reset, other manual calls.
abbrev pub of : (Client → Tables → Rand → Instant → List ℕ → PolledInto) → (Client → Tables → ℕ → List ℕ → Instant → Processed) → (Client → Tables → WasReset)
    → (Manual → Tables → Changed) → Calls
of poll process reset by_hand = record { create = calls.create; poll = poll; process = process; reset = reset; by_hand = by_hand }

abbrev pub polling : (Client → Tables → Rand → Instant → List ℕ → PolledInto) → Calls
polling poll = of poll calls.process calls.reset calls.by_hand

abbrev pub taking : (Client → Tables → ℕ → List ℕ → Instant → Processed) → Calls
taking process = of calls.poll process calls.reset calls.by_hand

abbrev our_poll : Client → Tables → Rand → Instant → List ℕ → PolledInto
our_poll = polled

-- What a poll leaves, but for its answer.
abbrev pub answering : (Result PollAnswer Refusal → Result PollAnswer Refusal) → PolledInto → PolledInto
answering change r = record {
  polled = record { client = r.polled.client; tables = r.polled.tables; rand = r.polled.rand; outcome = change r.polled.outcome };
  buffer = r.buffer;
}

abbrev pub outcome_at : Instant → Result PollAnswer Refusal → Result PollAnswer Refusal
outcome_at wake (Ok a) =
    Ok (record { length = a.length; source = a.source; destination = a.destination; wake = wake; purge = a.purge })
outcome_at wake (Err reason) = Err reason

abbrev pub waking_at : Instant → PolledInto → PolledInto
waking_at wake = answering (outcome_at wake)

-- Wakes every 24 hours, whatever is open.
abbrev pub daily : Calls
daily = polling (λ c t g now buffer. waking_at (moment (plus now.millis day)) (our_poll c t g now buffer))

-- Reports 8 before measuring the message: by the longest that there could be, and whether one is due or not.
unfoldable pub unmeasured : Client → Tables → Rand → Instant → List ℕ → PolledInto
unmeasured c t g now buffer =
    when too_short buffer (c.settings.mtu - 20) then refused_by c t g buffer ShortBuffer
    else our_poll c t g now buffer

abbrev pub hasty : Calls
hasty = polling unmeasured

-- Refuses every poll.
abbrev pub refusing : Calls
refusing = polling (λ c t g now buffer. refused_by c t g buffer ShortBuffer)

-- Never wakes for expiry: in Renewing, the next Request is all that it wakes for.
abbrev pub without_expiry : ClientState → Instant → Instant → Instant
without_expiry Init now wake = wake
without_expiry (Discovering s) now wake = wake
without_expiry (Requesting s) now wake = wake
without_expiry (Renewing s) now wake = moment (earlier (plus now.millis day) (next_retry s))

abbrev pub unexpiring : Calls
unexpiring =
    polling (λ c t g now buffer.
    waking_at (without_expiry (our_poll c t g now buffer).polled.client.session.state now (wake_of (our_poll c t g now buffer).polled.outcome))
    (our_poll c t g now buffer))

-- Enters a lost entry again on an ACK equal to the lease: such an ACK does to the tables what it would without a lease. It is
-- the reply that is taken while a lease is held and leaves the same one held.
abbrev pub entering_again : Processed → Tables → Processed
entering_again r t = record {
  client = r.client;
  tables = (applied t (installed r.client.lease) nothing).tables;
  outcome = r.outcome;
}

abbrev pub is_taken : Result Bool NotTaken → Bool
is_taken (Ok purge) = true
is_taken (Err reason) = false

abbrev pub leaves_held : Client → Processed → Bool
leaves_held c r = is_taken r.outcome && (has_lease r.client.session.state && holds c.session.state c.lease r.client.lease)

unfoldable pub processed_again : Client → Tables → ℕ → List ℕ → Instant → Processed
processed_again c t source bytes now =
    when leaves_held c (processed c t source bytes now) then entering_again (processed c t source bytes now) t
    else processed c t source bytes now

abbrev pub entering : Calls
entering = taking processed_again

-- Wakes every millisecond.
abbrev pub restless : Calls
restless = polling (λ c t g now buffer. waking_at (moment (plus now.millis 1)) (our_poll c t g now buffer))

-- Keeps a lease for ever, and does nothing while it has one.
unfoldable pub keeping : Client → Tables → Rand → Instant → List ℕ → PolledInto
keeping c t g now buffer =
    when has_lease c.session.state then passed_by c t g buffer (moment (plus now.millis day))
    else our_poll c t g now buffer

abbrev pub clinging : Calls
clinging = polling keeping

-- Loses its lease on a reply that it passes over.
abbrev pub lose : Client → Tables → Processed → Result Bool NotTaken → Processed
lose c t r (Ok purge) = r
lose c t r (Err (PassedOver why)) = record { client = (cleared c t).client; tables = (cleared c t).tables; outcome = Err (PassedOver why) }
lose c t r (Err (Refused reason)) = r

abbrev pub losing : Calls
losing = taking (λ c t source bytes now. lose c t (processed c t source bytes now) (processed c t source bytes now).outcome)

-- Takes a NAK and leaves the entries to its next poll.
unfoldable pub linger : Tables → Processed → Processed
linger t r = record { client = r.client; tables = when has_lease r.client.session.state then r.tables else t; outcome = r.outcome }

abbrev pub lingering : Calls
lingering = taking (λ c t source bytes now. linger t (processed c t source bytes now))

-- Enters its route twice.
abbrev pub double : List Route → List Route
double [] = []
double (x ∷ xs) = x ∷ x ∷ xs

abbrev pub twice : Processed → Processed
twice r = record {
  client = r.client;
  tables = record {
    ip_addrs = r.tables.ip_addrs;
    routes = route_table (double (routes_of r.tables.routes));
    config_generation = r.tables.config_generation;
  };
  outcome = r.outcome;
}

abbrev pub doubling : Calls
doubling = taking (λ c t source bytes now. twice (processed c t source bytes now))

-- Does nothing with an empty buffer, and asks to be polled at once.
abbrev pub awaits : Client → Tables → Rand → Instant → List ℕ → PolledInto
awaits c t g now [] = passed_by c t g [] now
awaits c t g now (x ∷ xs) = our_poll c t g now (x ∷ xs)

abbrev pub awaiting : Calls
awaiting = polling awaits

-- Says 8 by the longest message that there could be, when one is due.
unfoldable pub hurry : Client → Tables → Rand → List ℕ → PolledInto → Result PollAnswer Refusal → PolledInto
hurry c t g b r (Ok a) =
    when eqb a.length 0 then r
    else when too_short b (c.settings.mtu - 20) then refused_by c t g b ShortBuffer
    else r
hurry c t g b r (Err reason) = r

abbrev pub hurrying : Calls
hurrying = polling (λ c t g now b. hurry c t g b (our_poll c t g now b) (our_poll c t g now b).polled.outcome)

-- Wipes the buffer that it is lent.
abbrev pub wiping : Calls
wiping = polling (λ c t g now b. record { polled = (our_poll c t g now b).polled; buffer = [] })

-- Counts its polls in the generation of the tables.
abbrev pub bumped : Tables → Tables
bumped t = record { ip_addrs = t.ip_addrs; routes = t.routes; config_generation = t.config_generation + 1 }

abbrev pub counting : Calls
counting = polling (λ c t g now b. record {
  polled = record {
    client = (our_poll c t g now b).polled.client;
    tables = bumped (our_poll c t g now b).polled.tables;
    rand = (our_poll c t g now b).polled.rand;
    outcome = (our_poll c t g now b).polled.outcome;
  };
  buffer = (our_poll c t g now b).buffer;
})

-- Wakes half a turn of the clock late.
abbrev pub late : Calls
late = polling (λ c t g now b. waking_at (moment (plus (wake_of (our_poll c t g now b).polled.outcome).millis (2 ^ 31))) (our_poll c t g now b))

-- Compares moments as plain numbers: wakes at the smaller one of its deadline and 24 hours on.
unfoldable pub smaller : ℕ → ℕ → ℕ
smaller a b = when leb a b then a else b

abbrev pub unwrapped : Calls
unwrapped = polling (λ c t g now b.
    waking_at (moment (smaller (plus now.millis day) (wake_of (our_poll c t g now b).polled.outcome).millis)) (our_poll c t g now b))

-- Answers a length where it builds nothing.
abbrev pub boast : Result PollAnswer Refusal → Result PollAnswer Refusal
boast (Ok a) =
    Ok (record { length = a.length + 1; source = a.source; destination = a.destination; wake = a.wake; purge = a.purge })
boast (Err reason) = Err reason

abbrev pub boasting : Calls
boasting = polling (λ c t g now b. answering boast (our_poll c t g now b))

-- Refuses by 7 what ours refuses by 8.
abbrev pub misnumber : Result PollAnswer Refusal → Result PollAnswer Refusal
misnumber (Ok a) = Ok a
misnumber (Err reason) = Err LongestMessage

abbrev pub misnumbering : Calls
misnumbering = polling (λ c t g now b. answering misnumber (our_poll c t g now b))

-- Refuses by 8 every buffer that is not empty.
abbrev pub muzzle : Client → Tables → Rand → Instant → List ℕ → PolledInto
muzzle c t g now [] = our_poll c t g now []
muzzle c t g now (x ∷ xs) = refused_by c t g (x ∷ xs) ShortBuffer

abbrev pub muzzled : Calls
muzzled = polling muzzle

-- Refuses every reply and every reset by 9, or every manual call for a reason.
abbrev pub deaf : Calls
deaf = taking (λ c t source bytes now. record { client = c; tables = t; outcome = Err (Refused NotWhole) })

abbrev pub stubborn : Calls
stubborn = of calls.poll calls.process (λ c t. record { client = c; tables = t; outcome = Err NotWhole }) calls.by_hand

abbrev pub rigid : Refusal → Calls
rigid reason = of calls.poll calls.process calls.reset (λ m t. record { tables = t; outcome = Err reason })
