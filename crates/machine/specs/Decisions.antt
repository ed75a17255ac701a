-- What a poll does, as far as the state, the waits and the moment decide it (document 01, "Polling"). Moments are the
-- Rust's, at every distance: those at exactly 2^31 ms, too, which no run from a fresh client meets. `decided` is the whole.
use Rattle.std.specs.Prelude.{ℕ, ◌+◌, ◌*◌, ◌/◌, ◌^◌, ◌≤◌, min, max, Bool, true, false, not, List, [], ◌∷◌, leb, None, Some}
use Rattle.choice.specs.Choice.{when◌then◌else◌}
use Rattle.clock.specs.Durations.{clamp}
use Rattle.clock.specs.Moments.{plus, before, due, rest, earlier, moment}
use Rattle.clock.specs.Clocks.{day}
use Rattle.clock.specs.declared.waits.Waits.{Waits}
use Rattle.machine.specs.declared.state.ClientState.{ClientState}
use Rattle.machine.specs.declared.state.ClientState.TheVariants.{Init, Discovering, Requesting, Renewing}
use Rattle.machine.specs.declared.state.DiscoverState.{DiscoverState}
use Rattle.machine.specs.declared.state.RequestState.{RequestState}
use Rattle.machine.specs.declared.state.RenewState.{RenewState}
use Rattle.machine.specs.declared.decide.Sending.{Sending}
use Rattle.machine.specs.declared.decide.Sending.TheVariants.{Discover, Request, Renew}
use Rattle.machine.specs.declared.decide.Decision.{Decision}

-- "The waking moment is the earliest open deadline, at most 86,400,000 ms on": deadlines are gathered in the order given.
abbrev pub earliest : ℕ → List ℕ → ℕ
earliest next [] = next
earliest next (deadline ∷ deadlines) = earliest (earlier next deadline) deadlines

abbrev pub waking : ℕ → List ℕ → ℕ
waking now deadlines = earliest (plus now day) deadlines

-- Nothing is due, and these deadlines are open; or a message is, and these are open after it.
abbrev pub waits : ℕ → List ℕ → Decision
waits now deadlines = record { due = None; wake = moment (waking now deadlines) }

abbrev pub sends : ℕ → Sending → List ℕ → Decision
sends now sending deadlines = record { due = Some sending; wake = moment (waking now deadlines) }

-- "Discover: [..] again after 10 s."
abbrev pub discovering : Waits → ℕ → DiscoverState
discovering w now = record { retry_at = moment (plus now w.discover_timeout.millis) }

abbrev pub discovers : Waits → ℕ → Decision
discovers w now = sends now (Discover (discovering w now)) ((discovering w now).retry_at.millis ∷ [])

unfoldable pub decided_discovering : Waits → DiscoverState → ℕ → Decision
decided_discovering w s now =
    when due s.retry_at.millis now then discovers w now
    else waits now (s.retry_at.millis ∷ [])

-- "Request in Requesting: waits 5, 5, 10, 10, 20 s": the first wait, doubled at every second try.
abbrev pub request_wait : Waits → ℕ → ℕ
request_wait w tried = clamp (w.initial_request_timeout.millis * 2 ^ (tried / 2))

abbrev pub requested : Waits → RequestState → ℕ → RequestState
requested w s now = record {
  tries = record { retry_at = moment (plus now (request_wait w s.tries.retry)); retry = s.tries.retry + 1 };
  server = s.server;
  requested_ip = s.requested_ip;
}

-- "The sixth expiry in Requesting resets and discovers in one poll."
unfoldable pub decided_requesting : Waits → RequestState → ℕ → Decision
decided_requesting w s now =
    when not (due s.tries.retry_at.millis now) then waits now (s.tries.retry_at.millis ∷ [])
    else when leb w.request_retries s.tries.retry then discovers w now
    else sends now (Request (requested w s now)) ((requested w s now).tries.retry_at.millis ∷ [])

-- "at the earlier of renew and rebind (once rebinding, at rebind alone)"
unfoldable pub next_retry : RenewState → ℕ
next_retry s = when s.rebinding then s.rebind_at.millis else earlier s.renew_at.millis s.rebind_at.millis

-- Whether a Request is of rebinding: "from rebind on", which the Rust reads as not before it.
unfoldable pub rebinds : RenewState → ℕ → Bool
rebinds s now = when s.rebinding then true else not (before now s.rebind_at.millis)

-- "Before rebind it [..] waits max(60 s, rest to rebind / 2), at most that rest."
abbrev pub renew_wait : Waits → RenewState → ℕ → ℕ
renew_wait w s now =
    min (max w.min_renew_timeout.millis (rest s.rebind_at.millis now / 2)) (rest s.rebind_at.millis now)

abbrev pub renewed : Waits → RenewState → ℕ → RenewState
renewed w s now = record {
  renew_at = moment (plus now (renew_wait w s now));
  rebind_at = s.rebind_at;
  expires_at = s.expires_at;
  rebinding = false;
}

-- "From rebind on it is broadcast and waits max(60 s, rest to expiry / 2), which may pass expiry."
abbrev pub rebind_wait : Waits → RenewState → ℕ → ℕ
rebind_wait w s now = max w.min_renew_timeout.millis (rest s.expires_at.millis now / 2)

abbrev pub rebound : Waits → RenewState → ℕ → RenewState
rebound w s now = record {
  renew_at = s.renew_at;
  rebind_at = moment (plus now (rebind_wait w s now));
  expires_at = s.expires_at;
  rebinding = true;
}

-- "Renewing: expiry first, which resets and discovers in that poll; then [..] a Request."
unfoldable pub decided_renewing : Waits → RenewState → ℕ → Decision
decided_renewing w s now =
    when due s.expires_at.millis now then discovers w now
    else when not (due (next_retry s) now) then waits now (s.expires_at.millis ∷ next_retry s ∷ [])
    else when rebinds s now then sends now (Renew (rebound w s now)) (s.expires_at.millis ∷ (rebound w s now).rebind_at.millis ∷ [])
    else sends now (Renew (renewed w s now)) (s.expires_at.millis ∷ (renewed w s now).renew_at.millis ∷ [])

unfoldable pub decided : Waits → ClientState → ℕ → Decision
decided w Init now = discovers w now
decided w (Discovering s) now = decided_discovering w s now
decided w (Requesting s) now = decided_requesting w s now
decided w (Renewing s) now = decided_renewing w s now

-- The state that follows a message.
abbrev pub following : Sending → ClientState
following (Discover s) = Discovering s
following (Request s) = Requesting s
following (Renew s) = Renewing s

-- Waits within the ranges of document 02's request (g), in milliseconds: the base's lie in them.
pub record InRange (w : Waits) : Type 0 where
  pub discover_least : 1000 ≤ w.discover_timeout.millis
  pub discover_most : w.discover_timeout.millis ≤ 3600000
  pub request_least : 1000 ≤ w.initial_request_timeout.millis
  pub request_most : w.initial_request_timeout.millis ≤ 60000
  pub tries_least : 1 ≤ w.request_retries
  pub tries_most : w.request_retries ≤ 8
  pub renew_least : 1000 ≤ w.min_renew_timeout.millis
  pub renew_most : w.min_renew_timeout.millis ≤ 600000
