-- Corners of a run, computed: from a fresh client with the usual waits to an ACK, and on. Assumes nothing.
use Rattle.std.proofs.Common.{Result, Ok, Err}
use Prim.Native.Nat.{ℕ, ◌*◌, ◌≤◌}
use mathlib.Core.Path.{◌≡◌, refl, ap, ◌∙◌}
use mathlib.Core.Bool.{true, false}
use mathlib.Core.List.{List, [], ◌∷◌, ◌++◌}
use lib.ListN.{replicate}
use native.Mathlib.Omega.{arith}
use Rattle.clock.specs.Durations.{longest}
use Rattle.clock.specs.Moments.{plus, moment}
use Rattle.clock.specs.Clocks.{day}
use Rattle.clock.specs.Generator.{generator, drawn32}
use Rattle.octets.specs.Words.{bytes32}
use Rattle.machine.specs.States.{has_lease}
use Rattle.machine.specs.declared.state.ClientState.TheVariants.{Discovering, Requesting, Renewing}
use Rattle.machine.specs.declared.state.RenewState.{RenewState}
use Rattle.tables.specs.Tables.{addr_table, route_table, empty_tables, dhcp_addrs}
use Rattle.tables.specs.Applied.{leased_addr}
use Rattle.lease.specs.Leases.{no_lease}
use Rattle.client.specs.Polls.{silent}
use Rattle.client.specs.declared.poll.PollAnswer.{PollAnswer}
use Rattle.sending.specs.Sendings.{broadcast}
use Rattle.run.specs.Calls.{Post, calls}
use Rattle.run.specs.Demand3.{Entry, Run, moment_after, stepped, after, is_held, since, Timely}
use Rattle.run.proofs.Sample.{plain, standing, lease_by, server, address, offer, ack_with, poll_into, poll_after, reply_now, from_fresh, runs, until_ack, computing}
use Rattle.reasons.specs.declared.refusal.Refusal.{Refusal}
use Rattle.reasons.specs.declared.refusal.Refusal.TheVariants.{ShortBuffer}

-- The run from an ACK with these options, at a moment; what a poll then answers.
abbrev from : ℕ → List ℕ → List Entry → Run
from m more es = runs calls (from_fresh empty_tables m) (until_ack more ++ es)

abbrev answers : Post → List ℕ → ℕ → Result PollAnswer Refusal
answers p buffer step = (calls.poll p.client p.tables p.rand (moment_after p step) buffer).polled.outcome

-- Demand 3: "at most 2^30 ms from one poll not refused to the next". Were refused ones counted, it would be false: after an ACK
-- of 120 s come two polls 2^30 ms apart that are refused by 8, and one as much later that is not; the lease is long over, and
-- the client still has it.
abbrev starved : List Entry
starved = poll_into (0 ∷ []) longest ∷ poll_into (0 ∷ []) longest ∷ poll_after longest ∷ []

pub refused_starve : (answers (from 0 [] []).post (0 ∷ []) longest ≡ Err ShortBuffer)
    × (answers (from 0 [] (poll_into (0 ∷ []) longest ∷ [])).post (0 ∷ []) longest ≡ Err ShortBuffer)
    × (has_lease (from 0 [] starved).post.client.session.state ≡ true)
    × (is_held (from 0 [] starved).history ≡ false)
unfolding computing
refused_starve = (refl, refl, refl, refl)

too_long : 3 * longest ≤ longest → ⊥
too_long h = omega arith

pub starved_untimely : Timely calls plain (since 0) (from 0 [] []) starved → ⊥
unfolding computing
starved_untimely h = too_long h.1.1.0

-- Document 01: "A lease of 0 is accepted, and the next poll drops it", here one at the same moment.
abbrev zero_seconds : List ℕ
zero_seconds = 51 ∷ 4 ∷ 0 ∷ 0 ∷ 0 ∷ 0 ∷ []

pub zero_lease : (has_lease (from 0 zero_seconds []).post.client.session.state ≡ true)
    × (dhcp_addrs (from 0 zero_seconds []).post.tables ≡ leased_addr address 24 ∷ [])
    × ((from 0 zero_seconds (poll_after 0 ∷ [])).post.client.session.state ≡ Discovering (record { retry_at = moment 10000 }))
    × (dhcp_addrs (from 0 zero_seconds (poll_after 0 ∷ [])).post.tables ≡ [])
unfolding computing
zero_lease = (refl, refl, refl, refl)

-- What there is before the ACK, and what after it: longer runs are computed from there.
abbrev requested : ℕ → Post
requested m = record {
  client = standing (Requesting (record { tries = record { retry_at = moment (plus m 5000); retry = 1 }; server = server; requested_ip = address })) no_lease 3;
  tables = empty_tables;
  rand = (drawn32 (generator 0)).rand;
  now = moment m;
}

abbrev timers : ℕ → ℕ → ℕ → RenewState
timers renew rebind expiry = record { renew_at = moment renew; rebind_at = moment rebind; expires_at = moment expiry; rebinding = false }

abbrev bound : ℕ → List ℕ → RenewState → Post
bound m more s = record {
  client = standing (Renewing s) (lease_by more) 3;
  tables = record { ip_addrs = addr_table (leased_addr address 24 ∷ []); routes = route_table []; config_generation = 1 };
  rand = (drawn32 (generator 0)).rand;
  now = moment m;
}

bound_so : (m : ℕ) (more : List ℕ) (s : RenewState)
    → (runs calls (from_fresh empty_tables m) (poll_after 0 ∷ reply_now offer ∷ poll_after 0 ∷ [])).post ≡ requested m
    → stepped calls plain (requested m) (reply_now (ack_with more)) ≡ bound m more s
    → (from m more []).post ≡ bound m more s
bound_so m more s before after = ap (λ (p : Post). stepped calls plain p (reply_now (ack_with more))) before ∙ after

-- A Request of 270 octets.
abbrev asks : (destination wake : ℕ) → Result PollAnswer Refusal
asks destination wake = Ok (record { length = 270; source = address; destination = destination; wake = moment wake; purge = false })

-- Document 01: "A moment plus a wait wraps at 2^32". An ACK at the last moment before: a poll 1 ms before renewal waits for it,
-- and one at it asks; the lease is held until its last moment.
abbrev wrapped : Post
wrapped = bound 4294967295 [] (timers 59999 104999 119999)

pub wrapped_bound : (from 4294967295 [] []).post ≡ wrapped
unfolding computing
wrapped_bound = bound_so 4294967295 [] (timers 59999 104999 119999) refl refl

pub wrapped_lease : (answers wrapped (replicate 300 0) 59999 ≡ Ok (silent (moment 59999)))
    × (answers wrapped (replicate 300 0) 60000 ≡ asks server.address 104999)
    × (has_lease (after calls plain wrapped (poll_after 60000 ∷ poll_after 59999 ∷ [])).client.session.state ≡ true)
    × (has_lease (after calls plain wrapped (poll_after 60000 ∷ poll_after 60000 ∷ [])).client.session.state ≡ false)
unfolding computing
wrapped_lease = (refl, refl, refl, refl)

-- Document 01: "which may pass expiry". At 105 s the next Request is set to 165 s, and the client wakes at 120 s.
abbrev short : Post
short = bound 0 [] (timers 60000 105000 120000)

pub short_bound : (from 0 [] []).post ≡ short
unfolding computing
short_bound = bound_so 0 [] (timers 60000 105000 120000) refl refl

pub rebinds_past_expiry : (answers short (replicate 300 0) 105000 ≡ asks broadcast 120000)
    × ((after calls plain short (poll_after 105000 ∷ [])).client.session.state
    ≡ Renewing (record { renew_at = moment 60000; rebind_at = moment 165000; expires_at = moment 120000; rebinding = true }))
unfolding computing
rebinds_past_expiry = (refl, refl)

-- Demand 3: "unless it lies 24 hours on". A deadline may lie there too, as in a lease of two days, and then the poll builds.
abbrev two_days : List ℕ
two_days = 51 ∷ 4 ∷ bytes32 172800

abbrev long : Post
long = bound 0 two_days (timers day 151200000 172800000)

pub long_bound : (from 0 two_days []).post ≡ long
unfolding computing
long_bound = bound_so 0 two_days (timers day 151200000 172800000) refl refl

pub due_a_day_on : (answers long [] 0 ≡ Ok (silent (moment day)))
    × (stepped calls plain long (poll_after 0) ≡ long)
    × (answers long (replicate 300 0) day ≡ asks server.address 118800000)
unfolding computing
due_a_day_on = (refl, refl, refl)
