-- What a reply that is taken does to the client and its tables (document 01, "Reading a reply").
use Rattle.std.specs.Prelude.{ℕ, Bool, false, not, List, Result, Ok, Err}
use Rattle.choice.specs.Choice.{when◌then◌else◌}
use Rattle.clock.specs.declared.instant.Instant.{Instant}
use Rattle.reasons.specs.declared.passed_over.PassedOver.{PassedOver}
use Rattle.reasons.specs.declared.refusal.Refusal.TheVariants.{NotWhole}
use Rattle.machine.specs.States.{has_lease, requesting}
use Rattle.machine.specs.declared.state.ClientState.{ClientState}
use Rattle.machine.specs.declared.state.ClientState.TheVariants.{Init, Discovering, Requesting, Renewing}
use Rattle.machine.specs.declared.state.DhcpServerInfo.{DhcpServerInfo}
use Rattle.tables.specs.Applied.{applied}
use Rattle.tables.specs.declared.tables.Tables.{Tables}
use Rattle.tables.specs.declared.apply.Installed.{Installed}
use Rattle.lease.specs.Bound.{bound_by}
use Rattle.lease.specs.Leases.{lease_of, same_lease, installed, nothing}
use Rattle.client.specs.Clients.{with_lease, with_session, in_state, whole_all}
use Rattle.client.specs.Resets.{cleared}
use Rattle.judge.specs.Judged.{judged}
use Rattle.lease.specs.declared.lease.DhcpLease.{DhcpLease}
use Rattle.client.specs.declared.client.Session.{Session}
use Rattle.client.specs.declared.client.Client.{Client}
use Rattle.judge.specs.declared.judge.Recipient.{Recipient}
use Rattle.judge.specs.declared.judge.Acked.{Acked}
use Rattle.judge.specs.declared.judge.Offered.{Offered}
use Rattle.judge.specs.declared.judge.Verdict.{Verdict}
use Rattle.judge.specs.declared.judge.Verdict.TheVariants.{Offer, Ack, Nak}
use Rattle.client.specs.declared.client.Settled.{Settled}
use Rattle.client.specs.Outcomes.{Processed, done_as}
use Rattle.client.specs.declared.process.NotTaken.TheVariants as not_taken

-- Whose lease an ACK brings: in Requesting the server's that made the offer, in Renewing the one's that leased the address.
-- No other state awaits an ACK.
abbrev pub server_of : ClientState → DhcpLease → DhcpServerInfo → DhcpServerInfo
server_of Init lease sender = sender
server_of (Discovering s) lease sender = sender
server_of (Requesting s) lease sender = s.server
server_of (Renewing s) lease sender = lease.server

-- Whether a lease is the one that is held, and what the one that is held has put into the tables.
unfoldable pub holds : ClientState → DhcpLease → DhcpLease → Bool
holds state held lease = when has_lease state then same_lease lease held else false

unfoldable pub held_by : ClientState → DhcpLease → Installed
held_by state held = when has_lease state then installed held else nothing

-- Another lease, in the place of the one that is held, if one is.
abbrev pub entered : Client → Tables → Session → DhcpLease → Settled Bool
entered c t session lease = record {
  client = with_lease c session lease;
  tables = (applied t (installed lease) (held_by c.session.state c.lease)).tables;
  outcome = (applied t (installed lease) (held_by c.session.state c.lease)).purge;
}

-- An ACK with its lease and the session that it leads to. "An ACK whose lease equals the one held (stored options included)
-- moves the moments, ends rebinding as any accepted ACK does, and changes nothing else."
unfoldable pub acked_as : Client → Tables → Session → DhcpLease → Settled Bool
acked_as c t session lease =
    when holds c.session.state c.lease lease then record { client = with_session c session; tables = t; outcome = false }
    else entered c t session lease

abbrev pub ack_lease : Client → List ℕ → Acked → DhcpLease
ack_lease c reply ack = lease_of (server_of c.session.state c.lease ack.server) ack.address ack.prefix reply

unfoldable pub acked : Client → Tables → List ℕ → Instant → Acked → Settled Bool
acked c t reply moment ack = acked_as c t (in_state c.session (bound_by c.settings reply moment)) (ack_lease c reply ack)

-- An OFFER: Requesting, due now.
abbrev pub offered : Client → Tables → Instant → Offered → Settled Bool
offered c t moment offer = record {
  client = with_session c (in_state c.session (requesting offer.server offer.address moment));
  tables = t;
  outcome = false;
}

-- A reply after the verdict on it. One that is passed over leaves client and tables as they came.
abbrev pub taken_as : Settled Bool → Processed
taken_as = done_as

unfoldable pub replied : Client → Tables → List ℕ → Instant → Result Verdict PassedOver → Processed
replied c t reply moment (Ok (Offer offer)) = taken_as (offered c t moment offer)
replied c t reply moment (Ok (Ack ack)) = taken_as (acked c t reply moment ack)
replied c t reply moment (Ok Nak) = taken_as (cleared c t)
replied c t reply moment (Err reason) = record { client = c; tables = t; outcome = Err (not_taken.PassedOver reason) }

-- What of a client decides: hardware address, transaction id, state, and whether NAKs are ignored.
abbrev pub recipient_of : Client → Recipient
recipient_of c = record {
  hardware = c.settings.hardware;
  id = c.session.transaction_id;
  state = c.session.state;
  ignoring = c.ignore_naks;
}

-- The call: 9 first, and then client and tables are as they came.
unfoldable pub processed : Client → Tables → ℕ → List ℕ → Instant → Processed
processed c t source reply moment =
    when not (whole_all c t) then record { client = c; tables = t; outcome = Err (not_taken.Refused NotWhole) }
    else replied c t reply moment (judged (recipient_of c) source reply)
