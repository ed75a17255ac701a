-- What examples of a run are made of: settings that creation takes, an OFFER and an ACK for a client of theirs, entries of a
-- list. Such a run is computed: `computing` on an `unfolding` line opens all that it is computed by. Assumes nothing.
use Rattle.std.proofs.Common.{Ok}
use Prim.Native.Nat.{ℕ}
use mathlib.Core.Path.{◌≡◌, refl}
use mathlib.Core.Bool.{false}
use mathlib.Core.List.{List, [], ◌∷◌, ◌++◌}
use lib.ListN.{replicate}
use Rattle.choice.specs.Choice.{when◌then◌else◌}
use Rattle.clock.specs.Durations.{duration}
use Rattle.clock.specs.Moments.{before, due, earlier, rest}
use Rattle.clock.specs.Waits.{standard_waits}
use Rattle.clock.specs.Generator.{next_state, output_of, generator, drawn32}
use Rattle.octets.specs.Words.{word32, bytes32, word32_at}
use Rattle.octets.specs.Runs.{over, same_bytes}
use Rattle.octets.specs.Addresses.{unicast, length_up_to}
use Rattle.octets.specs.Items.{cookie, option, whole_from}
use Rattle.wire.specs.Options.{head_item, options_from, first_with}
use Rattle.wire.specs.Readings.{header_check}
use Rattle.wire.specs.Stored.{pushed, all_pushed, whole_store}
use Rattle.message.specs.Messages.{message, option_if, address_option, size_option, name_option}
use Rattle.message.specs.Datagrams.{datagram, checksum_field}
use Rattle.message.specs.Written.{list_fits}
use Rattle.machine.specs.Times.{lease_time, times_of}
use Rattle.machine.specs.Decisions.{decided, decided_discovering, decided_requesting, decided_renewing, next_retry, rebinds}
use Rattle.machine.specs.declared.state.ClientState.{ClientState}
use Rattle.machine.specs.declared.state.DhcpServerInfo.{DhcpServerInfo}
use Rattle.tables.specs.Entries.{only, all, less_lost}
use Rattle.tables.specs.Tables.{whole_addrs, whole_routes, whole_tables}
use Rattle.tables.specs.Applied.{applied_addrs, applied_routes}
use Rattle.tables.specs.Manual.{admitted, drop_address}
use Rattle.tables.specs.declared.tables.Tables.{Tables}
use Rattle.settings.specs.Settings.{refusal_of, lists_refusal, size_refusal, over_cap, list_of, maximum_of}
use Rattle.lease.specs.Leases.{lease_of, whole_lease}
use Rattle.client.specs.Clients.{fresh, created, lease_fits, whole_client, whole_all}
use Rattle.client.specs.Resets.{cleared}
use Rattle.judge.specs.Judged.{needing, judged_offer, judged_address, judged_ack, judged_kind, judged_sender, judged}
use Rattle.judge.specs.Awaited.{offer_alone, ack_or_nak}
use Rattle.lease.specs.Bound.{bound_by}
use Rattle.client.specs.Taken.{holds, held_by, acked_as, acked, replied, processed}
use Rattle.client.specs.Polls.{sent, polled_with}
use Rattle.sending.specs.Sendings.{id_for, rand_after, renews_to, datagram_for}
use Rattle.settings.specs.declared.settings.Settings.{Settings}
use Rattle.settings.specs.declared.settings.Medium.TheVariants.{Ethernet}
use Rattle.lease.specs.declared.lease.DhcpLease.{DhcpLease}
use Rattle.client.specs.declared.client.Client.{Client}
use Rattle.run.specs.Calls.{Calls, Deed, Reply, Poll, Do}
use Rattle.run.specs.Demand3.{Entry, Run, start, next, expired, accepted_as, lost_by}

-- Ethernet, MTU 576, hardware address 02:00:00:00:00:01; no name, no list, no extra options, no maximum.
abbrev hardware : List ℕ
hardware = 2 ∷ 0 ∷ 0 ∷ 0 ∷ 0 ∷ 1 ∷ []

unfoldable pub plain : Settings
plain = record {
  medium = Ethernet;
  mtu = 576;
  hardware = hardware;
  offload = false;
  name = replicate 63 0;
  name_len = 0;
  listed = false;
  list = replicate 64 0;
  list_len = 0;
  extra = replicate 255 0;
  extra_len = 0;
  capped = false;
  maximum = duration 0;
}

-- A client of theirs: its state, its lease, its transaction id.
abbrev pub standing : ClientState → DhcpLease → ℕ → Client
standing state lease id = record {
  settings = plain;
  ignore_naks = false;
  session = record { state = state; transaction_id = id };
  lease = lease;
}

-- Its server is 10.0.0.9 and calls itself 10.0.0.1, and leases 10.0.0.5.
abbrev pub server : DhcpServerInfo
server = record { address = word32 10 0 0 9; identifier = word32 10 0 0 1 }

abbrev pub address : ℕ
address = word32 10 0 0 5

-- A reply to its first Discover: a generator of state 0 draws 3.
abbrev pub reply_with : List ℕ → List ℕ
reply_with options =
    (2 ∷ 1 ∷ 6 ∷ 0 ∷ [])
    ++ (bytes32 3 ++ (replicate 8 0 ++ (bytes32 address ++ (replicate 8 0 ++ (hardware ++ (replicate 202 0 ++ (cookie ++ options)))))))

unfoldable pub offer : List ℕ
offer = reply_with (option 53 (2 ∷ []) ++ (option 54 (bytes32 server.identifier) ++ (255 ∷ [])))

-- With mask 255.255.255.0, no router, and more options behind these.
unfoldable pub ack_with : List ℕ → List ℕ
ack_with more =
    reply_with (option 53 (5 ∷ []) ++ (option 54 (bytes32 server.identifier) ++ (option 1 (255 ∷ 255 ∷ 255 ∷ 0 ∷ []) ++ (more ++ (255 ∷ [])))))

-- The lease that it brings.
unfoldable pub lease_by : List ℕ → DhcpLease
lease_by more = lease_of server address 24 (ack_with more)

-- Entries: a poll, and one with an empty buffer; a deed, and a reply of that server, at the moment of the entry before.
abbrev pub poll_into : List ℕ → ℕ → Entry
poll_into buffer step = record { step = step; call = Poll buffer }

abbrev pub poll_after : ℕ → Entry
poll_after = poll_into []

abbrev pub do_now : Deed → Entry
do_now deed = record { step = 0; call = Do deed }

abbrev pub reply_now : List ℕ → Entry
reply_now bytes = do_now (Reply server.address bytes)

-- A fresh client, with such a generator, at a moment; and the run from there on.
abbrev pub from_fresh : Tables → ℕ → Run
from_fresh t m = start (fresh plain false) t (generator 0) m

abbrev pub runs : Calls → Run → List Entry → Run
runs k r [] = r
runs k r (e ∷ es) = runs k (next k plain r e) es

-- Its first entries, up to an ACK.
abbrev pub until_ack : List ℕ → List Entry
until_ack more = poll_after 0 ∷ reply_now offer ∷ poll_after 0 ∷ reply_now (ack_with more) ∷ []

-- What all this is computed by.
unfoldable pub computing : Unit {0}
unfolding when◌then◌else◌ standard_waits before due earlier rest next_state output_of drawn32
    word32_at over same_bytes unicast length_up_to whole_from
    head_item options_from first_with header_check pushed all_pushed whole_store
    message option_if address_option size_option name_option list_fits datagram checksum_field
    lease_time times_of offer_alone ack_or_nak decided decided_discovering decided_requesting decided_renewing next_retry rebinds
    only all less_lost whole_addrs whole_routes whole_tables applied_addrs applied_routes admitted drop_address
    refusal_of lists_refusal size_refusal over_cap list_of maximum_of whole_lease created lease_fits whole_client whole_all cleared
    needing judged_offer judged_address judged_ack judged_kind judged_sender judged
    bound_by holds held_by acked_as acked replied processed id_for rand_after renews_to datagram_for sent polled_with
    expired accepted_as lost_by plain offer ack_with lease_by
computing = tt

pub plain_created : created plain false ≡ Ok (fresh plain false)
unfolding computing
plain_created = refl
