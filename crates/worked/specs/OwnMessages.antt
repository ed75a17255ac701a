-- The ★ cases of messages (document 01) over the client's own message: of a post that creation takes.
use Rattle.std.specs.Prelude.{ℕ, ◌≡◌, refl, false, List, [], ◌∷◌, map, length, get_or, replicate, None}
use Rattle.clock.specs.Durations.{duration}
use Rattle.clock.specs.Moments.{moment}
use Rattle.choice.specs.Choice.{when◌then◌else◌}
use Rattle.octets.specs.Words.{word16, word32}
use Rattle.octets.specs.Items.{whole_from}
use Rattle.machine.specs.declared.decide.Sending.{Sending}
use Rattle.machine.specs.declared.decide.Sending.TheVariants.{Discover, Request}
use Rattle.message.specs.Messages.{message, option_if, address_option, size_option, name_option}
use Rattle.message.specs.Datagrams.{datagram}
use Rattle.message.specs.Written.{list_fits}
use Rattle.settings.specs.Settings.{list_of, over_cap, size_refusal, lists_refusal, refusal_of}
use Rattle.settings.specs.declared.settings.Settings.{Settings}
use Rattle.settings.specs.declared.settings.Medium.TheVariants.{Ethernet}
use Rattle.lease.specs.Leases.{no_lease}
use Rattle.sending.specs.Sendings.{body_of, datagram_for}
use Rattle.worked.specs.Starred.{Case}

-- A client of MTU 1,500 and hardware address 02:00:00:00:00:01 that is given nothing else: no name, no request list, no
-- extra options, no maximum. Creation takes it.
abbrev post : Settings
post = record {
  medium = Ethernet;
  mtu = 1500;
  hardware = 2 ∷ 0 ∷ 0 ∷ 0 ∷ 0 ∷ 1 ∷ [];
  offload = false;
  name = replicate 63 0;
  name_len = 0;
  listed = false;
  list = replicate 64 0;
  list_len = 0;
  extra = replicate 255 0;
  extra_len = 0;
  capped = false;
  maximum = duration 0;
}

-- What it sends: a Discover, and in Requesting a Request of 10.0.0.7 from 10.0.0.1.
abbrev discovering : Sending
discovering = Discover (record { retry_at = moment 0 })

abbrev requesting : Sending
requesting = Request (record {
  tries = record { retry_at = moment 0; retry = 0 };
  server = record { address = word32 10 0 0 1; identifier = word32 10 0 0 1 };
  requested_ip = word32 10 0 0 7;
})

-- The octets of such a message, and the length field of its datagram, octets 4 and 5.
abbrev message_length : Sending → ℕ
message_length sending = length (body_of post no_lease 1 sending)

abbrev udp_length : Sending → ℕ
udp_length sending = word16 (get_or (datagram_for post no_lease 1 sending) 4 0) (get_or (datagram_for post no_lease 1 sending) 5 0)

abbrev own : List ℕ → List ℕ → Case
own given stated = record { given = given; stated = stated }

-- Each quotes document 01.
unfoldable pub sent : List Case
sent =
    -- "Discover without name: 262 bytes, UDP length 270." "Requesting: 274."
    own (message_length discovering ∷ udp_length discovering ∷ []) (262 ∷ 270 ∷ [])
    ∷ own (message_length requesting ∷ []) (274 ∷ [])
    ∷ []

pub all_sent : map (λ c. c.given) sent ≡ map (λ c. c.stated) sent
unfolding sent when◌then◌else◌ list_of datagram_for datagram message option_if address_option size_option name_option
all_sent = refl

pub post_taken : refusal_of post ≡ None
unfolding refusal_of lists_refusal size_refusal over_cap list_of list_fits whole_from when◌then◌else◌ message option_if address_option size_option name_option
post_taken = refl
