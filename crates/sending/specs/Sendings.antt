-- A message that is due (document 01, "Polling"): its transaction id, its fields, where it goes from and to, and the datagram.
use Rattle.std.specs.Prelude.{ℕ, Bool, true, false, List, None, Some, Result}
use Rattle.choice.specs.Choice.{when◌then◌else◌}
use Rattle.clock.specs.Generator.{drawn32}
use Rattle.clock.specs.declared.rand.Rand.{Rand}
use Rattle.clock.specs.declared.rand.Drawn.{Drawn}
use Rattle.octets.specs.Codes.{request, discover}
use Rattle.message.specs.Messages.{message}
use Rattle.message.specs.Datagrams.{datagram}
use Rattle.message.specs.Written.{written, buffer_after}
use Rattle.message.specs.declared.datagram.Endpoints.{Endpoints}
use Rattle.message.specs.declared.message.Message.{Message}
use Rattle.reasons.specs.declared.refusal.Refusal.{Refusal}
use Rattle.machine.specs.declared.decide.Sending.{Sending}
use Rattle.machine.specs.declared.decide.Sending.TheVariants.{Discover, Request, Renew}
use Rattle.settings.specs.Settings.{name_of, list_of, extra_of, message_of}
use Rattle.settings.specs.declared.settings.Settings.{Settings}
use Rattle.lease.specs.declared.lease.DhcpLease.{DhcpLease}

-- 0.0.0.0 and 255.255.255.255.
abbrev pub unspecified : ℕ
unspecified = 0

abbrev pub broadcast : ℕ
broadcast = 4294967295

-- Whether a message has a new transaction id: "Discover: new transaction id"; "Request in Requesting: [..] id kept";
-- "Renewing: [..] a new id and a Request".
abbrev pub draws : Sending → Bool
draws (Discover s) = true
draws (Request s) = false
draws (Renew s) = true

-- Its id, where the client has one already, and the generator after it.
unfoldable pub id_for : ℕ → Rand → Sending → ℕ
id_for id g sending = when draws sending then (drawn32 g).value else id

unfoldable pub rand_after : Rand → Sending → Rand
rand_after g sending = when draws sending then (drawn32 g).rand else g

abbrev pub drawn_for : ℕ → Rand → Sending → Drawn ℕ
drawn_for id g sending = record { rand = rand_after g sending; value = id_for id g sending }

-- The fields of a message: "50 and 54 in Requesting only"; "Renewing sets the client address".
abbrev pub fields_of : Settings → DhcpLease → ℕ → Sending → Message
fields_of settings lease id (Discover s) = message_of settings discover id unspecified None None
fields_of settings lease id (Request s) = message_of settings request id unspecified (Some s.requested_ip) (Some s.server.identifier)
fields_of settings lease id (Renew s) = message_of settings request id lease.address None None

-- "Before rebind it goes to the OFFER's source address [..]. From rebind on it is broadcast."
unfoldable pub renews_to : Bool → ℕ → ℕ
renews_to rebinding server = when rebinding then broadcast else server

-- Where it goes from and to: "Discover and the Requests of Requesting go from 0.0.0.0 to 255.255.255.255, those of Renewing
-- from the lease's address."
abbrev pub endpoints_of : DhcpLease → Sending → Endpoints
endpoints_of lease (Discover s) = record { source = unspecified; destination = broadcast }
endpoints_of lease (Request s) = record { source = unspecified; destination = broadcast }
endpoints_of lease (Renew s) =
    record { source = lease.address; destination = renews_to s.rebinding lease.server.address }

-- The message, and the datagram.
abbrev pub body_of : Settings → DhcpLease → ℕ → Sending → List ℕ
body_of settings lease id sending =
    message (fields_of settings lease id sending) (name_of settings) (Some (list_of settings)) (extra_of settings)

unfoldable pub datagram_for : Settings → DhcpLease → ℕ → Sending → List ℕ
datagram_for settings lease id sending =
    datagram (endpoints_of lease sending) settings.offload (body_of settings lease id sending)

-- What the writer answers, lent so many octets, and what it leaves in the buffer.
unfoldable pub wrote : Settings → DhcpLease → ℕ → Sending → ℕ → Result ℕ Refusal
wrote settings lease id sending room =
    written (fields_of settings lease id sending) (name_of settings) (Some (list_of settings)) (extra_of settings) room

unfoldable pub left_in : Settings → DhcpLease → ℕ → Sending → List ℕ → List ℕ
left_in settings lease id sending buffer =
    buffer_after (endpoints_of lease sending) settings.offload (fields_of settings lease id sending) (name_of settings) (Some (list_of settings)) (extra_of settings) buffer
