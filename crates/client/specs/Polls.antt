-- A poll (document 01, "Polling"): what is due, its message, its length; then it is refused, passed by, or written. `polled`,
-- the last definition, is the whole.
use Rattle.std.specs.Prelude.{ℕ, Bool, false, not, List, [], ◌∷◌, length, ltb, Option, None, Some, Ok, Err}
use Rattle.choice.specs.Choice.{when◌then◌else◌}
use Rattle.clock.specs.declared.instant.Instant.{Instant}
use Rattle.clock.specs.declared.rand.Rand.{Rand}
use Rattle.clock.specs.declared.rand.Drawn.{Drawn}
use Rattle.clock.specs.declared.waits.Waits.{Waits}
use Rattle.reasons.specs.declared.refusal.Refusal.{Refusal}
use Rattle.reasons.specs.declared.refusal.Refusal.TheVariants.{ShortBuffer, NotWhole}
use Rattle.octets.specs.Runs.{over}
use Rattle.message.specs.declared.datagram.Endpoints.{Endpoints}
use Rattle.machine.specs.Decisions.{decided, following}
use Rattle.machine.specs.declared.decide.Sending.{Sending}
use Rattle.machine.specs.declared.decide.Sending.TheVariants.{Discover, Request, Renew}
use Rattle.machine.specs.declared.decide.Decision.{Decision}
use Rattle.tables.specs.declared.tables.Tables.{Tables}
use Rattle.settings.specs.Settings.{waits_of}
use Rattle.sending.specs.Sendings.{id_for, drawn_for, endpoints_of, datagram_for}
use Rattle.client.specs.Clients.{with_session, whole_all}
use Rattle.client.specs.Resets.{cleared}
use Rattle.client.specs.declared.client.Session.{Session}
use Rattle.client.specs.declared.client.Client.{Client}
use Rattle.client.specs.declared.client.Settled.{Settled}
use Rattle.client.specs.declared.poll.PollAnswer.{PollAnswer}
use Rattle.client.specs.declared.poll.Polled.{Polled}

-- The id of the client's message, and its datagram.
abbrev pub id_of : Client → Rand → Sending → ℕ
id_of c g sending = id_for c.session.transaction_id g sending

abbrev pub datagram_of : Client → Rand → Sending → List ℕ
datagram_of c g sending = datagram_for c.settings c.lease (id_of c g sending) sending

-- The client and its tables before the message is sent: a lease that is held is dropped where the client discovers.
abbrev pub kept : Client → Tables → Settled Bool
kept c t = record { client = c; tables = t; outcome = false }

abbrev pub made_ready : Client → Tables → Sending → Settled Bool
made_ready c t (Discover s) = cleared c t
made_ready c t (Request s) = kept c t
made_ready c t (Renew s) = kept c t

-- The session once a message is sent: in the state that follows, with the message's id.
abbrev pub awaiting : Sending → ℕ → Session
awaiting sending id = record { state = following sending; transaction_id = id }

-- What a poll leaves: client, tables and generator with the answer, and the buffer that it was lent.
pub record PolledInto : Type 0 where
  pub polled : Polled
  pub buffer : List ℕ

-- A refusal: all is as it came.
abbrev pub refusal : Client → Tables → Rand → Refusal → Polled
refusal c t g reason = record { client = c; tables = t; rand = g; outcome = Err reason }

abbrev pub refused_by : Client → Tables → Rand → List ℕ → Refusal → PolledInto
refused_by c t g buffer reason = record { polled = refusal c t g reason; buffer = buffer }

-- Nothing is due: all is as it came, "length, source and destination address (all 0 if none was built)".
abbrev pub silent : Instant → PollAnswer
silent wake = record { length = 0; source = 0; destination = 0; wake = wake; purge = false }

abbrev pub passed_by : Client → Tables → Rand → List ℕ → Instant → PolledInto
passed_by c t g buffer wake = record {
  polled = record { client = c; tables = t; rand = g; outcome = Ok (silent wake) };
  buffer = buffer;
}

-- A message is built: "from byte 0 of the lent buffer", and "bytes after the datagram keep their value". "An empty buffer
-- stands for an exhausted pool: the state moves, nothing is built."
abbrev pub built : ℕ → Endpoints → Instant → PollAnswer
built size ends wake =
    record { length = size; source = ends.source; destination = ends.destination; wake = wake; purge = false }

abbrev pub built_into : List ℕ → Endpoints → List ℕ → Instant → PollAnswer
built_into [] ends out wake = silent wake
built_into (x ∷ xs) ends out wake = built (length out) ends wake

abbrev pub buffer_with : List ℕ → List ℕ → List ℕ
buffer_with [] out = []
buffer_with (x ∷ xs) out = over out (x ∷ xs)

-- What is left once it is sent, and the answer: the state that follows, the message's id and the generator after it.
abbrev pub purging : PollAnswer → Bool → PollAnswer
purging answer purge = record {
  length = answer.length;
  source = answer.source;
  destination = answer.destination;
  wake = answer.wake;
  purge = purge;
}

abbrev pub settled_by : Client → Tables → Drawn ℕ → Sending → PollAnswer → Polled
settled_by c t drawn sending answer = record {
  client = with_session (made_ready c t sending).client (awaiting sending drawn.value);
  tables = (made_ready c t sending).tables;
  rand = drawn.rand;
  outcome = Ok (purging answer (made_ready c t sending).outcome);
}

abbrev pub moved : Client → Tables → Rand → List ℕ → Instant → Sending → PolledInto
moved c t g buffer wake sending = record {
  polled = settled_by c t (drawn_for c.session.transaction_id g sending) sending (built_into buffer (endpoints_of c.lease sending) (datagram_of c g sending) wake);
  buffer = buffer_with buffer (datagram_of c g sending);
}

-- 8: "message due, buffer not empty but shorter than that datagram".
abbrev pub too_short : List ℕ → ℕ → Bool
too_short [] size = false
too_short (x ∷ xs) size = ltb (length (x ∷ xs)) size

unfoldable pub sent : Client → Tables → Rand → List ℕ → Instant → Sending → PolledInto
sent c t g buffer wake sending =
    when too_short buffer (length (datagram_of c g sending)) then refused_by c t g buffer ShortBuffer
    else moved c t g buffer wake sending

abbrev pub polled_as : Client → Tables → Rand → List ℕ → Instant → Option Sending → PolledInto
polled_as c t g buffer wake None = passed_by c t g buffer wake
polled_as c t g buffer wake (Some sending) = sent c t g buffer wake sending

abbrev pub polled_by : Client → Tables → Rand → List ℕ → Decision → PolledInto
polled_by c t g buffer decision = polled_as c t g buffer decision.wake decision.due

-- The call with any waits: 9 first.
unfoldable pub polled_with : Waits → Client → Tables → Rand → Instant → List ℕ → PolledInto
polled_with w c t g now buffer =
    when not (whole_all c t) then refused_by c t g buffer NotWhole
    else polled_by c t g buffer (decided w c.session.state now.millis)

-- The call, with the client's own waits.
abbrev pub polled : Client → Tables → Rand → Instant → List ℕ → PolledInto
polled c t g now buffer = polled_with (waits_of c.settings) c t g now buffer
