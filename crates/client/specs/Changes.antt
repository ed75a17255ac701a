-- What a poll changes, in the shape of the code: definitions for contracts within this crate. `polled` is the meaning of a
-- poll; of a client and tables that are whole it is what `poll_change` leaves (proofs/Changes.antt, polled-by-change).
use Rattle.std.specs.Prelude.{ℕ, Bool, false, List, [], ◌∷◌, length, Option, None, Some, Result, Ok, Err}
use Rattle.choice.specs.Choice.{when◌then◌else◌}
use Rattle.clock.specs.declared.instant.Instant.{Instant}
use Rattle.clock.specs.declared.rand.Rand.{Rand}
use Rattle.clock.specs.declared.rand.Drawn.{Drawn}
use Rattle.reasons.specs.declared.refusal.Refusal.{Refusal}
use Rattle.reasons.specs.declared.refusal.Refusal.TheVariants.{ShortBuffer}
use Rattle.octets.specs.Runs.{over}
use Rattle.machine.specs.States.{has_lease}
use Rattle.machine.specs.Decisions.{decided}
use Rattle.machine.specs.declared.state.ClientState.{ClientState}
use Rattle.machine.specs.declared.decide.Sending.{Sending}
use Rattle.machine.specs.declared.decide.Sending.TheVariants.{Discover, Request, Renew}
use Rattle.machine.specs.declared.decide.Decision.{Decision}
use Rattle.tables.specs.declared.tables.Tables.{Tables}
use Rattle.settings.specs.Settings.{waits_of}
use Rattle.sending.specs.Sendings.{drawn_for, endpoints_of, wrote}
use Rattle.client.specs.Clients.{with_session}
use Rattle.client.specs.Resets.{dropped}
use Rattle.client.specs.Polls.{id_of, datagram_of, kept, awaiting, silent, built, purging}
use Rattle.client.specs.declared.client.Session.{Session}
use Rattle.client.specs.declared.client.Client.{Client}
use Rattle.client.specs.declared.client.Settled.{Settled}
use Rattle.client.specs.declared.poll.PollAnswer.{PollAnswer}
use Rattle.client.specs.declared.poll.PollChange.{PollChange}
use Rattle.client.specs.declared.poll.Polled.{Polled}

-- What changes, and the buffer that the poll was lent.
pub record ChangeInto : Type 0 where
  pub change : PollChange
  pub buffer : List ℕ

-- Nothing is sent: state, id and generator are as they came.
abbrev pub unmoved : Session → Rand → Result PollAnswer Refusal → PollChange
unmoved session g outcome = record { drops = false; session = session; rand = g; outcome = outcome }

-- Whether a lease goes where a message is sent: one that is held, where the client discovers.
abbrev pub drops : ClientState → Sending → Bool
drops state (Discover s) = has_lease state
drops state (Request s) = false
drops state (Renew s) = false

-- A message is sent from a state. Link state is to be purged where the lease goes.
abbrev pub moved_by : ClientState → Drawn ℕ → Sending → PollAnswer → PollChange
moved_by state drawn sending answer = record {
  drops = drops state sending;
  session = awaiting sending drawn.value;
  rand = drawn.rand;
  outcome = Ok (purging answer (drops state sending));
}

-- What is due, by the writer's answer: 8 where it is a refusal. Of a whole client the writer refuses by no other number.
abbrev pub change_written : Client → Rand → List ℕ → Instant → Sending → Result ℕ Refusal → ChangeInto
change_written c g buffer wake sending (Ok n) = record {
  change = moved_by c.session.state (drawn_for c.session.transaction_id g sending) sending (built n (endpoints_of c.lease sending) wake);
  buffer = over (datagram_of c g sending) buffer;
}
change_written c g buffer wake sending (Err reason) = record { change = unmoved c.session g (Err ShortBuffer); buffer = buffer }

-- An empty buffer gets nothing, and the message counts as sent.
abbrev pub change_sent : Client → Rand → List ℕ → Instant → Sending → ChangeInto
change_sent c g [] wake sending = record { change = moved_by c.session.state (drawn_for c.session.transaction_id g sending) sending (silent wake); buffer = [] }
change_sent c g (x ∷ xs) wake sending =
    change_written c g (x ∷ xs) wake sending (wrote c.settings c.lease (id_of c g sending) sending (length (x ∷ xs)))

abbrev pub change_as : Client → Rand → List ℕ → Instant → Option Sending → ChangeInto
change_as c g buffer wake None = record { change = unmoved c.session g (Ok (silent wake)); buffer = buffer }
change_as c g buffer wake (Some sending) = change_sent c g buffer wake sending

abbrev pub change_by : Client → Rand → List ℕ → Decision → ChangeInto
change_by c g buffer decision = change_as c g buffer decision.wake decision.due

-- The poll of a client that was found whole, as far as it changes anything.
unfoldable pub poll_change : Client → Rand → Instant → List ℕ → ChangeInto
poll_change c g now buffer = change_by c g buffer (decided (waits_of c.settings) c.session.state now.millis)

-- What is left by such a change: the lease, and what it has put into the tables, are out where it goes.
abbrev pub left_by : Settled Bool → PollChange → Polled
left_by s m = record {
  client = with_session s.client m.session;
  tables = s.tables;
  rand = m.rand;
  outcome = m.outcome;
}

unfoldable pub after_change : Client → Tables → PollChange → Polled
after_change c t m = when m.drops then left_by (dropped c t) m else left_by (kept c t) m
