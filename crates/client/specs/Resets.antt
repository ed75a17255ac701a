-- Resets (document 01): the lease is dropped, if one is held, and the client starts over.
use Rattle.std.specs.Prelude.{Bool, false, not, Err}
use Rattle.choice.specs.Choice.{when◌then◌else◌}
use Rattle.reasons.specs.declared.refusal.Refusal.TheVariants.{NotWhole}
use Rattle.machine.specs.States.{has_lease}
use Rattle.machine.specs.declared.state.ClientState.TheVariants.{Init}
use Rattle.tables.specs.Applied.{applied}
use Rattle.tables.specs.declared.tables.Tables.{Tables}
use Rattle.lease.specs.Leases.{no_lease, installed, nothing}
use Rattle.client.specs.Clients.{with_lease, with_session, in_state, whole_all}
use Rattle.client.specs.declared.client.Client.{Client}
use Rattle.client.specs.declared.client.Settled.{Settled}
use Rattle.client.specs.Outcomes.{WasReset, done_as}

-- Where no lease is held, the client starts over, and nothing else changes.
abbrev pub restarted : Client → Tables → Settled Bool
restarted c t = record { client = with_session c (in_state c.session Init); tables = t; outcome = false }

-- Where one is, it is all zero after, and what it has put into the tables is out.
abbrev pub dropped : Client → Tables → Settled Bool
dropped c t = record {
  client = with_lease c (in_state c.session Init) no_lease;
  tables = (applied t nothing (installed c.lease)).tables;
  outcome = (applied t nothing (installed c.lease)).purge;
}

unfoldable pub cleared : Client → Tables → Settled Bool
cleared c t = when has_lease c.session.state then dropped c t else restarted c t

-- The call: 9, and then client and tables are as they came.
abbrev pub reset_done : Settled Bool → WasReset
reset_done = done_as

unfoldable pub was_reset : Client → Tables → WasReset
was_reset c t =
    when not (whole_all c t) then record { client = c; tables = t; outcome = Err NotWhole }
    else reset_done (cleared c t)
