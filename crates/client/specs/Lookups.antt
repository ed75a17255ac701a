-- What can be looked up of a client; 9 where it is not whole.
use Rattle.std.specs.Prelude.{ℕ, not, Option, None, Some, Result, Ok, Err}
use Rattle.choice.specs.Choice.{when◌then◌else◌}
use Rattle.reasons.specs.declared.refusal.Refusal.{Refusal}
use Rattle.reasons.specs.declared.refusal.Refusal.TheVariants.{NotWhole}
use Rattle.wire.specs.Stored.{got}
use Rattle.wire.specs.declared.store.Place.{Place}
use Rattle.machine.specs.States.{has_lease}
use Rattle.machine.specs.declared.state.ClientState.{ClientState}
use Rattle.lease.specs.declared.lease.DhcpLease.{DhcpLease}
use Rattle.client.specs.Clients.{whole_client}
use Rattle.client.specs.declared.client.Client.{Client}

-- The lease, if one is held.
unfoldable pub lease_held : Client → Result (Option DhcpLease) Refusal
lease_held c =
    when not (whole_client c) then Err NotWhole
    else when has_lease c.session.state then Ok (Some c.lease)
    else Ok None

-- The first stored option of a kind.
unfoldable pub option_held : Client → ℕ → Result (Option Place) Refusal
option_held c kind =
    when not (whole_client c) then Err NotWhole
    else when has_lease c.session.state then got c.lease.options kind
    else Ok None

-- The state, with its deadlines.
unfoldable pub standing : Client → Result ClientState Refusal
standing c = when not (whole_client c) then Err NotWhole else Ok c.session.state
