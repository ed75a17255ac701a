-- Which state awaits which reply (document 01, "Reading a reply").
use Rattle.std.specs.Prelude.{ℕ, Bool, eqb, Option, None, Some}
use Rattle.choice.specs.Choice.{when◌then◌else◌}
use Rattle.octets.specs.Codes.{offer, ack, nak}
use Rattle.machine.specs.declared.state.ClientState.{ClientState}
use Rattle.machine.specs.declared.state.ClientState.TheVariants.{Init, Discovering, Requesting, Renewing}
use Rattle.judge.specs.declared.awaited.Awaited.{Awaited}
use Rattle.judge.specs.declared.awaited.Awaited.TheVariants.{Offer, Ack, Nak}

-- An OFFER is awaited in Discovering; an ACK in Requesting and Renewing, and a NAK there, unless they are ignored; in
-- Init nothing is.
unfoldable pub offer_alone : ℕ → Option Awaited
offer_alone kind = when eqb kind offer then Some Offer else None

unfoldable pub ack_or_nak : ℕ → Bool → Option Awaited
ack_or_nak kind ignoring =
    when eqb kind ack then Some Ack
    else when eqb kind nak then (when ignoring then None else Some Nak)
    else None

abbrev pub awaited : ClientState → ℕ → Bool → Option Awaited
awaited Init kind ignoring = None
awaited (Discovering s) kind ignoring = offer_alone kind
awaited (Requesting s) kind ignoring = ack_or_nak kind ignoring
awaited (Renewing s) kind ignoring = ack_or_nak kind ignoring
