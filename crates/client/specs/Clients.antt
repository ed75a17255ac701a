-- The client, its creation, and number 9.
use Rattle.std.specs.Prelude.{Bool, true, false, Option, None, Some, Result, Ok, Err, ⊤}
use Rattle.choice.specs.Choice.{when◌then◌else◌}
use Rattle.machine.specs.States.{has_lease}
use Rattle.machine.specs.declared.state.ClientState.{ClientState}
use Rattle.machine.specs.declared.state.ClientState.TheVariants.{Init}
use Rattle.tables.specs.Tables.{whole_tables}
use Rattle.tables.specs.declared.tables.Tables.{Tables}
use Rattle.settings.specs.Settings.{no_settings, refusal_of}
use Rattle.lease.specs.Leases.{no_lease, whole_lease}
use Rattle.settings.specs.declared.settings.Settings.{Settings}
use Rattle.lease.specs.declared.lease.DhcpLease.{DhcpLease}
use Rattle.client.specs.declared.client.Session.{Session}
use Rattle.client.specs.declared.client.Client.{Client}
use Rattle.reasons.specs.declared.refusal.Refusal.{Refusal}
use Rattle.reasons.specs.declared.refusal.Refusal.TheVariants.{NotWhole}

-- The client with another session and another lease, and all else as it is.
abbrev pub with_lease : Client → Session → DhcpLease → Client
with_lease c session lease =
    record { settings = c.settings; ignore_naks = c.ignore_naks; session = session; lease = lease }

abbrev pub with_session : Client → Session → Client
with_session c session = with_lease c session c.lease

-- A session in another state: the transaction id is kept.
abbrev pub in_state : Session → ClientState → Session
in_state session state = record { state = state; transaction_id = session.transaction_id }

-- A client that creation returns: Init, no lease, transaction id 1.
abbrev pub fresh : Settings → Bool → Client
fresh settings ignoring = record {
  settings = settings;
  ignore_naks = ignoring;
  session = record { state = Init; transaction_id = 1 };
  lease = no_lease;
}

-- All zero.
abbrev pub no_client : Client
no_client = record {
  settings = no_settings;
  ignore_naks = false;
  session = record { state = Init; transaction_id = 0 };
  lease = no_lease;
}

-- Creation: 1 to 7, in that order.
abbrev pub created_or : Option Refusal → Settings → Bool → Result Client Refusal
created_or None settings ignoring = Ok (fresh settings ignoring)
created_or (Some refusal) settings ignoring = Err refusal

unfoldable pub created : Settings → Bool → Result Client Refusal
created settings ignoring = created_or (refusal_of settings) settings ignoring

-- What stands after creation for who goes on.
abbrev pub or_zero : Result Client Refusal → Client
or_zero (Ok c) = c
or_zero (Err refusal) = no_client

-- The lease is read in Renewing alone.
unfoldable pub lease_fits : ClientState → DhcpLease → Bool
lease_fits state lease = when has_lease state then whole_lease lease else true

-- 9, of a client: a setting that 1 to 7 refuse, or a lease that is read and is not whole.
abbrev pub whole_or : Option Refusal → Bool → Bool
whole_or None fits = fits
whole_or (Some refusal) fits = false

unfoldable pub whole_client : Client → Bool
whole_client c = whole_or (refusal_of c.settings) (lease_fits c.session.state c.lease)

unfoldable pub checked : Client → Result ⊤ Refusal
checked c = when whole_client c then Ok tt else Err NotWhole

-- 9, of a client and its tables: what every call on the two tests first.
unfoldable pub whole_all : Client → Tables → Bool
whole_all c t = when whole_client c then whole_tables t else false
