-- Whether a state holds a lease, and the states that a reply that is taken leads to (document 01, "Reading a reply").
use Rattle.std.specs.Prelude.{ℕ, Bool, true, false}
use Rattle.clock.specs.Moments.{plus, moment}
use Rattle.clock.specs.declared.duration.Duration.{Duration}
use Rattle.clock.specs.declared.instant.Instant.{Instant}
use Rattle.machine.specs.declared.state.ClientState.{ClientState}
use Rattle.machine.specs.declared.state.ClientState.TheVariants.{Init, Discovering, Requesting, Renewing}
use Rattle.machine.specs.declared.state.DhcpServerInfo.{DhcpServerInfo}
use Rattle.machine.specs.declared.times.Times.{Times}

-- Whether a lease is held: in Renewing alone.
abbrev pub has_lease : ClientState → Bool
has_lease Init = false
has_lease (Discovering s) = false
has_lease (Requesting s) = false
has_lease (Renewing s) = true

-- Requesting, due now.
abbrev pub requesting : DhcpServerInfo → ℕ → Instant → ClientState
requesting server offered now =
    Requesting (record { tries = record { retry_at = now; retry = 0 }; server = server; requested_ip = offered })

-- Renewing: all three moments count from the ACK.
abbrev pub renewing : Times → Duration → Instant → ClientState
renewing times lease now =
    Renewing (record {
      renew_at = moment (plus now.millis times.renew.millis);
      rebind_at = moment (plus now.millis times.rebind.millis);
      expires_at = moment (plus now.millis lease.millis);
      rebinding = false;
    })
