-- The lease that a client holds.
use Rattle.std.specs.Prelude.{ℕ, Bool, false, not, ◌&&◌, List, take, replicate, ltb, eqb, None, Some}
use Rattle.choice.specs.Choice.{when◌then◌else◌}
use Rattle.octets.specs.Runs.{same_bytes}
use Rattle.octets.specs.Codes.{dns_code}
use Rattle.wire.specs.Options.{option_data}
use Rattle.wire.specs.Readings.{router, addresses_of}
use Rattle.wire.specs.Stored.{empty_store, store_of, whole_store, same_options}
use Rattle.wire.specs.declared.reply.Addresses.{Addresses}
use Rattle.tables.specs.Tables.{prefix_fits}
use Rattle.tables.specs.Applied.{same_router}
use Rattle.tables.specs.declared.apply.Installed.{Installed}
use Rattle.machine.specs.declared.state.DhcpServerInfo.{DhcpServerInfo}
use Rattle.lease.specs.declared.lease.DhcpLease.{DhcpLease}

-- All zero, where no lease is held.
abbrev pub no_lease : DhcpLease
no_lease = record {
  server = record { address = 0; identifier = 0 };
  address = 0;
  prefix = 0;
  router = None;
  dns = record { list = replicate 3 0; count = 0 };
  options = empty_store;
}

-- The lease of an ACK with this address and prefix. "DNS: groups of 4, unicast only, first 3. Router: first address, if
-- unicast."
abbrev pub lease_of : DhcpServerInfo → ℕ → ℕ → List ℕ → DhcpLease
lease_of server address prefix reply = record {
  server = server;
  address = address;
  prefix = prefix;
  router = router reply;
  dns = addresses_of (option_data dns_code reply);
  options = store_of reply;
}

-- Whether a lease is whole: no prefix over 32, no count over 3, stored options that are whole items.
unfoldable pub whole_lease : DhcpLease → Bool
whole_lease l =
    when not (prefix_fits l.prefix) then false
    else when ltb 3 l.dns.count then false
    else whole_store l.options

-- Whether two leases are the same: who leased what, the router, the DNS servers in use, the stored options.
abbrev pub same_terms : DhcpLease → DhcpLease → Bool
same_terms a b =
    (((eqb a.server.address b.server.address && eqb a.server.identifier b.server.identifier)
    && eqb a.address b.address) && eqb a.prefix b.prefix) && same_router a.router b.router

abbrev pub addresses_in : Addresses → List ℕ
addresses_in a = take a.count a.list

abbrev pub same_addresses : Addresses → Addresses → Bool
same_addresses a b = same_bytes (addresses_in a) (addresses_in b)

abbrev pub same_lease : DhcpLease → DhcpLease → Bool
same_lease a b = (same_terms a b && same_addresses a.dns b.dns) && same_options a.options b.options

-- What a lease puts into the tables, and what there is without one.
abbrev pub installed : DhcpLease → Installed
installed l = record { address = Some (record { address = l.address; prefix = l.prefix }); router = l.router }

abbrev pub nothing : Installed
nothing = record { address = None; router = None }
