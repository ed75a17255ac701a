-- What a lease that comes, changes or goes does to the tables. Document 01: "A full table loses the address or route, and
-- the lease stands. Each run of dhcpv4_apply adds 1 to config_generation, with wrap: once where address and route both
-- change, and once where only DNS or stored options do." What is entered, and when, is the Rust's.
use Rattle.std.specs.Prelude.{ℕ, ◌+◌, ◌%◌, ◌^◌, Bool, true, false, not, ◌&&◌, List, [], ◌∷◌, ◌==◌, Option, None, Some}
use Rattle.tables.specs.Table.{leased_by}
use Rattle.tables.specs.Tables.{AddrTable, RouteTable, zero_addr, zero_route, addr_is_manual, route_is_manual}
use Rattle.tables.specs.declared.address.IfaceAddr.{IfaceAddr}
use Rattle.tables.specs.declared.route.Route.{Route}
use Rattle.tables.specs.declared.tables.Tables.{Tables}
use Rattle.tables.specs.declared.apply.Cidr.{Cidr}
use Rattle.tables.specs.declared.apply.Installed.{Installed}
use Rattle.tables.specs.declared.apply.Applied.{Applied}

-- Whether an address with its prefix is the same before and after; none counts as a value.
abbrev pub same_cidr : Option Cidr → Option Cidr → Bool
same_cidr None None = true
same_cidr None (Some b) = false
same_cidr (Some a) None = false
same_cidr (Some a) (Some b) = a.address == b.address && a.prefix == b.prefix

-- The same of a router.
abbrev pub same_router : Option ℕ → Option ℕ → Bool
same_router None None = true
same_router None (Some b) = false
same_router (Some a) None = false
same_router (Some a) (Some b) = a == b

-- What a lease enters: its address, and the default route by its router, which is unicast: `router` of wire gives no other.
abbrev pub leased_addr : ℕ → ℕ → IfaceAddr
leased_addr address prefix = record { address = address; prefix = prefix; dhcp = true }

abbrev pub leased_addrs : Option Cidr → List IfaceAddr
leased_addrs None = []
leased_addrs (Some cidr) = leased_addr cidr.address cidr.prefix ∷ []

abbrev pub default_route : ℕ → Route
default_route router = record { network = 0; prefix = 0; router = router; dhcp = true }

abbrev pub leased_routes : Option ℕ → List Route
leased_routes None = []
leased_routes (Some router) = default_route router ∷ []

-- A table after it: DHCP's entries are out, and the new one is last, if there is room; as it is where the value is the
-- same.
unfoldable pub applied_addrs : AddrTable → Option Cidr → Bool → AddrTable
applied_addrs t new same = leased_by zero_addr addr_is_manual t (leased_addrs new) same

unfoldable pub applied_routes : RouteTable → Option ℕ → Bool → RouteTable
applied_routes t new same = leased_by zero_route route_is_manual t (leased_routes new) same

abbrev pub next_generation : ℕ → ℕ
next_generation n = (n + 1) % 2 ^ 32

-- Purging follows the lease's address and prefix, and not the table: a lost address counts too.
abbrev pub applied : Tables → Installed → Installed → Applied
applied t new old = record {
  tables = record {
    ip_addrs = applied_addrs t.ip_addrs new.address (same_cidr new.address old.address);
    routes = applied_routes t.routes new.router (same_router new.router old.router);
    config_generation = next_generation t.config_generation;
  };
  purge = not (same_cidr new.address old.address);
}
