-- The manual calls. Document 01: "the tables take manual addresses and manual routes, and drop manual ones (all with that
-- address and prefix, for a route that router too; none there is no refusal), without touching config_generation".
-- Refused, in this order: 9 tables not whole, or the prefix over 32; 10 router not unicast; 11 table full.
use Rattle.std.specs.Prelude.{ℕ, Bool, false, not, ◌&&◌, ◌||◌, List, [], ◌∷◌, ◌++◌, ◌==◌, Ok, Err}
use Rattle.choice.specs.Choice.{when◌then◌else◌}
use Rattle.octets.specs.Addresses.{unicast}
use Rattle.tables.specs.Entries.{only, full}
use Rattle.reasons.specs.declared.refusal.Refusal.{Refusal}
use Rattle.reasons.specs.declared.refusal.Refusal.TheVariants.{NotWhole, Router, TableFull}
use Rattle.tables.specs.Tables.{AddrTable, RouteTable, addr_table, route_table, addrs_of, routes_of, prefix_fits, whole_tables}
use Rattle.tables.specs.declared.address.IfaceAddr.{IfaceAddr}
use Rattle.tables.specs.declared.route.Route.{Route}
use Rattle.tables.specs.declared.tables.Tables.{Tables}
use Rattle.tables.specs.declared.manual.Changed.{Changed}

-- A refusal leaves the tables as they came.
abbrev pub refused : Tables → Refusal → Changed
refused t refusal = record { tables = t; outcome = Err refusal }

-- These tables, and nothing else changed: not the generation.
abbrev pub changed : Tables → AddrTable → RouteTable → Changed
changed t addrs routes = record {
  tables = record { ip_addrs = addrs; routes = routes; config_generation = t.config_generation };
  outcome = Ok tt;
}

abbrev pub changed_addrs : Tables → List IfaceAddr → Changed
changed_addrs t xs = changed t (addr_table xs) t.routes

abbrev pub changed_routes : Tables → List Route → Changed
changed_routes t xs = changed t t.ip_addrs (route_table xs)

-- An entry put in by hand.
abbrev pub manual_addr : ℕ → ℕ → IfaceAddr
manual_addr address prefix = record { address = address; prefix = prefix; dhcp = false }

abbrev pub manual_route : ℕ → ℕ → ℕ → Route
manual_route network prefix router = record { network = network; prefix = prefix; router = router; dhcp = false }

-- Whether an entry is one that a drop names.
abbrev pub addr_matches : ℕ → ℕ → IfaceAddr → Bool
addr_matches address prefix a = a.address == address && a.prefix == prefix

abbrev pub route_matches : ℕ → ℕ → ℕ → Route → Bool
route_matches network prefix router a = (a.network == network && a.prefix == prefix) && a.router == router

-- What a drop leaves: DHCP's entries, and the others that it does not name.
abbrev pub addr_stays : ℕ → ℕ → IfaceAddr → Bool
addr_stays address prefix a = a.dhcp || not (addr_matches address prefix a)

abbrev pub route_stays : ℕ → ℕ → ℕ → Route → Bool
route_stays network prefix router a = a.dhcp || not (route_matches network prefix router a)

-- What every manual call tests first.
unfoldable pub admitted : Tables → ℕ → Bool
admitted t prefix = when whole_tables t then prefix_fits prefix else false

unfoldable pub add_address : Tables → ℕ → ℕ → Changed
add_address t address prefix =
    when not (admitted t prefix) then refused t NotWhole
    else when full (addrs_of t.ip_addrs) then refused t TableFull
    else changed_addrs t (addrs_of t.ip_addrs ++ (manual_addr address prefix ∷ []))

unfoldable pub drop_address : Tables → ℕ → ℕ → Changed
drop_address t address prefix =
    when not (admitted t prefix) then refused t NotWhole
    else changed_addrs t (only (addr_stays address prefix) (addrs_of t.ip_addrs))

unfoldable pub add_route : Tables → ℕ → ℕ → ℕ → Changed
add_route t network prefix router =
    when not (admitted t prefix) then refused t NotWhole
    else when not (unicast router) then refused t Router
    else when full (routes_of t.routes) then refused t TableFull
    else changed_routes t (routes_of t.routes ++ (manual_route network prefix router ∷ []))

unfoldable pub drop_route : Tables → ℕ → ℕ → ℕ → Changed
drop_route t network prefix router =
    when not (admitted t prefix) then refused t NotWhole
    else changed_routes t (only (route_stays network prefix router) (routes_of t.routes))
