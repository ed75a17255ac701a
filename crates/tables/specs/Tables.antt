-- The tables: which entries are in use, which of them are DHCP's, and when tables are whole.
use Rattle.std.specs.Prelude.{ℕ, Bool, false, not, List, [], nat_le}
use Rattle.choice.specs.Choice.{when◌then◌else◌}
use Rattle.tables.specs.Entries.{only}
use Rattle.tables.specs.Table.{table, in_use, whole_by}
use Rattle.tables.specs.declared.table.Table.{Table}
use Rattle.tables.specs.declared.address.IfaceAddr.{IfaceAddr}
use Rattle.tables.specs.declared.route.Route.{Route}
use Rattle.tables.specs.declared.tables.Tables.{Tables}

-- The two tables, under the names that the code gives them.
abbrev pub AddrTable : Type 0
AddrTable = Table IfaceAddr

abbrev pub RouteTable : Type 0
RouteTable = Table Route

-- What an unused place of a written table holds.
abbrev pub zero_addr : IfaceAddr
zero_addr = record { address = 0; prefix = 0; dhcp = false }

abbrev pub zero_route : Route
zero_route = record { network = 0; prefix = 0; router = 0; dhcp = false }

-- The tables that hold these entries, and nothing else.
abbrev pub addr_table : List IfaceAddr → AddrTable
addr_table = table zero_addr

abbrev pub route_table : List Route → RouteTable
route_table = table zero_route

-- The entries in use.
abbrev pub addrs_of : AddrTable → List IfaceAddr
addrs_of = in_use

abbrev pub routes_of : RouteTable → List Route
routes_of = in_use

-- Whether an entry is DHCP's, or was put in by hand.
abbrev pub addr_is_dhcp : IfaceAddr → Bool
addr_is_dhcp a = a.dhcp

abbrev pub addr_is_manual : IfaceAddr → Bool
addr_is_manual a = not a.dhcp

abbrev pub route_is_dhcp : Route → Bool
route_is_dhcp a = a.dhcp

abbrev pub route_is_manual : Route → Bool
route_is_manual a = not a.dhcp

-- DHCP's own entries, and the others, in their order.
abbrev pub dhcp_addrs : Tables → List IfaceAddr
dhcp_addrs t = only addr_is_dhcp (addrs_of t.ip_addrs)

abbrev pub other_addrs : Tables → List IfaceAddr
other_addrs t = only addr_is_manual (addrs_of t.ip_addrs)

abbrev pub dhcp_routes : Tables → List Route
dhcp_routes t = only route_is_dhcp (routes_of t.routes)

abbrev pub other_routes : Tables → List Route
other_routes t = only route_is_manual (routes_of t.routes)

-- Tables without an entry, before the first change.
abbrev pub empty_tables : Tables
empty_tables = record { ip_addrs = addr_table []; routes = route_table []; config_generation = 0 }

-- A prefix has at most 32 bits.
abbrev pub prefix_fits : ℕ → Bool
prefix_fits prefix = nat_le prefix 32

abbrev pub addr_fits : IfaceAddr → Bool
addr_fits a = prefix_fits a.prefix

abbrev pub route_fits : Route → Bool
route_fits a = prefix_fits a.prefix

-- Whether a table is whole: its count is not over its places, and no prefix of an entry in use is over 32.
unfoldable pub whole_addrs : AddrTable → Bool
whole_addrs t = whole_by addr_fits t

unfoldable pub whole_routes : RouteTable → Bool
whole_routes t = whole_by route_fits t

-- Whether tables are whole.
unfoldable pub whole_tables : Tables → Bool
whole_tables t = when whole_addrs t.ip_addrs then whole_routes t.routes else false
