-- Look-ups in tables, refused where these are not whole.
use Rattle.std.specs.Prelude.{ℕ, Bool, not, ◌&&◌, length, ◌==◌, Option, Result, Ok, Err, slice_get}
use Rattle.choice.specs.Choice.{when◌then◌else◌}
use Rattle.reasons.specs.declared.refusal.Refusal.{Refusal}
use Rattle.reasons.specs.declared.refusal.Refusal.TheVariants.{NotWhole}
use Rattle.tables.specs.Entries.{any, first}
use Rattle.tables.specs.Tables.{addrs_of, routes_of, whole_tables}
use Rattle.tables.specs.declared.address.IfaceAddr.{IfaceAddr}
use Rattle.tables.specs.declared.route.Route.{Route}
use Rattle.tables.specs.declared.tables.Tables.{Tables}

-- An answer about whole tables, or the refusal of others.
abbrev pub if_whole : {A : Type 0} → Tables → A → Result A Refusal
if_whole t answer = when not (whole_tables t) then Err NotWhole else Ok answer

-- How many entries are in use.
unfoldable pub addr_count : Tables → Result ℕ Refusal
addr_count t = if_whole t (length (addrs_of t.ip_addrs))

unfoldable pub route_count : Tables → Result ℕ Refusal
route_count t = if_whole t (length (routes_of t.routes))

-- The entry at a place, counted from 0, or that there is none.
unfoldable pub addr_at : Tables → ℕ → Result (Option IfaceAddr) Refusal
addr_at t place = if_whole t (slice_get (addrs_of t.ip_addrs) place)

unfoldable pub route_at : Tables → ℕ → Result (Option Route) Refusal
route_at t place = if_whole t (slice_get (routes_of t.routes) place)

-- Whether an address is there, whatever its prefix and origin.
abbrev pub is_at : ℕ → IfaceAddr → Bool
is_at address a = a.address == address

unfoldable pub has_addr : Tables → ℕ → Result Bool Refusal
has_addr t address = if_whole t (any (is_at address) (addrs_of t.ip_addrs))

-- The default route: the first to 0.0.0.0/0, by hand or DHCP's.
abbrev pub is_default : Route → Bool
is_default a = a.network == 0 && a.prefix == 0

unfoldable pub default_route_of : Tables → Result (Option Route) Refusal
default_route_of t = if_whole t (first is_default (routes_of t.routes))
