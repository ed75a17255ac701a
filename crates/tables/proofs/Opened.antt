-- What `unfolding opened` opens: the definitions that the contracts of single functions name. Assumes nothing.
use Rattle.choice.specs.Choice.{when◌then◌else◌}
use Rattle.tables.specs.Entries.{all, any, first}
use Rattle.tables.specs.Table.{added_by}
use Rattle.tables.specs.Tables.{whole_addrs, whole_routes, whole_tables}
use Rattle.tables.specs.Applied.{applied_addrs, applied_routes}
use Rattle.tables.specs.Lookups.{addr_count, route_count, addr_at, route_at, has_addr, default_route_of}
use Rattle.tables.specs.Manual.{admitted, add_address, drop_address, add_route, drop_route}

unfoldable pub opened : Unit {0}
unfolding when◌then◌else◌ all any first added_by applied_addrs applied_routes whole_addrs whole_routes whole_tables addr_count route_count addr_at route_at has_addr default_route_of admitted add_address drop_address add_route drop_route
opened = tt
