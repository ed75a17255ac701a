-- What a lease does to DHCP's own entries and to the others, and that whole tables stay whole under it. Assumes nothing.
use Rattle.std.proofs.Common.{◌≡◌, ◌≤◌, Bool, true, false, not, ◌&&◌, eqb, List, [], ◌++◌, length, refl, ap, ◌∙◌, append-nil, arith, eq-eqb, eqb-true, ℕ, Option, None, Some}
use borrow.Author.Tests.{not-true}
use Rattle.choice.specs.Choice.{when◌then◌else◌}
use Rattle.tables.specs.Entries.{only, all, less_lost, entered}
use Rattle.tables.specs.Table.{in_use, whole_by, leased_by}
use Rattle.tables.specs.Tables.{zero_addr, zero_route, addr_is_dhcp, route_is_dhcp, dhcp_addrs, other_addrs, dhcp_routes, other_routes, addr_fits, route_fits, whole_tables}
use Rattle.tables.specs.Applied.{same_cidr, same_router, leased_addrs, leased_routes, applied_addrs, applied_routes, applied}
use Rattle.tables.specs.declared.table.Table.{Table}
use Rattle.tables.specs.declared.tables.Tables.{Tables}
use Rattle.tables.specs.declared.apply.Cidr.{Cidr}
use Rattle.tables.specs.declared.apply.Installed.{Installed}
use Rattle.tables.proofs.Lists.{only_append, only_implied, only_excluded, less_lost_lem}
use Rattle.tables.proofs.Wholes.{table_sound, sound_table, sound_entered, parts_whole, whole_parts}
use Rattle.tables.proofs.Made.{in_use_table}

-- new entries of DHCP's behind others that are not, whatever an entry holds
module _ {A : Type 0} (dhcp : A → Bool) (xs new : List A) where
  abbrev manual : A → Bool
  manual x = not (dhcp x)

  abbrev others : List A
  others = only manual xs

  abbrev news : List A
  news = less_lost others new

  own_entered : only dhcp new ≡ new → only dhcp (entered others new) ≡ news
  unfolding only
  own_entered n =
      only_append dhcp others news
      ∙ ap (λ l. l ++ only dhcp news) (only_excluded dhcp manual (λ x h. not-true (dhcp x) h) xs)
      ∙ less_lost_lem others new (λ l. only dhcp l ≡ l) refl n

  others_entered : only manual new ≡ [] → only manual (entered others new) ≡ others
  unfolding only
  others_entered n =
      only_append manual others news
      ∙ ap (λ l. l ++ only manual news) (only_implied manual manual (λ x h. h) xs)
      ∙ ap (λ l. others ++ l) (less_lost_lem others new (λ l. only manual l ≡ []) refl n)
      ∙ append-nil others

-- what a lease does to one table
module _ {A : Type 0} (z : A) (dhcp : A → Bool) (t : Table A) (new : List A) where
  own_leased : (same : Bool) → only dhcp new ≡ new
      → only dhcp (in_use (leased_by z (λ x. not (dhcp x)) t new same)) ≡ when same then only dhcp (in_use t) else less_lost (only (λ x. not (dhcp x)) (in_use t)) new
  unfolding when◌then◌else◌
  own_leased true n = refl
  own_leased false n = ap (only dhcp) (in_use_table z (entered (only (λ x. not (dhcp x)) (in_use t)) new)) ∙ own_entered dhcp (in_use t) new n

  others_leased : (same : Bool) → only (λ x. not (dhcp x)) new ≡ []
      → only (λ x. not (dhcp x)) (in_use (leased_by z (λ x. not (dhcp x)) t new same)) ≡ only (λ x. not (dhcp x)) (in_use t)
  unfolding when◌then◌else◌
  others_leased true n = refl
  others_leased false n =
      ap (only (λ x. not (dhcp x))) (in_use_table z (entered (only (λ x. not (dhcp x)) (in_use t)) new)) ∙ others_entered dhcp (in_use t) new n

  -- and a whole one stays whole under a lease that fits
  whole_leased : (fits : A → Bool) (same : Bool) → all fits new ≡ true → length new ≤ 1 → whole_by fits t ≡ true
      → whole_by fits (leased_by z (λ x. not (dhcp x)) t new same) ≡ true
  unfolding when◌then◌else◌
  whole_leased fits true f n h = h
  whole_leased fits false f n h =
      sound_table fits z (entered (only (λ x. not (dhcp x)) (in_use t)) new) (sound_entered fits (λ x. not (dhcp x)) (in_use t) new (table_sound fits t h) f n)

-- a lease's entries are DHCP's, and one at most
record Leased {A : Type 0} (dhcp : A → Bool) (new : List A) : Type 0 where
  own : only dhcp new ≡ new
  none : only (λ x. not (dhcp x)) new ≡ []
  one : length new ≤ 1

leased_addrs_lem : (new : Option Cidr) → Leased addr_is_dhcp (leased_addrs new)
unfolding only
leased_addrs_lem None = record { own = refl; none = refl; one = omega arith }
leased_addrs_lem (Some a) = record { own = refl; none = refl; one = omega arith }

leased_routes_lem : (new : Option ℕ) → Leased route_is_dhcp (leased_routes new)
unfolding only
leased_routes_lem None = record { own = refl; none = refl; one = omega arith }
leased_routes_lem (Some a) = record { own = refl; none = refl; one = omega arith }

leased_routes_fit : (new : Option ℕ) → all route_fits (leased_routes new) ≡ true
unfolding all
leased_routes_fit None = refl
leased_routes_fit (Some a) = refl

-- A lease that comes, changes or goes: of each table, DHCP's own entries are the new ones, less any lost, where the value
-- changed, and the others stay.
module _ (t : Tables) (new old : Installed) where
  pub own_addrs_applied : dhcp_addrs (applied t new old).tables
      ≡ when same_cidr new.address old.address then dhcp_addrs t else less_lost (other_addrs t) (leased_addrs new.address)
  unfolding applied_addrs
  own_addrs_applied = own_leased zero_addr addr_is_dhcp t.ip_addrs (leased_addrs new.address) (same_cidr new.address old.address) (leased_addrs_lem new.address).own

  pub other_addrs_applied : other_addrs (applied t new old).tables ≡ other_addrs t
  unfolding applied_addrs
  other_addrs_applied = others_leased zero_addr addr_is_dhcp t.ip_addrs (leased_addrs new.address) (same_cidr new.address old.address) (leased_addrs_lem new.address).none

  pub own_routes_applied : dhcp_routes (applied t new old).tables
      ≡ when same_router new.router old.router then dhcp_routes t else less_lost (other_routes t) (leased_routes new.router)
  unfolding applied_routes
  own_routes_applied = own_leased zero_route route_is_dhcp t.routes (leased_routes new.router) (same_router new.router old.router) (leased_routes_lem new.router).own

  pub other_routes_applied : other_routes (applied t new old).tables ≡ other_routes t
  unfolding applied_routes
  other_routes_applied = others_leased zero_route route_is_dhcp t.routes (leased_routes new.router) (same_router new.router old.router) (leased_routes_lem new.router).none

-- whole tables stay whole under a lease whose prefix fits
pub whole_applied : (t : Tables) (new old : Installed) → all addr_fits (leased_addrs new.address) ≡ true → whole_tables t ≡ true → whole_tables (applied t new old).tables ≡ true
unfolding applied_addrs applied_routes
whole_applied t new old f h =
    let p = parts_whole t h in
    whole_parts (applied t new old).tables
    (whole_leased zero_addr addr_is_dhcp t.ip_addrs (leased_addrs new.address) addr_fits (same_cidr new.address old.address) f (leased_addrs_lem new.address).one p.0)
    (whole_leased zero_route route_is_dhcp t.routes (leased_routes new.router) route_fits (same_router new.router old.router) (leased_routes_fit new.router) (leased_routes_lem new.router).one p.1)

-- values are the same exactly if they are equal
pub and_true : (a b : Bool) → a && b ≡ true → (a ≡ true) × (b ≡ true)
and_true true b h = (refl, h)
and_true false b h = (cc, cc)

pub same_cidr_lem : (a b : Option Cidr) → same_cidr a b ≡ true → a ≡ b
same_cidr_lem None None h = refl
same_cidr_lem None (Some b) h = cc
same_cidr_lem (Some a) None h = cc
same_cidr_lem (Some a) (Some b) h =
    let both = and_true (eqb a.address b.address) (eqb a.prefix b.prefix) h in
    ap (λ n. Some (cidr n a.prefix)) (eqb-true a.address b.address both.0) ∙ ap (λ n. Some (cidr b.address n)) (eqb-true a.prefix b.prefix both.1)
  where
    cidr : ℕ → ℕ → Cidr
    cidr address prefix = record { address = address; prefix = prefix }

pub same_cidr_self : (a : Option Cidr) → same_cidr a a ≡ true
same_cidr_self None = refl
same_cidr_self (Some a) = rw (eq-eqb a.address a.address refl, eq-eqb a.prefix a.prefix refl) refl

pub same_router_lem : (a b : Option ℕ) → same_router a b ≡ true → a ≡ b
same_router_lem None None h = refl
same_router_lem None (Some b) h = cc
same_router_lem (Some a) None h = cc
same_router_lem (Some a) (Some b) h = ap Some (eqb-true a b h)

pub same_router_self : (a : Option ℕ) → same_router a a ≡ true
same_router_self None = refl
same_router_self (Some a) = eq-eqb a a refl
