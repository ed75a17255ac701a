-- DHCP's entries follow what the ACK that is held gives, less any lost. Assumes nothing.
use Rattle.std.proofs.Common.{Option, None, Some}
use Prim.Native.Nat.{ℕ}
use mathlib.Core.Path.{◌≡◌, refl, sym, ap, ◌∙◌}
use mathlib.Core.Bool.{Bool, true, false}
use mathlib.Core.List.{List, []}
use Rattle.choice.specs.Choice.{when◌then◌else◌}
use Rattle.choice.proofs.Choices.{if_true, if_false}
use Rattle.tables.specs.Entries.{only, full, less_lost}
use Rattle.tables.specs.Tables.{AddrTable, RouteTable, addrs_of, routes_of, addr_is_dhcp, route_is_dhcp, dhcp_addrs, other_addrs, dhcp_routes, other_routes}
use Rattle.tables.specs.declared.address.IfaceAddr.{IfaceAddr}
use Rattle.tables.specs.declared.route.Route.{Route}
use Rattle.tables.specs.Applied.{same_cidr, same_router, leased_addrs, leased_routes}
use Rattle.tables.specs.declared.tables.Tables.{Tables}
use Rattle.tables.specs.declared.apply.Cidr.{Cidr}
use Rattle.tables.specs.declared.apply.Installed.{Installed}
use Rattle.tables.proofs.Origins.{same_cidr_lem, same_cidr_self, same_router_lem, same_router_self}
use Rattle.lease.specs.Leases.{nothing}
use Rattle.client.proofs.Effects.{Entered}
use Rattle.run.specs.Demand3.{Acked, History, held_by, lost_by, Lost, unless_lost}

-- DHCP's entries are those that the ACK gives, less any lost.
pub record Tab (tb : Tables) (lost : Lost) (i : Installed) : Type 0 where
  pub addrs : dhcp_addrs tb ≡ unless_lost lost.addr (leased_addrs i.address)
  pub routes : dhcp_routes tb ≡ unless_lost lost.route (leased_routes i.router)

pub lost_none : {A : Type 0} (b : Bool) → unless_lost {A = A} b [] ≡ []
unfolding unless_lost when◌then◌else◌
lost_none true = refl
lost_none false = refl

pub none_taken : {A : Type 0} (others : List A) → less_lost {A = A} others [] ≡ []
unfolding less_lost when◌then◌else◌
none_taken {A} others = by (full others)
  where
    by : (b : Bool) → when◌then◌else◌ {A = List A} b [] [] ≡ []
    by true = refl
    by false = refl

module _ (tb tb' : Tables) (lost : Lost) where
  pub tab_kept : (i : Installed) → Entered tb tb' i i → Tab tb lost i → Tab tb' lost i
  tab_kept i n k =
      record {
        addrs = n.addrs ∙ sym (if_true _ (same_cidr_self i.address) refl) ∙ k.addrs;
        routes = n.routes ∙ sym (if_true _ (same_router_self i.router) refl) ∙ k.routes;
      }

  pub tab_none : (i : Installed) → Entered tb tb' i nothing → Tab tb lost i → Tab tb' lost nothing
  tab_none i n k =
      record {
        addrs = n.addrs ∙ no_addrs i.address k.addrs ∙ sym (lost_none lost.addr);
        routes = n.routes ∙ no_routes i.router k.routes ∙ sym (lost_none lost.route);
      }
    where
      no_addrs : (m : Option Cidr) → dhcp_addrs tb ≡ unless_lost lost.addr (leased_addrs m) → (when same_cidr None m then dhcp_addrs tb else less_lost (other_addrs tb) []) ≡ []
      no_addrs None e = sym (if_true _ refl refl) ∙ e ∙ lost_none lost.addr
      no_addrs (Some a) e = sym (if_false _ refl refl) ∙ none_taken (other_addrs tb)

      no_routes : (m : Option ℕ) → dhcp_routes tb ≡ unless_lost lost.route (leased_routes m) → (when same_router None m then dhcp_routes tb else less_lost (other_routes tb) []) ≡ []
      no_routes None e = sym (if_true _ refl refl) ∙ e ∙ lost_none lost.route
      no_routes (Some a) e = sym (if_false _ refl refl) ∙ none_taken (other_routes tb)

  -- an ACK, and what it loses of what it enters
  pub tab_acked : (l : ℕ) (h : History) (new : Installed) → Entered tb tb' (held_by h) new
      → Tab tb lost (held_by h) → Tab tb' (lost_by tb (Acked l new) h lost) new
  unfolding lost_by less_lost unless_lost when◌then◌else◌
  tab_acked l h new n k =
      record {
        addrs = n.addrs ∙ of_addrs (same_cidr new.address (held_by h).address) refl;
        routes = n.routes ∙ of_routes (same_router new.router (held_by h).router) refl;
      }
    where
      of_addrs : (b : Bool) → same_cidr new.address (held_by h).address ≡ b
          → (when b then dhcp_addrs tb else less_lost (other_addrs tb) (leased_addrs new.address)) ≡ unless_lost (when b then lost.addr else full (other_addrs tb)) (leased_addrs new.address)
      of_addrs true e = k.addrs ∙ ap (λ (m : Option Cidr). unless_lost lost.addr (leased_addrs m)) (sym (same_cidr_lem new.address (held_by h).address e))
      of_addrs false e = refl

      of_routes : (b : Bool) → same_router new.router (held_by h).router ≡ b
          → (when b then dhcp_routes tb else less_lost (other_routes tb) (leased_routes new.router)) ≡ unless_lost (when b then lost.route else full (other_routes tb)) (leased_routes new.router)
      of_routes true e = k.routes ∙ ap (λ (m : Option ℕ). unless_lost lost.route (leased_routes m)) (sym (same_router_lem new.router (held_by h).router e))
      of_routes false e = refl

-- DHCP's entries of one table
abbrev pub own_in : AddrTable → List IfaceAddr
own_in t = only addr_is_dhcp (addrs_of t)

abbrev pub dhcp_in : RouteTable → List Route
dhcp_in t = only route_is_dhcp (routes_of t)
