-- What the manual calls do: to DHCP's entries and the generation nothing, to the others what the call says, and nothing at
-- all where they are refused. Assumes nothing.
use Rattle.std.proofs.Common.{◌≡◌, Bool, true, false, not, ◌||◌, List, [], ◌∷◌, ◌++◌, refl, ap, ◌∙◌, append-nil, ℕ, arith}
use borrow.Author.Tests.{not-false}
use Rattle.choice.proofs.Choices.{if_cases, both_true}
use Rattle.octets.specs.Addresses.{unicast}
use Rattle.tables.specs.Entries.{only, full}
use Rattle.tables.specs.Tables.{zero_addr, zero_route, addrs_of, routes_of, addr_is_dhcp, addr_is_manual, route_is_dhcp, route_is_manual, addr_fits, route_fits, dhcp_addrs, other_addrs, dhcp_routes, other_routes, prefix_fits, whole_tables}
use Rattle.tables.specs.Manual.{refused, changed_addrs, changed_routes, manual_addr, manual_route, addr_matches, route_matches, admitted, add_address, drop_address, add_route, drop_route}
use Rattle.tables.specs.declared.address.IfaceAddr.{IfaceAddr}
use Rattle.tables.specs.declared.route.Route.{Route}
use Rattle.tables.specs.declared.tables.Tables.{Tables}
use Rattle.std.specs.Prelude.{Ok, Err}
use Rattle.reasons.specs.declared.refusal.Refusal.{Refusal}
use Rattle.reasons.specs.declared.refusal.Refusal.TheVariants.{NotWhole, Router, TableFull}
use Rattle.tables.specs.declared.manual.Changed.{Changed}
use Rattle.std.proofs.lemmas.List.Elements.{filter-append}
use Rattle.tables.proofs.Lists.{only_implied, only_under}
use Rattle.tables.specs.Table.{in_use, whole_by}
use Rattle.tables.specs.declared.table.Table.{Table}
use Rattle.tables.proofs.Made.{in_use_table}
use Rattle.tables.proofs.Wholes.{Sound, table_sound, sound_table, sound_more, sound_less, parts_whole, whole_parts}

-- A call that changes the addresses put in by hand as f says.
pub record AddrsByHand (t : Tables) (f : List IfaceAddr → List IfaceAddr) (c : Changed) : Type 0 where
  pub own : dhcp_addrs c.tables ≡ dhcp_addrs t
  pub others : c.outcome ≡ Ok tt → other_addrs c.tables ≡ f (other_addrs t)
  pub routes : c.tables.routes ≡ t.routes
  pub generation : c.tables.config_generation ≡ t.config_generation
  pub kept : (n : Refusal) → c.outcome ≡ Err n → c.tables ≡ t
  pub whole : whole_tables t ≡ true → whole_tables c.tables ≡ true

-- A call that changes the routes put in by hand as f says.
pub record RoutesByHand (t : Tables) (f : List Route → List Route) (c : Changed) : Type 0 where
  pub own : dhcp_routes c.tables ≡ dhcp_routes t
  pub others : c.outcome ≡ Ok tt → other_routes c.tables ≡ f (other_routes t)
  pub addrs : c.tables.ip_addrs ≡ t.ip_addrs
  pub generation : c.tables.config_generation ≡ t.config_generation
  pub kept : (n : Refusal) → c.outcome ≡ Err n → c.tables ≡ t
  pub whole : whole_tables t ≡ true → whole_tables c.tables ≡ true

addrs_refused : (t : Tables) (f : List IfaceAddr → List IfaceAddr) (n : Refusal) → AddrsByHand t f (refused t n)
addrs_refused t f n = record { own = refl; others = λ h. cc; routes = refl; generation = refl; kept = λ m h. refl; whole = λ h. h }

routes_refused : (t : Tables) (f : List Route → List Route) (n : Refusal) → RoutesByHand t f (refused t n)
routes_refused t f n = record { own = refl; others = λ h. cc; addrs = refl; generation = refl; kept = λ m h. refl; whole = λ h. h }

-- what such a call leaves in one table, whatever an entry holds
record Leaves {A : Type 0} (dhcp fits : A → Bool) (t : Table A) (f : List A → List A) (ys : List A) : Type 0 where
  own : only dhcp ys ≡ only dhcp (in_use t)
  others : only (λ x. not (dhcp x)) ys ≡ f (only (λ x. not (dhcp x)) (in_use t))
  sound : whole_by fits t ≡ true → Sound fits ys

module _ {A : Type 0} (dhcp fits : A → Bool) (t : Table A) where
  leaves_more : (x : A) → dhcp x ≡ false → fits x ≡ true → full (in_use t) ≡ false → Leaves dhcp fits t (λ xs. xs ++ (x ∷ [])) (in_use t ++ (x ∷ []))
  unfolding only
  leaves_more x d h g =
      record {
        own = filter-append dhcp (in_use t) (x ∷ []) ∙ simp (d, append-nil);
        others = filter-append (λ y. not (dhcp y)) (in_use t) (x ∷ []) ∙ simp d;
        sound = λ w. sound_more fits (in_use t) x g h (table_sound fits t w);
      }

  leaves_less : (named : A → Bool) → Leaves dhcp fits t (only (λ x. not (named x))) (only (λ x. dhcp x || not (named x)) (in_use t))
  leaves_less named =
      record {
        own = only_implied dhcp (λ x. dhcp x || not (named x)) (λ x d. grind (arith, d)) (in_use t);
        others = only_under (λ x. not (dhcp x)) (λ x. dhcp x || not (named x)) (λ x. not (named x)) (λ x m. grind (arith, m)) (in_use t);
        sound = λ w. sound_less fits (λ x. dhcp x || not (named x)) (in_use t) (table_sound fits t w);
      }

addrs_changed : (t : Tables) {f : List IfaceAddr → List IfaceAddr} (ys : List IfaceAddr) → Leaves addr_is_dhcp addr_fits t.ip_addrs f ys → AddrsByHand t f (changed_addrs t ys)
addrs_changed t ys l =
    record {
      own = ap (only addr_is_dhcp) (in_use_table zero_addr ys) ∙ l.own;
      others = λ h. ap (only addr_is_manual) (in_use_table zero_addr ys) ∙ l.others;
      routes = refl;
      generation = refl;
      kept = λ n h. cc;
      whole = λ h. let p = parts_whole t h in whole_parts (changed_addrs t ys).tables (sound_table addr_fits zero_addr ys (l.sound p.0)) p.1;
    }

routes_changed : (t : Tables) {f : List Route → List Route} (ys : List Route) → Leaves route_is_dhcp route_fits t.routes f ys → RoutesByHand t f (changed_routes t ys)
routes_changed t ys l =
    record {
      own = ap (only route_is_dhcp) (in_use_table zero_route ys) ∙ l.own;
      others = λ h. ap (only route_is_manual) (in_use_table zero_route ys) ∙ l.others;
      addrs = refl;
      generation = refl;
      kept = λ n h. cc;
      whole = λ h. let p = parts_whole t h in whole_parts (changed_routes t ys).tables p.0 (sound_table route_fits zero_route ys (l.sound p.1));
    }

prefix_fits_lem : (t : Tables) (prefix : ℕ) → not (admitted t prefix) ≡ false → prefix_fits prefix ≡ true
unfolding admitted
prefix_fits_lem t prefix h = (both_true (whole_tables t) (not-false _ h)).1

module _ (t : Tables) (address prefix : ℕ) where
  abbrev named : IfaceAddr
  named = manual_addr address prefix

  pub add_address_law : AddrsByHand t (λ xs. xs ++ (named ∷ [])) (add_address t address prefix)
  unfolding add_address
  add_address_law =
      if_cases law (not (admitted t prefix)) (λ h. addrs_refused t more NotWhole)
      (λ h. if_cases law (full (addrs_of t.ip_addrs)) (λ g. addrs_refused t more TableFull)
      (λ g. addrs_changed t _ (leaves_more addr_is_dhcp addr_fits t.ip_addrs named refl (prefix_fits_lem t prefix h) g)))
    where
      more : List IfaceAddr → List IfaceAddr
      more xs = xs ++ (named ∷ [])

      law : Changed → Type 0
      law = AddrsByHand t more

  pub drop_address_law : AddrsByHand t (only (λ (a : IfaceAddr). not (addr_matches address prefix a))) (drop_address t address prefix)
  unfolding drop_address
  drop_address_law =
      if_cases law (not (admitted t prefix)) (λ h. addrs_refused t less NotWhole)
      (λ h. addrs_changed t _ (leaves_less addr_is_dhcp addr_fits t.ip_addrs (addr_matches address prefix)))
    where
      less : List IfaceAddr → List IfaceAddr
      less = only (λ (a : IfaceAddr). not (addr_matches address prefix a))

      law : Changed → Type 0
      law = AddrsByHand t less

module _ (t : Tables) (network prefix router : ℕ) where
  abbrev entry : Route
  entry = manual_route network prefix router

  pub add_route_law : RoutesByHand t (λ xs. xs ++ (entry ∷ [])) (add_route t network prefix router)
  unfolding add_route
  add_route_law =
      if_cases law (not (admitted t prefix)) (λ h. routes_refused t more NotWhole)
      (λ h. if_cases law (not (unicast router)) (λ g. routes_refused t more Router)
      (λ u. if_cases law (full (routes_of t.routes)) (λ g. routes_refused t more TableFull)
      (λ g. routes_changed t _ (leaves_more route_is_dhcp route_fits t.routes entry refl (prefix_fits_lem t prefix h) g))))
    where
      more : List Route → List Route
      more xs = xs ++ (entry ∷ [])

      law : Changed → Type 0
      law = RoutesByHand t more

  pub drop_route_law : RoutesByHand t (only (λ (a : Route). not (route_matches network prefix router a))) (drop_route t network prefix router)
  unfolding drop_route
  drop_route_law =
      if_cases law (not (admitted t prefix)) (λ h. routes_refused t less NotWhole)
      (λ h. routes_changed t _ (leaves_less route_is_dhcp route_fits t.routes (route_matches network prefix router)))
    where
      less : List Route → List Route
      less = only (λ (a : Route). not (route_matches network prefix router a))

      law : Changed → Type 0
      law = RoutesByHand t less
