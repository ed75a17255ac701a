-- Each of our deeds is lawful: `lawful`, the last definition, has a clause for each. Assumes nothing.
use Rattle.std.proofs.Common.{Some, Result, Ok, Err, Bool}
use Prim.Native.Nat.{ℕ}
use mathlib.Core.Path.{◌≡◌, refl, sym, ap, ◌∙◌, subst}
use mathlib.Core.Bool.{true, false, not, false≢true}
use mathlib.Core.List.{List, [], ◌∷◌}
use borrow.Author.Tests.{not-true}
use Rattle.choice.specs.Choice.{when◌then◌else◌}
use Rattle.clock.specs.Moments.{wrap, moment}
use Rattle.clock.specs.declared.instant.Instant.{Instant}
use Rattle.clock.specs.declared.waits.Waits.{Waits}
use Rattle.choice.proofs.Choices.{if_true, if_cases}
use Rattle.octets.specs.Addresses.{unicast}
use Rattle.octets.specs.Codes.{offer, ack, nak}
use Rattle.wire.specs.Readings.{message_type}
use Rattle.tables.specs.Entries.{full}
use Rattle.tables.specs.Tables.{addrs_of, routes_of, dhcp_addrs, dhcp_routes, prefix_fits, whole_tables}
use Rattle.tables.specs.Manual.{admitted, add_address, drop_address, add_route, drop_route}
use Rattle.tables.specs.declared.tables.Tables.{Tables}
use Rattle.tables.specs.declared.manual.Changed.{Changed}
use Rattle.tables.proofs.ByHand.{add_address_law, drop_address_law, add_route_law, drop_route_law}
use Rattle.settings.specs.Settings.{maximum_of}
use Rattle.settings.specs.declared.settings.Settings.{Settings}
use Rattle.lease.specs.Bound.{reply_lease}
use Rattle.client.specs.Resets.{was_reset}
use Rattle.client.specs.Taken.{processed}
use Rattle.client.specs.Outcomes.{Processed}
use Rattle.client.proofs.Wholes.{all_parts, all_whole, processed_whole, reset_whole}
use Rattle.client.proofs.Unchanged.{was_taken, was_made, refused_kept, reply_answered, reset_made}
use Rattle.client.proofs.Effects.{Settles, reset_settles, reset_clears, Became, unmoved, offered, was_acked, was_cleared, reply_effect}
use Rattle.run.specs.Calls.{Post, Manual, AddAddress, DropAddress, AddRoute, DropRoute, Deed, Reply, Reset, ByHand, changed_by}
use Rattle.run.specs.Demand3.{given_by, Acked, Cleared, accepted_as, accepted, reply_tells, reply_refused, by_reply, reset_tells, reset_refused, by_reset, hand_refused, History, Lost, Since, JustlyByHand, prefix_over, router_bad, table_full}
use Rattle.run.proofs.Agreement.{began_by, starts, waits}
use Rattle.run.proofs.Entries.{own_in, dhcp_in}
use Rattle.run.proofs.Lawful.{Sound, Lawful, doing, never_refused}
use Rattle.run.proofs.Invariant.{Inv, Effect, keeps, goes, clears, binds, effect_step}
use Rattle.reasons.specs.declared.refusal.Refusal.{Refusal}
use Rattle.client.specs.declared.process.NotTaken.{NotTaken}
use Rattle.client.specs.declared.process.NotTaken.TheVariants.{PassedOver, Refused}
use Rattle.reasons.specs.declared.refusal.Refusal.TheVariants.{NotWhole, Router, TableFull}

-- A REPLY: what one that is accepted is to the history, by its message type
module _ (s : Settings) (bytes : List ℕ) where
  offer_accepted : accepted s bytes (Some offer) ≡ []
  unfolding accepted_as when◌then◌else◌
  offer_accepted = refl

  ack_accepted : accepted s bytes (Some ack) ≡ Acked (reply_lease (maximum_of s) bytes) (given_by bytes) ∷ []
  unfolding accepted_as when◌then◌else◌
  ack_accepted = refl

  nak_accepted : accepted s bytes (Some nak) ≡ Cleared ∷ []
  unfolding accepted_as when◌then◌else◌
  nak_accepted = refl

  taken_tells : (o : Result Bool NotTaken) → was_taken o ≡ true → {kind : ℕ} → message_type bytes ≡ Some kind → reply_tells s bytes o ≡ accepted s bytes (Some kind)
  taken_tells (Ok p) e f = ap (accepted s bytes) f
  taken_tells (Err why) e f = absurd (false≢true e)

  untaken_tells : (o : Result Bool NotTaken) → was_taken o ≡ false → reply_tells s bytes o ≡ []
  untaken_tells (Ok p) e = absurd (false≢true (sym e))
  untaken_tells (Err why) e = refl

  module _ (p : Post) (gp : Since) (t : ℕ) (h : History) (lost : Lost) (i : Inv s gp t p.client p.tables h lost) where
    reply_comes : (r : Processed) → Became p.client p.tables bytes (moment (wrap t)) r → Settles p.client p.tables r.client r.tables
        → Effect s gp t p.client p.tables p.rand h lost i (by_reply s bytes p.rand r)
    reply_comes r (unmoved o e f) n = keeps (untaken_tells r.outcome o) e (ap dhcp_addrs f) (ap dhcp_routes f)
    reply_comes r (offered o k l b e) n =
        goes (taken_tells r.outcome o k ∙ offer_accepted) l (waits (began_by gp t i.x p.client.session.state i.shows i.dated b) (e t refl)) n
    reply_comes r (was_acked o k b e v) n =
        binds bytes (taken_tells r.outcome o k ∙ ack_accepted) (began_by gp t i.x p.client.session.state i.shows i.dated b) e v n
    reply_comes r (was_cleared o k e) n = clears (taken_tells r.outcome o k ∙ nak_accepted) (starts e) n

reply_lawful : (w : Waits) (s : Settings) (source : ℕ) (bytes : List ℕ) → Lawful w s (Reply source bytes)
reply_lawful w s source bytes =
    record {
      steps = λ p gp t h lost i.
          let k = reply_effect p.client p.tables bytes (moment (wrap t)) source in
          effect_step s gp t p.client p.tables p.rand h lost i (reply_comes s bytes p gp t h lost i (processed p.client p.tables source bytes (moment (wrap t))) k.0 k.1);
      sound = λ p now v.
          record {
            whole = processed_whole p.client p.tables v.whole source bytes now;
            settings_are = (reply_effect p.client p.tables bytes now source).1.settings ∙ v.settings_are;
          };
      just = λ p now v. never p now v (processed p.client p.tables source bytes now).outcome refl;
    }
  where
    never : (p : Post) (now : Instant) → Sound s p → (o : Result Bool NotTaken) → (processed p.client p.tables source bytes now).outcome ≡ o → (n : Refusal) → reply_refused o ≡ Some n → ⊥
    never p now v (Ok purge) e n f = never_refused n f
    never p now v (Err (PassedOver m)) e n f = never_refused n f
    never p now v (Err (Refused m)) e n f = reply_answered p.client p.tables v.whole source bytes now m e

-- A RESET
reset_lawful : (w : Waits) (s : Settings) → Lawful w s Reset
reset_lawful w s =
    record {
      steps = λ p gp t h lost i. effect_step s gp t p.client p.tables p.rand h lost i (comes p gp t h lost i (was_reset p.client p.tables).outcome refl);
      sound = λ p now v.
          record { whole = reset_whole p.client p.tables v.whole; settings_are = (reset_settles p.client p.tables).settings ∙ v.settings_are };
      just = λ p now v. never p v (was_reset p.client p.tables).outcome refl;
    }
  where
    comes : (p : Post) (gp : Since) (t : ℕ) (h : History) (lost : Lost) (i : Inv s gp t p.client p.tables h lost) (o : Result Bool Refusal) → (was_reset p.client p.tables).outcome ≡ o
        → Effect s gp t p.client p.tables p.rand h lost i (by_reset p.rand (was_reset p.client p.tables))
    comes p gp t h lost i (Ok purge) e = clears (ap reset_tells e) (starts (reset_clears p.client p.tables (ap was_made e))) (reset_settles p.client p.tables)
    comes p gp t h lost i (Err n) e =
        let k = refused_kept p.client p.tables (ap was_made e) in
        keeps (ap reset_tells e) k.0 (ap dhcp_addrs k.1) (ap dhcp_routes k.1)

    never : (p : Post) → Sound s p → (o : Result Bool Refusal) → (was_reset p.client p.tables).outcome ≡ o → (n : Refusal) → reset_refused o ≡ Some n → ⊥
    never p v (Ok purge) e n f = never_refused n f
    never p v (Err m) e n f = false≢true (sym (ap was_made e) ∙ reset_made p.client p.tables v.whole)

-- A MANUAL CALL
module _ (t : Tables) where
  abbrev Own : Changed → Type 0
  Own r = (dhcp_addrs r.tables ≡ dhcp_addrs t) × (dhcp_routes r.tables ≡ dhcp_routes t)

  hand_own : (m : Manual) → Own (changed_by m t)
  hand_own (AddAddress a p) = let k = add_address_law t a p in (k.own, ap dhcp_in k.routes)
  hand_own (DropAddress a p) = let k = drop_address_law t a p in (k.own, ap dhcp_in k.routes)
  hand_own (AddRoute n p r) = let k = add_route_law t n p r in (ap own_in k.addrs, k.own)
  hand_own (DropRoute n p r) = let k = drop_route_law t n p r in (ap own_in k.addrs, k.own)

  module _ (wh : whole_tables t ≡ true) where
    hand_whole : (m : Manual) → whole_tables (changed_by m t).tables ≡ true
    hand_whole (AddAddress a p) = (add_address_law t a p).whole wh
    hand_whole (DropAddress a p) = (drop_address_law t a p).whole wh
    hand_whole (AddRoute n p r) = (add_route_law t n p r).whole wh
    hand_whole (DropRoute n p r) = (drop_route_law t n p r).whole wh

    -- from whole tables 9 is about the prefix
    not_admitted : (prefix : ℕ) → not (admitted t prefix) ≡ true → prefix_fits prefix ≡ false
    unfolding admitted
    not_admitted prefix e = if_true false wh refl ∙ not-true (admitted t prefix) e

    abbrev Just : Manual → Changed → Type 0
    Just m c = (n : Refusal) → hand_refused c.outcome ≡ Some n → JustlyByHand m t n

    just_by : (m : Manual) (k : Refusal) → JustlyByHand m t k → (n : Refusal) → Some k ≡ Some n → JustlyByHand m t n
    just_by m k j n e =
        let same : k ≡ n = cc in
        subst (JustlyByHand m t) same j

    -- what refuses a manual call
    hand_just : (m : Manual) → Just m (changed_by m t)
    unfolding add_address drop_address add_route drop_route
    hand_just (AddAddress a p) =
        if_cases (Just (AddAddress a p)) (not (admitted t p)) (λ e. just_by (AddAddress a p) NotWhole (prefix_over (not_admitted p e)))
        (λ e. if_cases (Just (AddAddress a p)) (full (addrs_of t.ip_addrs)) (λ f. just_by (AddAddress a p) TableFull (table_full f)) (λ f n. never_refused n))
    hand_just (DropAddress a p) =
        if_cases (Just (DropAddress a p)) (not (admitted t p)) (λ e. just_by (DropAddress a p) NotWhole (prefix_over (not_admitted p e))) (λ e n. never_refused n)
    hand_just (AddRoute n p r) =
        if_cases (Just (AddRoute n p r)) (not (admitted t p)) (λ e. just_by (AddRoute n p r) NotWhole (prefix_over (not_admitted p e)))
        (λ e. if_cases (Just (AddRoute n p r)) (not (unicast r)) (λ f. just_by (AddRoute n p r) Router (router_bad f))
        (λ f. if_cases (Just (AddRoute n p r)) (full (routes_of t.routes)) (λ h. just_by (AddRoute n p r) TableFull (table_full h)) (λ h m. never_refused m)))
    hand_just (DropRoute n p r) =
        if_cases (Just (DropRoute n p r)) (not (admitted t p)) (λ e. just_by (DropRoute n p r) NotWhole (prefix_over (not_admitted p e))) (λ e m. never_refused m)

hand_lawful : (w : Waits) (s : Settings) (m : Manual) → Lawful w s (ByHand m)
hand_lawful w s m =
    record {
      steps = λ p gp t h lost i. let k = hand_own p.tables m in effect_step s gp t p.client p.tables p.rand h lost i (keeps {r = doing w s p (moment (wrap t)) (ByHand m)} refl refl k.0 k.1);
      sound = λ p now v.
          let k = all_parts p.client p.tables v.whole in
          record { whole = all_whole p.client (changed_by m p.tables).tables k.0 (hand_whole p.tables k.1 m); settings_are = v.settings_are };
      just = λ p now v. hand_just p.tables (all_parts p.client p.tables v.whole).1 m;
    }

-- EACH DEED
pub lawful : (w : Waits) (s : Settings) (d : Deed) → Lawful w s d
lawful w s (Reply source bytes) = reply_lawful w s source bytes
lawful w s Reset = reset_lawful w s
lawful w s (ByHand m) = hand_lawful w s m
