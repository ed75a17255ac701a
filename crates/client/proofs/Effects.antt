-- What each call does to the state, to what the lease gives, and to DHCP's entries in the tables. Assumes nothing.
use Rattle.std.proofs.Common.{Some, Result, Ok, Err}
use Prim.Native.Nat.{ℕ}
use mathlib.Core.Path.{◌≡◌, refl, sym, ap, ◌∙◌, subst}
use mathlib.Core.Bool.{Bool, true, false, not, ◌&&◌}
use mathlib.Core.List.{List}
use native.Mathlib.Omega.{arith}
use lib.Dec.{eqb}
use Rattle.choice.specs.Choice.{when◌then◌else◌}
use Rattle.choice.proofs.Choices.{if_true, if_false, if_cases, both_true}
use Rattle.clock.specs.Moments.{wrap}
use Rattle.clock.specs.declared.instant.Instant.{Instant}
use Rattle.clock.specs.declared.rand.Rand.{Rand}
use Rattle.octets.specs.Codes.{offer, ack, nak}
use Rattle.wire.specs.Readings.{message_type, router}
use Rattle.wire.specs.Stored.{same_options}
use Rattle.machine.specs.States.{has_lease, requesting}
use Rattle.machine.specs.declared.state.ClientState.{ClientState}
use Rattle.machine.specs.declared.state.ClientState.TheVariants.{Init, Discovering, Requesting, Renewing}
use Rattle.machine.proofs.Timers.{Waiting, requesting as requesting-shows}
use Rattle.machine.specs.declared.decide.Sending.{Sending}
use Rattle.machine.specs.declared.decide.Sending.TheVariants.{Discover, Request, Renew}
use Rattle.tables.specs.Entries.{less_lost}
use Rattle.tables.specs.Tables.{dhcp_addrs, other_addrs, dhcp_routes, other_routes}
use Rattle.tables.specs.Applied.{same_cidr, same_router, leased_addrs, leased_routes, applied}
use Rattle.tables.specs.declared.tables.Tables.{Tables}
use Rattle.tables.specs.declared.apply.Installed.{Installed}
use Rattle.tables.proofs.Origins.{and_true, own_addrs_applied, own_routes_applied, same_cidr_lem, same_cidr_self, same_router_lem, same_router_self}
use Rattle.lease.specs.Leases.{no_lease, same_terms, same_addresses, same_lease, installed, nothing}
use Rattle.client.specs.Clients.{in_state, with_session, whole_all}
use Rattle.client.specs.Resets.{cleared, was_reset}
use Rattle.judge.specs.Judged.{judged}
use Rattle.lease.specs.Bound.{bound_by}
use Rattle.client.specs.Taken.{recipient_of, holds, held_by, ack_lease, acked_as, acked, entered, replied, processed}
use Rattle.client.specs.Polls.{moved}
use Rattle.settings.specs.declared.settings.Settings.{Settings}
use Rattle.lease.specs.declared.lease.DhcpLease.{DhcpLease}
use Rattle.client.specs.declared.client.Client.{Client}
use Rattle.judge.specs.declared.judge.Acked.{Acked}
use Rattle.judge.specs.declared.judge.Verdict.{Verdict}
use Rattle.judge.specs.declared.judge.Verdict.TheVariants.{Offer, Ack, Nak}
use Rattle.reasons.specs.declared.passed_over.PassedOver.{PassedOver}
use Rattle.client.specs.declared.client.Settled.{Settled}
use Rattle.client.specs.Outcomes.{WasReset}
use Rattle.client.specs.Outcomes.{Processed}
use Rattle.client.proofs.Unchanged.{was_taken, was_made}
use Rattle.judge.proofs.Verdicts.{Reads, begun, Says, judged_says}

-- DHCP's entries after a change of what the lease gives: the new ones, less any lost, where the value changed.
pub record Entered (t t' : Tables) (old new : Installed) : Type 0 where
  pub addrs : dhcp_addrs t' ≡ when same_cidr new.address old.address then dhcp_addrs t else less_lost (other_addrs t) (leased_addrs new.address)
  pub routes : dhcp_routes t' ≡ when same_router new.router old.router then dhcp_routes t else less_lost (other_routes t) (leased_routes new.router)

pub entered_same : (t : Tables) (i : Installed) → Entered t t i i
entered_same t i =
    record { addrs = if_true _ (same_cidr_self i.address) refl; routes = if_true _ (same_router_self i.router) refl }

entered_applied : (t : Tables) (new old : Installed) → Entered t (applied t new old).tables old new
entered_applied t new old = record { addrs = own_addrs_applied t new old; routes = own_routes_applied t new old }

-- What a client's lease gives.
abbrev pub gives : Client → Installed
gives c = held_by c.session.state c.lease

gives_lease : (state : ClientState) (lease : DhcpLease) → has_lease state ≡ true → held_by state lease ≡ installed lease
unfolding held_by
gives_lease state lease e = sym (if_true _ e refl)

gives_nothing : (state : ClientState) (lease : DhcpLease) → has_lease state ≡ false → held_by state lease ≡ nothing
unfolding held_by
gives_nothing state lease e = sym (if_false _ e refl)

-- A client and its tables after a call: the settings are the same, and DHCP's entries follow what the lease gives.
pub record Settles (c : Client) (t : Tables) (c' : Client) (t' : Tables) : Type 0 where
  pub settings : c'.settings ≡ c.settings
  pub entries : Entered t t' (gives c) (gives c')

pub settles_same : (c : Client) (t : Tables) → Settles c t c t
settles_same c t = record { settings = refl; entries = entered_same t (gives c) }

-- by what the lease gave and gives
settles_by : {c : Client} {t : Tables} {c' : Client} {t' : Tables} (old new : Installed) → c'.settings ≡ c.settings → gives c ≡ old → gives c' ≡ new
    → Entered t t' old new → Settles c t c' t'
settles_by old new s e f h = record { settings = s; entries = rw (e, f) h }

-- A reset: Init, and nothing is given.
module _ (c : Client) (t : Tables) where
  abbrev Clears : Settled Bool → Type 0
  Clears s = (s.client.session.state ≡ Init) × Settles c t s.client s.tables

  cleared_settles : Clears (cleared c t)
  unfolding cleared
  cleared_settles =
      if_cases Clears (has_lease c.session.state)
      (λ e. (refl, settles_by (installed c.lease) nothing refl (gives_lease c.session.state c.lease e) (gives_nothing Init no_lease refl) (entered_applied t nothing (installed c.lease))))
      (λ e. (refl, settles_by nothing nothing refl (gives_nothing c.session.state c.lease e) (gives_nothing Init c.lease refl) (entered_same t nothing)))

  pub reset_settles : Settles c t (was_reset c t).client (was_reset c t).tables
  unfolding was_reset
  reset_settles =
      if_cases (λ (r : WasReset). Settles c t r.client r.tables) (not (whole_all c t)) (λ e. settles_same c t) (λ e. cleared_settles.1)

  pub reset_clears : was_made (was_reset c t).outcome ≡ true → (was_reset c t).client.session.state ≡ Init
  unfolding was_reset
  reset_clears =
      if_cases (λ (r : WasReset). was_made r.outcome ≡ true → r.client.session.state ≡ Init) (not (whole_all c t)) (λ e h. cc) (λ e h. cleared_settles.0)

-- leases that are the same give the same
last_three : (a b c d : Bool) → ((a && b) && c) && d ≡ true → (b ≡ true) × (c ≡ true) × (d ≡ true)
last_three a b c d h =
    let x = and_true ((a && b) && c) d h in
    let y = and_true (a && b) c x.0 in
    ((and_true a b y.0).1, y.1, x.1)

same_gives : (a b : DhcpLease) → same_lease a b ≡ true → installed a ≡ installed b
same_gives a b h =
    let terms = (and_true (same_terms a b) (same_addresses a.dns b.dns) (and_true (same_terms a b && same_addresses a.dns b.dns) (same_options a.options b.options) h).0).0 in
    let parts = last_three (eqb a.server.address b.server.address && eqb a.server.identifier b.server.identifier) (eqb a.address b.address) (eqb a.prefix b.prefix) (same_router a.router b.router) terms in
    let cidr = same_cidr_lem (installed a).address (installed b).address (rw (parts.0, parts.1) refl) in
    let way = same_router_lem a.router b.router parts.2 in
    λ i. record { address = cidr i; router = way i }

-- What an ACK that was accepted gives, by its bytes.
pub record Given (bytes : List ℕ) (i : Installed) : Type 0 where
  pub address : ℕ
  pub prefix : ℕ
  pub reads : Reads bytes address prefix
  pub is : i ≡ record { address = Some (record { address = address; prefix = prefix }); router = router bytes }

module _ (c : Client) (t : Tables) (bytes : List ℕ) (now : Instant) where
  -- What a reply is to the client and its tables.
  pub data Became : Processed → Type 0 where
    unmoved : {r : Processed} → was_taken r.outcome ≡ false → r.client ≡ c → r.tables ≡ t → Became r
    offered : {r : Processed} → was_taken r.outcome ≡ true → message_type bytes ≡ Some offer → has_lease c.session.state ≡ false → begun c.session.state ≡ true
        → ((u : ℕ) → now.millis ≡ wrap u → Waiting u r.client.session.state) → Became r
    was_acked : {r : Processed} → was_taken r.outcome ≡ true → message_type bytes ≡ Some ack → begun c.session.state ≡ true → r.client.session.state ≡ bound_by c.settings bytes now
        → Given bytes (gives r.client) → Became r
    was_cleared : {r : Processed} → was_taken r.outcome ≡ true → message_type bytes ≡ Some nak → r.client.session.state ≡ Init → Became r

  abbrev Effect : Processed → Type 0
  Effect r = Became r × Settles c t r.client r.tables

  bound : (s : Settings) → has_lease (bound_by s bytes now) ≡ true
  unfolding bound_by
  bound s = refl

  abbrev Acks : Acked → Settled Bool → Type 0
  Acks a s = (s.client.session.state ≡ bound_by c.settings bytes now) × (gives s.client ≡ record { address = Some (record { address = a.address; prefix = a.prefix }); router = router bytes })
      × Settles c t s.client s.tables

  acked_settles : (a : Acked) → Acks a (acked c t bytes now a)
  unfolding acked acked_as holds
  acked_settles a = if_cases (Acks a) (holds c.session.state c.lease lease) same other
    where
      lease : DhcpLease
      lease = ack_lease c bytes a

      state : ClientState
      state = bound_by c.settings bytes now

      same : holds c.session.state c.lease lease ≡ true → Acks a (record { client = with_session c (in_state c.session state); tables = t; outcome = false })
      same e =
          let h = both_true (has_lease c.session.state) e in
          let g = gives_lease state c.lease (bound c.settings) in
          (refl, g ∙ sym (same_gives lease c.lease h.1), settles_by (installed c.lease) (installed c.lease) refl (gives_lease c.session.state c.lease h.0) g (entered_same t (installed c.lease)))

      other : holds c.session.state c.lease lease ≡ false → Acks a (entered c t (in_state c.session state) lease)
      other e =
          let g = gives_lease state lease (bound c.settings) in
          (refl, g, settles_by (gives c) (installed lease) refl refl g (entered_applied t (installed lease) (gives c)))

  verdict_effect : (v : Result Verdict PassedOver) → Says c.session.state bytes v → Effect (replied c t bytes now v)
  unfolding replied
  verdict_effect (Ok (Offer o)) h = (
    offered refl h.0 h.1 h.2 (λ u e. record { until = u; from = omega arith; most = omega arith; shows = requesting-shows e }),
    settles_by nothing nothing refl (gives_nothing c.session.state c.lease h.1) (gives_nothing (requesting o.server o.address now) c.lease refl) (entered_same t nothing),
  )
  verdict_effect (Ok (Ack a)) h =
      let k = acked_settles a in
      (was_acked refl h.0 h.2 k.0 (record { address = a.address; prefix = a.prefix; reads = h.1; is = k.1 }), k.2)
  verdict_effect (Ok Nak) h =
      let k = cleared_settles c t in
      (was_cleared refl h k.0, k.1)
  verdict_effect (Err n) h = (unmoved refl refl refl, settles_same c t)

  pub reply_effect : (source : ℕ) → Became (processed c t source bytes now) × Settles c t (processed c t source bytes now).client (processed c t source bytes now).tables
  unfolding processed
  reply_effect source =
      if_cases Effect (not (whole_all c t)) (λ e. (unmoved refl refl refl, settles_same c t))
      (λ e. verdict_effect (judged (recipient_of c) source bytes) (judged_says (recipient_of c) source bytes))

-- A message that a poll sends: a Request goes from a state without a lease, or with one, to such a state.
abbrev pub Fitting : Client → Sending → Type 0
Fitting c (Discover s) = Unit {0}
Fitting c (Request s) = has_lease c.session.state ≡ false
Fitting c (Renew s) = has_lease c.session.state ≡ true

module _ (c : Client) (t : Tables) (g : Rand) (buffer : List ℕ) (wake : Instant) where
  pub moved_settles : (s : Sending) → Fitting c s → Settles c t (moved c t g buffer wake s).polled.client (moved c t g buffer wake s).polled.tables
  moved_settles (Discover s) f =
      let k = cleared_settles c t in
      settles_by (gives c) nothing k.1.settings refl (gives_nothing (Discovering s) (cleared c t).client.lease refl)
      (subst (Entered t (cleared c t).tables (gives c)) (ap (λ (x : ClientState). held_by x (cleared c t).client.lease) k.0 ∙ gives_nothing Init (cleared c t).client.lease refl) k.1.entries)
  moved_settles (Request s) f =
      settles_by nothing nothing refl (gives_nothing c.session.state c.lease f) (gives_nothing (Requesting s) c.lease refl) (entered_same t nothing)
  moved_settles (Renew s) f =
      settles_by (installed c.lease) (installed c.lease) refl (gives_lease c.session.state c.lease f) (gives_lease (Renewing s) c.lease refl) (entered_same t (installed c.lease))
