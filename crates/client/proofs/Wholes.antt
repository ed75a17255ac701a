-- A whole client with whole tables stays whole, whatever call is made on it. Assumes nothing.
use Rattle.std.proofs.Common.{Option, Result, Ok, Err}
use Rattle.std.proofs.Common.{None, Some}
use Prim.Native.Nat.{ℕ, ◌≤◌}
use mathlib.Core.Path.{◌≡◌, refl, sym, ap, ◌∙◌, subst}
use mathlib.Core.Bool.{Bool, true, false, not, ◌&&◌}
use mathlib.Core.List.{List, []}
use native.Mathlib.Omega.{arith}
use lib.ListN.{length-take}
use borrow.Author.Tests.{le-ltb, le-leb}
use Rattle.choice.specs.Choice.{when◌then◌else◌}
use Rattle.choice.proofs.Choices.{if_true, if_false, if_cases, both_true}
use Rattle.clock.specs.declared.instant.Instant.{Instant}
use Rattle.octets.specs.Codes.{dns_code}
use Rattle.wire.specs.Options.{option_data}
use Rattle.wire.specs.Readings.{addresses_of, unicast_ones, groups_of}
use Rattle.wire.proofs.Stores.{store_sound}
use Rattle.machine.specs.States.{has_lease}
use Rattle.machine.specs.declared.state.ClientState.{ClientState}
use Rattle.machine.specs.declared.state.ClientState.TheVariants.{Init}
use Rattle.machine.specs.declared.state.DhcpServerInfo.{DhcpServerInfo}
use Rattle.tables.specs.Entries.{all}
use Rattle.tables.specs.Tables.{addr_fits, whole_tables}
use Rattle.tables.specs.Applied.{leased_addr}
use Rattle.tables.specs.declared.tables.Tables.{Tables}
use Rattle.tables.proofs.Origins.{whole_applied}
use Rattle.tables.proofs.Lists.{all_takes}
use Rattle.settings.specs.Settings.{refusal_of}
use Rattle.lease.specs.Leases.{no_lease, lease_of, whole_lease, installed, nothing}
use Rattle.client.specs.Clients.{in_state, with_session, fresh, created_or, created, lease_fits, whole_or, whole_client, whole_all}
use Rattle.client.specs.Resets.{restarted, dropped, cleared, was_reset}
use Rattle.judge.specs.Judged.{judged}
use Rattle.judge.proofs.Judging.{Fits, judged_fits}
use Rattle.lease.specs.Bound.{bound_by}
use Rattle.client.specs.Taken.{recipient_of, server_of, holds, held_by, ack_lease, acked_as, acked, entered, offered, replied, processed}
use Rattle.settings.specs.declared.settings.Settings.{Settings}
use Rattle.lease.specs.declared.lease.DhcpLease.{DhcpLease}
use Rattle.client.specs.declared.client.Session.{Session}
use Rattle.client.specs.declared.client.Client.{Client}
use Rattle.judge.specs.declared.judge.Acked.{Acked}
use Rattle.judge.specs.declared.judge.Verdict.{Verdict}
use Rattle.judge.specs.declared.judge.Verdict.TheVariants.{Offer, Ack, Nak}
use Rattle.reasons.specs.declared.passed_over.PassedOver.{PassedOver}
use Rattle.reasons.specs.declared.refusal.Refusal.{Refusal}
use Rattle.client.specs.declared.client.Settled.{Settled}
use Rattle.client.specs.Outcomes.{WasReset}
use Rattle.client.specs.Outcomes.{Processed}

-- the lease of such an ACK is whole
few_addresses : (body : Option (List ℕ)) → (addresses_of body).count ≤ 3
few_addresses None = omega arith
few_addresses (Some body) = rw (length-take 3 (unicast_ones (groups_of body))) (omega arith)

lease_whole : (server : DhcpServerInfo) (address prefix : ℕ) (reply : List ℕ) → prefix ≤ 32 → whole_lease (lease_of server address prefix reply) ≡ true
unfolding whole_lease
lease_whole server address prefix reply h =
    sym (if_false _ (ap not (le-leb prefix 32 h)) (if_false _ (le-ltb 3 _ (few_addresses (option_data dns_code reply))) (sym (store_sound reply).whole)))

-- the parts of a whole client
pub settings_whole : (c : Client) → whole_client c ≡ true → refusal_of c.settings ≡ None
unfolding whole_client
settings_whole c = step (refusal_of c.settings)
  where
    step : (m : Option Refusal) → whole_or m (lease_fits c.session.state c.lease) ≡ true → m ≡ None
    step None h = refl
    step (Some n) h = cc

pub lease_fits_lem : (c : Client) → whole_client c ≡ true → lease_fits c.session.state c.lease ≡ true
unfolding whole_client
lease_fits_lem c = step (refusal_of c.settings)
  where
    step : (m : Option Refusal) → whole_or m (lease_fits c.session.state c.lease) ≡ true → lease_fits c.session.state c.lease ≡ true
    step None h = h
    step (Some n) h = cc

-- a lease that is not read fits, and one that is read fits if it is whole
pub unread_fits : (state : ClientState) (lease : DhcpLease) → has_lease state ≡ false → lease_fits state lease ≡ true
unfolding lease_fits
unread_fits state lease e = sym (if_false _ e refl)

pub read_fits : (state : ClientState) (lease : DhcpLease) → has_lease state ≡ true → whole_lease lease ≡ true → lease_fits state lease ≡ true
unfolding lease_fits
read_fits state lease e h = sym (if_true _ e (sym h))

pub parts_whole : (c : Client) → refusal_of c.settings ≡ None → lease_fits c.session.state c.lease ≡ true → whole_client c ≡ true
unfolding whole_client
parts_whole c e h = rw e h

pub all_whole : (c : Client) (t : Tables) → whole_client c ≡ true → whole_tables t ≡ true → whole_all c t ≡ true
unfolding whole_all
all_whole c t h k = sym (if_true false h (sym k))

pub all_parts : (c : Client) (t : Tables) → whole_all c t ≡ true → (whole_client c ≡ true) × (whole_tables t ≡ true)
unfolding whole_all
all_parts c t h = both_true (whole_client c) h

-- by the two tests
both_tests : (a b : Bool) → a && b ≡ (when a then b else false)
unfolding when◌then◌else◌
both_tests true b = refl
both_tests false b = refl

pub tested : (c : Client) (t : Tables) {a b : Bool} → a ≡ whole_client c → b ≡ whole_tables t → a && b ≡ whole_all c t
unfolding whole_all
tested c t {a} {b} e f = both_tests a b ∙ ap (λ x. when x then b else false) e ∙ ap (λ x. when whole_client c then x else false) f

-- Settings that nothing refuses get a client, and it is whole.
pub unrefused_whole : (s : Settings) (ignoring : Bool) → refusal_of s ≡ None → (created s ignoring ≡ Ok (fresh s ignoring)) × (whole_client (fresh s ignoring) ≡ true)
unfolding created
unrefused_whole s ignoring e = (rw e refl, parts_whole (fresh s ignoring) e (unread_fits Init no_lease refl))

-- Creation returns a whole client.
pub created_whole : (s : Settings) (ignoring : Bool) {c : Client} → created s ignoring ≡ Ok c → whole_client c ≡ true
unfolding created
created_whole s ignoring = by (refusal_of s) refl
  where
    by : (m : Option Refusal) → refusal_of s ≡ m → {c : Client} → created_or m s ignoring ≡ Ok c → whole_client c ≡ true
    by None e {c} h =
        let same : fresh s ignoring ≡ c = cc in
        subst (λ (x : Client). whole_client x ≡ true) same (unrefused_whole s ignoring e).1
    by (Some reason) e h = cc

abbrev pub Whole : Settled Bool → Type 0
Whole s = whole_all s.client s.tables ≡ true

module _ (c : Client) (t : Tables) (h : whole_all c t ≡ true) where
  sound : refusal_of c.settings ≡ None
  sound = settings_whole c (all_parts c t h).0

  tables_whole : whole_tables t ≡ true
  tables_whole = (all_parts c t h).1

  pub cleared_whole : Whole (cleared c t)
  unfolding cleared all
  cleared_whole = if_cases Whole (has_lease c.session.state) (λ e. gone) (λ e. over)
    where
      over : Whole (restarted c t)
      over = all_whole (restarted c t).client t (parts_whole (restarted c t).client sound (unread_fits Init c.lease refl)) tables_whole

      gone : Whole (dropped c t)
      gone = all_whole (dropped c t).client (dropped c t).tables (parts_whole (dropped c t).client sound (unread_fits Init no_lease refl)) (whole_applied t nothing (installed c.lease) refl tables_whole)

  held_whole : (state : ClientState) (held lease : DhcpLease) → holds state held lease ≡ true → lease_fits state held ≡ true → whole_lease held ≡ true
  unfolding holds lease_fits
  held_whole state held lease e f = if_true true (both_true (has_lease state) e).0 refl ∙ f

  acked_whole : (reply : List ℕ) (moment : Instant) (ack : Acked) → ack.prefix ≤ 32 → Whole (acked c t reply moment ack)
  unfolding acked acked_as bound_by all
  acked_whole reply moment ack p = if_cases Whole (holds c.session.state c.lease (ack_lease c reply ack)) same other
    where
      state : ClientState
      state = bound_by c.settings reply moment

      session : Session
      session = in_state c.session state

      lease : DhcpLease
      lease = ack_lease c reply ack

      fits : whole_lease lease ≡ true
      fits = lease_whole (server_of c.session.state c.lease ack.server) ack.address ack.prefix reply p

      same : holds c.session.state c.lease lease ≡ true → Whole (record { client = with_session c session; tables = t; outcome = false })
      same e = all_whole (with_session c session) t (parts_whole (with_session c session) sound (read_fits state c.lease refl (held_whole c.session.state c.lease lease e (lease_fits_lem c (all_parts c t h).0)))) tables_whole

      other : holds c.session.state c.lease lease ≡ false → Whole (entered c t session lease)
      other e =
          all_whole (entered c t session lease).client (entered c t session lease).tables (parts_whole (entered c t session lease).client sound (read_fits state lease refl fits))
          (whole_applied t (installed lease) (held_by c.session.state c.lease) (all_takes addr_fits (leased_addr ack.address ack.prefix) [] (le-leb _ _ p)) tables_whole)

  reply_whole : (reply : List ℕ) (moment : Instant) (v : Result Verdict PassedOver) → Fits v → whole_all (replied c t reply moment v).client (replied c t reply moment v).tables ≡ true
  unfolding replied
  reply_whole reply moment (Ok (Offer o)) f = all_whole (offered c t moment o).client t (parts_whole (offered c t moment o).client sound (unread_fits (offered c t moment o).client.session.state c.lease refl)) tables_whole
  reply_whole reply moment (Ok (Ack a)) f = acked_whole reply moment a f
  reply_whole reply moment (Ok Nak) f = cleared_whole
  reply_whole reply moment (Err n) f = h

  -- A reply of any bytes, from any source, at any moment.
  pub processed_whole : (source : ℕ) (reply : List ℕ) (moment : Instant)
      → whole_all (processed c t source reply moment).client (processed c t source reply moment).tables ≡ true
  unfolding processed
  processed_whole source reply moment =
      if_cases (λ (p : Processed). whole_all p.client p.tables ≡ true) (not (whole_all c t)) (λ e. h)
      (λ e. reply_whole reply moment (judged (recipient_of c) source reply) (judged_fits (recipient_of c) source reply))

  -- A reset.
  pub reset_whole : whole_all (was_reset c t).client (was_reset c t).tables ≡ true
  unfolding was_reset
  reset_whole = if_cases (λ (r : WasReset). whole_all r.client r.tables ≡ true) (not (whole_all c t)) (λ e. h) (λ e. cleared_whole)
