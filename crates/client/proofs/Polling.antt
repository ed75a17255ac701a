-- A poll by its outcome: what is refused leaves all as it came; a message is no longer than the MTU allows, and a whole client
-- stays whole under it. Assumes nothing.
use Rattle.std.proofs.Common.{Option, None, Some, Result, Ok, Err}
use Prim.Native.Nat.{ℕ, ◌-◌, ◌≤◌, ◌<◌}
use mathlib.Core.Path.{◌≡◌, refl, sym, ap, ◌∙◌}
use mathlib.Core.Bool.{true, not}
use mathlib.Core.List.{List}
use lib.ListN.{length}
use Rattle.choice.proofs.Choices.{if_true, if_false, if_cases}
use Rattle.clock.specs.declared.instant.Instant.{Instant}
use Rattle.clock.specs.declared.rand.Rand.{Rand}
use Rattle.clock.specs.declared.waits.Waits.{Waits}
use Rattle.machine.specs.States.{has_lease}
use Rattle.machine.specs.Decisions.{decided}
use Rattle.machine.specs.declared.state.ClientState.TheVariants.{Discovering, Requesting, Renewing}
use Rattle.machine.specs.declared.decide.Sending.{Sending}
use Rattle.machine.specs.declared.decide.Sending.TheVariants.{Discover, Request, Renew}
use Rattle.tables.specs.declared.tables.Tables.{Tables}
use Rattle.lease.specs.Leases.{whole_lease}
use Rattle.sending.proofs.Sendings.{datagram_fits as message-fits}
use Rattle.client.specs.Clients.{with_session, lease_fits, whole_client, whole_all}
use Rattle.client.specs.Resets.{cleared}
use Rattle.client.specs.Polls.{PolledInto, id_of, datagram_of, awaiting, moved, refused_by, passed_by, too_short, sent, polled_as, polled_by, polled_with}
use Rattle.client.specs.declared.client.Client.{Client}
use Rattle.client.specs.declared.poll.PollAnswer.{PollAnswer}
use Rattle.client.proofs.Wholes.{settings_whole, lease_fits_lem, unread_fits, read_fits, parts_whole, all_whole, all_parts, cleared_whole}
use Rattle.client.proofs.Effects.{Fitting}
use Rattle.reasons.specs.declared.refusal.Refusal.{Refusal}
use Rattle.reasons.specs.declared.refusal.Refusal.TheVariants.{ShortBuffer, NotWhole}

module _ (c : Client) (t : Tables) (g : Rand) (b : List ℕ) where
  -- what holds of a refusal, of a poll with nothing due and of one that sends, holds of a poll
  pub sent_cases : (P : PolledInto → Type 0) → P (refused_by c t g b ShortBuffer) → (m : Instant) (s : Sending) → P (moved c t g b m s) → P (sent c t g b m s)
  unfolding sent
  sent_cases P r m s f = if_cases P (too_short b (length (datagram_of c g s))) (λ e. r) (λ e. f)

  pub polled_cases : (P : PolledInto → Type 0) → ((n : Refusal) → P (refused_by c t g b n)) → ((m : Instant) → P (passed_by c t g b m)) → ((m : Instant) (s : Sending) → P (moved c t g b m s))
      → (w : Waits) (now : Instant) → P (polled_with w c t g now b)
  unfolding polled_with
  polled_cases P r p f w now =
      if_cases P (not (whole_all c t)) (λ e. r NotWhole) (λ e. by (decided w c.session.state now.millis).due (decided w c.session.state now.millis).wake)
    where
      by : (d : Option Sending) (m : Instant) → P (polled_as c t g b m d)
      by None m = p m
      by (Some s) m = sent_cases P (r ShortBuffer) m s (f m s)

  -- The poll of a client and tables that are whole.
  pub polled_whole : whole_all c t ≡ true → (w : Waits) (now : Instant) → polled_with w c t g now b ≡ polled_by c t g b (decided w c.session.state now.millis)
  unfolding polled_with
  polled_whole h w now = sym (if_false _ (ap not h) refl)

  -- A poll that is refused leaves all as it came, the lent buffer too.
  pub poll_kept : (w : Waits) (now : Instant) (n : Refusal) → (polled_with w c t g now b).polled.outcome ≡ Err n
      → ((polled_with w c t g now b).polled.client ≡ c) × ((polled_with w c t g now b).polled.tables ≡ t) × ((polled_with w c t g now b).polled.rand ≡ g) × ((polled_with w c t g now b).buffer ≡ b)
  poll_kept w now n = polled_cases Kept (λ m e. (refl, refl, refl, refl)) (λ m e. absurd (answered e)) (λ m s e. absurd (answered e)) w now
    where
      Kept : PolledInto → Type 0
      Kept r = r.polled.outcome ≡ Err n → (r.polled.client ≡ c) × (r.polled.tables ≡ t) × (r.polled.rand ≡ g) × (r.buffer ≡ b)

      answered : {a : PollAnswer} → ◌≡◌ {A = Result PollAnswer Refusal} (Ok a) (Err n) → ⊥
      answered e = cc

-- A message has from 1 to MTU − 20 octets, the UDP header among them.
pub datagram_fits : (c : Client) → whole_client c ≡ true → (g : Rand) (s : Sending) → (0 < length (datagram_of c g s)) × (length (datagram_of c g s) ≤ c.settings.mtu - 20)
datagram_fits c h g s = message-fits c.settings (settings_whole c h) c.lease (id_of c g s) s

module _ (c : Client) (t : Tables) (h : whole_all c t ≡ true) (g : Rand) (buffer : List ℕ) (wake : Instant) where
  held_whole : has_lease c.session.state ≡ true → whole_lease c.lease ≡ true
  unfolding lease_fits
  held_whole e = if_true true e refl ∙ lease_fits_lem c (all_parts c t h).0

  -- A whole client that sends a message stays whole.
  pub moved_whole : (s : Sending) → Fitting c s → whole_all (moved c t g buffer wake s).polled.client (moved c t g buffer wake s).polled.tables ≡ true
  moved_whole (Discover s) f =
      let k = cleared_whole c t h in
      let p = all_parts (cleared c t).client (cleared c t).tables k in
      all_whole (with_session (cleared c t).client (awaiting (Discover s) (id_of c g (Discover s)))) (cleared c t).tables
      (parts_whole (with_session (cleared c t).client (awaiting (Discover s) (id_of c g (Discover s)))) (settings_whole (cleared c t).client p.0) (unread_fits (Discovering s) (cleared c t).client.lease refl)) p.1
  moved_whole (Request s) f =
      let p = all_parts c t h in
      all_whole (with_session c (awaiting (Request s) (id_of c g (Request s)))) t
      (parts_whole (with_session c (awaiting (Request s) (id_of c g (Request s)))) (settings_whole c p.0) (unread_fits (Requesting s) c.lease refl)) p.1
  moved_whole (Renew s) f =
      let p = all_parts c t h in
      all_whole (with_session c (awaiting (Renew s) (id_of c g (Renew s)))) t
      (parts_whole (with_session c (awaiting (Renew s) (id_of c g (Renew s)))) (settings_whole c p.0) (read_fits (Renewing s) c.lease refl (held_whole f))) p.1
