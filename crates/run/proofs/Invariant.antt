-- What holds all along a run of our calls, and that each call keeps it. Assumes nothing.
use Rattle.std.proofs.Common.{Option}
use Prim.Native.Nat.{ℕ, ◌+◌, ◌≤◌, ◌<◌}
use mathlib.Core.Path.{◌≡◌, refl, sym, ap, ◌∙◌, subst, subst⁻¹}
use mathlib.Core.Bool.{true, false, false≢true}
use mathlib.Core.List.{List, [], ◌∷◌}
use native.Mathlib.Omega.{arith}
use Rattle.clock.specs.Durations.{longest}
use Rattle.clock.specs.Moments.{wrap, moment}
use Rattle.clock.specs.declared.instant.Instant.{Instant}
use Rattle.clock.specs.declared.rand.Rand.{Rand}
use Rattle.clock.specs.declared.waits.Waits.{Waits}
use Rattle.choice.proofs.Choices.{if_true, if_false}
use Rattle.clock.proofs.MomentLaws.{plus_near}
use Rattle.octets.specs.Codes.{lease_time_code, renewal_code, rebinding_code}
use Rattle.wire.specs.Options.{option_data}
use Rattle.wire.specs.Readings.{seconds_of, router}
use Rattle.machine.specs.States.{has_lease}
use Rattle.machine.specs.Times.{given, times_of, renew_after, rebind_after}
use Rattle.machine.specs.Decisions.{following, InRange}
use Rattle.machine.specs.declared.state.ClientState.{ClientState}
use Rattle.machine.specs.declared.state.ClientState.TheVariants.{Discovering, Requesting, Renewing}
use Rattle.machine.specs.declared.decide.Sending.{Sending}
use Rattle.machine.proofs.Timers.{Timers, leased, Shows, renewing, Dated, Ahead, ahead_dated}
use Rattle.machine.proofs.Decisions.{Goes, discovers_from, requests_again, renews}
use Rattle.machine.proofs.Bounds.{lease_most, row_nearer}
use Rattle.tables.specs.Tables.{dhcp_addrs, dhcp_routes}
use Rattle.tables.specs.declared.tables.Tables.{Tables}
use Rattle.tables.specs.declared.apply.Cidr.{Cidr}
use Rattle.tables.specs.declared.apply.Installed.{Installed}
use Rattle.settings.specs.Settings.{maximum_of}
use Rattle.lease.specs.Leases.{nothing}
use Rattle.lease.specs.Bound.{reply_lease, reply_row, bound_by}
use Rattle.client.specs.Taken as taken
use Rattle.client.specs.Polls.{PolledInto, moved, polled_with}
use Rattle.settings.specs.declared.settings.Settings.{Settings}
use Rattle.client.specs.declared.client.Client.{Client}
use Rattle.client.proofs.Effects.{Entered, gives, Settles, Given, Fitting, moved_settles}
use Rattle.client.proofs.Polling.{polled_cases}
use Rattle.run.specs.Demand3.{given_by, Event, Acked, Cleared, poll_tells, Done, History, NoAck, Held, older, expired, noted_all, is_held, held_by, Lost, lost_by, lost_all, Since, since, later, is_polled, in_time, counted}
use Rattle.run.proofs.Polls.{Outcome, refuses, idles, moves, outcome}
use Rattle.run.proofs.Agreement.{agree_later, agree_same, dated_by_later, Timing, timing, Began, dated_anew, Leaseless, leaseless_timers, leaseless_shows, leaseless_dated, leaseless_agrees, leaseless_none, lease_is, held_on, none_held, ahead_held, fitting, Agree, DatedBy, in_time_lem, late}
use Rattle.run.proofs.Entries.{Tab, tab_kept, tab_none, tab_acked}
use Rattle.reasons.specs.declared.refusal.Refusal.{Refusal}

-- At t, gp after the last poll that was not refused.
pub record Inv (s : Settings) (gp : Since) (t : ℕ) (c : Client) (tb : Tables) (h : History) (lost : Lost) : Type 0 where
  pub x : Timers
  pub shows : Shows x c.session.state
  pub dated : DatedBy gp t x
  pub agrees : Agree t h x
  pub settings_are : c.settings ≡ s
  pub given_is : gives c ≡ held_by h
  pub tab : Tab tb lost (held_by h)

held_older : (y : ℕ) (h : History) → held_by (older y h) ≡ held_by h
held_older y NoAck = refl
held_older y (Held l age i) = refl

pub inv_later : (s : Settings) (gp : Since) (t y : ℕ) (c : Client) (tb : Tables) (h : History) (lost : Lost) → Inv s gp t c tb h lost → Inv s (later y gp) (t + y) c tb (older y h) lost
inv_later s gp t y c tb h lost i =
    record {
      x = i.x;
      shows = i.shows;
      dated = dated_by_later y gp t i.x i.dated;
      agrees = agree_later y t h i.x i.agrees;
      settings_are = i.settings_are;
      given_is = i.given_is ∙ sym (held_older y h);
      tab = rw (held_older y h) i.tab;
    }

-- what an ACK gives is what its bytes say
given_by_lem : (bytes : List ℕ) (i : Installed) → Given bytes i → i ≡ given_by bytes
given_by_lem bytes i g =
    let r = g.reads in
    g.is ∙ ap (λ (m : Option Cidr). record { address = m; router = router bytes }) (sym (rw (r.address_is, r.masked, r.prefix_is) refl))

module _ (s : Settings) (gp : Since) (t : ℕ) (c : Client) (tb : Tables) (g : Rand) (h : History) (lost : Lost) (i : Inv s gp t c tb h lost) where
  -- What is owed of a call that leaves c' and tb' and tells the history of these events.
  abbrev pub Step : List Event → Client → Tables → Type 0
  Step vs c' tb' = Inv s (counted (is_polled vs) gp) t c' tb' (noted_all vs h) (lost_all tb vs h lost)

  -- the lease stays, or is gone
  goes_on : (x' : Timers) {c' : Client} {tb' : Tables} (gp' : Since) → Shows x' c'.session.state → DatedBy gp' t x' → Agree t h x' → Settles c tb c' tb' → gives c' ≡ gives c → Inv s gp' t c' tb' h lost
  goes_on x' {c'} {tb'} gp' sh d a n e =
      record {
        x = x';
        shows = sh;
        dated = d;
        agrees = a;
        settings_are = n.settings ∙ i.settings_are;
        given_is = e ∙ i.given_is;
        tab = tab_kept tb tb' lost (held_by h) (subst (λ (k : Installed). Entered tb tb' k k) i.given_is (subst (Entered tb tb' (gives c)) e n.entries)) i.tab;
      }

  ends : (x' : Timers) {c' : Client} {tb' : Tables} (gp' : Since) → Shows x' c'.session.state → DatedBy gp' t x' → Agree t NoAck x' → Settles c tb c' tb' → gives c' ≡ nothing → Inv s gp' t c' tb' NoAck lost
  ends x' {c'} {tb'} gp' sh d a n e =
      record {
        x = x';
        shows = sh;
        dated = d;
        agrees = a;
        settings_are = n.settings ∙ i.settings_are;
        given_is = e;
        tab = tab_none tb tb' lost (held_by h) (subst (λ (k : Installed). Entered tb tb' k nothing) i.given_is (subst (Entered tb tb' (gives c)) e n.entries)) i.tab;
      }

  -- by the state it is seen what a client gives without a lease
  gives_none : (c' : Client) (state : ClientState) → c'.session.state ≡ state → has_lease state ≡ false → gives c' ≡ nothing
  unfolding taken.held_by
  gives_none c' state e f = sym (if_false _ (ap has_lease e ∙ f) refl)

  -- A POLL
  abbrev PollStep : PolledInto → Type 0
  PollStep r = in_time (is_polled (poll_tells r.polled.outcome)) gp → Step (poll_tells r.polled.outcome) r.polled.client r.polled.tables

  gives_same : (state : ClientState) → has_lease c.session.state ≡ true → has_lease state ≡ true → taken.held_by state c.lease ≡ gives c
  unfolding taken.held_by
  gives_same state e f = sym (if_true _ f refl) ∙ if_true _ e refl

  module _ (b : List ℕ) where
    moved_step : {x x' : Timers} {m : Sending} (now : Instant) → Goes t x m x' → Fitting c m → Agree t h x → Shows x' (following m) → Ahead t x'
        → Inv s (since 0) t (moved c tb g b now m).polled.client (moved c tb g b now m).polled.tables (expired h) lost
    moved_step {x} {x'} {m} now (discovers_from {s = d} o) f k sh a =
        rw (none_held t h x k o)
        (ends x' (since 0) sh (ahead_dated t x' a) tt (moved_settles c tb g b now m f) (gives_none (moved c tb g b now m).polled.client (Discovering d) refl refl))
    moved_step {x} {x'} {m} now (requests_again {s = d}) f k sh a =
        rw (none_held t h x k tt)
        (ends x' (since 0) sh (ahead_dated t x' a) tt (moved_settles c tb g b now m f) (gives_none (moved c tb g b now m).polled.client (Requesting d) refl refl))
    moved_step {x} {x'} {m} now (renews {a = p} {b = q} {e = e} {a' = p'} {b' = q'} {g = v} {g' = v'} {s = d} l) f k sh a =
        rw (held_on t h p q e v k l)
        (goes_on x' (since 0) sh (ahead_dated t x' a) (agree_same t h p q e v p' q' v' k) (moved_settles c tb g b now m f) (gives_same (Renewing d) f refl))

    by_outcome : {x : Timers} {r : PolledInto} → Outcome c tb g b t x r → Shows x c.session.state → Agree t h x → PollStep r
    unfolding lost_by
    by_outcome refuses sh k l = i
    by_outcome {x} (idles e a v) sh k l =
        let q = ahead_held t h x k a in
        rw q
        (record {
          x = x;
          shows = sh;
          dated = ahead_dated t x a;
          agrees = k;
          settings_are = i.settings_are;
          given_is = i.given_is;
          tab = i.tab;
        })
    by_outcome (moves {m} x' e go sh a p v) old k l = moved_step (moment m) go (fitting old go c refl) k sh a

  pub poll_step : (w : Waits) → InRange w → (b : List ℕ) → PollStep (polled_with w c tb g (moment (wrap t)) b)
  poll_step w z b = by (timing gp t i.x i.dated)
    where
      by : Timing gp t i.x → PollStep (polled_with w c tb g (moment (wrap t)) b)
      by (in_time_lem n) = by_outcome b (outcome c tb g b w z t i.x i.shows n) i.shows i.agrees
      by (late f) = polled_cases c tb g b PollStep (λ n l. i) (λ m l. absurd (f l)) (λ m q l. absurd (f l)) w (moment (wrap t))

  -- A DEED, sorted by what it is to the run.
  abbrev lease : List ℕ → ℕ
  lease bytes = reply_lease (maximum_of s) bytes

  pub data Effect : Done → Type 0 where
    -- the client as it was, and DHCP's entries
    keeps : {r : Done} → r.tells ≡ [] → r.client ≡ c → dhcp_addrs r.tables ≡ dhcp_addrs tb → dhcp_routes r.tables ≡ dhcp_routes tb → Effect r
    -- from no lease to no lease, as an OFFER
    goes : {r : Done} → r.tells ≡ [] → has_lease c.session.state ≡ false → Leaseless gp t r.client.session.state → Settles c tb r.client r.tables → Effect r
    -- from any state to no lease, as a NAK or a reset
    clears : {r : Done} → r.tells ≡ Cleared ∷ [] → Leaseless gp t r.client.session.state → Settles c tb r.client r.tables → Effect r
    -- an ACK
    binds : {r : Done} (bytes : List ℕ) → r.tells ≡ Acked (lease bytes) (given_by bytes) ∷ [] → Began gp → r.client.session.state ≡ bound_by c.settings bytes (moment (wrap t))
        → Given bytes (gives r.client) → Settles c tb r.client r.tables → Effect r

  no_lease_lem : has_lease c.session.state ≡ false → h ≡ NoAck
  no_lease_lem e = by h (sym (lease_is t h i.x c.session.state i.shows i.agrees) ∙ e)
    where
      by : (h : History) → is_held h ≡ false → h ≡ NoAck
      by NoAck f = refl
      by (Held l age k) f = absurd (false≢true (sym f))

  frees : {c' : Client} {tb' : Tables} → Leaseless gp t c'.session.state → Settles c tb c' tb' → Inv s gp t c' tb' NoAck lost
  frees {c'} n v =
      ends (leaseless_timers n) gp (leaseless_shows n) (leaseless_dated n) (leaseless_agrees n) v (gives_none c' c'.session.state refl (leaseless_none n))

  abbrev bound : List ℕ → Timers
  bound bytes = leased (t + renew_after (reply_row bytes (lease bytes)) (lease bytes)) (t + rebind_after (reply_row bytes (lease bytes)) (lease bytes)) (t + lease bytes) false

  bound_is : (bytes : List ℕ) → Shows (bound bytes) (bound_by s bytes (moment (wrap t)))
  unfolding bound_by times_of
  bound_is bytes = renewing (plus_near t _) (plus_near t _) (plus_near t _)

  bound_dated : (bytes : List ℕ) (k : ℕ) → Dated k t (bound bytes)
  bound_dated bytes k =
      let l = lease_most (seconds_of (option_data lease_time_code bytes)) (maximum_of s) in
      let n = row_nearer (given (seconds_of (option_data renewal_code bytes))) (given (seconds_of (option_data rebinding_code bytes))) (lease bytes) l in
      by (renew_after (reply_row bytes (lease bytes)) (lease bytes)) (rebind_after (reply_row bytes (lease bytes)) (lease bytes)) (lease bytes) n.0 n.1 l
    where
      by : (a b l : ℕ) → a < longest → b < longest → l ≤ longest → Dated k t (leased (t + a) (t + b) (t + l) false)
      by a b l p q r = ((omega arith, omega arith), (omega arith, omega arith), (omega arith, omega arith))

  acks : (bytes : List ℕ) {c' : Client} {tb' : Tables} → Began gp → c'.session.state ≡ bound_by c.settings bytes (moment (wrap t)) → Given bytes (gives c') → Settles c tb c' tb'
      → Inv s gp t c' tb' (Held (lease bytes) 0 (given_by bytes)) (lost_by tb (Acked (lease bytes) (given_by bytes)) h lost)
  unfolding lost_by
  acks bytes {c'} {tb'} b e v n =
      let q = given_by_lem bytes (gives c') v in
      record {
        x = bound bytes;
        shows = subst⁻¹ (Shows (bound bytes)) (e ∙ ap (λ (k : Settings). bound_by k bytes (moment (wrap t))) i.settings_are) (bound_is bytes);
        dated = dated_anew gp t b (bound bytes) (bound_dated bytes);
        agrees = omega arith;
        settings_are = n.settings ∙ i.settings_are;
        given_is = q;
        tab =
            tab_acked tb tb' lost (lease bytes) h (given_by bytes)
            (subst (λ (k : Installed). Entered tb tb' k (given_by bytes)) i.given_is (subst (Entered tb tb' (gives c)) q n.entries))
            i.tab;
      }

  pub effect_step : {r : Done} → Effect r → Step r.tells r.client r.tables
  unfolding lost_by
  effect_step {r} (keeps e f a b) =
      subst⁻¹ (λ (vs : List Event). Step vs r.client r.tables) e
      (subst⁻¹ (λ (k : Client). Inv s gp t k r.tables h lost) f
      (record { x = i.x; shows = i.shows; dated = i.dated; agrees = i.agrees; settings_are = i.settings_are; given_is = i.given_is; tab = record { addrs = a ∙ i.tab.addrs; routes = b ∙ i.tab.routes } }))
  effect_step {r} (goes e l n v) =
      subst⁻¹ (λ (vs : List Event). Step vs r.client r.tables) e
      (subst⁻¹ (λ (k : History). Inv s gp t r.client r.tables k lost) (no_lease_lem l) (frees n v))
  effect_step {r} (clears e n v) = subst⁻¹ (λ (vs : List Event). Step vs r.client r.tables) e (frees n v)
  effect_step {r} (binds bytes e b f g v) = subst⁻¹ (λ (vs : List Event). Step vs r.client r.tables) e (acks bytes b f g v)
