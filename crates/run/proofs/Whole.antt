-- Our calls meet demand 3. Assumes nothing.
use Rattle.std.proofs.Common.{Option, None, Some, Ok, Result}
use Prim.Native.Nat.{ℕ, ◌+◌, ◌-◌, ◌<◌}
use mathlib.Core.Path.{◌≡◌, refl, sym, ap, ◌∙◌, subst, subst⁻¹}
use mathlib.Core.Bool.{Bool, true, false, false≢true}
use mathlib.Core.List.{List, [], ◌∷◌}
use native.Mathlib.Omega.{arith}
use native.Mathlib.Nat.{add-zero}
use Rattle.clock.specs.Moments.{wrap, plus, gap, moment}
use Rattle.clock.specs.Waits.{standard_waits}
use Rattle.clock.specs.declared.instant.Instant.{Instant}
use Rattle.clock.specs.declared.rand.Rand.{Rand}
use Rattle.clock.specs.declared.waits.Waits.{Waits}
use Rattle.choice.proofs.Choices.{if_false}
use Rattle.clock.proofs.MomentLaws.{plus_near, gap_near}
use Rattle.machine.specs.Decisions.{InRange}
use Rattle.machine.proofs.Timers.{Timers, unset, Shows, init, Ahead, soonest_ahead, wake_at}
use Rattle.tables.specs.Tables.{dhcp_addrs, dhcp_routes, whole_tables}
use Rattle.tables.specs.declared.tables.Tables.{Tables}
use Rattle.settings.specs.Settings.{refusal_of}
use Rattle.lease.specs.Leases.{nothing}
use Rattle.client.specs.Clients.{fresh, created_or, created, whole_all}
use Rattle.client.specs.Taken.{held_by}
use Rattle.message.specs.declared.datagram.Endpoints.{Endpoints}
use Rattle.client.specs.Polls.{PolledInto, datagram_of, built_into, polled_with}
use Rattle.sending.specs.Sendings.{endpoints_of}
use Rattle.settings.specs.declared.settings.Settings.{Settings}
use Rattle.client.specs.declared.client.Client.{Client}
use Rattle.client.specs.declared.poll.PollAnswer.{PollAnswer}
use Rattle.client.proofs.Wholes.{created_whole, all_whole}
use Rattle.client.proofs.Effects.{gives}
use Rattle.client.proofs.Polling.{moved_whole}
use Rattle.run.specs.Calls.{Post, wake_of, calls_with, calls}
use Rattle.run.specs.Demand3.{Entry, moment_after, poll_tells, CameTo, Polls, Does, Answers, IfPolls, leaves, tells, comes, adds, came_to, told, History, noted_all, Lost, lost_all, older, Run, next, start, Throughout, Since, never, later, is_polled, in_time, counted, Timely, Wakes, AfterPoll, After, Demand3}
use Rattle.run.proofs.Answers.{is_answered}
use Rattle.run.proofs.Polls.{Outcome as Polls-to, refuses, idles, moves, outcome}
use Rattle.run.proofs.Agreement.{Timing, in_time_lem, late, timing, lease_is, fitting}
use Rattle.run.proofs.Entries.{lost_none}
use Rattle.run.proofs.Invariant.{Inv, inv_later, poll_step}
use Rattle.run.proofs.Waking.{wakes}
use Rattle.run.proofs.Sorted.{Sorted, polls, does, answers, sorted}
use Rattle.run.proofs.Lawful.{Sound}
use Rattle.run.proofs.Deeds.{lawful}
use Rattle.run.proofs.Open.{open_from}
use Rattle.reasons.specs.declared.refusal.Refusal.{Refusal}

-- AFTER A POLL THAT WAS NOT REFUSED, at t
record Rested (t : ℕ) (c : Client) (tb : Tables) (a : PollAnswer) : Type 0 where
  x : Timers
  shows : Shows x c.session.state
  ahead : Ahead t x
  whole : whole_all c tb ≡ true
  wake_is : a.wake ≡ moment (wrap (wake_at t x))

built_wake : (b : List ℕ) (ends : Endpoints) (out : List ℕ) (m : Instant) → (built_into b ends out m).wake ≡ m
built_wake [] ends out m = refl
built_wake (y ∷ ys) ends out m = refl

module _ (w : Waits) (z : InRange w) where
  module _ (s : Settings) (gp : Since) (t : ℕ) (c : Client) (tb : Tables) (g : Rand) (h : History) (lost : Lost) (i : Inv s gp t c tb h lost) (b : List ℕ) where
    abbrev Rests : PolledInto → Type 0
    Rests r = (a : PollAnswer) → r.polled.outcome ≡ Ok a → Rested t r.polled.client r.polled.tables a

    rested_by : {x : Timers} {r : PolledInto} → Polls-to c tb g b t x r → Shows x c.session.state → Rests r
    rested_by refuses sh a e = absurd (false≢true (ap is_answered e))
    rested_by {x} (idles q l v) sh a e = record { x = x; shows = sh; ahead = l; whole = v; wake_is = sym (ap wake_of e) ∙ ap moment q }
    rested_by (moves {m = m} {s = k} x' q go sh' l u v) sh a e =
        record {
          x = x';
          shows = sh';
          ahead = l;
          whole = moved_whole c tb v g b (moment m) k (fitting sh go c refl);
          wake_is = sym (ap wake_of e) ∙ built_wake b (endpoints_of c.lease k) (datagram_of c g k) (moment m) ∙ ap moment q;
        }

    rests : in_time true gp → Rests (polled_with w c tb g (moment (wrap t)) b)
    rests l = by (timing gp t i.x i.dated)
      where
        by : Timing gp t i.x → Rests (polled_with w c tb g (moment (wrap t)) b)
        by (in_time_lem n) = rested_by (outcome c tb g b w z t i.x i.shows n) i.shows
        by (late f) = absurd (f l)

  rested_wakes : (s : Settings) (t : ℕ) (p : Post) (a : PollAnswer) → p.now ≡ moment (wrap t) → p.client.settings ≡ s → Rested t p.client p.tables a
      → Wakes (calls_with w) s p (gap a.wake.millis p.now.millis)
  rested_wakes s t p a e f r =
      subst (λ (k : Settings). Wakes (calls_with w) k p (gap a.wake.millis p.now.millis)) f
      (subst⁻¹ (Wakes (calls_with w) p.client.settings p) distance
      (subst⁻¹ (λ (q : Post). Wakes (calls_with w) p.client.settings q (wake_at t r.x - t)) here
      (wakes w z p.client p.tables p.rand t (wake_at t r.x - t) r.x r.shows r.ahead r.whole (omega (arith, later_on)) (omega (arith, later_on)))))
    where
      later_on : t < wake_at t r.x
      later_on = omega (arith, soonest_ahead t r.x r.ahead)

      distance : gap a.wake.millis p.now.millis ≡ wake_at t r.x - t
      distance = rw (r.wake_is, e) (gap_near (wake_at t r.x) t (omega (arith, later_on)) (omega arith))

      here : p ≡ record { client = p.client; tables = p.tables; rand = p.rand; now = moment (wrap (t + 0)) }
      here = ap (λ (m : Instant). record { client = p.client; tables = p.tables; rand = p.rand; now = m }) (e ∙ ap (λ (n : ℕ). moment (wrap n)) (sym (add-zero t)))

  -- ALONG THE RUN
  record RunInv (s : Settings) (gp : Since) (r : Run) : Type 0 where
    t : ℕ
    now_is : r.post.now ≡ moment (wrap t)
    inv : Inv s gp t r.post.client r.post.tables r.history r.lost

  -- What is shown of a call that came to x, at t: the invariant again, and what a poll that is not refused leaves.
  module _ (s : Settings) (r : Run) (gp : Since) (t : ℕ) (h : History) where
    abbrev Holds : Instant → CameTo → Type 0
    Holds now x =
        Inv s (counted (is_polled (tells x)) gp) t (leaves r.post now x).client (leaves r.post now x).tables
        (noted_all (tells x) h) (lost_all r.post.tables (tells x) h r.lost)

    abbrev RestsIf : CameTo → Type 0
    RestsIf x = IfPolls (λ b left. (a : PollAnswer) → left.polled.outcome ≡ Ok a → Rested t left.polled.client left.polled.tables a) x

    Shown : Instant → CameTo → Type 0
    Shown now x = in_time (is_polled (tells x)) gp → Holds now x × RestsIf x

    shown : Inv s gp t r.post.client r.post.tables h r.lost → {x : CameTo} → Sorted w s r.post.client r.post.tables r.post.rand (moment (wrap t)) x → Shown (moment (wrap t)) x
    unfolding Shown
    shown i (polls b) = λ l. (
      poll_step s gp t r.post.client r.post.tables r.post.rand h r.lost i w z b l,
      λ a e. rests s gp t r.post.client r.post.tables r.post.rand h r.lost i b (subst (λ (o : Result PollAnswer Refusal). in_time (is_polled (poll_tells o)) gp) e l) a e,
    )
    shown i (does d) = λ l. ((lawful w s d).steps r.post gp t h r.lost i, tt)
    shown i answers = λ l. (i, tt)

  module _ (s : Settings) (r : Run) (gp : Since) (v : RunInv s gp r) (e : Entry) where
    abbrev y : ℕ
    y = adds (calls_with w) s r.post e

    abbrev on : ℕ
    on = v.t + y

    moment_is : moment_after r.post y ≡ moment (wrap on)
    moment_is = ap (λ (m : Instant). moment (plus m.millis y)) v.now_is ∙ ap moment (plus_near v.t y)

    shown_here : Shown s r (later y gp) on (older y r.history) (moment_after r.post y) (came_to (calls_with w) s r.post e)
    shown_here =
        subst⁻¹ (λ (m : Instant). Shown s r (later y gp) on (older y r.history) m (comes (calls_with w) s r.post.client r.post.tables r.post.rand m e.call)) moment_is
        (shown s r (later y gp) on (older y r.history) (inv_later s gp v.t y r.post.client r.post.tables r.history r.lost v.inv)
        (sorted w s r.post.client r.post.tables r.post.rand (moment (wrap on)) e.call))

    module _ (l : in_time (is_polled (told (calls_with w) s r.post e)) (later y gp)) where
      inv_next : RunInv s (counted (is_polled (told (calls_with w) s r.post e)) (later y gp)) (next (calls_with w) s r e)
      unfolding Shown
      inv_next = record { t = on; now_is = leaves_now (came_to (calls_with w) s r.post e) ∙ moment_is; inv = (shown_here l).0 }
        where
          leaves_now : (x : CameTo) → (leaves r.post (moment_after r.post y) x).now ≡ moment_after r.post y
          leaves_now (Polls b left) = refl
          leaves_now (Does d left) = refl
          leaves_now Answers = refl

      abbrev PollsWell : CameTo → Type 0
      PollsWell x =
          IfPolls (λ b left. (a : PollAnswer) → left.polled.outcome ≡ Ok a → AfterPoll (calls_with w) s (next (calls_with w) s r e) a) x

      after_polls : (x : CameTo) → came_to (calls_with w) s r.post e ≡ x → RestsIf s r (later y gp) on (older y r.history) x → PollsWell x
      unfolding inv_next
      after_polls (Polls b left) is f = λ a q.
          let post_is : (next (calls_with w) s r e).post ≡ leaves r.post (moment_after r.post y) (Polls b left) = ap (leaves r.post (moment_after r.post y)) is in
          record {
            lease = lease_is inv_next.t (next (calls_with w) s r e).history inv_next.inv.x (next (calls_with w) s r e).post.client.session.state inv_next.inv.shows inv_next.inv.agrees;
            wakes =
                rested_wakes s on (next (calls_with w) s r e).post a inv_next.now_is inv_next.inv.settings_are
                (subst⁻¹ (λ (p : Post). Rested on p.client p.tables a) post_is (f a q));
          }
      after_polls (Does d left) is f = tt
      after_polls Answers is f = tt

      after_entry : After (calls_with w) s r e
      unfolding Shown
      after_entry =
          record {
            tables = record { addrs = inv_next.inv.tab.addrs; routes = inv_next.inv.tab.routes };
            polls = after_polls (came_to (calls_with w) s r.post e) refl (shown_here l).1;
          }

  owed_from : (s : Settings) (es : List Entry) (r : Run) (gp : Since) → RunInv s gp r → Timely (calls_with w) s gp r es → Throughout (calls_with w) s (After (calls_with w) s) r es
  owed_from s [] r gp v h = tt
  owed_from s (e ∷ es) r gp v h = (after_entry s r gp v e h.0, owed_from s es (next (calls_with w) s r e) _ (inv_next s r gp v e h.0) h.1)

-- A FRESH CLIENT
-- creation gives one, with settings that 1 to 7 don't refuse
created_fresh : (s : Settings) (ignoring : Bool) {c : Client} → created s ignoring ≡ Ok c → c ≡ fresh s ignoring
unfolding created
created_fresh s ignoring = by (refusal_of s)
  where
    by : (m : Option Refusal) {c : Client} → created_or m s ignoring ≡ Ok c → c ≡ fresh s ignoring
    by None e = cc
    by (Some reason) e = cc

gives_nothing : (s : Settings) (ignoring : Bool) → gives (fresh s ignoring) ≡ nothing
unfolding held_by
gives_nothing s ignoring = sym (if_false _ refl refl)

fresh_inv : (w : Waits) (z : InRange w) (s : Settings) (ignoring : Bool) (t : Tables) → dhcp_addrs t ≡ [] → dhcp_routes t ≡ [] → (rand : Rand) (m : ℕ)
    → RunInv w z s never (start (fresh s ignoring) t rand m)
fresh_inv w z s ignoring t a r rand m =
    record {
      t = m;
      now_is = refl;
      inv =
          record {
            x = unset;
            shows = init;
            dated = tt;
            agrees = tt;
            settings_are = refl;
            given_is = gives_nothing s ignoring;
            tab = record { addrs = a ∙ sym (lost_none false); routes = r ∙ sym (lost_none false) };
          };
    }

pub owed : (w : Waits) → InRange w → (s : Settings) (ignoring : Bool) (c : Client) → created s ignoring ≡ Ok c
    → (t : Tables) → dhcp_addrs t ≡ [] → dhcp_routes t ≡ [] → (rand : Rand) (m : ℕ) (es : List Entry)
    → Timely (calls_with w) s never (start c t rand m) es
    → Throughout (calls_with w) s (After (calls_with w) s) (start c t rand m) es
owed w z s ignoring c e t a r rand m es h =
    owed_from w z s es (start c t rand m) never
    (subst⁻¹ (λ (x : Client). RunInv w z s never (start x t rand m)) (created_fresh s ignoring e) (fresh_inv w z s ignoring t a r rand m)) h

fresh_sound : (s : Settings) (ignoring : Bool) {c : Client} → created s ignoring ≡ Ok c → (t : Tables) → whole_tables t ≡ true → (rand : Rand) (m : ℕ)
    → Sound s (start c t rand m).post
fresh_sound s ignoring {c} e t h rand m =
    record {
      whole = all_whole c t (created_whole s ignoring e) h;
      settings_are = ap (λ (x : Client). x.settings) (created_fresh s ignoring e);
    }

-- DEMAND 3, with the waits as variables within request (g)'s ranges, and with document 01's own.
pub demand3_with : (w : Waits) → InRange w → Demand3 (calls_with w)
demand3_with w z =
    record {
      owed = owed w z;
      no_lockout = λ s ignoring c e t h rand m es. open_from w s es (start c t rand m) (fresh_sound s ignoring e t h rand m);
    }

standard_in_range : InRange standard_waits
unfolding standard_waits
standard_in_range =
    record {
      discover_least = omega arith;
      discover_most = omega arith;
      request_least = omega arith;
      request_most = omega arith;
      tries_least = omega arith;
      tries_most = omega arith;
      renew_least = omega arith;
      renew_most = omega arith;
    }

pub demand3 : Demand3 calls
demand3 = demand3_with standard_waits standard_in_range
