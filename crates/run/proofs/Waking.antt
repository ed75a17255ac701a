-- After a poll that was not refused: polls leave all as it is up to the waking moment, and there a message is due. Assumes
-- nothing.
use Prim.Native.Nat.{ℕ, ◌+◌, ◌≤◌, ◌<◌}
use mathlib.Core.Path.{◌≡◌, refl, sym, ap, ◌∙◌, subst⁻¹}
use mathlib.Core.Bool.{true}
use mathlib.Core.List.{List, [], ◌∷◌}
use native.Mathlib.Omega.{arith}
use native.Mathlib.Nat.{add-zero, zero-add, add_assoc}
use native.Mathlib.Decide.{dec_lt}
use lib.ListN.{length}
use Rattle.clock.specs.Moments.{wrap, moment}
use Rattle.clock.specs.Clocks.{day}
use Rattle.clock.specs.declared.instant.Instant.{Instant}
use Rattle.clock.specs.declared.rand.Rand.{Rand}
use Rattle.clock.specs.declared.waits.Waits.{Waits}
use Rattle.clock.proofs.MomentLaws.{plus_near}
use Rattle.machine.specs.Decisions.{decided, InRange}
use Rattle.machine.specs.declared.decide.Sending.{Sending}
use Rattle.machine.specs.declared.decide.Decision.{Decision}
use Rattle.machine.proofs.Timers.{Timers, Shows, Ahead, ahead_near, soonest, soonest_ahead, wake_at}
use Rattle.machine.proofs.Decisions.{Decides, nothing, sending, decides}
use Rattle.tables.specs.declared.tables.Tables.{Tables}
use Rattle.client.specs.Clients.{whole_all}
use Rattle.client.specs.Polls.{PolledInto, datagram_of, refused_by, passed_by, polled_by, polled_with}
use Rattle.client.specs.declared.client.Client.{Client}
use Rattle.client.proofs.Wholes.{all_parts}
use Rattle.client.proofs.Polling.{polled_whole, datagram_fits}
use Rattle.settings.specs.declared.settings.Settings.{Settings}
use Rattle.run.specs.Calls.{Post, Calls, Call, calls_with}
use Rattle.run.specs.Demand3.{Entry, moment_after, CameTo, IfPolls, IfDoes, leaves, comes, adds, came_to, stepped, OnlyPolls, after, total, Quiet, Enough, NoneAt, Builds, Owed, Wakes}
use Rattle.run.proofs.Polls.{enough_or_short, short_or_enough, Sends, sends_by}
use Rattle.run.proofs.Sorted.{Sorted, polls, does, answers, sorted}
use Rattle.reasons.specs.declared.refusal.Refusal.TheVariants.{ShortBuffer}

-- before a moment, none is at it
none_before : (k : Calls) (s : Settings) (n d u : ℕ) (p : Post) (es : List Entry) → u + total k s p es < d → NoneAt k s n d u p es
none_before k s n d u p [] h = tt
none_before k s n d u p (e ∷ es) h = (λ q. absurd (omega arith), none_before k s n d (u + adds k s p e) (stepped k s p e) es (omega arith))

-- The poll was at t, left the client c, the tables tb and the generator g, and wakes d on; x are the deadlines that it left.
module _ (w : Waits) (z : InRange w) (c : Client) (tb : Tables) (g : Rand) (t d : ℕ) (x : Timers)
    (sh : Shows x c.session.state) (ah : Ahead t x) (wh : whole_all c tb ≡ true) (hd : t + d ≡ wake_at t x) where
  abbrev k : Calls
  k = calls_with w

  abbrev s : Settings
  s = c.settings

  abbrev at_time : ℕ → Post
  at_time u = record { client = c; tables = tb; rand = g; now = moment (wrap (t + u)) }

  abbrev due_at : ℕ → Decision
  due_at u = decided w c.session.state (wrap (t + u))

  moment_on : (u y : ℕ) → moment_after (at_time u) y ≡ moment (wrap (t + (u + y)))
  moment_on u y = ap moment (plus_near (t + u) y ∙ ap wrap (add_assoc t u y))

  decides_at : (u : ℕ) → u ≤ d → Decides (t + u) x (due_at u)
  decides_at u l = decides w z (t + u) x c.session.state sh (ahead_near t (t + u) x ah (omega arith) (omega arith))

  poll_at : (u : ℕ) (b : List ℕ) → polled_with w c tb g (moment (wrap (t + u))) b ≡ polled_by c tb g b (due_at u)
  poll_at u b = polled_whole c tb g b wh w (moment (wrap (t + u)))

  -- before the waking moment nothing is due
  quiet_by : (u : ℕ) (k : Decision) → Decides (t + u) x k → t + u < soonest x → (b : List ℕ) → polled_by c tb g b k ≡ passed_by c tb g b k.wake
  quiet_by u k (nothing e a) l b = refl
  quiet_by u k (sending x' e go s a q) l b = absurd (omega arith)

  quiet_at : (u : ℕ) → u < d → (b : List ℕ) → polled_with w c tb g (moment (wrap (t + u))) b ≡ passed_by c tb g b (due_at u).wake
  quiet_at u l b = poll_at u b ∙ quiet_by u (due_at u) (decides_at u (omega arith)) (omega arith) b

  -- at it a message is, unless it lies 24 hours on
  sends_at : (d ≡ day → ⊥) → (s : Sending) × Sends c tb g (due_at d) s
  sends_at f = by (due_at d) (decides_at d (omega arith))
    where
      by : (k : Decision) → Decides (t + d) x k → (s : Sending) × Sends c tb g k s
      by k (nothing e a) = let q = soonest_ahead (t + d) x a in absurd (f (omega arith))
      by k (sending {m} {s} x' e go q a l) = (s, sends_by c tb g (moment m) s)

  -- polls before it, and polls at it that refuse, leave all as it is
  module _ (n : ℕ) (refuse : (b : List ℕ) → (Enough n b → ⊥) → polled_by c tb g b (due_at d) ≡ refused_by c tb g b ShortBuffer) where
    abbrev left : Instant → PolledInto → Post
    left now r = record { client = r.polled.client; tables = r.polled.tables; rand = r.polled.rand; now = now }

    polls_stay : (v : ℕ) (b : List ℕ) → v ≤ d → (v ≡ d → Enough n b → ⊥) → left (moment (wrap (t + v))) (polled_with w c tb g (moment (wrap (t + v))) b) ≡ at_time v
    polls_stay v b l f = by (dec_lt v d)
      where
        by : Dec (v < d) → left (moment (wrap (t + v))) (polled_with w c tb g (moment (wrap (t + v))) b) ≡ at_time v
        by (yes q) = ap (left (moment (wrap (t + v)))) (quiet_at v q b)
        by (no q) =
            let e : v ≡ d = omega arith in
            let k : polled_by c tb g b (due_at v) ≡ refused_by c tb g b ShortBuffer = rw e (refuse b (f e)) in
            ap (left (moment (wrap (t + v)))) (poll_at v b ∙ k)

    abbrev NoneAtTime : ℕ → CameTo → Type 0
    NoneAtTime v x = v ≡ d → IfPolls (λ b left. Enough n b → ⊥) x

    stays : (v u : ℕ) {x : CameTo} → Sorted w s c tb g (moment (wrap (t + v))) x → IfDoes (λ a left. ⊥) x → v ≤ d → NoneAtTime v x → leaves (at_time u) (moment (wrap (t + v))) x ≡ at_time v
    stays v u (polls b) m l f = polls_stay v b l f
    stays v u (does a) m l f = absurd m
    stays v u answers m l f = refl

    steps_on : (u y : ℕ) (call : Call) (now : Instant) → now ≡ moment (wrap (t + (u + y))) → IfDoes (λ a left. ⊥) (comes k s c tb g now call) → u + y ≤ d
        → NoneAtTime (u + y) (comes k s c tb g now call) → leaves (at_time u) now (comes k s c tb g now call) ≡ at_time (u + y)
    steps_on u y call now e =
        subst⁻¹ (λ (m : Instant). IfDoes (λ a left. ⊥) (comes k s c tb g m call) → u + y ≤ d → NoneAtTime (u + y) (comes k s c tb g m call) → leaves (at_time u) m (comes k s c tb g m call) ≡ at_time (u + y)) e
        (stays (u + y) u (sorted w s c tb g (moment (wrap (t + (u + y)))) call))

    runs_on : (es : List Entry) (u : ℕ) → OnlyPolls k s (at_time u) es → u + total k s (at_time u) es ≤ d → NoneAt k s n d u (at_time u) es
        → after k s (at_time u) es ≡ at_time (u + total k s (at_time u) es)
    runs_on [] u o l q = ap at_time (sym (add-zero u))
    runs_on (e ∷ es) u o l q =
        let y = adds k s (at_time u) e in
        subst⁻¹ (λ (p : Post). OnlyPolls k s p es → u + (y + total k s p es) ≤ d → NoneAt k s n d (u + y) p es → after k s p es ≡ at_time (u + (y + total k s p es)))
        (steps_on u y e.call (moment_after (at_time u) y) (moment_on u y) o.0 (omega arith) q.0)
        (λ o' l' q'. runs_on es (u + y) o' (omega arith) q' ∙ ap at_time (add_assoc u y (total k s (at_time (u + y)) es))) o.1 l q.1

    after_is : (es : List Entry) → OnlyPolls k s (at_time 0) es → total k s (at_time 0) es ≤ d → NoneAt k s n d 0 (at_time 0) es → after k s (at_time 0) es ≡ at_time (total k s (at_time 0) es)
    after_is es o l q = runs_on es 0 o (omega arith) q ∙ ap at_time (zero-add (total k s (at_time 0) es))

  -- what holds of every poll at u + y holds of every entry that polls then
  if_polls : (P : List ℕ → PolledInto → Type 0) (u y : ℕ) → ((b : List ℕ) → P b (polled_with w c tb g (moment (wrap (t + (u + y)))) b))
      → (call : Call) → IfPolls P (comes k s c tb g (moment_after (at_time u) y) call)
  if_polls P u y f call =
      subst⁻¹ (λ (m : Instant). IfPolls P (comes k s c tb g m call)) (moment_on u y) (by (sorted w s c tb g (moment (wrap (t + (u + y)))) call))
    where
      by : {x : CameTo} → Sorted w s c tb g (moment (wrap (t + (u + y)))) x → IfPolls P x
      by (polls b) = f b
      by (does a) = tt
      by answers = tt

  quiet_passed : (u : ℕ) (b : List ℕ) (m : Instant) → Quiet (at_time u) b (passed_by c tb g b m)
  quiet_passed u b m = record { answer = _; answered = refl; length = refl; client = refl; tables = refl; rand = refl; buffer = refl }

  quiet : (es : List Entry) → OnlyPolls k s (at_time 0) es → (e : Entry) → total k s (at_time 0) es + adds k s (after k s (at_time 0) es) e < d
      → IfPolls (Quiet (after k s (at_time 0) es)) (came_to k s (after k s (at_time 0) es) e)
  quiet es o e l =
      let u = total k s (at_time 0) es in
      let y = adds k s (at_time u) e in
      subst⁻¹ (λ (q : Post). u + adds k s q e < d → IfPolls (Quiet q) (came_to k s q e))
      (after_is 0 (λ b f. absurd (f (always b))) es o (omega arith) (none_before k s 0 d 0 (at_time 0) es (omega arith)))
      (λ m. if_polls (Quiet (at_time u)) u y (λ b. subst⁻¹ (Quiet (at_time u) b) (quiet_at (u + y) m b) (quiet_passed u b (due_at (u + y)).wake)) e.call) l
    where
      always : (b : List ℕ) → Enough 0 b
      always [] = tt
      always (y ∷ ys) = omega arith

  owed : (d ≡ day → ⊥) → Owed k s (at_time 0) d
  owed f =
      let m = (sends_at f).0 in
      let v = (sends_at f).1 in
      let n = length (datagram_of c g m) in
      let fits = datagram_fits c (all_parts c tb wh).0 g m in
      record {
        n = n;
        some = fits.0;
        most = fits.1;
        builds = λ es o none e at.
            let u = total k s (at_time 0) es in
            subst⁻¹ (λ (q : Post). u + adds k s q e ≡ d → IfPolls (λ b left. Enough n b → Builds n b left) (came_to k s q e))
            (after_is n (λ b f. v.refuses b (short_or_enough n b f)) es o (omega arith) none)
            (λ here. if_polls (λ b left. Enough n b → Builds n b left) u (adds k s (at_time u) e)
            (λ b enough. subst⁻¹ (Builds n b) (ap (λ (x : ℕ). polled_with w c tb g (moment (wrap (t + x))) b) here ∙ poll_at d b) (v.builds b (enough_or_short n b enough))) e.call) at;
      }

  -- The waking moment is the latest that will do.
  pub wakes : 0 < d → Wakes k s (at_time 0) d
  wakes l = record { ahead = l; within = omega arith; before = quiet; at = owed }
