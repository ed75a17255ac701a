-- What a poll decides, on time that never wraps: where all open deadlines are near, nothing is due before the first of them,
-- and a message is from there on; after it every open deadline lies ahead. Assumes nothing.
use Prim.Native.Nat.{ℕ, ◌+◌, ◌-◌, ◌*◌, ◌/◌, ◌^◌, ◌≤◌, ◌<◌, min, max}
use mathlib.Core.Path.{◌≡◌, refl, sym, ap, ◌∙◌}
use mathlib.Core.Bool.{Bool, true, false, not, false≢true}
use mathlib.Core.List.{[], ◌∷◌}
use native.Mathlib.Omega.{arith}
use native.Mathlib.Nat.{pow-le-pow_right, mul-le-mul}
use lib.Dec.{leb}
use borrow.Author.Tests.{leb-true, leb-false, ltb-true, not-true, not-false}
use Rattle.clock.specs.Durations.{longest, clamp}
use Rattle.clock.specs.Moments.{wrap, before, due, rest, earlier, moment}
use Rattle.clock.specs.Clocks.{day}
use Rattle.clock.specs.declared.waits.Waits.{Waits}
use Rattle.choice.proofs.Choices.{if_true, if_false, if_cases}
use Rattle.clock.proofs.MomentLaws.{plus_near, before_near, due_near, rest_near, earlier_near}
use Rattle.machine.specs.Decisions.{waking, waits, sends, discovers, decided_discovering, request_wait, requested, decided_requesting, next_retry, rebinds, renew_wait, renewed, rebind_wait, rebound, decided_renewing, decided, following, InRange}
use Rattle.machine.specs.declared.state.ClientState.{ClientState}
use Rattle.machine.specs.declared.state.DiscoverState.{DiscoverState}
use Rattle.machine.specs.declared.state.RequestState.{RequestState}
use Rattle.machine.specs.declared.state.RenewState.{RenewState}
use Rattle.machine.specs.declared.decide.Sending.{Sending}
use Rattle.machine.specs.declared.decide.Sending.TheVariants as message
use Rattle.std.proofs.Common.{None, Some}
use Rattle.machine.specs.declared.decide.Decision.{Decision}
use Rattle.machine.proofs.Timers.{Timers, unset, single, leased, Shows, init, discovering as discovering-shows, requesting as requesting-shows, renewing as renewing-shows, Near, Ahead, soonest, wake_at}

-- no lease, or one that is over
abbrev pub Over : ℕ → Timers → Type 0
Over t unset = Unit {0}
Over t (single r) = Unit {0}
Over t (leased a b e g) = e ≤ t

-- From which deadlines to which a message leads: a Discover from no lease or one that is over; a Request within a state.
pub data Goes (t : ℕ) : Timers → Sending → Timers → Type 0 where
  discovers_from : {x : Timers} {s : DiscoverState} {r : ℕ} → Over t x → Goes t x (message.Discover s) (single r)
  requests_again : {r r' : ℕ} {s : RequestState} → Goes t (single r) (message.Request s) (single r')
  renews : {a b e a' b' : ℕ} {g g' : Bool} {s : RenewState} → t < e → Goes t (leased a b e g) (message.Renew s) (leased a' b' e g')

-- The two outcomes.
pub data Decides (t : ℕ) (x : Timers) : Decision → Type 0 where
  nothing : {m : ℕ} → m ≡ wrap (wake_at t x) → Ahead t x → Decides t x (record { due = None; wake = moment m })
  sending : {m : ℕ} {s : Sending} (x' : Timers) → m ≡ wrap (wake_at t x') → Goes t x s x' → Shows x' (following s) → Ahead t x' → soonest x ≤ t
      → Decides t x (record { due = Some s; wake = moment m })

-- the waking moment with one deadline, and with one beside expiry
wakes_once : (t d : ℕ) {m : ℕ} → m ≡ wrap d → t < d → d ≤ t + longest → waking (wrap t) (m ∷ []) ≡ wrap (min (t + day) d)
wakes_once t d {m} h p q = rw (h, plus_near t day) (earlier_near (t + day) d (omega arith) (omega arith))

wakes_twice : (t e d : ℕ) {m n : ℕ} → m ≡ wrap e → n ≡ wrap d → t < e → e ≤ t + longest → t < d → d ≤ t + longest
    → waking (wrap t) (m ∷ n ∷ []) ≡ wrap (min (min (t + day) e) d)
wakes_twice t e d {m} {n} h k p q u v =
    ap (λ (a : ℕ). earlier a n) (wakes_once t e h p q) ∙ ap (earlier (wrap (min (t + day) e))) k
    ∙ earlier_near (min (t + day) e) d (omega arith) (omega arith)

min_three : (a b c : ℕ) → min (min a b) c ≡ min a (min b c)
min_three a b c = omega arith

min_four : (a b c d : ℕ) → c ≤ d → min (min a b) c ≡ min a (min b (min c d))
min_four a b c d h = omega arith

module _ (w : Waits) (z : InRange w) (t : ℕ) where
  discovered : (x : Timers) → Over t x → soonest x ≤ t → Decides t x (discovers w (wrap t))
  discovered x o l =
      let d = t + w.discover_timeout.millis in
      let h = plus_near t w.discover_timeout.millis in
      sending (single d) (wakes_once t d h (omega (arith, z.discover_least)) (omega (arith, z.discover_most))) (discovers_from o)
      (discovering-shows h) (omega (arith, z.discover_least), omega (arith, z.discover_most)) l

  -- a retry that is due, and one that is not
  retry_is : (r : ℕ) {m : ℕ} → m ≡ wrap r → Near t (single r) → due m (wrap t) ≡ leb r t
  retry_is r {m} h n = rw h (due_near r t (omega arith) (omega arith))

  quiet : (r : ℕ) {m : ℕ} → m ≡ wrap r → Near t (single r) → due m (wrap t) ≡ false → Decides t (single r) (waits (wrap t) (m ∷ []))
  quiet r h n e =
      let l : t < r = leb-false r t (sym (retry_is r h n) ∙ e) in
      nothing (wakes_once t r h l n.1) (l, n.1)

  in_discovering : (r : ℕ) (s : DiscoverState) → s.retry_at.millis ≡ wrap r → Near t (single r) → Decides t (single r) (decided_discovering w s (wrap t))
  unfolding decided_discovering
  in_discovering r s h n =
      if_cases (Decides t (single r)) (due s.retry_at.millis (wrap t))
      (λ e. discovered (single r) tt (leb-true r t (sym (retry_is r h n) ∙ e)))
      (λ e. quiet r h n e)

  -- a wait of Requesting: at least the first one, at most eight of it
  wait_bound : (n : ℕ) → n < w.request_retries → (0 < request_wait w n) × (request_wait w n ≤ 480000)
  wait_bound n l =
      let low : 1 ≤ 2 ^ (n / 2) = pow-le-pow_right (omega arith) {i = 0} {j = n / 2} (omega arith) in
      let high : 2 ^ (n / 2) ≤ 8 = pow-le-pow_right (omega arith) {i = n / 2} {j = 3} (omega (arith, z.tries_most)) in
      by w.initial_request_timeout.millis (2 ^ (n / 2)) z.request_least z.request_most low high
    where
      by : (f k : ℕ) → 1000 ≤ f → f ≤ 60000 → 1 ≤ k → k ≤ 8 → (0 < clamp (f * k)) × (clamp (f * k) ≤ 480000)
      by f k p q l h = (omega (arith, mul-le-mul p l), omega (arith, mul-le-mul q h))

  request_sent : (r : ℕ) (s : RequestState) → r ≤ t → s.tries.retry < w.request_retries
      → Decides t (single r) (sends (wrap t) (message.Request (requested w s (wrap t))) ((requested w s (wrap t)).tries.retry_at.millis ∷ []))
  request_sent r s l f =
      let d = t + request_wait w s.tries.retry in
      let h = plus_near t (request_wait w s.tries.retry) in
      let b = wait_bound s.tries.retry f in
      sending (single d) (wakes_once t d h (omega (arith, b.0)) (omega (arith, b.1))) requests_again
      (requesting-shows h) (omega (arith, b.0), omega (arith, b.1)) l

  in_requesting : (r : ℕ) (s : RequestState) → s.tries.retry_at.millis ≡ wrap r → Near t (single r) → Decides t (single r) (decided_requesting w s (wrap t))
  unfolding decided_requesting
  in_requesting r s h n =
      if_cases (Decides t (single r)) (not (due s.tries.retry_at.millis (wrap t)))
      (λ e. quiet r h n (not-true _ e))
      (λ e.
      let l : r ≤ t = leb-true r t (sym (retry_is r h n) ∙ not-false _ e) in
      if_cases (Decides t (single r)) (leb w.request_retries s.tries.retry)
      (λ f. discovered (single r) tt l)
      (λ f. request_sent r s l (leb-false w.request_retries s.tries.retry f)))

  module _ (a b e : ℕ) (s : RenewState) (ha : s.renew_at.millis ≡ wrap a) (hb : s.rebind_at.millis ≡ wrap b) (he : s.expires_at.millis ≡ wrap e) where
    -- the next Request
    abbrev retry : Bool → ℕ
    retry true = b
    retry false = min a b

    retry_at_lem : (g : Bool) → s.rebinding ≡ g → Near t (leased a b e g) → next_retry s ≡ wrap (retry g)
    unfolding next_retry
    retry_at_lem true h n = sym (if_true _ h (sym hb))
    retry_at_lem false h n = sym (if_false _ h (sym (rw (ha, hb) (earlier_near a b (omega arith) (omega arith)))))

    retry_due : (g : Bool) → s.rebinding ≡ g → Near t (leased a b e g) → due (next_retry s) (wrap t) ≡ leb (retry g) t
    retry_due true h n = rw (retry_at_lem true h n) (due_near b t (omega arith) (omega arith))
    retry_due false h n = rw (retry_at_lem false h n) (due_near (min a b) t (omega arith) (omega arith))

    expiry_due : (g : Bool) → Near t (leased a b e g) → due s.expires_at.millis (wrap t) ≡ leb e t
    expiry_due g n = rw he (due_near e t (omega arith) (omega arith))

    over_now : (g : Bool) → e ≤ t → soonest (leased a b e g) ≤ t
    over_now true l = omega arith
    over_now false l = omega arith

    all_ahead : (g : Bool) → Near t (leased a b e g) → t < e → t < retry g → Ahead t (leased a b e g)
    all_ahead true n p q = ((p, n.0.1), (q, n.1.1), tt)
    all_ahead false n p q = ((p, n.0.1), (omega arith, n.1.1), (omega arith, n.2.1))

    wakes_quiet : (g : Bool) → s.rebinding ≡ g → Near t (leased a b e g) → t < e → t < retry g
        → waking (wrap t) (s.expires_at.millis ∷ next_retry s ∷ []) ≡ wrap (wake_at t (leased a b e g))
    wakes_quiet true h n p q = wakes_twice t e b he (retry_at_lem true h n) p n.0.1 q (omega arith) ∙ ap wrap (omega arith)
    wakes_quiet false h n p q = wakes_twice t e (min a b) he (retry_at_lem false h n) p n.0.1 q (omega arith) ∙ ap wrap (omega arith)

    due_now : (g : Bool) → retry g ≤ t → soonest (leased a b e g) ≤ t
    due_now true l = omega arith
    due_now false l = omega arith

    -- a Request of rebinding
    rebind_sent : (g : Bool) → Near t (leased a b e g) → t < e → retry g ≤ t
        → Decides t (leased a b e g) (sends (wrap t) (message.Renew (rebound w s (wrap t))) (s.expires_at.millis ∷ (rebound w s (wrap t)).rebind_at.millis ∷ []))
    rebind_sent g n p l =
        let v : rest s.expires_at.millis (wrap t) ≡ e - t = rw he (rest_near e t (omega arith) (omega arith) ∙ omega arith) in
        let k : rebind_wait w s (wrap t) ≡ max w.min_renew_timeout.millis ((e - t) / 2) = rw v in
        let x = max w.min_renew_timeout.millis ((e - t) / 2) in
        let low : 0 < x = omega (arith, z.renew_least) in
        let high : x ≤ 536870912 = omega (arith, z.renew_most, n.0.1) in
        let h : (rebound w s (wrap t)).rebind_at.millis ≡ wrap (t + x) = rw k (plus_near t x) in
        sending (leased a (t + x) e true) (wakes_twice t e (t + x) he h p n.0.1 (omega arith) (omega arith) ∙ ap wrap (min_three (t + day) e (t + x))) (renews p)
        (renewing-shows ha h he) ((p, n.0.1), (omega arith, omega arith), tt) (due_now g l)

    -- a Request of renewing
    renew_sent : (g : Bool) → Near t (leased a b e g) → t < e → t < b → retry g ≤ t
        → Decides t (leased a b e g) (sends (wrap t) (message.Renew (renewed w s (wrap t))) (s.expires_at.millis ∷ (renewed w s (wrap t)).renew_at.millis ∷ []))
    renew_sent g n p u l =
        let v : rest s.rebind_at.millis (wrap t) ≡ b - t = rw hb (rest_near b t (omega arith) (omega arith) ∙ omega arith) in
        let k : renew_wait w s (wrap t) ≡ min (max w.min_renew_timeout.millis ((b - t) / 2)) (b - t) = rw v in
        let x = min (max w.min_renew_timeout.millis ((b - t) / 2)) (b - t) in
        let low : 0 < x = omega (arith, z.renew_least) in
        let high : x ≤ b - t = omega arith in
        let h : (renewed w s (wrap t)).renew_at.millis ≡ wrap (t + x) = rw k (plus_near t x) in
        sending (leased (t + x) b e false) (wakes_twice t e (t + x) he h p n.0.1 (omega arith) (omega arith) ∙ ap wrap (min_four (t + day) e (t + x) b (omega arith))) (renews p)
        (renewing-shows h hb he) ((p, n.0.1), (u, n.1.1), (omega arith, omega arith)) (due_now g l)

    -- where a Request is not of rebinding, rebind lies ahead
    not_yet : (g : Bool) → s.rebinding ≡ g → Near t (leased a b e g) → rebinds s (wrap t) ≡ false → t < b
    unfolding rebinds
    not_yet true h n j = absurd (false≢true (sym j ∙ sym (if_true _ h refl)))
    not_yet false h n j =
        let k : before (wrap t) s.rebind_at.millis ≡ true = not-false _ (if_false _ h refl ∙ j) in
        ltb-true t b (sym (rw hb (before_near t b (omega arith) (omega arith))) ∙ k)

    in_renewing : (g : Bool) → s.rebinding ≡ g → Near t (leased a b e g) → Decides t (leased a b e g) (decided_renewing w s (wrap t))
    unfolding decided_renewing
    in_renewing g h n =
        if_cases (Decides t (leased a b e g)) (due s.expires_at.millis (wrap t))
        (λ f.
        let l : e ≤ t = leb-true e t (sym (expiry_due g n) ∙ f) in
        discovered (leased a b e g) l (over_now g l))
        (λ f.
        let p : t < e = leb-false e t (sym (expiry_due g n) ∙ f) in
        if_cases (Decides t (leased a b e g)) (not (due (next_retry s) (wrap t)))
        (λ i.
        let q : t < retry g = leb-false (retry g) t (sym (retry_due g h n) ∙ not-true _ i) in
        nothing (wakes_quiet g h n p q) (all_ahead g n p q))
        (λ i.
        let q : retry g ≤ t = leb-true (retry g) t (sym (retry_due g h n) ∙ not-false _ i) in
        if_cases (Decides t (leased a b e g)) (rebinds s (wrap t))
        (λ j. rebind_sent g n p q)
        (λ j. renew_sent g n p (not_yet g h n j) q)))

  -- The decision at t on a state that shows the deadlines x.
  pub decides : (x : Timers) (state : ClientState) → Shows x state → Near t x → Decides t x (decided w state (wrap t))
  unfolding decided
  decides x state init n = discovered unset tt (omega arith)
  decides x state (discovering-shows {r = r} {s = s} h) n = in_discovering r s h n
  decides x state (requesting-shows {r = r} {s = s} h) n = in_requesting r s h n
  decides x state (renewing-shows {a = a} {b = b} {e = e} {s = s} ha hb he) n = in_renewing a b e s ha hb he s.rebinding refl n
