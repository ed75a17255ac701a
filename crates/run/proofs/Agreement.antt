-- History, state and deadlines agree: on time that never wraps, expiry lies L after the ACK that is held. Assumes nothing.
use Prim.Native.Nat.{ℕ, ◌+◌, ◌≤◌, ◌<◌}
use mathlib.Core.Path.{◌≡◌, refl, sym, ap, subst⁻¹}
use mathlib.Core.Bool.{Bool, true, false, false≢true}
use native.Mathlib.Omega.{arith}
use native.Mathlib.Decide.{dec_le}
use borrow.Author.Tests.{le-leb, lt-leb}
use Rattle.clock.specs.Durations.{longest}
use Rattle.choice.proofs.Choices.{if_true, if_false}
use Rattle.machine.specs.States.{has_lease}
use Rattle.machine.specs.declared.state.ClientState.{ClientState}
use Rattle.machine.specs.declared.state.ClientState.TheVariants.{Init}
use Rattle.machine.specs.declared.decide.Sending.{Sending}
use Rattle.machine.proofs.Timers.{Timers, unset, single, leased, Shows, init, discovering, requesting as requesting-shows, renewing, Waiting, Dated, dated_later, Near, dated_near, Ahead}
use Rattle.machine.proofs.Decisions.{Over, Goes, discovers_from, requests_again, renews}
use Rattle.client.specs.declared.client.Client.{Client}
use Rattle.judge.proofs.Verdicts.{begun}
use Rattle.client.proofs.Effects.{Fitting}
use Rattle.run.specs.Demand3.{History, NoAck, Held, older, expired, is_held, Since, never, since, later, in_time}

-- Expiry lies L after the ACK that is held; without one there is none.
abbrev pub Agree : ℕ → History → Timers → Type 0
Agree t NoAck unset = Unit {0}
Agree t NoAck (single r) = Unit {0}
Agree t NoAck (leased a b e g) = ⊥
Agree t (Held l age i) unset = ⊥
Agree t (Held l age i) (single r) = ⊥
Agree t (Held l age i) (leased a b e g) = e + age ≡ t + l

pub agree_later : (y t : ℕ) (h : History) (x : Timers) → Agree t h x → Agree (t + y) (older y h) x
agree_later y t NoAck unset a = tt
agree_later y t NoAck (single r) a = tt
agree_later y t NoAck (leased p b e g) a = absurd a
agree_later y t (Held l age i) unset a = absurd a
agree_later y t (Held l age i) (single r) a = absurd a
agree_later y t (Held l age i) (leased p b e g) a = omega arith

pub agree_same : (t : ℕ) (h : History) (a b e : ℕ) (g : Bool) (a' b' : ℕ) (g' : Bool) → Agree t h (leased a b e g) → Agree t h (leased a' b' e g')
agree_same t NoAck a b e g a' b' g' k = k
agree_same t (Held l age i) a b e g a' b' g' k = k

-- Before the first poll nothing is open; after it deadlines lie no further back than the last poll.
abbrev pub DatedBy : Since → ℕ → Timers → Type 0
DatedBy never t unset = Unit {0}
DatedBy never t (single r) = ⊥
DatedBy never t (leased a b e g) = ⊥
DatedBy (since k) t x = Dated k t x

pub dated_by_later : (y : ℕ) (gp : Since) (t : ℕ) (x : Timers) → DatedBy gp t x → DatedBy (later y gp) (t + y) x
dated_by_later y never t unset d = tt
dated_by_later y never t (single r) d = absurd d
dated_by_later y never t (leased a b e g) d = absurd d
dated_by_later y (since k) t x d = dated_later k y t x d

pub dated_unset : (gp : Since) (t : ℕ) → DatedBy gp t unset
dated_unset never t = tt
dated_unset (since k) t = tt

-- deadlines are near, or a poll that is not refused comes too late for the premise
pub data Timing (gp : Since) (t : ℕ) (x : Timers) : Type 0 where
  in_time_lem : Near t x → Timing gp t x
  late : (in_time true gp → ⊥) → Timing gp t x

pub timing : (gp : Since) (t : ℕ) (x : Timers) → DatedBy gp t x → Timing gp t x
timing never t unset d = in_time_lem tt
timing never t (single r) d = absurd d
timing never t (leased a b e g) d = absurd d
timing (since k) t x d = by (dec_le k longest)
  where
    by : Dec (k ≤ longest) → Timing (since k) t x
    by (yes l) = in_time_lem (dated_near k t x l d)
    by (no f) = late f

-- Once a message was sent, deadlines that lie no further back may be set.
abbrev pub Began : Since → Type 0
Began never = ⊥
Began (since k) = Unit {0}

pub began_by : (gp : Since) (t : ℕ) (x : Timers) (state : ClientState) → Shows x state → DatedBy gp t x → begun state ≡ true → Began gp
began_by never t x state init d b = absurd (false≢true b)
began_by never t x state (discovering h) d b = absurd d
began_by never t x state (requesting-shows h) d b = absurd d
began_by never t x state (renewing h i j) d b = absurd d
began_by (since k) t x state sh d b = tt

pub dated_anew : (gp : Since) (t : ℕ) → Began gp → (x : Timers) → ((k : ℕ) → Dated k t x) → DatedBy gp t x
dated_anew never t b x f = absurd b
dated_anew (since k) t b x f = f k

-- A state without a lease: Init; or, once a message was sent, one whose only deadline is now or at most 2^30 ms on.
pub data Leaseless (gp : Since) (t : ℕ) (state : ClientState) : Type 0 where
  starts : state ≡ Init → Leaseless gp t state
  waits : Began gp → Waiting t state → Leaseless gp t state

pub leaseless_timers : {gp : Since} {t : ℕ} {state : ClientState} → Leaseless gp t state → Timers
leaseless_timers (starts e) = unset
leaseless_timers (waits b v) = single v.until

pub leaseless_shows : {gp : Since} {t : ℕ} {state : ClientState} (n : Leaseless gp t state) → Shows (leaseless_timers n) state
unfolding leaseless_timers
leaseless_shows (starts e) = subst⁻¹ (Shows unset) e init
leaseless_shows (waits b v) = v.shows

pub leaseless_dated : {gp : Since} {t : ℕ} {state : ClientState} (n : Leaseless gp t state) → DatedBy gp t (leaseless_timers n)
unfolding leaseless_timers
leaseless_dated {gp} {t} (starts e) = dated_unset gp t
leaseless_dated {gp} {t} (waits b v) = dated_anew gp t b (single v.until) (λ k. (omega (arith, v.from), v.most))

pub leaseless_agrees : {gp : Since} {t : ℕ} {state : ClientState} (n : Leaseless gp t state) → Agree t NoAck (leaseless_timers n)
unfolding leaseless_timers
leaseless_agrees (starts e) = tt
leaseless_agrees (waits b v) = tt

-- by the deadlines that a state shows
pub none_shown : {r : ℕ} {state : ClientState} → Shows (single r) state → has_lease state ≡ false
none_shown (discovering h) = refl
none_shown (requesting-shows h) = refl

pub leaseless_none : {gp : Since} {t : ℕ} {state : ClientState} → Leaseless gp t state → has_lease state ≡ false
leaseless_none (starts e) = ap has_lease e
leaseless_none (waits b v) = none_shown v.shows

-- A lease is in force exactly if an ACK is held.
pub lease_is : (t : ℕ) (h : History) (x : Timers) (state : ClientState) → Shows x state → Agree t h x → has_lease state ≡ is_held h
lease_is t NoAck x state init a = refl
lease_is t NoAck x state (discovering e) a = refl
lease_is t NoAck x state (requesting-shows e) a = refl
lease_is t NoAck x state (renewing e f g) a = absurd a
lease_is t (Held l age i) x state init a = absurd a
lease_is t (Held l age i) x state (discovering e) a = absurd a
lease_is t (Held l age i) x state (requesting-shows e) a = absurd a
lease_is t (Held l age i) x state (renewing e f g) a = refl

-- a poll before expiry leaves the history, one from there on clears it
module _ (t : ℕ) where
  pub held_on : (h : History) (a b e : ℕ) (g : Bool) → Agree t h (leased a b e g) → t < e → expired h ≡ h
  unfolding expired
  held_on NoAck a b e g k p = absurd k
  held_on (Held l age i) a b e g k p = sym (if_false _ (lt-leb l age (omega arith)) refl)

  pub none_held : (h : History) (x : Timers) → Agree t h x → Over t x → expired h ≡ NoAck
  unfolding expired
  none_held NoAck x k o = refl
  none_held (Held l age i) unset k o = absurd k
  none_held (Held l age i) (single r) k o = absurd k
  none_held (Held l age i) (leased a b e g) k o = sym (if_true _ (le-leb l age (omega arith)) refl)

  pub ahead_held : (h : History) (x : Timers) → Agree t h x → Ahead t x → expired h ≡ h
  unfolding expired
  ahead_held h unset k l = absurd l
  ahead_held NoAck (single r) k l = refl
  ahead_held (Held lease age i) (single r) k l = absurd k
  ahead_held h (leased a b e g) k l = held_on h a b e g k l.0.0

-- a Request leads from a state without a lease, or with one, to such a state
pub fitting : {t : ℕ} {x x' : Timers} {m : Sending} {state : ClientState} → Shows x state → Goes t x m x' → (c : Client) → c.session.state ≡ state → Fitting c m
fitting sh (discovers_from o) c e = tt
fitting (discovering p) requests_again c e = ap has_lease e
fitting (requesting-shows p) requests_again c e = ap has_lease e
fitting (renewing p q r) (renews l) c e = ap has_lease e
