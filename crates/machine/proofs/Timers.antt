-- A state's deadlines on time that never wraps, and where they lie. Assumes nothing.
use Prim.Native.Nat.{ℕ, ◌+◌, ◌-◌, ◌≤◌, ◌<◌, min}
use mathlib.Core.Path.{◌≡◌}
use mathlib.Core.Bool.{Bool, true, false}
use native.Mathlib.Omega.{arith}
use Rattle.clock.specs.Durations.{longest}
use Rattle.clock.specs.Moments.{wrap}
use Rattle.clock.specs.Clocks.{day}
use Rattle.machine.specs.declared.state.ClientState.{ClientState}
use Rattle.machine.specs.declared.state.ClientState.TheVariants.{Init, Discovering, Requesting, Renewing}
use Rattle.machine.specs.declared.state.DiscoverState.{DiscoverState}
use Rattle.machine.specs.declared.state.RequestState.{RequestState}
use Rattle.machine.specs.declared.state.RenewState.{RenewState}

-- The deadlines of a state: none, and a message is due at once; one, without a lease; those of a lease.
pub data Timers : Type 0 where
  unset : Timers
  single : (retry : ℕ) → Timers
  leased : (renew rebind expires : ℕ) (rebinding : Bool) → Timers

-- A state whose moments are those deadlines, wrapped.
pub data Shows : Timers → ClientState → Type 0 where
  init : Shows unset Init
  discovering : {r : ℕ} {s : DiscoverState} → s.retry_at.millis ≡ wrap r → Shows (single r) (Discovering s)
  requesting : {r : ℕ} {s : RequestState} → s.tries.retry_at.millis ≡ wrap r → Shows (single r) (Requesting s)
  renewing : {a b e : ℕ} {s : RenewState} → s.renew_at.millis ≡ wrap a → s.rebind_at.millis ≡ wrap b → s.expires_at.millis ≡ wrap e
      → Shows (leased a b e s.rebinding) (Renewing s)

-- A state without a lease, at t: its one deadline is now or at most the longest duration on.
pub record Waiting (t : ℕ) (state : ClientState) : Type 0 where
  pub until : ℕ
  pub from : t ≤ until
  pub most : until ≤ t + longest
  pub shows : Shows (single until) state

abbrev Unless : Bool → Type 0 → Type 0
Unless true X = Unit {0}
Unless false X = X

-- Every deadline that is open: Q of a retry and of expiry, R of renew and rebind, I where there is none. Once rebinding,
-- renew is no longer open.
abbrev Each : Type 0 → (ℕ → Type 0) → (ℕ → Type 0) → Timers → Type 0
Each I Q R unset = I
Each I Q R (single r) = Q r
Each I Q R (leased a b e g) = Q e × R b × Unless g (R a)

each_map : {I J : Type 0} {Q R Q' R' : ℕ → Type 0} → (I → J) → ((d : ℕ) → Q d → Q' d) → ((d : ℕ) → R d → R' d)
    → (x : Timers) → Each I Q R x → Each J Q' R' x
each_map i q r unset h = i h
each_map i q r (single d) h = q d h
each_map i q r (leased a b e true) h = (q e h.0, r b h.1, tt)
each_map i q r (leased a b e false) h = (q e h.0, r b h.1, r a h.2)

-- at most k past, and at most B on
abbrev Open : ℕ → ℕ → ℕ → ℕ → Type 0
Open k B t d = (t ≤ d + k) × (d ≤ t + B)

-- Less far on than the longest duration.
abbrev nearer : ℕ
nearer = longest - 1

-- At t: no open deadline lies more than k back, and none further on than the longest duration; renew and rebind less far,
-- so that no two lie 2^31 apart.
abbrev pub Dated : ℕ → ℕ → Timers → Type 0
Dated k t x = Each (Unit {0}) (Open k longest t) (Open k nearer t) x

-- So near that their moments compare truly.
abbrev pub Near : ℕ → Timers → Type 0
Near t x = Dated longest t x

abbrev Coming : ℕ → ℕ → ℕ → Type 0
Coming B t d = (t < d) × (d ≤ t + B)

-- Every open deadline lies ahead, as after a poll.
abbrev pub Ahead : ℕ → Timers → Type 0
Ahead t x = Each ⊥ (Coming longest t) (Coming nearer t) x

pub dated_later : (k y t : ℕ) (x : Timers) → Dated k t x → Dated (k + y) (t + y) x
dated_later k y t x h = each_map (λ i. i) (λ d o. omega arith) (λ d o. omega arith) x h

pub dated_near : (k t : ℕ) (x : Timers) → k ≤ longest → Dated k t x → Near t x
dated_near k t x l h = each_map (λ i. i) (λ d o. omega arith) (λ d o. omega arith) x h

pub ahead_dated : (t : ℕ) (x : Timers) → Ahead t x → Dated 0 t x
ahead_dated t x h = each_map (λ i. tt) (λ d o. omega arith) (λ d o. omega arith) x h

pub ahead_near : (t u : ℕ) (x : Timers) → Ahead t x → t ≤ u → u ≤ t + day → Near u x
ahead_near t u x h p q = each_map (λ i. tt) (λ d o. omega arith) (λ d o. omega arith) x h

-- The first open deadline, and the waking moment.
abbrev pub soonest : Timers → ℕ
soonest unset = 0
soonest (single r) = r
soonest (leased a b e true) = min e b
soonest (leased a b e false) = min e (min a b)

abbrev pub wake_at : ℕ → Timers → ℕ
wake_at t x = min (t + day) (soonest x)

pub soonest_ahead : (t : ℕ) (x : Timers) → Ahead t x → t < soonest x
soonest_ahead t unset h = absurd h
soonest_ahead t (single r) h = h.0
soonest_ahead t (leased a b e true) h = omega arith
soonest_ahead t (leased a b e false) h = omega arith
