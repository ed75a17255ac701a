-- Our poll, sorted by its outcome: on time that never wraps where all open deadlines are near, and at any time. Assumes nothing.
use Rattle.std.proofs.Common.{Some}
use Prim.Native.Nat.{ℕ, ◌≤◌, ◌<◌}
use mathlib.Core.Path.{◌≡◌, refl, sym, subst}
use mathlib.Core.Bool.{Bool, true, false, not, false≢true}
use mathlib.Core.List.{List, [], ◌∷◌}
use native.Mathlib.Omega.{arith}
use lib.ListN.{length}
use lib.Dec.{ltb}
use borrow.Author.Tests.{ltb-true, ltb-false, le-ltb, not-false}
use Rattle.clock.specs.Moments.{wrap, moment}
use Rattle.clock.specs.declared.instant.Instant.{Instant}
use Rattle.clock.specs.declared.rand.Rand.{Rand}
use Rattle.clock.specs.declared.waits.Waits.{Waits}
use Rattle.choice.proofs.Choices.{if_true, if_false, if_cases}
use Rattle.machine.specs.Decisions.{decided, following, InRange}
use Rattle.machine.specs.declared.decide.Sending.{Sending}
use Rattle.machine.specs.declared.decide.Decision.{Decision}
use Rattle.machine.proofs.Timers.{Timers, Shows, Near, Ahead, soonest, wake_at}
use Rattle.machine.proofs.Decisions.{Goes, Decides, nothing, sending, decides}
use Rattle.tables.specs.declared.tables.Tables.{Tables}
use Rattle.client.specs.Clients.{whole_all}
use Rattle.client.specs.Polls.{PolledInto, datagram_of, refused_by, passed_by, moved, too_short, sent, polled_by, polled_with}
use Rattle.client.specs.declared.client.Client.{Client}
use Rattle.client.proofs.Polling.{sent_cases}
use Rattle.run.specs.Demand3.{Enough, Builds}
use Rattle.reasons.specs.declared.refusal.Refusal.{Refusal}
use Rattle.reasons.specs.declared.refusal.Refusal.TheVariants.{ShortBuffer}

module _ (c : Client) (t : Tables) (g : Rand) (b : List ℕ) where
  pub data Outcome (u : ℕ) (x : Timers) : PolledInto → Type 0 where
    refuses : {n : Refusal} → Outcome u x (refused_by c t g b n)
    idles : {m : ℕ} → m ≡ wrap (wake_at u x) → Ahead u x → whole_all c t ≡ true → Outcome u x (passed_by c t g b (moment m))
    moves : {m : ℕ} {s : Sending} (x' : Timers) → m ≡ wrap (wake_at u x') → Goes u x s x' → Shows x' (following s) → Ahead u x' → soonest x ≤ u → whole_all c t ≡ true
        → Outcome u x (moved c t g b (moment m) s)

  by_decision : (u : ℕ) (x : Timers) → whole_all c t ≡ true → (d : Decision) → Decides u x d → Outcome u x (polled_by c t g b d)
  by_decision u x h d (nothing e a) = idles e a h
  by_decision u x h d (sending {m} {s} x' e go sh a l) = sent_cases c t g b (Outcome u x) refuses (moment m) s (moves x' e go sh a l h)

  pub outcome : (w : Waits) → InRange w → (u : ℕ) (x : Timers) → Shows x c.session.state → Near u x → Outcome u x (polled_with w c t g (moment (wrap u)) b)
  unfolding polled_with
  outcome w z u x sh n =
      if_cases (Outcome u x) (not (whole_all c t)) (λ e. refuses)
      (λ e. by_decision u x (not-false _ e) (decided w c.session.state (wrap u)) (decides w z u x c.session.state sh n))

-- A buffer is too short for n octets, or enough for them.
pub enough_or_short : (n : ℕ) (b : List ℕ) → Enough n b → too_short b n ≡ false
enough_or_short n [] e = refl
enough_or_short n (y ∷ ys) e = le-ltb (length (y ∷ ys)) n e

pub short_or_enough : (n : ℕ) (b : List ℕ) → (Enough n b → ⊥) → too_short b n ≡ true
short_or_enough n [] f = absurd (f tt)
short_or_enough n (y ∷ ys) f = by (ltb (length (y ∷ ys)) n) refl
  where
    by : (v : Bool) → ltb (length (y ∷ ys)) n ≡ v → v ≡ true
    by true e = refl
    by false e = absurd (f (ltb-false (length (y ∷ ys)) n e))

pub short_lent : (n : ℕ) (b : List ℕ) → too_short b n ≡ true → (0 < length b) × (length b < n)
short_lent n [] e = absurd (false≢true e)
short_lent n (y ∷ ys) e = (omega arith, ltb-true (length (y ∷ ys)) n e)

-- A decision to send s: the message's length is one number, whatever the buffer.
pub record Sends (c : Client) (t : Tables) (g : Rand) (d : Decision) (s : Sending) : Type 0 where
  pub builds : (b : List ℕ) → too_short b (length (datagram_of c g s)) ≡ false → Builds (length (datagram_of c g s)) b (polled_by c t g b d)
  pub refuses : (b : List ℕ) → too_short b (length (datagram_of c g s)) ≡ true → polled_by c t g b d ≡ refused_by c t g b ShortBuffer

moved_builds : (c : Client) (t : Tables) (g : Rand) (m : Instant) (s : Sending) (b : List ℕ) → Builds (length (datagram_of c g s)) b (moved c t g b m s)
moved_builds c t g m s [] = record { answer = _; answered = refl; length = refl }
moved_builds c t g m s (y ∷ ys) = record { answer = _; answered = refl; length = refl }

pub sends_by : (c : Client) (t : Tables) (g : Rand) (m : Instant) (s : Sending) → Sends c t g (record { due = Some s; wake = m }) s
unfolding sent
sends_by c t g m s =
    record {
      builds = λ b e. subst (Builds (length (datagram_of c g s)) b) (if_false _ e refl) (moved_builds c t g m s b);
      refuses = λ b e. sym (if_true _ e refl);
    }
