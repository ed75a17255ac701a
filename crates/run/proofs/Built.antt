-- What our poll builds is the datagram that is due, by definition: so n of `Owed` is its length, and the buffer begins with
-- it. Assumes nothing.
use Rattle.std.proofs.Common.{Option, None, Some, Ok}
use Prim.Native.Nat.{ℕ, ◌<◌}
use mathlib.Core.Path.{◌≡◌, refl, sym, ap}
use mathlib.Core.Bool.{not, false≢true}
use mathlib.Core.List.{List, [], ◌∷◌}
use native.Mathlib.Omega.{arith}
use lib.ListN.{length}
use Rattle.clock.specs.declared.instant.Instant.{Instant}
use Rattle.clock.specs.declared.rand.Rand.{Rand}
use Rattle.clock.specs.declared.waits.Waits.{Waits}
use Rattle.choice.proofs.Choices.{if_cases}
use Rattle.octets.specs.Runs.{over}
use Rattle.machine.specs.Decisions.{decided}
use Rattle.machine.specs.declared.decide.Sending.{Sending}
use Rattle.tables.specs.declared.tables.Tables.{Tables}
use Rattle.client.specs.Clients.{whole_all}
use Rattle.client.specs.Polls.{PolledInto, datagram_of, refused_by, moved, polled_as, polled_with}
use Rattle.client.specs.declared.client.Client.{Client}
use Rattle.client.specs.declared.poll.PollAnswer.{PollAnswer}
use Rattle.client.proofs.Polling.{sent_cases}
use Rattle.run.proofs.Answers.{is_answered, length_of}
use Rattle.reasons.specs.declared.refusal.Refusal.{Refusal}
use Rattle.reasons.specs.declared.refusal.Refusal.TheVariants.{NotWhole, ShortBuffer}

-- The datagram that is due, if one is.
abbrev pub datagram_due : Client → Rand → Option Sending → List ℕ
datagram_due c g None = []
datagram_due c g (Some s) = datagram_of c g s

-- A poll that answers a length above 0 answers that datagram's, and leaves the buffer with it in front.
abbrev pub BuildsDue : List ℕ → List ℕ → PolledInto → Type 0
BuildsDue out b r = (a : PollAnswer) → r.polled.outcome ≡ Ok a → 0 < a.length → (a.length ≡ length out) × (r.buffer ≡ over out b)

refused_builds : (c : Client) (t : Tables) (g : Rand) (b out : List ℕ) (n : Refusal) → BuildsDue out b (refused_by c t g b n)
refused_builds c t g b out n a e l = absurd (false≢true (ap is_answered e))

moved_builds : (c : Client) (t : Tables) (g : Rand) (m : Instant) (s : Sending) (b : List ℕ) → BuildsDue (datagram_of c g s) b (moved c t g b m s)
moved_builds c t g m s [] a e l = absurd (omega (arith, ap length_of e))
moved_builds c t g m s (y ∷ ys) a e l = (sym (ap length_of e), refl)

pub builds_due : (w : Waits) (c : Client) (t : Tables) (g : Rand) (now : Instant) (b : List ℕ) → BuildsDue (datagram_due c g (decided w c.session.state now.millis).due) b (polled_with w c t g now b)
unfolding polled_with
builds_due w c t g now b =
    if_cases (BuildsDue (datagram_due c g (decided w c.session.state now.millis).due) b) (not (whole_all c t)) (λ e. refused_builds c t g b _ NotWhole)
    (λ e. by (decided w c.session.state now.millis).due (decided w c.session.state now.millis).wake)
  where
    by : (d : Option Sending) (m : Instant) → BuildsDue (datagram_due c g d) b (polled_as c t g b m d)
    by None m = λ a e l. absurd (omega (arith, ap length_of e))
    by (Some s) m = sent_cases c t g b (BuildsDue (datagram_of c g s) b) (refused_builds c t g b (datagram_of c g s) ShortBuffer) m s (moved_builds c t g m s b)
