-- What a poll changes, by what is due and by the writer's answer, and that a poll is what is left by it. Assumes nothing.
use Rattle.std.proofs.Common.{None, Option, Some, Result, Ok, Err}
use Prim.Native.Nat.{ℕ, ◌+◌}
use mathlib.Core.Path.{◌≡◌, refl, sym, ap, ◌∙◌}
use mathlib.Core.Bool.{Bool, true, false, not}
use mathlib.Core.List.{List, [], ◌∷◌}
use native.Mathlib.Omega.{arith}
use lib.ListN.{length}
use lib.Dec.{leb}
use borrow.Author.Tests.{leb-true, leb-false, le-ltb, lt-ltb}
use Rattle.choice.specs.Choice.{when◌then◌else◌}
use Rattle.clock.specs.declared.instant.Instant.{Instant}
use Rattle.clock.specs.declared.rand.Rand.{Rand}
use Rattle.clock.specs.declared.rand.Drawn.{Drawn}
use Rattle.clock.specs.declared.waits.Waits.{Waits}
use Rattle.choice.proofs.Choices.{if_true, if_false, if_cases}
use Rattle.octets.specs.Runs.{over}
use Rattle.message.specs.Written.{leaves}
use Rattle.message.specs.declared.datagram.Endpoints.{Endpoints}
use Rattle.machine.specs.States.{has_lease}
use Rattle.machine.specs.Decisions.{decided, following}
use Rattle.machine.specs.declared.state.ClientState.{ClientState}
use Rattle.machine.specs.declared.state.DiscoverState.{DiscoverState}
use Rattle.machine.specs.declared.decide.Sending.{Sending}
use Rattle.machine.specs.declared.decide.Sending.TheVariants.{Discover, Request, Renew}
use Rattle.machine.specs.declared.decide.Decision.{Decision}
use Rattle.tables.specs.declared.tables.Tables.{Tables}
use Rattle.settings.specs.Settings.{refusal_of, waits_of}
use Rattle.sending.specs.Sendings.{drawn_for, endpoints_of, body_of, wrote, left_in}
use Rattle.sending.proofs.Sendings.{left_by_lem, datagram_size, fits_or_not}
use Rattle.client.specs.Clients.{with_session, whole_all}
use Rattle.client.specs.Resets.{restarted, dropped, cleared}
use Rattle.client.specs.Polls.{PolledInto, id_of, datagram_of, kept, awaiting, refusal, refused_by, silent, built, purging, settled_by, moved, sent, polled_as, polled_with, polled}
use Rattle.client.specs.Changes.{ChangeInto, unmoved, drops, moved_by, change_written, change_sent, change_as, change_by, poll_change, left_by, after_change}
use Rattle.client.specs.declared.client.Client.{Client}
use Rattle.client.specs.declared.client.Settled.{Settled}
use Rattle.client.specs.declared.poll.PollAnswer.{PollAnswer}
use Rattle.client.specs.declared.poll.PollChange.{PollChange}
use Rattle.client.specs.declared.poll.Polled.{Polled}
use Rattle.client.proofs.Wholes.{settings_whole, all_parts}
use Rattle.reasons.specs.declared.refusal.Refusal.{Refusal}
use Rattle.reasons.specs.declared.refusal.Refusal.TheVariants.{ShortBuffer, NotWhole}

-- a message that is sent, from the calls that make it
pub moves : (from : ClientState) (d : Drawn ℕ) (s : Sending) (a : PollAnswer) {v : Bool} {state : ClientState} {answer : PollAnswer}
    → v ≡ drops from s → state ≡ following s → answer ≡ purging a v
    → ◌≡◌ {A = PollChange} (record { drops = v; session = record { state = state; transaction_id = d.value }; rand = d.rand; outcome = Ok answer }) (moved_by from d s a)
moves from d s a e f h = rw h (rw f (rw e refl))

-- what a poll that sends changes, from the writer's answer
module _ (c : Client) (g : Rand) (wake : Instant) (s : Sending) where
  abbrev drawn : Drawn ℕ
  drawn = drawn_for c.session.transaction_id g s

  -- a buffer that is not empty gets the datagram, if it is long enough
  sent_as : (b : List ℕ) → (length b ≡ 0 → ⊥) → change_sent c g b wake s ≡ change_written c g b wake s (wrote c.settings c.lease (id_of c g s) s (length b))
  sent_as [] z = absurd (z refl)
  sent_as (x ∷ xs) z = refl

  module _ (b : List ℕ) (z : length b ≡ 0 → ⊥) {d : Drawn ℕ} {ends : Endpoints} {w : Result ℕ Refusal} {b' : List ℕ} (e : d ≡ drawn) (f : ends ≡ endpoints_of c.lease s)
      (o : (w ≡ wrote c.settings c.lease d.value s (length b)) × (b' ≡ left_in c.settings c.lease d.value s b)) where
    answer : w ≡ wrote c.settings c.lease (id_of c g s) s (length b)
    answer = o.0 ∙ ap (λ (x : Drawn ℕ). wrote c.settings c.lease x.value s (length b)) e

    sent_by : {v : Result ℕ Refusal} → w ≡ v → change_sent c g b wake s ≡ change_written c g b wake s v
    sent_by i = sent_as b z ∙ ap (change_written c g b wake s) (sym answer ∙ i)

    left : {v : Result ℕ Refusal} → w ≡ v → b' ≡ leaves v (datagram_of c g s) b
    left i =
        o.1 ∙ ap (λ (x : Drawn ℕ). left_in c.settings c.lease x.value s b) e ∙ left_by_lem c.settings c.lease (id_of c g s) s b
        ∙ ap (λ x. leaves x (datagram_of c g s) b) (sym answer ∙ i)

    pub change_written_lem : {n : ℕ} {a : PollAnswer} {r : PollChange} → w ≡ Ok n → a ≡ built n ends wake → r ≡ moved_by c.session.state d s a
        → (r ≡ (change_sent c g b wake s).change) × (b' ≡ (change_sent c g b wake s).buffer)
    change_written_lem {n} i j k = (
      k ∙ ap (λ (x : PollAnswer). moved_by c.session.state d s x) j ∙ ap (λ (x : Endpoints). moved_by c.session.state d s (built n x wake)) f
          ∙ ap (λ (x : Drawn ℕ). moved_by c.session.state x s (built n (endpoints_of c.lease s) wake)) e ∙ sym (ap (λ (x : ChangeInto). x.change) (sent_by i)),
      left i ∙ sym (ap (λ (x : ChangeInto). x.buffer) (sent_by i)),
    )

    pub change_short : {n : Refusal} {r : PollChange} → w ≡ Err n → r ≡ unmoved c.session g (Err ShortBuffer) → (r ≡ (change_sent c g b wake s).change) × (b' ≡ (change_sent c g b wake s).buffer)
    change_short i j = (j ∙ sym (ap (λ (x : ChangeInto). x.change) (sent_by i)), left i ∙ sym (ap (λ (x : ChangeInto). x.buffer) (sent_by i)))

-- what a poll changes, by what is decided
module _ (c : Client) (g : Rand) (now : Instant) (b : List ℕ) {w : Waits} {k : Decision} (v : w ≡ waits_of c.settings) (e : k ≡ decided w c.session.state now.millis) where
  change_as_lem : {d : Option Sending} → k.due ≡ d → poll_change c g now b ≡ change_as c g b k.wake d
  unfolding poll_change
  change_as_lem f = ap (change_by c g b) (sym (e ∙ ap (λ (x : Waits). decided x c.session.state now.millis) v)) ∙ ap (change_as c g b k.wake) f

  pub change_silent : {a : PollAnswer} {r : PollChange} → k.due ≡ None → a ≡ silent k.wake → r ≡ unmoved c.session g (Ok a)
      → (r ≡ (poll_change c g now b).change) × (b ≡ (poll_change c g now b).buffer)
  change_silent f i j = (
    j ∙ ap (λ (x : PollAnswer). unmoved c.session g (Ok x)) i ∙ sym (ap (λ (x : ChangeInto). x.change) (change_as_lem f)),
    sym (ap (λ (x : ChangeInto). x.buffer) (change_as_lem f)),
  )

  pub change_sends : {s : Sending} {r : PollChange} {b' : List ℕ} → k.due ≡ Some s → (r ≡ (change_sent c g b k.wake s).change) × (b' ≡ (change_sent c g b k.wake s).buffer)
      → (r ≡ (poll_change c g now b).change) × (b' ≡ (poll_change c g now b).buffer)
  change_sends f i = (i.0 ∙ sym (ap (λ (x : ChangeInto). x.change) (change_as_lem f)), i.1 ∙ sym (ap (λ (x : ChangeInto). x.buffer) (change_as_lem f)))

-- what is left by a change
module _ (c : Client) (t : Tables) where
  after_unmoved : (g : Rand) (o : Result PollAnswer Refusal) → after_change c t (unmoved c.session g o) ≡ record { client = c; tables = t; rand = g; outcome = o }
  unfolding after_change when◌then◌else◌
  after_unmoved g o = refl

  -- a Discover drops a lease that is held, and then link state is to be purged
  abbrev going : Drawn ℕ → DiscoverState → PollAnswer → Bool → PollChange
  going d s a v = record { drops = v; session = awaiting (Discover s) d.value; rand = d.rand; outcome = Ok (purging a v) }

  abbrev gone : Drawn ℕ → DiscoverState → PollAnswer → Settled Bool → Polled
  gone d s a r = record { client = with_session r.client (awaiting (Discover s) d.value); tables = r.tables; rand = d.rand; outcome = Ok (purging a r.outcome) }

  after_discover : (d : Drawn ℕ) (s : DiscoverState) (a : PollAnswer) (v : Bool)
      → (when v then left_by (dropped c t) (going d s a v) else left_by (kept c t) (going d s a v)) ≡ gone d s a (when v then dropped c t else restarted c t)
  unfolding when◌then◌else◌
  after_discover d s a true = refl
  after_discover d s a false = refl

  after_moved : (d : Drawn ℕ) (s : Sending) (a : PollAnswer) → after_change c t (moved_by c.session.state d s a) ≡ settled_by c t d s a
  unfolding after_change cleared
  after_moved d (Discover s) a = after_discover d s a (has_lease c.session.state)
  after_moved d (Request s) a = sym (if_false _ refl refl)
  after_moved d (Renew s) a = sym (if_false _ refl refl)

-- a poll is what is left by what it changes
abbrev into : Client → Tables → ChangeInto → PolledInto
into c t m = record { polled = after_change c t m.change; buffer = m.buffer }

module _ (c : Client) (t : Tables) (g : Rand) (wake : Instant) (s : Sending) (h : refusal_of c.settings ≡ None) where
  abbrev came : List ℕ → Result ℕ Refusal → PolledInto
  came b (Ok n) = record { polled = settled_by c t (drawn c g wake s) s (built n (endpoints_of c.lease s) wake); buffer = over (datagram_of c g s) b }
  came b (Err n) = refused_by c t g b ShortBuffer

  came_into : (b : List ℕ) (a : Result ℕ Refusal) → came b a ≡ into c t (change_written c g b wake s a)
  came_into b (Ok n) =
      ap (λ (x : Polled). record { polled = x; buffer = over (datagram_of c g s) b }) (sym (after_moved c t (drawn c g wake s) s (built n (endpoints_of c.lease s) wake)))
  came_into b (Err n) = ap (λ (x : Polled). record { polled = x; buffer = b }) (sym (after_unmoved c t g (Err ShortBuffer)))

  sent_into : (b : List ℕ) → sent c t g b wake s ≡ into c t (change_sent c g b wake s)
  unfolding sent when◌then◌else◌
  sent_into [] = ap (λ (x : Polled). record { polled = x; buffer = [] }) (sym (after_moved c t (drawn c g wake s) s (silent wake)))
  sent_into (x ∷ xs) =
      let size = length (body_of c.settings c.lease (id_of c g s) s) in
      let room = length (x ∷ xs) in
      let out = length (datagram_of c g s) in
      let l = datagram_size c.settings h c.lease (id_of c g s) s in
      if_cases (λ a. sent c t g (x ∷ xs) wake s ≡ came (x ∷ xs) a) (leb (8 + size) room)
      (λ e. let f = leb-true (8 + size) room e in sym (if_false (refused_by c t g (x ∷ xs) ShortBuffer) (le-ltb room out (omega (arith, l, f))) (ap (λ n. came (x ∷ xs) (Ok n)) (sym l))))
      (λ e. let f = leb-false (8 + size) room e in sym (if_true (moved c t g (x ∷ xs) wake s) (lt-ltb room out (omega (arith, l, f))) refl))
      ∙ ap (came (x ∷ xs)) (fits_or_not c.settings h c.lease (id_of c g s) s room) ∙ came_into (x ∷ xs) (wrote c.settings c.lease (id_of c g s) s room)

module _ (c : Client) (t : Tables) (g : Rand) (now : Instant) (b : List ℕ) where
  -- The poll of a client and tables that are whole.
  polled_by_change : whole_all c t ≡ true → polled c t g now b ≡ into c t (poll_change c g now b)
  unfolding polled_with poll_change
  polled_by_change h =
      let d = decided (waits_of c.settings) c.session.state now.millis in
      sym (if_false _ (ap not h) refl) ∙ by d.due d.wake
    where
      by : (d : Option Sending) (m : Instant) → polled_as c t g b m d ≡ into c t (change_as c g b m d)
      by None m = ap (λ (x : Polled). record { polled = x; buffer = b }) (sym (after_unmoved c t g (Ok (silent m))))
      by (Some s) m = sent_into c t g m s (settings_whole c (all_parts c t h).0) b

  -- from the calls that make it
  pub poll_broken : whole_all c t ≡ false → (refusal c t g NotWhole ≡ (polled c t g now b).polled) × (b ≡ (polled c t g now b).buffer)
  unfolding polled_with when◌then◌else◌
  poll_broken h = rw h (refl, refl)

  module _ {m : PollChange} {b' : List ℕ} (h : whole_all c t ≡ true) (o : (m ≡ (poll_change c g now b).change) × (b' ≡ (poll_change c g now b).buffer)) where
    changed : {r : Polled} → r ≡ after_change c t m → (r ≡ (polled c t g now b).polled) × (b' ≡ (polled c t g now b).buffer)
    changed e =
        let p = polled_by_change h in
        (e ∙ ap (after_change c t) o.0 ∙ sym (ap (λ (x : PolledInto). x.polled) p), o.1 ∙ sym (ap (λ (x : PolledInto). x.buffer) p))

    pub poll_drops : {r : Polled} → m.drops ≡ true → r ≡ left_by (dropped c t) m → (r ≡ (polled c t g now b).polled) × (b' ≡ (polled c t g now b).buffer)
    unfolding after_change
    poll_drops e f = changed (if_true (left_by (kept c t) m) e f)

    pub poll_keeps : m.drops ≡ false → (left_by (kept c t) m ≡ (polled c t g now b).polled) × (b' ≡ (polled c t g now b).buffer)
    unfolding after_change
    poll_keeps e = changed (if_false (left_by (dropped c t) m) e refl)
