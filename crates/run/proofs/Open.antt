-- From whole tables no call locks a client out: what is refused, is refused for its own arguments. Assumes nothing.
use Rattle.client.specs.declared.poll.PollAnswer.{PollAnswer}
use Rattle.std.proofs.Common.{Some, Option, None, Err, Result, Ok}
use Prim.Native.Nat.{ℕ, ◌-◌, ◌≤◌}
use mathlib.Core.Path.{◌≡◌, refl, sym, ap, ◌∙◌, subst, subst⁻¹}
use mathlib.Core.Bool.{Bool, true, false, not, false≢true}
use mathlib.Core.List.{List, [], ◌∷◌}
use lib.ListN.{length}
use lib.Dec.{leb}
use Rattle.clock.specs.Moments.{due}
use Rattle.clock.specs.declared.instant.Instant.{Instant}
use Rattle.clock.specs.declared.rand.Rand.{Rand}
use Rattle.clock.specs.declared.waits.Waits.{Waits}
use Rattle.choice.proofs.Choices.{if_cases}
use Rattle.machine.specs.States.{has_lease}
use Rattle.machine.specs.Decisions.{decided_discovering, decided_requesting, next_retry, rebinds, decided_renewing, decided}
use Rattle.machine.specs.declared.state.ClientState.{ClientState}
use Rattle.machine.specs.declared.state.ClientState.TheVariants.{Init, Discovering, Requesting, Renewing}
use Rattle.machine.specs.declared.decide.Sending.{Sending}
use Rattle.machine.specs.declared.decide.Decision.{Decision}
use Rattle.tables.specs.declared.tables.Tables.{Tables}
use Rattle.client.specs.Clients.{whole_all}
use Rattle.client.specs.Polls.{PolledInto, datagram_of, too_short, polled_as, polled_by, polled_with}
use Rattle.settings.specs.declared.settings.Settings.{Settings}
use Rattle.client.specs.declared.client.Client.{Client}
use Rattle.client.proofs.Wholes.{all_parts}
use Rattle.client.proofs.Effects.{Fitting, moved_settles}
use Rattle.client.proofs.Polling.{sent_cases, polled_whole, datagram_fits, moved_whole}
use Rattle.run.specs.Calls.{Post, calls_with}
use Rattle.run.specs.Demand3.{Entry, moment_after, CameTo, IfPolls, IfDoes, leaves, adds, next, Run, Throughout, Enough, Builds, TooShort, Justly, Open}
use Rattle.run.proofs.Answers.{is_answered}
use Rattle.run.proofs.Polls.{enough_or_short, short_lent, sends_by}
use Rattle.run.proofs.Sorted.{Sorted, polls, does, answers, sorted}
use Rattle.run.proofs.Lawful.{Sound}
use Rattle.run.proofs.Deeds.{lawful}
use Rattle.reasons.specs.declared.refusal.Refusal.{Refusal}
use Rattle.reasons.specs.declared.refusal.Refusal.TheVariants.{ShortBuffer}

-- A POLL

-- what is due fits the state
abbrev FitDue : Client → Option Sending → Type 0
FitDue c None = Unit {0}
FitDue c (Some s) = Fitting c s

module _ (c : Client) (w : Waits) (m : ℕ) where
  abbrev Fits : Decision → Type 0
  Fits d = FitDue c d.due

  decided_fits : (state : ClientState) → c.session.state ≡ state → Fits (decided w state m)
  unfolding decided decided_discovering decided_requesting decided_renewing
  decided_fits Init e = tt
  decided_fits (Discovering s) e = if_cases Fits (due s.retry_at.millis m) (λ f. tt) (λ f. tt)
  decided_fits (Requesting s) e =
      if_cases Fits (not (due s.tries.retry_at.millis m)) (λ f. tt)
      (λ f. if_cases Fits (leb w.request_retries s.tries.retry) (λ k. tt) (λ k. ap has_lease e))
  decided_fits (Renewing s) e =
      if_cases Fits (due s.expires_at.millis m) (λ f. tt)
      (λ f. if_cases Fits (not (due (next_retry s) m)) (λ k. tt)
      (λ k. if_cases Fits (rebinds s m) (λ l. ap has_lease e) (λ l. ap has_lease e)))

enough_for : (n : ℕ) (b : List ℕ) → n ≤ length b → Enough n b
enough_for n [] h = tt
enough_for n (y ∷ ys) h = h

module _ (w : Waits) (c : Client) (tb : Tables) (g : Rand) (now : Instant) (wh : whole_all c tb ≡ true) where
  abbrev SoundAfter : PolledInto → Type 0
  SoundAfter r = (whole_all r.polled.client r.polled.tables ≡ true) × (r.polled.client.settings ≡ c.settings)

  poll_sound : (b : List ℕ) → SoundAfter (polled_with w c tb g now b)
  poll_sound b =
      subst⁻¹ SoundAfter (polled_whole c tb g b wh w now)
      (by (decided w c.session.state now.millis).due (decided w c.session.state now.millis).wake (decided_fits c w now.millis c.session.state refl))
    where
      by : (d : Option Sending) (m : Instant) → FitDue c d → SoundAfter (polled_as c tb g b m d)
      by None m f = (wh, refl)
      by (Some s) m f = sent_cases c tb g b SoundAfter (wh, refl) m s (moved_whole c tb wh g b m s f, (moved_settles c tb g b m s f).settings)

  reasons_same : {j k : Refusal} → ◌≡◌ {A = Result PollAnswer Refusal} (Err j) (Err k) → j ≡ k
  reasons_same e = cc

  -- What a refusal of a poll tells.
  record Refuses (b : List ℕ) (k : Refusal) : Type 0 where
    by_8 : k ≡ ShortBuffer
    sent : Sending
    short : too_short b (length (datagram_of c g sent)) ≡ true
    longer : (other : List ℕ) → too_short other (length (datagram_of c g sent)) ≡ false → Builds (length (datagram_of c g sent)) other (polled_with w c tb g now other)

  module _ (b : List ℕ) (k : Refusal) where
    by_sends : (s : Sending) (m : Instant) → decided w c.session.state now.millis ≡ record { due = Some s; wake = m }
        → (polled_by c tb g b (record { due = Some s; wake = m })).polled.outcome ≡ Err k → (v : Bool) → too_short b (length (datagram_of c g s)) ≡ v → Refuses b k
    by_sends s m q f true t =
        let n = sends_by c tb g m s in
        record {
          by_8 = sym (reasons_same (sym (ap (λ (r : PolledInto). r.polled.outcome) (n.refuses b t)) ∙ f));
          sent = s;
          short = t;
          longer = λ other l.
              subst⁻¹ (Builds (length (datagram_of c g s)) other) (polled_whole c tb g other wh w now ∙ ap (polled_by c tb g other) q) (n.builds other l);
        }
    by_sends s m q f false t =
        let n = (sends_by c tb g m s).builds b t in
        absurd (false≢true (sym (ap is_answered (sym n.answered ∙ f))))

    by_due : (d : Option Sending) (m : Instant) → decided w c.session.state now.millis ≡ record { due = d; wake = m } → (polled_as c tb g b m d).polled.outcome ≡ Err k → Refuses b k
    by_due None m q f = absurd (false≢true (sym (ap is_answered f)))
    by_due (Some s) m q f = by_sends s m q f (too_short b (length (datagram_of c g s))) refl

    refusal : (polled_with w c tb g now b).polled.outcome ≡ Err k → Refuses b k
    refusal e =
        by_due (decided w c.session.state now.millis).due (decided w c.session.state now.millis).wake refl
        (sym (ap (λ (r : PolledInto). r.polled.outcome) (polled_whole c tb g b wh w now)) ∙ e)

-- THE RUN
module _ (w : Waits) (s : Settings) where
  poll_open : (p : Post) (now : Instant) → Sound s p → (b : List ℕ) (k : Refusal) → (polled_with w p.client p.tables p.rand now b).polled.outcome ≡ Err k
      → TooShort (calls_with w) s p now b k
  poll_open p now v b k e =
      let r = refusal w p.client p.tables p.rand now v.whole b k e in
      let l = short_lent (length (datagram_of p.client p.rand r.sent)) b r.short in
      record {
        by_8 = r.by_8;
        lent = l.0;
        n = length (datagram_of p.client p.rand r.sent);
        short = l.1;
        most = subst (λ (x : Settings). length (datagram_of p.client p.rand r.sent) ≤ x.mtu - 20) v.settings_are (datagram_fits p.client (all_parts p.client p.tables v.whole).0 p.rand r.sent).1;
        longer = λ other q. r.longer other (enough_or_short (length (datagram_of p.client p.rand r.sent)) other (enough_for (length (datagram_of p.client p.rand r.sent)) other q));
      }

  polls_open : (p : Post) (now : Instant) → Sound s p → {x : CameTo} → Sorted w s p.client p.tables p.rand now x
      → IfPolls (λ b left. (k : Refusal) → left.polled.outcome ≡ Err k → TooShort (calls_with w) s p now b k) x
  polls_open p now v (polls b) = poll_open p now v b
  polls_open p now v (does d) = tt
  polls_open p now v answers = tt

  deeds_open : (p : Post) (now : Instant) → Sound s p → {x : CameTo} → Sorted w s p.client p.tables p.rand now x → IfDoes (λ d left. (n : Refusal) → left.refused ≡ Some n → Justly (calls_with w) s p now d n) x
  deeds_open p now v (polls b) = tt
  deeds_open p now v (does d) = (lawful w s d).just p now v
  deeds_open p now v answers = tt

  stays_sound : (p : Post) (now : Instant) → Sound s p → {x : CameTo} → Sorted w s p.client p.tables p.rand now x → Sound s (leaves p now x)
  stays_sound p now v (polls b) =
      let k = poll_sound w p.client p.tables p.rand now v.whole b in
      record { whole = k.0; settings_are = k.1 ∙ v.settings_are }
  stays_sound p now v (does d) = (lawful w s d).sound p now v
  stays_sound p now v answers = record { whole = v.whole; settings_are = v.settings_are }

  pub open_from : (es : List Entry) (r : Run) → Sound s r.post → Throughout (calls_with w) s (Open (calls_with w) s) r es
  open_from [] r v = tt
  open_from (e ∷ es) r v =
      let now = moment_after r.post (adds (calls_with w) s r.post e) in
      let x = sorted w s r.post.client r.post.tables r.post.rand now e.call in
      (record { polls = polls_open r.post now v x; deeds = deeds_open r.post now v x }, open_from es (next (calls_with w) s r e) (stays_sound r.post now v x))
