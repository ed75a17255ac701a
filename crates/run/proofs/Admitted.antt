-- What demand 3 does not exclude: garbage in a message. Whatever the calls, if they meet the claim, so do they with the buffer
-- wiped wherever a message is built. What stands in the buffer is the poll's contract. Assumes nothing.
use Rattle.std.proofs.Common.{Some, Result, Ok, Err}
use Prim.Native.Nat.{ℕ, ◌+◌, ◌<◌}
use mathlib.Core.Path.{◌≡◌, refl, sym, ap, ◌∙◌, subst, subst⁻¹}
use mathlib.Core.List.{List, [], ◌∷◌}
use lib.Dec.{eqb}
use borrow.Author.Tests.{eq-eqb}
use Rattle.choice.specs.Choice.{when◌then◌else◌}
use Rattle.choice.proofs.Choices.{if_true}
use Rattle.clock.specs.declared.instant.Instant.{Instant}
use Rattle.clock.specs.declared.rand.Rand.{Rand}
use Rattle.tables.specs.declared.tables.Tables.{Tables}
use Rattle.settings.specs.declared.settings.Settings.{Settings}
use Rattle.client.specs.Polls.{PolledInto}
use Rattle.client.specs.declared.client.Client.{Client}
use Rattle.client.specs.declared.poll.PollAnswer.{PollAnswer}
use Rattle.run.specs.Calls.{Post, Calls, Deed, Reply, Reset, ByHand, Call, Poll, Do, LookUp}
use Rattle.run.specs.Demand3.{Entry, Event, moment_after, Done, CameTo, Polls, Does, Answers, IfPolls, IfDoes, leaves, tells, done, comes, came_to, stepped, told, older, noted_all, lost_all, Run, start, next, Throughout, Since, never, later, counted, is_polled, in_time, Timely, Tabled, after, total, OnlyPolls, NoneAt, Quiet, Enough, Builds, Owed, Wakes, AfterPoll, After, TooShort, Justly, Open, Demand3}
use Rattle.reasons.specs.declared.refusal.Refusal.{Refusal}

-- The buffer, empty where a message was built into it.
unfoldable pub wiped : Result PollAnswer Refusal → List ℕ → List ℕ
wiped (Ok answer) buffer = when eqb answer.length 0 then buffer else []
wiped (Err number) buffer = buffer

abbrev garbled : PolledInto → PolledInto
garbled r = record { polled = r.polled; buffer = wiped r.polled.outcome r.buffer }

abbrev pub garbling : Calls → Calls
garbling k = record {
  create = k.create;
  poll = λ c t g now buffer. garbled (k.poll c t g now buffer);
  process = k.process;
  reset = k.reset;
  by_hand = k.by_hand;
}

-- What a call comes to then.
abbrev garbled_in : CameTo → CameTo
garbled_in (Polls buffer left) = Polls buffer (garbled left)
garbled_in (Does deed left) = Does deed left
garbled_in Answers = Answers

leaves_same : (p : Post) (now : Instant) (x : CameTo) → leaves p now (garbled_in x) ≡ leaves p now x
leaves_same p now (Polls b left) = refl
leaves_same p now (Does d left) = refl
leaves_same p now Answers = refl

tells_same : (x : CameTo) → tells (garbled_in x) ≡ tells x
tells_same (Polls b left) = refl
tells_same (Does d left) = refl
tells_same Answers = refl

-- what is said of entries that poll, and of those that do a deed
abbrev NotEnough : ℕ → List ℕ → PolledInto → Type 0
NotEnough n b left = Enough n b → ⊥

abbrev BuildsInto : ℕ → List ℕ → PolledInto → Type 0
BuildsInto n b left = Enough n b → Builds n b left

polls_too : (P Q : List ℕ → PolledInto → Type 0) → ((b : List ℕ) (left : PolledInto) → P b left → Q b (garbled left)) → (x : CameTo) → IfPolls P x → IfPolls Q (garbled_in x)
polls_too P Q f (Polls b left) h = f b left h
polls_too P Q f (Does d left) h = tt
polls_too P Q f Answers h = tt

polls_back : (n : ℕ) (x : CameTo) → IfPolls (NotEnough n) (garbled_in x) → IfPolls (NotEnough n) x
polls_back n (Polls b left) h = h
polls_back n (Does d left) h = tt
polls_back n Answers h = tt

deeds_too : (P Q : Deed → Done → Type 0) → ((d : Deed) (left : Done) → P d left → Q d left) → (x : CameTo) → IfDoes P x → IfDoes Q (garbled_in x)
deeds_too P Q f (Polls b left) h = tt
deeds_too P Q f (Does d left) h = f d left h
deeds_too P Q f Answers h = tt

deeds_back : (x : CameTo) → IfDoes (λ d left. ⊥) (garbled_in x) → IfDoes (λ d left. ⊥) x
deeds_back (Polls b left) h = tt
deeds_back (Does d left) h = h
deeds_back Answers h = tt

wiped_none : (a : PollAnswer) (b : List ℕ) → a.length ≡ 0 → wiped (Ok a) b ≡ b
unfolding wiped
wiped_none a b e = sym (if_true _ (eq-eqb a.length 0 e) refl)

quiet_too : (p : Post) (b : List ℕ) (left : PolledInto) → Quiet p b left → Quiet p b (garbled left)
quiet_too p b left q = record {
  answer = q.answer;
  answered = q.answered;
  length = q.length;
  client = q.client;
  tables = q.tables;
  rand = q.rand;
  buffer = ap (λ (o : Result PollAnswer Refusal). wiped o left.buffer) q.answered ∙ wiped_none q.answer left.buffer q.length ∙ q.buffer;
}

builds_too : (n : ℕ) (b : List ℕ) (left : PolledInto) → Builds n b left → Builds n b (garbled left)
builds_too n b left q = record { answer = q.answer; answered = q.answered; length = q.length }

module _ (k : Calls) (s : Settings) where
  done_same : (c : Client) (t : Tables) (g : Rand) (now : Instant) (d : Deed) → done (garbling k) s c t g now d ≡ done k s c t g now d
  done_same c t g now (Reply source bytes) = refl
  done_same c t g now Reset = refl
  done_same c t g now (ByHand m) = refl

  comes_garbled : (c : Client) (t : Tables) (g : Rand) (now : Instant) (call : Call) → comes (garbling k) s c t g now call ≡ garbled_in (comes k s c t g now call)
  comes_garbled c t g now (Poll b) = refl
  comes_garbled c t g now (Do d) = ap (Does d) (done_same c t g now d)
  comes_garbled c t g now (LookUp q) = refl

  came_to_lem : (p : Post) (e : Entry) → came_to (garbling k) s p e ≡ garbled_in (came_to k s p e)
  came_to_lem p e = comes_garbled p.client p.tables p.rand (moment_after p e.step) e.call

  stepped_same : (p : Post) (e : Entry) → stepped (garbling k) s p e ≡ stepped k s p e
  stepped_same p e = ap (leaves p (moment_after p e.step)) (came_to_lem p e) ∙ leaves_same p (moment_after p e.step) (came_to k s p e)

  told_same : (p : Post) (e : Entry) → told (garbling k) s p e ≡ told k s p e
  told_same p e = ap tells (came_to_lem p e) ∙ tells_same (came_to k s p e)

  next_same : (r : Run) (e : Entry) → next (garbling k) s r e ≡ next k s r e
  next_same r e = λ i. record {
    post = stepped_same r.post e i;
    history = noted_all (told_same r.post e i) (older e.step r.history);
    lost = lost_all r.post.tables (told_same r.post e i) (older e.step r.history) r.lost;
  }

  -- WAKING
  after_same : (p : Post) (es : List Entry) → after (garbling k) s p es ≡ after k s p es
  after_same p [] = refl
  after_same p (e ∷ es) = after_same (stepped (garbling k) s p e) es ∙ ap (λ (q : Post). after k s q es) (stepped_same p e)

  total_same : (p : Post) (es : List Entry) → total (garbling k) s p es ≡ total k s p es
  total_same p [] = refl
  total_same p (e ∷ es) = ap (λ (n : ℕ). e.step + n) (total_same (stepped (garbling k) s p e) es ∙ ap (λ (q : Post). total k s q es) (stepped_same p e))

  only_back : (p : Post) (es : List Entry) → OnlyPolls (garbling k) s p es → OnlyPolls k s p es
  only_back p [] o = tt
  only_back p (e ∷ es) o = (
    deeds_back (came_to k s p e) (subst (IfDoes (λ d left. ⊥)) (came_to_lem p e) o.0),
    subst (λ (q : Post). OnlyPolls k s q es) (stepped_same p e) (only_back (stepped (garbling k) s p e) es o.1),
  )

  none_back : (n d u : ℕ) (p : Post) (es : List Entry) → NoneAt (garbling k) s n d u p es → NoneAt k s n d u p es
  none_back n d u p [] o = tt
  none_back n d u p (e ∷ es) o = (
    λ here. polls_back n (came_to k s p e) (subst (IfPolls (NotEnough n)) (came_to_lem p e) (o.0 here)),
    subst (λ (q : Post). NoneAt k s n d (u + e.step) q es) (stepped_same p e) (none_back n d (u + e.step) (stepped (garbling k) s p e) es o.1),
  )

  owed_too : (p : Post) (d : ℕ) → Owed k s p d → Owed (garbling k) s p d
  owed_too p d v = record {
    n = v.n;
    some = v.some;
    most = v.most;
    builds = λ es o none e here.
        subst⁻¹ (λ (q : Post). IfPolls (BuildsInto v.n) (came_to (garbling k) s q e)) (after_same p es)
        (subst⁻¹ (IfPolls (BuildsInto v.n)) (came_to_lem (after k s p es) e)
        (polls_too (BuildsInto v.n) (BuildsInto v.n) (λ b left f enough. builds_too v.n b left (f enough)) (came_to k s (after k s p es) e)
        (v.builds es (only_back p es o) (none_back v.n d 0 p es none) e (subst (λ (m : ℕ). m + e.step ≡ d) (total_same p es) here))));
  }

  wakes_too : (p : Post) (d : ℕ) → Wakes k s p d → Wakes (garbling k) s p d
  wakes_too p d v = record {
    ahead = v.ahead;
    within = v.within;
    before = λ es o e l.
        subst⁻¹ (λ (q : Post). IfPolls (Quiet q) (came_to (garbling k) s q e)) (after_same p es)
        (subst⁻¹ (IfPolls (Quiet (after k s p es))) (came_to_lem (after k s p es) e)
        (polls_too (Quiet (after k s p es)) (Quiet (after k s p es)) (quiet_too (after k s p es)) (came_to k s (after k s p es) e)
        (v.before es (only_back p es o) e (subst (λ (m : ℕ). m + e.step < d) (total_same p es) l))));
    at = λ f. owed_too p d (v.at f);
  }

  -- ALONG THE RUN
  after_poll_too : (r : Run) (a : PollAnswer) → AfterPoll k s r a → AfterPoll (garbling k) s r a
  after_poll_too r a v = record { lease = v.lease; wakes = wakes_too r.post _ v.wakes }

  abbrev WellPolled : Calls → Run → List ℕ → PolledInto → Type 0
  WellPolled c r b left = (a : PollAnswer) → left.polled.outcome ≡ Ok a → AfterPoll c s r a

  after_too : (r : Run) (e : Entry) → After k s r e → After (garbling k) s r e
  after_too r e v = record {
    tables = subst⁻¹ Tabled (next_same r e) v.tables;
    polls =
        subst⁻¹ (λ (q : Run). IfPolls (WellPolled (garbling k) q) (came_to (garbling k) s r.post e)) (next_same r e)
        (subst⁻¹ (IfPolls (WellPolled (garbling k) (next k s r e))) (came_to_lem r.post e)
        (polls_too (WellPolled k (next k s r e)) (WellPolled (garbling k) (next k s r e)) (λ b left f a answered. after_poll_too (next k s r e) a (f a answered)) (came_to k s r.post e) v.polls));
  }

  short_too : (p : Post) (now : Instant) (b : List ℕ) (n : Refusal) → TooShort k s p now b n → TooShort (garbling k) s p now b n
  short_too p now b n v = record {
    by_8 = v.by_8;
    lent = v.lent;
    n = v.n;
    short = v.short;
    most = v.most;
    longer = λ other l. builds_too v.n other (k.poll p.client p.tables p.rand now other) (v.longer other l);
  }

  just_too : (p : Post) (now : Instant) (d : Deed) (n : Refusal) → Justly k s p now d n → Justly (garbling k) s p now d n
  just_too p now (Reply source bytes) n j = j
  just_too p now Reset n j = j
  just_too p now (ByHand m) n j = j

  abbrev ShortOnly : Calls → Post → Instant → List ℕ → PolledInto → Type 0
  ShortOnly c p now b left = (n : Refusal) → left.polled.outcome ≡ Err n → TooShort c s p now b n

  abbrev JustOnly : Calls → Post → Instant → Deed → Done → Type 0
  JustOnly c p now d left = (n : Refusal) → left.refused ≡ Some n → Justly c s p now d n

  open_too : (r : Run) (e : Entry) → Open k s r e → Open (garbling k) s r e
  open_too r e v =
      let p = r.post in
      let now = moment_after r.post e.step in
      record {
        polls =
            subst⁻¹ (IfPolls (ShortOnly (garbling k) p now)) (came_to_lem p e)
            (polls_too (ShortOnly k p now) (ShortOnly (garbling k) p now) (λ b left f n refused. short_too p now b n (f n refused)) (came_to k s p e) v.polls);
        deeds =
            subst⁻¹ (IfDoes (JustOnly (garbling k) p now)) (came_to_lem p e)
            (deeds_too (JustOnly k p now) (JustOnly (garbling k) p now) (λ d left f n refused. just_too p now d n (f n refused)) (came_to k s p e) v.deeds);
      }

  throughout_too : (P Q : Run → Entry → Type 0) → ((r : Run) (e : Entry) → P r e → Q r e) → (r : Run) (es : List Entry) → Throughout k s P r es → Throughout (garbling k) s Q r es
  throughout_too P Q f r [] h = tt
  throughout_too P Q f r (e ∷ es) h = (
    f r e h.0,
    subst⁻¹ (λ (q : Run). Throughout (garbling k) s Q q es) (next_same r e) (throughout_too P Q f (next k s r e) es h.1),
  )

  timely_back : (gap : Since) (r : Run) (es : List Entry) → Timely (garbling k) s gap r es → Timely k s gap r es
  timely_back gap r [] h = tt
  timely_back gap r (e ∷ es) h = (
    subst (λ (vs : List Event). in_time (is_polled vs) (later e.step gap)) (told_same r.post e) h.0,
    timely_back (counted (is_polled (told k s r.post e)) (later e.step gap)) (next k s r e) es
        (subst (λ (vs : List Event). Timely (garbling k) s (counted (is_polled vs) (later e.step gap)) (next k s r e) es) (told_same r.post e)
        (subst (λ (q : Run). Timely (garbling k) s (counted (is_polled (told (garbling k) s r.post e)) (later e.step gap)) q es) (next_same r e) h.1)),
  )

pub garbling_admitted : (k : Calls) → Demand3 k → Demand3 (garbling k)
garbling_admitted k d = record {
  owed = λ s ignoring c made t a r rand m es timely.
      throughout_too k s (After k s) (After (garbling k) s) (after_too k s) (start c t rand m) es
      (d.owed s ignoring c made t a r rand m es (timely_back k s never (start c t rand m) es timely));
  no_lockout = λ s ignoring c made t h rand m es.
      throughout_too k s (Open k s) (Open (garbling k) s) (open_too k s) (start c t rand m) es (d.no_lockout s ignoring c made t h rand m es);
}
