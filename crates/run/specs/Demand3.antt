-- Demand 3, as document 01 reads it in "The run in demand 3": one claim about every list of calls from a fresh client, of any
-- set of calls. What stands in quotes is document 01's, or the owner's. `Demand3`, the last definition, is the claim; that our
-- calls meet it is proved in proofs/Whole.antt, and that wrong ones don't in proofs/Refuted.antt.
--
-- In short, for every list in which at most 2^30 ms pass from one poll not refused to the next:
--   after every call, DHCP's entries in the tables are the held ACK's, less any lost: `Tabled`;
--   after a poll not refused, a lease is in force exactly if an ACK is held: `AfterPoll`, lease;
--   then polls change and build nothing before the waking moment: `Wakes`, before;
--   and the first at it builds a message, unless it lies 24 hours on: `Wakes`, at.
-- And for every list, from whole tables: no call locks the client out, `Open`.
--
-- A call polls, does a deed or merely answers: `CameTo`. The claim speaks of these three and of no call by name; `done` and
-- `comes` say what each call is.
use Rattle.std.specs.Prelude.{ℕ, ◌+◌, ◌-◌, ◌^◌, ◌≤◌, ◌<◌, ◌≡◌, Bool, true, false, not, List, [], ◌∷◌, length, leb, eqb, Option, None, Some, Result, Ok, Err, ⊤}
use Rattle.choice.specs.Choice.{when◌then◌else◌}
use Rattle.clock.specs.Moments.{wrap, plus, gap, moment}
use Rattle.clock.specs.Clocks.{day}
use Rattle.clock.specs.declared.instant.Instant.{Instant}
use Rattle.clock.specs.declared.rand.Rand.{Rand}
use Rattle.reasons.specs.declared.refusal.Refusal.{Refusal}
use Rattle.reasons.specs.declared.refusal.Refusal.TheVariants.{ShortBuffer, NotWhole, Router, TableFull}
use Rattle.octets.specs.Addresses.{unicast, prefix_len}
use Rattle.octets.specs.Codes.{ack, nak, mask_code}
use Rattle.wire.specs.Options.{option_data}
use Rattle.wire.specs.Readings.{your_address, message_type, address_of, router}
use Rattle.machine.specs.States.{has_lease}
use Rattle.tables.specs.Entries.{full}
use Rattle.tables.specs.Tables.{addrs_of, routes_of, dhcp_addrs, other_addrs, dhcp_routes, other_routes, prefix_fits, whole_tables}
use Rattle.tables.specs.Applied.{same_cidr, same_router, leased_addrs, leased_routes}
use Rattle.tables.specs.declared.tables.Tables.{Tables}
use Rattle.tables.specs.declared.apply.Cidr.{Cidr}
use Rattle.tables.specs.declared.apply.Installed.{Installed}
use Rattle.tables.specs.declared.manual.Changed.{Changed}
use Rattle.settings.specs.Settings.{maximum_of}
use Rattle.lease.specs.Leases.{nothing}
use Rattle.lease.specs.Bound.{reply_lease}
use Rattle.client.specs.Polls.{PolledInto}
use Rattle.settings.specs.declared.settings.Settings.{Settings}
use Rattle.client.specs.declared.client.Client.{Client}
use Rattle.client.specs.declared.poll.PollAnswer.{PollAnswer}
use Rattle.client.specs.Outcomes.{Processed, WasReset}
use Rattle.run.specs.Calls.{Post, Manual, AddAddress, DropAddress, AddRoute, DropRoute, Deed, Reply, Reset, ByHand, Call, Poll, Do, LookUp, Calls}
use Rattle.client.specs.declared.process.NotTaken.{NotTaken}
use Rattle.client.specs.declared.process.NotTaken.TheVariants.{PassedOver, Refused}

-- EVENTS, of which the history is told

-- What an ACK gives, read from its bytes: address and prefix; the router of the default route, or none.
abbrev pub prefix_by : Option ℕ → Option ℕ
prefix_by None = None
prefix_by (Some mask) = prefix_len mask

abbrev pub cidr_of : Option ℕ → Option ℕ → Option Cidr
cidr_of None None = None
cidr_of None (Some prefix) = None
cidr_of (Some address) None = None
cidr_of (Some address) (Some prefix) = Some (record { address = address; prefix = prefix })

abbrev pub given_by : List ℕ → Installed
given_by bytes = record {
  address = cidr_of (your_address bytes) (prefix_by (address_of (option_data mask_code bytes)));
  router = router bytes;
}

-- A poll that was not refused; an ACK, with its L, that was accepted; a NAK that was accepted, or a reset that was not
-- refused.
pub data Event : Type 0 where
  Polled : Event
  Acked : (lease : ℕ) (given : Installed) → Event
  Cleared : Event

-- "A reply is accepted if its call gives neither a refusal nor 20 to 30." What it is, its message type says.
unfoldable pub accepted_as : Settings → List ℕ → ℕ → List Event
accepted_as s bytes kind =
    when eqb kind ack then Acked (reply_lease (maximum_of s) bytes) (given_by bytes) ∷ []
    else when eqb kind nak then Cleared ∷ []
    else []

abbrev pub accepted : Settings → List ℕ → Option ℕ → List Event
accepted s bytes None = []
accepted s bytes (Some kind) = accepted_as s bytes kind

-- "The history is kept from creation's settings and the entries' arguments, steps and answers alone." These three
-- take nothing else: they say what it is told of a poll, of a reply, of a reset. Of the rest it is told nothing.
abbrev pub poll_tells : Result PollAnswer Refusal → List Event
poll_tells (Ok answer) = Polled ∷ []
poll_tells (Err reason) = []

abbrev pub reply_tells : Settings → List ℕ → Result Bool NotTaken → List Event
reply_tells s bytes (Ok purge) = accepted s bytes (message_type bytes)
reply_tells s bytes (Err reason) = []

abbrev pub reset_tells : Result Bool Refusal → List Event
reset_tells (Ok purge) = Cleared ∷ []
reset_tells (Err reason) = []

-- DEEDS: what one leaves of client, tables and generator, what it tells the history, and its number where it is refused.
pub record Done : Type 0 where
  pub client : Client
  pub tables : Tables
  pub rand : Rand
  pub tells : List Event
  pub refused : Option Refusal

abbrev pub reply_refused : Result Bool NotTaken → Option Refusal
reply_refused (Ok purge) = None
reply_refused (Err (PassedOver why)) = None
reply_refused (Err (Refused reason)) = Some reason

abbrev pub by_reply : Settings → List ℕ → Rand → Processed → Done
by_reply s bytes rand r = record {
  client = r.client;
  tables = r.tables;
  rand = rand;
  tells = reply_tells s bytes r.outcome;
  refused = reply_refused r.outcome;
}

abbrev pub reset_refused : Result Bool Refusal → Option Refusal
reset_refused (Ok purge) = None
reset_refused (Err reason) = Some reason

abbrev pub by_reset : Rand → WasReset → Done
by_reset rand r = record {
  client = r.client;
  tables = r.tables;
  rand = rand;
  tells = reset_tells r.outcome;
  refused = reset_refused r.outcome;
}

abbrev pub hand_refused : Result ⊤ Refusal → Option Refusal
hand_refused (Ok done) = None
hand_refused (Err reason) = Some reason

abbrev pub by_hand : Client → Rand → Changed → Done
by_hand c rand r = record { client = c; tables = r.tables; rand = rand; tells = []; refused = hand_refused r.outcome }

-- WHAT A CALL COMES TO: it polls, into a buffer; it does a deed; or it merely answers. "one that does what a poll does counts as
-- one, and one that merely answers about the client accepts no reply and may stand where only polls follow."
pub data CameTo : Type 0 where
  Polls : (buffer : List ℕ) (left : PolledInto) → CameTo
  Does : (deed : Deed) (left : Done) → CameTo
  Answers : CameTo

-- What is said of an entry if it polls, with its buffer and what it left; and if it does a deed.
abbrev pub IfPolls : (List ℕ → PolledInto → Type 0) → CameTo → Type 0
IfPolls P (Polls buffer left) = P buffer left
IfPolls P (Does deed left) = Unit {0}
IfPolls P Answers = Unit {0}

abbrev pub IfDoes : (Deed → Done → Type 0) → CameTo → Type 0
IfDoes P (Polls buffer left) = Unit {0}
IfDoes P (Does deed left) = P deed left
IfDoes P Answers = Unit {0}

-- What it leaves: "each on the client, tables and generator the one before left"; "Nobody else writes client, tables or
-- generator meanwhile." A refused call moves the moment too.
abbrev pub leaves : Post → Instant → CameTo → Post
leaves p now (Polls buffer left) = record { client = left.polled.client; tables = left.polled.tables; rand = left.polled.rand; now = now }
leaves p now (Does deed left) = record { client = left.client; tables = left.tables; rand = left.rand; now = now }
leaves p now Answers = record { client = p.client; tables = p.tables; rand = p.rand; now = now }

-- What it tells the history.
abbrev pub tells : CameTo → List Event
tells (Polls buffer left) = poll_tells left.polled.outcome
tells (Does deed left) = left.tells
tells Answers = []

-- Of a set of calls, and of creation's settings: each deed, and each call.
module _ (k : Calls) (s : Settings) where
  abbrev pub done : Client → Tables → Rand → Instant → Deed → Done
  done c t g now (Reply source bytes) = by_reply s bytes g (k.process c t source bytes now)
  done c t g now Reset = by_reset g (k.reset c t)
  done c t g now (ByHand m) = by_hand c g (k.by_hand m t)

  abbrev pub comes : Client → Tables → Rand → Instant → Call → CameTo
  comes c t g now (Poll buffer) = Polls buffer (k.poll c t g now buffer)
  comes c t g now (Do deed) = Does deed (done c t g now deed)
  comes c t g now (LookUp q) = Answers

-- THE LIST

-- "Each entry has its arguments and a step of 0 ms or more; its moment is the one before plus the step, wrapped."
pub record Entry : Type 0 where
  pub step : ℕ
  pub call : Call

abbrev pub moment_after : Post → ℕ → Instant
moment_after p step = moment (plus p.now.millis step)

module _ (k : Calls) (s : Settings) where
  -- What an entry adds to the moment, and to the age of an ACK: its step. A name of its own, as a call may come that adds
  -- something else.
  abbrev pub adds : Post → Entry → ℕ
  adds p e = e.step

  -- What its call comes to, on what the entry before left; and what it leaves to the next.
  abbrev pub came_to : Post → Entry → CameTo
  came_to p e = comes k s p.client p.tables p.rand (moment_after p (adds p e)) e.call

  abbrev pub stepped : Post → Entry → Post
  stepped p e = leaves p (moment_after p (adds p e)) (came_to p e)

-- THE HISTORY

-- "It holds no ACK, or one with its L, address and prefix, route [..] and age; at first none."
pub data History : Type 0 where
  NoAck : History
  Held : (lease age : ℕ) (given : Installed) → History

-- "Each entry first adds its step to the age."
abbrev pub older : ℕ → History → History
older step NoAck = NoAck
older step (Held lease age given) = Held lease (age + step) given

-- "An accepted ACK takes the held one's place, at age 0. An accepted NAK or a reset not refused clears it, and so does a poll
-- not refused at age L or more. All else [..] changes only the age."
unfoldable pub expired : History → History
expired NoAck = NoAck
expired (Held lease age given) = when leb lease age then NoAck else Held lease age given

abbrev pub noted : Event → History → History
noted Polled h = expired h
noted (Acked lease given) h = Held lease 0 given
noted Cleared h = NoAck

abbrev pub noted_all : List Event → History → History
noted_all [] h = h
noted_all (v ∷ vs) h = noted_all vs (noted v h)

abbrev pub is_held : History → Bool
is_held NoAck = false
is_held (Held lease age given) = true

abbrev pub held_by : History → Installed
held_by NoAck = nothing
held_by (Held lease age given) = given

-- "One is lost if its table held four others when an ACK was last to enter it; an ACK equal to the lease enters nothing, so
-- what was lost before it stays lost." An ACK enters a table where what it gives there is not what the held one gives, none
-- counting as a value. The tables here are those before the call.
pub record Lost : Type 0 where
  pub addr : Bool
  pub route : Bool

unfoldable pub lost_by : Tables → Event → History → Lost → Lost
lost_by t Polled h lost = lost
lost_by t (Acked lease given) h lost = record {
  addr = when same_cidr given.address (held_by h).address then lost.addr else full (other_addrs t);
  route = when same_router given.router (held_by h).router then lost.route else full (other_routes t);
}
lost_by t Cleared h lost = lost

abbrev pub lost_all : Tables → List Event → History → Lost → Lost
lost_all t [] h lost = lost
lost_all t (v ∷ vs) h lost = lost_all t vs (noted v h) (lost_by t v h lost)

-- THE RUN: the post, and what is kept beside it.
pub record Run : Type 0 where
  pub post : Post
  pub history : History
  pub lost : Lost

-- "The list starts from a client that creation returned, any tables without DHCP entries, any generator and any moment."
abbrev pub start : Client → Tables → Rand → ℕ → Run
start client tables rand m = record {
  post = record { client = client; tables = tables; rand = rand; now = moment (wrap m) };
  history = NoAck;
  lost = record { addr = false; route = false };
}

module _ (k : Calls) (s : Settings) where
  -- What the history is told of an entry, and the run after it.
  abbrev pub told : Post → Entry → List Event
  told p e = tells (came_to k s p e)

  abbrev pub next : Run → Entry → Run
  next r e = record {
    post = stepped k s r.post e;
    history = noted_all (told r.post e) (older (adds k s r.post e) r.history);
    lost = lost_all r.post.tables (told r.post e) (older (adds k s r.post e) r.history) r.lost;
  }

  -- What holds of each entry and the run before it.
  abbrev pub Throughout : (Run → Entry → Type 0) → Run → List Entry → Type 0
  Throughout P r [] = Unit {0}
  Throughout P r (e ∷ es) = P r e × Throughout P (next r e) es

-- THE PREMISE: "at most 2^30 ms from one poll not refused to the next". Before the first there is nothing to count from.
pub data Since : Type 0 where
  never : Since
  since : (millis : ℕ) → Since

abbrev pub later : ℕ → Since → Since
later step never = never
later step (since millis) = since (millis + step)

abbrev pub is_polled : List Event → Bool
is_polled [] = false
is_polled (Polled ∷ vs) = true
is_polled (Acked lease given ∷ vs) = is_polled vs
is_polled (Cleared ∷ vs) = is_polled vs

abbrev pub in_time : Bool → Since → Type 0
in_time true never = Unit {0}
in_time true (since millis) = millis ≤ 2 ^ 30
in_time false gap = Unit {0}

abbrev pub counted : Bool → Since → Since
counted true gap = since 0
counted false gap = gap

abbrev pub Timely : Calls → Settings → Since → Run → List Entry → Type 0
Timely k s gap r [] = Unit {0}
Timely k s gap r (e ∷ es) =
    in_time (is_polled (told k s r.post e)) (later (adds k s r.post e) gap)
    × Timely k s (counted (is_polled (told k s r.post e)) (later (adds k s r.post e) gap)) (next k s r e) es

-- TABLES: "After every call the DHCP entries in the tables are exactly the held ACK's, less any lost."
unfoldable pub unless_lost : {A : Type 0} → Bool → List A → List A
unless_lost lost xs = when lost then [] else xs

pub record Tabled (r : Run) : Type 0 where
  pub addrs : dhcp_addrs r.post.tables ≡ unless_lost r.lost.addr (leased_addrs (held_by r.history).address)
  pub routes : dhcp_routes r.post.tables ≡ unless_lost r.lost.route (leased_routes (held_by r.history).router)

-- WAKING: "after each poll not refused the waking moment is the latest that will do".

-- "none before it changes or builds anything": "Changing is of client, tables, generator or buffer. Building is answering a
-- length above 0." Nor is one refused.
pub record Quiet (p : Post) (lent : List ℕ) (r : PolledInto) : Type 0 where
  pub answer : PollAnswer
  pub answered : r.polled.outcome ≡ Ok answer
  pub length : answer.length ≡ 0
  pub client : r.polled.client ≡ p.client
  pub tables : r.polled.tables ≡ p.tables
  pub rand : r.polled.rand ≡ p.rand
  pub buffer : r.buffer ≡ lent

-- A buffer that "is empty or long enough" for n octets, and what a poll with it answers: n, or 0 with an empty one.
abbrev pub Enough : ℕ → List ℕ → Type 0
Enough n [] = Unit {0}
Enough n (x ∷ xs) = n ≤ length (x ∷ xs)

abbrev pub length_in : List ℕ → ℕ → ℕ
length_in [] n = 0
length_in (x ∷ xs) n = n

pub record Builds (n : ℕ) (buffer : List ℕ) (r : PolledInto) : Type 0 where
  pub answer : PollAnswer
  pub answered : r.polled.outcome ≡ Ok answer
  pub length : answer.length ≡ length_in buffer n

module _ (k : Calls) (s : Settings) where
  -- What a list leaves.
  abbrev pub after : Post → List Entry → Post
  after p [] = p
  after p (e ∷ es) = after (stepped k s p e) es

  -- "the steps since add up to"
  abbrev pub total : Post → List Entry → ℕ
  total p [] = 0
  total p (e ∷ es) = adds k s p e + total (stepped k s p e) es

  -- "If only polls follow": polls, and calls that merely answer.
  abbrev pub OnlyPolls : Post → List Entry → Type 0
  OnlyPolls p [] = Unit {0}
  OnlyPolls p (e ∷ es) = IfDoes (λ deed left. ⊥) (came_to k s p e) × OnlyPolls (stepped k s p e) es

  -- "The first at W is the first there whose buffer is empty or long enough; later ones at W owe no message": none of the list
  -- is one. The list begins u after the poll, and W lies d after the poll.
  abbrev pub NoneAt : ℕ → ℕ → ℕ → Post → List Entry → Type 0
  NoneAt n d u p [] = Unit {0}
  NoneAt n d u p (e ∷ es) =
      (u + adds k s p e ≡ d → IfPolls (λ buffer left. Enough n buffer → ⊥) (came_to k s p e)) × NoneAt n d (u + adds k s p e) (stepped k s p e) es

  -- An entry that polls at W, after entries that only polled: with a buffer that is empty or long enough it is answered:
  -- with n, or with 0 where the buffer is empty. A message has at most MTU − 20 octets, the UDP header among them.
  pub record Owed (p : Post) (d : ℕ) : Type 0 where
    pub n : ℕ
    pub some : 0 < n
    pub most : n ≤ s.mtu - 20
    pub builds : (es : List Entry) → OnlyPolls p es → NoneAt n d 0 p es → (e : Entry) → total p es + adds k s (after p es) e ≡ d
        → IfPolls (λ buffer left. Enough n buffer → Builds n buffer left) (came_to k s (after p es) e)

  -- p is what the poll left, and d is W − m, wrapped. "a poll comes before W if the steps since add up to less than W − m,
  -- wrapped, and at W if to exactly that; 24 hours on, W − m is 86,400,000."
  pub record Wakes (p : Post) (d : ℕ) : Type 0 where
    pub ahead : 0 < d
    pub within : d ≤ day
    pub before : (es : List Entry) → OnlyPolls p es → (e : Entry) → total p es + adds k s (after p es) e < d
        → IfPolls (Quiet (after p es)) (came_to k s (after p es) e)
    -- "the first at it, with a long enough buffer, builds a message, unless it lies 24 hours on"
    pub at : (d ≡ day → ⊥) → Owed p d

  -- LEASE: "After a poll not refused a lease is in force exactly if an ACK is held." It is in force in state Renewing.
  pub record AfterPoll (r : Run) (answer : PollAnswer) : Type 0 where
    pub lease : has_lease r.post.client.session.state ≡ is_held r.history
    pub wakes : Wakes r.post (gap answer.wake.millis r.post.now.millis)

  -- What is claimed of each entry.
  pub record After (r : Run) (e : Entry) : Type 0 where
    pub tables : Tabled (next k s r e)
    pub polls : IfPolls
        (λ buffer left. (answer : PollAnswer) → left.polled.outcome ≡ Ok answer → AfterPoll (next k s r e) answer)
        (came_to k s r.post e)

-- NO LOCK-OUT, which is ours: demand 1 has numbered refusals, and a client that refused all would meet the above. From whole
-- tables, a poll is refused by 8 alone, and only where its buffer is not empty and shorter than a message that any longer
-- one gets; a reply and a reset never; a manual call for its prefix, its router or a full table alone.
abbrev pub prefix_in : Manual → ℕ
prefix_in (AddAddress address prefix) = prefix
prefix_in (DropAddress address prefix) = prefix
prefix_in (AddRoute network prefix router) = prefix
prefix_in (DropRoute network prefix router) = prefix

-- Whether 10 and 11 may refuse it.
abbrev pub bad_router : Manual → Bool
bad_router (AddAddress address prefix) = false
bad_router (DropAddress address prefix) = false
bad_router (AddRoute network prefix router) = not (unicast router)
bad_router (DropRoute network prefix router) = false

abbrev pub no_room : Manual → Tables → Bool
no_room (AddAddress address prefix) t = full (addrs_of t.ip_addrs)
no_room (DropAddress address prefix) t = false
no_room (AddRoute network prefix router) t = full (routes_of t.routes)
no_room (DropRoute network prefix router) t = false

pub data JustlyByHand (m : Manual) (t : Tables) : Refusal → Type 0 where
  prefix_over : prefix_fits (prefix_in m) ≡ false → JustlyByHand m t NotWhole
  router_bad : bad_router m ≡ true → JustlyByHand m t Router
  table_full : no_room m t ≡ true → JustlyByHand m t TableFull

module _ (k : Calls) (s : Settings) where
  -- What may refuse a deed, and by which number.
  abbrev pub Justly : Post → Instant → Deed → Refusal → Type 0
  Justly p now (Reply source bytes) reason = ⊥
  Justly p now Reset reason = ⊥
  Justly p now (ByHand m) reason = JustlyByHand m p.tables reason

  -- What may refuse a poll.
  pub record TooShort (p : Post) (now : Instant) (buffer : List ℕ) (reason : Refusal) : Type 0 where
    pub by_8 : reason ≡ ShortBuffer
    pub lent : 0 < length buffer
    pub n : ℕ
    pub short : length buffer < n
    pub most : n ≤ s.mtu - 20
    pub longer : (other : List ℕ) → n ≤ length other → Builds n other (k.poll p.client p.tables p.rand now other)

  pub record Open (r : Run) (e : Entry) : Type 0 where
    pub polls : IfPolls
        (λ buffer left. (reason : Refusal) → left.polled.outcome ≡ Err reason
        → TooShort r.post (moment_after r.post (adds k s r.post e)) buffer reason)
        (came_to k s r.post e)
    pub deeds : IfDoes
        (λ deed left. (reason : Refusal) → left.refused ≡ Some reason → Justly r.post (moment_after r.post (adds k s r.post e)) deed reason)
        (came_to k s r.post e)

-- THE CLAIM, of a set of calls: whatever the settings that creation takes, the tables without DHCP entries, the generator, the
-- moment, and the list within its premise.
pub record Demand3 (k : Calls) : Type 0 where
  pub owed : (s : Settings) (ignoring : Bool) (c : Client) → k.create s ignoring ≡ Ok c
      → (t : Tables) → dhcp_addrs t ≡ [] → dhcp_routes t ≡ [] → (rand : Rand) (m : ℕ) (es : List Entry)
      → Timely k s never (start c t rand m) es
      → Throughout k s (After k s) (start c t rand m) es
  pub no_lockout : (s : Settings) (ignoring : Bool) (c : Client) → k.create s ignoring ≡ Ok c
      → (t : Tables) → whole_tables t ≡ true → (rand : Rand) (m : ℕ) (es : List Entry)
      → Throughout k s (Open k s) (start c t rand m) es
