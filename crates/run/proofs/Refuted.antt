-- The wrong clients of specs/Wrong.antt: none meets `Demand3`. Assumes nothing.
use Rattle.std.proofs.Common.{Result, Ok}
use Prim.Native.Nat.{ℕ, ◌+◌, ◌≤◌, ◌<◌}
use mathlib.Core.Path.{◌≡◌, ap, sym, refl, ◌∙◌}
use mathlib.Core.Bool.{Bool, true, false, false≢true}
use mathlib.Core.List.{List, [], ◌∷◌, ◌++◌}
use lib.ListN.{replicate}
use native.Mathlib.Omega.{arith}
use Rattle.clock.specs.Durations.{longest}
use Rattle.clock.specs.Moments.{moment}
use Rattle.clock.specs.Clocks.{day}
use Rattle.clock.specs.Generator.{generator}
use Rattle.clock.specs.declared.rand.Rand.{Rand}
use Rattle.octets.specs.Words.{bytes32}
use Rattle.octets.specs.Items.{option}
use Rattle.machine.specs.States.{has_lease}
use Rattle.tables.specs.Tables.{empty_tables, dhcp_addrs, dhcp_routes, addr_table, route_table, prefix_fits}
use Rattle.tables.specs.Manual.{manual_addr}
use Rattle.tables.specs.declared.route.Route.{Route}
use Rattle.tables.specs.declared.tables.Tables.{Tables}
use Rattle.client.specs.Clients.{fresh, created}
use Rattle.client.specs.Polls.{silent}
use Rattle.client.specs.declared.client.Client.{Client}
use Rattle.settings.specs.declared.settings.Settings.{Settings}
use Rattle.run.specs.Calls.{Calls, Manual, AddRoute, DropAddress, Reset, ByHand}
use Rattle.run.specs.Demand3.{Entry, Run, start, Throughout, After, Open, Since, never, since, later, counted, in_time, is_polled, told, Timely, adds, stepped, total, next, unless_lost, JustlyByHand, prefix_over, router_bad, table_full, prefix_in, bad_router, no_room, Demand3}
use Rattle.run.specs.Wrong.{daily, hasty, refusing, unexpiring, entering, restless, clinging, keeping, unmeasured, processed_again, losing, linger, lingering, doubling, awaiting, hurry, hurrying, wiping, counting, late, smaller, unwrapped, boasting, misnumbering, muzzled, deaf, stubborn, rigid}
use Rattle.run.proofs.Answers.{is_answered, length_of}
use Rattle.run.proofs.Sample.{plain, server, ack_with, reply_with, poll_into, poll_after, do_now, reply_now, from_fresh, until_ack, computing, plain_created}
use Rattle.reasons.specs.declared.refusal.Refusal.{Refusal}
use Rattle.reasons.specs.declared.refusal.Refusal.TheVariants.{ShortBuffer, LongestMessage, NotWhole, Router, TableFull}

-- A list that takes at most 2^30 ms is timely, however its polls end.
abbrev passed : Since → ℕ
passed never = 0
passed (since millis) = millis

passed_later : (gap : Since) (step n : ℕ) → passed gap + (step + n) ≤ longest → passed (later step gap) + n ≤ longest
passed_later never step n h = omega arith
passed_later (since millis) step n h = omega arith

in_time_lem : (b : Bool) (gap : Since) → passed gap ≤ longest → in_time b gap
in_time_lem true never h = tt
in_time_lem true (since millis) h = h
in_time_lem false gap h = tt

passed_counted : (b : Bool) (gap : Since) (n : ℕ) → passed gap + n ≤ longest → passed (counted b gap) + n ≤ longest
passed_counted true gap n h = omega arith
passed_counted false gap n h = h

short_timely : (k : Calls) (s : Settings) (gap : Since) (r : Run) (es : List Entry) → passed gap + total k s r.post es ≤ longest → Timely k s gap r es
short_timely k s gap r [] h = tt
short_timely k s gap r (e ∷ es) h =
    let y = adds k s r.post e in
    let ToldHere = is_polled (told k s r.post e) in
    let rest = total k s (stepped k s r.post e) es in
    let there : passed (later y gap) + rest ≤ longest = passed_later gap y rest h in
    (in_time_lem ToldHere (later y gap) (omega arith), short_timely k s (counted ToldHere (later y gap)) (next k s r e) es (passed_counted ToldHere (later y gap) rest there))

-- So the claim holds of it, from a fresh client on.
claimed : (k : Calls) → k.create plain false ≡ created plain false → Demand3 k
    → (t : Tables) → dhcp_addrs t ≡ [] → dhcp_routes t ≡ [] → (m : ℕ) (es : List Entry) → total k plain (from_fresh t m).post es ≤ longest
    → Throughout k plain (After k plain) (from_fresh t m) es
claimed k e d t addrs routes m es h =
    d.owed plain false (fresh plain false) (e ∙ plain_created) t addrs routes (generator 0) m es (short_timely k plain never _ es (omega arith))

-- Its first entry, a poll with an empty buffer; and any list, from whole tables.
first : (k : Calls) → k.create plain false ≡ created plain false → Demand3 k → (m : ℕ) → After k plain (from_fresh empty_tables m) (poll_after 0)
unfolding computing
first k e d m = (claimed k e d empty_tables refl refl m (poll_after 0 ∷ []) (omega arith)).0

opened : (k : Calls) → k.create plain false ≡ created plain false → Demand3 k → (es : List Entry) → Throughout k plain (Open k plain) (from_fresh empty_tables 0) es
unfolding computing
opened k e d es = d.no_lockout plain false (fresh plain false) (e ∙ plain_created) empty_tables refl (generator 0) 0 es

-- Wakes every 24 hours: the second Discover is due 10 s after the first, and draws an id.
pub daily_fails : Demand3 daily → ⊥
unfolding computing
daily_fails d =
    let wakes = ((first daily refl d 0).polls _ refl).wakes in
    let quiet = wakes.before [] tt (poll_after 10000) (omega arith) in
    let drawn = ap (λ (g : Rand). g.state) quiet.rand in
    omega arith

-- Compares moments as plain numbers: 20 s before the clock wraps the second Discover is due 10 s on, and the moment 24 hours on
-- is a smaller number.
pub unwrapped_fails : Demand3 unwrapped → ⊥
unfolding computing smaller
unwrapped_fails d =
    let wakes = ((first unwrapped refl d 4294947296).polls _ refl).wakes in
    let quiet = wakes.before [] tt (poll_after 10000) (omega arith) in
    let drawn = ap (λ (g : Rand). g.state) quiet.rand in
    omega arith

-- Reports 8 before measuring: a poll right after the first, with a buffer of one octet, is refused; and one of 556 octets gets
-- no message then.
pub hasty_fails : Demand3 hasty → ⊥
unfolding computing unmeasured
hasty_fails d =
    let wakes = ((first hasty refl d 0).polls _ refl).wakes in
    false≢true (ap is_answered (wakes.before [] tt (poll_into (0 ∷ []) 0) wakes.ahead).answered)

never_nothing : (n m : ℕ) → 0 < n → m ≡ 0 → m ≡ n → ⊥
never_nothing n m h e f = omega arith

pub hasty_fails_longer : Demand3 hasty → ⊥
unfolding computing unmeasured
hasty_fails_longer d =
    let short = (opened hasty refl d (poll_after 0 ∷ poll_into (0 ∷ []) 0 ∷ [])).1.0.polls ShortBuffer refl in
    let built = short.longer (replicate 556 0) short.most in
    never_nothing short.n _ (omega (arith, short.short)) refl (ap length_of built.answered ∙ built.length)

-- Refuses every poll: one with an empty buffer, too.
pub refusing_fails : Demand3 refusing → ⊥
unfolding computing
refusing_fails d =
    let lent = ((opened refusing refl d (poll_after 0 ∷ [])).0.polls ShortBuffer refl).lent in
    omega arith

-- Refuses by 7: a Discover is due, and the buffer has one octet.
pub misnumbering_fails : Demand3 misnumbering → ⊥
unfolding computing
misnumbering_fails d =
    let reason : ◌≡◌ {A = Refusal} LongestMessage ShortBuffer = ((opened misnumbering refl d (poll_into (0 ∷ []) 0 ∷ [])).0.polls LongestMessage refl).by_8 in
    cc

-- Refuses every buffer that is not empty: one of 556 octets, too.
pub muzzled_fails : Demand3 muzzled → ⊥
unfolding computing
muzzled_fails d =
    let short = (opened muzzled refl d (poll_into (replicate 556 0) 0 ∷ [])).0.polls ShortBuffer refl in
    omega (arith, short.short, short.most)

-- Never wakes for expiry: a poll 1 ms before it rebinds, the next Request lies past it, and the poll 1 ms on drops the lease.
pub unexpiring_fails : Demand3 unexpiring → ⊥
unfolding computing
unexpiring_fails d =
    let run = claimed unexpiring refl d empty_tables refl refl 0 (until_ack [] ++ (poll_after 119999 ∷ [])) (omega arith) in
    let wakes = (run.1.1.1.1.0.polls (silent (moment 179999)) refl).wakes in
    let quiet = wakes.before [] tt (poll_after 1) (omega arith) in
    false≢true (ap (λ (c : Client). has_lease c.session.state) quiet.client)

-- Enters a lost entry again: four manual addresses, so that DHCP's is lost; then one is dropped, and the same ACK comes again.
abbrev crowded : Tables
crowded = record {
  ip_addrs = addr_table (manual_addr 1 8 ∷ manual_addr 2 8 ∷ manual_addr 3 8 ∷ manual_addr 4 8 ∷ []);
  routes = route_table [];
  config_generation = 0;
}

abbrev is_empty : {A : Type 0} → List A → Bool
is_empty [] = true
is_empty (x ∷ xs) = false

pub entering_fails : Demand3 entering → ⊥
unfolding computing processed_again unless_lost
entering_fails d =
    let run = claimed entering refl d crowded refl refl 0 (until_ack [] ++ (do_now (ByHand (DropAddress 4 8)) ∷ reply_now (ack_with []) ∷ [])) (omega arith) in
    false≢true (ap is_empty run.1.1.1.1.1.0.tables.addrs)

-- Wakes every millisecond: nothing is built 1 ms after the first Discover.
one_is_no_day : 1 ≡ day → ⊥
one_is_no_day e = omega arith

pub restless_fails : Demand3 restless → ⊥
unfolding computing
restless_fails d =
    let owed = ((first restless refl d 0).polls _ refl).wakes.at one_is_no_day in
    let built = owed.builds [] tt tt (poll_into (replicate 556 0) 1) refl owed.most in
    never_nothing owed.n _ owed.some refl (ap length_of built.answered ∙ built.length)

-- Keeps a lease for ever: at expiry, too.
pub clinging_fails : Demand3 clinging → ⊥
unfolding computing keeping
clinging_fails d =
    let run = claimed clinging refl d empty_tables refl refl 0 (until_ack [] ++ (poll_after 120000 ∷ [])) (omega arith) in
    false≢true (sym (run.1.1.1.1.0.polls (silent (moment 86520000)) refl).lease)

-- Loses its lease on a reply that it passes over, here an empty one.
pub losing_fails : Demand3 losing → ⊥
unfolding computing unless_lost
losing_fails d =
    let run = claimed losing refl d empty_tables refl refl 0 (until_ack [] ++ (reply_now [] ∷ [])) (omega arith) in
    false≢true (ap is_empty (sym run.1.1.1.1.0.tables.addrs))

-- Leaves its entries after a NAK.
abbrev nak_bytes : List ℕ
nak_bytes = reply_with (option 53 (6 ∷ []) ++ (option 54 (bytes32 server.identifier) ++ (255 ∷ [])))

pub lingering_fails : Demand3 lingering → ⊥
unfolding computing linger unless_lost
lingering_fails d =
    let run = claimed lingering refl d empty_tables refl refl 0 (until_ack [] ++ (reply_now nak_bytes ∷ [])) (omega arith) in
    false≢true (ap is_empty run.1.1.1.1.0.tables.addrs)

-- Enters its route twice.
abbrev tail_of : {A : Type 0} → List A → List A
tail_of [] = []
tail_of (x ∷ xs) = xs

pub doubling_fails : Demand3 doubling → ⊥
unfolding computing unless_lost
doubling_fails d =
    let run = claimed doubling refl d empty_tables refl refl 0 (until_ack (option 3 (10 ∷ 0 ∷ 0 ∷ 1 ∷ []))) (omega arith) in
    false≢true (ap (λ (xs : List Route). is_empty (tail_of xs)) run.1.1.1.0.tables.routes)

-- Does nothing with an empty buffer.
pub awaiting_fails : Demand3 awaiting → ⊥
unfolding computing
awaiting_fails d =
    let ahead : 0 < 0 = ((first awaiting refl d 0).polls _ refl).wakes.ahead in
    omega arith

-- Says 8 by the longest message that there could be: a Discover of 270 octets is due, and 300 are refused.
no_day : 10000 ≡ day → ⊥
no_day e = omega arith

fits : (n : ℕ) → 270 ≡ n → n ≤ 300
fits n e = omega arith

pub hurrying_fails : Demand3 hurrying → ⊥
unfolding computing hurry
hurrying_fails d =
    let owed = ((first hurrying refl d 0).polls _ refl).wakes.at no_day in
    let built = owed.builds [] tt tt (poll_into (replicate 556 0) 10000) refl owed.most in
    let n_is : 270 ≡ owed.n = ap length_of built.answered ∙ built.length in
    false≢true (ap is_answered (owed.builds [] tt tt (poll_into (replicate 300 0) 10000) refl (fits owed.n n_is)).answered)

-- Wipes the buffer; bumps the generation; answers a length.
pub wiping_fails : Demand3 wiping → ⊥
unfolding computing
wiping_fails d =
    let wakes = ((first wiping refl d 0).polls _ refl).wakes in
    false≢true (ap is_empty (sym (wakes.before [] tt (poll_into (0 ∷ []) 0) wakes.ahead).buffer))

pub counting_fails : Demand3 counting → ⊥
unfolding computing
counting_fails d =
    let wakes = ((first counting refl d 0).polls _ refl).wakes in
    let same : ◌≡◌ {A = ℕ} 2 1 = ap (λ (t : Tables). t.config_generation) (wakes.before [] tt (poll_after 0) wakes.ahead).tables in
    omega arith

pub boasting_fails : Demand3 boasting → ⊥
unfolding computing
boasting_fails d =
    let wakes = ((first boasting refl d 0).polls _ refl).wakes in
    let quiet = wakes.before [] tt (poll_after 0) wakes.ahead in
    let none : ◌≡◌ {A = ℕ} 1 0 = ap length_of quiet.answered ∙ quiet.length in
    omega arith

-- Half a turn of the clock late.
pub late_fails : Demand3 late → ⊥
unfolding computing
late_fails d =
    let within : 2147493648 ≤ day = ((first late refl d 0).polls _ refl).wakes.within in
    omega arith

-- Refuses every reply; every reset.
pub deaf_fails : Demand3 deaf → ⊥
unfolding computing
deaf_fails d = (opened deaf refl d (reply_now [] ∷ [])).0.deeds NotWhole refl

pub stubborn_fails : Demand3 stubborn → ⊥
unfolding computing
stubborn_fails d = (opened stubborn refl d (do_now Reset ∷ [])).0.deeds NotWhole refl

-- Refuses every manual call, by 9, 10 or 11: a route that is in order, into empty tables.
abbrev Grounds : Manual → Tables → Refusal → Type 0
Grounds m t n = (n ≡ NotWhole → prefix_fits (prefix_in m) ≡ false) × (n ≡ Router → bad_router m ≡ true) × (n ≡ TableFull → no_room m t ≡ true)

grounds : (m : Manual) (t : Tables) (n : Refusal) → JustlyByHand m t n → Grounds m t n
grounds m t _ (prefix_over e) = (λ p. e, λ p. cc, λ p. cc)
grounds m t _ (router_bad e) = (λ p. cc, λ p. e, λ p. cc)
grounds m t _ (table_full e) = (λ p. cc, λ p. cc, λ p. e)

abbrev sane : Manual
sane = AddRoute 0 8 16777226

sane_grounds : (reason : Refusal) → Demand3 (rigid reason) → Grounds sane empty_tables reason
unfolding computing
sane_grounds reason d = grounds sane empty_tables reason ((opened (rigid reason) refl d (do_now (ByHand sane) ∷ [])).0.deeds reason refl)

pub rigid_9_fails : Demand3 (rigid NotWhole) → ⊥
unfolding computing
rigid_9_fails d = false≢true (sym ((sane_grounds NotWhole d).0 refl))

pub rigid_10_fails : Demand3 (rigid Router) → ⊥
unfolding computing
rigid_10_fails d = false≢true ((sane_grounds Router d).1 refl)

pub rigid_11_fails : Demand3 (rigid TableFull) → ⊥
unfolding computing
rigid_11_fails d = false≢true ((sane_grounds TableFull d).2 refl)
