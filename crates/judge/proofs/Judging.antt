-- What holds of a verdict, check by check, and that an ACK that is taken has a prefix that fits. Assumes nothing.
use Rattle.std.proofs.Common.{Option, None, Some, Result, Ok, Err}
use mathlib.Core.Path.{◌≡◌, refl}
use mathlib.Core.Bool.{not}
use mathlib.Core.List.{List}
use Prim.Native.Nat.{ℕ, ◌≤◌}
use Rattle.choice.proofs.Choices.{if_cases}
use Rattle.wire.specs.Readings.{header_check, message_type, addressed_to, transaction_id}
use Rattle.reasons.specs.declared.passed_over.PassedOver.{PassedOver}
use Rattle.reasons.specs.declared.passed_over.PassedOver.TheVariants.{MessageType}
use Rattle.judge.specs.declared.awaited.Awaited.{Awaited}
use Rattle.machine.specs.declared.state.DhcpServerInfo.{DhcpServerInfo}
use Rattle.judge.specs.Judged.{Judged, needing, judged_as, judged_kind, judged_sender, judged, judged_offer, judged_address, judged_ack, is_id, after_header}
use Rattle.judge.specs.Awaited.{awaited}
use Rattle.judge.specs.declared.judge.Recipient.{Recipient}
use Rattle.judge.specs.declared.judge.Verdict.TheVariants.{Offer, Ack, Nak}
use Rattle.octets.specs.Addresses.{unicast}
use Rattle.octets.proofs.Masks.{length_bound}
use Rattle.judge.specs.declared.awaited.Awaited.TheVariants as awaits

-- what holds of both outcomes of a value that has to be there
pub needing_cases : (P : Judged → Type 0) {m : Option ℕ} (reason : PassedOver) (next : ℕ → Judged) → P (Err reason) → ((n : ℕ) → m ≡ Some n → P (next n)) → P (needing m reason next)
unfolding needing
needing_cases P {m = None} reason next p f = p
needing_cases P {m = Some n} reason next p f = f n refl

-- an ACK that is taken has a prefix that fits
abbrev pub Fits : Judged → Type 0
Fits (Ok (Offer o)) = Unit {0}
Fits (Ok (Ack a)) = a.prefix ≤ 32
Fits (Ok Nak) = Unit {0}
Fits (Err reason) = Unit {0}

offer_fits : (server : DhcpServerInfo) (reply : List ℕ) → Fits (judged_offer server reply)
unfolding judged_offer
offer_fits server reply = needing_cases Fits _ _ tt (λ a e. if_cases Fits (not (unicast server.address)) (λ t. tt) (λ t. tt))

ack_fits : (server : DhcpServerInfo) (reply : List ℕ) → Fits (judged_ack server reply)
unfolding judged_ack judged_address
ack_fits server reply =
    needing_cases Fits _ _ tt (λ mask e.
    needing_cases Fits _ _ tt (λ prefix f.
    needing_cases Fits _ _ tt (λ address g. length_bound 32 mask prefix f)))

as_fits : (a : Option Awaited) (server : DhcpServerInfo) (reply : List ℕ) → Fits (judged_as a server reply)
as_fits (Some awaits.Offer) server reply = offer_fits server reply
as_fits (Some awaits.Ack) server reply = ack_fits server reply
as_fits (Some awaits.Nak) server reply = tt
as_fits None server reply = tt

pub judged_fits : (who : Recipient) (source : ℕ) (reply : List ℕ) → Fits (judged who source reply)
unfolding judged judged_sender judged_kind
judged_fits who source reply = header (header_check reply)
  where
    sender : (kind : ℕ) → Fits (judged_sender who source reply kind)
    sender kind =
        if_cases Fits (not (addressed_to who.hardware reply)) (λ t. tt)
        (λ t. if_cases Fits (not (is_id who.id (transaction_id reply))) (λ u. tt)
        (λ u. needing_cases Fits _ _ tt (λ identifier e. as_fits (awaited who.state kind who.ignoring) (record { address = source; identifier = identifier }) reply)))

    header : (k : Result (Unit {0}) PassedOver) → Fits (after_header k (needing (message_type reply) MessageType (judged_sender who source reply)))
    header (Err reason) = tt
    header (Ok passes) = needing_cases Fits _ _ tt (λ kind e. sender kind)
