-- Judging a reply (document 01, "Reading a reply"): why it is passed over, or what it is taken as. Which replies are
-- taken, the Rust decides. `judged`, the last definition, is the whole; the checks stand in document 01's order from there
-- upwards: length and header, message type, hardware address, id, identifier, then the state.
use Rattle.std.specs.Prelude.{ℕ, Bool, false, not, List, eqb, Option, None, Some, Result, Ok, Err}
use Rattle.choice.specs.Choice.{when◌then◌else◌}
use Rattle.octets.specs.Addresses.{unicast, prefix_len}
use Rattle.octets.specs.Codes.{mask_code, identifier_code}
use Rattle.wire.specs.Options.{option_data}
use Rattle.wire.specs.Readings.{header_check, addressed_to, transaction_id, your_address, message_type, address_of, if_unicast}
use Rattle.reasons.specs.declared.passed_over.PassedOver.{PassedOver}
use Rattle.reasons.specs.declared.passed_over.PassedOver.TheVariants.{MessageType, HardwareAddress, TransactionId, ServerIdentifier, NotAwaited, OfferAddress, NoMask, BrokenMask, AckAddress}
use Rattle.machine.specs.declared.state.DhcpServerInfo.{DhcpServerInfo}
use Rattle.judge.specs.declared.awaited.Awaited.{Awaited}
use Rattle.judge.specs.declared.awaited.Awaited.TheVariants as awaits
use Rattle.judge.specs.Awaited.{awaited}
use Rattle.judge.specs.declared.judge.Recipient.{Recipient}
use Rattle.judge.specs.declared.judge.Verdict.{Verdict}
use Rattle.judge.specs.declared.judge.Verdict.TheVariants.{Offer, Ack, Nak}

-- What a reply is taken as, or why it is passed over.
abbrev pub Judged : Type 0
Judged = Result Verdict PassedOver

-- What follows from a value that has to be there, or the reason for which the reply is passed over without it.
unfoldable pub needing : Option ℕ → PassedOver → (ℕ → Judged) → Judged
needing None reason next = Err reason
needing (Some n) reason next = next n

-- An OFFER: your-address and source unicast.
unfoldable pub judged_offer : DhcpServerInfo → List ℕ → Judged
judged_offer server reply =
    needing (if_unicast (your_address reply)) OfferAddress (λ address.
    when not (unicast server.address) then Err OfferAddress
    else Ok (Offer (record { server = server; address = address })))

-- An ACK: mask; contiguity; your-address unicast.
unfoldable pub judged_address : DhcpServerInfo → List ℕ → ℕ → Judged
judged_address server reply prefix =
    needing (if_unicast (your_address reply)) AckAddress (λ address.
    Ok (Ack (record { server = server; address = address; prefix = prefix })))

unfoldable pub judged_ack : DhcpServerInfo → List ℕ → Judged
judged_ack server reply =
    needing (address_of (option_data mask_code reply)) NoMask (λ mask.
    needing (prefix_len mask) BrokenMask (λ prefix.
    judged_address server reply prefix))

-- Then the state. What it does not await is passed over.
abbrev pub judged_as : Option Awaited → DhcpServerInfo → List ℕ → Judged
judged_as (Some awaits.Offer) server reply = judged_offer server reply
judged_as (Some awaits.Ack) server reply = judged_ack server reply
judged_as (Some awaits.Nak) server reply = Ok Nak
judged_as None server reply = Err NotAwaited

unfoldable pub judged_kind : Recipient → ℕ → List ℕ → ℕ → ℕ → Judged
judged_kind who source reply kind identifier =
    judged_as (awaited who.state kind who.ignoring) (record { address = source; identifier = identifier }) reply

-- Whether a reply's transaction id is the client's.
abbrev pub is_id : ℕ → Option ℕ → Bool
is_id id None = false
is_id id (Some n) = eqb n id

-- Client hardware address; transaction id; server identifier, which has to be there and is not compared.
unfoldable pub judged_sender : Recipient → ℕ → List ℕ → ℕ → Judged
judged_sender who source reply kind =
    when not (addressed_to who.hardware reply) then Err HardwareAddress
    else when not (is_id who.id (transaction_id reply)) then Err TransactionId
    else needing (address_of (option_data identifier_code reply)) ServerIdentifier (judged_kind who source reply kind)

-- Length and header; message type; then the above.
abbrev pub after_header : Result (Unit {0}) PassedOver → Judged → Judged
after_header (Err reason) next = Err reason
after_header (Ok passes) next = next

unfoldable pub judged : Recipient → ℕ → List ℕ → Judged
judged who source reply =
    after_header (header_check reply) (needing (message_type reply) MessageType (judged_sender who source reply))
