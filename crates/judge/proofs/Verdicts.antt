-- What the verdict on a reply tells of its bytes and of the client's state. Assumes nothing.
use Rattle.std.proofs.Common.{Option, None, Some, Result, Ok, Err}
use Prim.Native.Nat.{ℕ}
use mathlib.Core.Path.{◌≡◌, refl}
use mathlib.Core.Bool.{Bool, true, false, not}
use mathlib.Core.List.{List}
use lib.Dec.{eqb}
use borrow.Author.Tests.{eqb-true}
use Rattle.choice.proofs.Choices.{if_cases}
use Rattle.octets.specs.Addresses.{unicast, prefix_len}
use Rattle.octets.specs.Codes.{offer, ack, nak, mask_code}
use Rattle.wire.specs.Options.{option_data}
use Rattle.wire.specs.Readings.{header_check, addressed_to, transaction_id, your_address, message_type, address_of, if_unicast}
use Rattle.reasons.specs.declared.passed_over.PassedOver.{PassedOver}
use Rattle.reasons.specs.declared.passed_over.PassedOver.TheVariants.{MessageType}
use Rattle.machine.specs.States.{has_lease}
use Rattle.machine.specs.declared.state.ClientState.{ClientState}
use Rattle.machine.specs.declared.state.ClientState.TheVariants.{Init, Discovering, Requesting, Renewing}
use Rattle.machine.specs.declared.state.DhcpServerInfo.{DhcpServerInfo}
use Rattle.judge.specs.declared.awaited.Awaited.{Awaited}
use Rattle.judge.specs.declared.awaited.Awaited.TheVariants as awaits
use Rattle.judge.specs.Judged.{Judged, needing, judged_offer, judged_address, judged_ack, judged_as, judged_kind, is_id, judged_sender, after_header, judged}
use Rattle.judge.specs.Awaited.{awaited, offer_alone, ack_or_nak}
use Rattle.judge.specs.declared.judge.Recipient.{Recipient}
use Rattle.judge.specs.declared.judge.Verdict.TheVariants.{Offer, Ack, Nak}
use Rattle.judge.proofs.Judging.{needing_cases}

-- The address and the prefix that an ACK's bytes give.
pub record Reads (bytes : List ℕ) (address prefix : ℕ) : Type 0 where
  pub mask : ℕ
  pub masked : address_of (option_data mask_code bytes) ≡ Some mask
  pub prefix_is : prefix_len mask ≡ Some prefix
  pub address_is : your_address bytes ≡ Some address

-- Whether a message was sent since the client last started over: only then is an OFFER or an ACK awaited.
abbrev pub begun : ClientState → Bool
begun Init = false
begun (Discovering s) = true
begun (Requesting s) = true
begun (Renewing s) = true

-- what a state's awaiting tells of the message type and of the state
abbrev Means : ClientState → ℕ → Option Awaited → Type 0
Means state kind (Some awaits.Offer) = (kind ≡ offer) × (has_lease state ≡ false) × (begun state ≡ true)
Means state kind (Some awaits.Ack) = (kind ≡ ack) × (begun state ≡ true)
Means state kind (Some awaits.Nak) = kind ≡ nak
Means state kind None = Unit {0}

ack_or_nak_means : (state : ClientState) (kind : ℕ) (ignoring : Bool) → begun state ≡ true → Means state kind (ack_or_nak kind ignoring)
unfolding ack_or_nak
ack_or_nak_means state kind ignoring b =
    if_cases (Means state kind) (eqb kind ack) (λ e. (eqb-true kind ack e, b))
    (λ e. if_cases (Means state kind) (eqb kind nak) (λ f. if_cases (Means state kind) ignoring (λ i. tt) (λ i. eqb-true kind nak f)) (λ f. tt))

awaited_means : (state : ClientState) (kind : ℕ) (ignoring : Bool) → Means state kind (awaited state kind ignoring)
unfolding offer_alone
awaited_means Init kind ignoring = tt
awaited_means (Discovering s) kind ignoring = if_cases (Means (Discovering s) kind) (eqb kind offer) (λ e. (eqb-true kind offer e, refl, refl)) (λ e. tt)
awaited_means (Requesting s) kind ignoring = ack_or_nak_means (Requesting s) kind ignoring refl
awaited_means (Renewing s) kind ignoring = ack_or_nak_means (Renewing s) kind ignoring refl

-- an address that is unicast was there
there : (m : Option ℕ) {a : ℕ} → if_unicast m ≡ Some a → m ≡ Some a
there None {a} = λ e. e
there (Some b) {a} = if_cases (λ (x : Option ℕ). x ≡ Some a → Some b ≡ Some a) (unicast b) (λ u e. e) (λ u e. cc)

module _ (state : ClientState) (bytes : List ℕ) where
  -- What a verdict means.
  abbrev pub Says : Judged → Type 0
  Says (Ok (Offer o)) = (message_type bytes ≡ Some offer) × (has_lease state ≡ false) × (begun state ≡ true)
  Says (Ok (Ack a)) = (message_type bytes ≡ Some ack) × Reads bytes a.address a.prefix × (begun state ≡ true)
  Says (Ok Nak) = message_type bytes ≡ Some nak
  Says (Err reason) = Unit {0}

  offer_says : (server : DhcpServerInfo) → message_type bytes ≡ Some offer → has_lease state ≡ false → begun state ≡ true → Says (judged_offer server bytes)
  unfolding judged_offer
  offer_says server k l b = needing_cases Says _ _ tt (λ a e. if_cases Says (not (unicast server.address)) (λ t. tt) (λ t. (k, l, b)))

  ack_says : (server : DhcpServerInfo) → message_type bytes ≡ Some ack → begun state ≡ true → Says (judged_ack server bytes)
  unfolding judged_ack judged_address
  ack_says server k b =
      needing_cases Says _ _ tt (λ mask e.
      needing_cases Says _ _ tt (λ prefix f.
      needing_cases Says _ _ tt (λ address g.
      (k, record { mask = mask; masked = e; prefix_is = f; address_is = there (your_address bytes) g }, b))))

  as_says : (a : Option Awaited) (server : DhcpServerInfo) (kind : ℕ) → message_type bytes ≡ Some kind → Means state kind a → Says (judged_as a server bytes)
  as_says (Some awaits.Offer) server kind e m = offer_says server (rw m.0 at e) m.1 m.2
  as_says (Some awaits.Ack) server kind e m = ack_says server (rw m.0 at e) m.1
  as_says (Some awaits.Nak) server kind e m = rw m at e
  as_says None server kind e m = tt

pub judged_says : (who : Recipient) (source : ℕ) (bytes : List ℕ) → Says who.state bytes (judged who source bytes)
unfolding judged judged_sender judged_kind
judged_says who source bytes = header (header_check bytes)
  where
    sender : (kind : ℕ) → message_type bytes ≡ Some kind → Says who.state bytes (judged_sender who source bytes kind)
    sender kind e =
        if_cases (Says who.state bytes) (not (addressed_to who.hardware bytes)) (λ t. tt)
        (λ t. if_cases (Says who.state bytes) (not (is_id who.id (transaction_id bytes))) (λ u. tt)
        (λ u. needing_cases (Says who.state bytes) _ _ tt (λ identifier f. as_says who.state bytes (awaited who.state kind who.ignoring) (record { address = source; identifier = identifier }) kind e (awaited_means who.state kind who.ignoring))))

    header : (k : Result (Unit {0}) PassedOver) → Says who.state bytes (after_header k (needing (message_type bytes) MessageType (judged_sender who source bytes)))
    header (Err reason) = tt
    header (Ok passes) = needing_cases (Says who.state bytes) _ _ tt (λ kind e. sender kind e)
