-- "Numbers of the desk" of document 01: the number of each refusal, and of each reason to pass a reply over.
use Rattle.std.specs.Prelude.{ℕ}
use Rattle.reasons.specs.declared.refusal.Refusal.{Refusal}
use Rattle.reasons.specs.declared.refusal.Refusal.TheVariants.{Medium, Mtu, Name, RequestList, ExtraOptions, Maximum, LongestMessage, ShortBuffer, NotWhole, Router, TableFull}
use Rattle.reasons.specs.declared.passed_over.PassedOver.{PassedOver}
use Rattle.reasons.specs.declared.passed_over.PassedOver.TheVariants.{TooShort, Header, MessageType, HardwareAddress, TransactionId, ServerIdentifier, NotAwaited, OfferAddress, NoMask, BrokenMask, AckAddress}

-- 1 medium not Ethernet; 2 MTU outside 576 to 1,500; 3 name over 63 octets; 4 request list over 64; 5 extra options over 255
-- octets or not whole items; 6 maximum over 1,073,741,824 ms; 7 longest message over MTU − 28; 8 message due, buffer not empty
-- but shorter than that datagram; 9 state not whole, or a manual prefix over 32; 10 manual route, router not unicast; 11 table
-- full.
abbrev pub refusal_number : Refusal → ℕ
refusal_number Medium = 1
refusal_number Mtu = 2
refusal_number Name = 3
refusal_number RequestList = 4
refusal_number ExtraOptions = 5
refusal_number Maximum = 6
refusal_number LongestMessage = 7
refusal_number ShortBuffer = 8
refusal_number NotWhole = 9
refusal_number Router = 10
refusal_number TableFull = 11

-- 20 under 240 octets; 21 header; 22 type; 23 hardware address; 24 id; 25 identifier; 26 not awaited; 27 OFFER address or
-- source; 28 mask absent; 29 mask not contiguous; 30 ACK your-address.
abbrev pub passed_over_number : PassedOver → ℕ
passed_over_number TooShort = 20
passed_over_number Header = 21
passed_over_number MessageType = 22
passed_over_number HardwareAddress = 23
passed_over_number TransactionId = 24
passed_over_number ServerIdentifier = 25
passed_over_number NotAwaited = 26
passed_over_number OfferAddress = 27
passed_over_number NoMask = 28
passed_over_number BrokenMask = 29
passed_over_number AckAddress = 30
