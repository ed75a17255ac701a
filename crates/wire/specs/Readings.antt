-- What is read of a reply: its header (RFC 2131, figure 1) and its options, by their codes.
use Rattle.std.specs.Prelude.{ℕ, Bool, List, [], ◌∷◌, ◌++◌, length, get_or, take, drop, set, ◌+◌, eqb, ltb, None, Some, Option, Result, Ok, Err}
use Rattle.choice.specs.Choice.{when◌then◌else◌}
use Rattle.octets.specs.Words.{word32, word32_at}
use Rattle.octets.specs.Addresses.{unicast}
use Rattle.octets.specs.Runs.{same_bytes}
use Rattle.octets.specs.Items.{cookie}
use Rattle.octets.specs.Codes.{router_code, message_type_code}
use Rattle.wire.specs.Options.{header_length, option_data}
use Rattle.wire.specs.declared.reply.Addresses.{Addresses}
use Rattle.reasons.specs.declared.passed_over.PassedOver.{PassedOver}
use Rattle.reasons.specs.declared.passed_over.PassedOver.TheVariants.{TooShort, Header}

-- The header's first checks, with the reason for which a reply is passed over: too short under 240 octets; its header where
-- the opcode is not 2, the hardware type not 1, the hardware length not 6, or there is no magic cookie.
unfoldable pub header_check : List ℕ → Result (Unit {0}) PassedOver
header_check reply =
    when ltb (length reply) header_length then Err TooShort
    else when same_bytes (take 3 reply) (2 ∷ 1 ∷ 6 ∷ []) then (when same_bytes (take 4 (drop 236 reply)) cookie then Ok tt else Err Header)
    else Err Header

-- Whether the reply's client hardware address is this one.
abbrev pub addressed_to : List ℕ → List ℕ → Bool
addressed_to hardware reply = same_bytes (take 6 (drop 28 reply)) hardware

-- The transaction id and your-address.
abbrev pub transaction_id : List ℕ → Option ℕ
transaction_id reply = word32_at reply 4

abbrev pub your_address : List ℕ → Option ℕ
your_address reply = word32_at reply 16

-- The length of an option's data.
abbrev pub length_of : Option (List ℕ) → Option ℕ
length_of None = None
length_of (Some body) = Some (length body)

-- The octet at an index of an option's data.
abbrev pub octet_of : ℕ → Option (List ℕ) → Option ℕ
octet_of index None = None
octet_of index (Some body) = when ltb index (length body) then Some (get_or body index 0) else None

-- A message type: exactly one octet, of any value.
abbrev pub type_of : Option (List ℕ) → Option ℕ
type_of None = None
type_of (Some body) = when eqb (length body) 1 then Some (get_or body 0 0) else None

-- An address: the first four octets of the data, which may be longer.
abbrev pub address_of : Option (List ℕ) → Option ℕ
address_of None = None
address_of (Some body) = word32_at body 0

-- A time in seconds: exactly four octets.
abbrev pub seconds_of : Option (List ℕ) → Option ℕ
seconds_of None = None
seconds_of (Some body) = when eqb (length body) 4 then word32_at body 0 else None

-- An address, if it is unicast.
abbrev pub if_unicast : Option ℕ → Option ℕ
if_unicast None = None
if_unicast (Some address) = when unicast address then Some address else None

-- The addresses of a list: each four octets; fewer at the end are none.
unfoldable pub groups_of : List ℕ → List ℕ
groups_of [] = []
groups_of (a ∷ []) = []
groups_of (a ∷ b ∷ []) = []
groups_of (a ∷ b ∷ c ∷ []) = []
groups_of (a ∷ b ∷ c ∷ d ∷ xs) = word32 a b c d ∷ groups_of xs

-- The unicast ones of a list of addresses.
unfoldable pub unicast_ones : List ℕ → List ℕ
unicast_ones [] = []
unicast_ones (a ∷ xs) = when unicast a then a ∷ unicast_ones xs else unicast_ones xs

-- A list's first three, zeros after them.
abbrev pub first_three : List ℕ → Addresses
first_three xs = record { list = take 3 (xs ++ (0 ∷ 0 ∷ 0 ∷ [])); count = length (take 3 xs) }

-- Four octets as an address, and a list's first three with one address more, for contracts within this crate.
abbrev pub word_of : List ℕ → ℕ
word_of x = word32 (get_or x 0 0) (get_or x 1 0) (get_or x 2 0) (get_or x 3 0)

abbrev pub with_address : Addresses → ℕ → Addresses
with_address found a = when ltb found.count 3 then record { list = set found.list found.count a; count = found.count + 1 } else found

-- A list of addresses: groups of four octets, unicast only, first three.
abbrev pub addresses_of : Option (List ℕ) → Addresses
addresses_of None = first_three []
addresses_of (Some body) = first_three (unicast_ones (groups_of body))

-- The message type.
abbrev pub message_type : List ℕ → Option ℕ
message_type reply = type_of (option_data message_type_code reply)

-- The router: the first address of its option, if that is unicast.
abbrev pub router : List ℕ → Option ℕ
router reply = if_unicast (address_of (option_data router_code reply))
