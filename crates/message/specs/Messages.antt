-- A client's DHCP message as a list of octets: the header of RFC 2131, figure 1 and table 5, then the options it is
-- given, then 255.
use Rattle.std.specs.Prelude.{ℕ, ◌+◌, List, [], ◌∷◌, ◌++◌, replicate, Option, None, Some}
use Rattle.octets.specs.Words.{bytes16, bytes32}
use Rattle.octets.specs.Items.{cookie, option}
use Rattle.octets.specs.Codes.{end_code, host_name_code, requested_code, message_type_code, identifier_code, request_list_code, message_size_code, client_id_code}
use Rattle.message.specs.declared.message.Message.{Message}

-- The fixed part, with the magic cookie: 240 octets. Fields that a client does not set are zero. Its second half: yiaddr,
-- siaddr and giaddr; chaddr, which is the hardware address and 10 octets; sname, 64; file, 128; the cookie.
abbrev pub header_rest : List ℕ → List ℕ
header_rest hardware = replicate 12 0 ++ (hardware ++ (replicate (10 + 64 + 128) 0 ++ cookie))

-- Before that: op BOOTREQUEST, htype Ethernet, hlen, hops; xid; secs and flags; ciaddr.
abbrev pub header : ℕ → ℕ → List ℕ → List ℕ
header id client hardware =
    (1 ∷ 1 ∷ 6 ∷ 0 ∷ []) ++ (bytes32 id ++ (replicate 4 0 ++ (bytes32 client ++ header_rest hardware)))

-- An option that may be absent.
unfoldable pub option_if : ℕ → Option (List ℕ) → List ℕ
option_if kind None = []
option_if kind (Some body) = option kind body

-- An option that holds an address, and one that holds 16 bits.
unfoldable pub address_option : ℕ → Option ℕ → List ℕ
address_option kind None = []
address_option kind (Some address) = option kind (bytes32 address)

unfoldable pub size_option : ℕ → Option ℕ → List ℕ
size_option kind None = []
size_option kind (Some size) = option kind (bytes16 size)

-- The host name; an empty one is none.
unfoldable pub name_option : List ℕ → List ℕ
name_option [] = []
name_option (x ∷ xs) = option host_name_code (x ∷ xs)

-- The options of a message, in document 01's order. Who sends what: 53 message type, 61 client identifier (1, then the
-- hardware address), 12 host name. What is told besides: 50 requested address, 54 server identifier, 57 maximum message
-- size. Then 55 request list and the extra options. A 57 under 576, an empty 55 and the extra options are as the Rust has
-- them.
abbrev pub who : ℕ → List ℕ → List ℕ → List ℕ
who kind hardware name = option message_type_code (kind ∷ []) ++ (option client_id_code (1 ∷ hardware) ++ name_option name)

abbrev pub given : Option ℕ → Option ℕ → Option ℕ → List ℕ
given requested server size = address_option requested_code requested ++ (address_option identifier_code server ++ size_option message_size_code size)

abbrev pub options : Message → List ℕ → Option (List ℕ) → List ℕ → List ℕ
options m name list extra =
    who m.kind m.hardware name
    ++ (given m.requested m.server m.size
    ++ (option_if request_list_code list ++ extra))

-- Any message: header, options, the end mark.
abbrev pub framed : List ℕ → List ℕ → List ℕ
framed head opts = head ++ (opts ++ (end_code ∷ []))

unfoldable pub message : Message → List ℕ → Option (List ℕ) → List ℕ → List ℕ
message m name list extra = framed (header m.id m.client m.hardware) (options m name list extra)
