-- UDP datagrams (RFC 768) and the Internet checksum (RFC 1071).
use Rattle.std.specs.Prelude.{ℕ, ◌+◌, ◌-◌, Bool, List, [], ◌∷◌, ◌++◌, length, eqb, leb}
use Rattle.choice.specs.Choice.{when◌then◌else◌}
use Rattle.octets.specs.Words.{word16, bytes16, bytes32}
use Rattle.message.specs.declared.datagram.Endpoints.{Endpoints}

-- The one's complement sum of two words: the carry comes in at the low end.
unfoldable pub ones_add : ℕ → ℕ → ℕ
ones_add a b = when leb (a + b) 65535 then a + b else a + b - 65535

-- The one's complement sum of a start and the words of a list; an odd last octet is the high one of a word.
unfoldable pub ones_sum : ℕ → List ℕ → ℕ
ones_sum start [] = start
ones_sum start (a ∷ []) = ones_add start (word16 a 0)
ones_sum start (a ∷ b ∷ xs) = ones_sum (ones_add start (word16 a b)) xs

-- The pseudo header: source, destination, zero, protocol 17, length of the datagram.
abbrev pub pseudo_header : ℕ → ℕ → ℕ → List ℕ
pseudo_header source destination size = bytes32 source ++ (bytes32 destination ++ (0 ∷ 17 ∷ bytes16 size))

-- The sum's complement; a computed 0 is sent as 65,535.
unfoldable pub complement : ℕ → ℕ
complement sum = when eqb sum 65535 then 65535 else 65535 - sum

-- The checksum of a datagram whose checksum field is zero.
abbrev pub checksum : ℕ → ℕ → List ℕ → ℕ
checksum source destination datagram = complement (ones_sum 0 (pseudo_header source destination (length datagram) ++ datagram))

-- A datagram from port 68 to port 67: ports, length with the header's 8 octets, checksum field, message.
abbrev pub udp : List ℕ → List ℕ → List ℕ
udp field body = (0 ∷ 68 ∷ 0 ∷ 67 ∷ bytes16 (8 + length body)) ++ (field ++ body)

-- The checksum field: 0 where the device works the checksum out.
unfoldable pub checksum_field : Endpoints → Bool → List ℕ → List ℕ
checksum_field ends offload body =
    when offload then 0 ∷ 0 ∷ []
    else bytes16 (checksum ends.source ends.destination (udp (0 ∷ 0 ∷ []) body))

-- A message as a datagram.
unfoldable pub datagram : Endpoints → Bool → List ℕ → List ℕ
datagram ends offload body = udp (checksum_field ends offload body) body
