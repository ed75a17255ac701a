-- What the examples' replies hold, octet for octet.
use Rattle.std.specs.Prelude.{ℕ, List, [], ◌∷◌, ◌++◌, take, drop, replicate}
use Rattle.octets.specs.Words.{bytes32}
use Rattle.octets.specs.Runs.{placed}
use Rattle.made.specs.declared.reply.Header.{Header}

-- A reply with other octets from a place on, where they fit.
unfoldable pub put_at : ℕ → List ℕ → List ℕ → List ℕ
put_at at out reply = take at reply ++ placed out (drop at reply)

-- A server's reply of `size` octets: operation 2, hardware type 1 with addresses of 6; id, address and hardware address at their
-- places in the header (RFC 2131), the magic cookie, the options; zeros elsewhere.
unfoldable pub reply_of : ℕ → Header → List ℕ → List ℕ
reply_of size header options =
    put_at 240 options
    (put_at 236 (99 ∷ 130 ∷ 83 ∷ 99 ∷ [])
    (put_at 28 header.hardware
    (put_at 16 (bytes32 header.your) (put_at 4 (bytes32 header.id) (put_at 0 (2 ∷ 1 ∷ 6 ∷ []) (replicate size 0))))))

-- With a message type and server identifier 10.0.0.1 first.
unfoldable pub typed_of : ℕ → Header → ℕ → List ℕ → List ℕ
typed_of size header kind options =
    put_at 249 options (reply_of size header (53 ∷ 1 ∷ kind ∷ 54 ∷ 4 ∷ 10 ∷ 0 ∷ 0 ∷ 1 ∷ []))

-- An ACK, with mask 255.255.255.0 before its options.
unfoldable pub ack_of : ℕ → Header → List ℕ → List ℕ
ack_of size header options = put_at 255 options (typed_of size header 5 (1 ∷ 4 ∷ 255 ∷ 255 ∷ 255 ∷ 0 ∷ []))
