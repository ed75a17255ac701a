-- What the writers leave in the buffer that they are lent.
use Rattle.std.specs.Prelude.{ℕ, ◌+◌, Bool, true, not, List, length, leb, ltb, Option, None, Some, option_map, Result, Ok, Err}
use Rattle.choice.specs.Choice.{when◌then◌else◌}
use Rattle.octets.specs.Runs.{over}
use Rattle.octets.specs.Items.{whole_items}
use Rattle.message.specs.Messages.{message}
use Rattle.message.specs.Datagrams.{datagram}
use Rattle.message.specs.declared.datagram.Endpoints.{Endpoints}
use Rattle.message.specs.declared.message.Message.{Message}
use Rattle.reasons.specs.declared.refusal.Refusal.{Refusal}
use Rattle.reasons.specs.declared.refusal.Refusal.TheVariants.{Name, RequestList, ExtraOptions, ShortBuffer}

-- Limits of a name, a request list and the extra options, in octets (document 01's numbers 3, 4 and 5).
abbrev pub name_limit : ℕ
name_limit = 63

abbrev pub list_limit : ℕ
list_limit = 64

abbrev pub extra_limit : ℕ
extra_limit = 255

-- Whether a request list of so many codes is within its limit, if there is one.
unfoldable pub list_fits : Option ℕ → Bool
list_fits None = true
list_fits (Some n) = leb n list_limit

-- A message's length, or a refusal: 3 name over 63 octets; 4 request list over 64, where there is one; 5 extra options
-- over 255 octets or not whole items.
unfoldable pub measured : Message → List ℕ → Option (List ℕ) → List ℕ → Result ℕ Refusal
measured m name list extra =
    when ltb name_limit (length name) then Err Name
    else when not (list_fits (option_map length list)) then Err RequestList
    else when ltb extra_limit (length extra) then Err ExtraOptions
    else when not (whole_items extra) then Err ExtraOptions
    else Ok (length (message m name list extra))

-- What a writer that is lent so many octets answers: the datagram's length, or a refusal, 8 where it does not fit.
abbrev pub fitted : ℕ → Result ℕ Refusal → Result ℕ Refusal
fitted room (Err refusal) = Err refusal
fitted room (Ok size) = when leb (8 + size) room then Ok (8 + size) else Err ShortBuffer

-- The buffer after it: the datagram from its first octet on, what follows as it was; as it was where it is refused.
abbrev pub leaves : Result ℕ Refusal → List ℕ → List ℕ → List ℕ
leaves (Err refusal) out buffer = buffer
leaves (Ok size) out buffer = over out buffer

unfoldable pub written : Message → List ℕ → Option (List ℕ) → List ℕ → ℕ → Result ℕ Refusal
written m name list extra room = fitted room (measured m name list extra)

unfoldable pub buffer_after : Endpoints → Bool → Message → List ℕ → Option (List ℕ) → List ℕ → List ℕ → List ℕ
buffer_after ends offload m name list extra buffer =
    leaves (written m name list extra (length buffer)) (datagram ends offload (message m name list extra)) buffer
