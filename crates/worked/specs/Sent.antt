-- The options of a message, as codes and data: what a reader is to find in it.
use Rattle.std.specs.Prelude.{ℕ, List, [], ◌∷◌, ◌++◌, Option, None, Some}
use Rattle.octets.specs.Words.{bytes16, bytes32}
use Rattle.octets.specs.Codes.{host_name_code, requested_code, message_type_code, identifier_code, request_list_code, message_size_code, client_id_code}
use Rattle.wire.specs.Options.{DhcpOption}
use Rattle.message.specs.declared.message.Message.{Message}

abbrev pub item : ℕ → List ℕ → DhcpOption
item code body = record { code = code; body = body }

abbrev pub name_item : List ℕ → List DhcpOption
name_item [] = []
name_item (x ∷ xs) = item host_name_code (x ∷ xs) ∷ []

abbrev pub address_item : ℕ → Option ℕ → List DhcpOption
address_item code None = []
address_item code (Some address) = item code (bytes32 address) ∷ []

abbrev pub size_item : Option ℕ → List DhcpOption
size_item None = []
size_item (Some size) = item message_size_code (bytes16 size) ∷ []

abbrev pub list_item : Option (List ℕ) → List DhcpOption
list_item None = []
list_item (Some list) = item request_list_code list ∷ []

abbrev pub sent : Message → List ℕ → Option (List ℕ) → List DhcpOption
sent m name list =
    item message_type_code (m.kind ∷ []) ∷ item client_id_code (1 ∷ m.hardware) ∷ (name_item name ++ (address_item requested_code m.requested ++ (address_item identifier_code m.server ++ (size_item m.size ++ list_item list))))
