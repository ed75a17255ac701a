-- Laws of a message's pieces: which are there, and how long they are. Assumes nothing.
use Rattle.std.proofs.Common.{◌≡◌, refl, ℕ, ◌+◌, ◌≤◌, ◌≢◌, List, [], ◌∷◌, ◌++◌, append_assoc, length, length-append, arith, Option, None, Some}
use Rattle.std.specs.Prelude.{option_map}
use Rattle.std.specs.Option.{option_map_or}
use Rattle.octets.specs.Words.{bytes16, bytes32}
use Rattle.octets.specs.Items.{option}
use Rattle.octets.specs.Codes.{end_code, host_name_code, requested_code, identifier_code, request_list_code, message_size_code}
use Rattle.message.specs.Messages.{header, option_if, address_option, size_option, name_option, who, given, message}
use Rattle.message.specs.Pieces.{last}
use Rattle.message.specs.declared.message.Message.{Message}

-- an option that holds an address or a size is one that may be absent
pub address_if : (kind : ℕ) (m : Option ℕ) {body : Option (List ℕ)} → body ≡ option_map bytes32 m → option_if kind body ≡ address_option kind m
unfolding option_if address_option
address_if kind None e = rw e refl
address_if kind (Some a) e = rw e refl

pub size_if : (kind : ℕ) (m : Option ℕ) {body : Option (List ℕ)} → body ≡ option_map bytes16 m → option_if kind body ≡ size_option kind m
unfolding option_if size_option
size_if kind None e = rw e refl
size_if kind (Some n) e = rw e refl

-- an empty name is none
pub name_some : (name : List ℕ) → length name ≢ 0 → name_option name ≡ option host_name_code name
unfolding name_option
name_some [] h = absurd (h refl)
name_some (x ∷ xs) h = refl

pub name_none : (name : List ℕ) → length name ≡ 0 → name_option name ≡ []
unfolding name_option
name_none [] h = refl
name_none (x ∷ xs) h = absurd (omega arith)

-- how long they are
pub if_length : (kind : ℕ) (m : Option (List ℕ)) → length (option_if kind m) ≡ option_map_or (λ body. length body + 2) m 0
unfolding option_if
if_length kind None = refl
if_length kind (Some body) = omega arith

pub address_length : (kind : ℕ) (m : Option ℕ) → length (address_option kind m) ≡ option_map_or (λ a. 6) m 0
unfolding address_option
address_length kind None = refl
address_length kind (Some a) = refl

pub size_length : (kind : ℕ) (m : Option ℕ) → length (size_option kind m) ≡ option_map_or (λ n. 4) m 0
unfolding size_option
size_length kind None = refl
size_length kind (Some n) = refl

-- an address takes at most 6 octets
pub address_most : (kind : ℕ) (m : Option ℕ) → length (address_option kind m) ≤ 6
unfolding address_option
address_most kind None = omega arith
address_most kind (Some a) = omega arith

-- the length of a message
pub message_length_lem : (m : Message) (name : List ℕ) (list : Option (List ℕ)) (extra : List ℕ) → length m.hardware ≡ 6
    → length (message m name list extra)
    ≡ 253 + length (name_option name) + (length (address_option requested_code m.requested) + length (address_option identifier_code m.server) + length (size_option message_size_code m.size)) + length (option_if request_list_code list) + length extra
unfolding message
message_length_lem m name list extra h = simp length-append (omega arith)

-- a message as it is written: header, then the options in three groups
regrouped : (h w g l x e : List ℕ) → h ++ (w ++ (g ++ (l ++ (x ++ e)))) ≡ h ++ ((w ++ (g ++ (l ++ x))) ++ e)
regrouped h w g l x e = simp append_assoc

pub groups : (m : Message) (name : List ℕ) (list : Option (List ℕ)) (extra : List ℕ)
    → header m.id m.client m.hardware ++ (who m.kind m.hardware name ++ (given m.requested m.server m.size ++ last list extra)) ≡ message m name list extra
unfolding message
groups m name list extra =
    regrouped (header m.id m.client m.hardware) (who m.kind m.hardware name) (given m.requested m.server m.size) (option_if request_list_code list) extra (end_code ∷ [])
