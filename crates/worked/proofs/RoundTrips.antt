-- What the writer of messages wrote, the reader of replies reads: every option, in order. Assumes nothing.
use Rattle.std.proofs.Common.{Option, None, Some}
use Prim.Native.Nat.{ℕ, ◌+◌, ◌≤◌, ◌<◌}
use mathlib.Core.Path.{◌≡◌, refl, ap, ◌∙◌}
use mathlib.Core.List.{List, [], ◌∷◌, ◌++◌, append_assoc}
use native.Mathlib.Omega.{arith}
use lib.ListN.{length, length-append}
use lib.Seq.{drop_at}
use Rattle.choice.specs.Choice.{when◌then◌else◌}
use borrow.Author.Tests.{le-leb}
use Rattle.octets.specs.Words.{word32_at, bytes16, bytes32}
use Rattle.octets.specs.Items.{option}
use Rattle.octets.specs.Codes.{end_code, host_name_code, requested_code, message_type_code, identifier_code, request_list_code, message_size_code, client_id_code}
use Rattle.octets.proofs.Words.{joined32}
use Rattle.wire.specs.Options.{DhcpOption, options_from, options_of, option_data, first_with}
use Rattle.wire.specs.Readings.{message_type, type_of, transaction_id}
use Rattle.wire.proofs.Walks.{walk_option}
use Rattle.message.specs.Messages.{message, header, option_if, address_option, size_option, name_option, options}
use Rattle.message.specs.declared.message.Message.{Message}
use Rattle.worked.specs.Sent.{item, name_item, address_item, size_item, list_item, sent}

-- An option of the writer's, read.
one : (code : ℕ) (body r : List ℕ) → 0 < code → code < 255 → options_from 0 (option code body ++ r) ≡ item code body ∷ options_from 0 r
one code body r h k = walk_option code body r (λ e. omega arith) (λ e. omega arith)

named : (name r : List ℕ) → options_from 0 (name_option name ++ r) ≡ name_item name ++ options_from 0 r
unfolding name_option
named [] r = refl
named (x ∷ xs) r = one host_name_code (x ∷ xs) r (omega arith) (omega arith)

addressed : (code : ℕ) (address : Option ℕ) (r : List ℕ) → 0 < code → code < 255 → options_from 0 (address_option code address ++ r) ≡ address_item code address ++ options_from 0 r
unfolding address_option
addressed code None r h k = refl
addressed code (Some a) r h k = one code (bytes32 a) r h k

sized : (size : Option ℕ) (r : List ℕ) → options_from 0 (size_option message_size_code size ++ r) ≡ size_item size ++ options_from 0 r
unfolding size_option
sized None r = refl
sized (Some n) r = one message_size_code (bytes16 n) r (omega arith) (omega arith)

listed : (list : Option (List ℕ)) (r : List ℕ) → options_from 0 (option_if request_list_code list ++ r) ≡ list_item list ++ options_from 0 r
unfolding option_if
listed None r = refl
listed (Some list) r = one request_list_code list r (omega arith) (omega arith)

flatten : (a b c d e f g x y : List ℕ) → ((a ++ (b ++ c)) ++ ((d ++ (e ++ f)) ++ (g ++ x))) ++ y ≡ a ++ (b ++ (c ++ (d ++ (e ++ (f ++ (g ++ (x ++ y)))))))
flatten a b c d e f g x y = simp append_assoc

-- The writer's options, one behind the other, then what follows.
abbrev row : Message → List ℕ → Option (List ℕ) → List ℕ → List ℕ
row m name list rest =
    option message_type_code (m.kind ∷ []) ++ (option client_id_code (1 ∷ m.hardware) ++ (name_option name ++ (address_option requested_code m.requested ++ (address_option identifier_code m.server ++ (size_option message_size_code m.size ++ (option_if request_list_code list ++ rest))))))

-- All of them.
module _ (m : Message) (name : List ℕ) (list : Option (List ℕ)) (extra : List ℕ) where
  abbrev rest : List ℕ
  rest = extra ++ (end_code ∷ [])

  told : options_from 0 (address_option requested_code m.requested ++ (address_option identifier_code m.server ++ (size_option message_size_code m.size ++ (option_if request_list_code list ++ rest))))
      ≡ address_item requested_code m.requested ++ (address_item identifier_code m.server ++ (size_item m.size ++ (list_item list ++ options_from 0 rest)))
  told =
      addressed requested_code m.requested _ (omega arith) (omega arith)
      ∙ ap (λ (l : List DhcpOption). address_item requested_code m.requested ++ l)
      (addressed identifier_code m.server _ (omega arith) (omega arith)
      ∙ ap (λ (l : List DhcpOption). address_item identifier_code m.server ++ l)
      (sized m.size _ ∙ ap (λ (l : List DhcpOption). size_item m.size ++ l) (listed list rest)))

  in_row : options_from 0 (row m name list rest)
      ≡ sent m name list ++ options_from 0 rest
  in_row =
      one message_type_code (m.kind ∷ []) _ (omega arith) (omega arith)
      ∙ ap (λ (l : List DhcpOption). item message_type_code (m.kind ∷ []) ∷ l)
      (one client_id_code (1 ∷ m.hardware) _ (omega arith) (omega arith)
      ∙ ap (λ (l : List DhcpOption). item client_id_code (1 ∷ m.hardware) ∷ l) (named name _ ∙ ap (λ (l : List DhcpOption). name_item name ++ l) told))
      ∙ simp append_assoc

  -- The options of a message that was written are those it was given, then the extra ones.
  pub round_trip : length m.hardware ≡ 6 → options_of (message m name list extra) ≡ sent m name list ++ options_from 0 rest
  unfolding message
  round_trip six =
      let fixed : length (header m.id m.client m.hardware) ≡ 240 = simp length-append (omega arith) in
      let field = drop_at (header m.id m.client m.hardware) (options m name list extra ++ (end_code ∷ [])) 240 fixed in
      let flat : options m name list extra ++ (end_code ∷ []) ≡ row m name list (extra ++ (end_code ∷ [])) =
      flatten (option message_type_code (m.kind ∷ [])) (option client_id_code (1 ∷ m.hardware)) (name_option name) (address_option requested_code m.requested) (address_option identifier_code m.server) (size_option message_size_code m.size) (option_if request_list_code list) extra (end_code ∷ []) in
      ap (options_from 0) (field ∙ flat) ∙ in_row

  -- So the first of each code is the one it was given: the message type, and the client identifier.
  pub type_read : length m.hardware ≡ 6 → message_type (message m name list extra) ≡ Some m.kind
  unfolding first_with when◌then◌else◌
  type_read six = ap (λ (os : List DhcpOption). type_of (first_with message_type_code os)) (round_trip six)

  pub client_read : length m.hardware ≡ 6 → option_data client_id_code (message m name list extra) ≡ Some (1 ∷ m.hardware)
  unfolding first_with when◌then◌else◌
  client_read six = ap (first_with client_id_code) (round_trip six)

  -- The header's id is read as it was given.
  pub id_read : m.id < 4294967296 → transaction_id (message m name list extra) ≡ Some m.id
  unfolding message word32_at when◌then◌else◌
  id_read h =
      let room : 4 + 4 ≤ length (message m name list extra) = omega arith in
      simp (le-leb _ _ room) (ap Some (joined32 m.id h))
