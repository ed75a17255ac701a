-- Options as items: kind, length of the data, data (RFC 2132, section 2). Here every kind is an item: 0 is no padding
-- and 255 no end.
use Rattle.std.specs.Prelude.{ℕ, zero, suc, Bool, true, false, List, [], ◌∷◌, length, leb}
use Rattle.choice.specs.Choice.{when◌then◌else◌}

-- The magic cookie, with which the options field of a DHCP message begins: 99, 130, 83, 99 (RFC 2131, section 3).
abbrev pub cookie : List ℕ
cookie = 99 ∷ 130 ∷ 83 ∷ 99 ∷ []

-- An option on the wire.
abbrev pub option : ℕ → List ℕ → List ℕ
option kind body = kind ∷ length body ∷ body

-- An option as a writer has it: none where its data is longer than an octet can say.
unfoldable pub option_bytes : ℕ → List ℕ → List ℕ
option_bytes kind body = when leb (length body) 255 then option kind body else []

-- Whether a list, whose first `rest` octets are data of an item begun before, ends where an item ends.
unfoldable pub whole_from : ℕ → List ℕ → Bool
whole_from zero [] = true
whole_from zero (kind ∷ []) = false
whole_from zero (kind ∷ size ∷ xs) = whole_from size xs
whole_from (suc rest) [] = false
whole_from (suc rest) (x ∷ xs) = whole_from rest xs

-- Whether a list is whole items.
abbrev pub whole_items : List ℕ → Bool
whole_items = whole_from 0
