-- The options field of a reply (RFC 2132, section 2), and the data of an option in it. Document 01: "Options begin at
-- byte 240. 0 is one byte of padding, 255 ends. An option cut short by the end of the reply ends the walk."
use Rattle.std.specs.Prelude.{ℕ, zero, suc, ◌+◌, List, [], ◌∷◌, length, get_or, take, drop, eqb, ltb, Option, None, Some}
use Rattle.choice.specs.Choice.{when◌then◌else◌}
use Rattle.octets.specs.Codes.{pad_code, end_code}
use Rattle.wire.specs.declared.options.Item.{Item as Lent}
use Rattle.wire.specs.declared.options.Options.{Options}

-- An option: its code and its data.
pub record DhcpOption : Type 0 where
  pub code : ℕ
  pub body : List ℕ

-- What an options field begins with: padding, the end, or an option whose length octet and data are all there.
pub data Item : Type 0 where
  Pad : Item
  End : Item
  Whole : ℕ → ℕ → Item

unfoldable pub head_item : List ℕ → Item
head_item [] = End
head_item (code ∷ xs) =
    when eqb code pad_code then Pad
    else when eqb code end_code then End
    else when ltb (get_or xs 0 0) (length xs) then Whole code (get_or xs 0 0)
    else End

-- The options of a field, whose first `rest` octets belong to an option begun before.
unfoldable pub options_from : ℕ → List ℕ → List DhcpOption
options_from rest [] = []
options_from (suc rest) (x ∷ xs) = options_from rest xs
options_from zero (code ∷ xs) =
    elim (head_item (code ∷ xs)) [
      | Pad ↦ options_from 0 xs
      | End ↦ []
      | Whole code size ↦ record { code = code; body = take size (drop 1 xs) } ∷ options_from (suc size) xs
    ]

-- What precedes the options: a header of 236 octets, and the magic cookie.
abbrev pub header_length : ℕ
header_length = 236 + 4

-- The options of a reply, in order.
abbrev pub options_of : List ℕ → List DhcpOption
options_of reply = options_from 0 (drop header_length reply)

-- The data of the first option with a code.
unfoldable pub first_with : ℕ → List DhcpOption → Option (List ℕ)
first_with code [] = None
first_with code (o ∷ os) = when eqb o.code code then Some o.body else first_with code os

-- The data of an option of a reply, by its code: all reading goes through this name. Of two options with one code the
-- first counts: the Rust decides.
abbrev pub option_data : ℕ → List ℕ → Option (List ℕ)
option_data code reply = first_with code (options_of reply)

-- For contracts within this crate, which no public one cites: an option as the walk lends it, and the options that a walk
-- has left.
abbrev pub option_of : Lent → DhcpOption
option_of item = record { code = item.code; body = item.body.now }

abbrev pub options_left : Options → List DhcpOption
options_left walk = options_from 0 walk.rest.now
