-- Numbers in decimal, "no sign, no leading zero", and addresses, "four numbers of 8 bits with dots" (docs/TRACE.md).
use Rattle.std.specs.Prelude.{ℕ, ◌+◌, ◌*◌, Bool, true, false, List, [], ◌∷◌, length, drop, ◌==◌, nat_le, if◌then◌else◌, Option, None, Some, Result, Ok, Err}
use Rattle.trace.specs.Lines.{starts_with}
use Rattle.trace.specs.Digits.{decimal_digit_of}
use Rattle.trace.specs.declared.number.Number.{Number}

-- The decimal digits that a text begins with, by their values.
unfoldable pub digits_of : List ℕ → List ℕ
digits_of [] = []
digits_of (c ∷ text) =
    elim (decimal_digit_of c) [
      | None ↦ []
      | Some d ↦ d ∷ digits_of text
    ]

-- The number whose digits are those of `high` and then these.
unfoldable pub number_from : ℕ → List ℕ → ℕ
number_from high [] = high
number_from high (d ∷ ds) = number_from (high * 10 + d) ds

-- Whether digits are a number as it is written: at least one, and no zero before others.
unfoldable pub proper : List ℕ → Bool
proper [] = false
proper (d ∷ []) = true
proper (d ∷ e ∷ ds) = if d == 0 then false else true

-- For contracts within this crate: a number, if it is at most `most`.
abbrev pub upto : ℕ → ℕ → Option ℕ
upto most n = if nat_le n most then Some n else None

-- The number that digits write, with their count, if it is at most `most`.
unfoldable pub within : ℕ → List ℕ → Option Number
within most ds = if nat_le (number_from 0 ds) most then Some (record { value = number_from 0 ds; len = length ds }) else None

-- The number of at most `most` that a text begins with. It ends where no digit follows.
unfoldable pub decimal : ℕ → List ℕ → Option Number
decimal most text = if proper (digits_of text) then within most (digits_of text) else None

-- A number that is read from a place on. Where there is none, reading stops where the number would begin.
abbrev pub number_at : ℕ → Option Number → Result Number ℕ
number_at at None = Err at
number_at at (Some n) = Ok n

-- One number more of an address, behind `size` characters that give `high`.
abbrev pub joined : ℕ → ℕ → Option Number → Result Number ℕ
joined high size None = Err size
joined high size (Some low) = Ok (record { value = high * 256 + low.value; len = size + low.len })

-- The dot between the numbers of an address.
abbrev pub dot : ℕ
dot = 46

-- A dot and one number more, behind what was read of an address.
abbrev pub dotted : List ℕ → Result Number ℕ → Result Number ℕ
dotted text (Err n) = Err n
dotted text (Ok high) = if starts_with dot (drop high.len text) then joined high.value (high.len + 1) (decimal 255 (drop (high.len + 1) text)) else Err high.len

-- The address that a text begins with, as a number of 32 bits, the high octet first.
unfoldable pub address : List ℕ → Result Number ℕ
address text = dotted text (dotted text (dotted text (number_at 0 (decimal 255 text))))
