-- A line read along its form: "Whoever reads or writes a record walks along its form" (docs/TRACE.md, "Lines").
use Rattle.std.specs.Prelude.{ℕ, zero, suc, ◌+◌, ◌*◌, List, [], ◌∷◌, ◌++◌, length, drop, slice_set, nat_lt, nat_le, if◌then◌else◌, Option, None, Some, option_and_then, Result, Ok, Err}
use Rattle.trace.specs.Forms.{parts_of, taken}
use Rattle.trace.specs.declared.form.Part.{Part}
use Rattle.trace.specs.declared.taken.Taken.{Taken}
use Rattle.trace.specs.declared.taken.Taken.TheVariants.{Letter, Value, Octets}
use Rattle.trace.specs.declared.record.Record.{Record}
use Rattle.trace.specs.declared.record.Misfit.{Misfit}

-- A record has at most so many values.
abbrev pub most_values : ℕ
most_values = 16

-- The first n of a list, zeros after them.
abbrev pub padded : ℕ → List ℕ → List ℕ
padded zero xs = []
padded (suc n) [] = 0 ∷ padded n []
padded (suc n) (x ∷ xs) = x ∷ padded n xs

-- A record of these values.
abbrev pub holding : List ℕ → Record
holding values = record { values = padded most_values values; count = length values }

-- A line that fits its form, with its values.
unfoldable pub fitting : List ℕ → Result Record Misfit
fitting values = Ok (holding values)

-- A line that departs from its form at a place.
abbrev pub misfit : ℕ → Result Record Misfit
misfit column = Err (record { column = column })

-- The walk along the parts of a form that are still to come, with the values that were read, the place in the line and
-- the rest of the line. Octets give two values: the place of their first digit, and how many they are. A gap for whose
-- values there is no room is a fault where it begins.
unfoldable pub walk : List Part → List ℕ → ℕ → List ℕ → Result Record Misfit
walk [] values place [] = fitting values
walk [] values place (c ∷ line) = misfit place
walk (part ∷ parts) values place line =
    elim (taken part line) [
      | Err size ↦ misfit (place + size)
      | Ok what ↦ elim what [
        | Letter ↦ walk parts values (place + 1) (drop 1 line)
        | Value number ↦
            if nat_le (length values + 1) most_values then walk parts (values ++ (number.value ∷ [])) (place + number.len) (drop number.len line)
            else misfit place
        | Octets count ↦
            if nat_le (length values + 2) most_values then walk parts (values ++ (place ∷ count ∷ [])) (place + 2 * count) (drop (2 * count) line)
            else misfit place
      ]
    ]

-- What a line holds, by its form: its values, or the place at which it departs from the form. That is where a character is
-- missing or another one stands, where a number that is none or too large begins, or where more follows than the form has.
abbrev pub record_of : List ℕ → List ℕ → Result Record Misfit
record_of form line = walk (parts_of form) [] 0 line

-- For contracts within this crate: a record with one value more, and with those of what was taken at a place.
abbrev pub with_value : ℕ → Record → Option Record
with_value value r = if nat_lt r.count most_values then Some (record { values = slice_set r.values r.count value; count = r.count + 1 }) else None

abbrev pub with_taken : ℕ → Taken → Record → Option Record
with_taken place Letter r = Some r
with_taken place (Value number) r = with_value number.value r
with_taken place (Octets count) r = option_and_then (with_value count) (with_value place r)
