-- Digits, and octets that are written as two digits each (docs/TRACE.md: "two digits each, 0 to 9 and a to f").
use Rattle.std.specs.Prelude.{ℕ, suc, ◌+◌, ◌-◌, ◌*◌, List, [], ◌∷◌, drop, nat_lt, if◌then◌else◌, Option, None, Some, option_and_then}

-- The value of a digit, by its character: 48 to 57 are 0 to 9, 97 to 102 are a to f.
unfoldable pub digit_of : ℕ → Option ℕ
digit_of c =
    if nat_lt c 48 then None
    else if nat_lt c 58 then Some (c - 48)
    else if nat_lt c 97 then None
    else if nat_lt c 103 then Some (c - 87)
    else None

-- The value of a decimal digit.
unfoldable pub decimal_digit_of : ℕ → Option ℕ
decimal_digit_of c = option_and_then (λ d. if nat_lt d 10 then Some d else None) (digit_of c)

-- The octet that two digits are.
unfoldable pub octet_of : ℕ → ℕ → Option ℕ
octet_of a b = option_and_then (λ high. option_and_then (λ low. Some (high * 16 + low)) (digit_of b)) (digit_of a)

-- The octet that a text begins with.
unfoldable pub first_octet : List ℕ → Option ℕ
first_octet [] = None
first_octet (a ∷ []) = None
first_octet (a ∷ b ∷ text) = octet_of a b

-- The octet at a place of a line.
abbrev pub octet_at : ℕ → List ℕ → Option ℕ
octet_at place line = first_octet (drop place line)

-- How many octets a text begins with, one after another.
unfoldable pub pairs_of : List ℕ → ℕ
pairs_of [] = 0
pairs_of (a ∷ []) = 0
pairs_of (a ∷ b ∷ text) =
    elim (octet_of a b) [
      | None ↦ 0
      | Some octet ↦ suc (pairs_of text)
    ]
