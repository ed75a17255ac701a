-- Words of the wire: the high octet first (RFC 791, appendix B).
use Rattle.std.specs.Prelude.{ℕ, ◌+◌, ◌*◌, ◌/◌, ◌%◌, List, [], ◌∷◌, length, get_or, leb, Option, None, Some}
use Rattle.choice.specs.Choice.{when◌then◌else◌}

-- Two and four octets as a number.
abbrev pub word16 : ℕ → ℕ → ℕ
word16 a b = a * 256 + b

abbrev pub word32 : ℕ → ℕ → ℕ → ℕ → ℕ
word32 a b c d = ((a * 256 + b) * 256 + c) * 256 + d

-- A number's low 16 and 32 bits as octets.
abbrev pub bytes16 : ℕ → List ℕ
bytes16 v = v / 256 % 256 ∷ v % 256 ∷ []

abbrev pub bytes32 : ℕ → List ℕ
bytes32 v = v / 16777216 % 256 ∷ v / 65536 % 256 ∷ v / 256 % 256 ∷ v % 256 ∷ []

-- The word at a place of a list, none where the list ends before the word does.
unfoldable pub word16_at : List ℕ → ℕ → Option ℕ
word16_at s at =
    when leb (at + 2) (length s) then Some (word16 (get_or s at 0) (get_or s (at + 1) 0)) else None

unfoldable pub word32_at : List ℕ → ℕ → Option ℕ
word32_at s at =
    when leb (at + 4) (length s) then Some (word32 (get_or s at 0) (get_or s (at + 1) 0) (get_or s (at + 2) 0) (get_or s (at + 3) 0)) else None
