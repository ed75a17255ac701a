-- A record as it is written (docs/TRACE.md, "Lines"): the form's text, with each gap filled.
use Rattle.std.specs.Prelude.{ℕ, zero, suc, ◌+◌, ◌/◌, ◌%◌, ◌≤◌, ◌<◌, Bool, true, false, List, [], ◌∷◌, ◌++◌, ◌≡◌, length, nat_lt, if◌then◌else◌, Some, is_some}
use Rattle.octets.specs.Words.{bytes32}
use Rattle.trace.specs.Digits.{digit_of}
use Rattle.trace.specs.Numbers.{dot}
use Rattle.trace.specs.Gaps.{limit_of}
use Rattle.trace.specs.declared.form.Gap as kinds
use Rattle.trace.specs.declared.form.Gap.TheVariants.{Address, Octets}
use Rattle.trace.specs.declared.form.Part.{Part}
use Rattle.trace.specs.declared.form.Part.TheVariants.{Letter, Gap}

-- The character of a digit, and the text of several.
unfoldable pub digit_char_of : ℕ → ℕ
digit_char_of d = if nat_lt d 10 then 48 + d else 87 + d

unfoldable pub chars_of : List ℕ → List ℕ
chars_of [] = []
chars_of (d ∷ ds) = digit_char_of d ∷ chars_of ds

-- The digits of a number, of which there are at most one more than k.
unfoldable pub decimal_digits : ℕ → ℕ → List ℕ
decimal_digits zero n = n ∷ []
decimal_digits (suc k) n = if nat_lt n 10 then n ∷ [] else decimal_digits k (n / 10) ++ (n % 10 ∷ [])

-- A number in decimal: 64 bits need at most 20 digits.
abbrev pub decimal_text : ℕ → List ℕ
decimal_text n = chars_of (decimal_digits 19 n)

-- Numbers with dots between them, and an address.
unfoldable pub dotted_text : List ℕ → List ℕ
dotted_text [] = []
dotted_text (n ∷ []) = decimal_text n
dotted_text (n ∷ m ∷ ns) = decimal_text n ++ (dot ∷ dotted_text (m ∷ ns))

abbrev pub address_text : ℕ → List ℕ
address_text v = dotted_text (bytes32 v)

-- Octets, two digits each.
unfoldable pub octets_text : List ℕ → List ℕ
octets_text [] = []
octets_text (o ∷ os) = digit_char_of (o / 16) ∷ digit_char_of (o % 16) ∷ octets_text os

-- What fills a gap: a number, which may be an address, or octets.
pub data Field : Type 0 where
  number : ℕ → Field
  octets : List ℕ → Field

abbrev pub field_text : kinds.Gap → Field → List ℕ
field_text gap (octets os) = octets_text os
field_text Address (number v) = address_text v
field_text gap (number v) = decimal_text v

-- The parts of a form with their gaps filled, in order.
unfoldable pub record_text : List Part → List Field → List ℕ
record_text [] fields = []
record_text (Letter s ∷ parts) fields = s ∷ record_text parts fields
record_text (Gap gap ∷ parts) [] = []
record_text (Gap gap ∷ parts) (field ∷ fields) = field_text gap field ++ record_text parts fields

-- The values that a reader finds in that text, from a place of the line on.
abbrev pub field_values : ℕ → Field → List ℕ
field_values place (number v) = v ∷ []
field_values place (octets os) = place ∷ length os ∷ []

unfoldable pub record_values : ℕ → List Part → List Field → List ℕ
record_values place [] fields = []
record_values place (Letter s ∷ parts) fields = record_values (place + 1) parts fields
record_values place (Gap gap ∷ parts) [] = []
record_values place (Gap gap ∷ parts) (field ∷ fields) = field_values place field ++ record_values (place + length (field_text gap field)) parts fields

-- Whether each of a list is an octet.
abbrev pub AllOctets : List ℕ → Type 0
AllOctets [] = Unit {0}
AllOctets (o ∷ os) = (o < 256) × AllOctets os

-- What a gap can be filled with: its limit says which numbers; %a is any number of 32 bits, %x at most 65,535 octets.
pub data Fills : kinds.Gap → Field → Type 0 where
  decimals : {gap : kinds.Gap} {most v : ℕ} → limit_of gap ≡ Some most → v ≤ most → Fills gap (number v)
  addresses : {v : ℕ} → v < 4294967296 → Fills Address (number v)
  bytes : {os : List ℕ} → AllOctets os → length os ≤ 65535 → Fills Octets (octets os)

-- Each gap of a form's parts is filled, and nothing is left.
unfoldable pub Filled : List Part → List Field → Type 0
Filled [] [] = Unit {0}
Filled [] (field ∷ fields) = ⊥
Filled (Letter s ∷ parts) fields = Filled parts fields
Filled (Gap gap ∷ parts) [] = ⊥
Filled (Gap gap ∷ parts) (field ∷ fields) = Fills gap field × Filled parts fields

-- Whether each gap is followed by the end or by a character that is no digit, as in every form of docs/TRACE.md.
unfoldable pub apart : List Part → Bool
apart [] = true
apart (Letter s ∷ parts) = apart parts
apart (Gap gap ∷ []) = true
apart (Gap gap ∷ Gap other ∷ parts) = false
apart (Gap gap ∷ Letter s ∷ parts) = if is_some (digit_of s) then false else apart parts
