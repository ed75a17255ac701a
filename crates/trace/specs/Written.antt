-- What a writer leaves in the buffer that it is lent: its text from a place on, as far as there is room; and what a reader finds in it.
use Rattle.std.specs.Prelude.{ℕ, ◌+◌, ◌-◌, ◌*◌, ◌≤◌, ◌<◌, min, ◌≡◌, List, [], ◌∷◌, ◌++◌, length, take, drop, get_or, Some}
use Rattle.trace.specs.Digits.{octet_at}
use Rattle.trace.specs.Forms.{parts_of}
use Rattle.trace.specs.declared.form.Gap as kinds
use Rattle.trace.specs.declared.form.Gap.TheVariants.{Octets}
use Rattle.trace.specs.declared.form.Part.{Part}
use Rattle.trace.specs.declared.form.Part.TheVariants.{Letter, Gap}
use Rattle.trace.specs.declared.write.Writer.{Writer}
use Rattle.trace.specs.Records.{fitting, record_of}
use Rattle.trace.specs.Texts.{Field, number, octets, field_text, record_text, Fills}

-- A text over the start of a buffer, cut where the buffer ends.
unfoldable pub poured : List ℕ → List ℕ → List ℕ
poured [] buffer = buffer
poured (c ∷ text) [] = []
poured (c ∷ text) (b ∷ buffer) = c ∷ poured text buffer

-- The buffer with a text from a place on, and the place behind the text.
unfoldable pub poured_from : ℕ → List ℕ → List ℕ → List ℕ
poured_from place text buffer = take place buffer ++ poured text (drop place buffer)

abbrev pub place_after : ℕ → List ℕ → List ℕ → ℕ
place_after place text buffer = place + min (length text) (length buffer - place)

-- A writer's contract: from a buffer to the place behind its text and the buffer after it.
pub record Wrote (place : ℕ) (text before : List ℕ) (next : ℕ) (after : List ℕ) : Type 0 where
  pub ends : next ≡ place_after place text before
  pub bytes : after ≡ poured_from place text before

-- The same of a writer, which keeps its buffer.
pub record Writes (text : List ℕ) (before after : Writer) : Type 0 where
  pub same_buffer : after.buf.ghost_name ≡ before.buf.ghost_name
  pub wrote : Wrote before.at text before.buf.now after.at after.buf.now

-- How many values a gap takes: %x two, the place of its first octet among the octets at hand and how many they are.
abbrev pub width : kinds.Gap → ℕ
width Octets = 2
width gap = 1

-- What fills a gap. A value that is missing is 0, an octet that is missing is left out.
abbrev pub field_of : kinds.Gap → List ℕ → List ℕ → Field
field_of Octets values source = octets (take (get_or values 1 0) (drop (get_or values 0 0) source))
field_of gap values source = number (get_or values 0 0)

-- What fills the gaps of a form's parts, in order.
unfoldable pub fields_of : List Part → List ℕ → List ℕ → List Field
fields_of [] values source = []
fields_of (Letter s ∷ parts) values source = fields_of parts values source
fields_of (Gap gap ∷ parts) values source = field_of gap values source ∷ fields_of parts (drop (width gap) values) source

-- The line that values and octets give, by their form.
unfoldable pub line_of : List ℕ → List ℕ → List ℕ → List ℕ
line_of form values source = record_text (parts_of form) (fields_of (parts_of form) values source)

-- For contracts within this crate: the text of a form's part, and how many values it takes.
abbrev pub part_text : Part → List ℕ → List ℕ → List ℕ
part_text (Letter s) values source = s ∷ []
part_text (Gap gap) values source = field_text gap (field_of gap values source)

abbrev pub part_width : Part → ℕ
part_width (Letter s) = 0
part_width (Gap gap) = width gap

-- What a form asks: for each gap a number that fills it, or the place and the count of octets that are at hand and fill it.
pub data Given (source : List ℕ) : List Part → List ℕ → Type 0 where
  given_none : Given source [] []
  given_letter : {s : ℕ} {parts : List Part} {values : List ℕ} → Given source parts values → Given source (Letter s ∷ parts) values
  given_number : {gap : kinds.Gap} {v : ℕ} {parts : List Part} {values : List ℕ} → Fills gap (number v) → Given source parts values → Given source (Gap gap ∷ parts) (v ∷ values)
  given_octets : {place count : ℕ} {parts : List Part} {values : List ℕ} → place + count ≤ length source → Fills Octets (octets (take count (drop place source)))
      → Given source parts values → Given source (Gap Octets ∷ parts) (place ∷ count ∷ values)

-- What a reader finds in the line: the numbers as they were given, and places in the line at which the octets stand.
pub data Found (source line : List ℕ) : List Part → List ℕ → List ℕ → Type 0 where
  found_none : Found source line [] [] []
  found_letter : {s : ℕ} {parts : List Part} {values found : List ℕ} → Found source line parts values found → Found source line (Letter s ∷ parts) values found
  found_number : {gap : kinds.Gap} {v : ℕ} {parts : List Part} {values found : List ℕ} → (gap ≡ Octets → ⊥) → Found source line parts values found → Found source line (Gap gap ∷ parts) (v ∷ values) (v ∷ found)
  found_octets : {place at count : ℕ} {parts : List Part} {values found : List ℕ}
      → ((i : ℕ) → i < count → octet_at (at + 2 * i) line ≡ Some (get_or source (place + i) 0))
      → Found source line parts values found → Found source line (Gap Octets ∷ parts) (place ∷ count ∷ values) (at ∷ count ∷ found)

-- A line that fits its form and gives back what was given.
pub record ReadBack (form values source line : List ℕ) : Type 0 where
  pub found : List ℕ
  pub fits : record_of form line ≡ fitting found
  pub same : Found source line (parts_of form) values found
