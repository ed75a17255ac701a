-- A record that is written along a form is read along it: every value, in order. Assumes nothing.
use Rattle.std.proofs.Common.{◌≡◌, ℕ, suc, ◌+◌, ◌-◌, ◌*◌, ◌/◌, ◌%◌, ◌≤◌, ◌<◌, Bool, true, false, List, [], ◌∷◌, ◌++◌, append_assoc, length, take, drop, get_or, length-append, length-drop, refl, sym, ap, ◌∙◌, arith, Option, None, Some, Ok}
use Rattle.std.specs.Prelude.{if◌then◌else◌, is_some}
use Rattle.std.proofs.Math.Seq.{get_or-take, get_or-drop, length-take-le}
use Rattle.std.proofs.lemmas.List.{drop_at}
use mathlib.Core.Bool.{true≢false}
use mathlib.Core.List.{append-nil}
use borrow.Author.Tests.{le-leb, eq-eqb}
use Rattle.octets.proofs.Words.{joined32}
use Rattle.trace.specs.Lines.{starts_with}
use Rattle.trace.specs.Digits.{digit_of, octet_at}
use Rattle.trace.specs.Numbers.{number_at}
use Rattle.trace.specs.Gaps.{limit_of}
use Rattle.trace.specs.Forms.{parts_of, limited, of_number, octets_taken, gap_taken, letter_taken, taken}
use Rattle.trace.specs.Records.{most_values, fitting, walk, record_of}
use Rattle.trace.specs.Texts.{decimal_text, address_text, octets_text, Field, number, octets, field_text, record_text, field_values, record_values, Fills, decimals, addresses, bytes, Filled, AllOctets, apart}
use Rattle.trace.specs.Written.{Wrote, width, field_of, fields_of, line_of, Given, given_none, given_letter, given_number, given_octets, Found, found_none, found_letter, found_number, found_octets, ReadBack}
use Rattle.trace.specs.declared.form.Gap as kinds
use Rattle.trace.specs.declared.form.Gap.TheVariants as kind
use Rattle.trace.specs.declared.form.Part.{Part}
use Rattle.trace.specs.declared.form.Part.TheVariants.{Letter, Gap}
use Rattle.trace.specs.declared.taken.Taken.{Taken}
use Rattle.trace.specs.declared.taken.Taken.TheVariants as what
use Rattle.trace.proofs.Records.{after, walk_step}
use Rattle.trace.proofs.Texts.{NoDigit, read_decimal, read_address, read_pairs, octets_length, read_octet}
use Rattle.trace.proofs.Writers.{held}

-- ---- the limit of a gap
abbrev most_of : Option ℕ → ℕ
most_of None = 0
most_of (Some most) = most

limit_fits : (gap : kinds.Gap) → most_of (limit_of gap) ≤ 18446744073709551615
limit_fits kind.Bit = omega arith
limit_fits gap = omega arith

no_limit : {most : ℕ} → None ≡ Some most → ⊥
no_limit e = let z : true ≡ false = cc in true≢false z

-- a gap with a limit is neither %a nor %x
limited_gap : (gap : kinds.Gap) (text : List ℕ) {most : ℕ} → limit_of gap ≡ Some most → gap_taken gap text ≡ of_number (limited (limit_of gap) text)
limited_gap kind.Octets text e = absurd (no_limit e)
limited_gap kind.Address text e = absurd (no_limit e)
limited_gap gap text e = refl

limited_text : (gap : kinds.Gap) (v : ℕ) {most : ℕ} → limit_of gap ≡ Some most → field_text gap (number v) ≡ decimal_text v
limited_text kind.Address v e = absurd (no_limit e)
limited_text gap v e = refl

-- ---- what a gap takes of the text that fills it
abbrev field_taken : kinds.Gap → Field → Taken
field_taken gap (number v) = what.Value (record { value = v; len = length (field_text gap (number v)) })
field_taken gap (octets os) = what.Octets (length os)

field_taken_lem : (gap : kinds.Gap) (field : Field) (rest : List ℕ) → Fills gap field → NoDigit rest → taken (Gap gap) (field_text gap field ++ rest) ≡ Ok (field_taken gap field)
unfolding octets_taken
field_taken_lem gap (number v) rest (decimals {most = most} e h) n =
    let text = decimal_text v in
    let small : v < 100000000000000000000 = omega (arith, limit_fits gap, ap most_of e) in
    rw (limited_text gap v e)
    (limited_gap gap (text ++ rest) e ∙ ap (λ (l : Option ℕ). of_number (limited l (text ++ rest))) e ∙ ap (λ r. of_number (number_at 0 r)) (read_decimal most v rest h small n))
field_taken_lem gap (number v) rest (addresses h) n =
    ap of_number (read_address (v / 16777216 % 256) (v / 65536 % 256) (v / 256 % 256) (v % 256) rest (omega arith) (omega arith) (omega arith) (omega arith) n) ∙ ap (λ (w : ℕ). Ok (what.Value (record { value = w; len = length (address_text v) }))) (joined32 v h)
field_taken_lem gap (octets os) rest (bytes o h) n =
    simp (read_pairs os rest o n, le-leb (length os) 65535 h)

-- ---- a form whose gaps stand apart
rest_no_digit : (gap : kinds.Gap) (parts : List Part) (fields : List Field) → apart (Gap gap ∷ parts) ≡ true → NoDigit (record_text parts fields)
unfolding apart record_text
rest_no_digit gap [] fields e = tt
rest_no_digit gap (Gap other ∷ parts) fields e = absurd (true≢false (sym e))
rest_no_digit gap (Letter s ∷ parts) fields e = by (digit_of s) refl e
  where
    by : (m : Option ℕ) → digit_of s ≡ m → (if is_some m then false else apart parts) ≡ true → digit_of s ≡ None
    by None t q = t
    by (Some d) t q = absurd (true≢false (sym q))

rest_apart : (gap : kinds.Gap) (parts : List Part) → apart (Gap gap ∷ parts) ≡ true → apart parts ≡ true
unfolding apart
rest_apart gap [] e = refl
rest_apart gap (Gap other ∷ parts) e = absurd (true≢false (sym e))
rest_apart gap (Letter s ∷ parts) e = by (is_some (digit_of s)) e
  where
    by : (b : Bool) → (if b then false else apart parts) ≡ true → apart parts ≡ true
    by true q = absurd (true≢false (sym q))
    by false q = q

letter_taken_lem : (s : ℕ) (text : List ℕ) → taken (Letter s) (s ∷ text) ≡ Ok what.Letter
unfolding letter_taken starts_with
letter_taken_lem s text = simp (eq-eqb s s refl)

-- ---- the walk, from any place on
-- a gap that took its field goes on behind it
field_on : (gap : kinds.Gap) (field : Field) (parts : List Part) (values : List ℕ) (place : ℕ) (rest : List ℕ)
    → length values + length (field_values place field) ≤ most_values
    → after parts values place (field_text gap field ++ rest) (Ok (field_taken gap field)) ≡ walk parts (values ++ field_values place field) (place + length (field_text gap field)) rest
field_on gap (number v) parts values place rest h =
    simp (le-leb (length values + 1) most_values h) (ap (walk parts (values ++ (v ∷ [])) (place + length (field_text gap (number v)))) (drop_at (field_text gap (number v)) rest (length (field_text gap (number v))) refl))
field_on gap (octets os) parts values place rest h =
    simp (le-leb (length values + 2) most_values h)
    (λ k. walk parts (values ++ (place ∷ length os ∷ [])) (place + sym (octets_length os) k) (drop_at (octets_text os) rest (2 * length os) (octets_length os) k))

walk_text : (parts : List Part) (fields : List Field) (values : List ℕ) (place : ℕ) → apart parts ≡ true → Filled parts fields
    → length values + length (record_values place parts fields) ≤ most_values
    → walk parts values place (record_text parts fields) ≡ fitting (values ++ record_values place parts fields)
unfolding apart Filled record_text record_values walk
walk_text [] [] values place a f h = rw (append-nil values)
walk_text [] (field ∷ fields) values place a f h = absurd f
walk_text (Letter s ∷ parts) fields values place a f h =
    let text = record_text parts fields in
    walk_step (Letter s) parts values place (s ∷ text) ∙ ap (after parts values place (s ∷ text)) (letter_taken_lem s text) ∙ walk_text parts fields values (place + 1) a f h
walk_text (Gap gap ∷ parts) [] values place a f h = absurd f
walk_text (Gap gap ∷ parts) (field ∷ fields) values place a f h =
    let text = field_text gap field in
    let rest = record_text parts fields in
    let here = field_values place field in
    let more = record_values (place + length text) parts fields in
    let room : length values + (length here + length more) ≤ most_values = omega (arith, length-append here more) in
    let ahead : length (values ++ here) + length more ≤ most_values = simp length-append (omega arith) in
    walk_step (Gap gap) parts values place (text ++ rest) ∙ ap (after parts values place (text ++ rest)) (field_taken_lem gap field rest f.0 (rest_no_digit gap parts fields a))
    ∙ field_on gap field parts values place rest (omega arith)
    ∙ walk_text parts fields (values ++ here) (place + length text) (rest_apart gap parts a) f.1 ahead
    ∙ ap fitting (append_assoc values here more)

-- A record as it is written fits its form, and holds what was written.
pub read_written : (form : List ℕ) (fields : List Field) → apart (parts_of form) ≡ true → Filled (parts_of form) fields
    → length (record_values 0 (parts_of form) fields) ≤ most_values
    → record_of form (record_text (parts_of form) fields) ≡ fitting (record_values 0 (parts_of form) fields)
read_written form fields a f h =
    walk_text (parts_of form) fields [] 0 a f (omega arith)

-- ---- lines as write_record writes them: one whose fields fit is read as those fields
pub read_fields : (form values source : List ℕ) → apart (parts_of form) ≡ true → Filled (parts_of form) (fields_of (parts_of form) values source)
    → length (record_values 0 (parts_of form) (fields_of (parts_of form) values source)) ≤ most_values
    → record_of form (line_of form values source) ≡ fitting (record_values 0 (parts_of form) (fields_of (parts_of form) values source))
unfolding line_of
read_fields form values source a f h = read_written form (fields_of (parts_of form) values source) a f h

-- ---- values that fill their gaps: the fields that they are
number_not_x : {gap : kinds.Gap} {v : ℕ} → Fills gap (number v) → gap ≡ kind.Octets → ⊥
number_not_x (decimals e h) x = no_limit (sym (ap limit_of x) ∙ e)
number_not_x (addresses h) x = let z : true ≡ false = cc in true≢false z

number_field : (gap : kinds.Gap) (v : ℕ) (values source : List ℕ) → Fills gap (number v) → (width gap ≡ 1) × (field_of gap (v ∷ values) source ≡ number v)
number_field gap v values source f = plain gap (number_not_x f)
  where
    plain : (g : kinds.Gap) → (g ≡ kind.Octets → ⊥) → (width g ≡ 1) × (field_of g (v ∷ values) source ≡ number v)
    plain kind.Octets n = absurd (n refl)
    plain g n = (refl, refl)

at_hand : (place count : ℕ) (source : List ℕ) → place + count ≤ length source → length (take count (drop place source)) ≡ count
at_hand place count source h = length-take-le count (drop place source) (simp length-drop (omega arith))

octets_there : (place count i : ℕ) (source before rest : List ℕ) → place + count ≤ length source → AllOctets (take count (drop place source)) → i < count
    → octet_at (length before + 2 * i) (before ++ (octets_text (take count (drop place source)) ++ rest)) ≡ Some (get_or source (place + i) 0)
octets_there place count i source before rest h o k =
    read_octet before (take count (drop place source)) rest i o (omega (arith, at_hand place count source h)) ∙ ap Some (get_or-take count (drop place source) i 0 k ∙ get_or-drop place source i 0)

module _ {source : List ℕ} where
  abbrev given_fields : {parts : List Part} {values : List ℕ} → Given source parts values → List Field
  given_fields given_none = []
  given_fields (given_letter g) = given_fields g
  given_fields (given_number {v = v} f g) = number v ∷ given_fields g
  given_fields (given_octets {place = place} {count = count} h f g) = octets (take count (drop place source)) ∷ given_fields g

  given_fields_lem : {parts : List Part} {values : List ℕ} (g : Given source parts values) → fields_of parts values source ≡ given_fields g
  unfolding fields_of
  given_fields_lem given_none = refl
  given_fields_lem (given_letter g) = given_fields_lem g
  given_fields_lem (given_number {gap} {v} {parts} {values} f g) =
      let e = number_field gap v values source f in
      (λ k. e.1 k ∷ fields_of parts (drop (e.0 k) (v ∷ values)) source) ∙ ap (λ (fields : List Field). number v ∷ fields) (given_fields_lem g)
  given_fields_lem (given_octets {place} {count} h f g) = ap (λ (fields : List Field). octets (take count (drop place source)) ∷ fields) (given_fields_lem g)

  given_filled : {parts : List Part} {values : List ℕ} (g : Given source parts values) → Filled parts (given_fields g)
  unfolding Filled
  given_filled given_none = tt
  given_filled (given_letter g) = given_filled g
  given_filled (given_number f g) = (f, given_filled g)
  given_filled (given_octets h f g) = (f, given_filled g)

  given_length : {parts : List Part} {values : List ℕ} (g : Given source parts values) (at : ℕ) → length (record_values at parts (given_fields g)) ≡ length values
  unfolding record_values
  given_length given_none at = refl
  given_length (given_letter g) at = given_length g (at + 1)
  given_length (given_number f g) at = ap suc (given_length g _)
  given_length (given_octets h f g) at = ap (λ (n : ℕ). suc (suc n)) (given_length g _)

  -- where their texts stand in the line
  given_found : {parts : List Part} {values : List ℕ} (g : Given source parts values) (line before : List ℕ) (at : ℕ) → at ≡ length before → line ≡ before ++ record_text parts (given_fields g)
      → Found source line parts values (record_values at parts (given_fields g))
  unfolding record_values record_text
  given_found given_none line before at p e = found_none
  given_found (given_letter {s} {parts} g) line before at p e =
      found_letter (given_found g line (before ++ (s ∷ [])) (at + 1) (simp length-append (omega arith)) (e ∙ sym (append_assoc before (s ∷ []) (record_text parts (given_fields g)))))
  given_found (given_number {gap} {v} {parts} f g) line before at p e =
      let text = field_text gap (number v) in
      found_number (number_not_x f) (given_found g line (before ++ text) (at + length text) (simp length-append (omega arith)) (e ∙ sym (append_assoc before text (record_text parts (given_fields g)))))
  given_found (given_octets {place} {count} {parts} {values} h (bytes o b) g) line before at p e =
      let text = octets_text (take count (drop place source)) in
      let rest = record_text parts (given_fields g) in
      let found = record_values (at + length text) parts (given_fields g) in
      let more : Found source line parts values found = given_found g line (before ++ text) (at + length text) (simp length-append (omega arith)) (e ∙ sym (append_assoc before text rest)) in
      rw (at_hand place count source h) (found_octets (λ i k. (λ j. octet_at (p j + 2 * i) (e j)) ∙ octets_there place count i source before rest h o k) more)

-- What is written of values that fill their gaps is read again.
pub read_line : (form : List ℕ) {values source : List ℕ} → apart (parts_of form) ≡ true → Given source (parts_of form) values → length values ≤ most_values
    → ReadBack form values source (line_of form values source)
unfolding line_of
read_line form {values} {source} a g h =
    let fields = given_fields g in
    let text = record_text (parts_of form) fields in
    rw (given_fields_lem g)
    record {
      found = record_values 0 (parts_of form) fields;
      fits = read_written form fields a (given_filled g) (omega (arith, given_length g 0));
      same = given_found g text [] 0 refl refl;
    }

-- Along a form without octets the very values come back.
abbrev pub NoOctets : List Part → Type 0
NoOctets [] = Unit {0}
NoOctets (Letter s ∷ parts) = NoOctets parts
NoOctets (Gap gap ∷ parts) = (gap ≡ kind.Octets → ⊥) × NoOctets parts

same_numbers : {source line values found : List ℕ} {parts : List Part} → Found source line parts values found → NoOctets parts → found ≡ values
same_numbers found_none n = refl
same_numbers (found_letter f) n = same_numbers f n
same_numbers (found_number {v = v} x f) n = ap (λ (l : List ℕ). v ∷ l) (same_numbers f n.1)
same_numbers (found_octets there f) n = absurd (n.0 refl)

pub read_numbers : (form : List ℕ) {values source : List ℕ} → apart (parts_of form) ≡ true → Given source (parts_of form) values → length values ≤ most_values → NoOctets (parts_of form)
    → record_of form (line_of form values source) ≡ fitting values
read_numbers form {values} {source} a g h n =
    let back = read_line form a g h in
    back.fits ∙ ap fitting (same_numbers back.same n)

-- What write_record leaves in a buffer that has room for it is read likewise.
pub read_buffer : (form : List ℕ) {values source before after : List ℕ} {place next : ℕ} → apart (parts_of form) ≡ true → Given source (parts_of form) values → length values ≤ most_values
    → Wrote place (line_of form values source) before next after → place + length (line_of form values source) ≤ length before
    → ReadBack form values source (take (next - place) (drop place after))
read_buffer form a g h w room = rw (held w room).line (read_line form a g h)
