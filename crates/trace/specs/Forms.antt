-- Forms, and what each part of a form takes of a text (docs/TRACE.md, "Lines"): "its text, with a gap for each value".
use Rattle.std.specs.Prelude.{ℕ, ◌*◌, List, [], ◌∷◌, ◌==◌, nat_le, if◌then◌else◌, Option, None, Some, Result, Ok, Err}
use Rattle.trace.specs.Lines.{starts_with}
use Rattle.trace.specs.Digits.{pairs_of}
use Rattle.trace.specs.Numbers.{decimal, number_at, address}
use Rattle.trace.specs.Gaps.{gap_of, limit_of}
use Rattle.trace.specs.declared.number.Number.{Number}
use Rattle.trace.specs.declared.form.Gap as kinds
use Rattle.trace.specs.declared.form.Gap.TheVariants as kind
use Rattle.trace.specs.declared.form.Part.{Part}
use Rattle.trace.specs.declared.form.Part.TheVariants.{Letter, Gap}
use Rattle.trace.specs.declared.taken.Taken.{Taken}
use Rattle.trace.specs.declared.taken.Taken.TheVariants as what

-- The character with which a gap begins.
abbrev pub percent : ℕ
percent = 37

-- The parts of a form. A form that ends with `%` ends with a gap of no kind.
unfoldable pub parts_of : List ℕ → List Part
parts_of [] = []
parts_of (s ∷ []) = (if s == percent then Gap kind.Unknown else Letter s) ∷ []
parts_of (s ∷ kind ∷ form) = if s == percent then Gap (gap_of kind) ∷ parts_of form else Letter s ∷ parts_of (kind ∷ form)

-- A number as what is taken.
abbrev pub of_number : Result Number ℕ → Result Taken ℕ
of_number (Err n) = Err n
of_number (Ok number) = Ok (what.Value number)

-- The decimal number of a gap with a limit; a gap of no kind takes none.
abbrev pub limited : Option ℕ → List ℕ → Result Number ℕ
limited None text = Err 0
limited (Some most) text = number_at 0 (decimal most text)

-- The octets that a text begins with, at most 65,535. They go on as far as two digits stand together: a digit that is left
-- over is for the next part, which does not take it.
unfoldable pub octets_taken : List ℕ → Result Taken ℕ
octets_taken text = if nat_le (pairs_of text) 65535 then Ok (what.Octets (pairs_of text)) else Err 0

-- What fills a gap: %x is octets, %a is an address, the others are decimal.
abbrev pub gap_taken : kinds.Gap → List ℕ → Result Taken ℕ
gap_taken kind.Octets text = octets_taken text
gap_taken kind.Address text = of_number (address text)
gap_taken gap text = of_number (limited (limit_of gap) text)

-- A character that stands as it is.
unfoldable pub letter_taken : ℕ → List ℕ → Result Taken ℕ
letter_taken s text = if starts_with s text then Ok what.Letter else Err 0

-- What a part of a form takes of a text, or how many characters stand before the fault.
abbrev pub taken : Part → List ℕ → Result Taken ℕ
taken (Letter s) text = letter_taken s text
taken (Gap gap) text = gap_taken gap text

-- How many characters they are.
abbrev pub taken_len : Taken → ℕ
taken_len what.Letter = 1
taken_len (what.Value number) = number.len
taken_len (what.Octets count) = 2 * count
