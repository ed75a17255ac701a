-- The kinds of gaps (docs/TRACE.md, "Lines").
use Rattle.std.specs.Prelude.{ℕ, ◌-◌, ◌^◌, ◌==◌, if◌then◌else◌, Option, None, Some}
use Rattle.trace.specs.declared.form.Gap.{Gap}
use Rattle.trace.specs.declared.form.Gap.TheVariants.{Bit, U8, U16, U32, U64, Address, Octets, Unknown}

-- The characters of the gaps.
abbrev pub char_a : ℕ
char_a = 97

abbrev pub char_b : ℕ
char_b = 98

abbrev pub char_c : ℕ
char_c = 99

abbrev pub char_h : ℕ
char_h = 104

abbrev pub char_q : ℕ
char_q = 113

abbrev pub char_w : ℕ
char_w = 119

abbrev pub char_x : ℕ
char_x = 120

-- The kind of a gap, by the character behind its `%`.
unfoldable pub gap_of : ℕ → Gap
gap_of kind =
    if kind == char_b then Bit
    else if kind == char_c then U8
    else if kind == char_h then U16
    else if kind == char_w then U32
    else if kind == char_q then U64
    else if kind == char_a then Address
    else if kind == char_x then Octets
    else Unknown

-- The largest number of a decimal gap: %b is 1 or 0; %c, %h, %w and %q are numbers of 8, 16, 32 and 64 bits.
abbrev pub limit_of : Gap → Option ℕ
limit_of Bit = Some 1
limit_of U8 = Some (2 ^ 8 - 1)
limit_of U16 = Some (2 ^ 16 - 1)
limit_of U32 = Some (2 ^ 32 - 1)
limit_of U64 = Some (2 ^ 64 - 1)
limit_of Address = None
limit_of Octets = None
limit_of Unknown = None
