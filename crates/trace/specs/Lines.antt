-- Lines of a text, and what a line begins with (docs/TRACE.md: "a line ends in LF").
use Rattle.std.specs.Prelude.{ℕ, suc, ◌+◌, ◌-◌, min, Bool, true, false, List, [], ◌∷◌, length, take, drop, ◌==◌, if◌then◌else◌}
use Rattle.trace.specs.declared.line.TextLines.{TextLines}

-- LF.
abbrev pub line_end : ℕ
line_end = 10

-- The length of a text's first line: what stands before the first LF, all where there is none.
unfoldable pub line_length : List ℕ → ℕ
line_length [] = 0
line_length (c ∷ text) = if c == line_end then 0 else suc (line_length text)

-- The line that begins at a place, without its LF.
unfoldable pub line_at : ℕ → List ℕ → List ℕ
line_at at text = take (line_length (drop at text)) (drop at text)

-- Where the next line begins: behind the LF, at the text's end where there is none. A place behind the end stays.
abbrev pub after_line : ℕ → List ℕ → ℕ
after_line at text = at + min (line_length (drop at text) + 1) (length text - at)

-- Lines with a character more before the first; where there is none, it is a line.
abbrev pub before_first : ℕ → List (List ℕ) → List (List ℕ)
before_first c [] = (c ∷ []) ∷ []
before_first c (line ∷ lines) = (c ∷ line) ∷ lines

-- The lines of a text, in order, each without its LF. Behind the last LF there is none.
unfoldable pub lines_of : List ℕ → List (List ℕ)
lines_of [] = []
lines_of (c ∷ text) = if c == line_end then [] ∷ lines_of text else before_first c (lines_of text)

-- Those of what is left of a text.
abbrev pub lines_left : TextLines → List (List ℕ)
lines_left lines = lines_of lines.rest.now

-- Whether a line begins with these characters.
unfoldable pub begins_with : List ℕ → List ℕ → Bool
begins_with [] line = true
begins_with (s ∷ start) [] = false
begins_with (s ∷ start) (c ∷ line) = if s == c then begins_with start line else false

-- Whether a text begins with this character.
unfoldable pub starts_with : ℕ → List ℕ → Bool
starts_with s [] = false
starts_with s (c ∷ text) = c == s
