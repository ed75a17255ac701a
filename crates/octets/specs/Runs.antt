-- Runs of octets, and one written over the start of a buffer.
use Rattle.std.specs.Prelude.{ℕ, Bool, true, false, List, [], ◌∷◌, ◌++◌, length, drop, eqb, leb}
use Rattle.choice.specs.Choice.{when◌then◌else◌}

-- Whether two lists are equal.
unfoldable pub same_bytes : List ℕ → List ℕ → Bool
same_bytes [] [] = true
same_bytes [] (y ∷ ys) = false
same_bytes (x ∷ xs) [] = false
same_bytes (x ∷ xs) (y ∷ ys) = when eqb x y then same_bytes xs ys else false

-- The buffer with `out` over its start; what follows keeps its value.
unfoldable pub over : List ℕ → List ℕ → List ℕ
over out buffer = out ++ drop (length out) buffer

-- `out` over the start of a buffer that has room for it; else the buffer as it is.
unfoldable pub placed : List ℕ → List ℕ → List ℕ
placed out buffer = when leb (length out) (length buffer) then over out buffer else buffer

-- How many octets that writes.
unfoldable pub placed_length : List ℕ → List ℕ → ℕ
placed_length out buffer = when leb (length out) (length buffer) then length out else 0
