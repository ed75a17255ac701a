-- Lists of entries, whatever an entry holds, and the four places of a table.
use Rattle.std.specs.Prelude.{ℕ, ◌-◌, Bool, List, [], ◌++◌, length, replicate, nat_le, Option, filter}
use Rattle.std.specs.List.{list_all, list_any, find}
use Rattle.choice.specs.Choice.{when◌then◌else◌}

-- Those of a list that pass a test, in their order.
unfoldable pub only : {A : Type 0} → (A → Bool) → List A → List A
only test xs = filter test xs

-- Whether all of a list pass a test.
unfoldable pub all : {A : Type 0} → (A → Bool) → List A → Bool
all test xs = list_all test xs

-- Whether one of a list passes a test.
unfoldable pub any : {A : Type 0} → (A → Bool) → List A → Bool
any test xs = list_any test xs

-- The first of a list that passes a test.
unfoldable pub first : {A : Type 0} → (A → Bool) → List A → Option A
first test xs = find test xs

-- How many entries a table has room for.
abbrev pub places : ℕ
places = 4

-- The places of a table with these entries: in order from the first, and what is all zero in the others.
abbrev pub in_places : {A : Type 0} → A → List A → List A
in_places zeros xs = xs ++ replicate (places - length xs) zeros

-- Whether there is no place left.
abbrev pub full : {A : Type 0} → List A → Bool
full xs = nat_le places (length xs)

-- What a table with these others takes of a new entry: a full one loses it.
unfoldable pub less_lost : {A : Type 0} → List A → List A → List A
less_lost others new = when full others then [] else new

-- The others, and the new entry behind them, unless it is lost.
abbrev pub entered : {A : Type 0} → List A → List A → List A
entered others new = others ++ less_lost others new
