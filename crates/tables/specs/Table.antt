-- A table, whatever an entry holds: which entries are in use, when it is whole, and what a change leaves in it.
use Rattle.std.specs.Prelude.{Bool, false, List, [], ◌∷◌, ◌++◌, length, take, nat_le, Result, Ok, Err}
use Rattle.choice.specs.Choice.{when◌then◌else◌}
use Rattle.reasons.specs.declared.refusal.Refusal.{Refusal}
use Rattle.reasons.specs.declared.refusal.Refusal.TheVariants.{TableFull}
use Rattle.tables.specs.Entries.{only, all, places, in_places, full, entered}
use Rattle.tables.specs.declared.table.Table.{Table}

module _ {A : Type 0} where
  -- The table that holds these entries, and nothing else.
  abbrev pub table : A → List A → Table A
  table zero xs = record { entries = in_places zero xs; count = length xs }

  -- The entries in use.
  abbrev pub in_use : Table A → List A
  in_use t = take t.count t.entries

  -- Whether a table is whole: its count is not over its places, and its entries in use fit.
  abbrev pub whole_by : (A → Bool) → Table A → Bool
  whole_by fits t = when nat_le t.count places then all fits (in_use t) else false

  -- A table with one entry more, or that it is full.
  unfoldable pub added_by : A → Table A → A → Result (Table A) Refusal
  added_by zero t new = when full (in_use t) then Err TableFull else Ok (table zero (in_use t ++ (new ∷ [])))

  -- A table after a lease: what is not DHCP's stays, and the new entries are last, if there is room; as it is where the
  -- lease's value is the same.
  abbrev pub leased_by : A → (A → Bool) → Table A → List A → Bool → Table A
  leased_by zero manual t new same = when same then t else table zero (entered (only manual (in_use t)) new)
