-- The store of options that a lease carries: items of kind, length and data, one after another from its first octet.
use Rattle.std.specs.Prelude.{ℕ, zero, suc, ◌+◌, Bool, false, List, [], ◌∷◌, ◌++◌, length, take, drop, replicate, eqb, leb, Option, None, Some, Result, Ok, Err}
use Rattle.choice.specs.Choice.{when◌then◌else◌}
use Rattle.octets.specs.Runs.{over, same_bytes}
use Rattle.octets.specs.Items.{option, whole_items}
use Rattle.wire.specs.Options.{DhcpOption, options_of}
use Rattle.wire.specs.declared.store.Store.{Store}
use Rattle.wire.specs.declared.store.Place.{Place}
use Rattle.reasons.specs.declared.refusal.Refusal.{Refusal}
use Rattle.reasons.specs.declared.refusal.Refusal.TheVariants.{NotWhole}

-- 256 zero octets, none in use.
abbrev pub empty_store : Store
empty_store = record { bytes = replicate 256 0; len = 0 }

-- The octets in use.
abbrev pub used : Store → List ℕ
used store = take store.len store.bytes

-- The store with one option more behind those in use.
abbrev pub with_option : Store → ℕ → List ℕ → Store
with_option store kind body = record {
  bytes = used store ++ over (option kind body) (drop store.len store.bytes);
  len = store.len + length (option kind body);
}

-- One that does not fit leaves the store as it was.
unfoldable pub pushed : Store → ℕ → List ℕ → Store
pushed store kind body = when leb (store.len + length (option kind body)) 256 then with_option store kind body else store

-- The options of a list, one after another: what does not fit is skipped, and a later, smaller one is still kept.
unfoldable pub all_pushed : Store → List DhcpOption → Store
all_pushed store [] = store
all_pushed store (o ∷ os) = all_pushed (pushed store o.code o.body) os

-- The options of a reply as a lease keeps them.
abbrev pub store_of : List ℕ → Store
store_of reply = all_pushed empty_store (options_of reply)

-- Whether a store is whole items.
unfoldable pub whole_store : Store → Bool
whole_store store = when leb store.len 256 then whole_items (used store) else false

-- The first item of a kind in a list whose first octet stands at `at`, and whose first `rest` octets are data of an
-- item begun before: where its data begins, and how long it is.
unfoldable pub place_from : ℕ → ℕ → ℕ → List ℕ → Option Place
place_from kind at rest [] = None
place_from kind at (suc rest) (x ∷ xs) = place_from kind (at + 1) rest xs
place_from kind at zero (k ∷ []) = None
place_from kind at zero (k ∷ size ∷ xs) = when eqb k kind then Some (record { start = at + 2; len = size }) else place_from kind (at + 2) size xs

-- The first option of a kind; refused where the store is not whole.
unfoldable pub got : Store → ℕ → Result (Option Place) Refusal
got store kind = when whole_store store then Ok (place_from kind 0 0 (used store)) else Err NotWhole

-- Whether two stores hold the same options: equality of the octets in use.
abbrev pub same_options : Store → Store → Bool
same_options a b = same_bytes (used a) (used b)
