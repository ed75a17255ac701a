-- The loop that writes anew the entries at which a closure says yes. Assumes nothing.
use Rattle.std.specs.Fn.{Shared, FnReturnsAt}
use denote.Ref.{Bor}
use Rattle.std.proofs.Common.{◌≡◌, ℕ, ◌+◌, ◌<◌, ◌≤◌, Bool, true, false, List, [], ◌∷◌, length, get_or, set, take, sym, ap, ◌∙◌, arith, length-take, take_all}
use Rattle.tables.specs.Entries.{only, places, entered}
use Rattle.tables.specs.Table.{table}
use Rattle.tables.specs.Changes.{Computes}
use Rattle.tables.specs.declared.table.Table.{Table}
use Rattle.tables.proofs.Lists.{length_only, only_more_passes, only_more_takes, entered_room}
use Rattle.tables.proofs.Made.{with_room}

-- where the loop stands at entry i: what it has written are, whatever test the closure computes, those before i that pass
pub record Keeping {F A : Type 0} (g : Shared F (Bor A × Unit {0}) Bool) (f : F) (z : A) (xs : List A) (i : ℕ) (kept : Table A) : Type 0 where
  pub within : i ≤ length xs
  pub those : (test : A → Bool) → Computes g f test → kept ≡ table z (only test (take i xs))

module _ {F A : Type 0} {g : Shared F (Bor A × Unit {0}) Bool} {f : F} {z : A} {xs : List A} where
  pub starts : {kept : Table A} → kept ≡ table z [] → Keeping g f z xs 0 kept
  unfolding only
  starts e = record { within = omega arith; those = λ t c. e }

  module _ {i : ℕ} {kept : Table A} (k : Keeping g f z xs i kept) (h : i < length xs) {x : A} (e : x ≡ get_or xs i x) where
    pub passes : FnReturnsAt g f x false → Keeping g f z xs (i + 1) kept
    passes r = record { within = omega arith; those = λ t c. k.those t c ∙ ap (table z) (only_more_passes t xs i x h e (sym (c.each x false r))) }

    pub takes : FnReturnsAt g f x true → length xs ≤ places → {more : Table A} → ((ys : List A) → kept ≡ table z ys → more ≡ table z (entered ys (x ∷ []))) → Keeping g f z xs (i + 1) more
    takes r few w =
        record {
          within = omega arith;
          those = λ t c.
              let room : length (only t (take i xs)) < places = omega (arith, length_only t (take i xs), length-take i xs) in
              w _ (k.those t c) ∙ ap (table z) (entered_room (only t (take i xs)) (x ∷ []) room ∙ only_more_takes t xs i x h e (sym (c.each x true r)));
        }

  pub ends : {i : ℕ} {kept : Table A} → Keeping g f z xs i kept → length xs ≤ i → (test : A → Bool) → Computes g f test → kept ≡ table z (only test xs)
  ends {i} k h t c = k.those t c ∙ ap (λ l. table z (only t l)) (take_all i xs h)

-- the same, of a table whose entries and count are written in place: no more of them than were looked at
pub record KeepingInPlace {F A : Type 0} (g : Shared F (Bor A × Unit {0}) Bool) (f : F) (z : A) (xs : List A) (i : ℕ) (kept : Table A) : Type 0 where
  pub within : i ≤ length xs
  pub room : kept.count ≤ i
  pub those : (test : A → Bool) → Computes g f test → kept ≡ table z (only test (take i xs))

module _ {F A : Type 0} {g : Shared F (Bor A × Unit {0}) Bool} {f : F} {z : A} {xs : List A} where
  in_place : {i : ℕ} {kept : Table A} → Keeping g f z xs i kept → kept.count ≤ i → KeepingInPlace g f z xs i kept
  in_place k room = record { within = k.within; room = room; those = k.those }

  keeping : {i : ℕ} {kept : Table A} → KeepingInPlace g f z xs i kept → Keeping g f z xs i kept
  keeping k = record { within = k.within; those = k.those }

  pub starts_in_place : {kept : Table A} → kept ≡ table z [] → KeepingInPlace g f z xs 0 kept
  starts_in_place e = in_place (starts e) (omega (arith, ap (λ (t : Table A). t.count) e))

  module _ {i : ℕ} {kept : Table A} (k : KeepingInPlace g f z xs i kept) (h : i < length xs) {x : A} (e : x ≡ get_or xs i x) where
    pub passes_in_place : FnReturnsAt g f x false → KeepingInPlace g f z xs (i + 1) kept
    passes_in_place r = in_place (passes (keeping k) h e r) (omega (arith, k.room))

    pub takes_in_place : FnReturnsAt g f x true → length xs ≤ places → KeepingInPlace g f z xs (i + 1) (record { entries = set kept.entries kept.count x; count = kept.count + 1 })
    takes_in_place r few = in_place (takes (keeping k) h e r few (λ ys w. with_room z kept ys x w (omega (arith, k.room)))) (omega (arith, k.room))

  pub ends_in_place : {i : ℕ} {kept : Table A} → KeepingInPlace g f z xs i kept → length xs ≤ i → (test : A → Bool) → Computes g f test → kept ≡ table z (only test xs)
  ends_in_place k = ends (keeping k)
