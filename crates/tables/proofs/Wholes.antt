-- Whole tables: what they tell, and which tables are whole. Assumes nothing.
use Rattle.std.proofs.Common.{◌≡◌, ◌≤◌, Bool, true, false, List, [], ◌∷◌, ◌++◌, length, sym, refl, ap, ◌∙◌, append-nil, arith, length-append, length-take, le-leb, leb-false, leb-true}
use Rattle.choice.proofs.Choices.{if_true, if_cases, both_true}
use Rattle.tables.specs.Entries.{only, all, places, full, less_lost, entered}
use Rattle.tables.specs.Table.{table, in_use, whole_by}
use Rattle.tables.specs.Tables.{addr_fits, route_fits, whole_addrs, whole_routes, whole_tables}
use Rattle.tables.specs.declared.table.Table.{Table}
use Rattle.tables.specs.declared.tables.Tables.{Tables}
use Rattle.tables.proofs.Lists.{length_only, all_takes, all_only, all_append, less_lost_lem}
use Rattle.tables.proofs.Made.{in_use_table}

-- entries that are few enough, with prefixes that fit
pub record Sound {A : Type 0} (fits : A → Bool) (xs : List A) : Type 0 where
  pub few : length xs ≤ places
  pub fit : all fits xs ≡ true

module _ {A : Type 0} (fits : A → Bool) where
  pub table_sound : (t : Table A) → whole_by fits t ≡ true → Sound fits (in_use t)
  table_sound t h =
      let b = both_true _ h in
      record { few = simp length-take (omega (arith, leb-true t.count places b.0)); fit = b.1 }

  -- a table written with such entries is whole
  pub sound_table : (z : A) (xs : List A) → Sound fits xs → whole_by fits (table z xs) ≡ true
  sound_table z xs s = sym (if_true _ (le-leb _ _ s.few) (sym (ap (all fits) (in_use_table z xs) ∙ s.fit)))

  -- one entry more, some less, and a lease's behind those that stay
  pub sound_more : (xs : List A) (x : A) → full xs ≡ false → fits x ≡ true → Sound fits xs → Sound fits (xs ++ (x ∷ []))
  unfolding all
  sound_more xs x f h s =
      record {
        few = simp length-append (omega (arith, leb-false places (length xs) f));
        fit = all_append fits xs (x ∷ []) s.fit (all_takes fits x [] h);
      }

  pub sound_less : (stays : A → Bool) (xs : List A) → Sound fits xs → Sound fits (only stays xs)
  sound_less stays xs s = record { few = omega (arith, length_only stays xs, s.few); fit = all_only fits stays xs s.fit }

few_entered : {A : Type 0} (others new : List A) → length others ≤ places → length new ≤ 1 → length (entered others new) ≤ places
unfolding less_lost
few_entered {A} others new h n =
    if_cases (λ (l : List A). length (others ++ l) ≤ places) (full others) (λ f. simp append-nil h)
    (λ f. simp length-append (omega (arith, leb-false places (length others) f)))

pub sound_entered : {A : Type 0} (fits stays : A → Bool) (xs new : List A) → Sound fits xs → all fits new ≡ true → length new ≤ 1
    → Sound fits (entered (only stays xs) new)
unfolding all
sound_entered fits stays xs new s f n =
    record {
      few = few_entered (only stays xs) new (omega (arith, length_only stays xs, s.few)) n;
      fit = all_append fits (only stays xs) (less_lost (only stays xs) new) (all_only fits stays xs s.fit) (less_lost_lem (only stays xs) new (λ l. all fits l ≡ true) refl f);
    }

-- tables are whole exactly if both are
pub parts_whole : (t : Tables) → whole_tables t ≡ true → (whole_by addr_fits t.ip_addrs ≡ true) × (whole_by route_fits t.routes ≡ true)
unfolding whole_tables whole_addrs whole_routes
parts_whole t h = both_true _ h

pub whole_parts : (t : Tables) → whole_by addr_fits t.ip_addrs ≡ true → whole_by route_fits t.routes ≡ true → whole_tables t ≡ true
unfolding whole_tables whole_addrs whole_routes
whole_parts t a r = sym (if_true _ a (sym r))
