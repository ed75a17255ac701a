-- Laws of the walk along a form. Assumes nothing.
use Rattle.std.proofs.Common.{◌≡◌, ℕ, zero, suc, ◌+◌, ◌-◌, ◌*◌, ◌≤◌, ◌<◌, Bool, true, false, List, [], ◌∷◌, ◌++◌, length, take, drop, set, length-append, length-drop, append_assoc, refl, sym, ap, ◌∙◌, arith, Option, None, Some, Result, Ok, Err}
use Rattle.std.specs.Prelude.{if◌then◌else◌, nat_le, nat_lt, option_and_then}
use Rattle.std.proofs.Math.Seq.{drop-drop}
use mathlib.Core.Bool.{true≢false}
use borrow.Author.Tests.{le-leb, lt-leb, ltb-true, ltb-false}
use Rattle.octets.proofs.Runs.{part_tail}
use Rattle.trace.proofs.Forms.{taken_end, taken_inside}
use Rattle.trace.specs.Forms.{parts_of, taken, taken_len}
use Rattle.trace.specs.Records.{most_values, padded, holding, fitting, misfit, walk, record_of, with_value, with_taken}
use Rattle.trace.specs.declared.form.Part.{Part}
use Rattle.trace.specs.declared.taken.Taken.{Taken}
use Rattle.trace.specs.declared.taken.Taken.TheVariants.{Letter, Value, Octets}
use Rattle.trace.specs.declared.record.Record.{Record}
use Rattle.trace.specs.declared.record.Misfit.{Misfit}

-- ---- where the walk stands: the record so far, the parts that are still to come, and the place in the line
pub record Walked (line form : List ℕ) (parts : List Part) (kept : Record) (place : ℕ) : Type 0 where
  pub values : List ℕ
  pub holds : kept ≡ holding values
  pub inside : place ≤ length line
  pub whole : record_of form line ≡ walk parts values place (drop place line)

-- one value more
padded_more : (n : ℕ) (values : List ℕ) (v : ℕ) → length values < n → set (padded n values) (length values) v ≡ padded n (values ++ (v ∷ []))
padded_more zero values v h = absurd (omega arith)
padded_more (suc n) [] v h = refl
padded_more (suc n) (x ∷ xs) v h = ap (λ (l : List ℕ). x ∷ l) (padded_more n xs v (omega arith))

abbrev more : ℕ → List ℕ → Record
more v values = record { values = set (padded most_values values) (length values) v; count = length values + 1 }

value_some : (v : ℕ) (values : List ℕ) {r : Record} → Some r ≡ with_value v (holding values) → (length values < most_values) × (r ≡ holding (values ++ (v ∷ [])))
value_some v values {r} e = by (nat_lt (length values) most_values) refl e
  where
    by : (b : Bool) → nat_lt (length values) most_values ≡ b → Some r ≡ (if b then Some (more v values) else None)
        → (length values < most_values) × (r ≡ holding (values ++ (v ∷ [])))
    by true t q =
        let room : length values < most_values = ltb-true _ _ t in
        let size : length values + 1 ≡ length (values ++ (v ∷ [])) = simp length-append refl in
        let same : r ≡ more v values = cc in
        (room, same ∙ (λ k. record { values = padded_more most_values values v room k; count = size k }))
    by false t q = let z : true ≡ false = cc in absurd (true≢false z)

value_none : (v : ℕ) (values : List ℕ) → None ≡ with_value v (holding values) → most_values ≤ length values
value_none v values e = by (nat_lt (length values) most_values) refl e
  where
    by : (b : Bool) → nat_lt (length values) most_values ≡ b → None ≡ (if b then Some (more v values) else None)
        → most_values ≤ length values
    by true t q = let z : true ≡ false = cc in absurd (true≢false z)
    by false t q = ltb-false _ _ t

-- what the walk does once a part took something
abbrev pub after : List Part → List ℕ → ℕ → List ℕ → Result Taken ℕ → Result Record Misfit
after parts values place line (Err size) = misfit (place + size)
after parts values place line (Ok Letter) = walk parts values (place + 1) (drop 1 line)
after parts values place line (Ok (Value number)) = if nat_le (length values + 1) most_values then walk parts (values ++ (number.value ∷ [])) (place + number.len) (drop number.len line) else misfit place
after parts values place line (Ok (Octets count)) = if nat_le (length values + 2) most_values then walk parts (values ++ (place ∷ count ∷ [])) (place + 2 * count) (drop (2 * count) line) else misfit place

pub walk_step : (part : Part) (parts : List Part) (values : List ℕ) (place : ℕ) (line : List ℕ) → walk (part ∷ parts) values place line ≡ after parts values place line (taken part line)
unfolding walk
walk_step part parts values place line = by (taken part line)
  where
    by : (r : Result Taken ℕ) → (elim r [
      | Err size ↦ misfit (place + size)
      | Ok what ↦ elim what [
        | Letter ↦ walk parts values (place + 1) (drop 1 line)
        | Value number ↦ if nat_le (length values + 1) most_values then walk parts (values ++ (number.value ∷ [])) (place + number.len) (drop number.len line) else misfit place
        | Octets count ↦ if nat_le (length values + 2) most_values then walk parts (values ++ (place ∷ count ∷ [])) (place + 2 * count) (drop (2 * count) line) else misfit place
      ]
    ]) ≡ after parts values place line r
    by (Err size) = refl
    by (Ok Letter) = refl
    by (Ok (Value number)) = refl
    by (Ok (Octets count)) = refl

walk_more : (t values : List ℕ) (place : ℕ) → 0 < length t → walk [] values place t ≡ misfit place
unfolding walk
walk_more [] values place g = absurd (omega arith)
walk_more (c ∷ t) values place g = refl

walk_end : (t values : List ℕ) (place : ℕ) → length t ≤ 0 → walk [] values place t ≡ Ok (holding values)
unfolding walk fitting
walk_end [] values place g = refl
walk_end (c ∷ t) values place g = absurd (omega arith)

-- what was taken is in the record, and the walk goes on; or there is no room for it
pub record Added (parts : List Part) (values : List ℕ) (place : ℕ) (line : List ℕ) (what : Taken) (r : Record) : Type 0 where
  pub kept : List ℕ
  pub holds : r ≡ holding kept
  pub goes : after parts values place line (Ok what) ≡ walk parts kept (place + taken_len what) (drop (taken_len what) line)

added : (parts : List Part) (values : List ℕ) (place : ℕ) (line : List ℕ) (what : Taken) {r : Record} → Some r ≡ with_taken place what (holding values) → Added parts values place line what r
added parts values place line Letter {r} e = record { kept = values; holds = cc; goes = refl }
added parts values place line (Value number) {r} e =
    let one = value_some number.value values e in
    record { kept = values ++ (number.value ∷ []); holds = one.1; goes = simp (le-leb (length values + 1) most_values (omega (arith, one.0))) }
added parts values place line (Octets count) {r} e = by (with_value place (holding values)) refl e
  where
    by : (o : Option Record) → with_value place (holding values) ≡ o → Some r ≡ option_and_then (with_value count) o → Added parts values place line (Octets count) r
    by None f q = let z : true ≡ false = cc in absurd (true≢false z)
    by (Some s) f q =
        let one = value_some place values (sym f) in
        let two = value_some count (values ++ (place ∷ [])) (q ∙ ap (with_value count) one.1) in
        record {
          kept = values ++ (place ∷ count ∷ []);
          holds = two.1 ∙ ap holding (append_assoc values (place ∷ []) (count ∷ []));
          goes = simp (le-leb (length values + 2) most_values (omega (arith, two.0, length-append values (place ∷ []))));
        }

full : (parts : List Part) (values : List ℕ) (place : ℕ) (line : List ℕ) (what : Taken) → None ≡ with_taken place what (holding values) → after parts values place line (Ok what) ≡ misfit place
full parts values place line Letter e = let z : true ≡ false = cc in absurd (true≢false z)
full parts values place line (Value number) e = simp (lt-leb (length values + 1) most_values (omega (arith, value_none number.value values e)))
full parts values place line (Octets count) e = by (with_value place (holding values)) refl e
  where
    by : (o : Option Record) → with_value place (holding values) ≡ o → None ≡ option_and_then (with_value count) o → after parts values place line (Ok (Octets count)) ≡ misfit place
    by None f q = simp (lt-leb (length values + 2) most_values (omega (arith, value_none place values (sym f))))
    by (Some s) f q =
        let one = value_some place values (sym f) in
        simp (lt-leb (length values + 2) most_values (omega (arith, value_none count (values ++ (place ∷ [])) (q ∙ ap (with_value count) one.1), length-append values (place ∷ []))))

pub walked_start : (line form : List ℕ) → Walked line form (parts_of form) (record { values = padded most_values []; count = 0 }) 0
walked_start line form = record { values = []; holds = refl; inside = omega arith; whole = refl }

module _ {line form : List ℕ} {parts rest : List Part} {kept : Record} {place : ℕ} {part : Part} (w : Walked line form parts kept place) (p : parts ≡ part ∷ rest) where
  onward : {r : Result Taken ℕ} → r ≡ taken part (take (length line - place) (drop place line)) → record_of form line ≡ after rest w.values place (drop place line) r
  onward {r} t =
      w.whole ∙ ap (λ (ps : List Part). walk ps w.values place (drop place line)) p ∙ walk_step part rest w.values place (drop place line)
      ∙ ap (after rest w.values place (drop place line)) (sym (t ∙ ap (taken part) (part_tail place line)))

  pub taken_there : {r : Result Taken ℕ} → r ≡ taken part (take (length line - place) (drop place line)) → place + taken_end r ≤ length line
  taken_there {r} t = let inside : place ≤ length line = w.inside in omega (arith, ap taken_end (t ∙ ap (taken part) (part_tail place line)), taken_inside part (drop place line), length-drop place line)

  pub walked_on : {what : Taken} {r : Record} → Ok what ≡ taken part (take (length line - place) (drop place line)) → Some r ≡ with_taken place what kept → Walked line form rest r (place + taken_len what)
  walked_on {what} {r} t e =
      let more = added rest w.values place (drop place line) what (e ∙ ap (with_taken place what) w.holds) in
      record {
        values = more.kept;
        holds = more.holds;
        inside = taken_there t;
        whole = onward t ∙ more.goes ∙ ap (walk rest more.kept (place + taken_len what)) (drop-drop (taken_len what) place line);
      }

  -- where the walk ends
  pub walked_stop : {size : ℕ} → Err size ≡ taken part (take (length line - place) (drop place line)) → misfit (place + size) ≡ record_of form line
  walked_stop t = sym (onward t)

  pub walked_full : {what : Taken} → Ok what ≡ taken part (take (length line - place) (drop place line)) → None ≡ with_taken place what kept → misfit place ≡ record_of form line
  walked_full {what} t e = sym (onward t ∙ full rest w.values place (drop place line) what (e ∙ ap (with_taken place what) w.holds))

module _ {line form : List ℕ} {parts : List Part} {kept : Record} {place : ℕ} (w : Walked line form parts kept place) (p : parts ≡ []) where
  pub walked_more : place < length line → misfit place ≡ record_of form line
  walked_more h = sym (w.whole ∙ ap (λ (ps : List Part). walk ps w.values place (drop place line)) p ∙ walk_more (drop place line) w.values place (simp length-drop (omega arith)))

  pub walked_end : length line ≤ place → Ok kept ≡ record_of form line
  walked_end h = ap Ok w.holds ∙ sym (w.whole ∙ ap (λ (ps : List Part). walk ps w.values place (drop place line)) p ∙ walk_end (drop place line) w.values place (simp length-drop (omega arith)))
