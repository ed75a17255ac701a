-- Laws of forms and of what their parts take of a text. Assumes nothing.
use Rattle.std.proofs.Common.{◌≡◌, ◌≢◌, ℕ, ◌+◌, ◌-◌, ◌*◌, ◌≤◌, ◌<◌, Bool, true, false, List, [], ◌∷◌, length, get_or, take, drop, leb, refl, sym, ap, arith, Option, None, Some, Result, Ok, Err}
use Rattle.std.specs.Prelude.{if◌then◌else◌}
use borrow.Author.Tests.{eq-eqb, ne_eqb}
use Rattle.octets.proofs.Runs.{part_tail}
use Rattle.trace.specs.declared.number.Number.{Number}
use Rattle.trace.specs.declared.form.Gap as kinds
use Rattle.trace.specs.declared.form.Gap.TheVariants as kind
use Rattle.trace.specs.declared.form.Part.{Part}
use Rattle.trace.specs.declared.form.Part.TheVariants.{Letter, Gap}
use Rattle.trace.specs.declared.taken.Taken.{Taken}
use Rattle.trace.specs.declared.taken.Taken.TheVariants as what
use Rattle.trace.specs.Lines.{starts_with}
use Rattle.trace.specs.Digits.{pairs_of}
use Rattle.trace.specs.Numbers.{decimal, number_at, dotted, address}
use Rattle.trace.specs.Gaps.{gap_of, limit_of}
use Rattle.trace.specs.Forms.{parts_of, limited, of_number, octets_taken, gap_taken, letter_taken, taken, taken_len}
use Rattle.trace.proofs.Digits.{pairs_inside}
use Rattle.trace.proofs.Numbers.{decimal_bounds, dotted_bounds, dotted_stop, starts_inside}

pub parts_letter : (f : List ℕ) → 0 < length f → get_or f 0 0 ≢ 37 → parts_of f ≡ Letter (get_or f 0 0) ∷ parts_of (take (length f - 1) (drop 1 f))
unfolding parts_of
parts_letter [] h n = absurd (omega arith)
parts_letter (s ∷ []) h n = simp (ne_eqb s 37 n)
parts_letter (s ∷ kind ∷ f) h n = simp (ne_eqb s 37 n) (ap (λ (l : List ℕ). Letter s ∷ parts_of l) (sym (part_tail 1 (s ∷ kind ∷ f))))

pub parts_gap : (f : List ℕ) → 1 < length f → get_or f 0 0 ≡ 37 → parts_of f ≡ Gap (gap_of (get_or f 1 0)) ∷ parts_of (take (length f - 2) (drop 2 f))
unfolding parts_of
parts_gap [] h e = absurd (omega arith)
parts_gap (s ∷ []) h e = absurd (omega arith)
parts_gap (s ∷ kind ∷ f) h e = simp (eq-eqb s 37 e) (ap (λ (l : List ℕ). Gap (gap_of kind) ∷ parts_of l) (sym (part_tail 2 (s ∷ kind ∷ f))))

pub parts_cut : (f : List ℕ) → length f ≡ 1 → get_or f 0 0 ≡ 37 → parts_of f ≡ Gap kind.Unknown ∷ parts_of []
unfolding parts_of
parts_cut [] h e = absurd (omega arith)
parts_cut (s ∷ []) h e = simp (eq-eqb s 37 e)
parts_cut (s ∷ kind ∷ f) h e = absurd (omega arith)

pub parts_none : (f : List ℕ) → length f ≡ 0 → parts_of f ≡ []
unfolding parts_of
parts_none [] h = refl
parts_none (s ∷ f) h = absurd (omega arith)

-- ---- what a part takes stands in the text
abbrev pub taken_end : Result Taken ℕ → ℕ
taken_end (Err n) = n
taken_end (Ok what) = taken_len what

abbrev number_end : Result Number ℕ → ℕ
number_end (Err n) = n
number_end (Ok number) = number.len

number_inside : (most : ℕ) (t : List ℕ) → number_end (number_at 0 (decimal most t)) ≤ length t
number_inside most t = by (decimal most t) refl
  where
    by : (m : Option Number) → decimal most t ≡ m → number_end (number_at 0 m) ≤ length t
    by None e = omega arith
    by (Some n) e = (decimal_bounds most t (sym e)).1

-- a number that is read, or where reading stops, is within bounds
abbrev Within : ℕ → ℕ → Result Number ℕ → Type 0
Within most last (Err n) = n ≤ last
Within most last (Ok number) = (number.value ≤ most) × (number.len ≤ last)

first_within : (t : List ℕ) → Within 255 (length t) (number_at 0 (decimal 255 t))
first_within t = by (decimal 255 t) refl
  where
    by : (m : Option Number) → decimal 255 t ≡ m → Within 255 (length t) (number_at 0 m)
    by None e = omega arith
    by (Some n) e = decimal_bounds 255 t (sym e)

dotted_within : (m : ℕ) (t : List ℕ) (n : Result Number ℕ) → Within m (length t) n → Within (m * 256 + 255) (length t) (dotted t n)
dotted_within m t (Err n) b = b
dotted_within m t (Ok high) b = by (dotted t (Ok high)) refl
  where
    by : (r : Result Number ℕ) → dotted t (Ok high) ≡ r → Within (m * 256 + 255) (length t) r
    by (Err n) e = dotted_stop t high b.1 (sym e)
    by (Ok n) e = dotted_bounds m t high b.0 b.1 (sym e)

address_inside : (t : List ℕ) → number_end (address t) ≤ length t
unfolding address
address_inside t = by (address t) (dotted_within 16777215 t _ (dotted_within 65535 t _ (dotted_within 255 t _ (first_within t))))
  where
    by : (r : Result Number ℕ) → Within 4294967295 (length t) r → number_end r ≤ length t
    by (Err n) w = w
    by (Ok n) w = w.1

limited_inside : (limit : Option ℕ) (t : List ℕ) → number_end (limited limit t) ≤ length t
limited_inside None t = omega arith
limited_inside (Some most) t = number_inside most t

of_number_end : (n : Result Number ℕ) → taken_end (of_number n) ≡ number_end n
of_number_end (Err n) = refl
of_number_end (Ok number) = refl

octets_inside : (t : List ℕ) → taken_end (octets_taken t) ≤ length t
unfolding octets_taken
octets_inside t = by (leb (pairs_of t) 65535)
  where
    by : (b : Bool) → taken_end (if b then Ok (what.Octets (pairs_of t)) else Err 0) ≤ length t
    by true = pairs_inside t
    by false = omega arith

other_inside : (g : kinds.Gap) (t : List ℕ) → taken_end (of_number (limited (limit_of g) t)) ≤ length t
other_inside g t = omega (arith, of_number_end (limited (limit_of g) t), limited_inside (limit_of g) t)

gap_inside : (g : kinds.Gap) (t : List ℕ) → taken_end (gap_taken g t) ≤ length t
gap_inside kind.Octets t = octets_inside t
gap_inside kind.Address t = omega (arith, of_number_end (address t), address_inside t)
gap_inside g t = other_inside g t

letter_inside : (s : ℕ) (t : List ℕ) → taken_end (letter_taken s t) ≤ length t
unfolding letter_taken
letter_inside s t = by (starts_with s t) refl
  where
    by : (b : Bool) → starts_with s t ≡ b → taken_end (if b then Ok what.Letter else Err 0) ≤ length t
    by true e = starts_inside s 0 t e
    by false e = omega arith

pub taken_inside : (part : Part) (t : List ℕ) → taken_end (taken part t) ≤ length t
taken_inside (Letter s) t = letter_inside s t
taken_inside (Gap g) t = gap_inside g t
