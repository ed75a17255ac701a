-- Laws of numbers and addresses. Assumes nothing.
use Rattle.std.proofs.Common.{◌≡◌, ◌≢◌, ℕ, suc, ◌+◌, ◌-◌, ◌*◌, ◌≤◌, ◌<◌, Bool, true, false, List, [], ◌∷◌, length, get_or, take, drop, length-drop, refl, sym, ap, ◌∙◌, arith, leb, eqb, Option, None, Some, Ok, Err}
use Rattle.std.specs.Prelude.{if◌then◌else◌, nat_lt, is_some, is_none, not, option_and_then}
use mathlib.Core.Bool.{true≢false}
use Rattle.std.proofs.lemmas.Bool.Decides.{nat_tests}
use Rattle.std.proofs.lemmas.List.{at_drop_more, at_drop_all}
use borrow.Author.Tests.{le-leb, lt-leb, eq-eqb, ne_eqb, leb-true}
use Rattle.std.specs.Cmp.Lexicographic.{pointwise}
use Rattle.std.proofs.Math.Seq.{drop-drop}
use Rattle.octets.proofs.Runs.{part_tail}
use Rattle.trace.specs.Lines.{starts_with}
use Rattle.trace.specs.Digits.{digit_of, decimal_digit_of}
use Rattle.trace.specs.Numbers.{digits_of, number_from, proper, upto, within, decimal, joined, dot, dotted, number_at, address}
use Rattle.trace.specs.declared.number.Number.{Number}

-- ---- the digits of a text, by its first character
digits_by : (c : ℕ) (t : List ℕ) {m : Option ℕ} → decimal_digit_of c ≡ m → digits_of (c ∷ t) ≡ elim m [ None ↦ [] | Some d ↦ d ∷ digits_of t ]
unfolding digits_of
digits_by c t e = ap (λ (m : Option ℕ). elim m [ None ↦ [] | Some d ↦ d ∷ digits_of t ]) e

pub digits_end : (c : ℕ) (t : List ℕ) → decimal_digit_of c ≡ None → digits_of (c ∷ t) ≡ []
digits_end c t e = digits_by c t e

pub digits_more : (c d : ℕ) (t : List ℕ) → decimal_digit_of c ≡ Some d → digits_of (c ∷ t) ≡ d ∷ digits_of t
digits_more c d t e = digits_by c t e

digits_length : (t : List ℕ) → length (digits_of t) ≤ length t
unfolding digits_of
digits_length [] = omega arith
digits_length (c ∷ t) = by (decimal_digit_of c) (digits_length t)
  where
    by : (m : Option ℕ) → length (digits_of t) ≤ length t → length {A = ℕ} (elim m [ None ↦ [] | Some d ↦ d ∷ digits_of t ]) ≤ suc (length t)
    by None h = omega arith
    by (Some d) h = omega arith

-- ---- whether they write a number
pub proper_none : (t : List ℕ) → length t ≡ 0 → proper (digits_of t) ≡ false
unfolding proper digits_of
proper_none [] h = refl
proper_none (c ∷ t) h = absurd (omega arith)

-- after a zero there is none
proper_after : (d : ℕ) (t : List ℕ) → d ≡ 0 → 0 < length t → proper (d ∷ digits_of t) ≡ is_none (decimal_digit_of (get_or t 0 0))
unfolding proper digits_of
proper_after d [] z h = absurd (omega arith)
proper_after d (c ∷ t) z h = by (decimal_digit_of c)
  where
    by : (m : Option ℕ) → proper (d ∷ elim m [ None ↦ [] | Some e ↦ e ∷ digits_of t ]) ≡ is_none m
    by None = refl
    by (Some e) = simp (eq-eqb d 0 z)

zero_digit : decimal_digit_of 48 ≡ Some 0
unfolding decimal_digit_of digit_of
zero_digit = refl

pub proper_zero : (t : List ℕ) → 2 ≤ length t → get_or t 0 0 ≡ 48 → proper (digits_of t) ≡ is_none (decimal_digit_of (get_or t 1 0))
proper_zero [] h e = absurd (omega arith)
proper_zero (c ∷ t) h e = ap proper (digits_more c 0 t (ap decimal_digit_of e ∙ zero_digit)) ∙ proper_after 0 t refl (omega arith)

-- only that character is a zero
zero_only : (c : ℕ) → c ≢ 48 → option_and_then (λ d. if nat_lt d 10 then Some d else None) (if nat_lt c 48 then None else if nat_lt c 58 then Some (c - 48) else if nat_lt c 97 then None else if nat_lt c 103 then Some (c - 87) else None) ≡ Some 0 → ⊥
zero_only c n e = grind (arith, nat_tests)

digit_zero : (c d : ℕ) → decimal_digit_of c ≡ Some d → c ≢ 48 → d ≢ 0
unfolding decimal_digit_of digit_of
digit_zero c d e n z = zero_only c n (e ∙ ap Some z)

proper_nonzero : (d : ℕ) (ds : List ℕ) → d ≢ 0 → proper (d ∷ ds) ≡ true
unfolding proper
proper_nonzero d [] h = refl
proper_nonzero d (e ∷ ds) h = simp (ne_eqb d 0 h)

pub proper_other : (t : List ℕ) → 1 ≤ length t → get_or t 0 0 ≢ 48 → proper (digits_of t) ≡ is_some (decimal_digit_of (get_or t 0 0))
unfolding proper
proper_other [] h n = absurd (omega arith)
proper_other (c ∷ t) h n = by (decimal_digit_of c) refl
  where
    by : (m : Option ℕ) → decimal_digit_of c ≡ m → proper (digits_of (c ∷ t)) ≡ is_some m
    by None e = ap proper (digits_end c t e)
    by (Some d) e = ap proper (digits_more c d t e) ∙ proper_nonzero d (digits_of t) (digit_zero c d e n)

pub proper_one : (t : List ℕ) → length t ≡ 1 → proper (digits_of t) ≡ is_some (decimal_digit_of (get_or t 0 0))
unfolding proper digits_of
proper_one [] h = absurd (omega arith)
proper_one (c ∷ []) h = by (decimal_digit_of c) refl
  where
    by : (m : Option ℕ) → decimal_digit_of c ≡ m → proper (digits_of (c ∷ [])) ≡ is_some m
    by None e = ap proper (digits_end c [] e)
    by (Some d) e = ap proper (digits_more c d [] e)
proper_one (c ∷ x ∷ t) h = absurd (omega arith)

-- ---- the number that they write, and whether it is at most `most`
grows : (high : ℕ) (ds : List ℕ) → high ≤ number_from high ds
unfolding number_from
grows high [] = omega arith
grows high (d ∷ ds) = omega (arith, grows (high * 10 + d) ds)

-- with `size` digits before, whose number is `high`
unfoldable pub onward : ℕ → ℕ → ℕ → List ℕ → Option Number
onward most high size ds = if leb (number_from high ds) most then Some (record { value = number_from high ds; len = size + length ds }) else None

pub onward_start : (most : ℕ) (ds : List ℕ) → within most ds ≡ onward most 0 0 ds
unfolding within onward
onward_start most ds = let e : 0 + length ds ≡ length ds = omega arith in rw e

pub onward_end : (most high size : ℕ) {ds : List ℕ} → ds ≡ [] → high ≤ most → onward most high size ds ≡ Some (record { value = high; len = size })
unfolding onward number_from
onward_end most high size e h = let z : size + 0 ≡ size = omega arith in rw e (simp (le-leb _ _ h, z))

pub onward_over : (most high size d : ℕ) (ds : List ℕ) → most < high * 10 + d → onward most high size (d ∷ ds) ≡ None
unfolding onward number_from
onward_over most high size d ds h = let g : most < number_from (high * 10 + d) ds = omega (arith, grows (high * 10 + d) ds) in simp (lt-leb _ _ g)

pub onward_more : (most high size d : ℕ) (ds : List ℕ) → onward most high size (d ∷ ds) ≡ onward most (high * 10 + d) (size + 1) ds
unfolding onward number_from
onward_more most high size d ds = let e : size + suc (length ds) ≡ size + 1 + length ds = omega arith in rw e

pub upto_some : (most n v : ℕ) → Some v ≡ upto most n → (v ≡ n) × (n ≤ most)
upto_some most n v e = grind (arith, nat_tests)

pub upto_none : (most n : ℕ) → None ≡ upto most n → most < n
upto_none most n e = grind (arith, nat_tests)

-- one turn of the loop
pub digits_at : (i d : ℕ) (t : List ℕ) → i < length t → decimal_digit_of (get_or t i 0) ≡ Some d → digits_of (drop i t) ≡ d ∷ digits_of (drop (i + 1) t)
digits_at i d t h e = at_drop_more digits_of t i 0 h ∙ digits_more (get_or t i 0) d (drop (i + 1) t) e

pub digits_end_at : (i : ℕ) (t : List ℕ) → i < length t → decimal_digit_of (get_or t i 0) ≡ None → digits_of (drop i t) ≡ []
digits_end_at i t h e = at_drop_more digits_of t i 0 h ∙ digits_end (get_or t i 0) (drop (i + 1) t) e

pub digits_all : (i : ℕ) (t : List ℕ) → length t ≤ i → digits_of (drop i t) ≡ []
unfolding digits_of
digits_all i t h = at_drop_all digits_of t i h

-- what `is_none` gives
pub none_by : (m : Option ℕ) (b : Bool) → is_some m ≡ not b → b ≡ is_none m
none_by None true e = refl
none_by None false e = absurd (true≢false (sym e))
none_by (Some v) true e = absurd (true≢false e)
none_by (Some v) false e = refl

-- ---- bounds of what is read
within_bounds : (most : ℕ) (t : List ℕ) {n : Number} → Some n ≡ within most (digits_of t) → (n.value ≤ most) × (n.len ≤ length t)
unfolding within
within_bounds most t {n} e = by (leb (number_from 0 (digits_of t)) most) refl e
  where
    by : (b : Bool) → leb (number_from 0 (digits_of t)) most ≡ b → Some n ≡ (if b then Some (record { value = number_from 0 (digits_of t); len = length (digits_of t) }) else None) → (n.value ≤ most) × (n.len ≤ length t)
    by true g q = let s : n ≡ record { value = number_from 0 (digits_of t); len = length (digits_of t) } = cc in (omega (arith, ap (λ (m : Number). m.value) s, leb-true _ _ g), omega (arith, ap (λ (m : Number). m.len) s, digits_length t))
    by false g q = let z : true ≡ false = cc in absurd (true≢false z)

pub decimal_bounds : (most : ℕ) (t : List ℕ) {n : Number} → Some n ≡ decimal most t → (n.value ≤ most) × (n.len ≤ length t)
unfolding decimal
decimal_bounds most t {n} e = by (proper (digits_of t)) e
  where
    by : (b : Bool) → Some n ≡ (if b then within most (digits_of t) else None) → (n.value ≤ most) × (n.len ≤ length t)
    by true q = within_bounds most t q
    by false q = let z : true ≡ false = cc in absurd (true≢false z)

-- ---- a dot and one number more, as the code has them
starts_pointwise : (s : ℕ) (t : List ℕ) → pointwise eqb (take 1 t) (s ∷ []) ≡ starts_with s t
unfolding starts_with
starts_pointwise s [] = refl
starts_pointwise s (c ∷ t) = grind (arith, nat_tests)

dot_there : (n : ℕ) (t : List ℕ) {b : Bool} → pointwise eqb (take 1 (take (length t - n) (drop n t))) (46 ∷ []) ≡ b → starts_with dot (drop n t) ≡ b
dot_there n t e = sym (sym e ∙ ap (λ l. pointwise eqb (take 1 l) (46 ∷ [])) (part_tail n t) ∙ starts_pointwise 46 (drop n t))

pub dotted_none : (t : List ℕ) (high : Number) → pointwise eqb (take 1 (take (length t - high.len) (drop high.len t))) (46 ∷ []) ≡ false → Err high.len ≡ dotted t (Ok high)
dotted_none t high e = simp (dot_there high.len t e)

pub dotted_some : (t rest : List ℕ) (high : Number) (low : Option Number) → pointwise eqb (take 1 (take (length t - high.len) (drop high.len t))) (46 ∷ []) ≡ true → rest ≡ drop 1 (take (length t - high.len) (drop high.len t)) → low ≡ decimal 255 rest
    → joined high.value (high.len + 1) low ≡ dotted t (Ok high)
dotted_some t rest high low e r l =
    let behind : rest ≡ drop (high.len + 1) t = r ∙ ap (drop 1) (part_tail high.len t) ∙ drop-drop 1 high.len t in
    simp (dot_there high.len t e) (ap (joined high.value (high.len + 1)) (l ∙ ap (decimal 255) behind))

-- a text that begins with a character has one
pub starts_inside : (c n : ℕ) (t : List ℕ) → starts_with c (drop n t) ≡ true → n < length t
unfolding starts_with
starts_inside c n t e = by (drop n t) (length-drop n t) e
  where
    by : (s : List ℕ) → length s ≡ length t - n → starts_with c s ≡ true → n < length t
    by [] h q = absurd (true≢false (sym q))
    by (x ∷ s) h q = omega arith

pub dotted_bounds : (m : ℕ) (t : List ℕ) (high : Number) {n : Number} → high.value ≤ m → high.len ≤ length t → Ok n ≡ dotted t (Ok high) → (n.value ≤ m * 256 + 255) × (n.len ≤ length t)
dotted_bounds m t high {n} v l e = by (starts_with dot (drop high.len t)) refl (decimal 255 (drop (high.len + 1) t)) refl e
  where
    by : (b : Bool) → starts_with dot (drop high.len t) ≡ b → (low : Option Number) → low ≡ decimal 255 (drop (high.len + 1) t) → Ok n ≡ (if b then joined high.value (high.len + 1) low else Err high.len) → (n.value ≤ m * 256 + 255) × (n.len ≤ length t)
    by false g low d q = let z : true ≡ false = cc in absurd (true≢false z)
    by true g None d q = let z : true ≡ false = cc in absurd (true≢false z)
    by true g (Some low) d q =
        let s : n ≡ record { value = high.value * 256 + low.value; len = high.len + 1 + low.len } = cc in
        let b = decimal_bounds 255 (drop (high.len + 1) t) d in
        let more : high.len < length t = starts_inside dot high.len t g in
        (omega (arith, ap (λ (m : Number). m.value) s, b), omega (arith, ap (λ (m : Number). m.len) s, b, length-drop (high.len + 1) t))

-- an address by its first number, which the code has
pub address_by : (t : List ℕ) {m : Option Number} → m ≡ decimal 255 t → dotted t (dotted t (dotted t (number_at 0 m))) ≡ address t
unfolding address
address_by t e = ap (λ m. dotted t (dotted t (dotted t (number_at 0 m)))) e

pub dotted_stop : (t : List ℕ) (high : Number) {n : ℕ} → high.len ≤ length t → Err n ≡ dotted t (Ok high) → n ≤ length t
dotted_stop t high {n} l e = by (starts_with dot (drop high.len t)) refl (decimal 255 (drop (high.len + 1) t)) e
  where
    by : (b : Bool) → starts_with dot (drop high.len t) ≡ b → (low : Option Number) → Err n ≡ (if b then joined high.value (high.len + 1) low else Err high.len) → n ≤ length t
    by false g low q = let s : n ≡ high.len = cc in omega arith
    by true g None q = let s : n ≡ high.len + 1 = cc in omega (arith, starts_inside dot high.len t g)
    by true g (Some low) q = let z : true ≡ false = cc in absurd (true≢false z)
