-- What is written is read: numbers, addresses and octets. Assumes nothing.
use Rattle.std.proofs.Common.{◌≡◌, ℕ, zero, suc, ◌+◌, ◌*◌, ◌/◌, ◌%◌, ◌^◌, ◌≤◌, ◌<◌, Bool, true, false, List, [], ◌∷◌, ◌++◌, append_assoc, length, get_or, drop, length-append, refl, sym, ap, ◌∙◌, arith, None, Some, Result, Ok}
use Rattle.std.specs.Prelude.{if◌then◌else◌, nat_lt, option_and_then}
use Rattle.std.proofs.Math.Seq.{drop-append_seam, drop-drop}
use native.Mathlib.Nat.{pow-suc}
use borrow.Author.Tests.{lt-ltb, le-ltb, le-leb, ne_eqb, ltb-true, ltb-false}
use Rattle.octets.specs.Words.{word32}
use Rattle.trace.specs.Lines.{starts_with}
use Rattle.trace.specs.Digits.{digit_of, decimal_digit_of, octet_of, first_octet, octet_at, pairs_of}
use Rattle.trace.specs.Numbers.{digits_of, number_from, proper, within, decimal, number_at, joined, dot, dotted, address}
use Rattle.trace.specs.Texts.{digit_char_of, chars_of, decimal_digits, decimal_text, dotted_text, octets_text, AllOctets}
use Rattle.trace.specs.declared.number.Number.{Number}
use Rattle.trace.proofs.Digits.{pairs_more, pairs_end, pairs_short}
use Rattle.trace.proofs.Numbers.{digits_end, digits_more}

-- ---- digits
pub digit_char : (d : ℕ) → d < 16 → digit_of (digit_char_of d) ≡ Some d
unfolding digit_of digit_char_of
digit_char d h = by (nat_lt d 10) refl
  where
    by : (b : Bool) → nat_lt d 10 ≡ b → digit_of (if b then 48 + d else 87 + d) ≡ Some d
    by true e =
        let k : d < 10 = ltb-true d 10 e in
        let low : 48 ≤ 48 + d = omega arith in
        let high : 48 + d < 58 = omega arith in
        simp (le-ltb (48 + d) 48 low, lt-ltb (48 + d) 58 high) (ap Some (omega arith))
    by false e =
        let k : 10 ≤ d = ltb-false d 10 e in
        let low : 48 ≤ 87 + d = omega arith in
        let past : 58 ≤ 87 + d = omega arith in
        let first : 97 ≤ 87 + d = omega arith in
        let last : 87 + d < 103 = omega arith in
        simp (le-ltb (87 + d) 48 low, le-ltb (87 + d) 58 past, le-ltb (87 + d) 97 first, lt-ltb (87 + d) 103 last) (ap Some (omega arith))

-- the same of a decimal digit; and what is no digit is no decimal one
decimal_char : (d : ℕ) → d < 10 → decimal_digit_of (digit_char_of d) ≡ Some d
unfolding decimal_digit_of
decimal_char d h = simp (digit_char d (omega arith), lt-ltb d 10 h)

no_decimal : (c : ℕ) → digit_of c ≡ None → decimal_digit_of c ≡ None
unfolding decimal_digit_of
no_decimal c e = ap (option_and_then (λ d. if nat_lt d 10 then Some d else None)) e

-- each of a list is a decimal digit
abbrev Small : List ℕ → Type 0
Small [] = Unit {0}
Small (d ∷ ds) = (d < 10) × Small ds

small_append : (ds : List ℕ) (d : ℕ) → Small ds → d < 10 → Small (ds ++ (d ∷ []))
small_append [] d s h = (h, tt)
small_append (e ∷ ds) d s h = (s.0, small_append ds d s.1 h)

small_digits : (k n : ℕ) → n < 10 ^ suc k → Small (decimal_digits k n)
unfolding decimal_digits
small_digits zero n h = (h, tt)
small_digits (suc k) n h = by (nat_lt n 10) refl (λ g. small_digits k (n / 10) g)
  where
    by : (b : Bool) → nat_lt n 10 ≡ b → (n / 10 < 10 ^ suc k → Small (decimal_digits k (n / 10))) → Small (if b then n ∷ [] else decimal_digits k (n / 10) ++ (n % 10 ∷ []))
    by true e s = (ltb-true n 10 e, tt)
    by false e s =
        let p : 10 ^ suc (suc k) ≡ 10 ^ suc k * 10 = pow-suc 10 (suc k) in
        small_append (decimal_digits k (n / 10)) (n % 10) (s (omega arith)) (omega arith)

number_append : (high : ℕ) (ds : List ℕ) (d : ℕ) → number_from high (ds ++ (d ∷ [])) ≡ number_from high ds * 10 + d
unfolding number_from
number_append high [] d = refl
number_append high (e ∷ ds) d = number_append (high * 10 + e) ds d

number_digits : (k n : ℕ) → number_from 0 (decimal_digits k n) ≡ n
unfolding decimal_digits number_from
number_digits zero n = omega arith
number_digits (suc k) n = by (nat_lt n 10) (number_digits k (n / 10))
  where
    by : (b : Bool) → number_from 0 (decimal_digits k (n / 10)) ≡ n / 10 → number_from 0 (if b then n ∷ [] else decimal_digits k (n / 10) ++ (n % 10 ∷ [])) ≡ n
    by true e = omega arith
    by false e = number_append 0 (decimal_digits k (n / 10)) (n % 10) ∙ omega arith

-- the first digit of a number that is not 0
lead_kept : (ds : List ℕ) (d : ℕ) → 0 < get_or ds 0 0 → 0 < get_or (ds ++ (d ∷ [])) 0 0
lead_kept [] d g = absurd (omega arith)
lead_kept (e ∷ ds) d g = g

lead : (k n : ℕ) → 0 < n → 0 < get_or (decimal_digits k n) 0 0
unfolding decimal_digits
lead zero n h = h
lead (suc k) n h = by (nat_lt n 10) refl (λ g. lead k (n / 10) g)
  where
    by : (b : Bool) → nat_lt n 10 ≡ b → (0 < n / 10 → 0 < get_or (decimal_digits k (n / 10)) 0 0) → 0 < get_or (if b then n ∷ [] else decimal_digits k (n / 10) ++ (n % 10 ∷ [])) 0 0
    by true e g = h
    by false e g = let t : 10 ≤ n = ltb-false n 10 e in lead_kept (decimal_digits k (n / 10)) (n % 10) (g (omega arith))

proper_lead : (ds : List ℕ) → 0 < get_or ds 0 0 → proper ds ≡ true
unfolding proper
proper_lead [] h = absurd (omega arith)
proper_lead (d ∷ []) h = refl
proper_lead (d ∷ e ∷ ds) h = simp (ne_eqb d 0 (λ q. omega arith))

proper_digits : (k n : ℕ) → proper (decimal_digits k n) ≡ true
unfolding decimal_digits proper
proper_digits zero n = refl
proper_digits (suc k) n = by (nat_lt n 10) refl
  where
    by : (b : Bool) → nat_lt n 10 ≡ b → proper (if b then n ∷ [] else decimal_digits k (n / 10) ++ (n % 10 ∷ [])) ≡ true
    by true e = refl
    by false e = let t : 10 ≤ n = ltb-false n 10 e in proper_lead (decimal_digits k (n / 10) ++ (n % 10 ∷ [])) (lead_kept (decimal_digits k (n / 10)) (n % 10) (lead k (n / 10) (omega arith)))

-- ---- numbers: what follows begins with no digit
abbrev pub NoDigit : List ℕ → Type 0
NoDigit [] = Unit {0}
NoDigit (c ∷ text) = digit_of c ≡ None

digits_of_chars : (ds rest : List ℕ) → Small ds → NoDigit rest → digits_of (chars_of ds ++ rest) ≡ ds
unfolding digits_of chars_of
digits_of_chars [] [] s h = refl
digits_of_chars [] (c ∷ rest) s h = digits_end c rest (no_decimal c h)
digits_of_chars (d ∷ ds) rest s h = digits_more (digit_char_of d) d (chars_of ds ++ rest) (decimal_char d s.0) ∙ ap (λ (l : List ℕ). d ∷ l) (digits_of_chars ds rest s.1 h)

chars_length : (ds : List ℕ) → length (chars_of ds) ≡ length ds
unfolding chars_of
chars_length [] = refl
chars_length (d ∷ ds) = ap suc (chars_length ds)

pub read_decimal : (most n : ℕ) (rest : List ℕ) → n ≤ most → n < 100000000000000000000 → NoDigit rest → decimal most (decimal_text n ++ rest) ≡ Some (record { value = n; len = length (decimal_text n) })
unfolding decimal within
read_decimal most n rest h g d =
    let ds = digits_of_chars (decimal_digits 19 n) rest (small_digits 19 n g) d in
    let e = number_digits 19 n in
    simp (ds, proper_digits 19 n, e, le-leb n most h, chars_length (decimal_digits 19 n))

-- ---- addresses
abbrev word24 : ℕ → ℕ → ℕ → ℕ
word24 a b c = (a * 256 + b) * 256 + c

dot_no_digit : digit_of dot ≡ None
unfolding digit_of
dot_no_digit = refl

-- a number that was read
abbrev pub read : ℕ → ℕ → Result Number ℕ
read value len = Ok (record { value = value; len = len })

-- a dot and a number behind what was read
read_dotted : (before rest : List ℕ) (high n : ℕ) → n ≤ 255 → NoDigit rest
    → dotted (before ++ (dot ∷ (decimal_text n ++ rest))) (read high (length before)) ≡ read (high * 256 + n) (length (before ++ (dot ∷ decimal_text n)))
unfolding starts_with
read_dotted before rest high n h d =
    let text = before ++ (dot ∷ (decimal_text n ++ rest)) in
    let there : drop (length before) text ≡ dot ∷ (decimal_text n ++ rest) = drop-append_seam before (dot ∷ (decimal_text n ++ rest)) in
    let behind : drop (length before + 1) text ≡ decimal_text n ++ rest = sym (drop-drop 1 (length before) text) ∙ ap (drop 1) there in
    let size : length before + 1 + length (decimal_text n) ≡ length (before ++ (dot ∷ decimal_text n)) = simp length-append (omega arith) in
    simp there (ap (joined high (length before + 1)) (ap (decimal 255) behind ∙ read_decimal 255 n rest h (omega arith) d) ∙ ap (read (high * 256 + n)) size)

pub read_address : (a b c d : ℕ) (rest : List ℕ) → a ≤ 255 → b ≤ 255 → c ≤ 255 → d ≤ 255 → NoDigit rest
    → address (dotted_text (a ∷ b ∷ c ∷ d ∷ []) ++ rest) ≡ read (word32 a b c d) (length (dotted_text (a ∷ b ∷ c ∷ d ∷ [])))
unfolding address dotted_text
read_address a b c d rest ha hb hc hd n =
    let ta = decimal_text a in
    let tb = decimal_text b in
    let tc = decimal_text c in
    let td = decimal_text d in
    let ab = ta ++ (dot ∷ tb) in
    let abc = ab ++ (dot ∷ tc) in
    let text = (ta ++ (dot ∷ (tb ++ (dot ∷ (tc ++ (dot ∷ td)))))) ++ rest in
    let one : text ≡ ta ++ (dot ∷ (tb ++ (dot ∷ (tc ++ (dot ∷ (td ++ rest)))))) = simp append_assoc in
    let two : text ≡ ab ++ (dot ∷ (tc ++ (dot ∷ (td ++ rest)))) = simp append_assoc in
    let three : text ≡ abc ++ (dot ∷ (td ++ rest)) = simp append_assoc in
    let size : length (abc ++ (dot ∷ td)) ≡ length (ta ++ (dot ∷ (tb ++ (dot ∷ (tc ++ (dot ∷ td)))))) = simp append_assoc in
    let first : number_at 0 (decimal 255 text) ≡ read a (length ta) = ap (λ (l : List ℕ). number_at 0 (decimal 255 l)) one ∙ ap (number_at 0) (read_decimal 255 a (dot ∷ (tb ++ (dot ∷ (tc ++ (dot ∷ (td ++ rest)))))) ha (omega arith) dot_no_digit) in
    let second : dotted text (read a (length ta)) ≡ read (a * 256 + b) (length ab) = ap (λ (l : List ℕ). dotted l (read a (length ta))) one ∙ read_dotted ta (dot ∷ (tc ++ (dot ∷ (td ++ rest)))) a b hb dot_no_digit in
    let third : dotted text (read (a * 256 + b) (length ab)) ≡ read (word24 a b c) (length abc) = ap (λ (l : List ℕ). dotted l (read (a * 256 + b) (length ab))) two ∙ read_dotted ab (dot ∷ (td ++ rest)) (a * 256 + b) c hc dot_no_digit in
    let fourth : dotted text (read (word24 a b c) (length abc)) ≡ read (word32 a b c d) (length (abc ++ (dot ∷ td))) = ap (λ (l : List ℕ). dotted l (read (word24 a b c) (length abc))) three ∙ read_dotted abc rest (word24 a b c) d hd n in
    ap (λ (x : Result Number ℕ). dotted text (dotted text (dotted text x))) first ∙ ap (λ (x : Result Number ℕ). dotted text (dotted text x)) second ∙ ap (dotted text) third ∙ fourth ∙ ap (read (word32 a b c d)) size

-- ---- octets
octet_text : (o : ℕ) → o < 256 → octet_of (digit_char_of (o / 16)) (digit_char_of (o % 16)) ≡ Some o
unfolding octet_of
octet_text o h = simp (digit_char (o / 16) (omega arith), digit_char (o % 16) (omega arith)) (ap Some (omega arith))

no_octet : (a b : ℕ) → digit_of a ≡ None → octet_of a b ≡ None
unfolding octet_of
no_octet a b h = ap (option_and_then (λ high. option_and_then (λ low. Some (high * 16 + low)) (digit_of b))) h

pub read_pairs : (os rest : List ℕ) → AllOctets os → NoDigit rest → pairs_of (octets_text os ++ rest) ≡ length os
unfolding octets_text
read_pairs [] [] o n = pairs_short [] (omega arith)
read_pairs [] (c ∷ []) o n = pairs_short (c ∷ []) (omega arith)
read_pairs [] (c ∷ e ∷ rest) o n = pairs_end (c ∷ e ∷ rest) (omega arith) (no_octet c e n)
read_pairs (x ∷ os) rest o n = pairs_more (digit_char_of (x / 16) ∷ digit_char_of (x % 16) ∷ (octets_text os ++ rest)) x (omega arith) (octet_text x o.0) ∙ ap suc (read_pairs os rest o.1 n)

pub octets_length : (os : List ℕ) → length (octets_text os) ≡ 2 * length os
unfolding octets_text
octets_length [] = refl
octets_length (x ∷ os) = omega (arith, octets_length os)

read_octet_in : (os rest : List ℕ) (i : ℕ) → AllOctets os → i < length os → octet_at (2 * i) (octets_text os ++ rest) ≡ Some (get_or os i 0)
unfolding octets_text first_octet
read_octet_in [] rest i o h = absurd (omega arith)
read_octet_in (x ∷ os) rest zero o h = octet_text x o.0
read_octet_in (x ∷ os) rest (suc i) o h = let e : 2 * suc i ≡ suc (suc (2 * i)) = omega arith in rw e (read_octet_in os rest i o.1 (omega arith))

-- each octet stands where its place in the line says
pub read_octet : (before os rest : List ℕ) (i : ℕ) → AllOctets os → i < length os → octet_at (length before + 2 * i) (before ++ (octets_text os ++ rest)) ≡ Some (get_or os i 0)
read_octet before os rest i o h =
    ap first_octet (sym (drop-drop (2 * i) (length before) (before ++ (octets_text os ++ rest))) ∙ ap (drop (2 * i)) (drop-append_seam before (octets_text os ++ rest))) ∙ read_octet_in os rest i o h
