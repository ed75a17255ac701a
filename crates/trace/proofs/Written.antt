-- Laws of what is written: a number's digits, and a line along its form. Assumes nothing.
use Rattle.std.proofs.Common.{◌≡◌, ℕ, zero, suc, ◌+◌, ◌-◌, ◌*◌, ◌/◌, ◌%◌, ◌^◌, ◌≤◌, ◌<◌, min, List, [], ◌∷◌, ◌++◌, length, take, drop, refl, sym, ap, ◌∙◌, arith}
use native.Mathlib.Decide.{dec_le}
use native.Mathlib.Nat.{pow-suc}
use lib.ListN.{drop_of_length-le}
use borrow.Author.Tests.{le-ltb, lt-ltb}
use Rattle.octets.proofs.Runs.{part_tail}
use Rattle.trace.specs.Numbers.{dot}
use Rattle.trace.specs.declared.form.Part.{Part}
use Rattle.trace.specs.declared.form.Part.TheVariants.{Letter, Gap}
use Rattle.trace.specs.Forms.{parts_of}
use Rattle.trace.specs.Texts.{digit_char_of, chars_of, decimal_digits, decimal_text, dotted_text, octets_text, record_text}
use Rattle.trace.specs.declared.write.Writer.{Writer}
use Rattle.trace.proofs.Writers.{Still, still}
use Rattle.trace.specs.Written.{fields_of, line_of, part_text, part_width}

-- ---- a number in decimal, by its last digit
pub low_char : (d : ℕ) → d < 10 → 48 + d ≡ digit_char_of d
unfolding digit_char_of
low_char d h = simp (lt-ltb d 10 h)

chars_append : (ds es : List ℕ) → chars_of (ds ++ es) ≡ chars_of ds ++ chars_of es
unfolding chars_of
chars_append [] es = refl
chars_append (d ∷ ds) es = ap (λ (l : List ℕ). digit_char_of d ∷ l) (chars_append ds es)

last_digit : (k n : ℕ) → 10 ≤ n → decimal_digits (suc k) n ≡ decimal_digits k (n / 10) ++ (n % 10 ∷ [])
unfolding decimal_digits
last_digit k n h = simp (le-ltb n 10 h)

lone_digit : (k n : ℕ) → n < 10 → decimal_digits k n ≡ n ∷ []
unfolding decimal_digits
lone_digit zero n h = refl
lone_digit (suc k) n h = simp (lt-ltb n 10 h)

-- a number has no more digits where more are allowed than it needs
digits_enough : (k n : ℕ) → n < 10 ^ suc k → decimal_digits (suc k) n ≡ decimal_digits k n
digits_enough zero n h = let g : n < 10 = h in lone_digit 1 n g ∙ sym (lone_digit 0 n g)
digits_enough (suc k) n h = elim (dec_le 10 n) [
  | no g ↦ lone_digit (suc (suc k)) n (omega arith) ∙ sym (lone_digit (suc k) n (omega arith))
  | yes g ↦
      let p : 10 ^ suc (suc k) ≡ 10 ^ suc k * 10 = pow-suc 10 (suc k) in
      last_digit (suc k) n g ∙ ap (λ (l : List ℕ). l ++ (n % 10 ∷ [])) (digits_enough k (n / 10) (omega arith)) ∙ sym (last_digit k n g)
]

one_digit : (k n : ℕ) → n < 10 → (48 + n) ∷ [] ≡ chars_of (decimal_digits k n)
unfolding chars_of
one_digit k n h = ap (λ (c : ℕ). c ∷ []) (low_char n h) ∙ sym (ap chars_of (lone_digit k n h))

more_digits : (k n : ℕ) → 10 ≤ n → n < 10 ^ suc (suc k) → chars_of (decimal_digits (suc k) (n / 10)) ++ ((48 + n % 10) ∷ []) ≡ chars_of (decimal_digits (suc k) n)
unfolding chars_of
more_digits k n h g =
    let p : 10 ^ suc (suc k) ≡ 10 ^ suc k * 10 = pow-suc 10 (suc k) in
    let last : n % 10 < 10 = omega arith in
    let enough = digits_enough k (n / 10) (omega arith) in
    (λ i. chars_of (enough i) ++ (low_char (n % 10) last i ∷ [])) ∙ sym (ap chars_of (last_digit k n h) ∙ chars_append (decimal_digits k (n / 10)) (n % 10 ∷ []))

pub decimal_one : (n : ℕ) → n < 10 → (48 + n) ∷ [] ≡ decimal_text n
decimal_one n h = one_digit 19 n h

pub decimal_more : (n : ℕ) → 10 ≤ n → n < 100000000000000000000 → decimal_text (n / 10) ++ ((48 + n % 10) ∷ []) ≡ decimal_text n
decimal_more n h g = more_digits 18 n h g

pub four_numbers : (a b c d : ℕ) → decimal_text a ++ ((dot ∷ decimal_text b) ++ ((dot ∷ decimal_text c) ++ (dot ∷ decimal_text d))) ≡ dotted_text (a ∷ b ∷ c ∷ d ∷ [])
unfolding dotted_text
four_numbers a b c d = refl

pub octets_on : (o : ℕ) (os : List ℕ) → octets_text (o ∷ os) ≡ (digit_char_of (o / 16) ∷ digit_char_of (o % 16) ∷ []) ++ octets_text os
unfolding octets_text
octets_on o os = refl

pub octets_none : octets_text [] ≡ []
unfolding octets_text
octets_none = refl

-- ---- a line by the first part of its form
line_parts : (part : Part) (parts : List Part) (v s : List ℕ)
    → record_text (part ∷ parts) (fields_of (part ∷ parts) v s) ≡ part_text part v s ++ record_text parts (fields_of parts (drop (part_width part) v) s)
unfolding record_text fields_of
line_parts (Letter c) parts v s = refl
line_parts (Gap gap) parts v s = refl

drop_most : (w : ℕ) (v : List ℕ) → drop (min w (length v)) v ≡ drop w v
drop_most w v = elim (dec_le w (length v)) [
  | yes h ↦ let m : min w (length v) ≡ w = omega arith in rw m
  | no h ↦ drop_of_length-le v {i = min w (length v)} (omega arith) ∙ sym (drop_of_length-le v {i = w} (omega arith))
]

-- the text of parts that are still to come
abbrev pub text_of : List Part → List ℕ → List ℕ → List ℕ
text_of parts v s = record_text parts (fields_of parts v s)

pub text_step : {part : Part} {parts rest : List Part} (v s : List ℕ) (k : ℕ) → parts ≡ part ∷ rest → k ≡ min (part_width part) (length v)
    → text_of parts v s ≡ part_text part v s ++ text_of rest (take (length v - k) (drop k v)) s
text_step {part} {parts} {rest} v s k e h =
    let more : drop (part_width part) v ≡ take (length v - k) (drop k v) = sym (drop_most (part_width part) v) ∙ ap (λ (i : ℕ). drop i v) (sym h) ∙ sym (part_tail k v) in
    ap (λ (ps : List Part). text_of ps v s) e ∙ line_parts part rest v s ∙ ap (λ (l : List ℕ). part_text part v s ++ text_of rest l s) more

pub text_end : {parts : List Part} (v s : List ℕ) → parts ≡ [] → text_of parts v s ≡ []
unfolding record_text
text_end v s e = ap (λ (ps : List Part). text_of ps v s) e

pub line_start : (form v s : List ℕ) (w : Writer) → Still (line_of form v s) w (text_of (parts_of form) v s) w
unfolding line_of
line_start form v s w = still (text_of (parts_of form) v s) w
