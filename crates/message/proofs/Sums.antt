-- Laws of the one's complement sum. Assumes nothing.
use Prim.Native.Nat.{ℕ, ◌+◌, ◌-◌, ◌*◌, ◌/◌, ◌%◌, ◌≤◌, ◌<◌}
use mathlib.Core.Path.{◌≡◌, refl, sym, ap, ◌∙◌}
use mathlib.Core.List.{List, [], ◌∷◌, ◌++◌}
use native.Mathlib.Omega.{arith}
use native.Mathlib.Decide.{dec_le}
use borrow.Author.Tests.{eq-eqb, ne_eqb, le-leb, lt-leb}
use Rattle.choice.specs.Choice.{when◌then◌else◌}
use lib.ListN.{length, get_or, take, drop, length-drop}
use Rattle.std.proofs.Common.{zero, suc, min, append-nil, drop-drop, get_or-take, get_or-drop}
use Rattle.std.specs.Prelude.{unwrap_or, slice_get}
use Rattle.std.specs.Simd.{first_chunks}
use Rattle.octets.specs.Words.{word16}
use Rattle.message.specs.Datagrams.{ones_add, ones_sum, pseudo_header}
use Rattle.message.specs.Pieces.{carried_in}

-- two octets more
pub sum_two : (start : ℕ) (t : List ℕ) → 2 ≤ length t → ones_sum start t ≡ ones_sum (ones_add start (word16 (get_or t 0 0) (get_or t 1 0))) (drop 2 t)
unfolding ones_sum
sum_two start [] h = absurd (omega arith)
sum_two start (a ∷ []) h = absurd (omega arith)
sum_two start (a ∷ b ∷ xs) h = refl

-- none left
pub sum_none : (start : ℕ) (t : List ℕ) → length t ≡ 0 → ones_sum start t ≡ start
unfolding ones_sum
sum_none start [] h = refl
sum_none start (a ∷ xs) h = absurd (omega arith)

-- whole words, and then the rest
pub sum_words : (k : ℕ) (start : ℕ) (a b : List ℕ) → length a ≡ k * 2 → ones_sum start (a ++ b) ≡ ones_sum (ones_sum start a) b
unfolding ones_sum
sum_words zero start [] b h = refl
sum_words zero start (x ∷ a) b h = absurd (omega arith)
sum_words (suc k) start [] b h = absurd (omega arith)
sum_words (suc k) start (x ∷ []) b h = absurd (omega arith)
sum_words (suc k) start (x ∷ y ∷ a) b h = sum_words k (ones_add start (word16 x y)) a b (omega arith)

pub sum_part : (start : ℕ) (a b : List ℕ) → length a ≡ min 65534 (length a + length b) → ones_sum start (a ++ b) ≡ ones_sum (ones_sum start a) b
unfolding ones_sum
sum_part start a [] h = ap (λ (l : List ℕ). ones_sum start l) (append-nil a)
sum_part start a (x ∷ b) h = sum_words 32767 start a (x ∷ b) (omega arith)

-- the pseudo header's twelve octets are six words
pub sum_head : (source destination n : ℕ) (d : List ℕ) → ones_sum 0 (pseudo_header source destination n ++ d) ≡ ones_sum (ones_sum 0 (pseudo_header source destination n)) d
unfolding ones_sum
sum_head source destination n d = refl

-- ---- carries added in at the end
in_none : (n : ℕ) → n ≡ 0 → carried_in n ≡ 0
unfolding carried_in when◌then◌else◌
in_none n e = simp (eq-eqb n 0 e)

in_some : (n : ℕ) → 1 ≤ n → carried_in n ≡ (n - 1) % 65535 + 1
unfolding carried_in when◌then◌else◌
in_some n h = simp (ne_eqb n 0 (λ e. omega arith))

pub in_start : (n : ℕ) → n ≤ 65535 → carried_in n ≡ n
in_start n h = elim (dec_le 1 n) [
  | yes k ↦ in_some n k ∙ omega arith
  | no k ↦ in_none n (omega arith) ∙ omega arith
]

add_within : (a b : ℕ) → a + b ≤ 65535 → ones_add a b ≡ a + b
unfolding ones_add when◌then◌else◌
add_within a b h = simp (le-leb _ _ h)

add_over : (a b : ℕ) → 65535 < a + b → ones_add a b ≡ a + b - 65535
unfolding ones_add when◌then◌else◌
add_over a b h = simp (lt-leb _ _ h)

-- one word more
add_some : (x w : ℕ) → 1 ≤ x → w ≤ 65535 → ones_add ((x - 1) % 65535 + 1) w ≡ (x + w - 1) % 65535 + 1
add_some x w h k = elim (dec_le ((x - 1) % 65535 + 1 + w) 65535) [
  | yes l ↦ add_within ((x - 1) % 65535 + 1) w l ∙ omega arith
  | no l ↦ add_over ((x - 1) % 65535 + 1) w (omega arith) ∙ omega arith
]

pub in_add : (x w : ℕ) → w ≤ 65535 → ones_add (carried_in x) w ≡ carried_in (x + w)
in_add x w k = elim (dec_le 1 x) [
  | yes h ↦ ap (λ (n : ℕ). ones_add n w) (in_some x h) ∙ add_some x w h k ∙ sym (in_some (x + w) (omega arith))
  | no h ↦ let e : x + w ≡ w = omega arith in
      let z : 0 + w ≡ w = omega arith in
      ap (λ (n : ℕ). ones_add n w) (in_none x (omega arith)) ∙ add_within 0 w (omega arith) ∙ z ∙ sym (ap carried_in e ∙ in_start w k)
]

-- twice is enough
folded_some : (x : ℕ) → 1 ≤ x → x < 4294967296 → (x % 65536 + x / 65536) % 65536 + (x % 65536 + x / 65536) / 65536 ≡ (x - 1) % 65535 + 1
folded_some x h k = omega arith

pub in_folded : (x : ℕ) → x < 4294967296 → (x % 65536 + x / 65536) % 65536 + (x % 65536 + x / 65536) / 65536 ≡ carried_in x
in_folded x k = elim (dec_le 1 x) [
  | yes h ↦ folded_some x h k ∙ sym (in_some x h)
  | no h ↦ let z : (x % 65536 + x / 65536) % 65536 + (x % 65536 + x / 65536) / 65536 ≡ 0 = omega arith in
      z ∙ sym (in_none x (omega arith))
]

-- ---- words with the low octet first: 256 times such a word is the word, but for multiples of 65,535
in_more : (x k : ℕ) → 1 ≤ x → carried_in (x + 65535 * k) ≡ carried_in x
in_more x k h = let e : (x + 65535 * k - 1) % 65535 + 1 ≡ (x - 1) % 65535 + 1 = omega arith in
    in_some (x + 65535 * k) (omega arith) ∙ e ∙ sym (in_some x h)

in_low : (x a b : ℕ) → carried_in (x + word16 a b) ≡ carried_in (x + 256 * word16 b a)
in_low x a b = elim (dec_le 1 b) [
  | yes h ↦ let e : x + word16 a b + 65535 * b ≡ x + 256 * word16 b a = omega arith in
      sym (in_more (x + word16 a b) b (omega arith)) ∙ ap carried_in e
  | no h ↦ let e : x + word16 a b ≡ x + 256 * word16 b a = omega arith in ap carried_in e
]

low_add : (start sum a b : ℕ) → a ≤ 255 → b ≤ 255 → ones_add (carried_in (start + 256 * sum)) (word16 a b) ≡ carried_in (start + 256 * (sum + word16 b a))
low_add start sum a b h k =
    let e : start + 256 * sum + 256 * word16 b a ≡ start + 256 * (sum + word16 b a) = omega arith in
    in_add (start + 256 * sum) (word16 a b) (omega arith) ∙ in_low (start + 256 * sum) a b ∙ ap carried_in e

pub low_two : (start sum : ℕ) (t : List ℕ) → 2 ≤ length t → get_or t 0 0 ≤ 255 → get_or t 1 0 ≤ 255 →
    ones_sum (carried_in (start + 256 * sum)) t ≡ ones_sum (carried_in (start + 256 * (sum + word16 (get_or t 1 0) (get_or t 0 0)))) (drop 2 t)
low_two start sum t h a b = sum_two (carried_in (start + 256 * sum)) t h ∙ ap (λ (n : ℕ). ones_sum n (drop 2 t)) (low_add start sum (get_or t 0 0) (get_or t 1 0) a b)

chunk_at : (k : ℕ) (xs : List ℕ) (i : ℕ) → i < k → get_or (first_chunks 2 k xs) i [] ≡ take 2 (drop (i * 2) xs)
chunk_at zero xs i h = absurd (omega arith)
chunk_at (suc k) xs zero h = refl
chunk_at (suc k) xs (suc i) h = let e : 2 + i * 2 ≡ suc i * 2 = omega arith in
    chunk_at k (drop 2 xs) i (omega arith) ∙ ap (take 2) (drop-drop (i * 2) 2 xs ∙ ap (λ (n : ℕ). drop n xs) e)

pub low_word : (start sum i w : ℕ) (s : List ℕ) → i < length s / 2 → ((k : ℕ) → get_or s k 0 ≤ 255)
    → w ≡ get_or (get_or (first_chunks 2 (length s / 2) s) i []) 0 0 + get_or (get_or (first_chunks 2 (length s / 2) s) i []) 1 0 * 256
    → ones_sum (carried_in (start + 256 * sum)) (drop (i * 2) s) ≡ ones_sum (carried_in (start + 256 * (sum + w))) (drop ((i + 1) * 2) s)
low_word start sum i w s h octets e =
    let t = drop (i * 2) s in
    let chunk = chunk_at (length s / 2) s i h in
    let low = ap (λ (xs : List ℕ). get_or xs 0 0) chunk ∙ get_or-take 2 t 0 0 (omega arith) in
    let high = ap (λ (xs : List ℕ). get_or xs 1 0) chunk ∙ get_or-take 2 t 1 0 (omega arith) in
    let a : get_or t 0 0 ≤ 255 = rw get_or-drop (octets (i * 2 + 0)) in
    let b : get_or t 1 0 ≤ 255 = rw get_or-drop (octets (i * 2 + 1)) in
    let f : word16 (get_or t 1 0) (get_or t 0 0) ≡ w = omega arith in
    let g : i * 2 + 2 ≡ (i + 1) * 2 = omega arith in
    low_two start sum t (omega (arith, length-drop (i * 2) s)) a b ∙ (λ j. ones_sum (carried_in (start + 256 * (sum + f j))) ((drop-drop 2 (i * 2) s ∙ ap (λ (n : ℕ). drop n s) g) j))

pub low_last : (start sum : ℕ) (t : List ℕ) → length t < 2 → get_or t 0 0 ≤ 255 →
    ones_sum (carried_in (start + 256 * sum)) t ≡ carried_in (start + 256 * (sum + get_or t 0 0))
unfolding ones_sum
low_last start sum [] h a = let e : start + 256 * sum ≡ start + 256 * (sum + 0) = omega arith in ap carried_in e
low_last start sum (x ∷ []) h a = let e : start + 256 * (sum + word16 0 x) ≡ start + 256 * (sum + x) = omega arith in
    low_add start sum x 0 a (omega arith) ∙ ap carried_in e
low_last start sum (x ∷ y ∷ t) h a = absurd (omega arith)

pub first_or : (t : List ℕ) → unwrap_or (slice_get t 0) 0 ≡ get_or t 0 0
first_or [] = refl
first_or (x ∷ t) = refl

-- the octets of such a sum swapped back
pub in_swapped : (start sum low : ℕ) → low ≡ carried_in sum → carried_in (start + low % 256 * 256 + low / 256) ≡ carried_in (start + 256 * sum)
in_swapped start sum low l = elim (dec_le 1 sum) [
  | yes h ↦ let f : low ≡ (sum - 1) % 65535 + 1 = l ∙ in_some sum h in
      let k = low / 256 + 256 * ((sum - 1) / 65535) in
      let e : start + low % 256 * 256 + low / 256 + 65535 * k ≡ start + 256 * sum = omega arith in
      sym (in_more (start + low % 256 * 256 + low / 256) k (omega arith)) ∙ ap carried_in e
  | no h ↦ let f : low ≡ 0 = l ∙ in_none sum (omega arith) in
      let e : start + low % 256 * 256 + low / 256 ≡ start + 256 * sum = omega arith in ap carried_in e
]
