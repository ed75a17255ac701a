-- Laws of masks. Assumes nothing.
use Rattle.std.proofs.Common.{None, Some}
use Rattle.std.specs.Int.{w32, leading_ones, trailing_zeros}
use Rattle.std.proofs.lemmas.Nat.{pow_pos, pow-add, leading_length}
use Prim.Native.Nat.{ℕ, zero, suc, ◌+◌, ◌-◌, ◌*◌, ◌/◌, ◌%◌, ◌^◌, ◌≤◌, ◌<◌, ◌∣◌}
use mathlib.Core.Bool.{Bool, true, false}
use Rattle.std.specs.Bool.{then_some}
use mathlib.Core.Path.{◌≡◌, refl, sym, ap, subst, ◌∙◌}
use native.Mathlib.Omega.{arith}
use native.Mathlib.Nat.{pow-suc, sub-le, suc-mul, one-dvd, le_of_dvd, dvd-sub, dvd-mul_left, mul-dvd-mul_right}
use native.Mathlib.Numerals.{sub-one}
use native.Mathlib.Decide.{dec_le}
use lib.Pow.{pow_mono}
use lib.Bits.{shifted_half, shifted_even}
use lib.Count.{under, count_trailing_zeros, leading_unique, trailing_of_zero}
use lib.Dec.{eqb}
use borrow.Author.Tests.{eq-eqb, ne_eqb, eqb-true, eqb-false}
use Rattle.choice.specs.Choice.{when◌then◌else◌}
use Rattle.choice.proofs.Choices.{if_cases}
use Rattle.octets.specs.Addresses.{mask_of, length_up_to}

-- of two masks the one with more ones is the greater
mask_mono : (n k : ℕ) → n < k → k ≤ 32 → (mask_of n ≡ mask_of k → ⊥)
mask_mono n k h g e =
    let d : suc (32 - k) ≤ 32 - n = omega arith in
    omega (arith, pow_mono d, pow-suc 2 (32 - k), pow_pos (32 - k), pow_mono (sub-le 32 n), pow_mono (sub-le 32 k))

-- the mask of n ones has length n
mask_hit : (k n m : ℕ) → n ≤ k → k ≤ 32 → m ≡ mask_of n → length_up_to k m ≡ Some n
unfolding length_up_to when◌then◌else◌
mask_hit zero n m h g e = let z : n ≡ 0 = omega arith in simp (eq-eqb m 0 (e ∙ ap mask_of z)) (ap Some (sym z))
mask_hit (suc k) n m h g e = elim (dec_le (suc k) n) [
  | yes l ↦ let z : n ≡ suc k = omega arith in simp (eq-eqb m (mask_of (suc k)) (e ∙ ap mask_of z)) (ap Some (sym z))
  | no l ↦ simp (ne_eqb m (mask_of (suc k)) (λ q. mask_mono n (suc k) (omega arith) g (sym e ∙ q))) (mask_hit k n m (omega arith) (omega arith) e)
]

-- a number that is no mask has none
mask_miss : (k m : ℕ) → ((n : ℕ) → n ≤ k → m ≡ mask_of n → ⊥) → length_up_to k m ≡ None
unfolding length_up_to when◌then◌else◌
mask_miss zero m h = simp (ne_eqb m 0 (h 0 (omega arith)))
mask_miss (suc k) m h = simp (ne_eqb m (mask_of (suc k)) (h (suc k) (omega arith))) (mask_miss k m (λ n l. h n (omega arith)))

double_dvd : (n d t : ℕ) → n % 2 ≡ d → 2 ^ t ∣ n / 2 → 2 ^ under d t ∣ n
double_dvd n zero t e h =
    let f : n / 2 * 2 ≡ n = omega arith in
    subst (λ (x : ℕ). x ∣ n) (sym (pow-suc 2 t)) (subst (λ (x : ℕ). 2 ^ t * 2 ∣ x) f (mul-dvd-mul_right (2 ^ t) h 2))
double_dvd n (suc d) t e h = one-dvd n

-- a number is a multiple of the power at which its trailing zeros end
trailing_dvd : (k n : ℕ) → 2 ^ count_trailing_zeros k n ∣ n
unfolding count_trailing_zeros
trailing_dvd zero n = one-dvd n
trailing_dvd (suc k) n = double_dvd n (n % 2) _ refl (trailing_dvd k (n / 2))

-- the trailing zeros of an odd number times a power
trailing_of : (k j q : ℕ) → j < k → q % 2 ≡ 1 → count_trailing_zeros k (q * 2 ^ j) ≡ j
unfolding count_trailing_zeros
trailing_of zero j q h e = absurd (omega arith)
trailing_of (suc k) zero q h e = let f : q * 1 % 2 ≡ 1 = omega arith in rw f
trailing_of (suc k) (suc j) q h e = rw (shifted_even q j, shifted_half q j) (ap suc (trailing_of k j q (omega arith) e))

less_one : (p x w : ℕ) → 0 < p → p * x ≡ w → w - x ≡ (p - 1) * x
less_one zero x w h e = absurd (omega arith)
less_one (suc p) x w h e = simp sub-one (omega (arith, suc-mul p x))

split_mask : (n : ℕ) → n ≤ 32 → mask_of n ≡ (2 ^ n - 1) * 2 ^ (32 - n)
split_mask n h =
    let e : n + (32 - n) ≡ 32 = omega arith in
    less_one (2 ^ n) (2 ^ (32 - n)) (2 ^ 32) (pow_pos n) (sym (pow-add 2 n (32 - n)) ∙ ap (λ (i : ℕ). 2 ^ i) e)

-- a mask is ones, then zeros
mask_ones : (n : ℕ) → n ≤ 32 → (leading_ones w32 (mask_of n) ≡ n) × (trailing_zeros w32 (mask_of n) ≡ 32 - n)
mask_ones n h = (sym (leading_unique 32 _ n (32 - n) (omega arith) (omega (arith, p, l)) (omega (arith, p, l))), ends n h)
  where
    p : 0 < 2 ^ (32 - n)
    p = pow_pos (32 - n)

    l : 2 ^ (32 - n) ≤ 2 ^ 32
    l = pow_mono (sub-le 32 n)

    ends : (n : ℕ) → n ≤ 32 → trailing_zeros w32 (mask_of n) ≡ 32 - n
    ends zero h = trailing_of_zero 32
    ends (suc n) h =
        let o : (2 ^ suc n - 1) % 2 ≡ 1 = omega (arith, pow-suc 2 n, pow_pos n) in
        ap (count_trailing_zeros 32) (split_mask (suc n) h) ∙ trailing_of 32 (32 - suc n) (2 ^ suc n - 1) (omega arith) o

-- and ones, then zeros, are a mask
ones_mask : (m : ℕ) → m < 2 ^ 32 → leading_ones w32 m + trailing_zeros w32 m ≡ 32 → m ≡ mask_of (leading_ones w32 m)
ones_mask m h e =
    let l : 4294967295 - m < 2 ^ 32 = omega arith in
    let t = leading_length 32 (4294967295 - m) l in
    let z : count_trailing_zeros 32 m ≡ t.0 = omega (arith, t.1) in
    let f : leading_ones w32 m + t.0 ≡ 32 = t.1 in
    let whole : 2 ^ t.0 ∣ 2 ^ 32 = subst (λ (x : ℕ). 2 ^ t.0 ∣ x) (sym (pow-add 2 (leading_ones w32 m) t.0) ∙ ap (λ (i : ℕ). 2 ^ i) f) (dvd-mul_left (2 ^ t.0) (2 ^ leading_ones w32 m)) in
    let part : 2 ^ t.0 ∣ m = subst (λ (x : ℕ). 2 ^ x ∣ m) z (trailing_dvd 32 m) in
    let pos : 0 < 2 ^ 32 - m = omega arith in
    let most : 2 ^ t.0 ≤ 2 ^ 32 - m = le_of_dvd pos (dvd-sub (2 ^ t.0) whole part) in
    let g : 32 - leading_ones w32 m ≡ t.0 = omega arith in
    rw g (omega (arith, t.2))

-- so a mask is what its leading ones and its trailing zeros make up, and the ones are its length
pub prefix_bits : (m : ℕ) → m < 2 ^ 32 → then_some (eqb (leading_ones w32 m + trailing_zeros w32 m) 32) (leading_ones w32 m) ≡ length_up_to 32 m
prefix_bits m h = go (eqb (leading_ones w32 m + trailing_zeros w32 m) 32) refl
  where
    go : (t : Bool) → eqb (leading_ones w32 m + trailing_zeros w32 m) 32 ≡ t → then_some t (leading_ones w32 m) ≡ length_up_to 32 m
    go true t =
        let e = eqb-true _ _ t in
        sym (mask_hit 32 (leading_ones w32 m) m (omega arith) (omega arith) (ones_mask m h e))
    go false t = sym (mask_miss 32 m (λ n l e.
        let o = rw (sym e) at (mask_ones n l) in
        eqb-false _ _ t (rw (o.0, o.1) (omega arith))))

-- a prefix length has at most the bits that it may have
pub length_bound : (n m p : ℕ) → length_up_to n m ≡ Some p → p ≤ n
unfolding length_up_to
length_bound zero m p = if_cases (λ r. r ≡ Some p → p ≤ 0) (eqb m (mask_of 0)) (λ t e. let q : 0 ≡ p = cc in omega (arith, q)) (λ t e. let q : 0 ≡ p = cc in omega (arith, q))
length_bound (suc n) m p =
    if_cases (λ r. r ≡ Some p → p ≤ suc n) (eqb m (mask_of (suc n)))
    (λ t e. let q : suc n ≡ p = cc in omega (arith, q))
    (λ t e. omega (arith, length_bound n m p e))
