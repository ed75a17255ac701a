-- A wait that is doubled. Assumes nothing.
use Prim.Native.Nat.{ℕ, zero, suc, ◌*◌, ◌%◌, ◌^◌, ◌≤◌, min}
use mathlib.Core.Path.{◌≡◌, refl, ◌∙◌}
use native.Mathlib.Decide.{dec_le}
use native.Mathlib.Nat.{zero-mul, suc-mul, pow-le-pow_right}
use native.Mathlib.Omega.{arith}
use Rattle.clock.specs.Durations.{clamp}

-- 30 doublings take any wait but zero to the longest duration
pub many_doublings : (first n : ℕ) → 30 ≤ n → clamp (first * 2 ^ 30) ≡ clamp (first * 2 ^ n)
many_doublings first n h = by_first first (pow-le-pow_right {n = 2} (omega arith) h)
  where
    by_first : (first : ℕ) → 2 ^ 30 ≤ 2 ^ n → clamp (first * 2 ^ 30) ≡ clamp (first * 2 ^ n)
    by_first zero h = rw zero-mul refl
    by_first (suc m) h = omega (arith, suc-mul m (2 ^ 30), suc-mul m (2 ^ n))

-- so no more are needed, and a word holds what they come to
pub most_doublings : (first n k : ℕ) → k ≡ min n 30 → clamp (first * (1 * 2 ^ k % 2 ^ 32)) ≡ clamp (first * 2 ^ n)
most_doublings first n k e = fits ∙ most
  where
    l : 2 ^ k ≤ 2 ^ 30
    l = pow-le-pow_right {n = 2} (omega arith) {i = k} {j = 30} (omega arith)

    fits : clamp (first * (1 * 2 ^ k % 2 ^ 32)) ≡ clamp (first * 2 ^ k)
    fits = let f : 1 * 2 ^ k % 2 ^ 32 ≡ 2 ^ k = omega (arith, l) in rw f

    most : clamp (first * 2 ^ k) ≡ clamp (first * 2 ^ n)
    most = elim (dec_le 30 n) [
      | yes h ↦ let f : k ≡ 30 = omega arith in rw f (many_doublings first n h)
      | no h ↦ let f : k ≡ n = omega arith in rw f
    ]
