-- Laws of moments. Assumes nothing.
use Rattle.std.proofs.Common.{◌≡◌, ℕ, suc, ◌+◌, ◌-◌, ◌^◌, ◌<◌, ◌≤◌, min, max, Bool, true, false, eqb, ltb, leb, sym, refl, ap, ◌∙◌, lt_of_not-le, arith, ltb-false, ltb-true, eqb-true, le-leb, leb-false, leb-true}
use native.Mathlib.Decide.{dec_le}
use borrow.Author.Tests.{eqb-false, lt-leb}
use Rattle.choice.specs.Choice.{when◌then◌else◌}
use Rattle.clock.specs.Durations.{clamp}
use Rattle.clock.specs.Moments.{wrap, plus, gap, negative, before, due, rest, earlier, later}
use Rattle.choice.proofs.Choices.{if_true, if_false}

-- Two tests agree if their facts do.
pub leb_iff : (a b c d : ℕ) → (a ≤ b → c ≤ d) → (c ≤ d → a ≤ b) → leb a b ≡ leb c d
leb_iff a b c d f g = go (dec_le c d)
  where
    go : Dec (c ≤ d) → leb a b ≡ leb c d
    go (yes h) = le-leb a b (g h) ∙ sym (le-leb c d h)
    go (no h) = lt-leb a b (lt_of_not-le (λ k. h (f k))) ∙ sym (lt-leb c d (omega arith))

-- A deadline is due where the wrapped difference now − deadline is at most 2^31.
pub due_by_gap : (d n : ℕ) → d < 2 ^ 32 → n < 2 ^ 32 → leb (gap n d) (2 ^ 31) ≡ due d n
unfolding due before
due_by_gap d n p q = by_test (eqb d n) refl
  where
    by_test : (e : Bool) → eqb d n ≡ e → leb (gap n d) (2 ^ 31) ≡ when eqb d n then true else negative (gap d n)
    by_test true e = if_true _ e (le-leb (gap n d) (2 ^ 31) (omega (arith, eqb-true d n e)))
    by_test false e =
        if_false _ e (leb_iff (gap n d) (2 ^ 31) (2 ^ 31) (gap d n) (λ h. omega (arith, eqb-false d n e)) (λ h. omega arith))

-- What follows is of times that never wrap, and of the moments that they show: on two that are near each other, wrapped
-- operations are the plain ones.
pub plus_near : (t k : ℕ) → plus (wrap t) k ≡ wrap (t + k)
plus_near t k = omega arith

pub gap_near : (a b : ℕ) → b ≤ a → a < b + 2 ^ 32 → gap (wrap a) (wrap b) ≡ a - b
gap_near a b p q = omega arith

module _ (a b : ℕ) (p : a < b + 2 ^ 31) (q : b < a + 2 ^ 31) where
  pub before_near : before (wrap a) (wrap b) ≡ ltb a b
  unfolding before
  before_near = leb_iff (2 ^ 31) (gap (wrap a) (wrap b)) (suc a) b (λ h. omega arith) (λ h. omega arith)

  pub due_near : due (wrap a) (wrap b) ≡ leb a b
  due_near =
      sym (due_by_gap (wrap a) (wrap b) (omega arith) (omega arith))
      ∙ leb_iff (gap (wrap b) (wrap a)) (2 ^ 31) a b (λ h. omega arith) (λ h. omega arith)

  pub rest_near : rest (wrap a) (wrap b) ≡ clamp (a - b)
  unfolding rest
  rest_near = sym (by_test (ltb a b) refl)
    where
      by_test : (e : Bool) → ltb a b ≡ e → clamp (a - b) ≡ when before (wrap a) (wrap b) then 0 else clamp (gap (wrap a) (wrap b))
      by_test true e = if_true _ (before_near ∙ e) (omega (arith, ltb-true a b e))
      by_test false e = if_false _ (before_near ∙ e) (ap clamp (sym (gap_near a b (ltb-false a b e) (omega arith))))

pub earlier_near : (a b : ℕ) → a < b + 2 ^ 31 → b < a + 2 ^ 31 → earlier (wrap a) (wrap b) ≡ wrap (min a b)
unfolding earlier
earlier_near a b p q = sym (by_test (ltb b a) refl)
  where
    by_test : (e : Bool) → ltb b a ≡ e → wrap (min a b) ≡ when before (wrap b) (wrap a) then wrap b else wrap a
    by_test true e = if_true _ (before_near b a q p ∙ e) (ap wrap (omega (arith, ltb-true b a e)))
    by_test false e = if_false _ (before_near b a q p ∙ e) (ap wrap (omega (arith, ltb-false b a e)))

pub later_near : (a b : ℕ) → a < b + 2 ^ 31 → b < a + 2 ^ 31 → later (wrap a) (wrap b) ≡ wrap (max a b)
unfolding later
later_near a b p q = sym (by_test (leb b a) refl)
  where
    by_test : (e : Bool) → leb b a ≡ e → wrap (max a b) ≡ when due (wrap b) (wrap a) then wrap a else wrap b
    by_test true e = if_true _ (due_near b a q p ∙ e) (ap wrap (omega (arith, leb-true b a e)))
    by_test false e = if_false _ (due_near b a q p ∙ e) (ap wrap (omega (arith, leb-false b a e)))

-- 0, 1,500,000,000 and 3,000,000,000: each is before the next, and the last before the first.
pub earlier_not_associative : (earlier (earlier 0 1500000000) 3000000000 ≡ 3000000000) × (earlier 0 (earlier 1500000000 3000000000) ≡ 0)
unfolding earlier before when◌then◌else◌
earlier_not_associative = (refl, refl)
