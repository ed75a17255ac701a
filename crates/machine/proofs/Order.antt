-- Document 01: the moments of a lease "stand in the order ACK, renew, rebind, expiry when the maximum is absent or at least
-- 8 ms".
use Rattle.std.proofs.Common.{Option, None, Some}
use Prim.Native.Nat.{ℕ, zero, suc, ◌<◌, ◌≤◌, min}
use mathlib.Core.Path.{◌≡◌}
use native.Mathlib.Omega.{arith}
use borrow.Author.Tests.{ltb-true}
use lib.Dec.{ltb}
use Rattle.clock.specs.Durations.{seconds}
use Rattle.clock.specs.declared.duration.Duration.{Duration}
use Rattle.choice.proofs.Choices.{if_cases}
use Rattle.machine.specs.Times.{lease_time, row_of, both_row, renew_after, rebind_after}
use Rattle.machine.specs.declared.times.Row.{Row}
use Rattle.machine.specs.declared.times.Row.TheVariants.{OnlyRenew, OnlyRebind, Neither}

-- renew ≤ rebind ≤ L
pub record Ordered (l : ℕ) (row : Row) : Type 0 where
  pub renew : renew_after row l ≤ rebind_after row l
  pub rebind : rebind_after row l ≤ l

-- absent, or at least 8 ms
abbrev pub Enough : Option Duration → Type 0
Enough None = Unit {0}
Enough (Some maximum) = 8 ≤ maximum.millis

-- a lease under such a maximum is 0 or at least 8 ms
module _ (P : ℕ → Type 0) (none_left : P 0) (left : (l : ℕ) → 8 ≤ l → P l) where
  of_seconds : (s : ℕ) (maximum : Option Duration) → Enough maximum → P (lease_time (Some s) maximum)
  unfolding lease_time
  of_seconds zero None h = none_left
  of_seconds zero (Some m) h = rw (none_of m.millis) none_left
    where
      none_of : (n : ℕ) → min 0 n ≡ 0
      none_of n = omega arith
  of_seconds (suc s) None h = left (seconds (suc s)) (omega arith)
  of_seconds (suc s) (Some m) h = left (min (seconds (suc s)) m.millis) (omega arith)

  pub lease_length : (said : Option ℕ) (maximum : Option Duration) → Enough maximum → P (lease_time said maximum)
  unfolding lease_time
  lease_length (Some s) maximum h = of_seconds s maximum h
  lease_length None None h = left (seconds 120) (omega arith)
  lease_length None (Some m) h = left (min (seconds 120) m.millis) (omega arith)

ordered_both : (t1 t2 : Duration) (l : ℕ) → Ordered l Neither → Ordered l (both_row t1 t2 l)
unfolding both_row
ordered_both t1 t2 l else =
    if_cases (Ordered l) (ltb t1.millis t2.millis)
    (λ h. if_cases (Ordered l) (ltb t2.millis l) (λ k. record { renew = le_of_lt (ltb-true _ _ h); rebind = le_of_lt (ltb-true _ _ k) }) (λ k. else))
    (λ h. else)
  where
    le_of_lt : {a b : ℕ} → a < b → a ≤ b
    le_of_lt h = omega arith

-- every row is in order if the last one is
ordered_row : (t1 t2 : Option Duration) (l : ℕ) → Ordered l Neither → Ordered l (row_of t1 t2 l)
ordered_row (Some t1) (Some t2) l else = ordered_both t1 t2 l else
ordered_row (Some t1) None l else = if_cases (Ordered l) (ltb t1.millis l) (λ h. only (ltb-true _ _ h)) (λ h. else)
  where
    only : t1.millis < l → Ordered l (OnlyRenew t1)
    only h = record { renew = omega arith; rebind = omega arith }
ordered_row None (Some t2) l else = if_cases (Ordered l) (ltb t2.millis l) (λ h. only (ltb-true _ _ h)) (λ h. else)
  where
    only : t2.millis < l → Ordered l (OnlyRebind t2)
    only h = record { renew = omega arith; rebind = omega arith }
ordered_row None None l else = else

pub in_order : (said : Option ℕ) (t1 t2 maximum : Option Duration) → Enough maximum
    → Ordered (lease_time said maximum) (row_of t1 t2 (lease_time said maximum))
in_order said t1 t2 maximum h =
    ordered_row t1 t2 (lease_time said maximum)
    (lease_length (λ l. Ordered l Neither) (record { renew = omega arith; rebind = omega arith }) (λ l n. record { renew = omega arith; rebind = omega arith }) said maximum h)
