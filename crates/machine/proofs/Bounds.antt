-- How far on the moments of an ACK lie: expiry at most the longest duration, renew and rebind less far. Assumes nothing.
use Rattle.std.proofs.Common.{Option, None, Some}
use Prim.Native.Nat.{ℕ, ◌≤◌, ◌<◌}
use native.Mathlib.Omega.{arith}
use borrow.Author.Tests.{ltb-true}
use lib.Dec.{ltb}
use Rattle.clock.specs.Durations.{longest}
use Rattle.clock.specs.declared.duration.Duration.{Duration}
use Rattle.choice.proofs.Choices.{if_cases}
use Rattle.machine.specs.Times.{lease_time, row_of, both_row, renew_after, rebind_after}
use Rattle.machine.specs.declared.times.Row.{Row}

pub lease_most : (said : Option ℕ) (maximum : Option Duration) → lease_time said maximum ≤ longest
unfolding lease_time
lease_most None None = omega arith
lease_most None (Some m) = omega arith
lease_most (Some s) None = omega arith
lease_most (Some s) (Some m) = omega arith

-- renew and rebind lie less far on than the longest duration
abbrev pub Nearer : ℕ → Row → Type 0
Nearer l row = (renew_after row l < longest) × (rebind_after row l < longest)

both_nearer : (t1 t2 : Duration) (l : ℕ) → l ≤ longest → Nearer l (both_row t1 t2 l)
unfolding both_row
both_nearer t1 t2 l h =
    if_cases (Nearer l) (ltb t1.millis t2.millis)
    (λ p. if_cases (Nearer l) (ltb t2.millis l)
    (λ q. (omega (arith, ltb-true t1.millis t2.millis p, ltb-true t2.millis l q), omega (arith, ltb-true t2.millis l q)))
    (λ q. (omega arith, omega arith)))
    (λ p. (omega arith, omega arith))

pub row_nearer : (t1 t2 : Option Duration) (l : ℕ) → l ≤ longest → Nearer l (row_of t1 t2 l)
row_nearer (Some t1) (Some t2) l h = both_nearer t1 t2 l h
row_nearer (Some t1) None l h =
    if_cases (Nearer l) (ltb t1.millis l) (λ p. (omega (arith, ltb-true t1.millis l p), omega (arith, ltb-true t1.millis l p))) (λ p. (omega arith, omega arith))
row_nearer None (Some t2) l h =
    if_cases (Nearer l) (ltb t2.millis l) (λ p. (omega (arith, ltb-true t2.millis l p), omega (arith, ltb-true t2.millis l p))) (λ p. (omega arith, omega arith))
row_nearer None None l h = (omega arith, omega arith)
