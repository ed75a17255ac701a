-- A choice by a test. Closed, so that proofs go by its two laws (proofs/Choices.antt) and not by its text.
use Rattle.std.specs.Prelude.{Bool, true, false}

infix 5 when◌then◌else◌
unfoldable pub when◌then◌else◌ {ℓ} : {A : Type ℓ} → Bool → A → A → A
when◌then◌else◌ true a b = a
when◌then◌else◌ false a b = b
