-- The refusals that the claim names have document 01's numbers. Assumes nothing.
use mathlib.Core.Path.{◌≡◌, refl}
use Rattle.reasons.specs.Numbers.{refusal_number}
use Rattle.reasons.specs.declared.refusal.Refusal.TheVariants.{ShortBuffer, NotWhole, Router, TableFull}

pub record Numbered : Type 0 where
  pub by_8 : refusal_number ShortBuffer ≡ 8
  pub by_9 : refusal_number NotWhole ≡ 9
  pub by_10 : refusal_number Router ≡ 10
  pub by_11 : refusal_number TableFull ≡ 11

pub numbered : Numbered
numbered = record { by_8 = refl; by_9 = refl; by_10 = refl; by_11 = refl }
