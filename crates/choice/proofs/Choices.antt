-- A choice by a test whose outcome is known. Assumes nothing.
use mathlib.Core.Path.{◌≡◌, refl}
use mathlib.Core.Bool.{Bool, true, false, false≢true}
use native.Mathlib.Omega.{arith}
use borrow.Author.Tests.{le-ltb, lt-ltb, le-leb, lt-leb, eq-eqb, ne_eqb}
use Rattle.choice.specs.Choice.{when◌then◌else◌}

pub if_true : {A : Type 0} {b : Bool} {x y : A} (z : A) → b ≡ true → x ≡ y → x ≡ when b then y else z
unfolding when◌then◌else◌
if_true {b = true} z t e = e
if_true {b = false} z t e = cc

pub if_false : {A : Type 0} {b : Bool} {x z : A} (y : A) → b ≡ false → x ≡ z → x ≡ when b then y else z
unfolding when◌then◌else◌
if_false {b = false} y t e = e
if_false {b = true} y t e = cc

-- what a test on numbers comes to, for `search tests`
pub ruleset tests = (le-ltb, lt-ltb, le-leb, lt-leb, eq-eqb, ne_eqb, arith)

-- what holds of each side under its test holds of the choice
pub if_cases : {A : Type 0} (P : A → Type 0) (b : Bool) {x y : A} → (b ≡ true → P x) → (b ≡ false → P y) → P (when b then x else y)
unfolding when◌then◌else◌
if_cases P true f g = f refl
if_cases P false f g = g refl

pub both_true : (a : Bool) {b : Bool} → when a then b else false ≡ true → (a ≡ true) × (b ≡ true)
unfolding when◌then◌else◌
both_true true h = (refl, h)
both_true false h = absurd (false≢true h)
