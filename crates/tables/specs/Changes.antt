-- For contracts within this crate, which no public one cites: the steps of a call.
use Rattle.std.specs.Prelude.{◌≡◌, Bool, Result, Ok, Err}
use Rattle.std.specs.Fn.{Shared, FnReturnsAt}
use denote.Ref.{Bor}
use Rattle.choice.specs.Choice.{when◌then◌else◌}
use Rattle.reasons.specs.declared.refusal.Refusal.{Refusal}
use Rattle.reasons.specs.declared.refusal.Refusal.TheVariants.{NotWhole}
use Rattle.tables.specs.Manual.{refused}
use Rattle.tables.specs.declared.tables.Tables.{Tables}
use Rattle.tables.specs.declared.manual.Changed.{Changed}

-- Each call of a closure, at an entry, answers by this test.
pub record Computes {F A : Type 0} (g : Shared F (Bor A × Unit {0}) Bool) (f : F) (test : A → Bool) : Type 0 where
  pub each : (x : A) (b : Bool) → FnReturnsAt g f x b → b ≡ test x

-- Nothing where the test holds, and else the refusal.
abbrev pub not_whole_unless : Bool → Result (Unit {0}) Refusal
not_whole_unless test = when test then Ok tt else Err NotWhole

-- What a call hands back that makes these tables of its own, or is refused.
abbrev pub answered : Tables → Result Tables Refusal → Changed
answered t (Ok made) = record { tables = made; outcome = Ok tt }
answered t (Err refusal) = refused t refusal
