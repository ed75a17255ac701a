-- What is owed of a deed: `Lawful`. Assumes nothing.
use Rattle.reasons.specs.declared.refusal.Refusal.{Refusal}
use Rattle.std.proofs.Common.{Option, None, Some}
use Prim.Native.Nat.{ℕ}
use mathlib.Core.Path.{◌≡◌, ap}
use mathlib.Core.Bool.{Bool, true, false, false≢true}
use Rattle.clock.specs.Moments.{wrap, moment}
use Rattle.clock.specs.declared.instant.Instant.{Instant}
use Rattle.clock.specs.declared.waits.Waits.{Waits}
use Rattle.settings.specs.declared.settings.Settings.{Settings}
use Rattle.client.specs.Clients.{whole_all}
use Rattle.run.specs.Calls.{Post, Deed, calls_with}
use Rattle.run.specs.Demand3.{Done, Does, leaves, done, History, Lost, Since, Justly}
use Rattle.run.proofs.Invariant.{Inv, Step}

pub never_refused : {A : Type 0} (n : Refusal) → None ≡ Some n → A
never_refused n e = cc

-- The post is whole, and its settings are those of creation.
pub record Sound (s : Settings) (p : Post) : Type 0 where
  pub whole : whole_all p.client p.tables ≡ true
  pub settings_are : p.client.settings ≡ s

-- What is owed of a deed: it keeps the invariant and the post sound, and is refused for its own reasons alone.
module _ (w : Waits) (s : Settings) where
  abbrev pub doing : Post → Instant → Deed → Done
  doing p = done (calls_with w) s p.client p.tables p.rand

  pub record Lawful (d : Deed) : Type 0 where
    pub steps : (p : Post) (gp : Since) (t : ℕ) (h : History) (lost : Lost) (i : Inv s gp t p.client p.tables h lost)
        → Step s gp t p.client p.tables p.rand h lost i (doing p (moment (wrap t)) d).tells (doing p (moment (wrap t)) d).client (doing p (moment (wrap t)) d).tables
    pub sound : (p : Post) (now : Instant) → Sound s p → Sound s (leaves p now (Does d (doing p now d)))
    pub just : (p : Post) (now : Instant) → Sound s p → (reason : Refusal) → (doing p now d).refused ≡ Some reason → Justly (calls_with w) s p now d reason
