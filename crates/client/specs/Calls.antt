-- The calls of a client and its tables, as one set, `calls`: the contracts of the client's calls cite it, those of the manual
-- calls the definitions of tables that it is made of, and demand 3 speaks of it.
use Rattle.std.specs.Prelude.{ℕ, Bool, List, Result}
use Rattle.clock.specs.declared.instant.Instant.{Instant}
use Rattle.clock.specs.declared.rand.Rand.{Rand}
use Rattle.clock.specs.declared.waits.Waits.{Waits}
use Rattle.tables.specs.Manual.{add_address, drop_address, add_route, drop_route}
use Rattle.tables.specs.declared.tables.Tables.{Tables}
use Rattle.tables.specs.declared.manual.Changed.{Changed}
use Rattle.settings.specs.declared.settings.Settings.{Settings}
use Rattle.client.specs.Clients.{created}
use Rattle.client.specs.Resets.{was_reset}
use Rattle.client.specs.Taken.{processed}
use Rattle.client.specs.Polls.{PolledInto, polled_with, polled}
use Rattle.client.specs.declared.client.Client.{Client}
use Rattle.client.specs.Outcomes.{Processed, WasReset}
use Rattle.reasons.specs.declared.refusal.Refusal.{Refusal}

-- The manual calls.
pub data Manual : Type 0 where
  AddAddress : (address prefix : ℕ) → Manual
  DropAddress : (address prefix : ℕ) → Manual
  AddRoute : (network prefix router : ℕ) → Manual
  DropRoute : (network prefix router : ℕ) → Manual

-- A set of calls: what each does, on any client, tables, generator and moment. A look-up hands back nothing that it could
-- have changed, so there is nothing of it here.
pub record Calls : Type 0 where
  pub create : Settings → Bool → Result Client Refusal
  pub poll : Client → Tables → Rand → Instant → List ℕ → PolledInto
  pub process : Client → Tables → ℕ → List ℕ → Instant → Processed
  pub reset : Client → Tables → WasReset
  pub by_hand : Manual → Tables → Changed

abbrev pub changed_by : Manual → Tables → Changed
changed_by (AddAddress address prefix) t = add_address t address prefix
changed_by (DropAddress address prefix) t = drop_address t address prefix
changed_by (AddRoute network prefix router) t = add_route t network prefix router
changed_by (DropRoute network prefix router) t = drop_route t network prefix router

-- Ours: the definitions that the contracts cite. And the same with any waits, for the proof alone.
abbrev pub calls : Calls
calls = record { create = created; poll = polled; process = processed; reset = was_reset; by_hand = changed_by }

abbrev pub calls_with : Waits → Calls
calls_with w = record { create = created; poll = polled_with w; process = processed; reset = was_reset; by_hand = changed_by }
