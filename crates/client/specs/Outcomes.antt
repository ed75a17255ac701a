-- What calls leave: client and tables, and what came of the call.
use Rattle.std.specs.Prelude.{ℕ, Bool, Result, Ok}
use Rattle.reasons.specs.Numbers.{refusal_number, passed_over_number}
use Rattle.reasons.specs.declared.refusal.Refusal.{Refusal}
use Rattle.tables.specs.declared.apply.Applied.{Applied}
use Rattle.client.specs.declared.client.Client.{Client}
use Rattle.client.specs.declared.client.Settled.{Settled}
use Rattle.client.specs.declared.process.NotTaken.{NotTaken}
use Rattle.client.specs.declared.process.NotTaken.TheVariants.{PassedOver, Refused}

-- A reply, and a reset: whether link state is to be purged, or why not.
abbrev pub Processed : Type 0
Processed = Settled (Result Bool NotTaken)

abbrev pub WasReset : Type 0
WasReset = Settled (Result Bool Refusal)

-- A client that a call has changed in place, and what it did to the tables.
abbrev pub settled : Client → Applied → Settled Bool
settled c a = record { client = c; tables = a.tables; outcome = a.purge }

-- What was not refused, of a call that can be.
abbrev pub done_as : {E : Type 0} → Settled Bool → Settled (Result Bool E)
done_as s = record { client = s.client; tables = s.tables; outcome = Ok s.outcome }

-- The number of a reply that is not taken: 20 to 30, or a refusal's.
abbrev pub not_taken_number : NotTaken → ℕ
not_taken_number (PassedOver reason) = passed_over_number reason
not_taken_number (Refused refusal) = refusal_number refusal
