-- Laws of the answers: what the buffer holds after. Assumes nothing.
use Rattle.std.proofs.Common.{◌≡◌, ℕ, ◌+◌, ◌≤◌, ◌<◌, Bool, List, length, Option, Ok, Err}
use borrow.Author.Tests.{le-leb, lt-leb}
use Rattle.choice.specs.Choice.{when◌then◌else◌}
use Rattle.octets.specs.Runs.{over}
use Rattle.message.specs.Messages.{message}
use Rattle.message.specs.Datagrams.{datagram}
use Rattle.message.specs.Written.{measured, written, buffer_after}
use Rattle.message.specs.declared.datagram.Endpoints.{Endpoints}
use Rattle.message.specs.declared.message.Message.{Message}
use Rattle.reasons.specs.declared.refusal.Refusal.{Refusal}
use Rattle.reasons.specs.declared.refusal.Refusal.TheVariants.{ShortBuffer}

module _ (m : Message) (name : List ℕ) (list : Option (List ℕ)) (extra : List ℕ) where
  -- the answer
  pub fits : {n room : ℕ} → measured m name list extra ≡ Ok n → 8 + n ≤ room → written m name list extra room ≡ Ok (8 + n)
  unfolding written when◌then◌else◌
  fits e h = simp (e, le-leb _ _ h)

  pub over_room : {n room : ℕ} → measured m name list extra ≡ Ok n → room < 8 + n → written m name list extra room ≡ Err ShortBuffer
  unfolding written when◌then◌else◌
  over_room e h = simp (e, lt-leb _ _ h)

  pub refused : {r : Refusal} (room : ℕ) → measured m name list extra ≡ Err r → written m name list extra room ≡ Err r
  unfolding written
  refused room e = rw e

  -- the buffer after it
  pub leaves_datagram : {n : ℕ} (ends : Endpoints) (offload : Bool) (buffer : List ℕ) → written m name list extra (length buffer) ≡ Ok n
      → buffer_after ends offload m name list extra buffer ≡ over (datagram ends offload (message m name list extra)) buffer
  unfolding buffer_after
  leaves_datagram ends offload buffer e = rw e

  pub leaves_all : {r : Refusal} (ends : Endpoints) (offload : Bool) (buffer : List ℕ) → written m name list extra (length buffer) ≡ Err r
      → buffer_after ends offload m name list extra buffer ≡ buffer
  unfolding buffer_after
  leaves_all ends offload buffer e = rw e
