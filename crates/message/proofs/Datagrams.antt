-- Laws of the datagram: header, message, then the checksum into its field. Assumes nothing.
use mathlib.Core.Path.{◌≡◌, refl}
use mathlib.Core.Bool.{Bool, true, false}
use mathlib.Core.List.{List, [], ◌∷◌, ◌++◌}
use Prim.Native.Nat.{ℕ, ◌+◌}
use lib.ListN.{length, length-append}
use native.Mathlib.Omega.{arith}
use Rattle.choice.specs.Choice.{when◌then◌else◌}
use Rattle.octets.specs.Words.{bytes16}
use Rattle.message.specs.Datagrams.{udp, checksum_field, datagram}
use Rattle.message.specs.Pieces.{Wrote, summed}
use Rattle.message.specs.declared.datagram.Endpoints.{Endpoints}
use Rattle.message.proofs.Writers.{row, patch, front}

-- the header, with the datagram's size and an empty checksum field, and the message after it
pub headed : (size : ℕ) (body : List ℕ) {r n : ℕ} {buf xs ys : List ℕ} → size ≡ 8 + length body → Wrote 0 ((0 ∷ 68 ∷ 0 ∷ 67 ∷ bytes16 size) ++ (0 ∷ 0 ∷ [])) buf r xs
    → Wrote r body xs n ys → Wrote 0 (udp (0 ∷ 0 ∷ []) body) buf n ys
headed size body e h b = rw e at (row h b)

-- then the checksum, if it is not the device's
module _ (ends : Endpoints) (body : List ℕ) {n : ℕ} {buf xs ys : List ℕ} (w : Wrote 0 (udp (0 ∷ 0 ∷ []) body) buf n xs) where
  pub finish : (offload : Bool) → ys ≡ summed ends offload n xs → Wrote 0 (datagram ends offload body) buf n ys
  unfolding datagram checksum_field summed when◌then◌else◌
  finish true s = rw s w
  finish false s = patch (0 ∷ 68 ∷ 0 ∷ 67 ∷ bytes16 (8 + length body)) (0 ∷ 0 ∷ []) body _ refl w (rw (front w) at s)

two : (b : Bool) (v : List ℕ) → length v ≡ 2 → length (when b then 0 ∷ 0 ∷ [] else v) ≡ 2
unfolding when◌then◌else◌
two true v h = refl
two false v h = h

field_length : (ends : Endpoints) (offload : Bool) (body : List ℕ) → length (checksum_field ends offload body) ≡ 2
unfolding checksum_field
field_length ends offload body = two offload _ refl

pub datagram_length : (ends : Endpoints) (offload : Bool) (body : List ℕ) → length (datagram ends offload body) ≡ 8 + length body
unfolding datagram
datagram_length ends offload body = simp length-append (omega (arith, field_length ends offload body))
