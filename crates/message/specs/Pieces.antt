-- What single writers do: definitions for contracts within this crate, which no public one cites.
use Rattle.std.specs.Prelude.{ℕ, ◌+◌, ◌-◌, ◌%◌, ◌≤◌, Bool, List, [], ◌∷◌, ◌++◌, ◌≡◌, length, take, drop, eqb, Option, option_copied}
use Rattle.choice.specs.Choice.{when◌then◌else◌}
use Rattle.octets.specs.Words.{bytes16}
use Rattle.octets.specs.Runs.{over}
use Rattle.octets.specs.Codes.{end_code, request_list_code}
use Rattle.message.specs.Messages.{option_if, message}
use Rattle.message.specs.Datagrams.{checksum}
use Rattle.message.specs.declared.datagram.Endpoints.{Endpoints}
use Rattle.message.specs.declared.lists.Lists.{Lists}
use Rattle.message.specs.declared.message.Message.{Message}

-- The message of these fields and lists.
abbrev pub message_with : Message → Lists → List ℕ
message_with m lists = message m lists.name.now (option_copied lists.list) lists.extra.now

-- `out` was written at `at` of xs, which ys is now, and r is the place after it.
pub record Wrote (at : ℕ) (out xs : List ℕ) (r : ℕ) (ys : List ℕ) : Type 0 where
  pub room : at + length out ≤ length xs
  pub next : r ≡ at + length out
  pub bytes : ys ≡ take at xs ++ over out (drop at xs)

-- The last options with the end mark.
abbrev pub last : Option (List ℕ) → List ℕ → List ℕ
last list extra = option_if request_list_code list ++ (extra ++ (end_code ∷ []))

-- What a writer that adds the checksum to a datagram of n octets leaves.
unfoldable pub summed : Endpoints → Bool → ℕ → List ℕ → List ℕ
summed ends offload n xs =
    when offload then xs
    else take 6 xs ++ over (bytes16 (checksum ends.source ends.destination (take n xs))) (drop 6 xs)

-- A plain sum of words with its carries added in: the number from 1 to 65,535 that it is congruent to modulo 65,535; 0
-- where it is 0.
unfoldable pub carried_in : ℕ → ℕ
carried_in sum = when eqb sum 0 then 0 else (sum - 1) % 65535 + 1
