-- What a poll's outcome tells, by itself. Assumes nothing.
use Rattle.std.proofs.Common.{Result, Ok, Err}
use Prim.Native.Nat.{ℕ}
use mathlib.Core.Bool.{Bool, true, false}
use Rattle.client.specs.declared.poll.PollAnswer.{PollAnswer}
use Rattle.reasons.specs.declared.refusal.Refusal.{Refusal}

abbrev pub is_answered : Result PollAnswer Refusal → Bool
is_answered (Ok answer) = true
is_answered (Err number) = false

abbrev pub length_of : Result PollAnswer Refusal → ℕ
length_of (Ok answer) = answer.length
length_of (Err number) = 0
