-- A message that is due: its id, its length, and what its writer answers. Assumes nothing.
use Rattle.std.proofs.Common.{Option, None, Some, Ok, Err}
use Prim.Native.Nat.{ℕ, ◌+◌, ◌-◌, ◌≤◌, ◌<◌}
use mathlib.Core.Path.{◌≡◌, refl, ap, ◌∙◌}
use mathlib.Core.Bool.{true, false}
use mathlib.Core.List.{List}
use native.Mathlib.Omega.{arith}
use lib.ListN.{length, length-append}
use lib.Dec.{leb}
use Rattle.choice.specs.Choice.{when◌then◌else◌}
use Rattle.clock.specs.Generator.{drawn32}
use Rattle.clock.specs.declared.rand.Rand.{Rand}
use Rattle.choice.proofs.Choices.{if_false}
use Rattle.octets.specs.Codes.{request, discover}
use Rattle.message.specs.Messages.{message, address_option}
use Rattle.message.specs.Written.{fitted, leaves, written, buffer_after}
use Rattle.reasons.specs.declared.refusal.Refusal.TheVariants.{ShortBuffer}
use Rattle.message.proofs.Messages.{address_most}
use Rattle.message.proofs.Datagrams.{datagram_length}
use Rattle.machine.specs.declared.decide.Sending.{Sending}
use Rattle.machine.specs.declared.decide.Sending.TheVariants.{Discover, Request, Renew}
use Rattle.settings.specs.Settings.{message_of, longest, longest_length, refusal_of}
use Rattle.settings.specs.declared.settings.Settings.{Settings}
use Rattle.settings.proofs.Refusals.{measuring, unrefused}
use Rattle.lease.specs.declared.lease.DhcpLease.{DhcpLease}
use Rattle.sending.specs.Sendings.{unspecified, draws, id_for, rand_after, drawn_for, fields_of, endpoints_of, body_of, datagram_for, wrote, left_in}

-- the id of a message, drawn or kept
module _ (id : ℕ) (g : Rand) (s : Sending) where
  pub draws_new : draws s ≡ true → drawn_for id g s ≡ drawn32 g
  unfolding id_for rand_after when◌then◌else◌
  draws_new e = rw e refl

  pub draws_none : draws s ≡ false → drawn_for id g s ≡ record { rand = g; value = id }
  unfolding id_for rand_after when◌then◌else◌
  draws_none e = rw e refl

-- what is left in the buffer, by the writer's answer
pub left_by_lem : (settings : Settings) (lease : DhcpLease) (id : ℕ) (s : Sending) (buffer : List ℕ)
    → left_in settings lease id s buffer ≡ leaves (wrote settings lease id s (length buffer)) (datagram_for settings lease id s) buffer
unfolding left_in wrote datagram_for buffer_after
left_by_lem settings lease id s buffer = refl

-- no message is longer than the longest
module _ (s : Settings) (kind id client : ℕ) (requested server : Option ℕ) (name : List ℕ) (list : Option (List ℕ)) (extra : List ℕ) where
  below_longest : length (message (message_of s kind id client requested server) name list extra) ≤ length (message (longest s) name list extra)
  unfolding message address_option
  below_longest = simp length-append (omega (arith, address_most 50 requested, address_most 54 server))

  some_length : 0 < length (message (message_of s kind id client requested server) name list extra)
  unfolding message
  some_length = simp length-append (omega arith)

-- of settings that 1 to 7 don't refuse
module _ (settings : Settings) (h : refusal_of settings ≡ None) (lease : DhcpLease) (id : ℕ) where
  body_fits : (s : Sending) → (0 < length (body_of settings lease id s)) × (length (body_of settings lease id s) ≤ longest_length settings)
  body_fits (Discover s) = (some_length settings discover id unspecified None None _ _ _, below_longest settings discover id unspecified None None _ _ _)
  body_fits (Request s) = (some_length settings request id unspecified (Some s.requested_ip) (Some s.server.identifier) _ _ _, below_longest settings request id unspecified (Some s.requested_ip) (Some s.server.identifier) _ _ _)
  body_fits (Renew s) = (some_length settings request id lease.address None None _ _ _, below_longest settings request id lease.address None None _ _ _)

  pub datagram_size : (s : Sending) → length (datagram_for settings lease id s) ≡ 8 + length (body_of settings lease id s)
  unfolding datagram_for
  datagram_size s = datagram_length (endpoints_of lease s) settings.offload (body_of settings lease id s)

  -- A message has from 1 to MTU − 20 octets, the UDP header among them.
  pub datagram_fits : (s : Sending) → (0 < length (datagram_for settings lease id s)) × (length (datagram_for settings lease id s) ≤ settings.mtu - 20)
  datagram_fits s =
      let b = body_fits s in
      let l = unrefused settings h in
      let m = l.counted.mtu in
      let r = l.room in
      rw (datagram_size s) (omega arith, omega arith)

  -- The writer refuses by 8 alone, and only where the datagram does not fit.
  pub fits_or_not : (s : Sending) (room : ℕ)
      → (when leb (8 + length (body_of settings lease id s)) room then Ok (8 + length (body_of settings lease id s)) else Err ShortBuffer) ≡ wrote settings lease id s room
  unfolding wrote written
  fits_or_not s room =
      let u = unrefused settings h in
      ap (fitted room) (if_false _ u.items refl ∙ measuring settings u.counted (fields_of settings lease id s))
