-- The messages of any client without a name, a request list and extra options: two of the ★ cases are instances. Assumes
-- nothing.
use Rattle.std.proofs.Common.{Some}
use Prim.Native.Nat.{ℕ}
use mathlib.Core.Path.{◌≡◌, ◌∙◌}
use mathlib.Core.Bool.{false}
use mathlib.Core.List.{[], ◌∷◌}
use native.Mathlib.Omega.{arith}
use lib.ListN.{length, get_or}
use Rattle.choice.specs.Choice.{when◌then◌else◌}
use Rattle.octets.specs.Words.{word16}
use Rattle.octets.specs.Codes.{mask_code, router_code, dns_code}
use Rattle.machine.specs.declared.decide.Sending.TheVariants.{Discover, Request}
use Rattle.machine.specs.declared.state.DiscoverState.{DiscoverState}
use Rattle.machine.specs.declared.state.RequestState.{RequestState}
use Rattle.message.specs.Messages.{option_if, address_option, size_option, name_option}
use Rattle.message.specs.Datagrams.{datagram}
use Rattle.message.proofs.Messages.{message_length_lem}
use Rattle.settings.specs.Settings.{name_of, list_of, extra_of}
use Rattle.settings.specs.declared.settings.Settings.{Settings}
use Rattle.lease.specs.declared.lease.DhcpLease.{DhcpLease}
use Rattle.sending.specs.Sendings.{fields_of, body_of, datagram_for}

module _ (s : Settings) (hardware : length s.hardware ≡ 6) (unnamed : s.name_len ≡ 0) (unlisted : s.listed ≡ false) (plain : s.extra_len ≡ 0) where
  no_name : name_of s ≡ []
  no_name = rw unnamed

  default_list : list_of s ≡ mask_code ∷ router_code ∷ dns_code ∷ []
  unfolding list_of when◌then◌else◌
  default_list = rw unlisted

  no_extra : extra_of s ≡ []
  no_extra = rw plain

  module _ (lease : DhcpLease) (id : ℕ) where
    pub discover_length : (d : DiscoverState) → length (body_of s lease id (Discover d)) ≡ 262
    unfolding name_option address_option size_option option_if when◌then◌else◌
    discover_length d = rw (no_name, default_list, no_extra) (message_length_lem (fields_of s lease id (Discover d)) [] (Some (mask_code ∷ router_code ∷ dns_code ∷ [])) [] hardware ∙ omega arith)

    pub request_length : (r : RequestState) → length (body_of s lease id (Request r)) ≡ 274
    unfolding name_option address_option size_option option_if when◌then◌else◌
    request_length r = rw (no_name, default_list, no_extra) (message_length_lem (fields_of s lease id (Request r)) [] (Some (mask_code ∷ router_code ∷ dns_code ∷ [])) [] hardware ∙ omega arith)

    pub discover_udp_length : (d : DiscoverState) → word16 (get_or (datagram_for s lease id (Discover d)) 4 0) (get_or (datagram_for s lease id (Discover d)) 5 0) ≡ 270
    unfolding datagram_for datagram
    discover_udp_length d = rw (discover_length d)
