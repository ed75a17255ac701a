-- What a client is created with, and document 01's numbers 1 to 7, which refuse it.
use Rattle.std.specs.Prelude.{ℕ, ◌-◌, Bool, true, false, not, List, [], ◌∷◌, length, take, replicate, ltb, Option, None, Some}
use Rattle.std.specs.Bool.{then_some}
use Rattle.choice.specs.Choice.{when◌then◌else◌}
use Rattle.clock.specs.Durations.{duration}
use Rattle.clock.specs.Durations as durations
use Rattle.clock.specs.Waits.{standard_waits}
use Rattle.clock.specs.declared.waits.Waits.{Waits}
use Rattle.octets.specs.Items.{whole_items}
use Rattle.octets.specs.Codes.{mask_code, router_code, dns_code, request}
use Rattle.message.specs.Messages.{message}
use Rattle.message.specs.Written.{name_limit, extra_limit, list_fits}
use Rattle.message.specs.declared.message.Message.{Message}
use Rattle.settings.specs.declared.settings.Settings.{Settings}
use Rattle.settings.specs.declared.settings.Medium.{Medium}
use Rattle.settings.specs.declared.settings.Medium.TheVariants.{Ethernet, Ip, Ieee802154}
use Rattle.clock.specs.declared.duration.Duration.{Duration}
use Rattle.reasons.specs.declared.refusal.Refusal.{Refusal}
use Rattle.reasons.specs.declared.refusal.Refusal.TheVariants.{Medium as NotEthernet, Mtu, Name, RequestList, ExtraOptions, Maximum, LongestMessage}

-- All zero.
abbrev pub no_settings : Settings
no_settings = record {
  medium = Ethernet;
  mtu = 0;
  hardware = replicate 6 0;
  offload = false;
  name = replicate 63 0;
  name_len = 0;
  listed = false;
  list = replicate 64 0;
  list_len = 0;
  extra = replicate 255 0;
  extra_len = 0;
  capped = false;
  maximum = duration 0;
}

abbrev pub is_ethernet : Medium → Bool
is_ethernet Ethernet = true
is_ethernet Ip = false
is_ethernet Ieee802154 = false

-- The name, the codes to request (by default 1, 3, 6; a list that is present may be empty), the extra options.
abbrev pub name_of : Settings → List ℕ
name_of s = take s.name_len s.name

unfoldable pub list_of : Settings → List ℕ
list_of s = when s.listed then take s.list_len s.list else (mask_code ∷ router_code ∷ dns_code ∷ [])

-- The request list of a message that asks for options; another has none.
abbrev pub asked_list : Bool → Settings → Option (List ℕ)
asked_list asks s = then_some asks (list_of s)

abbrev pub extra_of : Settings → List ℕ
extra_of s = take s.extra_len s.extra

-- The maximum, if there is one.
unfoldable pub maximum_of : Settings → Option Duration
maximum_of s = when s.capped then Some s.maximum else None

-- How long a client waits: document 01's waits, whatever the settings.
abbrev pub waits_of : Settings → Waits
waits_of s = standard_waits

-- The fields of a message of such a client: option 57 is MTU − 68.
abbrev pub message_of : Settings → ℕ → ℕ → ℕ → Option ℕ → Option ℕ → Message
message_of s kind id client requested server = record {
  kind = kind;
  id = id;
  client = client;
  hardware = s.hardware;
  requested = requested;
  server = server;
  size = Some (s.mtu - 68);
}

-- The longest message is a Request in Requesting, which has an option 50 and an option 54: 4 octets each, whatever they
-- say.
abbrev pub longest : Settings → Message
longest s = message_of s request 0 0 (Some 0) (Some 0)

abbrev pub longest_length : Settings → ℕ
longest_length s = length (message (longest s) (name_of s) (Some (list_of s)) (extra_of s))

-- Whether there is a maximum over the longest duration.
unfoldable pub over_cap : Settings → Bool
over_cap s = when s.capped then ltb durations.longest s.maximum.millis else false

-- 5 extra options not whole items; 6 maximum over 1,073,741,824 ms; 7 longest message over MTU − 28.
unfoldable pub size_refusal : Settings → Option Refusal
size_refusal s =
    when not (whole_items (extra_of s)) then Some ExtraOptions
    else when over_cap s then Some Maximum
    else when ltb (s.mtu - 28) (longest_length s) then Some LongestMessage
    else None

-- How many codes the request list has, if there is one.
abbrev pub listed_len : Settings → Option ℕ
listed_len s = then_some s.listed s.list_len

-- 3 name over 63 octets; 4 request list over 64; 5 extra options over 255 octets.
unfoldable pub lists_refusal : Settings → Option Refusal
lists_refusal s =
    when ltb name_limit s.name_len then Some Name
    else when not (list_fits (listed_len s)) then Some RequestList
    else when ltb extra_limit s.extra_len then Some ExtraOptions
    else size_refusal s

-- The first of 1 to 7 that refuses settings: 1 medium not Ethernet; 2 MTU outside 576 to 1,500; then the above.
unfoldable pub refusal_of : Settings → Option Refusal
refusal_of s =
    when not (is_ethernet s.medium) then Some NotEthernet
    else when ltb s.mtu 576 then Some Mtu
    else when ltb 1500 s.mtu then Some Mtu
    else lists_refusal s
