-- The cases that document 01 marks ★, as one table with one theorem. The masks are three cases of one ★.
use Rattle.std.specs.Prelude.{ℕ, ◌≡◌, refl, List, [], ◌∷◌, map, length, get_or, Option, None, Some}
use Rattle.clock.specs.Durations.{duration}
use Rattle.clock.specs.Moments.{plus, moment, before, due, rest, earlier}
use Rattle.clock.specs.Waits.{standard_waits}
use Rattle.choice.specs.Choice.{when◌then◌else◌}
use Rattle.clock.specs.Generator.{generator, drawn32, next_state, output_of}
use Rattle.octets.specs.Words.{word16, word32}
use Rattle.octets.specs.Addresses.{prefix_len, length_up_to}
use Rattle.machine.specs.Times.{given, lease_time, row_of, times_of}
use Rattle.machine.specs.States.{renewing}
use Rattle.machine.specs.Decisions.{decided, decided_renewing, next_retry, rebinds}
use Rattle.machine.specs.declared.state.ClientState.{ClientState}
use Rattle.machine.specs.declared.times.Row.{Row}
use Rattle.message.specs.Messages.{message, option_if, address_option, size_option, name_option}
use Rattle.message.specs.Datagrams.{udp}
use Rattle.message.specs.declared.message.Message.{Message}

pub record Case : Type 0 where
  -- what the definitions give
  pub given : List ℕ
  -- what document 01 states
  pub stated : List ℕ

abbrev case : List ℕ → List ℕ → Case
case given stated = record { given = given; stated = stated }

-- A number that may be missing, as a list.
abbrev numbers : Option ℕ → List ℕ
numbers None = []
numbers (Some n) = n ∷ []

-- A message of a post with hardware address 02:00:00:00:00:01 and MTU 1,500, without a name, with the default request list
-- and no extra options.
abbrev fields : ℕ → Option ℕ → Option ℕ → Message
fields kind requested server = record {
  kind = kind;
  id = 1;
  client = 0;
  hardware = 2 ∷ 0 ∷ 0 ∷ 0 ∷ 0 ∷ 1 ∷ [];
  requested = requested;
  server = server;
  size = Some 1432;
}

abbrev discover : List ℕ
discover = message (fields 1 None None) [] (Some (1 ∷ 3 ∷ 6 ∷ [])) []

abbrev requesting : List ℕ
requesting = message (fields 3 (Some (word32 10 0 0 7)) (Some (word32 10 0 0 1))) [] (Some (1 ∷ 3 ∷ 6 ∷ [])) []

-- The length field of a message's datagram.
abbrev udp_length : List ℕ → ℕ
udp_length body = word16 (get_or (udp (0 ∷ 0 ∷ []) body) 4 0) (get_or (udp (0 ∷ 0 ∷ []) body) 5 0)

-- Renewal, rebinding and expiry of a lease without a maximum, in milliseconds after the ACK, by the seconds that options 51,
-- 58 and 59 give.
abbrev times_of_lease : ℕ → Row → List ℕ
times_of_lease l row = (times_of row l).renew.millis ∷ (times_of row l).rebind.millis ∷ l ∷ []

abbrev leased : Option ℕ → Option ℕ → Option ℕ → List ℕ
leased l t1 t2 = times_of_lease (lease_time l None) (row_of (given t1) (given t2) (lease_time l None))

-- When the poll of a client in this state is next wanted, after one at a moment.
abbrev next_wanted : ClientState → ℕ → ℕ
next_wanted state now = (decided standard_waits state now).wake.millis

-- The state that an ACK at moment 0 gives, with L of so many milliseconds and options 58 and 59 absent.
abbrev bound : ℕ → ClientState
bound l = renewing (times_of (row_of (given None) (given None) l) l) (duration l) (moment 0)

unfoldable pub cases : List Case
cases =
    -- "A moment plus a wait wraps at 2^32: 4,294,967,295 plus 10,000 is 9,999."
    case (plus 4294967295 10000 ∷ []) (9999 ∷ [])
    -- "State 0 draws 3; the state becomes 0x7590ef39."
    ∷ case ((drawn32 (generator 0)).value ∷ (drawn32 (generator 0)).rand.state ∷ []) (3 ∷ 0x7590ef39 ∷ [])
    -- "`prefix_len`: 0.0.0.0 gives 0, 255.255.255.255 gives 32, 255.0.255.0 none." None is written as no number.
    ∷ case (numbers (prefix_len (word32 0 0 0 0))) (0 ∷ [])
    ∷ case (numbers (prefix_len (word32 255 255 255 255))) (32 ∷ [])
    ∷ case (numbers (prefix_len (word32 255 0 255 0))) []
    -- "L absent: 60, 105, 120 s." "L 3,600: 1,800, 3,150." "L 3,600, T1 900: 900, 2,925." "L 3,600, T2 1,000: 1,000, 1,000."
    ∷ case (leased None None None) (60000 ∷ 105000 ∷ 120000 ∷ [])
    ∷ case (leased (Some 3600) None None) (1800000 ∷ 3150000 ∷ 3600000 ∷ [])
    ∷ case (leased (Some 3600) (Some 900) None) (900000 ∷ 2925000 ∷ 3600000 ∷ [])
    ∷ case (leased (Some 3600) None (Some 1000)) (1000000 ∷ 1000000 ∷ 3600000 ∷ [])
    -- "First retry at 1,800 s of L 3,600: next at 2,475." Nothing is sent before 1,800 s.
    ∷ case (next_wanted (bound 3600000) 0 ∷ next_wanted (bound 3600000) 1800000 ∷ []) (1800000 ∷ 2475000 ∷ [])
    -- "Discover without name: 262 bytes, UDP length 270." "Requesting: 274." The UDP length is octets 4 and 5.
    ∷ case (length discover ∷ udp_length discover ∷ []) (262 ∷ 270 ∷ [])
    ∷ case (length requesting ∷ []) (274 ∷ [])
    ∷ []

pub all_hold : map (λ c. c.given) cases ≡ map (λ c. c.stated) cases
unfolding cases drawn32 next_state output_of length_up_to lease_time times_of standard_waits decided decided_renewing next_retry rebinds before due rest earlier when◌then◌else◌ message option_if address_option size_option name_option
all_hold = refl
