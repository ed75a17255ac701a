-- IPv4 addresses and masks, as numbers of 32 bits (document 01, src/wire/ipv4.rs).
use Rattle.std.specs.Prelude.{ℕ, zero, suc, ◌-◌, ◌^◌, Bool, true, false, eqb, ltb, leb, Option, None, Some}
use Rattle.choice.specs.Choice.{when◌then◌else◌}
use Rattle.octets.specs.Words.{word32}

-- Every address but 0.0.0.0, 255.255.255.255 and 224.0.0.0 to 239.255.255.255.
unfoldable pub unicast : ℕ → Bool
unicast address =
    when eqb address (word32 0 0 0 0) then false
    else when eqb address (word32 255 255 255 255) then false
    else when ltb address (word32 224 0 0 0) then true
    else leb (word32 240 0 0 0) address

-- The mask of n ones and then 32 - n zeros.
abbrev pub mask_of : ℕ → ℕ
mask_of n = 2 ^ 32 - 2 ^ (32 - n)

-- The length, up to n, whose mask is m.
unfoldable pub length_up_to : ℕ → ℕ → Option ℕ
length_up_to zero m = when eqb m (mask_of 0) then Some 0 else None
length_up_to (suc n) m = when eqb m (mask_of (suc n)) then Some (suc n) else length_up_to n m

-- The prefix length of a mask: none where it is no mask.
abbrev pub prefix_len : ℕ → Option ℕ
prefix_len m = length_up_to 32 m
