-- The generator: sPCG32 of https://www.pcg-random.org/paper.html, with the constants of src/rand.rs. Its state is a
-- linear congruence modulo 2^64; a number drawn is 32 bits of the new state, from a place that its top 3 bits choose.
use Rattle.std.specs.Prelude.{ℕ, ◌+◌, ◌-◌, ◌*◌, ◌/◌, ◌%◌, ◌^◌, bit_xor}
use Rattle.clock.specs.declared.rand.Rand.{Rand}
use Rattle.clock.specs.declared.rand.Drawn.{Drawn}

abbrev pub multiplier : ℕ
multiplier = 0xbb2efcec3c39611d

abbrev pub increment : ℕ
increment = 0x7590ef39

unfoldable pub next_state : ℕ → ℕ
next_state s = (s * multiplier + increment) % 2 ^ 64

-- The 32 bits of a state from bit 29 − (its top 3 bits) on.
unfoldable pub output_of : ℕ → ℕ
output_of s = s / 2 ^ (29 - s / 2 ^ 61) % 2 ^ 32

-- The generator with such a state.
abbrev pub generator : ℕ → Rand
generator s = record { state = s }

-- A draw: the state moves on, and the number is read off the new one.
unfoldable pub drawn32 : Rand → Drawn ℕ
drawn32 g = record { rand = generator (next_state g.state); value = output_of (next_state g.state) }

-- A draw of 16 bits: the two halves of 32 that were drawn, joined by exclusive or.
unfoldable pub drawn16 : Rand → Drawn ℕ
drawn16 g =
    record { rand = (drawn32 g).rand; value = bit_xor ((drawn32 g).value % 2 ^ 16) ((drawn32 g).value / 2 ^ 16) }
