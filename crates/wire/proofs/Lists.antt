-- Laws of lists of addresses: the unicast ones among groups of four octets, of which the first three are kept. Assumes nothing.
use Prim.Native.Nat.{ℕ, zero, suc, ◌+◌, ◌*◌, ◌/◌, ◌≤◌, ◌<◌}
use mathlib.Core.Bool.{true, false}
use mathlib.Core.Path.{◌≡◌, refl, sym, ap, ◌∙◌}
use mathlib.Core.List.{List, [], ◌∷◌, ◌++◌, append-nil, append_assoc}
use native.Mathlib.Omega.{arith}
use lib.ListN.{length}
use Rattle.std.specs.Prelude.{filter, map, fold, if◌then◌else◌}
use Rattle.std.specs.Simd.{first_chunks}
use Rattle.choice.specs.Choice.{when◌then◌else◌}
use Rattle.octets.specs.Addresses.{unicast}
use Rattle.wire.specs.Readings.{unicast_ones, groups_of, first_three, word_of, with_address}

-- one more
with_one : (done : List ℕ) (a : ℕ) → with_address (first_three done) a ≡ first_three (done ++ (a ∷ []))
unfolding when◌then◌else◌
with_one [] a = refl
with_one (b ∷ []) a = refl
with_one (b ∷ c ∷ []) a = refl
with_one (b ∷ c ∷ d ∷ done) a = refl

-- and all of a list, one by one
with_all : (done xs : List ℕ) → fold with_address (first_three done) xs ≡ first_three (done ++ xs)
with_all done [] = ap first_three (sym (append-nil done))
with_all done (a ∷ xs) = ap (λ f. fold with_address f xs) (with_one done a) ∙ with_all (done ++ (a ∷ [])) xs ∙ ap first_three (append_assoc done (a ∷ []) xs)

ones_kept : (xs : List ℕ) → filter unicast xs ≡ unicast_ones xs
unfolding unicast_ones when◌then◌else◌
ones_kept [] = refl
ones_kept (a ∷ xs) = elim (unicast a) as (λ t. (if t then a ∷ filter unicast xs else filter unicast xs) ≡ (when t then a ∷ unicast_ones xs else unicast_ones xs)) [ true ↦ ap (λ l. a ∷ l) (ones_kept xs) | false ↦ ones_kept xs ]

-- chunks of four octets, and fewer at the end
chunks_read : (k : ℕ) (s : List ℕ) → k * 4 ≤ length s → length s < k * 4 + 4 → map word_of (first_chunks 4 k s) ≡ groups_of s
unfolding groups_of
chunks_read zero [] h g = refl
chunks_read zero (a ∷ []) h g = refl
chunks_read zero (a ∷ b ∷ []) h g = refl
chunks_read zero (a ∷ b ∷ c ∷ []) h g = refl
chunks_read zero (a ∷ b ∷ c ∷ d ∷ s) h g = absurd (omega arith)
chunks_read (suc k) [] h g = absurd (omega arith)
chunks_read (suc k) (a ∷ []) h g = absurd (omega arith)
chunks_read (suc k) (a ∷ b ∷ []) h g = absurd (omega arith)
chunks_read (suc k) (a ∷ b ∷ c ∷ []) h g = absurd (omega arith)
chunks_read (suc k) (a ∷ b ∷ c ∷ d ∷ s) h g = ap (λ l. word_of (a ∷ b ∷ c ∷ d ∷ []) ∷ l) (chunks_read k s (omega arith) (omega arith))

-- the chain that reads a list of addresses
pub first_addresses : (s : List ℕ) → fold with_address (first_three []) (filter unicast (map word_of (first_chunks 4 (length s / 4) s))) ≡ first_three (unicast_ones (groups_of s))
first_addresses s =
    ap (λ l. fold with_address (first_three []) (filter unicast l)) (chunks_read (length s / 4) s (omega arith) (omega arith))
    ∙ with_all [] (filter unicast (groups_of s)) ∙ ap first_three (ones_kept (groups_of s))
