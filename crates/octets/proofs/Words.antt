-- Laws of words. Assumes nothing.
use Prim.Native.Nat.{ℕ, ◌+◌, ◌*◌, ◌/◌, ◌%◌, ◌<◌}
use mathlib.Core.List.{List}
use mathlib.Core.Path.{◌≡◌, ap, ◌∙◌}
use native.Mathlib.Omega.{arith}
use lib.ListN.{take, drop, get_or}
use Rattle.std.proofs.lemmas.List.{get_or-take, get_or-drop}
use Rattle.octets.specs.Words.{word16, word32}

-- A number's four octets, joined.
pub joined32 : (v : ℕ) → v < 4294967296 → word32 (v / 16777216 % 256) (v / 65536 % 256) (v / 256 % 256) (v % 256) ≡ v
joined32 v h =
    let a : v / 16777216 % 256 * 256 + v / 65536 % 256 ≡ v / 65536 = omega arith in
    let b : v / 65536 * 256 + v / 256 % 256 ≡ v / 256 = omega arith in
    let c : v / 256 * 256 + v % 256 ≡ v = omega arith in
    ap (λ (n : ℕ). (n * 256 + v / 256 % 256) * 256 + v % 256) a ∙ ap (λ (n : ℕ). n * 256 + v % 256) b ∙ c

-- The octets that stand at a place of a list, one by one.
octet_of : (s w : List ℕ) (n at i j : ℕ) → w ≡ take n (drop at s) → i < n → j ≡ at + i → get_or w i 0 ≡ get_or s j 0
octet_of s w n at i j e h f = rw (e, f) (get_or-take n (drop at s) i 0 h ∙ get_or-drop at s i 0)

pub word16_of : (s w : List ℕ) (at : ℕ) → w ≡ take 2 (drop at s) → word16 (get_or w 0 0) (get_or w 1 0) ≡ word16 (get_or s at 0) (get_or s (at + 1) 0)
word16_of s w at e =
    let o = octet_of s w 2 at in
    let high : get_or w 0 0 ≡ get_or s at 0 = o 0 at e (omega arith) (omega arith) in
    let low : get_or w 1 0 ≡ get_or s (at + 1) 0 = o 1 (at + 1) e (omega arith) (omega arith) in
    cc

pub word32_of : (s w : List ℕ) (at : ℕ) → w ≡ take 4 (drop at s)
    → word32 (get_or w 0 0) (get_or w 1 0) (get_or w 2 0) (get_or w 3 0) ≡ word32 (get_or s at 0) (get_or s (at + 1) 0) (get_or s (at + 2) 0) (get_or s (at + 3) 0)
word32_of s w at e =
    let o = octet_of s w 4 at in
    let first : get_or w 0 0 ≡ get_or s at 0 = o 0 at e (omega arith) (omega arith) in
    let second : get_or w 1 0 ≡ get_or s (at + 1) 0 = o 1 (at + 1) e (omega arith) (omega arith) in
    let third : get_or w 2 0 ≡ get_or s (at + 2) 0 = o 2 (at + 2) e (omega arith) (omega arith) in
    let fourth : get_or w 3 0 ≡ get_or s (at + 3) 0 = o 3 (at + 3) e (omega arith) (omega arith) in
    cc
