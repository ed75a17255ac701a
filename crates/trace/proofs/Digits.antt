-- Laws of digits and octets. Assumes nothing.
use Rattle.std.proofs.Common.{◌≡◌, ℕ, suc, ◌+◌, ◌*◌, ◌≤◌, ◌<◌, Bool, List, [], ◌∷◌, ◌++◌, length, get_or, drop, refl, ap, arith, Option, None, Some}
use Rattle.std.specs.List.{prefix_len}
use Rattle.std.specs.Prelude.{is_some}
use mathlib.Core.Bool.{cond}
use Rattle.trace.specs.Digits.{octet_of, first_octet, octet_at, pairs_of}

pub first_two : (t : List ℕ) → 2 ≤ length t → first_octet t ≡ octet_of (get_or t 0 0) (get_or t 1 0)
unfolding first_octet
first_two [] h = absurd (omega arith)
first_two (a ∷ []) h = absurd (omega arith)
first_two (a ∷ b ∷ t) h = refl

pub first_short : (t : List ℕ) → length t < 2 → first_octet t ≡ None
unfolding first_octet
first_short [] h = refl
first_short (a ∷ []) h = refl
first_short (a ∷ b ∷ t) h = absurd (omega arith)

-- a text's octets by its first
by_octet : (a b : ℕ) (t : List ℕ) (m : Option ℕ) → octet_of a b ≡ m
    → pairs_of (a ∷ b ∷ t) ≡ elim m [ None ↦ 0 | Some octet ↦ suc (pairs_of t) ]
unfolding pairs_of
by_octet a b t m e = ap (λ (n : Option ℕ). elim n [ None ↦ 0 | Some octet ↦ suc (pairs_of t) ]) e

pub pairs_more : (t : List ℕ) (v : ℕ) → 2 ≤ length t → octet_of (get_or t 0 0) (get_or t 1 0) ≡ Some v → pairs_of t ≡ suc (pairs_of (drop 2 t))
pairs_more [] v h e = absurd (omega arith)
pairs_more (a ∷ []) v h e = absurd (omega arith)
pairs_more (a ∷ b ∷ t) v h e = by_octet a b t (Some v) e

pub pairs_end : (t : List ℕ) → 2 ≤ length t → octet_of (get_or t 0 0) (get_or t 1 0) ≡ None → pairs_of t ≡ 0
pairs_end [] h e = absurd (omega arith)
pairs_end (a ∷ []) h e = absurd (omega arith)
pairs_end (a ∷ b ∷ t) h e = by_octet a b t None e

pub pairs_short : (t : List ℕ) → length t < 2 → pairs_of t ≡ 0
unfolding pairs_of
pairs_short [] h = refl
pairs_short (a ∷ []) h = refl
pairs_short (a ∷ b ∷ t) h = absurd (omega arith)

-- they stand in the text, of two characters each
pub pairs_inside : (t : List ℕ) → 2 * pairs_of t ≤ length t
unfolding pairs_of
pairs_inside [] = omega arith
pairs_inside (a ∷ []) = omega arith
pairs_inside (a ∷ b ∷ t) = by (octet_of a b) (pairs_inside t)
  where
    by : (m : Option ℕ) → 2 * pairs_of t ≤ length t → 2 * (elim m [ None ↦ 0 | Some octet ↦ suc (pairs_of t) ]) ≤ suc (suc (length t))
    by None h = omega arith
    by (Some v) h = omega arith

-- the whole pairs of a text
abbrev pub pairs : List ℕ → List (List ℕ)
pairs [] = []
pairs (a ∷ []) = []
pairs (a ∷ b ∷ t) = (a ∷ b ∷ []) ∷ pairs t

pub pairs_none : (t : List ℕ) → length t < 2 → length (pairs t) ≡ 0
pairs_none [] h = refl
pairs_none (a ∷ []) h = refl
pairs_none (a ∷ b ∷ t) h = absurd (omega arith)

pub pairs_some : (t p r : List ℕ) → t ≡ p ++ r → length p ≡ 2 → pairs t ≡ p ∷ pairs r
pairs_some t [] r e h = absurd (omega arith)
pairs_some t (a ∷ []) r e h = absurd (omega arith)
pairs_some t (a ∷ b ∷ []) r e h = ap pairs e
pairs_some t (a ∷ b ∷ c ∷ p) r e h = absurd (omega arith)

abbrev pub begins_octet : List ℕ → Bool
begins_octet p = is_some (octet_at 0 p)

pub pairs_counted : (t : List ℕ) → prefix_len begins_octet (pairs t) ≡ pairs_of t
unfolding pairs_of first_octet
pairs_counted [] = refl
pairs_counted (a ∷ []) = refl
pairs_counted (a ∷ b ∷ t) = by (octet_of a b) (pairs_counted t)
  where
    by : (m : Option ℕ) → prefix_len begins_octet (pairs t) ≡ pairs_of t
        → cond (is_some m) (1 + prefix_len begins_octet (pairs t)) 0 ≡ elim m [ None ↦ 0 | Some octet ↦ suc (pairs_of t) ]
    by None h = refl
    by (Some v) h = omega arith
