-- Laws of items. Assumes nothing.
use mathlib.Core.Path.{◌≡◌, refl, ◌∙◌}
use mathlib.Core.Bool.{true, false}
use mathlib.Core.List.{List, [], ◌∷◌, ◌++◌}
use Prim.Native.Nat.{ℕ, zero, suc, ◌≤◌, ◌<◌}
use native.Mathlib.Omega.{arith}
use lib.ListN.{length, drop, get_or, drop_of_length-le}
use lib.Dec.{eqb}
use borrow.Author.Tests.{le-leb, lt-leb}
use Rattle.choice.specs.Choice.{when◌then◌else◌}
use Rattle.octets.specs.Items.{option, option_bytes, whole_from, whole_items}

-- data of an item begun before is passed over, if it is all there
pub whole_skip : (n : ℕ) (xs : List ℕ) → n ≤ length xs → whole_from n xs ≡ whole_items (drop n xs)
unfolding whole_from
whole_skip zero xs h = refl
whole_skip (suc n) [] h = absurd (omega arith)
whole_skip (suc n) (x ∷ xs) h = whole_skip n xs (omega arith)

whole_cut : (n : ℕ) (xs : List ℕ) → length xs < n → whole_from n xs ≡ false
unfolding whole_from
whole_cut zero xs h = absurd (omega arith)
whole_cut (suc n) [] h = refl
whole_cut (suc n) (x ∷ xs) h = whole_cut n xs (omega arith)

-- fewer than two octets are no item
pub items_end : (t : List ℕ) → length t < 2 → eqb (length t) 0 ≡ whole_items t
unfolding whole_from
items_end [] h = refl
items_end (x ∷ []) h = refl
items_end (x ∷ y ∷ t) h = absurd (omega arith)

-- `rest` is what stands behind kind and length
pub items_cut : (t rest : List ℕ) → 2 ≤ length t → rest ≡ drop 2 t → length rest < get_or t 1 0 → whole_items t ≡ false
unfolding whole_from
items_cut [] rest g e h = absurd (omega arith)
items_cut (x ∷ []) rest g e h = absurd (omega arith)
items_cut (x ∷ n ∷ t) rest g e h = whole_cut n t (rw e at h)

pub items_more : (t rest : List ℕ) → 2 ≤ length t → rest ≡ drop 2 t → get_or t 1 0 ≤ length rest → whole_items t ≡ whole_items (drop (get_or t 1 0) rest)
unfolding whole_from
items_more [] rest g e h = absurd (omega arith)
items_more (x ∷ []) rest g e h = absurd (omega arith)
items_more (x ∷ n ∷ t) rest g e h = rw e (whole_skip n t (rw e at h))

-- an option as a writer has it, by the length of its data
pub bytes_of : (kind : ℕ) (body : List ℕ) → length body ≤ 255 → option_bytes kind body ≡ option kind body
unfolding option_bytes when◌then◌else◌
bytes_of kind body h = simp (le-leb _ _ h)

pub bytes_long : (kind : ℕ) (body : List ℕ) → 255 < length body → option_bytes kind body ≡ []
unfolding option_bytes when◌then◌else◌
bytes_long kind body h = simp (lt-leb _ _ h)

-- whole items before others
items_then : (n : ℕ) (l m : List ℕ) → whole_from n l ≡ true → whole_from n (l ++ m) ≡ whole_items m
unfolding whole_from
items_then zero [] m e = refl
items_then zero (k ∷ []) m e = cc
items_then zero (k ∷ size ∷ l) m e = items_then size l m e
items_then (suc n) [] m e = cc
items_then (suc n) (x ∷ l) m e = items_then n l m e

pub items_append : (l m : List ℕ) → whole_items l ≡ true → whole_items (l ++ m) ≡ whole_items m
items_append l m e = items_then 0 l m e

-- an option is one item
pub items_option : (kind : ℕ) (body : List ℕ) → whole_items (option kind body) ≡ true
unfolding whole_from
items_option kind body = whole_skip (length body) body (omega arith) ∙ rw (drop_of_length-le body {i = length body} (omega arith))
