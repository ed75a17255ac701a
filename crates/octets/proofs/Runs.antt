-- Laws of runs of octets: parts of slices, equality, and one run written over the start of another. Assumes nothing.
use mathlib.Core.Path.{◌≡◌, refl, ap, ◌∙◌}
use mathlib.Core.Bool.{Bool, true, false}
use mathlib.Core.List.{List, [], ◌∷◌, ◌++◌, append_assoc, append-nil}
use Prim.Native.Nat.{ℕ, suc, ◌+◌, ◌-◌, ◌≤◌, ◌<◌}
use native.Mathlib.Omega.{arith}
use lib.ListN.{length, take, drop, set, length-append, length-drop, drop_of_length-le}
use lib.Seq.{take_at, drop_at, drop-drop, take_all}
use lib.Dec.{eqb}
use lib.Pointwise.{pointwise}
use borrow.Author.Tests.{le-leb, lt-leb}
use borrow.Rule.Slice.PartMut.{put_mid}
use Rattle.choice.specs.Choice.{when◌then◌else◌}
use Rattle.octets.specs.Items.{option}
use Rattle.octets.specs.Runs.{same_bytes, over, placed, placed_length}
use Rattle.std.specs.Prelude.{nat_eq, ◌&&◌}

-- what `&xs[a..]` is
pub part_tail : (a : ℕ) (xs : List ℕ) → take (length xs - a) (drop a xs) ≡ drop a xs
part_tail a xs = take_all (length xs - a) (drop a xs) (simp length-drop (omega arith))

-- equality is what `==` answers
pub same_pointwise : (x y : List ℕ) → pointwise nat_eq x y ≡ same_bytes x y
unfolding same_bytes when◌then◌else◌
same_pointwise [] [] = refl
same_pointwise [] (b ∷ y) = refl
same_pointwise (a ∷ x) [] = refl
same_pointwise (a ∷ x) (b ∷ y) = elim (nat_eq a b) as (λ t. (t && pointwise nat_eq x y) ≡ (when t then same_bytes x y else false)) [ true ↦ same_pointwise x y | false ↦ refl ]

-- writing over the start keeps the length
pub over_length : (out buf : List ℕ) → length out ≤ length buf → length (over out buf) ≡ length buf
unfolding over
over_length out buf h = simp (length-append, length-drop) (omega arith)

-- what was written is the start, and what follows is as it was
pub over_front : (out buf : List ℕ) → take (length out) (over out buf) ≡ out
unfolding over
over_front out buf = take_at out (drop (length out) buf) (length out) refl

pub over_rest : (out buf : List ℕ) → drop (length out) (over out buf) ≡ drop (length out) buf
unfolding over
over_rest out buf = drop_at out (drop (length out) buf) (length out) refl

-- the seam: b over the rest of what has a over its start is a ++ b over the start
seam : (a b buf : List ℕ) → a ++ over b (drop (length a) buf) ≡ over (a ++ b) buf
unfolding over
seam a b buf = simp (length-append, drop-drop, append_assoc)

pub over_then : (a b buf : List ℕ) → take (length a) (over a buf) ++ over b (drop (length a) (over a buf)) ≡ over (a ++ b) buf
over_then a b buf = rw (over_front a buf, over_rest a buf) (seam a b buf)

-- kind and length at the start, and the data behind them
pub option_put : (kind n : ℕ) (body buf ys : List ℕ) → 2 + length body ≤ length buf → n ≡ length body → ys ≡ body
    → put_mid 2 n (set (set buf 0 kind) 1 (length body)) ys ≡ over (option kind body) buf
unfolding over
option_put kind n body [] ys h e f = absurd (omega arith)
option_put kind n body (x ∷ []) ys h e f = absurd (omega arith)
option_put kind n body (x ∷ y ∷ r) ys h e f = rw (e, f)

-- whole, where there is room; else not at all
pub placed_whole : (out buf : List ℕ) → length out ≤ length buf → (placed_length out buf ≡ length out) × (placed out buf ≡ over out buf)
unfolding placed placed_length when◌then◌else◌
placed_whole out buf h = (simp (le-leb _ _ h), simp (le-leb _ _ h))

pub placed_not : (out buf : List ℕ) → length buf < length out → (placed_length out buf ≡ 0) × (placed out buf ≡ buf)
unfolding placed placed_length when◌then◌else◌
placed_not out buf h = (simp (lt-leb _ _ h), simp (lt-leb _ _ h))

pub placed_none : (buf : List ℕ) → (placed_length [] buf ≡ 0) × (placed [] buf ≡ buf)
unfolding over
placed_none buf = let e = placed_whole [] buf (omega arith) in (e.0, e.1)

-- past the end of a buffer nothing is written
placed_nil : (out : List ℕ) → (placed_length out [] ≡ 0) × (placed out [] ≡ [])
placed_nil [] = placed_none []
placed_nil (x ∷ out) = placed_not (x ∷ out) [] (omega arith)

pub past_length : (out xs : List ℕ) (at : ℕ) → length xs < at → placed_length out (drop at xs) ≡ 0
past_length out xs at h = let h' : length xs ≤ at = omega arith in rw (drop_of_length-le xs h') (placed_nil out).0

pub past_same : (out xs : List ℕ) (at : ℕ) → length xs < at → take at xs ++ placed out (drop at xs) ≡ xs
past_same out xs at h =
    let h' : length xs ≤ at = omega arith in
    rw (drop_of_length-le xs h') (ap (λ (l : List ℕ). take at xs ++ l) (placed_nil out).1 ∙ append-nil (take at xs) ∙ take_all at xs h')

-- lists of other lengths differ
else_false : (t : Bool) {r : Bool} → r ≡ false → (when t then r else false) ≡ false
unfolding when◌then◌else◌
else_false true e = e
else_false false e = refl

pub same_lengths : (x y : List ℕ) → (length x ≡ length y → ⊥) → same_bytes x y ≡ false
unfolding same_bytes
same_lengths [] [] h = absurd (h refl)
same_lengths [] (b ∷ y) h = refl
same_lengths (a ∷ x) [] h = refl
same_lengths (a ∷ x) (b ∷ y) h = else_false (eqb a b) (same_lengths x y (λ e. h (ap suc e)))
