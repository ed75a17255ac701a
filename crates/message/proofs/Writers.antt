-- Laws of writers in a row. Assumes nothing.
use mathlib.Core.Path.{◌≡◌, refl, sym, ap, ◌∙◌}
use mathlib.Core.List.{List, [], ◌++◌, append_assoc}
use Prim.Native.Nat.{ℕ, ◌+◌, ◌≤◌}
use native.Mathlib.Omega.{arith}
use lib.ListN.{length, take, drop, length-append, length-take, length-drop, take-append-drop}
use lib.Seq.{take-append_seam, drop-append_seam, take-append-add, drop-append-add, drop_at}
use Rattle.octets.specs.Runs.{over, placed, placed_length}
use Rattle.octets.specs.Items.{option, option_bytes}
use Rattle.octets.proofs.Runs.{over_length, over_front, over_then, placed_whole}
use Rattle.octets.proofs.Items.{bytes_of}
use Rattle.message.specs.Pieces.{Wrote}

-- a run placed where it has room was written
pub wrote : (at : ℕ) (out xs ys : List ℕ) (r : ℕ) → at + length out ≤ length xs → r ≡ placed_length out (drop at xs) → ys ≡ take at xs ++ placed out (drop at xs)
    → Wrote at out xs (at + r) ys
wrote at out xs ys r h er ey =
    let e = placed_whole out (drop at xs) (simp length-drop (omega arith)) in
    record {
      room = h;
      next = ap (λ (n : ℕ). at + n) (er ∙ e.0);
      bytes = ey ∙ ap (λ (l : List ℕ). take at xs ++ l) e.1;
    }

-- an option likewise
pub wrote_option : (at kind : ℕ) (body xs ys : List ℕ) (r : ℕ) → length body ≤ 255 → at + (2 + length body) ≤ length xs
    → r ≡ placed_length (option_bytes kind body) (drop at xs) → ys ≡ take at xs ++ placed (option_bytes kind body) (drop at xs)
    → Wrote at (option kind body) xs (at + r) ys
wrote_option at kind body xs ys r s h er ey = wrote at (option kind body) xs ys r (omega arith) (rw (bytes_of kind body s) at er) (rw (bytes_of kind body s) at ey)

row_list : (q a b d : List ℕ) (r : ℕ) → r ≡ length q + length a → take r (q ++ over a d) ++ over b (drop r (q ++ over a d)) ≡ q ++ over (a ++ b) d
row_list q a b d r e = rw (e, take-append-add, drop-append-add, append_assoc) (ap (λ (l : List ℕ). q ++ l) (over_then a b d))

wrote_length : (p : ℕ) (a xs ys : List ℕ) → p + length a ≤ length xs → ys ≡ take p xs ++ over a (drop p xs) → length ys ≡ length xs
wrote_length p a xs ys h e = ap length e ∙ simp (length-append, over_length a (drop p xs) (simp length-drop (omega arith)), length-drop, length-take) (omega arith)

-- two writers in a row are one that writes both
pub row : {p r s : ℕ} {a b xs ys zs : List ℕ} → Wrote p a xs r ys → Wrote r b ys s zs → Wrote p (a ++ b) xs s zs
row {p} {r} {s} {a} {b} {xs} {ys} {zs} f g = record {
  room = simp length-append (omega (arith, wrote_length p a xs ys f.room f.bytes));
  next = simp length-append (omega arith);
  bytes = g.bytes ∙ rw f.bytes (row_list (take p xs) a b (drop p xs) r at);
}
  where
    at : r ≡ length (take p xs) + length a
    at = simp length-take (omega arith)

-- a writer that writes nothing
pub none : (at : ℕ) (xs : List ℕ) → at ≤ length xs → Wrote at [] xs at xs
unfolding over
none at xs h = record {
  room = omega arith;
  next = omega arith;
  bytes = sym (take-append-drop at xs);
}

patch_list : (p old q w tail : List ℕ) → length w ≡ length old → take (length p) ((p ++ (old ++ q)) ++ tail) ++ over w (drop (length p) ((p ++ (old ++ q)) ++ tail)) ≡ (p ++ (w ++ q)) ++ tail
unfolding over
patch_list p old q w tail e = simp (append_assoc, take-append_seam, drop-append_seam, drop_at old (q ++ tail) (length w) (sym e))

over_is : (out buf : List ℕ) → over out buf ≡ out ++ drop (length out) buf
unfolding over
over_is out buf = refl

-- a field within what was written is written anew
pub patch : {n : ℕ} (p old q w : List ℕ) {buf xs ys : List ℕ} → length w ≡ length old → Wrote 0 (p ++ (old ++ q)) buf n xs
    → ys ≡ take (length p) xs ++ over w (drop (length p) xs) → Wrote 0 (p ++ (w ++ q)) buf n ys
patch {n} p old q w {buf} {xs} {ys} e f g = record {
  room = rw same at f.room;
  next = f.next ∙ ap (λ (i : ℕ). 0 + i) same;
  bytes = g ∙ rw (f.bytes ∙ ends) (patch_list p old q w (drop (length (p ++ (old ++ q))) buf) e) ∙ back;
}
  where
    same : length (p ++ (old ++ q)) ≡ length (p ++ (w ++ q))
    same = simp (length-append) (omega arith)

    ends : take 0 buf ++ over (p ++ (old ++ q)) (drop 0 buf) ≡ (p ++ (old ++ q)) ++ drop (length (p ++ (old ++ q))) buf
    ends = over_is (p ++ (old ++ q)) buf

    back : (p ++ (w ++ q)) ++ drop (length (p ++ (old ++ q))) buf ≡ take 0 buf ++ over (p ++ (w ++ q)) (drop 0 buf)
    back = rw same (sym (over_is (p ++ (w ++ q)) buf))

-- what was written is what the buffer begins with
pub front : {n : ℕ} {d buf xs : List ℕ} → Wrote 0 d buf n xs → take n xs ≡ d
front {n} {d} {buf} {xs} f = let e : n ≡ length d = omega arith in rw (f.bytes, e) (over_front d buf)
