-- Laws of writers in a row, cut where the buffer ends. Assumes nothing.
use Prim.Native.Nat.{ℕ, zero, suc, ◌+◌, ◌-◌, ◌≤◌, ◌<◌, min}
use mathlib.Core.Path.{◌≡◌, refl, sym, ap, subst, ◌∙◌}
use mathlib.Core.List.{List, [], ◌∷◌, ◌++◌, append-nil, append_assoc}
use native.Mathlib.Omega.{arith}
use lib.ListN.{length, take, drop, set, length-append, length-take, length-drop, take-append-drop, drop_of_length-le}
use lib.Seq.{length-take-le, take_all, take_at, drop_at, drop-drop}
use Rattle.trace.specs.Written.{poured, poured_from, place_after, Wrote, Writes}
use Rattle.trace.specs.declared.write.Writer.{Writer}

poured_nil : (text : List ℕ) → poured text [] ≡ []
unfolding poured
poured_nil [] = refl
poured_nil (c ∷ text) = refl

poured_length : (text xs : List ℕ) → length (poured text xs) ≡ length xs
unfolding poured
poured_length [] xs = refl
poured_length (c ∷ text) [] = refl
poured_length (c ∷ text) (x ∷ xs) = ap suc (poured_length text xs)

-- a text that the buffer has room for stands whole
poured_whole : (text xs : List ℕ) → length text ≤ length xs → poured text xs ≡ text ++ drop (length text) xs
unfolding poured
poured_whole [] xs h = refl
poured_whole (c ∷ text) [] h = absurd (omega arith)
poured_whole (c ∷ text) (x ∷ xs) h = ap (λ (l : List ℕ). c ∷ l) (poured_whole text xs (omega arith))

from_length : (p : ℕ) (text xs : List ℕ) → length (poured_from p text xs) ≡ length xs
unfolding poured_from
from_length p text xs = simp (length-append, length-take, poured_length, length-drop) (omega arith)

-- past the buffer's end nothing is written
from_past : (p : ℕ) (text xs : List ℕ) → length xs ≤ p → poured_from p text xs ≡ xs
unfolding poured_from
from_past p text xs h = rw (drop_of_length-le xs h, poured_nil text, append-nil) (take_all p xs h)

-- what follows a text goes behind it
poured_row : (a b xs : List ℕ) (r : ℕ) → r ≡ min (length a) (length xs) → poured_from r b (poured a xs) ≡ poured (a ++ b) xs
unfolding poured_from poured
poured_row [] b xs zero e = refl
poured_row [] b xs (suc r) e = absurd (omega arith)
poured_row (c ∷ a) b [] zero e = poured_nil b
poured_row (c ∷ a) b [] (suc r) e = absurd (omega arith)
poured_row (c ∷ a) b (x ∷ xs) zero e = absurd (omega arith)
poured_row (c ∷ a) b (x ∷ xs) (suc r) e = ap (λ (l : List ℕ). c ∷ l) (poured_row a b xs r (omega arith))

from_row : (p : ℕ) (a b xs : List ℕ) (r : ℕ) → r ≡ place_after p a xs → poured_from r b (poured_from p a xs) ≡ poured_from p (a ++ b) xs
unfolding poured_from
from_row zero a b xs r e = poured_row a b xs r (omega arith)
from_row (suc p) a b [] r e =
    let n : [] ≡ poured_from (suc p) a [] = sym (poured_nil a) in
    sym (ap (poured_from r b) n) ∙ from_past r b [] (omega arith) ∙ sym (poured_nil (a ++ b))
from_row (suc p) a b (x ∷ xs) zero e = absurd (omega arith)
from_row (suc p) a b (x ∷ xs) (suc r) e = ap (λ (l : List ℕ). x ∷ l) (from_row p a b xs r (omega arith))

-- ---- what is still to be written: `rest` from r on, over ys, gives what `text` from p on, over xs, gives
pub record Onward (p : ℕ) (text xs : List ℕ) (r : ℕ) (rest ys : List ℕ) : Type 0 where
  pub size : length ys ≡ length xs
  pub ends : place_after p text xs ≡ place_after r rest ys
  pub bytes : poured_from p text xs ≡ poured_from r rest ys

pub whole : {p : ℕ} {text xs : List ℕ} → Onward p text xs p text xs
whole = record { size = refl; ends = refl; bytes = refl }

pub onward : {p r s : ℕ} {text a b c xs ys zs : List ℕ} → Onward p text xs r c ys → Wrote r a ys s zs → c ≡ a ++ b → Onward p text xs s b zs
onward {p} {r} {s} {text} {a} {b} {c} {xs} {ys} {zs} o w e = record {
  size = kept ∙ o.size;
  ends = o.ends ∙ omega (arith, ap length e ∙ length-append a b, w.ends, kept);
  bytes = o.bytes ∙ ap (λ (l : List ℕ). poured_from r l ys) e ∙ sym (ap (poured_from s b) w.bytes ∙ from_row r a b ys s w.ends);
}
  where
    kept : length zs ≡ length ys
    kept = ap length w.bytes ∙ from_length r a ys

pub written : {p r : ℕ} {text xs ys : List ℕ} → Onward p text xs r [] ys → Wrote p text xs r ys
unfolding poured_from poured
written {p} {r} {text} {xs} {ys} o = record {
  ends = sym (o.ends ∙ omega arith);
  bytes = sym (o.bytes ∙ take-append-drop r ys);
}

pub written_rest : {p r : ℕ} {text rest xs ys : List ℕ} → Onward p text xs r rest ys → rest ≡ [] → Wrote p text xs r ys
written_rest {p} {r} {text} {rest} {xs} {ys} o e = written (subst (λ (l : List ℕ). Onward p text xs r l ys) e o)

-- two writers in a row are one that writes both
pub row : {p r s : ℕ} {a b xs ys zs : List ℕ} → Wrote p a xs r ys → Wrote r b ys s zs → Wrote p (a ++ b) xs s zs
row f g = let o = onward whole f refl in record {
  ends = g.ends ∙ sym o.ends;
  bytes = g.bytes ∙ sym o.bytes;
}

pub wrote_as : {p r : ℕ} {a b xs ys : List ℕ} → Wrote p a xs r ys → a ≡ b → Wrote p b xs r ys
wrote_as {p} {r} {xs = xs} {ys = ys} w e = subst (λ (l : List ℕ). Wrote p l xs r ys) e w

-- where there is room the text stands whole, and the rest of the buffer is as it was
pub record Held (p : ℕ) (text xs : List ℕ) (r : ℕ) (ys : List ℕ) : Type 0 where
  pub next : r ≡ p + length text
  pub before : take p ys ≡ take p xs
  pub line : take (r - p) (drop p ys) ≡ text
  pub behind : drop r ys ≡ drop r xs

pub held : {p r : ℕ} {text xs ys : List ℕ} → Wrote p text xs r ys → p + length text ≤ length xs → Held p text xs r ys
unfolding poured_from
held {p} {r} {text} {xs} {ys} w h = record {
  next = next;
  before = ap (take p) all ∙ take_at (take p xs) (text ++ drop r xs) p size;
  line = (λ k. take (span k) (drop p (all k))) ∙ ap (take (length text)) (drop_at (take p xs) (text ++ drop r xs) p size) ∙ take_at text (drop r xs) (length text) refl;
  behind = ap (drop r) all ∙ ap (drop r) (sym (append_assoc (take p xs) text (drop r xs))) ∙ drop_at (take p xs ++ text) (drop r xs) r (simp length-append (omega (arith, size)));
}
  where
    next : r ≡ p + length text
    next = omega (arith, w.ends)

    span : r - p ≡ length text
    span = omega arith

    size : length (take p xs) ≡ p
    size = length-take-le p xs (omega arith)

    all : ys ≡ take p xs ++ (text ++ drop r xs)
    all = w.bytes ∙ ap (λ (l : List ℕ). take p xs ++ l)
        (poured_whole text (drop p xs) (simp length-drop (omega arith)) ∙ ap (λ (l : List ℕ). text ++ l) (drop-drop (length text) p xs ∙ ap (λ (i : ℕ). drop i xs) (sym next)))

-- ---- one character
pub past : {p : ℕ} {xs : List ℕ} (text : List ℕ) → length xs ≤ p → Wrote p text xs p xs
past {p} {xs} text h = record { ends = omega arith; bytes = sym (from_past p text xs h) }

from_one : (p c : ℕ) (xs : List ℕ) → p < length xs → set xs p c ≡ poured_from p (c ∷ []) xs
unfolding poured_from poured
from_one p c [] h = absurd (omega arith)
from_one zero c (x ∷ xs) h = refl
from_one (suc p) c (x ∷ xs) h = ap (λ (l : List ℕ). x ∷ l) (from_one p c xs (omega arith))

pub one : {p : ℕ} {xs : List ℕ} (c : ℕ) → p < length xs → Wrote p (c ∷ []) xs (p + 1) (set xs p c)
one {p} {xs} c h = record { ends = omega arith; bytes = from_one p c xs h }

-- ---- a text by its first character, octets by their first
-- ---- the same of a writer: what is still to be written, and methods in a row
pub record Still (text : List ℕ) (before : Writer) (rest : List ℕ) (now : Writer) : Type 0 where
  pub same_buffer : now.buf.ghost_name ≡ before.buf.ghost_name
  pub onward : Onward before.at text before.buf.now now.at rest now.buf.now

pub still : (text : List ℕ) (w : Writer) → Still text w text w
still text w = record { same_buffer = refl; onward = whole }

pub still_on : {text rest a b : List ℕ} {before now after : Writer} → Still text before rest now → Writes a now after → rest ≡ a ++ b → Still text before b after
still_on s w e = record { same_buffer = w.same_buffer ∙ s.same_buffer; onward = onward s.onward w.wrote e }

pub writes : {text rest : List ℕ} {before after : Writer} → Still text before rest after → rest ≡ [] → Writes text before after
writes s e = record { same_buffer = s.same_buffer; wrote = written_rest s.onward e }

pub in_row : {a b : List ℕ} {x y z : Writer} → Writes a x y → Writes b y z → Writes (a ++ b) x z
in_row f g = record { same_buffer = g.same_buffer ∙ f.same_buffer; wrote = row f.wrote g.wrote }

pub writes_as : {a b : List ℕ} {x y : Writer} → Writes a x y → a ≡ b → Writes b x y
writes_as w e = record { same_buffer = w.same_buffer; wrote = wrote_as w.wrote e }
