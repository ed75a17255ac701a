-- Laws of the walk over the options of a reply. Assumes nothing.
use Rattle.std.proofs.Common.{Option, Some, None, option_map, unwrap_or, MatchOption, Bor, inl, inr, find, cond, nat_eq, ◌==◌}
use Prim.Native.Nat.{ℕ, zero, suc, ◌≤◌, ◌<◌}
use mathlib.Core.Bool.{Bool, true, false}
use mathlib.Core.Path.{◌≡◌, refl, sym, ap, ◌∙◌}
use mathlib.Core.List.{List, [], ◌∷◌, ◌++◌}
use native.Mathlib.Omega.{arith}
use lib.ListN.{length, get_or, take, drop, length-append, length-take, length-drop, drop_of_length-le}
use lib.Seq.{take-append_seam, drop-append_seam}
use lib.Dec.{eqb}
use lib.Pointwise.{pointwise}
use borrow.Author.Tests.{lt-ltb, le-ltb, eq-eqb, ne_eqb}
use Rattle.std.specs.List.{PartBy}
use Rattle.choice.specs.Choice.{when◌then◌else◌}
use Rattle.octets.proofs.Runs.{part_tail, same_lengths, same_pointwise}
use Rattle.octets.specs.Runs.{same_bytes}
use Rattle.octets.specs.Items.{option}
use Rattle.wire.specs.Options.{DhcpOption, Item, Pad, End, Whole, head_item, options_from, first_with}

-- octets of the option before are passed over
skip : (k : ℕ) (xs : List ℕ) → options_from k xs ≡ options_from 0 (drop k xs)
unfolding options_from
skip zero xs = refl
skip (suc k) [] = refl
skip (suc k) (x ∷ xs) = skip k xs

-- what the walk does at an item
abbrev after : List ℕ → Item → List DhcpOption
after xs Pad = options_from 0 xs
after xs End = []
after xs (Whole code size) = record { code = code; body = take size (drop 1 xs) } ∷ options_from (suc size) xs

step : (x : ℕ) (xs : List ℕ) (it : Item) → head_item (x ∷ xs) ≡ it → options_from 0 (x ∷ xs) ≡ after xs it
unfolding options_from
step x xs it e = by (head_item (x ∷ xs)) ∙ ap (after xs) e
  where
    by : (i : Item) → (elim i [ Pad ↦ options_from 0 xs | End ↦ [] | Whole code size ↦ record { code = code; body = take size (drop 1 xs) } ∷ options_from (suc size) xs ]) ≡ after xs i
    by Pad = refl
    by End = refl
    by (Whole code size) = refl

-- what the walk does where nothing is left, and at the first octet x of a field: padding, the end, an option cut short, a whole one
pub field_none : (l : List ℕ) → length l ≡ 0 → options_from 0 l ≡ []
unfolding options_from
field_none [] e = refl
field_none (x ∷ xs) e = absurd (omega arith)

pub field_pad : {l : List ℕ} {x : ℕ} {xs : List ℕ} → l ≡ x ∷ xs → x ≡ 0 → options_from 0 l ≡ options_from 0 xs
unfolding head_item when◌then◌else◌
field_pad {x = x} {xs = xs} l z = ap (options_from 0) l ∙ step x xs Pad (simp (eq-eqb x 0 z))

pub field_end : {l : List ℕ} {x : ℕ} {xs : List ℕ} → l ≡ x ∷ xs → x ≡ 255 → options_from 0 l ≡ []
unfolding head_item when◌then◌else◌
field_end {x = x} {xs = xs} l e =
    let n : x ≡ 0 → ⊥ = λ z. omega arith in
    ap (options_from 0) l ∙ step x xs End (simp (ne_eqb x 0 n, eq-eqb x 255 e))

pub field_cut : {l : List ℕ} {x : ℕ} {xs : List ℕ} → l ≡ x ∷ xs → (x ≡ 0 → ⊥) → length xs ≤ get_or xs 0 0 → options_from 0 l ≡ []
unfolding head_item when◌then◌else◌
field_cut {x = x} {xs = xs} l n h = ap (options_from 0) l ∙ step x xs End (simp (ne_eqb x 0 n, le-ltb _ _ h) (by (eqb x 255)))
  where
    by : (t : Bool) → when t then End else End ≡ End
    by true = refl
    by false = refl

pub field_whole : {l : List ℕ} {x n : ℕ} {xs ys body rest : List ℕ} → l ≡ x ∷ xs → xs ≡ n ∷ ys → (x ≡ 0 → ⊥) → (x ≡ 255 → ⊥) → n ≤ length ys
    → body ≡ take n ys → rest ≡ drop n ys → options_from 0 l ≡ record { code = x; body = body } ∷ options_from 0 rest
unfolding head_item when◌then◌else◌
field_whole {x = x} {n = n} {ys = ys} l xs z e h b r =
    let s : n < length (n ∷ ys) = omega arith in
    ap (options_from 0) (l ∙ ap (λ (t : List ℕ). x ∷ t) xs) ∙ step x (n ∷ ys) (Whole x n) (simp (ne_eqb x 0 z, ne_eqb x 255 e, lt-ltb n (length (n ∷ ys)) s))
    ∙ (λ i. record { code = x; body = sym b i } ∷ (skip (suc n) (n ∷ ys) ∙ ap (options_from 0) (sym r)) i)

-- the first option with a code, in std's words
first_step : (code : ℕ) (o : DhcpOption) (os : List DhcpOption) (t : Bool) → option_map (λ o. o.body) (find (λ o. o.code == code) os) ≡ first_with code os
    → option_map (λ o. o.body) (cond t (Some o) (find (λ o. o.code == code) os)) ≡ when t then Some o.body else first_with code os
unfolding when◌then◌else◌
first_step code o os true e = refl
first_step code o os false e = e

pub first_found : (code : ℕ) (os : List DhcpOption) → option_map (λ o. o.body) (find (λ o. o.code == code) os) ≡ first_with code os
unfolding first_with
first_found code [] = refl
first_found code (o ∷ os) = first_step code o os (eqb o.code code) (first_found code os)

-- what is left of a list from a place on, nothing where it ends before that
pub reply_tail : (s : List ℕ) (m : Option (Bor (List ℕ))) (none : Bor (List ℕ)) {r : Bor (List ℕ)} → PartBy (λ (x : Bor (List ℕ)). x.now) s 240 (length s) m → r ≡ unwrap_or m none → none.now ≡ []
    → r.now ≡ drop 240 s
reply_tail s None none p e n =
    let short : length s ≤ 240 = elim p.0 [ inl h ↦ omega arith | inr h ↦ omega arith ] in
    ap (λ (x : Bor (List ℕ)). x.now) e ∙ n ∙ sym (drop_of_length-le s short)
reply_tail s (Some x) none p e n = ap (λ (x : Bor (List ℕ)). x.now) e ∙ p.0.2 ∙ part_tail 240 s

-- whether six octets of a list at a place are these, no where it ends before that
pub six_at : (s hardware : List ℕ) (m : Option (Bor (List ℕ))) {r : Bool} → length hardware ≡ 6 → PartBy (λ (x : Bor (List ℕ)). x.now) s 28 34 m
    → MatchOption m (r ≡ false) (λ x. r ≡ pointwise nat_eq x.now hardware) → r ≡ same_bytes (take 6 (drop 28 s)) hardware
six_at s hardware None six p e =
    let ends : length s < 34 = elim p.0 [ inl h ↦ absurd (omega arith) | inr h ↦ h ] in
    let short : length (take 6 (drop 28 s)) ≡ length hardware → ⊥ = λ n. omega (arith, six, simp (length-take, length-drop) at n) in
    e ∙ sym (same_lengths (take 6 (drop 28 s)) hardware short)
six_at s hardware (Some x) six p e = e ∙ same_pointwise _ hardware ∙ ap (λ (l : List ℕ). same_bytes l hardware) p.0.2

-- a field that begins with an option as a writer leaves it
pub walk_option : (k : ℕ) (d r : List ℕ) → (k ≡ 0 → ⊥) → (k ≡ 255 → ⊥) → options_from 0 (option k d ++ r) ≡ record { code = k; body = d } ∷ options_from 0 r
walk_option k d r h g =
    field_whole refl refl h g (omega (arith, length-append d r)) (sym (take-append_seam d r)) (sym (drop-append_seam d r))
