-- Laws of the store. Assumes nothing.
use Prim.Native.Nat.{ℕ, zero, suc, ◌+◌, ◌-◌, ◌≤◌, ◌<◌}
use mathlib.Core.Bool.{true, false}
use mathlib.Core.Path.{◌≡◌, refl, sym, ap, subst, ◌∙◌}
use mathlib.Core.List.{List, [], ◌∷◌, ◌++◌}
use native.Mathlib.Omega.{arith}
use native.Mathlib.Decide.{dec_le}
use lib.Seq.{take-append-add, length-take-le}
use native.Mathlib.Nat.{add-zero}
use lib.ListN.{length, get_or, take, drop, length-append, length-take, length-drop, take-append-drop}
use borrow.Author.Tests.{le-leb, lt-leb, eq-eqb, ne_eqb}
use Rattle.choice.specs.Choice.{when◌then◌else◌}
use Rattle.octets.specs.Runs.{over, placed, placed_length}
use Rattle.octets.specs.Items.{option, option_bytes, whole_from, whole_items}
use Rattle.octets.proofs.Runs.{placed_whole, placed_not, placed_none, over_front, over_length}
use Rattle.octets.proofs.Items.{bytes_of, bytes_long, items_append, items_option}
use Rattle.wire.specs.Options.{DhcpOption, options_of}
use Rattle.wire.specs.Stored.{pushed, all_pushed, place_from, with_option, used, whole_store, empty_store, store_of}
use Rattle.wire.specs.declared.store.Store.{Store}
use Rattle.std.proofs.Common.{Some, None}

-- an option that does not fit, and one that does
push_passed : (store : Store) (kind : ℕ) (body : List ℕ) → 256 < store.len + (2 + length body) → store ≡ pushed store kind body
unfolding pushed when◌then◌else◌
push_passed store kind body h =
    let e : 256 < store.len + length (option kind body) = omega arith in
    simp (lt-leb _ _ e)

push_kept : (store : Store) (kind : ℕ) (body : List ℕ) → store.len + (2 + length body) ≤ 256 → with_option store kind body ≡ pushed store kind body
unfolding pushed when◌then◌else◌
push_kept store kind body h =
    let e : store.len + length (option kind body) ≤ 256 = omega arith in
    simp (le-leb _ _ e)

-- what a writer that is lent the store's octets leaves
push_written : (store : Store) (kind : ℕ) (body : List ℕ) (r : ℕ) (ys : List ℕ) → length store.bytes ≡ 256 → store.len + (2 + length body) ≤ 256
    → r ≡ placed_length (option_bytes kind body) (drop store.len store.bytes)
    → ys ≡ take store.len store.bytes ++ placed (option_bytes kind body) (drop store.len store.bytes)
    → (r ≡ 2 + length body) × (◌≡◌ {A = Store} (record { bytes = ys; len = store.len + r }) (pushed store kind body))
push_written store kind body r ys size h er ey =
    let room : length (option kind body) ≤ length (drop store.len store.bytes) = simp length-drop (omega arith) in
    let p = placed_whole (option kind body) (drop store.len store.bytes) room in
    let b = bytes_of kind body (omega arith) in
    let n : r ≡ length (option kind body) = er ∙ rw b p.0 in
    let l : ys ≡ used store ++ over (option kind body) (drop store.len store.bytes) = ey ∙ ap (λ (x : List ℕ). used store ++ x) (rw b p.1) in
    (omega arith, (λ k. record { bytes = l k; len = store.len + n k }) ∙ push_kept store kind body h)

with_size : (store : Store) (kind : ℕ) (body : List ℕ) → length store.bytes ≡ 256 → store.len + (2 + length body) ≤ 256 → length (with_option store kind body).bytes ≡ 256
with_size store kind body size h = simp (length-append, length-take, over_length (option kind body) (drop store.len store.bytes) room, length-drop) (omega (arith, size))
  where
    room : length (option kind body) ≤ length (drop store.len store.bytes)
    room = simp length-drop (omega (arith, size))

-- the same of an option that may not fit, which leaves the octets as they were
pub record Put (store : Store) (kind : ℕ) (body : List ℕ) (r : ℕ) (ys : List ℕ) : Type 0 where
  pub within : r ≤ 256 - store.len
  pub kept : ◌≡◌ {A = Store} (record { bytes = ys; len = store.len + r }) (pushed store kind body)

not_put : (store : Store) (kind : ℕ) (body : List ℕ) (r : ℕ) (ys : List ℕ) → 256 < store.len + (2 + length body) → r ≡ 0 → ys ≡ store.bytes → Put store kind body r ys
not_put store kind body r ys over er ey =
    let n : store.len + r ≡ store.len = omega arith in
    record { within = omega arith; kept = (λ k. record { bytes = ey k; len = n k }) ∙ push_passed store kind body over }

pub put_in : (store : Store) (kind : ℕ) (body : List ℕ) (r : ℕ) (ys : List ℕ) → length store.bytes ≡ 256
    → r ≡ placed_length (option_bytes kind body) (drop store.len store.bytes)
    → ys ≡ take store.len store.bytes ++ placed (option_bytes kind body) (drop store.len store.bytes)
    → Put store kind body r ys
put_in store kind body r ys size er ey = elim (dec_le (store.len + (2 + length body)) 256) [
  | yes f ↦
      let w = push_written store kind body r ys size f er ey in
      record { within = omega (arith, w.0); kept = w.1 }
  | no f ↦ elim (dec_le (length body) 255) [
    | yes g ↦
        let b = bytes_of kind body g in
        let p = placed_not (option kind body) (drop store.len store.bytes) (simp length-drop (omega arith)) in
        not_put store kind body r ys (omega arith) (er ∙ rw b p.0) (ey ∙ ap (λ (x : List ℕ). take store.len store.bytes ++ x) (rw b p.1) ∙ take-append-drop store.len store.bytes)
    | no g ↦
        let b = bytes_long kind body (omega arith) in
        let p = placed_none (drop store.len store.bytes) in
        not_put store kind body r ys (omega arith) (er ∙ rw b p.0) (ey ∙ ap (λ (x : List ℕ). take store.len store.bytes ++ x) (rw b p.1) ∙ take-append-drop store.len store.bytes)
  ]
]

-- octets of the item before are passed over
skip : (kind at k : ℕ) (xs : List ℕ) → place_from kind at k xs ≡ place_from kind (at + k) 0 (drop k xs)
unfolding place_from
skip kind at zero xs = rw (add-zero at)
skip kind at (suc k) [] = refl
skip kind at (suc k) (x ∷ xs) =
    let e : at + 1 + k ≡ at + suc k = omega arith in
    skip kind (at + 1) k xs ∙ rw e

past : (kind at k : ℕ) (xs : List ℕ) → length xs ≤ k → place_from kind at k xs ≡ None
unfolding place_from
past kind at k [] h = refl
past kind at zero (x ∷ xs) h = absurd (omega arith)
past kind at (suc k) (x ∷ xs) h = past kind (at + 1) k xs (omega arith)

pub place_none : (kind at : ℕ) (l : List ℕ) → length l < 2 → place_from kind at 0 l ≡ None
unfolding place_from
place_none kind at [] h = refl
place_none kind at (x ∷ []) h = refl
place_none kind at (x ∷ y ∷ l) h = absurd (omega arith)

pub place_here : (kind at : ℕ) (l : List ℕ) → 2 ≤ length l → get_or l 0 0 ≡ kind → place_from kind at 0 l ≡ Some (record { start = at + 2; len = get_or l 1 0 })
unfolding place_from when◌then◌else◌
place_here kind at [] h e = absurd (omega arith)
place_here kind at (x ∷ []) h e = absurd (omega arith)
place_here kind at (x ∷ n ∷ l) h e = simp (eq-eqb x kind e)

pub place_later : (kind at : ℕ) (l : List ℕ) → 2 ≤ length l → (get_or l 0 0 ≡ kind → ⊥)
    → place_from kind at 0 l ≡ place_from kind (at + 2 + get_or l 1 0) 0 (drop (get_or l 1 0) (drop 2 l))
unfolding place_from when◌then◌else◌
place_later kind at [] h e = absurd (omega arith)
place_later kind at (x ∷ []) h e = absurd (omega arith)
place_later kind at (x ∷ n ∷ l) h e = simp (ne_eqb x kind e) (skip kind (at + 2) n l)

pub place_cut : (kind at : ℕ) (l : List ℕ) → 2 ≤ length l → (get_or l 0 0 ≡ kind → ⊥) → length l < 2 + get_or l 1 0 → place_from kind at 0 l ≡ None
unfolding place_from when◌then◌else◌
place_cut kind at [] h e c = absurd (omega arith)
place_cut kind at (x ∷ []) h e c = absurd (omega arith)
place_cut kind at (x ∷ n ∷ l) h e c = simp (ne_eqb x kind e) (past kind (at + 2) n l (omega arith))

-- wholeness by the length in use
pub whole_over : (store : Store) → 256 < store.len → whole_store store ≡ false
unfolding whole_store when◌then◌else◌
whole_over store h = simp (lt-leb _ _ h)

pub whole_within : (store : Store) → store.len ≤ 256 → whole_store store ≡ whole_items (used store)
unfolding whole_store when◌then◌else◌
whole_within store h = simp (le-leb _ _ h)

-- a store as the calls leave it: 256 octets, whole items in use
pub record Sound (store : Store) : Type 0 where
  pub size : length store.bytes ≡ 256
  pub whole : whole_store store ≡ true

used_with : (store : Store) (kind : ℕ) (body : List ℕ) → store.len ≤ length store.bytes → used (with_option store kind body) ≡ used store ++ option kind body
unfolding over
used_with store kind body h =
    let n : store.len ≡ length (used store) = sym (length-take-le store.len store.bytes h) in
    ap (λ (i : ℕ). take (i + length (option kind body)) (with_option store kind body).bytes) n ∙ take-append-add (used store) (over (option kind body) (drop store.len store.bytes)) (length (option kind body))
    ∙ ap (λ (l : List ℕ). used store ++ l) (over_front (option kind body) (drop store.len store.bytes))

with_sound : (store : Store) (kind : ℕ) (body : List ℕ) → Sound store → store.len + (2 + length body) ≤ 256 → Sound (with_option store kind body)
with_sound store kind body s h = record {
  size = with_size store kind body s.size h;
  whole = whole_within (with_option store kind body) (omega arith) ∙ ap whole_items (used_with store kind body (omega (arith, s.size)))
      ∙ items_append (used store) (option kind body) (sym (whole_within store (omega arith)) ∙ s.whole) ∙ items_option kind body;
}

-- a push keeps a store sound, and so what a reply leaves in it is whole
pub push_sound : (store : Store) (kind : ℕ) (body : List ℕ) → Sound store → Sound (pushed store kind body)
push_sound store kind body s = elim (dec_le (store.len + (2 + length body)) 256) [
  | yes h ↦ subst Sound (push_kept store kind body h) (with_sound store kind body s h)
  | no h ↦ subst Sound (push_passed store kind body (omega arith)) s
]

all_sound : (store : Store) (os : List DhcpOption) → Sound store → Sound (all_pushed store os)
unfolding all_pushed
all_sound store [] s = s
all_sound store (o ∷ os) s = all_sound (pushed store o.code o.body) os (push_sound store o.code o.body s)

empty_sound : Sound empty_store
unfolding whole_store when◌then◌else◌ whole_from
empty_sound = record { size = refl; whole = refl }

pub store_sound : (reply : List ℕ) → Sound (store_of reply)
store_sound reply = all_sound empty_store (options_of reply) empty_sound
