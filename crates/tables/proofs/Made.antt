-- A table that was written anew. Assumes nothing.
use Rattle.std.proofs.Common.{◌≡◌, ◌+◌, ◌-◌, ◌<◌, ◌≤◌, suc, List, [], ◌∷◌, ◌++◌, length, set, replicate, sym, ap, ◌∙◌, append_assoc, arith, length-append}
use lib.Seq.{take-append_seam, set-append_seam}
use Rattle.tables.specs.Entries.{places, in_places, entered}
use Rattle.tables.specs.Table.{table, in_use}
use Rattle.tables.specs.declared.table.Table.{Table}
use Rattle.tables.proofs.Lists.{entered_full, entered_room}

module _ {A : Type 0} (z : A) where
  -- the entries in use are those it was written with
  pub in_use_table : (xs : List A) → in_use (table z xs) ≡ xs
  in_use_table xs = take-append_seam xs (replicate (places - length xs) z)

  -- one entry more, behind those that are there
  pub set_next : (x : A) (xs : List A) → length xs < places → set (in_places z xs) (length xs) x ≡ in_places z (xs ++ (x ∷ []))
  set_next x xs h =
      let e₁ : places - length xs ≡ suc (places - suc (length xs)) = omega arith in
      let e₂ : places - length (xs ++ (x ∷ [])) ≡ places - suc (length xs) = simp length-append (omega arith) in
      rw (e₁, e₂) (set-append_seam xs z (replicate (places - suc (length xs)) z) x ∙ sym (append_assoc xs (x ∷ []) (replicate (places - suc (length xs)) z)))

  pub with_full : (t : Table A) (xs : List A) (x : A) → t ≡ table z xs → places ≤ t.count → t ≡ table z (entered xs (x ∷ []))
  with_full t xs x e h =
      let l : t.count ≡ length xs = ap (λ (t : Table A). t.count) e in
      e ∙ ap (table z) (sym (entered_full xs (x ∷ []) (omega arith)))

  pub with_room : (t : Table A) (xs : List A) (x : A) → t ≡ table z xs → t.count < places
      → record { entries = set t.entries t.count x; count = t.count + 1 } ≡ table z (entered xs (x ∷ []))
  with_room t xs x e h =
      let l : t.count ≡ length xs = ap (λ (t : Table A). t.count) e in
      let room : entered xs (x ∷ []) ≡ xs ++ (x ∷ []) = entered_room xs (x ∷ []) (omega arith) in
      let rows : set t.entries t.count x ≡ in_places z (xs ++ (x ∷ [])) =
      ap (λ es. set es t.count x) (ap (λ (t : Table A). t.entries) e) ∙ ap (λ n. set (in_places z xs) n x) l ∙ set_next x xs (omega arith) in
      let count : t.count + 1 ≡ length (xs ++ (x ∷ [])) = simp length-append (omega arith) in
      rw room cc
