-- Laws of lines. Assumes nothing.
use Rattle.std.proofs.Common.{◌≡◌, ◌≢◌, subst, ℕ, suc, ◌+◌, ◌≤◌, ◌<◌, Bool, true, false, List, [], ◌∷◌, length, take, drop, min, eqb, eqb-true, refl, sym, ap, ◌∙◌, arith}
use Rattle.std.specs.Cmp.Lexicographic.{pointwise}
use Rattle.std.specs.List.{slice_range}
use Rattle.std.specs.Prelude.{if◌then◌else◌, ◌&&◌}
use lib.ListN.{drop_of_length-le}
use borrow.Author.Tests.{eq-eqb, ne_eqb, eqb-false}
use Rattle.std.proofs.lemmas.Bool.Decides.{nat_tests}
use Rattle.octets.proofs.Runs.{part_tail}
use Rattle.trace.specs.Lines.{line_length, line_at, after_line, lines_of, begins_with, starts_with}

-- a line by its first character
pub line_hit : (c : ℕ) (t : List ℕ) → c ≡ 10 → line_length (c ∷ t) ≡ 0
unfolding line_length
line_hit c t e = simp (eq-eqb c 10 e)

pub line_miss : (c : ℕ) (t : List ℕ) → c ≢ 10 → line_length (c ∷ t) ≡ line_length t + 1
unfolding line_length
line_miss c t n = simp (ne_eqb c 10 n) (omega arith)

pub line_none : line_length [] ≡ 0
unfolding line_length
line_none = refl

-- a line is within its text
pub line_inside : (t : List ℕ) → line_length t ≤ length t
unfolding line_length
line_inside [] = omega arith
line_inside (c ∷ t) = by (eqb c 10) (line_inside t)
  where
    by : (b : Bool) → line_length t ≤ length t → (if b then 0 else suc (line_length t)) ≤ suc (length t)
    by true h = omega arith
    by false h = omega arith

-- `&t[at..]`
pub rest_range : (at : ℕ) (t r : List ℕ) → r ≡ slice_range t at (length t) → r ≡ drop at t
rest_range at t r e = e ∙ part_tail at t

-- the first line of a text with an octet in it, and those behind it
parts : (t : List ℕ) (k m : ℕ) → line_length t ≡ k → min (line_length t + 1) (length t) ≡ m → line_at 0 t ∷ lines_of (drop (after_line 0 t) t) ≡ take k t ∷ lines_of (drop m t)
unfolding line_at
parts t k m e f = subst (λ l. line_at 0 t ∷ lines_of (drop (after_line 0 t) t) ≡ take l t ∷ lines_of (drop m t)) e (ap (λ l. take (line_length t) t ∷ lines_of (drop l t)) (first_end ∙ f))
  where
    first_end : after_line 0 t ≡ min (line_length t + 1) (length t)
    first_end = omega arith

pub lines_none : (t : List ℕ) → length t ≡ 0 → lines_of t ≡ []
unfolding lines_of
lines_none [] h = refl
lines_none (c ∷ t) h = absurd (omega arith)

pub lines_step : (t : List ℕ) → 0 < length t → lines_of t ≡ line_at 0 t ∷ lines_of (drop (after_line 0 t) t)
unfolding lines_of
lines_step [] h = absurd (omega arith)
lines_step (c ∷ []) h = by (eqb c 10) refl
  where
    by : (b : Bool) → eqb c 10 ≡ b → lines_of (c ∷ []) ≡ line_at 0 (c ∷ []) ∷ lines_of (drop (after_line 0 (c ∷ [])) (c ∷ []))
    by true e = let k = line_hit c [] (eqb-true c 10 e) in rw e (sym (parts (c ∷ []) 0 1 k (omega (arith, k))))
    by false e = let k = line_miss c [] (eqb-false c 10 e) ∙ ap (λ n. n + 1) line_none in rw e (sym (parts (c ∷ []) 1 1 k (omega (arith, k))))
lines_step (c ∷ d ∷ t) h = by (eqb c 10) refl (lines_step (d ∷ t) (omega arith) ∙ parts (d ∷ t) (line_length (d ∷ t)) (min (line_length (d ∷ t) + 1) (length (d ∷ t))) refl refl)
  where
    by : (b : Bool) → eqb c 10 ≡ b → lines_of (d ∷ t) ≡ take (line_length (d ∷ t)) (d ∷ t) ∷ lines_of (drop (min (line_length (d ∷ t) + 1) (length (d ∷ t))) (d ∷ t)) → lines_of (c ∷ d ∷ t) ≡ line_at 0 (c ∷ d ∷ t) ∷ lines_of (drop (after_line 0 (c ∷ d ∷ t)) (c ∷ d ∷ t))
    by true e i = let k = line_hit c (d ∷ t) (eqb-true c 10 e) in rw e (sym (parts (c ∷ d ∷ t) 0 1 k (omega (arith, k))))
    by false e i = let k = line_miss c (d ∷ t) (eqb-false c 10 e) in rw e (rw i (sym (parts (c ∷ d ∷ t) (suc (line_length (d ∷ t))) (suc (min (line_length (d ∷ t) + 1) (length (d ∷ t)))) (k ∙ omega arith) (omega (arith, k)))))

-- a start, as std has it
pub begins_lem : (start line : List ℕ) → pointwise eqb start (take (length start) line) ≡ begins_with start line
unfolding begins_with
begins_lem [] line = refl
begins_lem (s ∷ start) [] = refl
begins_lem (s ∷ start) (c ∷ line) = by (eqb s c) (begins_lem start line)
  where
    by : (b : Bool) → pointwise eqb start (take (length start) line) ≡ begins_with start line → b && pointwise eqb start (take (length start) line) ≡ (if b then begins_with start line else false)
    by true h = h
    by false h = refl

pub starts_lem : (s : ℕ) (t : List ℕ) → pointwise eqb (s ∷ []) (take 1 t) ≡ starts_with s t
unfolding starts_with
starts_lem s [] = refl
starts_lem s (c ∷ t) = grind (arith, nat_tests)

pub line_past : (at : ℕ) (t : List ℕ) → length t < at → line_at at t ≡ []
unfolding line_at line_length
line_past at t h = rw (drop_of_length-le t {i = at} (omega arith))
