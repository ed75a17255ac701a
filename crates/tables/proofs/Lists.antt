-- Those of a list that pass a test, one law over the type of its entries. Assumes nothing.
use Rattle.std.proofs.Common.{◌≡◌, ℕ, ◌+◌, ◌<◌, ◌≤◌, Bool, true, false, List, [], ◌∷◌, ◌++◌, length, get_or, take, sym, refl, ap, ◌∙◌, append-nil, arith, le-leb}
use Rattle.std.proofs.lemmas.List.Elements.{filter-append, filter_more}
use borrow.Author.Tests.{lt-leb}
use Rattle.choice.proofs.Choices.{if_true, if_false, if_cases}
use Rattle.tables.specs.Entries.{only, all, places, full, less_lost, entered}

module _ {A : Type 0} (test : A → Bool) where
  pub only_append : (xs ys : List A) → only test (xs ++ ys) ≡ only test xs ++ only test ys
  unfolding only
  only_append = filter-append test

  pub length_only : (xs : List A) → length (only test xs) ≤ length xs
  unfolding only
  length_only [] = omega arith
  length_only (x ∷ xs) = grind (arith, length_only xs)

  pub all_takes : (x : A) (xs : List A) → test x ≡ true → all test (x ∷ xs) ≡ all test xs
  unfolding all
  all_takes x xs h = simp h

  pub all_append : (xs ys : List A) → all test xs ≡ true → all test ys ≡ true → all test (xs ++ ys) ≡ true
  unfolding all
  all_append [] ys h k = k
  all_append (x ∷ xs) ys h k = grind (arith, all_append xs ys)

  -- one entry more of a list, that passes the test or does not
  module _ (xs : List A) (i : ℕ) (x : A) (h : i < length xs) (e : x ≡ get_or xs i x) where
    pub only_more_takes : test x ≡ true → only test (take i xs) ++ (x ∷ []) ≡ only test (take (i + 1) xs)
    unfolding only
    only_more_takes t = sym (filter_more test xs i x h ∙ simp (sym e, t))

    pub only_more_passes : test x ≡ false → only test (take i xs) ≡ only test (take (i + 1) xs)
    unfolding only
    only_more_passes t = sym (filter_more test xs i x h ∙ simp (sym e, t, append-nil))

-- a test that all pass
pub only_all : {A : Type 0} (xs : List A) → only (λ (x : A). true) xs ≡ xs
unfolding only
only_all [] = refl
only_all (x ∷ xs) = ap (λ l. x ∷ l) (only_all xs)

-- of those that pass a test, those that pass another
module _ {A : Type 0} (p q : A → Bool) where
  pub only_implied : ((x : A) → p x ≡ true → q x ≡ true) → (xs : List A) → only p (only q xs) ≡ only p xs
  unfolding only
  only_implied i [] = refl
  only_implied i (x ∷ xs) = grind (arith, i x, only_implied i xs)

  pub only_excluded : ((x : A) → q x ≡ true → p x ≡ false) → (xs : List A) → only p (only q xs) ≡ []
  unfolding only
  only_excluded i [] = refl
  only_excluded i (x ∷ xs) = grind (arith, i x, only_excluded i xs)

  pub all_only : (xs : List A) → all p xs ≡ true → all p (only q xs) ≡ true
  unfolding only all
  all_only [] h = h
  all_only (x ∷ xs) h = grind (arith, all_only xs)

pub only_under : {A : Type 0} (p q r : A → Bool) → ((x : A) → p x ≡ true → q x ≡ r x) → (xs : List A) → only p (only q xs) ≡ only r (only p xs)
unfolding only
only_under p q r i [] = refl
only_under p q r i (x ∷ xs) = grind (arith, i x, only_under p q r i xs)

-- what a table takes of new entries
module _ {A : Type 0} (others new : List A) where
  pub lost_if : full others ≡ true → less_lost others new ≡ []
  unfolding less_lost
  lost_if h = sym (if_true _ h refl)

  pub taken_if : full others ≡ false → less_lost others new ≡ new
  unfolding less_lost
  taken_if h = sym (if_false _ h refl)

  pub less_lost_lem : (P : List A → Type 0) → P [] → P new → P (less_lost others new)
  unfolding less_lost
  less_lost_lem P gone came = if_cases P (full others) (λ h. gone) (λ h. came)

  pub entered_full : places ≤ length others → entered others new ≡ others
  entered_full h = ap (λ l. others ++ l) (lost_if (le-leb _ _ h)) ∙ append-nil others

  pub entered_room : length others < places → entered others new ≡ others ++ new
  entered_room h = ap (λ l. others ++ l) (taken_if (lt-leb _ _ h))

pub entered_none : {A : Type 0} (xs : List A) → entered xs [] ≡ xs
entered_none xs = ap (λ l. xs ++ l) (less_lost_lem xs [] (λ l. l ≡ []) refl refl) ∙ append-nil xs
