-- "the latest that will do", said as such: of any set of calls, a poll's waking moment by `Wakes` is it, and no other is.
-- Assumes nothing.
use Prim.Native.Nat.{ℕ, ◌+◌, ◌≤◌, ◌<◌}
use mathlib.Core.Path.{◌≡◌, sym, ap, ◌∙◌}
use mathlib.Core.List.{List, [], ◌∷◌}
use native.Mathlib.Omega.{arith}
use native.Mathlib.Decide.{dec_le}
use native.Mathlib.Nat.{lt_of_not-le}
use lib.ListN.{length, replicate, length-replicate}
use Rattle.clock.specs.Clocks.{day}
use Rattle.settings.specs.declared.settings.Settings.{Settings}
use Rattle.run.specs.Calls.{Post, Calls}
use Rattle.run.specs.Demand3.{Entry, IfPolls, adds, came_to, after, total, OnlyPolls, Quiet, Wakes}
use Rattle.run.proofs.Answers.{length_of}
use Rattle.run.proofs.Sample.{poll_into}

-- p is what the poll left.
module _ (k : Calls) (s : Settings) (p : Post) where
  -- To wake d later will do: no poll before then changes or builds anything, and it is within 24 hours.
  pub record WillDo (d : ℕ) : Type 0 where
    pub within : d ≤ day
    pub before : (es : List Entry) → OnlyPolls k s p es → (e : Entry) → total k s p es + adds k s (after k s p es) e < d
        → IfPolls (Quiet (after k s p es)) (came_to k s (after k s p es) e)

  pub record Latest (d : ℕ) : Type 0 where
    pub will_do : WillDo d
    pub latest : (other : ℕ) → WillDo other → other ≤ d

  zeros_length : (n : ℕ) → length (replicate {A = ℕ} n 0) ≡ n
  zeros_length n = length-replicate n 0

  -- were a later one to do, the poll at d would build nothing; but it builds a message
  none_later : (d other : ℕ) → Wakes k s p d → WillDo other → d < other → ⊥
  none_later d other wakes will_do later =
      let owed = wakes.at (λ same. omega (arith, will_do.within)) in
      let there = poll_into (0 ∷ replicate owed.n 0) d in
      let built = owed.builds [] tt tt there (omega arith) (omega (arith, zeros_length owed.n)) in
      let quiet = will_do.before [] tt there (omega arith) in
      let none : 0 ≡ owed.n = sym quiet.length ∙ sym (ap length_of quiet.answered) ∙ ap length_of built.answered ∙ built.length in
      omega (arith, owed.some)

  pub wakes_latest : (d : ℕ) → Wakes k s p d → Latest d
  wakes_latest d wakes = record { will_do = record { within = wakes.within; before = wakes.before }; latest = λ other will_do. by other will_do (dec_le other d) }
    where
      by : (other : ℕ) → WillDo other → Dec (other ≤ d) → other ≤ d
      by other will_do (yes h) = h
      by other will_do (no h) = absurd (none_later d other wakes will_do (lt_of_not-le h))

  pub wakes_unique : (d e : ℕ) → Wakes k s p d → Wakes k s p e → d ≡ e
  wakes_unique d e v w =
      let l = (wakes_latest d v).latest e (wakes_latest e w).will_do in
      let m = (wakes_latest e w).latest d (wakes_latest d v).will_do in
      omega arith
