-- Settings whose counts are within their limits, and those that nothing refuses: what measuring a message says. Assumes nothing.
use Rattle.std.proofs.Common.{◌≡◌, refl, sym, ap, ◌∙◌, ℕ, ◌-◌, ◌≤◌, Bool, true, false, not, List, [], ◌∷◌, length, take, length-take, ltb, arith, Option, None, Some, Result, Ok, Err}
use Rattle.std.specs.Bool.{then_some}
use Rattle.std.specs.Option.{option_map_or}
use borrow.Author.Tests.{leb-true, ltb-false, le-leb, le-ltb, not-false}
use Rattle.choice.specs.Choice.{when◌then◌else◌}
use Rattle.choice.proofs.Choices.{if_false, if_cases}
use Rattle.clock.specs.Durations as durations
use Rattle.octets.specs.Items.{whole_items}
use Rattle.octets.specs.Codes.{mask_code, router_code, dns_code}
use Rattle.message.specs.Messages.{message}
use Rattle.message.specs.Written.{name_limit, extra_limit, measured, list_fits}
use Rattle.message.specs.declared.message.Message.{Message}
use Rattle.reasons.specs.declared.refusal.Refusal.{Refusal}
use Rattle.reasons.specs.declared.refusal.Refusal.TheVariants.{ExtraOptions}
use Rattle.settings.specs.Settings.{name_of, list_of, extra_of, longest, longest_length, over_cap, is_ethernet, listed_len, maximum_of, size_refusal, lists_refusal, refusal_of}
use Rattle.settings.specs.declared.settings.Settings.{Settings}

-- the request list is within its limit where its count is
take_within : (n most : ℕ) (xs : List ℕ) → n ≤ most → length (take n xs) ≤ most
take_within n most xs h = simp length-take (omega arith)

listed_fits : (listed : Bool) (n : ℕ) (xs : List ℕ) → list_fits (then_some listed n) ≡ true
    → list_fits (Some (length (when listed then take n xs else (mask_code ∷ router_code ∷ dns_code ∷ [])))) ≡ true
unfolding list_fits when◌then◌else◌
listed_fits true n xs h = le-leb _ _ (take_within n 64 xs (leb-true n 64 h))
listed_fits false n xs h = refl

list_within : (s : Settings) → list_fits (listed_len s) ≡ true → list_fits (Some (length (list_of s))) ≡ true
unfolding list_of
list_within s h = listed_fits s.listed s.list_len s.list h

-- Counts within their limits.
pub record Counted (s : Settings) : Type 0 where
  pub mtu : 576 ≤ s.mtu
  pub name : s.name_len ≤ name_limit
  pub list : list_fits (listed_len s) ≡ true
  pub extra : s.extra_len ≤ extra_limit

module _ (s : Settings) (k : Counted s) where
  -- a message is then refused for extra options that are not whole alone
  pub measuring : (m : Message) → (when not (whole_items (extra_of s)) then Err ExtraOptions else Ok (length (message m (name_of s) (Some (list_of s)) (extra_of s)))) ≡ measured m (name_of s) (Some (list_of s)) (extra_of s)
  unfolding measured
  measuring m =
      if_false _ (le-ltb _ _ (take_within s.name_len 63 s.name k.name))
      (if_false _ (ap not (list_within s k.list))
      (if_false _ (le-ltb _ _ (take_within s.extra_len 255 s.extra k.extra)) refl))

-- what is left to test of settings that 1 and 2 don't refuse, and of those within their limits
pub past_mtu : (s : Settings) → is_ethernet s.medium ≡ true → 576 ≤ s.mtu → s.mtu ≤ 1500 → refusal_of s ≡ lists_refusal s
unfolding refusal_of
past_mtu s e l m = sym (if_false _ (ap not e) (if_false _ (le-ltb _ _ l) (if_false _ (le-ltb _ _ m) refl)))

pub past_counts : (s : Settings) → Counted s → lists_refusal s ≡ size_refusal s
unfolding lists_refusal
past_counts s k = sym (if_false _ (le-ltb _ _ k.name) (if_false _ (ap not k.list) (if_false _ (le-ltb _ _ k.extra) refl)))

-- and of those whose longest message is measured
by_error : (b : Bool) (n : ℕ) {r : Refusal} (rest : Option Refusal) → ◌≡◌ {A = Result ℕ Refusal} (when b then Err ExtraOptions else Ok n) (Err r) → Some r ≡ when b then Some ExtraOptions else rest
unfolding when◌then◌else◌
by_error true n rest e = cc
by_error false n rest e = cc

by_length : (b : Bool) {m n : ℕ} → ◌≡◌ {A = Result ℕ Refusal} (when b then Err ExtraOptions else Ok m) (Ok n) → (b ≡ false) × (n ≡ m)
unfolding when◌then◌else◌
by_length true e = cc
by_length false e = (refl, cc)

pub not_whole : (s : Settings) → Counted s → {r : Refusal} → measured (longest s) (name_of s) (Some (list_of s)) (extra_of s) ≡ Err r → Some r ≡ size_refusal s
unfolding size_refusal
not_whole s k e = by_error (not (whole_items (extra_of s))) _ _ (measuring s k (longest s) ∙ e)

pub whole : (s : Settings) → Counted s → {n : ℕ} → measured (longest s) (name_of s) (Some (list_of s)) (extra_of s) ≡ Ok n
    → (not (whole_items (extra_of s)) ≡ false) × (n ≡ longest_length s)
whole s k e = by_length (not (whole_items (extra_of s))) (measuring s k (longest s) ∙ e)

pub over_cap_by : (s : Settings) → over_cap s ≡ option_map_or (λ most. ltb durations.longest most.millis) (maximum_of s) false
unfolding over_cap maximum_of when◌then◌else◌
over_cap_by s = by_flag s.capped
  where
    by_flag : (b : Bool) → when b then ltb durations.longest s.maximum.millis else false ≡ option_map_or (λ most. ltb durations.longest most.millis) (when b then Some s.maximum else None) false
    by_flag true = refl
    by_flag false = refl

-- Settings that nothing refuses: counts within their limits, extra options whole, room for the longest message.
pub record Unrefused (s : Settings) : Type 0 where
  pub counted : Counted s
  pub items : not (whole_items (extra_of s)) ≡ false
  pub room : longest_length s ≤ s.mtu - 28

refuted : {X : Type 0} (r : Refusal) → Some r ≡ None → X
refuted r e = cc

pub unrefused : (s : Settings) → refusal_of s ≡ None → Unrefused s
unfolding refusal_of lists_refusal size_refusal
unrefused s =
    if_cases Free (not (is_ethernet s.medium)) (λ a. refuted _)
    (λ a. if_cases Free (ltb s.mtu 576) (λ b. refuted _)
    (λ b. if_cases Free (ltb 1500 s.mtu) (λ c. refuted _)
    (λ c. if_cases Free (ltb name_limit s.name_len) (λ d. refuted _)
    (λ d. if_cases Free (not (list_fits (listed_len s))) (λ f. refuted _)
    (λ f. if_cases Free (ltb extra_limit s.extra_len) (λ g. refuted _)
    (λ g. if_cases Free (not (whole_items (extra_of s))) (λ h. refuted _)
    (λ h. if_cases Free (over_cap s) (λ i. refuted _)
    (λ i. if_cases Free (ltb (s.mtu - 28) (longest_length s)) (λ j. refuted _)
    (λ j e. record {
      counted = record { mtu = ltb-false _ _ b; name = ltb-false _ _ d; list = not-false _ f; extra = ltb-false _ _ g };
      items = h;
      room = ltb-false _ _ j;
    })))))))))
  where
    Free : Option Refusal → Type 0
    Free m = m ≡ None → Unrefused s
