-- What is not taken changes nothing: a reply that is passed over, a call that is refused. Assumes nothing.
use Rattle.std.proofs.Common.{Result, Ok, Err}
use Prim.Native.Nat.{ℕ}
use mathlib.Core.Path.{◌≡◌, refl, sym, ap, ◌∙◌}
use mathlib.Core.Bool.{Bool, true, false, not, false≢true}
use mathlib.Core.List.{List}
use Rattle.choice.proofs.Choices.{if_cases}
use Rattle.clock.specs.declared.instant.Instant.{Instant}
use Rattle.tables.specs.declared.tables.Tables.{Tables}
use Rattle.client.specs.Clients.{whole_all}
use Rattle.client.specs.Resets.{was_reset}
use Rattle.judge.specs.Judged.{judged}
use Rattle.client.specs.Taken.{recipient_of, replied, processed}
use Rattle.client.specs.declared.client.Client.{Client}
use Rattle.judge.specs.declared.judge.Verdict.{Verdict}
use Rattle.judge.specs.declared.judge.Verdict.TheVariants.{Offer, Ack, Nak}
use Rattle.reasons.specs.declared.passed_over.PassedOver.{PassedOver}
use Rattle.client.specs.Outcomes.{WasReset}
use Rattle.client.specs.Outcomes.{Processed}
use Rattle.reasons.specs.declared.refusal.Refusal.{Refusal}
use Rattle.client.specs.declared.process.NotTaken.{NotTaken}
use Rattle.client.specs.declared.process.NotTaken.TheVariants.{Refused}

-- whether a reply was taken, and a reset made
abbrev pub was_taken : Result Bool NotTaken → Bool
was_taken (Ok purge) = true
was_taken (Err why) = false

abbrev pub was_made : Result Bool Refusal → Bool
was_made (Ok purge) = true
was_made (Err n) = false

module _ (c : Client) (t : Tables) where
  abbrev Kept : Processed → Type 0
  Kept p = was_taken p.outcome ≡ false → (p.client ≡ c) × (p.tables ≡ t)

  verdict_kept : (bytes : List ℕ) (moment : Instant) (v : Result Verdict PassedOver) → Kept (replied c t bytes moment v)
  unfolding replied
  verdict_kept bytes moment (Ok (Offer o)) e = absurd (false≢true (sym e))
  verdict_kept bytes moment (Ok (Ack a)) e = absurd (false≢true (sym e))
  verdict_kept bytes moment (Ok Nak) e = absurd (false≢true (sym e))
  verdict_kept bytes moment (Err reason) e = (refl, refl)

  pub untaken_kept : (source : ℕ) (bytes : List ℕ) (moment : Instant) → Kept (processed c t source bytes moment)
  unfolding processed
  untaken_kept source bytes moment = if_cases Kept (not (whole_all c t)) (λ h e. (refl, refl)) (λ h. verdict_kept bytes moment (judged (recipient_of c) source bytes))

  pub refused_kept : was_made (was_reset c t).outcome ≡ false → ((was_reset c t).client ≡ c) × ((was_reset c t).tables ≡ t)
  unfolding was_reset
  refused_kept =
      if_cases (λ (r : WasReset). was_made r.outcome ≡ false → (r.client ≡ c) × (r.tables ≡ t)) (not (whole_all c t))
      (λ h e. (refl, refl))
      (λ h e. absurd (false≢true (sym e)))

  -- Where client and tables are whole, no reply and no reset is refused.
  abbrev Unrefused : Processed → Type 0
  Unrefused p = (n : Refusal) → p.outcome ≡ Err (Refused n) → ⊥

  verdict_answered : (bytes : List ℕ) (moment : Instant) (v : Result Verdict PassedOver) → Unrefused (replied c t bytes moment v)
  unfolding replied
  verdict_answered bytes moment (Ok (Offer o)) n e = cc
  verdict_answered bytes moment (Ok (Ack a)) n e = cc
  verdict_answered bytes moment (Ok Nak) n e = cc
  verdict_answered bytes moment (Err m) n e = cc

  pub reply_answered : whole_all c t ≡ true → (source : ℕ) (bytes : List ℕ) (moment : Instant) → Unrefused (processed c t source bytes moment)
  unfolding processed
  reply_answered w source bytes moment =
      if_cases Unrefused (not (whole_all c t)) (λ h n e. false≢true (sym (ap not w) ∙ h)) (λ h. verdict_answered bytes moment (judged (recipient_of c) source bytes))

  pub reset_made : whole_all c t ≡ true → was_made (was_reset c t).outcome ≡ true
  unfolding was_reset
  reset_made w =
      if_cases (λ (r : WasReset). was_made r.outcome ≡ true) (not (whole_all c t)) (λ h. absurd (false≢true (sym (ap not w) ∙ h))) (λ h. refl)
