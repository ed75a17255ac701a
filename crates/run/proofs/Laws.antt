-- Laws of a run, of any set of calls: what creation returned is where it starts, whatever the moment; a long step is several
-- short ones, and only its rest of 2^32 counts for the moment. Assumes nothing.
use Rattle.std.proofs.Common.{Ok}
use Prim.Native.Nat.{ℕ, ◌+◌, ◌^◌, ◌<◌}
use mathlib.Core.Path.{◌≡◌, refl, ap, ◌∙◌}
use mathlib.Core.Bool.{Bool}
use native.Mathlib.Omega.{arith}
use native.Mathlib.Nat.{add_assoc}
use Rattle.clock.specs.Moments.{wrap, plus, moment}
use Rattle.clock.specs.declared.instant.Instant.{Instant}
use Rattle.clock.specs.declared.rand.Rand.{Rand}
use Rattle.tables.specs.declared.tables.Tables.{Tables}
use Rattle.client.specs.declared.client.Client.{Client}
use Rattle.settings.specs.declared.settings.Settings.{Settings}
use Rattle.run.specs.Calls.{Post, Calls, Call, LookUp, Query}
use Rattle.run.specs.Demand3.{CameTo, Polls, Does, Answers, leaves, tells, comes, stepped, History, NoAck, Held, older, noted_all, lost_all, Run, start, next}

-- THE START: a client that creation returned, with tables, generator and a moment of the clock.
pub created_start : (k : Calls) (s : Settings) (ignoring : Bool) (c : Client) → k.create s ignoring ≡ Ok c → (t : Tables) (rand : Rand) (now : Instant) → now.millis < 2 ^ 32
    → record { client = c; tables = t; rand = rand; now = now } ≡ (start c t rand now.millis).post
created_start k s ignoring c made t rand now h =
    ap (λ (m : ℕ). record { client = c; tables = t; rand = rand; now = moment m }) (same now.millis h)
  where
    same : (m : ℕ) → m < 2 ^ 32 → m ≡ wrap m
    same m l = omega arith

-- STEPS
later_again : (m a b : ℕ) → plus (plus m a) b ≡ plus m (a + b)
later_again m a b = omega arith

at_wrap : (m a : ℕ) → plus m (wrap a) ≡ plus m a
at_wrap m a = omega arith

module _ (k : Calls) (s : Settings) (p : Post) where
  -- what a call leaves that is made at m
  abbrev at : Call → ℕ → Post
  at call m = leaves p (moment m) (comes k s p.client p.tables p.rand (moment m) call)

  pub wrap_step : (a : ℕ) (call : Call) → stepped k s p (record { step = wrap a; call = call }) ≡ stepped k s p (record { step = a; call = call })
  wrap_step a call = ap (at call) (at_wrap p.now.millis a)

  leaves_again : (before now : Instant) (x : CameTo) → leaves (leaves p before Answers) now x ≡ leaves p now x
  leaves_again before now (Polls b left) = refl
  leaves_again before now (Does d left) = refl
  leaves_again before now Answers = refl

  told_again : (a b : ℕ) (call : Call) → tells (comes k s p.client p.tables p.rand (moment (plus (plus p.now.millis a) b)) call)
      ≡ tells (comes k s p.client p.tables p.rand (moment (plus p.now.millis (a + b))) call)
  told_again a b call =
      ap (λ (m : ℕ). tells (comes k s p.client p.tables p.rand (moment m) call)) (later_again p.now.millis a b)

  stepped_again : (a b : ℕ) (q : Query) (call : Call)
      → stepped k s (stepped k s p (record { step = a; call = LookUp q })) (record { step = b; call = call }) ≡ stepped k s p (record { step = a + b; call = call })
  stepped_again a b q call =
      let before = plus p.now.millis a in
      leaves_again (moment before) (moment (plus before b)) (comes k s p.client p.tables p.rand (moment (plus before b)) call)
      ∙ ap (at call) (later_again p.now.millis a b)

older_again : (a b : ℕ) (h : History) → older b (older a h) ≡ older (a + b) h
older_again a b NoAck = refl
older_again a b (Held lease age given) = ap (λ (n : ℕ). Held lease n given) (add_assoc age a b)

-- A look-up, and then the rest of the step: the same run.
pub split_step : (k : Calls) (s : Settings) (r : Run) (a b : ℕ) (q : Query) (call : Call)
    → next k s (next k s r (record { step = a; call = LookUp q })) (record { step = b; call = call }) ≡ next k s r (record { step = a + b; call = call })
split_step k s r a b q call = λ i. record {
  post = stepped_again k s r.post a b q call i;
  history = noted_all (told_again k s r.post a b call i) (older_again a b r.history i);
  lost = lost_all r.post.tables (told_again k s r.post a b call i) (older_again a b r.history i) r.lost;
}
