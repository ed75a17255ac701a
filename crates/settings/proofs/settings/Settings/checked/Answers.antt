use Rattle.std.proofs.Common.{◌≡◌, ◌≤◌, ◌<◌, ◌-◌, refl, ap, sym, ◌∙◌, true, false, not, rules, arith, Some, Ok, Err}
use borrow.Author.Tests.{lt-ltb, le-ltb}
use Rattle.choice.proofs.Choices.{if_true, if_false, tests}
use Rattle.octets.specs.Items.{whole_items}
use Rattle.message.specs.Written.{list_fits, measured}
use Rattle.settings.specs.Settings.{is_ethernet, refusal_of, lists_refusal, size_refusal, over_cap, listed_len, longest, longest_length, name_of, list_of, extra_of}
use Rattle.settings.proofs.Refusals.{Counted, past_mtu, past_counts, not_whole, whole, over_cap_by}
use Rattle.settings.proofs.settings.Settings.checked.Goals.{Else-ne, Else-self-gt-MTU_MOST, Else-is_some_and, Else-self-gt-EXTRA_LIMIT, After-is_some_and-2}
use Rattle.settings.proofs.settings.Settings.checked.Goals as goal

-- what is left to test
ethernet : (c : Else-ne) → is_ethernet c.args.self.now.medium ≡ true
ethernet c = search rules

lists : (c : Else-self-gt-MTU_MOST) → refusal_of c.args.self.now ≡ lists_refusal c.args.self.now
lists c = past_mtu c.args.self.now (search rules) c.if-self-lt-MTU_LEAST.false c.if-self-gt-MTU_MOST.false

listed : (c : Else-is_some_and) → list_fits (listed_len c.args.self.now) ≡ true
unfolding list_fits
listed c = search rules

counted : (c : Else-self-gt-EXTRA_LIMIT) → Counted c.args.self.now
unfolding list_fits
counted c = record {
  mtu = c.if-self-lt-MTU_LEAST.false;
  name = c.if-self-gt-NAME_LIMIT.false;
  list = search rules;
  extra = c.if-self-gt-EXTRA_LIMIT.false;
}

sizes : (c : Else-self-gt-EXTRA_LIMIT) → refusal_of c.args.self.now ≡ size_refusal c.args.self.now
sizes c = past_mtu c.args.self.now (search rules) c.if-self-lt-MTU_LEAST.false c.if-self-gt-MTU_MOST.false ∙ past_counts c.args.self.now (counted c)

pub returns-then-self-lt-MTU_LEAST : goal.returns-then-self-lt-MTU_LEAST
unfolding refusal_of
returns-then-self-lt-MTU_LEAST c =
    if_false _ (ap not (ethernet (goal.at.returns-then-self-lt-MTU_LEAST c).Else-ne)) (elim c.then-self-lt-MTU_LEAST.branch [
      | goal.then-self-lt-MTU_LEAST-via-then-self-lt-MTU_LEAST w ↦ if_true _ (search tests) refl
      | goal.then-self-lt-MTU_LEAST-via-else-self-lt-MTU_LEAST+then-self-gt-MTU_MOST w ↦ if_false _ (search tests) (if_true _ (search tests) refl)
    ])

pub returns-then-self-gt-NAME_LIMIT : goal.returns-then-self-gt-NAME_LIMIT
unfolding lists_refusal
returns-then-self-gt-NAME_LIMIT c =
    rw (lists (goal.at.returns-then-self-gt-NAME_LIMIT c).Else-self-gt-MTU_MOST) (if_true _ (search tests) refl)

pub returns-then-self-gt-EXTRA_LIMIT : goal.returns-then-self-gt-EXTRA_LIMIT
unfolding lists_refusal
returns-then-self-gt-EXTRA_LIMIT c =
    let at = goal.at.returns-then-self-gt-EXTRA_LIMIT c in
    rw (lists at.Else-self-gt-MTU_MOST) (if_false _ (search tests) (if_false _ (ap not (listed at.Else-is_some_and)) (if_true _ (search tests) refl)))

pub returns-in_err-n : goal.returns-in_err-n
returns-in_err-n c =
    let s = c.args.self.now in
    let at = goal.at.returns-in_err-n c in
    let e : measured (longest s) (name_of s) (Some (list_of s)) (extra_of s) ≡ Err c.in_err-n.field-0.0 = search rules in
    let r = not_whole s (counted at.Else-self-gt-EXTRA_LIMIT) e in
    rw (sizes at.Else-self-gt-EXTRA_LIMIT) (search (rules, r))

measure : (c : After-is_some_and-2) → Counted c.args.self.now → (not (whole_items (extra_of c.args.self.now)) ≡ false) × (c.in_ok-n.n ≡ longest_length c.args.self.now) × (c.is_some_and-2.result ≡ over_cap c.args.self.now)
measure c k =
    let s = c.args.self.now in
    let e : measured (longest s) (name_of s) (Some (list_of s)) (extra_of s) ≡ Ok c.in_ok-n.n = search rules in
    let m = whole s k e in
    (m.0, m.1, search (rules, over_cap_by))

pub returns-then-is_some_and-2 : goal.returns-then-is_some_and-2
unfolding size_refusal
returns-then-is_some_and-2 c =
    let at = goal.at.returns-then-is_some_and-2 c in
    let m = measure at.After-is_some_and-2 (counted at.Else-self-gt-EXTRA_LIMIT) in
    rw (sizes at.Else-self-gt-EXTRA_LIMIT) (if_false _ m.0 (if_true _ (sym m.2 ∙ c.if-is_some_and-2.true) refl))

pub returns-then-from-n : goal.returns-then-from-n
unfolding size_refusal
returns-then-from-n c =
    let at = goal.at.returns-then-from-n c in
    let m = measure at.After-is_some_and-2 (counted at.Else-self-gt-EXTRA_LIMIT) in
    let t : c.args.self.now.mtu - 28 < longest_length c.args.self.now = omega (arith, m.1) in
    rw (sizes at.Else-self-gt-EXTRA_LIMIT) (if_false _ m.0 (if_false _ (sym m.2 ∙ c.if-is_some_and-2.false) (if_true _ (lt-ltb _ _ t) refl)))

pub returns : goal.returns
unfolding size_refusal
returns c =
    let at = goal.at.returns c in
    let m = measure at.After-is_some_and-2 (counted at.Else-self-gt-EXTRA_LIMIT) in
    let t : longest_length c.args.self.now ≤ c.args.self.now.mtu - 28 = omega (arith, m.1) in
    rw (sizes at.Else-self-gt-EXTRA_LIMIT) (if_false _ m.0 (if_false _ (sym m.2 ∙ c.if-is_some_and-2.false) (if_false _ (le-ltb _ _ t) refl)))
