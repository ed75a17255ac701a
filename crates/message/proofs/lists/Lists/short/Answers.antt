use Rattle.std.proofs.Common.{◌≡◌, refl, ap, sym, ◌∙◌, true, not, length, rules}
use Rattle.std.specs.Prelude.{option_map, option_copied}
use Rattle.choice.proofs.Choices.{if_true, if_false, tests}
use Rattle.message.specs.Written.{measured, list_fits}
use Rattle.message.proofs.lists.Lists.short.Goals.{Else-is_some_and, then-self-gt-EXTRA_LIMIT-via-then-self-gt-EXTRA_LIMIT, then-self-gt-EXTRA_LIMIT-via-else-self-gt-EXTRA_LIMIT+then-not-whole_items}
use Rattle.message.proofs.lists.Lists.short.Goals as goal

pub returns-then-self-gt-NAME_LIMIT-clause-measured : goal.returns-then-self-gt-NAME_LIMIT-clause-measured
unfolding measured
returns-then-self-gt-NAME_LIMIT-clause-measured c m = sym (if_true _ (search tests) refl)

listed : (c : Else-is_some_and) → list_fits (option_map length (option_copied c.args.self.list)) ≡ true
unfolding list_fits
listed c = search rules

pub returns-then-self-gt-EXTRA_LIMIT-clause-measured : goal.returns-then-self-gt-EXTRA_LIMIT-clause-measured
unfolding measured
returns-then-self-gt-EXTRA_LIMIT-clause-measured c m =
    let e = listed (goal.at.returns-then-self-gt-EXTRA_LIMIT-clause-measured c).Else-is_some_and in
    sym (if_false _ (search tests) (if_false _ (ap not e) (elim c.then-self-gt-EXTRA_LIMIT.branch [
      | then-self-gt-EXTRA_LIMIT-via-then-self-gt-EXTRA_LIMIT w ↦ if_true _ (search tests) refl
      | then-self-gt-EXTRA_LIMIT-via-else-self-gt-EXTRA_LIMIT+then-not-whole_items w ↦ if_false _ (search tests) (if_true _ (ap not (sym w.whole_items.ensures ∙ w.if-not-whole_items.true)) refl)
    ])))
