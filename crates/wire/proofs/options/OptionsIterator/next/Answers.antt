use Rattle.std.proofs.Common.{length, sym, ap, ◌∙◌, rules}
use Rattle.wire.proofs.Walks.{field_end, field_whole}
use Rattle.wire.proofs.options.OptionsIterator.next.Goals as goal

pub returns-then-code-clause-steps : goal.returns-then-code-clause-steps
returns-then-code-clause-steps c =
    let none = field_end c.in_ok-code.ensures.cases.0 (search rules) in
    (sym c.past_padding.ensures.0 ∙ none, sym c.past_padding.ensures.0 ∙ none)

pub returns-clause-steps : goal.returns-clause-steps
returns-clause-steps c =
    let body = c.in_ok-body.ensures.cases in
    sym c.past_padding.ensures.0 ∙ field_whole c.in_ok-code.ensures.cases.0 c.in_ok-len.ensures.cases.0 (search rules) (search rules) body.0 body.1 body.2

pub returns-clause-goes : goal.returns-clause-goes
returns-clause-goes c = let fewer = ap length (returns-clause-steps c) in search rules
