use Rattle.std.proofs.Common.{◌≡◌, ◌≢◌, rules, sym, ◌∙◌}
use Rattle.std.proofs.lemmas.Iterator.{IsFirst-from_position, YieldsList-from_slice, index_from_first}
use borrow.Author.Tests.{tests}
use Rattle.trace.specs.Lines.{line_length}
use Rattle.trace.proofs.Lines.{line_none, line_hit, line_miss}
use Rattle.trace.proofs.line.line_len.Goals as goal

pub returns : goal.returns
returns c =
    let first = IsFirst-from_position _ _ c.position.result (λ x. x ≡ 10) (λ x. x ≢ 10) c.position.ensures.ran (YieldsList-from_slice c.args.text.now cc) (λ x q k. search (rules, tests)) (λ x q k. search (rules, tests)) in
    c.unwrap_or.ensures ∙ sym (index_from_first line_length (λ x. x ≡ 10) (λ x. x ≢ 10) line_none line_hit line_miss c.args.text.now c.position.result first)
