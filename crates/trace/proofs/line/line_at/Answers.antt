use Rattle.std.proofs.Common.{take, sym, ap, ◌∙◌, arith}
use Rattle.std.proofs.lemmas.List.{length-take-le}
use Rattle.trace.specs.Lines.{line_length, line_at}
use Rattle.trace.proofs.Lines.{line_inside, line_past, rest_range}
use Rattle.trace.proofs.line.line_at.Goals as goal

pub slice_bounds-result-end : goal.slice_bounds-result-end
slice_bounds-result-end c = sym (length-take-le _ _ (omega (arith, line_inside c.in-Some.rest.now)))

pub returns-in-Some : goal.returns-in-Some
unfolding line_at
returns-in-Some c =
    let rest = rest_range c.args.at c.args.text.now c.in-Some.rest.now c.in-Some.ensures.lookup.0.2 in
    (λ k. take ((c.line_len.ensures ∙ ap line_length rest) k) (rest k))

pub returns-in-None : goal.returns-in-None
returns-in-None c = sym (line_past c.args.at c.args.text.now (omega (arith, c.in-None.ensures.lookup.0)))
