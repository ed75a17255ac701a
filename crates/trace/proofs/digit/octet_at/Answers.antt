use Rattle.std.proofs.Common.{arith, sym, ap, ◌∙◌, length, drop, length-drop, ◌<◌}
use Rattle.trace.specs.Digits.{first_octet}
use Rattle.trace.proofs.Digits.{first_two, first_short}
use Rattle.trace.proofs.Lines.{rest_range}
use Rattle.trace.proofs.digit.octet_at.Goals as goal

pub returns-in_err-get : goal.returns-in_err-get
returns-in_err-get c =
    let past : length (drop c.args.place c.args.line.now) < 2 = simp length-drop (omega (arith, c.in_err-get.ensures.lookup.0)) in
    c.from_residual.ensures ∙ sym (first_short (drop c.args.place c.args.line.now) past)

pub returns-in_default : goal.returns-in_default
returns-in_default c =
    let rest = rest_range c.args.place c.args.line.now c.in_ok-get.field-0.now c.in_ok-get.ensures.lookup.0.2 in
    sym (ap first_octet (sym rest) ∙ first_short c.in_ok-get.field-0.now c.in_default.len_below)

pub returns-in-len2-up : goal.returns-in-len2-up
returns-in-len2-up c =
    let rest = rest_range c.args.place c.args.line.now c.in_ok-get.field-0.now c.in_ok-get.ensures.lookup.0.2 in
    c.octet.ensures ∙ sym (ap first_octet (sym rest) ∙ first_two c.in_ok-get.field-0.now c.in-len2-up.len_at_least)
