use Rattle.std.proofs.Common.{ap, ◌∙◌, arith}
use Rattle.std.proofs.lemmas.Result.{err_from_is_err_and}
use Rattle.trace.specs.Numbers.{dotted}
use Rattle.trace.proofs.Numbers.{decimal_bounds, dotted_bounds, address_by}
use Rattle.trace.proofs.number.address.Goals as goal

pub returns-in_default : goal.returns-in_default
returns-in_default c = address_by c.args.text.now c.in_default.ensures

pub dotted-requires-clause-value : goal.dotted-requires-clause-value
dotted-requires-clause-value c = omega (arith, decimal_bounds 255 _ c.in-Some.ensures)

pub dotted-requires-clause-len : goal.dotted-requires-clause-len
dotted-requires-clause-len c = omega (arith, decimal_bounds 255 _ c.in-Some.ensures)

pub returns-in_err-second : goal.returns-in_err-second
returns-in_err-second c =
    let again = dotted c.args.text.now in
    let error = err_from_is_err_and c.from_residual.result c.from_residual.ensures.1 in
    rw (error.1, error.2) (ap (λ n. again (again n)) c.in_err-second.ensures ∙ address_by c.args.text.now c.in-Some.ensures)

pub dotted-requires-2-clause-value : goal.dotted-requires-2-clause-value
dotted-requires-2-clause-value c =
    let first = decimal_bounds 255 _ c.in-Some.ensures in
    omega (arith, dotted_bounds 255 _ _ first.0 first.1 c.in_ok-second.ensures)

pub dotted-requires-2-clause-len : goal.dotted-requires-2-clause-len
dotted-requires-2-clause-len c =
    let first = decimal_bounds 255 _ c.in-Some.ensures in
    omega (arith, dotted_bounds 255 _ _ first.0 first.1 c.in_ok-second.ensures)

pub returns-in_err-third : goal.returns-in_err-third
returns-in_err-third c =
    let again = dotted c.args.text.now in
    let error = err_from_is_err_and c.from_residual-in_err-third.result c.from_residual-in_err-third.ensures.1 in
    rw (error.1, error.2) (ap again (c.in_err-third.ensures ∙ ap again c.in_ok-second.ensures) ∙ address_by c.args.text.now c.in-Some.ensures)

pub dotted-requires-3-clause-value : goal.dotted-requires-3-clause-value
dotted-requires-3-clause-value c =
    let first = decimal_bounds 255 _ c.in-Some.ensures in
    let second = dotted_bounds 255 _ _ first.0 first.1 c.in_ok-second.ensures in
    omega (arith, dotted_bounds 65535 _ _ second.0 second.1 c.in_ok-third.ensures)

pub dotted-requires-3-clause-len : goal.dotted-requires-3-clause-len
dotted-requires-3-clause-len c =
    let first = decimal_bounds 255 _ c.in-Some.ensures in
    let second = dotted_bounds 255 _ _ first.0 first.1 c.in_ok-second.ensures in
    omega (arith, dotted_bounds 65535 _ _ second.0 second.1 c.in_ok-third.ensures)

pub returns : goal.returns
returns c =
    let again = dotted c.args.text.now in
    c.dotted-3.ensures ∙ ap again (c.in_ok-third.ensures ∙ ap again c.in_ok-second.ensures) ∙ address_by c.args.text.now c.in-Some.ensures
