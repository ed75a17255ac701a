use Rattle.std.proofs.Common.{arith}
use Rattle.trace.proofs.Numbers.{dotted_none, dotted_some, decimal_bounds}
use Rattle.trace.proofs.number.dotted.Goals as goal

pub returns-in_default : goal.returns-in_default
returns-in_default c = dotted_none c.args.text.now c.args.high c.in_default.ensures.cases

pub returns-in_default-decimal : goal.returns-in_default-decimal
returns-in_default-decimal c =
    let found = c.in-Some.ensures.cases in
    dotted_some c.args.text.now c.in-Some.rest.now c.args.high _ found.0 found.1 c.in_default-decimal.ensures

pub overflow_add-result : goal.overflow_add-result
overflow_add-result c = omega (arith, decimal_bounds 255 _ c.in-Some-decimal.ensures)

pub overflow_add-result-2 : goal.overflow_add-result-2
overflow_add-result-2 c = omega (arith, decimal_bounds 255 _ c.in-Some-decimal.ensures, c.in-Some.ensures.cases.2)

pub returns : goal.returns
returns c =
    let found = c.in-Some.ensures.cases in
    dotted_some c.args.text.now c.in-Some.rest.now c.args.high _ found.0 found.1 c.in-Some-decimal.ensures
