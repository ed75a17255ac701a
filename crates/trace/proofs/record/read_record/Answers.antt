use Rattle.std.proofs.Common.{◌≡◌, sym, ap, ◌∙◌, arith, None, Some, Err}
use Rattle.std.proofs.lemmas.Result.{err_from_is_err_and}
use Rattle.trace.proofs.Records.{walked_start, taken_there, walked_on, walked_stop, walked_full, walked_more, walked_end}
use Rattle.trace.proofs.record.read_record.Goals as goal

pub loop-part-init : goal.loop-part-init
loop-part-init c = rw c.into_iter-part-iterator.ensures.into_iter_gives (walked_start c.args.line.now c.args.form.now)

pub slice_bounds-part_taken-count : goal.slice_bounds-part_taken-count
slice_bounds-part_taken-count c = omega (arith, c.loop-part.invariant.inside)

pub overflow_add-result : goal.overflow_add-result
overflow_add-result c = omega (arith, taken_there c.loop-part.invariant c.in-Some.ensures.steps c.in-Err.ensures)

pub returns-in-Err : goal.returns-in-Err
returns-in-Err c = walked_stop c.loop-part.invariant c.in-Some.ensures.steps c.in-Err.ensures

pub returns-in_err-read : goal.returns-in_err-read
returns-in_err-read c =
    let error = err_from_is_err_and c.from_residual.result c.from_residual.ensures.1 in
    let value = c.in_err-read.ensures.value in
    let none : c.with_taken.result ≡ None = grind arith in
    let column : c.in_err-read.field-0.0 ≡ record { column = c.loop-part.at } = grind arith in
    rw (error.1, error.2) (ap Err column ∙ walked_full c.loop-part.invariant c.in-Some.ensures.steps c.in-Ok.ensures (sym none ∙ c.with_taken.ensures))

pub overflow_add-at : goal.overflow_add-at
overflow_add-at c = omega (arith, taken_there c.loop-part.invariant c.in-Some.ensures.steps c.in-Ok.ensures, c.len-at.ensures)

pub loop-part-preserved : goal.loop-part-preserved
loop-part-preserved c =
    let value = c.in_ok-read.ensures.value in
    let some : c.with_taken.result ≡ Some c.in_ok-read.read = grind arith in
    rw c.len-at.ensures (walked_on c.loop-part.invariant c.in-Some.ensures.steps c.in-Ok.ensures (sym some ∙ c.with_taken.ensures))

pub returns-then-at-line : goal.returns-then-at-line
returns-then-at-line c = walked_more c.loop-part.invariant c.in-None.ensures.steps.0 (omega (arith, c.if-at-line.true))

pub returns : goal.returns
returns c = walked_end c.loop-part.invariant c.in-None.ensures.steps.0 (omega (arith, c.if-at-line.false))
