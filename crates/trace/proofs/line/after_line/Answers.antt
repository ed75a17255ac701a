use Rattle.std.proofs.Common.{arith}
use Rattle.trace.proofs.Lines.{line_inside}
use Rattle.trace.proofs.line.after_line.Goals as goal

pub overflow_add-line_len : goal.overflow_add-line_len
overflow_add-line_len c = omega (arith, line_inside c.in-Some.rest.now, c.in-Some.ensures.lookup.0.3)
