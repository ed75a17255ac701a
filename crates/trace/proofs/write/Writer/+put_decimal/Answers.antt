use Rattle.std.proofs.Common.{arith}
use Rattle.trace.proofs.Writers.{in_row, writes_as}
use Rattle.trace.proofs.Written.{decimal_one, decimal_more}
use Rattle.trace.proofs.write.Writer.+put_decimal.Goals as goal

pub returns-then-n-le-LAST_DIGIT : goal.returns-then-n-le-LAST_DIGIT
returns-then-n-le-LAST_DIGIT t c = writes_as c.put.ensures (decimal_one c.args.n (omega arith))

pub returns-else-n-le-LAST_DIGIT : goal.returns-else-n-le-LAST_DIGIT
returns-else-n-le-LAST_DIGIT t c = writes_as (in_row c.put_decimal.ensures c.put-else-n-le-LAST_DIGIT.ensures) (decimal_more c.args.n (omega arith) (omega arith))
