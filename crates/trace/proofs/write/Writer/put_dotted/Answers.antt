use Rattle.trace.proofs.Writers.{in_row}
use Rattle.trace.proofs.write.Writer.put_dotted.Goals as goal

pub returns : goal.returns
returns c = in_row c.put.ensures c.put_decimal.ensures
