use Rattle.message.proofs.Writers.{row}
use Rattle.message.proofs.options.put_last.Goals as goal

pub returns-clause-wrote : goal.returns-clause-wrote
returns-clause-wrote c = row c.put_if-n1.ensures (row c.put_bytes-n2.ensures c.put_bytes.ensures)
