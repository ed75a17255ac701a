use Rattle.message.proofs.Writers.{row}
use Rattle.message.proofs.header.put_header.Goals as goal

pub returns-clause-wrote : goal.returns-clause-wrote
returns-clause-wrote c = row c.put_bytes-n1.ensures (row (rw c.split4-xid.ensures at c.put_bytes-n2.ensures) (row c.put_bytes-n3.ensures (row (rw c.split4-ciaddr.ensures at c.put_bytes-n4.ensures) c.put_rest.ensures.wrote)))
