use Rattle.message.proofs.Writers.{row}
use Rattle.message.proofs.header.put_rest.Goals as goal

pub returns-clause-wrote : goal.returns-clause-wrote
returns-clause-wrote c = search row depth 10
