use Rattle.tables.proofs.Made.{with_full, with_room}
use Rattle.tables.proofs.table.Table.with.Goals as goal

pub returns-then-self-lt-PLACES : goal.returns-then-self-lt-PLACES
returns-then-self-lt-PLACES g c = λ xs e. with_room g.E.Entry.zero c.args.self xs c.args.entry e c.if-self-lt-PLACES.true

pub returns-else-self-lt-PLACES : goal.returns-else-self-lt-PLACES
returns-else-self-lt-PLACES g c = λ xs e. with_full g.E.Entry.zero c.args.self xs c.args.entry e c.if-self-lt-PLACES.false
