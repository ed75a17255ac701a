use Rattle.tables.proofs.Loops.{KeepingInPlace}
use Rattle.tables.proofs.table.Table.kept.Given as goal

abbrev pub invariant-loop-entry : goal.invariant-loop-entry
invariant-loop-entry g l = KeepingInPlace g.F.Fn l.stays g.E.Entry.zero l.used l.entry-index (record { entries = l.entries; count = l.count })
