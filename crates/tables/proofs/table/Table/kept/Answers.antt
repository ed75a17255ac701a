use Rattle.std.proofs.Common.{refl, ap, arith, ◌∙◌}
use Rattle.std.proofs.lemmas.Fn.{says_at}
use Rattle.tables.specs.Entries.{only}
use Rattle.tables.specs.Table.{table}
use Rattle.tables.proofs.Loops.{starts_in_place, passes_in_place, takes_in_place, ends_in_place}
use Rattle.tables.proofs.table.Table.kept.Goals as goal
use Rattle.tables.proofs.table.Table.kept.Goals.{then-stays, else-stays}

pub loop-entry-init : goal.loop-entry-init
loop-entry-init g c = rw c.zero-entries.ensures (starts_in_place refl)

pub loop-entry-preserved : goal.loop-entry-preserved
loop-entry-preserved g c =
    let k = c.loop-entry.invariant in
    elim c.if-stays.branch [
      | then-stays w ↦ rw (w.entries-is, w.count-is) (takes_in_place k c.loop-entry-test.true c.entry-item.is (says_at g.F.Fn c.stays.ensures w.if-stays.true) c.in_use-used.ensures.few)
      | else-stays w ↦ rw (w.entries-is, w.count-is) (passes_in_place k c.loop-entry-test.true c.entry-item.is (says_at g.F.Fn c.stays.ensures w.if-stays.false))
    ]

pub returns : goal.returns
returns g c = λ test computes. ends_in_place c.loop-entry.invariant (omega arith) test computes ∙ ap (λ xs. table g.E.Entry.zero (only test xs)) c.in_use-used.ensures.value
