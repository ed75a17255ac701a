use Rattle.trace.specs.Forms.{parts_of}
use Rattle.trace.proofs.Records.{Walked}
use Rattle.trace.proofs.record.read_record.Given as goal

abbrev pub invariant-loop-part : goal.invariant-loop-part
invariant-loop-part l = Walked l.line l.form (parts_of l.part-iterator.0.now) l.read l.at
