use Rattle.trace.specs.Forms.{parts_of}
use Rattle.trace.specs.Written.{line_of}
use Rattle.trace.proofs.Writers.{Still}
use Rattle.trace.proofs.Written.{text_of}
use Rattle.trace.proofs.write.Writer.put_record.Given as goal

abbrev pub invariant-loop-part : goal.invariant-loop-part
invariant-loop-part l = Still (line_of l.form l.values l.source) l.initial.self (text_of (parts_of l.part-iterator.0.now) l.rest l.source) l.self
