use Rattle.std.proofs.Common.{drop}
use Rattle.trace.specs.Texts.{octets_text}
use Rattle.trace.proofs.Writers.{Onward}
use Rattle.trace.proofs.write.put_octets.Given as goal

abbrev pub invariant-loop-octet : goal.invariant-loop-octet
invariant-loop-octet l = Onward l.at (octets_text l.octets) l.initial.buf (l.place) (octets_text (drop l.octet-index l.octets)) l.buf
