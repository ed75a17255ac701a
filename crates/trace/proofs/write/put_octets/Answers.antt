use Rattle.std.proofs.Common.{◌∙◌, get_or, drop, ◌+◌}
use Rattle.std.proofs.lemmas.List.{at_drop_more, at_drop_all}
use Rattle.trace.specs.Texts.{octets_text}
use Rattle.trace.proofs.Writers.{onward, written_rest}
use Rattle.trace.proofs.Written.{octets_on, octets_none}
use Rattle.trace.proofs.write.put_octets.Goals as goal

pub loop-octet-preserved : goal.loop-octet-preserved
loop-octet-preserved c =
    let i = c.loop-octet.octet-index in
    let os = c.args.octets.now in
    onward c.loop-octet.invariant c.put_octet-place.ensures (at_drop_more octets_text os i 0 c.loop-octet-test.true ∙ octets_on (get_or os i 0) (drop (i + 1) os))

pub returns : goal.returns
returns c = written_rest c.loop-octet.invariant (at_drop_all octets_text c.args.octets.now c.loop-octet.octet-index c.loop-octet-test.false ∙ octets_none)
