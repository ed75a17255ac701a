use Rattle.std.proofs.Common.{min, length, ap, ◌∙◌}
use Rattle.trace.proofs.Writers.{still_on, writes}
use Rattle.trace.proofs.Written.{text_step, text_end, line_start}
use Rattle.trace.proofs.write.Writer.put_record.Goals as goal

pub loop-part-init : goal.loop-part-init
loop-part-init c = rw c.into_iter-part-iterator.ensures.into_iter_gives (line_start c.args.form.now c.args.values.now c.args.source.now c.args.self.now)

pub loop-part-preserved : goal.loop-part-preserved
loop-part-preserved c =
    let v = c.loop-part.rest.now in
    still_on c.loop-part.invariant c.put_part.ensures (text_step v c.args.source.now c.min.result c.in-Some.ensures.steps (c.min.ensures ∙ ap (λ w. min w (length v)) c.width.ensures))

pub returns : goal.returns
returns c = writes c.loop-part.invariant (text_end c.loop-part.rest.now c.args.source.now c.in-None.ensures.steps.0)
