use Rattle.std.proofs.Common.{◌∙◌}
use Rattle.trace.proofs.Lines.{begins_lem}
use Rattle.trace.proofs.line.begins.Goals as goal

pub returns : goal.returns
returns c = c.starts_with.ensures.value ∙ begins_lem c.args.start.now c.args.line.now
