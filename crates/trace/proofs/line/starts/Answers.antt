use Rattle.std.proofs.Common.{◌∙◌}
use Rattle.trace.proofs.Lines.{starts_lem}
use Rattle.trace.proofs.line.starts.Goals as goal

pub returns : goal.returns
returns c = c.starts_with.ensures.value ∙ starts_lem c.args.c c.args.text.now
