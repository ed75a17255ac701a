use Rattle.std.proofs.Common.{[], ◌∷◌}
use Rattle.trace.proofs.Writers.{past, one}
use Rattle.trace.proofs.write.put_char.Goals as goal

pub returns-then-at-buf : goal.returns-then-at-buf
returns-then-at-buf c = one c.args.c c.if-at-buf.true

pub returns : goal.returns
returns c = past (c.args.c ∷ []) c.if-at-buf.false
