use Rattle.std.proofs.Common.{refl}
use Rattle.trace.proofs.write.Writer.put.Goals as goal

pub returns : goal.returns
returns c = record { same_buffer = refl; wrote = c.put_char-self.ensures }
