use native.Mathlib.Omega.{arith}
use Rattle.message.proofs.Writers.{wrote}
use Rattle.message.proofs.put.put_bytes.Goals as goal

pub overflow_add-result : goal.overflow_add-result
overflow_add-result c = omega (arith, (wrote c.args.at c.args.body.now c.args.buf.now c.put_bytes_at.new.buf c.put_bytes_at.result c.requires c.put_bytes_at.ensures.0 c.put_bytes_at.ensures.1).next)

pub returns : goal.returns
returns c = wrote c.args.at c.args.body.now c.args.buf.now c.put_bytes_at.new.buf c.put_bytes_at.result c.requires c.put_bytes_at.ensures.0 c.put_bytes_at.ensures.1
