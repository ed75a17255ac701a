use native.Mathlib.Omega.{arith}
use Rattle.message.proofs.Writers.{wrote_option}
use Rattle.message.proofs.put.put_option.Goals as goal

pub overflow_add-result : goal.overflow_add-result
overflow_add-result c = omega (arith, (wrote_option c.args.at c.args.kind c.args.body.now c.args.buf.now c.put_option_at.new.buf c.put_option_at.result c.requires.0 c.requires.1 c.put_option_at.ensures.0 c.put_option_at.ensures.1).next)

pub returns : goal.returns
returns c = wrote_option c.args.at c.args.kind c.args.body.now c.args.buf.now c.put_option_at.new.buf c.put_option_at.result c.requires.0 c.requires.1 c.put_option_at.ensures.0 c.put_option_at.ensures.1
