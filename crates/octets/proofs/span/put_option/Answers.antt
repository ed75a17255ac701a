use Rattle.octets.proofs.Items.{bytes_of}
use Rattle.octets.proofs.Runs.{placed_whole}
use Rattle.octets.specs.Items.{option}
use mathlib.Core.Path.{sym, ◌∙◌}
use native.Mathlib.Omega.{arith}
use Rattle.octets.proofs.span.put_option.Goals as goal

pub returns : goal.returns
returns c = let e = placed_whole (option c.args.kind c.args.body.now) c.args.buf.now (omega arith) in
    rw (bytes_of c.args.kind c.args.body.now (omega arith)) (omega arith, c.option_in.ensures ∙ sym e.1)
