use Rattle.std.proofs.Common.{◌/◌, ◌%◌}
use Rattle.trace.proofs.Writers.{in_row, writes_as}
use Rattle.trace.proofs.Written.{four_numbers}
use Rattle.trace.proofs.write.Writer.put_address.Goals as goal

pub returns : goal.returns
returns c =
    let v = c.args.v in
    writes_as (in_row c.put_decimal.ensures (in_row c.put_dotted.ensures (in_row c.put_dotted-2.ensures c.put_dotted-3.ensures)))
    (four_numbers (v / 16777216 % 256) (v / 65536 % 256) (v / 256 % 256) (v % 256))
