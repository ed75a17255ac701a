use Rattle.std.proofs.Common.{arith, rules, length, sym, ◌≡◌, ◌≢◌}
use Rattle.message.specs.Messages.{name_option}
use Rattle.message.specs.Pieces.{Wrote}
use Rattle.message.proofs.Messages.{name_some, name_none}
use Rattle.message.proofs.Writers.{row, none}
use Rattle.message.proofs.options.put_who.Goals as goal

pub returns-then-is_empty-clause-wrote : goal.returns-then-is_empty-clause-wrote
returns-then-is_empty-clause-wrote c =
    let n : length c.args.name.now ≡ 0 = search rules in
    let w : Wrote c.put_option-n2.result (name_option c.args.name.now) c.put_option-n2.new.buf c.put_option-n2.result c.put_option-n2.new.buf = rw (name_none c.args.name.now n) (none _ _ (omega arith)) in
    row c.put_option-n1.ensures (row (rw c.client_id-id.ensures at c.put_option-n2.ensures) w)

pub returns-clause-wrote : goal.returns-clause-wrote
returns-clause-wrote c =
    let n : length c.args.name.now ≢ 0 = search rules in
    row c.put_option-n1.ensures (row (rw c.client_id-id.ensures at c.put_option-n2.ensures) (rw (sym (name_some c.args.name.now n)) at c.put_option.ensures))
