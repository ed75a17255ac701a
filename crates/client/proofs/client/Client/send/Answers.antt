use Rattle.std.proofs.Common.{◌≡◌, length, arith, refl}
use Rattle.std.proofs.lemmas.Grind.{common_steps}
use Rattle.client.proofs.Changes.{change_written_lem, change_short}
use Rattle.client.proofs.client.Client.send.Goals as goal

pub returns-in-Ok : goal.returns-in-Ok
returns-in-Ok c =
    let lent : length c.args.buf.now ≡ 0 → ⊥ = grind (arith, common_steps) in
    change_written_lem c.args.self.now c.args.rand c.args.wake c.args.sending _ lent c.drawn-drawn.ensures c.endpoints-ends.ensures c.in-Ok.ensures refl c.built.ensures c.moved-in-Ok.ensures

pub returns-in-Err : goal.returns-in-Err
returns-in-Err c =
    let lent : length c.args.buf.now ≡ 0 → ⊥ = grind (arith, common_steps) in
    change_short c.args.self.now c.args.rand c.args.wake c.args.sending _ lent c.drawn-drawn.ensures c.endpoints-ends.ensures c.in-Err.ensures refl c.unmoved.ensures
