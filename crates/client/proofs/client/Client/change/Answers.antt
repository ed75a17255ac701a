use Rattle.client.proofs.Changes.{change_silent, change_sends}
use Rattle.client.proofs.client.Client.change.Goals as goal

pub returns-in-None : goal.returns-in-None
returns-in-None c = change_silent c.args.self.now c.args.rand c.args.moment _ c.waits.ensures c.decide-decision.ensures c.in-None.is c.silent.ensures c.unmoved.ensures

pub returns-in-Some : goal.returns-in-Some
returns-in-Some c = change_sends c.args.self.now c.args.rand c.args.moment _ c.waits.ensures c.decide-decision.ensures c.in-Some.is c.send.ensures
