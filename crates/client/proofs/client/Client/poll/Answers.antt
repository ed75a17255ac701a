use mathlib.Core.Path.{sym, ◌∙◌}
use Rattle.client.proofs.Wholes.{tested}
use Rattle.client.proofs.Changes.{poll_broken, poll_drops, poll_keeps}
use Rattle.client.proofs.client.Client.poll.Goals as goal

pub returns-then-not-whole : goal.returns-then-not-whole
returns-then-not-whole c = poll_broken c.args.self c.args.tables c.args.rand c.args.moment _ (sym (tested c.args.self c.args.tables c.is_whole.ensures c.is_whole-2.ensures) ∙ c.if-not-whole.true)

pub returns-then-change : goal.returns-then-change
returns-then-change c = poll_drops c.args.self c.args.tables c.args.rand c.args.moment _ (sym (tested c.args.self c.args.tables c.is_whole.ensures c.is_whole-2.ensures) ∙ c.if-not-whole.false) c.change-change.ensures c.if-change.true c.dropping.ensures

pub returns : goal.returns
returns c = poll_keeps c.args.self c.args.tables c.args.rand c.args.moment _ (sym (tested c.args.self c.args.tables c.is_whole.ensures c.is_whole-2.ensures) ∙ c.if-not-whole.false) c.change-change.ensures c.if-change.false
