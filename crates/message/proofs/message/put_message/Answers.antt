use Rattle.std.proofs.Common.{ℕ, List, subst}
use Rattle.std.specs.Prelude.{option_copied}
use Rattle.message.specs.Pieces.{Wrote}
use Rattle.message.proofs.Messages.{groups}
use Rattle.message.proofs.Writers.{row}
use Rattle.message.proofs.message.put_message.Goals.{Start}
use Rattle.message.proofs.message.put_message.Goals as goal

pub returns : goal.returns
returns c = let a = c.args in
    let lists = a.short.lists in
    let parts = row c.put_header-n1.ensures.wrote (row c.put_who-n2.ensures.wrote (row c.put_given-n3.ensures.wrote c.put_last.ensures.wrote)) in
    subst (λ (l : List ℕ). Wrote a.at l a.buf.now c.put_last.result c.put_last.new.buf) (groups a.m lists.name.now (option_copied lists.list) lists.extra.now) parts
