use Rattle.std.proofs.Common.{◌≡◌, ◌<◌, true, [], ◌∷◌, length, rules, ap, ◌∙◌, arith}
use Rattle.std.specs.Prelude.{Ok}
use borrow.Author.Tests.{lt-leb}
use Rattle.choice.proofs.Choices.{if_false}
use Rattle.tables.specs.Entries.{places}
use Rattle.tables.specs.Table.{added_by, table, in_use}
use Rattle.tables.proofs.Lists.{only_all, entered_room}
use Rattle.tables.proofs.table.Table.added.Goals as goal

pub returns : goal.returns
unfolding added_by
returns g c =
    let xs = in_use c.args.self in
    let room : length xs < places = omega (arith, ap length c.in_use.ensures.value) in
    let same : c.kept.result ≡ table g.E.Entry.zero xs = c.kept.ensures (λ x. true) (record { each = λ x b r. search rules }) ∙ ap (table g.E.Entry.zero) (only_all xs) in
    if_false _ (lt-leb _ _ room) (ap Ok (c.with.ensures xs same ∙ ap (table g.E.Entry.zero) (entered_room xs (c.args.entry ∷ []) room)))
