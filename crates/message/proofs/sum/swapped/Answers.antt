use Rattle.std.proofs.Common.{◌≡◌, ◌+◌, ◌*◌, ◌/◌, ◌%◌, arith, ap, ◌∙◌}
use Rattle.message.specs.Pieces.{carried_in}
use Rattle.message.proofs.Sums.{in_swapped}
use Rattle.message.proofs.sum.swapped.Goals as goal

pub returns : goal.returns
returns c =
    let low = c.folded.result in
    let e : c.from.result + c.from-2.result ≡ c.args.start + low % 256 * 256 + low / 256 = omega arith in
    c.folded-2.ensures ∙ ap carried_in e ∙ in_swapped c.args.start c.args.sum low c.folded.ensures
