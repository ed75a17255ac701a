use mathlib.Core.Path.{sym, ap, ◌∙◌}
use Prim.Native.Nat.{◌-◌}
use lib.ListN.{length, take, drop, get_or}
use Rattle.octets.specs.Items.{whole_items}
use Rattle.octets.proofs.Runs.{part_tail}
use Rattle.octets.proofs.Items.{items_more}
use Rattle.octets.proofs.item.whole_items.Goals as goal

pub loop-left-preserved : goal.loop-left-preserved
loop-left-preserved c =
    let t = c.loop-left.left.now in
    let rest = take (length t - 2) (drop 2 t) in
    let fits = rw c.from-n.ensures at c.if-rest-n.false in
    let more = items_more t rest c.in-len2-up.len_at_least (part_tail 2 t) fits in
    c.loop-left.invariant ∙ more ∙ ap whole_items (sym (rw c.from-n.ensures (part_tail (get_or t 1 0) rest)))
