use Rattle.std.proofs.Common.{◌≡◌, get_or, drop, sym, ap, ◌∙◌}
use Rattle.octets.proofs.Runs.{part_tail}
use Rattle.wire.proofs.Stores.{place_later}
use Rattle.wire.proofs.store.+find_in.Goals as goal

pub returns : goal.returns
returns t c =
    let s = c.args.s.now in
    let n = get_or s 1 0 in
    let tail : c.in_ok-get.field-0.now ≡ drop n (drop 2 s) = c.in_ok-get.ensures.lookup.0.2 ∙ part_tail n _ ∙ ap (drop n) (part_tail 2 s) in
    c.find_in.ensures ∙ rw tail (sym (place_later _ _ _ c.in-len2-up.len_at_least c.if-code-kind.false))
