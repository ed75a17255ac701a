use Rattle.std.proofs.Common.{◌≡◌, length, rules, arith, sym, ap, ◌∙◌}
use Rattle.wire.proofs.Stores.{put_in}
use Rattle.wire.specs.Options.{options_left}
use Rattle.wire.specs.Stored.{all_pushed}
use Rattle.wire.specs.declared.store.Store.{Store}
use Rattle.wire.proofs.store.Store.of_reply.Goals as goal

pub overflow_add-len : goal.overflow_add-len
overflow_add-len c =
    let size : length c.loop-item.bytes ≡ 256 = search rules in
    let s : Store = record { bytes = c.loop-item.bytes; len = c.loop-item.len } in
    omega (arith, (put_in s _ _ _ _ size c.put_option_at-len.ensures.0 c.put_option_at-len.ensures.1).within)

pub loop-item-preserved : goal.loop-item-preserved
unfolding all_pushed
loop-item-preserved c =
    let size : length c.loop-item.bytes ≡ 256 = search rules in
    let s : Store = record { bytes = c.loop-item.bytes; len = c.loop-item.len } in
    let put = put_in s _ _ _ _ size c.put_option_at-len.ensures.0 c.put_option_at-len.ensures.1 in
    c.loop-item.invariant ∙ ap (all_pushed s) c.in-Some.ensures.steps ∙ ap (λ (x : Store). all_pushed x (options_left c.next.new.self)) (sym put.kept)
